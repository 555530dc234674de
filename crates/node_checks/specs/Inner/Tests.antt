-- One argument of a run is a place among n sorts and i nodes.
use Rattle.std.specs.Prelude.{Bool, true, false, ◌&&◌, List, [], ◌∷◌, ℕ, ◌+◌}
use Rattle.std.proofs.Math.Option.{Option, none, some}
use Rattle.unification.specs.Nodes.{node_entry_at, is_place, Binds}

abbrev pub arg_placed : List ℕ → ℕ → ℕ → ℕ → ℕ → Bool
arg_placed ns n i s j = is_place n i (node_entry_at ns (s + j))

-- Nothing is bound: each binding is free.
abbrev pub is_free : Option ℕ → Bool
is_free none = true
is_free (some q) = false

unfoldable pub nothing_bound : Binds → Bool
nothing_bound [] = true
nothing_bound (b ∷ B) = is_free b && nothing_bound B
