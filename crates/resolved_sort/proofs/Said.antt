-- The runs of functions: each entry is a sort of the list. Assumes nothing.
use mathlib.Core.Path.{◌≡◌, refl, ap, subst}
use mathlib.Core.List.{List, ◌∷◌}
use Prim.Native.Nat.{ℕ, zero, suc, ◌+◌, ◌-◌, ◌<◌}
use native.Mathlib.Omega.{arith}
use Rattle.resolved_sort.specs.Storage.{entry_at, entries_of}
use Rattle.resolved_sort.proofs.RowTrees.{AllBelow}

-- the entries of a run below a number
pub entry_below : (ws : List ℕ) (l s c : ℕ) → AllBelow l (entries_of ws s c) → (j : ℕ) → j < c → entry_at ws (s + j) < l
unfolding AllBelow entries_of
entry_below ws l s zero h j i = absurd (omega arith)
entry_below ws l s (suc c) h zero i = subst (λ (x : ℕ). entry_at ws x < l) (omega arith) h.0
entry_below ws l s (suc c) h (suc j) i = subst (λ (x : ℕ). entry_at ws x < l) (omega arith) (entry_below ws l (s + 1) c h.1 j (omega arith))

-- a run with an entry begins with it
pub first_entry : (ws : List ℕ) (s c : ℕ) → (c ≡ 0 → ⊥) → entries_of ws s c ≡ entry_at ws s ∷ entries_of ws (s + 1) (c - 1)
unfolding entries_of
first_entry ws s zero h = absurd (h refl)
first_entry ws s (suc c) h = let z : c ≡ suc c - 1 = omega arith in ap (λ (j : ℕ). entry_at ws s ∷ entries_of ws (s + 1) j) z
