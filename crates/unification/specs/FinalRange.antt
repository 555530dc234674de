-- "A free variable has no such list, nor has a function whose final range is free": the places that these words mean,
-- through bindings. The range of a function of n arguments stands after them.
use Rattle.std.specs.Prelude.{◌≡◌, List, ℕ, get_or}
use Rattle.std.proofs.Math.Option.{none, some}
use Rattle.unification.specs.Term.{function_head, Shape, variable, over}
use Rattle.unification.specs.Nodes.{Binds, binding}

pub data FreeEnd (shape : ℕ → Shape) (B : Binds) : ℕ → Type 0 where
  free : (p v : ℕ) → shape p ≡ variable v → binding B v ≡ none → FreeEnd shape B p
  bound_to : (p v q : ℕ) → shape p ≡ variable v → binding B v ≡ some q → FreeEnd shape B q → FreeEnd shape B p
  range : (p n : ℕ) (ps : List ℕ) → shape p ≡ over (function_head n) ps → FreeEnd shape B (get_or ps n 0)
      → FreeEnd shape B p
