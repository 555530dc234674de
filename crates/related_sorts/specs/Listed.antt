-- Places that were listed.
use Rattle.std.specs.Prelude.{List, [], ◌∷◌, ℕ, take}
use Rattle.unification.specs.declared.InferSortId.{InferSortId}
use Rattle.related_sorts.specs.declared.listing.Listed.{Listed}

abbrev pub numbers : List InferSortId → List ℕ
numbers [] = []
numbers (p ∷ ps) = p.0 ∷ numbers ps

-- those that count
abbrev pub places : Listed → List ℕ
places l = take l.count (numbers l.ids)
