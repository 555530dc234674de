-- What only contracts of inner functions cite, beside `specs/Term.antt`.
use Rattle.std.specs.Prelude.{List, [], ℕ}
use Rattle.unification.specs.Term.{Head, stray_head, Shape, variable, over}

-- the head and the parts; a variable has no parts, and for a head one of its own
abbrev pub head_of : Shape → Head
head_of (variable v) = stray_head v
head_of (over h ps) = h

abbrev pub parts_of : Shape → List ℕ
parts_of (variable v) = []
parts_of (over h ps) = ps
