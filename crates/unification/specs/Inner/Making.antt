-- What only contracts of inner functions cite, beside `specs/Making.antt`.
use Rattle.std.specs.Prelude.{List, ℕ}
use Rattle.unification.specs.declared.Lengths.{Lengths}
use Rattle.unification.specs.Making.{Lent}

abbrev pub lent : List ℕ → List ℕ → Lengths → Lent
lent ws ns k = record { sorts = ws; nodes = ns; lengths = k }
