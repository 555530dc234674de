-- What only contracts of inner functions cite, beside `specs/Resolve.antt`.
use Rattle.std.specs.Prelude.{List, ℕ, Some, None}
use Rattle.resolved_sort.specs.declared.Counts.{Counts}
use Rattle.resolved_sort.specs.Entries.{Joined}
use Rattle.resolved_sort.specs.Entries.{At, Nothing as NotFound}
use Rattle.unification.specs.declared.Lengths.{Lengths}
use Rattle.unification.specs.Default.{Default}
use Rattle.unification.specs.Term.{Term}
use Rattle.unification.specs.Nodes.{binds_of}
use Rattle.unification.specs.Checked.{graph_of}
use Rattle.unification.specs.Resolve.{value}

-- what a free variable answers
abbrev pub free_sort : Counts → Default → Joined
free_sort c (Some d) = At d c
free_sort c None = NotFound c

abbrev pub value_in : List ℕ → List ℕ → List ℕ → Lengths → ℕ → Term
value_in ws ns bs k p = value (graph_of ws ns k) (binds_of bs k.variables) p
