-- What stands at the places of checked lists, and what the variables there are bound to.
use Rattle.std.specs.Prelude.{ℕ}
use Rattle.unification.specs.Term.{Shape}
use Rattle.unification.specs.Nodes.{Binds, binds_of}
use Rattle.unification.specs.Checked.{graph_of}
use Rattle.infer_nodes.specs.declared.Places.{Places}
use Rattle.infer_nodes.specs.declared.Bindings.{Bindings}
use Rattle.infer_nodes.specs.declared.Row.{Row}
use Rattle.infer_nodes.specs.Inner.Parts.{entry_in, Says}

abbrev pub graph : Places → ℕ → Shape
graph P = graph_of P.sorts.now P.nodes.now P.lengths

abbrev pub bindings : Bindings → Binds
bindings B = binds_of B.binds.now B.places.lengths.variables

-- the row says what stands at a place
abbrev pub IsRow : Row → Shape → Type 0
IsRow r s = Says s (entry_in r.words.now r.entries) r.kind r.part r.start r.count
