-- What a search comes to from its first constraint on, and what is answered then, with what is handed out.
use Rattle.std.specs.Prelude.{List}
use Rattle.unification.specs.Nodes.{binds_of}
use Rattle.inference.specs.Constraints.{BaseName}
use Rattle.inference.specs.Search.{Out}
use Rattle.search_state.specs.declared.Search.{Search}
use Rattle.search_state.specs.Inner.Memory.{path_of, world_of, solve_from}
use Rattle.search_state.specs.Inner.Solving.{state_of}
use Rattle.solve_outputs.specs.declared.Handout.{Handout}
use Rattle.solve_outputs.specs.Inner.Begin.{nothing_taken}
use Rattle.solve_outputs.specs.Inner.Finish.{Settled, settled_by}
use Rattle.solve_outputs.specs.Inner.Handing.{problem_asked}

abbrev pub comes_to : Search → Out (Unit {0})
comes_to s =
    solve_from s.lists.now s.sizes 0
    (path_of s.lists.now s.sizes (binds_of s.binds.now s.lengths.variables) s.scratch.now nothing_taken)
    (world_of s.lists.now s.sizes s.sorts.now s.nodes.now s.scratch.now (state_of s))

abbrev pub settled_from : Search → List BaseName → Handout → Settled
settled_from s names h =
    settled_by (problem_asked s) names h.typing.now h.measure.now h.choices.now s.lengths (comes_to s)
