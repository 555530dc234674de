-- The search, one cycle of eleven functions: the work left falls with each call. The loops' invariants: what is left of the alternatives comes to the
-- whole, and the index is that of the sorts. Assumes nothing.
use Rattle.std.proofs.Common.{◌+◌, ◌*◌, ◌-◌}
use Rattle.search_state.specs.Inner.Solving.{Indexes}
use Rattle.solver.proofs.Ways.{work}
use Rattle.solver.proofs.Structs.{TriesLeft, ReadingsLeft, OverloadsLeft}
use Rattle.solver.proofs.+search.Given as goal

abbrev pub decreases-attempt : goal.decreases-attempt
decreases-attempt l = work l.search.now.sizes.constraints l.next + 2

abbrev pub decreases-resume : goal.decreases-resume
decreases-resume l = work l.search.now.sizes.constraints l.next + 1

abbrev pub decreases-solve : goal.decreases-solve
decreases-solve l = (l.search.now.sizes.constraints - l.index) * 10000000000

abbrev pub decreases-solve_comprehension : goal.decreases-solve_comprehension
decreases-solve_comprehension l = work l.search.now.sizes.constraints l.next + 3

abbrev pub decreases-solve_constraint : goal.decreases-solve_constraint
decreases-solve_constraint l = (l.search.now.sizes.constraints - l.then) * 10000000000 + 5000000000

abbrev pub decreases-solve_disjunction : goal.decreases-solve_disjunction
decreases-solve_disjunction l = work l.search.now.sizes.constraints l.next + 3

abbrev pub decreases-solve_join : goal.decreases-solve_join
decreases-solve_join l = (l.search.now.sizes.constraints - l.then) * 10000000000 + 4620000000

abbrev pub decreases-solve_join_seq : goal.decreases-solve_join_seq
decreases-solve_join_seq l = (l.search.now.sizes.constraints - l.then) * 10000000000 + 1 + 70000 * (l.to - l.from)

abbrev pub decreases-solve_lit : goal.decreases-solve_lit
decreases-solve_lit l = work l.search.now.sizes.constraints l.next + 20

abbrev pub decreases-solve_widening : goal.decreases-solve_widening
decreases-solve_widening l = work l.search.now.sizes.constraints l.next + 20

abbrev pub decreases-tries : goal.decreases-tries
decreases-tries l = work l.search.now.sizes.constraints l.next + 3

abbrev pub invariant-solve_comprehension-loop-reading : goal.invariant-solve_comprehension-loop-reading
invariant-solve_comprehension-loop-reading l =
    record { left : ReadingsLeft l.initial.search l.at l.body l.node l.element l.next l.search l.reading-index l.found; indexed : Indexes l.search }

abbrev pub invariant-solve_disjunction-loop-i : goal.invariant-solve_disjunction-loop-i
invariant-solve_disjunction-loop-i l =
    record { left : OverloadsLeft l.initial.search l.at l.fn.expr l.sort l.disjuncts l.next l.search l.i l.found; indexed : Indexes l.search }

abbrev pub invariant-tries-loop-j : goal.invariant-tries-loop-j
invariant-tries-loop-j l =
    record { left : TriesLeft l.initial.search l.at l.t l.next l.search l.j; indexed : Indexes l.search }
