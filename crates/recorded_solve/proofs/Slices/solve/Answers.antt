-- The parts of the words given end within them; the entry says what it leaves. Assumes nothing.
use Rattle.std.proofs.Common.{arith, ap, ◌∙◌}
use Rattle.recorded_solve.specs.Inner.Slices.{slice_start, call_held_with}
use Rattle.recorded_solve.specs.Inner.Outcome.{solved}
use Rattle.recorded_solve.proofs.Slices.solve.Goals as goal

pub slice_bounds-sort_solve-end-8 : goal.slice_bounds-sort_solve-end-8
slice_bounds-sort_solve-end-8 c = omega (arith, c.requires)

pub returns : goal.returns
unfolding slice_start solved
returns c =
    c.sort_solve.ensures
    ∙ ap (λ k. solved (call_held_with c.args.given.now k c.args.self.now.sorts c.args.self.now.nodes c.args.self.now.binds
    c.args.self.now.scratch c.args.self.now.index c.args.self.now.typing c.args.self.now.measure c.args.self.now.choices)) c.counts_of-counts.ensures
