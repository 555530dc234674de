-- The sorts are the first 8,192 words, and the nodes end within the words. Assumes nothing.
use Rattle.std.proofs.Common.{arith, length-take-le, sym}
use Rattle.recorded_unify.proofs.ask.Goals as goal

pub slice_bounds-sort_unify-end : goal.slice_bounds-sort_unify-end
slice_bounds-sort_unify-end c = sym (length-take-le 8192 c.args.words.now (omega arith))
