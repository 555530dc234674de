-- Each slice by its copy. Assumes nothing.
use Rattle.std.proofs.Common.{arith}
use Rattle.problem_words.proofs.Wholes as whole
use Rattle.recorded_solve.proofs.Asking as law
use Rattle.recorded_solve.proofs.Slices.keep.Goals as goal

pub returns : goal.returns
returns c =
    law.all_kept c.args.left.now c.args.self.now.sorts c.args.self.now.nodes c.args.self.now.binds c.args.self.now.scratch c.args.self.now.index c.args.self.now.typing c.args.self.now.measure c.args.self.now.choices
    c.copy.new.to c.copy-2.new.to c.copy-3.new.to c.copy-4.new.to c.copy-5.new.to c.copy-6.new.to c.copy-7.new.to c.copy-8.new.to
    (whole.copied_in 0 8192 _ c.args.self.now.sorts _ (omega arith) c.copy.ensures)
    (whole.copied_in 8192 12288 _ c.args.self.now.nodes _ (omega arith) c.copy-2.ensures)
    (whole.copied_in 20480 512 _ c.args.self.now.binds _ (omega arith) c.copy-3.ensures)
    (whole.copied_in 29952 4096 _ c.args.self.now.scratch _ (omega arith) c.copy-4.ensures)
    (whole.copied_in 34048 2048 _ c.args.self.now.index _ (omega arith) c.copy-5.ensures)
    (whole.copied_in 27648 1536 _ c.args.self.now.typing _ (omega arith) c.copy-6.ensures)
    (whole.copied_in 29184 256 _ c.args.self.now.measure _ (omega arith) c.copy-7.ensures)
    (whole.copied_in 29440 512 _ c.args.self.now.choices _ (omega arith) c.copy-8.ensures)
