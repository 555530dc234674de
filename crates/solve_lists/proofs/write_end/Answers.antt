-- What the end prints stands at the front of the buffer. Assumes nothing.
use Rattle.std.proofs.Common.{refl, sym}
use Rattle.std.proofs.Math.Seq.{length-take-le}
use Rattle.std.proofs.lemmas.Result.{on_ok_weaker}
use Rattle.solve_lists.proofs.Runs as law
use Rattle.solve_lists.proofs.write_end.Goals as goal

pub slice_bounds-write-end : goal.slice_bounds-write-end
slice_bounds-write-end g c = sym (length-take-le _ _ (law.end_within _ _ _ refl c.requires c.finish.ensures))

pub returns : goal.returns
returns g c = on_ok_weaker _ (law.end_written _ _ _ refl c.requires c.finish.ensures _ _) c.write.ensures
