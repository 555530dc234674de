-- Refused with the first failing check, with the buffer as it was; else the text has room and is put from the start on.
-- Assumes nothing.
use Rattle.std.proofs.Common.{rules, refl, arith, ap, ◌∙◌}
use Rattle.resolved_sort.proofs.Testing.{handed_on}
use Rattle.sort_text.specs.Writing.{write_left}
use Rattle.text_out.proofs.Outs as put
use Rattle.sort_writer.proofs.Checks as law
use Rattle.sort_writer.proofs.write.Goals as goal

pub returns-in_err-counts : goal.returns-in_err-counts
returns-in_err-counts c =
    ap (write_left _) (handed_on _ _ c.from_residual.ensures.1) ∙ law.refused _ _ _ _ _ _ c.in_err-counts.ensures _ refl

pub invariant_of-sorts : goal.invariant_of-sorts
invariant_of-sorts c =
    let q = c.in_ok-counts.ensures in record { checked = (law.room_with _ _ _ _ _ _ q.2 refl _ q.0 q.1).checked }

pub put_text-requires : goal.put_text-requires
put_text-requires c = let q = c.in_ok-counts.ensures in (law.room_with _ _ _ _ _ _ q.2 refl _ q.0 q.1).below

pub returns : goal.returns
returns c =
    let q = c.in_ok-counts.ensures in
    law.answered_with _ _ _ _ _ _ q.2 refl _ q.0 q.1
    (put.left_whole _ _ (omega (arith, (law.room_with _ _ _ _ _ _ q.2 refl _ q.0 q.1).room)) c.put_text.ensures (search rules))
