-- Each turn takes a line and prints it, and at the end all are printed. Assumes nothing.
use Rattle.std.proofs.Common.{ℕ, List, ◌<◌, ◌∙◌, ap, subst, arith, length}
use Rattle.std.proofs.lemmas.Result.{on_ok_weaker}
use Rattle.std.specs.Prelude.{Ok}
use Rattle.std.specs.Io.KnownBytes.{Appends}
use Rattle.line_input.specs.Taking.{held_lines}
use Rattle.list_memory.specs.declared.Stage.{Stage}
use Rattle.list_reader.specs.Taking.{stage_is, line_taken}
use Rattle.list_lines.specs.Lines.{unasked_text}
use Rattle.solve_lists.specs.Printed.{all_printed, line_printed, InputPrinted}
use Rattle.solve_lists.proofs.Runs as law
use Rattle.solve_lists.proofs.solve_all.Goals as goal

pub held_of-requires : goal.held_of-requires
held_of-requires g c =
    law.held_within _ _ _ _ _ c.next_line.ensures.line c.next_line.ensures.same_memory.line_long _ (c.in-Ok-Some.is ∙ ap Ok c.in-Ok-Some.field-0-is)

pub returns-in-Ok-None : goal.returns-in-Ok-None
returns-in-Ok-None g c =
    on_ok_weaker
    {P =
    Appends (g.W.Write.contents c.loop-number.to) (g.W.Write.contents c.write_end.new.to)
    (unasked_text (stage_is c.loop-number.list.words Stage.Reading))}
    {Q =
    0 < length c.args.buffer.now → 0 < length c.args.line.now
    → InputPrinted (g.R.Read.remaining c.args.reader.now) (g.W.Write.contents c.args.to.now) (g.W.Write.contents c.write_end.new.to)
    c.args.list.now.words (length c.args.line.now)} _
    (λ written b n.
    law.if_known _ _ (λ xs k.
    subst
    (λ (m : ℕ). Appends (g.W.Write.contents c.args.to.now) (g.W.Write.contents c.write_end.new.to) (all_printed 1 c.args.list.now.words (held_lines m xs)))
    c.loop-number.invariant.line_long
    (law.all_read xs _ _ _ _ _ _ _ _ _ _ c.next_line.ensures.line (omega (arith, b, c.loop-number.invariant.buffer_long))
    (omega (arith, n, c.loop-number.invariant.line_long)) (c.loop-number.invariant.solving xs k b n)
    (c.in-Ok-None.is ∙ ap Ok c.in-Ok-None.field-0-is) _ written)))
    c.write_end.ensures

pub loop-number-preserved : goal.loop-number-preserved
loop-number-preserved g c =
    record {
      buffer_long = c.next_line.ensures.same_memory.buffer_long ∙ c.loop-number.invariant.buffer_long;
      line_long = c.next_line.ensures.same_memory.line_long ∙ c.loop-number.invariant.line_long;
      solving =
          λ xs k b n.
          law.line_solved xs _ _ _ _ _ _ _ _ _ _ c.next_line.ensures.line (omega (arith, b, c.loop-number.invariant.buffer_long))
          (omega (arith, n, c.loop-number.invariant.line_long)) (c.loop-number.invariant.solving xs k b n) _
          (c.in-Ok-Some.is ∙ ap Ok c.in-Ok-Some.field-0-is) c.next_line.ensures.same_memory.line_long _ _
          (c.in_ok-write_line-in-Ok-Some.ensures.words ∙ ap (λ (l : List ℕ). (line_taken c.loop-number.list.words l).words) c.held_of.ensures)
          (subst
          (λ (l : List ℕ). Appends (g.W.Write.contents c.loop-number.to) (g.W.Write.contents c.write_line.new.to) (line_printed c.loop-number.number c.loop-number.list.words l))
          c.held_of.ensures c.in_ok-write_line-in-Ok-Some.ensures.written);
    }
