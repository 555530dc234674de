-- A line more, or the end. Assumes nothing.
use Rattle.std.proofs.Common.{refl, sym, ◌∙◌, ap, subst, arith}
use Rattle.std.specs.Prelude.{Ok}
use Rattle.line_input.specs.Lines.{LineRead}
use Rattle.line_input.proofs.Streams.{line_held}
use Rattle.replay.specs.Ending.{none_made}
use Rattle.replay.specs.Reading.{no_line, no_further_line, no_line_for_an_error, no_line_is_read}
use Rattle.replay.proofs.Replaying as law
use Rattle.replay.proofs.Ending as ending
use Rattle.replay.proofs.replay_all.Goals as goal

pub loop-init : goal.loop-init
loop-init g c =
    record {
      replaying = law.none_replayed _ _ _ _ _ _ _ (no_line _ _);
      reads_made = none_made _;
      turns = omega arith;
      most_is = refl;
      same_memory = record { buffer = refl; line = refl; buffer_long = refl; line_long = refl };
    }

pub held_of-requires : goal.held_of-requires
held_of-requires g c = omega (
  arith,
  line_held _ _ _ _ _ c.next_line.ensures.line _ (c.in-Ok-Some.is ∙ ap Ok c.in-Ok-Some.field-0-is),
  c.next_line.ensures.same_memory.line_long,
)

pub returns-in-Ok-None-clause-same_memory : goal.returns-in-Ok-None-clause-same_memory
returns-in-Ok-None-clause-same_memory g c =
    let p = law.same_memory_then _ _ _ c.loop.invariant.same_memory c.next_line.ensures.same_memory in
    record { buffer = p.buffer; line = p.line; buffer_long = p.buffer_long; line_long = p.line_long }

pub returns-in-Ok-None-clause-replayed : goal.returns-in-Ok-None-clause-replayed
returns-in-Ok-None-clause-replayed g c =
    let none = c.in-Ok-None.is ∙ ap Ok c.in-Ok-None.field-0-is in
    let m = sym c.loop.invariant.same_memory.line_long in
    law.on_ok _
    (law.all_replayed _ _ _ _ _ _ _ _ _ _ _ _ c.loop.invariant.replaying _ _ _ _ _ _ _ _ _ _ c.is_complete.ensures
    (ending.ends_where_none_came _ _ _ _ _ _ _ _ c.loop.invariant.reads_made _ c.next_line.ensures.line none _)
    (λ xs k taken s.
    let i = law.known_input_is _ _ xs k in
    law.all_lines _ _ _ _ _ c.next_line.ensures.line (omega (arith, i.room, c.loop.invariant.same_memory.buffer_long))
    (omega (arith, i.some, m)) _ (omega (arith, m, c.loop.invariant.most_is)) xs taken s none)
    (λ taken n l. no_further_line _ _ _ _ l (subst (LineRead _ _ _ _ _ _ _) none c.next_line.ensures.line)))
    c.finish.ensures

pub returns-in-Err-clause-same_memory : goal.returns-in-Err-clause-same_memory
returns-in-Err-clause-same_memory g c = law.same_memory_then _ _ _ c.loop.invariant.same_memory c.next_line.ensures.same_memory

pub returns-in-Err-clause-replayed : goal.returns-in-Err-clause-replayed
returns-in-Err-clause-replayed g c =
    law.on_ok _
    (law.all_replayed _ _ _ _ _ _ _ _ _ _ _ _ c.loop.invariant.replaying _ _ _ _ _ _ _ _ _ _ c.is_complete-in-Err.ensures
    (ending.ends_at_an_error _ _ _ _ _ _ _ _ c.loop.invariant.reads_made _ c.next_line.ensures.line _ c.in-Err.is _)
    (λ xs k taken s. law.first_lines _ _ _ _ _ s)
    (λ taken n l. no_line_for_an_error _ _ _ _ _ l (subst (LineRead _ _ _ _ _ _ _) c.in-Err.is c.next_line.ensures.line)))
    c.finish-in-Err.ensures

pub loop-preserved : goal.loop-preserved
loop-preserved g c =
    let some = c.in-Ok-Some.is ∙ ap Ok c.in-Ok-Some.field-0-is in
    let m = sym c.loop.invariant.same_memory.line_long in
    record {
      replaying =
          law.one_replayed _ _ _ _ _ _ _ _ _ _ _ _ c.loop.invariant.replaying _ _ _ _ _ _ _ c.take_line.ensures.held
          c.in_ok-tally-in-Ok-Some.ensures.counted c.in_ok-tally-in-Ok-Some.ensures.said
          (λ xs k taken s.
          let i = law.known_input_is _ _ xs k in
          law.one_line_more _ _ _ _ _ c.next_line.ensures.line (omega (arith, i.room, c.loop.invariant.same_memory.buffer_long))
          (omega (arith, i.some, m)) _ (omega (arith, m, c.loop.invariant.most_is)) xs taken s _ some
          _ c.held_of.ensures)
          (λ taken l. law.one_call_more _ _ _ _ _ _ _ l _ c.next_line.ensures.line _ some _ c.held_of.ensures);
      reads_made = ending.reads_made_after_a_line _ _ _ _ _ _ _ _ c.loop.invariant.reads_made _ c.next_line.ensures.line _ some;
      turns = omega (arith, c.loop-test.true);
      most_is = c.loop.invariant.most_is;
      same_memory = law.same_memory_then _ _ _ c.loop.invariant.same_memory c.next_line.ensures.same_memory;
    }

pub returns-clause-same_memory : goal.returns-clause-same_memory
returns-clause-same_memory g c = c.loop.invariant.same_memory

pub returns-clause-replayed : goal.returns-clause-replayed
returns-clause-replayed g c =
    law.on_ok _
    (law.all_replayed _ _ _ _ _ _ _ _ _ _ _ _ c.loop.invariant.replaying _ _ _ _ _ _ _ _ _ _ c.is_complete-2.ensures
    (ending.ends_where_no_line_is_left _ _ _ _ c.loop.invariant.reads_made (omega (arith, c.loop.invariant.turns, c.loop-test.false)))
    (λ xs k taken s. law.first_lines _ _ _ _ _ s)
    (λ taken n l. no_line_is_read _ _ l (omega (arith, n, c.loop.invariant.turns, c.loop-test.false))))
    c.finish-2.ensures
