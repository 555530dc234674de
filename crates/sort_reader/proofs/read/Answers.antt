-- Refused with the first failing check, then 20, with the index untouched; else the line's sort is stored, and the index, as long as it was
-- lent, is zero. What the line was recognised as is found by search, so that it is asked of any code of this meaning. Assumes nothing.
use Rattle.std.proofs.Common.{rules, arith, ◌≡◌, length, take, length-take, refl, sym, ap, ◌∙◌}
use Rattle.std.specs.Prelude.{Ok, Err}
use Rattle.sort_text.specs.Reading.{read_left}
use Rattle.sort_recogniser.specs.Inner.Cleared.{line_ended}
use Rattle.sort_reader.proofs.Entry as law
use Rattle.sort_reader.proofs.read.Goals as goal

pub returns-in_err-given : goal.returns-in_err-given
returns-in_err-given c =
    ap (read_left _ _) (law.handed _ _ c.from_residual.ensures.1) ∙ law.refused _ _ _ _ _ _ c.in_err-given.ensures _ refl

pub recognise-requires : goal.recognise-requires
recognise-requires c =
    let q = c.in_ok-given.ensures in (law.passes_with _ _ _ _ _ _ q.2 refl _ q.0 q.1).short

pub returns-in_err-step_count : goal.returns-in_err-step_count
returns-in_err-step_count c =
    let q = c.in_ok-given.ensures in
    let is : c.recognise.result ≡ Err c.in_err-step_count.field-0.0 = search rules in
    ap (read_left _ _) (law.handed _ _ c.from_residual-in_err-step_count.ensures.1)
    ∙ law.not_a_sort_left _ _ _ _ _ _ q.2 refl _ q.0 q.1 _ _
    (law.not_a_sort _ _ _ _ (law.passes_with _ _ _ _ _ _ q.2 refl _ q.0 q.1) _ _ c.recognise.ensures.says _ (ap (line_ended _) is))

pub fill_index-requires : goal.fill_index-requires
fill_index-requires c =
    let q = c.in_ok-given.ensures in
    ((law.passes_with _ _ _ _ _ _ q.2 refl _ q.0 q.1).checked.sorts, law.index_fits _ _ _ _ _ _ q.2 refl)

pub slice_bounds-steps-end : goal.slice_bounds-steps-end
slice_bounds-steps-end c =
    let q = c.in_ok-given.ensures in
    let is : c.recognise.result ≡ Ok c.in_ok-step_count.step_count = search rules in
    omega (
      arith,
      law.few_steps _ _ _ _ (law.passes_with _ _ _ _ _ _ q.2 refl _ q.0 q.1) _ _ c.recognise.ensures.says _ _ (ap (line_ended _) is),
      c.recognise.auto.steps,
    )

pub slice_bounds-store-end : goal.slice_bounds-store-end
slice_bounds-store-end c =
    let q = c.in_ok-given.ensures in
    let is : c.recognise.result ≡ Ok c.in_ok-step_count.step_count = search rules in
    let f : length (take c.in_ok-step_count.step_count c.recognise.new.steps) ≡ c.in_ok-step_count.step_count =
    omega (
      arith,
      length-take c.in_ok-step_count.step_count c.recognise.new.steps,
      law.few_steps _ _ _ _ (law.passes_with _ _ _ _ _ _ q.2 refl _ q.0 q.1) _ _ c.recognise.ensures.says _ _ (ap (line_ended _) is),
      c.recognise.auto.steps,
    ) in
    sym f

pub store-stored-requires-clause-running : goal.store-stored-requires-clause-running
store-stored-requires-clause-running c =
    let q = c.in_ok-given.ensures in
    let is : c.recognise.result ≡ Ok c.in_ok-step_count.step_count = search rules in
    law.runs _ _ _ _ (law.passes_with _ _ _ _ _ _ q.2 refl _ q.0 q.1) _ _ c.recognise.ensures.says _ _ (ap (line_ended _) is)

pub returns-in_default : goal.returns-in_default
returns-in_default c =
    let q = c.in_ok-given.ensures in
    let is : c.recognise.result ≡ Ok c.in_ok-step_count.step_count = search rules in
    law.no_room_left _ _ _ _ _ _ q.2 refl _ q.0 q.1 _ _ _ c.clear_index.ensures _
    (c.in_default.ensures.stored
    ∙ law.line_stored _ _ _ _ (law.passes_with _ _ _ _ _ _ q.2 refl _ q.0 q.1) _ _ c.recognise.ensures.says _ _ (ap (line_ended _) is))
    (search rules) (omega arith)

pub returns : goal.returns
returns c =
    let q = c.in_ok-given.ensures in
    let is : c.recognise.result ≡ Ok c.in_ok-step_count.step_count = search rules in
    law.sort_left _ _ _ _ _ _ q.2 refl _ q.0 q.1 _ _ _ c.clear_index.ensures _ _ _
    (c.in-Some.ensures.stored
    ∙ law.line_stored _ _ _ _ (law.passes_with _ _ _ _ _ _ q.2 refl _ q.0 q.1) _ _ c.recognise.ensures.says _ _ (ap (line_ended _) is))
    (search rules) (omega arith)
