-- A line that is no sort stores nothing; the steps of one that is are stored; what it was recognised as is found by search. Assumes nothing.
use Rattle.std.proofs.Common.{rules, arith, ◌≡◌, length, take, length-take, sym, ap, ◌∙◌}
use Rattle.std.specs.Prelude.{Ok, Err}
use Rattle.sort_text.specs.Reading.{read_at}
use Rattle.sort_recogniser.specs.Inner.Cleared.{line_ended}
use Rattle.sort_reader.proofs.Entry as law
use Rattle.sort_reader.proofs.read_line.Goals as goal

pub returns-in_err-count-clause-read : goal.returns-in_err-count-clause-read
returns-in_err-count-clause-read c =
    let is : c.recognise.result ≡ Err c.in_err-count.field-0.0 = search rules in
    ap (read_at _ _) (law.handed _ _ c.from_residual.ensures.1)
    ∙ law.not_a_sort _ _ _ _ c.requires.passes _ _ c.recognise.ensures.says _ (ap (line_ended _) is)

pub slice_bounds-steps-end : goal.slice_bounds-steps-end
slice_bounds-steps-end c =
    let is : c.recognise.result ≡ Ok c.in_ok-count.count = search rules in
    omega (arith, law.few_steps _ _ _ _ c.requires.passes _ _ c.recognise.ensures.says _ _ (ap (line_ended _) is), c.recognise.auto.steps)

pub slice_bounds-store-end : goal.slice_bounds-store-end
slice_bounds-store-end c =
    let is : c.recognise.result ≡ Ok c.in_ok-count.count = search rules in
    let f : length (take c.in_ok-count.count c.recognise.new.steps) ≡ c.in_ok-count.count =
    omega (
      arith,
      length-take c.in_ok-count.count c.recognise.new.steps,
      law.few_steps _ _ _ _ c.requires.passes _ _ c.recognise.ensures.says _ _ (ap (line_ended _) is),
      c.recognise.auto.steps,
    ) in
    sym f

pub store-requires-clause-running : goal.store-requires-clause-running
store-requires-clause-running c =
    let is : c.recognise.result ≡ Ok c.in_ok-count.count = search rules in
    law.runs _ _ _ _ c.requires.passes _ _ c.recognise.ensures.says _ _ (ap (line_ended _) is)

pub returns-in_default-clause-read : goal.returns-in_default-clause-read
returns-in_default-clause-read c =
    let is : c.recognise.result ≡ Ok c.in_ok-count.count = search rules in
    c.in_default.ensures.stored ∙ law.line_stored _ _ _ _ c.requires.passes _ _ c.recognise.ensures.says _ _ (ap (line_ended _) is)

pub returns-clause-read : goal.returns-clause-read
returns-clause-read c =
    let is : c.recognise.result ≡ Ok c.in_ok-count.count = search rules in
    c.in-Some.ensures.stored ∙ law.line_stored _ _ _ _ c.requires.passes _ _ c.recognise.ensures.says _ _ (ap (line_ended _) is)
