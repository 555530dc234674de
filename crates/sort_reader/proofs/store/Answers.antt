-- What the steps made stays, or is given back. Assumes nothing.
use Rattle.std.proofs.Common.{arith, ap, ◌∙◌}
use Rattle.sort_text.specs.Reading.{words_left}
use Rattle.sort_reader.proofs.Entry as law
use Rattle.sort_reader.proofs.store.Goals as goal

pub give_back-requires : goal.give_back-requires
give_back-requires c =
    let k = c.requires.running.checked in
    (k.sorts, k.entries, omega (arith, k.long, law.as_long _ _ _ _ c.requires.running _ c.run.new.sorts.counts c.in_default.ensures.left))

pub returns-in_default-clause-stored : goal.returns-in_default-clause-stored
returns-in_default-clause-stored c =
    ap (λ us. words_left us _) c.give_back.ensures.given_back
    ∙ law.none_stored _ _ _ _ c.requires.running _ c.run.new.sorts.counts c.in_default.ensures.left

pub returns-clause-stored : goal.returns-clause-stored
returns-clause-stored c = law.some_stored _ _ _ _ c.requires.running _ _ _ c.in-Some.ensures.left
