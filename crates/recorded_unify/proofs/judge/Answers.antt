-- The first place where the bindings are not those left, as `position` finds it. Assumes nothing.
use Rattle.std.proofs.Common.{rules, tests, drop, sym, ap, ◌∙◌}
use Rattle.std.proofs.lemmas.Iterator.{YieldsList-from_slice, YieldsList-from_zip}
use Rattle.std.proofs.lemmas.Iterator.Search.{position_from_yields_List}
use Rattle.recorded_unify.proofs.Judging as law
use Rattle.recorded_unify.proofs.judge.Goals as goal

pub returns-then-got-recorded : goal.returns-then-got-recorded
returns-then-got-recorded c = law.differs _ _ _ _ c.if-got-recorded.true

pub returns-in-Some : goal.returns-in-Some
returns-in-Some c =
    ap law.told (sym c.in-Some.is)
    ∙ law.by_first _ _ _ _ c.if-got-recorded.false c.told-bindings c.told-words _
    (position_from_yields_List law.other c.position-other.new.self _ c.position-other.result
    c.position-other.ensures.ran
    (YieldsList-from_zip
    (YieldsList-from_slice c.args.bindings.now cc)
    (YieldsList-from_slice (drop 20992 c.args.words.now) (c.zip.ensures.second.0 ∙ law.all_left _ c.told-words)))
    (λ x b q k. search (rules, tests)))

pub returns-in-None : goal.returns-in-None
returns-in-None c =
    ap law.told (sym c.in-None.is)
    ∙ law.by_first _ _ _ _ c.if-got-recorded.false c.told-bindings c.told-words _
    (position_from_yields_List law.other c.position-other.new.self _ c.position-other.result
    c.position-other.ensures.ran
    (YieldsList-from_zip
    (YieldsList-from_slice c.args.bindings.now cc)
    (YieldsList-from_slice (drop 20992 c.args.words.now) (c.zip.ensures.second.0 ∙ law.all_left _ c.told-words)))
    (λ x b q k. search (rules, tests)))
