-- Over one range after another. Assumes nothing.
use Rattle.std.proofs.Common.{◌≡◌, ◌∙◌, arith, length, refl, rules, length-take-le}
use Rattle.related_sorts.specs.Arena.{world}
use Rattle.related_sorts.proofs.Laws as law
use Rattle.related_sorts.proofs.Arena.push_functions.Goals as goal

pub returns-in_err-id-clause-lists : goal.returns-in_err-id-clause-lists
returns-in_err-id-clause-lists c =
    let long : length c.args.ranges.ids ≡ 3 = search rules in
    law.some_err _ _ _ (law.same_err _ _ c.from_residual.ensures)
    (law.over_full c.args.domain.now c.args.ranges long (world c.args.self.now) _ _ _ c.loop-id.invariant.2
    (omega (arith, c.loop-id-test.true, length-take-le c.args.ranges.count c.args.ranges.ids (omega (arith, c.args.ranges.few, long))))
    c.push.result _ _ refl c.push.ensures.pushed _ c.in_err-id.was)

pub loop-id-preserved : goal.loop-id-preserved
loop-id-preserved c =
    let long : length c.args.ranges.ids ≡ 3 = search rules in (
      (c.push.ensures.keeps.0 ∙ c.loop-id.invariant.0.0, c.push.ensures.keeps.1 ∙ c.loop-id.invariant.0.1, c.push.ensures.keeps.2 ∙ c.loop-id.invariant.0.2),
      c.in_ok-id.ensures.indexed,
      law.over_goes_on c.args.domain.now c.args.ranges long (world c.args.self.now) _ _ _ c.loop-id.invariant.2
          (omega (arith, c.loop-id-test.true, length-take-le c.args.ranges.count c.args.ranges.ids (omega (arith, c.args.ranges.few, long))))
          c.push.result _ _ refl c.push.ensures.pushed _ c.in_ok-id.was,
    )

pub returns-clause-lists : goal.returns-clause-lists
returns-clause-lists c =
    let long : length c.args.ranges.ids ≡ 3 = search rules in
    law.over_ends c.args.domain.now c.args.ranges long (world c.args.self.now) _ _ _ c.loop-id.invariant.2
    (omega (arith, c.loop-id-test.false, length-take-le c.args.ranges.count c.args.ranges.ids (omega (arith, c.args.ranges.few, long)))) _
