-- A row whose expression is marked is a second one for it. Assumes nothing.
use Rattle.std.proofs.Common.{arith, sym, subst, ◌+◌, ◌∙◌, List, Bool}
use Rattle.solve_checks.proofs.Fresh as fresh
use Rattle.solve_checks.proofs.no_two.Goals as goal
use Rattle.solve_checks.proofs.no_two.Goals.{in-Some+else-not-mark, in_default}

pub returns-then-not-mark : goal.returns-then-not-mark
returns-then-not-mark g c = λ f h u.
    let l = c.loop-i in
    fresh.expr_twice f c.args.count l.seen l.i (l.invariant f h) c.loop-i-test.true c.in-Some.expr
    (sym c.in-Some.is ∙ h _ _ c.expr_of.ensures) c.mark.new.seen c.mark.result c.mark.ensures u c.if-not-mark.true

pub loop-i-preserved : goal.loop-i-preserved
loop-i-preserved g c = λ f h.
    let l = c.loop-i in
    elim c.match-expr_of.branch [
      | in-Some+else-not-mark w ↦
          subst (λ (s : List Bool). fresh.ExprsMarked f c.args.count s (l.i + 1)) (sym w.seen-is) (fresh.expr_once f c.args.count l.seen l.i (l.invariant f h) c.loop-i-test.true w.in-Some.expr
          (sym w.in-Some.is ∙ h _ _ c.expr_of.ensures) w.mark.new.seen w.mark.result w.mark.ensures w.if-not-mark.false)
      | in_default w ↦
          subst (λ (s : List Bool). fresh.ExprsMarked f c.args.count s (l.i + 1)) (sym w.seen-is) (fresh.none_to_mark f c.args.count l.seen l.i (l.invariant f h) c.loop-i-test.true (sym w.in_default.is ∙ h _ _ c.expr_of.ensures))
    ]

pub returns : goal.returns
returns g c = λ f h u.
    fresh.exprs_differ f c.args.count c.loop-i.seen c.loop-i.i (c.loop-i.invariant f h) u (omega arith)
