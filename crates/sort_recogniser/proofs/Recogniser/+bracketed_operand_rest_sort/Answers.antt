-- Each way by its law: what a callee ensures, what a test says and what a match binds are the law's premises. Assumes nothing.
use Rattle.std.proofs.Common.{arith, refl, ap, ◌∙◌, Some}
use Rattle.std.proofs.lemmas.Result.{err_from_is_err_and}
use Rattle.sort_lexer.specs.declared.Token.TheVariants.{Word, Hash, Arrow}
use Rattle.sort_recogniser.proofs.States as way
use Rattle.sort_recogniser.proofs.Recogniser.+bracketed_operand_rest_sort.Goals as goal

pub bracketed-returns-in_err-expect-clause-says : goal.bracketed-returns-in_err-expect-clause-says
bracketed-returns-in_err-expect-clause-says t c =
    let p = err_from_is_err_and c.from_residual.result c.from_residual.ensures.1 in
    rw (p.1, p.2) (way.open_refuses c.args.self.now c.args.self.now.room c.args.op c.expect.new.self c.in_err-expect.ensures.same_steps _ c.in_err-expect.ensures.met)

pub bracketed-sort-requires : goal.bracketed-sort-requires
bracketed-sort-requires t c =
    let x = way.room_inside c.args.self.now c.args.self.now.room c.args.op c.expect.new.self c.in_ok-expect.ensures.same_steps c.in_ok-expect.ensures.met in
    (omega (arith, x.0.0, x.1, x.2), tt)

pub bracketed-returns-in_err-sort-clause-says : goal.bracketed-returns-in_err-sort-clause-says
bracketed-returns-in_err-sort-clause-says t c =
    let p = err_from_is_err_and c.from_residual-in_err-sort.result c.from_residual-in_err-sort.ensures.1 in
    rw (p.1, p.2) (way.inside_refuses c.args.self.now c.args.self.now.room c.args.op c.expect.new.self c.in_ok-expect.ensures.same_steps c.in_ok-expect.ensures.met
    c.sort.new.self _ c.in_err-sort.ensures.says _ refl)

pub bracketed-returns-in_err-expect-2-clause-says : goal.bracketed-returns-in_err-expect-2-clause-says
bracketed-returns-in_err-expect-2-clause-says t c =
    let p = err_from_is_err_and c.from_residual-in_err-expect-2.result c.from_residual-in_err-expect-2.ensures.1 in
    rw (p.1, p.2) (way.close_refuses c.args.self.now c.args.self.now.room c.args.op c.expect.new.self c.in_ok-expect.ensures.same_steps c.in_ok-expect.ensures.met
    c.sort.new.self c.in_ok-sort.ensures.says c.expect-2.new.self c.in_err-expect-2.ensures.same_steps _ c.in_err-expect-2.ensures.met)

pub bracketed-push-requires : goal.bracketed-push-requires
bracketed-push-requires t c =
    way.room_closed c.args.self.now c.args.self.now.room c.args.op c.expect.new.self c.in_ok-expect.ensures.same_steps c.in_ok-expect.ensures.met
    c.sort.new.self c.in_ok-sort.ensures.says c.expect-2.new.self c.in_ok-expect-2.ensures.same_steps c.in_ok-expect-2.ensures.met

pub bracketed-returns-clause-says : goal.bracketed-returns-clause-says
bracketed-returns-clause-says t c =
    way.closes c.args.self.now c.args.self.now.room c.args.op c.expect.new.self c.in_ok-expect.ensures.same_steps c.in_ok-expect.ensures.met
    c.sort.new.self c.in_ok-sort.ensures.says c.expect-2.new.self c.in_ok-expect-2.ensures.same_steps c.in_ok-expect-2.ensures.met _ c.step_of_op.ensures c.push.new.self
    (record { reader = c.push.ensures.same_reader; steps = c.push.ensures.pushed; count = c.push.ensures.counted })

pub operand-push-requires : goal.operand-push-requires
operand-push-requires t c =
    let x = way.further c.args.self.now c.args.self.now.room _ c.next_token-found.ensures Word c.in-Word.is (omega arith) in
    let y = way.room_after c.args.self.now c.args.self.now.room _ c.next_token-found.ensures Word c.in-Word.is in
    omega (arith, x, y.0, c.args.self.now.room.1)

pub operand-bracketed-requires : goal.operand-bracketed-requires
operand-bracketed-requires t c =
    let x = way.further c.args.self.now c.args.self.now.room _ c.next_token-found.ensures Word c.in-Word.is (omega arith) in
    let y = way.room_after c.args.self.now c.args.self.now.room _ c.next_token-found.ensures Word c.in-Word.is in
    (omega (arith, x, y.0), tt)

pub operand-returns-in-Some-Basic-clause-says : goal.operand-returns-in-Some-Basic-clause-says
operand-returns-in-Some-Basic-clause-says t c =
    way.takes_sort c.args.self.now c.args.self.now.room _ c.next_token-found.ensures c.in-Word.is c.word.result
    c.word.ensures _ (c.in-Some-Basic.is ∙ ap Some c.in-Some-Basic.field-0-is) _ c.step_of_sort.ensures (way.room_after c.args.self.now c.args.self.now.room _ c.next_token-found.ensures Word c.in-Word.is) c.push.new.self
    (record { reader = c.push.ensures.same_reader; steps = c.push.ensures.pushed; count = c.push.ensures.counted })

pub operand-returns-in-Some-Container-clause-says : goal.operand-returns-in-Some-Container-clause-says
operand-returns-in-Some-Container-clause-says t c =
    way.takes_container c.args.self.now c.args.self.now.room _ c.next_token-found.ensures c.in-Word.is c.word.result
    c.word.ensures _ (c.in-Some-Container.is ∙ ap Some c.in-Some-Container.field-0-is) _ c.bracketed.new.self _ c.bracketed.ensures.says

pub operand-returns-in-None-clause-says : goal.operand-returns-in-None-clause-says
operand-returns-in-None-clause-says t c =
    way.word_refuses c.args.self.now c.args.self.now.room _ c.next_token-found.ensures c.in-Word.is c.word.result
    c.word.ensures c.in-None.is

pub operand-returns-in_default : goal.operand-returns-in_default
operand-returns-in_default t c =
    record { same_reference = refl; says = way.operand_refuses c.args.self.now c.args.self.now.room _ c.next_token-found.ensures c.in_default.not-Word }

pub rest-operand-requires : goal.rest-operand-requires
rest-operand-requires t c =
    let x = way.further c.args.self.now c.args.self.now.room _ c.next_token-found.ensures Hash c.in-Hash.is (omega arith) in
    let y = way.room_after c.args.self.now c.args.self.now.room _ c.next_token-found.ensures Hash c.in-Hash.is in
    (omega (arith, x, y.0), tt)

pub rest-returns-in_err-operand-in-Hash-clause-says :
    goal.rest-returns-in_err-operand-in-Hash-clause-says
rest-returns-in_err-operand-in-Hash-clause-says t c =
    let p = err_from_is_err_and c.from_residual.result c.from_residual.ensures.1 in
    rw (p.1, p.2) (way.next_refuses c.args.self.now c.args.self.now.room _ c.next_token-found.ensures c.args.k c.in-Hash.is c.if-k-lt-MOST_ARGUMENTS.true _ c.operand.new.self _ c.in_err-operand-in-Hash.ensures.says _ refl)

pub rest-rest-requires : goal.rest-rest-requires
rest-rest-requires t c =
    let x = way.room_next c.args.self.now c.args.self.now.room _ c.next_token-found.ensures c.args.k c.in-Hash.is c.if-k-lt-MOST_ARGUMENTS.true _ c.operand.new.self _ c.in_ok-operand-in-Hash.ensures.says _ refl in
    (omega (arith, x.0.0, x.1, x.2), (omega arith, omega (arith, c.if-k-lt-MOST_ARGUMENTS.true)))

pub rest-sort-requires : goal.rest-sort-requires
rest-sort-requires t c =
    let x = way.further c.args.self.now c.args.self.now.room _ c.next_token-found.ensures Arrow c.in-Arrow.is (omega arith) in
    let y = way.room_after c.args.self.now c.args.self.now.room _ c.next_token-found.ensures Arrow c.in-Arrow.is in
    (omega (arith, x, y.0), tt)

pub rest-returns-in_err-sort-in-Arrow-clause-says :
    goal.rest-returns-in_err-sort-in-Arrow-clause-says
rest-returns-in_err-sort-in-Arrow-clause-says t c =
    let p = err_from_is_err_and c.from_residual-in_err-sort-in-Arrow.result c.from_residual-in_err-sort-in-Arrow.ensures.1 in
    rw (p.1, p.2) (way.range_refuses c.args.self.now c.args.self.now.room _ c.next_token-found.ensures c.args.k c.in-Arrow.is _ c.sort.new.self _ c.in_err-sort-in-Arrow.ensures.says _ refl)

pub rest-push-requires : goal.rest-push-requires
rest-push-requires t c =
    way.range_has_room c.args.self.now c.args.self.now.room _ c.next_token-found.ensures c.args.k c.in-Arrow.is _ c.sort.new.self _ c.in_ok-sort-in-Arrow.ensures.says _ refl

pub rest-returns-in_ok-operand-in-Hash-clause-says :
    goal.rest-returns-in_ok-operand-in-Hash-clause-says
rest-returns-in_ok-operand-in-Hash-clause-says t c =
    way.next_goes_on c.args.self.now c.args.self.now.room _ c.next_token-found.ensures c.args.k c.in-Hash.is c.if-k-lt-MOST_ARGUMENTS.true _ c.operand.new.self _ c.in_ok-operand-in-Hash.ensures.says _ refl c.rest.new.self _ c.rest.ensures.says

pub rest-returns-in_ok-sort-in-Arrow-clause-says :
    goal.rest-returns-in_ok-sort-in-Arrow-clause-says
rest-returns-in_ok-sort-in-Arrow-clause-says t c =
    way.range_goes_on c.args.self.now c.args.self.now.room _ c.next_token-found.ensures c.args.k c.in-Arrow.is _ c.sort.new.self _ c.in_ok-sort-in-Arrow.ensures.says _ refl _ refl c.push.new.self
    (record { reader = c.push.ensures.same_reader; steps = c.push.ensures.pushed; count = c.push.ensures.counted })

pub rest-returns-in-Hash-2-clause-says : goal.rest-returns-in-Hash-2-clause-says
rest-returns-in-Hash-2-clause-says t c =
    way.no_more c.args.self.now c.args.self.now.room _ c.next_token-found.ensures c.args.k c.in-Hash.is (omega arith)

pub rest-returns-in_default-clause-says : goal.rest-returns-in_default-clause-says
rest-returns-in_default-clause-says t c =
    way.one_alone c.args.self.now c.args.self.now.room _ c.next_token-found.ensures c.args.k c.in_default.not-Hash c.in_default.not-Arrow c.if-k-eq1.true

pub rest-returns-in_default-2-clause-says : goal.rest-returns-in_default-2-clause-says
rest-returns-in_default-2-clause-says t c =
    way.several_alone c.args.self.now c.args.self.now.room _ c.next_token-found.ensures c.args.k c.in_default.not-Hash c.in_default.not-Arrow c.if-k-eq1.false

pub sort-returns-in_err-operand-clause-says : goal.sort-returns-in_err-operand-clause-says
sort-returns-in_err-operand-clause-says t c =
    let p = err_from_is_err_and c.from_residual.result c.from_residual.ensures.1 in
    rw (p.1, p.2) (way.first_refuses c.args.self.now c.operand.new.self _ c.in_err-operand.ensures.says _ refl)

pub sort-rest-requires : goal.sort-rest-requires
sort-rest-requires t c =
    let x = way.room_left c.args.self.now c.operand.new.self _ c.in_ok-operand.ensures.says c.args.self.now.room _ refl in
    (omega (arith, x.0.0, x.1, x.2), (omega arith, omega arith))

pub sort-returns-clause-says : goal.sort-returns-clause-says
sort-returns-clause-says t c =
    way.first_goes_on c.args.self.now c.operand.new.self _ c.in_ok-operand.ensures.says _ refl c.rest.new.self _ c.rest.ensures.says

pub operand-invariant_of-self : goal.operand-invariant_of-self
operand-invariant_of-self t c = record { room = way.room_after c.args.self.now c.args.self.now.room _ c.next_token-found.ensures Word c.in-Word.is }

pub operand-invariant_of-self-in-Some-Container : goal.operand-invariant_of-self-in-Some-Container
operand-invariant_of-self-in-Some-Container t c = record { room = way.room_after c.args.self.now c.args.self.now.room _ c.next_token-found.ensures Word c.in-Word.is }

pub rest-invariant_of-self : goal.rest-invariant_of-self
rest-invariant_of-self t c = record { room = way.room_after c.args.self.now c.args.self.now.room _ c.next_token-found.ensures Hash c.in-Hash.is }

pub rest-invariant_of-self-in-Arrow : goal.rest-invariant_of-self-in-Arrow
rest-invariant_of-self-in-Arrow t c = record { room = way.room_after c.args.self.now c.args.self.now.room _ c.next_token-found.ensures Arrow c.in-Arrow.is }
