-- A word of digits is text, and the library reads the number that it says. Assumes nothing.
use Rattle.std.proofs.Common.{rules, tests, arith, ◌≡◌, sym, ◌∙◌, subst, length}
use Rattle.std.specs.Str.Parse.{ParsesUnsigned}
use Rattle.list_tokens.specs.Tokens.{decimal_read}
use Rattle.list_tokens.proofs.Digits as law
use Rattle.list_tokens.proofs.number_of.Goals.{in_default-via-then-w-lt2, in_default-via-else-w-lt2+in_default-1}
use Rattle.list_tokens.proofs.number_of.Goals as goal

pub returns-in_err-ok-in_default : goal.returns-in_err-ok-in_default
returns-in_err-ok-in_default c =
    absurd
    (law.is_text c.from_utf8.result _ _ c.from_utf8.ensures.cases (law.digits_are_text _ (search rules))
    (sym c.ok.ensures.value ∙ c.in_err-ok-in_default.was))

pub returns-in_ok-ok-in_default : goal.returns-in_ok-ok-in_default
returns-in_ok-ok-in_default c =
    let text : c.in_ok-ok-in_default.field-0.now ≡ c.args.w.now =
    law.text_of c.from_utf8.result _ _ c.from_utf8.ensures.cases _ (sym c.ok.ensures.value ∙ c.in_ok-ok-in_default.was) in
    let some : length c.args.w.now ≡ 0 → ⊥ = search (rules, tests) in
    let read : c.ok-in_default.result ≡ decimal_read 0 c.args.w.now =
    c.ok-in_default.ensures.value
    ∙ law.digits_read c.args.w.now (search rules) _ (omega (arith, some)) (subst (λ bs. ParsesUnsigned 16 10 bs c.parse.result) text c.parse.ensures.value.0) in
    read
    ∙ elim c.in_default.branch [
      | in_default-via-then-w-lt2 w ↦ law.read_alone c.args.w.now some (search (rules, tests))
      | in_default-via-else-w-lt2+in_default-1 w ↦ law.read_long c.args.w.now some (search (rules, tests)) (search (rules, tests))
    ]

pub returns-in_default-2 : goal.returns-in_default-2
returns-in_default-2 c = law.no_number _ c.if-all_digits.ensures
