-- The first failing check, as tests one after another find it. Assumes nothing.
use mathlib.Core.Path.{◌≡◌, refl, sym, ◌∙◌, ap, ap₂}
use mathlib.Core.List.{List, [], ◌∷◌, ◌++◌}
use mathlib.Core.Bool.{Bool, true, false, not, ◌&&◌}
use borrow.Author.Tests.{not-true, not-false}
use Rattle.std.specs.Prelude.{Result, Ok, Err}
use Rattle.std.specs.Result.{IsErrAnd}
use Rattle.resolved_sort.specs.declared.Refusal.{Refusal}
use Rattle.resolved_sort.specs.Checks.{Check, Tested, first_failing}
use Rattle.resolved_sort.proofs.FirstFailing.{first_fails, first_passes, append_fails, append_passes}

-- one test: b, negated, is what an `if` asks, and x what the check says
module _ (b x : Bool) (e : b ≡ x) (refusal : Refusal) (cs : List Check) where
  abbrev check : Check
  check = record { refusal = refusal; passes = x }

  pub fails : not b ≡ true → Err refusal ≡ first_failing (check ∷ cs)
  fails h = sym (first_fails check cs (sym e ∙ not-true b h))

  pub passes : not b ≡ false → (t : Tested) → t ≡ first_failing cs → t ≡ first_failing (check ∷ cs)
  passes h t y = y ∙ sym (first_passes check cs (sym e ∙ not-false b h))

pub none_left : Ok tt ≡ first_failing []
unfolding first_failing
none_left = refl

-- tests one after another: those of cs have been found to come to t
module _ (cs ds : List Check) (t : Tested) (e : t ≡ first_failing cs) where
  pub first_refuses : (r : Refusal) → t ≡ Err r → Err r ≡ first_failing (cs ++ ds)
  first_refuses r q = sym (append_fails cs ds r (sym e ∙ q))

  pub second_decides : t ≡ Ok tt → (u : Tested) → u ≡ first_failing ds → u ≡ first_failing (cs ++ ds)
  second_decides p u y = y ∙ sym (append_passes cs ds (sym e ∙ p))

-- 12 and 14, each two tests
module _ (x y : Bool) where
  pub first_of_two : not x ≡ true → not (x && y) ≡ true
  first_of_two h = ap (λ z. not (z && y)) (not-true x h)

  pub second_of_two : not x ≡ false → not y ≡ true → not (x && y) ≡ true
  second_of_two h k = ap₂ (λ a b. not (a && b)) (not-false x h) (not-true y k)

  pub both_of_two : not x ≡ false → not y ≡ false → not (x && y) ≡ false
  both_of_two h k = ap₂ (λ a b. not (a && b)) (not-false x h) (not-false y k)

-- what a `?` hands on at a refusal
pub handed_on : {A : Type 0} (x : Result A Refusal) (r : Refusal) → IsErrAnd x (λ e. e ≡ r) → x ≡ Err r
handed_on (Ok a) r h = absurd h
handed_on (Err e) r h = ap Err h
