-- Checks 1 to 4 tested one after another come to the first failing one. Assumes nothing.
use mathlib.Core.Path.{◌≡◌, sym, ◌∙◌}
use mathlib.Core.Bool.{Bool, true, false, not, ◌&&◌, and-eq-true_iff}
use mathlib.Core.List.{List, [], ◌∷◌}
use Prim.Native.Nat.{ℕ, ◌-◌, ◌*◌, ◌≤◌}
use lib.ListN.{length}
use lib.Dec.{leb}
use borrow.Author.Tests.{not-true, not-false, leb-true}
use Rattle.std.specs.Prelude.{Ok, Err}
use Rattle.resolved_sort.specs.declared.Refusal.TheVariants.{NotLent, NotFixedSix, BadSort, EqualSorts}
use Rattle.resolved_sort.specs.Storage.{max_sorts, max_entries, entries_at}
use Rattle.resolved_sort.specs.Checks.{within_lent, fixed_six, rows_fine, no_two_equal, Check, first_failing, sort_checks}
use Rattle.resolved_sort.proofs.FirstFailing.{first_fails, first_passes}
use Rattle.resolved_sort.proofs.Twice.{rows_differ_exactly}
use Rattle.resolved_sort.specs.Rows.{rows_differ}

-- checks 1 to 4
module _ (ws : List ℕ) (n e : ℕ) where
  abbrev one : Check
  one = record { refusal = NotLent; passes = within_lent ws n e }

  abbrev two : Check
  two = record { refusal = NotFixedSix; passes = fixed_six ws n }

  abbrev three : Check
  three = record { refusal = BadSort; passes = rows_fine ws n e }

  abbrev four : Check
  four = record { refusal = EqualSorts; passes = no_two_equal ws n }

  -- the tests' flags: b negated is what an `if` tests
  passing : (b x : Bool) → b ≡ x → not b ≡ false → x ≡ true
  passing b x e h = sym e ∙ not-false b h

  failing : (b x : Bool) → b ≡ x → not b ≡ true → x ≡ false
  failing b x e h = sym e ∙ not-true b h

  module _ (b₁ : Bool) (e₁ : b₁ ≡ within_lent ws n e) where
    pub fails_1 : not b₁ ≡ true → Err NotLent ≡ first_failing (sort_checks ws n e)
    unfolding sort_checks
    fails_1 h = sym (first_fails one _ (failing b₁ _ e₁ h))

    module _ (h₁ : not b₁ ≡ false) where
      pub few_sorts : n ≤ max_sorts
      unfolding within_lent
      few_sorts =
          leb-true n max_sorts
          ((and-eq-true_iff (leb n max_sorts) (leb e max_entries)).0
          ((and-eq-true_iff (leb n max_sorts && leb e max_entries) (leb (4 * n) (length ws))).0
          ((and-eq-true_iff (leb n max_sorts && leb e max_entries && leb (4 * n) (length ws)) (leb e (length ws - entries_at))).0 (passing b₁ _ e₁ h₁)).0).0).0

      past_1 : first_failing (sort_checks ws n e) ≡ first_failing (two ∷ three ∷ four ∷ [])
      unfolding sort_checks
      past_1 = first_passes one _ (passing b₁ _ e₁ h₁)

      module _ (b₂ : Bool) (e₂ : b₂ ≡ fixed_six ws n) where
        pub fails_2 : not b₂ ≡ true → Err NotFixedSix ≡ first_failing (sort_checks ws n e)
        fails_2 h = sym (past_1 ∙ first_fails two _ (failing b₂ _ e₂ h))

        module _ (h₂ : not b₂ ≡ false) (b₃ : Bool) (e₃ : b₃ ≡ rows_fine ws n e) where
          past_2 : first_failing (sort_checks ws n e) ≡ first_failing (three ∷ four ∷ [])
          past_2 = past_1 ∙ first_passes two _ (passing b₂ _ e₂ h₂)

          pub fails_3 : not b₃ ≡ true → Err BadSort ≡ first_failing (sort_checks ws n e)
          fails_3 h = sym (past_2 ∙ first_fails three _ (failing b₃ _ e₃ h))

          module _ (h₃ : not b₃ ≡ false) (b₄ : Bool) (e₄ : b₄ ≡ rows_differ ws n) where
            past_3 : first_failing (sort_checks ws n e) ≡ first_failing (four ∷ [])
            past_3 = past_2 ∙ first_passes three _ (passing b₃ _ e₃ h₃)

            by_structure : b₄ ≡ no_two_equal ws n
            by_structure = e₄ ∙ rows_differ_exactly ws e n (passing b₃ _ e₃ h₃)

            pub fails_4 : not b₄ ≡ true → Err EqualSorts ≡ first_failing (sort_checks ws n e)
            fails_4 h = sym (past_3 ∙ first_fails four _ (failing b₄ _ by_structure h))

            pub passes_4 : not b₄ ≡ false → Ok tt ≡ first_failing (sort_checks ws n e)
            unfolding first_failing
            passes_4 h = sym (past_3 ∙ first_passes four [] (passing b₄ _ by_structure h))
