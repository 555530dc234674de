-- Document 01's number of unify's answer: the first failing check's, else 0 for a yes and for a no. As the checks have the numbers 1 to 14, the
-- packed answer tells a no, a yes and every refusal apart. By the cases of the first failing check and of the answers. Assumes nothing.
use mathlib.Core.Path.{◌≡◌, refl}
use mathlib.Core.Bool.{Bool, true, false}
use mathlib.Core.List.{List}
use Prim.Native.Nat.{ℕ}
use native.Mathlib.Omega.{arith}
use lib.ListN.{get_or}
use Rattle.std.specs.Prelude.{Result, Ok, Err}
use Rattle.resolved_sort.specs.declared.Refusal.{Refusal}
use Rattle.resolved_sort.specs.Checks.{Tested, code_of, first_failing, Numbered}
use Rattle.resolved_sort.specs.Entries.{refused_or, code_answered}
use Rattle.unification.specs.Nodes.{shape_at, binds_of}
use Rattle.unification.specs.Unify.{Unifies, yes_with, no_way, too_deep, unify}
use Rattle.unification.specs.NodeChecks.{node_checks, place_checks, unify_checks}
use Rattle.unification.specs.Checked.{lists_of}
use Rattle.unification.specs.UnifyEntry.{BindsLeft, binds_left, binds_left_by, unify_entry}
use Rattle.resolved_sort.proofs.FailingNumber.{failing_number}
use Rattle.entry_answers.specs.Packing.{yes_values, FitFields}
use Rattle.entry_answers.proofs.Packing.{Fit, answers_told}
use Rattle.unify_entries.specs.Codes.{UnifiedWithin}
use Rattle.unify_entries.specs.Packed.{unified_widths, pack_unified}

left_told : (bs : List ℕ) (v : ℕ) (a : Unifies) → (code_answered (binds_left_by bs v a).answer ≡ 0) × UnifiedWithin (binds_left_by bs v a).answer
unfolding binds_left_by code_answered
left_told bs v (yes_with C) = (refl, tt)
left_told bs v no_way = (refl, tt)
left_told bs v too_deep = (refl, tt)

module _ (ws : List ℕ) (n e : ℕ) (ns : List ℕ) (m d : ℕ) (bs : List ℕ) (v l r : ℕ) where
  abbrev failing : Tested
  failing = first_failing (unify_checks ws n e ns m d bs v l r)

  abbrev answered : BindsLeft
  answered = binds_left_by bs v (unify (shape_at (lists_of ws n ns m)) (binds_of bs v) l r)

  pub code_of_unified : code_answered (unify_entry ws n e ns m d bs v l r).answer ≡ refused_or failing code_of 0
  unfolding unify_entry code_answered
  code_of_unified = go failing
    where
      go : (o : Tested) → code_answered (refused_or o (λ c. binds_left bs (Err c)) answered).answer ≡ refused_or o code_of 0
      go (Ok u) = (left_told bs v (unify (shape_at (lists_of ws n ns m)) (binds_of bs v) l r)).0
      go (Err c) = refl

  pub refused_by_number : (c : Refusal) → failing ≡ Err c → Numbered c
  unfolding unify_checks node_checks place_checks code_of
  refused_by_number c x = failing_number Numbered (unify_checks ws n e ns m d bs v l r) c (
    (omega arith, omega arith),
    (
      (omega arith, omega arith),
      (
        (omega arith, omega arith),
        (
          (omega arith, omega arith),
          (
            (omega arith, omega arith),
            (
              (omega arith, omega arith),
              ((omega arith, omega arith), ((omega arith, omega arith), ((omega arith, omega arith), tt))),
            ),
          ),
        ),
      ),
    ),
  )
      x

  pub entry_told : UnifiedWithin (unify_entry ws n e ns m d bs v l r).answer
  unfolding unify_entry
  entry_told = go failing refl
    where
      go : (o : Tested) → failing ≡ o → UnifiedWithin (refused_or o (λ c. binds_left bs (Err c)) answered).answer
      go (Ok u) x = (left_told bs v (unify (shape_at (lists_of ws n ns m)) (binds_of bs v) l r)).1
      go (Err c) x = refused_by_number c x

-- numbers within their bounds fit their fields
unified_fits : (r : Result Bool Refusal) → Fit unified_widths yes_values r
unfolding FitFields
unified_fits (Err c) = tt
unified_fits (Ok true) = (omega arith, tt)
unified_fits (Ok false) = (omega arith, tt)

yes_told : (x y : Bool) → ((i : ℕ) → get_or (yes_values x) i 0 ≡ get_or (yes_values y) i 0) → x ≡ y
yes_told true true v = refl
yes_told true false v = absurd (omega (arith, v 0))
yes_told false true v = absurd (omega (arith, v 0))
yes_told false false v = refl

-- the packed answer tells the answers apart
pub packed_tells : (u w : Result Bool Refusal) → UnifiedWithin u → UnifiedWithin w → pack_unified u ≡ pack_unified w → u ≡ w
packed_tells u w x y p = answers_told unified_widths yes_values yes_told u w (unified_fits u) (unified_fits w) p
