-- Document 01's number of each outcome: the first failing check's, 15 where room ended, else 0. By the cases of the first failing check and
-- of the answers. Assumes nothing.
use mathlib.Core.Path.{◌≡◌, refl}
use mathlib.Core.Bool.{Bool}
use mathlib.Core.List.{List}
use Prim.Native.Nat.{ℕ}
use Rattle.std.specs.Prelude.{Ok, Err}
use Rattle.resolved_sort.specs.Entries.{Joined}
use Rattle.resolved_sort.specs.Entries.{At, Nothing, Full}
use Rattle.resolved_sort.specs.Interning.{make}
use Rattle.resolved_sort.specs.Storage.{sorts_of}
use Rattle.resolved_sort.specs.Checks.{Tested, code_of, first_failing, pair_checks}
use Rattle.resolved_sort.specs.Entries.{tree_at, code_answered, refused_or}
use Rattle.resolved_sort.specs.Entries.{Stored, stored, compared, measured, materialized}
use Rattle.resolved_sort.specs.JoinMeet.{bound_checks, sorts_left, sorts_left_by, bounded}
use Rattle.sort_entries.specs.Codes.{room_code}

answered_by : {A : Type 0} (x : Tested) (a : A) → code_answered (refused_or x Err (Ok a)) ≡ refused_or x code_of 0
unfolding code_answered
answered_by (Ok u) a = refl
answered_by (Err r) a = refl

left_code : (ws ix : List ℕ) (n e : ℕ) (r : Stored) (j : Joined) → code_answered (sorts_left_by ws ix n e r j).answer ≡ room_code j
unfolding sorts_left_by code_answered code_of
left_code ws ix n e r (At s k) = refl
left_code ws ix n e r (Nothing k) = refl
left_code ws ix n e r Full = refl

bounded_by : (x : Tested) (ws ix : List ℕ) (n e : ℕ) (r : Stored)
    → code_answered (refused_or x (λ c. sorts_left ws ix (Err c)) (sorts_left_by ws ix n e r r.answer)).answer ≡
    refused_or x code_of (room_code r.answer)
unfolding code_answered
bounded_by (Ok u) ws ix n e r = left_code ws ix n e r r.answer
bounded_by (Err c) ws ix n e r = refl

module _ (ws : List ℕ) (n e a b : ℕ) where
  pub code_of_compared : code_answered (compared ws n e a b) ≡ refused_or (first_failing (pair_checks ws n e a b)) code_of 0
  unfolding compared
  code_of_compared = answered_by (first_failing (pair_checks ws n e a b)) _

  pub code_of_measured : code_answered (measured ws n e a b) ≡ refused_or (first_failing (pair_checks ws n e a b)) code_of 0
  unfolding measured
  code_of_measured = answered_by (first_failing (pair_checks ws n e a b)) _

  pub code_of_materialized : code_answered (materialized ws n e a b) ≡ refused_or (first_failing (pair_checks ws n e a b)) code_of 0
  unfolding materialized
  code_of_materialized = answered_by (first_failing (pair_checks ws n e a b)) _

  pub code_of_bounded : (up : Bool) (ix : List ℕ) → code_answered (bounded up ws ix n e a b).answer
      ≡ refused_or (first_failing (bound_checks ws ix n e a b)) code_of
      (room_code (stored ws n e (make up (tree_at ws n a) (tree_at ws n b) (sorts_of ws n e))).answer)
  unfolding bounded
  code_of_bounded up ix = bounded_by (first_failing (bound_checks ws ix n e a b)) ws ix n e _
