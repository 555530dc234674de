-- Checks 8 and 9: one test after another, and the kinds of constraints, of literals and of names. Assumes nothing.
use mathlib.Core.Path.{◌≡◌, refl, sym, ap, ◌∙◌}
use mathlib.Core.Logic.{◌⊎◌, inl, inr}
use mathlib.Core.Bool.{Bool, true, false, ◌&&◌}
use Prim.Native.Nat.{ℕ, zero, suc}
use native.Mathlib.Omega.{arith}
use lib.Dec.{leb}
use borrow.Author.Tests.{lt-leb, lt-ltb}
use Rattle.std.specs.Prelude.{Result, Ok, Err}
use Rattle.std.specs.Result.{is_ok}
use Rattle.inference.specs.declared.NameKind.{NameKind}
use Rattle.inference.specs.declared.NameKind.TheVariants.{Variable, Op, Builtin}
use Rattle.inference.specs.declared.UnknownKind.{UnknownKind}
use Rattle.inference.specs.Kinds.{kind_of_name, kind_of_literal}
use Rattle.inference.specs.SolveChecks.{Call, listed, target_fine}
use Rattle.problem_words.specs.Kinds.{kind_of}

-- b is what a test found, and x what the check says
module _ (x y b : Bool) (e : b ≡ x) where
  pub stops : b ≡ false → b ≡ (x && y)
  stops h = h ∙ ap (λ z. z && y) (sym h ∙ e)

  pub then : b ≡ true → (r : Bool) → r ≡ y → r ≡ (x && y)
  then h r s = s ∙ ap (λ z. z && y) (sym h ∙ e)

pub known_kinds : (n : ℕ) → is_ok (kind_of n) ≡ leb n 4
unfolding kind_of
known_kinds zero = refl
known_kinds (suc zero) = refl
known_kinds (suc (suc zero)) = refl
known_kinds (suc (suc (suc zero))) = refl
known_kinds (suc (suc (suc (suc zero)))) = refl
known_kinds (suc (suc (suc (suc (suc n))))) = sym (lt-leb (suc (suc (suc (suc (suc n))))) 4 (omega arith))

pub known_literals : (n : ℕ) → is_ok (kind_of_literal n) ≡ leb n 1
unfolding kind_of_literal
known_literals zero = refl
known_literals (suc zero) = refl
known_literals (suc (suc n)) = sym (lt-leb (suc (suc n)) 1 (omega arith))

-- a name target by its kind, where its sort is in the list or not
abbrev pub fine_as : Bool → NameKind → Bool
fine_as b Variable = true
fine_as b Op = b
fine_as b Builtin = true

abbrev pub fine_by : Bool → Result NameKind UnknownKind → Bool
fine_by b (Ok kind) = fine_as b kind
fine_by b (Err e) = false

module _ (I : Call) (kind sort : ℕ) where
  by_kind : (k : ℕ) → fine_by (listed I sort) (kind_of_name k) ≡ target_fine I k sort
  unfolding kind_of_name target_fine
  by_kind zero = refl
  by_kind (suc zero) = refl
  by_kind (suc (suc zero)) = refl
  by_kind (suc (suc (suc zero))) = refl
  by_kind (suc (suc (suc (suc n)))) =
      sym (rw (lt-ltb 0 (suc (suc (suc (suc n)))) (omega arith), lt-leb (suc (suc (suc (suc n)))) 3 (omega arith)))

  module _ (r : Result NameKind UnknownKind) (e : r ≡ kind_of_name kind) where
    pub no_kind : (x : UnknownKind) → r ≡ Err x → false ≡ target_fine I kind sort
    no_kind x h = ap (fine_by (listed I sort)) (sym h ∙ e) ∙ by_kind kind

    pub kind_decides : (k : NameKind) → r ≡ Ok k → (x : NameKind) → k ≡ x → fine_as (listed I sort) x ≡ target_fine I kind sort
    kind_decides k h x g = ap (fine_as (listed I sort)) (sym g) ∙ ap (fine_by (listed I sort)) (sym h ∙ e) ∙ by_kind kind

    pub no_sort_asked : (k : NameKind) → r ≡ Ok k → (k ≡ Variable) ⊎ (k ≡ Builtin) → true ≡ target_fine I kind sort
    no_sort_asked k h (inl g) = kind_decides k h Variable g
    no_sort_asked k h (inr g) = kind_decides k h Builtin g
