-- What the words of a constraint say, by their kind: a word that is none says Join; and those of a literal and of a name, where one that is none says
-- natural and built-in. Assumes nothing.
use mathlib.Core.Path.{◌≡◌, refl, sym, ap, ◌∙◌}
use Prim.Native.Nat.{ℕ, zero, suc}
use native.Mathlib.Omega.{arith}
use borrow.Author.Tests.{ne_eqb}
use Rattle.std.specs.Prelude.{Result}
use Rattle.std.specs.Result.{result_unwrap_or}
use Rattle.inference.specs.declared.Constraint.{Constraint}
use Rattle.inference.specs.declared.Constraint.TheVariants as says
use Rattle.inference.specs.declared.LitKind.{LitKind}
use Rattle.inference.specs.declared.LitKind.TheVariants.{Natural}
use Rattle.inference.specs.declared.NameKind.{NameKind}
use Rattle.inference.specs.declared.NameKind.TheVariants as kinds
use Rattle.inference.specs.declared.NameTarget.{NameTarget}
use Rattle.inference.specs.declared.NameTarget.TheVariants as targets
use Rattle.inference.specs.Kinds.{kind_of_name, kind_of_literal}
use Rattle.inference.specs.Constraints.{lit_kind, target, constraint}
use Rattle.problem_words.specs.declared.ConstraintKind.{ConstraintKind}
use Rattle.problem_words.specs.declared.ConstraintKind.TheVariants.{Sub, Lit, Disjunction, Comprehension, Join}
use Rattle.inference.specs.declared.UnknownKind.{UnknownKind}
use Rattle.problem_words.specs.Kinds.{kind_of}

module _ (a b c d : ℕ) where
  abbrev pub constraint_said : ConstraintKind → Constraint
  constraint_said Sub = says.Sub (record { 0 = a }) (record { 0 = b })
  constraint_said Lit = says.Lit (record { 0 = a }) (lit_kind b)
  constraint_said Disjunction = says.Disjunction (record { 0 = a }) (record { 0 = b }) (record { start = c; count = d })
  constraint_said Comprehension = says.Comprehension (record { 0 = a }) (record { 0 = b }) (record { 0 = c })
  constraint_said Join = says.Join (record { start = b; count = c }) (record { 0 = a })

  by_number : (n : ℕ) → constraint_said (result_unwrap_or (kind_of n) Join) ≡ constraint n a b c d
  unfolding kind_of constraint
  by_number zero = refl
  by_number (suc zero) = refl
  by_number (suc (suc zero)) = refl
  by_number (suc (suc (suc zero))) = refl
  by_number (suc (suc (suc (suc zero)))) = refl
  by_number (suc (suc (suc (suc (suc n))))) = refl

  pub said_so : (n : ℕ) (r : Result ConstraintKind UnknownKind) → r ≡ kind_of n → (k : ConstraintKind) → k ≡ result_unwrap_or r Join
      → (x : ConstraintKind) → k ≡ x → constraint_said x ≡ constraint n a b c d
  said_so n r e k f x g = ap constraint_said (sym g ∙ (f ∙ ap (λ y. result_unwrap_or y Join) e)) ∙ by_number n

literal_by_number : (n : ℕ) → result_unwrap_or (kind_of_literal n) Natural ≡ lit_kind n
unfolding kind_of_literal lit_kind
literal_by_number zero = refl
literal_by_number (suc zero) = refl
literal_by_number (suc (suc n)) = sym (rw (ne_eqb (suc (suc n)) 0 (λ e. omega (arith, e))))

pub literal_said :
    (n : ℕ) (r : Result LitKind UnknownKind) → r ≡ kind_of_literal n → (k : LitKind) → k ≡ result_unwrap_or r Natural → k ≡ lit_kind n
literal_said n r e k f = f ∙ ap (λ y. result_unwrap_or y Natural) e ∙ literal_by_number n

-- what a name stands for, by its kind
abbrev pub target_said : ℕ → NameKind → NameTarget
target_said sort kinds.Variable = targets.Variable
target_said sort kinds.Op = targets.Op (record { 0 = sort })
target_said sort kinds.Builtin = targets.Builtin

target_by_number : (n sort : ℕ) → target_said sort (result_unwrap_or (kind_of_name n) kinds.Builtin) ≡ target n sort
unfolding kind_of_name target
target_by_number zero sort = refl
target_by_number (suc zero) sort = refl
target_by_number (suc (suc zero)) sort = refl
target_by_number (suc (suc (suc zero))) sort = refl
target_by_number (suc (suc (suc (suc n)))) sort =
    sym (rw (ne_eqb (suc (suc (suc (suc n)))) 1 (λ e. omega (arith, e)), ne_eqb (suc (suc (suc (suc n)))) 2 (λ e. omega (arith, e))))

pub name_said :
    (n sort : ℕ) (r : Result NameKind UnknownKind) → r ≡ kind_of_name n → (k : NameKind) → k ≡ result_unwrap_or r kinds.Builtin
    → (x : NameKind) → k ≡ x → target_said sort x ≡ target n sort
name_said n sort r e k f x g =
    ap (target_said sort) (sym g ∙ (f ∙ ap (λ y. result_unwrap_or y kinds.Builtin) e)) ∙ target_by_number n sort
