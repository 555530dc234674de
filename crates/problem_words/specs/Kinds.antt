-- The kinds of constraints by number, as `constraint` of Rattle.inference.specs.Constraints has them: 0 Sub, 1 Lit,
-- 2 Disjunction, 3 Comprehension, 4 Join. No other number is one.
use Rattle.std.specs.Prelude.{[], ◌∷◌, ℕ, get_or, Result, Ok, Err}
use Rattle.problem_words.specs.declared.ConstraintKind.{ConstraintKind}
use Rattle.problem_words.specs.declared.ConstraintKind.TheVariants.{Sub, Lit, Disjunction, Comprehension, Join}
use Rattle.inference.specs.declared.UnknownKind.{UnknownKind}

unfoldable pub kind_of : ℕ → Result ConstraintKind UnknownKind
kind_of n =
    get_or (Ok Sub ∷ Ok Lit ∷ Ok Disjunction ∷ Ok Comprehension ∷ Ok Join ∷ []) n (Err (record { 0 = n }))
