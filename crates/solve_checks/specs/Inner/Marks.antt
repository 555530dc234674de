-- Expressions marked one after another: each is marked once. A row may be for one expression or for none.
use Rattle.std.specs.Prelude.{⊤, Bool, true, false, not, List, [], ◌∷◌, ℕ, ◌<◌, Option, Some, None, get_or, set}
use Rattle.inference.specs.declared.Constraint.{Constraint}
use Rattle.inference.specs.declared.Constraint.TheVariants.{Sub, Lit, Disjunction, Comprehension, Join}
use Rattle.inference.specs.declared.ExprId.{ExprId}
use Rattle.inference.specs.Constraints.{max_exprs}

-- what marking leaves: the marks, and whether the number was not marked yet
pub record Marked : Type 0 where
  pub seen : List Bool
  pub fresh : Bool

abbrev pub marked : List Bool → Bool → Marked
marked seen fresh = record { seen = seen; fresh = fresh }

abbrev pub mark_of : List Bool → ℕ → Marked
mark_of seen x = record { seen = set seen x true; fresh = not (get_or seen x false) }

-- the expression that a constraint is a disjunction for
abbrev pub disjunction_expr : Constraint → Option ExprId
disjunction_expr (Sub l r) = None
disjunction_expr (Lit p kind) = None
disjunction_expr (Disjunction x p run) = Some x
disjunction_expr (Comprehension body node element) = None
disjunction_expr (Join run t) = None

-- the numbers of the expressions that rows are for
abbrev pub expr_before : Option ExprId → List ℕ → List ℕ
expr_before None xs = xs
expr_before (Some x) xs = x.0 ∷ xs

unfoldable pub exprs_for : List (Option ExprId) → List ℕ
exprs_for [] = []
exprs_for (x ∷ xs) = expr_before x (exprs_for xs)

-- within the ceiling, each of n rows
abbrev pub IsExpr : Option ExprId → Type 0
IsExpr None = ⊤
IsExpr (Some x) = x.0 < max_exprs

abbrev pub EachIsExpr : ℕ → (ℕ → Option ExprId) → Type 0
EachIsExpr n f = (i : ℕ) → i < n → IsExpr (f i)
