-- The lists that the solver takes beside sorts, nodes and bindings, as words: constraints in rows
-- of five, overloads and base names in rows of three, Join sources and the places of expressions
-- one word each. Words that a row's kind does not use are not looked at.
use Rattle.std.specs.Prelude.{cond, List, [], ◌∷◌, ℕ, zero, suc, ◌+◌, ◌*◌, eqb, get_or}
use Rattle.inference.specs.declared.NameTarget.{NameTarget}
use Rattle.inference.specs.declared.NameTarget.TheVariants.{Variable, Op, Builtin}
use Rattle.inference.specs.declared.LitKind.{LitKind}
use Rattle.inference.specs.declared.LitKind.TheVariants.{Positive, Natural}
use Rattle.inference.specs.declared.Overload.{Overload}
use Rattle.inference.specs.declared.Constraint.{Constraint}
use Rattle.inference.specs.declared.Constraint.TheVariants.{Sub, Lit, Disjunction, Comprehension, Join}

-- "512 expressions, 256 constraints, 1,024 overloads in all, 256 Join sources listed, 256 measure components"
abbrev pub max_exprs : ℕ
max_exprs = 512

abbrev pub max_constraints : ℕ
max_constraints = 256

abbrev pub max_overloads : ℕ
max_overloads = 1024

abbrev pub max_sources : ℕ
max_sources = 256

abbrev pub max_components : ℕ
max_components = 256

-- the words of a row
abbrev pub constraint_words : ℕ
constraint_words = 5

abbrev pub overload_words : ℕ
overload_words = 3

abbrev pub name_words : ℕ
name_words = 3

-- What a name stands for, by its kind: 1 a variable, 2 an operation with a sort, 3 a built-in. 0 is none.
unfoldable pub target : ℕ → ℕ → NameTarget
target kind sort = cond (eqb kind 1) Variable (cond (eqb kind 2) (Op (record { 0 = sort })) Builtin)

-- The kinds of literals: 0 positive, 1 natural.
unfoldable pub lit_kind : ℕ → LitKind
lit_kind kind = cond (eqb kind 0) Positive Natural

-- The kinds of constraints: 0 Sub, 1 Lit, 2 Disjunction, 3 Comprehension, 4 Join. The run of a
-- disjunction is in c and d, that of a Join in b and c.
unfoldable pub constraint : ℕ → ℕ → ℕ → ℕ → ℕ → Constraint
constraint kind a b c d =
    get_or
    (Sub (record { 0 = a }) (record { 0 = b })
    ∷ Lit (record { 0 = a }) (lit_kind b)
    ∷ Disjunction (record { 0 = a }) (record { 0 = b }) (record { start = c; count = d })
    ∷ Comprehension (record { 0 = a }) (record { 0 = b }) (record { 0 = c })
    ∷ [])
    kind (Join (record { start = b; count = c }) (record { 0 = a }))

abbrev pub constraint_at : List ℕ → ℕ → Constraint
constraint_at cs i =
    constraint (get_or cs (constraint_words * i) 0) (get_or cs (constraint_words * i + 1) 0)
    (get_or cs (constraint_words * i + 2) 0) (get_or cs (constraint_words * i + 3) 0)
    (get_or cs (constraint_words * i + 4) 0)

abbrev pub overload_at : List ℕ → ℕ → Overload
overload_at os i =
    record {
      target = target (get_or os (overload_words * i) 0) (get_or os (overload_words * i + 1) 0);
      sort = record { 0 = get_or os (overload_words * i + 2) 0 };
    }

-- a base name: the expression it is for, and what it stands for
pub record BaseName : Type 0 where
  pub key : ℕ
  pub target : NameTarget

abbrev pub base_name_at : List ℕ → ℕ → BaseName
base_name_at bs i =
    record {
      key = get_or bs (name_words * i) 0;
      target = target (get_or bs (name_words * i + 1) 0) (get_or bs (name_words * i + 2) 0);
    }

-- the n rows from i on
unfoldable pub rows_from : {A : Type 0} → (ℕ → A) → ℕ → ℕ → List A
rows_from row i zero = []
rows_from row i (suc n) = row i ∷ rows_from row (i + 1) n

-- The lists as the search takes them. The places of expressions and sources and the default sort are numbers.
pub record Problem : Type 0 where
  pub constraints : List Constraint
  pub overloads : List Overload
  pub sources : List ℕ
  pub exprs : List ℕ
  pub default : ℕ
