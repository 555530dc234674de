-- The sort list as a list of trees with the room that is left, and what interning, join and meet make of it, in the
-- Rust's order of making.
use Rattle.std.specs.Prelude.{Bool, true, false, cond, not, ◌&&◌, ◌||◌, List, [], ◌∷◌, ◌++◌, ℕ, ◌+◌, ◌-◌, get_or, eqb, leb, ltb}
use Rattle.std.proofs.Math.Option.{Option, none, some}
use Rattle.resolved_sort.specs.Tree.{unit, Tree, flat, container, function, Trees, no_args, arg, arity}
use Rattle.resolved_sort.specs.Tree.{same}
use Rattle.resolved_sort.specs.Order.{bound_flat, bound_op}

-- The sorts of a list, by number, and how many more rows and argument entries fit.
pub record Sorts : Type 0 where
  pub trees : List Tree
  pub rows : ℕ
  pub entries : ℕ

-- The sort of a number, unit where the list has no such number.
unfoldable pub look : List Tree → ℕ → Tree
look T n = get_or T n (flat unit)

-- The number of a sort: the first place where it stands, the length of the list where it does not.
unfoldable pub number : List Tree → Tree → ℕ
number [] t = 0
number (s ∷ T) t = cond (same s t) 0 (number T t + 1)

unfoldable pub member : List Tree → Tree → Bool
member [] t = false
member (s ∷ T) t = same s t || member T t

-- No two sorts of the list are equal.
unfoldable pub distinct : List Tree → Bool
distinct [] = true
distinct (s ∷ T) = not (member T s) && distinct T

-- The argument entries that a row of the sort takes.
unfoldable pub need : Tree → ℕ
need (flat a) = 0
need (container o s) = 0
need (function ts u) = arity ts

-- What making sorts comes to: an answer, none, or no more room (15), each with the list as it then is.
pub data Outcome (A : Type 0) : Type 0 where
  made : A → Sorts → Outcome A
  nothing : Sorts → Outcome A
  full : Sorts → Outcome A

abbrev pub ◌then◌ : {A B : Type 0} → Outcome A → (A → Sorts → Outcome B) → Outcome B
(made a S) then k = k a S
(nothing S) then k = nothing S
(full S) then k = full S

infixl 20 ◌then◌
abbrev pub where_some : {A B : Type 0} → Option A → Sorts → (A → Outcome B) → Outcome B
where_some none S k = nothing S
where_some (some a) S k = k a

abbrev pub fits : Tree → Sorts → Bool
fits t S = ltb 0 S.rows && leb (need t) S.entries

-- Interning: the list as it is where it has the sort, else one more row, as long as there is room.
unfoldable pub intern : Tree → Sorts → Outcome Tree
intern t S =
    cond (member S.trees t) (made t S)
    (cond (fits t S)
    (made t (record { trees = S.trees ++ (t ∷ []); rows = S.rows - 1; entries = S.entries - need t }))
    (full S))

-- Join (up true) and meet (up false) as the Rust makes them: the sort itself where both are equal; the operator first
-- and then the part; the arguments left to right, the other way, and then the range; then the whole is interned. Where
-- the answer is none, what was made stays.
unfoldable mutual
  pub make : Bool → Tree → Tree → Sorts → Outcome Tree
  make up (flat a) (flat b) S = where_some (bound_flat up a b) S (λ c. made (flat c) S)
  make up (flat a) (container p t) S = nothing S
  make up (flat a) (function ts u) S = nothing S
  make up (container o s) (flat b) S = nothing S
  make up (container o s) (container p t) S =
      elim (same (container o s) (container p t)) [
        | true ↦ made (container o s) S
        | false ↦ where_some (bound_op up o p) S (λ q. make up s t S then (λ v S. intern (container q v) S))
      ]
  make up (container o s) (function ts u) S = nothing S
  make up (function ss r) (flat b) S = nothing S
  make up (function ss r) (container p t) S = nothing S
  make up (function ss r) (function ts u) S =
      elim (same (function ss r) (function ts u)) [
        | true ↦ made (function ss r) S
        | false ↦ elim (eqb (arity ss) (arity ts)) [
          | true ↦ makes (not up) ss ts S then (λ vs S. make up r u S then (λ v S. intern (function vs v) S))
          | false ↦ nothing S
        ]
      ]

  pub makes : Bool → Trees → Trees → Sorts → Outcome Trees
  makes up no_args no_args S = made no_args S
  makes up no_args (arg t ts) S = nothing S
  makes up (arg s ss) no_args S = nothing S
  makes up (arg s ss) (arg t ts) S =
      make up s t S then (λ v S. makes up ss ts S then (λ vs S. made (arg v vs) S))
