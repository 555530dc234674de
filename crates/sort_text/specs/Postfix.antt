-- A sort as a list of steps, parts first: the order in which a line's sorts are stored. Recognising a line writes the
-- steps, storing carries them out on a stack, so that a line which is no sort stores nothing.
use Rattle.std.specs.Prelude.{true, cond, List, [], ◌∷◌, ◌++◌, ℕ, zero, suc, ◌+◌, ◌-◌, ◌≤◌, ◌<◌, get_or, ltb, ◌≡◌}
use Rattle.resolved_sort.specs.declared.Sort.{Sort}
use Rattle.resolved_sort.specs.declared.ComplexSort.{ComplexSort}
use Rattle.resolved_sort.specs.Tree.{unit, primitive, Tree, flat, container, function, Trees, no_args, arg, arity}
use Rattle.resolved_sort.specs.Interning.{Sorts, Outcome, made, nothing, ◌then◌, intern, member}
use Rattle.resolved_sort.specs.Storage.{kind_flat, kind_op, function_kind, max_arguments}

-- The steps: 0 to 5 the fixed six sorts, 6 to 10 a container over the sort before, function_step + k a function of the k
-- sorts before the range before.
abbrev pub function_step : ℕ
function_step = 16

unfoldable mutual
  pub postfix : Tree → List ℕ
  postfix (flat a) = kind_flat a ∷ []
  postfix (container o t) = postfix t ++ (kind_op o ∷ [])
  postfix (function ts r) = postfixes ts ++ (postfix r ++ ((function_step + arity ts) ∷ []))

  pub postfixes : Trees → List ℕ
  postfixes no_args = []
  postfixes (arg t ts) = postfix t ++ postfixes ts

-- the sorts of the steps 0 to 5, and the operators of the steps 6 to 10
abbrev pub sixth : ℕ → Tree
sixth k =
    get_or (flat unit ∷ flat (primitive Sort.Bool) ∷ flat (primitive Sort.Pos) ∷ flat (primitive Sort.Nat)
    ∷ flat (primitive Sort.Int) ∷ [])
    k (flat (primitive Sort.Real))

abbrev pub op_of : ℕ → ComplexSort
op_of k =
    get_or (ComplexSort.List ∷ ComplexSort.Set ∷ ComplexSort.FSet ∷ ComplexSort.Bag ∷ []) k ComplexSort.FBag

-- A stack of sorts, the last one first.
abbrev pub containing : ComplexSort → List Tree → Sorts → Outcome (List Tree)
containing o [] S = nothing S
containing o (t ∷ st) S = intern (container o t) S then (λ u S. made (u ∷ st) S)

-- the k sorts on top, the deepest first, as arguments in front of ts; what is below them
pub data Popped : Type 0 where
  popped : Trees → List Tree → Popped
  not_enough : Popped

unfoldable pub take_arguments : ℕ → Trees → List Tree → Popped
take_arguments zero ts st = popped ts st
take_arguments (suc k) ts [] = not_enough
take_arguments (suc k) ts (t ∷ st) = take_arguments k (arg t ts) st

abbrev pub applied : Tree → Popped → Sorts → Outcome (List Tree)
applied r not_enough S = nothing S
applied r (popped ts st) S = intern (function ts r) S then (λ u S. made (u ∷ st) S)

abbrev pub mapping : ℕ → List Tree → Sorts → Outcome (List Tree)
mapping k [] S = nothing S
mapping k (r ∷ st) S = applied r (take_arguments k no_args st) S

-- one step
unfoldable pub step_on : ℕ → List Tree → Sorts → Outcome (List Tree)
step_on op st S =
    cond (ltb op 6) (made (sixth op ∷ st) S)
    (cond (ltb op function_kind) (containing (op_of (op - 6)) st S) (mapping (op - function_step) st S))

-- the sort on top when all steps are done
abbrev pub top : List Tree → Sorts → Outcome Tree
top [] S = nothing S
top (t ∷ st) S = made t S

unfoldable pub steps : List ℕ → List Tree → Sorts → Outcome Tree
steps [] st S = top st S
steps (op ∷ ops) st S = step_on op st S then (λ st S. steps ops st S)

-- no step makes a function of more than max_arguments arguments
unfoldable pub Short : List ℕ → Type 0
Short [] = Unit {0}
Short (op ∷ ops) = (op ≤ function_step + max_arguments) × Short ops

-- the sorts of a stack are in the list
unfoldable pub InStack : Sorts → List Tree → Type 0
InStack S [] = Unit {0}
InStack S (t ∷ st) = (member S.trees t ≡ true) × InStack S st

-- the fixed six are in the list
abbrev pub HasSix : Sorts → Type 0
HasSix S = (k : ℕ) → k < 6 → member S.trees (sixth k) ≡ true

-- the primitive sorts are in the list
abbrev pub HasPrimitives : Sorts → Type 0
HasPrimitives S = (s : Sort) → member S.trees (flat (primitive s)) ≡ true
