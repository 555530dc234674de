-- The rows of choices and of expressions as they are written, one constraint, one base name, one expression after
-- another. Choices, kept in the order of the constraints, are written by expression. Names are written from the last to
-- the first, base names and then choices, so that of two for one expression the first stays, and a choice over a base
-- name.
use Rattle.std.specs.Prelude.{cond, List, [], ◌∷◌, ℕ, ◌+◌, ◌-◌, ◌*◌, eqb, ltb, get_or, set}
use Rattle.std.proofs.Math.Option.{Option, none, some}
use Rattle.inference.specs.declared.NameTarget.{NameTarget}
use Rattle.inference.specs.declared.Overload.{Overload}
use Rattle.inference.specs.declared.Constraint.{Constraint}
use Rattle.inference.specs.declared.Constraint.TheVariants.{Sub, Lit, Disjunction, Comprehension, Join}
use Rattle.inference.specs.Constraints.{BaseName}
use Rattle.inference.specs.SolveChecks.{typing_words, choice_words}
use Rattle.inference.specs.Names.{overload_in, name_kind, name_sort}
use Rattle.search_state.specs.Inner.Memory.{best_choices_at}

-- words, and how many choices come before what is next
pub record Walked : Type 0 where
  pub words : List ℕ
  pub count : ℕ

abbrev pub walked : List ℕ → ℕ → Walked
walked xs k = record { words = xs; count = k }

-- the position that the k-th choice of the incumbent has
abbrev pub position_at : List ℕ → ℕ → ℕ
position_at sc k = get_or sc (best_choices_at + k) 0

-- the slots of the choices for expressions, after k others: at each expression 1 and how many choices come before its own
unfoldable pub slots_stored : List ℕ → ℕ → List ℕ → List ℕ
slots_stored [] k ss = ss
slots_stored (x ∷ xs) k ss = slots_stored xs (k + 1) (set ss x (k + 1))

-- the row of the expression x by the slot of its choice, after k rows; none where the slot is 0
unfoldable pub choice_by : List ℕ → ℕ → ℕ → List ℕ → ℕ → Walked
choice_by sc x slot ch k =
    cond (eqb slot 0) (walked ch k)
    (walked (set (set ch (choice_words * k) x) (choice_words * k + 1) (position_at sc (slot - 1))) (k + 1))

-- the rows of expressions from x on, with a name for each
unfoldable pub named_rows : (ℕ → Option NameTarget) → ℕ → List ℕ → List ℕ
named_rows name x [] = []
named_rows name x (s ∷ ss) = s ∷ name_kind (name x) ∷ name_sort (name x) ∷ named_rows name (x + 1) ss

abbrev pub no_name : ℕ → Option NameTarget
no_name x = none

-- the name of x, where it is one of n expressions
unfoldable pub named : ℕ → List ℕ → ℕ → NameTarget → List ℕ
named n ts x t =
    cond (ltb x n)
    (set (set ts (typing_words * x + 1) (name_kind (some t))) (typing_words * x + 2) (name_sort (some t))) ts

unfoldable pub base_named : ℕ → List BaseName → List ℕ → List ℕ
base_named n [] ts = ts
base_named n (b ∷ bs) ts = named n (base_named n bs ts) b.key b.target

module _ (n : ℕ) (os : List Overload) (sc : List ℕ) where
  -- one name by its choice, which is the last of k
  unfoldable pub name_by_of : Constraint → List ℕ → ℕ → Walked
  name_by_of (Sub l r) ts k = walked ts k
  name_by_of (Lit p kind) ts k = walked ts k
  name_by_of (Disjunction x p run) ts k =
      walked (named n ts x.0 (overload_in os run (position_at sc (k - 1))).target) (k - 1)
  name_by_of (Comprehension body node element) ts k = walked ts k
  name_by_of (Join run t) ts k = walked ts k

  -- the names by the choices from the k-th on
  unfoldable pub chosen_named : List Constraint → ℕ → List ℕ → List ℕ
  chosen_named [] k ts = ts
  chosen_named (Sub l r ∷ cs) k ts = chosen_named cs k ts
  chosen_named (Lit p kind ∷ cs) k ts = chosen_named cs k ts
  chosen_named (Disjunction x p run ∷ cs) k ts =
      named n (chosen_named cs (k + 1) ts) x.0 (overload_in os run (position_at sc k)).target
  chosen_named (Comprehension body node element ∷ cs) k ts = chosen_named cs k ts
  chosen_named (Join run t ∷ cs) k ts = chosen_named cs k ts
