-- Checks 8 to 12 and 14 of the solver, each true where the check passes, and the checks of its call in order.
use Rattle.std.specs.Prelude.{Bool, true, false, cond, not, ◌&&◌, List, [], ◌∷◌, ◌++◌, ℕ, ◌+◌, ◌*◌, eqb, leb, ltb, length, get_or}
use Rattle.resolved_sort.specs.declared.Refusal.TheVariants.{NotLent, BadExpression, BadConstraint, TwoForOne, BadJoin, NotInList, TooShort}
use Rattle.resolved_sort.specs.declared.Run.{Run}
use Rattle.resolved_sort.specs.Checks.{Check, all_below, within_lent, at_ceiling, sort_row_checks}
use Rattle.resolved_sort.specs.Index.{index_long}
use Rattle.unification.specs.declared.Lengths.{Lengths}
use Rattle.unification.specs.Nodes.{full_nodes, is_place}
use Rattle.unification.specs.NodeChecks.{nodes_within_lent, bindings_within_lent, node_checks}
use Rattle.inference.specs.declared.Rows.{Rows}
use Rattle.inference.specs.declared.Constraint.{Constraint}
use Rattle.inference.specs.declared.Constraint.TheVariants.{Sub, Lit, Disjunction, Comprehension, Join}
use Rattle.inference.specs.Constraints.{max_exprs, max_constraints, max_overloads, max_sources}
use Rattle.inference.specs.Constraints.{max_components, constraint_words, overload_words, name_words}
use Rattle.inference.specs.Constraints.{constraint_at, rows_from}

-- What a call is given: sorts, nodes and bindings with their lengths; the places of expressions,
-- base names, constraints, overloads and sources with how many rows each has; the default sort;
-- scratch, and the index of sorts; and what its outputs are to be written to, a row for each
-- expression (its sort and its name, three words), for each component (one word) and for each choice
-- (two words).
pub record Call : Type 0 where
  pub sorts : List ℕ
  pub nodes : List ℕ
  pub binds : List ℕ
  pub lengths : Lengths
  pub exprs : List ℕ
  pub names : List ℕ
  pub constraints : List ℕ
  pub overloads : List ℕ
  pub sources : List ℕ
  pub rows : Rows
  pub default : ℕ
  pub scratch : List ℕ
  pub index : List ℕ
  pub typing : List ℕ
  pub measure : List ℕ
  pub choices : List ℕ

-- "scratch of 4,096 words"
abbrev pub scratch_words : ℕ
scratch_words = 4096

-- the words of a row handed out, for an expression and for a choice
abbrev pub typing_words : ℕ
typing_words = 3

abbrev pub choice_words : ℕ
choice_words = 2

module _ (I : Call) where
  -- a number that names a place, and one that names a sort
  abbrev pub placed : ℕ → Bool
  placed p = is_place I.lengths.sorts I.lengths.nodes p

  abbrev pub listed : ℕ → Bool
  listed s = ltb s I.lengths.sorts

  -- 1. "A given list is above its ceiling or longer than the storage lent for it." Base names have no ceiling.
  unfoldable pub rows_within_lent : Bool
  rows_within_lent =
      leb I.rows.exprs max_exprs && leb I.rows.exprs (length I.exprs)
      && leb (name_words * I.rows.names) (length I.names)
      && leb I.rows.constraints max_constraints
      && leb (constraint_words * I.rows.constraints) (length I.constraints)
      && leb I.rows.overloads max_overloads
      && leb (overload_words * I.rows.overloads) (length I.overloads)
      && leb I.rows.sources max_sources && leb I.rows.sources (length I.sources)

  unfoldable pub all_within_lent : Bool
  all_within_lent =
      within_lent I.sorts I.lengths.sorts I.lengths.entries
      && nodes_within_lent I.nodes I.lengths.nodes I.lengths.arguments
      && bindings_within_lent I.binds I.lengths.variables
      && rows_within_lent

  -- a name target: its kind is 1, 2 or 3, and an operation's sort is in the list
  unfoldable pub target_fine : ℕ → ℕ → Bool
  target_fine kind sort = ltb 0 kind && leb kind 3 && cond (eqb kind 2) (listed sort) true

  -- 8. "An expression's place, a base name's key, kind or sort names nothing."
  unfoldable pub exprs_fine : Bool
  exprs_fine = all_below I.rows.exprs (λ i. placed (get_or I.exprs i 0))

  unfoldable pub names_fine : Bool
  names_fine =
      all_below I.rows.names
      (λ i. ltb (get_or I.names (name_words * i) 0) I.rows.exprs
      && target_fine (get_or I.names (name_words * i + 1) 0) (get_or I.names (name_words * i + 2) 0))

  -- 9. "A constraint has an unknown kind, literal kind or overload kind, a run leaving its list, or a place,
  -- expression, element sort, overload place or target sort that names nothing."
  unfoldable pub overload_fine : ℕ → Bool
  overload_fine i =
      target_fine (get_or I.overloads (overload_words * i) 0) (get_or I.overloads (overload_words * i + 1) 0)
      && placed (get_or I.overloads (overload_words * i + 2) 0)

  abbrev pub run_fine : ℕ → (ℕ → Bool) → Run → Bool
  run_fine n fine run = leb (run.start + run.count) n && all_below run.count (λ j. fine (run.start + j))

  -- by what the row says; its literal kind is the word b
  abbrev pub constraint_fine : ℕ → Constraint → Bool
  constraint_fine b (Sub l r) = placed l.0 && placed r.0
  constraint_fine b (Lit p kind) = placed p.0 && leb b 1
  constraint_fine b (Disjunction x p run) =
      ltb x.0 I.rows.exprs && placed p.0 && run_fine I.rows.overloads overload_fine run
  constraint_fine b (Comprehension body node element) =
      placed body.0 && placed node.0 && listed element.0
  constraint_fine b (Join run t) =
      placed t.0 && run_fine I.rows.sources (λ j. placed (get_or I.sources j 0)) run

  unfoldable pub constraints_fine : Bool
  constraints_fine =
      all_below I.rows.constraints
      (λ i. leb (get_or I.constraints (constraint_words * i) 0) 4
      && constraint_fine (get_or I.constraints (constraint_words * i + 2) 0) (constraint_at I.constraints i))

  abbrev pub given : List Constraint
  given = rows_from (constraint_at I.constraints) 0 I.rows.constraints

-- 10. "Two disjunctions, or two base names, are for one expression."
abbrev pub disjunction_for : Constraint → List ℕ → List ℕ
disjunction_for (Sub l r) xs = xs
disjunction_for (Lit p kind) xs = xs
disjunction_for (Disjunction x p run) xs = x.0 ∷ xs
disjunction_for (Comprehension body node element) xs = xs
disjunction_for (Join run t) xs = xs

unfoldable pub disjunctions : List Constraint → List ℕ
disjunctions [] = []
disjunctions (c ∷ cs) = disjunction_for c (disjunctions cs)

unfoldable pub among : ℕ → List ℕ → Bool
among x [] = false
among x (y ∷ ys) = cond (eqb x y) true (among x ys)

unfoldable pub no_two : List ℕ → Bool
no_two [] = true
no_two (x ∷ xs) = not (among x xs) && no_two xs

-- 11. "A Join has no sources .., or there would be more than 256 measure components."
abbrev pub has_sources : Constraint → Bool
has_sources (Sub l r) = true
has_sources (Lit p kind) = true
has_sources (Disjunction x p run) = true
has_sources (Comprehension body node element) = true
has_sources (Join run t) = ltb 0 run.count

unfoldable pub joins_fine : List Constraint → Bool
joins_fine [] = true
joins_fine (c ∷ cs) = has_sources c && joins_fine cs

-- "one per Sub, per Lit, per Join source"
abbrev pub components_of : Constraint → ℕ
components_of (Sub l r) = 1
components_of (Lit p kind) = 1
components_of (Disjunction x p run) = 0
components_of (Comprehension body node element) = 0
components_of (Join run t) = run.count

unfoldable pub components : List Constraint → ℕ
components [] = 0
components (c ∷ cs) = components_of c + components cs

-- 14. "An output or the scratch is too short", with sorts and nodes at their ceilings; C-14: "The index is scratch of
-- its own, 2,048 words, 14 when shorter"
unfoldable pub outputs_long : Call → Bool
outputs_long I =
    leb scratch_words (length I.scratch)
    && index_long I.index
    && leb (typing_words * I.rows.exprs) (length I.typing)
    && leb (components (given I)) (length I.measure)
    && leb (choice_words * length (disjunctions (given I))) (length I.choices)

unfoldable pub long_enough : Call → Bool
long_enough I = at_ceiling I.sorts && leb full_nodes (length I.nodes) && outputs_long I

abbrev pub keys : Call → List ℕ
keys I = rows_from (λ i. get_or I.names (name_words * i) 0) 0 I.rows.names

-- over the rows of the lists: 8 to 10
abbrev pub row_checks : Call → List Check
row_checks I =
    record { refusal = BadExpression; passes = exprs_fine I && names_fine I }
    ∷ record { refusal = BadConstraint; passes = constraints_fine I }
    ∷ record { refusal = TwoForOne; passes = no_two (disjunctions (given I)) && no_two (keys I) }
    ∷ []

-- over components, the default sort and lent lengths: 11, 12 and 14
abbrev pub last_checks : Call → List Check
last_checks I =
    record { refusal = BadJoin; passes = joins_fine (given I) && leb (components (given I)) max_components }
    ∷ record { refusal = NotInList; passes = listed I I.default }
    ∷ record { refusal = TooShort; passes = long_enough I }
    ∷ []

abbrev pub list_checks : Call → List Check
list_checks I = row_checks I ++ last_checks I

-- the checks of the solver, in order
unfoldable pub solve_checks : Call → List Check
solve_checks I =
    record { refusal = NotLent; passes = all_within_lent I }
    ∷ sort_row_checks I.sorts I.lengths.sorts I.lengths.entries
    ++ node_checks I.nodes I.lengths.nodes I.lengths.arguments I.lengths.sorts I.binds
    I.lengths.variables
    ++ list_checks I
