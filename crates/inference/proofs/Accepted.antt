-- What the checks of the solver say of a call that passes them: lists and bindings that are ready, with the fixed six sorts; a default of the list;
-- expressions and constraints whose places, sorts and runs are those of the lists; and at most one disjunction for an expression, which is one of the call's.
-- The checks, taken apart. So a call is refused, with the code of a check, or it is accepted and searched. Assumes nothing.
use mathlib.Core.Path.{◌≡◌, refl, sym, subst}
use mathlib.Core.Bool.{true, ◌&&◌, and-eq-true_iff}
use mathlib.Core.List.{List}
use Prim.Native.Nat.{ℕ, ◌+◌, ◌*◌, ◌<◌, ◌≤◌}
use native.Mathlib.Omega.{arith}
use lib.Dec.{leb, ltb}
use lib.ListN.{length, get_or, take, drop}
use borrow.Author.Tests.{ltb-true, leb-true}
use Rattle.std.specs.Prelude.{Ok, Err}
use Rattle.resolved_sort.specs.declared.Run.{Run}
use Rattle.resolved_sort.specs.declared.Refusal.{Refusal}
use Rattle.resolved_sort.specs.declared.Refusal.TheVariants.{NotLent, NotFixedSix, BadSort, EqualSorts, BadNode, BadBinding}
use Rattle.resolved_sort.specs.declared.Refusal.TheVariants.{Cyclic, BadExpression, BadConstraint, TwoForOne, BadJoin}
use Rattle.resolved_sort.specs.declared.Refusal.TheVariants.{NotInList, NoText, TooShort, SortsFull, NodesFull, LongLine}
use Rattle.resolved_sort.specs.Checks.{code_of, first_failing, within_lent, fixed_six, rows_fine, no_two_equal, at_ceiling, Tested}
use Rattle.resolved_sort.specs.Entries.{refused_or}
use Rattle.resolved_sort.proofs.Below.{below_each}
use Rattle.resolved_sort.proofs.FirstFailing.{cons_passes}
use Rattle.unification.specs.Nodes.{full_nodes, binds_of}
use Rattle.unification.specs.Acyclic.{acyclic}
use Rattle.unification.specs.NodeChecks.{nodes_within_lent, bindings_within_lent, nodes_fine, bindings_fine, node_checks}
use Rattle.unification.specs.Checked.{Ready}
use Rattle.unification.specs.Making.{Lent}
use Rattle.unification.specs.Growing.{PlacedIn}
use Rattle.unification.proofs.Passed.{passed_ready}
use Rattle.inference.specs.declared.Overload.{Overload}
use Rattle.inference.specs.declared.Constraint.{Constraint}
use Rattle.inference.specs.declared.Constraint.TheVariants.{Sub, Lit, Disjunction, Comprehension, Join}
use Rattle.inference.specs.Constraints.{max_components, constraint_at, overload_at, Problem}
use Rattle.inference.specs.Names.{overload_in}
use Rattle.inference.specs.SolveChecks.{Call, placed, given, disjunction_for, disjunctions, no_two, keys, rows_within_lent}
use Rattle.inference.specs.SolveChecks.{all_within_lent, exprs_fine, names_fine, overload_fine, target_fine, run_fine}
use Rattle.inference.specs.SolveChecks.{constraint_fine, constraints_fine, outputs_long, long_enough, solve_checks}
use Rattle.inference.specs.SolveChecks.{joins_fine, components as componentCount}
use Rattle.inference.specs.SolveEntry.{problem_of, lent_of, SolveLeft, searched, refused, verdict, nothing_met, solve_entry}
use Rattle.inference.specs.Typing.{All, none_left, and_all}
use Rattle.inference.proofs.Members.{length_rows, all_rows, row_at_lem, all_rows_at, run_at}
use Rattle.inference.specs.Inner.Listed.{ListedConstraint, sub_listed, lit_listed, disjunction_listed, comprehension_listed, join_listed}

-- no refusal has the code 0
pub refusal_above_0 : (r : Refusal) → 0 < code_of r
unfolding code_of
refusal_above_0 NotLent = omega arith
refusal_above_0 NotFixedSix = omega arith
refusal_above_0 BadSort = omega arith
refusal_above_0 EqualSorts = omega arith
refusal_above_0 BadNode = omega arith
refusal_above_0 BadBinding = omega arith
refusal_above_0 Cyclic = omega arith
refusal_above_0 BadExpression = omega arith
refusal_above_0 BadConstraint = omega arith
refusal_above_0 TwoForOne = omega arith
refusal_above_0 BadJoin = omega arith
refusal_above_0 NotInList = omega arith
refusal_above_0 NoText = omega arith
refusal_above_0 TooShort = omega arith
refusal_above_0 SortsFull = omega arith
refusal_above_0 NodesFull = omega arith
refusal_above_0 LongLine = omega arith

module _ (I : Call) where
  abbrev W : Lent
  W = lent_of I

  abbrev P : Problem
  P = problem_of I

  overloads_inside : (run : Run) → run_fine I I.rows.overloads (overload_fine I) run ≡ true → run.start + run.count ≤ length P.overloads
  overloads_inside run f =
      let x = (and-eq-true_iff (leb (run.start + run.count) I.rows.overloads) _).0 f in
      omega (arith, leb-true (run.start + run.count) I.rows.overloads x.0, length_rows (overload_at I.overloads) 0 I.rows.overloads)

  overload_placed : (run : Run) → run_fine I I.rows.overloads (overload_fine I) run ≡ true → (i : ℕ)
      → i < run.count → PlacedIn W (overload_in P.overloads run i).sort.0
  unfolding overload_fine
  overload_placed run f i l =
      let x = (and-eq-true_iff (leb (run.start + run.count) I.rows.overloads) _).0 f in
      let s = leb-true (run.start + run.count) I.rows.overloads x.0 in
      let y = below_each run.count (λ j. overload_fine I (run.start + j)) x.1 i l in
      let z = (and-eq-true_iff (target_fine I (get_or I.overloads (3 * (run.start + i)) 0) (get_or I.overloads (3 * (run.start + i) + 1) 0)) _).0 y in
      subst (λ (o : Overload). PlacedIn W o.sort.0) (sym (row_at_lem (overload_at I.overloads) _
      I.rows.overloads (run.start + i) (omega (arith, s, l)))) z.1

  sources_placed : (run : Run) → run_fine I I.rows.sources (λ j. placed I (get_or I.sources j 0)) run ≡ true
      → (run.start + run.count ≤ length P.sources) × All (PlacedIn W) (take run.count (drop run.start P.sources))
  sources_placed run f =
      let x = (and-eq-true_iff (leb (run.start + run.count) I.rows.sources) _).0 f in
      let s = leb-true (run.start + run.count) I.rows.sources x.0 in (
        omega (arith, s, length_rows (λ i. get_or I.sources i 0) 0 I.rows.sources),
        subst (All (PlacedIn W)) (sym (run_at (λ i. get_or I.sources i 0) I.rows.sources run.start run.count s))
            (all_rows (PlacedIn W) (λ i. get_or I.sources i 0) run.start run.count (λ j l. below_each
            run.count (λ j. placed I (get_or I.sources (run.start + j) 0)) x.1 j l)),
      )

  listed_by : (b : ℕ) (c : Constraint) → constraint_fine I b c ≡ true → ListedConstraint W P c
  listed_by b (Sub l r) f = let x = (and-eq-true_iff (placed I l.0) (placed I r.0)).0 f in sub_listed l r x.0 x.1
  listed_by b (Lit p kind) f = lit_listed p kind ((and-eq-true_iff (placed I p.0) (leb b 1)).0 f).0
  listed_by b (Disjunction x p run) f =
      let y = (and-eq-true_iff (ltb x.0 I.rows.exprs && placed I p.0) (run_fine I I.rows.overloads (overload_fine I) run)).0 f in
      let z = (and-eq-true_iff (ltb x.0 I.rows.exprs) (placed I p.0)).0 y.0 in
      disjunction_listed x p run z.1 (overloads_inside run y.1) (overload_placed run y.1)
  listed_by b (Comprehension body node element) f =
      let x = (and-eq-true_iff (placed I body.0 && placed I node.0) (ltb element.0 I.lengths.sorts)).0 f in
      let y = (and-eq-true_iff (placed I body.0) (placed I node.0)).0 x.0 in
      comprehension_listed body node element y.0 y.1 (ltb-true element.0 I.lengths.sorts x.1)
  listed_by b (Join run t) f =
      let x = (and-eq-true_iff (placed I t.0) (run_fine I I.rows.sources (λ j. placed I (get_or I.sources j 0)) run)).0 f in
      let y = sources_placed run x.1 in
      join_listed run t x.0 y.0 y.1

  constraint_is_fine : constraints_fine I ≡ true → (j : ℕ) → j < I.rows.constraints
      → constraint_fine I (get_or I.constraints (5 * j + 2) 0) (constraint_at I.constraints j) ≡ true
  unfolding constraints_fine
  constraint_is_fine f j l =
      let x = below_each I.rows.constraints (λ i. leb (get_or I.constraints (5 * i) 0) 4 && constraint_fine I
      (get_or I.constraints (5 * i + 2) 0) (constraint_at I.constraints i)) f j l in
      ((and-eq-true_iff (leb (get_or I.constraints (5 * j) 0) 4) (constraint_fine I (get_or I.constraints (5 * j + 2)
      0) (constraint_at I.constraints j))).0 x).1

  constraint_listed : constraints_fine I ≡ true → (j : ℕ) → j < I.rows.constraints → ListedConstraint W P (constraint_at I.constraints j)
  constraint_listed f j l = listed_by (get_or I.constraints (5 * j + 2) 0) (constraint_at I.constraints j) (constraint_is_fine f j l)

  -- a disjunction is for an expression of the call
  abbrev ForExpression : Constraint → Type 0
  ForExpression c = (xs : List ℕ) → All (λ x. x < I.rows.exprs) xs → All (λ x. x < I.rows.exprs) (disjunction_for c xs)

  for_expression : (b : ℕ) (c : Constraint) → constraint_fine I b c ≡ true → ForExpression c
  for_expression b (Sub l r) f xs a = a
  for_expression b (Lit p kind) f xs a = a
  for_expression b (Disjunction x p run) f xs a =
      let y = (and-eq-true_iff (ltb x.0 I.rows.exprs && placed I p.0) (run_fine I I.rows.overloads (overload_fine I) run)).0 f in
      let z = (and-eq-true_iff (ltb x.0 I.rows.exprs) (placed I p.0)).0 y.0 in
      and_all x.0 xs (ltb-true x.0 I.rows.exprs z.0) a
  for_expression b (Comprehension body node element) f xs a = a
  for_expression b (Join run t) f xs a = a

  all_for_expressions : (cs : List Constraint) → All ForExpression cs → All (λ x. x < I.rows.exprs) (disjunctions cs)
  unfolding disjunctions
  all_for_expressions _ none_left = none_left
  all_for_expressions _ (and_all c cs f a) = f (disjunctions cs) (all_for_expressions cs a)

  pub within : all_within_lent I ≡ true
      → (within_lent I.sorts I.lengths.sorts I.lengths.entries ≡ true) × (nodes_within_lent I.nodes
      I.lengths.nodes I.lengths.arguments ≡ true)
      × (bindings_within_lent I.binds I.lengths.variables ≡ true) × (rows_within_lent I ≡ true)
  unfolding all_within_lent
  within f =
      let a = within_lent I.sorts I.lengths.sorts I.lengths.entries in
      let b = nodes_within_lent I.nodes I.lengths.nodes I.lengths.arguments in
      let c = bindings_within_lent I.binds I.lengths.variables in
      let x = (and-eq-true_iff (a && b && c) (rows_within_lent I)).0 f in
      let y = (and-eq-true_iff (a && b) c).0 x.0 in
      let z = (and-eq-true_iff a b).0 y.0 in
      (z.0, z.1, y.1, x.1)

  long : long_enough I ≡ true → (at_ceiling I.sorts ≡ true) × (leb full_nodes (length I.nodes) ≡ true)
  unfolding long_enough
  long f =
      let x = (and-eq-true_iff (at_ceiling I.sorts && leb full_nodes (length I.nodes)) (outputs_long I)).0 f in
      (and-eq-true_iff (at_ceiling I.sorts) (leb full_nodes (length I.nodes))).0 x.0

  -- The checks of a call, each of which passes: 1, 2 to 4, 5 to 7, 8 to 12, 14.
  pub record Passing : Type 0 where
    pub within_lent : all_within_lent I ≡ true
    pub six : fixed_six I.sorts I.lengths.sorts ≡ true
    pub rows : rows_fine I.sorts I.lengths.sorts I.lengths.entries ≡ true
    pub differ : no_two_equal I.sorts I.lengths.sorts ≡ true
    pub nodes : nodes_fine I.nodes I.lengths.nodes I.lengths.arguments I.lengths.sorts I.lengths.variables ≡ true
    pub binds : bindings_fine I.lengths.sorts I.lengths.nodes (binds_of I.binds I.lengths.variables) ≡ true
    pub no_cycle : acyclic I.nodes I.lengths.nodes (binds_of I.binds I.lengths.variables) ≡ true
    pub exprs_and_names : (exprs_fine I && names_fine I) ≡ true
    pub constraints : constraints_fine I ≡ true
    pub one_each : (no_two (disjunctions (given I)) && no_two (keys I)) ≡ true
    pub components : (joins_fine (given I) && leb (componentCount (given I)) max_components) ≡ true
    pub default : ltb I.default I.lengths.sorts ≡ true
    pub long : long_enough I ≡ true

  pub passing : first_failing (solve_checks I) ≡ Ok tt → Passing
  unfolding solve_checks node_checks
  passing x =
      let c₁ = cons_passes _ _ x in
      let c₂ = cons_passes _ _ c₁.1 in
      let c₃ = cons_passes _ _ c₂.1 in
      let c₄ = cons_passes _ _ c₃.1 in
      let c₅ = cons_passes _ _ c₄.1 in
      let c₆ = cons_passes _ _ c₅.1 in
      let c₇ = cons_passes _ _ c₆.1 in
      let c₈ = cons_passes _ _ c₇.1 in
      let c₉ = cons_passes _ _ c₈.1 in
      let c₁₀ = cons_passes _ _ c₉.1 in
      let c₁₁ = cons_passes _ _ c₁₀.1 in
      let c₁₂ = cons_passes _ _ c₁₁.1 in
      let c₁₄ = cons_passes _ _ c₁₂.1 in
      record {
        within_lent = c₁.0;
        six = c₂.0;
        rows = c₃.0;
        differ = c₄.0;
        nodes = c₅.0;
        binds = c₆.0;
        no_cycle = c₇.0;
        exprs_and_names = c₈.0;
        constraints = c₉.0;
        one_each = c₁₀.0;
        components = c₁₁.0;
        default = c₁₂.0;
        long = c₁₄.0;
      }

  -- A call that no check refuses.
  pub record Accepted : Type 0 where
    pub ready : Ready I.sorts I.nodes I.binds I.lengths
    pub six : fixed_six I.sorts I.lengths.sorts ≡ true
    pub default : I.default < I.lengths.sorts
    pub exprs : All (PlacedIn W) P.exprs
    pub constraints : All (ListedConstraint W P) P.constraints
    pub one_disjunction_each : no_two (disjunctions P.constraints) ≡ true
    pub for_expressions : All (λ x. x < I.rows.exprs) (disjunctions P.constraints)

  pub accepted : first_failing (solve_checks I) ≡ Ok tt → Accepted
  unfolding solve_checks node_checks all_within_lent exprs_fine constraints_fine long_enough
  accepted x =
      let c = passing x in
      let w = within c.within_lent in
      let l = long c.long in
      let e = (and-eq-true_iff (exprs_fine I) (names_fine I)).0 c.exprs_and_names in
      record {
        ready =
            passed_ready I.sorts I.lengths.sorts I.lengths.entries I.nodes I.lengths.nodes
            I.lengths.arguments I.binds I.lengths.variables w.0 w.1 w.2 c.rows c.differ
            c.nodes
            c.binds c.no_cycle l.0 l.1;
        six = c.six;
        default = ltb-true I.default I.lengths.sorts c.default;
        exprs = all_rows_at (PlacedIn W) (λ i. get_or I.exprs i 0) I.rows.exprs (λ j m. below_each
            I.rows.exprs (λ i. placed I (get_or I.exprs i 0)) e.0 j m);
        constraints = all_rows_at (ListedConstraint W P) (constraint_at I.constraints) I.rows.constraints (constraint_listed c.constraints);
        one_disjunction_each = ((and-eq-true_iff (no_two (disjunctions (given I))) (no_two (keys I))).0 c.one_each).0;
        for_expressions = all_for_expressions (given I) (all_rows_at ForExpression (constraint_at I.constraints) I.rows.constraints
            (λ j m. for_expression (get_or I.constraints (5 * j + 2) 0) (constraint_at I.constraints j) (constraint_is_fine c.constraints j m)));
      }

  -- By the first check that fails, or where none does.
  pub refused_or_searched : (T : SolveLeft → Type 0) → ((c : Refusal) → 0 < code_of c → T (refused I c))
      → (Accepted → T (verdict I (searched (Unit {0}) nothing_met tt I))) → T (solve_entry I)
  unfolding solve_entry
  refused_or_searched T r a = go (first_failing (solve_checks I)) refl
    where
      go : (x : Tested) → first_failing (solve_checks I) ≡ x → T (refused_or x (refused I) (verdict I (searched (Unit {0}) nothing_met tt I)))
      go (Ok u) q = a (accepted q)
      go (Err c) q = r c (refusal_above_0 c)

  pub passed_is_searched : first_failing (solve_checks I) ≡ Ok tt → solve_entry I ≡ verdict I (searched (Unit {0}) nothing_met tt I)
  unfolding solve_entry
  passed_is_searched e = rw e
