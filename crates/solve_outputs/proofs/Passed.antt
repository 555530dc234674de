-- What a call that no check refuses gives the search to begin with, and what comes after the search: counts and rows
-- within their ceilings, room in the outputs,
-- and a first branch. The checks taken apart; the packed lists say the call's problem. Assumes nothing.
use mathlib.Core.Path.{◌≡◌, refl, sym, ap, subst, ◌∙◌}
use mathlib.Core.Bool.{true, ◌&&◌}
use mathlib.Core.List.{List, [], ◌∷◌}
use Prim.Native.Nat.{ℕ, ◌*◌, ◌≤◌}
use native.Mathlib.Omega.{arith}
use lib.Dec.{leb, eqb}
use lib.ListN.{length}
use borrow.Author.Tests.{leb-true}
use Rattle.std.specs.Prelude.{Ok}
use Rattle.resolved_sort.specs.Storage.{kind_at}
use Rattle.resolved_sort.specs.Index.{slots, index_long}
use Rattle.resolved_sort.specs.Checks.{first_failing, all_below, fixed_six, at_ceiling}
use Rattle.resolved_sort.proofs.Below.{and_left, and_right}
use Rattle.unification.specs.Nodes.{full_nodes, binds_of}
use Rattle.unification.proofs.Equations.{frees_few}
use Rattle.unification.proofs.Passed.{length_binds}
use Rattle.inference.specs.declared.Constraint.{Constraint}
use Rattle.inference.specs.declared.Constraint.TheVariants.{Sub, Lit, Disjunction, Comprehension, Join}
use Rattle.inference.specs.Constraints.{max_components, constraint_at, Problem}
use Rattle.inference.specs.SolveChecks.{Call, scratch_words, given, disjunctions, no_two, joins_fine, components, outputs_long, long_enough, solve_checks}
use Rattle.inference.specs.SolveEntry.{problem_of, lent_of}
use Rattle.inference.proofs.Members.{length_rows, rows_all_left}
use Rattle.inference.specs.Inner.RowsLent.{RowsLent}
use Rattle.inference.proofs.RowsLent.{rows_lent}
use Rattle.inference.proofs.Accepted.{Accepted, accepted, within, Passing, passing}
use Rattle.search_state.specs.declared.Next.TheVariants.{Solve}
use Rattle.search_state.specs.Inner.Memory.{problem_in, rest_from, chosen_exprs, problem_words}
use Rattle.search_state.specs.Inner.Searching.{Suits, Sized, Searching}
use Rattle.problem_words.specs.Inner.Packed.{problem_from, Packable}
use Rattle.solve_outputs.specs.Inner.Begin.{CountsFit, RowsFit, sizes_of, no_incumbent, nothing_taken}
use Rattle.solve_outputs.specs.Inner.Finish.{Handable}

-- at most one disjunction for a constraint
few_disjunctions : (cs : List Constraint) → length (disjunctions cs) ≤ length cs
unfolding disjunctions
few_disjunctions [] = omega arith
few_disjunctions (Sub l r ∷ cs) = omega (arith, few_disjunctions cs)
few_disjunctions (Lit p kind ∷ cs) = omega (arith, few_disjunctions cs)
few_disjunctions (Disjunction x p run ∷ cs) = omega (arith, few_disjunctions cs)
few_disjunctions (Comprehension body node element ∷ cs) = omega (arith, few_disjunctions cs)
few_disjunctions (Join run t ∷ cs) = omega (arith, few_disjunctions cs)

-- check 14 of scratch, index and outputs
pub record OutputsLent (I : Call) : Type 0 where
  pub scratch : scratch_words ≤ length I.scratch
  pub index : slots ≤ length I.index
  pub typing : 3 * I.rows.exprs ≤ length I.typing
  pub measure : components (given I) ≤ length I.measure
  pub choices : 2 * length (disjunctions (given I)) ≤ length I.choices

outputs_lent : (I : Call) → long_enough I ≡ true → OutputsLent I
unfolding long_enough outputs_long index_long
outputs_lent I f =
    let a = leb scratch_words (length I.scratch) in
    let i = leb slots (length I.index) in
    let b = leb (3 * I.rows.exprs) (length I.typing) in
    let c = leb (components (given I)) (length I.measure) in
    let d = leb (2 * length (disjunctions (given I))) (length I.choices) in
    let x₄ = and_right (at_ceiling I.sorts && leb full_nodes (length I.nodes)) (a && i && b && c && d) f in
    let x₃ = and_left (a && i && b && c) d x₄ in
    let x₂ = and_left (a && i && b) c x₃ in
    let x₁ = and_left (a && i) b x₂ in
    record {
      scratch = leb-true scratch_words (length I.scratch) (and_left a i x₁);
      index = leb-true slots (length I.index) (and_right a i x₁);
      typing = leb-true (3 * I.rows.exprs) (length I.typing) (and_right (a && i) b x₂);
      measure = leb-true (components (given I)) (length I.measure) (and_right (a && i && b) c x₃);
      choices = leb-true (2 * length (disjunctions (given I))) (length I.choices) (and_right (a && i && b && c) d x₄);
    }

module _ (I : Call) (x : first_failing (solve_checks I) ≡ Ok tt) where
  all_pass : Passing I
  all_pass = passing I x

  pub passed_accepted : Accepted I
  passed_accepted = accepted I x

  pub passed_rows : RowsLent I
  passed_rows = rows_lent I (within I all_pass.within_lent).3

  pub passed_outputs : OutputsLent I
  passed_outputs = outputs_lent I all_pass.long

  pub counts_fit : CountsFit I.lengths
  counts_fit =
      let c = passed_accepted.ready.nodes in
      record { sorts = c.sorts.sorts; entries = c.sorts.entries; nodes = c.nodes; arguments = c.entries; variables = c.variables }

  pub rows_fit : RowsFit I
  rows_fit =
      let r = passed_rows in
      record {
        exprs = r.exprs;
        constraints = r.constraints;
        overloads = r.overloads;
        sources = r.sources;
        components = leb-true (components (given I)) max_components (and_right (joins_fine (given I))
            (leb (components (given I)) max_components) all_pass.components);
        disjunctions = omega (arith, few_disjunctions (given I), length_rows (constraint_at I.constraints) 0 I.rows.constraints, r.constraints);
      }

  -- the lists can be packed, and say the problem then
  pub packable : (ls : List ℕ) → problem_words ≤ length ls → Packable ls I.exprs I.constraints I.overloads I.sources (sizes_of I)
  unfolding sizes_of
  packable ls l =
      let r = passed_rows in
      record {
        exprs = r.exprs;
        constraints = r.constraints;
        overloads = r.overloads;
        sources = r.sources;
        expr_words = r.expr_words;
        constraint_words = r.constraint_words;
        overload_words = r.overload_words;
        source_words = r.source_words;
        room = l;
      }

  -- the base names are all in the words lent for them
  pub names_whole : 3 * I.rows.names ≤ length I.names
  names_whole = passed_rows.name_words

  module _ (ls : List ℕ) (p : problem_in ls (sizes_of I) ≡ problem_of I) where
    suits : Suits (lent_of I) (problem_in ls (sizes_of I))
    unfolding fixed_six
    suits =
        let A = passed_accepted in
        subst (Suits (lent_of I)) (sym p)
        (record {
          six = leb-true 6 I.lengths.sorts (and_left (leb 6 I.lengths.sorts) (all_below 6 (λ i. eqb (kind_at I.sorts i) i)) A.six);
          default = A.default;
          exprs = A.exprs;
          constraints = A.constraints;
        })

    pub sized : Sized (problem_in ls (sizes_of I)) (sizes_of I)
    unfolding sizes_of
    sized =
        let r = rows_fit in
        record {
          exprs = r.exprs;
          constraints = r.constraints;
          overloads = r.overloads;
          sources = r.sources;
          components = ap (λ (P : Problem). components P.constraints) p;
          few_components = r.components;
          disjunctions = ap (λ (P : Problem). length (disjunctions P.constraints)) p;
          few_disjunctions = r.disjunctions;
        }

    pub rest_is_all : rest_from ls (sizes_of I) 0 ≡ given I
    unfolding problem_in
    rest_is_all = rows_all_left (constraint_at ls) (sizes_of I).constraints ∙ ap (λ (P : Problem). P.constraints) p

    -- what the search asks for, before the first constraint
    pub begins : Searching I.sorts I.nodes I.binds I.scratch ls (sizes_of I) (no_incumbent I.lengths) nothing_taken 0 [] (Solve 0)
    unfolding chosen_exprs sizes_of
    begins =
        let A = passed_accepted in
        record {
          ready = A.ready;
          suits = suits;
          sized = sized;
          long = omega (arith, passed_outputs.scratch);
          trail = omega (
            arith,
            frees_few (binds_of I.binds I.lengths.variables),
            length_binds I.binds
                I.lengths.variables,
            A.ready.nodes.variables,
          );
          fine = omega arith;
          measure = let z : components (rest_from ls (sizes_of I) 0) ≡ components (given I) = ap components rest_is_all in omega (arith, z);
          choices = refl;
          few = omega arith;
        }

    pub handable : (sc : List ℕ) → length sc ≡ length I.scratch → Handable sc ls (sizes_of I) I.typing I.measure I.choices
    unfolding sizes_of chosen_exprs
    handable sc l =
        record {
          sized = sized;
          used = omega (arith, passed_outputs.scratch, l);
          typing = passed_outputs.typing;
          measure = passed_outputs.measure;
          choices = passed_outputs.choices;
          one_each = ap (λ cs. no_two (disjunctions cs)) rest_is_all ∙ passed_accepted.one_disjunction_each;
        }

pub packed_problem : (I : Call) → problem_from I.exprs I.constraints I.overloads I.sources (sizes_of I) ≡ problem_of I
unfolding sizes_of
packed_problem I = refl
