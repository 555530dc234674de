-- Records past the ceiling change nothing, so the first 1,024 may stand for all. A count above the ceiling is refused
-- by check 1, whatever the overloads are. Under
-- another count only the words of its rows are looked at: by the checks, by the search and by the names handed out; and these words both lists share.
-- Assumes nothing.
use mathlib.Core.Path.{◌≡◌, refl, sym, ap, ap₂, ◌∙◌}
use mathlib.Core.Bool.{Bool, true, false, ◌&&◌}
use mathlib.Core.List.{List, [], ◌∷◌, ◌++◌}
use mathlib.Core.Option.{Option, none, some}
use Prim.Native.Nat.{ℕ, zero, suc, ◌+◌, ◌*◌, ◌<◌, ◌≤◌, min}
use native.Mathlib.Omega.{arith}
use lib.Dec.{leb, ltb}
use lib.ListN.{length, get_or, take, length-take}
use lib.Seq.{get_or-take}
use borrow.Author.Tests.{leb-true, leb-false, le-leb}
use Rattle.std.specs.Prelude.{Ok, Err}
use Rattle.resolved_sort.specs.declared.Refusal.TheVariants.{NotLent, BadExpression, BadConstraint, TwoForOne, BadJoin, NotInList, TooShort}
use Rattle.resolved_sort.specs.Checks.{Check, first_failing, all_below, sort_row_checks, Tested}
use Rattle.resolved_sort.specs.Entries.{refused_or}
use Rattle.resolved_sort.proofs.FirstFailing.{first_fails}
use Rattle.unification.specs.NodeChecks.{node_checks}
use Rattle.unification.specs.Making.{Lent}
use Rattle.inference.specs.declared.Overload.{Overload}
use Rattle.inference.specs.declared.Constraint.{Constraint}
use Rattle.inference.specs.declared.Constraint.TheVariants.{Sub, Lit, Disjunction, Comprehension, Join}
use Rattle.inference.specs.declared.Verdict.TheVariants.{Typing}
use Rattle.inference.specs.Constraints.{max_overloads, max_components, target, constraint_at, overload_at, Problem}
use Rattle.inference.specs.Search.{Candidate, Out, found, missed, ended, solve}
use Rattle.inference.specs.SolveChecks.{Call, placed, listed, given, disjunctions, no_two, keys, joins_fine}
use Rattle.inference.specs.SolveChecks.{components, rows_within_lent, all_within_lent, target_fine, exprs_fine, names_fine}
use Rattle.inference.specs.SolveChecks.{overload_fine, constraint_fine, constraints_fine, outputs_long, long_enough}
use Rattle.inference.specs.SolveChecks.{solve_checks}
use Rattle.inference.specs.Rising.{rising}
use Rattle.inference.specs.SolveEntry.{problem_of, base_names_of, start_path, lent_of, searched, SolveLeft, left_with}
use Rattle.inference.specs.SolveEntry.{refused, typing_rows, choice_rows, written_over, counts_in, judged_by, judged}
use Rattle.inference.specs.SolveEntry.{verdict, nothing_met, solve_entry}
use Rattle.inference.proofs.Members.{rows_same}
use Rattle.inference.proofs.Accepted.{within}
use Rattle.solve_checks.specs.declared.Given.{Given}
use Rattle.solve_checks.specs.Call.{call_of}
use Rattle.inference.proofs.RowsLent.{rows_lent}
use Rattle.solve_records.specs.declared.OverloadRecord.{OverloadRecord}
use Rattle.solve_records.specs.Records.{words_of, record_words}
use Rattle.solve_records.proofs.Unpacked.{three_words_each}

below_same : (p q : ℕ → Bool) (n : ℕ) → ((i : ℕ) → i < n → p i ≡ q i) → all_below n p ≡ all_below n q
unfolding all_below
below_same p q zero h = refl
below_same p q (suc n) h = ap₂ ◌&&◌ (below_same p q n (λ i l. h i (omega (arith, l)))) (h n (omega arith))

leb_same : (a b c d : ℕ) → (a ≤ b → c ≤ d) → (c ≤ d → a ≤ b) → leb a b ≡ leb c d
leb_same a b c d f g = go (leb a b) refl
  where
    go : (t : Bool) → leb a b ≡ t → t ≡ leb c d
    go true e = sym (le-leb c d (f (leb-true a b e)))
    go false e = by (leb c d) refl
      where
        by : (t : Bool) → leb c d ≡ t → false ≡ t
        by true x = absurd (omega (arith, leb-false a b e, g (leb-true c d x)))
        by false x = refl

-- a run inside its list, by what is said of the rows in the list
run_same : (n : ℕ) (p q : ℕ → Bool) → ((i : ℕ) → i < n → p i ≡ q i) → (s c : ℕ)
    → (leb (s + c) n && all_below c (λ j. p (s + j))) ≡ (leb (s + c) n && all_below c (λ j. q (s + j)))
run_same n p q h s c = go (leb (s + c) n) refl
  where
    go : (t : Bool) → leb (s + c) n ≡ t → (t && all_below c (λ j. p (s + j))) ≡ (t && all_below c (λ j. q (s + j)))
    go false e = refl
    go true e = ap (λ (b : Bool). true && b) (below_same (λ j. p (s + j)) (λ j. q (s + j)) c (λ j l. h (s + j) (omega (arith, l, leb-true (s + c) n e))))

module _ (g : Given) (ws ns bs xs ks cs ss sc ix ts ms hs : List ℕ) where
  -- the call with these words of overloads
  abbrev call : List ℕ → Call
  call os = call_of g ws ns bs xs ks cs os ss sc ix ts ms hs

  abbrev n : ℕ
  n = g.overloads

  -- the checks that do not look at overloads, with what the two that do come to
  abbrev checks_with : Bool → Bool → List Check
  checks_with a b =
      record { refusal = NotLent; passes = a }
      ∷ sort_row_checks ws g.sorts g.entries
      ++ node_checks ns g.nodes g.arguments g.sorts bs g.variables
      ++ record { refusal = BadExpression; passes = exprs_fine (call []) && names_fine (call []) }
      ∷ record { refusal = BadConstraint; passes = b }
      ∷ record { refusal = TwoForOne; passes = no_two (disjunctions (given (call []))) && no_two (keys (call [])) }
      ∷ record { refusal = BadJoin; passes = joins_fine (given (call [])) && leb (components (given (call []))) max_components }
      ∷ record { refusal = NotInList; passes = listed (call []) g.default.0 }
      ∷ record { refusal = TooShort; passes = long_enough (call []) }
      ∷ []

  two_look : (os : List ℕ) → solve_checks (call os) ≡ checks_with (all_within_lent (call os)) (constraints_fine (call os))
  unfolding solve_checks exprs_fine names_fine target_fine long_enough outputs_long
  two_look os = refl

  -- a count above the ceiling
  refused_by_1 : (os : List ℕ) → max_overloads < n → solve_entry (call os) ≡ refused (call []) NotLent
  unfolding solve_entry
  refused_by_1 os past = ap (λ (o : Tested). refused_or o (refused (call [])) (verdict (call os) (searched (Unit {0})
      nothing_met tt (call os)))) (fails (all_within_lent (call os)) refl)
    where
      fails : (b : Bool) → all_within_lent (call os) ≡ b → first_failing (solve_checks (call os)) ≡ Err NotLent
      fails true e = absurd (omega (arith, past, (rows_lent (call os) (within (call os) e).3).overloads))
      fails false e = ap first_failing (two_look os) ∙ first_fails _ _ e

  -- words that are the same as far as the rows of the count go
  module _ (os os' : List ℕ) (long : leb (3 * n) (length os) ≡ leb (3 * n) (length os')) (same : (i : ℕ) → i < 3 * n → get_or os i 0 ≡ get_or os' i 0) where
    overload_same : (i : ℕ) → i < n → overload_at os i ≡ overload_at os' i
    overload_same i l =
        let a = same (3 * i) (omega (arith, l)) in
        let b = same (3 * i + 1) (omega (arith, l)) in
        let c = same (3 * i + 2) (omega (arith, l)) in
        λ j. record { target = target (a j) (b j); sort = record { 0 = c j } }

    problem_same : problem_of (call os) ≡ problem_of (call os')
    problem_same =
        ap (λ (rows : List Overload). record {
          constraints = given (call os);
          overloads = rows;
          sources = (problem_of
              (call os)).sources;
          exprs = (problem_of (call os)).exprs;
          default = g.default.0;
        })
        (rows_same (overload_at os) (overload_at os') n overload_same)

    fine_same : (i : ℕ) → i < n → overload_fine (call os) i ≡ overload_fine (call os') i
    unfolding overload_fine target_fine
    fine_same i l =
        let a = same (3 * i) (omega (arith, l)) in
        let b = same (3 * i + 1) (omega (arith, l)) in
        let c = same (3 * i + 2) (omega (arith, l)) in
        λ j. target_fine (call os) (a j) (b j) && placed (call os) (c j)

    constraint_same : (b : ℕ) (c : Constraint) → constraint_fine (call os) b c ≡ constraint_fine (call os') b c
    constraint_same b (Sub l r) = refl
    constraint_same b (Lit p kind) = refl
    constraint_same b (Disjunction x p run) =
        ap (λ (t : Bool). ltb x.0 g.exprs && placed (call os) p.0 && t) (run_same n (overload_fine (call os))
        (overload_fine (call os')) fine_same run.start run.count)
    constraint_same b (Comprehension body node element) = refl
    constraint_same b (Join run t) = refl

    constraints_same : constraints_fine (call os) ≡ constraints_fine (call os')
    unfolding constraints_fine
    constraints_same =
        below_same (λ i. leb (get_or cs (5 * i) 0) 4 && constraint_fine (call os) (get_or cs (5 * i + 2) 0)
        (constraint_at cs i)) (λ i. leb (get_or cs (5 * i) 0) 4 && constraint_fine (call os') (get_or cs (5 * i + 2) 0)
        (constraint_at cs i)) g.constraints
        (λ i l. ap (λ (t : Bool). leb (get_or cs (5 * i) 0) 4 && t) (constraint_same (get_or cs (5 * i + 2) 0) (constraint_at cs i)))

    within_same : all_within_lent (call os) ≡ all_within_lent (call os')
    unfolding all_within_lent rows_within_lent
    within_same = rw long

    checks_same : solve_checks (call os) ≡ solve_checks (call os')
    checks_same = two_look os ∙ (ap₂ checks_with within_same constraints_same ∙ sym (two_look os'))

    by_tie : (W : Lent) (c : Candidate) (b : Bool) → judged_by (call os) W c b ≡ judged_by (call os') W c b
    by_tie W c true = refl
    by_tie W c false =
        ap (λ (P : Problem). left_with (call os) (Ok (Typing (record {
          counts = counts_in W;
          components = length
              c.measure;
          choices = length c.choices;
        }))) W.sorts
        (written_over (typing_rows P (base_names_of (call os)) c.choices 0 c.sorts) ts) (written_over c.measure
        ms) (written_over (choice_rows (rising P c.choices)) hs))
        problem_same

    by_best : (W : Lent) (b : Option Candidate) → judged (call os) W b ≡ judged (call os') W b
    by_best W none = refl
    by_best W (some c) = by_tie W c c.duplicate

    by_out : (O : Out (Unit {0})) → verdict (call os) O ≡ verdict (call os') O
    by_out (found w) = by_best w.lent w.best
    by_out (missed w) = by_best w.lent w.best
    by_out (ended c W) = refl

    searched_same : searched (Unit {0}) nothing_met tt (call os) ≡ searched (Unit {0}) nothing_met tt (call os')
    searched_same = ap (λ (P : Problem). solve (Unit {0}) nothing_met P (given (call os)) (start_path (call os))
        (record { lent = lent_of (call os); best = none; met = tt })) problem_same

    entry_same : solve_entry (call os) ≡ solve_entry (call os')
    unfolding solve_entry
    entry_same =
        ap₂ (λ (o : Tested) (L : SolveLeft). refused_or o (refused (call [])) L) (ap first_failing checks_same)
        (by_out (searched (Unit {0}) nothing_met tt (call os)) ∙ ap (verdict (call os')) searched_same)

-- the words of the first k records are the first 3 k words
first_words : (k : ℕ) (rs : List OverloadRecord) → record_words (take k rs) ≡ take (3 * k) (record_words rs)
unfolding record_words
first_words zero rs = refl
first_words (suc k) [] = let e : suc (suc (suc (3 * k))) ≡ 3 * suc k = omega arith in ap (λ (m : ℕ). take {A = ℕ} m []) e
first_words (suc k) (o ∷ rs) =
    let e : suc (suc (suc (3 * k))) ≡ 3 * suc k = omega arith in
    ap (λ (l : List ℕ). words_of o ++ l) (first_words k rs) ∙ ap (λ (m : ℕ). take m (words_of o ++ record_words rs)) e

-- Whatever else the call is given.
pub records_past_the_ceiling_change_nothing : (g : Given) (ws ns bs xs ks cs ss sc ix ts ms hs : List ℕ) (rs : List OverloadRecord)
    → solve_entry (call_of g ws ns bs xs ks cs (record_words (take max_overloads rs)) ss sc ix ts ms hs) ≡ solve_entry
    (call_of g ws ns bs xs ks cs (record_words rs) ss sc ix ts ms hs)
records_past_the_ceiling_change_nothing g ws ns bs xs ks cs ss sc ix ts ms hs rs = go (leb g.overloads max_overloads) refl
  where
    few : List ℕ
    few = record_words (take max_overloads rs)

    all : List ℕ
    all = record_words rs

    few_long : length few ≡ 3 * min max_overloads (length rs)
    few_long = three_words_each (take max_overloads rs) ∙ ap (λ (m : ℕ). 3 * m) (length-take max_overloads rs)

    go : (b : Bool) → leb g.overloads max_overloads ≡ b → solve_entry (call_of g ws ns bs xs ks cs few ss sc ix ts ms hs)
        ≡ solve_entry (call_of g ws ns bs xs ks cs all ss sc ix ts ms hs)
    go false e =
        let past = leb-false g.overloads max_overloads e in
        refused_by_1 g ws ns bs xs ks cs ss sc ix ts ms hs few past ∙ sym (refused_by_1 g ws ns bs xs ks cs ss sc ix ts ms hs all past)
    go true e =
        let c = leb-true g.overloads max_overloads e in
        entry_same g ws ns bs xs ks cs ss sc ix ts ms hs few all
        (leb_same (3 * g.overloads) (length few) (3 * g.overloads) (length all)
        (λ l. omega (arith, l, few_long, three_words_each rs))
        (λ l. omega (arith, l, c, few_long, three_words_each rs)))
        (λ i l. ap (λ (l : List ℕ). get_or l i 0) (first_words max_overloads rs) ∙ get_or-take (3 * max_overloads) all i 0 (omega (arith, l, c)))
