-- A typing leaves the outputs as long as they were lent, and the rows past its counts as they were: what it writes are as many rows as there are
-- expressions, components and choices, by the candidate that is handed out, which has a sort for each expression; behind them stands what stood there.
-- Check 14 has tested that so many rows fit, so nothing is written past the end. Assumes nothing.
use mathlib.Core.Path.{◌≡◌, refl, sym, ap, ◌∙◌}
use mathlib.Core.Bool.{Bool, true, false, and-eq-true_iff}
use mathlib.Core.List.{List, [], ◌∷◌, ◌++◌}
use mathlib.Core.Option.{Option, none, some}
use Prim.Native.Nat.{ℕ, ◌+◌, ◌-◌, ◌*◌, ◌≤◌}
use native.Mathlib.Omega.{arith}
use lib.Dec.{leb}
use borrow.Author.Tests.{leb-true}
use lib.ListN.{length, get_or, drop, length-append, length-drop}
use lib.Seq.{drop-append_seam}
use Rattle.std.specs.Prelude.{Ok, Err}
use Rattle.std.proofs.lemmas.List.{get_or-drop}
use Rattle.resolved_sort.specs.Checks.{first_failing, Tested}
use Rattle.resolved_sort.proofs.Reached.{no_confusion}
use Rattle.unification.specs.Making.{Lent}
use Rattle.inference.specs.declared.Outputs.{Outputs}
use Rattle.inference.specs.declared.Verdict.TheVariants.{Typing}
use Rattle.inference.specs.Constraints.{BaseName, Problem}
use Rattle.inference.specs.Search.{Choice, Candidate, Out, found, missed, ended, sort_in}
use Rattle.inference.specs.SolveChecks.{Call, given, disjunctions, components as componentCount, outputs_long, long_enough, solve_checks}
use Rattle.inference.specs.SolveEntry.{base_names_of, searched, typing_rows, choice_rows, counts_in, judged, judged_by, verdict, nothing_met}
use Rattle.inference.specs.SolveEntry.{SolveLeft, refused, solve_entry, choices_out}
use Rattle.inference.specs.Named.{Named}
use Rattle.inference.specs.OutputsLeft.{RowsPastUntouched}
use Rattle.inference.proofs.Members.{length_rows}
use Rattle.inference.proofs.HandedOut.{choice_rows_long}
use Rattle.inference.specs.Rising.{rising}
use Rattle.inference.proofs.Accepted.{Accepted, passing, refused_or_searched}
use Rattle.inference.proofs.Choices.{as_many_told, names_and_choices}
use Rattle.inference.proofs.Statements.{as_many_as_asked}
use Rattle.inference.proofs.Together.{W₀, P, typed_long, Held, HeldBest, HeldAtEnd, search_holds}

typing_rows_long : (Q : Problem) (bs : List BaseName) (cs : List Choice) (x : ℕ) (ss : List ℕ) → length (typing_rows Q bs cs x ss) ≡ 3 * length ss
unfolding typing_rows
typing_rows_long Q bs cs x [] = refl
typing_rows_long Q bs cs x (s ∷ ss) = omega (arith, typing_rows_long Q bs cs (x + 1) ss)

-- so many words written over others, which stand behind them as before
record Over (n : ℕ) (xs old : List ℕ) : Type 0 where
  pub there : n ≤ length xs
  pub behind : drop n xs ≡ drop n old

over : (n : ℕ) (xs old : List ℕ) → length xs ≡ n → Over n (xs ++ drop (length xs) old) old
over n xs old e =
    record {
      there = omega (arith, e, length-append xs (drop (length xs) old));
      behind =
          ap (λ (k : ℕ). drop k (xs ++ drop (length xs) old)) (sym e)
          ∙ (drop-append_seam xs (drop (length xs) old) ∙ ap (λ (k : ℕ). drop k old) e);
    }

as_long : (n : ℕ) (xs old : List ℕ) → Over n xs old → n ≤ length old → length xs ≡ length old
as_long n xs old v l =
    let a : length (drop n xs) ≡ length xs - n = length-drop n xs in
    let b : length (drop n old) ≡ length old - n = length-drop n old in
    let c : length (drop n xs) ≡ length (drop n old) = ap (λ (ys : List ℕ). length ys) v.behind in
    omega (arith, a, b, c, l, v.there)

module _ (I : Call) where
  record Written (L : SolveLeft) (o : Outputs) : Type 0 where
    pub typing : Over (3 * I.rows.exprs) L.typing I.typing
    pub measure : Over o.components L.measure I.measure
    pub choices : Over (2 * o.choices) L.choices I.choices

  by_candidate : Accepted I → (W : Lent) (c : Candidate) → Held I W c → (o : Outputs) (b : Bool)
      → (judged_by I W c b).answer ≡ Ok (Typing o) → Written (judged_by I W c b) o
  by_candidate A W c f o true e = no_confusion cc
  by_candidate A W c held o false e =
      let f = held.fine in
      let q : o ≡ record { counts = counts_in W; components = length c.measure; choices = length c.choices } = cc in
      let many : length c.sorts ≡ I.rows.exprs =
      typed_long (W₀ I) (sort_in W) f.assignment (P I).exprs c.sorts f.typed ∙ length_rows (λ i. get_or I.exprs i 0) 0 I.rows.exprs in
      record {
        typing =
            over (3 * I.rows.exprs) (typing_rows (P I) (base_names_of I) c.choices 0 c.sorts) I.typing
            (typing_rows_long (P I) (base_names_of I) c.choices 0 c.sorts ∙ ap (λ (n : ℕ). 3 * n) many);
        measure = over o.components c.measure I.measure (sym (ap (λ (z : Outputs). z.components) q));
        choices =
            over (2 * o.choices) (choice_rows (rising (P I) c.choices)) I.choices
            (choice_rows_long (rising (P I) c.choices)
            ∙ (ap (λ (n : ℕ). 2 * n) (as_many_told I A c held.fits) ∙ sym (ap (λ (z : Outputs). 2 * z.choices) q)));
      }

  by_best : Accepted I → (W : Lent) (b : Option Candidate) → HeldBest I W b → (o : Outputs) → (judged I W b).answer ≡ Ok (Typing o)
      → Written (judged I W b) o
  unfolding HeldBest
  by_best A W none f o e = no_confusion cc
  by_best A W (some c) f o e = by_candidate A W c f o c.duplicate e

  by_verdict : Accepted I → (O : Out (Unit {0})) → HeldAtEnd I O → (o : Outputs) → (verdict I O).answer ≡ Ok (Typing o)
      → Written (verdict I O) o
  unfolding HeldAtEnd
  by_verdict A (found w) l o e = by_best A w.lent w.best l o e
  by_verdict A (missed w) l o e = by_best A w.lent w.best l o e
  by_verdict A (ended d W) l o e = no_confusion cc

  written : (o : Outputs) → (solve_entry I).answer ≡ Ok (Typing o) → Written (solve_entry I) o
  written o =
      refused_or_searched I (λ L. L.answer ≡ Ok (Typing o) → Written L o) (λ c l e. no_confusion cc)
      (λ A. by_verdict A (searched (Unit {0}) nothing_met tt I) (search_holds I A (Unit {0}) nothing_met tt) o)

  -- a typing is of a call that no check refuses
  pub typing_passed : (o : Outputs) → (solve_entry I).answer ≡ Ok (Typing o) → first_failing (solve_checks I) ≡ Ok tt
  unfolding solve_entry
  typing_passed o e = go (first_failing (solve_checks I)) refl
    where
      go : (x : Tested) → first_failing (solve_checks I) ≡ x → first_failing (solve_checks I) ≡ Ok tt
      go (Ok u) q = q
      go (Err c) q =
          let z : solve_entry I ≡ refused I c = rw q in
          let y : (solve_entry I).answer ≡ Err c = ap (λ (L : SolveLeft). L.answer) z in
          no_confusion (cc)

  -- what check 14 has tested of the outputs
  pub outputs_have_room : first_failing (solve_checks I) ≡ Ok tt → (3 * I.rows.exprs ≤ length I.typing)
      × (componentCount (given I) ≤ length I.measure) × (2 * length (disjunctions (given I)) ≤ length I.choices)
  unfolding long_enough outputs_long
  outputs_have_room f =
      let x = (and-eq-true_iff _ (outputs_long I)).0 (passing I f).long in
      let y = (and-eq-true_iff _ (leb (2 * length (disjunctions (given I))) (length I.choices))).0 x.1 in
      let z = (and-eq-true_iff _ (leb (componentCount (given I)) (length I.measure))).0 y.0 in
      let w = (and-eq-true_iff _ (leb (3 * I.rows.exprs) (length I.typing))).0 z.0 in (
        leb-true (3 * I.rows.exprs) (length I.typing) w.1,
        leb-true (componentCount (given I)) (length I.measure) z.1,
        leb-true (2 * length (disjunctions (given I))) (length I.choices) y.1,
      )

  pub rows_past_untouched : (o : Outputs) → (solve_entry I).answer ≡ Ok (Typing o) → RowsPastUntouched I (solve_entry I) o
  rows_past_untouched o e =
      let v = written o e in
      let r = outputs_have_room (typing_passed o e) in
      let n = as_many_as_asked I (solve_entry I) o (choices_out (solve_entry I) o) (names_and_choices I o e) in
      record {
        typing_long = as_long (3 * I.rows.exprs) (solve_entry I).typing I.typing v.typing r.0;
        measure_long = as_long o.components (solve_entry I).measure I.measure v.measure (omega (arith, r.1, n.0));
        choices_long = as_long (2 * o.choices) (solve_entry I).choices I.choices v.choices (omega (arith, r.2, n.1));
        typing = v.typing.behind;
        measure = v.measure.behind;
        choices = v.choices.behind;
      }

-- What is said of outputs after a typing, each clause read alone: word by word behind the rows, which fit.
past : (n i : ℕ) (xs ys : List ℕ) → drop n xs ≡ drop n ys → n ≤ i → get_or xs i 0 ≡ get_or ys i 0
past n i xs ys d l =
    let z : n + (i - n) ≡ i = omega (arith, l) in
    let at : (zs : List ℕ) → get_or (drop n zs) (i - n) 0 ≡ get_or zs i 0 =
    (λ zs. get_or-drop n zs (i - n) 0 ∙ ap (λ (k : ℕ). get_or zs k 0) z) in
    sym (at xs) ∙ (ap (λ (zs : List ℕ). get_or zs (i - n) 0) d ∙ at ys)

module _ (I : Call) (L : SolveLeft) (o : Outputs) (r : RowsPastUntouched I L o) where
  pub words_past_stand : ((i : ℕ) → 3 * I.rows.exprs ≤ i → get_or L.typing i 0 ≡ get_or I.typing i 0)
      × ((i : ℕ) → o.components ≤ i → get_or L.measure i 0 ≡ get_or I.measure i 0)
      × ((i : ℕ) → 2 * o.choices ≤ i → get_or L.choices i 0 ≡ get_or I.choices i 0)
  words_past_stand = (
    λ i l. past (3 * I.rows.exprs) i L.typing I.typing r.typing l,
    λ i l. past o.components i L.measure I.measure r.measure l,
    λ i l. past (2 * o.choices) i L.choices I.choices r.choices l,
  )

  pub rows_fit_in_outputs : first_failing (solve_checks I) ≡ Ok tt → (ks : List Choice) → Named I L o ks → (3 * I.rows.exprs ≤ length L.typing)
      × (o.components ≤ length L.measure) × (2 * o.choices ≤ length L.choices)
  rows_fit_in_outputs f ks n =
      let h = outputs_have_room I f in
      let m = as_many_as_asked I L o ks n in
      (omega (arith, h.0, r.typing_long), omega (arith, h.1, m.0, r.measure_long), omega (arith, h.2, m.1, r.choices_long))
