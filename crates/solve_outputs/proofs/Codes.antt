-- The numbers that the solver's answer has: a refusal is by a check, 1 to 14, or 15 or 16 where room ended; sorts, entries, components and choices are within their
-- ceilings. By the first failing check and by what the search leaves. So the packed answer has document 01's number
-- in its low byte and tells all answers apart: by the
-- cases of two answers. Assumes nothing.
use mathlib.Core.Path.{◌≡◌, refl, sym, ap, subst}
use mathlib.Core.Bool.{Bool, true, false}
use mathlib.Core.Logic.{◌⊎◌, inl, inr}
use mathlib.Core.Option.{Option, none, some}
use Prim.Native.Nat.{ℕ, ◌%◌}
use native.Mathlib.Omega.{arith}
use lib.ListN.{get_or}
use Rattle.resolved_sort.specs.declared.Refusal.{Refusal}
use Rattle.std.specs.Prelude.{Ok, Err}
use Rattle.resolved_sort.specs.declared.Counts.{Counts}
use Rattle.resolved_sort.specs.Checks.{first_failing, Numbered, Tested, code_of}
use Rattle.unification.specs.NodeChecks.{node_checks}
use Rattle.unification.specs.Making.{Lent}
use Rattle.resolved_sort.proofs.FailingNumber.{failing_number}
use Rattle.resolved_sort.specs.declared.Refusal.TheVariants.{SortsFull, NodesFull}
use Rattle.inference.specs.declared.Verdict.TheVariants.{NoTyping, Ambiguous, Typing}
use Rattle.inference.specs.Search.{Candidate, World, Out, found, missed, ended}
use Rattle.inference.specs.SolveChecks.{Call, given, solve_checks}
use Rattle.inference.specs.SolveEntry.{Solved, problem_of, start_path, lent_of, searched, SolveLeft, judged, judged_by}
use Rattle.inference.specs.SolveEntry.{room_refusal, verdict, nothing_met, solve_entry, code_solved}
use Rattle.inference.proofs.Accepted.{passed_is_searched}
use Rattle.inference.specs.ListsLeft.{counts_told}
use Rattle.inference.proofs.ListsLeft.{sorts_only_grow}
use Rattle.inference.proofs.Branches.{Goes, Ends}
use Rattle.inference.proofs.Choices.{Fitting, search_fits, names_and_choices}
use Rattle.entry_answers.specs.Packing.{FitFields, FitsWidths}
use Rattle.entry_answers.proofs.Packing.{codes_told, values_told, code_is_low_byte as low_byte}
use Rattle.entry_answers.proofs.Refusals.{codes_tell}
use Rattle.solve_outputs.specs.Packed.{coded_solved, solved_widths, pack_solved, CountsWithin, SolvedWithin}
use Rattle.solve_outputs.proofs.Passed.{rows_fit}

module _ (I : Call) where
  pub refused_by_number : (c : Refusal) → first_failing (solve_checks I) ≡ Err c → Numbered c
  unfolding solve_checks node_checks code_of
  refused_by_number c x = failing_number Numbered (solve_checks I) c (
    (omega arith, omega arith),
    (
      (omega arith, omega arith),
      (
        (omega arith, omega arith),
        (
          (omega arith, omega arith),
          (
            (omega arith, omega arith),
            (
              (omega arith, omega arith),
              (
                (omega arith, omega arith),
                (
                  (omega arith, omega arith),
                  (
                    (omega arith, omega arith),
                    (
                      (omega arith, omega arith),
                      (
                        (omega arith, omega arith),
                        (
                          (omega arith, omega arith),
                          ((omega arith, omega arith), tt),
                        ),
                      ),
                    ),
                  ),
                ),
              ),
            ),
          ),
        ),
      ),
    ),
  )
      x

  -- what the search alone can answer
  abbrev pub Searched : Solved → Type 0
  Searched (Err r) = (r ≡ SortsFull) ⊎ (r ≡ NodesFull)
  Searched (Ok v) = Unit {0}

  by_tie : (W : Lent) (c : Candidate) (b : Bool) → Searched (judged_by I W c b).answer
  by_tie W c true = tt
  by_tie W c false = tt

  by_best : (W : Lent) (b : Option Candidate) → Searched (judged I W b).answer
  by_best W none = tt
  by_best W (some c) = by_tie W c c.duplicate

  by_out : (w : World (Unit {0})) (O : Out (Unit {0})) → Goes (Fitting (Unit {0}) nothing_met (problem_of I) (given I)) w O → Searched (verdict I O).answer
  unfolding Goes room_refusal
  by_out w (found v) g = by_best v.lent v.best
  by_out w (missed v) g = by_best v.lent v.best
  by_out w (ended c W) g = room c g
    where
      room : (c : ℕ) → Ends c → (room_refusal c ≡ SortsFull) ⊎ (room_refusal c ≡ NodesFull)
      room c (inl i) = inl (ap room_refusal i)
      room c (inr i) = inr (ap room_refusal i)

  -- a call that passed its checks
  module _ (x : first_failing (solve_checks I) ≡ Ok tt) where
    pub searched_answers : Searched (solve_entry I).answer
    searched_answers =
        let w : World (Unit {0}) = record { lent = lent_of I; best = none; met = tt } in
        subst (λ (L : SolveLeft). Searched L.answer) (sym (passed_is_searched I x))
        (by_out w (searched (Unit {0}) nothing_met tt I) (search_fits (Unit {0}) nothing_met (problem_of I) (given I) (start_path I).binds w))

    within : (k : Counts) → counts_told (solve_entry I).answer ≡ some k → CountsWithin k
    within k e = let g = sorts_only_grow I k e in record { sorts = g.checked.sorts; entries = g.checked.entries }

    by_answer : (r : Solved) → (solve_entry I).answer ≡ r → Searched r → SolvedWithin r
    unfolding code_of
    by_answer (Err r) e (inl i) = rw i (omega arith, omega arith)
    by_answer (Err r) e (inr i) = rw i (omega arith, omega arith)
    by_answer (Ok (NoTyping k)) e s = within k (ap counts_told e)
    by_answer (Ok (Ambiguous k)) e s = within k (ap counts_told e)
    by_answer (Ok (Typing o)) e s =
        let n = names_and_choices I o e in
        let f = rows_fit I x in (
          within o.counts (ap counts_told e),
          omega (arith, n.handed_out, n.component_count, f.components),
          omega (arith, n.choice_count, n.as_many, f.disjunctions),
        )

    passed_told : SolvedWithin (solve_entry I).answer
    passed_told = by_answer (solve_entry I).answer refl searched_answers

  -- Whatever the call is.
  pub entry_told : SolvedWithin (solve_entry I).answer
  unfolding solve_entry
  entry_told = go (first_failing (solve_checks I)) refl
    where
      go : (o : Tested) → first_failing (solve_checks I) ≡ o → SolvedWithin (solve_entry I).answer
      go (Ok u) x = passed_told x
      go (Err c) x = let n = refused_by_number c x in rw x (n.0, omega (arith, n.1))

-- numbers within their bounds fit their fields
solved_fits : (r : Solved) → SolvedWithin r → FitsWidths solved_widths (coded_solved r)
unfolding FitFields code_solved
solved_fits (Err r) t = (omega (arith, t.1), tt)
solved_fits (Ok (NoTyping k)) t = (omega arith, (omega (arith, t.sorts), (omega (arith, t.entries), tt)))
solved_fits (Ok (Ambiguous k)) t = (omega arith, (omega (arith, t.sorts), (omega (arith, t.entries), tt)))
solved_fits (Ok (Typing o)) t =
    (omega arith, (omega (arith, t.0.sorts), (omega (arith, t.0.entries), (omega (arith, t.1), (omega (arith, t.2), tt)))))

-- document 01's number is the low byte
pub code_is_low_byte : (r : Solved) → SolvedWithin r → pack_solved r % 256 ≡ code_solved r
unfolding pack_solved
code_is_low_byte r t = low_byte solved_widths (coded_solved r) (solved_fits r t)

-- the packed answer tells the answers apart
pub packed_tells : (r s : Solved) → SolvedWithin r → SolvedWithin s → pack_solved r ≡ pack_solved s → r ≡ s
unfolding pack_solved code_solved
packed_tells r s t u p =
    go r s t u (codes_told solved_widths (coded_solved r) (coded_solved s) (solved_fits r t) (solved_fits s u) p)
    (values_told solved_widths (coded_solved r) (coded_solved s) (solved_fits r t) (solved_fits s u) p)
  where
    counts : (k l : Counts) → k.sorts ≡ l.sorts → k.entries ≡ l.entries → k ≡ l
    counts k l a b = λ i. record { sorts = a i; entries = b i }

    go : (r s : Solved) → SolvedWithin r → SolvedWithin s → (coded_solved r).code ≡ (coded_solved s).code
        → ((i : ℕ) → get_or (coded_solved r).values i 0 ≡ get_or (coded_solved s).values i 0) → r ≡ s
    go (Err c) (Err d) t u e v = ap Err (codes_tell c d e)
    go (Err c) (Ok (NoTyping l)) t u e v = absurd (omega (arith, e, t.1))
    go (Err c) (Ok (Ambiguous l)) t u e v = absurd (omega (arith, e, t.1))
    go (Err c) (Ok (Typing p)) t u e v = absurd (omega (arith, e, t.0))
    go (Ok (NoTyping k)) (Err d) t u e v = absurd (omega (arith, e, u.1))
    go (Ok (NoTyping k)) (Ok (NoTyping l)) t u e v = ap (λ n. Ok (NoTyping n)) (counts k l (v 0) (v 1))
    go (Ok (NoTyping k)) (Ok (Ambiguous l)) t u e v = absurd (omega (arith, e))
    go (Ok (NoTyping k)) (Ok (Typing p)) t u e v = absurd (omega (arith, e))
    go (Ok (Ambiguous k)) (Err d) t u e v = absurd (omega (arith, e, u.1))
    go (Ok (Ambiguous k)) (Ok (NoTyping l)) t u e v = absurd (omega (arith, e))
    go (Ok (Ambiguous k)) (Ok (Ambiguous l)) t u e v = ap (λ n. Ok (Ambiguous n)) (counts k l (v 0) (v 1))
    go (Ok (Ambiguous k)) (Ok (Typing p)) t u e v = absurd (omega (arith, e))
    go (Ok (Typing o)) (Err d) t u e v = absurd (omega (arith, e, u.0))
    go (Ok (Typing o)) (Ok (NoTyping l)) t u e v = absurd (omega (arith, e))
    go (Ok (Typing o)) (Ok (Ambiguous l)) t u e v = absurd (omega (arith, e))
    go (Ok (Typing o)) (Ok (Typing p)) t u e v =
        let k = counts o.counts p.counts (v 0) (v 1) in
        λ i. Ok (Typing (record { counts = k i; components = v 2 i; choices = v 3 i }))
