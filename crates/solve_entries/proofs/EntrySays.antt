-- What the entry answers and leaves, whatever it is given. Its outcome is the defined one; a refusal is the first failing check's, since a search refuses
-- nothing; else the answer is that of the search, of which demand 3, the verdict by leaves, names, and what is left of the lists are laws. A packed
-- answer tells all answers apart, so it says the same. Assumes nothing.
use mathlib.Core.Path.{◌≡◌, refl, sym, ap, subst, ◌∙◌}
use mathlib.Core.Bool.{Bool, true, false}
use mathlib.Core.List.{List, []}
use mathlib.Core.Option.{Option, none, some}
use mathlib.Core.Logic.{◌⊎◌, inl, inr}
use Prim.Native.Nat.{ℕ}
use native.Mathlib.Omega.{arith}
use lib.ListN.{length, take, drop}
use lib.Seq.{take-append_seam}
use Rattle.std.specs.Prelude.{Ok, Err}
use Rattle.resolved_sort.specs.declared.Counts.{Counts}
use Rattle.resolved_sort.specs.declared.Refusal.{Refusal}
use Rattle.resolved_sort.specs.declared.Refusal.TheVariants.{SortsFull, NodesFull}
use Rattle.resolved_sort.specs.Storage.{given_back}
use Rattle.resolved_sort.specs.Checks.{first_failing, Tested}
use Rattle.resolved_sort.proofs.Reached.{no_confusion}
use Rattle.unification.specs.Making.{Lent}
use Rattle.inference.specs.declared.Outputs.{Outputs}
use Rattle.inference.specs.declared.Verdict.TheVariants.{NoTyping, Ambiguous, Typing}
use Rattle.inference.specs.Measure.{Components}
use Rattle.inference.specs.Search.{Candidate, Out, found, missed, ended}
use Rattle.inference.specs.SolveChecks.{Call, solve_checks}
use Rattle.inference.specs.SolveEntry.{Solved, problem_of, SolveLeft, searched, refused, counts_in, judged, judged_by, verdict}
use Rattle.inference.specs.SolveEntry.{nothing_met, solve_entry}
use Rattle.inference.specs.SolveEntry.{code_solved, sorts_out, measure_out, choices_out, TypingOr15}
use Rattle.inference.specs.Leaves.{times, Least, measure_met, history, leaves_met, HandsOut, ByLeaves}
use Rattle.inference.specs.ListsLeft.{counts_told}
use Rattle.inference.proofs.Forgets.{history_has_the_verdict}
use Rattle.inference.proofs.Accepted.{Accepted, accepted, passed_is_searched}
use Rattle.inference.specs.Rising.{rising}
use Rattle.inference.proofs.Together.{Held, HeldBest, HeldAtEnd, search_holds, hands_out_candidate, every_typing_is_explained, typing_holds_together}
use Rattle.inference.proofs.Choices.{told_is_read, names_and_choices}
use Rattle.inference.proofs.LeavesMet.{verdict_by_leaves}
use Rattle.inference.proofs.ListsLeft.{sorts_only_grow}
use Rattle.inference.proofs.RowsPast.{rows_past_untouched}
use Rattle.inference.proofs.NoConstraints.{no_constraints_is_a_typing}
use Rattle.solve_checks.specs.declared.Given.{Given}
use Rattle.solve_checks.specs.Call.{call_of}
use Rattle.solve_outputs.specs.Finish.{solve_left}
use Rattle.solve_outputs.specs.Packed.{PackedSolve, packed_solve, pack_solve_left}
use Rattle.solve_outputs.proofs.Codes.{Searched, searched_answers, refused_by_number, entry_told, code_is_low_byte, packed_tells}
use Rattle.solve_entries.specs.Given.{given_of}
use Rattle.solve_entries.specs.Says.{HadRoom, RoomEndedAs, lent_at_end, best_at_end, Cleared, OutputsAsGiven, Constrained, SaysSearched}
use Rattle.solve_entries.specs.Says.{OfIncumbent, SaysBy, EntrySays, PackedSays}

-- What a search leaves of the memory beside sorts and a typing.
module _ (I : Call) where
  abbrev Kept : SolveLeft → Solved → Type 0
  Kept L (Err r) = (L.sorts ≡ given_back I.lengths.sorts I.lengths.entries I.sorts) × OutputsAsGiven I L
  Kept L (Ok (NoTyping k)) = OutputsAsGiven I L
  Kept L (Ok (Ambiguous k)) = OutputsAsGiven I L
  Kept L (Ok (Typing o)) = Unit {0}

  abbrev Leaves : SolveLeft → Type 0
  Leaves L = Cleared I L × Kept L L.answer

  tie_leaves : (W : Lent) (c : Candidate) (b : Bool) → Leaves (judged_by I W c b)
  tie_leaves W c true = (record { nodes = refl; binds = refl; scratch = refl; index = refl }, record { typing = refl; measure = refl; choices = refl })
  tie_leaves W c false = (record { nodes = refl; binds = refl; scratch = refl; index = refl }, tt)

  best_leaves : (W : Lent) (b : Option Candidate) → Leaves (judged I W b)
  best_leaves W none = (record { nodes = refl; binds = refl; scratch = refl; index = refl }, record { typing = refl; measure = refl; choices = refl })
  best_leaves W (some c) = tie_leaves W c c.duplicate

  verdict_leaves : (O : Out (Unit {0})) → Leaves (verdict I O)
  verdict_leaves (found w) = best_leaves w.lent w.best
  verdict_leaves (missed w) = best_leaves w.lent w.best
  verdict_leaves (ended c W) = (record { nodes = refl; binds = refl; scratch = refl; index = refl }, (refl, record { typing = refl; measure = refl; choices = refl }))

  -- An answer beside a refusal is of a search that had room, and a refusal of one that ended for want of it.
  abbrev NotRefused : Solved → Type 0
  NotRefused (Ok v) = Unit {0}
  NotRefused (Err r) = ⊥

  tie_not_refused : (W : Lent) (c : Candidate) (b : Bool) → NotRefused (judged_by I W c b).answer
  tie_not_refused W c true = tt
  tie_not_refused W c false = tt

  best_not_refused : (W : Lent) (b : Option Candidate) → NotRefused (judged I W b).answer
  best_not_refused W none = tt
  best_not_refused W (some c) = tie_not_refused W c c.duplicate

  room_by_answer : (H : Out (List Components)) (r : Solved) → (verdict I H).answer ≡ r → NotRefused r → HadRoom H
  room_by_answer (found w) r e n = tt
  room_by_answer (missed w) r e n = tt
  room_by_answer (ended c W) r e n = subst NotRefused (sym e) n

  ended_by_answer : (H : Out (List Components)) (r : Refusal) → (verdict I H).answer ≡ Err r → RoomEndedAs r H
  ended_by_answer (found w) r e = subst NotRefused e (best_not_refused w.lent w.best)
  ended_by_answer (missed w) r e = subst NotRefused e (best_not_refused w.lent w.best)
  ended_by_answer (ended c W) r e = cc

  -- The sorts and their counts are those of the search's end, and a typing is its incumbent.
  abbrev MadeBy : SolveLeft → Lent → Type 0
  MadeBy M W = (k : Counts) → counts_told M.answer ≡ some k → (M.sorts ≡ W.sorts) × (k ≡ counts_in W)

  tie_made : (W : Lent) (c : Candidate) (b : Bool) → MadeBy (judged_by I W c b) W
  tie_made W c true k e = (refl, cc)
  tie_made W c false k e = (refl, cc)

  best_made : (W : Lent) (b : Option Candidate) → MadeBy (judged I W b) W
  best_made W none k e = (refl, cc)
  best_made W (some c) k e = tie_made W c c.duplicate k e

  verdict_made : (H : Out (List Components)) → MadeBy (verdict I H) (lent_at_end H)
  verdict_made (found w) k e = best_made w.lent w.best k e
  verdict_made (missed w) k e = best_made w.lent w.best k e
  verdict_made (ended c W) k e = no_confusion cc

  abbrev Incumbent : SolveLeft → Outputs → Option Candidate → Type 0
  Incumbent M o b = (c : Candidate) × (b ≡ some c) × (sorts_out I M ≡ c.sorts) × (choices_out M o ≡ rising (problem_of I) c.choices)

  module _ (A : Accepted I) where
    tie_incumbent : (W : Lent) (c : Candidate) → Held I W c → (o : Outputs) (b : Bool)
        → (judged_by I W c b).answer ≡ Ok (Typing o) → Incumbent (judged_by I W c b) o (some c)
    tie_incumbent W c f o true e = no_confusion cc
    tie_incumbent W c f o false e = (c, refl, (hands_out_candidate I W c f.fine o e).0, told_is_read I A c f.fits W o e)

    best_incumbent : (W : Lent) (b : Option Candidate) → HeldBest I W b → (o : Outputs)
        → (judged I W b).answer ≡ Ok (Typing o) → Incumbent (judged I W b) o b
    unfolding HeldBest
    best_incumbent W none f o e = no_confusion cc
    best_incumbent W (some c) f o e = tie_incumbent W c f o c.duplicate e

    verdict_incumbent : (H : Out (List Components)) → HeldAtEnd I H → (o : Outputs)
        → (verdict I H).answer ≡ Ok (Typing o) → Incumbent (verdict I H) o (best_at_end H)
    unfolding HeldAtEnd
    verdict_incumbent (found w) l o e = best_incumbent w.lent w.best l o e
    verdict_incumbent (missed w) l o e = best_incumbent w.lent w.best l o e
    verdict_incumbent (ended c W) l o e = no_confusion cc

  abbrev L : SolveLeft
  L = solve_entry I

  -- where every check passes, by the answer
  module _ (f : first_failing (solve_checks I) ≡ Ok tt) where
    by_history : L ≡ verdict I (history I)
    by_history = passed_is_searched I f ∙ sym (history_has_the_verdict I)

    answered : (r : Solved) → L.answer ≡ r → (verdict I (history I)).answer ≡ r
    answered r e = sym (ap (λ (M : SolveLeft). M.answer) by_history) ∙ e

    left : Leaves L
    left = subst Leaves (sym (passed_is_searched I f)) (verdict_leaves (searched (Unit {0}) nothing_met tt I))

    -- an answer that is neither a typing nor 15 has constraints
    constrained : (r : Solved) → L.answer ≡ r → ((o : Outputs) → r ≡ Ok (Typing o) → ⊥) → (r ≡ Err SortsFull → ⊥) → Constrained I L
    constrained r e t n z = go (no_constraints_is_a_typing I f z)
      where
        go : TypingOr15 L.answer → ⊥
        go (inl x) = t x.0 (sym e ∙ x.1)
        go (inr x) = n (sym e ∙ x)

    -- an answer of a search that had room
    module _ (r : Solved) (e : L.answer ≡ r) (n : NotRefused r) (k : Counts) (told : counts_told r ≡ some k) (c : ℕ) (code : code_solved r ≡ c)
        (not-15 : c ≡ 15 → ⊥) (not_16 : c ≡ 16 → ⊥) where
      had_room : SaysSearched I L k
      had_room =
          let m = subst (λ M. MadeBy M (lent_at_end (history I))) (sym by_history) (verdict_made (history I)) k (ap counts_told e ∙ told) in
          record {
            passed = f;
            had_room = room_by_answer (history I) r (answered r e) n;
            by_leaves = verdict_by_leaves I f (λ x. not-15 (sym code ∙ (sym (ap code_solved e) ∙ x))) (λ x. not_16 (sym code ∙ (sym (ap code_solved e) ∙ x)));
            sorts = sorts_only_grow I k (ap counts_told e ∙ told);
            made = m.0;
            counted = m.1;
            memory = left.0;
          }

    -- what is handed out is the incumbent
    of_incumbent : (o : Outputs) → L.answer ≡ Ok (Typing o) → OfIncumbent I L o
    of_incumbent o e =
        let x = subst (λ M. Incumbent M o (best_at_end (history I))) (sym by_history)
        (verdict_incumbent (accepted I f) (history I) (search_holds I (accepted I f) (List Components) measure_met []) o (answered (Ok (Typing o)) e)) in
        record { candidate = x.0; is = x.1; sorts = x.2; choices = x.3 }

    -- the measure handed out is the least
    module _ (o : Outputs) (e : L.answer ≡ Ok (Typing o)) (B : ByLeaves I L (leaves_met I)) where
      handed_out : (m : Components) → HandsOut I L m → m ≡ measure_out L o
      handed_out m h =
          let q : h.outputs ≡ o = cc (h.answer, e) in
          let many : length m ≡ o.components = sym h.count ∙ ap (λ (x : Outputs). x.components) q in
          sym (take-append_seam m (drop (length m) I.measure))
          ∙ (ap (λ (x : List ℕ). take (length m) x) (sym h.measure) ∙ ap (λ (n : ℕ). take n L.measure) many)

      least_out : Least (measure_out L o) (leaves_met I) × (times (measure_out L o) (leaves_met I) ≡ 1)
      unfolding code_solved
      least_out =
          let z = ap code_solved e in
          let x = B.least_met_once.0 z in
          let i = handed_out x.0 (B.least_handed_out z x.0 x.1) in
          (subst (λ m. Least m (leaves_met I)) i x.1, subst (λ m. times m (leaves_met I) ≡ 1) i x.2)

    by_answer : (r : Solved) → L.answer ≡ r → Searched I r → Kept L r → SaysBy I L r
    unfolding code_solved
    by_answer (Err r) e s k =
        inr
        (record {
          passed = f;
          ended_so = ended_by_answer (history I) r (answered (Err r) e);
          room = room s;
          sorts = k.0;
          memory = left.0;
          outputs = k.1;
        })
      where
        room : (r ≡ SortsFull) ⊎ (r ≡ NodesFull) → (r ≡ SortsFull) ⊎ ((r ≡ NodesFull) × Constrained I L)
        room (inl i) = inl i
        room (inr i) =
            inr (i, constrained (Err r) e (λ o x. no_confusion cc) (λ x. let y : NodesFull ≡ SortsFull = cc (x, i) in no_confusion cc))
    by_answer (Ok (NoTyping n)) e s k =
        let h = had_room (Ok (NoTyping n)) e tt n refl 17 refl (λ x. omega (arith, x)) (λ x. omega (arith, x)) in
        record {
          searched = h;
          no_leaf = h.by_leaves.none_met.0 (ap code_solved e);
          constrained = constrained (Ok (NoTyping n)) e (λ o x. no_confusion cc) (λ x. no_confusion cc);
          outputs = k;
        }
    by_answer (Ok (Ambiguous n)) e s k =
        let h = had_room (Ok (Ambiguous n)) e tt n refl 18 refl (λ x. omega (arith, x)) (λ x. omega (arith, x)) in
        record {
          searched = h;
          tied = h.by_leaves.least_met_often.0 (ap code_solved e);
          constrained = constrained (Ok (Ambiguous n)) e (λ o x. no_confusion cc) (λ x. no_confusion cc);
          outputs = k;
        }
    by_answer (Ok (Typing o)) e s k =
        let h = had_room (Ok (Typing o)) e tt o.counts refl 0 refl (λ x. omega (arith, x)) (λ x. omega (arith, x)) in
        let m = least_out o e h.by_leaves in
        record {
          searched = h;
          together = typing_holds_together I o e;
          incumbent = of_incumbent o e;
          explained = every_typing_is_explained I o e;
          named = names_and_choices I o e;
          least = m.0;
          once = m.1;
          rows = rows_past_untouched I o e;
        }

  -- whatever the call is
  pub outcome_says : EntrySays I L
  unfolding solve_entry
  outcome_says = go (first_failing (solve_checks I)) refl
    where
      go : (o : Tested) → first_failing (solve_checks I) ≡ o → EntrySays I L
      go (Ok u) f = by_answer f L.answer refl (searched_answers I f) (left f).1
      go (Err c) f =
          let e : L ≡ refused I c = rw f in
          subst (λ (M : SolveLeft). EntrySays I M) (sym e) (inl (record { first = f; given = refl }, refused_by_number I c f))

  -- packed
  pub packed_says : (q : PackedSolve) → q ≡ pack_solve_left L → PackedSays I q
  packed_says q e =
      subst (PackedSays I) (sym e)
      (record {
        answer = L.answer;
        packed = refl;
        within = entry_told I;
        only = λ r w x. packed_tells r L.answer w (entry_told I) (sym x);
        low_byte = code_is_low_byte L.answer (entry_told I);
        says = outcome_says;
      })

-- The entry and its export, by their contracts.
module _ (g : Given) (ws ns bs xs ks cs os ss sc ix ts ms hs : List ℕ) (ws' ns' bs' sc' ix' ts' ms' hs' : List ℕ) where
  abbrev call : Call
  call = call_of g ws ns bs xs ks cs os ss sc ix ts ms hs

  pub entry_says : (r : Solved) → solve_left r ws' ns' bs' sc' ix' ts' ms' hs' ≡ solve_entry call → EntrySays call (solve_left r ws' ns' bs' sc' ix' ts' ms' hs')
  entry_says r e = subst (EntrySays call) (sym e) (outcome_says call)

module _ (n e m d v x k c o s t : ℕ) (ws ns bs xs ks cs os ss sc ix ts ms hs : List ℕ) (r : ℕ) (ws' ns' bs' sc' ix' ts' ms' hs' : List ℕ) where
  abbrev called : Call
  called = call_of (given_of n e m d v x k c o s t) ws ns bs xs ks cs os ss sc ix ts ms hs

  pub export_says : packed_solve r ws' ns' bs' sc' ix' ts' ms' hs' ≡ pack_solve_left (solve_entry called)
      → PackedSays called (packed_solve r ws' ns' bs' sc' ix' ts' ms' hs')
  export_says q = packed_says called (packed_solve r ws' ns' bs' sc' ix' ts' ms' hs') q
