-- What the statement about the entry (`EntrySays`) comes to: demand 3, the verdict by leaves, and what is left of the memory, each for itself; and that it
-- leaves a call one verdict only, and a typing one measure. The same of a packed answer by its low byte. By the cases of the
-- answer. Assumes nothing.
use mathlib.Core.Path.{◌≡◌, refl, sym, ap, subst, ◌∙◌}
use mathlib.Core.List.{List, []}
use mathlib.Core.Option.{some}
use mathlib.Core.Logic.{◌⊎◌, ◌↔◌, inl, inr}
use Prim.Native.Nat.{ℕ, ◌%◌, ◌<◌}
use native.Mathlib.Omega.{arith}
use lib.ListN.{length, replicate}
use Rattle.resolved_sort.specs.declared.Refusal.{Refusal}
use Rattle.resolved_sort.specs.declared.Refusal.TheVariants.{SortsFull, NodesFull}
use Rattle.std.specs.Prelude.{Ok, Err}
use Rattle.resolved_sort.specs.declared.Counts.{Counts}
use Rattle.resolved_sort.specs.Storage.{given_back}
use Rattle.resolved_sort.specs.Checks.{first_failing, Numbered, code_of as code_of_refusal}
use Rattle.resolved_sort.specs.Entries.{tree_at}
use Rattle.resolved_sort.proofs.Reached.{no_confusion}
use Rattle.unification.specs.Nodes.{binds_of}
use Rattle.unification.specs.Making.{graph}
use Rattle.inference.specs.declared.Outputs.{Outputs}
use Rattle.inference.specs.declared.Verdict.TheVariants.{NoTyping, Ambiguous, Typing}
use Rattle.inference.specs.Measure.{Components}
use Rattle.inference.specs.Search.{Out, found, missed, ended, sort_in}
use Rattle.inference.specs.SolveChecks.{Call, solve_checks}
use Rattle.inference.specs.SolveEntry.{Solved, SolveLeft, problem_of, lent_of, nodes_given_back, code_solved, sorts_out, measure_out, choices_out, TypingOr15}
use Rattle.inference.specs.Typing.{In, HoldsTogether}
use Rattle.inference.specs.Explained.{Explained}
use Rattle.inference.specs.Named.{Named}
use Rattle.inference.specs.Leaves.{times, Least, history, leaves_met, code_left, ByLeaves}
use Rattle.inference.specs.ListsLeft.{counts_told, SortsGrown}
use Rattle.inference.specs.OutputsLeft.{RowsPastUntouched}
use Rattle.inference.proofs.Members.{not_in_nothing}
use Rattle.inference.proofs.LeavesMet.{least_is_one}
use Rattle.solve_outputs.specs.Packed.{pack_solved, SolvedWithin, PackedSolve}
use Rattle.solve_entries.specs.Says.{HadRoom, RoomEndedAs, SaysTyping, SaysBy, EntrySays, left_of, PackedSays}

-- a refusal because room ended, 15 or 16
abbrev pub RoomEnded : Refusal → Type 0
RoomEnded r = (r ≡ SortsFull) ⊎ (r ≡ NodesFull)

no_check_is_of_room : (r : Refusal) → Numbered r → RoomEnded r → ⊥
unfolding code_of_refusal
no_check_is_of_room r n (inl i) = let q : code_of_refusal r ≡ 15 = ap code_of_refusal i in omega (arith, n.1, q)
no_check_is_of_room r n (inr i) = let q : code_of_refusal r ≡ 16 = ap code_of_refusal i in omega (arith, n.1, q)

module _ (I : Call) (L : SolveLeft) (s : EntrySays I L) where
  -- what it says by an answer that is known
  says_by : (r : Solved) → L.answer ≡ r → SaysBy I L r
  says_by r q = subst (SaysBy I L) q s

  -- Demand 3: where it answers a typing, there is one assignment under which the whole list holds together, with the sorts and choices that stand in
  -- the words left.
  pub entry_holds_together : (o : Outputs) → L.answer ≡ Ok (Typing o)
      → HoldsTogether (graph (lent_of I)) (sort_in (lent_of I)) (tree_at L.sorts o.counts.sorts) o.counts.sorts
      (binds_of I.binds I.lengths.variables) (problem_of I) (sorts_out I L) (choices_out L o)
  entry_holds_together o q = (says_by (Ok (Typing o)) q).together

  -- and each component and name is what document 01 says
  pub entry_is_explained : (o : Outputs) → L.answer ≡ Ok (Typing o) → Explained I L o × Named I L o (choices_out L o)
  entry_is_explained o q = ((says_by (Ok (Typing o)) q).explained, (says_by (Ok (Typing o)) q).named)

  -- its outputs are as long as they were lent, with the rows past its counts as they were
  pub entry_leaves_rows_past : (o : Outputs) → L.answer ≡ Ok (Typing o) → RowsPastUntouched I L o
  entry_leaves_rows_past o q = (says_by (Ok (Typing o)) q).rows

  -- Where no check refuses a list without constraints, it answers a typing, or 15.
  pub entry_without_constraints : first_failing (solve_checks I) ≡ Ok tt → I.rows.constraints ≡ 0 → TypingOr15 L.answer
  entry_without_constraints f z = go L.answer s
    where
      go : (r : Solved) → SaysBy I L r → TypingOr15 r
      go (Err r) (inl x) = let y = x.0.first in no_confusion (cc)
      go (Err r) (inr x) = room x.room
        where
          room : (r ≡ SortsFull) ⊎ ((r ≡ NodesFull) × (I.rows.constraints ≡ 0 → ⊥)) → TypingOr15 (Err r)
          room (inl i) = inr (ap Err i)
          room (inr j) = absurd (j.1 z)
      go (Ok (NoTyping k)) x = absurd (x.constrained z)
      go (Ok (Ambiguous k)) x = absurd (x.constrained z)
      go (Ok (Typing o)) x = inl (o, refl)

  -- The verdict of a call that passes its checks and has room is by its leaves.
  pub entry_by_leaves : first_failing (solve_checks I) ≡ Ok tt → (code_left L ≡ 15 → ⊥) → (code_left L ≡ 16 → ⊥) → ByLeaves I L (leaves_met I)
  unfolding code_solved code_of_refusal
  entry_by_leaves f n m = go L.answer refl s
    where
      go : (r : Solved) → L.answer ≡ r → SaysBy I L r → ByLeaves I L (leaves_met I)
      go (Err r) e (inl x) = let y = x.0.first in no_confusion (cc)
      go (Err r) e (inr x) = room x.room
        where
          room : (r ≡ SortsFull) ⊎ ((r ≡ NodesFull) × (I.rows.constraints ≡ 0 → ⊥)) → ByLeaves I L (leaves_met I)
          room (inl i) = absurd (n (ap code_solved e ∙ ap code_of_refusal i))
          room (inr j) = absurd (m (ap code_solved e ∙ ap code_of_refusal j.0))
      go (Ok (NoTyping k)) e x = x.searched.by_leaves
      go (Ok (Ambiguous k)) e x = x.searched.by_leaves
      go (Ok (Typing o)) e x = x.searched.by_leaves

  -- the sorts after 0, 17 and 18, and after 15 and 16
  pub entry_sorts_grow : (k : Counts) → counts_told L.answer ≡ some k → SortsGrown I L.sorts k
  entry_sorts_grow k = go L.answer s
    where
      go : (r : Solved) → SaysBy I L r → counts_told r ≡ some k → SortsGrown I L.sorts k
      go (Err r) x e = no_confusion (cc)
      go (Ok (NoTyping n)) x e = let q : n ≡ k = cc in subst (SortsGrown I L.sorts) q x.searched.sorts
      go (Ok (Ambiguous n)) x e = let q : n ≡ k = cc in subst (SortsGrown I L.sorts) q x.searched.sorts
      go (Ok (Typing o)) x e = let q : o.counts ≡ k = cc in subst (SortsGrown I L.sorts) q x.searched.sorts

  pub no_room_gives_sorts_back : (r : Refusal) → L.answer ≡ Err r → RoomEnded r → L.sorts ≡ given_back I.lengths.sorts I.lengths.entries I.sorts
  no_room_gives_sorts_back r q e = go (says_by (Err r) q)
    where
      go : SaysBy I L (Err r) → L.sorts ≡ given_back I.lengths.sorts I.lengths.entries I.sorts
      go (inl x) = absurd (no_check_is_of_room r x.1 e)
      go (inr x) = x.sorts

  -- a refusal by a check changes nothing, and is the first failing check
  pub refusal_changes_nothing : (r : Refusal) → L.answer ≡ Err r → Numbered r
      → (first_failing (solve_checks I) ≡ Err r) × (L.sorts ≡ I.sorts) × (L.nodes ≡ I.nodes) × (L.scratch ≡ I.scratch) × (L.index ≡ I.index)
  refusal_changes_nothing r q n = go (says_by (Err r) q)
    where
      go : SaysBy I L (Err r)
          → (first_failing (solve_checks I) ≡ Err r) × (L.sorts ≡ I.sorts) × (L.nodes ≡ I.nodes) × (L.scratch ≡ I.scratch) × (L.index ≡ I.index)
      go (inl (x, m)) = (
        x.first,
        ap (λ (M : SolveLeft). M.sorts) x.given,
        ap (λ (M : SolveLeft). M.nodes) x.given,
        ap (λ (M : SolveLeft). M.scratch) x.given,
        ap (λ (M : SolveLeft). M.index) x.given,
      )
      go (inr x) = absurd (no_check_is_of_room r n (ended x.room))
        where
          ended : (r ≡ SortsFull) ⊎ ((r ≡ NodesFull) × (I.rows.constraints ≡ 0 → ⊥)) → RoomEnded r
          ended (inl i) = inl i
          ended (inr j) = inr j.0

  -- bindings are as given in any case, outputs unless there is a typing
  pub bindings_as_given : L.binds ≡ I.binds
  bindings_as_given = go L.answer s
    where
      go : (r : Solved) → SaysBy I L r → L.binds ≡ I.binds
      go (Err r) (inl x) = ap (λ (M : SolveLeft). M.binds) x.0.given
      go (Err r) (inr x) = x.memory.binds
      go (Ok (NoTyping k)) x = x.searched.memory.binds
      go (Ok (Ambiguous k)) x = x.searched.memory.binds
      go (Ok (Typing o)) x = x.searched.memory.binds

  pub outputs_under_0_only : (code_left L ≡ 0 → ⊥) → (L.typing ≡ I.typing) × (L.measure ≡ I.measure) × (L.choices ≡ I.choices)
  unfolding code_solved
  outputs_under_0_only n = go L.answer refl s
    where
      go : (r : Solved) → L.answer ≡ r → SaysBy I L r → (L.typing ≡ I.typing) × (L.measure ≡ I.measure) × (L.choices ≡ I.choices)
      go (Err r) e (inl x) = (
        ap (λ (M : SolveLeft). M.typing) x.0.given,
        ap (λ (M : SolveLeft). M.measure) x.0.given,
        ap (λ (M : SolveLeft). M.choices) x.0.given,
      )
      go (Err r) e (inr x) = (x.outputs.typing, x.outputs.measure, x.outputs.choices)
      go (Ok (NoTyping k)) e x = (x.outputs.typing, x.outputs.measure, x.outputs.choices)
      go (Ok (Ambiguous k)) e x = (x.outputs.typing, x.outputs.measure, x.outputs.choices)
      go (Ok (Typing o)) e x = absurd (n (ap code_solved e))

  -- after a search scratch and index are zero, and no node is left but those given
  pub search_clears : first_failing (solve_checks I) ≡ Ok tt → (L.scratch ≡ replicate (length I.scratch) 0) × (L.index ≡ replicate (length I.index) 0)
      × (L.nodes ≡ nodes_given_back I.lengths.nodes I.lengths.arguments I.nodes)
  search_clears f = go L.answer s
    where
      go : (r : Solved) → SaysBy I L r → (L.scratch ≡ replicate (length I.scratch) 0) × (L.index ≡ replicate (length I.index) 0)
          × (L.nodes ≡ nodes_given_back I.lengths.nodes I.lengths.arguments I.nodes)
      go (Err r) (inl x) = let y = x.0.first in no_confusion (cc)
      go (Err r) (inr x) = (x.memory.scratch, x.memory.index, x.memory.nodes)
      go (Ok (NoTyping k)) x = (x.searched.memory.scratch, x.searched.memory.index, x.searched.memory.nodes)
      go (Ok (Ambiguous k)) x = (x.searched.memory.scratch, x.searched.memory.index, x.searched.memory.nodes)
      go (Ok (Typing o)) x = (x.searched.memory.scratch, x.searched.memory.index, x.searched.memory.nodes)

-- Two outcomes of which it says so.
module _ (I : Call) where
  -- what it says of the answer alone, by the checks, the search's end and the leaves
  abbrev pub Passed : Type 0
  Passed = first_failing (solve_checks I) ≡ Ok tt

  abbrev pub Searched : Type 0
  Searched = Passed × HadRoom (history I)

  abbrev pub Tells : Solved → Type 0
  Tells (Err r) = (first_failing (solve_checks I) ≡ Err r) ⊎ (Passed × RoomEndedAs r (history I))
  Tells (Ok (NoTyping k)) = Searched × (leaves_met I ≡ [])
  Tells (Ok (Ambiguous k)) = Searched × ((m : Components) × Least m (leaves_met I) × (1 < times m (leaves_met I)))
  Tells (Ok (Typing o)) = Searched × ((m : Components) × Least m (leaves_met I) × (times m (leaves_met I) ≡ 1))

  pub tells_by : (L : SolveLeft) (r : Solved) → SaysBy I L r → Tells r
  tells_by L (Err r) (inl x) = inl x.0.first
  tells_by L (Err r) (inr x) = inr (x.passed, x.ended_so)
  tells_by L (Ok (NoTyping k)) x = ((x.searched.passed, x.searched.had_room), x.no_leaf)
  tells_by L (Ok (Ambiguous k)) x = ((x.searched.passed, x.searched.had_room), x.tied)
  tells_by L (Ok (Typing o)) x = ((x.searched.passed, x.searched.had_room), (measure_out L o, x.least, x.once))

  -- room ends in one way, and not where a search had room
  one_end : (r t : Refusal) (H : Out (List Components)) → RoomEndedAs r H → RoomEndedAs t H → r ≡ t
  one_end r t (found w) x y = absurd x
  one_end r t (missed w) x y = absurd x
  one_end r t (ended c W) x y = x ∙ sym y

  not_both : (r : Refusal) (H : Out (List Components)) → RoomEndedAs r H → HadRoom H → ⊥
  not_both r (found w) x y = x
  not_both r (missed w) x y = x
  not_both r (ended c W) x y = y

  pub one_refusal : (c d : Refusal) → Tells (Err c) → Tells (Err d) → c ≡ d
  one_refusal c d (inl x) (inl y) = cc
  one_refusal c d (inl x) (inr y) = let z = y.0 in no_confusion (cc)
  one_refusal c d (inr x) (inl y) = let z = x.0 in no_confusion (cc)
  one_refusal c d (inr x) (inr y) = one_end c d (history I) x.1 y.1

  pub refused_or_searched : (c : Refusal) → Tells (Err c) → Searched → ⊥
  refused_or_searched c (inl x) y = let z = y.0 in no_confusion (cc)
  refused_or_searched c (inr x) y = not_both c (history I) x.1 y.1

  none_least : leaves_met I ≡ [] → (m : Components) → Least m (leaves_met I) → ⊥
  none_least e m l = not_in_nothing m (subst (In m) e l.among)

  often_once : (m n : Components) → Least m (leaves_met I) → 1 < times m (leaves_met I) → Least n (leaves_met I) → times n (leaves_met I) ≡ 1 → ⊥
  often_once m n l a k b = omega (arith, a, b, ap (λ (x : Components). times x (leaves_met I)) (least_is_one m n (leaves_met I) l k))

  pub one_code : (r t : Solved) → Tells r → Tells t → code_solved r ≡ code_solved t
  unfolding code_solved
  one_code (Err c) (Err d) x y = ap code_of_refusal (one_refusal c d x y)
  one_code (Err c) (Ok (NoTyping l)) x y = absurd (refused_or_searched c x y.0)
  one_code (Err c) (Ok (Ambiguous l)) x y = absurd (refused_or_searched c x y.0)
  one_code (Err c) (Ok (Typing p)) x y = absurd (refused_or_searched c x y.0)
  one_code (Ok (NoTyping k)) (Err d) x y = absurd (refused_or_searched d y x.0)
  one_code (Ok (NoTyping k)) (Ok (NoTyping l)) x y = refl
  one_code (Ok (NoTyping k)) (Ok (Ambiguous l)) x y = absurd (none_least x.1 y.1.0 y.1.1)
  one_code (Ok (NoTyping k)) (Ok (Typing p)) x y = absurd (none_least x.1 y.1.0 y.1.1)
  one_code (Ok (Ambiguous k)) (Err d) x y = absurd (refused_or_searched d y x.0)
  one_code (Ok (Ambiguous k)) (Ok (NoTyping l)) x y = absurd (none_least y.1 x.1.0 x.1.1)
  one_code (Ok (Ambiguous k)) (Ok (Ambiguous l)) x y = refl
  one_code (Ok (Ambiguous k)) (Ok (Typing p)) x y = absurd (often_once x.1.0 y.1.0 x.1.1 x.1.2 y.1.1 y.1.2)
  one_code (Ok (Typing o)) (Err d) x y = absurd (refused_or_searched d y x.0)
  one_code (Ok (Typing o)) (Ok (NoTyping l)) x y = absurd (none_least y.1 x.1.0 x.1.1)
  one_code (Ok (Typing o)) (Ok (Ambiguous l)) x y = absurd (often_once y.1.0 x.1.0 y.1.1 y.1.2 x.1.1 x.1.2)
  one_code (Ok (Typing o)) (Ok (Typing p)) x y = refl

  -- a call has one verdict, and a typing one measure
  pub one_verdict : (L M : SolveLeft) → EntrySays I L → EntrySays I M → code_left L ≡ code_left M
  one_verdict L M s t = one_code L.answer M.answer (tells_by L L.answer s) (tells_by M M.answer t)

  pub one_measure : (L M : SolveLeft) (o p : Outputs) → SaysTyping I L o → SaysTyping I M p → measure_out L o ≡ measure_out M p
  one_measure L M o p s t = least_is_one (measure_out L o) (measure_out M p) (leaves_met I) s.least t.least

-- A packed answer.
module _ (I : Call) (q : PackedSolve) (s : PackedSays I q) where
  -- the low byte 0 is a typing, of which all is said that the entry says of one
  pub zero_is_a_typing : q.result % 256 ≡ 0 → (o : Outputs) × (q.result ≡ pack_solved (Ok (Typing o))) × SaysTyping I (left_of (Ok (Typing o)) q) o
  unfolding code_solved
  zero_is_a_typing z = go s.answer s.packed s.within (sym s.low_byte ∙ z) s.says
    where
      go : (r : Solved) → q.result ≡ pack_solved r → SolvedWithin r → code_solved r ≡ 0 → SaysBy I (left_of r q) r
          → (o : Outputs) × (q.result ≡ pack_solved (Ok (Typing o))) × SaysTyping I (left_of (Ok (Typing o)) q) o
      go (Err r) p w e x = absurd (omega (arith, w.0, e))
      go (Ok (NoTyping k)) p w e x = absurd (omega (arith, e))
      go (Ok (Ambiguous k)) p w e x = absurd (omega (arith, e))
      go (Ok (Typing o)) p w e x = (o, p, x)

  -- by the leaves that the search met the low byte is 17, 18 or 0
  pub low_byte_by_leaves : first_failing (solve_checks I) ≡ Ok tt → (q.result % 256 ≡ 15 → ⊥) → (q.result % 256 ≡ 16 → ⊥)
      → ((q.result % 256 ≡ 17) ↔ (leaves_met I ≡ []))
      × ((q.result % 256 ≡ 18) ↔ ((m : Components) × Least m (leaves_met I) × (1 < times m (leaves_met I))))
      × ((q.result % 256 ≡ 0) ↔ ((m : Components) × Least m (leaves_met I) × (times m (leaves_met I) ≡ 1)))
  low_byte_by_leaves f n m =
      let B = entry_by_leaves I (left_of s.answer q) s.says f (λ x. n (s.low_byte ∙ x)) (λ x. m (s.low_byte ∙ x)) in
      subst (λ (c : ℕ). ((c ≡ 17) ↔ (leaves_met I ≡ []))
      × ((c ≡ 18) ↔ ((m : Components) × Least m (leaves_met I) × (1 < times m (leaves_met I))))
      × ((c ≡ 0) ↔ ((m : Components) × Least m (leaves_met I) × (times m (leaves_met I) ≡ 1))))
      (sym s.low_byte) (B.none_met, B.least_met_often, B.least_met_once)

  -- it stands for one answer
  pub one_answer : (t : PackedSays I q) → t.answer ≡ s.answer
  one_answer t = s.only t.answer t.within t.packed
