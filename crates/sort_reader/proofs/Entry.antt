-- The tests of a line, one after another; what the recognised steps store, and what stays of it; and the index after it. Assumes nothing.
use mathlib.Core.Path.{◌≡◌, refl, sym, ◌∙◌, ap, ap₂, subst}
use mathlib.Core.Bool.{true, ◌&&◌, and-eq-true_iff}
use mathlib.Core.List.{List, [], ◌∷◌}
use Prim.Native.Nat.{ℕ, zero, suc, ◌-◌, ◌*◌, ◌≤◌, ◌<◌}
use native.Mathlib.Omega.{arith}
use lib.ListN.{length, take, length-take, length-drop, replicate}
use lib.Dec.{leb, eqb}
use borrow.Author.Tests.{leb-true, le-leb, lt-leb, eqb-true}
use Rattle.resolved_sort.specs.declared.Refusal.{Refusal}
use Rattle.resolved_sort.specs.declared.Refusal.TheVariants.{TooShort, LongLine}
use Rattle.resolved_sort.specs.declared.SortId.{SortId}
use Rattle.resolved_sort.specs.declared.Sort as Sorts
use Rattle.resolved_sort.specs.Checks.{Tested}
use Rattle.std.specs.Prelude.{Some, None, Result, Ok, Err, IsErrAnd}
use Rattle.resolved_sort.specs.Entries.{At}
use Rattle.resolved_sort.specs.declared.Counts.{Counts}
use Rattle.resolved_sort.specs.Tree.{Tree}
use Rattle.resolved_sort.specs.Interning.{look, member, Outcome, made, nothing, full}
use Rattle.resolved_sort.specs.Storage.{max_sorts, max_entries, full_length, given_back, entries_at, kind_at, words_at, tree_of, Row, trees, sorts_of}
use Rattle.resolved_sort.specs.Checks.{within_lent, fixed_six, at_ceiling, Check, first_failing, sort_checks}
use Rattle.resolved_sort.specs.Entries.{Stored, stored}
use Rattle.resolved_sort.specs.Rows.{stored_at}
use Rattle.resolved_sort.specs.Index.{slots, index_long}
use Rattle.words.specs.Words.{cleared}
use Rattle.resolved_sort.proofs.Below.{below_each}
use Rattle.resolved_sort.proofs.Numbers.{member_look}
use Rattle.resolved_sort.proofs.Trees.{length_trees, look_row}
use Rattle.resolved_sort.proofs.Grown.{grown_none}
use Rattle.resolved_sort.specs.Growing.{SortsKept, InTree}
use Rattle.resolved_sort.proofs.Unchanged.{length_after}
use Rattle.resolved_sort.proofs.GivenBack.{made_is_given_back}
use Rattle.resolved_sort.proofs.FirstFailing.{first_fails, first_passes, append_fails, append_passes, cons_passes}
use Rattle.sort_text.specs.declared.Unread.TheVariants.{Refused, NotASort, NoRoom}
use Rattle.sort_text.specs.Parse.{Parsed, parsed, stuck, line}
use Rattle.sort_text.specs.Postfix.{Short, sixth, postfix, steps, HasPrimitives, HasSix, InStack}
use Rattle.sort_text.specs.Reading.{store, ReadAnswer, short_line, read_checks, WordsLeft, words_left, stored_by, read_as_of}
use Rattle.sort_text.specs.Reading.{reading_words, index_left, read_left, reading}
use Rattle.sort_text.proofs.Stores.{steps_are_store}
use Rattle.sort_text.proofs.Running.{steps_kept}
use Rattle.sort_text.proofs.WhatIsRead.{line_writable}
use Rattle.sort_text.proofs.LineSteps.{line_steps_short}
use Rattle.sort_recogniser.specs.Inner.Says.{Recognised, done_at, stuck_at, Says}
use Rattle.sort_reader.specs.Inner.Run.{stack_of, run_at, Running, RunLeft, steps_stored}
use Rattle.sort_reader.specs.Inner.Tested.{Passes}

-- checks 14 and 19
module _ (ws ix : List ℕ) (n e : ℕ) (bs : List ℕ) where
  abbrev fourteen : Check
  fourteen = record { refusal = TooShort; passes = at_ceiling ws && index_long ix }

  abbrev nineteen : Check
  nineteen = record { refusal = LongLine; passes = short_line bs }

  pub sorts_fail : (c : Refusal) → Err c ≡ first_failing (sort_checks ws n e) → Err c ≡ first_failing (read_checks ws ix n e bs)
  unfolding read_checks
  sorts_fail c r = sym (append_fails (sort_checks ws n e) (fourteen ∷ nineteen ∷ []) c (sym r))

  module _ (p : Ok tt ≡ first_failing (sort_checks ws n e)) where
    past_sorts : first_failing (read_checks ws ix n e bs) ≡ first_failing (fourteen ∷ nineteen ∷ [])
    unfolding read_checks
    past_sorts = append_passes (sort_checks ws n e) (fourteen ∷ nineteen ∷ []) (sym p)

    pub storage_short : length ws < full_length → Err TooShort ≡ first_failing (read_checks ws ix n e bs)
    unfolding at_ceiling
    storage_short h = sym (past_sorts ∙ first_fails fourteen _ (ap (λ b. b && index_long ix) (lt-leb full_length (length ws) h)))

    module _ (h : full_length ≤ length ws) where
      pub index_short : length ix < slots → Err TooShort ≡ first_failing (read_checks ws ix n e bs)
      unfolding at_ceiling index_long
      index_short l = sym (past_sorts ∙ first_fails fourteen _ (rw (le-leb full_length (length ws) h, lt-leb slots (length ix) l)))

      module _ (x : slots ≤ length ix) where
        past_14 : first_failing (read_checks ws ix n e bs) ≡ first_failing (nineteen ∷ [])
        unfolding at_ceiling index_long
        past_14 = past_sorts ∙ first_passes fourteen _ (rw (le-leb full_length (length ws) h, le-leb slots (length ix) x))

        pub line_long : 200 < length bs → Err LongLine ≡ first_failing (read_checks ws ix n e bs)
        unfolding short_line
        line_long l = sym (past_14 ∙ first_fails nineteen _ (lt-leb (length bs) 200 l))

        pub all_pass : length bs ≤ 200 → Ok tt ≡ first_failing (read_checks ws ix n e bs)
        unfolding short_line first_failing
        all_pass l = sym (past_14 ∙ first_passes nineteen [] (le-leb (length bs) 200 l))

-- what a `?` hands on
pub handed : {A E : Type 0} (x : Result A E) (e : E) → IsErrAnd x (λ f. f ≡ e) → x ≡ Err e
handed (Ok a) e h = absurd h
handed (Err f) e h = ap Err h

-- the words left, and the index with them
pub left_by : (ws ix : List ℕ) (n e : ℕ) (bs : List ℕ) (vs jx : List ℕ) (r : ReadAnswer) → words_left vs r ≡ reading_words ws ix n e bs
    → jx ≡ index_left ix r → read_left vs jx r ≡ reading ws ix n e bs
unfolding reading
left_by ws ix n e bs vs jx r w i =
    ap (λ kx. read_left vs kx r) i ∙ ap (λ (l : WordsLeft). read_left l.words (index_left ix l.answer) l.answer) w

-- what it means that no check fails
module _ (ws ix : List ℕ) (n e : ℕ) (bs : List ℕ) (t : Tested) (et : t ≡ first_failing (read_checks ws ix n e bs)) where
  pub refused : (c : Refusal) → t ≡ Err c → read_left ws ix (Err (Refused c)) ≡ reading ws ix n e bs
  unfolding reading_words index_left
  refused c r = left_by ws ix n e bs ws ix (Err (Refused c)) (rw (sym et ∙ r)) refl

  module _ (p : t ≡ Ok tt) where
    answered : (us ux : List ℕ) (r : ReadAnswer) → words_left us r ≡ read_as_of ws n e bs (line bs) → ux ≡ index_left ix r
        → read_left us ux r ≡ reading ws ix n e bs
    unfolding reading_words
    answered us ux r g i = left_by ws ix n e bs us ux r (g ∙ rw (sym et ∙ p)) i

    pub passes : Passes ws n e bs
    unfolding read_checks sort_checks within_lent at_ceiling short_line
    passes =
        let c₁ = cons_passes _ _ (sym et ∙ p) in
        let c₂ = cons_passes _ _ c₁.1 in
        let c₃ = cons_passes _ _ c₂.1 in
        let c₄ = cons_passes _ _ c₃.1 in
        let c₅ = cons_passes _ _ c₄.1 in
        let c₆ = cons_passes _ _ c₅.1 in
        let a = (and-eq-true_iff (leb n max_sorts && leb e max_entries && leb (4 * n) (length ws)) (leb e (length ws - entries_at))).0 c₁.0 in
        let b = (and-eq-true_iff (leb n max_sorts && leb e max_entries) (leb (4 * n) (length ws))).0 a.0 in
        let d = (and-eq-true_iff (leb n max_sorts) (leb e max_entries)).0 b.0 in
        let f = (and-eq-true_iff (leb full_length (length ws)) (index_long ix)).0 c₅.0 in
        record {
          checked = record {
            long = leb-true full_length (length ws) f.0;
            sorts = leb-true n max_sorts d.0;
            entries = leb-true e max_entries d.1;
            fine = c₃.0;
            differ = c₄.0;
          };
          six = c₂.0;
          short = leb-true (length bs) 200 c₆.0;
        }

    pub index_fits : slots ≤ length ix
    unfolding read_checks sort_checks index_long
    index_fits =
        let c₁ = cons_passes _ _ (sym et ∙ p) in
        let c₂ = cons_passes _ _ c₁.1 in
        let c₃ = cons_passes _ _ c₂.1 in
        let c₄ = cons_passes _ _ c₃.1 in
        let c₅ = cons_passes _ _ c₄.1 in
        leb-true slots (length ix) ((and-eq-true_iff (at_ceiling ws) (leb slots (length ix))).0 c₅.0).1

    -- with the counts that the tests answered
    module _ (k : Counts) (sorts_given : k.sorts ≡ n) (entries_given : k.entries ≡ e) where
      pub passes_with : Passes ws k.sorts k.entries bs
      passes_with =
          subst (λ i. Passes ws i k.entries bs) (sym sorts_given) (subst (λ j. Passes ws n j bs) (sym entries_given) passes)

      here : (us : List ℕ) (r : ReadAnswer) → words_left us r ≡ read_as_of ws k.sorts k.entries bs (line bs) → words_left us r ≡ read_as_of ws n e bs (line bs)
      here us r g = g ∙ ap₂ (λ (i j : ℕ). read_as_of ws i j bs (line bs)) sorts_given entries_given

      pub not_a_sort_left : (us : List ℕ) (p : ℕ) → words_left us (Err (NotASort p)) ≡ read_as_of ws k.sorts k.entries bs (line bs)
          → read_left us ix (Err (NotASort p)) ≡ reading ws ix n e bs
      unfolding index_left
      not_a_sort_left us p g = answered us ix (Err (NotASort p)) (here us (Err (NotASort p)) g) refl

      -- the words as the storing left them, and the index cleared
      module _ (us jx ux : List ℕ) (z : ux ≡ cleared jx) (vs : List ℕ) where
        zero_as_lent : length jx ≡ length ix → ux ≡ cleared ix
        zero_as_lent same = z ∙ ap (λ m. replicate m 0) same

        pub sort_left : (s : SortId) (l : Counts) → words_left vs (Ok (s, l)) ≡ read_as_of ws k.sorts k.entries bs (line bs)
            → us ≡ vs → length jx ≡ length ix → read_left us ux (Ok (s, l)) ≡ reading ws ix n e bs
        unfolding index_left
        sort_left s l g w same =
            answered us ux (Ok (s, l)) (ap (λ ws. words_left ws (Ok (s, l))) w ∙ here vs (Ok (s, l)) g) (zero_as_lent same)

        pub no_room_left : words_left vs (Err NoRoom) ≡ read_as_of ws k.sorts k.entries bs (line bs)
            → us ≡ vs → length jx ≡ length ix → read_left us ux (Err NoRoom) ≡ reading ws ix n e bs
        unfolding index_left
        no_room_left g w same =
            answered us ux (Err NoRoom) (ap (λ ws. words_left ws (Err NoRoom)) w ∙ here vs (Err NoRoom) g) (zero_as_lent same)

-- the fixed six
pub tree_of_six : (T : List Tree) (r : Row) (k : ℕ) → k < 6 → r.kind ≡ k → tree_of T r ≡ sixth k
unfolding tree_of
tree_of_six T r zero l e = rw e
tree_of_six T r (suc zero) l e = rw e
tree_of_six T r (suc (suc zero)) l e = rw e
tree_of_six T r (suc (suc (suc zero))) l e = rw e
tree_of_six T r (suc (suc (suc (suc zero)))) l e = rw e
tree_of_six T r (suc (suc (suc (suc (suc zero))))) l e = rw e
tree_of_six T r (suc (suc (suc (suc (suc (suc k)))))) l e = absurd (omega (arith, l))

module _ (ws : List ℕ) (n e : ℕ) (has : 6 ≤ n) (looks : (k : ℕ) → k < 6 → look (trees ws n) k ≡ sixth k) where
  six_held : HasSix (sorts_of ws n e)
  six_held k l = subst (λ t. member (trees ws n) t ≡ true) (looks k l) (member_look (trees ws n) k (omega (arith, has, length_trees ws n)))

-- what the steps of a sort store: kept, or given back
module _ (ws : List ℕ) (n e : ℕ) (ops : List ℕ) (q : Running ws n e ops 0 [] 0) (vs : List ℕ) (k : Counts) where
  steps_held : SortsKept ws n e InTree (sorts_of ws n e) (steps ops [] (sorts_of ws n e))
  unfolding InStack
  steps_held =
      steps_kept ws n e ops [] (sorts_of ws n e) q.steps_left (grown_none ws n e q.checked) (six_held ws n e q.has_six q.six) tt

  sort_kept : (s : SortId) (w : Stored) → stored_at vs (At s k) ≡ w → words_left vs (Ok (s, k)) ≡ stored_by ws n e w w.answer
  unfolding stored_by
  sort_kept s w f = subst (λ (w : Stored). words_left vs (Ok (s, k)) ≡ stored_by ws n e w w.answer) f refl

  pub some_stored : (s : SortId) → RunLeft vs k (Some s) (run_at ws n e ops [] 0) → words_left vs (Ok (s, k)) ≡ steps_stored ws n e ops
  some_stored s f = sort_kept s (run_at ws n e ops [] 0) f

  none_kept : (O : Outcome Tree) → SortsKept ws n e InTree (sorts_of ws n e) O → RunLeft vs k None (stored ws n e O)
      → (length vs ≡ length ws) × (words_left (given_back n e vs) (Err NoRoom) ≡ stored_by ws n e (stored ws n e O) (stored ws n e O).answer)
  unfolding SortsKept stored stored_by
  none_kept (made v S) h r = absurd r.1
  none_kept (nothing S) h r = (
    ap length r.0 ∙ length_after ws n e q.checked S h.0,
    ap (λ us. words_left (given_back n e us) (Err NoRoom)) r.0 ∙ ap (λ us. words_left us (Err NoRoom)) (made_is_given_back ws n e q.checked S h.0),
  )
  none_kept (full S) h r = (
    ap length r.0 ∙ length_after ws n e q.checked S h.0,
    ap (λ us. words_left (given_back n e us) (Err NoRoom)) r.0 ∙ ap (λ us. words_left us (Err NoRoom)) (made_is_given_back ws n e q.checked S h.0),
  )

  module _ (f : RunLeft vs k None (run_at ws n e ops [] 0)) where
    nothing_stored : (length vs ≡ length ws) × (words_left (given_back n e vs) (Err NoRoom) ≡ steps_stored ws n e ops)
    unfolding run_at stack_of
    nothing_stored = none_kept (steps ops [] (sorts_of ws n e)) steps_held f

    pub as_long : length vs ≡ length ws
    as_long = nothing_stored.0

    pub none_stored : words_left (given_back n e vs) (Err NoRoom) ≡ steps_stored ws n e ops
    none_stored = nothing_stored.1

module _ (ws : List ℕ) (n e : ℕ) (bs : List ℕ) (q : Passes ws n e bs) where
  two : (leb 6 n ≡ true) × ((k : ℕ) → k < 6 → eqb (kind_at ws k) k ≡ true)
  unfolding fixed_six
  two = let a = (and-eq-true_iff (leb 6 n) _).0 q.six in (a.0, below_each 6 (λ i. eqb (kind_at ws i) i) a.1)

  has_six : 6 ≤ n
  has_six = leb-true 6 n two.0

  look_six : (k : ℕ) → k < 6 → look (trees ws n) k ≡ sixth k
  look_six k l = look_row ws n k (omega (arith, has_six)) ∙ tree_of_six (trees ws k) (words_at ws k) k l (eqb-true (kind_at ws k) k (two.1 k l))

  six_in : HasSix (sorts_of ws n e)
  six_in = six_held ws n e has_six look_six

  pub primitives_in : HasPrimitives (sorts_of ws n e)
  primitives_in Sorts.Sort.Bool = six_in 1 (omega arith)
  primitives_in Sorts.Sort.Pos = six_in 2 (omega arith)
  primitives_in Sorts.Sort.Nat = six_in 3 (omega arith)
  primitives_in Sorts.Sort.Int = six_in 4 (omega arith)
  primitives_in Sorts.Sort.Real = six_in 5 (omega arith)

  -- what a sort of the line stores
  module _ (cs : List ℕ) (t : Tree) (is : line bs ≡ parsed t cs) where
    store_is : steps (postfix t) [] (sorts_of ws n e) ≡ store t (sorts_of ws n e)
    store_is = steps_are_store t (line_writable bs cs t is) (sorts_of ws n e) primitives_in

    pub store_kept : SortsKept ws n e InTree (sorts_of ws n e) (store t (sorts_of ws n e))
    unfolding InStack
    store_kept = subst (SortsKept ws n e InTree (sorts_of ws n e)) store_is (steps_kept ws n e (postfix t) []
        (sorts_of ws n e) (line_steps_short bs cs t is) (grown_none ws n e q.checked) six_in tt)

  -- a line that is no sort
  not_a_sort_at : (P : Parsed) (out : List ℕ) (p : ℕ) → Says bs 0 (length bs) [] P out (stuck_at p) → words_left ws (Err (NotASort p)) ≡ read_as_of ws n e bs P
  unfolding Says read_as_of
  not_a_sort_at (parsed t cs) out p s = absurd s
  not_a_sort_at (stuck cs) out p s =
      let f : p ≡ length bs - length cs = omega (arith, s.0, ap length s.1, length-drop p bs) in ap (λ x. words_left ws (Err (NotASort x))) f

  module _ (out : List ℕ) (r : Recognised) (s : Says bs 0 (length bs) [] (line bs) out r) where
    pub not_a_sort : (p : ℕ) → r ≡ stuck_at p → words_left ws (Err (NotASort p)) ≡ read_as_of ws n e bs (line bs)
    not_a_sort p i = not_a_sort_at (line bs) out p (subst (Says bs 0 (length bs) [] (line bs) out) i s)

    -- a sort, and its steps
    record Recognises (m : ℕ) : Type 0 where
      sort : Tree
      left : List ℕ
      is : line bs ≡ parsed sort left
      few : m ≤ length bs
      written : take m out ≡ postfix sort

    recognises_at : (P : Parsed) → line bs ≡ P → (p m : ℕ) → Says bs 0 (length bs) [] P out (done_at p m) → Recognises m
    unfolding Says
    recognises_at (parsed t cs) f p m w = record { sort = t; left = cs; is = f; few = omega (arith, w.fits); written = w.written }
    recognises_at (stuck cs) f p m w = absurd w

    module _ (p m : ℕ) (i : r ≡ done_at p m) where
      abbrev it : Recognises m
      it = recognises_at (line bs) refl p m (subst (Says bs 0 (length bs) [] (line bs) out) i s)

      pub few_steps : m ≤ 200
      few_steps = omega (arith, it.few, q.short)

      short_steps : Short (postfix it.sort)
      short_steps = line_steps_short bs it.left it.sort it.is

      pub runs : Running ws n e (take m out) 0 [] 0
      runs =
          record {
            checked = q.checked;
            has_six = has_six;
            six = look_six;
            numbers = λ d l. absurd (omega (arith, l));
            room = omega (arith, few_steps, length-take m out);
            steps_left = subst Short (sym it.written) short_steps;
          }

      run_is : run_at ws n e (take m out) [] 0 ≡ stored ws n e (store it.sort (sorts_of ws n e))
      unfolding run_at stack_of
      run_is = ap (λ ops. stored ws n e (steps ops [] (sorts_of ws n e))) it.written ∙ ap (stored ws n e) (store_is it.left it.sort it.is)

      pub line_stored : steps_stored ws n e (take m out) ≡ read_as_of ws n e bs (line bs)
      unfolding read_as_of
      line_stored = ap (λ (w : Stored). stored_by ws n e w w.answer) run_is ∙ sym (ap (read_as_of ws n e bs) it.is)
