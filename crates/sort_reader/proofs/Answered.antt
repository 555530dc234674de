-- What the entry read answers and leaves, whatever it is given: a refusal names the first failing check and leaves the words and the index; so does 20,
-- with the unread end; a sort's number stands for the line's sort in the words left; room ended at a sort that did not fit; and the index is zero after
-- these two. By what storing answers (`store_stores`), keeps (`store_kept`) and ends at. Assumes nothing.
use mathlib.Core.Path.{◌≡◌, refl, sym, ◌∙◌, ap, ap₂, subst}
use mathlib.Core.Bool.{true, ◌&&◌, and-eq-true_iff}
use mathlib.Core.Logic.{◌↔◌}
use mathlib.Core.List.{List, []}
use Prim.Native.Nat.{ℕ, ◌-◌}
use native.Mathlib.Omega.{arith}
use Rattle.std.specs.Prelude.{Ok, Err}
use Rattle.resolved_sort.specs.Tree.{Tree, flat, container, function, Trees, no_args, arg, arity}
use Rattle.resolved_sort.specs.Interning.{Sorts, look, number, Outcome, made, nothing, full}
use Rattle.resolved_sort.specs.Storage.{max_arguments, sorts_of, trees, given_back}
use Rattle.resolved_sort.specs.Checks.{first_failing, Tested}
use lib.Dec.{leb}
use borrow.Author.Tests.{leb-true}
use lib.ListN.{length, drop, length-drop}
use Rattle.resolved_sort.specs.declared.Counts.{Counts}
use Rattle.resolved_sort.specs.declared.Refusal.{Refusal}
use Rattle.resolved_sort.specs.declared.SortId.{SortId}
use Rattle.resolved_sort.specs.Entries.{refused_or, tree_at, counts_of, after, stored}
use Rattle.resolved_sort.specs.Growing.{SortsKept, InTree}
use Rattle.resolved_sort.proofs.Numbers.{look_number, number_below}
use Rattle.entry_answers.proofs.SortsLeft.{own_number, grew, put_back, put_back_once}
use Rattle.entry_answers.proofs.RanOut.{Ends, Anything, AsMany, one_more, ends_then, made_ends, flat_ends, container_ends, function_ends, ran_out}
use Rattle.sort_text.specs.declared.Unread.TheVariants.{Refused, NotASort, NoRoom}
use Rattle.sort_text.specs.Parse.{Parsed, parsed, stuck, line}
use Rattle.sort_text.specs.Readable.{few, fews}
use Rattle.sort_text.specs.Reading.{store, stores, read_checks, ReadAnswer, WordsLeft, words_left, stored_by, read_as_of}
use Rattle.sort_text.specs.Reading.{reading_words, index_left, ReadLeft, read_left, reading}
use Rattle.sort_text.proofs.Stores.{Stores, store_stores}
use Rattle.sort_text.proofs.Suffix.{unread_end}
use Rattle.sort_text.proofs.WhatIsRead.{line_few, line_read_whole}
use Rattle.sort_reader.specs.Inner.Tested.{Passes}
use Rattle.sort_reader.specs.Answered.{ReadRefused, ReadStuck, ReadSort, ReadNoRoom, ReadSays}
use Rattle.sort_reader.proofs.Entry.{left_by, passes, primitives_in, store_kept}

-- storing a sort with at most 16 arguments at each function ends only where a sort does not fit
mutual
  unfolding store stores few fews

  store_ends : (t : Tree) (S : Sorts) → few t ≡ true → Ends Anything (store t S)
  store_ends (flat a) S w = flat_ends a S
  store_ends (container o t) S w = ends_then Anything Anything (store t S) _ (store_ends t S w) (λ u S₁ x. container_ends o u S₁)
  store_ends (function ts r) S w =
      let x = (and-eq-true_iff (leb (arity ts) max_arguments && fews ts) (few r)).0 w in
      let y = (and-eq-true_iff (leb (arity ts) max_arguments) (fews ts)).0 x.0 in
      let l = leb-true (arity ts) max_arguments y.0 in
      ends_then (AsMany ts) Anything (stores ts S) _ (stores_end ts S y.1)
      (λ us S₁ q. ends_then Anything Anything (store r S₁) _ (store_ends r S₁ x.1) (λ v S₂ z. function_ends us v S₂ (omega (arith, q, l))))

  stores_end : (ts : Trees) (S : Sorts) → fews ts ≡ true → Ends (AsMany ts) (stores ts S)
  stores_end no_args S w = made_ends (AsMany no_args) no_args S refl
  stores_end (arg t ts) S w =
      let x = (and-eq-true_iff (few t) (fews ts)).0 w in
      ends_then Anything (AsMany (arg t ts)) (store t S) _ (store_ends t S x.0)
      (λ u S₁ y. ends_then (AsMany ts) (AsMany (arg t ts)) (stores ts S₁) _ (stores_end ts S₁ x.1)
      (λ us S₂ q. made_ends (AsMany (arg t ts)) (arg u us) S₂ (one_more ts t us u q)))

module _ (ws ix : List ℕ) (n e : ℕ) (bs : List ℕ) where
  abbrev says : WordsLeft → Type 0
  says z = ReadSays ws ix n e bs z.words (index_left ix z.answer) z.answer

  module _ (f : first_failing (read_checks ws ix n e bs) ≡ Ok tt) where
    passed : Passes ws n e bs
    passed = passes ws ix n e bs (Ok tt) (sym f) refl

    by_outcome : (t : Tree) → line bs ≡ parsed t [] → (O : Outcome Tree) → store t (sorts_of ws n e) ≡ O → SortsKept ws n e InTree (sorts_of ws n e) O
        → Stores t O → Ends Anything O → says (stored_by ws n e (stored ws n e O) (stored ws n e O).answer)
    unfolding SortsKept stored stored_by Stores ran_out index_left
    by_outcome t l (made u S) m h x y =
        let stands : look (trees (after ws n e S) (length S.trees)) (number S.trees u) ≡ t =
        ap (λ T. look T (number S.trees u)) h.0.reads ∙ (look_number S.trees u h.2 ∙ x.0) in
        record {
          passed = f;
          listed = number_below S.trees u h.2;
          is = l ∙ ap (λ s. parsed s []) (sym stands);
          grew = grew ws n e passed.checked passed.six S h.0;
          sorts = S;
          stored_so =
              ap (λ s. store s (sorts_of ws n e)) stands
              ∙ (m ∙ ap (λ s. made s S) (x.0 ∙ sym stands));
          left = record { words = refl; counts = refl };
          zero_index = refl;
        }
    by_outcome t l (nothing S) m h x y = absurd x
    by_outcome t l (full S) m h x y =
        record {
          passed = f;
          sort = t;
          is = l;
          ran_out = ran_out ws n e Tree Anything S h.0 y;
          stored_so = m;
          put_back = put_back ws n e passed.checked passed.six;
          zero_index = refl;
        }

    by_line : (P : Parsed) → line bs ≡ P → says (read_as_of ws n e bs P)
    unfolding read_as_of index_left
    by_line (parsed t cs) l =
        by_outcome t (l ∙ ap (parsed t) (line_read_whole bs cs t l)) (store t (sorts_of ws n e)) refl (store_kept ws n e bs passed cs t l)
        (store_stores t (sorts_of ws n e) (primitives_in ws n e bs passed)) (store_ends t (sorts_of ws n e) (line_few bs cs t l))
    by_line (stuck cs) l =
        record { passed = f; inside = omega arith; is = l ∙ ap stuck (sym (unread_end bs cs l)); given = refl; given_index = refl }

  by_check : (o : Tested) → first_failing (read_checks ws ix n e bs) ≡ o
      → says (refused_or o (λ c. words_left ws (Err (Refused c))) (read_as_of ws n e bs (line bs)))
  unfolding index_left
  by_check (Ok u) f = by_line f (line bs) refl
  by_check (Err c) f = record { first = f; given = refl; given_index = refl }

  -- Whatever words, index, counts and line the entry is given: what its answer and the words and the index that it leaves say.
  pub entry_is_line : (vs jx : List ℕ) (r : ReadAnswer) → read_left vs jx r ≡ reading ws ix n e bs → ReadSays ws ix n e bs vs jx r
  unfolding reading reading_words
  entry_is_line vs jx r w =
      subst (λ (z : ReadLeft). ReadSays ws ix n e bs z.words z.index z.answer) (sym w) (by_check (first_failing (read_checks ws ix n e bs)) refl)

  -- And the other way: what says so is the defined outcome. So no clause of it says less than the entry does.
  module _ (f : first_failing (read_checks ws ix n e bs) ≡ Ok tt) where
    by_reading : (P : Parsed) → line bs ≡ P → read_as_of ws n e bs P ≡ reading_words ws ix n e bs
    unfolding reading_words
    by_reading P l = sym (rw f (ap (read_as_of ws n e bs) l))

    by_stored : (t : Tree) → line bs ≡ parsed t [] → (O : Outcome Tree) → store t (sorts_of ws n e) ≡ O
        → stored_by ws n e (stored ws n e O) (stored ws n e O).answer ≡ reading_words ws ix n e bs
    unfolding read_as_of
    by_stored t l O m = sym (ap (λ P. stored_by ws n e (stored ws n e P) (stored ws n e P).answer) m) ∙ by_reading (parsed t []) l

    sort_left : (vs jx : List ℕ) (s : SortId) (k : Counts) → ReadSort ws ix n e bs vs jx s k → words_left vs (Ok (s, k)) ≡ reading_words ws ix n e bs
    unfolding SortsKept stored stored_by
    sort_left vs jx s k x =
        let t : Tree = tree_at vs k.sorts s.0 in
        let S = x.sorts in
        let kept : SortsKept ws n e InTree (sorts_of ws n e) (made t S) =
        subst (SortsKept ws n e InTree (sorts_of ws n e)) x.stored_so (store_kept ws n e bs (passed f) [] t x.is) in
        let same : t ≡ tree_at (after ws n e S) (length S.trees) s.0 =
        ap₂ (λ us m. tree_at us m s.0) x.left.words (ap (λ (c : Counts). c.sorts) x.left.counts) in
        let number_is : number S.trees t ≡ s.0 =
        ap (number S.trees) same ∙ own_number ws n e S kept.0 s.0 (omega (arith, x.listed, ap (λ (c : Counts). c.sorts) x.left.counts)) in
        ap₂ (λ us c. words_left us (Ok (s, c))) x.left.words x.left.counts
        ∙ (ap (λ i. words_left (after ws n e S) (Ok (record { 0 = i }, counts_of S))) (sym number_is) ∙ by_stored t x.is (made t S) x.stored_so)

    no_room_left : (vs jx : List ℕ) → ReadNoRoom ws ix n e bs vs jx → words_left vs (Err NoRoom) ≡ reading_words ws ix n e bs
    unfolding stored stored_by
    no_room_left vs jx x =
        ap (λ us. words_left us (Err NoRoom))
        (put_back_once ws n e vs (given_back n e ws) x.put_back (put_back ws n e (passed f).checked (passed f).six))
        ∙ by_stored x.sort x.is (full x.ran_out.so_far) x.stored_so

    stuck_left : (vs jx : List ℕ) (at : ℕ) → ReadStuck ws ix n e bs vs jx at → words_left vs (Err (NotASort at)) ≡ reading_words ws ix n e bs
    unfolding read_as_of
    stuck_left vs jx at x =
        ap₂ (λ us p. words_left us (Err (NotASort p))) x.given
        (let d : length (drop at bs) ≡ length bs - at = length-drop at bs in let z : at ≡ length bs - length (drop at bs) = omega (arith, d, x.inside) in z)
        ∙ by_reading (stuck (drop at bs)) x.is

  refused_left : (vs jx : List ℕ) (c : Refusal) → ReadRefused ws ix n e bs vs jx c → words_left vs (Err (Refused c)) ≡ reading_words ws ix n e bs
  unfolding reading_words
  refused_left vs jx c x = sym (rw x.first (ap (λ us. words_left us (Err (Refused c))) (sym x.given)))

  words_say : (vs jx : List ℕ) (r : ReadAnswer) → ReadSays ws ix n e bs vs jx r → words_left vs r ≡ reading_words ws ix n e bs
  words_say vs jx (Ok (s, k)) x = sort_left x.passed vs jx s k x
  words_say vs jx (Err (Refused c)) x = refused_left vs jx c x
  words_say vs jx (Err (NotASort at)) x = stuck_left x.passed vs jx at x
  words_say vs jx (Err NoRoom) x = no_room_left x.passed vs jx x

  index_says : (vs jx : List ℕ) (r : ReadAnswer) → ReadSays ws ix n e bs vs jx r → jx ≡ index_left ix r
  unfolding index_left
  index_says vs jx (Ok (s, k)) x = x.zero_index
  index_says vs jx (Err (Refused c)) x = x.given_index
  index_says vs jx (Err (NotASort at)) x = x.given_index
  index_says vs jx (Err NoRoom) x = x.zero_index

  pub read_says_exactly : (vs jx : List ℕ) (r : ReadAnswer) → ReadSays ws ix n e bs vs jx r ↔ (read_left vs jx r ≡ reading ws ix n e bs)
  read_says_exactly vs jx r =
      (λ x. left_by ws ix n e bs vs jx r (words_say vs jx r x) (index_says vs jx r x), entry_is_line vs jx r)
