-- Reading a line into a storage that begins with the fixed six and has room: it is never refused and room does not end; its sort is
-- stored under the number that is answered, or the line is no sort from the place answered. Assumes nothing.
use Rattle.std.specs.Prelude.{Result, Ok, Err}
use mathlib.Core.Path.{◌≡◌, refl, sym, ◌∙◌, ap, ap₂, subst}
use mathlib.Core.Bool.{Bool, true, false}
use mathlib.Core.List.{List, ◌∷◌}
use Prim.Native.Nat.{ℕ, ◌+◌, ◌-◌, ◌<◌, ◌≤◌}
use native.Mathlib.Omega.{arith}
use lib.ListN.{length, drop}
use Rattle.resolved_sort.specs.declared.Refusal.{Refusal}
use Rattle.resolved_sort.specs.declared.SortId.{SortId}
use Rattle.resolved_sort.specs.declared.Counts.{Counts}
use Rattle.resolved_sort.specs.Entries.{Joined}
use Rattle.resolved_sort.specs.Entries.{At, Full}
use Rattle.resolved_sort.specs.Tree.{Tree}
use Rattle.resolved_sort.specs.Interning.{Sorts, number, Outcome, made, nothing, full}
use Rattle.resolved_sort.specs.Storage.{sorts_of}
use Rattle.resolved_sort.specs.Entries.{tree_at, counts_of, stored}
use Rattle.resolved_sort.specs.Rows.{stored_at}
use Rattle.resolved_sort.proofs.Numbers.{true_not_false}
use Rattle.resolved_sort.proofs.Reached.{no_confusion, Reached, reached, reached_below, reached_sort}
use Rattle.sort_text.specs.declared.Unread.{Unread}
use Rattle.sort_text.specs.declared.Unread.TheVariants.{Refused, NotASort, NoRoom}
use Rattle.sort_text.specs.Parse.{Parsed, parsed, stuck, line}
use Rattle.sort_text.specs.Reading.{store, ReadAnswer, words_left, read_at, stored_by, read_as_of}
use Rattle.pair_line.specs.PairProgram.{good, wrong, line_of}
use Rattle.sort_text.proofs.Suffix.{unread_end}
use Rattle.sort_text.specs.Readable.{size}
use Rattle.sort_text.proofs.WhatIsRead.{line_nodes}
use Rattle.sort_text.proofs.Sizes.{entries_of, entries_below_size, Spent, Within}
use Rattle.sort_text.proofs.PairRoom.{Is, Makes, store_within, store_makes}
use Rattle.sort_reader.specs.Inner.Tested.{Passes}
use Rattle.sort_reader.proofs.Entry.{store_kept}
use Rattle.pair_line.specs.Room.{OfLine, Begun}
use Rattle.pair_line.specs.Inner.Room.{RoomGrows, LineLeft}
use Rattle.pair_line.specs.Inner.Answers.{wrong_text}
use Rattle.pair_line.proofs.Grows.{grows, begun_still}
use Rattle.pair_line.proofs.Lines.{line_good, line_wrong}

-- a sort, or the end of room
abbrev is_stored : ReadAnswer → Bool
is_stored (Ok sort) = true
is_stored (Err (Refused c)) = false
is_stored (Err (NotASort p)) = false
is_stored (Err NoRoom) = true

-- what is made, where a sort is stored
abbrev stored_as : ReadAnswer → Joined
stored_as (Ok (u, K)) = At u K
stored_as (Err why) = Full

module _ (ws : List ℕ) (n e k : ℕ) (bs : List ℕ) (b : Begun ws n e k) (few : k ≤ 200) (l : length bs ≤ 200) where
  pub passes : Passes ws n e bs
  passes = record { checked = b.checked; six = b.six; short = l }

  -- the line's sort is stored
  pub record ReadSort (vs : List ℕ) (u : SortId) (K : Counts) : Type 0 where
    pub of_line : OfLine (tree_at vs K.sorts u.0)
    pub is_good : line_of bs ≡ good (tree_at vs K.sorts u.0)
    pub below : u.0 < K.sorts
    pub begun : Begun vs K.sorts K.entries (k + 200)
    pub grown : RoomGrows ws n e vs K.sorts K.entries

  module _ (t : Tree) (cs : List ℕ) (is : line bs ≡ parsed t cs) where
    nodes : size t ≤ 200
    nodes = omega (arith, line_nodes bs cs t is, l)

    within : Within (Is t) (size t) (entries_of t) (sorts_of ws n e) (store t (sorts_of ws n e))
    within = store_within t (sorts_of ws n e) (omega (arith, nodes, b.sorts, few)) (omega (arith, nodes, entries_below_size t, b.entries, few))

    spent_by : (v : Tree) (S : Sorts) → Within (Is t) (size t) (entries_of t) (sorts_of ws n e) (made v S)
        → (v ≡ t) × Spent (size t) (entries_of t) (sorts_of ws n e) S
    unfolding Within
    spent_by v S w = w

    sort_from : (vs : List ℕ) (u : SortId) (K : Counts) (O : Outcome Tree) → Within (Is t) (size t) (entries_of t)
        (sorts_of ws n e) O → Reached ws n e (sorts_of ws n e) O vs u K → ReadSort vs u K
    sort_from vs u K O w r =
        let x = spent_by r.sort r.sorts (subst (Within (Is t) (size t) (entries_of t) (sorts_of ws n e)) r.is w) in
        let y : t ≡ tree_at vs K.sorts u.0 = sym (reached_sort ws n e (sorts_of ws n e) O vs u K r ∙ x.0) in
        let is' = is ∙ ap (λ z. parsed z cs) y in
        record {
          of_line = record { bytes = bs; left = cs; is = is'; short = l };
          is_good = line_good bs cs (tree_at vs K.sorts u.0) l is';
          below = reached_below ws n e (sorts_of ws n e) O vs u K r;
          begun = begun_still ws n e b.checked r.sorts r.grown (size t) (entries_of t) x.1 nodes
              (omega (arith, nodes, entries_below_size t)) vs K r.words r.counted k b;
          grown = grows ws n e b.checked r.sorts r.grown (size t) (entries_of t) x.1 nodes
              (omega (arith, nodes, entries_below_size t)) vs K r.words r.counted;
        }

    as_stored : (vs : List ℕ) (u : SortId) (K : Counts) (O : Outcome Tree) → words_left vs (Ok (u, K)) ≡ stored_by ws n e
        (stored ws n e O) (stored ws n e O).answer
        → stored_at vs (At u K) ≡ stored ws n e O
    unfolding stored_by stored
    as_stored vs u K (made v S) q =
        ap₂ stored_at (ap (λ r. r.words) q) (ap (λ r. stored_as r.answer) q)
    as_stored vs u K (nothing S) q = let a : ◌≡◌ {A = ReadAnswer} (Ok (u, K)) (Err NoRoom) = ap (λ r. r.answer) q in no_confusion (cc)
    as_stored vs u K (full S) q = let a : ◌≡◌ {A = ReadAnswer} (Ok (u, K)) (Err NoRoom) = ap (λ r. r.answer) q in no_confusion (cc)

    read_sort_of : (vs : List ℕ) (u : SortId) (K : Counts) → words_left vs (Ok (u, K)) ≡ read_as_of ws n e bs (parsed t cs) → ReadSort vs u K
    unfolding read_as_of
    read_sort_of vs u K q =
        sort_from vs u K (store t (sorts_of ws n e)) within
        (reached ws n e (sorts_of ws n e) (store t (sorts_of ws n e)) (store_kept ws n e bs passes cs t is) vs u K
        (as_stored vs u K (store t (sorts_of ws n e)) q))

    no_room_by : (vs : List ℕ) (O : Outcome Tree) → Makes O → Within (Is t) (size t) (entries_of t) (sorts_of ws n e) O
        → words_left vs (Err NoRoom) ≡ stored_by ws n e (stored ws n e O) (stored ws n e O).answer → ⊥
    unfolding stored_by stored Makes Within
    no_room_by vs (made v S) m w q = let a : ◌≡◌ {A = ReadAnswer} (Err NoRoom) (Ok (record { 0 = number S.trees v }, counts_of S)) = ap (λ r. r.answer) q in no_confusion (cc)
    no_room_by vs (nothing S) m w q = m
    no_room_by vs (full S) m w q = w

    has_room_of : (vs : List ℕ) → words_left vs (Err NoRoom) ≡ read_as_of ws n e bs (parsed t cs) → ⊥
    unfolding read_as_of
    has_room_of vs q = no_room_by vs (store t (sorts_of ws n e)) (store_makes t (sorts_of ws n e)) within q

    stored_by_lem : (O : Outcome Tree) → is_stored (stored_by ws n e (stored ws n e O) (stored ws n e O).answer).answer ≡ true
    unfolding stored_by stored
    stored_by_lem (made v S) = refl
    stored_by_lem (nothing S) = refl
    stored_by_lem (full S) = refl

    -- nothing else is answered
    is_stored_lem : (vs : List ℕ) (x : ReadAnswer) → words_left vs x ≡ read_as_of ws n e bs (parsed t cs) → is_stored x ≡ true
    unfolding read_as_of
    is_stored_lem vs x q = ap (λ r. is_stored r.answer) q ∙ stored_by_lem (store t (sorts_of ws n e))

  -- by what the line reads as
  sort_by : (P : Parsed) → line bs ≡ P → (vs : List ℕ) (u : SortId) (K : Counts) → words_left vs (Ok (u, K)) ≡ read_as_of ws n e bs P → ReadSort vs u K
  unfolding read_as_of
  sort_by (parsed t cs) is vs u K q = read_sort_of t cs is vs u K q
  sort_by (stuck cs) is vs u K q = let a : ◌≡◌ {A = ReadAnswer} (Ok (u, K)) (Err (NotASort (length bs - length cs))) = ap (λ r. r.answer) q in no_confusion (cc)

  no_sort_by : (P : Parsed) → line bs ≡ P → (vs : List ℕ) (p : ℕ) → words_left vs (Err (NotASort p)) ≡ read_as_of ws n e bs P → line_of bs ≡ wrong (50 ∷ 48 ∷ 58 ∷ drop p bs)
  unfolding read_as_of
  no_sort_by (parsed t cs) is vs p q = absurd (true_not_false false (is_stored_lem t cs is vs (Err (NotASort p)) q) refl)
  no_sort_by (stuck cs) is vs p q =
      let a : ◌≡◌ {A = ReadAnswer} (Err (NotASort p)) (Err (NotASort (length bs - length cs))) = ap (λ r. r.answer) q in
      let h : p ≡ length bs - length cs = cc in
      line_wrong bs cs l is ∙ ap (λ x. wrong (50 ∷ 48 ∷ 58 ∷ x)) (sym (ap (λ (i : ℕ). drop i bs) h ∙ unread_end bs cs is))

  refusal_by : (P : Parsed) → line bs ≡ P → (vs : List ℕ) (c : Refusal) → words_left vs (Err (Refused c)) ≡ read_as_of ws n e bs P → ⊥
  unfolding read_as_of
  refusal_by (parsed t cs) is vs c q = true_not_false false (is_stored_lem t cs is vs (Err (Refused c)) q) refl
  refusal_by (stuck cs) is vs c q = let a : ◌≡◌ {A = ReadAnswer} (Err (Refused c)) (Err (NotASort (length bs - length cs))) = ap (λ r. r.answer) q in no_confusion (cc)

  room_by : (P : Parsed) → line bs ≡ P → (vs : List ℕ) → words_left vs (Err NoRoom) ≡ read_as_of ws n e bs P → ⊥
  unfolding read_as_of
  room_by (parsed t cs) is vs q = has_room_of t cs is vs q
  room_by (stuck cs) is vs q = let a : ◌≡◌ {A = ReadAnswer} (Err NoRoom) (Err (NotASort (length bs - length cs))) = ap (λ r. r.answer) q in no_confusion (cc)

  -- by what is answered
  module _ (vs : List ℕ) (r : ReadAnswer) (f : words_left vs r ≡ read_as_of ws n e bs (line bs)) where
    pub read_sort : (u : SortId) (K : Counts) → r ≡ Ok (u, K) → ReadSort vs u K
    read_sort u K i = sort_by (line bs) refl vs u K (ap (words_left vs) (sym i) ∙ f)

    pub no_sort : (p : ℕ) → r ≡ Err (NotASort p) → line_of bs ≡ wrong (50 ∷ 48 ∷ 58 ∷ drop p bs)
    no_sort p i = no_sort_by (line bs) refl vs p (ap (words_left vs) (sym i) ∙ f)

    pub not_refused : (c : Refusal) → r ≡ Err (Refused c) → ⊥
    not_refused c i = refusal_by (line bs) refl vs c (ap (words_left vs) (sym i) ∙ f)

    pub has_room : r ≡ Err NoRoom → ⊥
    has_room i = room_by (line bs) refl vs (ap (words_left vs) (sym i) ∙ f)

  -- a line that is not read prints why
  pub wrong_read : (vs : List ℕ) (why : Unread) → words_left vs (Err why) ≡ read_as_of ws n e bs (line bs) → line_of bs ≡ wrong (wrong_text bs why)
  wrong_read vs (Refused c) f = absurd (not_refused vs (Err (Refused c)) f c refl)
  wrong_read vs (NotASort p) f = no_sort vs (Err (NotASort p)) f p refl
  wrong_read vs NoRoom f = absurd (has_room vs (Err NoRoom) f refl)

-- what reading a line has left
pub line_left_by : (ws : List ℕ) (n e : ℕ) (bs : List ℕ) (b : Begun ws n e 200) (l : length bs ≤ 200) (vs : List ℕ) (K : Counts) (r : Result SortId Unread)
    → read_at vs K r ≡ read_as_of ws n e bs (line bs) → LineLeft ws n e bs vs K.sorts K.entries r
line_left_by ws n e bs b l vs K (Ok u) f =
    let it = read_sort ws n e 200 bs b (omega arith) l vs (Ok (u, K)) f u K refl in
    record { of_line = it.of_line; is_good = it.is_good; below = it.below; six = it.begun.six; grown = it.grown }
line_left_by ws n e bs b l vs K (Err why) f = wrong_read ws n e 200 bs b (omega arith) l vs why f
