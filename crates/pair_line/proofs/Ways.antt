-- What the small functions put, what comes of a line by its length and by what it reads as, and room for every line of
-- output. Assumes nothing.
use mathlib.Core.Path.{◌≡◌, refl, sym, ◌∙◌, ap, ap₂, subst}
use mathlib.Core.Bool.{Bool, true, false, cond}
use mathlib.Core.List.{List, [], ◌∷◌, ◌++◌}
use Prim.Native.Nat.{ℕ, ◌+◌, ◌/◌, ◌%◌, ◌<◌, ◌≤◌}
use native.Mathlib.Omega.{arith}
use native.Mathlib.Decide.{dec_le}
use lib.ListN.{length, drop, length-append}
use borrow.Author.Tests.{lt-ltb, le-ltb, le-leb, lt-leb, leb-true}
use Rattle.std.specs.Prelude.{Result, Ok, Err, IsErrAnd}
use Rattle.resolved_sort.specs.declared.Refusal.{Refusal}
use Rattle.resolved_sort.specs.declared.Refusal.TheVariants.{TooShort, LongLine}
use Rattle.resolved_sort.specs.Tree.{Tree}
use Rattle.resolved_sort.specs.Checks.{Tested, first_failing, code_of}
use Rattle.resolved_sort.specs.Entries.{tree_at}
use Rattle.resolved_sort.proofs.Reached.{no_confusion}
use Rattle.sort_text.specs.declared.Unread.TheVariants.{Refused, NotASort}
use Rattle.sort_text.specs.Parse.{Parsed, parsed, stuck, line}
use Rattle.sort_text.specs.Reading.{short_line}
use Rattle.sort_text.specs.Writing.{write_left}
use Rattle.sort_recogniser.specs.Inner.Says.{Recognised, done_at, stuck_at, Says}
use Rattle.sort_writer.proofs.Front.{put_front}
use Rattle.text_out.specs.declared.Out.{Out}
use Rattle.text_out.specs.Decimal.{digit, decimal}
use Rattle.text_out.specs.Outs.{then_put}
use Rattle.text_out.specs.Put.{Put}
use Rattle.text_out.proofs.Outs.{a_digit}
use Rattle.pair_line.specs.declared.Gathered.{Gathered}
use Rattle.pair_line.specs.declared.Gathered.TheVariants.{Pair, Alone}
use Rattle.pair_line.specs.PairProgram.{small_decimal, answer, good, wrong, read, line_of, with_first, with_second, single, pair}
use Rattle.pair_line.specs.Room.{line_room, Begun}
use Rattle.pair_line.specs.Inner.Room.{LineStored, BadPut}
use Rattle.pair_line.specs.Inner.Answers.{wrong_text, length_check}
use Rattle.pair_line.specs.Answers.{with_lf, printed, output_left}
use Rattle.pair_line.proofs.PairLength.{pair_length, single_length}
use Rattle.pair_line.proofs.Lines.{line_good, line_wrong}

-- what a `?` hands on
pub handed : {A E : Type 0} (x : Result A E) (e : E) → IsErrAnd x (λ f. f ≡ e) → x ≡ Err e
handed (Ok a) e h = absurd h
handed (Err f) e h = ap Err h

-- a number of one byte, by its digits
no_digit : (unit n : ℕ) → n < unit → digit unit n ≡ []
unfolding digit
no_digit unit n h = rw (lt-ltb n unit h)

module _ (n : ℕ) (byte : n < 256) where
  from_hundreds : decimal n ≡ digit 100 n ++ (digit 10 n ++ ((48 + n % 10) ∷ []))
  unfolding decimal
  from_hundreds = rw (no_digit 10000 n (omega arith), no_digit 1000 n (omega arith))

  pub byte_decimal : decimal n ≡ small_decimal n
  unfolding small_decimal
  byte_decimal = go (dec_le 10 n) (dec_le 100 n)
    where
      go : Dec (10 ≤ n) → Dec (100 ≤ n) → decimal n ≡ small_decimal n
      go (no a) b = from_hundreds ∙ rw (no_digit 100 n (omega arith), no_digit 10 n (omega arith), lt-ltb n 10 (omega arith)) (ap (λ (k : ℕ). (48 + k) ∷ []) (omega arith))
      go (yes a) (no b) = from_hundreds ∙ rw (no_digit 100 n (omega arith), a_digit n 10 a, le-ltb n 10 a, lt-ltb n 100 (omega arith))
          (ap (λ (k : ℕ). (48 + k) ∷ (48 + n % 10) ∷ []) (omega arith))
      go (yes a) (yes b) = from_hundreds ∙ rw (a_digit n 100 b, a_digit n 10 a, le-ltb n 10 a, le-ltb n 100 b)
          (ap (λ (k : ℕ). (48 + k) ∷ (48 + n / 10 % 10) ∷ (48 + n % 10) ∷ []) (omega arith))

-- the length of a line
module _ (bs : List ℕ) where
  pub length_fails : 200 < length bs → Err LongLine ≡ first_failing (length_check bs ∷ [])
  unfolding first_failing short_line
  length_fails h = rw (lt-leb (length bs) 200 h)

  pub length_passes : length bs ≤ 200 → Ok tt ≡ first_failing (length_check bs ∷ [])
  unfolding first_failing short_line
  length_passes h = rw (le-leb (length bs) 200 h)

  long_by : (b : Bool) (c : Refusal) → ◌≡◌ {A = Tested} (cond b (Ok tt) (Err LongLine)) (Err c)
      → cond b (read (line bs)) (wrong (49 ∷ 57 ∷ [])) ≡ wrong (wrong_text bs (Refused c))
  unfolding decimal digit code_of
  long_by true c f = no_confusion (cc)
  long_by false c f = let e : LongLine ≡ c = cc in subst (λ d. wrong (49 ∷ 57 ∷ []) ≡ wrong (wrong_text bs (Refused d))) e refl

  -- a line that is too long
  pub too_long : (c : Refusal) → first_failing (length_check bs ∷ []) ≡ Err c → line_of bs ≡ wrong (wrong_text bs (Refused c))
  unfolding first_failing line_of
  too_long c f = long_by (short_line bs) c f

  short_by : (b : Bool) → ◌≡◌ {A = Tested} (cond b (Ok tt) (Err LongLine)) (Ok tt) → b ≡ true
  short_by true f = refl
  short_by false f = no_confusion (cc)

  pub not_long : first_failing (length_check bs ∷ []) ≡ Ok tt → length bs ≤ 200
  unfolding first_failing short_line
  not_long f = leb-true (length bs) 200 (short_by (short_line bs) f)

-- a pair whose first line is bad, or its second; or both are read
module _ (ws : List ℕ) (first second : List ℕ) (b : Begun ws 6 0 0) (o : Out) where
  pub begun_first : Begun ws 6 0 200
  begun_first = record { checked = b.checked; six = b.six; sorts = omega arith; entries = omega arith }

  pub first_bad : {p : Out} → BadPut first o p → p ≡ then_put o (pair first second)
  unfolding pair
  first_bad h = h.put ∙ sym (ap (λ l. then_put o (with_first l (line_of second))) h.is_wrong)

  module _ {vs : List ℕ} {m d a : ℕ} (f : LineStored ws 6 0 first vs m d a) {p : Out} (i : p ≡ o) where
    pub second_bad : {q : Out} → BadPut second p q → q ≡ then_put o (pair first second)
    unfolding pair
    second_bad h =
        h.put ∙ (ap (λ x. then_put x h.bytes) i
        ∙ sym (ap (λ l. then_put o (with_first l (line_of second))) f.is_good
        ∙ ap (λ l. then_put o (with_second (tree_at vs m a) l)) h.is_wrong))

    module _ {us : List ℕ} {l c x : ℕ} (g : LineStored vs m d second us l c x) {q : Out} (j : q ≡ p) where
      same : tree_at us l a ≡ tree_at vs m a
      same = g.grown.same a f.below

      pub both_put : {r : Out} → r ≡ then_put q (answer (tree_at us l a) (tree_at us l x)) → r ≡ then_put o (pair first second)
      unfolding pair
      both_put h =
          h ∙ (ap₂ (λ y s. then_put y (answer s (tree_at us l x))) (j ∙ i) same
          ∙ sym (ap (λ l. then_put o (with_first l (line_of second))) f.is_good
          ∙ ap (λ l. then_put o (with_second (tree_at vs m a) l)) g.is_good))

-- a line that is recognised, or is no sort
module _ (bs : List ℕ) (l : length bs ≤ 200) (steps : List ℕ) (x : Recognised) (f : Says bs 0 (length bs) [] (line bs) steps x) where
  good_by : (P : Parsed) → line bs ≡ P → (p m : ℕ) → Says bs 0 (length bs) [] P steps (done_at p m) → (t : Tree) × (line_of bs ≡ good t)
  unfolding Says
  good_by (parsed t cs) i p m w = (t, line_good bs cs t l i)
  good_by (stuck cs) i p m w = absurd w

  wrong_by : (P : Parsed) → line bs ≡ P → (p : ℕ) → Says bs 0 (length bs) [] P steps (stuck_at p) → line_of bs ≡ wrong (50 ∷ 48 ∷ 58 ∷ drop p bs)
  unfolding Says
  wrong_by (parsed t cs) i p w = absurd w
  wrong_by (stuck cs) i p w = line_wrong bs cs l i ∙ ap (λ y. wrong (50 ∷ 48 ∷ 58 ∷ y)) (sym w.1)

  pub line_is_good : (p m : ℕ) → x ≡ done_at p m → (t : Tree) × (line_of bs ≡ good t)
  line_is_good p m i = good_by (line bs) refl p m (subst (Says bs 0 (length bs) [] (line bs) steps) i f)

  pub line_is_stuck : (p : ℕ) → x ≡ stuck_at p → line_of bs ≡ wrong (wrong_text bs (NotASort p))
  line_is_stuck p i = wrong_by (line bs) refl p (subst (Says bs 0 (length bs) [] (line bs) steps) i f)

-- the entries
pub buffer_short : (bs out : List ℕ) → length out < line_room → write_left out (Err TooShort) ≡ output_left bs out
unfolding output_left
buffer_short bs out h = rw (lt-leb line_room (length out) h)

pub line_left : (bs out : List ℕ) → line_room ≤ length out → length bs ≤ line_room → {left : List ℕ} {r : ℕ}
    → Put out 0 bs left r → write_left left (Ok r) ≡ output_left bs out
unfolding output_left
line_left bs out h l p = rw (le-leb line_room (length out) h) (put_front (omega arith) p)

-- Every line of output has room.
pub pair_has_room : (first second : List ℕ) → length (with_lf (pair first second)) ≤ line_room
pair_has_room first second = omega (arith, pair_length first second, length-append (pair first second) (10 ∷ []))

pub single_has_room : (bs : List ℕ) → length (with_lf (single (line_of bs))) ≤ line_room
single_has_room bs = omega (arith, single_length bs, length-append (single (line_of bs)) (10 ∷ []))

pub printed_has_room : (g : Gathered) → length (printed g) ≤ line_room
printed_has_room (Pair first second) = pair_has_room first.now second.now
printed_has_room (Alone line) = single_has_room line.now
