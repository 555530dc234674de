-- The ways of the recogniser as the code meets them: each law's premises are what a callee ensures, what a test says or what a match
-- binds, and its conclusion is what the call says of the line. By the clauses of the reader. Assumes nothing.
use mathlib.Core.Path.{◌≡◌, refl, sym, ◌∙◌, ap, ap₂, subst}
use mathlib.Core.List.{List, [], ◌∷◌, ◌++◌, append_assoc, append-nil}
use Prim.Native.Nat.{ℕ, zero, suc, ◌+◌, ◌-◌, ◌≤◌, ◌<◌}
use native.Mathlib.Omega.{arith}
use native.Mathlib.Numerals.{add-one}
use lib.ListN.{length, drop, take, set, drop_of_length-le}
use lib.Seq.{take-suc-set}
use Rattle.resolved_sort.specs.declared.Sort.{Sort}
use Rattle.resolved_sort.specs.declared.ComplexSort.{ComplexSort}
use Rattle.resolved_sort.specs.Tree.{primitive, Tree, flat, container, function, Trees, no_args, arg, arity}
use Rattle.resolved_sort.specs.Storage.{kind_flat, kind_op}
use Rattle.sort_text.specs.Tokens.{is_letter, hash, arrow, skip, next}
use Rattle.sort_text.specs.Parse.{Parsed, parsed, stuck, ◌then-read◌, WordMeaning, basic, operator, unknown, meaning}
use Rattle.sort_text.specs.Parse.{closing, in_brackets, bracketed, operand_of, operand_at, operand, snoc, alone, rest_at, rest, sort}
use Rattle.sort_text.specs.Parse.{ending, line}
use Rattle.sort_text.specs.Postfix.{postfix, postfixes}
use Rattle.sort_text.proofs.Depth.{sort_is}
use Rattle.sort_text.proofs.Grammar.{arity_snoc}
use Rattle.sort_lexer.specs.declared.Token.{Token}
use Rattle.sort_lexer.specs.declared.Token.TheVariants.{End, Word, Open, Close, Hash, Arrow, Bad}
use Rattle.sort_lexer.specs.declared.Lexeme.{Lexeme}
use Rattle.std.specs.Prelude.{Option, Some, None}
use Rattle.sort_lexer.specs.declared.Word.{Word as Said}
use Rattle.sort_lexer.specs.declared.Word.TheVariants.{Basic, Container}
use Rattle.sort_lexer.specs.Inner.Lexeme.{lexeme_of, said_by, said, least}
use Rattle.sort_lexer.specs.Inner.Meant.{meant}
use Rattle.sort_lexer.proofs.Lexemes.{starts_without_spaces, ends_within, goes_on, goes_at_least_from, next_is_said}
use Rattle.sort_lexer.proofs.Lexemes.{next_is_word, next_is_open, next_is_close, next_is_hash, next_is_arrow}
use Rattle.sort_lexer.proofs.Lexemes.{next_is_end}
use Rattle.sort_recogniser.specs.Inner.Says.{Recognised, done_at, stuck_at, Wrote, Says, SaysRest}

-- one step more
one_more : (out : List ℕ) (m v : ℕ) → m < length out → take (m + 1) (set out m v) ≡ take m out ++ (v ∷ [])
one_more out m v h = ap (λ k. take k (set out m v)) (add-one m) ∙ take-suc-set out m v h

-- the steps of one operand more
pub postfixes_snoc : (ts : Trees) (t : Tree) → postfixes (snoc ts t) ≡ postfixes ts ++ postfix t
unfolding postfixes snoc
postfixes_snoc no_args t = append-nil (postfix t)
postfixes_snoc (arg s ts) t = ap (λ x. postfix s ++ x) (postfixes_snoc ts t) ∙ sym (append_assoc (postfix s) (postfixes ts) (postfix t))

-- tokens that cannot follow
closing_other : (l : List ℕ) (t : Tree) (at : List ℕ) (k : Token) (i j : ℕ) → (k ≡ Close → ⊥) → closing t at (said_by l k i j) ≡ stuck at
unfolding closing said_by
closing_other l t at End i j z = refl
closing_other l t at Word i j z = refl
closing_other l t at Open i j z = refl
closing_other l t at Close i j z = absurd (z refl)
closing_other l t at Hash i j z = refl
closing_other l t at Arrow i j z = refl
closing_other l t at Bad i j z = refl

bracketed_other : (l : List ℕ) (o : ComplexSort) (at : List ℕ) (k : Token) (i j : ℕ) → (k ≡ Open → ⊥) → bracketed sort o at (said_by l k i j) ≡ stuck at
unfolding bracketed said_by
bracketed_other l o at End i j z = refl
bracketed_other l o at Word i j z = refl
bracketed_other l o at Open i j z = absurd (z refl)
bracketed_other l o at Close i j z = refl
bracketed_other l o at Hash i j z = refl
bracketed_other l o at Arrow i j z = refl
bracketed_other l o at Bad i j z = refl

operand_other : (l at : List ℕ) (k : Token) (i j : ℕ) → (k ≡ Word → ⊥) → operand_at sort at (said_by l k i j) ≡ stuck at
unfolding operand_at said_by
operand_other l at End i j z = refl
operand_other l at Word i j z = absurd (z refl)
operand_other l at Open i j z = refl
operand_other l at Close i j z = refl
operand_other l at Hash i j z = refl
operand_other l at Arrow i j z = refl
operand_other l at Bad i j z = refl

rest_other : (l : List ℕ) (ts : Trees) (at bs : List ℕ) (more : List ℕ → Parsed) (k : Token) (i j : ℕ)
    → (k ≡ Hash → ⊥) → (k ≡ Arrow → ⊥) → rest_at sort ts at bs more (said_by l k i j) ≡ alone ts at bs
unfolding rest_at said_by
rest_other l ts at bs more End i j y z = refl
rest_other l ts at bs more Word i j y z = refl
rest_other l ts at bs more Open i j y z = refl
rest_other l ts at bs more Close i j y z = refl
rest_other l ts at bs more Hash i j y z = absurd (y refl)
rest_other l ts at bs more Arrow i j y z = absurd (z refl)
rest_other l ts at bs more Bad i j y z = refl

ending_other : (l : List ℕ) (t : Tree) (at : List ℕ) (k : Token) (i j : ℕ) → (k ≡ End → ⊥) → ending t at (said_by l k i j) ≡ stuck at
unfolding ending said_by
ending_other l t at End i j z = absurd (z refl)
ending_other l t at Word i j z = refl
ending_other l t at Open i j z = refl
ending_other l t at Close i j z = refl
ending_other l t at Hash i j z = refl
ending_other l t at Arrow i j z = refl
ending_other l t at Bad i j z = refl

-- the reader's meaning of a word, back from the code's
abbrev unmeant : Option Said → WordMeaning
unmeant (Some (Basic s)) = basic s
unmeant (Some (Container o)) = operator o
unmeant None = unknown

unmeant_meant : (m : WordMeaning) → unmeant (meant m) ≡ m
unfolding meant
unmeant_meant (basic s) = refl
unmeant_meant (operator o) = refl
unmeant_meant unknown = refl

-- the operands alone
alone_one : (ts : Trees) (at bs : List ℕ) → arity ts ≡ 1 → (t : Tree) × (alone ts at bs ≡ parsed t bs) × (postfixes ts ≡ postfix t)
unfolding alone arity postfixes
alone_one no_args at bs e = absurd (omega (arith, e))
alone_one (arg t no_args) at bs e = (t, refl, append-nil (postfix t))
alone_one (arg t (arg u us)) at bs e = absurd (omega (arith, e))

alone_many : (ts : Trees) (at bs : List ℕ) → (arity ts ≡ 1 → ⊥) → alone ts at bs ≡ stuck at
unfolding alone arity
alone_many no_args at bs z = refl
alone_many (arg t no_args) at bs z = absurd (z refl)
alone_many (arg t (arg u us)) at bs z = refl

-- the rest, by its token
rest_at_arrow : (k : ℕ) (ts : Trees) (bs cs : List ℕ) → next is_letter bs ≡ arrow cs
    → rest sort k ts bs ≡ (sort cs then-read (λ r ds. parsed (function ts r) ds))
unfolding rest rest_at
rest_at_arrow zero ts bs cs e = rw e
rest_at_arrow (suc k) ts bs cs e = rw e

rest_at_last : (k : ℕ) (ts : Trees) (bs cs : List ℕ) → k ≡ 0 → next is_letter bs ≡ hash cs → rest sort k ts bs ≡ stuck (skip bs)
unfolding rest rest_at
rest_at_last zero ts bs cs f e = rw e
rest_at_last (suc k) ts bs cs f e = absurd (omega (arith, f))

rest_at_hash : (k j : ℕ) (ts : Trees) (bs cs : List ℕ) → k ≡ suc j → next is_letter bs ≡ hash cs
    → rest sort k ts bs ≡ (operand sort cs then-read (λ t ds. rest sort j (snoc ts t) ds))
unfolding rest rest_at
rest_at_hash k j ts bs cs f e = rw (f, e)

rest_at_other : (l : List ℕ) (k : ℕ) (ts : Trees) (bs : List ℕ) (w : Token) (i j : ℕ)
    → next is_letter bs ≡ said_by l w i j → (w ≡ Hash → ⊥) → (w ≡ Arrow → ⊥) → rest sort k ts bs ≡ alone ts (skip bs) bs
unfolding rest
rest_at_other l zero ts bs w i j e y z = ap (rest_at sort ts (skip bs) bs (λ cs. stuck (skip bs))) e ∙ rest_other l ts (skip bs) bs _ w i j y z
rest_at_other l (suc k) ts bs w i j e y z = ap (rest_at sort ts (skip bs) bs (λ cs. operand sort cs then-read
    (λ t ds. rest sort k (snoc ts t) ds))) e ∙ rest_other l ts (skip bs) bs _ w i j y z

-- After the n steps of which the last are those of the sort in brackets: no step is written.
unfoldable pub SaysClosing : List ℕ → ℕ → ℕ → Recognised → Type 0
SaysClosing line at n r =
    (front out : List ℕ) (t : Tree) → take n out ≡ front ++ postfix t
    → Says line (at + 1) (n + (length line - at)) front (closing t (skip (drop at line)) (next is_letter (drop at line))) out r

module _ (l : List ℕ) where
  said_stuck : (lo room : ℕ) (front out : List ℕ) (P : Parsed) (p : ℕ) (cs : List ℕ) → P ≡ stuck cs → p ≤ length l
      → drop p l ≡ cs → Says l lo room front P out (stuck_at p)
  unfolding Says
  said_stuck lo room front out P p cs e h f = rw e (h, f)

  said_done : (lo room : ℕ) (front out : List ℕ) (P : Parsed) (p m : ℕ) (t : Tree) (cs : List ℕ) → P ≡ parsed t cs
      → Wrote l lo room front t cs out p m → Says l lo room front P out (done_at p m)
  unfolding Says
  said_done lo room front out P p m t cs e w = rw e w

  -- a sort that was recognised, and what was written
  record Did (lo room : ℕ) (front : List ℕ) (P : Parsed) (out : List ℕ) (p m : ℕ) : Type 0 where
    sort_read : Tree
    left : List ℕ
    is : P ≡ parsed sort_read left
    wrote : Wrote l lo room front sort_read left out p m

  did_at : (lo room : ℕ) (front : List ℕ) (P : Parsed) (out : List ℕ) (p m : ℕ) → Says l lo room front P out (done_at p m) → Did lo room front P out p m
  unfolding Says
  did_at lo room front (parsed t cs) out p m s = record { sort_read = t; left = cs; is = refl; wrote = s }
  did_at lo room front (stuck cs) out p m s = absurd s

  did : (lo room : ℕ) (front : List ℕ) (P : Parsed) (out : List ℕ) (q : Recognised) (p m : ℕ)
      → Says l lo room front P out q → q ≡ done_at p m → Did lo room front P out p m
  did lo room front P out q p m s e = did_at lo room front P out p m (subst (Says l lo room front P out) e s)

  stuck_from : (lo room : ℕ) (front : List ℕ) (P : Parsed) (out : List ℕ) (p : ℕ) (K : Tree → List ℕ → Parsed) (lo' room' : ℕ) (front' out' : List ℕ)
      → Says l lo room front P out (stuck_at p) → Says l lo' room' front' (P then-read K) out' (stuck_at p)
  unfolding Says
  stuck_from lo room front (parsed t cs) out p K lo' room' front' out' s = absurd s
  stuck_from lo room front (stuck cs) out p K lo' room' front' out' s = s

  stuck_then : (lo room : ℕ) (front : List ℕ) (P : Parsed) (out : List ℕ) (q : Recognised) (p : ℕ) (K : Tree → List ℕ
      → Parsed) (lo' room' : ℕ) (front' out' : List ℕ)
      → Says l lo room front P out q → q ≡ stuck_at p → Says l lo' room' front' (P then-read K) out' (stuck_at p)
  stuck_then lo room front P out q p K lo' room' front' out' s e = stuck_from lo room front P out p K lo' room' front'
      out' (subst (Says l lo room front P out) e s)

  wider : (lo lo' room room' : ℕ) (front : List ℕ) (P : Parsed) (out : List ℕ) (q : Recognised) → lo' ≤ lo
      → room ≤ room' → Says l lo room front P out q → Says l lo' room' front P out q
  unfolding Says
  wider lo lo' room room' front (parsed t cs) out (done_at p m) a b s =
      record { further = omega (arith, s.further); within = s.within; goes_on = s.goes_on; fits = omega (arith, s.fits); written = s.written }
  wider lo lo' room room' front (parsed t cs) out (stuck_at p) a b s = s
  wider lo lo' room room' front (stuck cs) out (done_at p m) a b s = s
  wider lo lo' room room' front (stuck cs) out (stuck_at p) a b s = s

  -- what a recognised sort leaves for the next call
  pub done_room : (lo room : ℕ) (front : List ℕ) (P : Parsed) (out : List ℕ) (q : Recognised) (p m : ℕ)
      → Says l lo room front P out q → q ≡ done_at p m → (lo ≤ p) × (p ≤ length l) × (m + (length l - p) ≤ room)
  done_room lo room front P out q p m s e = let d = did lo room front P out q p m s e in (d.wrote.further, d.wrote.within, d.wrote.fits)

  -- after the sort in brackets
  module _ (at : ℕ) (h : at ≤ length l) (n : ℕ) (r : Lexeme) (e : r ≡ lexeme_of l at) where
    pub closing_done : r.token ≡ Close → SaysClosing l at n (done_at r.next n)
    unfolding SaysClosing closing
    closing_done f front out t w =
        let g : at + 1 ≤ r.next = goes_at_least_from l at r e Close f h in
        let d : r.next ≤ length l = ends_within l at r e in
        said_done (at + 1) (n + (length l - at)) front out _ r.next n t (drop r.next l)
        (ap (closing t (skip (drop at l))) (next_is_close l at r e f))
        record { further = g; within = d; goes_on = refl; fits = omega arith; written = w }

    pub closing_stuck : (r.token ≡ Close → ⊥) → SaysClosing l at n (stuck_at r.at)
    unfolding SaysClosing
    closing_stuck z front out t w =
        said_stuck (at + 1) (n + (length l - at)) front out _ r.at (skip (drop at l))
        (ap (closing t (skip (drop at l))) (next_is_said l at r e) ∙ closing_other l t (skip (drop at l)) r.token r.at r.next z)
        (omega (arith, goes_on l at r e, ends_within l at r e)) (starts_without_spaces l at r e)

  -- a sort in brackets, from the token after `(`
  module _ (at : ℕ) (old : List ℕ) (n : ℕ) (out : List ℕ) (q : Recognised)
      (s : Says l (at + 1) (n + (length l - at)) (take n old) (sort (drop at l)) out q) where
    in_brackets_is : in_brackets sort (drop at l) ≡ (sort (drop at l) then-read (λ t cs. closing t (skip cs) (next is_letter cs)))
    unfolding in_brackets
    in_brackets_is = refl

    pub in_brackets_passes : (p : ℕ) → q ≡ stuck_at p → Says l (at + 1) (n + (length l - at)) (take n old) (in_brackets sort (drop at l)) out (stuck_at p)
    in_brackets_passes p i = rw in_brackets_is (stuck_then (at + 1) (n + (length l - at)) (take n old)
        (sort (drop at l)) out q p _ (at + 1) (n + (length l - at)) (take n old) out s i)

    pub in_brackets_goes_on : (p m : ℕ) → q ≡ done_at p m → (q' : Recognised) → SaysClosing l p m q'
        → Says l (at + 1) (n + (length l - at)) (take n old) (in_brackets sort (drop at l)) out q'
    unfolding SaysClosing
    in_brackets_goes_on p m i q' c =
        let d = did (at + 1) (n + (length l - at)) (take n old) (sort (drop at l)) out q p m s i in
        rw (in_brackets_is, d.is, sym d.wrote.goes_on)
        (wider (p + 1) (at + 1) (m + (length l - p)) (n + (length l - at)) (take n old) (closing d.sort_read (skip (drop p l))
        (next is_letter (drop p l))) out q' (omega (arith, d.wrote.further)) d.wrote.fits
        (c (take n old) out d.sort_read d.wrote.written))

  -- the token found at `at`
  module _ (at : ℕ) (h : at ≤ length l) (old : List ℕ) (n : ℕ) (fit : n + (length l - at) ≤ length old) (r : Lexeme) (e : r ≡ lexeme_of l at) where
    starts_within : r.at ≤ length l
    starts_within = omega (arith, goes_on l at r e, ends_within l at r e)

    abbrev room : ℕ
    room = n + (length l - at)

    pub later : (w : Token) → r.token ≡ w → at + least w ≤ r.next
    later w f = goes_at_least_from l at r e w f h

    pub later_within : r.next ≤ length l
    later_within = ends_within l at r e

    -- after a container word
    pub bracketed_stuck : (r.token ≡ Open → ⊥) → (op : ComplexSort)
        → Says l at room (take n old) (bracketed sort op (skip (drop at l)) (next is_letter (drop at l))) old
        (stuck_at r.at)
    bracketed_stuck z op =
        said_stuck at room (take n old) old _ r.at (skip (drop at l)) (ap (bracketed sort op (skip (drop at l)))
        (next_is_said l at r e) ∙ bracketed_other l op (skip (drop at l)) r.token r.at r.next z)
        starts_within (starts_without_spaces l at r e)

    module _ (f : r.token ≡ Open) (op : ComplexSort) (out : List ℕ) (same : length out ≡ length old) (q : Recognised)
        (s : Says l (r.next + 1) (n + (length l - r.next)) (take n old) (in_brackets sort (drop r.next l)) out q) where
      bracketed_is : bracketed sort op (skip (drop at l)) (next is_letter (drop at l)) ≡ (in_brackets sort (drop r.next l)
          then-read (λ t cs. parsed (container op t) cs))
      unfolding bracketed
      bracketed_is = ap (bracketed sort op (skip (drop at l))) (next_is_open l at r e f)

      pub bracketed_passes : (p : ℕ) → q ≡ stuck_at p → Says l at room (take n old) (bracketed sort op (skip (drop at l))
          (next is_letter (drop at l))) out (stuck_at p)
      bracketed_passes p i = rw bracketed_is (stuck_then (r.next + 1) (n + (length l - r.next)) (take n old)
          (in_brackets sort (drop r.next l)) out q p _ at room (take n old) out s i)

      pub bracketed_room : (p m : ℕ) → q ≡ done_at p m → m + (length l - p) < length out
      bracketed_room p m i =
          let d = done_room (r.next + 1) (n + (length l - r.next)) (take n old) (in_brackets sort (drop r.next l)) out q p m s i in
          omega (arith, d.2, d.1, d.0, goes_at_least_from l at r e Open f h, fit, same)

      pub bracketed_done : (p m v : ℕ) → q ≡ done_at p m → v ≡ kind_op op
          → Says l at room (take n old) (bracketed sort op (skip (drop at l)) (next is_letter (drop at l))) (set out m v) (done_at p (m + 1))
      unfolding postfix
      bracketed_done p m v i ev =
          let d = did (r.next + 1) (n + (length l - r.next)) (take n old) (in_brackets sort (drop r.next l)) out q p m s i in
          let g : at + 1 ≤ r.next = goes_at_least_from l at r e Open f h in
          said_done at room (take n old) (set out m v) _ p (m + 1) (container op d.sort_read) d.left
          (bracketed_is ∙ ap (λ x. x then-read (λ t cs. parsed (container op t) cs)) d.is)
          record {
            further = omega (arith, d.wrote.further);
            within = d.wrote.within;
            goes_on = d.wrote.goes_on;
            fits = omega (arith, d.wrote.fits, d.wrote.further, d.wrote.within);
            written = one_more out m v (omega (arith, bracketed_room p m i))
                ∙ (ap₂ (λ xs x. xs ++ (x ∷ [])) d.wrote.written ev ∙ append_assoc (take n old) (postfix d.sort_read) (kind_op op ∷ []));
          }

    -- an operand
    operand_said : operand sort (drop at l) ≡ operand_at sort (skip (drop at l)) (said l r)
    unfolding operand
    operand_said = ap (operand_at sort (skip (drop at l))) (next_is_said l at r e)

    pub operand_stuck : (r.token ≡ Word → ⊥) → Says l (at + 1) room (take n old) (operand sort (drop at l)) old (stuck_at r.at)
    operand_stuck z =
        said_stuck (at + 1) room (take n old) old _ r.at (skip (drop at l)) (operand_said ∙ operand_other l
        (skip (drop at l)) r.token r.at r.next z) starts_within (starts_without_spaces l at r e)

    module _ (f : r.token ≡ Word) (w : Option Said) (i : w ≡ meant (meaning (take (r.next - r.at) (drop r.at l)))) where
      operand_word : operand sort (drop at l) ≡ operand_of sort (skip (drop at l)) (meaning (take (r.next - r.at) (drop r.at l))) (drop r.next l)
      unfolding operand operand_at
      operand_word = ap (operand_at sort (skip (drop at l))) (next_is_word l at r e f)

      word_is : (m : Option Said) → w ≡ m → operand sort (drop at l) ≡ operand_of sort (skip (drop at l)) (unmeant m) (drop r.next l)
      word_is m g = operand_word ∙ ap (λ x. operand_of sort (skip (drop at l)) x (drop r.next l))
          (sym (unmeant_meant (meaning (take (r.next - r.at) (drop r.at l)))) ∙ ap unmeant (sym i ∙ g))

      abbrev after : ℕ
      after = n + (length l - r.next)

      pub operand_basic : (s : Sort) → w ≡ Some (Basic s) → (v : ℕ) → v ≡ kind_flat (primitive s)
          → Says l (at + 1) room (take n old) (operand sort (drop at l)) (set old n v) (done_at r.next (n + 1))
      unfolding operand_of postfix
      operand_basic s g v ev =
          let x : at + 1 ≤ r.next = goes_at_least_from l at r e Word f h in
          let d : r.next ≤ length l = ends_within l at r e in
          said_done (at + 1) room (take n old) (set old n v) _ r.next (n + 1) (flat (primitive s)) (drop r.next l) (word_is (Some (Basic s)) g)
          record {
            further = x;
            within = d;
            goes_on = refl;
            fits = omega arith;
            written = one_more old n v
                (omega (arith, fit, x, d)) ∙ ap (λ y. take n old ++ (y ∷ [])) ev;
          }

      pub operand_over : (o : ComplexSort) → w ≡ Some (Container o) → (out : List ℕ) (q : Recognised)
          → Says l r.next after (take n old) (bracketed sort o (skip (drop r.next l))
          (next is_letter (drop r.next l))) out q → Says l (at + 1) room (take n old) (operand sort (drop at l))
          out q
      unfolding operand_of
      operand_over o g out q s =
          let x : at + 1 ≤ r.next = goes_at_least_from l at r e Word f h in
          rw (word_is (Some (Container o)) g) (wider r.next (at + 1) after room (take n old)
          (bracketed sort o (skip (drop r.next l)) (next is_letter (drop r.next l))) out q x (omega arith) s)

      pub operand_unknown : w ≡ None → Says l (at + 1) room (take n old) (operand sort (drop at l)) old (stuck_at r.at)
      unfolding operand_of
      operand_unknown g = said_stuck (at + 1) room (take n old) old _ r.at (skip (drop at l)) (word_is None g)
          starts_within (starts_without_spaces l at r e)

    -- after the operands
    pub rest_full : r.token ≡ Hash → (k : ℕ) → k ≡ 16 → SaysRest l at old n k old (stuck_at r.at)
    unfolding SaysRest
    rest_full f k g front ts w a =
        said_stuck at room front old _ r.at (skip (drop at l)) (rest_at_last (16 - k) ts (drop at l)
        (drop r.next l) (omega arith) (next_is_hash l at r e f)) starts_within (starts_without_spaces l at r e)

    pub rest_one : (r.token ≡ Hash → ⊥) → (r.token ≡ Arrow → ⊥) → (k : ℕ) → k ≡ 1 → SaysRest l at old n k old (done_at at n)
    unfolding SaysRest
    rest_one y z k g front ts w a =
        let o = alone_one ts (skip (drop at l)) (drop at l) (a ∙ g) in
        said_done at room front old _ at n o.0 (drop at l) (rest_at_other l (16 - k) ts (drop at l) r.token
        r.at r.next (next_is_said l at r e) y z ∙ o.1)
        record { further = omega arith; within = h; goes_on = refl; fits = omega arith; written = w ∙ ap (λ x. front ++ x) o.2 }

    pub rest_many : (r.token ≡ Hash → ⊥) → (r.token ≡ Arrow → ⊥) → (k : ℕ) → (k ≡ 1 → ⊥) → SaysRest l at old n k old (stuck_at r.at)
    unfolding SaysRest
    rest_many y z k g front ts w a =
        said_stuck at room front old _ r.at (skip (drop at l))
        (rest_at_other l (16 - k) ts (drop at l) r.token r.at r.next (next_is_said l at r e) y z ∙ alone_many
        ts (skip (drop at l)) (drop at l) (λ b. g (sym a ∙ b)))
        starts_within (starts_without_spaces l at r e)

    -- `#` and another operand
    module _ (f : r.token ≡ Hash) (k : ℕ) (z : k ≡ 16 → ⊥) (few : k ≤ 16) (out : List ℕ) (q : Recognised)
        (s : Says l (r.next + 1) (n + (length l - r.next)) (take n old) (operand sort (drop r.next l)) out q) where
      hash_is : (ts : Trees) → rest sort (16 - k) ts (drop at l) ≡ (operand sort (drop r.next l) then-read (λ t ds. rest sort (16 - (k + 1)) (snoc ts t) ds))
      hash_is ts = rest_at_hash (16 - k) (16 - (k + 1)) ts (drop at l) (drop r.next l) (omega arith) (next_is_hash l at r e f)

      pub rest_passes : (p : ℕ) → q ≡ stuck_at p → SaysRest l at old n k out (stuck_at p)
      unfolding SaysRest
      rest_passes p i front ts w a = rw (hash_is ts) (stuck_then (r.next + 1) (n + (length l - r.next)) (take n old)
          (operand sort (drop r.next l)) out q p _ at room front out s i)

      pub rest_goes_on : (p m : ℕ) → q ≡ done_at p m → (out' : List ℕ) (q' : Recognised) → SaysRest l p out m (k + 1) out' q' → SaysRest l at old n k out' q'
      unfolding SaysRest
      rest_goes_on p m i out' q' c front ts w a =
          let d = did (r.next + 1) (n + (length l - r.next)) (take n old) (operand sort (drop r.next l)) out q p m s i in
          let g : at + 1 ≤ r.next = goes_at_least_from l at r e Hash f h in
          let now-written : take m out ≡ front ++ postfixes (snoc ts d.sort_read) =
          d.wrote.written ∙ (ap (λ x. x ++ postfix d.sort_read) w ∙ (append_assoc front (postfixes ts)
          (postfix d.sort_read) ∙ ap (λ x. front ++ x) (sym (postfixes_snoc ts d.sort_read)))) in
          rw (hash_is ts, d.is, sym d.wrote.goes_on)
          (wider p at (m + (length l - p)) room front (rest sort (16 - (k + 1)) (snoc ts d.sort_read) (drop p l))
          out' q' (omega (arith, d.wrote.further)) (omega (arith, d.wrote.fits))
          (c front (snoc ts d.sort_read) now-written (arity_snoc ts d.sort_read ∙ ap (λ x. x + 1) a)))

    -- `->` and the range
    module _ (f : r.token ≡ Arrow) (k : ℕ) (out : List ℕ) (same : length out ≡ length old) (q : Recognised)
        (s : Says l (r.next + 1) (n + (length l - r.next)) (take n old) (sort (drop r.next l)) out q) where
      arrow_is : (ts : Trees) → rest sort (16 - k) ts (drop at l) ≡ (sort (drop r.next l) then-read (λ t ds. parsed (function ts t) ds))
      arrow_is ts = rest_at_arrow (16 - k) ts (drop at l) (drop r.next l) (next_is_arrow l at r e f)

      pub range_passes : (p : ℕ) → q ≡ stuck_at p → SaysRest l at old n k out (stuck_at p)
      unfolding SaysRest
      range_passes p i front ts w a = rw (arrow_is ts) (stuck_then (r.next + 1) (n + (length l - r.next))
          (take n old) (sort (drop r.next l)) out q p _ at room front out s i)

      pub range_room : (p m : ℕ) → q ≡ done_at p m → m + (length l - p) < length out
      range_room p m i =
          let d = done_room (r.next + 1) (n + (length l - r.next)) (take n old) (sort (drop r.next l)) out q p m s i in
          omega (arith, d.2, d.1, d.0, goes_at_least_from l at r e Arrow f h, fit, same)

      pub range_done : (p m v : ℕ) → q ≡ done_at p m → v ≡ 16 + k → SaysRest l at old n k (set out m v) (done_at p (m + 1))
      unfolding SaysRest postfix
      range_done p m v i ev front ts w a =
          let d = did (r.next + 1) (n + (length l - r.next)) (take n old) (sort (drop r.next l)) out q p m s i in
          let g : at + 2 ≤ r.next = goes_at_least_from l at r e Arrow f h in
          said_done at room front (set out m v) _ p (m + 1) (function ts d.sort_read) d.left
          (arrow_is ts ∙ ap (λ x. x then-read (λ t ds. parsed (function ts t) ds)) d.is)
          record {
            further = omega (arith, d.wrote.further);
            within = d.wrote.within;
            goes_on = d.wrote.goes_on;
            fits = omega (arith, d.wrote.fits, d.wrote.further, d.wrote.within);
            written = one_more out m v (omega (arith, range_room p m i))
                ∙ (ap₂ (λ xs x. xs ++ (x ∷ [])) (d.wrote.written ∙ ap (λ x. x ++ postfix d.sort_read) w) (ev ∙ ap (λ x. 16 + x) (sym a))
                ∙ (append_assoc (front ++ postfixes ts) (postfix d.sort_read) ((16 + arity ts) ∷ []) ∙ append_assoc
                front (postfixes ts) (postfix d.sort_read ++ ((16 + arity ts) ∷ []))));
          }

  -- a sort: its first operand, and what comes after it
  module _ (at : ℕ) (old : List ℕ) (n : ℕ) (out : List ℕ) (q : Recognised) (s : Says l (at + 1) (n + (length l - at))
      (take n old) (operand sort (drop at l)) out q) where
    pub sort_passes : (p : ℕ) → q ≡ stuck_at p → Says l (at + 1) (n + (length l - at)) (take n old) (sort (drop at l)) out (stuck_at p)
    sort_passes p i = rw (sort_is (drop at l)) (stuck_then (at + 1) (n + (length l - at)) (take n old)
        (operand sort (drop at l)) out q p _ (at + 1) (n + (length l - at)) (take n old) out s i)

    pub sort_goes_on : (p m : ℕ) → q ≡ done_at p m → (out' : List ℕ) (q' : Recognised) → SaysRest l p out m 1 out' q'
        → Says l (at + 1) (n + (length l - at)) (take n old) (sort (drop at l)) out' q'
    unfolding SaysRest postfixes arity
    sort_goes_on p m i out' q' c =
        let d = did (at + 1) (n + (length l - at)) (take n old) (operand sort (drop at l)) out q p m s i in
        rw (sort_is (drop at l), d.is, sym d.wrote.goes_on)
        (wider p (at + 1) (m + (length l - p)) (n + (length l - at)) (take n old)
        (rest sort 15 (arg d.sort_read no_args) (drop p l)) out' q' d.wrote.further d.wrote.fits
        (c (take n old) (arg d.sort_read no_args) (d.wrote.written ∙ ap (λ x. take n old ++ x) (sym (append-nil (postfix d.sort_read)))) refl))

  -- a line: a sort, and nothing after it
  module _ (out old : List ℕ) (q : Recognised) (s : Says l (0 + 1) (0 + (length l - 0)) (take 0 old) (sort (drop 0 l)) out q) where
    whole : Says l 1 (length l) [] (sort l) out q
    whole = subst (λ x. Says l 1 x [] (sort l) out q) (omega arith) s

    pub line_passes : (p : ℕ) → q ≡ stuck_at p → Says l 0 (length l) [] (line l) out (stuck_at p)
    unfolding line
    line_passes p i = stuck_then 1 (length l) [] (sort l) out q p _ 0 (length l) [] out whole i

    module _ (p m : ℕ) (i : q ≡ done_at p m) (r : Lexeme) (e : r ≡ lexeme_of l p) where
      abbrev d : Did 1 (length l) [] (sort l) out p m
      d = did 1 (length l) [] (sort l) out q p m whole i

      line_is : line l ≡ ending d.sort_read (skip (drop p l)) (next is_letter (drop p l))
      unfolding line
      line_is = ap (λ x. x then-read (λ t cs. ending t (skip cs) (next is_letter cs))) d.is ∙ ap
          (λ cs. ending d.sort_read (skip cs) (next is_letter cs)) (sym d.wrote.goes_on)

      pub line_done : r.token ≡ End → Says l 0 (length l) [] (line l) out (done_at (length l) m)
      unfolding ending
      line_done f =
          said_done 0 (length l) [] out _ (length l) m d.sort_read [] (line_is ∙ ap (ending d.sort_read (skip (drop p l))) (next_is_end l p r e f))
          record {
            further = omega arith;
            within = omega arith;
            goes_on = drop_of_length-le l {i = length l}
                (omega arith);
            fits = omega (arith, d.wrote.fits);
            written = d.wrote.written;
          }

      pub line_stuck : (r.token ≡ End → ⊥) → Says l 0 (length l) [] (line l) out (stuck_at r.at)
      line_stuck z =
          said_stuck 0 (length l) [] out _ r.at (skip (drop p l))
          (line_is ∙ (ap (ending d.sort_read (skip (drop p l))) (next_is_said l p r e) ∙ ending_other l
          d.sort_read (skip (drop p l)) r.token r.at r.next z))
          (omega (arith, goes_on l p r e, ends_within l p r e)) (starts_without_spaces l p r e)
