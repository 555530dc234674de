-- Reading words one by one comes to the words of the line. Assumes nothing.
use mathlib.Core.Path.{◌≡◌, refl, sym, ap, ◌∙◌}
use mathlib.Core.List.{List, [], ◌∷◌, ◌++◌}
use Prim.Native.Nat.{ℕ, zero, suc, ◌+◌, ◌-◌, ◌<◌, ◌≤◌}
use native.Mathlib.Numerals.{add-one}
use native.Mathlib.Omega.{arith}
use lib.ListN.{length, get_or, set, take, drop, length-drop, length-set}
use lib.Seq.{get_or-drop, take-suc-set}
use borrow.Author.Tests.{eq-eqb, ne_eqb}
use Rattle.std.proofs.Common.{append_assoc}
use Rattle.std.proofs.lemmas.List.{append-nil}
use Rattle.sort_text.specs.Tokens.{run, past, skip}
use Rattle.sort_lexer.specs.Inner.Lexeme.{offset}
use Rattle.sort_lexer.proofs.Places as places
use Rattle.list_tokens.specs.declared.Token.{Token}
use Rattle.list_tokens.specs.declared.Start.{Start}
use Rattle.list_tokens.specs.declared.Start.TheVariants.{Skipped}
use Rattle.list_tokens.specs.Tokens.{in_word, token_of, tokens_from, tokens_of, start_by, line_start}

-- from: the first position from `at` on that has no space
module _ (l : List ℕ) (at from : ℕ) (e : from ≡ offset l (skip (drop at l))) where
  nothing_left : length l ≤ from → length (skip (drop at l)) ≡ 0
  nothing_left h = omega (arith, ap length (places.left_without_spaces l at from e), length-drop from l)

  something_left : from < length l → length (skip (drop at l)) ≡ 0 → ⊥
  something_left h z = omega (arith, ap length (places.left_without_spaces l at from e), length-drop from l)

  -- to: the end of the word from there on, and w its bytes
  module _ (to : ℕ) (f : to ≡ offset l (past in_word (drop from l))) where
    after_the_word : drop to l ≡ past in_word (skip (drop at l))
    after_the_word = places.left_after_run in_word l from to f ∙ ap (past in_word) (places.left_without_spaces l at from e)

    the_word : (w : List ℕ) → w ≡ take (to - from) (drop from l) → w ≡ run in_word (skip (drop at l))
    the_word w g = g ∙ places.bytes_of_run in_word l from to f ∙ ap (run in_word) (places.left_without_spaces l at from e)

ended : (m : ℕ) (bs : List ℕ) → length (skip bs) ≡ 0 → tokens_from m bs ≡ []
unfolding tokens_from
ended zero bs h = refl
ended (suc m) bs h = rw (eq-eqb _ _ h)

more :
    (m : ℕ) (bs cs w : List ℕ) (t : Token) → (length (skip bs) ≡ 0 → ⊥) → cs ≡ past in_word (skip bs) → w ≡ run in_word (skip bs) → t ≡ token_of w
    → tokens_from (suc m) bs ≡ t ∷ tokens_from m cs
unfolding tokens_from
more m bs cs w t h e f g = rw (ne_eqb _ _ h, g, f, e)

-- the words put, and those of the line from a position on, are those of the line
pub record Going (line : List ℕ) (words : List Token) (k at : ℕ) : Type 0 where
  pub within : k ≤ 100
  pub room : length words ≡ 100
  pub same : take k words ++ tokens_from (100 - k) (drop at line) ≡ tokens_of line

pub going_start : (line : List ℕ) (words : List Token) → length words ≡ 100 → Going line words 0 0
unfolding tokens_of
going_start line words r = record { within = omega arith; room = r; same = refl }

module _ (line : List ℕ) (words : List Token) (k at : ℕ) (g : Going line words k at) where
  pub all_taken : 100 ≤ k → take 100 words ≡ tokens_of line
  unfolding tokens_from
  all_taken h =
      let z : 100 - k ≡ zero = omega arith in
      let e : k ≡ 100 = omega arith in
      ap (λ (n : ℕ). take n words) (sym e) ∙ sym (append-nil (take k words))
      ∙ ap (λ (m : ℕ). take k words ++ tokens_from m (drop at line)) (sym z) ∙ g.same

  module _ (from : ℕ) (e : from ≡ offset line (skip (drop at line))) where
    pub no_more_words : length line ≤ from → take k words ≡ tokens_of line
    no_more_words h =
        sym (append-nil (take k words))
        ∙ ap (λ (ts : List Token). take k words ++ ts) (sym (ended (100 - k) (drop at line) (nothing_left line at from e h)))
        ∙ g.same

    pub one_more_word :
        k < 100 → from < length line → (to : ℕ) → to ≡ offset line (past in_word (drop from line))
        → (w : List ℕ) → w ≡ take (to - from) (drop from line) → (t : Token) → t ≡ token_of w → Going line (set words k t) (k + 1) to
    one_more_word h r to f w c t d =
        let m : 100 - k ≡ suc (100 - (k + 1)) = omega arith in
        record {
          within = omega arith;
          room = simp length-set g.room;
          same =
              ap (λ (ts : List Token). ts ++ tokens_from (100 - (k + 1)) (drop to line)) (rw (add-one) (take-suc-set words k t (omega (arith, g.room))))
              ∙ append_assoc (take k words) (t ∷ []) (tokens_from (100 - (k + 1)) (drop to line))
              ∙ ap (λ (ts : List Token). take k words ++ ts)
              (sym
              (ap (λ (n : ℕ). tokens_from n (drop at line)) m
              ∙ more (100 - (k + 1)) (drop at line) (drop to line) w t (something_left line at from e r)
              (after_the_word line at from e to f)
              (the_word line at from e to f w c)
              d))
              ∙ g.same;
        }

-- what a line begins with
module _ (line : List ℕ) (from : ℕ) (e : from ≡ offset line (skip (drop 0 line))) where
  pub line_without_words : length line ≤ from → Skipped ≡ line_start line
  unfolding line_start
  line_without_words h = rw (eq-eqb _ _ (nothing_left line 0 from e h))

  module _ (h : from < length line) where
    some_word : length (skip line) ≡ 0 → ⊥
    some_word = something_left line 0 from e h

    first_byte : get_or line from 0 ≡ get_or (skip line) 0 0
    first_byte =
        ap (λ (i : ℕ). get_or line i 0) (omega arith) ∙ sym (get_or-drop from line 0 0)
        ∙ ap (λ (bs : List ℕ). get_or bs 0 0) (places.left_without_spaces line 0 from e)

    pub line_of_a_comment : get_or line from 0 ≡ 35 → Skipped ≡ line_start line
    unfolding line_start
    line_of_a_comment c = rw (ne_eqb _ _ some_word, eq-eqb _ _ (sym first_byte ∙ c))

    module _ (c : get_or line from 0 ≡ 35 → ⊥) (to : ℕ) (f : to ≡ offset line (past in_word (drop from line)))
        (w : List ℕ) (g : w ≡ take (to - from) (drop from line)) (t : Token) (d : t ≡ token_of w) where
      first_word : token_of (run in_word (skip line)) ≡ t
      first_word = sym (d ∙ ap token_of (the_word line 0 from e to f w g))

      pub line_of_a_word : (s : Start) → s ≡ start_by t → s ≡ line_start line
      unfolding line_start
      line_of_a_word s b = rw (ne_eqb _ _ some_word, ne_eqb _ _ (λ z. c (first_byte ∙ z)), first_word) b
