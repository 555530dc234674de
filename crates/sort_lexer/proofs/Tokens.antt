-- The token at a position, as the code finds it: the first byte that is no space decides. Assumes nothing.
use mathlib.Core.Path.{◌≡◌, refl, sym, ap, ◌∙◌}
use mathlib.Core.Bool.{Bool, true, false, and-true}
use mathlib.Core.List.{List, [], ◌∷◌}
use Prim.Native.Nat.{ℕ, ◌+◌, ◌<◌, ◌≤◌}
use native.Mathlib.Omega.{arith}
use native.Mathlib.Numerals.{add-one}
use lib.ListN.{length, get_or, drop, length-drop, drop_of_length-le}
use lib.Seq.{drop-cons, drop-drop}
use lib.Dec.{eqb, ltb}
use borrow.Author.Tests.{eq-eqb, ne_eqb, ltb-true, eqb-true, eqb-false}
use Rattle.std.specs.Prelude.{nat_eq}
use Rattle.std.specs.List.{starts_with}
use Rattle.std.proofs.lemmas.List.{get_or_default}
use Rattle.std.specs.Char.{is_ascii_alphabetic}
use Rattle.sort_text.specs.Tokens.{is_letter, NextToken, word, open_bracket, close_bracket, hash, arrow, bad, run, past, skip, start, dash, next_at, next}
use Rattle.sort_lexer.specs.declared.Token.{Token}
use Rattle.sort_lexer.specs.declared.Token.TheVariants.{End, Word, Open, Close, Hash, Arrow, Bad}
use Rattle.sort_lexer.specs.declared.Lexeme.{Lexeme}
use Rattle.sort_lexer.specs.Inner.Lexeme.{offset, lexeme, lexeme_of}
use Rattle.sort_lexer.proofs.Places.{place_drop, left_without_spaces}

-- the token that a byte starts, by the byte
module _ (p : ℕ → Bool) (b : ℕ) (bs : List ℕ) where
  start_word : p b ≡ true → start p b bs ≡ word (b ∷ run p bs) (past p bs)
  unfolding start
  start_word e = rw e

  module _ (no : p b ≡ false) where
    start_open : b ≡ 40 → start p b bs ≡ open_bracket bs
    unfolding start
    start_open e = rw (no, eq-eqb b 40 e)

    start_close : b ≡ 41 → start p b bs ≡ close_bracket bs
    unfolding start
    start_close e = rw (no, ne_eqb b 40 (λ f. omega arith), eq-eqb b 41 e)

    start_hash : b ≡ 35 → start p b bs ≡ hash bs
    unfolding start
    start_hash e = rw (no, ne_eqb b 40 (λ f. omega arith), ne_eqb b 41 (λ f. omega arith), eq-eqb b 35 e)

    start_dash : b ≡ 45 → start p b bs ≡ dash bs
    unfolding start
    start_dash e = rw (no, ne_eqb b 40 (λ f. omega arith), ne_eqb b 41 (λ f. omega arith), ne_eqb b 35 (λ f. omega arith), eq-eqb b 45 e)

    start_bad : (b ≡ 40 → ⊥) → (b ≡ 41 → ⊥) → (b ≡ 35 → ⊥) → (b ≡ 45 → ⊥) → start p b bs ≡ bad
    unfolding start
    start_bad f g h i = rw (no, ne_eqb b 40 f, ne_eqb b 41 g, ne_eqb b 35 h, ne_eqb b 45 i)

-- a dash, by what the library says of the bytes that begin with it
dash_before : (bs : List ℕ) → starts_with nat_eq (45 ∷ bs) (45 ∷ 62 ∷ []) ≡ true → (0 < length bs) × (dash bs ≡ arrow (drop 1 bs))
dash_before [] e = cc
dash_before (b ∷ bs) e = (omega arith, rw (eq-eqb b 62 (sym (eqb-true 62 b (sym (and-true (eqb 62 b)) ∙ e)))))

dash_alone : (bs : List ℕ) → starts_with nat_eq (45 ∷ bs) (45 ∷ 62 ∷ []) ≡ false → dash bs ≡ bad
dash_alone [] e = refl
dash_alone (b ∷ bs) e = rw (ne_eqb b 62 (λ f. eqb-false 62 b (sym (and-true (eqb 62 b)) ∙ e) (sym f)))

abbrev found : Token → ℕ → ℕ → Lexeme
found t i j = record { token = t; at = i; next = j }

-- from: the first position from `at` on that has no space
module _ (l : List ℕ) (at from : ℕ) (skipped : from ≡ offset l (skip (drop at l))) where
  without_spaces : skip (drop at l) ≡ drop from l
  without_spaces = sym (left_without_spaces l at from skipped)

  pub no_token_left : length l ≤ from → found End from from ≡ lexeme_of l at
  unfolding lexeme lexeme_of next
  no_token_left h = sym (ap (λ (bs : List ℕ). lexeme l bs (next_at is_letter bs)) (without_spaces ∙ drop_of_length-le l
      h) ∙ ap (λ (i : ℕ). found End i i) (omega (arith, ap length without_spaces, length-drop from l)))

  module _ (h : from < length l) where
    token_from : (n : NextToken) → start is_letter (get_or l from 0) (drop (from + 1) l) ≡ n → lexeme_of l at ≡ lexeme l (drop from l) n
    unfolding lexeme_of next
    token_from n e =
        let first : skip (drop at l) ≡ get_or l from 0 ∷ drop (from + 1) l = without_spaces ∙ rw (add-one, drop-cons l from 0 h) in
        ap (lexeme l (skip (drop at l))) (ap (next_at is_letter) first ∙ e) ∙ ap (λ (bs : List ℕ). lexeme l bs n) without_spaces

    -- of places that are positions of the line
    at_positions : (t : Token) (j : ℕ) → j ≤ length l → found t (offset l (drop from l)) (offset l (drop j l)) ≡ found t from j
    at_positions t j k = ap (λ (i : ℕ). found t i (offset l (drop j l))) (place_drop l from (omega arith)) ∙ ap (found t from) (place_drop l j k)

    module _ (q : Bool) (e : q ≡ is_letter (get_or l from 0)) where
      pub a_word : q ≡ true → (to : ℕ) → to ≡ offset l (past is_letter (drop (from + 1) l)) → found Word from to ≡ lexeme_of l at
      unfolding lexeme
      a_word t to f = sym (token_from _ (start_word is_letter (get_or l from 0) (drop (from + 1) l) (sym e ∙ t)) ∙ ap
          (found Word (offset l (drop from l))) (sym f) ∙ ap (λ (i : ℕ). found Word i to) (place_drop l from
          (omega arith)))

      module _ (no : q ≡ false) where
        pub an_open_bracket : get_or l from 0 ≡ 40 → found Open from (from + 1) ≡ lexeme_of l at
        unfolding lexeme
        an_open_bracket b = sym (token_from _ (start_open is_letter _ _ (sym e ∙ no) b) ∙ at_positions Open (from + 1) (omega arith))

        pub a_close_bracket : get_or l from 0 ≡ 41 → found Close from (from + 1) ≡ lexeme_of l at
        unfolding lexeme
        a_close_bracket b = sym (token_from _ (start_close is_letter _ _ (sym e ∙ no) b) ∙ at_positions Close (from + 1) (omega arith))

        pub a_hash : get_or l from 0 ≡ 35 → found Hash from (from + 1) ≡ lexeme_of l at
        unfolding lexeme
        a_hash b = sym (token_from _ (start_hash is_letter _ _ (sym e ∙ no) b) ∙ at_positions Hash (from + 1) (omega arith))

        bad_token : start is_letter (get_or l from 0) (drop (from + 1) l) ≡ bad → found Bad from from ≡ lexeme_of l at
        unfolding lexeme
        bad_token b = sym (token_from bad b ∙ at_positions Bad from (omega arith))

        pub no_token : (get_or l from 0 ≡ 40 → ⊥) → (get_or l from 0 ≡ 41 → ⊥) → (get_or l from 0 ≡ 35 → ⊥)
            → (get_or l from 0 ≡ 45 → ⊥) → found Bad from from ≡ lexeme_of l at
        no_token a b c d = bad_token (start_bad is_letter _ _ (sym e ∙ no) a b c d)

-- the same by the byte at a place of the line, and by what the library's tests say of it
module _ (l : List ℕ) (at from : ℕ) (skipped : from ≡ offset l (skip (drop at l))) (b : ℕ) (inside : true ≡ ltb from (length l)) (here : b ≡ get_or l from b) where
  inside_it : from < length l
  inside_it = ltb-true from (length l) (sym inside)

  is : b ≡ get_or l from 0
  is = here ∙ get_or_default l from b 0 inside_it

  add-one-drop : drop from l ≡ get_or l from 0 ∷ drop (from + 1) l
  add-one-drop = rw (add-one, drop-cons l from 0 inside_it)

  pub says_word : (r : Bool) → r ≡ is_ascii_alphabetic b → r ≡ true → (to : ℕ) → to ≡ offset l (past is_letter (drop (from + 1) l)) → found Word from to ≡ lexeme_of l at
  says_word r e t to f = a_word l at from skipped inside_it r (e ∙ ap is_ascii_alphabetic is) t to f

  pub says_open : b ≡ 40 → found Open from (from + 1) ≡ lexeme_of l at
  says_open e = an_open_bracket l at from skipped inside_it _ refl (ap is_letter (sym is ∙ e)) (sym is ∙ e)

  pub says_close : b ≡ 41 → found Close from (from + 1) ≡ lexeme_of l at
  says_close e = a_close_bracket l at from skipped inside_it _ refl (ap is_letter (sym is ∙ e)) (sym is ∙ e)

  pub says_hash : b ≡ 35 → found Hash from (from + 1) ≡ lexeme_of l at
  says_hash e = a_hash l at from skipped inside_it _ refl (ap is_letter (sym is ∙ e)) (sym is ∙ e)

  module _ (d : b ≡ 45) (bs : List ℕ) (rest : bs ≡ drop from l) (r : Bool) (e : r ≡ starts_with nat_eq bs (45 ∷ 62 ∷ [])) where
    after_dash : starts_with nat_eq (45 ∷ drop (from + 1) l) (45 ∷ 62 ∷ []) ≡ r
    after_dash = let two : drop from l ≡ 45 ∷ drop (from + 1) l = add-one-drop ∙ ap (λ x. x ∷ drop (from + 1) l) (sym is ∙ d) in
        sym (e ∙ ap (λ xs. starts_with nat_eq xs (45 ∷ 62 ∷ [])) (rest ∙ two))

    says_start : start is_letter (get_or l from 0) (drop (from + 1) l) ≡ dash (drop (from + 1) l)
    says_start = start_dash is_letter _ _ (ap is_letter (sym is ∙ d)) (sym is ∙ d)

    pub says_arrow : r ≡ true → found Arrow from (from + 2) ≡ lexeme_of l at
    unfolding lexeme
    says_arrow t =
        let y = dash_before (drop (from + 1) l) (after_dash ∙ t) in
        let n : from + 2 ≤ length l = omega (arith, y.0, length-drop (from + 1) l) in
        sym (token_from l at from skipped inside_it (arrow (drop 1 (drop (from + 1) l))) (says_start ∙ y.1)
        ∙ ap (λ xs. found Arrow (offset l (drop from l)) (offset l xs)) (drop-drop 1 (from + 1) l ∙ ap (λ i. drop i l) (omega arith))
        ∙ at_positions l at from skipped inside_it Arrow (from + 2) n)

    pub says_dash : r ≡ false → found Bad from from ≡ lexeme_of l at
    says_dash t = bad_token l at from skipped inside_it _ refl (ap is_letter (sym is ∙ d)) (says_start ∙ dash_alone (drop (from + 1) l) (after_dash ∙ t))

  pub says_nothing : (r : Bool) → r ≡ is_ascii_alphabetic b → r ≡ false → (b ≡ 40 → ⊥) → (b ≡ 41 → ⊥) → (b ≡ 35 → ⊥) → (b ≡ 45 → ⊥) → found Bad from from ≡ lexeme_of l at
  says_nothing r e n x y z w = no_token l at from skipped inside_it r (e ∙ ap is_ascii_alphabetic is) n (λ q. x (is ∙ q)) (λ q. y (is ∙ q)) (λ q. z (is ∙ q)) (λ q. w (is ∙ q))
