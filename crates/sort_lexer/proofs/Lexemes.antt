-- What a token with its positions says of the line: each end of the line is found again from its place, and the token that a byte
-- starts is right whichever it is. Assumes nothing.
use mathlib.Core.Path.{◌≡◌, refl, sym, ap, ◌∙◌}
use mathlib.Core.Bool.{Bool, true, false, cond}
use mathlib.Core.List.{List, [], ◌∷◌}
use Prim.Native.Nat.{ℕ, ◌+◌, ◌-◌, ◌≤◌}
use native.Mathlib.Omega.{arith}
use lib.ListN.{length, take, drop, length-drop}
use lib.Seq.{drop-drop, drop_at, take_at}
use lib.Dec.{eqb}
use Rattle.sort_text.specs.Tokens.{is_letter, NextToken, end, word, open_bracket, close_bracket, hash, arrow, bad, run, past, skip, start, dash, next_at, next}
use Rattle.sort_lexer.specs.declared.Token.{Token}
use Rattle.sort_lexer.specs.declared.Token.TheVariants.{End, Word, Open, Close, Hash, Arrow}
use Rattle.sort_lexer.specs.declared.Lexeme.{Lexeme}
use Rattle.sort_lexer.specs.Inner.Lexeme.{offset, lexeme, lexeme_of, said_by, said, least}
use Rattle.sort_lexer.proofs.Places.{run_then_past, length_past, drop_place_past, left_without_spaces, skip_goes_on}

-- bs is an end of l
abbrev Ends : List ℕ → List ℕ → Type 0
Ends l bs = drop (offset l bs) l ≡ bs

no_longer : (l bs : List ℕ) → Ends l bs → length bs ≤ length l
no_longer l bs e = omega (arith, ap length e, length-drop (offset l bs) l)

ends_further : (l bs cs : List ℕ) (k : ℕ) → Ends l bs → drop k bs ≡ cs → length cs + k ≡ length bs → Ends l cs
ends_further l bs cs k e f n =
    let g : offset l cs ≡ offset l bs + k = omega (arith, no_longer l bs e) in
    ap (λ (i : ℕ). drop i l) g ∙ sym (drop-drop k (offset l bs) l) ∙ ap (drop k) e ∙ f

-- the token n, which was found at bs
record Right (l bs : List ℕ) (n : NextToken) : Type 0 where
  says : n ≡ said l (lexeme l bs n)
  starts : (lexeme l bs n).at ≡ offset l bs
  goes : offset l bs + least (lexeme l bs n).token ≤ (lexeme l bs n).next
  within : (lexeme l bs n).next ≤ length l

right_either : (l bs : List ℕ) (q : Bool) (m n : NextToken) → Right l bs m → Right l bs n → Right l bs (cond q m n)
right_either l bs true m n f g = f
right_either l bs false m n f g = g

right_bad : (l bs : List ℕ) → Right l bs bad
unfolding lexeme said_by
right_bad l bs = record { says = refl; starts = refl; goes = omega arith; within = omega arith }

module _ (p : ℕ → Bool) (l : List ℕ) (b : ℕ) (bs : List ℕ) (e : Ends l (b ∷ bs)) where
  ends_after_byte : Ends l bs
  ends_after_byte = ends_further l (b ∷ bs) bs 1 e refl (omega arith)

  right_word : Right l (b ∷ bs) (word (b ∷ run p bs) (past p bs))
  unfolding lexeme said_by
  right_word =
      let far : Ends l (past p bs) = ends_further l bs (past p bs) (length (run p bs)) ends_after_byte
      (sym (ap (drop (length (run p bs))) (run_then_past p bs)) ∙ drop_at (run p bs) (past p bs)
      (length (run p bs)) refl) (omega (arith, length_past p bs)) in
      let count : length (b ∷ run p bs) ≡ offset l (past p bs) - offset l (b ∷ bs) = omega (arith, length_past p bs, no_longer l (b ∷ bs) e) in
      let it : take (offset l (past p bs) - offset l (b ∷ bs)) (drop (offset l (b ∷ bs)) l) ≡ b ∷ run p bs =
      ap (take (offset l (past p bs) - offset l (b ∷ bs))) (e ∙ ap (λ (xs : List ℕ). b ∷ xs)
      (sym (run_then_past p bs))) ∙ take_at (b ∷ run p bs) (past p bs) (offset l (past p bs) - offset l (b ∷ bs))
      count in
      record {
        says = sym (ap (λ (w : List ℕ). word w (drop (offset l (past p bs)) l)) it ∙ ap (word (b ∷ run p bs))
            far);
        starts = refl;
        goes = omega (arith, length_past p bs, no_longer l (b ∷ bs) e);
        within = omega arith;
      }

  right_open : Right l (b ∷ bs) (open_bracket bs)
  unfolding lexeme said_by
  right_open = record { says = ap open_bracket (sym ends_after_byte); starts = refl; goes = omega (arith, no_longer l (b ∷ bs) e); within = omega arith }

  right_close : Right l (b ∷ bs) (close_bracket bs)
  unfolding lexeme said_by
  right_close = record { says = ap close_bracket (sym ends_after_byte); starts = refl; goes = omega (arith, no_longer l (b ∷ bs) e); within = omega arith }

  right_hash : Right l (b ∷ bs) (hash bs)
  unfolding lexeme said_by
  right_hash = record { says = ap hash (sym ends_after_byte); starts = refl; goes = omega (arith, no_longer l (b ∷ bs) e); within = omega arith }

right_arrow : (l : List ℕ) (b c : ℕ) (bs : List ℕ) → Ends l (b ∷ c ∷ bs) → Right l (b ∷ c ∷ bs) (arrow bs)
unfolding lexeme said_by
right_arrow l b c bs e = record {
  says = ap arrow (sym (ends_further l (b ∷ c ∷ bs) bs 2 e refl (omega arith)));
  starts = refl;
  goes = omega (arith, no_longer l (b ∷ c ∷ bs) e);
  within = omega arith;
}

right_dash : (l : List ℕ) (b : ℕ) (bs : List ℕ) → Ends l (b ∷ bs) → Right l (b ∷ bs) (dash bs)
right_dash l b [] e = right_bad l (b ∷ [])
right_dash l b (c ∷ bs) e = right_either l (b ∷ c ∷ bs) (eqb c 62) (arrow bs) bad (right_arrow l b c bs e) (right_bad l (b ∷ c ∷ bs))

right_start : (p : ℕ → Bool) (l : List ℕ) (b : ℕ) (bs : List ℕ) → Ends l (b ∷ bs) → Right l (b ∷ bs) (start p b bs)
unfolding start
right_start p l b bs e =
    right_either l (b ∷ bs) (p b) _ _ (right_word p l b bs e)
    (right_either l (b ∷ bs) (eqb b 40) _ _ (right_open p l b bs e)
    (right_either l (b ∷ bs) (eqb b 41) _ _ (right_close p l b bs e)
    (right_either l (b ∷ bs) (eqb b 35) _ _ (right_hash p l b bs e)
    (right_either l (b ∷ bs) (eqb b 45) _ _ (right_dash l b bs e) (right_bad l (b ∷ bs))))))

right_at : (p : ℕ → Bool) (l bs : List ℕ) → Ends l bs → Right l bs (next_at p bs)
unfolding lexeme said_by
right_at p l [] e = record { says = refl; starts = refl; goes = omega arith; within = omega arith }
right_at p l (b ∷ bs) e = right_start p l b bs e

right_next : (p : ℕ → Bool) (l : List ℕ) (at : ℕ) → Right l (skip (drop at l)) (next p (drop at l))
unfolding next skip
right_next p l at = right_at p l (skip (drop at l)) (drop_place_past (eqb 32) l at)

-- r: what `token_at` finds
module _ (l : List ℕ) (at : ℕ) (r : Lexeme) (e : r ≡ lexeme_of l at) where
  pub starts_at_place : r.at ≡ offset l (skip (drop at l))
  unfolding lexeme_of
  starts_at_place = ap (λ (x : Lexeme). x.at) e ∙ (right_next is_letter l at).starts

  pub starts_without_spaces : drop r.at l ≡ skip (drop at l)
  starts_without_spaces = left_without_spaces l at r.at starts_at_place

  pub starts_no_earlier : at ≤ length l → at ≤ r.at
  starts_no_earlier = skip_goes_on l at r.at starts_at_place

  pub next_is_said : next is_letter (drop at l) ≡ said l r
  unfolding lexeme_of
  next_is_said = (right_next is_letter l at).says ∙ ap (said l) (sym e)

  pub ends_within : r.next ≤ length l
  unfolding lexeme_of
  ends_within = rw e (right_next is_letter l at).within

  pub goes_on : r.at + least r.token ≤ r.next
  unfolding lexeme_of
  goes_on = rw (starts_at_place, e) (right_next is_letter l at).goes

  module _ (t : Token) (f : r.token ≡ t) where
    pub goes_at_least : r.at + least t ≤ r.next
    goes_at_least = rw f at goes_on

    pub goes_at_least_from : at ≤ length l → at + least t ≤ r.next
    goes_at_least_from h = omega (arith, goes_at_least, starts_no_earlier h)

    pub next_is : next is_letter (drop at l) ≡ said_by l t r.at r.next
    next_is = next_is_said ∙ ap (λ (u : Token). said_by l u r.at r.next) f

  pub next_is_end : r.token ≡ End → next is_letter (drop at l) ≡ end
  unfolding said_by
  next_is_end = next_is End

  pub next_is_word : r.token ≡ Word → next is_letter (drop at l) ≡ word (take (r.next - r.at) (drop r.at l)) (drop r.next l)
  unfolding said_by
  next_is_word = next_is Word

  pub next_is_open : r.token ≡ Open → next is_letter (drop at l) ≡ open_bracket (drop r.next l)
  unfolding said_by
  next_is_open = next_is Open

  pub next_is_close : r.token ≡ Close → next is_letter (drop at l) ≡ close_bracket (drop r.next l)
  unfolding said_by
  next_is_close = next_is Close

  pub next_is_hash : r.token ≡ Hash → next is_letter (drop at l) ≡ hash (drop r.next l)
  unfolding said_by
  next_is_hash = next_is Hash

  pub next_is_arrow : r.token ≡ Arrow → next is_letter (drop at l) ≡ arrow (drop r.next l)
  unfolding said_by
  next_is_arrow = next_is Arrow

-- only the end of the line is read as its end
never_end : (q : Bool) (m n : NextToken) → (m ≡ end → ⊥) → (n ≡ end → ⊥) → cond q m n ≡ end → ⊥
never_end true m n f g = f
never_end false m n f g = g

dash_goes_on : (bs : List ℕ) → dash bs ≡ end → ⊥
dash_goes_on [] = λ e. cc
dash_goes_on (b ∷ bs) = never_end (eqb b 62) _ _ (λ e. cc) (λ e. cc)

nothing_left : (p : ℕ → Bool) (bs : List ℕ) → next_at p bs ≡ end → bs ≡ []
unfolding start
nothing_left p [] = λ e. refl
nothing_left p (b ∷ bs) = λ e. absurd (never_end (p b) _ _ (λ e. cc)
    (never_end (eqb b 40) _ _ (λ e. cc) (never_end (eqb b 41) _ _ (λ e. cc) (never_end (eqb b 35) _ _ (λ e. cc)
    (never_end (eqb b 45) _ _ (dash_goes_on bs) (λ e. cc))))) e)

pub ends_at_the_end : (l : List ℕ) (at : ℕ) (r : Lexeme) → r ≡ lexeme_of l at → r.token ≡ End → r.next ≡ length l
unfolding lexeme_of lexeme next
ends_at_the_end l at r e f =
    ap (λ (x : Lexeme). x.next) (e ∙ ap (lexeme l (skip (drop at l))) (next_is_end l at r e f))
    ∙ ap (offset l) (nothing_left is_letter (skip (drop at l)) (next_is_end l at r e f)) ∙ omega arith
