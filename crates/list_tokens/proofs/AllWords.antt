-- No word of a line is left out: a line of at most 200 bytes has at most 100 words, since each has a byte and all but the last a space behind
-- it. By induction on the room for words. And spaces do not matter. Assumes nothing.
use mathlib.Core.Path.{◌≡◌, refl, sym, ap, ◌∙◌}
use mathlib.Core.Bool.{Bool, true, false, cond, not, and-eq-true_iff}
use mathlib.Core.List.{List, [], ◌∷◌, ◌++◌, map}
use Rattle.std.specs.List.{list_all}
use Prim.Native.Nat.{ℕ, zero, suc, ◌+◌, ◌*◌, ◌≤◌}
use native.Mathlib.Omega.{arith}
use lib.ListN.{length}
use lib.Dec.{eqb}
use borrow.Author.Tests.{eq-eqb, ne_eqb, eqb-true, both_ways}
use Rattle.sort_text.specs.Tokens.{run, past, skip}
use Rattle.sort_text.specs.Reading.{max_line}
use Rattle.sort_text.proofs.Suffix.{skip_suffix, suffix_length}
use Rattle.list_tokens.specs.Tokens.{in_word, token_of, tokens_from, most_words, tokens_of}

-- a space in front
pub space_before : (m : ℕ) (bs : List ℕ) → tokens_from m (32 ∷ bs) ≡ tokens_from m bs
unfolding tokens_from skip past
space_before zero bs = refl
space_before (suc m) bs = refl

none_without_bytes : (m : ℕ) → tokens_from m [] ≡ []
unfolding tokens_from skip past
none_without_bytes zero = refl
none_without_bytes (suc m) = refl

-- more room gives no other words
module _ (m k : ℕ) (same : (ds : List ℕ) → length ds ≤ 2 * m → tokens_from (m + k) ds ≡ tokens_from m ds) where
  after_a_word : (cs : List ℕ) → length cs ≤ suc (2 * m) → tokens_from (m + k) (past in_word cs) ≡ tokens_from m (past in_word cs)
  unfolding past
  after_a_word [] l = same [] (omega arith)
  after_a_word (b ∷ cs) l = go (eqb b 32) refl (after_a_word cs (omega (arith, l)))
    where
      go : (t : Bool) → eqb b 32 ≡ t → tokens_from (m + k) (past in_word cs) ≡ tokens_from m (past in_word cs)
          → tokens_from (m + k) (cond (not t) (past in_word cs) (b ∷ cs)) ≡ tokens_from m (cond (not t) (past in_word cs) (b ∷ cs))
      go true e h =
          let f : b ≡ 32 = eqb-true b 32 e in
          ap (λ (x : ℕ). tokens_from (m + k) (x ∷ cs)) f
          ∙ (space_before (m + k) cs ∙ (same cs (omega (arith, l)) ∙ (sym (space_before m cs) ∙ ap (λ (x : ℕ). tokens_from m (x ∷ cs)) (sym f))))
      go false e h = h

  from_a_word : (bs cs : List ℕ) → skip bs ≡ cs → length cs ≤ 2 * suc m → ((b : ℕ) (ds : List ℕ) → cs ≡ b ∷ ds → in_word b ≡ true)
      → tokens_from (suc (m + k)) bs ≡ tokens_from (suc m) bs
  unfolding past tokens_from
  from_a_word bs [] e l w = rw e refl
  from_a_word bs (b ∷ cs) e l w =
      rw (e, ne_eqb (suc (length cs)) 0 (λ z. omega (arith, z)), w b cs refl)
      (ap (λ ts. token_of (run in_word (b ∷ cs)) ∷ ts) (after_a_word cs (omega (arith, l))))

-- what is left without spaces begins a word
word_first : (bs : List ℕ) (b : ℕ) (ds : List ℕ) → skip bs ≡ b ∷ ds → in_word b ≡ true
unfolding skip past
word_first [] b ds e = cc
word_first (c ∷ cs) b ds e = go (eqb 32 c) refl e (word_first cs b ds)
  where
    go : (t : Bool) → eqb 32 c ≡ t → cond t (past (eqb 32) cs) (c ∷ cs) ≡ b ∷ ds → (past (eqb 32) cs ≡ b ∷ ds → in_word b ≡ true) → in_word b ≡ true
    go true f e h = h e
    go false f e h =
        let q : c ≡ b = cc in
        let n : (b ≡ 32 → ⊥) = λ z. both_ways (eqb 32 c) f (eq-eqb 32 c (sym (q ∙ z))) in
        rw (ne_eqb b 32 n) refl

few_words : (m k : ℕ) (bs : List ℕ) → length bs ≤ 2 * m → tokens_from (m + k) bs ≡ tokens_from m bs
unfolding tokens_from
few_words zero k [] l = none_without_bytes (zero + k) ∙ sym (none_without_bytes zero)
few_words zero k (b ∷ bs) l = absurd (omega (arith, l))
few_words (suc m) k bs l =
    let e : suc m + k ≡ suc (m + k) = omega arith in
    ap (λ (n : ℕ). tokens_from n bs) e
    ∙ from_a_word m k (few_words m k) bs (skip bs) refl (omega (arith, l, suffix_length (skip bs) bs (skip_suffix bs))) (word_first bs)

pub no_word_is_left_out : (line : List ℕ) → length line ≤ max_line → (more : ℕ) → tokens_from (most_words + more) line ≡ tokens_of line
unfolding tokens_of
no_word_is_left_out line l more = few_words 100 more line l

-- Words with a space behind each are read one by one, in their order.
pub spaced : List (List ℕ) → List ℕ
spaced [] = []
spaced (w ∷ ws) = w ++ (32 ∷ spaced ws)

pub is_word : List ℕ → Bool
is_word [] = false
is_word (b ∷ bs) = list_all in_word (b ∷ bs)

run_of_word : (w r : List ℕ) → list_all in_word w ≡ true → (run in_word (w ++ (32 ∷ r)) ≡ w) × (past in_word (w ++ (32 ∷ r)) ≡ 32 ∷ r)
unfolding run past
run_of_word [] r h = (refl, refl)
run_of_word (b ∷ bs) r h =
    let d = (and-eq-true_iff (in_word b) (list_all in_word bs)).0 h in
    let e = run_of_word bs r d.1 in
    (rw d.0 (ap (λ cs. b ∷ cs) e.0), rw d.0 e.1)

not_skipped : (b : ℕ) (bs : List ℕ) → in_word b ≡ true → skip (b ∷ bs) ≡ b ∷ bs
unfolding skip past
not_skipped b bs h = go (eqb 32 b) refl
  where
    go : (t : Bool) → eqb 32 b ≡ t → cond t (past (eqb 32) bs) (b ∷ bs) ≡ b ∷ bs
    go true e = absurd (both_ways (in_word b) (let q : b ≡ 32 = sym (eqb-true 32 b e) in rw q refl) h)
    go false e = refl

one_word : (m : ℕ) (w r : List ℕ) → is_word w ≡ true → tokens_from (suc m) (w ++ (32 ∷ r)) ≡ token_of w ∷ tokens_from m r
unfolding tokens_from is_word
one_word m [] r h = absurd cc
one_word m (b ∷ bs) r h =
    let d = (and-eq-true_iff (in_word b) (list_all in_word bs)).0 h in
    let e = run_of_word (b ∷ bs) r h in
    rw (not_skipped b (bs ++ (32 ∷ r)) d.0, ne_eqb (suc (length (bs ++ (32 ∷ r)))) 0 (λ z. omega (arith, z)), e.0, e.1)
    (ap (λ ts. token_of (b ∷ bs) ∷ ts) (space_before m r))

pub words_between_spaces_are_read_in_order : (ws : List (List ℕ)) (more : ℕ) → list_all is_word ws ≡ true
    → tokens_from (length ws + more) (spaced ws) ≡ map token_of ws
unfolding spaced
words_between_spaces_are_read_in_order [] more h = none_without_bytes (0 + more)
words_between_spaces_are_read_in_order (w ∷ ws) more h =
    let d = (and-eq-true_iff (is_word w) (list_all is_word ws)).0 h in
    let e : length (w ∷ ws) + more ≡ suc (length ws + more) = omega arith in
    ap (λ (n : ℕ). tokens_from n (w ++ (32 ∷ spaced ws))) e
    ∙ (one_word (length ws + more) w (spaced ws) d.0 ∙ ap (λ ts. token_of w ∷ ts) (words_between_spaces_are_read_in_order ws more d.1))
