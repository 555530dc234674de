-- What was read before the unread end of a line, as bytes: other bytes after it make it a line that is a sort. The tokens before the unread
-- end keep their bytes whatever follows, if no letter does; so with a space and the rest of a sort that begins with the same tokens the line
-- has the tokens of that sort, and the reader stops nowhere. Assumes nothing.
use mathlib.Core.Path.{◌≡◌, refl, sym, ◌∙◌, ap, ap₂, subst}
use mathlib.Core.Bool.{Bool, true, false, cond, not}
use mathlib.Core.List.{List, [], ◌∷◌, ◌++◌, append_assoc, append-nil}
use Prim.Native.Nat.{ℕ, zero, suc}
use native.Mathlib.Omega.{arith}
use lib.Dec.{eqb}
use borrow.Author.Tests.{eqb-true}
use Rattle.resolved_sort.specs.Tree.{Tree}
use Rattle.sort_text.specs.Tokens.{is_letter, NextToken, end, word, open_bracket, close_bracket, hash, arrow, bad}
use Rattle.sort_text.specs.Tokens.{run, past, skip, dash, start, next_at, next}
use Rattle.sort_text.specs.Parse.{Parsed, parsed, stuck, line}
use Rattle.sort_text.specs.Grammar.{LineOf}
use Rattle.sort_text.specs.CannotFollow.{bare, beyond, after_tokens, SameTokens, BeginsASort}
use Rattle.sort_text.proofs.Suffix.{run_past}
use Rattle.sort_text.proofs.Grammar.{line_derived}
use Rattle.sort_text.proofs.Exactly.{line_exactly}
use Rattle.sort_text.proofs.RoundTrip.{no_letter, next_word}
use Rattle.sort_text.proofs.CannotFollow.{rebuilt, IsToken, AllTokens, both_is, same_refl, same_fewer, same_append, run_is_letters, spaced}
use Rattle.sort_text.proofs.CannotFollow.{next_open, next_close, next_hash, next_arrow, stop, stops_at_the_first_token_that_cannot_follow}

-- what may follow a token
abbrev Apart : NextToken → List ℕ → Type 0
Apart end ds = Unit {0}
Apart (word w bs) ds = no_letter ds ≡ true
Apart (open_bracket bs) ds = Unit {0}
Apart (close_bracket bs) ds = Unit {0}
Apart (hash bs) ds = Unit {0}
Apart (arrow bs) ds = Unit {0}
Apart bad ds = Unit {0}

no_letter_front : (f rs ds : List ℕ) → no_letter (f ++ rs) ≡ true → no_letter ds ≡ true → no_letter (f ++ ds) ≡ true
no_letter_front [] rs ds h n = n
no_letter_front (b ∷ f) rs ds h n = h

apart_front : (n : NextToken) (f rs ds : List ℕ) → Apart n (f ++ rs) → no_letter ds ≡ true → Apart n (f ++ ds)
apart_front end f rs ds h n = tt
apart_front (word w bs) f rs ds h n = no_letter_front f rs ds h n
apart_front (open_bracket bs) f rs ds h n = tt
apart_front (close_bracket bs) f rs ds h n = tt
apart_front (hash bs) f rs ds h n = tt
apart_front (arrow bs) f rs ds h n = tt
apart_front bad f rs ds h n = tt

-- the bytes of the next token, with the spaces before it
record Spelt (bs : List ℕ) (n : NextToken) : Type 0 where
  front : List ℕ
  whole : bs ≡ front ++ beyond n
  apart : Apart n (beyond n)
  again : (ds : List ℕ) → Apart n ds → next is_letter (front ++ ds) ≡ rebuilt (bare n) ds

past_no_letter : (bs : List ℕ) → no_letter (past is_letter bs) ≡ true
unfolding past
past_no_letter [] = refl
past_no_letter (b ∷ bs) = go (past_no_letter bs) (is_letter b) refl
  where
    go : no_letter (past is_letter bs) ≡ true → (t : Bool) → is_letter b ≡ t → no_letter (cond t (past is_letter bs) (b ∷ bs)) ≡ true
    go h true e = h
    go h false e = ap not e

dash_spelt : (b : ℕ) (bs : List ℕ) → b ≡ 45 → IsToken (dash bs) → Spelt (b ∷ bs) (dash bs)
dash_spelt b [] e t = absurd t
dash_spelt b (c ∷ bs) e t = go (eqb c 62) refl t
  where
    go : (x : Bool) → eqb c 62 ≡ x → IsToken (cond x (arrow bs) bad) → Spelt (b ∷ (c ∷ bs)) (cond x (arrow bs) bad)
    go true f u = record {
      front = b ∷ (c ∷ []);
      whole = refl;
      apart = tt;
      again = λ ds a. ap₂ (λ x y. next is_letter (x ∷ (y ∷ ds))) e (eqb-true c 62 f) ∙ next_arrow ds;
    }
    go false f u = absurd u

start_spelt : (b : ℕ) (bs : List ℕ) → eqb 32 b ≡ false → IsToken (start is_letter b bs) → Spelt (b ∷ bs) (start is_letter b bs)
unfolding start
start_spelt b bs s t = go (is_letter b) refl (eqb b 40) refl (eqb b 41) refl (eqb b 35) refl (eqb b 45) refl t
  where
    go : (l : Bool) → is_letter b ≡ l → (o : Bool) → eqb b 40 ≡ o → (c : Bool) → eqb b 41 ≡ c → (h : Bool) → eqb b 35 ≡ h → (d : Bool) → eqb b 45 ≡ d
        → IsToken (cond l (word (b ∷ run is_letter bs) (past is_letter bs)) (cond o (open_bracket bs)
        (cond c (close_bracket bs) (cond h (hash bs) (cond d (dash bs) bad)))))
        → Spelt (b ∷ bs) (cond l (word (b ∷ run is_letter bs) (past is_letter bs)) (cond o (open_bracket bs)
        (cond c (close_bracket bs) (cond h (hash bs) (cond d (dash bs) bad)))))
    go true l o ol c cl h hl d dl u = record {
      front = b ∷ run is_letter bs;
      whole = ap (λ x. b ∷ x) (run_past is_letter bs);
      apart = past_no_letter bs;
      again = λ ds n. next_word b (run is_letter bs) ds s l (run_is_letters bs) n;
    }
    go false l true o c cl h hl d dl u =
        record { front = b ∷ []; whole = refl; apart = tt; again = λ ds a. ap (λ x. next is_letter (x ∷ ds)) (eqb-true b 40 o) ∙ next_open ds }
    go false l false o true c h hl d dl u =
        record { front = b ∷ []; whole = refl; apart = tt; again = λ ds a. ap (λ x. next is_letter (x ∷ ds)) (eqb-true b 41 c) ∙ next_close ds }
    go false l false o false c true h d dl u =
        record { front = b ∷ []; whole = refl; apart = tt; again = λ ds a. ap (λ x. next is_letter (x ∷ ds)) (eqb-true b 35 h) ∙ next_hash ds }
    go false l false o false c false h true d u = dash_spelt b bs (eqb-true b 45 d) u
    go false l false o false c false h false d u = absurd u

space_spelt : (b : ℕ) (bs : List ℕ) (n : NextToken) → 32 ≡ b → Spelt bs n → Spelt (b ∷ bs) n
space_spelt b bs n e s = record {
  front = b ∷ s.front;
  whole = ap (λ x. b ∷ x) s.whole;
  apart = s.apart;
  again = λ ds a. ap (λ x. next is_letter (x ∷ (s.front ++ ds))) (sym e) ∙ (spaced (s.front ++ ds) ∙ s.again ds a);
}

next_spelt : (bs : List ℕ) → IsToken (next is_letter bs) → Spelt bs (next is_letter bs)
unfolding next skip past
next_spelt [] t = absurd t
next_spelt (b ∷ bs) t = go (next_spelt bs) (eqb 32 b) refl t
  where
    go : (IsToken (next_at is_letter (skip bs)) → Spelt bs (next_at is_letter (skip bs))) → (x : Bool) → eqb 32 b ≡ x
        → IsToken (next_at is_letter (cond x (skip bs) (b ∷ bs))) → Spelt (b ∷ bs) (next_at is_letter (cond x (skip bs) (b ∷ bs)))
    go h true e u = space_spelt b bs _ (eqb-true 32 b e) (h u)
    go h false e u = start_spelt b bs e u

bare_rebuilt : (n : NextToken) (ds : List ℕ) → bare (rebuilt (bare n) ds) ≡ bare n
bare_rebuilt end ds = refl
bare_rebuilt (word w bs) ds = refl
bare_rebuilt (open_bracket bs) ds = refl
bare_rebuilt (close_bracket bs) ds = refl
bare_rebuilt (hash bs) ds = refl
bare_rebuilt (arrow bs) ds = refl
bare_rebuilt bad ds = refl

beyond_rebuilt : (n : NextToken) → IsToken n → (ds : List ℕ) → beyond (rebuilt (bare n) ds) ≡ ds
beyond_rebuilt end t ds = absurd t
beyond_rebuilt (word w bs) t ds = refl
beyond_rebuilt (open_bracket bs) t ds = refl
beyond_rebuilt (close_bracket bs) t ds = refl
beyond_rebuilt (hash bs) t ds = refl
beyond_rebuilt (arrow bs) t ds = refl
beyond_rebuilt bad t ds = absurd t

-- the bytes of the first i tokens
record Kept (i : ℕ) (bs : List ℕ) : Type 0 where
  front : List ℕ
  whole : bs ≡ front ++ after_tokens i bs
  same : (ds : List ℕ) → no_letter ds ≡ true → SameTokens i bs (front ++ ds)
  goes_on : (ds : List ℕ) → no_letter ds ≡ true → after_tokens i (front ++ ds) ≡ ds

module _ (i : ℕ) (bs : List ℕ) (t : IsToken (next is_letter bs)) (s : Spelt bs (next is_letter bs)) (k : Kept i (beyond (next is_letter bs))) where
  next_kept : (ds : List ℕ) → no_letter ds ≡ true
      → next is_letter ((s.front ++ k.front) ++ ds) ≡ rebuilt (bare (next is_letter bs)) (k.front ++ ds)
  next_kept ds n =
      ap (next is_letter) (append_assoc s.front k.front ds)
      ∙ s.again (k.front ++ ds) (apart_front (next is_letter bs) k.front (after_tokens i (beyond (next is_letter bs))) ds
      (subst (Apart (next is_letter bs)) k.whole s.apart) n)

  beyond_kept : (ds : List ℕ) → no_letter ds ≡ true → beyond (next is_letter ((s.front ++ k.front) ++ ds)) ≡ k.front ++ ds
  beyond_kept ds n = ap beyond (next_kept ds n) ∙ beyond_rebuilt (next is_letter bs) t (k.front ++ ds)

  bare_kept : (ds : List ℕ) → no_letter ds ≡ true → bare (next is_letter bs) ≡ bare (next is_letter ((s.front ++ k.front) ++ ds))
  bare_kept ds n = sym (ap bare (next_kept ds n) ∙ bare_rebuilt (next is_letter bs) (k.front ++ ds))

  one_more : Kept (suc i) bs
  unfolding SameTokens after_tokens
  one_more = record {
    front = s.front ++ k.front;
    whole = s.whole ∙ (ap (λ x. s.front ++ x) k.whole ∙ sym (append_assoc s.front k.front (after_tokens i (beyond (next is_letter bs)))));
    same = λ ds n. (bare_kept ds n, subst (SameTokens i (beyond (next is_letter bs))) (sym (beyond_kept ds n)) (k.same ds n));
    goes_on = λ ds n. ap (after_tokens i) (beyond_kept ds n) ∙ k.goes_on ds n;
  }

kept : (i : ℕ) (bs : List ℕ) → AllTokens i bs → Kept i bs
unfolding AllTokens SameTokens after_tokens
kept zero bs a = record { front = []; whole = refl; same = λ ds n. tt; goes_on = λ ds n. refl }
kept (suc i) bs a = one_more i bs a.0 (next_spelt bs a.0) (kept i (beyond (next is_letter bs)) a.1)

-- spaces at the front
record Spaces (bs rs : List ℕ) : Type 0 where
  front : List ℕ
  whole : bs ≡ front ++ rs
  apart : (ds : List ℕ) → no_letter ds ≡ true → no_letter (front ++ ds) ≡ true
  skipped : (ds : List ℕ) → next is_letter (front ++ ds) ≡ next is_letter ds

no_spaces : (bs : List ℕ) → Spaces bs bs
no_spaces bs = record { front = []; whole = refl; apart = λ ds n. n; skipped = λ ds. refl }

spaces : (bs : List ℕ) → Spaces bs (skip bs)
unfolding skip past
spaces [] = no_spaces []
spaces (b ∷ bs) = go (spaces bs) (eqb 32 b) refl
  where
    go : Spaces bs (skip bs) → (x : Bool) → eqb 32 b ≡ x → Spaces (b ∷ bs) (cond x (skip bs) (b ∷ bs))
    go s true e = record {
      front = b ∷ s.front;
      whole = ap (λ x. b ∷ x) s.whole;
      apart = λ ds n. ap (λ x. not (is_letter x)) (sym (eqb-true 32 b e));
      skipped = λ ds. ap (λ x. next is_letter (x ∷ (s.front ++ ds))) (sym (eqb-true 32 b e)) ∙ (spaced (s.front ++ ds) ∙ s.skipped ds);
    }
    go s false e = no_spaces (b ∷ bs)

-- lines with the same tokens
same_next_same : (j : ℕ) (bs cs : List ℕ) → next is_letter bs ≡ next is_letter cs → SameTokens j bs cs
unfolding SameTokens
same_next_same zero bs cs e = tt
same_next_same (suc j) bs cs e =
    (ap bare e, subst (λ n. SameTokens j (beyond (next is_letter bs)) (beyond n)) e (same_refl j (beyond (next is_letter bs))))

same_both_ways : (i : ℕ) (bs xs ys : List ℕ) → SameTokens i bs xs → SameTokens i bs ys → SameTokens i xs ys
unfolding SameTokens
same_both_ways zero bs xs ys a b = tt
same_both_ways (suc i) bs xs ys a b = (sym a.0 ∙ b.0, same_both_ways i _ _ _ a.1 b.1)

all_same : (i j : ℕ) (xs ys : List ℕ) → SameTokens i xs ys → SameTokens j (after_tokens i xs) (after_tokens i ys) → SameTokens j xs ys
all_same i j xs ys a b =
    same_fewer j i xs ys (subst (λ m. SameTokens m xs ys) (omega (arith, both_is i j, both_is j i)) (same_append i j xs ys a b))

record IsASort (xs : List ℕ) : Type 0 where
  tree : Tree
  derived : LineOf xs tree []

-- A line with the tokens of a sort is one: the reader stops nowhere.
tokens_of_a_sort : (xs ys : List ℕ) (t : Tree) → LineOf ys t [] → ((j : ℕ) → SameTokens j xs ys) → IsASort xs
tokens_of_a_sort xs ys t h a = go (line xs) refl
  where
    go : (p : Parsed) → line xs ≡ p → IsASort xs
    go (parsed u vs) e = let d = line_derived xs vs u e in record { tree = u; derived = (d.0, d.1, d.2, refl) }
    go (stuck vs) e = let x = stops_at_the_first_token_that_cannot_follow xs vs e in absurd (x.cannot_follow (ys, t, h, a (suc x.before)))

-- What was read before the unread end is the beginning of a line that is a sort.
pub read_before_the_unread_end : (bs cs : List ℕ) → line bs ≡ stuck cs → BeginsASort bs cs
read_before_the_unread_end bs cs e =
    let x = stop bs cs e in
    let i = x.shown.before in
    let y = x.shown.can_begin in
    let k = kept i bs x.tokens in
    let s = spaces (after_tokens i bs) in
    let rest : List ℕ = 32 ∷ after_tokens i y.0 in
    let ds : List ℕ = s.front ++ rest in
    let n : no_letter ds ≡ true = s.apart rest refl in
    let xs : List ℕ = k.front ++ ds in
    let f : SameTokens i xs y.0 = same_both_ways i bs xs y.0 (k.same ds n) y.3 in
    let g : next is_letter ds ≡ next is_letter (after_tokens i y.0) = s.skipped rest ∙ spaced (after_tokens i y.0) in
    let h = tokens_of_a_sort xs y.0 y.1 y.2 (λ j. all_same i j xs y.0 f
    (subst (λ z. SameTokens j z (after_tokens i y.0)) (sym (k.goes_on ds n)) (same_next_same j ds (after_tokens i y.0) g))) in
    record {
      front = k.front ++ s.front;
      after = rest;
      whole = k.whole ∙ (ap (λ z. k.front ++ z) (s.whole ∙ ap (λ z. s.front ++ z) (sym x.shown.starts_there))
          ∙ sym (append_assoc k.front s.front cs));
      tree = h.tree;
      is_a_sort = subst (λ z. LineOf z h.tree []) (sym (append_assoc k.front s.front rest)) h.derived;
    }

-- A line that stopped too early is itself such a beginning.
pub stopped_too_early : (bs : List ℕ) → line bs ≡ stuck [] → (after : List ℕ) × (t : Tree) × (line (bs ++ after) ≡ parsed t [])
stopped_too_early bs e =
    let x = read_before_the_unread_end bs [] e in
    let w : x.front ≡ bs = sym (x.whole ∙ append-nil x.front) in
    (x.after, x.tree, subst (λ z. line (z ++ x.after) ≡ parsed x.tree []) w ((line_exactly (x.front ++ x.after) x.tree).1 x.is_a_sort))
