-- The test that all sorts are materializable into their join, and the heads that are stored, one sort after another. Assumes nothing.
use mathlib.Core.Path.{◌≡◌, refl, sym, ◌∙◌, ap, ap₂}
use mathlib.Core.Bool.{Bool, true, false, ◌&&◌, and-eq-true_iff}
use mathlib.Core.List.{List, [], ◌∷◌}
use Prim.Native.Nat.{ℕ, zero, suc, ◌+◌, ◌<◌, ◌≤◌}
use native.Mathlib.Omega.{arith}
use lib.ListN.{length, get_or, drop, set, drop_of_length-le}
use lib.Seq.{sets}
use borrow.Author.Count.{below_more}
use Rattle.resolved_sort.specs.Order.{distance, materializable}
use Rattle.resolved_sort.specs.Entries.{tree_at}
use Rattle.resolved_sort.specs.Rows.{AllBelow}
use Rattle.unification.specs.Related.{each}
use Rattle.unification.specs.Making.{Lent}
use Rattle.inference.specs.Search.{head_steps, all_into}
use Rattle.search_join.proofs.Lists.{below_at, one_left}

-- a sort of the list into another
abbrev pub Into : List ℕ → ℕ → ℕ → ℕ → Bool
Into ws n j s = materializable (tree_at ws n s) (tree_at ws n j)

module _ (W : Lent) (j : ℕ) where
  all_in : (xs : List ℕ) → ((i : ℕ) → i < length xs → Into W.sorts W.lengths.sorts j (get_or xs i 0) ≡ true) → all_into W j xs ≡ true
  all_in [] h = refl
  all_in (x ∷ xs) h =
      (and-eq-true_iff (Into W.sorts W.lengths.sorts j x) (all_into W j xs)).1 (h 0 (omega arith), all_in xs (λ i l. h (suc i) (omega (arith, l))))

  one_out : (xs : List ℕ) (i : ℕ) → i < length xs → Into W.sorts W.lengths.sorts j (get_or xs i 0) ≡ false → all_into W j xs ≡ false
  one_out [] i l e = absurd (omega (arith, l))
  one_out (x ∷ xs) zero l e = ap (λ b. b && all_into W j xs) e
  one_out (x ∷ xs) (suc i) l e = ap (λ b. Into W.sorts W.lengths.sorts j x && b)
      (one_out xs i (omega (arith, l)) e) ∙ and_false (Into W.sorts W.lengths.sorts j x)
    where
      and_false : (b : Bool) → b && false ≡ false
      and_false true = refl
      and_false false = refl

-- the head distance of a sort to another, and those of sorts
abbrev pub head_to : List ℕ → ℕ → ℕ → ℕ → ℕ
head_to ws n j s = head_steps (distance true (tree_at ws n s) (tree_at ws n j))

abbrev pub heads_to : List ℕ → ℕ → ℕ → List ℕ → List ℕ
heads_to ws n j ss = each (head_to ws n j) ss

-- those from the i-th on, stored from p + i on
abbrev pub stored_from : List ℕ → ℕ → ℕ → List ℕ → List ℕ → ℕ → ℕ → List ℕ
stored_from ws n j ids sc p i = sets sc (p + i) (heads_to ws n j (drop i ids))

module _ (ws : List ℕ) (n : ℕ) (ids : List ℕ) (j : ℕ) (below : AllBelow n ids) (less : j < n) where
  module _ (i : ℕ) (h : i < length ids) (s : ℕ) (es : s ≡ get_or ids i 0) where
    pub two_of_list : (s < n) × (j < n)
    two_of_list = rw es (below_at n ids below i h, less)

    module _ (b : Bool) (eb : b ≡ Into ws n j s) where
      at_word : Into ws n j (get_or ids i 0) ≡ b
      at_word = ap (Into ws n j) (sym es) ∙ sym eb

      pub one_is_not : b ≡ false → (W : Lent) → (W.sorts ≡ ws) × (W.lengths.sorts ≡ n) → false ≡ all_into W j ids
      one_is_not f W e =
          sym (one_out W j ids i h (ap₂ (λ (xs : List ℕ) (m : ℕ). Into xs m j (get_or ids i 0)) e.0 e.1 ∙ (at_word ∙ f)))

      pub one_more_is : b ≡ true → ((x : ℕ) → x < i → Into ws n j (get_or ids x 0) ≡ true) → (x : ℕ)
          → x < i + 1 → Into ws n j (get_or ids x 0) ≡ true
      one_more_is f g = below_more _ _ g (at_word ∙ f)

  pub all_are : (i : ℕ) → length ids ≤ i → ((x : ℕ) → x < i → Into ws n j (get_or ids x 0) ≡ true) → (W : Lent)
      → (W.sorts ≡ ws) × (W.lengths.sorts ≡ n) → true ≡ all_into W j ids
  all_are i h g W e =
      sym (all_in W j ids (λ x l. ap₂ (λ (xs : List ℕ) (m : ℕ). Into xs m j (get_or ids x 0)) e.0 e.1 ∙ g x (omega (arith, l, h))))

-- stored one after another
module _ (ws : List ℕ) (n : ℕ) (ids : List ℕ) (j : ℕ) (sc₀ : List ℕ) (p : ℕ) where
  module _ (sc : List ℕ) (i : ℕ) (inv : sets sc₀ p (heads_to ws n j ids) ≡ stored_from ws n j ids sc p i) where
    pub heads_next : i < length ids → (s : ℕ) → s ≡ get_or ids i 0 → (h : ℕ) → h ≡ head_to ws n j s → (sc' : List ℕ) → sc' ≡ set sc (p + i) h
        → sets sc₀ p (heads_to ws n j ids) ≡ stored_from ws n j ids sc' p (i + 1)
    heads_next l s es h eh sc' e =
        let rest : List ℕ = heads_to ws n j (drop (i + 1) ids) in
        let further : suc (p + i) ≡ p + (i + 1) = omega arith in
        inv
        ∙ (ap (λ ss. sets sc (p + i) (heads_to ws n j ss)) (one_left ids i l)
        ∙ (ap (λ (x : ℕ). sets (set sc (p + i) x) (suc (p + i)) rest) (sym (eh ∙ ap (head_to ws n j) es))
        ∙ (ap (λ (q : ℕ). sets (set sc (p + i) h) q rest) further ∙ ap (λ xs. sets xs (p + (i + 1)) rest) (sym e))))

    pub heads_end : length ids ≤ i → sc ≡ sets sc₀ p (heads_to ws n j ids)
    heads_end l = sym (inv ∙ ap (λ ss. sets sc (p + i) (heads_to ws n j ss)) (drop_of_length-le ids l))
