-- Bindings and the words that hold them, each from the other: a word is 65,535 for a free variable, and no place is that number. By induction on the
-- variables. Assumes nothing.
use mathlib.Core.Path.{◌≡◌, refl, ap, ap₂, sym}
use mathlib.Core.List.{List, [], ◌∷◌, ◌++◌}
use mathlib.Core.Option.{Option, none, some}
use mathlib.Core.Bool.{Bool, true, false, cond, and-eq-true_iff}
use Prim.Native.Nat.{ℕ, zero, suc, ◌<◌, ◌≤◌}
use native.Mathlib.Omega.{arith}
use lib.ListN.{length, take}
use lib.Dec.{eqb}
use borrow.Author.Tests.{eqb-true, ne_eqb}
use Rattle.unification.specs.Nodes.{is_place, free_word, Binds, binding, binding_of, binds_of}
use Rattle.unification.specs.NodeChecks.{binding_fine, bindings_fine}
use Rattle.unification.specs.UnifyEntry.{binding_word, binding_words}

word_of_binding : (w : ℕ) → binding_word (binding_of w) ≡ w
word_of_binding w = go (eqb w free_word) refl
  where
    go : (b : Bool) → eqb w free_word ≡ b → binding_word (cond b none (some w)) ≡ w
    go true x = sym (eqb-true w free_word x)
    go false x = refl

pub words_of_binds : (bs : List ℕ) (v : ℕ) → v ≤ length bs → binding_words (binds_of bs v) ≡ take v bs
unfolding binding_words binds_of
words_of_binds bs zero l = refl
words_of_binds [] (suc v) l = absurd (omega (arith, l))
words_of_binds (w ∷ bs) (suc v) l = ap₂ (λ (x : ℕ) (xs : List ℕ). x ∷ xs) (word_of_binding w) (words_of_binds bs v (omega (arith, l)))

pub length_words : (C : Binds) → length (binding_words C) ≡ length C
unfolding binding_words
length_words [] = refl
length_words (o ∷ C) = ap suc (length_words C)

binding_of_word : (o : Option ℕ) → ((q : ℕ) → o ≡ some q → q < free_word) → binding_of (binding_word o) ≡ o
binding_of_word none h = refl
binding_of_word (some q) h = ap (λ b. cond b none (some q)) (ne_eqb q free_word (λ e. omega (arith, h q refl, e)))

-- whatever words follow them
pub binds_of_words : (C : Binds) (xs : List ℕ) → ((u q : ℕ) → binding C u ≡ some q → q < free_word) → binds_of (binding_words C ++ xs) (length C) ≡ C
unfolding binding_words binds_of
binds_of_words [] xs h = refl
binds_of_words (o ∷ C) xs h = ap₂ (λ (x : Option ℕ) (B : Binds). x ∷ B) (binding_of_word o (h 0)) (binds_of_words C xs (λ u. h (suc u)))

-- bindings that each name a place pass check 6
pub named_places_fine : (n m : ℕ) (B : Binds) → ((u q : ℕ) → binding B u ≡ some q → is_place n m q ≡ true) → bindings_fine n m B ≡ true
unfolding bindings_fine
named_places_fine n m [] h = refl
named_places_fine n m (o ∷ B) h = (and-eq-true_iff (binding_fine n m o) (bindings_fine n m B)).1 (go o (h 0), named_places_fine n m B (λ u. h (suc u)))
  where
    go : (o : Option ℕ) → ((q : ℕ) → o ≡ some q → is_place n m q ≡ true) → binding_fine n m o ≡ true
    go none h = refl
    go (some q) h = h q refl
