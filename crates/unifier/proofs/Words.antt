-- Bindings as words, and the trail: a binding is a word set, and undoing sets it free again. Assumes nothing.
use mathlib.Core.Path.{◌≡◌, refl, ap, sym, ◌∙◌}
use mathlib.Core.List.{List, [], ◌∷◌}
use mathlib.Core.Option.{none, some}
use mathlib.Core.Bool.{Bool, true, false, cond, and-eq-true_iff}
use Prim.Native.Nat.{ℕ, zero, suc, ◌+◌, ◌<◌, ◌≤◌}
use native.Mathlib.Omega.{arith}
use lib.ListN.{length, get_or, set, take}
use lib.Seq.{set-set, set-get_or, get_or-take}
use lib.Dec.{eqb}
use borrow.Author.Tests.{eqb-true, ne_eqb}
use Rattle.resolved_sort.proofs.Reached.{no_confusion}
use Rattle.unification.specs.Nodes.{is_place, free_word, Binds, binding, binding_of, binds_of}
use Rattle.unification.specs.NodeChecks.{binding_fine, bindings_fine}
use Rattle.unification.specs.Trail.{undo}
use Rattle.infer_nodes.proofs.Ways.{binding_word}

-- a word set is a binding
pub binds_set : (bs : List ℕ) (n v w : ℕ) → v < n → n ≤ length bs → (w ≡ free_word → ⊥) → binds_of (set bs v w) n ≡ set (binds_of bs n) v (some w)
unfolding binds_of
binds_set bs zero v w l m d = absurd (omega (arith, l))
binds_set [] (suc n) v w l m d = absurd (omega (arith, m))
binds_set (x ∷ bs) (suc n) zero w l m d = ap (λ b. cond b none (some w) ∷ binds_of bs n) (ne_eqb w free_word d)
binds_set (x ∷ bs) (suc n) (suc v) w l m d = ap (λ ys. binding_of x ∷ ys) (binds_set bs n v w (omega (arith, l)) (omega (arith, m)) d)

free_word_by : (w : ℕ) (b : Bool) → eqb w free_word ≡ b → cond b none (some w) ≡ none → w ≡ free_word
free_word_by w true e f = eqb-true w free_word e
free_word_by w false e f = no_confusion (cc)

-- a free variable's word
pub free_word_lem : (bs : List ℕ) (n v : ℕ) → v < n → binding (binds_of bs n) v ≡ none → get_or bs v 0 ≡ free_word
free_word_lem bs n v l f = free_word_by (get_or bs v 0) (eqb (get_or bs v 0) free_word) refl (sym (binding_word bs n v l) ∙ f)

-- setting it free again gives back what was there
pub freed : (bs : List ℕ) (n v w : ℕ) → v < n → binding (binds_of bs n) v ≡ none → set (set bs v w) v free_word ≡ bs
freed bs n v w l f = set-set bs v w free_word ∙ (ap (set bs v) (sym (free_word_lem bs n v l f)) ∙ set-get_or bs v 0)

-- bindings that name places
pub places_set : (n m : ℕ) (B : Binds) (v w : ℕ) → bindings_fine n m B ≡ true → is_place n m w ≡ true → bindings_fine n m (set B v (some w)) ≡ true
unfolding bindings_fine
places_set n m [] v w f p = f
places_set n m (b ∷ B) zero w f p = (and-eq-true_iff (is_place n m w) (bindings_fine n m B)).1 (
  p,
  ((and-eq-true_iff
      (binding_fine n m b) (bindings_fine n m B)).0 f).1,
)
places_set n m (b ∷ B) (suc v) w f p =
    let x = (and-eq-true_iff (binding_fine n m b) (bindings_fine n m B)).0 f in
    (and-eq-true_iff (binding_fine n m b) (bindings_fine n m (set B v (some w)))).1 (x.0, places_set n m B v w x.1 p)

-- undoing in two goes
pub undo_split : (ts : List ℕ) (base a b : ℕ) (bs : List ℕ) → undo ts base (a + b) bs ≡ undo ts base a (undo ts (base + a) b bs)
unfolding undo
undo_split ts base a zero bs = ap (λ (x : ℕ). undo ts base x bs) (let z : a + 0 ≡ a = omega arith in z)
undo_split ts base a (suc b) bs =
    ap (λ (x : ℕ). undo ts base x bs) (let z : a + suc b ≡ suc (a + b) = omega arith in z)
    ∙ (undo_split ts base a b (set bs (get_or ts (base + (a + b)) 0) free_word)
    ∙ ap (λ (x : ℕ). undo ts base a (undo ts (base + a) b (set bs (get_or ts x 0) free_word))) (let z : base + (a + b) ≡ base + a + b = omega arith in z))

-- undoing looks only at the trail's front
pub undo_front : (ts us : List ℕ) (base n c : ℕ) (bs : List ℕ) → base + n ≤ c → take c ts ≡ take c us → undo ts base n bs ≡ undo us base n bs
unfolding undo
undo_front ts us base zero c bs l e = refl
undo_front ts us base (suc n) c bs l e =
    let x : get_or ts (base + n) 0 ≡ get_or us (base + n) 0 = sym (get_or-take c ts (base + n) 0 (omega (arith, l))) ∙
    (ap (λ xs. get_or xs (base + n) 0) e ∙ get_or-take c us (base + n) 0 (omega (arith, l))) in
    ap (λ (y : ℕ). undo ts base n (set bs y free_word)) x ∙ undo_front ts us base n c (set bs (get_or us (base + n) 0) free_word) (omega (arith, l)) e
