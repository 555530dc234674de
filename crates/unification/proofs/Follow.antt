-- Following bindings. What holds at an end, and at a variable when it holds at what the variable is bound to, holds of every place and the end that it is
-- followed to. By induction on the depth. Assumes nothing.
use mathlib.Core.Path.{◌≡◌, refl, ap, sym, ◌∙◌, subst}
use mathlib.Core.Option.{Option, none, some}
use Prim.Native.Nat.{ℕ, zero, suc}
use Rattle.resolved_sort.proofs.Reached.{no_confusion}
use Rattle.unification.specs.Term.{Shape, variable, over}
use Rattle.unification.specs.Nodes.{Binds, binding}
use Rattle.unification.specs.Unify.{follow_bound, follow_at, follow}

module _ (shape : ℕ → Shape) (B : Binds) where
  -- no binding leads on
  abbrev IsEnd : ℕ → Type 0
  IsEnd p = (v : ℕ) → shape p ≡ variable v → binding B v ≡ none

  pub follow_holds : (R : ℕ → ℕ → Type 0) → ((p : ℕ) → IsEnd p → R p p) → ((p v r q : ℕ) → shape p ≡ variable v → binding B v ≡ some r → R r q → R p q)
      → (k p q : ℕ) → follow shape k B p ≡ some q → R p q
  unfolding follow
  follow_holds R end back zero p q e = no_confusion (cc)
  follow_holds R end back (suc k) p q e = go (shape p) refl e (λ r. follow_holds R end back k r q)
    where
      here : IsEnd p → some p ≡ some q → R p q
      here i e = let z : p ≡ q = cc in subst (R p) z (end p i)

      bound : (o : Option ℕ) (v : ℕ) → shape p ≡ variable v → binding B v ≡ o
          → follow_bound shape o p (follow shape k B) ≡ some q → ((r : ℕ) → follow shape k B r ≡ some q → R r q)
          → R p q
      bound none v s b e ih = here (λ u t. let z : v ≡ u = cc in ap (binding B) (sym z) ∙ b) e
      bound (some r) v s b e ih = back p v r q s b (ih r e)

      go : (s : Shape) → shape p ≡ s → follow_at shape s B p (follow shape k B) ≡ some q → ((r : ℕ) → follow shape k B r ≡ some q → R r q) → R p q
      go (variable v) s e ih = bound (binding B v) v s refl e ih
      go (over h ps) s e ih = here (λ u t. no_confusion (cc)) e

  -- following ends at a free variable or at no variable
  pub follow_end : (k p q v : ℕ) → follow shape k B p ≡ some q → shape q ≡ variable v → binding B v ≡ none
  follow_end k p q v e s = follow_holds (λ x y. IsEnd y) (λ x i. i) (λ x u r y t b i. i) k p q e v s

  -- the end is one of the places that bindings name, where the place is
  pub follow_names : (P : ℕ → Type 0) → ((v q : ℕ) → binding B v ≡ some q → P q) → (k p q : ℕ) → P p → follow shape k B p ≡ some q → P q
  follow_names P named k p q x e = follow_holds (λ x y. P x → P y) (λ x i h. h) (λ x u r y t b i h. i (named u r b)) k p q e x
