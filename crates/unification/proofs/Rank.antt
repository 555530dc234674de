-- The rank of a place: the longest way down from it through parts and bindings, cut at a depth. Where no way is as long as the depth, more depth changes
-- nothing, and so the rank is found from the parts or from what the variable is bound to. And binding a free variable leaves one fewer free. Assumes nothing.
use mathlib.Core.Path.{◌≡◌, refl, ap, sym, ◌∙◌}
use mathlib.Core.List.{List, [], ◌∷◌}
use mathlib.Core.Option.{Option, none, some}
use Prim.Native.Nat.{ℕ, zero, suc, ◌<◌, max}
use native.Mathlib.Omega.{arith}
use lib.ListN.{length, set}
use Rattle.resolved_sort.proofs.Reached.{no_confusion}
use Rattle.unification.specs.Term.{Head, Shape, variable, over}
use Rattle.unification.specs.Nodes.{Binds, binding}
use Rattle.unification.specs.Trail.{frees_at, frees}
use Rattle.unification.specs.Acyclic.{One, first, later}

abbrev pub highest : (ℕ → ℕ) → List ℕ → ℕ
highest g [] = 0
highest g (p ∷ ps) = max (suc (g p)) (highest g ps)

abbrev pub rank_bound : (ℕ → ℕ) → Option ℕ → ℕ
rank_bound g none = 0
rank_bound g (some q) = suc (g q)

abbrev pub rank_at : (ℕ → ℕ) → Binds → Shape → ℕ
rank_at g B (variable v) = rank_bound g (binding B v)
rank_at g B (over h ps) = highest g ps

-- the longest way down from p, cut at a depth
unfoldable pub rank : (ℕ → Shape) → ℕ → Binds → ℕ → ℕ
rank shape zero B p = 0
rank shape (suc k) B p = rank_at (rank shape k B) B (shape p)

-- no way down is as long as the depth
pub record Ranked (shape : ℕ → Shape) (w : ℕ) (B : Binds) : Type 0 where
  pub short : (p : ℕ) → rank shape w B p < w

-- each part is below the rank of its list, and functions that agree on each part agree on the list
highest_of_one : (g : ℕ → ℕ) (q : ℕ) (ps : List ℕ) → One q ps → g q < highest g ps
highest_of_one g q _ (first ps) = omega arith
highest_of_one g q _ (later p ps o) = omega (arith, highest_of_one g q ps o)

pub one_highest : (g : ℕ → ℕ) (ps : List ℕ) (q : ℕ) → One q ps → g q < highest g ps
one_highest g ps q o = highest_of_one g q ps o

pub highest_agree : (f g : ℕ → ℕ) (ps : List ℕ) → ((q : ℕ) → One q ps → f q ≡ g q) → highest f ps ≡ highest g ps
highest_agree f g [] h = refl
highest_agree f g (p ∷ ps) h = let a = h p (first ps) in let b = highest_agree f g ps (λ q o. h q (later p ps o)) in cc

stable : (shape : ℕ → Shape) (B : Binds) (k p : ℕ) → rank shape k B p < k → rank shape (suc k) B p ≡ rank shape k B p
unfolding rank
stable shape B zero p lt = absurd (omega arith)
stable shape B (suc k) p lt = go (shape p) lt (stable shape B k)
  where
    bound : (o : Option ℕ) → rank_bound (rank shape k B) o < suc k → ((q : ℕ) → rank shape k B q < k → rank shape (suc k) B q ≡ rank shape k B q)
        → rank_bound (rank shape (suc k) B) o ≡ rank_bound (rank shape k B) o
    bound none lt ih = refl
    bound (some q) lt ih = ap suc (ih q (omega arith))

    go : (s : Shape) → rank_at (rank shape k B) B s < suc k → ((q : ℕ) → rank shape k B q < k → rank shape (suc k) B q ≡ rank shape k B q)
        → rank_at (rank shape (suc k) B) B s ≡ rank_at (rank shape k B) B s
    go (variable v) lt ih = bound (binding B v) lt ih
    go (over h ps) lt ih = highest_agree (rank shape (suc k) B) (rank shape k B) ps (λ q o. ih q (omega (arith, lt, one_highest (rank shape k B) ps q o)))

-- the rank by its children
pub rank_eq : (shape : ℕ → Shape) (w : ℕ) (B : Binds) → Ranked shape w B → (p : ℕ) → rank shape w B p ≡ rank_at (rank shape w B) B (shape p)
unfolding rank
rank_eq shape w B A p = sym (stable shape B w p (A.short p))

pub rank_var : (shape : ℕ → Shape) (w : ℕ) (B : Binds) → Ranked shape w B → (p v q : ℕ) → shape p ≡ variable v
    → binding B v ≡ some q → rank shape w B p ≡ suc (rank shape w B q)
rank_var shape w B A p v q s l = rank_eq shape w B A p ∙ rw s (rw l)

pub rank_over : (shape : ℕ → Shape) (w : ℕ) (B : Binds) → Ranked shape w B → (p : ℕ) (h : Head) (ps : List ℕ)
    → shape p ≡ over h ps → rank shape w B p ≡ highest (rank shape w B) ps
rank_over shape w B A p h ps s = rank_eq shape w B A p ∙ rw s

pub frees_set : (B : Binds) (v r : ℕ) → v < length B → binding B v ≡ none → suc (frees (set B v (some r))) ≡ frees B
frees_set [] v r lt free = absurd (omega arith)
frees_set (o ∷ B) zero r lt free = go o free
  where
    go : (x : Option ℕ) → x ≡ none → suc (frees B) ≡ frees_at x (frees B)
    go none e = refl
    go (some q) e = no_confusion (cc)
frees_set (o ∷ B) (suc v) r lt free = go o (frees_set B v r (omega arith) free)
  where
    go : (x : Option ℕ) → suc (frees (set B v (some r))) ≡ frees B → suc (frees_at x (frees (set B v (some r)))) ≡ frees_at x (frees B)
    go none e = ap suc e
    go (some q) e = e
