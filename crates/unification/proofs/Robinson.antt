-- Robinson's theorem: where variables are numbered, unify answers at the depths given; a no says that no terms for the variables respect the
-- bindings and make the two sides equal; a yes leaves bindings that exactly these respect, numbered again. By the laws of exactness and of
-- binding. The calls of unify end because free variables get fewer, or else ranks fall. Assumes nothing.
use mathlib.Core.Path.{◌≡◌, refl, ap, ◌∙◌}
use mathlib.Core.List.{List, [], ◌∷◌}
use mathlib.Core.Option.{Option, none, some}
use mathlib.Core.Bool.{Bool, true, false}
use mathlib.Core.Logic.{◌⊎◌, inl, inr}
use Prim.Native.Nat.{ℕ, zero, suc, ◌+◌, ◌*◌, ◌<◌, ◌≤◌}
use native.Mathlib.Nat.{mul-le-mul_right}
use native.Mathlib.Omega.{arith}
use lib.Dec.{eqb}
use lib.ListN.{length, set, length-set}
use Rattle.resolved_sort.proofs.Reached.{no_confusion}
use Rattle.unification.specs.Term.{Shape, variable, over, same_head}
use Rattle.unification.specs.Nodes.{Binds, binding}
use Rattle.unification.specs.Acyclic.{Numbering, Lower}
use Rattle.unification.specs.Trail.{frees}
use Rattle.unification.specs.Unify.{Unifies, too_deep, no_way, yes_with, and_then, Occurs, unknown, absent}
use Rattle.unification.specs.Unify.{present, follow, occurs, bind_unless, unify_all, unify_heads, unify_variables}
use Rattle.unification.specs.Unify.{unify_shapes, unify_ends, unify_followed, unify_to}
use Rattle.unification.proofs.Rank.{highest, rank, Ranked, rank_over, frees_set}
use Rattle.unification.proofs.Follow.{follow_end}
use Rattle.unification.proofs.Numbering.{numbered_ranked}
use Rattle.unification.proofs.Enough.{follow_some, occurs_eq, occurs_known}
use Rattle.unification.proofs.Binding.{binding_numbered}
use Rattle.unification.specs.Exact.{YesLeaves, BindsKept}

pub next_trans : (shape : ℕ → Shape) (n : ℕ) (B C D : Binds) → YesLeaves shape n B C → YesLeaves shape n C D → YesLeaves shape n B D
next_trans shape n B C D x y = record { numbering = y.numbering; long = y.long ∙ x.long; fewer = go x.fewer y.fewer }
  where
    go : (C ≡ B) ⊎ (frees C < frees B) → (D ≡ C) ⊎ (frees D < frees C) → (D ≡ B) ⊎ (frees D < frees B)
    go (inl i) (inl j) = inl (j ∙ i)
    go (inl i) (inr j) = inr (let e = ap frees i in omega arith)
    go (inr i) (inl j) = inr (let e = ap frees j in omega arith)
    go (inr i) (inr j) = inr (omega arith)

pub next_refl : (shape : ℕ → Shape) (n : ℕ) (B : Binds) → Numbering shape n B → YesLeaves shape n B B
next_refl shape n B N = record { numbering = N; long = refl; fewer = inl refl }

module _ (shape : ℕ → Shape) (K : ℕ) (lower : Lower shape K) (n : ℕ) (scoped : (p v : ℕ) → shape p ≡ variable v
    → v < n) (w : ℕ) (deep : suc n * suc K + K < w) where
  abbrev ranks : (B : Binds) → Numbering shape n B → Ranked shape w B
  ranks B N = numbered_ranked shape K lower n B N w deep

  bound_next : (B : Binds) → Numbering shape n B → (v r : ℕ) → v < length B → binding B v ≡ none
      → occurs shape w B v r ≡ absent → YesLeaves shape n B (set B v (some r))
  bound_next B N v r lt free o =
      let e = frees_set B v r lt free in
      record { numbering = binding_numbered shape K lower n scoped w deep B N v r free lt o; long = length-set B v (some r); fewer = inr (omega arith) }

  list_kept : (f : Binds → ℕ → ℕ → Unifies) → ((B : Binds) (a b : ℕ) → length B ≡ n → Numbering shape n B → BindsKept shape n B (f B a b))
      → (xs ys : List ℕ) (B : Binds) → length B ≡ n → Numbering shape n B → BindsKept shape n B (unify_all shape f B xs ys)
  list_kept f ih [] [] B len N = next_refl shape n B N
  list_kept f ih [] (y ∷ ys) B len N = tt
  list_kept f ih (x ∷ xs) [] B len N = tt
  list_kept f ih (x ∷ xs) (y ∷ ys) B len N = go (f B x y) (ih B x y len N) (list_kept f ih xs ys)
    where
      then : (C : Binds) → YesLeaves shape n B C → (r : Unifies) → BindsKept shape n C r → BindsKept shape n B r
      then C x too_deep y = tt
      then C x no_way y = tt
      then C x (yes_with D) y = next_trans shape n B C D x y

      go : (r : Unifies) → BindsKept shape n B r → ((C : Binds) → length C ≡ n → Numbering shape n C → BindsKept shape n C (unify_all shape f C xs ys))
          → BindsKept shape n B (and_then r (λ C. unify_all shape f C xs ys))
      go too_deep x t = tt
      go no_way x t = tt
      go (yes_with C) x t = then C x (unify_all shape f C xs ys) (t C (x.long ∙ len) x.numbering)

  bind_kept : (B : Binds) → Numbering shape n B → (v r : ℕ) → v < length B → binding B v ≡ none
      → BindsKept shape n B (bind_unless shape (occurs shape w B v r) B v r)
  bind_kept B N v r lt free = go (occurs shape w B v r) refl
    where
      go : (a : Occurs) → occurs shape w B v r ≡ a → BindsKept shape n B (bind_unless shape a B v r)
      go unknown o = tt
      go present o = tt
      go absent o = bound_next B N v r lt free o

  vars_kept : (B : Binds) → Numbering shape n B → (v u r : ℕ) → v < length B → binding B v ≡ none → binding B u ≡ none → shape r ≡ variable u
      → BindsKept shape n B (unify_variables shape (eqb v u) B v r)
  vars_kept B N v u r lt free fr sr = go (eqb v u) refl
    where
      go : (b : Bool) → eqb v u ≡ b → BindsKept shape n B (unify_variables shape b B v r)
      go true e = next_refl shape n B N
      go false e =
          let o : occurs shape w B v r ≡ absent = occurs_eq shape w B (ranks B N) v r ∙ rw sr (rw fr (rw e)) in
          bound_next B N v r lt free o

  ends_kept : (f : Binds → ℕ → ℕ → Unifies) → ((B : Binds) (a b : ℕ) → length B ≡ n → Numbering shape n B → BindsKept shape n B (f B a b))
      → (B : Binds) → length B ≡ n → Numbering shape n B → (l r : ℕ) (s t : Shape) → shape l ≡ s → shape r ≡ t
      → ((v : ℕ) → shape l ≡ variable v → binding B v ≡ none) → ((v : ℕ) → shape r ≡ variable v → binding B v ≡ none)
      → BindsKept shape n B (unify_shapes shape w f B l s r t)
  ends_kept f ih B len N l r (variable v) (variable u) sl sr fl fr = vars_kept B N v u r (rw len (scoped l v sl)) (fl v sl) (fr u sr) sr
  ends_kept f ih B len N l r (variable v) (over h ps) sl sr fl fr = bind_kept B N v r (rw len (scoped l v sl)) (fl v sl)
  ends_kept f ih B len N l r (over h ps) (variable u) sl sr fl fr = bind_kept B N u l (rw len (scoped r u sr)) (fr u sr)
  ends_kept f ih B len N l r (over h ps) (over g qs) sl sr fl fr = go (same_head h g)
    where
      go : (b : Bool) → BindsKept shape n B (unify_heads shape b f B ps qs)
      go true = list_kept f ih ps qs B len N
      go false = tt

  end_kept : (f : Binds → ℕ → ℕ → Unifies) → ((B : Binds) (a b : ℕ) → length B ≡ n → Numbering shape n B → BindsKept shape n B (f B a b))
      → (B : Binds) → length B ≡ n → Numbering shape n B → (l r : ℕ)
      → ((v : ℕ) → shape l ≡ variable v → binding B v ≡ none) → ((v : ℕ) → shape r ≡ variable v → binding B v ≡ none)
      → (b : Bool) → BindsKept shape n B (unify_ends shape b w f B l r)
  end_kept f ih B len N l r fl fr true = next_refl shape n B N
  end_kept f ih B len N l r fl fr false = ends_kept f ih B len N l r (shape l) (shape r) refl refl fl fr

  -- a yes keeps the variables numbered
  pub unify_kept : (k : ℕ) (B : Binds) (l r : ℕ) → length B ≡ n → Numbering shape n B → BindsKept shape n B (unify_to shape w k B l r)
  unfolding unify_to
  unify_kept zero B l r len N = tt
  unify_kept (suc k) B l r len N = go (follow shape w B l) refl (follow shape w B r) refl (unify_kept k)
    where
      go : (a : Option ℕ) → follow shape w B l ≡ a → (b : Option ℕ) → follow shape w B r ≡ b
          → ((B : Binds) (a b : ℕ) → length B ≡ n → Numbering shape n B → BindsKept shape n B (unify_to shape w k B a b))
          → BindsKept shape n B (unify_followed shape w (unify_to shape w k) B a b)
      go none el b er ih = tt
      go (some l') el none er ih = tt
      go (some l') el (some r') er ih =
          end_kept (unify_to shape w k) ih B len N l' r' (λ v. follow_end shape B w l l' v el) (λ v. follow_end shape B w r r' v er) (eqb l' r')

  -- The depth is enough where it covers the free variables times w, and the rank of the left place.
  list_known : (f : Binds → ℕ → ℕ → Unifies) → ((B : Binds) (a b : ℕ) → length B ≡ n → Numbering shape n B → BindsKept shape n B (f B a b))
      → (B : Binds) (m : ℕ)
      → ((C : Binds) → length C ≡ n → YesLeaves shape n B C → (a b : ℕ) → rank shape w B a < m → f C a b ≡ too_deep → ⊥)
      → (xs ys : List ℕ) (C : Binds) → length C ≡ n → YesLeaves shape n B C → highest (rank shape w B) xs < suc m → unify_all shape f C xs ys ≡ too_deep → ⊥
  list_known f kept B m ih [] [] C len N lt e = no_confusion (cc)
  list_known f kept B m ih [] (y ∷ ys) C len N lt e = no_confusion (cc)
  list_known f kept B m ih (x ∷ xs) [] C len N lt e = no_confusion (cc)
  list_known f kept B m ih (x ∷ xs) (y ∷ ys) C len N lt e = go (f C x y) refl (kept C x y len N.numbering) e (list_known f kept B m ih xs ys)
    where
      go : (r : Unifies) → f C x y ≡ r → BindsKept shape n C r → and_then r (λ D. unify_all shape f D xs ys) ≡ too_deep
          → ((D : Binds) → length D ≡ n → YesLeaves shape n B D → highest (rank shape w B) xs < suc m → unify_all shape f D xs ys ≡ too_deep → ⊥) → ⊥
      go too_deep i z e t = ih C len N x y (omega arith) i
      go no_way i z e t = no_confusion (cc)
      go (yes_with D) i z e t = t D (z.long ∙ len) (next_trans shape n B C D N z) (omega arith) e

  pub depth_left : (B C : Binds) → Numbering shape n B → YesLeaves shape n B C → (a m k : ℕ) → rank shape w B a < m
      → frees B * w + m < suc k → frees C * w + rank shape w C a < k
  depth_left B C F N a m k lt le = go N.fewer
    where
      go : (C ≡ B) ⊎ (frees C < frees B) → frees C * w + rank shape w C a < k
      go (inl i) = rw i (omega arith)
      go (inr i) =
          let s = (ranks C N.numbering).short a in
          let t : suc (frees C) * w ≤ frees B * w = mul-le-mul_right w i in
          omega arith

  pub unify_known : (k : ℕ) (B : Binds) (l r : ℕ) → length B ≡ n → Numbering shape n B
      → frees B * w + rank shape w B l < k → unify_to shape w k B l r ≡ too_deep → ⊥
  unfolding unify_to
  unify_known zero B l r len F le e = omega arith
  unify_known (suc k) B l r len F le e =
      let A = ranks B F in
      let sl = A.short l in
      let sr = A.short r in
      let wl = follow_some shape w B A w l sl in
      let wr = follow_some shape w B A w r sr in
      same_ends wl.0 wr.0 wl.2 wr.2 (eqb wl.0 wr.0)
      (rw (wl.1, wr.1) at e)
      (λ C lC N a b la. unify_known k C a b lC N.numbering (depth_left B C F N a (rank shape w B l) k la le))
    where
      bind : (v q : ℕ) → rank shape w B q < w → (a : Occurs) → occurs shape w B v q ≡ a → bind_unless shape a B v q ≡ too_deep → ⊥
      bind v q lt unknown o e = occurs_known shape w B (ranks B F) v w q lt o
      bind v q lt present o e = no_confusion (cc)
      bind v q lt absent o e = no_confusion (cc)

      vars : (b : Bool) (v q : ℕ) → unify_variables shape b B v q ≡ too_deep → ⊥
      vars true v q e = no_confusion (cc)
      vars false v q e = no_confusion (cc)

      heads : (b : Bool) (ps ps' : List ℕ) → highest (rank shape w B) ps < suc (rank shape w B l) → unify_heads shape b (unify_to shape w k) B ps ps' ≡ too_deep
          → ((C : Binds) → length C ≡ n → YesLeaves shape n B C → (a b : ℕ) → rank shape w B a < rank shape w B l → unify_to shape w k C a b ≡ too_deep → ⊥) → ⊥
      heads true ps ps' lt e ih =
          list_known (unify_to shape w k) (unify_kept k) B (rank shape w B l) ih ps ps' B len (next_refl shape n B F) lt e
      heads false ps ps' lt e ih = no_confusion (cc)

      ends : (l' r' : ℕ) → rank shape w B l' ≤ rank shape w B l → rank shape w B r' ≤ rank shape w B r → (s t : Shape) → shape l' ≡ s → shape r' ≡ t
          → unify_shapes shape w (unify_to shape w k) B l' s r' t ≡ too_deep
          → ((C : Binds) → length C ≡ n → YesLeaves shape n B C → (a b : ℕ) → rank shape w B a < rank shape w B l → unify_to shape w k C a b ≡ too_deep → ⊥) → ⊥
      ends l' r' ll lr (variable v) (variable u) sl sr e ih = vars (eqb v u) v r' e
      ends l' r' ll lr (variable v) (over h ps) sl sr e ih =
          let A = ranks B F in let x = A.short r in bind v r' (omega arith) (occurs shape w B v r') refl e
      ends l' r' ll lr (over h ps) (variable u) sl sr e ih =
          let A = ranks B F in let x = A.short l in bind u l' (omega arith) (occurs shape w B u l') refl e
      ends l' r' ll lr (over h ps) (over h' ps') sl sr e ih =
          let q = rank_over shape w B (ranks B F) l' h ps sl in
          heads (same_head h h') ps ps' (omega arith) e ih

      same_ends : (l' r' : ℕ) → rank shape w B l' ≤ rank shape w B l → rank shape w B r' ≤ rank shape w B r → (b : Bool)
          → unify_ends shape b w (unify_to shape w k) B l' r' ≡ too_deep
          → ((C : Binds) → length C ≡ n → YesLeaves shape n B C → (a b : ℕ) → rank shape w B a < rank shape w B l → unify_to shape w k C a b ≡ too_deep → ⊥) → ⊥
      same_ends l' r' ll lr true e ih = no_confusion (cc)
      same_ends l' r' ll lr false e ih = ends l' r' ll lr (shape l') (shape r') refl refl e ih
