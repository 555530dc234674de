-- Unify at depth enough meets its own equation: deeper answers are the same. Assumes nothing.
use mathlib.Core.Path.{◌≡◌, refl, ◌∙◌}
use mathlib.Core.List.{List, [], ◌∷◌}
use mathlib.Core.Option.{Option, none, some}
use mathlib.Core.Bool.{Bool, true, false}
use Prim.Native.Nat.{ℕ, zero, suc, ◌+◌, ◌*◌, ◌<◌, ◌≤◌}
use native.Mathlib.Nat.{mul-le-mul_right}
use native.Mathlib.Omega.{arith}
use lib.Dec.{eqb}
use lib.ListN.{length}
use Rattle.unification.specs.Term.{Shape, variable, over, same_head}
use Rattle.unification.specs.Nodes.{Binds}
use Rattle.unification.specs.Acyclic.{Numbering, Lower}
use Rattle.unification.specs.Trail.{frees}
use Rattle.unification.specs.Unify.{Unifies, too_deep, no_way, yes_with, and_then, follow, unify_all}
use Rattle.unification.specs.Unify.{unify_heads, unify_shapes, unify_ends, unify_followed, unify_to}
use Rattle.unification.proofs.Rank.{highest, rank, Ranked, rank_over}
use Rattle.unification.proofs.Numbering.{numbered_ranked}
use Rattle.unification.proofs.Enough.{follow_some}
use Rattle.unification.specs.Exact.{YesLeaves, BindsKept}
use Rattle.unification.proofs.Robinson.{next_trans, next_refl, unify_kept, depth_left, unify_known}

pub frees_few : (B : Binds) → frees B ≤ length B
frees_few [] = omega arith
frees_few (none ∷ B) = let a = frees_few B in omega arith
frees_few (some q ∷ B) = let a = frees_few B in omega arith

module _ (shape : ℕ → Shape) (K : ℕ) (lower : Lower shape K) (n : ℕ) (scoped : (p v : ℕ) → shape p ≡ variable v
    → v < n) (w : ℕ) (deep : suc n * suc K + K < w) where
  abbrev ranks : (B : Binds) → Numbering shape n B → Ranked shape w B
  ranks B N = numbered_ranked shape K lower n B N w deep

  list_agrees : (f g : Binds → ℕ → ℕ → Unifies) → ((B : Binds) (a b : ℕ) → length B ≡ n → Numbering shape n B → BindsKept shape n B (f B a b))
      → (B : Binds) (m : ℕ)
      → ((C : Binds) → length C ≡ n → YesLeaves shape n B C → (a b : ℕ) → rank shape w B a < m → g C a b ≡ f C a b)
      → (xs ys : List ℕ) (C : Binds) → length C ≡ n → YesLeaves shape n B C → highest (rank shape w B) xs < suc m
      → unify_all shape g C xs ys ≡ unify_all shape f C xs ys
  list_agrees f g kept B m ih [] [] C len N lt = refl
  list_agrees f g kept B m ih [] (y ∷ ys) C len N lt = refl
  list_agrees f g kept B m ih (x ∷ xs) [] C len N lt = refl
  list_agrees f g kept B m ih (x ∷ xs) (y ∷ ys) C len N lt =
      rw (ih C len N x y (omega arith)) (go (f C x y) (kept C x y len N.numbering) (list_agrees f g kept B m ih xs ys))
    where
      go : (r : Unifies) → BindsKept shape n C r
          → ((D : Binds) → length D ≡ n → YesLeaves shape n B D → highest (rank shape w B) xs < suc m → unify_all shape g D xs ys ≡ unify_all shape f D xs ys)
          → and_then r (λ D. unify_all shape g D xs ys) ≡ and_then r (λ D. unify_all shape f D xs ys)
      go too_deep K t = refl
      go no_way K t = refl
      go (yes_with D) K t = t D (K.long ∙ len) (next_trans shape n B C D N K) (omega arith)

  pub unify_agrees : (k m : ℕ) (B : Binds) (l r : ℕ) → length B ≡ n → Numbering shape n B
      → frees B * w + rank shape w B l < k → frees B * w + rank shape w B l < m
      → unify_to shape w m B l r ≡ unify_to shape w k B l r
  unfolding unify_to
  unify_agrees zero m B l r len F lk lm = absurd (omega arith)
  unify_agrees (suc k) zero B l r len F lk lm = absurd (omega arith)
  unify_agrees (suc k) (suc m) B l r len F lk lm =
      let A = ranks B F in
      let x = follow_some shape w B A w l (A.short l) in
      rw x.1 (go x.0 x.2 (follow shape w B r)
      (λ C lC N a b la. unify_agrees k m C a b lC N.numbering (depth_left shape K lower n scoped w deep B C F N a
      (rank shape w B l) k la lk) (depth_left shape K lower n scoped w deep B C F N a (rank shape w B l) m la
      lm)))
    where
      heads : (b : Bool) (ps ps' : List ℕ) → highest (rank shape w B) ps < suc (rank shape w B l)
          → ((C : Binds) → length C ≡ n → YesLeaves shape n B C → (a b : ℕ) → rank shape w B a < rank shape w B l
          → unify_to shape w m C a b ≡ unify_to shape w k C a b)
          → unify_heads shape b (unify_to shape w m) B ps ps' ≡ unify_heads shape b (unify_to shape w k) B ps ps'
      heads true ps ps' lt ih =
          list_agrees (unify_to shape w k) (unify_to shape w m) (unify_kept shape K lower n scoped w deep k) B
          (rank shape w B l) ih ps ps' B len (next_refl shape n B F) lt
      heads false ps ps' lt ih = refl

      ends : (l' r' : ℕ) → rank shape w B l' ≤ rank shape w B l → (s t : Shape) → shape l' ≡ s
          → ((C : Binds) → length C ≡ n → YesLeaves shape n B C → (a b : ℕ) → rank shape w B a < rank shape w B l
          → unify_to shape w m C a b ≡ unify_to shape w k C a b)
          → unify_shapes shape w (unify_to shape w m) B l' s r' t ≡ unify_shapes shape w (unify_to shape w k) B l' s r' t
      ends l' r' le (variable v) (variable u) sl ih = refl
      ends l' r' le (variable v) (over h ps) sl ih = refl
      ends l' r' le (over h ps) (variable u) sl ih = refl
      ends l' r' le (over h ps) (over h' ps') sl ih =
          let q = rank_over shape w B (ranks B F) l' h ps sl in
          heads (same_head h h') ps ps' (omega arith) ih

      go : (l' : ℕ) → rank shape w B l' ≤ rank shape w B l → (o : Option ℕ)
          → ((C : Binds) → length C ≡ n → YesLeaves shape n B C → (a b : ℕ) → rank shape w B a < rank shape w B l
          → unify_to shape w m C a b ≡ unify_to shape w k C a b)
          → unify_followed shape w (unify_to shape w m) B (some l') o ≡ unify_followed shape w (unify_to shape w k) B (some l') o
      go l' le none ih = refl
      go l' le (some r') ih = same_end (eqb l' r')
        where
          same_end : (b : Bool) → unify_ends shape b w (unify_to shape w m) B l' r' ≡ unify_ends shape b w (unify_to shape w k) B l' r'
          same_end true = refl
          same_end false = ends l' r' le (shape l') (shape r') refl ih

  -- the depth is enough
  covered : (x : ℕ) → suc n * w ≤ x → (B : Binds) (l : ℕ) → length B ≡ n → Numbering shape n B → frees B * w + rank shape w B l < x
  covered x h B l len F =
      let a = frees_few B in
      let b : frees B * w ≤ n * w = mul-le-mul_right w (omega arith) in
      let s = (ranks B F).short l in
      omega arith

  -- the equation that a program follows
  pub unify_eq : (x : ℕ) → suc n * w ≤ x → (B : Binds) (l r : ℕ) → length B ≡ n → Numbering shape n B
      → unify_to shape w x B l r ≡ unify_followed shape w (unify_to shape w x) B (follow shape w B l) (follow shape w B r)
  unfolding unify_to
  unify_eq x h B l r len F = unify_agrees (suc x) x B l r len F (omega (arith, covered x h B l len F)) (covered x h B l len F)

  pub unify_answers : (x : ℕ) → suc n * w ≤ x → (B : Binds) (l r : ℕ) → length B ≡ n → Numbering shape n B → unify_to shape w x B l r ≡ too_deep → ⊥
  unify_answers x h B l r len F = unify_known shape K lower n scoped w deep x B l r len F (covered x h B l len F)
