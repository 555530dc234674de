-- What the unifier's answers mean: every answer is exact. A yes has exactly the models of the bindings at which the two sides are equal, and at
-- a no there is none. At every depth; by the clauses of unify, and for the occurs check by the size of terms. Assumes nothing.
use mathlib.Core.Path.{◌≡◌, refl, ap, sym, ◌∙◌}
use mathlib.Core.List.{List, [], ◌∷◌}
use mathlib.Core.Option.{Option, none, some}
use mathlib.Core.Bool.{Bool, true, false}
use Prim.Native.Nat.{ℕ, zero, suc, ◌+◌, ◌<◌, ◌≤◌}
use native.Mathlib.Omega.{arith}
use native.Mathlib.Decide.{ℕ_discrete}
use lib.Dec.{eqb, eqb→eq, T}
use borrow.Author.Tests.{eqb-true}
use lib.ListN.{length, set, length-set}
use lib.Seq.{get_or-set_same, get_or-set_other}
use Rattle.resolved_sort.proofs.Numbers.{true_not_false}
use Rattle.resolved_sort.proofs.Reached.{no_confusion}
use Rattle.unification.specs.Term.{Head, Term, var, app, Terms, no_part, part, Shape, variable, over, same_head}
use Rattle.unification.specs.Nodes.{Binds, binding}
use Rattle.unification.specs.Solutions.{terms_at}
use Rattle.unification.proofs.Heads.{same_head_true, same_head_refl}
use Rattle.unification.proofs.Follow.{follow_holds, follow_end}
use Rattle.unification.specs.Unify.{Unifies, too_deep, no_way, yes_with, and_then, Occurs, unknown, absent}
use Rattle.unification.specs.Unify.{present, or_else, of_test, follow, occurs_any, occurs_bound, occurs_at, occurs}
use Rattle.unification.specs.Unify.{bind_unless, unify_all, unify_heads, unify_variables, unify_shapes}
use Rattle.unification.specs.Unify.{unify_ends, unify_followed, unify_to}
use Rattle.unification.specs.Exact.{shape_val, Model, Exact}

unfoldable mutual
  pub size : Term → ℕ
  size (var v) = 1
  size (app h ts) = suc (sizes ts)

  pub sizes : Terms → ℕ
  sizes no_part = 0
  sizes (part t ts) = size t + sizes ts

-- following bindings
pub follow_value : (shape : ℕ → Shape) (B : Binds) (σ val : ℕ → Term) → Model shape B σ val → (k p q : ℕ) → follow shape k B p ≡ some q → val p ≡ val q
follow_value shape B σ val M = follow_holds shape B (λ p q. val p ≡ val q) (λ p i. refl) (λ p v r q s b h. M.isval p ∙ (rw s (M.sat v r b)) ∙ h)

-- a binding

bind_exact : (shape : ℕ → Shape) (B : Binds) (v l r : ℕ) → v < length B → binding B v ≡ none → shape l ≡ variable v
    → Exact shape B (λ val. val l ≡ val r) (yes_with (set B v (some r)))
bind_exact shape B v l r lt free s = (length-set B v (some r), down, up)
  where
    same : binding (set B v (some r)) v ≡ some r
    same = get_or-set_same B v (some r) none lt

    kept : (σ val : ℕ → Term) → Model shape (set B v (some r)) σ val → (u q : ℕ) → binding B u ≡ some q → Dec (u ≡ v) → σ u ≡ val q
    kept σ val M u q e (yes i) = let a : binding B u ≡ binding B v = ap (binding B) i in cc
    kept σ val M u q e (no i) = M.sat u q (get_or-set_other B v u (some r) none i ∙ e)

    down : (σ val : ℕ → Term) → Model shape (set B v (some r)) σ val → Model shape B σ val × (val l ≡ val r)
    down σ val M = (record { isval = M.isval; sat = λ u q e. kept σ val M u q e (ℕ_discrete u v) }, M.isval l ∙ rw s (M.sat v r same))

    new : (σ val : ℕ → Term) → Model shape B σ val → val l ≡ val r → (u q : ℕ) → binding (set B v (some r)) u ≡ some q → Dec (u ≡ v) → σ u ≡ val q
    new σ val M e u q h (yes i) =
        let a : binding (set B v (some r)) u ≡ binding (set B v (some r)) v = ap (binding (set B v (some r))) i in
        let b : σ v ≡ val l = sym (M.isval l ∙ rw s) in
        cc same
    new σ val M e u q h (no i) = M.sat u q (sym (get_or-set_other B v u (some r) none i) ∙ h)

    up : (σ val : ℕ → Term) → Model shape B σ val → val l ≡ val r → Model shape (set B v (some r)) σ val
    up σ val M e = record { isval = M.isval; sat = λ u q h. new σ val M e u q h (ℕ_discrete u v) }

-- a variable that occurs in p has a term no larger than p's, and smaller where p is no variable

occurs_any_size : (shape : ℕ → Shape) (σ val : ℕ → Term) (v : ℕ) (f : ℕ → Occurs) → ((p : ℕ) → f p ≡ present → size (σ v) ≤ size (val p))
    → (ps : List ℕ) → occurs_any shape f ps ≡ present → size (σ v) ≤ sizes (terms_at val ps)
unfolding size
occurs_any_size shape σ val v f ih [] e = no_confusion (cc)
occurs_any_size shape σ val v f ih (p ∷ ps) e = go (f p) refl e (occurs_any_size shape σ val v f ih ps)
  where
    go : (a : Occurs) → f p ≡ a → or_else a (occurs_any shape f ps) ≡ present → (occurs_any shape f ps ≡ present
        → size (σ v) ≤ sizes (terms_at val ps)) → size (σ v) ≤ size (val p) + sizes (terms_at val ps)
    go unknown fp e h = no_confusion (cc)
    go absent fp e h = let a = h e in omega arith
    go present fp e h = let a = ih p fp in omega arith

occurs_over : (shape : ℕ → Shape) (σ val : ℕ → Term) → ((p : ℕ) → val p ≡ shape_val σ val (shape p)) → (v p : ℕ) (h : Head) (ps : List ℕ) → shape p ≡ over h ps
    → size (σ v) ≤ sizes (terms_at val ps) → size (σ v) < size (val p)
unfolding size
occurs_over shape σ val iv v p h ps s le =
    let a : size (val p) ≡ suc (sizes (terms_at val ps)) = ap size (iv p) ∙ rw s in
    omega arith

yes_of : (b : Bool) → of_test b ≡ present → T b
yes_of true e = tt
yes_of false e = no_confusion (cc)

occurs_size : (shape : ℕ → Shape) (B : Binds) (σ val : ℕ → Term) → Model shape B σ val → (k v p : ℕ)
    → occurs shape k B v p ≡ present → size (σ v) ≤ size (val p)
unfolding occurs
occurs_size shape B σ val M zero v p e = no_confusion (cc)
occurs_size shape B σ val M (suc k) v p e = go (shape p) refl e (λ q e'. occurs_size shape B σ val M k v q e')
  where
    bound : (o : Option ℕ) (w : ℕ) → shape p ≡ variable w → binding B w ≡ o → occurs_bound shape o v w (occurs shape k B v) ≡ present
        → ((q : ℕ) → occurs shape k B v q ≡ present → size (σ v) ≤ size (val q)) → size (σ v) ≤ size (val p)
    bound none w s l e ih =
        let i : v ≡ w = eqb→eq v w (yes_of (eqb v w) e) in
        let a : size (val p) ≡ size (σ v) = ap size (M.isval p ∙ rw (s, i)) in
        omega arith
    bound (some q) w s l e ih =
        let a : size (val p) ≡ size (val q) = ap size (M.isval p ∙ rw s (M.sat w q l)) in
        let b = ih q e in
        omega arith

    go : (t : Shape) → shape p ≡ t → occurs_at shape t B v (occurs shape k B v) ≡ present
        → ((q : ℕ) → occurs shape k B v q ≡ present → size (σ v) ≤ size (val q)) → size (σ v) ≤ size (val p)
    go (variable w) s e ih = bound (binding B w) w s refl e ih
    go (over h ps) s e ih =
        let a = occurs_over shape σ val M.isval v p h ps s (occurs_any_size shape σ val v (occurs shape k B v) ih ps e) in
        omega arith

-- the same, strictly, at a place that is no variable
occurs_strict : (shape : ℕ → Shape) (B : Binds) (σ val : ℕ → Term) → Model shape B σ val → (k v p : ℕ) (h : Head) (ps : List ℕ) → shape p ≡ over h ps
    → occurs shape k B v p ≡ present → size (σ v) < size (val p)
unfolding occurs
occurs_strict shape B σ val M zero v p h ps s e = no_confusion (cc)
occurs_strict shape B σ val M (suc k) v p h ps s e =
    occurs_over shape σ val M.isval v p h ps s (occurs_any_size shape σ val v (occurs shape k B v) (occurs_size shape B σ val M k v) ps
    (rw s at e))

-- an answer that is exact for E is exact for any F that says the same of every model of B
exact_move : (shape : ℕ → Shape) (B : Binds) (E F : (ℕ → Term) → Type 0)
    → ((σ val : ℕ → Term) → Model shape B σ val → E val → F val) → ((σ val : ℕ → Term) → Model shape B σ val → F val → E val)
    → (r : Unifies) → Exact shape B E r → Exact shape B F r
exact_move shape B E F to back too_deep x = tt
exact_move shape B E F to back no_way x = λ σ val M e. x σ val M (back σ val M e)
exact_move shape B E F to back (yes_with B') x =
    (x.0, (λ σ val M. let m = x.1 σ val M in (m.0, to σ val m.0 m.1)), λ σ val M e. x.2 σ val M (back σ val M e))

list_exact : (shape : ℕ → Shape) (f : Binds → ℕ → ℕ → Unifies) (n : ℕ)
    → ((B : Binds) (a b : ℕ) → length B ≡ n → Exact shape B (λ val. val a ≡ val b) (f B a b))
    → (xs ys : List ℕ) (B : Binds) → length B ≡ n → Exact shape B (λ val. terms_at val xs ≡ terms_at val ys) (unify_all shape f B xs ys)
list_exact shape f n ih [] [] B len = (refl, (λ σ val M. (M, refl)), λ σ val M e. M)
list_exact shape f n ih [] (y ∷ ys) B len = λ σ val M e. no_confusion (cc)
list_exact shape f n ih (x ∷ xs) [] B len = λ σ val M e. no_confusion (cc)
list_exact shape f n ih (x ∷ xs) (y ∷ ys) B len = go (f B x y) (ih B x y len) (list_exact shape f n ih xs ys)
  where
    then : (B' : Binds) → Exact shape B (λ val. val x ≡ val y) (yes_with B') → (r : Unifies) → Exact shape B' (λ val. terms_at val xs ≡ terms_at val ys) r
        → Exact shape B (λ val. terms_at val (x ∷ xs) ≡ terms_at val (y ∷ ys)) r
    then B' h too_deep t = tt
    then B' h no_way t = λ σ val M e. t σ val (h.2 σ val M (cc)) (cc)
    then B' h (yes_with B'') t = (
      t.0 ∙ h.0,
      (λ σ val M. let m = t.1 σ val M in let m' = h.1 σ val m.0 in (m'.0, cc (m.1, m'.1))),
      λ σ val M e. t.2 σ val (h.2 σ val M (cc)) (cc),
    )

    go : (r : Unifies) → Exact shape B (λ val. val x ≡ val y) r
        → ((B' : Binds) → length B' ≡ n → Exact shape B' (λ val. terms_at val xs ≡ terms_at val ys) (unify_all shape f B' xs ys))
        → Exact shape B (λ val. terms_at val (x ∷ xs) ≡ terms_at val (y ∷ ys)) (and_then r (λ B'. unify_all shape f B' xs ys))
    go too_deep h t = tt
    go no_way h t = λ σ val M e. h σ val M (cc)
    go (yes_with B') h t = then B' h (unify_all shape f B' xs ys) (t B' (h.0 ∙ len))

bind_unless_exact : (shape : ℕ → Shape) (k : ℕ) (B : Binds) (v l r : ℕ) (h : Head) (ps : List ℕ) → v < length B
    → binding B v ≡ none → shape l ≡ variable v → shape r ≡ over h ps
    → Exact shape B (λ val. val l ≡ val r) (bind_unless shape (occurs shape k B v r) B v r)
bind_unless_exact shape k B v l r h ps lt free sl sr = go (occurs shape k B v r) refl
  where
    go : (a : Occurs) → occurs shape k B v r ≡ a → Exact shape B (λ val. val l ≡ val r) (bind_unless shape a B v r)
    go unknown o = tt
    go absent o = bind_exact shape B v l r lt free sl
    go present o = λ σ val M e.
        let a = occurs_strict shape B σ val M k v r h ps sr o in
        let b : size (val l) ≡ size (σ v) = ap size (M.isval l ∙ rw sl) in
        let c : size (val l) ≡ size (val r) = ap size e in
        omega arith

variables_exact : (shape : ℕ → Shape) (B : Binds) (v w l r : ℕ) → v < length B → binding B v ≡ none → shape l ≡ variable v → shape r ≡ variable w
    → Exact shape B (λ val. val l ≡ val r) (unify_variables shape (eqb v w) B v r)
variables_exact shape B v w l r lt free sl sr = go (eqb v w) refl
  where
    go : (b : Bool) → eqb v w ≡ b → Exact shape B (λ val. val l ≡ val r) (unify_variables shape b B v r)
    go true e = (
      refl,
      (λ σ val M. (
        M,
        (let i : v ≡ w = eqb→eq v w (rw e tt) in
            let a : val l ≡ σ v = M.isval l ∙ rw sl in
            let b : val r ≡ σ w = M.isval r ∙ rw sr in
            cc),
      )),
      λ σ val M e. M,
    )
    go false e = bind_exact shape B v l r lt free sl

heads_exact : (shape : ℕ → Shape) (f : Binds → ℕ → ℕ → Unifies) (n : ℕ)
    → ((B : Binds) (a b : ℕ) → length B ≡ n → Exact shape B (λ val. val a ≡ val b) (f B a b))
    → (B : Binds) → length B ≡ n → (l r : ℕ) (h h' : Head) (ps ps' : List ℕ) → shape l ≡ over h ps → shape r ≡ over h' ps'
    → Exact shape B (λ val. val l ≡ val r) (unify_heads shape (same_head h h') f B ps ps')
heads_exact shape f n ih B len l r h h' ps ps' sl sr = go (same_head h h') refl
  where
    at_l : (σ val : ℕ → Term) → Model shape B σ val → val l ≡ app h (terms_at val ps)
    at_l σ val M = M.isval l ∙ rw sl

    at_r : (σ val : ℕ → Term) → Model shape B σ val → val r ≡ app h' (terms_at val ps')
    at_r σ val M = M.isval r ∙ rw sr

    go : (b : Bool) → same_head h h' ≡ b → Exact shape B (λ val. val l ≡ val r) (unify_heads shape b f B ps ps')
    go true e =
        let i : h ≡ h' = same_head_true h h' e in
        exact_move shape B (λ val. terms_at val ps ≡ terms_at val ps') (λ val. val l ≡ val r)
        (λ σ val M q. cc (i, at_l σ val M, at_r σ val M))
        (λ σ val M q. cc (at_l σ val M, at_r σ val M))
        (unify_all shape f B ps ps') (list_exact shape f n ih ps ps' B len)
    go false e = λ σ val M q.
        let i : h ≡ h' = cc (at_l σ val M, at_r σ val M) in
        true_not_false (same_head h h') (rw i (same_head_refl h')) e

shapes_exact : (shape : ℕ → Shape) (k : ℕ) (f : Binds → ℕ → ℕ → Unifies) (n : ℕ) → ((p v : ℕ) → shape p ≡ variable v → v < n)
    → ((B : Binds) (a b : ℕ) → length B ≡ n → Exact shape B (λ val. val a ≡ val b) (f B a b))
    → (B : Binds) → length B ≡ n → (l r : ℕ) (s t : Shape) → shape l ≡ s → shape r ≡ t
    → ((v : ℕ) → shape l ≡ variable v → binding B v ≡ none) → ((v : ℕ) → shape r ≡ variable v → binding B v ≡ none)
    → Exact shape B (λ val. val l ≡ val r) (unify_shapes shape k f B l s r t)
shapes_exact shape k f n scoped ih B len l r (variable v) (variable w) sl sr fl fr = variables_exact shape B v w l r (rw len (scoped l v sl)) (fl v sl) sl sr
shapes_exact shape k f n scoped ih B len l r (variable v) (over h ps) sl sr fl fr = bind_unless_exact shape k B v l r
    h ps (rw len (scoped l v sl)) (fl v sl) sl sr
shapes_exact shape k f n scoped ih B len l r (over h ps) (variable w) sl sr fl fr =
    exact_move shape B (λ val. val r ≡ val l) (λ val. val l ≡ val r) (λ σ val M e. sym e) (λ σ val M e. sym e) (bind_unless shape (occurs shape k B w l) B w l)
    (bind_unless_exact shape k B w r l h ps (rw len (scoped r w sr)) (fr w sr) sr sl)
shapes_exact shape k f n scoped ih B len l r (over h ps) (over h' ps') sl sr fl fr = heads_exact shape f n ih B len l r h h' ps ps' sl sr

module _ (shape : ℕ → Shape) (n : ℕ) (scoped : (p v : ℕ) → shape p ≡ variable v → v < n) where
  ends_exact : (k : ℕ) (f : Binds → ℕ → ℕ → Unifies) → ((B : Binds) (a b : ℕ) → length B ≡ n → Exact shape B (λ val. val a ≡ val b) (f B a b))
      → (B : Binds) → length B ≡ n → (l r : ℕ)
      → ((v : ℕ) → shape l ≡ variable v → binding B v ≡ none) → ((v : ℕ) → shape r ≡ variable v → binding B v ≡ none)
      → Exact shape B (λ val. val l ≡ val r) (unify_ends shape (eqb l r) k f B l r)
  ends_exact k f ih B len l r fl fr = go (eqb l r) refl
    where
      go : (b : Bool) → eqb l r ≡ b → Exact shape B (λ val. val l ≡ val r) (unify_ends shape b k f B l r)
      go true e = (refl, (λ σ val M. (M, ap val (eqb-true l r e))), λ σ val M q. M)
      go false e = shapes_exact shape k f n scoped ih B len l r (shape l) (shape r) refl refl fl fr

  -- Every answer of unify is exact.
  pub unify_exact : (w k : ℕ) (B : Binds) (l r : ℕ) → length B ≡ n → Exact shape B (λ val. val l ≡ val r) (unify_to shape w k B l r)
  unfolding unify_to
  unify_exact w zero B l r len = tt
  unify_exact w (suc k) B l r len = go (follow shape w B l) refl (follow shape w B r) refl (unify_exact w k)
    where
      go : (a : Option ℕ) → follow shape w B l ≡ a → (b : Option ℕ) → follow shape w B r ≡ b
          → ((B : Binds) (a b : ℕ) → length B ≡ n → Exact shape B (λ val. val a ≡ val b) (unify_to shape w k B a b))
          → Exact shape B (λ val. val l ≡ val r) (unify_followed shape w (unify_to shape w k) B a b)
      go none el b er ih = tt
      go (some l') el none er ih = tt
      go (some l') el (some r') er ih =
          exact_move shape B (λ val. val l' ≡ val r') (λ val. val l ≡ val r)
          (λ σ val M q. cc (follow_value shape B σ val M w l l' el, follow_value shape B σ val M w r r' er))
          (λ σ val M q. cc (follow_value shape B σ val M w l l' el, follow_value shape B σ val M w r r' er))
          (unify_ends shape (eqb l' r') w (unify_to shape w k) B l' r')
          (ends_exact w (unify_to shape w k) ih B len l' r' (λ v. follow_end shape B w l l' v el) (λ v. follow_end shape B w r r' v er))
