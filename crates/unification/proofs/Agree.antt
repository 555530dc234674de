-- Two graphs that agree on places closed under parts. Whatever goes down from such a place, through parts and through bindings that name such
-- places, meets only such places, and so comes to the same in both: following, ranks, values, terms, the occurs check, unify. By induction on the
-- depth. Assumes nothing.
use mathlib.Core.Path.{◌≡◌, refl, ap, sym, ◌∙◌, subst}
use mathlib.Core.List.{List, [], ◌∷◌}
use mathlib.Core.Option.{Option, none, some}
use mathlib.Core.Bool.{Bool, true, false}
use mathlib.Core.Logic.{◌↔◌}
use Prim.Native.Nat.{ℕ, zero, suc}
use lib.Dec.{eqb}
use lib.ListN.{set}
use Rattle.resolved_sort.proofs.Reached.{no_confusion}
use Rattle.unification.specs.Term.{Head, Term, app, Shape, variable, over, same_head, substitute}
use Rattle.unification.specs.Nodes.{Binds, binding}
use Rattle.unification.specs.Unify.{Unifies, yes_with, no_way, too_deep, and_then, Occurs, absent, present}
use Rattle.unification.specs.Unify.{unknown, follow_bound, follow_at, follow, occurs_bound, occurs_at, occurs}
use Rattle.unification.specs.Unify.{bind_unless, unify_all, unify_heads, unify_variables, unify_shapes}
use Rattle.unification.specs.Unify.{unify_ends, unify_followed, unify_to}
use Rattle.unification.specs.Acyclic.{One, first, later, Stands, at, within, Numbering}
use Rattle.unification.specs.Solutions.{term_of_shape, term_to, value_bound, value_at, value_to, Respects}
use Rattle.unification.proofs.Rank.{rank_bound, rank_at, rank, highest_agree}
use Rattle.unification.proofs.Parts.{terms_at_agree, occurs_any_agree}
use Rattle.unification.proofs.Follow.{follow_names}
use Rattle.unification.specs.Growing.{Names}

-- the places of P have their parts in P, and the same shape in both graphs
pub record Agree (P : ℕ → Type 0) (shape shape' : ℕ → Shape) : Type 0 where
  pub parts : (p q : ℕ) (h : Head) (ps : List ℕ) → P p → shape p ≡ over h ps → One q ps → P q
  pub same : (p : ℕ) → P p → shape' p ≡ shape p

module _ (P : ℕ → Type 0) (shape shape' : ℕ → Shape) (A : Agree P shape shape') where
  pub term_agrees : (k p : ℕ) → P p → term_to shape' k p ≡ term_to shape k p
  unfolding term_to
  term_agrees zero p x = refl
  term_agrees (suc k) p x = rw (A.same p x) (go (shape p) refl (term_agrees k))
    where
      go : (s : Shape) → shape p ≡ s → ((q : ℕ) → P q → term_to shape' k q ≡ term_to shape k q) → term_of_shape (term_to shape' k) s ≡ term_of_shape (term_to shape k) s
      go (variable v) e ih = refl
      go (over h ps) e ih = ap (app h) (terms_at_agree (term_to shape' k) (term_to shape k) ps (λ q o. ih q (A.parts p q h ps x e o)))

  pub stands_agrees : (u p : ℕ) → P p → Stands shape' u p → Stands shape u p
  stands_agrees u _ x (at p s) = at p (sym (A.same p x) ∙ s)
  stands_agrees u _ x (within p q h ps s o t) =
      let e : shape p ≡ over h ps = sym (A.same p x) ∙ s in
      within p q h ps e o (stands_agrees u q (A.parts p q h ps x e o) t)

  module _ (B : Binds) (b : Names P B) where
    pub follow_agrees : (k p : ℕ) → P p → follow shape' k B p ≡ follow shape k B p
    unfolding follow
    follow_agrees zero p x = refl
    follow_agrees (suc k) p x = rw (A.same p x) (go (shape p) (follow_agrees k))
      where
        bound : (o : Option ℕ) (v : ℕ) → binding B v ≡ o → ((q : ℕ) → P q → follow shape' k B q ≡ follow shape k B q)
            → follow_bound shape' o p (follow shape' k B) ≡ follow_bound shape o p (follow shape k B)
        bound none v e ih = refl
        bound (some q) v e ih = ih q (b v q e)

        go : (s : Shape) → ((q : ℕ) → P q → follow shape' k B q ≡ follow shape k B q)
            → follow_at shape' s B p (follow shape' k B) ≡ follow_at shape s B p (follow shape k B)
        go (variable v) ih = bound (binding B v) v refl ih
        go (over h ps) ih = refl

    pub rank_agrees : (k p : ℕ) → P p → rank shape' k B p ≡ rank shape k B p
    unfolding rank
    rank_agrees zero p x = refl
    rank_agrees (suc k) p x = rw (A.same p x) (go (shape p) refl (rank_agrees k))
      where
        bound : (o : Option ℕ) (v : ℕ) → binding B v ≡ o → ((q : ℕ) → P q → rank shape' k B q ≡ rank shape k B q)
            → rank_bound (rank shape' k B) o ≡ rank_bound (rank shape k B) o
        bound none v e ih = refl
        bound (some q) v e ih = ap suc (ih q (b v q e))

        go : (s : Shape) → shape p ≡ s → ((q : ℕ) → P q → rank shape' k B q ≡ rank shape k B q) → rank_at (rank shape' k B) B s ≡ rank_at (rank shape k B) B s
        go (variable v) e ih = bound (binding B v) v refl ih
        go (over h ps) e ih = highest_agree (rank shape' k B) (rank shape k B) ps (λ q o. ih q (A.parts p q h ps x e o))

    pub value_agrees : (d : ℕ → Term) (k p : ℕ) → P p → value_to shape' B d k p ≡ value_to shape B d k p
    unfolding value_to
    value_agrees d zero p x = refl
    value_agrees d (suc k) p x = rw (A.same p x) (go (shape p) refl (value_agrees d k))
      where
        bound : (o : Option ℕ) (v : ℕ) → binding B v ≡ o → ((q : ℕ) → P q → value_to shape' B d k q ≡ value_to shape B d k q)
            → value_bound d v (value_to shape' B d k) o ≡ value_bound d v (value_to shape B d k) o
        bound none v e ih = refl
        bound (some q) v e ih = ih q (b v q e)

        go : (s : Shape) → shape p ≡ s → ((q : ℕ) → P q → value_to shape' B d k q ≡ value_to shape B d k q)
            → value_at B d (value_to shape' B d k) s ≡ value_at B d (value_to shape B d k) s
        go (variable v) e ih = bound (binding B v) v refl ih
        go (over h ps) e ih = ap (app h) (terms_at_agree (value_to shape' B d k) (value_to shape B d k) ps (λ q o. ih q (A.parts p q h ps x e o)))

    pub occurs_agrees : (u k p : ℕ) → P p → occurs shape' k B u p ≡ occurs shape k B u p
    unfolding occurs
    occurs_agrees u zero p x = refl
    occurs_agrees u (suc k) p x = rw (A.same p x) (go (shape p) refl (occurs_agrees u k))
      where
        bound : (o : Option ℕ) (v : ℕ) → binding B v ≡ o → ((q : ℕ) → P q → occurs shape' k B u q ≡ occurs shape k B u q)
            → occurs_bound shape' o u v (occurs shape' k B u) ≡ occurs_bound shape o u v (occurs shape k B u)
        bound none v e ih = refl
        bound (some q) v e ih = ih q (b v q e)

        go : (s : Shape) → shape p ≡ s → ((q : ℕ) → P q → occurs shape' k B u q ≡ occurs shape k B u q)
            → occurs_at shape' s B u (occurs shape' k B u) ≡ occurs_at shape s B u (occurs shape k B u)
        go (variable v) e ih = bound (binding B v) v refl ih
        go (over h ps) e ih = occurs_any_agree shape shape' (occurs shape' k B u) (occurs shape k B u) ps (λ q o. ih q (A.parts p q h ps x e o))

    -- numbers of variables stay, and so do the solutions of the bindings
    pub numbering_agrees : (n : ℕ) → Numbering shape n B → Numbering shape' n B
    numbering_agrees n N = record { number = N.number; few = N.few; falls = λ v q u e s. N.falls v q u e (stands_agrees u q (b v q e) s) }

    pub respects_agrees : (σ : ℕ → Term) → Respects shape B σ ↔ Respects shape' B σ
    respects_agrees σ = (
      λ r v q e. r v q e ∙ ap (substitute σ) (sym (term_agrees (suc q) q (b v q e))),
      λ r v q e. r v q e ∙ ap (substitute σ) (term_agrees (suc q) q (b v q e)),
    )

  -- unify has the same answer, and after a yes the bindings again name only places of P
  abbrev Alike : Unifies → Unifies → Type 0
  Alike a' a = (a' ≡ a) × ((C : Binds) → a ≡ yes_with C → Names P C)

  no_alike : Alike no_way no_way
  no_alike = (refl, λ C e. no_confusion (cc))

  deep_alike : Alike too_deep too_deep
  deep_alike = (refl, λ C e. no_confusion (cc))

  yes_alike : (B : Binds) → Names P B → Alike (yes_with B) (yes_with B)
  yes_alike B b = (refl, λ C e. subst (Names P) (let z : B ≡ C = cc in z) b)

  pub set_names : (B : Binds) (v r : ℕ) → Names P B → P r → Names P (set B v (some r))
  set_names [] v r b x u q e = b u q e
  set_names (o ∷ B) zero r b x zero q e = subst P (let z : r ≡ q = cc in z) x
  set_names (o ∷ B) zero r b x (suc u) q e = b (suc u) q e
  set_names (o ∷ B) (suc v) r b x zero q e = b zero q e
  set_names (o ∷ B) (suc v) r b x (suc u) q e = set_names B v r (λ u q e. b (suc u) q e) x u q e

  bind_alike : (o : Occurs) (B : Binds) (v r : ℕ) → Names P B → P r → Alike (bind_unless shape' o B v r) (bind_unless shape o B v r)
  bind_alike absent B v r b x = yes_alike (set B v (some r)) (set_names B v r b x)
  bind_alike present B v r b x = no_alike
  bind_alike unknown B v r b x = deep_alike

  abbrev Answers : (Binds → ℕ → ℕ → Unifies) → (Binds → ℕ → ℕ → Unifies) → Type 0
  Answers f' f = (B : Binds) (l r : ℕ) → Names P B → P l → P r → Alike (f' B l r) (f B l r)

  all_alike : (f' f : Binds → ℕ → ℕ → Unifies) → Answers f' f → (ps qs : List ℕ) → ((q : ℕ) → One q ps → P q)
      → ((q : ℕ) → One q qs → P q) → (B : Binds) → Names P B
      → Alike (unify_all shape' f' B ps qs) (unify_all shape f B ps qs)
  all_alike f' f h [] [] x y B b = yes_alike B b
  all_alike f' f h [] (q ∷ qs) x y B b = no_alike
  all_alike f' f h (p ∷ ps) [] x y B b = no_alike
  all_alike f' f h (p ∷ ps) (q ∷ qs) x y B b =
      let a = h B p q b (x p (first ps)) (y q (first qs)) in
      rw a.0 (go (f B p q) a.1 (all_alike f' f h ps qs (λ r o. x r (later p ps o)) (λ r o. y r (later q qs o))))
    where
      go : (a : Unifies) → ((C : Binds) → a ≡ yes_with C → Names P C) → ((C : Binds) → Names P C
          → Alike (unify_all shape' f' C ps qs) (unify_all shape f C ps qs))
          → Alike (and_then a (λ C. unify_all shape' f' C ps qs)) (and_then a (λ C. unify_all shape f C ps qs))
      go (yes_with C) n ih = ih C (n C refl)
      go no_way n ih = no_alike
      go too_deep n ih = deep_alike

  unify_alike : (w k : ℕ) → Answers (unify_to shape' w k) (unify_to shape w k)
  unfolding unify_to
  unify_alike w zero B l r b x y = deep_alike
  unify_alike w (suc k) B l r b x y =
      rw (follow_agrees B b w l x, follow_agrees B b w r y)
      (followed (follow shape w B l) (follow shape w B r) (λ q e. follow_names shape B P b w l q x e)
      (λ q e. follow_names shape B P b w r q y e) (unify_alike w k))
    where
      heads : (h : Bool) (ps qs : List ℕ) → ((q : ℕ) → One q ps → P q) → ((q : ℕ) → One q qs → P q) → Answers (unify_to shape' w k) (unify_to shape w k)
          → Alike (unify_heads shape' h (unify_to shape' w k) B ps qs) (unify_heads shape h (unify_to shape w k) B ps qs)
      heads true ps qs x y ih = all_alike (unify_to shape' w k) (unify_to shape w k) ih ps qs x y B b
      heads false ps qs x y ih = no_alike

      variables : (h : Bool) (v r : ℕ) → P r → Alike (unify_variables shape' h B v r) (unify_variables shape h B v r)
      variables true v r y = yes_alike B b
      variables false v r y = yes_alike (set B v (some r)) (set_names B v r b y)

      shapes : (l r : ℕ) → P l → P r → (s t : Shape) → shape l ≡ s → shape r ≡ t → Answers (unify_to shape' w k) (unify_to shape w k)
          → Alike (unify_shapes shape' w (unify_to shape' w k) B l s r t) (unify_shapes shape w (unify_to shape w k) B l s r t)
      shapes l r x y (variable v) (variable u) i j ih = variables (eqb v u) v r y
      shapes l r x y (variable v) (over h qs) i j ih = rw (occurs_agrees B b v w r y) (bind_alike (occurs shape w B v r) B v r b y)
      shapes l r x y (over h ps) (variable u) i j ih = rw (occurs_agrees B b u w l x) (bind_alike (occurs shape w B u l) B u l b x)
      shapes l r x y (over h ps) (over g qs) i j ih = heads (same_head h g) ps qs (λ q o. A.parts l q h ps x i o) (λ q o. A.parts r q g qs y j o) ih

      ends : (c : Bool) (l r : ℕ) → P l → P r → Answers (unify_to shape' w k) (unify_to shape w k)
          → Alike (unify_ends shape' c w (unify_to shape' w k) B l r) (unify_ends shape c w (unify_to shape w k) B l r)
      ends true l r x y ih = yes_alike B b
      ends false l r x y ih = rw (A.same l x, A.same r y) (shapes l r x y (shape l) (shape r) refl refl ih)

      followed : (o p : Option ℕ) → ((q : ℕ) → o ≡ some q → P q) → ((q : ℕ) → p ≡ some q → P q) → Answers (unify_to shape' w k) (unify_to shape w k)
          → Alike (unify_followed shape' w (unify_to shape' w k) B o p) (unify_followed shape w (unify_to shape w k) B o p)
      followed none p x y ih = deep_alike
      followed (some l) none x y ih = deep_alike
      followed (some l) (some r) x y ih = ends (eqb l r) l r (x l refl) (y r refl) ih

  module _ (B : Binds) (b : Names P B) where
    pub unify_agrees : (w k l r : ℕ) → P l → P r → unify_to shape' w k B l r ≡ unify_to shape w k B l r
    unify_agrees w k l r x y = (unify_alike w k B l r b x y).0

    pub unify_names : (w k l r : ℕ) (C : Binds) → P l → P r → unify_to shape w k B l r ≡ yes_with C → Names P C
    unify_names w k l r C x y e = (unify_alike w k B l r b x y).1 C e
