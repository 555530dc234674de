-- What is bound stays bound: a yes of unify only adds bindings. By induction on the depth: the end of a place is no bound variable, so what is
-- bound at an end was free, and binding it changes no other variable. Nothing is asked of the lists. Assumes nothing.
use mathlib.Core.Path.{◌≡◌, refl, sym, ◌∙◌, ap}
use mathlib.Core.List.{List, [], ◌∷◌}
use mathlib.Core.Option.{Option, none, some}
use mathlib.Core.Bool.{Bool, true, false}
use Prim.Native.Nat.{ℕ, zero, suc}
use lib.Dec.{eqb}
use lib.ListN.{length, set, length-set}
use lib.Seq.{get_or-set_other}
use Rattle.unification.specs.Term.{Shape, variable, over, same_head}
use Rattle.resolved_sort.proofs.Reached.{no_confusion}
use Rattle.unification.specs.Nodes.{Binds, binding}
use Rattle.unification.specs.Unify.{Unifies, yes_with, no_way, too_deep, and_then, Occurs, absent, present}
use Rattle.unification.specs.Unify.{unknown, follow, occurs, bind_unless, unify_all, unify_heads, unify_variables}
use Rattle.unification.specs.Unify.{unify_shapes, unify_ends, unify_followed, unify_to, unify, deep}
use Rattle.unification.specs.Unify.{deeper}
use Rattle.unification.proofs.Follow.{follow_end}
use Rattle.unification.specs.Growing.{BindsExtend}

pub extends_refl : (B : Binds) → BindsExtend B B
extends_refl B = record { stays = λ u q e. e; long = refl }

pub extends_trans : (B C D : Binds) → BindsExtend B C → BindsExtend C D → BindsExtend B D
extends_trans B C D x y = record { stays = λ u q e. y.stays u q (x.stays u q e); long = y.long ∙ x.long }

extends_set : (B : Binds) (v r : ℕ) → binding B v ≡ none → BindsExtend B (set B v (some r))
extends_set B v r free =
    record {
      stays = λ u q e. get_or-set_other B v u (some r) none (λ i. let z : none ≡ some q = sym free ∙ (ap (binding B) (sym i) ∙ e) in no_confusion cc) ∙ e;
      long = length-set B v (some r);
    }

-- of an answer: a yes extends
abbrev Adds : Binds → Unifies → Type 0
Adds B too_deep = Unit {0}
Adds B no_way = Unit {0}
Adds B (yes_with C) = BindsExtend B C

module _ (shape : ℕ → Shape) where
  all_adds : (f : Binds → ℕ → ℕ → Unifies) → ((B : Binds) (a b : ℕ) → Adds B (f B a b)) → (ps qs : List ℕ) (B : Binds) → Adds B (unify_all shape f B ps qs)
  all_adds f h [] [] B = extends_refl B
  all_adds f h [] (q ∷ qs) B = tt
  all_adds f h (p ∷ ps) [] B = tt
  all_adds f h (p ∷ ps) (q ∷ qs) B = go (f B p q) (h B p q) (all_adds f h ps qs)
    where
      then : (C : Binds) → BindsExtend B C → (a : Unifies) → Adds C a → Adds B a
      then C x too_deep y = tt
      then C x no_way y = tt
      then C x (yes_with D) y = extends_trans B C D x y

      go : (a : Unifies) → Adds B a → ((C : Binds) → Adds C (unify_all shape f C ps qs)) → Adds B (and_then a (λ C. unify_all shape f C ps qs))
      go too_deep x t = tt
      go no_way x t = tt
      go (yes_with C) x t = then C x (unify_all shape f C ps qs) (t C)

  unify_adds : (w k : ℕ) (B : Binds) (l r : ℕ) → Adds B (unify_to shape w k B l r)
  unfolding unify_to
  unify_adds w zero B l r = tt
  unify_adds w (suc k) B l r = followed (follow shape w B l) refl (follow shape w B r) refl (unify_adds w k)
    where
      bind : (a : Occurs) (v q : ℕ) → binding B v ≡ none → Adds B (bind_unless shape a B v q)
      bind absent v q e = extends_set B v q e
      bind present v q e = tt
      bind unknown v q e = tt

      variables : (b : Bool) (v q : ℕ) → binding B v ≡ none → Adds B (unify_variables shape b B v q)
      variables true v q e = extends_refl B
      variables false v q e = extends_set B v q e

      heads : (b : Bool) (ps qs : List ℕ) → ((B : Binds) (a b : ℕ) → Adds B (unify_to shape w k B a b)) → Adds B (unify_heads shape b (unify_to shape w k) B ps qs)
      heads true ps qs ih = all_adds (unify_to shape w k) ih ps qs B
      heads false ps qs ih = tt

      shapes : (p q : ℕ) (s t : Shape) → ((v : ℕ) → s ≡ variable v → binding B v ≡ none) → ((v : ℕ) → t ≡ variable v → binding B v ≡ none)
          → ((B : Binds) (a b : ℕ) → Adds B (unify_to shape w k B a b)) → Adds B (unify_shapes shape w (unify_to shape w k) B p s q t)
      shapes p q (variable v) (variable u) x y ih = variables (eqb v u) v q (x v refl)
      shapes p q (variable v) (over h qs) x y ih = bind (occurs shape w B v q) v q (x v refl)
      shapes p q (over h ps) (variable u) x y ih = bind (occurs shape w B u p) u p (y u refl)
      shapes p q (over h ps) (over g qs) x y ih = heads (same_head h g) ps qs ih

      ends : (b : Bool) (p q : ℕ) → ((v : ℕ) → shape p ≡ variable v → binding B v ≡ none) → ((v : ℕ) → shape q ≡ variable v → binding B v ≡ none)
          → ((B : Binds) (a b : ℕ) → Adds B (unify_to shape w k B a b)) → Adds B (unify_ends shape b w (unify_to shape w k) B p q)
      ends true p q x y ih = extends_refl B
      ends false p q x y ih = shapes p q (shape p) (shape q) x y ih

      followed : (a : Option ℕ) → follow shape w B l ≡ a → (b : Option ℕ) → follow shape w B r ≡ b → ((B : Binds) (a b : ℕ) → Adds B (unify_to shape w k B a b))
          → Adds B (unify_followed shape w (unify_to shape w k) B a b)
      followed none x b y ih = tt
      followed (some p) x none y ih = tt
      followed (some p) x (some q) y ih = ends (eqb p q) p q (λ v. follow_end shape B w l p v x) (λ v. follow_end shape B w r q v y) ih

  -- A yes of unify extends the bindings: as many variables, and what was bound is bound to the same place.
  pub unify_extends : (B : Binds) (l r : ℕ) (C : Binds) → unify shape B l r ≡ yes_with C → BindsExtend B C
  unfolding unify
  unify_extends B l r C e = rw e at (unify_adds deep deeper B l r)

  pub bound_stays : (B : Binds) (l r : ℕ) (C : Binds) → unify shape B l r ≡ yes_with C → (u q : ℕ) → binding B u ≡ some q → binding C u ≡ some q
  bound_stays B l r C e = (unify_extends B l r C e).stays

  pub as_many_variables : (B : Binds) (l r : ℕ) (C : Binds) → unify shape B l r ≡ yes_with C → length C ≡ length B
  as_many_variables B l r C e = (unify_extends B l r C e).long
