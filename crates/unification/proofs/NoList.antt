-- There is no list exactly for a free variable and for a function whose final range is free, and then nothing was made. By rank: only a variable has
-- no list by itself, and a function has none exactly where its range, which has a lower rank and is asked first, has none. Assumes nothing.
use mathlib.Core.Path.{◌≡◌, refl, sym, ◌∙◌, subst}
use mathlib.Core.List.{List}
use mathlib.Core.Option.{none, some}
use mathlib.Core.Bool.{Bool}
use mathlib.Core.Logic.{◌↔◌}
use Prim.Native.Nat.{ℕ, zero, suc, ◌<◌, ◌≤◌}
use native.Mathlib.Omega.{arith}
use lib.ListN.{length, get_or, take}
use Rattle.unification.specs.Term.{Head, flat_head, container_head, function_head, stray_head, Shape, variable, over}
use Rattle.unification.specs.Nodes.{is_sort, Binds, binding, binds_of}
use Rattle.unification.specs.Unify.{follow, deep}
use Rattle.unification.specs.Checked.{Ready}
use Rattle.unification.specs.Related.{related_container}
use Rattle.unification.specs.Making.{Lent, graph, Makes, made, no_list, no_room, ◌and-then◌, related_over}
use Rattle.unification.specs.Making.{push_functions, related_shape, related_to, strict_related}
use Rattle.unification.specs.FinalRange.{FreeEnd, free, bound_to, range}
use Rattle.unification.proofs.Rank.{rank, Ranked}
use Rattle.unification.proofs.Follow.{follow_holds, follow_end}
use Rattle.unification.proofs.Enough.{follow_some, follow_eq}
use Rattle.unification.proofs.Outcomes.{Each, Any, each_weaker, each_over, each_functions}
use Rattle.unification.proofs.RelatedEq.{range_lower, related_eq}
use Rattle.unification.proofs.Theorem.{ready_ranked}

-- A place is so exactly if its end is.
free_from_end : (shape : ℕ → Shape) (B : Binds) (k p q : ℕ) → follow shape k B p ≡ some q → FreeEnd shape B q → FreeEnd shape B p
free_from_end shape B = follow_holds shape B (λ p q. FreeEnd shape B q → FreeEnd shape B p) (λ p i h. h) (λ p v r q s b ih h. bound_to p v r s b (ih h))

module _ (shape : ℕ → Shape) (w : ℕ) (B : Binds) (A : Ranked shape w B) where
  variable_ends : (p v : ℕ) → shape p ≡ variable v → binding B v ≡ none → follow shape w B p ≡ some p
  variable_ends p v s b = follow_eq shape w B A p ∙ rw s (rw b)

  head_ends : (p : ℕ) (h : Head) (ps : List ℕ) → shape p ≡ over h ps → follow shape w B p ≡ some p
  head_ends p h ps s = follow_eq shape w B A p ∙ rw s

  binding_followed : (p v q : ℕ) → shape p ≡ variable v → binding B v ≡ some q → follow shape w B p ≡ follow shape w B q
  binding_followed p v q s b = follow_eq shape w B A p ∙ rw s (rw b)

  free_at_end : (p q : ℕ) → follow shape w B p ≡ some q → FreeEnd shape B p → FreeEnd shape B q
  free_at_end _ q e (free p v s b) = let x = variable_ends p v s b in let z : p ≡ q = cc in subst (FreeEnd shape B) z (free p v s b)
  free_at_end _ q e (bound_to p v x s b h) = free_at_end x q (sym (binding_followed p v x s b) ∙ e) h
  free_at_end _ q e (range p n ps s h) = let x = head_ends p (function_head n) ps s in let z : p ≡ q = cc in subst (FreeEnd shape B) z (range p n ps s h)

module _ (W : Lent) (B : Binds) (A : Ranked (graph W) deep B) (up : Bool) where
  -- no list only for such a place, and then with the lists as they were
  abbrev pub Free : ℕ → Lent → Type 0
  Free p W' = FreeEnd (graph W) B p × (W' ≡ W)

  abbrev pub OnlyFree : ℕ → Makes (List ℕ) → Type 0
  OnlyFree p x = Each Any (Free p) Any x

  -- by the outcome for the range
  functions : (p r : ℕ) (xs : List ℕ) → (FreeEnd (graph W) B r → FreeEnd (graph W) B p) → (x : Makes (List ℕ))
      → OnlyFree r x → OnlyFree p (x and-then (push_functions xs))
  functions p r xs f (made rs W') h =
      each_weaker (λ ps W''. length ps ≡ length rs) Any (Free p) Any (push_functions xs rs W') (λ ps W'' e. tt) (each_functions (Free p) Any (λ W''. tt) xs rs W')
  functions p r xs f (no_list W') h = (f h.0, h.1)
  functions p r xs f (no_room c W') h = tt

  shapes : (p q : ℕ) → follow (graph W) deep B p ≡ some q → (f : ℕ → Lent → Makes (List ℕ))
      → ((r : ℕ) → rank (graph W) deep B r < rank (graph W) deep B q → OnlyFree r (f r W))
      → (b : Bool) (s : Shape) → graph W q ≡ s → OnlyFree p (related_shape up f b s W)
  shapes p q e f h b (variable v) s = (free_from_end (graph W) B deep p q e (free q v s (follow_end (graph W) B deep p q v e s)), refl)
  shapes p q e f h b (over (flat_head a) ps) s = tt
  shapes p q e f h b (over (container_head o) ps) s =
      each_weaker (λ qs W'. length qs ≤ 1) Any (Free p) Any (related_over (related_container up o) b (get_or ps 0 0) W) (λ qs W' l. tt)
      (each_over (Free p) Any (related_container up o) b (get_or ps 0 0) W tt tt)
  shapes p q e f h b (over (function_head n) ps) s =
      functions p (get_or ps n 0) (take n ps) (λ x. free_from_end (graph W) B deep p q e (range q n ps s x))
      (f (get_or ps n 0) W) (h (get_or ps n 0) (range_lower W B A q n ps s))
  shapes p q e f h b (over (stray_head x) ps) s = tt

  pub only_free : (k p : ℕ) → rank (graph W) deep B p < k → OnlyFree p (related_to up B k p W)
  unfolding related_to
  only_free zero p l = absurd (omega (arith, l))
  only_free (suc k) p l =
      let x = follow_some (graph W) deep B A deep p (A.short p) in
      rw x.1 (shapes p x.0 x.1 (related_to up B k) (λ r m. only_free k r (omega (arith, l, m, x.2))) (is_sort x.0) (graph W x.0) refl)

  -- and such a place has none
  pub has_none : (p : ℕ) → FreeEnd (graph W) B p → strict_related up B p W ≡ no_list W
  has_none _ (free p v s b) = related_eq W B A up p ∙ rw (variable_ends (graph W) deep B A p v s b) (rw s)
  has_none _ (bound_to p v q s b h) =
      related_eq W B A up p ∙ (rw (binding_followed (graph W) deep B A p v q s b) (sym (related_eq W B A up q)) ∙ has_none q h)
  has_none _ (range p n ps s h) =
      related_eq W B A up p ∙ rw (head_ends (graph W) deep B A p (function_head n) ps s) (rw s (rw (has_none (get_or ps n 0) h)))

-- For lists that passed their checks.
module _ (W : Lent) (bs : List ℕ) (R : Ready W.sorts W.nodes bs W.lengths) (up : Bool) (p : ℕ) where
  abbrev B : Binds
  B = binds_of bs W.lengths.variables

  abbrev A : Ranked (graph W) deep B
  A = ready_ranked W.sorts W.nodes bs W.lengths R

  without : (W' : Lent) → strict_related up B p W ≡ no_list W' → FreeEnd (graph W) B p × (W' ≡ W)
  unfolding strict_related
  without W' e = subst (OnlyFree W B A up p) e (only_free W B A up deep p (A.short p))

  pub no_list_makes_nothing : (W' : Lent) → strict_related up B p W ≡ no_list W' → W' ≡ W
  no_list_makes_nothing W' e = (without W' e).1

  pub free_has_no_list : FreeEnd (graph W) B p → strict_related up B p W ≡ no_list W
  free_has_no_list h = has_none W B A up p h

  pub no_list_exactly : ((W' : Lent) × (strict_related up B p W ≡ no_list W')) ↔ FreeEnd (graph W) B p
  no_list_exactly = (λ h. (without h.0 h.1).0, λ h. (W, free_has_no_list h))
