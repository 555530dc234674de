-- An answer has at most three places, and no room is 15, with the lists as they were given, or 16: numbers have three at most, a container one, a
-- function as many as its range; interning comes before any node is made. Assumes nothing.
use mathlib.Core.Path.{◌≡◌, refl, subst}
use mathlib.Core.List.{List}
use mathlib.Core.Option.{Option, none, some}
use mathlib.Core.Bool.{Bool, true, false}
use mathlib.Core.Logic.{◌⊎◌, inl, inr}
use Prim.Native.Nat.{ℕ, zero, suc, ◌≤◌}
use native.Mathlib.Omega.{arith}
use lib.ListN.{length, get_or, take}
use Rattle.resolved_sort.specs.declared.Sort.{Sort}
use Rattle.resolved_sort.specs.Tree.{Flat, unit, primitive, def, typevar}
use Rattle.unification.specs.Term.{flat_head, container_head, function_head, stray_head, Shape, variable, over}
use Rattle.unification.specs.Nodes.{is_sort, Binds}
use Rattle.unification.specs.Unify.{follow, deep}
use Rattle.unification.specs.Related.{related_numbers, related_container}
use Rattle.unification.specs.Making.{Lent, graph, Makes, made, no_room, related_over, push_functions}
use Rattle.unification.specs.Making.{related_places, related_shape, related_end, related_to, strict_related}
use Rattle.unification.proofs.Outcomes.{Each, each_then, each_weaker, each_over, each_functions}

three_at_most : (up : Bool) (a : Flat) → length (related_places up a) ≤ 3
unfolding related_numbers
three_at_most up unit = omega arith
three_at_most up (primitive Sort.Bool) = omega arith
three_at_most true (primitive Sort.Pos) = omega arith
three_at_most true (primitive Sort.Nat) = omega arith
three_at_most true (primitive Sort.Int) = omega arith
three_at_most true (primitive Sort.Real) = omega arith
three_at_most false (primitive Sort.Pos) = omega arith
three_at_most false (primitive Sort.Nat) = omega arith
three_at_most false (primitive Sort.Int) = omega arith
three_at_most false (primitive Sort.Real) = omega arith
three_at_most up (def n) = omega arith
three_at_most up (typevar n) = omega arith

module _ (W : Lent) where
  abbrev Few : List ℕ → Lent → Type 0
  Few qs W' = length qs ≤ 3

  abbrev Codes : ℕ → Lent → Type 0
  Codes c W' = ((c ≡ 15) × (W' ≡ W)) ⊎ (c ≡ 16)

  abbrev Fair : Makes (List ℕ) → Type 0
  Fair x = Each Few (λ W'. Unit {0}) Codes x

  shapes : (up : Bool) (f : ℕ → Lent → Makes (List ℕ)) → ((r : ℕ) → Fair (f r W)) → (b : Bool) (s : Shape) → Fair (related_shape up f b s W)
  shapes up f h b (variable v) = tt
  shapes up f h b (over (flat_head a) ps) = three_at_most up a
  shapes up f h b (over (container_head o) ps) =
      each_weaker (λ qs W'. length qs ≤ 1) Few (λ W'. Unit {0}) Codes (related_over (related_container up o) b (get_or ps 0 0) W) (λ qs W' l. omega (arith, l))
      (each_over (λ W'. Unit {0}) Codes (related_container up o) b (get_or ps 0 0) W (inl (refl, refl)) (inr refl))
  shapes up f h b (over (function_head n) ps) =
      each_then Few Few (λ W'. Unit {0}) Codes (f (get_or ps n 0) W) (push_functions (take n ps)) (h (get_or ps n 0))
      (λ rs W' l. each_weaker (λ qs W''. length qs ≡ length rs) Few (λ W''. Unit {0}) Codes (push_functions (take n ps) rs W') (λ qs W'' e. omega (arith, l, e))
      (each_functions (λ W''. Unit {0}) Codes (λ W''. inr refl) (take n ps) rs W'))
  shapes up f h b (over (stray_head x) ps) = omega arith

  fair : (up : Bool) (B : Binds) (k p : ℕ) → Fair (related_to up B k p W)
  unfolding related_to
  fair up B zero p = tt
  fair up B (suc k) p = ends (follow (graph W) deep B p) (fair up B k)
    where
      ends : (o : Option ℕ) → ((r : ℕ) → Fair (related_to up B k r W)) → Fair (related_end up (related_to up B k) o W)
      ends none h = tt
      ends (some q) h = shapes up (related_to up B k) h (is_sort q) (graph W q)

  module _ (up : Bool) (B : Binds) (p : ℕ) where
    related_fair : Fair (strict_related up B p W)
    unfolding strict_related
    related_fair = fair up B deep p

    pub at_most_three_places : (qs : List ℕ) (W' : Lent) → strict_related up B p W ≡ made qs W' → length qs ≤ 3
    at_most_three_places qs W' e = subst Fair e related_fair

    full : (c : ℕ) (W' : Lent) → strict_related up B p W ≡ no_room c W' → Codes c W'
    full c W' e = subst Fair e related_fair

    pub no_room_is_15_or_16 : (c : ℕ) (W' : Lent) → strict_related up B p W ≡ no_room c W' → (c ≡ 15) ⊎ (c ≡ 16)
    no_room_is_15_or_16 c W' e = go (full c W' e)
      where
        go : Codes c W' → (c ≡ 15) ⊎ (c ≡ 16)
        go (inl h) = inl h.0
        go (inr h) = inr h

    pub no_room_for_a_sort_makes_nothing : (W' : Lent) → strict_related up B p W ≡ no_room 15 W' → W' ≡ W
    no_room_for_a_sort_makes_nothing W' e = go (full 15 W' e)
      where
        go : Codes 15 W' → W' ≡ W
        go (inl h) = h.1
        go (inr h) = absurd (omega (arith, h))
