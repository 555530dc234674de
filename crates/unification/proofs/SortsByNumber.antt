-- Two sorts unify exactly if their numbers are equal. A sort has no variables, and two of a list that passes check 4 differ by structure, so no terms
-- make them equal and Robinson's answer is a no; a place and itself have one end, which is a yes that binds nothing. Assumes nothing.
use mathlib.Core.Path.{◌≡◌, refl, ◌∙◌}
use mathlib.Core.Bool.{true}
use mathlib.Core.List.{List}
use Prim.Native.Nat.{ℕ}
use borrow.Author.Tests.{eq-eqb}
use Rattle.unification.specs.Term.{Shape, var}
use Rattle.unification.specs.Nodes.{is_sort, shape_at, Binds}
use Rattle.unification.specs.Unify.{Unifies, yes_with, no_way, unify, deep, deeper}
use Rattle.unification.specs.Checked.{NodesChecked, lists_of, BindsChecked}
use Rattle.unification.specs.Solutions.{Robinson, says_no, says_yes}
use Rattle.unification.proofs.Enough.{follow_some}
use Rattle.unification.proofs.Equations.{unify_eq}
use Rattle.unification.proofs.Lists.{lower, scoped, apart}
use Rattle.unification.proofs.Solved.{value, value_by_shape}
use Rattle.unification.proofs.Theorem.{deep_enough, deeper_enough, checked_ranked, unify_is_robinson}

module _ (ws : List ℕ) (n e : ℕ) (ns : List ℕ) (m d v : ℕ) (c : NodesChecked ws n e ns m d v) (B : Binds)
    (b : BindsChecked (lists_of ws n ns m) v B) where
  abbrev shape : ℕ → Shape
  shape = shape_at (lists_of ws n ns m)

  pub different_sorts_do_not_unify : (l r : ℕ) → is_sort l ≡ true → is_sort r ≡ true → (l ≡ r → ⊥) → unify shape B l r ≡ no_way
  different_sorts_do_not_unify l r x y z = go (unify shape B l r) (unify_is_robinson ws n e ns m d v c B b l r)
    where
      go : (a : Unifies) → Robinson shape B l r a → a ≡ no_way
      go _ (says_no h) = refl
      go _ (says_yes C sound complete acyclic solution) =
          let s = solution var in
          let low = lower ws n e ns m d v c in
          absurd (apart ws n e ns m d v c l r x y z s.0 (value shape 3072 low s.0) (value_by_shape shape 3072 low s.0) (sound s.0 s.1.0).1)

  pub one_place_unifies_with_itself : (p : ℕ) → unify shape B p p ≡ yes_with B
  unfolding unify
  one_place_unifies_with_itself p =
      let A = checked_ranked ws n e ns m d v c B b in
      let f = follow_some shape deep B A deep p (A.short p) in
      unify_eq shape 3072 (lower ws n e ns m d v c) v (scoped ws n e ns m d v c) deep (deep_enough ws n e ns m d v c) deeper
      (deeper_enough ws n e ns m d v c) B p p b.many b.numbered
      ∙ rw (f.1, eq-eqb f.0 f.0 refl)
