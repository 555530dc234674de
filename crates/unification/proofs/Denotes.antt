-- Answers depend only on what places stand for. Robinson's theorem says of an answer which terms for the variables solve it; so two problems with
-- the same solutions have the same answer, whatever the lists, the bindings and the numbers of the places are. What resolve answers is a function of
-- the term of a place. Assumes nothing.
use mathlib.Core.List.{List}
use mathlib.Core.Logic.{◌↔◌}
use Prim.Native.Nat.{ℕ}
use Rattle.unification.specs.Term.{Term, var, Shape}
use Rattle.unification.specs.Nodes.{shape_at, Binds}
use Rattle.unification.specs.Unify.{Unifies, unify}
use Rattle.unification.specs.Checked.{NodesChecked, lists_of, BindsChecked}
use Rattle.unification.specs.Solutions.{Respects, Equates, Robinson, says_no, says_yes, SameProblem, SameAnswer, both_no, both_yes}
use Rattle.unification.proofs.Theorem.{unify_is_robinson}

module _ (shape shape' : ℕ → Shape) (B : Binds) (l r : ℕ) (B' : Binds) (l' r' : ℕ) where
  same_solutions : SameProblem shape shape' B l r B' l' r' → (σ : ℕ → Term)
      → (Respects shape B σ × Equates shape σ l r) ↔ (Respects shape' B' σ × Equates shape' σ l' r')
  same_solutions s σ = (
    λ h. ((s.respects σ).0 h.0, (s.equates σ h.0).0 h.1),
    λ h. let b = (s.respects σ).1 h.0 in (b, (s.equates σ b).1 h.1),
  )

  pub same_answer : SameProblem shape shape' B l r B' l' r' → (a a' : Unifies) → Robinson shape B l r a
      → Robinson shape' B' l' r' a' → SameAnswer shape shape' a a'
  same_answer s _ _ (says_no n) (says_no n') = both_no
  same_answer s _ _ (says_no n) (says_yes C' to' from' a' ex') =
      let h = (same_solutions s (ex' var).0).1 (to' (ex' var).0 (ex' var).1.0) in
      absurd (n (ex' var).0 h.0 h.1)
  same_answer s _ _ (says_yes C to from a ex) (says_no n') =
      let h = (same_solutions s (ex var).0).0 (to (ex var).0 (ex var).1.0) in
      absurd (n' (ex var).0 h.0 h.1)
  same_answer s _ _ (says_yes C to from a ex) (says_yes C' to' from' a' ex') =
      both_yes C C'
      (λ σ. (
        λ t. let h = (same_solutions s σ).0 (to σ t) in from' σ h.0 h.1,
        λ t. let h = (same_solutions s σ).1 (to' σ t) in from σ h.0 h.1,
      ))

-- The same for two calls of unify, each on lists and bindings that passed their checks.
module _
    (ws : List ℕ) (n e : ℕ) (ns : List ℕ) (m d v : ℕ) (c : NodesChecked ws n e ns m d v) (B : Binds) (b : BindsChecked (lists_of ws n ns m) v B)
    (ws' : List ℕ) (n' e' : ℕ) (ns' : List ℕ) (m' d' v' : ℕ) (c' : NodesChecked ws' n' e' ns' m' d' v') (B' : Binds)
    (b' : BindsChecked (lists_of ws' n' ns' m') v' B') where
  abbrev shape : ℕ → Shape
  shape = shape_at (lists_of ws n ns m)

  abbrev shape' : ℕ → Shape
  shape' = shape_at (lists_of ws' n' ns' m')

  pub unify_same_answer : (l r l' r' : ℕ) → SameProblem shape shape' B l r B' l' r' → SameAnswer shape shape' (unify shape B l r) (unify shape' B' l' r')
  unify_same_answer l r l' r' s =
      same_answer shape shape' B l r B' l' r' s (unify shape B l r) (unify shape' B' l' r') (unify_is_robinson ws n e
      ns m d v c B b l r) (unify_is_robinson ws' n' e' ns' m' d' v' c' B' b' l' r')
