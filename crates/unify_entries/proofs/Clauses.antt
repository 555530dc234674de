-- What is said of unify (`LeftSays`), each clause read alone, and that it leaves a call one answer: a refusal is the first failing check's; a no has no
-- solution and a yes has one, since the variables still free may stand for themselves. The words of a yes are not one: any bindings do that have
-- the solutions of the given ones under which the two places are equal. By the cases of the answers. Assumes nothing.
use mathlib.Core.Path.{◌≡◌, refl, ap}
use mathlib.Core.Bool.{Bool, true, false}
use mathlib.Core.List.{List}
use mathlib.Core.Logic.{◌↔◌}
use Prim.Native.Nat.{ℕ}
use lib.ListN.{length, drop}
use Rattle.std.specs.Prelude.{Result, Ok, Err}
use Rattle.resolved_sort.specs.declared.Refusal.{Refusal}
use Rattle.resolved_sort.specs.Checks.{first_failing}
use Rattle.resolved_sort.proofs.Reached.{no_confusion}
use Rattle.unification.specs.Term.{Term, Shape}
use Rattle.unification.specs.Nodes.{Binds, shape_at, binds_of}
use Rattle.unification.specs.Unify.{yes_with, no_way}
use Rattle.unification.specs.Acyclic.{Acyclic}
use Rattle.unification.specs.NodeChecks.{unify_checks}
use Rattle.unification.specs.Checked.{lists_of}
use Rattle.unification.specs.Solutions.{Respects, Solves}
use Rattle.unification.proofs.RobinsonSays.{no_exactly_if_no_solution, yes_has_exactly_the_solutions, yes_is_acyclic}
use Rattle.unify_entries.specs.Left.{failing, LeftNo, LeftYes, LeftSays}

module _ (ws : List ℕ) (n e : ℕ) (ns : List ℕ) (m d : ℕ) (bs : List ℕ) (v l r : ℕ) where
  abbrev shape : ℕ → Shape
  shape = shape_at (lists_of ws n ns m)

  abbrev B : Binds
  B = binds_of bs v

  module _ (vs : List ℕ) where
    pub refused_by_the_first_failing : (c : Refusal) → LeftSays ws n e ns m d bs v l r vs (Err c) → (failing ws n e ns m d bs v l r ≡ Err c) × (vs ≡ bs)
    refused_by_the_first_failing c x = (x.first, x.given)

    pub no_has_no_solution : LeftSays ws n e ns m d bs v l r vs (Ok false)
        → (failing ws n e ns m d bs v l r ≡ Ok tt) × (vs ≡ bs) × ((σ : ℕ → Term) → Solves shape B l r σ → ⊥)
    no_has_no_solution x = (x.passed, x.given, λ σ s. x.no_solution σ s.0 s.1)

    -- the solutions of the words left are those of the given ones under which the two places are equal
    pub yes_leaves_exactly_the_solutions : LeftSays ws n e ns m d bs v l r vs (Ok true)
        → ((σ : ℕ → Term) → Respects shape (binds_of vs v) σ ↔ Solves shape B l r σ) × Acyclic shape (binds_of vs v)
    yes_leaves_exactly_the_solutions x =
        (yes_has_exactly_the_solutions shape B l r (binds_of vs v) x.solved, yes_is_acyclic shape B l r (binds_of vs v) x.solved)

    pub yes_leaves_words_that_pass_again : LeftSays ws n e ns m d bs v l r vs (Ok true)
        → (failing ws n e ns m d bs v l r ≡ Ok tt) × (length vs ≡ length bs) × (drop v vs ≡ drop v bs)
        × (first_failing (unify_checks ws n e ns m d vs v l r) ≡ Ok tt)
    yes_leaves_words_that_pass_again x = (x.passed, x.long, x.past, x.again)

  no_or_yes : (vs us : List ℕ) → LeftNo ws n e ns m d bs v l r vs → LeftYes ws n e ns m d bs v l r us → ⊥
  no_or_yes vs us x y =
      let z : yes_with (binds_of us v) ≡ no_way =
      (no_exactly_if_no_solution shape B l r (yes_with (binds_of us v)) y.solved).1 (λ σ s. x.no_solution σ s.0 s.1) in
      no_confusion (cc)

  -- a call has one answer
  pub one_answer : (vs us : List ℕ) (x y : Result Bool Refusal) → LeftSays ws n e ns m d bs v l r vs x → LeftSays ws n e ns m d bs v l r us y → x ≡ y
  one_answer vs us (Err c) (Err k) p q = let f = p.first in let g = q.first in let z : c ≡ k = cc in ap Err z
  one_answer vs us (Err c) (Ok false) p q = let f = p.first in let g = q.passed in no_confusion (cc)
  one_answer vs us (Err c) (Ok true) p q = let f = p.first in let g = q.passed in no_confusion (cc)
  one_answer vs us (Ok false) (Err k) p q = let f = p.passed in let g = q.first in no_confusion (cc)
  one_answer vs us (Ok false) (Ok false) p q = refl
  one_answer vs us (Ok false) (Ok true) p q = absurd (no_or_yes vs us p q)
  one_answer vs us (Ok true) (Err k) p q = let f = p.passed in let g = q.first in no_confusion (cc)
  one_answer vs us (Ok true) (Ok false) p q = absurd (no_or_yes us vs q p)
  one_answer vs us (Ok true) (Ok true) p q = refl

  -- and two yeses leave bindings with the same solutions
  pub one_set_of_solutions : (vs us : List ℕ) → LeftSays ws n e ns m d bs v l r vs (Ok true) → LeftSays ws n e ns m d bs v l r us (Ok true)
      → (σ : ℕ → Term) → Respects shape (binds_of vs v) σ ↔ Respects shape (binds_of us v) σ
  one_set_of_solutions vs us p q σ =
      let f = (yes_leaves_exactly_the_solutions vs p).0 σ in let g = (yes_leaves_exactly_the_solutions us q).0 σ in (λ h. g.1 (f.0 h), λ h. f.1 (g.0 h))
