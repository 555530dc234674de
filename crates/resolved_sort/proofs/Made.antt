-- Join and meet with storage answer as join and meet on trees: the bound where there is one, none where there is none,
-- as long as there is room. By the clauses of `make`. Assumes nothing.
use mathlib.Core.Path.{◌≡◌, refl, sym, ◌∙◌, ap}
use mathlib.Core.Bool.{Bool, true, false, cond, not}
use mathlib.Core.Option.{Option, none, some}
use Prim.Native.Nat.{◌+◌}
use lib.Dec.{eqb}
use borrow.Author.Tests.{eqb-false}
use Rattle.resolved_sort.specs.Tree.{Tree, flat, container, function, Trees, no_args, arg, arity, same}
use Rattle.resolved_sort.specs.Order.{bound_flat, bound_op, map₂, bound, bounds}
use Rattle.resolved_sort.specs.Interning.{Sorts, member, Outcome, made, nothing, full, ◌then◌, where_some, fits, intern, make, makes}
use Rattle.resolved_sort.proofs.Same.{same_exactly}
use Rattle.resolved_sort.proofs.Bounds.{bound_idempotent}
use Rattle.resolved_sort.specs.Growing.{Answers}

answers_then : {A B : Type 0} (x : Option A) (y : Option B) (O : Outcome A) (k : A → Sorts → Outcome B)
    → Answers x O → (x ≡ none → y ≡ none) → ((a : A) (S : Sorts) → x ≡ some a → Answers y (k a S)) → Answers y (O then k)
unfolding Answers
answers_then x y (made a S) k h n f = f a S h
answers_then x y (nothing S) k h n f = n h
answers_then x y (full S) k h n f = tt

answers_some : {A B : Type 0} (x : Option A) (y : Option B) (S : Sorts) (k : A → Outcome B)
    → (x ≡ none → y ≡ none) → ((a : A) → x ≡ some a → Answers y (k a)) → Answers y (where_some x S k)
unfolding Answers
answers_some none y S k n f = n refl
answers_some (some a) y S k n f = f a refl

by_test : {A : Type 0} (P : Outcome A → Type 0) (b : Bool) (x y : Outcome A) → (b ≡ true → P x) → (b ≡ false → P y) → P (elim b [ true ↦ x | false ↦ y ])
by_test P true x y p q = p refl
by_test P false x y p q = q refl

intern_by : (t : Tree) (S S' : Sorts) (b c : Bool) → Answers (some t) (cond b (made t S) (cond c (made t S') (full S)))
unfolding Answers
intern_by t S S' true c = refl
intern_by t S S' false true = refl
intern_by t S S' false false = tt

pub intern_answers : (t : Tree) (S : Sorts) → Answers (some t) (intern t S)
unfolding intern
intern_answers t S = intern_by t S _ (member S.trees t) (fits t S)

map₂_none : {A B C : Type 0} (f : A → B → C) (x : Option A) → map₂ f x none ≡ none
map₂_none f none = refl
map₂_none f (some a) = refl

other_arity : (up : Bool) (ss ts : Trees) → (arity ss ≡ arity ts → ⊥) → bounds up ss ts ≡ none
unfolding bounds arity
other_arity up no_args no_args n = absurd (n refl)
other_arity up no_args (arg t ts) n = refl
other_arity up (arg s ss) no_args n = refl
other_arity up (arg s ss) (arg t ts) n = rw (other_arity up ss ts (λ e. n (ap (λ k. k + 1) e))) (map₂_none arg (bound up s t))

made_itself : {A : Type 0} (a : A) (x : Option A) (S : Sorts) → x ≡ some a → Answers x (made a S)
unfolding Answers
made_itself a x S e = e

made_none : {A : Type 0} (x : Option A) (S : Sorts) → x ≡ none → Answers x (nothing S)
unfolding Answers
made_none x S e = e

mutual
  unfolding make makes bound bounds

  pub make_answers : (up : Bool) (s t : Tree) (S : Sorts) → Answers (bound up s t) (make up s t S)
  make_answers up (flat a) (flat b) S =
      answers_some (bound_flat up a b) _ S (λ c. made (flat c) S) (λ e. rw e) (λ c e. made_itself (flat c) _ S (rw e))
  make_answers up (flat a) (container p t) S = made_none none S refl
  make_answers up (flat a) (function ts u) S = made_none none S refl
  make_answers up (container o s) (flat b) S = made_none none S refl
  make_answers up (container o s) (container p t) S =
      by_test (Answers (bound up (container o s) (container p t))) (same (container o s) (container p t)) _ _
      (λ e. made_itself (container o s) _ S (ap (bound up (container o s)) (sym ((same_exactly _ _).0 e)) ∙ bound_idempotent up (container o s)))
      (λ e. answers_some (bound_op up o p) _ S _ (λ f. rw f)
      (λ q f. answers_then (bound up s t) _ (make up s t S) _ (make_answers up s t S) (λ g. rw g (map₂_none container (bound_op up o p)))
      (λ v S₁ g. rw (f, g) (intern_answers (container q v) S₁))))
  make_answers up (container o s) (function ts u) S = made_none none S refl
  make_answers up (function ss r) (flat b) S = made_none none S refl
  make_answers up (function ss r) (container p t) S = made_none none S refl
  make_answers up (function ss r) (function ts u) S =
      by_test (Answers (bound up (function ss r) (function ts u))) (same (function ss r) (function ts u)) _ _
      (λ e. made_itself (function ss r) _ S (ap (bound up (function ss r)) (sym ((same_exactly _ _).0 e)) ∙ bound_idempotent up (function ss r)))
      (λ e. by_test (Answers (bound up (function ss r) (function ts u))) (eqb (arity ss) (arity ts)) _ _
      (λ d. answers_then (bounds (not up) ss ts) _ (makes (not up) ss ts S) _ (makes_answer (not up) ss ts S) (λ g. rw g)
      (λ vs S₁ g. answers_then (bound up r u) _ (make up r u S₁) _ (make_answers up r u S₁) (λ h. rw h (map₂_none function (bounds (not up) ss ts)))
      (λ v S₂ h. rw (g, h) (intern_answers (function vs v) S₂))))
      (λ d. made_none _ S (rw (other_arity (not up) ss ts (eqb-false (arity ss) (arity ts) d)))))

  pub makes_answer : (up : Bool) (ss ts : Trees) (S : Sorts) → Answers (bounds up ss ts) (makes up ss ts S)
  makes_answer up no_args no_args S = made_itself no_args _ S refl
  makes_answer up no_args (arg t ts) S = made_none none S refl
  makes_answer up (arg s ss) no_args S = made_none none S refl
  makes_answer up (arg s ss) (arg t ts) S =
      answers_then (bound up s t) _ (make up s t S) _ (make_answers up s t S) (λ g. rw g)
      (λ v S₁ g. answers_then (bounds up ss ts) _ (makes up ss ts S₁) _ (makes_answer up ss ts S₁) (λ h. rw h (map₂_none arg (bound up s t)))
      (λ vs S₂ h. made_itself (arg v vs) _ S₂ (rw (g, h))))
