-- Steps keep the list grown from its storage, with the stack's sorts in it, as long as no step makes a function of more than 16
-- arguments. By the clauses of `steps`. Assumes nothing.
use mathlib.Core.Path.{◌≡◌, refl, subst}
use mathlib.Core.Bool.{Bool, true, false, cond, and-eq-true_iff}
use mathlib.Core.List.{List, [], ◌∷◌}
use Prim.Native.Nat.{ℕ, zero, suc, ◌+◌, ◌-◌, ◌≤◌}
use native.Mathlib.Omega.{arith}
use lib.Dec.{ltb}
use borrow.Author.Tests.{ltb-true}
use Rattle.resolved_sort.specs.declared.ComplexSort.{ComplexSort}
use Rattle.resolved_sort.specs.Tree.{Tree, container, function, Trees, no_args, arg, arity}
use Rattle.resolved_sort.specs.Interning.{Sorts, member, made, nothing, intern}
use Rattle.resolved_sort.specs.Growing.{members, Grown, SortsExtend, SortsKept, InTree}
use Rattle.resolved_sort.proofs.Kept.{extends_refl, member_extends, kept_then, container_interned, function_interned}
use Rattle.sort_text.specs.Postfix.{Short, sixth, op_of, containing, Popped, popped, not_enough, take_arguments}
use Rattle.sort_text.specs.Postfix.{applied, mapping, step_on, top, steps, InStack, HasSix}

pub stack_extends : (S S' : Sorts) (st : List Tree) → SortsExtend S S' → InStack S st → InStack S' st
unfolding InStack
stack_extends S S' [] x h = tt
stack_extends S S' (t ∷ st) x h = (member_extends S S' t x h.0, stack_extends S S' st x h.1)

pub six_extends : (S S' : Sorts) → SortsExtend S S' → HasSix S → HasSix S'
six_extends S S' x h k l = member_extends S S' (sixth k) x (h k l)

-- the arguments that are taken off a stack, and what is left
unfoldable TakenIn : Sorts → ℕ → Popped → Type 0
TakenIn S k (popped ts st) = (members S.trees ts ≡ true) × (arity ts ≡ k) × InStack S st
TakenIn S k not_enough = Unit {0}

one_more : (k : ℕ) (ts : Trees) (t : Tree) → k + arity (arg t ts) ≡ suc k + arity ts
unfolding arity
one_more k ts t = omega arith

and_members : (S : Sorts) (t : Tree) (ts : Trees) → member S.trees t ≡ true → members S.trees ts ≡ true → members S.trees (arg t ts) ≡ true
unfolding members
and_members S t ts m h = (and-eq-true_iff (member S.trees t) (members S.trees ts)).1 (m, h)

takes_in : (S : Sorts) (k : ℕ) (ts : Trees) (st : List Tree) → members S.trees ts ≡ true → InStack S st → TakenIn S (k + arity ts) (take_arguments k ts st)
unfolding take_arguments TakenIn InStack
takes_in S zero ts st m h = (m, omega arith, h)
takes_in S (suc k) ts [] m h = tt
takes_in S (suc k) ts (t ∷ st) m h =
    subst (λ j. TakenIn S j (take_arguments k (arg t ts) st)) (one_more k ts t)
    (takes_in S k (arg t ts) st (and_members S t ts h.0 m) h.1)

module _ (ws : List ℕ) (n e : ℕ) where
  stack_kept : (S : Sorts) (st : List Tree) → Grown ws n e S → InStack S st → SortsKept ws n e InStack S (made st S)
  unfolding SortsKept
  stack_kept S st g h = (g, extends_refl S, h)

  stack_stays : (S : Sorts) → Grown ws n e S → SortsKept ws n e InStack S (nothing S)
  unfolding SortsKept
  stack_stays S g = (g, extends_refl S)

  pushed : (S : Sorts) (st : List Tree) → InStack S st → (u : Tree) (S₁ : Sorts) → Grown ws n e S₁ → SortsExtend S S₁
      → InTree S₁ u → SortsKept ws n e InStack S₁ (made (u ∷ st) S₁)
  unfolding SortsKept InStack
  pushed S st h u S₁ g x m = (g, extends_refl S₁, (m, stack_extends S S₁ st x h))

  over_kept : (o : ComplexSort) (st : List Tree) (S : Sorts) → Grown ws n e S → InStack S st → SortsKept ws n e InStack S (containing o st S)
  unfolding InStack
  over_kept o [] S g h = stack_stays S g
  over_kept o (t ∷ st) S g h = kept_then ws n e InTree InStack S (intern (container o t) S) _ (container_interned ws n e o t S g h.0) (pushed S st h.1)

  applied_kept : (r : Tree) (k : ℕ) (x : Popped) (S : Sorts) → Grown ws n e S → InTree S r → k ≤ 16 → TakenIn S k x → SortsKept ws n e InStack S (applied r x S)
  unfolding TakenIn
  applied_kept r k not_enough S g m l h = stack_stays S g
  applied_kept r k (popped ts st) S g m l h =
      kept_then ws n e InTree InStack S (intern (function ts r) S) _ (function_interned ws n e ts r S g h.0 (omega (arith, h.1)) m) (pushed S st h.2)

  mapping_kept : (k : ℕ) (st : List Tree) (S : Sorts) → Grown ws n e S → k ≤ 16 → InStack S st → SortsKept ws n e InStack S (mapping k st S)
  unfolding InStack members arity
  mapping_kept k [] S g l h = stack_stays S g
  mapping_kept k (r ∷ st) S g l h = applied_kept r (k + 0) (take_arguments k no_args st) S g h.0 (omega arith) (takes_in S k no_args st refl h.1)

  by_step : (b c : Bool) (op : ℕ) (st : List Tree) (S : Sorts) → ltb op 6 ≡ b → op ≤ 32 → Grown ws n e S → HasSix S → InStack S st
      → SortsKept ws n e InStack S (cond b (made (sixth op ∷ st) S) (cond c (containing (op_of (op - 6)) st S) (mapping (op - 16) st S)))
  unfolding InStack
  by_step true c op st S q l g x h = stack_kept S (sixth op ∷ st) g (x op (ltb-true op 6 q), h)
  by_step false true op st S q l g x h = over_kept (op_of (op - 6)) st S g h
  by_step false false op st S q l g x h = mapping_kept (op - 16) st S g (omega arith) h

  pub step_kept : (op : ℕ) (st : List Tree) (S : Sorts) → op ≤ 32 → Grown ws n e S → HasSix S → InStack S st → SortsKept ws n e InStack S (step_on op st S)
  unfolding step_on
  step_kept op st S l g x h = by_step (ltb op 6) (ltb op 11) op st S refl l g x h

  top_kept : (st : List Tree) (S : Sorts) → Grown ws n e S → InStack S st → SortsKept ws n e InTree S (top st S)
  unfolding SortsKept InStack
  top_kept [] S g h = (g, extends_refl S)
  top_kept (t ∷ st) S g h = (g, extends_refl S, h.0)

  pub steps_kept : (ops : List ℕ) (st : List Tree) (S : Sorts) → Short ops → Grown ws n e S → HasSix S → InStack S st
      → SortsKept ws n e InTree S (steps ops st S)
  unfolding steps Short
  steps_kept [] st S q g x h = top_kept st S g h
  steps_kept (op ∷ ops) st S q g x h =
      kept_then ws n e InStack InTree S (step_on op st S) _ (step_kept op st S q.0 g x h)
      (λ st₁ S₁ g₁ x₁ h₁. steps_kept ops st₁ S₁ q.1 g₁ (six_extends S S₁ x₁ x) h₁)
