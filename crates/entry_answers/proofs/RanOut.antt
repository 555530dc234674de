-- Making ends for want of room only at a sort that the list has not and that does not fit, and that has no more arguments than a function of the list:
-- what is made of two functions has as many as they have. By the clauses of `make`. Assumes nothing.
use mathlib.Core.Path.{◌≡◌, refl, ap}
use mathlib.Core.Bool.{Bool, true, false, cond, not}
use mathlib.Core.List.{List}
use mathlib.Core.Option.{Option, none, some}
use Prim.Native.Nat.{ℕ, ◌+◌, ◌≤◌}
use native.Mathlib.Omega.{arith}
use lib.Dec.{eqb}
use Rattle.resolved_sort.specs.declared.ComplexSort.{ComplexSort}
use Rattle.resolved_sort.specs.Tree.{Flat, Tree, flat, container, function, Trees, no_args, arg, arity, same}
use Rattle.resolved_sort.specs.Order.{bound_flat, bound_op}
use Rattle.resolved_sort.specs.Interning.{Sorts, member, need, Outcome, made, nothing, full, ◌then◌, where_some, fits, intern, make, makes}
use Rattle.resolved_sort.specs.Storage.{max_arguments}
use Rattle.resolved_sort.specs.Growing.{Grown, Whole, Wholes}
use Rattle.entry_answers.specs.SortsLeft.{RanOut}

-- a sort that the list has not and that does not fit
pub record Wanting (S : Sorts) : Type 0 where
  pub wanted : Tree
  pub few : need wanted ≤ max_arguments
  pub absent : member S.trees wanted ≡ false
  pub too_big : fits wanted S ≡ false

-- room ends only there, and of what is made Q holds
unfoldable pub Ends : {A : Type 0} → (A → Type 0) → Outcome A → Type 0
Ends Q (made a S) = Q a
Ends Q (nothing S) = Unit {0}
Ends Q (full S) = Wanting S

abbrev pub Anything : {A : Type 0} → A → Type 0
Anything a = Unit {0}

-- as many arguments as these
abbrev pub AsMany : Trees → Trees → Type 0
AsMany ss vs = arity vs ≡ arity ss

pub one_more : (ss : Trees) (s : Tree) (vs : Trees) (v : Tree) → AsMany ss vs → AsMany (arg s ss) (arg v vs)
unfolding arity
one_more ss s vs v q = ap (λ (k : ℕ). k + 1) q

pub ends_then : {A B : Type 0} (P : A → Type 0) (Q : B → Type 0) (O : Outcome A) (k : A → Sorts → Outcome B) → Ends P O
    → ((a : A) (S : Sorts) → P a → Ends Q (k a S)) → Ends Q (O then k)
unfolding Ends
ends_then P Q (made a S) k h f = f a S h
ends_then P Q (nothing S) k h f = tt
ends_then P Q (full S) k h f = h

pub made_ends : {A : Type 0} (Q : A → Type 0) (a : A) (S : Sorts) → Q a → Ends Q (made a S)
unfolding Ends
made_ends Q a S q = q

nothing_ends : (A : Type 0) (Q : A → Type 0) (S : Sorts) → Ends Q (nothing S)
unfolding Ends
nothing_ends A Q S = tt

some_ends : {A B : Type 0} (Q : B → Type 0) (x : Option A) (S : Sorts) (k : A → Outcome B) → ((a : A) → Ends Q (k a)) → Ends Q (where_some x S k)
some_ends {A} {B} Q none S k f = nothing_ends B Q S
some_ends {A} {B} Q (some a) S k f = f a

intern_ends_by : (t : Tree) (S S' : Sorts) (b c : Bool) → need t ≤ max_arguments → member S.trees t ≡ b → fits t S ≡ c
    → Ends Anything (cond b (made t S) (cond c (made t S') (full S)))
unfolding Ends
intern_ends_by t S S' true c n m f = tt
intern_ends_by t S S' false true n m f = tt
intern_ends_by t S S' false false n m f = record { wanted = t; few = n; absent = m; too_big = f }

pub intern_ends : (t : Tree) (S : Sorts) → need t ≤ max_arguments → Ends Anything (intern t S)
unfolding intern
intern_ends t S n = intern_ends_by t S _ (member S.trees t) (fits t S) n refl refl

-- a flat sort and a container need no entries, a function one for each argument
pub flat_ends : (a : Flat) (S : Sorts) → Ends Anything (intern (flat a) S)
unfolding need
flat_ends a S = intern_ends (flat a) S (omega arith)

pub container_ends : (o : ComplexSort) (v : Tree) (S : Sorts) → Ends Anything (intern (container o v) S)
unfolding need
container_ends o v S = intern_ends (container o v) S (omega arith)

pub function_ends : (vs : Trees) (v : Tree) (S : Sorts) → arity vs ≤ max_arguments → Ends Anything (intern (function vs v) S)
unfolding need
function_ends vs v S l = intern_ends (function vs v) S l

by_test : {A : Type 0} (Q : A → Type 0) (b : Bool) (x y : Outcome A) → Ends Q x → Ends Q y → Ends Q (elim b [ true ↦ x | false ↦ y ])
by_test Q true x y p q = p
by_test Q false x y p q = q

module _ (T : List Tree) where
  mutual
    unfolding make makes Whole Wholes

    pub make_ends : (up : Bool) (s t : Tree) (S : Sorts) → Whole T s → Ends Anything (make up s t S)
    make_ends up (flat a) (flat b) S w = some_ends Anything (bound_flat up a b) S (λ c. made (flat c) S) (λ c. made_ends Anything (flat c) S tt)
    make_ends up (flat a) (container p t) S w = nothing_ends Tree Anything S
    make_ends up (flat a) (function ts u) S w = nothing_ends Tree Anything S
    make_ends up (container o s) (flat b) S w = nothing_ends Tree Anything S
    make_ends up (container o s) (container p t) S w =
        by_test Anything (same (container o s) (container p t)) _ _ (made_ends Anything (container o s) S tt)
        (some_ends Anything (bound_op up o p) S _
        (λ q. ends_then Anything Anything (make up s t S) _ (make_ends up s t S w.1) (λ v S₁ x. container_ends q v S₁)))
    make_ends up (container o s) (function ts u) S w = nothing_ends Tree Anything S
    make_ends up (function ss r) (flat b) S w = nothing_ends Tree Anything S
    make_ends up (function ss r) (container p t) S w = nothing_ends Tree Anything S
    make_ends up (function ss r) (function ts u) S w =
        by_test Anything (same (function ss r) (function ts u)) _ _ (made_ends Anything (function ss r) S tt)
        (by_test Anything (eqb (arity ss) (arity ts)) _ _
        (ends_then (AsMany ss) Anything (makes (not up) ss ts S) _ (makes_end (not up) ss ts S w.1)
        (λ vs S₁ q. ends_then Anything Anything (make up r u S₁) _ (make_ends up r u S₁ w.2)
        (λ v S₂ x. function_ends vs v S₂ (omega (arith, q, w.3)))))
        (nothing_ends Tree Anything S))

    makes_end : (up : Bool) (ss ts : Trees) (S : Sorts) → Wholes T ss → Ends (AsMany ss) (makes up ss ts S)
    makes_end up no_args no_args S w = made_ends (AsMany no_args) no_args S refl
    makes_end up no_args (arg t ts) S w = nothing_ends Trees (AsMany no_args) S
    makes_end up (arg s ss) no_args S w = nothing_ends Trees (AsMany (arg s ss)) S
    makes_end up (arg s ss) (arg t ts) S w =
        ends_then Anything (AsMany (arg s ss)) (make up s t S) _ (make_ends up s t S w.0)
        (λ v S₁ x. ends_then (AsMany ss) (AsMany (arg s ss)) (makes up ss ts S₁) _ (makes_end up ss ts S₁ w.1)
        (λ vs S₂ q. made_ends (AsMany (arg s ss)) (arg v vs) S₂ (one_more ss s vs v q)))

-- of a list that grew from the given one
unfoldable pub ran_out : (ws : List ℕ) (n e : ℕ) (A : Type 0) (Q : A → Type 0) (S : Sorts) → Grown ws n e S → Ends Q (full S) → RanOut ws n e
unfolding Ends
ran_out ws n e A Q S g w = record { so_far = S; grown = g; wanted = w.wanted; few = w.few; absent = w.absent; too_big = w.too_big }
