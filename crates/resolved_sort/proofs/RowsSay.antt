-- What two rows that were read say of the sorts of two different numbers, form by form, and that they are unlike where
-- none of these fits. Assumes nothing.
use mathlib.Core.Path.{◌≡◌, refl, sym, ap, ap₂, subst, ◌∙◌}
use mathlib.Core.Bool.{Bool, true, false}
use mathlib.Core.List.{List}
use Prim.Native.Nat.{ℕ, ◌<◌}
use lib.Dec.{eqb}
use borrow.Author.Tests.{eqb-true, eqb-false, eq-eqb, ne_eqb}
use Rattle.resolved_sort.specs.declared.SortId.{SortId}
use Rattle.resolved_sort.specs.declared.Sort.{Sort}
use Rattle.resolved_sort.specs.declared.ComplexSort.{ComplexSort}
use Rattle.resolved_sort.specs.declared.Run.{Run}
use Rattle.resolved_sort.specs.declared.ResolvedSort.{ResolvedSort}
use Rattle.resolved_sort.specs.declared.ResolvedSort.TheVariants.{Unit, Primitive, Container, Function, Def, TypeVar}
use Rattle.resolved_sort.specs.Inner.Pairs.{Pair}
use Rattle.resolved_sort.specs.Inner.Pairs.{Primitives, Containers, Functions, Other}
use Rattle.resolved_sort.specs.Interning.{look}
use Rattle.resolved_sort.specs.Storage.{row_at, trees}
use Rattle.resolved_sort.specs.Rows.{Checked}
use Rattle.resolved_sort.specs.Inner.Pairs.{with_primitive, with_container, with_function, pair_of}
use Rattle.resolved_sort.proofs.Pairs.{Unlike, OfPrimitives, OfContainers, OfFunctions, SortsSay, pair_of_sorts}

-- what a test of two numbers says
pub numbers_same : {x : Bool} (a b : ℕ) → x ≡ eqb a b → x ≡ true → a ≡ b
numbers_same a b e f = eqb-true a b (sym e ∙ f)

pub numbers_differ : {x : Bool} (a b : ℕ) → x ≡ eqb a b → x ≡ false → a ≡ b → ⊥
numbers_differ a b e f = eqb-false a b (sym e ∙ f)

no_primitive : (s : Sort) (r : ResolvedSort) → ((t : Sort) → r ≡ Primitive t → ⊥) → with_primitive s r ≡ Other
unfolding with_primitive
no_primitive s Unit h = refl
no_primitive s (Primitive t) h = absurd (h t refl)
no_primitive s (Container op subsort) h = refl
no_primitive s (Function domain range) h = refl
no_primitive s (Def n) h = refl
no_primitive s (TypeVar n) h = refl

no_container : (o : ComplexSort) (s : SortId) (r : ResolvedSort) → ((p : ComplexSort) (t : SortId) → r ≡ Container p t → ⊥) → with_container o s r ≡ Other
unfolding with_container
no_container o s Unit h = refl
no_container o s (Primitive t) h = refl
no_container o s (Container op subsort) h = absurd (h op subsort refl)
no_container o s (Function domain range) h = refl
no_container o s (Def n) h = refl
no_container o s (TypeVar n) h = refl

no_function : (c : Run) (u : SortId) (r : ResolvedSort) → ((d : Run) (v : SortId) → r ≡ Function d v → ⊥) → with_function c u r ≡ Other
unfolding with_function
no_function c u Unit h = refl
no_function c u (Primitive t) h = refl
no_function c u (Container op subsort) h = refl
no_function c u (Function domain range) h = absurd (h domain range refl)
no_function c u (Def n) h = refl
no_function c u (TypeVar n) h = refl

no_pair : (l r : ResolvedSort) → ((s : Sort) → l ≡ Primitive s → ⊥) → ((o : ComplexSort) (s : SortId) → l ≡ Container o s → ⊥)
    → ((c : Run) (u : SortId) → l ≡ Function c u → ⊥) → pair_of l r ≡ Other
unfolding pair_of
no_pair Unit r f g h = refl
no_pair (Primitive s) r f g h = absurd (f s refl)
no_pair (Container op subsort) r f g h = absurd (g op subsort refl)
no_pair (Function domain range) r f g h = absurd (h domain range refl)
no_pair (Def n) r f g h = refl
no_pair (TypeVar n) r f g h = refl

module _ {ws : List ℕ} {n e a b : ℕ} (k : Checked ws n e) (ha : a < n) (hb : b < n) (ne : a ≡ b → ⊥) {l r : ResolvedSort}
    (el : l ≡ row_at ws a) (er : r ≡ row_at ws b) where
  of_pair : (x : Pair) → pair_of l r ≡ x → SortsSay ws n e a b x
  of_pair x q = subst (SortsSay ws n e a b) (sym (ap₂ pair_of el er) ∙ q) (pair_of_sorts ws n e a b k ha hb ne)

  pub primitives : {s t : Sort} → l ≡ Primitive s → r ≡ Primitive t → OfPrimitives ws n e a b s t
  unfolding SortsSay pair_of with_primitive
  primitives {s} {t} p q = of_pair (Primitives s t) (ap₂ pair_of p q)

  pub containers : {o p : ComplexSort} {s t : SortId} → l ≡ Container o s → r ≡ Container p t → OfContainers ws n e a b o s p t
  unfolding SortsSay pair_of with_container
  containers {o} {p} {s} {t} f g = of_pair (Containers o s p t) (ap₂ pair_of f g)

  module _ {c d : Run} {u v : SortId} (f : l ≡ Function c u) (g : r ≡ Function d v) where
    pub functions : c.count ≡ d.count → OfFunctions ws n e a b c.count c.start u d.start v
    unfolding SortsSay pair_of with_function
    functions q = of_pair (Functions c.count c.start u d.start v) (ap₂ pair_of f g ∙ rw (eq-eqb c.count d.count q))

    pub unlike_functions : (c.count ≡ d.count → ⊥) → Unlike (look (trees ws n) a) (look (trees ws n) b)
    unfolding SortsSay pair_of with_function
    unlike_functions q = of_pair Other (ap₂ pair_of f g ∙ rw (ne_eqb c.count d.count q))

  pub unlike_primitive : {s : Sort} → l ≡ Primitive s → ((t : Sort) → r ≡ Primitive t → ⊥) → Unlike (look (trees ws n) a) (look (trees ws n) b)
  unfolding SortsSay pair_of
  unlike_primitive {s} p h = of_pair Other (ap (λ x. pair_of x r) p ∙ no_primitive s r h)

  pub unlike_container : {o : ComplexSort} {s : SortId} → l ≡ Container o s → ((p : ComplexSort) (t : SortId) → r ≡ Container p t → ⊥)
      → Unlike (look (trees ws n) a) (look (trees ws n) b)
  unfolding SortsSay pair_of
  unlike_container {o} {s} p h = of_pair Other (ap (λ x. pair_of x r) p ∙ no_container o s r h)

  pub unlike_function : {c : Run} {u : SortId} → l ≡ Function c u → ((d : Run) (v : SortId) → r ≡ Function d v → ⊥)
      → Unlike (look (trees ws n) a) (look (trees ws n) b)
  unfolding SortsSay pair_of
  unlike_function {c} {u} p h = of_pair Other (ap (λ x. pair_of x r) p ∙ no_function c u r h)

  pub unlike_rest : ((s : Sort) → l ≡ Primitive s → ⊥) → ((o : ComplexSort) (s : SortId) → l ≡ Container o s → ⊥)
      → ((c : Run) (u : SortId) → l ≡ Function c u → ⊥) → Unlike (look (trees ws n) a) (look (trees ws n) b)
  unfolding SortsSay
  unlike_rest f g h = of_pair Other (no_pair l r f g h)
