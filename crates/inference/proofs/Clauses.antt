-- What each clause of demand 3 rules out, under an assignment under which places have the sorts named: a place has one sort, so that whatever meets a
-- constraint meets it with these. Assumes nothing.
use mathlib.Core.Path.{◌≡◌, sym, subst, ◌∙◌}
use mathlib.Core.Bool.{true, false}
use mathlib.Core.List.{List, ◌∷◌}
use mathlib.Core.Logic.{◌⊎◌, inl, inr}
use Prim.Native.Nat.{ℕ, ◌<◌}
use lib.ListN.{take, drop}
use Rattle.resolved_sort.specs.declared.Run.{Run}
use Rattle.resolved_sort.specs.declared.SortId.{SortId}
use Rattle.resolved_sort.specs.declared.Sort.{Sort}
use Rattle.resolved_sort.specs.declared.ComplexSort.{ComplexSort}
use Rattle.resolved_sort.specs.Tree.{Tree, primitive, flat, container}
use Rattle.resolved_sort.specs.Order.{materializable}
use Rattle.resolved_sort.proofs.Numbers.{true_not_false}
use Rattle.resolved_sort.proofs.Reached.{no_confusion}
use Rattle.unification.specs.declared.InferSortId.{InferSortId}
use Rattle.unification.specs.Term.{Shape}
use Rattle.unification.proofs.Lists.{term_injective}
use Rattle.inference.specs.declared.ExprId.{ExprId}
use Rattle.inference.specs.declared.LitKind.{LitKind}
use Rattle.inference.specs.declared.LitKind.TheVariants.{Positive, Natural}
use Rattle.inference.specs.declared.Constraint.TheVariants.{Sub, Lit, Disjunction, Comprehension, Join}
use Rattle.inference.specs.Constraints.{Problem}
use Rattle.inference.specs.Search.{Choice}
use Rattle.inference.specs.Names.{overload_in}
use Rattle.inference.specs.Typing.{Assignment, Has, admits, All, and_all, In, here, there, ReadAs, as_set}
use Rattle.inference.specs.Typing.{as_bag, as_bag_of_pos, Into, Typed}
use Rattle.inference.specs.Typing.{and_typed, Meets, meets_sub, meets_lit, meets_disjunction}
use Rattle.inference.specs.Typing.{meets_comprehension, meets_join, NumberSort, is_pos, is_nat, is_int, is_real}

admitted_is_a_number : (kind : LitKind) (s : Sort) → admits kind s ≡ true → NumberSort (flat (primitive s))
admitted_is_a_number Positive Sort.Bool a = no_confusion cc
admitted_is_a_number Natural Sort.Bool a = no_confusion cc
admitted_is_a_number kind Sort.Pos a = is_pos
admitted_is_a_number kind Sort.Nat a = is_nat
admitted_is_a_number kind Sort.Int a = is_int
admitted_is_a_number kind Sort.Real a = is_real

module _ (shape : ℕ → Shape) (look : ℕ → Tree) (P : Problem) (σ : Assignment) where
  pub one_sort : (p : ℕ) (s t : Tree) → Has shape σ p s → Has shape σ p t → s ≡ t
  one_sort p s t h g = term_injective s t (sym h ∙ g)

  -- a source that is not materializable into the target
  pub not_into : (p : ℕ) (s t : Tree) → Has shape σ p s → materializable s t ≡ false → Into shape σ t p → ⊥
  not_into p s t h f i = let q = one_sort p s i.sort h i.has in true_not_false (materializable s t) (rw q i.into) f

  module _ (ch : List Choice) where
    pub sub_rules_out : (l r : InferSortId) (s t : Tree) → Has shape σ l.0 s → Has shape σ r.0 t
        → materializable s t ≡ false → Meets shape look P ch σ (Sub l r) → ⊥
    sub_rules_out l r s t h g f (meets_sub _ _ u k i) = let q = one_sort r.0 t u g k in not_into l.0 s u h (rw q at f) i

    pub literal_is_a_number : (p : InferSortId) (kind : LitKind) (t : Tree) → Has shape σ p.0 t → Meets shape look P ch σ (Lit p kind) → NumberSort t
    literal_is_a_number p kind t h (meets_lit _ _ s g a) = subst NumberSort (one_sort p.0 (flat (primitive s)) t g h) (admitted_is_a_number kind s a)

    -- Bool for a literal
    pub literal_is_not_bool : (p : InferSortId) (kind : LitKind) → Has shape σ p.0 (flat (primitive Sort.Bool)) → Meets shape look P ch σ (Lit p kind) → ⊥
    literal_is_not_bool p Positive h (meets_lit _ _ Sort.Bool g a) = no_confusion cc
    literal_is_not_bool p Natural h (meets_lit _ _ Sort.Bool g a) = no_confusion cc
    literal_is_not_bool p kind h (meets_lit _ _ Sort.Pos g a) = let q = one_sort p.0 _ _ h g in no_confusion cc
    literal_is_not_bool p kind h (meets_lit _ _ Sort.Nat g a) = let q = one_sort p.0 _ _ h g in no_confusion cc
    literal_is_not_bool p kind h (meets_lit _ _ Sort.Int g a) = let q = one_sort p.0 _ _ h g in no_confusion cc
    literal_is_not_bool p kind h (meets_lit _ _ Sort.Real g a) = let q = one_sort p.0 _ _ h g in no_confusion cc

    -- Pos for "0"
    pub zero_is_not_pos : (p : InferSortId) → Has shape σ p.0 (flat (primitive Sort.Pos)) → Meets shape look P ch σ (Lit p Natural) → ⊥
    zero_is_not_pos p h (meets_lit _ _ Sort.Bool g a) = no_confusion cc
    zero_is_not_pos p h (meets_lit _ _ Sort.Pos g a) = no_confusion cc
    zero_is_not_pos p h (meets_lit _ _ Sort.Nat g a) = let q = one_sort p.0 _ _ h g in no_confusion cc
    zero_is_not_pos p h (meets_lit _ _ Sort.Int g a) = let q = one_sort p.0 _ _ h g in no_confusion cc
    zero_is_not_pos p h (meets_lit _ _ Sort.Real g a) = let q = one_sort p.0 _ _ h g in no_confusion cc

    -- body and comprehension that go together
    pub comprehension_reads : (body node : InferSortId) (element : SortId) (s t : Tree) → Has shape σ body.0 s → Has shape σ node.0 t
        → Meets shape look P ch σ (Comprehension body node element) → ReadAs (look element.0) s t
    comprehension_reads body node element s t h g (meets_comprehension _ _ _ s' t' h' g' r) =
        let p = one_sort body.0 s s' h h' in let q = one_sort node.0 t t' g g' in rw (p, q) r

    -- "a Set over its element sort with a body of Bool, or a Bag over it with a body of Nat or Pos"
    pub comprehension_is : (body node : InferSortId) (element : SortId) → Meets shape look P ch σ (Comprehension body node element)
        → (Has shape σ body.0 (flat (primitive Sort.Bool)) × Has shape σ node.0 (container ComplexSort.Set (look element.0)))
        ⊎ ((Has shape σ body.0 (flat (primitive Sort.Nat)) ⊎ Has shape σ body.0 (flat (primitive Sort.Pos)))
        × Has shape σ node.0 (container ComplexSort.Bag (look element.0)))
    comprehension_is body node element (meets_comprehension _ _ _ _ _ h g as_set) = inl (h, g)
    comprehension_is body node element (meets_comprehension _ _ _ _ _ h g as_bag) = inr (inl h, g)
    comprehension_is body node element (meets_comprehension _ _ _ _ _ h g as_bag_of_pos) = inr (inr h, g)

    -- a Join one of whose sources is not materializable into the target
    pub join_rules_out : (run : Run) (t : InferSortId) (u : Tree) → Has shape σ t.0 u → (p : ℕ) (s : Tree)
        → In p (take run.count (drop run.start P.sources)) → Has shape σ p s
        → materializable s u ≡ false → Meets shape look P ch σ (Join run t) → ⊥
    join_rules_out run t u h p s i g f (meets_join _ _ u' h' a) = go (take run.count (drop run.start P.sources)) i a
      where
        go : (ps : List ℕ) → In p ps → All (Into shape σ u') ps → ⊥
        go _ (here ps) (and_all _ _ x xs) = let q = one_sort t.0 u u' h h' in not_into p s u' g (rw q at f) x
        go _ (there y ps j) (and_all _ _ x xs) = go ps j xs

    -- an overload chosen that has another sort: where every choice for the expression names position i
    pub disjunction_rules_out : (x : ExprId) (p : InferSortId) (run : Run) (i : ℕ) (s t : Tree)
        → ((j : ℕ) → In (record { expr = x.0; position = j }) ch → j ≡ i) → Has shape σ p.0 s
        → Has shape σ (overload_in P.overloads run i).sort.0 t → (s ≡ t → ⊥) → Meets shape look P ch σ (Disjunction x p run) → ⊥
    disjunction_rules_out x p run i s t only h g f (meets_disjunction _ _ _ j u m l h' g') =
        let q = only j m in
        f (one_sort p.0 s u h h' ∙ one_sort (overload_in P.overloads run i).sort.0 u t (rw (sym q) g') g)

    -- "each disjunction has the sort of its chosen overload's place", which is one of its own run
    pub disjunction_chooses_one_of_its_run : (x : ExprId) (p : InferSortId) (run : Run) → Meets shape look P ch σ (Disjunction x p run)
        → (i : ℕ) × (i < run.count) × In (record { expr = x.0; position = i }) ch
        × ((t : Tree) × Has shape σ p.0 t × Has shape σ (overload_in P.overloads run i).sort.0 t)
    disjunction_chooses_one_of_its_run x p run (meets_disjunction _ _ _ i t m l h g) = (i, l, m, (t, h, g))

    -- a disjunction without a choice
    pub disjunction_has_a_choice : (x : ExprId) (p : InferSortId) (run : Run)
        → ((j : ℕ) → In (record { expr = x.0; position = j }) ch → ⊥) → Meets shape look P ch σ (Disjunction x p run)
        → ⊥
    disjunction_has_a_choice x p run none (meets_disjunction _ _ _ j u m l h g) = none j m

  -- a variable that has another sort than what it is bound to
  pub bound_rules_out : (v q : ℕ) (t : Tree) → Has shape σ q t → (σ v ≡ t → ⊥) → Has shape σ q (σ v) → ⊥
  bound_rules_out v q t h f g = f (one_sort q (σ v) t g h)

  -- a sort handed out that is not that of the expression's place
  pub typed_rules_out : (left : ℕ → Tree) (p s : ℕ) (ps ss : List ℕ) (t : Tree) → Has shape σ p t → (left s ≡ t → ⊥) → Typed shape left σ (p ∷ ps) (s ∷ ss) → ⊥
  typed_rules_out left p s ps ss t h f (and_typed _ _ _ _ g x) = f (one_sort p (left s) t g h)
