-- What the places of checked lists stand for, by their shapes: the shapes are those of rows that passed their checks, the fixed sorts have their kinds
-- as numbers, and a place stands for what its end stands for. Assumes nothing.
use mathlib.Core.Path.{◌≡◌, ap, sym, ◌∙◌}
use mathlib.Core.Bool.{true}
use mathlib.Core.List.{List, []}
use mathlib.Core.Option.{some}
use Prim.Native.Nat.{ℕ, suc, ◌<◌}
use native.Mathlib.Omega.{arith}
use borrow.Author.Tests.{ltb-true, lt-ltb}
use Rattle.resolved_sort.specs.declared.Sort.{Sort}
use Rattle.resolved_sort.specs.Tree.{primitive, flat}
use Rattle.resolved_sort.specs.Interning.{look}
use Rattle.resolved_sort.specs.Storage.{max_sorts, part_at, start_at, count_at, resolved, row_at, kind_flat, trees}
use Rattle.resolved_sort.specs.Checks.{fixed_six}
use Rattle.resolved_sort.proofs.Numbers.{true_not_false}
use Rattle.unification.specs.Term.{Head, flat_head, Term, over, term_of}
use Rattle.unification.specs.Nodes.{sort_shape, is_sort, is_place, shape_at, Binds}
use Rattle.unification.specs.Unify.{follow}
use Rattle.unification.specs.Acyclic.{One, Lower}
use Rattle.unification.specs.Solutions.{Respects}
use Rattle.unification.specs.Making.{Lent, graph}
use Rattle.unification.specs.Exact.{shape_val}
use Rattle.unification.proofs.Exact.{follow_value}
use Rattle.unification.proofs.Places.{sort_is_place}
use Rattle.unification.proofs.Rows.{sort_parts, ShapeFormed, fixed_six_kinds}
use Rattle.unification.proofs.FineLists.{Place, is_sort_lem, is_node, is_stray, place}
use Rattle.unification.proofs.Lists.{sort_parts_fine, lower, sort_value_lem, place_formed}
use Rattle.unification.proofs.Solved.{value_by_shape, model_of}
use Rattle.unification.specs.Growing.{CheckedLent, PlacedIn, term_in}

module _ (W : Lent) (c : CheckedLent W) where
  abbrev ws : List ℕ
  ws = W.sorts

  abbrev ns : List ℕ
  ns = W.nodes

  abbrev n : ℕ
  n = W.lengths.sorts

  abbrev e : ℕ
  e = W.lengths.entries

  abbrev m : ℕ
  m = W.lengths.nodes

  abbrev d : ℕ
  d = W.lengths.arguments

  abbrev v : ℕ
  v = W.lengths.variables

  pub placed_formed : (p : ℕ) → PlacedIn W p → ShapeFormed (graph W p)
  placed_formed = place_formed ws n e ns m d v c

  -- the parts of a sort are sorts
  pub sort_part_below : (p q : ℕ) (h : Head) (ps : List ℕ) → is_sort p ≡ true → PlacedIn W p → graph W p ≡ over h ps → One q ps → q < n
  sort_part_below p q h ps s x f o = go (place ws n ns m p)
    where
      go : Place ws n ns m p → q < n
      go (is_sort_lem a l g) = omega (arith, l, sort_parts ws e p (row_at ws p) (sort_parts_fine ws n e ns m d v c p l) q h ps (sym g ∙ f) o)
      go (is_node i l y g) = absurd (omega (arith, y, ltb-true p max_sorts s))
      go (is_stray z g) = absurd (true_not_false (is_place n m p) x z)

  pub sort_placed : (p : ℕ) → p < n → PlacedIn W p
  sort_placed p l = sort_is_place n m p c.sorts.sorts l

  lower_graph : Lower (graph W) 3072
  lower_graph = lower ws n e ns m d v c

  pub term_by_shape : (σ : ℕ → Term) (p : ℕ) → term_in W σ p ≡ shape_val σ (term_in W σ) (graph W p)
  term_by_shape σ p = value_by_shape (graph W) 3072 lower_graph σ p

  -- a place and its end stand for the same
  pub term_at_end : (B : Binds) (σ : ℕ → Term) → Respects (graph W) B σ → (k p q : ℕ) → follow (graph W) k B p ≡ some q → term_in W σ p ≡ term_in W σ q
  term_at_end B σ r k p q f = follow_value (graph W) B σ (term_in W σ) (model_of (graph W) 3072 lower_graph B σ r) k p q f

  -- a sort stands for its tree
  pub sort_term : (σ : ℕ → Term) (p : ℕ) → p < n → term_in W σ p ≡ term_of (look (trees ws n) p)
  sort_term σ p l = sort_value_lem ws n e ns m d v c σ (term_in W σ) (term_by_shape σ) (suc p) p (omega arith) l

  module _ (six : fixed_six ws n ≡ true) where
    fixed_placed : (i : ℕ) → i < 6 → PlacedIn W i
    fixed_placed i l = sort_placed i (omega (arith, l, (fixed_six_kinds ws n six).0))

    fixed_shape : (i : ℕ) → i < 6 → graph W i ≡ sort_shape ws (resolved i (part_at ws i) (record { start = start_at ws i; count = count_at ws i }))
    unfolding shape_at
    fixed_shape i l =
        rw (fixed_placed i l, lt-ltb i max_sorts (omega (arith, l)))
        (ap (λ k. sort_shape ws (resolved k (part_at ws i) (record { start = start_at ws i; count = count_at ws i }))) ((fixed_six_kinds ws n six).1 i l))

    -- a primitive sort has its kind as its number
    pub primitive_placed : (s : Sort) → PlacedIn W (kind_flat (primitive s))
    unfolding kind_flat
    primitive_placed Sort.Bool = fixed_placed 1 (omega arith)
    primitive_placed Sort.Pos = fixed_placed 2 (omega arith)
    primitive_placed Sort.Nat = fixed_placed 3 (omega arith)
    primitive_placed Sort.Int = fixed_placed 4 (omega arith)
    primitive_placed Sort.Real = fixed_placed 5 (omega arith)

    pub primitive_shape : (s : Sort) → graph W (kind_flat (primitive s)) ≡ over (flat_head (primitive s)) []
    unfolding kind_flat sort_shape resolved
    primitive_shape Sort.Bool = fixed_shape 1 (omega arith)
    primitive_shape Sort.Pos = fixed_shape 2 (omega arith)
    primitive_shape Sort.Nat = fixed_shape 3 (omega arith)
    primitive_shape Sort.Int = fixed_shape 4 (omega arith)
    primitive_shape Sort.Real = fixed_shape 5 (omega arith)

    pub primitive_term : (σ : ℕ → Term) (s : Sort) → term_in W σ (kind_flat (primitive s)) ≡ term_of (flat (primitive s))
    unfolding term_of
    primitive_term σ s = term_by_shape σ (kind_flat (primitive s)) ∙ ap (shape_val σ (term_in W σ)) (primitive_shape s)
