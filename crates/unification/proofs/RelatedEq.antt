-- At its depth strict_related meets its own equation. The range of the function at the end of a place has a lower rank than the place, and is asked
-- about in the lists as they were given, before anything is made; so past the rank of a place more depth changes nothing. From the equation: the
-- answer by what stands at the end. Assumes nothing.
use mathlib.Core.Path.{◌≡◌, refl, ap, sym, ◌∙◌}
use mathlib.Core.List.{List, [], ◌∷◌, ◌++◌}
use mathlib.Core.Option.{some}
use mathlib.Core.Bool.{Bool, true, false, cond}
use Prim.Native.Nat.{ℕ, zero, suc, ◌-◌, ◌<◌}
use native.Mathlib.Omega.{arith}
use lib.ListN.{length, get_or, take, length-append}
use Rattle.resolved_sort.specs.declared.ResolvedSort.{ResolvedSort}
use Rattle.resolved_sort.specs.declared.ResolvedSort.TheVariants.{Unit as UnitRow, Primitive, Container, Function as SortFunction, Def, TypeVar}
use Rattle.resolved_sort.specs.Storage.{max_sorts, entries_of, row_at}
use Rattle.resolved_sort.proofs.Reached.{no_confusion}
use Rattle.unification.specs.declared.InferSort.{InferSort}
use Rattle.unification.specs.declared.InferSort.TheVariants.{Generic, Function, Var}
use Rattle.unification.specs.Term.{flat_head, container_head, function_head, stray_head, Shape, variable, over}
use Rattle.unification.specs.Nodes.{node_entries_of, node_at, sort_shape, node_shape, Lists, is_sort, is_place, shape_at, Binds, binds_of}
use Rattle.unification.specs.Unify.{follow, deep}
use Rattle.unification.specs.Checked.{Ready}
use Rattle.unification.specs.Making.{Lent, graph, Makes, ◌and-then◌, push_functions}
use Rattle.unification.specs.Making.{related_shape, related_end, related_to, strict_related}
use Rattle.unification.proofs.Rank.{rank, Ranked, rank_over, one_highest}
use Rattle.unification.proofs.Enough.{follow_some, end_no_higher}
use Rattle.unification.proofs.Parts.{one_at}
use Rattle.unification.proofs.Rows.{length_entries, length_node_entries}
use Rattle.unification.proofs.Theorem.{ready_ranked}

-- The parts of a function: as many arguments as its head says, and then the range.
one_more : (xs ps : List ℕ) (x c n : ℕ) → length xs ≡ c → c ≡ n → xs ++ (x ∷ []) ≡ ps → length ps ≡ suc n
one_more xs ps x c n l e i = sym (ap length i) ∙ (length-append xs (x ∷ []) ∙ omega (arith, l, e))

sort_function_parts : (ws : List ℕ) (r : ResolvedSort) (n : ℕ) (ps : List ℕ) → sort_shape ws r ≡ over (function_head n) ps → length ps ≡ suc n
unfolding sort_shape
sort_function_parts ws UnitRow n ps e = no_confusion (cc)
sort_function_parts ws (Primitive s) n ps e = no_confusion (cc)
sort_function_parts ws (Container op s) n ps e = no_confusion (cc)
sort_function_parts ws (SortFunction d r) n ps e =
    one_more (entries_of ws d.start d.count) ps r.0 d.count n (length_entries ws d.start d.count) (cc) (cc)
sort_function_parts ws (Def x) n ps e = no_confusion (cc)
sort_function_parts ws (TypeVar x) n ps e = no_confusion (cc)

node_function_parts : (ns : List ℕ) (r : InferSort) (n : ℕ) (ps : List ℕ) → node_shape ns r ≡ over (function_head n) ps → length ps ≡ suc n
unfolding node_shape
node_function_parts ns (Generic op s) n ps e = no_confusion (cc)
node_function_parts ns (Function d r) n ps e =
    one_more (node_entries_of ns d.start d.count) ps r.0 d.count n (length_node_entries ns d.start d.count) (cc) (cc)
node_function_parts ns (Var v) n ps e = no_confusion (cc)

pub function_parts : (L : Lists) (q n : ℕ) (ps : List ℕ) → shape_at L q ≡ over (function_head n) ps → length ps ≡ suc n
unfolding shape_at
function_parts L q n ps e = go (is_place L.sort_count L.node_count q) (is_sort q) e
  where
    go : (a b : Bool) → cond a (cond b (sort_shape L.sorts (row_at L.sorts q)) (node_shape L.nodes
        (node_at L.nodes (q - max_sorts)))) (over (stray_head q) []) ≡ over (function_head n) ps → length ps ≡ suc n
    go true true e = sort_function_parts L.sorts (row_at L.sorts q) n ps e
    go true false e = node_function_parts L.nodes (node_at L.nodes (q - max_sorts)) n ps e
    go false b e = no_confusion (cc)

module _ (W : Lent) (B : Binds) (A : Ranked (graph W) deep B) where
  abbrev ρ : ℕ → ℕ
  ρ = rank (graph W) deep B

  -- the range of a function has a lower rank
  pub range_lower : (q n : ℕ) (ps : List ℕ) → graph W q ≡ over (function_head n) ps → ρ (get_or ps n 0) < ρ q
  range_lower q n ps s =
      omega (
        arith,
        rank_over (graph W) deep B A q (function_head n) ps s,
        one_highest ρ ps (get_or ps n 0)
            (one_at ps n (omega (arith, function_parts _ q n ps s))),
      )

  module _ (up : Bool) where
    agree : (f g : ℕ → Lent → Makes (List ℕ)) (q : ℕ) → ((r : ℕ) → ρ r < ρ q → f r W ≡ g r W) → (b : Bool) (s : Shape)
        → graph W q ≡ s → related_shape up f b s W ≡ related_shape up g b s W
    agree f g q h b (variable v) e = refl
    agree f g q h b (over (flat_head a) ps) e = refl
    agree f g q h b (over (container_head o) ps) e = refl
    agree f g q h b (over (function_head n) ps) e = ap (λ (x : Makes (List ℕ)). x and-then (push_functions (take n ps))) (h (get_or ps n 0) (range_lower q n ps e))
    agree f g q h b (over (stray_head x) ps) e = refl

    stable : (k p : ℕ) → ρ p < k → related_to up B (suc k) p W ≡ related_to up B k p W
    unfolding related_to
    stable zero p l = absurd (omega (arith, l))
    stable (suc k) p l =
        let x = follow_some (graph W) deep B A deep p (A.short p) in
        rw x.1 (agree (related_to up B (suc k)) (related_to up B k) x.0 (λ r m. stable k r
        (omega (arith, l, m, x.2))) (is_sort x.0) (graph W x.0) refl)

    at_depth : (k p : ℕ) → ρ p < k → related_to up B k p W ≡ related_end up (related_to up B k) (follow (graph W) deep B p) W
    unfolding related_to
    at_depth k p l = sym (stable k p l)

    pub related_eq : (p : ℕ) → strict_related up B p W ≡ related_end up (strict_related up B) (follow (graph W) deep B p) W
    unfolding strict_related
    related_eq p = at_depth deep p (A.short p)

-- The same for lists that passed their checks, by what stands at the end q of a place p.
module _ (W : Lent) (bs : List ℕ) (R : Ready W.sorts W.nodes bs W.lengths) where
  abbrev bound : Binds
  bound = binds_of bs W.lengths.variables

  abbrev ranked : Ranked (graph W) deep bound
  ranked = ready_ranked W.sorts W.nodes bs W.lengths R

  pub related_equation : (up : Bool) (p : ℕ) → strict_related up bound p W ≡ related_end up (strict_related up bound) (follow (graph W) deep bound p) W
  related_equation up p = related_eq W bound ranked up p

  module _ (up : Bool) (p q : ℕ) (e : follow (graph W) deep bound p ≡ some q) where
    pub related_at : (s : Shape) → graph W q ≡ s → strict_related up bound p W ≡ related_shape up (strict_related up bound) (is_sort q) s W
    related_at s i = related_equation up p ∙ rw e (rw i)

    -- a function
    module _ (n : ℕ) (ps : List ℕ) (i : graph W q ≡ over (function_head n) ps) where
      pub range_lower_than_place : rank (graph W) deep bound (get_or ps n 0) < rank (graph W) deep bound p
      range_lower_than_place = omega (arith, range_lower W bound ranked q n ps i, end_no_higher (graph W) deep bound ranked deep p q e)

      pub made_at_function : strict_related up bound p W ≡ (strict_related up bound (get_or ps n 0) W and-then (push_functions (take n ps)))
      made_at_function = related_at (over (function_head n) ps) i
