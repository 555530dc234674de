-- The definition, as the code meets it: by the head of a sort or a node, by the end of a place, and at a function. A function's range has a lower rank than
-- the function, and the end of a place no higher one. Assumes nothing.
use mathlib.Core.Path.{◌≡◌, refl, ap, sym, ◌∙◌, subst}
use mathlib.Core.Logic.{◌⊎◌, inl, inr}
use mathlib.Core.List.{List, [], ◌∷◌, ◌++◌}
use mathlib.Core.Option.{some}
use mathlib.Core.Bool.{Bool, true, false}
use Prim.Native.Nat.{ℕ, ◌-◌, ◌<◌, ◌≤◌}
use native.Mathlib.Omega.{arith}
use lib.ListN.{length, get_or}
use borrow.Author.Tests.{lt-ltb, le-ltb}
use Rattle.resolved_sort.specs.declared.Sort.{Sort}
use Rattle.resolved_sort.specs.declared.Run.{Run}
use Rattle.resolved_sort.specs.declared.ComplexSort.{ComplexSort}
use Rattle.resolved_sort.specs.declared.SortId.{SortId}
use Rattle.resolved_sort.specs.declared.ResolvedSort.{ResolvedSort}
use Rattle.resolved_sort.specs.declared.ResolvedSort.TheVariants.{Unit as UnitRow, Primitive, Container, Function as SortFunction, Def, TypeVar}
use Rattle.resolved_sort.specs.Tree.{unit, primitive, def, typevar}
use Rattle.resolved_sort.specs.Storage.{max_sorts, entries_of, row_at}
use Rattle.resolved_sort.specs.Rows.{Checked}
use Rattle.unification.specs.declared.Lengths.{Lengths}
use Rattle.unification.specs.declared.InferSortId.{InferSortId}
use Rattle.unification.specs.declared.SortVar.{SortVar}
use Rattle.unification.specs.declared.NodeId.{NodeId}
use Rattle.unification.specs.declared.Place.TheVariants.{Node}
use Rattle.unification.specs.declared.InferSort.{InferSort}
use Rattle.unification.specs.declared.InferSort.TheVariants.{Generic, Function, Var}
use Rattle.unification.specs.Term.{Head, flat_head, container_head, function_head, Shape, variable, over}
use Rattle.unification.specs.Inner.Term.{parts_of}
use Rattle.unification.specs.Nodes.{is_sort, node_entries_of, node_at, sort_shape, node_shape, Binds, binds_of}
use Rattle.unification.specs.Unify.{follow, deep}
use Rattle.unification.specs.Acyclic.{first}
use Rattle.unification.specs.Checked.{graph_of, Ready, Placed}
use Rattle.unification.specs.Related.{related_container}
use Rattle.unification.specs.Inner.Apart.{TakenApart}
use Rattle.unification.specs.Making.{Lent, Makes, made, no_list, related_over, related_places, related_shape, related_end, strict_related}
use Rattle.unification.specs.Inner.Making.{lent}
use Rattle.unification.proofs.Follow.{follow_end}
use Rattle.unification.proofs.Rank.{rank}
use Rattle.unification.proofs.Theorem.{ready_ranked}
use Rattle.unification.proofs.Enough.{follow_eq, end_no_higher}
use Rattle.unification.proofs.RelatedEq.{function_parts, related_equation, range_lower_than_place}
use Rattle.unification.proofs.Grows.{parts_placed}
use Rattle.unification.proofs.Parts.{one_at}
use Rattle.unification.proofs.PlaceTerms.{placed_formed, sort_part_below}
use Rattle.unification.proofs.Rows.{ShapeFormed, variable_formed, flat_formed, container_formed, function_formed}
use Rattle.infer_nodes.specs.Inner.Parts.{NodesReady}
use Rattle.infer_nodes.proofs.Shapes.{at_sort, shape_of_node}
use Rattle.infer_nodes.proofs.Apart.{above_sorts, stands_at_place}
use Rattle.infer_nodes.proofs.Ways as ways
use Rattle.related_sorts.specs.declared.listing.Listed.{Listed}
use Rattle.related_sorts.specs.Listed.{places}
use Rattle.related_sorts.specs.Inner.Outcome.{IsFunction, FunctionAt}
use Rattle.related_sorts.specs.Inner.Ranges.{related_head}

-- a place under another name
pub head_of_the_same : (W : Lent) (up : Bool) (p q : ℕ) → p ≡ q → {O : Makes (List ℕ)} → O ≡ related_head up p W → O ≡ related_head up q W
head_of_the_same W up p q e u = u ∙ ap (λ (x : ℕ). related_head up x W) e

-- by the head
module _ (ws ns : List ℕ) (k : Lengths) (q : NodesReady ws ns k) (up : Bool) (p : ℕ) (i : Placed k p) where
  abbrev L : Lent
  L = lent ws ns k

  abbrev head : Makes (List ℕ)
  head = related_head up p L

  abbrev by : Shape → Makes (List ℕ)
  by s = related_shape up (λ x U. no_list U) (is_sort p) s L

  by_shape : (s : Shape) → graph_of ws ns k p ≡ s → by s ≡ head
  by_shape s e = ap by (sym e)

  -- a sort of the list
  module _ (l : p < max_sorts) (r : ResolvedSort) (j : r ≡ row_at ws p) where
    sort_is : (y : ResolvedSort) → r ≡ y → graph_of ws ns k p ≡ sort_shape ws y
    sort_is y e = at_sort ws ns k q p i l ∙ ap (sort_shape ws) (sym j ∙ e)

    module _ (c : Listed) (y : places c ≡ []) where
      none_listed : made (places c) L ≡ made [] L
      none_listed = ap (λ (ps : List ℕ). made ps L) y

      pub plain_has_none : (r ≡ UnitRow) ⊎ (((n : ℕ) × (r ≡ Def n)) ⊎ ((n : ℕ) × (r ≡ TypeVar n))) → made (places c) L ≡ head
      unfolding sort_shape
      plain_has_none (inl e) = none_listed ∙ by_shape (over (flat_head unit) []) (sort_is UnitRow e)
      plain_has_none (inr (inl e)) = none_listed ∙ by_shape (over (flat_head (def e.0)) []) (sort_is (Def e.0) e.1)
      plain_has_none (inr (inr e)) = none_listed ∙ by_shape (over (flat_head (typevar e.0)) []) (sort_is (TypeVar e.0) e.1)

    pub numbers_related : (s : Sort) → r ≡ Primitive s → (c : Listed) → places c ≡ related_places up (primitive s) → made (places c) L ≡ head
    unfolding sort_shape
    numbers_related s e c a = ap (λ (xs : List ℕ). made xs L) a ∙ by_shape (over (flat_head (primitive s)) []) (sort_is (Primitive s) e)

    module _ (o : ComplexSort) (s : SortId) (e : r ≡ Container o s) where
      container_is : graph_of ws ns k p ≡ over (container_head o) (s.0 ∷ [])
      unfolding sort_shape
      container_is = sort_is (Container o s) e

      pub container_asked : Checked ws k.sorts k.entries × (s.0 < k.sorts)
      container_asked = (q.sorts, sort_part_below L q p s.0 (container_head o) (s.0 ∷ []) (lt-ltb p max_sorts l) i container_is (first []))

      pub container_related : related_over (related_container up o) true s.0 L ≡ head
      container_related =
          ap (λ (c : Bool). related_over (related_container up o) c s.0 L) (sym (lt-ltb p max_sorts l))
          ∙ by_shape (over (container_head o) (s.0 ∷ [])) container_is

    pub function_sort_passed : (d : Run) (g : SortId) → r ≡ SortFunction d g → no_list L ≡ head
    unfolding sort_shape
    function_sort_passed d g e = by_shape (over (function_head d.count) (entries_of ws d.start d.count ++ (g.0 ∷ []))) (sort_is (SortFunction d g) e)

  -- a node
  module _ (n : NodeId) (apart : TakenApart p (Node n)) {r : InferSort} (stands : r ≡ node_at ns n.0) where
    l : max_sorts ≤ p
    l = above_sorts p n apart

    j : r ≡ node_at ns (p - max_sorts)
    j = stands_at_place p n apart ns stands

    node_is : (y : InferSort) → r ≡ y → graph_of ws ns k p ≡ node_shape ns y
    node_is y e = shape_of_node ws ns k q p i l r j ∙ ap (node_shape ns) e

    pub node_container_related : (o : ComplexSort) (s : InferSortId) → r ≡ Generic o s → related_over (related_container up o) false s.0 L ≡ head
    unfolding node_shape
    node_container_related o s e =
        ap (λ (c : Bool). related_over (related_container up o) c s.0 L) (sym (le-ltb p max_sorts l))
        ∙ by_shape (over (container_head o) (s.0 ∷ [])) (node_is (Generic o s) e)

    pub function_node_passed : (d : Run) (g : InferSortId) → r ≡ Function d g → no_list L ≡ head
    unfolding node_shape
    function_node_passed d g e = by_shape (over (function_head d.count) (node_entries_of ns d.start d.count ++ (g.0 ∷ []))) (node_is (Function d g) e)

    pub variable_has_no_list : (v : SortVar) → r ≡ Var v → no_list L ≡ head
    unfolding node_shape
    variable_has_no_list v e = by_shape (variable v.0) (node_is (Var v) e)

-- a function has at most 16 arguments
few_arguments : (s : Shape) → ShapeFormed s → (n : ℕ) (ps : List ℕ) → s ≡ over (function_head n) ps → n ≤ 16
few_arguments _ (function_formed m xs r l h) n ps e = let z : m ≡ n = cc in omega (arith, h, z)
few_arguments _ (variable_formed v) n ps e = absurd (let z : ◌≡◌ {A = ℕ} 0 1 = cc in omega arith)
few_arguments _ (flat_formed a) n ps e = absurd (let z : ◌≡◌ {A = ℕ} 0 1 = cc in omega arith)
few_arguments _ (container_formed o s) n ps e = absurd (let z : ◌≡◌ {A = ℕ} 0 1 = cc in omega arith)

-- the parts of a function, counted
pub counted : (ws ns : List ℕ) (k : Lengths) (p : ℕ) (F : FunctionAt ws ns k p) (m : ℕ) → m ≡ length (parts_of (graph_of ws ns k p))
    → (0 < m) × IsFunction ws ns k p (m - 1)
counted ws ns k p F m e = (
  omega (arith, e, F.function.many),
  subst (IsFunction ws ns k p) (let z : F.arguments ≡ m - 1 = omega (arith, e, F.function.many) in z) F.function,
)

module _ (ws ns bs : List ℕ) (k : Lengths) (q : Ready ws ns bs k) (up : Bool) where
  abbrev W : Lent
  W = lent ws ns k

  abbrev B : Binds
  B = binds_of bs k.variables

  abbrev shape : ℕ → Shape
  shape = graph_of ws ns k

  abbrev answer : ℕ → Makes (List ℕ)
  answer p = strict_related up B p W

  -- a place at which no variable stands is its own end
  pub own_end : (p : ℕ) (h : Head) (ps : List ℕ) → shape p ≡ over h ps → follow shape deep B p ≡ some p
  own_end p h ps s = follow_eq shape deep B (ready_ranked ws ns bs k q) p ∙ rw s

  pub function_at : (p : ℕ) → Placed k p → (n : ℕ) (ps : List ℕ) → shape p ≡ over (function_head n) ps → FunctionAt ws ns k p
  function_at p i n ps s =
      record {
        arguments = n;
        function =
            record {
              nodes = q.nodes;
              placed = i;
              stands = s ∙ ap (over (function_head n)) (sym (ap parts_of s));
              many = ap (λ y. length (parts_of y)) s ∙ function_parts _ p n ps s;
              few = few_arguments (shape p) (placed_formed W q.nodes p i) n ps s;
            };
      }

  -- the end of a place
  module _ (p end : ℕ) (i : Placed k p) (f : follow shape deep B p ≡ some end) where
    pub end_placed : Placed k end
    end_placed = ways.end_is_placed ws ns bs k q p end i f

    pub end_rank : rank shape deep B end ≤ rank shape deep B p
    end_rank = end_no_higher shape deep B (ready_ranked ws ns bs k q) deep p end f

    pub end_of_end : follow shape deep B end ≡ some end
    end_of_end = go (shape end) refl
      where
        go : (s : Shape) → shape end ≡ s → follow shape deep B end ≡ some end
        go (variable v) s = follow_eq shape deep B (ready_ranked ws ns bs k q) end ∙ rw s (rw (follow_end shape B deep p end v f s))
        go (over h ps) s = own_end end h ps s

    pub end_answers : answer end ≡ answer p
    end_answers =
        related_equation W bs q up end ∙ (ap (λ o. related_end up (strict_related up B) o W) (end_of_end ∙ sym f) ∙ sym (related_equation W bs q up p))

  -- the range of a function
  module _ (p n : ℕ) (I : IsFunction ws ns k p n) where
    abbrev ps : List ℕ
    ps = parts_of (shape p)

    pub range_asked : NodesReady ws ns k × Placed k p × (n < length ps)
    range_asked = (q.nodes, I.placed, omega (arith, I.many))

    module _ (g : ℕ) (e : g ≡ get_or ps n 0) where
      pub range_placed : Placed k g
      range_placed = subst (Placed k) (sym e) (parts_placed W q.nodes p (get_or ps n 0) (function_head n) ps
          I.placed I.stands (one_at ps n (omega (arith, I.many))))

      pub range_lower : rank shape deep B g < rank shape deep B p
      range_lower =
          subst (λ (x : ℕ). rank shape deep B x < rank shape deep B p) (sym e)
          (range_lower_than_place W bs q up p p (own_end p (function_head n) ps I.stands) n ps I.stands)
