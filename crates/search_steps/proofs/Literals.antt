-- A literal, as the code meets it: the number sorts to try, and what stands at the end of its place, by the row there. Assumes nothing.
use mathlib.Core.Path.{◌≡◌, refl, ap, sym, ◌∙◌, subst}
use mathlib.Core.Bool.{false}
use mathlib.Core.List.{List, [], ◌∷◌}
use mathlib.Core.Option.{some}
use Prim.Native.Nat.{ℕ, zero, suc, ◌-◌, ◌<◌, ◌≤◌}
use native.Mathlib.Omega.{arith}
use Rattle.resolved_sort.specs.declared.Sort.{Sort}
use Rattle.resolved_sort.specs.declared.ResolvedSort.{ResolvedSort}
use Rattle.resolved_sort.specs.declared.ResolvedSort.TheVariants.{Unit as UnitRow, Primitive, Container, Function as SortFunction, Def, TypeVar}
use Rattle.resolved_sort.specs.Tree.{family, level}
use Rattle.resolved_sort.specs.Storage.{max_sorts, row_at}
use Rattle.std.specs.Prelude.{Option as Answer, Some, None}
use Rattle.sort_order.specs.Inner.Answers.{generality}
use Rattle.unification.specs.declared.InferSortId.{InferSortId}
use Rattle.unification.specs.declared.SortVar.{SortVar}
use Rattle.unification.specs.declared.Lengths.{Lengths}
use Rattle.unification.specs.declared.InferSort.{InferSort}
use Rattle.unification.specs.declared.InferSort.TheVariants.{Generic, Function, Var}
use Rattle.unification.specs.Term.{Shape}
use Rattle.unification.specs.Nodes.{node_at, sort_shape, node_shape, Binds, binds_of}
use Rattle.unification.specs.Unify.{follow, deep}
use Rattle.unification.specs.Checked.{graph_of, Ready, Placed}
use Rattle.infer_nodes.proofs.Shapes.{at_sort, shape_of_node}
use Rattle.infer_nodes.proofs.Ways.{end_is_placed}
use Rattle.inference.specs.declared.LitKind.{LitKind}
use Rattle.inference.specs.declared.LitKind.TheVariants.{Positive, Natural}
use Rattle.inference.specs.Constraints.{rows_from}
use Rattle.inference.specs.Search.{lit_component}
use Rattle.search_state.specs.declared.LitAt.{LitAt}
use Rattle.search_state.specs.declared.LitAt.TheVariants.{Number, Free, Other}
use Rattle.search_state.specs.Inner.Leaves.{try_at, lit_number, lit_shape, lit_end, lit_at}
use Rattle.search_steps.specs.Inner.Steps.{lit_row, LitTries}
use Rattle.search_steps.proofs.Laws.{four_of, nth}

-- the number sorts for a literal
positive_places : (j : ℕ) → j < 4 → nth (four_of 2 3 4 5) j < 6
positive_places zero l = omega arith
positive_places (suc zero) l = omega arith
positive_places (suc (suc zero)) l = omega arith
positive_places (suc (suc (suc zero))) l = omega arith
positive_places (suc (suc (suc (suc j)))) l = absurd (omega (arith, l))

natural_places : (j : ℕ) → j < 3 → nth (four_of 3 4 5 0) j < 6
natural_places zero l = omega arith
natural_places (suc zero) l = omega arith
natural_places (suc (suc zero)) l = omega arith
natural_places (suc (suc (suc j))) l = absurd (omega (arith, l))

module _ (kind : LitKind) (id : InferSortId) where
  positive_tries : kind ≡ Positive → LitTries kind id (record { ids = four_of 2 3 4 5; count = 4; other = id; up = false; first = 0 })
  unfolding rows_from try_at
  positive_tries e = rw e (record { says = refl; few = omega arith; first = omega arith; places = positive_places; other = refl })

  natural_tries : kind ≡ Natural → LitTries kind id (record { ids = four_of 3 4 5 0; count = 3; other = id; up = false; first = 1 })
  unfolding rows_from try_at
  natural_tries e = rw e (record { says = refl; few = omega arith; first = omega arith; places = natural_places; other = refl })

-- the same of places that are those of the number sorts
module _ (kind : LitKind) (id a b c d : InferSortId) where
  pub positive_places_tried :
      a.0 ≡ 2 → b.0 ≡ 3 → c.0 ≡ 4 → d.0 ≡ 5 → kind ≡ Positive
      → LitTries kind id (record { ids = a ∷ b ∷ c ∷ d ∷ []; count = 4; other = id; up = false; first = 0 })
  positive_places_tried ea eb ec ed e =
      let of : ℕ → ℕ → ℕ → ℕ → Type 0 = λ w x y z. LitTries kind id (record { ids = four_of w x y z; count = 4; other = id; up = false; first = 0 }) in
      subst (λ w. of w b.0 c.0 d.0) (sym ea) (subst (λ x. of 2 x c.0 d.0) (sym eb) (subst (λ y. of 2 3 y d.0) (sym ec) (subst (of 2 3 4) (sym ed) (positive_tries kind id e))))

  pub natural_places_tried :
      a.0 ≡ 3 → b.0 ≡ 4 → c.0 ≡ 5 → kind ≡ Natural
      → LitTries kind id (record { ids = a ∷ b ∷ c ∷ record { 0 = 0 } ∷ []; count = 3; other = id; up = false; first = 1 })
  natural_places_tried ea eb ec e =
      let of : ℕ → ℕ → ℕ → Type 0 = λ w x y. LitTries kind id (record { ids = four_of w x y 0; count = 3; other = id; up = false; first = 1 }) in
      subst (λ w. of w b.0 c.0) (sym ea) (subst (λ x. of 3 x c.0) (sym eb) (subst (of 3 4) (sym ec) (natural_tries kind id e)))

-- at a number sort its generality, but never 0 for a natural literal
abbrev pub lit_of : LitKind → Answer ℕ → LitAt
lit_of k None = Other
lit_of Positive (Some g) = Number g
lit_of Natural (Some zero) = Other
lit_of Natural (Some (suc g)) = Number (suc g)

lit_is : (k : LitKind) (s : Sort) → lit_of k (generality s) ≡ lit_number (lit_component k s)
unfolding family level lit_component
lit_is Positive Sort.Bool = refl
lit_is Positive Sort.Pos = refl
lit_is Positive Sort.Nat = refl
lit_is Positive Sort.Int = refl
lit_is Positive Sort.Real = refl
lit_is Natural Sort.Bool = refl
lit_is Natural Sort.Pos = refl
lit_is Natural Sort.Nat = refl
lit_is Natural Sort.Int = refl
lit_is Natural Sort.Real = refl

module _ (k : LitKind) (s : Sort) (r : Answer ℕ) (e : r ≡ generality s) where
  pub lit_by : (x : Answer ℕ) → r ≡ x → lit_of k x ≡ lit_number (lit_component k s)
  lit_by x q = ap (lit_of k) (sym q ∙ e) ∙ lit_is k s

  pub no_number : r ≡ None → Other ≡ lit_number (lit_component k s)
  no_number q = lit_by None q

  pub number : (g : ℕ) → r ≡ Some g → (k ≡ Natural → g ≡ 0 → ⊥) → Number g ≡ lit_number (lit_component k s)
  number g q n = go k g n ∙ lit_by (Some g) q
    where
      go : (k : LitKind) (g : ℕ) → (k ≡ Natural → g ≡ 0 → ⊥) → Number g ≡ lit_of k (Some g)
      go Positive g n = refl
      go Natural zero n = absurd (n refl refl)
      go Natural (suc g) n = refl

  pub positive_number : (g : ℕ) → r ≡ Some g → k ≡ Positive → Number g ≡ lit_number (lit_component k s)
  positive_number g q i = ap (λ (x : LitKind). lit_of x (Some g)) (sym i) ∙ lit_by (Some g) q

  pub zero_is_not_pos : r ≡ Some 0 → k ≡ Natural → Other ≡ lit_number (lit_component k s)
  zero_is_not_pos q i = ap (λ (x : LitKind). lit_of x (Some 0)) (sym i) ∙ lit_by (Some 0) q

row_by_shape : (kind : LitKind) (ws : List ℕ) (r : ResolvedSort) → lit_row kind r ≡ lit_shape kind (sort_shape ws r)
unfolding sort_shape
row_by_shape kind ws UnitRow = refl
row_by_shape kind ws (Primitive s) = refl
row_by_shape kind ws (Container o s) = refl
row_by_shape kind ws (SortFunction d g) = refl
row_by_shape kind ws (Def n) = refl
row_by_shape kind ws (TypeVar n) = refl

-- at the end of a place
module _ (ws ns bs : List ℕ) (k : Lengths) (q : Ready ws ns bs k) (kind : LitKind) (p : ℕ) (i : Placed k p) (end : ℕ)
    (f : follow (graph_of ws ns k) deep (binds_of bs k.variables) p ≡ some end) where
  abbrev shape : ℕ → Shape
  shape = graph_of ws ns k

  abbrev B : Binds
  B = binds_of bs k.variables

  at_end : lit_at kind shape B p ≡ lit_shape kind (shape end)
  unfolding lit_at
  at_end = ap (lit_end kind shape) f

  placed : Placed k end
  placed = end_is_placed ws ns bs k q p end i f

  pub at_row : end < max_sorts → (r : ResolvedSort) → r ≡ row_at ws end → (x : LitAt) → x ≡ lit_row kind r → x ≡ lit_at kind shape B p
  at_row l r e x y =
      y ∙ (ap (lit_row kind) e ∙ (row_by_shape kind ws (row_at ws end) ∙ (ap (lit_shape kind) (sym (at_sort ws ns k q.nodes end placed l)) ∙ sym at_end)))

  module _ (l : max_sorts ≤ end) (r : InferSort) (e : r ≡ node_at ns (end - max_sorts)) where
    by_node : (x : InferSort) → r ≡ x → lit_shape kind (node_shape ns x) ≡ lit_at kind shape B p
    by_node x z = ap (λ y. lit_shape kind (node_shape ns y)) (sym z) ∙ (ap (lit_shape kind) (sym (shape_of_node ws ns k q.nodes end placed l r e)) ∙ sym at_end)

    pub other_at_node : ((v : SortVar) → r ≡ Var v → ⊥) → Other ≡ lit_at kind shape B p
    unfolding node_shape
    other_at_node n = go r refl
      where
        go : (x : InferSort) → r ≡ x → Other ≡ lit_at kind shape B p
        go (Generic o s) z = by_node (Generic o s) z
        go (Function d g) z = by_node (Function d g) z
        go (Var v) z = absurd (n v z)

    pub free_at_variable : (v : SortVar) → r ≡ Var v → Free ≡ lit_at kind shape B p
    unfolding node_shape
    free_at_variable v z = by_node (Var v) z
