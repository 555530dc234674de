-- Making a node, a container of sorts, or functions over ranges leaves checked lists with all old places, whatever the answer is: lists or no room. By
-- the tests for room, and from step to step by the growth of lists. Assumes nothing.
use mathlib.Core.Path.{◌≡◌, refl, ap, sym, ◌∙◌, subst}
use mathlib.Core.Bool.{Bool, true, false, cond, ◌&&◌, and-eq-true_iff}
use mathlib.Core.List.{List, [], ◌∷◌, ◌++◌}
use mathlib.Core.Option.{some}
use Prim.Native.Nat.{ℕ, ◌+◌, ◌<◌, ◌≤◌}
use native.Mathlib.Omega.{arith}
use lib.ListN.{length}
use lib.Dec.{leb, ltb}
use borrow.Author.Tests.{ltb-true, leb-true}
use Rattle.resolved_sort.specs.declared.ComplexSort.{ComplexSort}
use Rattle.resolved_sort.specs.Tree.{Tree, container}
use Rattle.resolved_sort.specs.Interning.{look, number, Outcome, made as has-made, nothing, full, intern}
use Rattle.resolved_sort.specs.Storage.{max_sorts, function_kind, Row, trees, sorts_of}
use Rattle.resolved_sort.specs.Entries.{stored}
use Rattle.resolved_sort.specs.Bounds.{intern_at}
use Rattle.resolved_sort.proofs.Numbers.{look_number, number_below, member_look}
use Rattle.resolved_sort.proofs.Trees.{length_trees}
use Rattle.resolved_sort.proofs.Grown.{grown_none}
use Rattle.resolved_sort.specs.Growing.{SortsKept, InTree, Answers}
use Rattle.resolved_sort.proofs.Kept.{container_interned}
use Rattle.resolved_sort.proofs.Made.{intern_answers}
use Rattle.unification.specs.Term.{function_head, Shape, over}
use Rattle.unification.specs.Nodes.{max_nodes, max_node_entries}
use Rattle.unification.specs.Acyclic.{One, first, later}
use Rattle.unification.specs.Making.{Lent, graph, Makes, made, no_list, no_room, ◌and-then◌, append_node}
use Rattle.unification.specs.Making.{push_node, with_sorts, intern_container, push_functions}
use Rattle.unification.specs.Growing.{CheckedLent, PlacedIn, Grows}
use Rattle.unification.proofs.Grows.{placed_grown, grows_refl, grows_trans}
use Rattle.unification.proofs.Outcomes.{Each, each_weaker}
use Rattle.unification.proofs.SortsGrow.{sorts_grow}
use Rattle.unification.proofs.NodesGrow.{FineRow, function_row, node_grows, new_node_placed, new_node_shape}

-- The lists that making leaves have grown from W, and what is made is so.
unfoldable pub MadeFrom : {A : Type 0} → (Lent → A → Type 0) → Lent → Makes A → Type 0
MadeFrom In W = Each (λ a W'. Grows W W' × In W' a) (λ W'. Grows W W') (λ c W'. Grows W W')

pub made_before : {A : Type 0} (In : Lent → A → Type 0) (W W' : Lent) → CheckedLent W → Grows W W' → (O : Makes A) → MadeFrom In W' O → MadeFrom In W O
unfolding MadeFrom
made_before In W W' c g (made a W'') h = (grows_trans W c W' W'' g h.0, h.1)
made_before In W W' c g (no_list W'') h = grows_trans W c W' W'' g h
made_before In W W' c g (no_room e W'') h = grows_trans W c W' W'' g h

-- one after the other
pub made_then : {A B : Type 0} (In : Lent → A → Type 0) (On : Lent → B → Type 0) (W : Lent) → CheckedLent W → (O : Makes A) (f : A → Lent → Makes B)
    → MadeFrom In W O → ((a : A) (W' : Lent) → Grows W W' → In W' a → MadeFrom On W' (f a W')) → MadeFrom On W (O and-then f)
unfolding MadeFrom
made_then In On W c (made a W') f h k = made_before On W W' c h.0 (f a W') (k a W' h.0 h.1)
made_then In On W c (no_list W') f h k = h
made_then In On W c (no_room e W') f h k = h

pub made_so : {A : Type 0} (In On : Lent → A → Type 0) (W : Lent) (O : Makes A) → MadeFrom In W O
    → ((a : A) (W' : Lent) → Grows W W' → In W' a → On W' a) → MadeFrom On W O
unfolding MadeFrom
made_so In On W O h k = each_weaker _ _ (λ W'. Grows W W') (λ c W'. Grows W W') O (λ a W' x. (x.0, k a W' x.0 x.1)) h

-- what is made, by the equation that a call answers
pub made_grows : {A : Type 0} (In : Lent → A → Type 0) (W W' : Lent) (a : A) (O : Makes A) → MadeFrom In W O → O ≡ made a W' → Grows W W' × In W' a
unfolding MadeFrom
made_grows In W W' a O h e = subst (MadeFrom In W) e h

abbrev pub AllPlaced : Lent → List ℕ → Type 0
AllPlaced W ps = (q : ℕ) → One q ps → PlacedIn W q

-- a place of a shape
abbrev pub HasShape : Shape → Lent → ℕ → Type 0
HasShape s W p = PlacedIn W p × (graph W p ≡ s)

pub push_grows : (W : Lent) → CheckedLent W → (r : Row) (s : Shape) → FineRow W.lengths r s → MadeFrom (HasShape s) W (push_node r W)
unfolding MadeFrom push_node
push_grows W c r s f = go (ltb W.lengths.nodes max_nodes && leb (W.lengths.arguments + length r.args) max_node_entries) refl
  where
    go : (b : Bool) → (ltb W.lengths.nodes max_nodes && leb (W.lengths.arguments + length r.args) max_node_entries) ≡ b
        → MadeFrom (HasShape s) W (cond b (made (max_sorts + W.lengths.nodes) (append_node W r)) (no_room 16 W))
    go true e =
        let x = (and-eq-true_iff (ltb W.lengths.nodes max_nodes) (leb (W.lengths.arguments + length r.args) max_node_entries)).0 e in
        let room = ltb-true W.lengths.nodes max_nodes x.0 in
        let space = leb-true (W.lengths.arguments + length r.args) max_node_entries x.1 in
        (node_grows W c r s f room space, (new_node_placed W c r s f room space, new_node_shape W c r s f room space))
    go false e = grows_refl W c

-- a number of the list that stands for a sort
abbrev pub IsSort : Tree → Lent → ℕ → Type 0
IsSort t W p = (p < W.lengths.sorts) × (look (trees W.sorts W.lengths.sorts) p ≡ t)

module _ (W : Lent) (c : CheckedLent W) (o : ComplexSort) (s : ℕ) (l : s < W.lengths.sorts) where
  abbrev n : ℕ
  n = W.lengths.sorts

  abbrev e : ℕ
  e = W.lengths.entries

  abbrev T : List Tree
  T = trees W.sorts n

  abbrev new : Tree
  new = container o (look T s)

  interned : SortsKept W.sorts n e InTree (sorts_of W.sorts n e) (intern new (sorts_of W.sorts n e))
  interned =
      container_interned W.sorts n e o (look T s) (sorts_of W.sorts n e) (grown_none W.sorts n e c.sorts)
      (member_look T s (omega (arith, l, length_trees W.sorts n)))

  sort_made : (O : Outcome Tree) → SortsKept W.sorts n e InTree (sorts_of W.sorts n e) O → Answers (some new) O
      → MadeFrom (IsSort new) W (with_sorts W (stored W.sorts n e O) (stored W.sorts n e O).answer)
  unfolding MadeFrom SortsKept Answers stored
  sort_made (has-made t S) k a =
      let b : new ≡ t = cc in (
        sorts_grow W c S k.0,
        (
          number_below S.trees t k.2,
          ap (λ U. look U (number S.trees t))
              k.0.reads ∙ (look_number S.trees t k.2 ∙ sym b),
        ),
      )
  sort_made (nothing S) k a = grows_refl W c
  sort_made (full S) k a = grows_refl W c

  pub container_grows : MadeFrom (IsSort new) W (intern_container o s W)
  unfolding intern_container intern_at
  container_grows = sort_made (intern new (sorts_of W.sorts n e)) interned (intern_answers new (sorts_of W.sorts n e))

-- places of functions of xs over the ranges, one for each
pub data Functions (W : Lent) (xs : List ℕ) : List ℕ → List ℕ → Type 0 where
  no_function : Functions W xs [] []
  one_function : (r p : ℕ) (rs ps : List ℕ) → PlacedIn W p → graph W p ≡ over (function_head (length xs))
      (xs ++ (r ∷ [])) → Functions W xs rs ps → Functions W xs (r ∷ rs) (p ∷ ps)

pub functions_grow : (W : Lent) → CheckedLent W → (xs : List ℕ) → length xs ≤ 16 → AllPlaced W xs → (rs : List ℕ)
    → AllPlaced W rs → MadeFrom (λ W' ps. Functions W' xs rs ps) W (push_functions xs rs W)
unfolding MadeFrom push_functions
functions_grow W c xs few x [] y = (grows_refl W c, no_function)
functions_grow W c xs few x (r ∷ rs) y =
    made_then (HasShape (over (function_head (length xs)) (xs ++ (r ∷ [])))) (λ W' ps. Functions W' xs (r ∷ rs) ps) W c
    (push_node (record { kind = function_kind; part = r; args = xs }) W) _
    (push_grows W c (record { kind = function_kind; part = r; args = xs }) (over (function_head (length xs))
    (xs ++ (r ∷ []))) (function_row xs r few x (y r (first rs))))
    (λ p W₁ g h. made_then (λ W' ps. Functions W' xs rs ps) (λ W' ps. Functions W' xs (r ∷ rs) ps) W₁ g.checked (push_functions xs rs W₁) _
    (functions_grow W₁ g.checked xs few (λ q z. placed_grown W c W₁ g q (x q z)) rs (λ q z. placed_grown W c W₁ g q (y q (later r rs z))))
    (λ ps W₂ k z. (grows_refl W₂ k.checked, one_function r p rs ps (placed_grown W₁ g.checked W₂ k p h.0) (k.same p h.0 ∙ h.1) z)))
