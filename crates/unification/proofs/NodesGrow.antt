-- One more node: its row is written past the rows and its entries past the entries in use, so that these read as before; a row with its parts among
-- the places is fine and has its shape. Assumes nothing.
use mathlib.Core.Path.{◌≡◌, refl, ap, ap₂, sym, ◌∙◌}
use mathlib.Core.Bool.{true, cond, ◌&&◌}
use mathlib.Core.Logic.{◌≢◌}
use mathlib.Core.List.{List, [], ◌∷◌, ◌++◌}
use Prim.Native.Nat.{ℕ, suc, ◌+◌, ◌-◌, ◌*◌, ◌<◌, ◌≤◌}
use native.Mathlib.Omega.{arith}
use native.Mathlib.Nat.{add-zero}
use native.Mathlib.Decide.{ℕ_discrete}
use lib.ListN.{length, get_or}
use lib.Seq.{sets, length-sets}
use lib.Dec.{eqb}
use borrow.Author.Tests.{lt-ltb, le-ltb}
use Rattle.resolved_sort.specs.declared.ComplexSort.{ComplexSort}
use Rattle.resolved_sort.specs.declared.Run.{Run}
use Rattle.resolved_sort.specs.Storage.{max_sorts, function_kind, Row, kind_op, put_row}
use Rattle.resolved_sort.proofs.Below.{each_below}
use Rattle.resolved_sort.proofs.Unchanged.{agrees_refl}
use Rattle.resolved_sort.proofs.Append.{get_d_sets_before, get_d_sets_at, length_put_row, put_row_other, put_row_kind, put_row_part, put_row_start, put_row_count}
use Rattle.unification.specs.declared.Lengths.{Lengths}
use Rattle.unification.specs.declared.InferSort.{InferSort}
use Rattle.unification.specs.Term.{container_head, function_head, Shape, over}
use Rattle.unification.specs.Nodes.{max_nodes, max_node_entries, node_entries_at, full_nodes, node_kind_at, node_part_at}
use Rattle.unification.specs.Nodes.{node_start_at, node_count_at, node_entry_at, node_entries_of, inferred, node_at}
use Rattle.unification.specs.Nodes.{node_shape, is_place, shape_at}
use Rattle.unification.specs.NodeChecks.{node_parts_fine, node_kind_fine, node_fine, nodes_fine}
use Rattle.unification.specs.Acyclic.{One}
use Rattle.unification.specs.Checked.{Placed}
use Rattle.unification.specs.Making.{Lent, graph, append_node}
use Rattle.unification.specs.Growing.{CheckedLent, PlacedIn, Grows, NodesAgree}
use Rattle.unification.proofs.Grows.{rows_same, node_fine_longer, node_shape_same}
use Rattle.unification.proofs.Parts.{one_at}
use Rattle.unification.proofs.Rows.{fine_tests}

-- A row with its parts among the places, and its shape: a container of a place, or a function of at most 16.
pub data FineRow (k : Lengths) : Row → Shape → Type 0 where
  container_row : (o : ComplexSort) (p : ℕ) → Placed k p → FineRow k (record { kind = kind_op o; part = p; args = [] }) (over (container_head o) (p ∷ []))
  function_row : (xs : List ℕ) (p : ℕ) → length xs ≤ 16 → ((q : ℕ) → One q xs → Placed k q) → Placed k p
      → FineRow k (record { kind = function_kind; part = p; args = xs }) (over (function_head (length xs)) (xs ++ (p ∷ [])))

-- the entries from s on are what stands there
node_entries_are : (ns vs : List ℕ) (s : ℕ) → ((j : ℕ) → j < length vs → node_entry_at ns (s + j) ≡ get_or vs j 0) → node_entries_of ns s (length vs) ≡ vs
unfolding node_entries_of
node_entries_are ns [] s h = refl
node_entries_are ns (v ∷ vs) s h =
    ap₂ ◌∷◌ (ap (node_entry_at ns) (sym (add-zero s)) ∙ h 0 (omega arith))
    (node_entries_are ns vs (s + 1) (λ j l. ap (node_entry_at ns) (omega arith) ∙ h (suc j) (omega (arith, l))))

abbrev start_of : ℕ → Row → ℕ
start_of d r = cond (eqb r.kind function_kind) d 0

abbrev row_put : List ℕ → ℕ → ℕ → Row → List ℕ
row_put ns m d r = put_row ns m r.kind r.part (start_of d r) (length r.args)

abbrev new_nodes : List ℕ → ℕ → ℕ → Row → List ℕ
new_nodes ns m d r = sets (row_put ns m d r) (node_entries_at + d) r.args

-- one more row, where there is room for it
module _ (ns : List ℕ) (m d : ℕ) (r : Row) (long : full_nodes ≤ length ns) (room : m < max_nodes) (space : d + length r.args ≤ max_node_entries) where
  before_entries : (j : ℕ) → j < node_entries_at + d → get_or (new_nodes ns m d r) j 0 ≡ get_or (row_put ns m d r) j 0
  before_entries j h = get_d_sets_before r.args (row_put ns m d r) (node_entries_at + d) j h

  unchanged : (j : ℕ) → j < node_entries_at + d → j ≢ 4 * m → j ≢ 4 * m + 1 → j ≢ 4 * m + 2 → j ≢ 4 * m + 3 → get_or (new_nodes ns m d r) j 0 ≡ get_or ns j 0
  unchanged j h a b c e = before_entries j h ∙ put_row_other ns m r.kind r.part (start_of d r) (length r.args) j a b c e

  old_same : NodesAgree ns (new_nodes ns m d r) m d
  old_same =
      record {
        rows = λ j l. unchanged j (omega arith) (λ x. omega arith) (λ x. omega arith) (λ x. omega arith) (λ x. omega arith);
        entries = λ j l. unchanged (node_entries_at + j) (omega arith) (λ x. omega arith) (λ x. omega arith) (λ x. omega arith) (λ x. omega arith);
      }

  length_new : length (new_nodes ns m d r) ≡ length ns
  length_new = length-sets (row_put ns m d r) (node_entries_at + d) r.args ∙ length_put_row ns m r.kind r.part (start_of d r) (length r.args)

  new_kind : node_kind_at (new_nodes ns m d r) m ≡ r.kind
  new_kind = before_entries (4 * m) (omega arith) ∙ put_row_kind ns m r.kind r.part (start_of d r) (length r.args) (omega arith)

  new_node : node_at (new_nodes ns m d r) m ≡ inferred r.kind r.part (record { start = start_of d r; count = length r.args })
  new_node =
      let p : node_part_at (new_nodes ns m d r) m ≡ r.part = before_entries (4 * m + 1) (omega arith) ∙ put_row_part ns m
      r.kind r.part (start_of d r) (length r.args) (omega arith) in
      let s : node_start_at (new_nodes ns m d r) m ≡ start_of d r = before_entries (4 * m + 2) (omega arith) ∙
      put_row_start ns m r.kind r.part (start_of d r) (length r.args) (omega arith) in
      let c : node_count_at (new_nodes ns m d r) m ≡ length r.args = before_entries (4 * m + 3) (omega arith) ∙
      put_row_count ns m r.kind r.part (start_of d r) (length r.args) (omega arith) in
      λ i. inferred (new_kind i) (p i) (record { start = s i; count = c i })

  new_entry : (j : ℕ) → j < length r.args → node_entry_at (new_nodes ns m d r) (d + j) ≡ get_or r.args j 0
  new_entry j h =
      ap (λ i. get_or (new_nodes ns m d r) i 0) (omega arith)
      ∙ get_d_sets_at r.args (row_put ns m d r) (node_entries_at + d) j (omega (
        arith,
        length_put_row ns m r.kind
            r.part (start_of d r) (length r.args),
      )) h

  new_entries : node_entries_of (new_nodes ns m d r) d (length r.args) ≡ r.args
  new_entries = node_entries_are (new_nodes ns m d r) r.args d new_entry

-- the shape of a container's row, and that it is fine
container_shape : (ns : List ℕ) (o : ComplexSort) (p : ℕ) (run : Run) → node_shape ns (inferred (kind_op o) p run) ≡ over (container_head o) (p ∷ [])
unfolding node_shape inferred kind_op
container_shape ns ComplexSort.List p run = refl
container_shape ns ComplexSort.Set p run = refl
container_shape ns ComplexSort.FSet p run = refl
container_shape ns ComplexSort.Bag p run = refl
container_shape ns ComplexSort.FBag p run = refl

container_fine : (ns : List ℕ) (d n v i : ℕ) (o : ComplexSort) (p : ℕ) (run : Run) → is_place n i p ≡ true
    → (node_kind_fine (kind_op o) && node_parts_fine ns d n v i (inferred (kind_op o) p run)) ≡ true
unfolding node_kind_fine node_parts_fine inferred kind_op
container_fine ns d n v i ComplexSort.List p run f = f
container_fine ns d n v i ComplexSort.Set p run f = f
container_fine ns d n v i ComplexSort.FSet p run f = f
container_fine ns d n v i ComplexSort.Bag p run f = f
container_fine ns d n v i ComplexSort.FBag p run f = f

new_shape_is : (ns : List ℕ) (m d : ℕ) (k : Lengths) (r : Row) (s : Shape) → FineRow k r s → full_nodes ≤ length ns
    → m < max_nodes → d + length r.args ≤ max_node_entries
    → node_shape (new_nodes ns m d r) (node_at (new_nodes ns m d r) m) ≡ s
unfolding node_shape inferred
new_shape_is ns m d k _ _ (container_row o p x) long room space =
    let r : Row = record { kind = kind_op o; part = p; args = [] } in
    ap (node_shape (new_nodes ns m d r)) (new_node ns m d r long room space) ∙ container_shape (new_nodes ns m d r) o p _
new_shape_is ns m d k _ _ (function_row xs p few x y) long room space =
    let r : Row = record { kind = function_kind; part = p; args = xs } in
    ap (node_shape (new_nodes ns m d r)) (new_node ns m d r long room space) ∙ ap (λ ys. over (function_head (length xs))
    (ys ++ (p ∷ []))) (new_entries ns m d r long room space)

fine_by : (ns : List ℕ) (d n v i kind : ℕ) (r : InferSort) → node_kind_at ns i ≡ kind → node_at ns i ≡ r
    → (node_kind_fine kind && node_parts_fine ns d n v i r) ≡ true → node_fine ns d n v i ≡ true
unfolding node_fine
fine_by ns d n v i kind r e f x = ap₂ (λ k q. node_kind_fine k && node_parts_fine ns d n v i q) e f ∙ x

function_fine : (ns : List ℕ) (e n v i p s c : ℕ) → c ≤ 16 → s + c ≤ e → is_place n i p ≡ true → ((j : ℕ) → j < c → is_place n i (node_entry_at ns (s + j)) ≡ true)
    → (node_kind_fine function_kind && node_parts_fine ns e n v i (inferred function_kind p (record { start = s; count = c }))) ≡ true
unfolding node_kind_fine node_parts_fine inferred
function_fine ns e n v i p s c few inside y x =
    fine_tests (is_place n i) (node_entry_at ns) e (record { start = s; count = c }) p (record { short = few; inside = inside; range_fits = y; each_fits = x })

new_row_fine : (ns : List ℕ) (k : Lengths) (r : Row) (s : Shape) → FineRow k r s → full_nodes ≤ length ns
    → k.nodes < max_nodes → k.arguments + length r.args ≤ max_node_entries
    → node_fine (new_nodes ns k.nodes k.arguments r) (k.arguments + length r.args) k.sorts k.variables k.nodes ≡ true
new_row_fine ns k _ _ (container_row o p x) long room space =
    let r : Row = record { kind = kind_op o; part = p; args = [] } in
    fine_by (new_nodes ns k.nodes k.arguments r) (k.arguments + 0) k.sorts k.variables k.nodes (kind_op o) _
    (new_kind ns k.nodes k.arguments r long room space) (new_node ns k.nodes k.arguments r long room space)
    (container_fine (new_nodes ns k.nodes k.arguments r) (k.arguments + 0) k.sorts k.variables k.nodes o p _ x)
new_row_fine ns k _ _ (function_row xs p few x y) long room space =
    let r : Row = record { kind = function_kind; part = p; args = xs } in
    fine_by (new_nodes ns k.nodes k.arguments r) (k.arguments + length xs) k.sorts k.variables k.nodes function_kind _
    (new_kind ns k.nodes k.arguments r long room space) (new_node ns k.nodes k.arguments r long room space)
    (function_fine (new_nodes ns k.nodes k.arguments r) (k.arguments + length xs) k.sorts k.variables
    k.nodes p k.arguments (length xs) few (omega arith) y
    (λ j l. ap (is_place k.sorts k.nodes) (new_entry ns k.nodes k.arguments r long room space j l) ∙ x (get_or xs j 0) (one_at xs j l)))

-- A node more: the lists are checked again, and the new place has the row's shape.
module _ (W : Lent) (c : CheckedLent W) (r : Row) (s : Shape) (f : FineRow W.lengths r s) (room : W.lengths.nodes
    < max_nodes) (space : W.lengths.arguments + length r.args ≤ max_node_entries) where
  abbrev k : Lengths
  k = W.lengths

  abbrev m : ℕ
  m = W.lengths.nodes

  abbrev d : ℕ
  d = W.lengths.arguments

  abbrev ns : List ℕ
  ns = W.nodes

  fine_at : (i : ℕ) → i < m + 1 → Dec (i ≡ m) → node_fine (new_nodes ns m d r) (d + length r.args) k.sorts k.variables i ≡ true
  fine_at i l (yes e) = rw e (new_row_fine ns k r s f c.long room space)
  fine_at i l (no e) =
      node_fine_longer ns (new_nodes ns m d r) m d (old_same ns m d r c.long room space) k.sorts k.variables
      c.fine (d + length r.args) k.sorts (omega arith) (omega arith) i (omega (arith, l, e))

  pub node_grows : Grows W (append_node W r)
  unfolding append_node nodes_fine
  node_grows =
      record {
        checked =
            record {
              sorts = c.sorts;
              long = omega (arith, c.long, length_new ns m d r c.long room space);
              nodes = omega (arith, room);
              entries = space;
              variables = c.variables;
              fine = each_below (m + 1) (node_fine (new_nodes ns m d r) (d + length r.args) k.sorts k.variables) (λ i l. fine_at i l (ℕ_discrete i m));
            };
        sorts = omega arith;
        entries = omega arith;
        nodes = omega arith;
        arguments = omega arith;
        variables = refl;
        sort_words = agrees_refl W.sorts k.sorts k.entries;
        node_words = old_same ns m d r c.long room space;
        as_long = (refl, length_new ns m d r c.long room space);
        same = rows_same W (append_node W r) (omega arith) (omega arith) (λ i l. refl)
            (node_shape_same ns (new_nodes ns m d r) m d (old_same ns m d r c.long room space) k.sorts k.variables c.fine);
        looks = λ i l. refl;
        fixed = λ x. x;
      }

  pub new_node_placed : PlacedIn (append_node W r) (max_sorts + m)
  unfolding append_node is_place
  new_node_placed = rw (le-ltb (max_sorts + m) max_sorts (omega arith)) (lt-ltb (max_sorts + m - max_sorts) (m + 1) (omega arith))

  pub new_node_shape : graph (append_node W r) (max_sorts + m) ≡ s
  unfolding append_node shape_at is_place
  new_node_shape =
      let i : max_sorts + m - max_sorts ≡ m = omega arith in
      rw (le-ltb (max_sorts + m) max_sorts (omega arith), lt-ltb (max_sorts + m - max_sorts) (m + 1) (omega arith))
      (ap (λ j. node_shape (new_nodes ns m d r) (node_at (new_nodes ns m d r) j)) i ∙ new_shape_is ns m d k r s f c.long room space)
