-- strict_related_sorts (001) at a place: the places of the sorts strictly wider (up true) or
-- strictly narrower, nearest first, with the sorts and nodes that it makes, inner ones first. Where
-- room ends, 15 is for the sorts and 16 for the nodes.
use Rattle.std.specs.Prelude.{Bool, true, false, cond, ◌&&◌, List, [], ◌∷◌, ℕ, zero, suc, ◌+◌, length, get_or, take, eqb, leb, ltb}
use Rattle.std.proofs.Math.Option.{Option, none, some}
use Rattle.std.proofs.lemmas.List.Edits.{sets}
use Rattle.resolved_sort.specs.declared.ComplexSort.{ComplexSort}
use Rattle.resolved_sort.specs.Entries.{Joined}
use Rattle.resolved_sort.specs.Entries.{At, Nothing, Full}
use Rattle.resolved_sort.specs.Tree.{Flat, unit, primitive, def, typevar, container}
use Rattle.resolved_sort.specs.Interning.{look}
use Rattle.resolved_sort.specs.Storage.{max_sorts, function_kind, Row, kind_flat, kind_op, put_row, trees}
use Rattle.resolved_sort.specs.Entries.{Stored}
use Rattle.resolved_sort.specs.Bounds.{intern_at}
use Rattle.unification.specs.declared.Lengths.{Lengths}
use Rattle.unification.specs.Term.{flat_head, container_head, function_head, stray_head, Shape, variable, over}
use Rattle.unification.specs.Nodes.{max_nodes, max_node_entries, node_entries_at, is_sort, Binds}
use Rattle.unification.specs.Unify.{follow, deep}
use Rattle.unification.specs.Checked.{graph_of}
use Rattle.unification.specs.Related.{related_numbers, related_container, each}

-- the lent lists, as they grow
pub record Lent : Type 0 where
  pub sorts : List ℕ
  pub nodes : List ℕ
  pub lengths : Lengths

abbrev pub graph : Lent → ℕ → Shape
graph W = graph_of W.sorts W.nodes W.lengths

-- "Nodes made for a widening are given back when its tries are over, and that room is used again."
abbrev pub with_nodes_of : Lent → Lent → Lent
with_nodes_of U W =
    record {
      sorts = W.sorts;
      nodes = W.nodes;
      lengths =
          record {
            sorts = W.lengths.sorts;
            entries = W.lengths.entries;
            nodes = U.lengths.nodes;
            arguments = U.lengths.arguments;
            variables = W.lengths.variables;
          };
    }

-- What making comes to: an answer, no list, or no room with its code, each with the lists as they then are.
pub data Makes (A : Type 0) : Type 0 where
  made : A → Lent → Makes A
  no_list : Lent → Makes A
  no_room : ℕ → Lent → Makes A

abbrev pub ◌and-then◌ : {A B : Type 0} → Makes A → (A → Lent → Makes B) → Makes B
(made a W) and-then k = k a W
(no_list W) and-then k = no_list W
(no_room c W) and-then k = no_room c W

infixl 20 ◌and-then◌
-- one more node: its row, and its argument entries after those in use
unfoldable pub append_node : Lent → Row → Lent
append_node W r =
    record {
      sorts = W.sorts;
      nodes =
          sets (put_row W.nodes W.lengths.nodes r.kind r.part
          (cond (eqb r.kind function_kind) W.lengths.arguments 0) (length r.args))
          (node_entries_at + W.lengths.arguments) r.args;
      lengths =
          record {
            sorts = W.lengths.sorts;
            entries = W.lengths.entries;
            nodes = W.lengths.nodes + 1;
            arguments = W.lengths.arguments + length r.args;
            variables = W.lengths.variables;
          };
    }

unfoldable pub push_node : Row → Lent → Makes ℕ
push_node r W =
    cond (ltb W.lengths.nodes max_nodes && leb (W.lengths.arguments + length r.args) max_node_entries)
    (made (max_sorts + W.lengths.nodes) (append_node W r)) (no_room 16 W)

-- a container of sorts is interned
abbrev pub with_sorts : Lent → Stored → Joined → Makes ℕ
with_sorts W r (At id k) =
    made id.0
    (record {
      sorts = r.words;
      nodes = W.nodes;
      lengths =
          record {
            sorts = k.sorts;
            entries = k.entries;
            nodes = W.lengths.nodes;
            arguments = W.lengths.arguments;
            variables = W.lengths.variables;
          };
    })
with_sorts W r (Nothing k) = no_list W
with_sorts W r Full = no_room 15 W

unfoldable pub intern_container : ComplexSort → ℕ → Lent → Makes ℕ
intern_container o s W =
    let r : Stored = intern_at W.sorts W.lengths.sorts W.lengths.entries
    (container o (look (trees W.sorts W.lengths.sorts) s)) in
    with_sorts W r r.answer

abbrev pub only : ℕ → Lent → Makes (List ℕ)
only p W = made (p ∷ []) W

-- For a container of sorts a sort is interned, for a node a node is made.
abbrev pub related_over : Option ComplexSort → Bool → ℕ → Lent → Makes (List ℕ)
related_over none sort s W = made [] W
related_over (some o) true s W = intern_container o s W and-then only
related_over (some o) false s W = push_node (record { kind = kind_op o; part = s; args = [] }) W and-then only

-- functions of the same arguments over each of the ranges
unfoldable pub push_functions : List ℕ → List ℕ → Lent → Makes (List ℕ)
push_functions xs [] W = made [] W
push_functions xs (r ∷ rs) W =
    push_node (record { kind = function_kind; part = r; args = xs }) W
    and-then (λ p W. push_functions xs rs W and-then (λ ps W. made (p ∷ ps) W))

-- the fixed sorts have their kinds as numbers
abbrev pub related_places : Bool → Flat → List ℕ
related_places up unit = []
related_places up (primitive s) = each (λ r. kind_flat (primitive r)) (related_numbers up s)
related_places up (def n) = []
related_places up (typevar n) = []

-- by what stands at the end; f is the same for the range of a function
abbrev pub related_shape : Bool → (ℕ → Lent → Makes (List ℕ)) → Bool → Shape → Lent → Makes (List ℕ)
related_shape up f sort (variable v) W = no_list W
related_shape up f sort (over (flat_head a) ps) W = made (related_places up a) W
related_shape up f sort (over (container_head o) ps) W =
    related_over (related_container up o) sort (get_or ps 0 0) W
related_shape up f sort (over (function_head n) ps) W = f (get_or ps n 0) W and-then (push_functions (take n ps))
related_shape up f sort (over (stray_head n) ps) W = made [] W

abbrev pub related_end : Bool → (ℕ → Lent → Makes (List ℕ)) → Option ℕ → Lent → Makes (List ℕ)
related_end up f none W = no_list W
related_end up f (some q) W = related_shape up f (is_sort q) (graph W q) W

unfoldable pub related_to : Bool → Binds → ℕ → ℕ → Lent → Makes (List ℕ)
related_to up B zero p W = no_list W
related_to up B (suc k) p W = related_end up (related_to up B k) (follow (graph W) deep B p) W

unfoldable pub strict_related : Bool → Binds → ℕ → Lent → Makes (List ℕ)
strict_related up B p W = related_to up B deep p W
