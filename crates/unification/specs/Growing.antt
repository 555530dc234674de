-- Lists of sorts and nodes that grow: what is checked, what stays as it was, and places in them.
use Rattle.std.specs.Prelude.{◌≡◌, List, true, ℕ, ◌*◌, ◌<◌, ◌≤◌, length, get_or}
use Rattle.resolved_sort.specs.Interning.{look}
use Rattle.resolved_sort.specs.Storage.{trees}
use Rattle.resolved_sort.specs.Checks.{fixed_six}
use Rattle.resolved_sort.specs.Growing.{Agrees}
use Rattle.unification.specs.Term.{Term, substitute}
use Rattle.unification.specs.Nodes.{node_entry_at, Binds, binding}
use Rattle.unification.specs.Checked.{NodesChecked, lists_of, BindsChecked, Ready, Placed}
use Rattle.unification.specs.Solutions.{term_at}
use Rattle.unification.specs.Making.{Lent, graph}
use Rattle.std.proofs.Math.Option.{some}

-- lists that passed their checks; and bindings with them
abbrev pub CheckedLent : Lent → Type 0
CheckedLent W = NodesChecked W.sorts W.lengths.sorts W.lengths.entries W.nodes W.lengths.nodes
    W.lengths.arguments W.lengths.variables

abbrev pub ReadyLent : Lent → List ℕ → Type 0
ReadyLent W bs = Ready W.sorts W.nodes bs W.lengths

abbrev pub PlacedIn : Lent → ℕ → Type 0
PlacedIn W = Placed W.lengths

-- node storage that reads the same below m rows and d entries
pub record NodesAgree (ns ns' : List ℕ) (m d : ℕ) : Type 0 where
  pub rows : (j : ℕ) → j < 4 * m → get_or ns' j 0 ≡ get_or ns j 0
  pub entries : (j : ℕ) → j < d → node_entry_at ns' j ≡ node_entry_at ns j

-- W has grown to W': lists that pass their checks again, with all that W has under its old numbers
pub record Grows (W W' : Lent) : Type 0 where
  pub checked : CheckedLent W'
  pub sorts : W.lengths.sorts ≤ W'.lengths.sorts
  pub entries : W.lengths.entries ≤ W'.lengths.entries
  pub nodes : W.lengths.nodes ≤ W'.lengths.nodes
  pub arguments : W.lengths.arguments ≤ W'.lengths.arguments
  pub variables : W'.lengths.variables ≡ W.lengths.variables
  pub sort_words : Agrees W.sorts W'.sorts W.lengths.sorts W.lengths.entries
  pub node_words : NodesAgree W.nodes W'.nodes W.lengths.nodes W.lengths.arguments
  pub as_long : (length W'.sorts ≡ length W.sorts) × (length W'.nodes ≡ length W.nodes)
  pub same : (p : ℕ) → PlacedIn W p → graph W' p ≡ graph W p
  pub looks : (i : ℕ) → i < W.lengths.sorts → look (trees W'.sorts W'.lengths.sorts) i ≡ look
      (trees W.sorts W.lengths.sorts) i
  pub fixed : fixed_six W.sorts W.lengths.sorts ≡ true → fixed_six W'.sorts W'.lengths.sorts ≡ true

-- bindings of as many variables as the lists have, that passed their checks with them
abbrev pub CheckedBinds : Lent → Binds → Type 0
CheckedBinds W B = BindsChecked (lists_of W.sorts W.lengths.sorts W.nodes W.lengths.nodes)
    W.lengths.variables B

-- the lists with other words for the sorts, of which n sorts and e entries count
abbrev pub with_sort_words : Lent → List ℕ → ℕ → ℕ → Lent
with_sort_words W us n e =
    record {
      sorts = us;
      nodes = W.nodes;
      lengths = record {
        sorts = n;
        entries = e;
        nodes = W.lengths.nodes;
        arguments = W.lengths.arguments;
        variables = W.lengths.variables;
      };
    }

-- words that read as those of W below its lengths
abbrev pub ReadsAs : Lent → List ℕ → Type 0
ReadsAs W us = Agrees W.sorts us W.lengths.sorts W.lengths.entries × (length us ≡ length W.sorts)

-- C binds what B binds, in the same way, and as many variables
pub record BindsExtend (B C : Binds) : Type 0 where
  pub stays : (u q : ℕ) → binding B u ≡ some q → binding C u ≡ some q
  pub long : length C ≡ length B

-- the bindings name only places of P
abbrev pub Names : (ℕ → Type 0) → Binds → Type 0
Names P B = (v q : ℕ) → binding B v ≡ some q → P q

-- what a place stands for, with σ for the variables
abbrev pub term_in : Lent → (ℕ → Term) → ℕ → Term
term_in W σ p = substitute σ (term_at (graph W) p)
