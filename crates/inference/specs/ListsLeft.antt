-- What a call leaves of the lists: sorts that only grow, and nodes as given.
use Rattle.std.specs.Prelude.{◌≡◌, List, ℕ, ◌≤◌, length, Ok, Err}
use Rattle.std.proofs.Math.Option.{Option, none, some}
use Rattle.resolved_sort.specs.declared.Counts.{Counts}
use Rattle.resolved_sort.specs.Rows.{Checked}
use Rattle.resolved_sort.specs.Growing.{Agrees}
use Rattle.unification.specs.Making.{Lent}
use Rattle.unification.specs.Growing.{NodesAgree}
use Rattle.inference.specs.declared.Verdict.TheVariants.{NoTyping, Ambiguous, Typing}
use Rattle.inference.specs.Search.{Out, found, missed, ended}
use Rattle.inference.specs.SolveChecks.{Call}
use Rattle.inference.specs.SolveEntry.{Solved}

-- the counts that an answer gives of a list that is kept
abbrev pub counts_told : Solved → Option Counts
counts_told (Err r) = none
counts_told (Ok (NoTyping k)) = some k
counts_told (Ok (Ambiguous k)) = some k
counts_told (Ok (Typing o)) = some o.counts

-- the sorts of ws, of which k counts, have grown from those given
pub record SortsGrown (I : Call) (ws : List ℕ) (k : Counts) : Type 0 where
  pub old : Agrees I.sorts ws I.lengths.sorts I.lengths.entries
  pub more : I.lengths.sorts ≤ k.sorts
  pub more_entries : I.lengths.entries ≤ k.entries
  pub checked : Checked ws k.sorts k.entries
  pub as_long : length ws ≡ length I.sorts

-- where the search stands at its end: as many nodes as given, with their words; and given words also where room ended
pub record ListsKept (I : Call) (W : Lent) : Type 0 where
  pub sorts : Agrees I.sorts W.sorts I.lengths.sorts I.lengths.entries
  pub nodes : NodesAgree I.nodes W.nodes I.lengths.nodes I.lengths.arguments
  pub as_long : (length W.sorts ≡ length I.sorts) × (length W.nodes ≡ length I.nodes)

abbrev pub Ends : Call → {Met : Type 0} → Out Met → Type 0
Ends I (found w) = ListsKept I w.lent × (w.lent.lengths.nodes ≡ I.lengths.nodes) ×
    (w.lent.lengths.arguments ≡ I.lengths.arguments)
Ends I (missed w) = ListsKept I w.lent × (w.lent.lengths.nodes ≡ I.lengths.nodes) ×
    (w.lent.lengths.arguments ≡ I.lengths.arguments)
Ends I (ended c W) = ListsKept I W
