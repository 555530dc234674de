-- The loop over the sorts: to store what is left is to store all. Assumes nothing.
use Rattle.std.proofs.Common.{◌≡◌}
use Rattle.std.proofs.lemmas.List.Edits.{sets}
use Rattle.resolved_sort.specs.Inner.Storage.{sort_numbers}
use Rattle.search_join.proofs.Heads.{heads_to, stored_from}
use Rattle.search_join.proofs.put_heads.Given as goal

abbrev pub invariant-loop-i : goal.invariant-loop-i
invariant-loop-i l =
    sets l.initial.scratch l.from (heads_to l.sorts.words.now l.sorts.counts.sorts l.lub.0 (sort_numbers l.ids))
    ≡ stored_from l.sorts.words.now l.sorts.counts.sorts l.lub.0 (sort_numbers l.ids) l.scratch l.from l.i
