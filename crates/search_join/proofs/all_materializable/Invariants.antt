-- The loop over the sorts: each that was passed is materializable. Assumes nothing.
use Rattle.std.proofs.Common.{◌≡◌, true, ℕ, ◌<◌, get_or}
use Rattle.resolved_sort.specs.Inner.Storage.{sort_numbers}
use Rattle.search_join.proofs.Heads.{Into}
use Rattle.search_join.proofs.all_materializable.Given as goal

abbrev pub invariant-loop-id : goal.invariant-loop-id
invariant-loop-id l =
    (x : ℕ) → x < l.id-index → Into l.sorts.words.now l.sorts.counts.sorts l.lub.0 (get_or (sort_numbers l.ids) x 0) ≡ true
