-- What is stored comes, with the rest to be stored, to the whole. Assumes nothing.
use Rattle.std.proofs.Common.{◌≡◌, ◌+◌}
use Rattle.std.proofs.lemmas.List.Edits.{sets}
use Rattle.resolved_sort.specs.Storage.{entries_at}
use Rattle.resolved_sort.specs.Inner.Storage.{sort_numbers}
use Rattle.sort_interner.proofs.Stores.{sets_from}
use Rattle.sort_interner.proofs.put_sorts.Given as goal

abbrev pub invariant-loop-i : goal.invariant-loop-i
invariant-loop-i l =
    sets l.initial.words (entries_at + l.e) (sort_numbers l.args) ≡ sets_from l.i l.words (entries_at + l.e) (sort_numbers l.args)
