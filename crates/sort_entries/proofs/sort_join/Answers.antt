-- What is packed of an answer, and the storage and the index that it leaves. Assumes nothing.
use Rattle.std.proofs.Common.{◌∙◌, ap, rules}
use Rattle.entry_answers.proofs.Packing.{packed_by}
use Rattle.sort_entries.specs.Codes.{bound_values}
use Rattle.sort_entries.specs.Packed.{bounded_widths, packed_sorts, pack_sorts_left}
use Rattle.sort_entries.proofs.sort_join.Goals as goal

pub returns : goal.returns
returns c =
    ap (packed_sorts c.join.new.sorts c.join.new.index)
    (c.pack.ensures ∙ packed_by bounded_widths bound_values _ _ _ c.map.ensures.cases (λ a n q. search rules))
    ∙ ap pack_sorts_left c.join.ensures
