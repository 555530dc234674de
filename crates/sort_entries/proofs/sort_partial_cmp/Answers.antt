-- What is packed of an answer. Assumes nothing.
use Rattle.std.proofs.Common.{◌∙◌, ap, rules}
use Rattle.entry_answers.proofs.Packing.{packed_by}
use Rattle.sort_entries.specs.Codes.{order_values}
use Rattle.sort_entries.specs.Packed.{pack_compared, compared_widths}
use Rattle.sort_entries.proofs.sort_partial_cmp.Goals as goal

pub returns : goal.returns
returns c =
    c.pack.ensures ∙ (packed_by compared_widths order_values _ _ _ c.map.ensures.cases (λ a n q. search rules) ∙ ap pack_compared c.partial_cmp.ensures)
