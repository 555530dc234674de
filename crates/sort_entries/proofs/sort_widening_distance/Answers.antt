-- What is packed of an answer. Assumes nothing.
use Rattle.std.proofs.Common.{◌∙◌, ap, rules}
use Rattle.entry_answers.proofs.Packing.{packed_by}
use Rattle.sort_entries.specs.Codes.{distance_values}
use Rattle.sort_entries.specs.Packed.{pack_measured, measured_widths}
use Rattle.sort_entries.proofs.sort_widening_distance.Goals as goal

pub returns : goal.returns
returns c =
    c.pack.ensures ∙ (packed_by measured_widths distance_values _ _ _ c.map.ensures.cases (λ a n q. search rules) ∙ ap pack_measured c.widening_distance.ensures)
