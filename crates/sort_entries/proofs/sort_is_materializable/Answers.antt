-- What is packed of an answer. Assumes nothing.
use Rattle.std.proofs.Common.{◌∙◌, ap, rules}
use Rattle.entry_answers.proofs.Packing.{packed_by}
use Rattle.entry_answers.specs.Packing.{yes_values}
use Rattle.sort_entries.specs.Packed.{pack_materialized, materialized_widths}
use Rattle.sort_entries.proofs.sort_is_materializable.Goals as goal

pub returns : goal.returns
returns c =
    c.pack.ensures ∙ (packed_by materialized_widths yes_values _ _ _ c.map.ensures.cases (λ a n q. search rules) ∙ ap pack_materialized c.is_materializable.ensures)
