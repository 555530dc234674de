-- What is packed of an answer, and the bindings that it leaves. Assumes nothing.
use Rattle.std.proofs.Common.{◌∙◌, ap, rules}
use Rattle.entry_answers.proofs.Packing.{packed_by}
use Rattle.entry_answers.specs.Packing.{yes_values}
use Rattle.unify_entries.specs.Packed.{unified_widths, packed_binds, pack_binds_left}
use Rattle.unify_entries.proofs.sort_unify.Goals as goal

pub returns : goal.returns
returns c =
    ap (packed_binds c.unify-answer.new.binds)
    (c.pack.ensures ∙ packed_by unified_widths yes_values _ _ _ c.map.ensures.cases (λ a n q. search rules))
    ∙ ap pack_binds_left c.unify-answer.ensures
