-- The part is as long as is lent. Assumes nothing.
use Rattle.std.proofs.Common.{refl, ◌*◌, ap, ◌∙◌}
use Rattle.list_memory.specs.declared.Layout.{Layout}
use Rattle.list_memory.specs.Layouts.{table_number, slice_number}
use Rattle.list_memory.specs.Memory.{rows_given}
use Rattle.list_call.specs.Lists.{slice_lent}
use Rattle.list_call.proofs.Lists as law
use Rattle.list_call.proofs.lend.Goals as goal

pub returns : goal.returns
returns c =
    law.part_lent c.args.list.now _ _ _ _ _ _ _ _ c.rows_given.ensures c.length_of.ensures.0 refl
    ∙ ap
    (λ (l : Layout). slice_lent c.args.list.now l.start (slice_number c.args.slice) (l.width * rows_given c.args.list.now (table_number c.args.table)) (l.width * l.ceiling))
    c.layout-layout.ensures.layout
