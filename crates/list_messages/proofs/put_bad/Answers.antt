-- What is put one after another is put whole. Assumes nothing.
use Rattle.std.proofs.Common.{ap, ◌∙◌}
use Rattle.text_out.specs.Outs.{then_put}
use Rattle.text_out.proofs.Outs.{put_then}
use Rattle.list_messages.specs.Messages.{bad_text}
use Rattle.list_messages.proofs.put_bad.Goals as goal

pub returns : goal.returns
unfolding bad_text
returns c =
    put_then _ _ _ _ c.put_text.ensures
    (put_then _ _ _ _ (c.put_text-2.ensures ∙ ap (then_put c.put_text.new.self) c.expected.ensures) c.put_byte.ensures)
