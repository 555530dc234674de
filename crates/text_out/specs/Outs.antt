-- Bytes put into an `Out`, one after another, as far as its buffer has room: past its end they are lost, and the place
-- stays there.
use Rattle.std.specs.Prelude.{List, ℕ}
use Rattle.text_out.specs.declared.Out.{Out}
use Rattle.text_out.specs.Within.{Buffer, puts}

abbrev pub at_buffer : Out → Buffer → Out
at_buffer o b = record { bytes = record o.bytes { now = b.bytes }; at = b.at }

unfoldable pub then_put : Out → List ℕ → Out
then_put o bs = at_buffer o (puts o.bytes.now o.at bs)
