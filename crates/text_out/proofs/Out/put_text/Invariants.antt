-- What was put so far. Assumes nothing.
use Rattle.std.proofs.Common.{◌≡◌, take}
use Rattle.text_out.specs.Outs.{then_put}
use Rattle.text_out.proofs.Out.put_text.Given as goal

abbrev pub invariant-loop-byte : goal.invariant-loop-byte
invariant-loop-byte l = l.self ≡ then_put l.initial.self (take l.byte-index l.bytes)
