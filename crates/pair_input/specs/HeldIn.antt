-- The lines that are held, as the clauses of those that hold them see them.
use Rattle.pair_input.specs.declared.HeldLines.{HeldLines}
use Rattle.pair_input.specs.ByteByByte.{Lines}
use Rattle.pair_input.specs.Held.{lines_of}

abbrev pub held_in : HeldLines → Lines
held_in h = lines_of h.memory h.held
