-- What only contracts of inner functions cite, beside `specs/Held.antt`.
use Rattle.std.specs.Prelude.{◌≡◌, List, ℕ}
use Rattle.pair_input.specs.declared.Held.{Held}
use Rattle.pair_input.specs.ByteByByte.{Turned}
use Rattle.pair_input.specs.Held.{lines_of, Holds, InMemory, in_memory}

-- What a turn of the program keeps: the memory, and the lines in it.
pub record TurnKept (t : Turned) (s : InMemory) (memory : List ℕ) (held : Held) : Type 0 where
  pub holds : Holds memory held
  pub is_stored : in_memory memory held ≡ s
  pub lines : lines_of memory held ≡ t.lines
