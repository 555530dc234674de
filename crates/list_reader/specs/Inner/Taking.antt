-- What only contracts of inner functions cite, beside `specs/Taking.antt`.
use Rattle.std.specs.Prelude.{List, ℕ, Result, Ok, Err}
use Rattle.list_memory.specs.declared.Form.{Form}
use Rattle.list_memory.specs.declared.Heard.{Heard}
use Rattle.list_memory.specs.Memory.{Taken, taken}
use Rattle.list_reader.specs.Taking.{bad_line}

-- rows begin at most so far on
abbrev pub most_place : ℕ
most_place = 1048576

-- what came of a line, and the list, which is marked where the line is not of the format
abbrev pub bad_marked : List ℕ → Result Heard Form → Taken
bad_marked ws (Ok h) = taken ws (Ok h)
bad_marked ws (Err f) = bad_line ws f
