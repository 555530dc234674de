-- What only contracts of inner methods of `Lines` cite.
use Rattle.std.specs.Prelude.{◌≡◌, Bool, true, false, ℕ, List, Option, Result}
use Rattle.std.specs.Io.{ReadsAtMost}
use Rattle.std.specs.Io.KnownBytes.{ReadConsumes}
use Rattle.std.specs.Result.{result_unwrap_or}
use Rattle.std.specs.declared.io.Error.{Error}
use Rattle.line_input.specs.declared.Lines.{Lines}
use Rattle.line_input.specs.Reads.{Shows}
use Rattle.line_input.specs.Found.{LineFound}
use Rattle.line_input.specs.Found.{Nothing, Line}

-- whether bytes have ended a line
abbrev pub found_where : Bool → LineFound
found_where true = Line
found_where false = Nothing

-- A read has put its bytes at the front of the buffer, where it has not failed.
pub record FilledBy {R : Type 0} (shows : Shows R) (reader reader-left : R)
    (known known-left : Option (List ℕ)) (after : Lines) (r : Result ℕ Error) : Type 0 where
  pub at : after.at ≡ 0
  pub end : after.end ≡ result_unwrap_or r 0
  pub few : ReadsAtMost r after.buffer.now
  pub bytes : ReadConsumes known known-left r after.buffer.now
  pub shown : shows reader r after.buffer.now reader-left
