-- What the pair program reads and prints, by the bytes that its reader has left and that its writer holds, where they
-- say which. Standard input and output do not say it.
use Rattle.std.specs.Prelude.{◌≡◌, Bool, true, false, List, [], ℕ, Option, Result, Ok, Err, ⊤}
use Rattle.std.specs.Io.KnownBytes.{Consumes, Appends, IsAtEnd}
use Rattle.pair_line.specs.PairProgram.{output}
use Rattle.line_input.specs.declared.Failed.{Failed}
use Rattle.pair_input.specs.ByteByByte.{Lines, take_bytes, at_end}

-- A part of the input is read, and what it prints from the lines held on is written.
pub record PartPrinted (known known-left shown shown-left : Option (List ℕ)) (h left : Lines) : Type 0 where
  pub part : List ℕ
  pub read : Consumes known known-left part
  pub lines : left ≡ (take_bytes h part).lines
  pub written : Appends shown shown-left (take_bytes h part).output

-- The input is at its end, and what the end prints is written.
pub record EndPrinted (known known-left shown shown-left : Option (List ℕ)) (h : Lines) : Type 0 where
  pub read : Consumes known known-left []
  pub ended : IsAtEnd known-left
  pub written : Appends shown shown-left (at_end h)

-- After a read, by whether the input goes on, and with the lines held then; where it fails nothing is said.
unfoldable pub AfterRead : Result Bool Failed → (known known-left shown shown-left : Option (List ℕ)) → (h left : Lines)
    → Type 0
AfterRead (Ok true) known known-left shown shown-left h left = PartPrinted known known-left shown shown-left h left
AfterRead (Ok false) known known-left shown shown-left h left = EndPrinted known known-left shown shown-left h
AfterRead (Err e) known known-left shown shown-left h left = ⊤

-- All of the input is read, and `output` of it is written.
pub record AllPrinted (known known-left shown shown-left : Option (List ℕ)) : Type 0 where
  pub input : List ℕ
  pub read : Consumes known known-left input
  pub ended : IsAtEnd known-left
  pub written : Appends shown shown-left (output input)
