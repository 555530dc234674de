-- What the list program prints for a line of its input, and at the end.
use Rattle.std.specs.Prelude.{Bool, true, false, cond, List, [], ◌++◌, ℕ, Result, Ok, Err}
use Rattle.list_memory.specs.declared.Form.{Form}
use Rattle.list_memory.specs.declared.Heard.{Heard}
use Rattle.list_memory.specs.declared.Heard.TheVariants.{Quiet, Begins, Asks, AsksOther}
use Rattle.list_memory.specs.declared.Stage.{Stage}
use Rattle.list_memory.specs.Memory.{Taken}
use Rattle.text_out.specs.Quoted.{bytes_of}
use Rattle.list_messages.specs.Messages.{bad_text}
use Rattle.list_reader.specs.Taking.{stage_is, line_taken}
use Rattle.list_answers.specs.Answer.{answer_text}
use Rattle.text_out.specs.declared.Out.{Out}
use Rattle.text_out.specs.Outs.{then_put}

-- said of a list that ended, where nothing was asked about it
unfoldable pub unasked_text : Bool → List ℕ
unasked_text unasked = cond unasked (bytes_of "nothing is asked about this list\n") []

-- What is printed for a line, by what it came to: ws are the words of the list before it, vs those after it.
unfoldable pub printed : Result Heard Form → List ℕ → List ℕ → List ℕ → List ℕ
printed (Ok Quiet) line ws vs = []
printed (Ok Begins) line ws vs = unasked_text (stage_is ws Stage.Reading) ++ (line ++ bytes_of "\n")
printed (Ok Asks) line ws vs = answer_text vs
printed (Ok AsksOther) line ws vs = bytes_of "expected ? solve: no other question is answered here\n"
printed (Err f) line ws vs = bad_text f

-- whether the line's number stands before it
unfoldable pub numbered : Result Heard Form → Bool
numbered (Ok Quiet) = false
numbered (Ok Begins) = false
numbered (Ok Asks) = false
numbered (Ok AsksOther) = true
numbered (Err f) = true

-- the words of the list after a line, the output, and whether the line's number stands before it
pub record LineLeft : Type 0 where
  pub words : List ℕ
  pub out : Out
  pub numbered : Bool

abbrev pub line_left : List ℕ → Out → Bool → LineLeft
line_left ws out b = record { words = ws; out = out; numbered = b }

-- what a line came to, and its output behind what the buffer has
abbrev pub line_left_by : List ℕ → List ℕ → Out → Taken → LineLeft
line_left_by ws line out t =
    line_left t.words (then_put out (printed t.heard line ws t.words)) (numbered t.heard)

unfoldable pub heard_line : List ℕ → List ℕ → Out → LineLeft
heard_line ws line out = line_left_by ws line out (line_taken ws line)
