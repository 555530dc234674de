-- What is printed for a line has room, so that nothing of it is lost: an answer by its longest text, every other line by its
-- words. Assumes nothing.
use mathlib.Core.Path.{◌≡◌}
use mathlib.Core.Bool.{Bool, true, false}
use mathlib.Core.List.{List, ◌++◌}
use Prim.Native.Nat.{ℕ, ◌+◌, ◌≤◌}
use native.Mathlib.Omega.{arith}
use lib.ListN.{length, length-append}
use lib.Seq.{sets}
use Rattle.text_out.specs.Quoted.{bytes_of}
use Rattle.text_out.specs.declared.Out.{Out}
use Rattle.text_out.specs.Within.{buffer}
use Rattle.text_out.specs.Outs.{at_buffer}
use Rattle.text_out.proofs.Outs.{then_put_room}
use Rattle.list_memory.specs.declared.Heard.{Heard}
use Rattle.list_memory.specs.declared.Heard.TheVariants.{Quiet, Begins, Asks, AsksOther}
use Rattle.std.specs.Prelude.{Result, Ok, Err}
use Rattle.list_memory.specs.declared.Stage.{Stage}
use Rattle.list_memory.specs.declared.Form.{Form}
use Rattle.list_memory.specs.declared.Form.TheVariants.{Printable, Length, List as FormList, Question, Asked}
use Rattle.list_memory.specs.declared.Form.TheVariants.{Keyword, Next, Bare, Sort, Node, Entries, NodeEntries}
use Rattle.list_memory.specs.declared.Form.TheVariants.{Pad, Var, Vars, Bind, Unbound, Expr, Name, Names, Default}
use Rattle.list_memory.specs.declared.Form.TheVariants.{Sub, Lit, Comprehension, Disjunction, Overload, Join}
use Rattle.list_memory.specs.declared.Form.TheVariants.{Sources, Constraint, Count, Lend, Ceilings, Asks as FormAsks}
use Rattle.list_messages.specs.Messages.{form_text, bad_text}
use Rattle.list_reader.specs.Taking.{stage_is, line_taken}
use Rattle.list_answers.proofs.Longest.{answer_fits}
use Rattle.list_lines.specs.Lines.{unasked_text, printed, heard_line}
use Rattle.list_lines.specs.Longest.{printed_room, held_line}

unasked_length : (unasked : Bool) → length (unasked_text unasked) ≤ 40
unfolding unasked_text
unasked_length true = omega arith
unasked_length false = omega arith

form_length : (f : Form) → length (form_text f) ≤ 200
unfolding form_text
form_length Printable = omega arith
form_length Length = omega arith
form_length FormList = omega arith
form_length Question = omega arith
form_length Asked = omega arith
form_length Keyword = omega arith
form_length Next = omega arith
form_length Bare = omega arith
form_length Sort = omega arith
form_length Node = omega arith
form_length Entries = omega arith
form_length NodeEntries = omega arith
form_length Pad = omega arith
form_length Var = omega arith
form_length Vars = omega arith
form_length Bind = omega arith
form_length Unbound = omega arith
form_length Expr = omega arith
form_length Name = omega arith
form_length Names = omega arith
form_length Default = omega arith
form_length Sub = omega arith
form_length Lit = omega arith
form_length Comprehension = omega arith
form_length Disjunction = omega arith
form_length Overload = omega arith
form_length Join = omega arith
form_length Sources = omega arith
form_length Constraint = omega arith
form_length Count = omega arith
form_length Lend = omega arith
form_length Ceilings = omega arith
form_length FormAsks = omega arith

-- What is printed for a line has room.
pub printed_fits : (h : Result Heard Form) (line ws vs : List ℕ) → length line ≤ held_line → length (printed h line ws vs) ≤ printed_room
unfolding printed bad_text
printed_fits (Ok Quiet) line ws vs l = omega arith
printed_fits (Ok Begins) line ws vs l =
    omega (
      arith,
      length-append (unasked_text (stage_is ws Stage.Reading)) (line ++ bytes_of "\n"),
      length-append line (bytes_of "\n"),
      unasked_length (stage_is ws Stage.Reading),
      l,
    )
printed_fits (Ok Asks) line ws vs l = omega (arith, answer_fits vs)
printed_fits (Ok AsksOther) line ws vs l = omega arith
printed_fits (Err f) line ws vs l =
    omega (
      arith,
      length-append (bytes_of "expected ") (form_text f ++ bytes_of "\n"),
      length-append (form_text f) (bytes_of "\n"),
      form_length f,
    )

-- Nothing of it is cut: a buffer that has that room left has all of it there.
pub nothing_is_cut : (ws line : List ℕ) (out : Out) → length line ≤ held_line → out.at + printed_room ≤ length out.bytes.now
    → let text : List ℕ = printed (line_taken ws line).heard line ws (line_taken ws line).words in
    (heard_line ws line out).out ≡ at_buffer out (buffer (sets out.bytes.now out.at text) (out.at + length text))
unfolding heard_line
nothing_is_cut ws line out l r =
    let t = line_taken ws line in
    then_put_room out (printed t.heard line ws t.words) (omega (arith, printed_fits t.heard line ws t.words l, r))

pub end_fits : (unasked : Bool) → length (unasked_text unasked) ≤ printed_room
end_fits unasked = omega (arith, unasked_length unasked)
