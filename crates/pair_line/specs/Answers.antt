-- What the entries of this crate leave in the lent buffer, and what they answer: the line of output with its LF, and
-- its length; 14 where the buffer has no room for every line of output.
use Rattle.std.specs.Prelude.{cond, List, ◌++◌, ℕ, length, drop, leb, Ok, Err}
use Rattle.text_out.specs.Quoted.{bytes_of}
use Rattle.resolved_sort.specs.declared.Refusal.TheVariants.{TooShort}
use Rattle.sort_text.specs.Writing.{WriteLeft, write_left}
use Rattle.pair_line.specs.declared.Gathered.{Gathered}
use Rattle.pair_line.specs.declared.Gathered.TheVariants.{Pair, Alone}
use Rattle.pair_line.specs.PairProgram.{line_of, pair, single}
use Rattle.pair_line.specs.Room.{line_room}

abbrev pub with_lf : List ℕ → List ℕ
with_lf bs = bs ++ bytes_of "\n"

-- what the lines that are gathered print
abbrev pub printed : Gathered → List ℕ
printed (Pair first second) = with_lf (pair first.now second.now)
printed (Alone line) = with_lf (single (line_of line.now))

unfoldable pub output_left : List ℕ → List ℕ → WriteLeft
output_left bs out =
    cond (leb line_room (length out)) (write_left (bs ++ drop (length bs) out) (Ok (length bs)))
    (write_left out (Err TooShort))

-- a pair, and a line alone at the end of the input
abbrev pub pair_left : List ℕ → List ℕ → List ℕ → WriteLeft
pair_left first second out = output_left (with_lf (pair first second)) out

abbrev pub single_left : List ℕ → List ℕ → WriteLeft
single_left l out = output_left (with_lf (single (line_of l))) out
