-- What only contracts of inner functions cite, beside `specs/Answers.antt`.
use Rattle.std.specs.Prelude.{◌≡◌, List, ◌++◌, ℕ, drop, Option, Some, None, Result, Ok, Err}
use Rattle.resolved_sort.specs.declared.Refusal.TheVariants.{LongLine}
use Rattle.resolved_sort.specs.declared.Steps.{Steps}
use Rattle.resolved_sort.specs.Tree.{Tree}
use Rattle.resolved_sort.specs.Checks.{Check, code_of}
use Rattle.sort_text.specs.declared.Unread.{Unread}
use Rattle.sort_text.specs.declared.Unread.TheVariants.{Refused, NotASort, NoRoom}
use Rattle.sort_text.specs.Reading.{short_line}
use Rattle.text_out.specs.Decimal.{decimal}
use Rattle.text_out.specs.Quoted.{bytes_of}
use Rattle.pair_line.specs.PairProgram.{none_text, small_decimal, Line, good, wrong}

-- `steps_or_none` of what the code answers
abbrev pub steps_text : Option Steps → List ℕ
steps_text None = none_text
steps_text (Some d) = small_decimal d.head ++ (bytes_of " " ++ small_decimal d.interior)

-- what a line prints that is not read
abbrev pub wrong_text : List ℕ → Unread → List ℕ
wrong_text bs (Refused c) = decimal (code_of c)
wrong_text bs (NotASort at) = bytes_of "20:" ++ drop at bs
wrong_text bs NoRoom = bytes_of "15"

abbrev pub length_check : List ℕ → Check
length_check bs = record { refusal = LongLine; passes = short_line bs }

-- a line tested: it is a sort, or what it prints
abbrev pub LineTested : List ℕ → Line → Result (Unit {0}) Unread → Type 0
LineTested bs l (Ok u) = (t : Tree) × (l ≡ good t)
LineTested bs l (Err why) = l ≡ wrong (wrong_text bs why)
