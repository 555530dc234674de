-- What is said of a line, and what is said at the end.
use Rattle.std.specs.Prelude.{Bool, true, false, List, [], ◌++◌, ℕ, codes, decimal}
use Rattle.replay.specs.Inner.Lines.{counted_of}
use Rattle.replay.specs.declared.Verdict.{Verdict}
use Rattle.replay.specs.declared.Verdict.TheVariants.{Quiet, Agrees, Differs, BindsOther, LeavesOther, NotOfForm}
use Rattle.replay.specs.declared.Tally.{Tally}

-- the number of a line
abbrev pub line_said : ℕ → List ℕ
line_said number = codes "line " ++ decimal number

abbrev pub bad_said : ℕ → List ℕ
bad_said number = line_said number ++ codes " is not of the form\n"

-- a line whose answer is another
abbrev pub other_said : ℕ → (text what : List ℕ) → ℕ → List ℕ
other_said number text what got =
    line_said number ++ (codes ": " ++ (text ++ (what ++ (decimal got ++ codes "\n"))))

unfoldable pub said_of : ℕ → List ℕ → Verdict → List ℕ
said_of number text Quiet = []
said_of number text Agrees = []
said_of number text (Differs got) = other_said number text (codes ": got ") got
said_of number text (BindsOther variable) = other_said number text (codes ": another binding of variable ") variable
said_of number text (LeavesOther word) = other_said number text (codes ": left ") word
said_of number text NotOfForm = bad_said number

-- what is said unless all is well, and counted as a line that does not agree
unfoldable pub unless : Bool → List ℕ → List ℕ
unless true text = []
unless false text = text

unfoldable pub counted_unless : Bool → Tally → Tally
counted_unless true t = t
counted_unless false t = counted_of t NotOfForm

-- an input that cannot be read to its end, and a last list that is not complete
abbrev pub read_said : Bool → List ℕ
read_said read = unless read (codes "the input cannot be read\n")

abbrev pub last_said : Bool → List ℕ
last_said complete = unless complete (codes "the last list is not complete\n")

abbrev pub checked_said : Tally → List ℕ
checked_said t =
    codes "checked " ++ (decimal t.questions ++ (codes " answers, " ++ (decimal t.differ ++ codes " differ\n")))

abbrev pub end_said : Tally → (read complete : Bool) → List ℕ
end_said t read complete = read_said read ++ (last_said complete ++ checked_said (counted_unless complete (counted_unless read t)))
