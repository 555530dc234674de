-- How many bytes are printed for a line at most, and how many bytes of a line are looked at.
use Rattle.std.specs.Prelude.{ℕ}

-- room for whatever is printed for one line
abbrev pub printed_room : ℕ
printed_room = 393216

-- one more than a line may have, which shows that it is too long
abbrev pub held_line : ℕ
held_line = 201
