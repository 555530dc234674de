-- "A pair program reads standard input, two LF-ended lines to a pair (a last nonempty line needs no LF), and prints one
-- line": what it prints, byte by byte, for every input.
use Rattle.std.specs.Prelude.{Bool, true, false, cond, List, [], ◌∷◌, ◌++◌, ℕ, ◌+◌, ◌/◌, ◌%◌, ltb}
use Rattle.std.specs.Prelude as Rust
use Rattle.std.proofs.Math.Option.{Option, none, some}
use Rattle.std.specs.declared.cmp.Ordering.{Ordering}
use Rattle.std.specs.declared.cmp.Ordering.TheVariants.{Less, Equal, Greater}
use Rattle.resolved_sort.specs.Tree.{Tree}
use Rattle.resolved_sort.specs.Order.{ordering, join, meet, Steps, distance, materializable}
use Rattle.text_out.specs.Quoted.{byte_of, bytes_of}
use Rattle.held_line.specs.Lines.{lines}
use Rattle.sort_text.specs.Parse.{Parsed, parsed, stuck, line}
use Rattle.sort_text.specs.Text.{text}
use Rattle.sort_text.specs.Reading.{short_line}

abbrev pub digit_byte : ℕ → ℕ
digit_byte n = byte_of "0" + n

-- a number below 1,000 in decimal
unfoldable pub small_decimal : ℕ → List ℕ
small_decimal n =
    cond (ltb n 10) (digit_byte n ∷ [])
    (cond (ltb n 100) (digit_byte (n / 10) ∷ digit_byte (n % 10) ∷ [])
    (digit_byte (n / 100) ∷ digit_byte (n / 10 % 10) ∷ digit_byte (n % 10) ∷ []))

-- "order (`=`, `<`, `>`, `|`)"
abbrev pub sign : Rust.Option Ordering → ℕ
sign (Rust.Some Equal) = byte_of "="
sign (Rust.Some Less) = byte_of "<"
sign (Rust.Some Greater) = byte_of ">"
sign Rust.None = byte_of "|"

abbrev pub none_text : List ℕ
none_text = bytes_of "none"

abbrev pub sort_or_none : Option Tree → List ℕ
sort_or_none none = none_text
sort_or_none (some t) = text t

abbrev pub steps_or_none : Option Steps → List ℕ
steps_or_none none = none_text
steps_or_none (some d) = small_decimal d.head ++ (bytes_of " " ++ small_decimal d.interior)

abbrev pub yes_or_no : Bool → List ℕ
yes_or_no true = bytes_of "yes"
yes_or_no false = bytes_of "no"

-- "joined by a comma and a space"
abbrev pub comma : List ℕ → List ℕ
comma bs = bytes_of ", " ++ bs

-- order, join, meet, distance, and materializable from first to second
unfoldable pub answer : Tree → Tree → List ℕ
answer s t =
    sign (ordering s t)
    ∷ comma (sort_or_none (join s t)
    ++ comma (sort_or_none (meet s t)
    ++ comma (steps_or_none (distance true s t)
    ++ comma (yes_or_no (materializable s t)))))

-- a line: its sort, or what a bad one prints, which is its code; "20 is followed by a colon and the unread end, without
-- a space"
pub data Line : Type 0 where
  good : Tree → Line
  wrong : List ℕ → Line

abbrev pub read : Parsed → Line
read (parsed t bs) = good t
read (stuck bs) = wrong (bytes_of "20:" ++ bs)

unfoldable pub line_of : List ℕ → Line
line_of bs = cond (short_line bs) (read (line bs)) (wrong (bytes_of "19"))

abbrev pub with_second : Tree → Line → List ℕ
with_second s (good t) = answer s t
with_second s (wrong bs) = bs

abbrev pub with_first : Line → Line → List ℕ
with_first (good s) second = with_second s second
with_first (wrong bs) second = bs

-- 21. "The input ends after the first line of a pair."
abbrev pub single : Line → List ℕ
single (good s) = bytes_of "21"
single (wrong bs) = bs

-- "A bad pair prints its first bad line's code"
unfoldable pub pair : List ℕ → List ℕ → List ℕ
pair first second = with_first (line_of first) (line_of second)

-- one line of output for each pair
unfoldable pub pairs : List (List ℕ) → List ℕ
pairs [] = []
pairs (l ∷ []) = single (line_of l) ++ bytes_of "\n"
pairs (l ∷ m ∷ ls) = pair l m ++ (bytes_of "\n" ++ pairs ls)

unfoldable pub output : List ℕ → List ℕ
output input = pairs (lines input)
