-- The numbers of a line: decimal digits, each number after one space.
use Rattle.std.specs.Prelude.{cond, List, [], ◌∷◌, length, get_or, set, take, drop, replicate, Option, Some, None}
use Rattle.std.specs.Prelude.{ℕ, zero, suc, ◌+◌, ◌*◌, ◌-◌, ltb, leb, eqb}
use Prim.Native.Char.{code}
use Rattle.std.specs.Char.{is_ascii_digit}
use Rattle.replay.specs.declared.Fields.{Fields}

-- how many numbers a line has at most
abbrev pub max_fields : ℕ
max_fields = 18

-- the digits that bytes start with
unfoldable pub digits : List ℕ → List ℕ
digits [] = []
digits (b ∷ bs) = cond (is_ascii_digit b) ((b - code "0") ∷ digits bs) []

-- the value of decimal digits, the first the highest, after those of v
unfoldable pub value_after : ℕ → List ℕ → ℕ
value_after v [] = v
value_after v (d ∷ ds) = value_after (v * 10 + d) ds

-- numbers below this are read: the largest of 19 digits and all smaller ones
abbrev pub too_large : ℕ
too_large = 10000000000000000000

-- a number by its digits, of which there is at least one, from a position on, and the position past them
unfoldable pub number_of : ℕ → List ℕ → Option (ℕ × ℕ)
number_of at [] = None
number_of at (d ∷ ds) =
    cond (ltb (value_after 0 (d ∷ ds)) too_large) (Some (value_after 0 (d ∷ ds), at + length (d ∷ ds))) None

unfoldable pub number_at : List ℕ → ℕ → Option (ℕ × ℕ)
number_at line at = number_of at (digits (drop at line))

abbrev pub all_read : List ℕ → ℕ → Option Fields
all_read values k = Some (record { values = values; count = k })

-- what follows a number, if there is one
unfoldable pub after_number : Option (ℕ × ℕ) → (ℕ → ℕ → Option Fields) → Option Fields
after_number None go = None
after_number (Some n) go = go n.0 n.1

-- the numbers from a position on, after the k before it; m more at most
unfoldable pub fields_from : ℕ → List ℕ → ℕ → List ℕ → ℕ → Option Fields
fields_from zero line at values k = cond (leb (length line) at) (all_read values k) None
fields_from (suc m) line at values k =
    cond (leb (length line) at) (all_read values k)
    (cond (eqb (get_or line at 0) (code " "))
    (after_number (number_at line (at + 1)) (λ v next. fields_from m line next (set values k v) (k + 1)))
    None)

-- the numbers after a line's letter, 18 at most
unfoldable pub fields_of : List ℕ → Option Fields
fields_of line = fields_from max_fields line 1 (replicate max_fields 0) 0

-- the numbers of a line as a list
abbrev pub values_read : Fields → List ℕ
values_read f = take f.count f.values
