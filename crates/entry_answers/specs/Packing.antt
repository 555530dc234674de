-- An answer as document 01 has it, its number and its values, and both as one number for callers in other languages:
-- the code in the lowest 8 bits, each value above it in a field of its own.
use Rattle.std.specs.Prelude.{Bool, true, false, List, [], ◌∷◌, ℕ, ◌+◌, ◌*◌, ◌^◌, ◌<◌}
use Rattle.std.specs.Prelude.{Result, Ok, Err}
use Rattle.resolved_sort.specs.declared.Refusal.{Refusal}
use Rattle.resolved_sort.specs.Checks.{code_of}

-- "Each enum answer has a definition that gives this paper's number and values for each of its cases."
pub record CodeAndValues : Type 0 where
  pub code : ℕ
  pub values : List ℕ

abbrev pub coded : ℕ → List ℕ → CodeAndValues
coded c vs = record { code = c; values = vs }

-- Numbers in fields of so many bits, the first one lowest. A field without a number is 0.
unfoldable pub in_fields : List ℕ → List ℕ → ℕ
in_fields [] vs = 0
in_fields (w ∷ ws) [] = 0
in_fields (w ∷ ws) (v ∷ vs) = v + 2 ^ w * in_fields ws vs

abbrev pub code_bits : ℕ
code_bits = 8

-- the code, and above it the values in fields of the widths ws
unfoldable pub packed : List ℕ → CodeAndValues → ℕ
packed ws a = in_fields (code_bits ∷ ws) (a.code ∷ a.values)

-- each number has a field, and fits it
unfoldable pub FitFields : List ℕ → List ℕ → Type 0
FitFields ws [] = Unit {0}
FitFields [] (v ∷ vs) = ⊥
FitFields (w ∷ ws) (v ∷ vs) = (v < 2 ^ w) × FitFields ws vs

abbrev pub FitsWidths : List ℕ → CodeAndValues → Type 0
FitsWidths ws a = FitFields (code_bits ∷ ws) (a.code ∷ a.values)

-- an answer with the values of what it is where it is not refused: 0 and these, or the number of the refusal
abbrev pub coded_answer : {A : Type 0} → (A → List ℕ) → Result A Refusal → CodeAndValues
coded_answer values (Ok a) = coded 0 (values a)
coded_answer values (Err r) = coded (code_of r) []

-- the value of a yes or a no: 1 for a yes
abbrev pub yes_values : Bool → List ℕ
yes_values true = 1 ∷ []
yes_values false = 0 ∷ []

-- what holds of an answer's refusal, or of what it is
abbrev pub AnswerWithin : {A : Type 0} → (Refusal → Type 0) → (A → Type 0) → Result A Refusal → Type 0
AnswerWithin R W (Ok a) = W a
AnswerWithin R W (Err r) = R r

-- what is packed of an answer whose values are packed above a code of 0
unfoldable pub pack_number : Result ℕ Refusal → ℕ
pack_number (Ok values) = values
pack_number (Err r) = code_of r

-- a yes or a no as one number: bits 8 to 15 are 1 for a yes
abbrev pub yes_widths : List ℕ
yes_widths = 8 ∷ []

abbrev pub pack_answered : Result Bool Refusal → ℕ
pack_answered r = packed yes_widths (coded_answer yes_values r)
