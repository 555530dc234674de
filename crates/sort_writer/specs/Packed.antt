-- The number and the values of each answer of the writer, and both as one number for callers in other languages: the
-- length of the text, which is below 2^63; or 2^63 and the code of a refusal.
use Rattle.std.specs.Prelude.{List, [], ◌∷◌, ℕ, ◌+◌, ◌<◌, Result}
use Rattle.resolved_sort.specs.declared.Refusal.{Refusal}
use Rattle.resolved_sort.specs.Checks.{Numbered}
use Rattle.entry_answers.specs.Packing.{CodeAndValues, coded_answer, AnswerWithin}
use Rattle.sort_text.specs.Writing.{WriteLeft}
use Rattle.words.specs.Bits.{bit63}

-- the length of the text
abbrev pub written_values : ℕ → List ℕ
written_values n = n ∷ []

abbrev pub coded_written : Result ℕ Refusal → CodeAndValues
coded_written = coded_answer written_values

-- A length below 2^63 and a code of 8 bits do not fit one number of 64 bits: so a value stands alone, and a code that
-- comes with none stands above 2^63.
abbrev pub value_or_code : ℕ → List ℕ → ℕ
value_or_code c [] = bit63 + c
value_or_code c (v ∷ vs) = v

abbrev pub pack_written : Result ℕ Refusal → ℕ
pack_written r = value_or_code (coded_written r).code (coded_written r).values

-- the numbers that an answer has: a refusal is by a check, and no buffer has 2^63 bytes
abbrev pub WrittenWithin : Result ℕ Refusal → Type 0
WrittenWithin = AnswerWithin Numbered (λ n. n < bit63)

-- the buffer at exit, and the packed answer
pub record PackedWrite : Type 0 where
  pub bytes : List ℕ
  pub result : ℕ

abbrev pub packed_write : List ℕ → ℕ → PackedWrite
packed_write bs r = record { bytes = bs; result = r }

abbrev pub pack_write_left : WriteLeft → PackedWrite
pack_write_left l = packed_write l.bytes (pack_written l.answer)
