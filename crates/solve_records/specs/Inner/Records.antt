-- What only contracts of inner functions cite, beside `specs/Records.antt`.
use Rattle.std.specs.Prelude.{List, ℕ, ◌*◌, min, get_or, take, drop, replicate}
use Rattle.std.proofs.lemmas.List.Edits.{sets}
use Rattle.inference.specs.Constraints.{max_overloads, overload_words}
use Rattle.solve_records.specs.declared.OverloadRecord.{OverloadRecord}
use Rattle.solve_records.specs.Records.{record_words}

-- the record at i, and zeros past the end
abbrev pub no_record : OverloadRecord
no_record = record { target = record { kind = 0; sort = record { 0 = 0 } }; sort = record { 0 = 0 } }

abbrev pub record_at : List OverloadRecord → ℕ → OverloadRecord
record_at os i = get_or os i no_record

-- "1,024 overloads in all": a count above is refused, so no record past the ceiling is looked at.
-- The words of those from i on.
abbrev pub words_from : ℕ → List OverloadRecord → List ℕ
words_from i os = record_words (drop i (take max_overloads os))

-- in an array that holds as many as there can be, with zeros after them
abbrev pub unpacked : List OverloadRecord → List ℕ
unpacked os = sets (replicate (overload_words * max_overloads) 0) 0 (words_from 0 os)

-- how many words of n records are looked at
abbrev pub words_of_count : ℕ → ℕ
words_of_count n = overload_words * min max_overloads n
