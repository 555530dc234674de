-- Overloads as a caller lends them: a list of records, each a target and a sort, and the words that
-- stand for them, three to a record.
use Rattle.std.specs.Prelude.{List, [], ◌∷◌, ◌++◌, ℕ}
use Rattle.solve_records.specs.declared.OverloadRecord.{OverloadRecord}

-- a record's words, as a row of overloads has them: kind of target, its sort, place
abbrev pub words_of : OverloadRecord → List ℕ
words_of o = o.target.kind ∷ o.target.sort.0 ∷ o.sort.0 ∷ []

unfoldable pub record_words : List OverloadRecord → List ℕ
record_words [] = []
record_words (o ∷ os) = words_of o ++ record_words os
