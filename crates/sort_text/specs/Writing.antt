-- Writing a sort as text: what the entry answers, and what it leaves in the lent text buffer.
use Rattle.std.specs.Prelude.{◌&&◌, List, [], ◌∷◌, ◌++◌, ℕ, length, drop, leb, Result, Ok, Err}
use Rattle.resolved_sort.specs.declared.Refusal.{Refusal}
use Rattle.resolved_sort.specs.declared.Refusal.TheVariants.{NotInList, NoText, TooShort}
use Rattle.resolved_sort.specs.Checks.{Check, first_failing, sort_checks, in_list, at_ceiling}
use Rattle.resolved_sort.specs.Entries.{refused_or, tree_at}
use Rattle.sort_text.specs.Text.{writable, text}

-- 14: the sort storage below its ceiling, or the text longer than the buffer. A text may be longer than any buffer.
unfoldable pub write_checks : List ℕ → ℕ → ℕ → ℕ → List ℕ → List Check
write_checks ws n e a out =
    sort_checks ws n e
    ++ (record { refusal = NotInList; passes = in_list n a }
    ∷ record { refusal = NoText; passes = writable (tree_at ws n a) }
    ∷ record { refusal = TooShort; passes = at_ceiling ws && leb (length (text (tree_at ws n a))) (length out) }
    ∷ [])

-- the number of bytes of the text
pub record WriteLeft : Type 0 where
  pub bytes : List ℕ
  pub answer : Result ℕ Refusal

abbrev pub write_left : List ℕ → Result ℕ Refusal → WriteLeft
write_left out r = record { bytes = out; answer = r }

-- On a refusal no byte is written, and none past the text in any case.
unfoldable pub writing : List ℕ → ℕ → ℕ → ℕ → List ℕ → WriteLeft
writing ws n e a out =
    refused_or (first_failing (write_checks ws n e a out)) (λ c. write_left out (Err c))
    (write_left (text (tree_at ws n a) ++ drop (length (text (tree_at ws n a))) out)
    (Ok (length (text (tree_at ws n a)))))
