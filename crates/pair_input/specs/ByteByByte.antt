-- The pair program as its input comes, byte by byte: which lines are held, and what is printed. Of a line no more than
-- 201 bytes are held: a longer one is 19, whatever stands in it.
use Rattle.std.specs.Prelude.{cond, List, [], ◌∷◌, ◌++◌, ℕ, ◌+◌, eqb}
use Rattle.text_out.specs.Quoted.{byte_of}
use Rattle.sort_text.specs.Reading.{max_line}
use Rattle.held_line.specs.Holding.{holding}
use Rattle.pair_line.specs.PairProgram.{line_of, single, pair}
use Rattle.pair_line.specs.Answers.{with_lf}

-- In the first line of a pair, with its bytes so far; or in the second, with the first line and the bytes so far.
pub data Lines : Type 0 where
  first : List ℕ → Lines
  second : List ℕ → List ℕ → Lines

abbrev pub most_held : ℕ
most_held = max_line + 1

-- the lines held then, and what is printed
pub record Turned : Type 0 where
  pub lines : Lines
  pub output : List ℕ

abbrev pub turned : Lines → List ℕ → Turned
turned h o = record { lines = h; output = o }

-- a byte of the input
unfoldable pub take_byte : Lines → ℕ → Turned
take_byte (first l) b = cond (eqb b (byte_of "\n")) (turned (second l []) []) (turned (first (holding most_held l b)) [])
take_byte (second l m) b =
    cond (eqb b (byte_of "\n")) (turned (first []) (with_lf (pair l m))) (turned (second l (holding most_held m b)) [])

-- bytes one after another
abbrev pub onward : List ℕ → Turned → Turned
onward o t = turned t.lines (o ++ t.output)

unfoldable pub take_bytes : Lines → List ℕ → Turned
take_bytes h [] = turned h []
take_bytes h (b ∷ bs) = onward (take_byte h b).output (take_bytes (take_byte h b).lines bs)

-- The end of the input: a last nonempty line needs no LF.
unfoldable pub at_end : Lines → List ℕ
at_end (first []) = []
at_end (first (b ∷ l)) = with_lf (single (line_of (b ∷ l)))
at_end (second l []) = with_lf (single (line_of l))
at_end (second l (b ∷ m)) = with_lf (pair l (b ∷ m))

-- An input in any number of parts: the outputs of the parts in turn, and what the end prints, are `output` of the
-- whole.
abbrev pub in_turn : Lines → List (List ℕ) → List ℕ
in_turn h [] = at_end h
in_turn h (p ∷ ps) = (take_bytes h p).output ++ in_turn (take_bytes h p).lines ps
