-- Tokens of a line: "a longest run of letters, `(`, `)`, `#`, `->`; a byte that starts none of these counts as a token
-- that cannot follow"; "spaces may stand before, between and after tokens, never inside one". Only the byte 32 is a
-- space.
use Rattle.std.specs.Prelude.{Bool, cond, ◌&&◌, ◌||◌, List, [], ◌∷◌, ℕ, eqb, leb}
use Rattle.text_out.specs.Quoted.{byte_of}

-- the bytes of words: ASCII letters (a later request has another class)
abbrev pub is_letter : ℕ → Bool
is_letter b = leb (byte_of "A") b && leb b (byte_of "Z") || leb (byte_of "a") b && leb b (byte_of "z")

-- the next token, with the bytes after it
pub data NextToken : Type 0 where
  end : NextToken
  word : List ℕ → List ℕ → NextToken
  open_bracket close_bracket hash arrow : List ℕ → NextToken
  bad : NextToken

-- the run of word bytes at the front, and what follows it
unfoldable pub run : (ℕ → Bool) → List ℕ → List ℕ
run p [] = []
run p (b ∷ bs) = cond (p b) (b ∷ run p bs) []

unfoldable pub past : (ℕ → Bool) → List ℕ → List ℕ
past p [] = []
past p (b ∷ bs) = cond (p b) (past p bs) (b ∷ bs)

-- without the spaces at the front
unfoldable pub skip : List ℕ → List ℕ
skip = past (eqb (byte_of " "))

-- `-` is a token only with `>` after it
abbrev pub dash : List ℕ → NextToken
dash [] = bad
dash (b ∷ bs) = cond (eqb b (byte_of ">")) (arrow bs) bad

-- the token that a byte starts
unfoldable pub start : (ℕ → Bool) → ℕ → List ℕ → NextToken
start p b bs =
    cond (p b) (word (b ∷ run p bs) (past p bs))
    (cond (eqb b (byte_of "(")) (open_bracket bs)
    (cond (eqb b (byte_of ")")) (close_bracket bs)
    (cond (eqb b (byte_of "#")) (hash bs)
    (cond (eqb b (byte_of "-")) (dash bs) bad))))

abbrev pub next_at : (ℕ → Bool) → List ℕ → NextToken
next_at p [] = end
next_at p (b ∷ bs) = start p b bs

unfoldable pub next : (ℕ → Bool) → List ℕ → NextToken
next p bs = next_at p (skip bs)
