-- The words of a line: "Spaces before, between and after words do not matter"; "A number is decimal, 0 to 65535, without
-- sign and without leading zeros"; "Names are a letter and a number".
use Rattle.std.specs.Prelude.{Bool, cond, not, ◌&&◌, List, [], ◌∷◌, length, get_or, drop, Option, Some, None}
use Rattle.std.specs.Prelude.{ℕ, zero, suc, ◌+◌, ◌*◌, ◌-◌, ltb, leb, eqb}
use Rattle.std.specs.Char.{is_ascii_digit}
use Rattle.text_out.specs.Quoted.{byte_of}
use Rattle.sort_text.specs.Tokens.{run, past, skip}
use Rattle.list_tokens.specs.declared.Keyword.{Keyword}
use Rattle.list_tokens.specs.declared.Token.{Token}
use Rattle.list_tokens.specs.declared.Start.{Start}
use Rattle.list_tokens.specs.declared.Start.TheVariants.{Skipped, Answer, NewList, Other}
use Rattle.list_tokens.specs.Words.{keyword_of}

abbrev pub most_number : ℕ
most_number = 65535

-- decimal digits after those of v, up to 65,535
unfoldable pub decimal_read : ℕ → List ℕ → Option ℕ
decimal_read v [] = Some v
decimal_read v (b ∷ bs) =
    cond (is_ascii_digit b)
    (cond (ltb most_number (v * 10 + (b - byte_of "0"))) None (decimal_read (v * 10 + (b - byte_of "0")) bs))
    None

-- at least one digit, and no zero before another one
unfoldable pub number_read : List ℕ → Option ℕ
number_read w =
    cond (eqb (length w) 0) None
    (cond (leb (length w) 1) (decimal_read 0 w)
    (cond (eqb (get_or w 0 0) (byte_of "0")) None (decimal_read 0 w)))

-- a number as a word of a class
abbrev pub of_class : (ℕ → Token) → Option ℕ → Token
of_class class None = Token.Other
of_class class (Some n) = class n

-- a number, or a letter and a number: s, n, v, e
unfoldable pub name_token : List ℕ → Token
name_token w =
    cond (eqb (get_or w 0 0) (byte_of "s")) (of_class (λ n. Token.Sort n) (number_read (drop 1 w)))
    (cond (eqb (get_or w 0 0) (byte_of "n")) (of_class (λ n. Token.Node n) (number_read (drop 1 w)))
    (cond (eqb (get_or w 0 0) (byte_of "v")) (of_class (λ n. Token.Var n) (number_read (drop 1 w)))
    (cond (eqb (get_or w 0 0) (byte_of "e")) (of_class (λ n. Token.Expr n) (number_read (drop 1 w)))
    (of_class (λ n. Token.Number n) (number_read w)))))

-- a word by its bytes
abbrev pub token_by : Option Keyword → List ℕ → Token
token_by (Some k) w = Token.Keyword k
token_by None w = name_token w

unfoldable pub token_of : List ℕ → Token
token_of w = token_by (keyword_of w) w

-- the bytes of words
abbrev pub in_word : ℕ → Bool
in_word b = not (eqb b (byte_of " "))

-- the words of bytes, m at most
unfoldable pub tokens_from : ℕ → List ℕ → List Token
tokens_from zero bs = []
tokens_from (suc m) bs =
    cond (eqb (length (skip bs)) 0) []
    (token_of (run in_word (skip bs)) ∷ tokens_from m (past in_word (skip bs)))

-- the words of a line, of which a line of at most max_line bytes has at most most_words
abbrev pub most_words : ℕ
most_words = 100

unfoldable pub tokens_of : List ℕ → List Token
tokens_of line = tokens_from most_words line

-- printable ASCII
abbrev pub is_printable : ℕ → Bool
is_printable b = leb (byte_of " ") b && leb b (byte_of "~")

-- by the first word of a line that has one
abbrev pub start_by : Token → Start
start_by (Token.Keyword Keyword.Answer) = Answer
start_by (Token.Keyword Keyword.List) = NewList
start_by t = Other

-- "A line without words, or whose first byte after spaces is `#`, is skipped."
unfoldable pub line_start : List ℕ → Start
line_start line =
    cond (eqb (length (skip line)) 0) Skipped
    (cond (eqb (get_or (skip line) 0 0) (byte_of "#")) Skipped (start_by (token_of (run in_word (skip line)))))
