-- A token with positions in place of what is left of the line: a position i stands for `drop i line`, and what is left
-- of the line for its place.
use Rattle.std.specs.Prelude.{◌≡◌, Bool, List, ℕ, ◌-◌, length, take, drop}
use Rattle.sort_text.specs.Tokens.{is_letter, NextToken, end, word, open_bracket, close_bracket, hash, arrow, bad}
use Rattle.sort_text.specs.Tokens.{skip, next}
use Rattle.sort_lexer.specs.declared.Token.{Token}
use Rattle.sort_lexer.specs.declared.Token.TheVariants.{End, Word, Open, Close, Hash, Arrow, Bad}
use Rattle.sort_lexer.specs.declared.Lexeme.{Lexeme}

-- where bs starts, the end of the line
abbrev pub offset : List ℕ → List ℕ → ℕ
offset line bs = length line - length bs

-- p is what a test of bytes answers, which post says
abbrev pub Tests : (ℕ → Bool → Type 0) → (ℕ → Bool) → Type 0
Tests post p = (b : ℕ) (r : Bool) → post b r → r ≡ p b

-- the token at bs, as it was found there
unfoldable pub lexeme : List ℕ → List ℕ → NextToken → Lexeme
lexeme line bs end = record { token = End; at = offset line bs; next = offset line bs }
lexeme line bs (word w cs) = record { token = Word; at = offset line bs; next = offset line cs }
lexeme line bs (open_bracket cs) = record { token = Open; at = offset line bs; next = offset line cs }
lexeme line bs (close_bracket cs) = record { token = Close; at = offset line bs; next = offset line cs }
lexeme line bs (hash cs) = record { token = Hash; at = offset line bs; next = offset line cs }
lexeme line bs (arrow cs) = record { token = Arrow; at = offset line bs; next = offset line cs }
lexeme line bs bad = record { token = Bad; at = offset line bs; next = offset line bs }

unfoldable pub lexeme_of : List ℕ → ℕ → Lexeme
lexeme_of line at = lexeme line (skip (drop at line)) (next is_letter (drop at line))

-- the bytes that a token with its positions stands for
unfoldable pub said_by : List ℕ → Token → ℕ → ℕ → NextToken
said_by line End i j = end
said_by line Word i j = word (take (j - i) (drop i line)) (drop j line)
said_by line Open i j = open_bracket (drop j line)
said_by line Close i j = close_bracket (drop j line)
said_by line Hash i j = hash (drop j line)
said_by line Arrow i j = arrow (drop j line)
said_by line Bad i j = bad

abbrev pub said : List ℕ → Lexeme → NextToken
said line r = said_by line r.token r.at r.next

-- how many bytes a token has at least; Bad goes no further
abbrev pub least : Token → ℕ
least End = 0
least Word = 1
least Open = 1
least Close = 1
least Hash = 1
least Arrow = 2
least Bad = 0
