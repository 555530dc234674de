-- The unread end of a line that is no sort: it starts "at the first token that cannot follow (a seventeenth argument's
-- `#` included; empty where the line stopped too early)"; "a byte that starts none of these counts as a token that
-- cannot follow". Said by the grammar alone: up to there some line that is a sort goes on alike, and with the token
-- there none does.
use Rattle.std.specs.Prelude.{◌≡◌, List, [], ◌++◌, ℕ, zero, suc}
use Rattle.resolved_sort.specs.Tree.{Tree}
use Rattle.sort_text.specs.Tokens.{is_letter, NextToken, end, word, open_bracket, close_bracket, hash, arrow}
use Rattle.sort_text.specs.Tokens.{bad, skip, next}
use Rattle.sort_text.specs.Grammar.{LineOf}

-- A token without the bytes after it. A byte that starts none, and the end of the line, count as tokens.
pub data BareToken : Type 0 where
  bare_word : List ℕ → BareToken
  bare_open bare_close bare_hash bare_arrow no_token no_more : BareToken

abbrev pub bare : NextToken → BareToken
bare end = no_more
bare (word w bs) = bare_word w
bare (open_bracket bs) = bare_open
bare (close_bracket bs) = bare_close
bare (hash bs) = bare_hash
bare (arrow bs) = bare_arrow
bare bad = no_token

-- the bytes after it
abbrev pub beyond : NextToken → List ℕ
beyond end = []
beyond (word w bs) = bs
beyond (open_bracket bs) = bs
beyond (close_bracket bs) = bs
beyond (hash bs) = bs
beyond (arrow bs) = bs
beyond bad = []

-- a line after its first i tokens
unfoldable pub after_tokens : ℕ → List ℕ → List ℕ
after_tokens zero bs = bs
after_tokens (suc i) bs = after_tokens i (beyond (next is_letter bs))

-- two lines begin with the same i tokens
unfoldable pub SameTokens : ℕ → List ℕ → List ℕ → Type 0
SameTokens zero bs cs = Unit {0}
SameTokens (suc i) bs cs =
    (bare (next is_letter bs) ≡ bare (next is_letter cs))
    × SameTokens i (beyond (next is_letter bs)) (beyond (next is_letter cs))

-- some line that is a sort begins with the first i tokens of bs
abbrev pub CanBegin : ℕ → List ℕ → Type 0
CanBegin i bs = (cs : List ℕ) × (t : Tree) × LineOf cs t [] × SameTokens i bs cs

-- What is left of bs from its first token that cannot follow is cs. Where cs is empty, that token is the end of the
-- line: the whole line is the beginning of a sort, and stopped too early.
pub record FirstThatCannotFollow (bs cs : List ℕ) : Type 0 where
  pub before : ℕ
  pub starts_there : cs ≡ skip (after_tokens before bs)
  pub can_begin : CanBegin before bs
  pub cannot_follow : CanBegin (suc before) bs → ⊥

-- In bytes: what was read before the unread end cs is the beginning of a line that is a sort.
pub record BeginsASort (bs cs : List ℕ) : Type 0 where
  pub front : List ℕ
  pub after : List ℕ
  pub whole : bs ≡ front ++ cs
  pub tree : Tree
  pub is_a_sort : LineOf (front ++ after) tree []
