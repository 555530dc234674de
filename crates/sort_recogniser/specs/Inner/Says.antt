-- What recognising says of a line: a position i stands for `drop i line`.
use Rattle.std.specs.Prelude.{◌≡◌, List, ◌++◌, ℕ, ◌+◌, ◌-◌, ◌≤◌, length, take, drop, Result, Ok, Err}
use Rattle.resolved_sort.specs.Tree.{Tree, Trees, arity}
use Rattle.sort_text.specs.Parse.{Parsed, parsed, stuck, rest, sort}
use Rattle.sort_text.specs.Postfix.{postfix, postfixes}
use Rattle.sort_lexer.specs.declared.Token.{Token}
use Rattle.sort_lexer.specs.Inner.Lexeme.{lexeme_of}
use Rattle.sort_recogniser.specs.declared.Stuck.{Stuck}
use Rattle.resolved_sort.specs.Storage.{max_arguments}

-- how recognising ended: the position after what was read and the number of steps; or where the first token stands
-- that cannot follow
pub data Recognised : Type 0 where
  done_at : ℕ → ℕ → Recognised
  stuck_at : ℕ → Recognised

abbrev pub ended : ℕ → ℕ → Result (Unit {0}) Stuck → Recognised
ended p m (Ok u) = done_at p m
ended p m (Err s) = stuck_at s.0

-- The steps of t stand after front, m steps in all; at p, no earlier than lowest, the line goes on with cs; and the
-- steps with what is left of the line take no more than room.
pub record Wrote (line : List ℕ) (lowest room : ℕ) (front : List ℕ) (t : Tree) (cs out : List ℕ) (p m : ℕ)
    : Type 0 where
  pub further : lowest ≤ p
  pub within : p ≤ length line
  pub goes_on : drop p line ≡ cs
  pub fits : m + (length line - p) ≤ room
  pub written : take m out ≡ front ++ postfix t

unfoldable pub Says : List ℕ → ℕ → ℕ → List ℕ → Parsed → List ℕ → Recognised → Type 0
Says line lowest room front (parsed t cs) out (done_at p m) = Wrote line lowest room front t cs out p m
Says line lowest room front (parsed t cs) out (stuck_at p) = ⊥
Says line lowest room front (stuck cs) out (done_at p m) = ⊥
Says line lowest room front (stuck cs) out (stuck_at p) = (p ≤ length line) × (drop p line ≡ cs)

-- After the n steps of which the last are those of the k operands.
unfoldable pub SaysRest : List ℕ → ℕ → List ℕ → ℕ → ℕ → List ℕ → Recognised → Type 0
SaysRest line at old n k out r =
    (front : List ℕ) (ts : Trees) → take n old ≡ front ++ postfixes ts → arity ts ≡ k
    → Says line at (n + (length line - at)) front (rest sort (max_arguments - k) ts (drop at line)) out r

-- the next token is the one that is expected, and the position is then behind it; or it stands where reading is stuck
abbrev pub Met : List ℕ → ℕ → Token → ℕ → Result (Unit {0}) Stuck → Type 0
Met line at t p (Ok u) = ((lexeme_of line at).token ≡ t) × (p ≡ (lexeme_of line at).next)
Met line at t p (Err s) = ((lexeme_of line at).token ≡ t → ⊥) × (s.0 ≡ (lexeme_of line at).at)
