-- The invariant: what is left after the run is the same from here on. Assumes nothing.
use Rattle.std.proofs.Common.{◌≡◌, ℕ, Bool, drop}
use Rattle.sort_text.specs.Tokens.{past}
use Rattle.sort_lexer.specs.Inner.Lexeme.{Tests}
use Rattle.sort_lexer.proofs.run_end.Given as goal

abbrev pub invariant-loop-i : goal.invariant-loop-i
invariant-loop-i g l =
    (p : ℕ → Bool) → Tests (goal.P-post g l.passes) p → past p (drop l.at l.line) ≡ past p (drop l.i l.byte-items)
