-- A run of spaces. Assumes nothing.
use Rattle.std.proofs.Common.{eqb, rules}
use Rattle.sort_text.specs.Tokens.{skip}
use Rattle.sort_lexer.proofs.skip_spaces.Goals as goal

pub returns : goal.returns
unfolding skip
returns c = c.run_end.ensures (eqb 32) (λ b r h. search rules)
