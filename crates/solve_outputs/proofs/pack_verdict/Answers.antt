-- The verdict's number, and its counts above it. Assumes nothing.
use Rattle.std.proofs.Common.{ap, sym, ◌+◌, ◌*◌, ◌∙◌}
use Rattle.solve_outputs.specs.Packed.{pack_solved}
use Rattle.solve_outputs.proofs.Fields as law
use Rattle.solve_outputs.proofs.pack_verdict.Goals as goal
use Rattle.std.specs.Prelude.{Ok}

pub returns-in-Typing : goal.returns-in-Typing
returns-in-Typing c =
    ap (λ n. n + c.in-Typing.outputs.components * 1099511627776 + c.in-Typing.outputs.choices * 4503599627370496) c.pack_counts.ensures
    ∙ (law.solved_typing c.in-Typing.outputs ∙ sym (ap (λ v. pack_solved (Ok v)) c.in-Typing.is))

pub returns-in-NoTyping : goal.returns-in-NoTyping
returns-in-NoTyping c =
    law.solved_counted _ _ c.in-NoTyping.is _ c.in-NoTyping.verdict-is _ _ c.code.ensures c.pack_counts-in-NoTyping.ensures
