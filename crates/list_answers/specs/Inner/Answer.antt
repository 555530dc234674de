-- What only contracts of inner functions cite, beside `specs/Answer.antt`.
use Rattle.std.specs.Prelude.{List, ℕ, Ok, Err}
use Rattle.resolved_sort.specs.Rows.{Checked}
use Rattle.inference.specs.declared.Verdict.TheVariants.{NoTyping, Ambiguous, Typing}
use Rattle.inference.specs.SolveEntry.{Solved, SolveLeft}
use Rattle.text_out.specs.declared.Out.{Out}
use Rattle.text_out.specs.Outs.{then_put}
use Rattle.list_memory.specs.Memory.{sort_list, expr_list}
use Rattle.list_call.specs.Lists.{call_count}
use Rattle.list_answers.specs.Answer.{left_text}

-- sorts are checked where they are to be written
abbrev pub Tellable : Solved → List ℕ → Type 0
Tellable (Err r) ss = Unit {0}
Tellable (Ok (NoTyping k)) ss = Unit {0}
Tellable (Ok (Ambiguous k)) ss = Unit {0}
Tellable (Ok (Typing o)) ss = Checked ss o.counts.sorts o.counts.entries

-- what a call left, told behind what the buffer has: of as many sorts and expressions as the list tells
abbrev pub told_of : List ℕ → Out → SolveLeft → Out
told_of ws out L = then_put out (left_text (call_count ws sort_list) (call_count ws expr_list) L)
