-- The values of each answer of unify, beside document 01's number.
use Rattle.std.specs.Prelude.{Bool, Result}
use Rattle.resolved_sort.specs.declared.Refusal.{Refusal}
use Rattle.resolved_sort.specs.Checks.{Numbered}
use Rattle.entry_answers.specs.Packing.{CodeAndValues, coded_answer, yes_values, AnswerWithin}

-- the number of a refusal, or 0 with 1 for a yes and 0 for a no
abbrev pub coded_unified : Result Bool Refusal → CodeAndValues
coded_unified = coded_answer yes_values

-- a refusal has the number of a check
abbrev pub UnifiedWithin : Result Bool Refusal → Type 0
UnifiedWithin = AnswerWithin Numbered (λ b. Unit {0})
