-- The values of each answer of the sorts' entries, beside document 01's number.
use Rattle.std.specs.Prelude.{◌≡◌, ◌⊎◌, List, [], ◌∷◌, ℕ, ◌<◌, ◌≤◌, Bool, Option, Some, None, Result}
use Rattle.entry_answers.specs.Packing.{CodeAndValues, coded_answer, yes_values, AnswerWithin}
use Rattle.resolved_sort.specs.declared.Counts.{Counts}
use Rattle.std.specs.declared.cmp.Ordering.{Ordering}
use Rattle.std.specs.declared.cmp.Ordering.TheVariants.{Less, Equal, Greater}
use Rattle.resolved_sort.specs.Entries.{Joined}
use Rattle.resolved_sort.specs.Entries.{At, Nothing, Full}
use Rattle.resolved_sort.specs.declared.Refusal.{Refusal}
use Rattle.resolved_sort.specs.declared.Refusal.TheVariants.{SortsFull}
use Rattle.resolved_sort.specs.declared.SortId.{SortId}
use Rattle.resolved_sort.specs.declared.Steps.{Steps}
use Rattle.resolved_sort.specs.Order.{most_steps}
use Rattle.resolved_sort.specs.Storage.{max_sorts, max_entries}
use Rattle.resolved_sort.specs.Checks.{Numbered}
use Rattle.resolved_sort.specs.JoinMeet.{Bounded}

-- 0 unrelated, 1 equal, 2 the first below the second, 3 above it
abbrev pub order_code : Option Ordering → ℕ
order_code None = 0
order_code (Some Equal) = 1
order_code (Some Less) = 2
order_code (Some Greater) = 3

abbrev pub order_values : Option Ordering → List ℕ
order_values o = order_code o ∷ []

-- 1 where there is a distance, its head, its interior
abbrev pub distance_values : Option Steps → List ℕ
distance_values (Some d) = 1 ∷ d.head ∷ d.interior ∷ []
distance_values None = 0 ∷ []

-- 1 where there is a sort, its number, and the sorts and entries after the call
abbrev pub bound_values : Option SortId × Counts → List ℕ
bound_values (Some s, k) = 1 ∷ s.0 ∷ k.sorts ∷ k.entries ∷ []
bound_values (None, k) = 0 ∷ 0 ∷ k.sorts ∷ k.entries ∷ []

abbrev pub coded_compared : Result (Option Ordering) Refusal → CodeAndValues
coded_compared = coded_answer order_values

abbrev pub coded_measured : Result (Option Steps) Refusal → CodeAndValues
coded_measured = coded_answer distance_values

abbrev pub coded_materialized : Result Bool Refusal → CodeAndValues
coded_materialized = coded_answer yes_values

abbrev pub coded_bounded : Bounded → CodeAndValues
coded_bounded = coded_answer bound_values

-- The numbers that an answer has: a refusal is by a check, a distance stops at 255, a sort is in the list, and counts
-- are within their ceilings.
abbrev pub ComparedWithin : Result (Option Ordering) Refusal → Type 0
ComparedWithin = AnswerWithin Numbered (λ o. Unit {0})

abbrev pub StepsWithin : Option Steps → Type 0
StepsWithin (Some d) = (d.head ≤ most_steps) × (d.interior ≤ most_steps)
StepsWithin None = Unit {0}

abbrev pub MeasuredWithin : Result (Option Steps) Refusal → Type 0
MeasuredWithin = AnswerWithin Numbered StepsWithin

abbrev pub MaterializedWithin : Result Bool Refusal → Type 0
MaterializedWithin = AnswerWithin Numbered (λ b. Unit {0})

abbrev pub BoundWithin : Option SortId × Counts → Type 0
BoundWithin (Some s, k) = (s.0 < k.sorts) × (k.sorts ≤ max_sorts) × (k.entries ≤ max_entries)
BoundWithin (None, k) = (k.sorts ≤ max_sorts) × (k.entries ≤ max_entries)

-- or there was no room for a sort
abbrev pub BoundedWithin : Bounded → Type 0
BoundedWithin = AnswerWithin (λ r. Numbered r ⊎ (r ≡ SortsFull)) BoundWithin

-- 15 where room ended
abbrev pub room_code : Joined → ℕ
room_code (At s k) = 0
room_code (Nothing k) = 0
room_code Full = 15
