-- The verdict by the leaves that the search met: "17. The search ended with no typing. 18. The least measure was
-- met by more than one leaf".
use Rattle.std.specs.Prelude.{◌≡◌, List, [], ◌∷◌, ℕ, ◌+◌, ◌<◌, ◌↔◌, length, Ok}
use Rattle.inference.specs.Measure.{Components, Ranking, smaller, equal, greater, compare, AtMost}
use Rattle.unification.specs.Making.{Lent}
use Rattle.inference.specs.Search.{Path, Out, found, missed, ended}
use Rattle.inference.specs.SolveChecks.{Call}
use Rattle.inference.specs.SolveEntry.{searched, SolveLeft, written_over, code_solved}
use Rattle.inference.specs.declared.Outputs.{Outputs}
use Rattle.inference.specs.declared.Verdict.TheVariants.{Typing}
use Rattle.inference.specs.Typing.{All, In}

-- the measures of all leaves met, the last first
abbrev pub measure_met : Path → Lent → List Components → List Components
measure_met e W ms = e.measure ∷ ms

abbrev pub history : Call → Out (List Components)
history I = searched (List Components) measure_met [] I

-- how often a measure is among measures
abbrev pub once : Ranking → ℕ
once smaller = 0
once equal = 1
once greater = 0

unfoldable pub times : Components → List Components → ℕ
times m [] = 0
times m (n ∷ ns) = once (compare m n) + times m ns

-- the least of measures
pub record Least (m : Components) (ms : List Components) : Type 0 where
  pub among : In m ms
  pub at_most : All (AtMost m) ms

-- the measures kept at the end of the search; where room ended the lists alone are left, and no law speaks of leaves
abbrev pub met_of : Out (List Components) → List Components
met_of (found w) = w.met
met_of (missed w) = w.met
met_of (ended c W) = []

-- the measures of the leaves that a call meets where it has room, the last first
abbrev pub leaves_met : Call → List Components
leaves_met I = met_of (history I)

abbrev pub code_left : SolveLeft → ℕ
code_left left = code_solved left.answer

-- m is handed out as the measure
pub record HandsOut (I : Call) (left : SolveLeft) (m : Components) : Type 0 where
  pub outputs : Outputs
  pub answer : left.answer ≡ Ok (Typing outputs)
  pub count : outputs.components ≡ length m
  pub measure : left.measure ≡ written_over m I.measure

-- the verdict by the leaves met
pub record ByLeaves (I : Call) (left : SolveLeft) (ms : List Components) : Type 0 where
  pub none_met : (code_left left ≡ 17) ↔ (ms ≡ [])
  pub least_met_often : (code_left left ≡ 18) ↔ ((m : Components) × Least m ms × (1 < times m ms))
  pub least_met_once : (code_left left ≡ 0) ↔ ((m : Components) × Least m ms × (times m ms ≡ 1))
  pub least_handed_out : code_left left ≡ 0 → (m : Components) → Least m ms → HandsOut I left m
