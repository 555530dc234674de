-- Document 01's numbers of refusals: each is above 0 and below 256, and no two refusals have one. By their list. Assumes
-- nothing.
use mathlib.Core.Path.{◌≡◌, refl, sym, ◌∙◌, ap}
use mathlib.Core.List.{List, [], ◌∷◌}
use Prim.Native.Nat.{◌≤◌, ◌<◌}
use native.Mathlib.Omega.{arith}
use lib.ListN.{get_or}
use Rattle.resolved_sort.specs.declared.Refusal.{Refusal}
use Rattle.resolved_sort.specs.declared.Refusal.TheVariants.{NotLent, NotFixedSix, BadSort, EqualSorts, BadNode, BadBinding}
use Rattle.resolved_sort.specs.declared.Refusal.TheVariants.{Cyclic, BadExpression, BadConstraint, TwoForOne, BadJoin}
use Rattle.resolved_sort.specs.declared.Refusal.TheVariants.{NotInList, NoText, TooShort, SortsFull, NodesFull, LongLine}
use Rattle.resolved_sort.specs.Checks.{code_of}

-- the refusals by their numbers; 0, 17 and 18 are no refusals
abbrev by_number : List Refusal
by_number =
    LongLine ∷ NotLent ∷ NotFixedSix ∷ BadSort ∷ EqualSorts ∷ BadNode ∷ BadBinding ∷ Cyclic ∷ BadExpression ∷ BadConstraint
    ∷ TwoForOne ∷ BadJoin ∷ NotInList ∷ NoText ∷ TooShort ∷ SortsFull ∷ NodesFull ∷ []

again : (r : Refusal) → get_or by_number (code_of r) LongLine ≡ r
unfolding code_of
again NotLent = refl
again NotFixedSix = refl
again BadSort = refl
again EqualSorts = refl
again BadNode = refl
again BadBinding = refl
again Cyclic = refl
again BadExpression = refl
again BadConstraint = refl
again TwoForOne = refl
again BadJoin = refl
again NotInList = refl
again NoText = refl
again TooShort = refl
again SortsFull = refl
again NodesFull = refl
again LongLine = refl

pub codes_tell : (r s : Refusal) → code_of r ≡ code_of s → r ≡ s
codes_tell r s e = sym (again r) ∙ (ap (λ c. get_or by_number c LongLine) e ∙ again s)

pub code_in_byte : (r : Refusal) → (1 ≤ code_of r) × (code_of r < 256)
unfolding code_of
code_in_byte NotLent = (omega arith, omega arith)
code_in_byte NotFixedSix = (omega arith, omega arith)
code_in_byte BadSort = (omega arith, omega arith)
code_in_byte EqualSorts = (omega arith, omega arith)
code_in_byte BadNode = (omega arith, omega arith)
code_in_byte BadBinding = (omega arith, omega arith)
code_in_byte Cyclic = (omega arith, omega arith)
code_in_byte BadExpression = (omega arith, omega arith)
code_in_byte BadConstraint = (omega arith, omega arith)
code_in_byte TwoForOne = (omega arith, omega arith)
code_in_byte BadJoin = (omega arith, omega arith)
code_in_byte NotInList = (omega arith, omega arith)
code_in_byte NoText = (omega arith, omega arith)
code_in_byte TooShort = (omega arith, omega arith)
code_in_byte SortsFull = (omega arith, omega arith)
code_in_byte NodesFull = (omega arith, omega arith)
code_in_byte LongLine = (omega arith, omega arith)
