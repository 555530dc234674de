-- Checks 1 to 4, 12 and 14 of document 01 over the lent sort storage ws with n sorts and e entries given, each true
-- where the check passes; the first that fails is the refusal.
use Rattle.std.specs.Prelude.{Bool, true, cond, ◌&&◌, List, [], ◌∷◌, ◌++◌, ℕ, zero, suc, ◌+◌, ◌-◌, ◌*◌, ◌≤◌, length, eqb, leb, ltb}
use Rattle.std.specs.Prelude.{Result, Ok, Err}
use Rattle.resolved_sort.specs.declared.Refusal.{Refusal}
use Rattle.resolved_sort.specs.declared.Refusal.TheVariants.{NotLent, NotFixedSix, BadSort, EqualSorts, BadNode, BadBinding}
use Rattle.resolved_sort.specs.declared.Refusal.TheVariants.{Cyclic, BadExpression, BadConstraint, TwoForOne, BadJoin}
use Rattle.resolved_sort.specs.declared.Refusal.TheVariants.{NotInList, NoText, TooShort, SortsFull, NodesFull, LongLine}
use Rattle.resolved_sort.specs.declared.ResolvedSort.{ResolvedSort}
use Rattle.resolved_sort.specs.declared.ResolvedSort.TheVariants.{Unit as UnitSort, Primitive, Container, Function, Def}
use Rattle.resolved_sort.specs.declared.ResolvedSort.TheVariants.{TypeVar}
use Rattle.resolved_sort.specs.Interning.{distinct}
use Rattle.resolved_sort.specs.Storage.{max_sorts, max_entries, max_arguments, row_words, full_length}
use Rattle.resolved_sort.specs.Storage.{kind_at, entry_at, row_at, last_kind, trees}

-- p holds of every number below n
unfoldable pub all_below : ℕ → (ℕ → Bool) → Bool
all_below zero p = true
all_below (suc n) p = all_below n p && p n

-- 1. "A given list is above its ceiling or longer than the storage lent for it." Storage of n rows, at most `most`, and
-- e entries, which stand behind the room for all rows.
abbrev pub storage_within : ℕ → List ℕ → ℕ → ℕ → Bool
storage_within most ws n e =
    leb n most && leb e max_entries && leb (row_words * n) (length ws) && leb e (length ws - row_words * most)

unfoldable pub within_lent : List ℕ → ℕ → ℕ → Bool
within_lent ws n e = storage_within max_sorts ws n e

-- 2. "The first six sorts are not the fixed six in order." Kinds 0 to 5 are these, and have no parts.
unfoldable pub fixed_six : List ℕ → ℕ → Bool
fixed_six ws n = leb 6 n && all_below 6 (λ i. eqb (kind_at ws i) i)

-- the parts of row i are numbered below it, and its run is inside the entries
unfoldable pub parts_below : List ℕ → ℕ → ℕ → ResolvedSort → Bool
parts_below ws e i UnitSort = true
parts_below ws e i (Primitive s) = true
parts_below ws e i (Container op subsort) = ltb subsort.0 i
parts_below ws e i (Function domain range) =
    leb domain.count max_arguments
    && leb (domain.start + domain.count) e
    && ltb range.0 i
    && all_below domain.count (λ j. ltb (entry_at ws (domain.start + j)) i)
parts_below ws e i (Def n) = true
parts_below ws e i (TypeVar n) = true

unfoldable pub row_fine_of : List ℕ → ℕ → ℕ → Bool
row_fine_of ws e i = leb (kind_at ws i) last_kind && parts_below ws e i (row_at ws i)

-- 3. "A sort has an unknown kind or container, more than 16 arguments, a run leaving its list, or a part not numbered
-- below it."
unfoldable pub rows_fine : List ℕ → ℕ → ℕ → Bool
rows_fine ws n e = all_below n (row_fine_of ws e)

-- 4. "Two sorts of the list are equal": by structure.
unfoldable pub no_two_equal : List ℕ → ℕ → Bool
no_two_equal ws n = distinct (trees ws n)

-- 12. "a sort .. asked about, is not in its list."
unfoldable pub in_list : ℕ → ℕ → Bool
in_list n a = ltb a n

-- 14. "Sort and node storage is lent at its full ceiling (14 when shorter)."
unfoldable pub at_ceiling : List ℕ → Bool
at_ceiling ws = leb full_length (length ws)

-- document 01's number of each refusal
unfoldable pub code_of : Refusal → ℕ
code_of NotLent = 1
code_of NotFixedSix = 2
code_of BadSort = 3
code_of EqualSorts = 4
code_of BadNode = 5
code_of BadBinding = 6
code_of Cyclic = 7
code_of BadExpression = 8
code_of BadConstraint = 9
code_of TwoForOne = 10
code_of BadJoin = 11
code_of NotInList = 12
code_of NoText = 13
code_of TooShort = 14
code_of SortsFull = 15
code_of NodesFull = 16
code_of LongLine = 19

-- a check: why a call is refused that does not pass it, and whether it passes
pub record Check : Type 0 where
  pub refusal : Refusal
  pub passes : Bool

-- what the checks of a call come to: the refusal of the first that fails
abbrev pub Tested : Type 0
Tested = Result (Unit {0}) Refusal

unfoldable pub first_failing : List Check → Tested
first_failing [] = Ok tt
first_failing (c ∷ cs) = cond c.passes (first_failing cs) (Err c.refusal)

-- checks 2 to 4, which every entry makes after check 1
abbrev pub sort_row_checks : List ℕ → ℕ → ℕ → List Check
sort_row_checks ws n e =
    record { refusal = NotFixedSix; passes = fixed_six ws n }
    ∷ record { refusal = BadSort; passes = rows_fine ws n e }
    ∷ record { refusal = EqualSorts; passes = no_two_equal ws n }
    ∷ []

unfoldable pub sort_checks : List ℕ → ℕ → ℕ → List Check
sort_checks ws n e = record { refusal = NotLent; passes = within_lent ws n e } ∷ sort_row_checks ws n e

-- the checks of an entry that asks about two sorts
unfoldable pub pair_checks : List ℕ → ℕ → ℕ → ℕ → ℕ → List Check
pair_checks ws n e a b =
    sort_checks ws n e
    ++ (record { refusal = NotInList; passes = in_list n a && in_list n b } ∷ record { refusal = TooShort; passes = at_ceiling ws }
    ∷ [])

-- the numbers of checks
abbrev pub Numbered : Refusal → Type 0
Numbered r = (1 ≤ code_of r) × (code_of r ≤ 14)
