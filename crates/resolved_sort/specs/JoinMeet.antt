-- What the entries join and meet answer and leave in all that they are lent, for every input: document 01, "Sorts (002)",
-- and C-14, "Finding a sort without the scan".
use Rattle.std.specs.Prelude.{Bool, List, [], ◌∷◌, ◌++◌, ℕ, Result, Ok, Err}
use Rattle.std.specs.Prelude as Rust
use Rattle.words.specs.Words.{cleared}
use Rattle.resolved_sort.specs.declared.Counts.{Counts}
use Rattle.resolved_sort.specs.declared.Refusal.{Refusal}
use Rattle.resolved_sort.specs.declared.Refusal.TheVariants.{TooShort, SortsFull}
use Rattle.resolved_sort.specs.declared.SortId.{SortId}
use Rattle.resolved_sort.specs.Interning.{make}
use Rattle.resolved_sort.specs.Storage.{sorts_of, given_back}
use Rattle.resolved_sort.specs.Checks.{Check, first_failing, pair_checks}
use Rattle.resolved_sort.specs.Entries.{tree_at, refused_or, Joined, Stored, stored}
use Rattle.resolved_sort.specs.Entries.{At, Nothing, Full}
use Rattle.resolved_sort.specs.Index.{index_long}

-- "The index is scratch of its own, 2,048 words, 14 when shorter": at 14's place, which is the last.
unfoldable pub bound_checks : List ℕ → List ℕ → ℕ → ℕ → ℕ → ℕ → List Check
bound_checks ws ix n e a b = pair_checks ws n e a b ++ (record { refusal = TooShort; passes = index_long ix } ∷ [])

-- The join or meet of two sorts where there is one, and the counts after it; or why the call is refused.
abbrev pub Bounded : Type 0
Bounded = Result (Rust.Option SortId × Counts) Refusal

-- What join (up true) and meet (up false) leave and answer as entries.
pub record SortsLeft : Type 0 where
  pub words : List ℕ
  pub index : List ℕ
  pub answer : Bounded

abbrev pub sorts_left : List ℕ → List ℕ → Bounded → SortsLeft
sorts_left ws ix r = record { words = ws; index = ix; answer = r }

-- "Join and meet keep the sorts the Rust's would make, also where the answer is none"; 15 gives them back. The index is
-- "zero after each call that passes its checks", all its lent words.
unfoldable pub sorts_left_by : List ℕ → List ℕ → ℕ → ℕ → Stored → Joined → SortsLeft
sorts_left_by ws ix n e r (At s k) = sorts_left r.words (cleared ix) (Ok (Rust.Some s, k))
sorts_left_by ws ix n e r (Nothing k) = sorts_left r.words (cleared ix) (Ok (Rust.None, k))
sorts_left_by ws ix n e r Full = sorts_left (given_back n e ws) (cleared ix) (Err SortsFull)

unfoldable pub bounded : Bool → List ℕ → List ℕ → ℕ → ℕ → ℕ → ℕ → SortsLeft
bounded up ws ix n e a b =
    refused_or (first_failing (bound_checks ws ix n e a b)) (λ c. sorts_left ws ix (Err c))
    (let r : Stored = stored ws n e (make up (tree_at ws n a) (tree_at ws n b) (sorts_of ws n e)) in
    sorts_left_by ws ix n e r r.answer)
