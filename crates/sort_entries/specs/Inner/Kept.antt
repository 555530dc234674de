-- What an entry answers and leaves after join or meet.
use Rattle.std.specs.Prelude.{List, ℕ, Option, Result, Ok, Err}
use Rattle.words.specs.Words.{cleared}
use Rattle.resolved_sort.specs.declared.Counts.{Counts}
use Rattle.resolved_sort.specs.declared.NoRoom.{NoRoom}
use Rattle.resolved_sort.specs.declared.Refusal.{Refusal}
use Rattle.resolved_sort.specs.declared.SortId.{SortId}
use Rattle.resolved_sort.specs.declared.Refusal.TheVariants.{SortsFull}
use Rattle.resolved_sort.specs.Storage.{given_back}
use Rattle.resolved_sort.specs.Checks.{first_failing, pair_checks}
use Rattle.resolved_sort.specs.Entries.{refused_or}
use Rattle.resolved_sort.specs.JoinMeet.{SortsLeft, sorts_left}

-- what the checks of a question about two sorts find: the counts given, of a checked list that has both
unfoldable pub pair_tested : List ℕ → ℕ → ℕ → ℕ → ℕ → Result Counts Refusal
pair_tested ws n e a b =
    refused_or (first_failing (pair_checks ws n e a b)) Err (Ok (record { sorts = n; entries = e }))

-- the words, the index and the counts that join or meet left, which began with the counts given, and what it answered
unfoldable pub kept_or_given_back : List ℕ → List ℕ → Counts → Counts → Result (Option SortId) NoRoom → SortsLeft
kept_or_given_back ws ix k given (Ok sort) = sorts_left ws (cleared ix) (Ok (sort, k))
kept_or_given_back ws ix k given (Err e) =
    sorts_left (given_back given.sorts given.entries ws) (cleared ix) (Err SortsFull)
