-- What each entry of the sorts layer answers, for every input: document 01, "Verdict codes" and "Sorts (002)"; and what
-- calls that make sorts leave. Join and meet, which are lent an index too, stand in JoinMeet.
use Rattle.std.specs.Prelude.{Bool, true, List, ℕ, ◌-◌, length, drop, Result, Ok, Err}
use Rattle.std.specs.Prelude as Rust
use Rattle.resolved_sort.specs.declared.Counts.{Counts}
use Rattle.std.specs.declared.cmp.Ordering.{Ordering}
use Rattle.resolved_sort.specs.declared.Steps.{Steps as StepsAnswer}
use Rattle.resolved_sort.specs.declared.Refusal.{Refusal}
use Rattle.resolved_sort.specs.declared.SortId.{SortId}
use Rattle.resolved_sort.specs.Tree.{Tree}
use Rattle.resolved_sort.specs.Order.{ordering, steps_of, distance, materializable}
use Rattle.resolved_sort.specs.Interning.{Sorts, look, number, Outcome, made, nothing, full}
use Rattle.resolved_sort.specs.Storage.{max_entries, trees, written}
use Rattle.resolved_sort.specs.Checks.{code_of, Tested, first_failing, pair_checks}

-- the sort of number a
abbrev pub tree_at : List ℕ → ℕ → ℕ → Tree
tree_at ws n a = look (trees ws n) a

-- document 01's number of an answer: 0 where it is not refused
unfoldable pub code_answered : {A : Type 0} → Result A Refusal → ℕ
code_answered (Ok a) = 0
code_answered (Err r) = code_of r

-- refused with the first failing check, else answered
abbrev pub refused_or : {A : Type 0} → Tested → (Refusal → A) → A → A
refused_or (Ok u) refuse answer = answer
refused_or (Err r) refuse answer = refuse r

unfoldable pub compared : List ℕ → ℕ → ℕ → ℕ → ℕ → Result (Rust.Option Ordering) Refusal
compared ws n e a b =
    refused_or (first_failing (pair_checks ws n e a b)) Err (Ok (ordering (tree_at ws n a) (tree_at ws n b)))

unfoldable pub measured : List ℕ → ℕ → ℕ → ℕ → ℕ → Result (Rust.Option StepsAnswer) Refusal
measured ws n e a b =
    refused_or (first_failing (pair_checks ws n e a b)) Err
    (Ok (steps_of (distance true (tree_at ws n a) (tree_at ws n b))))

unfoldable pub materialized : List ℕ → ℕ → ℕ → ℕ → ℕ → Result Bool Refusal
materialized ws n e a b =
    refused_or (first_failing (pair_checks ws n e a b)) Err
    (Ok (materializable (tree_at ws n a) (tree_at ws n b)))

-- the counts of a list, its ceilings given
abbrev pub counts_of : Sorts → Counts
counts_of S = record { sorts = length S.trees; entries = max_entries - S.entries }

-- What interning a sort, and what join and meet come to: the sort and the counts after it, none (with what was made on
-- the way kept), or no room for a new sort.
pub data Joined : Type 0 where
  At : SortId → Counts → Joined
  Nothing : Counts → Joined
  Full : Joined

-- What a call that makes sorts leaves: the words, and its answer. New sorts are appended in order of first making.
pub record Stored : Type 0 where
  pub words : List ℕ
  pub answer : Joined

abbrev pub after : List ℕ → ℕ → ℕ → Sorts → List ℕ
after ws n e S = written ws (trees ws n) e (drop n S.trees)

unfoldable pub stored : List ℕ → ℕ → ℕ → Outcome Tree → Stored
stored ws n e (made t S) =
    record { words = after ws n e S; answer = At (record { 0 = number S.trees t }) (counts_of S) }
stored ws n e (nothing S) = record { words = after ws n e S; answer = Nothing (counts_of S) }
stored ws n e (full S) = record { words = after ws n e S; answer = Full }
