-- Steps on a stack of sort numbers, as the code carries them out.
use Rattle.std.specs.Prelude.{◌≡◌, List, [], ◌∷◌, ℕ, zero, suc, ◌+◌, ◌-◌, ◌<◌, ◌≤◌, length, get_or, drop}
use Rattle.std.specs.Prelude.{Option, Some, None, Ok, Err}
use Rattle.resolved_sort.specs.declared.SortId.{SortId}
use Rattle.resolved_sort.specs.declared.Counts.{Counts}
use Rattle.resolved_sort.specs.Entries.{Joined}
use Rattle.resolved_sort.specs.Entries.{At, Nothing, Full}
use Rattle.sort_reader.specs.declared.Step.{Step}
use Rattle.sort_reader.specs.declared.Step.TheVariants.{Fixed, Container, Function}
use Rattle.resolved_sort.specs.Tree.{Tree}
use Rattle.resolved_sort.specs.Interning.{look}
use Rattle.resolved_sort.specs.Storage.{trees, sorts_of}
use Rattle.resolved_sort.specs.Entries.{Stored, stored}
use Rattle.resolved_sort.specs.Rows.{Checked, stored_at}
use Rattle.sort_text.specs.declared.Unread.TheVariants.{NoRoom}
use Rattle.sort_text.specs.Postfix.{function_step, op_of, Short, sixth, steps}
use Rattle.sort_text.specs.Reading.{WordsLeft, words_left, stored_by}

-- how many sorts the stack holds: more than the steps of a line can put there
abbrev pub max_stack : ℕ
max_stack = 256

-- the number at a place of the stack
abbrev pub id_at : List SortId → ℕ → ℕ
id_at ids d = (get_or ids d (record { 0 = 0 })).0

-- the sorts of the first depth numbers, the last one on top
unfoldable pub stack_of : List Tree → List SortId → ℕ → List Tree
stack_of T ids zero = []
stack_of T ids (suc d) = look T (id_at ids d) ∷ stack_of T ids d

-- the sort on top when the steps are done, and what that leaves
unfoldable pub run_at : List ℕ → ℕ → ℕ → List ℕ → List SortId → ℕ → Stored
run_at ws n e ops ids depth = stored ws n e (steps ops (stack_of (trees ws n) ids depth) (sorts_of ws n e))

-- A checked list that begins with the fixed six, a stack of its numbers, and room on the stack for the steps that are
-- left.
pub record Running (ws : List ℕ) (n e : ℕ) (ops : List ℕ) (i : ℕ) (ids : List SortId) (depth : ℕ) : Type 0 where
  pub checked : Checked ws n e
  pub has_six : 6 ≤ n
  pub six : (k : ℕ) → k < 6 → look (trees ws n) k ≡ sixth k
  pub numbers : (d : ℕ) → d < depth → id_at ids d < n
  pub room : depth + (length ops - i) ≤ max_stack
  pub steps_left : Short (drop i ops)

-- the number of arguments that a function step takes
abbrev pub arguments_of : ℕ → ℕ
arguments_of op = op - function_step

-- what a step says
unfoldable pub SaysStep : ℕ → Step → Type 0
SaysStep op (Fixed id) = (op < 6) × (id.0 ≡ op)
SaysStep op (Container o) = (6 ≤ op) × (op < 11) × (o ≡ op_of (op - 6))
SaysStep op (Function k) = (11 ≤ op) × (k ≡ arguments_of op)

-- The sort on top of a stack of depth d is taken, and its depth is then l; or there was none.
abbrev pub TopTaken : List SortId → (d l : ℕ) → Option SortId → Type 0
TopTaken ids d l (Some id) = (d ≡ l + 1) × (id.0 ≡ id_at ids l)
TopTaken ids d l None = (d ≡ 0) × (l ≡ 0)

-- The words and counts that the steps of a sort have left, and the sort made; none where room ended, or where the stack
-- had not what a step takes.
abbrev pub MadeNone : Joined → Type 0
MadeNone (At s k) = ⊥
MadeNone (Nothing k) = Unit {0}
MadeNone Full = Unit {0}

abbrev pub RunLeft : List ℕ → Counts → Option SortId → Stored → Type 0
RunLeft ws k (Some s) w = stored_at ws (At s k) ≡ w
RunLeft ws k None w = (ws ≡ w.words) × MadeNone w.answer

-- The same where what was stored is given back when room ended.
abbrev pub made_at : List ℕ → Counts → Option SortId → WordsLeft
made_at ws k (Some s) = words_left ws (Ok (s, k))
made_at ws k None = words_left ws (Err NoRoom)

abbrev pub steps_stored : List ℕ → ℕ → ℕ → List ℕ → WordsLeft
steps_stored ws n e ops = let r : Stored = run_at ws n e ops [] 0 in stored_by ws n e r r.answer
