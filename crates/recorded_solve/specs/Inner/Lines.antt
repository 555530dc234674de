-- What a line of the recorded answers says, and what comes of it.
use Rattle.std.specs.Prelude.{Bool, cond, List, [], ◌∷◌, ℕ, ◌+◌, ◌*◌, ◌-◌, ltb, eqb, length, get_or, drop, replicate, Option, Some, None}
use Prim.Native.Char.{code}
use Rattle.words.specs.Inner.Bits.{most_word}
use Rattle.words.specs.Bits.{bit8, bit24, bit40, bit52}
use Rattle.replay.specs.declared.Verdict.{Verdict}
use Rattle.replay.specs.declared.Verdict.TheVariants.{Quiet, Agrees, LeavesOther, NotOfForm}
use Rattle.replay.specs.Inner.Lines.{WordsKept, store_from, verdict_of}
use Rattle.recorded_solve.specs.declared.Letter.{Letter}
use Rattle.recorded_solve.specs.declared.Letter.TheVariants.{List as NewList, Gives, Asks, Left, Other}
use Rattle.recorded_solve.specs.declared.RecordedSolve.{RecordedSolve}
use Rattle.recorded_solve.specs.Inner.Outcome.{solved}
use Rattle.recorded_solve.specs.Inner.Slices.{held_counts_at, slice_start, last_slice, call_held, left_held}

-- how many counts a list has, all words held, and the largest code and count of what is handed out that
-- a packed answer has
abbrev pub counts : ℕ
counts = 11

abbrev pub held_words : ℕ
held_words = 36107

abbrev pub most_code : ℕ
most_code = 255

abbrev pub most_handed : ℕ
most_handed = 4095

unfoldable pub letter_of : ℕ → Letter
letter_of b =
    cond (eqb b (code "L")) NewList
    (cond (eqb b (code "S")) Gives
    (cond (eqb b (code "Q")) Asks
    (cond (eqb b (code "X")) Left Other)))

-- where the words of a line stand, after the number of a slice and of a word of it, if they are inside the slice
unfoldable pub start_in : List ℕ → Option ℕ
start_in ns =
    cond (ltb (length ns) 2) None
    (cond (ltb last_slice (get_or ns 0 0)) None
    (cond (ltb held_counts_at (get_or ns 1 0)) None
    (cond (ltb (slice_start (get_or ns 0 0 + 1)) (slice_start (get_or ns 0 0) + get_or ns 1 0 + (length ns - 2))) None
    (Some (slice_start (get_or ns 0 0) + get_or ns 1 0)))))

abbrev pub quiet_if : Bool → Verdict
quiet_if all = cond all Quiet NotOfForm

-- words given
abbrev pub with_given : RecordedSolve → WordsKept → RecordedSolve × Verdict
with_given s k = (record s { given = k.words }, quiet_if k.all)

unfoldable pub no_words : List ℕ
no_words = replicate held_words 0

abbrev pub solve_started : RecordedSolve
solve_started = record { given = replicate held_words 0; left = replicate held_words 0 }

-- a new list: all words are zero but its counts
unfoldable pub begin_line : RecordedSolve → List ℕ → RecordedSolve × Verdict
begin_line s ns = cond (eqb (length ns) counts) (with_given s (store_from no_words held_counts_at ns)) (s, NotOfForm)

unfoldable pub given_at : RecordedSolve → List ℕ → Option ℕ → RecordedSolve × Verdict
given_at s vs None = (s, NotOfForm)
given_at s vs (Some start) = with_given s (store_from s.given start vs)

abbrev pub give_line : RecordedSolve → List ℕ → RecordedSolve × Verdict
give_line s ns = given_at s (drop 2 ns) (start_in ns)

-- words compared with numbers: all agree, or the first that is another
unfoldable pub compared_from : List ℕ → ℕ → List ℕ → Verdict
compared_from ws at [] = Agrees
compared_from ws at (v ∷ vs) = cond (eqb (get_or ws at 0) v) (compared_from ws (at + 1) vs) (LeavesOther (get_or ws at 0))

-- words that were left
unfoldable pub compared_at : List ℕ → List ℕ → Option ℕ → Verdict
compared_at ws vs None = NotOfForm
compared_at ws vs (Some start) = compared_from ws start vs

abbrev pub compare_line : RecordedSolve → List ℕ → Verdict
compare_line s ns = compared_at s.left (drop 2 ns) (start_in ns)

-- The packed answer of a line: its code, and the numbers of sorts, entries, components and choices.
unfoldable pub recorded_of : List ℕ → Option ℕ
recorded_of vs =
    cond (ltb most_code (get_or vs 0 0)) None
    (cond (ltb most_word (get_or vs 1 0)) None
    (cond (ltb most_word (get_or vs 2 0)) None
    (cond (ltb most_handed (get_or vs 3 0)) None
    (cond (ltb most_handed (get_or vs 4 0)) None
    (Some (get_or vs 0 0 + bit8 * get_or vs 1 0 + bit24 * get_or vs 2 0 + bit40 * get_or vs 3 0 + bit52 * get_or vs 4 0))))))

-- the words left by a question, and its packed answer
pub record Reply : Type 0 where
  pub words : List ℕ
  pub answer : ℕ

abbrev pub reply : List ℕ → ℕ → Reply
reply ws r = record { words = ws; answer = r }

unfoldable pub ask_of : List ℕ → Reply
ask_of ws = reply (left_held ws (solved (call_held ws))) (solved (call_held ws)).result

abbrev pub answered_by : RecordedSolve → Reply → ℕ → RecordedSolve × Verdict
answered_by s a expected = (record s { left = a.words }, verdict_of a.answer expected)

unfoldable pub judged_reply : RecordedSolve → Option ℕ → Reply → RecordedSolve × Verdict
judged_reply s None a = (s, NotOfForm)
judged_reply s (Some expected) a = answered_by s a expected

-- a question about the words given, and what it is recorded to answer
unfoldable pub ask_line : RecordedSolve → List ℕ → RecordedSolve × Verdict
ask_line s ns = cond (eqb (length ns) 5) (judged_reply s (recorded_of ns) (ask_of s.given)) (s, NotOfForm)

-- by the letter of a line
unfoldable pub by_letter : Letter → RecordedSolve → List ℕ → RecordedSolve × Verdict
by_letter NewList s ns = begin_line s ns
by_letter Gives s ns = give_line s ns
by_letter Asks s ns = ask_line s ns
by_letter Left s ns = (s, compare_line s ns)
by_letter Other s ns = (s, NotOfForm)
