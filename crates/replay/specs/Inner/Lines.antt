-- What a line of the recorded answers says, and what comes of it.
use Rattle.std.specs.Prelude.{Bool, true, false, cond, List, [], ◌∷◌, ℕ, ◌+◌, ltb, eqb, set}
use Rattle.words.specs.Inner.Bits.{most_word}
use Rattle.replay.specs.declared.Verdict.{Verdict}
use Rattle.replay.specs.declared.Verdict.TheVariants.{Quiet, Agrees, Differs, BindsOther, LeavesOther, NotOfForm}
use Rattle.replay.specs.declared.Tally.{Tally}

-- how many words of a list a line gives at most, and words far enough from the largest number for sums not to wrap
abbrev pub max_words : ℕ
max_words = 16

abbrev pub near_enough : ℕ
near_enough = 1048576

-- the largest number of 64 bits
abbrev pub most_count : ℕ
most_count = 18446744073709551615

-- words, and whether all numbers were words
pub record WordsKept : Type 0 where
  pub words : List ℕ
  pub all : Bool

abbrev pub words_kept : List ℕ → Bool → WordsKept
words_kept ws b = record { words = ws; all = b }

-- numbers stored from a word on, up to the first that is no word
unfoldable pub store_from : List ℕ → ℕ → List ℕ → WordsKept
store_from ws at [] = words_kept ws true
store_from ws at (v ∷ vs) = cond (ltb most_word v) (words_kept ws false) (store_from (set ws at v) (at + 1) vs)

abbrev pub verdict_of : ℕ → ℕ → Verdict
verdict_of got expected = cond (eqb got expected) Agrees (Differs got)

-- one more, up to the largest number
unfoldable pub one_more : ℕ → ℕ
one_more n = cond (ltb n most_count) (n + 1) n

-- the counts after an answer that differs
abbrev pub differing : Tally → Tally
differing t =
    record { lines = one_more t.lines; questions = one_more t.questions; differ = one_more t.differ }

-- the counts after a line
unfoldable pub counted_of : Tally → Verdict → Tally
counted_of t Quiet = record { lines = one_more t.lines; questions = t.questions; differ = t.differ }
counted_of t Agrees =
    record { lines = one_more t.lines; questions = one_more t.questions; differ = t.differ }
counted_of t (Differs got) = differing t
counted_of t (BindsOther variable) = differing t
counted_of t (LeavesOther word) = differing t
counted_of t NotOfForm =
    record { lines = one_more t.lines; questions = t.questions; differ = one_more t.differ }
