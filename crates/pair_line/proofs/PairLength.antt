-- The line that a pair prints has at most 815 bytes, whatever the two lines are: the texts of join and meet by their bounds, and the
-- rest by its clauses. Assumes nothing.
use mathlib.Core.Path.{◌≡◌, refl}
use mathlib.Core.Bool.{Bool, true, false, cond}
use mathlib.Core.List.{List, [], ◌∷◌}
use mathlib.Core.Option.{Option, none, some}
use Prim.Native.Nat.{ℕ, ◌+◌, ◌≤◌, ◌/◌, ◌%◌}
use native.Mathlib.Omega.{arith}
use lib.ListN.{length, length-append}
use lib.Dec.{ltb}
use borrow.Author.Tests.{leb-true}
use Rattle.resolved_sort.specs.Tree.{Tree}
use Rattle.resolved_sort.specs.Order.{bound, Steps, distance, materializable}
use Rattle.sort_text.specs.Parse.{Parsed, parsed, stuck, line, left}
use Rattle.sort_text.specs.Reading.{short_line}
use Rattle.pair_line.specs.PairProgram.{small_decimal, sort_or_none, steps_or_none, yes_or_no, answer, Line, good}
use Rattle.pair_line.specs.PairProgram.{wrong, read, line_of, with_first, with_second, single, pair}
use Rattle.sort_text.proofs.Suffix.{suffix_length, line_suffix}
use Rattle.sort_text.proofs.Length.{wide, text_length, bound_wide, line_wide}

decimal_by : (a b : Bool) (n : ℕ) → length (cond a ((48 + n) ∷ []) (cond b ((48 + n / 10) ∷ (48 + n % 10) ∷ [])
    ((48 + n / 100) ∷ (48 + n / 10 % 10) ∷ (48 + n % 10) ∷ []))) ≤ 3
decimal_by true b n = omega arith
decimal_by false true n = omega arith
decimal_by false false n = omega arith

pub decimal_length : (n : ℕ) → length (small_decimal n) ≤ 3
unfolding small_decimal
decimal_length n = decimal_by (ltb n 10) (ltb n 100) n

steps_length : (d : Option Steps) → length (steps_or_none d) ≤ 7
steps_length none = omega arith
steps_length (some d) = simp length-append (omega (arith, decimal_length d.head, decimal_length d.interior))

yes_length : (b : Bool) → length (yes_or_no b) ≤ 3
yes_length true = omega arith
yes_length false = omega arith

bound_length : (up : Bool) (s t : Tree) (n : ℕ) → wide s ≤ n → 4 ≤ n → length (sort_or_none (bound up s t)) ≤ n
bound_length up s t n h k = go (bound up s t) refl
  where
    go : (x : Option Tree) → bound up s t ≡ x → length (sort_or_none x) ≤ n
    go none e = k
    go (some u) e = omega (arith, text_length u, bound_wide up s t u e)

pub answer_length : (s t : Tree) → wide s ≤ 398 → length (answer s t) ≤ 815
unfolding answer
answer_length s t h =
    simp length-append (omega (
      arith,
      bound_length true s t 398 h (omega arith),
      bound_length false s t 398 h
          (omega arith),
      steps_length (distance true s t),
      yes_length (materializable s t),
    ))

-- what a line prints, or the width of its sort
abbrev Small : Line → Type 0
Small (good t) = wide t ≤ 398
Small (wrong bs) = length bs ≤ 203

read_small : (bs : List ℕ) (p : Parsed) → line bs ≡ p → length (left p) ≤ length bs → length bs ≤ 200 → Small (read p)
read_small bs (parsed t cs) e h l = omega (arith, line_wide bs cs t e)
read_small bs (stuck cs) e h l = omega arith

line_by : (bs : List ℕ) (b : Bool) → short_line bs ≡ b → Small (cond b (read (line bs)) (wrong (49 ∷ 57 ∷ [])))
unfolding short_line
line_by bs true e = read_small bs (line bs) refl (suffix_length (left (line bs)) bs (line_suffix bs)) (leb-true (length bs) 200 e)
line_by bs false e = omega arith

line_small : (bs : List ℕ) → Small (line_of bs)
unfolding line_of
line_small bs = line_by bs (short_line bs) refl

second_length : (s : Tree) (l : Line) → wide s ≤ 398 → Small l → length (with_second s l) ≤ 815
second_length s (good t) h k = answer_length s t h
second_length s (wrong bs) h k = omega arith

first_length : (l m : Line) → Small l → Small m → length (with_first l m) ≤ 815
first_length (good s) m h k = second_length s m h k
first_length (wrong bs) m h k = omega arith

-- The line that a pair prints, and the line of a single line, without LF.
pub pair_length : (first second : List ℕ) → length (pair first second) ≤ 815
unfolding pair
pair_length first second = first_length (line_of first) (line_of second) (line_small first) (line_small second)

single_by : (l : Line) → Small l → length (single l) ≤ 203
single_by (good t) h = omega arith
single_by (wrong bs) h = omega (arith, h)

pub single_length : (l : List ℕ) → length (single (line_of l)) ≤ 203
single_length l = single_by (line_of l) (line_small l)
