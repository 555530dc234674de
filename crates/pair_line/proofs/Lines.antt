-- What a line comes to, by its length and by what it reads as. By the clauses of `line_of`. Assumes nothing.
use mathlib.Core.Path.{◌≡◌, ◌∙◌, ap}
use mathlib.Core.Bool.{cond}
use mathlib.Core.List.{List, [], ◌∷◌}
use Prim.Native.Nat.{ℕ, ◌<◌, ◌≤◌}
use lib.ListN.{length}
use borrow.Author.Tests.{le-leb, lt-leb}
use Rattle.resolved_sort.specs.Tree.{Tree}
use Rattle.sort_text.specs.Parse.{parsed, stuck, line}
use Rattle.sort_text.specs.Reading.{short_line}
use Rattle.pair_line.specs.PairProgram.{good, wrong, read, line_of}

pub line_long : (bs : List ℕ) → 200 < length bs → line_of bs ≡ wrong (49 ∷ 57 ∷ [])
unfolding line_of short_line
line_long bs h = ap (λ b. cond b (read (line bs)) (wrong (49 ∷ 57 ∷ []))) (lt-leb (length bs) 200 h)

line_short : (bs : List ℕ) → length bs ≤ 200 → line_of bs ≡ read (line bs)
unfolding line_of short_line
line_short bs h = ap (λ b. cond b (read (line bs)) (wrong (49 ∷ 57 ∷ []))) (le-leb (length bs) 200 h)

pub line_good : (bs cs : List ℕ) (t : Tree) → length bs ≤ 200 → line bs ≡ parsed t cs → line_of bs ≡ good t
line_good bs cs t h e = line_short bs h ∙ ap read e

pub line_wrong : (bs cs : List ℕ) → length bs ≤ 200 → line bs ≡ stuck cs → line_of bs ≡ wrong (50 ∷ 48 ∷ 58 ∷ cs)
line_wrong bs cs h e = line_short bs h ∙ ap read e
