-- The number and the values of each answer of the solver, and both as one number for callers in other languages:
-- document 01's number in bits 0 to 7; under 0, 17 and 18 how many sorts there are in bits 8 to 23 and how many argument
-- entries in bits 24 to 39; under 0 how many components in bits 40 to 51 and how many choices in bits 52 to 63.
use Rattle.std.specs.Prelude.{List, [], ◌∷◌, ℕ, ◌≤◌, Ok, Err}
use Rattle.entry_answers.specs.Packing.{CodeAndValues, coded, packed, AnswerWithin}
use Rattle.resolved_sort.specs.declared.Counts.{Counts}
use Rattle.resolved_sort.specs.Storage.{max_sorts, max_entries}
use Rattle.resolved_sort.specs.Checks.{code_of}
use Rattle.inference.specs.declared.Verdict.{Verdict}
use Rattle.inference.specs.declared.Verdict.TheVariants.{NoTyping, Ambiguous, Typing}
use Rattle.inference.specs.Constraints.{max_constraints, max_components}
use Rattle.inference.specs.SolveEntry.{Solved, SolveLeft, code_solved}

-- the counts of sorts and entries after the call; of a typing its components and choices too
abbrev pub solved_values : Solved → List ℕ
solved_values (Err r) = []
solved_values (Ok (NoTyping k)) = k.sorts ∷ k.entries ∷ []
solved_values (Ok (Ambiguous k)) = k.sorts ∷ k.entries ∷ []
solved_values (Ok (Typing o)) = o.counts.sorts ∷ o.counts.entries ∷ o.components ∷ o.choices ∷ []

-- document 01's number, and these values
abbrev pub coded_solved : Solved → CodeAndValues
coded_solved r = coded (code_solved r) (solved_values r)

abbrev pub solved_widths : List ℕ
solved_widths = 16 ∷ 16 ∷ 12 ∷ 12 ∷ []

unfoldable pub pack_solved : Solved → ℕ
pack_solved r = packed solved_widths (coded_solved r)

-- the numbers that an answer has: a refusal is by a check, 1 to 14; no room is 15 or 16; counts are
-- within their ceilings
pub record CountsWithin (k : Counts) : Type 0 where
  pub sorts : k.sorts ≤ max_sorts
  pub entries : k.entries ≤ max_entries

abbrev pub VerdictWithin : Verdict → Type 0
VerdictWithin (NoTyping k) = CountsWithin k
VerdictWithin (Ambiguous k) = CountsWithin k
VerdictWithin (Typing o) = CountsWithin o.counts × (o.components ≤ max_components) × (o.choices ≤ max_constraints)

abbrev pub SolvedWithin : Solved → Type 0
SolvedWithin = AnswerWithin (λ r. (1 ≤ code_of r) × (code_of r ≤ 16)) VerdictWithin

-- the packed answer, and all lent memory
pub record PackedSolve : Type 0 where
  pub result : ℕ
  pub sorts : List ℕ
  pub nodes : List ℕ
  pub binds : List ℕ
  pub scratch : List ℕ
  pub index : List ℕ
  pub typing : List ℕ
  pub measure : List ℕ
  pub choices : List ℕ

abbrev pub packed_solve : ℕ → (sorts nodes binds scratch index typing measure choices : List ℕ) → PackedSolve
packed_solve r ws ns bs sc ix ts ms hs =
    record {
      result = r;
      sorts = ws;
      nodes = ns;
      binds = bs;
      scratch = sc;
      index = ix;
      typing = ts;
      measure = ms;
      choices = hs;
    }

abbrev pub pack_solve_left : SolveLeft → PackedSolve
pack_solve_left l =
    packed_solve (pack_solved l.answer) l.sorts l.nodes l.binds l.scratch l.index l.typing
    l.measure l.choices
