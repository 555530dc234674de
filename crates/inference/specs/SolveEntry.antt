-- The solver's outcome for every call: the first failing check, or what the search comes to, with
-- all lent memory as it is then.
use Rattle.std.specs.Prelude.{◌≡◌, ◌⊎◌, Bool, true, false, cond, List, [], ◌∷◌, ◌++◌, ℕ, ◌+◌, ◌*◌, eqb, Result, Ok}
use Rattle.std.specs.Prelude.{Err, length, get_or, take, drop}
use Rattle.std.proofs.Math.Option.{Option, none, some}
use Rattle.resolved_sort.specs.declared.Counts.{Counts}
use Rattle.resolved_sort.specs.declared.Refusal.{Refusal}
use Rattle.resolved_sort.specs.declared.Refusal.TheVariants.{SortsFull, NodesFull}
use Rattle.resolved_sort.specs.Storage.{row_words, given_back}
use Rattle.words.specs.Words.{zeros, cleared}
use Rattle.resolved_sort.specs.Checks.{first_failing, code_of}
use Rattle.resolved_sort.specs.Entries.{refused_or}
use Rattle.unification.specs.Nodes.{node_entries_at, binds_of}
use Rattle.unification.specs.Making.{Lent}
use Rattle.inference.specs.declared.Outputs.{Outputs}
use Rattle.inference.specs.declared.Verdict.{Verdict}
use Rattle.inference.specs.declared.Verdict.TheVariants.{NoTyping, Ambiguous, Typing}
use Rattle.inference.specs.Constraints.{overload_at, BaseName, base_name_at, rows_from, Problem}
use Rattle.inference.specs.Measure.{Components}
use Rattle.inference.specs.Search.{Choice, Path, Candidate, Out, found, missed, ended, solve}
use Rattle.inference.specs.Names.{name_of, name_kind, name_sort}
use Rattle.inference.specs.SolveChecks.{Call, typing_words, choice_words, given, solve_checks}
use Rattle.inference.specs.Rising.{rising}

-- the words of a list in use, one by one
abbrev pub words_in_use : List ℕ → ℕ → List ℕ
words_in_use xs n = rows_from (λ i. get_or xs i 0) 0 n

abbrev pub problem_of : Call → Problem
problem_of I =
    record {
      constraints = given I;
      overloads = rows_from (overload_at I.overloads) 0 I.rows.overloads;
      sources = words_in_use I.sources I.rows.sources;
      exprs = words_in_use I.exprs I.rows.exprs;
      default = I.default;
    }

abbrev pub base_names_of : Call → List BaseName
base_names_of I = rows_from (base_name_at I.names) 0 I.rows.names

-- where the search begins: the bindings given, no component, no choice, no incumbent
abbrev pub start_path : Call → Path
start_path I = record { binds = binds_of I.binds I.lengths.variables; measure = []; choices = [] }

abbrev pub lent_of : Call → Lent
lent_of I = record { sorts = I.sorts; nodes = I.nodes; lengths = I.lengths }

-- with Met and meet for what is kept of the leaves
abbrev pub searched : (Met : Type 0) → (Path → Lent → Met → Met) → Met → Call → Out Met
searched Met meet m I =
    solve Met meet (problem_of I) (given I) (start_path I) (record { lent = lent_of I; best = none; met = m })

-- What a call answers: the verdict of its search, or why there is none: the first failing check, or the room that ended.
abbrev pub Solved : Type 0
Solved = Result Verdict Refusal

-- What a call leaves: its answer, and all lent memory.
pub record SolveLeft : Type 0 where
  pub answer : Solved
  pub sorts : List ℕ
  pub nodes : List ℕ
  pub binds : List ℕ
  pub scratch : List ℕ
  pub index : List ℕ
  pub typing : List ℕ
  pub measure : List ℕ
  pub choices : List ℕ

-- "Scratch is zero after 15 to 18 and 0", "node rows past the entry length zero", "bindings as at entry"; and of the
-- index, which is scratch of its own: "zero after each call that passes its checks"
unfoldable pub nodes_given_back : ℕ → ℕ → List ℕ → List ℕ
nodes_given_back m d ns = zeros (node_entries_at + d) (length ns) (zeros (row_words * m) node_entries_at ns)

abbrev pub left_with : Call → Solved → List ℕ → List ℕ → List ℕ → List ℕ → SolveLeft
left_with I r ws ts ms cs =
    record {
      answer = r;
      sorts = ws;
      nodes = nodes_given_back I.lengths.nodes I.lengths.arguments I.nodes;
      binds = I.binds;
      scratch = cleared I.scratch;
      index = cleared I.index;
      typing = ts;
      measure = ms;
      choices = cs;
    }

-- "1 to 14 .. change no lent memory"
abbrev pub refused : Call → Refusal → SolveLeft
refused I c =
    record {
      answer = Err c;
      sorts = I.sorts;
      nodes = I.nodes;
      binds = I.binds;
      scratch = I.scratch;
      index = I.index;
      typing = I.typing;
      measure = I.measure;
      choices = I.choices;
    }

-- the rows of expressions: sort, kind of name, sort of name
unfoldable pub typing_rows : Problem → List BaseName → List Choice → ℕ → List ℕ → List ℕ
typing_rows P bs cs x [] = []
typing_rows P bs cs x (s ∷ ss) =
    s ∷ name_kind (name_of P bs cs x) ∷ name_sort (name_of P bs cs x) ∷ typing_rows P bs cs (x + 1) ss

-- the rows of choices: expression and position
unfoldable pub choice_rows : List Choice → List ℕ
choice_rows [] = []
choice_rows (k ∷ ks) = k.expr ∷ k.position ∷ choice_rows ks

-- "0 leaves output rows past its counts untouched"
abbrev pub written_over : List ℕ → List ℕ → List ℕ
written_over xs old = xs ++ drop (length xs) old

abbrev pub counts_in : Lent → Counts
counts_in W = record { sorts = W.lengths.sorts; entries = W.lengths.entries }

-- C-15: "rising expression number". There are as many rows as choices (`length_rising`, by check 9).
abbrev pub typed : Call → Lent → Candidate → SolveLeft
typed I W c =
    left_with I
    (Ok (Typing (record { counts = counts_in W; components = length c.measure; choices = length c.choices })))
    W.sorts
    (written_over (typing_rows (problem_of I) (base_names_of I) c.choices 0 c.sorts) I.typing)
    (written_over c.measure I.measure)
    (written_over (choice_rows (rising (problem_of I) c.choices)) I.choices)

abbrev pub judged_by : Call → Lent → Candidate → Bool → SolveLeft
judged_by I W c true = left_with I (Ok (Ambiguous (counts_in W))) W.sorts I.typing I.measure I.choices
judged_by I W c false = typed I W c

-- "0, 17 and 18 keep new sorts in order of first making .. 17 and 18 leave outputs untouched"
abbrev pub judged : Call → Lent → Option Candidate → SolveLeft
judged I W none = left_with I (Ok (NoTyping (counts_in W))) W.sorts I.typing I.measure I.choices
judged I W (some c) = judged_by I W c c.duplicate

-- the refusal of a search whose room ended, by its number
unfoldable pub room_refusal : ℕ → Refusal
room_refusal c = cond (eqb c 15) SortsFull NodesFull

-- "15 and 16 give back sorts and nodes: rows past the entry lengths are zero, bindings as at entry, outputs untouched."
abbrev pub verdict : {Met : Type 0} → Call → Out Met → SolveLeft
verdict I (found w) = judged I w.lent w.best
verdict I (missed w) = judged I w.lent w.best
verdict I (ended c W) =
    left_with I (Err (room_refusal c)) (given_back I.lengths.sorts I.lengths.entries I.sorts) I.typing
    I.measure I.choices

abbrev pub nothing_met : Path → Lent → Unit {0} → Unit {0}
nothing_met e W u = tt

unfoldable pub solve_entry : Call → SolveLeft
solve_entry I =
    refused_or (first_failing (solve_checks I)) (refused I) (verdict I (searched (Unit {0}) nothing_met tt I))

-- document 01's number of each answer
unfoldable pub code_solved : Solved → ℕ
code_solved (Err r) = code_of r
code_solved (Ok (NoTyping k)) = 17
code_solved (Ok (Ambiguous k)) = 18
code_solved (Ok (Typing o)) = 0

-- What a caller reads of a typing: the sorts and names of the expressions, the measure, and the choices.
abbrev pub sorts_out : Call → SolveLeft → List ℕ
sorts_out I L = rows_from (λ i. get_or L.typing (typing_words * i) 0) 0 I.rows.exprs

abbrev pub measure_out : SolveLeft → Outputs → Components
measure_out L o = take o.components L.measure

abbrev pub choice_at : List ℕ → ℕ → Choice
choice_at ws i = record { expr = get_or ws (choice_words * i) 0; position = get_or ws (choice_words * i + 1) 0 }

abbrev pub choices_out : SolveLeft → Outputs → List Choice
choices_out L o = rows_from (choice_at L.choices) 0 o.choices

-- a typing, or no room for a sort
abbrev pub TypingOr15 : Solved → Type 0
TypingOr15 r = ((o : Outputs) × (r ≡ Ok (Typing o))) ⊎ (r ≡ Err SortsFull)
