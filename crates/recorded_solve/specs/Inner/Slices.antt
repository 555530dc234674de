-- The slices of a list for the solver, one after another in the words held, and after them its counts.
use Rattle.std.specs.Prelude.{List, [], ◌∷◌, ℕ, ◌+◌, ◌-◌, get_or}
use Rattle.std.proofs.lemmas.List.Edits.{sets}
use Rattle.inference.specs.SolveChecks.{Call}
use Rattle.words.specs.Words.{part}
use Rattle.solve_checks.specs.declared.Given.{Given}
use Rattle.solve_outputs.specs.Packed.{PackedSolve, packed_solve}
use Rattle.recorded_solve.specs.declared.Slice.{Slice}
use Rattle.recorded_solve.specs.declared.Count.{Count}
use Rattle.recorded_solve.specs.declared.Slices.{Slices}

-- Where each slice starts: sorts, nodes, bindings, places of expressions, base names, constraints, overloads, sources,
-- typing, measure, choices, scratch, index; and where the counts start.
abbrev pub held_nodes_at : ℕ
held_nodes_at = 8192

abbrev pub held_binds_at : ℕ
held_binds_at = 20480

abbrev pub held_exprs_at : ℕ
held_exprs_at = 20992

abbrev pub held_names_at : ℕ
held_names_at = 21504

abbrev pub held_constraints_at : ℕ
held_constraints_at = 23040

abbrev pub held_overloads_at : ℕ
held_overloads_at = 24320

abbrev pub held_sources_at : ℕ
held_sources_at = 27392

abbrev pub held_typing_at : ℕ
held_typing_at = 27648

abbrev pub held_measure_at : ℕ
held_measure_at = 29184

abbrev pub held_choices_at : ℕ
held_choices_at = 29440

abbrev pub held_scratch_at : ℕ
held_scratch_at = 29952

abbrev pub held_index_at : ℕ
held_index_at = 34048

abbrev pub held_counts_at : ℕ
held_counts_at = 36096

abbrev pub slice_starts : List ℕ
slice_starts =
    0 ∷ held_nodes_at ∷ held_binds_at ∷ held_exprs_at ∷ held_names_at ∷ held_constraints_at ∷ held_overloads_at ∷ held_sources_at
    ∷ held_typing_at ∷ held_measure_at
    ∷ held_choices_at ∷ held_scratch_at ∷ held_index_at ∷ held_counts_at ∷ []

unfoldable pub slice_start : ℕ → ℕ
slice_start k = get_or slice_starts k 0

-- the slices by the number that a line says, and the last one
abbrev pub slice_number : Slice → ℕ
slice_number Slice.Sorts = 0
slice_number Slice.Nodes = 1
slice_number Slice.Bindings = 2
slice_number Slice.Exprs = 3
slice_number Slice.Names = 4
slice_number Slice.Constraints = 5
slice_number Slice.Overloads = 6
slice_number Slice.Sources = 7
slice_number Slice.Typing = 8
slice_number Slice.Measure = 9
slice_number Slice.Choices = 10
slice_number Slice.Scratch = 11
slice_number Slice.Index = 12

abbrev pub last_slice : ℕ
last_slice = 12

abbrev pub slice_of : ℕ → List ℕ → List ℕ
slice_of k ws = part (slice_start k) (slice_start (k + 1) - slice_start k) ws

-- the counts by their order
abbrev pub count_number : Count → ℕ
count_number Count.Sorts = 0
count_number Count.Entries = 1
count_number Count.Nodes = 2
count_number Count.Arguments = 3
count_number Count.Variables = 4
count_number Count.Exprs = 5
count_number Count.Names = 6
count_number Count.Constraints = 7
count_number Count.Overloads = 8
count_number Count.Sources = 9

abbrev pub count_held : List ℕ → ℕ → ℕ
count_held ws i = get_or ws (held_counts_at + i) 0

abbrev pub counts_held : List ℕ → Given
counts_held ws =
    record {
      sorts = count_held ws 0;
      entries = count_held ws 1;
      nodes = count_held ws 2;
      arguments = count_held ws 3;
      variables = count_held ws 4;
      exprs = count_held ws 5;
      names = count_held ws 6;
      constraints = count_held ws 7;
      overloads = count_held ws 8;
      sources = count_held ws 9;
      default = record { 0 = count_held ws 10 };
    }

-- a call about words held, with the slices that it may change
abbrev pub call_held_with : List ℕ → Given → (sorts nodes binds scratch index typing measure choices : List ℕ) → Call
call_held_with ws k ss ns bs xs ix ts ms cs =
    record {
      sorts = ss;
      nodes = ns;
      binds = bs;
      lengths =
          record {
            sorts = k.sorts;
            entries = k.entries;
            nodes = k.nodes;
            arguments = k.arguments;
            variables = k.variables;
          };
      exprs = slice_of 3 ws;
      names = slice_of 4 ws;
      constraints = slice_of 5 ws;
      overloads = slice_of 6 ws;
      sources = slice_of 7 ws;
      rows =
          record {
            exprs = k.exprs;
            names = k.names;
            constraints = k.constraints;
            overloads = k.overloads;
            sources = k.sources;
          };
      default = k.default.0;
      scratch = xs;
      index = ix;
      typing = ts;
      measure = ms;
      choices = cs;
    }

abbrev pub call_held : List ℕ → Call
call_held ws =
    call_held_with ws (counts_held ws) (slice_of 0 ws) (slice_of 1 ws) (slice_of 2 ws) (slice_of 11 ws) (slice_of 12 ws)
    (slice_of 8 ws) (slice_of 9 ws) (slice_of 10 ws)

-- words held, with other slices in the places of those that a call may change
abbrev pub kept_in : List ℕ → (sorts nodes binds scratch index typing measure choices : List ℕ) → List ℕ
kept_in ws ss ns bs xs ix ts ms cs =
    sets (sets (sets (sets (sets (sets (sets (sets ws 0 ss) held_nodes_at ns) held_binds_at bs) held_scratch_at xs) held_index_at ix)
    held_typing_at ts) held_measure_at ms) held_choices_at cs

abbrev pub left_held : List ℕ → PackedSolve → List ℕ
left_held ws p = kept_in ws p.sorts p.nodes p.binds p.scratch p.index p.typing p.measure p.choices

-- the slices that a call may change, as one
abbrev pub slices_held : List ℕ → Slices
slices_held ws =
    record {
      sorts = slice_of 0 ws;
      nodes = slice_of 1 ws;
      binds = slice_of 2 ws;
      scratch = slice_of 11 ws;
      index = slice_of 12 ws;
      typing = slice_of 8 ws;
      measure = slice_of 9 ws;
      choices = slice_of 10 ws;
    }

abbrev pub call_held_in : List ℕ → Slices → Call
call_held_in ws s = call_held_with ws (counts_held ws) s.sorts s.nodes s.binds s.scratch s.index s.typing s.measure s.choices

abbrev pub packed_of : Slices → ℕ → PackedSolve
packed_of s r = packed_solve r s.sorts s.nodes s.binds s.scratch s.index s.typing s.measure s.choices

abbrev pub slices_kept : List ℕ → Slices → List ℕ
slices_kept ws s = kept_in ws s.sorts s.nodes s.binds s.scratch s.index s.typing s.measure s.choices
