-- No word of the list's memory has two meanings: the rows of two tables lie apart, and so do the outputs, the scratch, the index and the
-- words behind them. Computed from the definitions. Assumes nothing.
use mathlib.Core.Path.{◌≡◌, refl}
use mathlib.Core.Bool.{true, not, ◌||◌}
use mathlib.Core.List.{List, [], ◌∷◌}
use Prim.Native.Nat.{ℕ, suc, ◌+◌, ◌*◌, ◌^◌, ◌<◌, ◌≤◌}
use native.Mathlib.Omega.{arith}
use lib.Dec.{ltb, leb}
use lib.ListN.{get_or}
use Rattle.std.specs.List.{list_all}
use Rattle.resolved_sort.specs.Index.{slots}
use Rattle.inference.specs.Constraints.{max_sources, max_components}
use Rattle.inference.specs.SolveChecks.{scratch_words}
use Rattle.list_memory.specs.declared.Table.{Table}
use Rattle.list_memory.specs.declared.Slice.{Slice}
use Rattle.list_memory.specs.Memory.{list_typing_words, list_choice_words, list_sources_at, list_typing_at, list_measure_at, list_choices_at, list_scratch_at}
use Rattle.list_memory.specs.Memory.{list_index_at}
use Rattle.list_memory.specs.Memory.{rows_at, most_rows, default_at, counts_at, counts_told_at, lent_at, lent_told_at, stage_at, last_at, memory_words}
use Rattle.list_memory.specs.Layouts.{table_number, slice_number, layout_of, list_row_at}

abbrev tables : List Table
tables =
    Table.Sorts ∷ Table.Entries ∷ Table.Nodes ∷ Table.NodeEntries ∷ Table.Vars ∷ Table.Exprs ∷ Table.Names ∷ Table.Constraints
    ∷ Table.Overloads ∷ Table.Sources ∷ []

-- behind the last row that a table keeps
abbrev end_of : Table → ℕ
end_of k = (layout_of k).start + (layout_of k).width * (layout_of k).ceiling

-- a table of a lower number ends before another begins
pub tables_lie_apart :
    list_all (λ (a : Table). list_all (λ (b : Table). not (ltb (table_number a) (table_number b)) || leb (end_of a) (layout_of b).start) tables) tables ≡ true
unfolding layout_of
tables_lie_apart = refl

-- each table is the one that its number names, and each slice too: so their words of counts and lengths are their own
pub table_is_that_of_its_number : (k : Table) → get_or tables (table_number k) Table.Sorts ≡ k
table_is_that_of_its_number Table.Sorts = refl
table_is_that_of_its_number Table.Entries = refl
table_is_that_of_its_number Table.Nodes = refl
table_is_that_of_its_number Table.NodeEntries = refl
table_is_that_of_its_number Table.Vars = refl
table_is_that_of_its_number Table.Exprs = refl
table_is_that_of_its_number Table.Names = refl
table_is_that_of_its_number Table.Constraints = refl
table_is_that_of_its_number Table.Overloads = refl
table_is_that_of_its_number Table.Sources = refl

abbrev slices : List Slice
slices =
    Slice.Sorts ∷ Slice.Nodes ∷ Slice.Bindings ∷ Slice.Exprs ∷ Slice.Names ∷ Slice.Constraints ∷ Slice.Overloads ∷ Slice.Sources
    ∷ Slice.Scratch ∷ Slice.Index ∷ Slice.Typing ∷ Slice.Measure ∷ Slice.Choices ∷ []

pub slice_is_that_of_its_number : (k : Slice) → get_or slices (slice_number k) Slice.Sorts ≡ k
slice_is_that_of_its_number Slice.Sorts = refl
slice_is_that_of_its_number Slice.Nodes = refl
slice_is_that_of_its_number Slice.Bindings = refl
slice_is_that_of_its_number Slice.Exprs = refl
slice_is_that_of_its_number Slice.Names = refl
slice_is_that_of_its_number Slice.Constraints = refl
slice_is_that_of_its_number Slice.Overloads = refl
slice_is_that_of_its_number Slice.Sources = refl
slice_is_that_of_its_number Slice.Scratch = refl
slice_is_that_of_its_number Slice.Index = refl
slice_is_that_of_its_number Slice.Typing = refl
slice_is_that_of_its_number Slice.Measure = refl
slice_is_that_of_its_number Slice.Choices = refl

-- and its rows follow one another
pub rows_follow_one_another : (k : Table) (n : ℕ) → list_row_at k (suc n) ≡ list_row_at k n + (layout_of k).width
unfolding layout_of
rows_follow_one_another Table.Sorts n = omega arith
rows_follow_one_another Table.Entries n = omega arith
rows_follow_one_another Table.Nodes n = omega arith
rows_follow_one_another Table.NodeEntries n = omega arith
rows_follow_one_another Table.Vars n = omega arith
rows_follow_one_another Table.Exprs n = omega arith
rows_follow_one_another Table.Names n = omega arith
rows_follow_one_another Table.Constraints n = omega arith
rows_follow_one_another Table.Overloads n = omega arith
rows_follow_one_another Table.Sources n = omega arith

-- behind the tables the outputs, the scratch and the index
pub outputs_lie_apart :
    (list_sources_at + max_sources ≤ list_typing_at) × (list_typing_at + list_typing_words ≤ list_measure_at)
    × (list_measure_at + max_components ≤ list_choices_at) × (list_choices_at + list_choice_words ≤ list_scratch_at)
    × (list_scratch_at + scratch_words ≤ list_index_at) × (list_index_at + slots ≤ rows_at)
outputs_lie_apart = (omega arith, omega arith, omega arith, omega arith, omega arith, omega arith)

-- and behind them what the lines told besides: a word for each of ten tables or thirteen slices, or one
pub told_words_lie_apart :
    (rows_at + 10 ≤ default_at) × (default_at < counts_at) × (counts_at + 10 ≤ counts_told_at) × (counts_told_at + 10 ≤ lent_at)
    × (lent_at + 13 ≤ lent_told_at) × (lent_told_at + 13 ≤ stage_at) × (stage_at < last_at) × (last_at < memory_words)
told_words_lie_apart = (omega arith, omega arith, omega arith, omega arith, omega arith, omega arith, omega arith, omega arith)

-- five words behind the last are free
pub five_words_are_free : last_at + 6 ≡ memory_words
five_words_are_free = omega arith

-- rows are counted as far as a word goes
pub rows_are_counted_as_far_as_a_word_goes : most_rows + 1 ≡ 2 ^ 16
rows_are_counted_as_far_as_a_word_goes = omega arith
