-- A list as it is being read: the slices of a call at their ceilings, one behind the other, then what the lines told
-- besides.
use Rattle.std.specs.Prelude.{List, ℕ, ◌+◌, ◌*◌, get_or, Result}
use Rattle.resolved_sort.specs.Storage.{full_length}
use Rattle.resolved_sort.specs.Index.{slots}
use Rattle.unification.specs.Nodes.{max_vars, full_nodes}
use Rattle.inference.specs.Constraints.{max_exprs, max_constraints, max_overloads, max_sources, max_components}
use Rattle.inference.specs.Constraints.{constraint_words, overload_words, name_words}
use Rattle.inference.specs.SolveChecks.{scratch_words, typing_words, choice_words}
use Rattle.list_memory.specs.declared.Form.{Form}
use Rattle.list_memory.specs.declared.Heard.{Heard}

-- the program holds so many base names
abbrev pub max_names : ℕ
max_names = 512

-- how many words the slices have at their ceilings, where that is not the ceiling itself
abbrev pub list_name_words : ℕ
list_name_words = name_words * max_names

abbrev pub list_constraint_words : ℕ
list_constraint_words = constraint_words * max_constraints

abbrev pub list_overload_words : ℕ
list_overload_words = overload_words * max_overloads

abbrev pub list_typing_words : ℕ
list_typing_words = typing_words * max_exprs

abbrev pub list_choice_words : ℕ
list_choice_words = choice_words * max_constraints

-- where the slices begin
abbrev pub list_sorts_at : ℕ
list_sorts_at = 0

abbrev pub list_nodes_at : ℕ
list_nodes_at = list_sorts_at + full_length

abbrev pub list_binds_at : ℕ
list_binds_at = list_nodes_at + full_nodes

abbrev pub list_exprs_at : ℕ
list_exprs_at = list_binds_at + max_vars

abbrev pub list_names_at : ℕ
list_names_at = list_exprs_at + max_exprs

abbrev pub list_constraints_at : ℕ
list_constraints_at = list_names_at + list_name_words

abbrev pub list_overloads_at : ℕ
list_overloads_at = list_constraints_at + list_constraint_words

abbrev pub list_sources_at : ℕ
list_sources_at = list_overloads_at + list_overload_words

abbrev pub list_typing_at : ℕ
list_typing_at = list_sources_at + max_sources

abbrev pub list_measure_at : ℕ
list_measure_at = list_typing_at + list_typing_words

abbrev pub list_choices_at : ℕ
list_choices_at = list_measure_at + max_components

abbrev pub list_scratch_at : ℕ
list_scratch_at = list_choices_at + list_choice_words

abbrev pub list_index_at : ℕ
list_index_at = list_scratch_at + scratch_words

-- the lists by number
abbrev pub sort_list : ℕ
sort_list = 0

abbrev pub entry_list : ℕ
entry_list = 1

abbrev pub node_list : ℕ
node_list = 2

abbrev pub node_entry_list : ℕ
node_entry_list = 3

abbrev pub var_list : ℕ
var_list = 4

abbrev pub expr_list : ℕ
expr_list = 5

abbrev pub name_list : ℕ
name_list = 6

abbrev pub constraint_list : ℕ
constraint_list = 7

abbrev pub overload_list : ℕ
overload_list = 8

abbrev pub source_list : ℕ
source_list = 9

-- rows given of list k: one word for each list, which stops at most_rows
abbrev pub rows_at : ℕ
rows_at = list_index_at + slots

abbrev pub most_rows : ℕ
most_rows = 65535

abbrev pub rows_given : List ℕ → ℕ → ℕ
rows_given ws k = get_or ws (rows_at + k) 0

-- the default sort
abbrev pub default_at : ℕ
default_at = rows_at + 10

-- the count that a `count` line tells of list k, and 1 where one told it
abbrev pub counts_at : ℕ
counts_at = default_at + 1

abbrev pub counts_told_at : ℕ
counts_told_at = counts_at + 10

-- The length that a `lend` line tells of slice j, and 1 where one told it. The slices: 0 sorts, 1 nodes, 2 bindings,
-- 3 expressions, 4 base names, 5 constraints, 6 overloads, 7 sources, 8 scratch, 9 index, 10 typing, 11 measure,
-- 12 choices.
abbrev pub lent_at : ℕ
lent_at = counts_told_at + 10

abbrev pub lent_told_at : ℕ
lent_told_at = lent_at + 13

-- how far the list is read: no list yet, lines of the list may come, a question was asked, a line was not of the format
abbrev pub stage_at : ℕ
stage_at = lent_told_at + 13

abbrev pub no_list : ℕ
no_list = 0

abbrev pub reading_stage : ℕ
reading_stage = 1

abbrev pub asked_stage : ℕ
asked_stage = 2

abbrev pub bad_stage : ℕ
bad_stage = 3

-- what the last constraint line is: a `disjunction`, a `join`, else 0
abbrev pub last_at : ℕ
last_at = stage_at + 1

abbrev pub a_disjunction : ℕ
a_disjunction = 1

abbrev pub a_join : ℕ
a_join = 2

-- all words; a few behind the last are free
abbrev pub memory_words : ℕ
memory_words = 36160

-- the words after a line, and what came of it: what was expected, of a line that is not of the format
pub record Taken : Type 0 where
  pub words : List ℕ
  pub heard : Result Heard Form

abbrev pub taken : List ℕ → Result Heard Form → Taken
taken ws h = record { words = ws; heard = h }
