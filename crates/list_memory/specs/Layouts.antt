-- The tables of a list, the slices of a call, and the stages of reading as words, and where the rows of each table are.
use Rattle.std.specs.Prelude.{ℕ, ◌+◌, ◌*◌}
use Rattle.resolved_sort.specs.Storage.{max_sorts, max_entries, entries_at}
use Rattle.unification.specs.Nodes.{max_nodes, max_node_entries, max_vars, node_entries_at}
use Rattle.inference.specs.Constraints.{max_exprs, max_constraints, max_overloads, max_sources}
use Rattle.list_memory.specs.declared.Table.{Table}
use Rattle.list_memory.specs.declared.Slice.{Slice}
use Rattle.list_memory.specs.declared.Stage.{Stage}
use Rattle.list_memory.specs.declared.LastConstraint.{LastConstraint}
use Rattle.list_memory.specs.declared.Layout.{Layout}
use Rattle.list_memory.specs.Memory.{max_names, list_sorts_at, list_nodes_at, list_binds_at, list_exprs_at, list_names_at}
use Rattle.list_memory.specs.Memory.{list_constraints_at, list_overloads_at, list_sources_at, sort_list, entry_list, node_list}
use Rattle.list_memory.specs.Memory.{node_entry_list, var_list, expr_list, name_list, constraint_list, overload_list}
use Rattle.list_memory.specs.Memory.{source_list, no_list, reading_stage, asked_stage, bad_stage, a_disjunction, a_join}

abbrev pub table_number : Table → ℕ
table_number Table.Sorts = sort_list
table_number Table.Entries = entry_list
table_number Table.Nodes = node_list
table_number Table.NodeEntries = node_entry_list
table_number Table.Vars = var_list
table_number Table.Exprs = expr_list
table_number Table.Names = name_list
table_number Table.Constraints = constraint_list
table_number Table.Overloads = overload_list
table_number Table.Sources = source_list

abbrev pub slice_number : Slice → ℕ
slice_number Slice.Sorts = 0
slice_number Slice.Nodes = 1
slice_number Slice.Bindings = 2
slice_number Slice.Exprs = 3
slice_number Slice.Names = 4
slice_number Slice.Constraints = 5
slice_number Slice.Overloads = 6
slice_number Slice.Sources = 7
slice_number Slice.Scratch = 8
slice_number Slice.Index = 9
slice_number Slice.Typing = 10
slice_number Slice.Measure = 11
slice_number Slice.Choices = 12

abbrev pub stage_number : Stage → ℕ
stage_number Stage.NoList = no_list
stage_number Stage.Reading = reading_stage
stage_number Stage.Asked = asked_stage
stage_number Stage.Bad = bad_stage

abbrev pub last_number : LastConstraint → ℕ
last_number LastConstraint.Other = 0
last_number LastConstraint.Disjunction = a_disjunction
last_number LastConstraint.Join = a_join

-- where the rows of a table begin, how many words a row has, and how many rows are kept
abbrev pub laid : ℕ → ℕ → ℕ → Layout
laid start width ceiling = record { start = start; width = width; ceiling = ceiling }

unfoldable pub layout_of : Table → Layout
layout_of Table.Sorts = laid list_sorts_at 4 max_sorts
layout_of Table.Entries = laid (list_sorts_at + entries_at) 1 max_entries
layout_of Table.Nodes = laid list_nodes_at 4 max_nodes
layout_of Table.NodeEntries = laid (list_nodes_at + node_entries_at) 1 max_node_entries
layout_of Table.Vars = laid list_binds_at 1 max_vars
layout_of Table.Exprs = laid list_exprs_at 1 max_exprs
layout_of Table.Names = laid list_names_at 3 max_names
layout_of Table.Constraints = laid list_constraints_at 5 max_constraints
layout_of Table.Overloads = laid list_overloads_at 3 max_overloads
layout_of Table.Sources = laid list_sources_at 1 max_sources

-- the first word of row n of a table
abbrev pub list_row_at : Table → ℕ → ℕ
list_row_at k n = (layout_of k).start + (layout_of k).width * n
