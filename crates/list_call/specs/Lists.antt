-- A list as it stands in its words (Rattle.list_memory.specs.Memory), and the call of the solver about it.
use Rattle.std.specs.Prelude.{cond, List, ℕ, ◌+◌, ◌*◌, eqb, ltb, get_or}
use Rattle.resolved_sort.specs.Storage.{full_length}
use Rattle.resolved_sort.specs.Index.{slots}
use Rattle.unification.specs.Nodes.{max_vars, full_nodes}
use Rattle.inference.specs.Constraints.{max_exprs, max_sources, max_components}
use Rattle.inference.specs.SolveChecks.{scratch_words, Call}
use Rattle.list_memory.specs.Memory.{list_name_words, list_constraint_words, list_overload_words, list_typing_words}
use Rattle.list_memory.specs.Memory.{list_choice_words, rows_given}
use Rattle.list_memory.specs.Memory.{list_sorts_at, list_nodes_at, list_binds_at, list_exprs_at, list_names_at, list_constraints_at}
use Rattle.list_memory.specs.Memory.{list_overloads_at, list_sources_at, list_typing_at, list_measure_at, list_choices_at}
use Rattle.list_memory.specs.Memory.{list_scratch_at, sort_list, entry_list, node_list, node_entry_list, var_list, expr_list}
use Rattle.list_memory.specs.Memory.{name_list, constraint_list, overload_list, source_list, default_at, counts_at}
use Rattle.list_memory.specs.Memory.{counts_told_at, lent_at, lent_told_at, list_index_at}
use Rattle.words.specs.Words.{part}
use Rattle.solve_checks.specs.declared.Given.{Given}
use Rattle.solve_checks.specs.Call.{call_of}

-- the count of list k in the call: the one told, where one is told
unfoldable pub call_count : List ℕ → ℕ → ℕ
call_count ws k = cond (eqb (get_or ws (counts_told_at + k) 0) 1) (get_or ws (counts_at + k) 0) (rows_given ws k)

abbrev pub call_default : List ℕ → ℕ
call_default ws = get_or ws default_at 0

-- the words lent of slice j: as many as told, else n; at most `top`
unfoldable pub told_or : List ℕ → ℕ → ℕ → ℕ
told_or ws j n = cond (eqb (get_or ws (lent_told_at + j) 0) 1) (get_or ws (lent_at + j) 0) n

unfoldable pub length_lent : List ℕ → ℕ → ℕ → ℕ → ℕ
length_lent ws j n top = cond (ltb top (told_or ws j n)) top (told_or ws j n)

unfoldable pub slice_lent : List ℕ → ℕ → ℕ → ℕ → ℕ → List ℕ
slice_lent ws start j n top = part start (length_lent ws j n top) ws

-- The slices by number; those that a call may change, but the bindings, have their ceiling where nothing is told.
module _ (ws : List ℕ) where
  abbrev pub sorts_in : List ℕ
  sorts_in = slice_lent ws list_sorts_at 0 full_length full_length

  abbrev pub nodes_in : List ℕ
  nodes_in = slice_lent ws list_nodes_at 1 full_nodes full_nodes

  abbrev pub binds_in : List ℕ
  binds_in = slice_lent ws list_binds_at 2 (1 * rows_given ws var_list) max_vars

  abbrev pub exprs_in : List ℕ
  exprs_in = slice_lent ws list_exprs_at 3 (1 * rows_given ws expr_list) max_exprs

  abbrev pub names_in : List ℕ
  names_in = slice_lent ws list_names_at 4 (3 * rows_given ws name_list) list_name_words

  abbrev pub constraints_in : List ℕ
  constraints_in = slice_lent ws list_constraints_at 5 (5 * rows_given ws constraint_list) list_constraint_words

  abbrev pub overloads_in : List ℕ
  overloads_in = slice_lent ws list_overloads_at 6 (3 * rows_given ws overload_list) list_overload_words

  abbrev pub sources_in : List ℕ
  sources_in = slice_lent ws list_sources_at 7 (1 * rows_given ws source_list) max_sources

  abbrev pub typing_in : List ℕ
  typing_in = slice_lent ws list_typing_at 10 list_typing_words list_typing_words

  abbrev pub measure_in : List ℕ
  measure_in = slice_lent ws list_measure_at 11 max_components max_components

  abbrev pub choices_in : List ℕ
  choices_in = slice_lent ws list_choices_at 12 list_choice_words list_choice_words

  abbrev pub scratch_in : List ℕ
  scratch_in = slice_lent ws list_scratch_at 8 scratch_words scratch_words

  abbrev pub index_in : List ℕ
  index_in = slice_lent ws list_index_at 9 slots slots

  abbrev pub given_in : Given
  given_in =
      record {
        sorts = call_count ws sort_list;
        entries = call_count ws entry_list;
        nodes = call_count ws node_list;
        arguments = call_count ws node_entry_list;
        variables = call_count ws var_list;
        exprs = call_count ws expr_list;
        names = call_count ws name_list;
        constraints = call_count ws constraint_list;
        overloads = call_count ws overload_list;
        sources = call_count ws source_list;
        default = record { 0 = call_default ws };
      }

  -- the call with these counts and the slices that it may change, and the call as the list tells it
  abbrev pub call_by : Given → (sorts nodes binds scratch index typing measure choices : List ℕ) → Call
  call_by g ss ns bs xs ix ts ms cs =
      call_of g ss ns bs exprs_in names_in constraints_in overloads_in sources_in xs ix ts ms cs

  abbrev pub call_on : (sorts typing measure choices : List ℕ) → Call
  call_on ss ts ms cs = call_by given_in ss nodes_in binds_in scratch_in index_in ts ms cs

  abbrev pub call_in : Call
  call_in = call_on sorts_in typing_in measure_in choices_in
