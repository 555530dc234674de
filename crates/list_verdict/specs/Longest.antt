-- How many bytes the pieces of a verdict's text have at most.
use Rattle.std.specs.Prelude.{ℕ, ◌+◌, ◌*◌}
use Rattle.resolved_sort.specs.Storage.{max_arguments}
use Rattle.sort_text.specs.Reading.{max_line}

-- a number, a letter and a number, the word of a kind, what a code says
abbrev pub most_decimal : ℕ
most_decimal = 5

abbrev pub most_name : ℕ
most_name = 1 + most_decimal

abbrev pub most_kind_word : ℕ
most_kind_word = 7

abbrev pub most_message : ℕ
most_message = 120

-- `17 no typing found`
abbrev pub most_verdict_line : ℕ
most_verdict_line = most_decimal + (1 + (most_message + 1))

-- `e1: Nat # Pos -> Pos, op Nat # Pos -> Pos`
abbrev pub most_expr_line : ℕ
most_expr_line = most_name + (2 + (max_line + (5 + max_line + 1)))

-- a component, and a line of m components
abbrev pub most_component : ℕ
most_component = 2 + most_decimal

abbrev pub most_measure_line : ℕ → ℕ
most_measure_line m = 9 + (m * most_component + 2)

-- a choice, and a line of k choices
abbrev pub most_choice : ℕ
most_choice = 2 + (most_name + (1 + most_decimal))

abbrev pub most_choices_line : ℕ → ℕ
most_choices_line k = 8 + (4 + k * most_choice + 1)

-- `new s6 fn Bool s6 -> Nat`
abbrev pub most_new_line : ℕ
most_new_line = 4 + (most_name + (1 + (most_kind_word + (max_arguments * (1 + most_kind_word) + (4 + most_kind_word) + 1))))

-- a typing of x expressions, with m components and k choices
abbrev pub most_typing : ℕ → ℕ → ℕ → ℕ
most_typing x m k = x * most_expr_line + (most_measure_line m + most_choices_line k)
