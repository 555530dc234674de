-- How many bytes an answer has at most: its first line, the lines of a typing, and the sorts made.
use Rattle.std.specs.Prelude.{ℕ, ◌+◌, ◌*◌}
use Rattle.resolved_sort.specs.Storage.{max_sorts}
use Rattle.inference.specs.Constraints.{max_exprs, max_constraints, max_components}
use Rattle.list_verdict.specs.Longest.{most_verdict_line, most_typing, most_new_line}

abbrev pub most_answer : ℕ
most_answer = most_verdict_line + (most_typing max_exprs max_components max_constraints + max_sorts * most_new_line)
