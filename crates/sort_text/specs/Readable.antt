-- Sorts that a line can give: writable, at most 16 arguments at each function, no function as argument; and how
-- many nodes they have.
use Rattle.std.specs.Prelude.{Bool, true, not, ◌&&◌, ℕ, ◌+◌, leb}
use Rattle.resolved_sort.specs.Tree.{Tree, flat, container, function, Trees, no_args, arg, arity}
use Rattle.resolved_sort.specs.Order.{is_function}
use Rattle.sort_text.specs.Text.{nonempty, flat_writable}
use Rattle.resolved_sort.specs.Storage.{max_arguments}

unfoldable mutual
  pub readable : Tree → Bool
  readable (flat a) = flat_writable a
  readable (container o t) = readable t
  readable (function ts r) = nonempty ts && leb (arity ts) max_arguments && arguments ts && readable r

  -- readable, and no function
  pub arguments : Trees → Bool
  arguments no_args = true
  arguments (arg t ts) = not (is_function t) && readable t && arguments ts

-- no function has more than 16 arguments
unfoldable mutual
  pub few : Tree → Bool
  few (flat a) = true
  few (container o t) = few t
  few (function ts r) = leb (arity ts) max_arguments && fews ts && few r

  pub fews : Trees → Bool
  fews no_args = true
  fews (arg t ts) = few t && fews ts

-- no argument of a function is a function
unfoldable mutual
  pub no_function_argument : Tree → Bool
  no_function_argument (flat a) = true
  no_function_argument (container o t) = no_function_argument t
  no_function_argument (function ts r) = no_functions ts && no_function_argument r

  pub no_functions : Trees → Bool
  no_functions no_args = true
  no_functions (arg t ts) = not (is_function t) && no_function_argument t && no_functions ts

-- the nodes of a sort
unfoldable mutual
  pub size : Tree → ℕ
  size (flat a) = 1
  size (container o t) = size t + 1
  size (function ts r) = sizes ts + size r + 1

  pub sizes : Trees → ℕ
  sizes no_args = 0
  sizes (arg t ts) = size t + sizes ts
