-- What a line gives: rows, free variables, words of the line as rows, words set; or what was expected instead.
use Rattle.std.specs.Prelude.{cond, List, ℕ, ◌+◌, ◌-◌, ◌*◌, ltb, eqb, get_or, Option, Some, None}
use Rattle.inference.specs.Constraints.{max_constraints}
use Rattle.list_memory.specs.declared.Table.{Table}
use Rattle.list_memory.specs.declared.LastConstraint.{LastConstraint}
use Rattle.list_memory.specs.Memory.{list_constraints_at, constraint_list, most_rows, rows_given, last_at}
use Rattle.list_memory.specs.Layouts.{last_number}
use Rattle.list_forms.specs.declared.Put.{Put}
use Rattle.list_forms.specs.declared.Plan.{Plan}

-- a line that gives nothing
abbrev pub nothing : Plan
nothing = record { free = 0; run = None; rows = None; put = None; told = None }

-- so many rows of a table, whose second word grows by a step
abbrev pub rows_plan : Table → ℕ → ℕ → List ℕ → Plan
rows_plan k n step row =
    record {
      free = 0;
      run = None;
      rows = Some (record { table = k; times = n; step = step; row = row });
      put = None;
      told = None;
    }

-- one row of a table
abbrev pub row_plan : Table → List ℕ → Plan
row_plan k row = rows_plan k 1 0 row

-- and free variables before it
abbrev pub with_free : ℕ → Plan → Plan
with_free n p = record { free = n; run = p.run; rows = p.rows; put = p.put; told = p.told }

-- and words of the line before it, as rows of a table
abbrev pub with_run : Plan → Table → ℕ → ℕ → Plan
with_run p k from to =
    record {
      free = p.free;
      run = Some (record { table = k; from = from; to = to });
      rows = p.rows;
      put = p.put;
      told = p.told;
    }

-- and a word set after it
abbrev pub put_at : ℕ → ℕ → Option Put
put_at at v = Some (record { at = at; value = v })

abbrev pub with_put : Plan → Option Put → Plan
with_put p q = record { free = p.free; run = p.run; rows = p.rows; put = q; told = p.told }

-- two words set, and nothing else
abbrev pub told_plan : ℕ → ℕ → ℕ → Plan
told_plan at v told_at = record { free = 0; run = None; rows = None; put = put_at at v; told = put_at told_at 1 }

-- a count that stops where counts of rows do
abbrev pub saturated : ℕ → ℕ
saturated n = cond (ltb most_rows n) most_rows n

-- word i of the last constraint row, where it is kept
abbrev pub last_row_at : List ℕ → ℕ → ℕ
last_row_at ws i = ((list_constraints_at - 5) + 5 * rows_given ws constraint_list) + i

-- "If the last constraint line is a `disjunction` or a `join`", n more belong to it: word i of its row grows by n
unfoldable pub grown : List ℕ → LastConstraint → ℕ → ℕ → Option Put
grown ws last i n =
    cond (eqb (get_or ws last_at 0) (last_number last))
    (cond (eqb (rows_given ws constraint_list) 0) None
    (cond (ltb max_constraints (rows_given ws constraint_list)) None
    (put_at (last_row_at ws i) (saturated (get_or ws (last_row_at ws i) 0 + n)))))
    None
