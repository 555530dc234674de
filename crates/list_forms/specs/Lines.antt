-- What each line of a list gives, in the order of the tables of docs/FORMAT.md, or what was expected instead. ws are the
-- words of the list so far, t the words of the line.
use Rattle.std.specs.Prelude.{Bool, true, false, cond, ltb, eqb, ℕ, ◌+◌, ◌-◌, List, [], ◌∷◌, length, get_or}
use Rattle.std.specs.Prelude.{Option, Some, None, Result, Ok, Err}
use Rattle.std.specs.Option.{option_map}
use Rattle.list_memory.specs.declared.Form.{Form}
use Rattle.list_memory.specs.declared.Table.{Table}
use Rattle.list_memory.specs.declared.LastConstraint.{LastConstraint}
use Rattle.resolved_sort.specs.Storage.{function_kind, def_kind, last_kind}
use Rattle.unification.specs.Nodes.{max_vars, variable_kind, free_word}
use Rattle.list_memory.specs.Memory.{max_names, list_binds_at, rows_given, default_at, counts_at, counts_told_at, lent_at}
use Rattle.list_memory.specs.Memory.{lent_told_at, last_at, sort_list, var_list, name_list, overload_list, source_list}
use Rattle.list_memory.specs.Layouts.{table_number, slice_number, last_number}
use Rattle.list_tokens.specs.declared.Keyword.{Keyword}
use Rattle.list_tokens.specs.declared.Token.{Token}
use Rattle.list_forms.specs.declared.Item.{Item}
use Rattle.list_forms.specs.declared.Item.TheVariants.{Number, Sort, Node, Var, Expr, FixedSort, Place, Container, Literal, AnyWord}
use Rattle.inference.specs.declared.NameKind.{NameKind}
use Rattle.problem_words.specs.declared.ConstraintKind.{ConstraintKind}
use Rattle.list_forms.specs.declared.Plan.{Plan}
use Rattle.list_forms.specs.Items.{table_named, slice_named, token_at, keyword_word, word_at, fits_form, list_fits, function_fits}
use Rattle.list_forms.specs.Plans.{nothing, rows_plan, row_plan, with_free, with_run, put_at, with_put, told_plan, saturated, grown}

abbrev pub five_words : (a b c d e : ℕ) → List ℕ
five_words a b c d e = a ∷ b ∷ c ∷ d ∷ e ∷ []

abbrev pub expected : Form → Result Plan Form
expected f = Err f

abbrev pub word : Keyword → Item
word k = Item.Word k

-- "a line that makes a row names it, and the name must be the next one": a word is the next name of a table
unfoldable pub is_next : List ℕ → Token → Table → Bool
is_next ws (Token.Sort n) Table.Sorts = eqb n (rows_given ws (table_number Table.Sorts))
is_next ws (Token.Node n) Table.Nodes = eqb n (rows_given ws (table_number Table.Nodes))
is_next ws (Token.Var n) Table.Vars = eqb n (rows_given ws (table_number Table.Vars))
is_next ws (Token.Expr n) Table.Exprs = eqb n (rows_given ws (table_number Table.Exprs))
is_next ws t k = false

-- a function row of a table, with its arguments in another
unfoldable pub function_plan : List ℕ → List Token → Table → Table → Plan
function_plan ws t table entries =
    with_run
    (row_plan table
    (five_words function_kind (word_at t (length t - 1)) (rows_given ws (table_number entries)) (saturated (length t - 5)) 0))
    entries 3 (length t - 2)

-- what sorts and nodes share: `KEYWORD NAME List X`, `KEYWORD NAME fn X ... -> X`, `KEYWORD NAME raw KIND PART START COUNT`
unfoldable pub parts_row : List ℕ → List Token → Keyword → Item → Item → Table → Table → Option Plan
parts_row ws t keyword name part table entries =
    cond (fits_form t (word keyword ∷ name ∷ Container ∷ part ∷ []))
    (Some (row_plan table (five_words (word_at t 2) (word_at t 3) 0 0 0)))
    (cond (function_fits t part) (Some (function_plan ws t table entries))
    (cond (fits_form t (word keyword ∷ name ∷ word Keyword.Raw ∷ Number ∷ Number ∷ Number ∷ Number ∷ []))
    (Some (row_plan table (five_words (word_at t 3) (word_at t 4) (word_at t 5) (word_at t 6) 0)))
    None))

-- sort sK Def N, sort sK TypeVar N, sort sK unit, and what nodes have too
abbrev pub sort_row_by : Option Plan → List Token → Result Plan Form
sort_row_by (Some p) t = Ok p
sort_row_by None t =
    cond (fits_form t (word Keyword.Sort ∷ Sort ∷ word Keyword.Def ∷ Number ∷ []))
    (Ok (row_plan Table.Sorts (five_words def_kind (word_at t 3) 0 0 0)))
    (cond (fits_form t (word Keyword.Sort ∷ Sort ∷ word Keyword.TypeVar ∷ Number ∷ []))
    (Ok (row_plan Table.Sorts (five_words last_kind (word_at t 3) 0 0 0)))
    (cond (fits_form t (word Keyword.Sort ∷ Sort ∷ FixedSort ∷ []))
    (Ok (row_plan Table.Sorts (five_words (word_at t 2) 0 0 0 0)))
    (expected Form.Sort)))

unfoldable pub sort_plan : List ℕ → List Token → Result Plan Form
sort_plan ws t =
    cond (is_next ws (token_at t 1) Table.Sorts)
    (sort_row_by (parts_row ws t Keyword.Sort Sort Sort Table.Sorts Table.Entries) t)
    (expected Form.Next)

-- var vK nJ
unfoldable pub var_plan : List ℕ → List Token → Result Plan Form
var_plan ws t =
    cond (fits_form t (word Keyword.Var ∷ Var ∷ Node ∷ []))
    (cond (is_next ws (token_at t 1) Table.Vars)
    (cond (is_next ws (token_at t 2) Table.Nodes)
    (Ok (with_free 1 (row_plan Table.Nodes (five_words variable_kind (word_at t 1) 0 0 0))))
    (expected Form.Next))
    (expected Form.Next))
    (expected Form.Var)

-- vars N
unfoldable pub vars_plan : List Token → Result Plan Form
vars_plan t =
    cond (fits_form t (word Keyword.Vars ∷ Number ∷ [])) (Ok (with_free (word_at t 1) nothing)) (expected Form.Vars)

-- "the given binding of a variable of a line above; at most one". A variable past the ceiling has no word, so that a
-- second binding of it is not seen; such a list is refused with 1, unless a `count` line tells fewer.
unfoldable pub bound_plan : List ℕ → ℕ → ℕ → Result Plan Form
bound_plan ws v p =
    cond (ltb v (rows_given ws var_list))
    (cond (ltb v max_vars)
    (cond (eqb (get_or ws (list_binds_at + v) 0) free_word) (Ok (with_put nothing (put_at (list_binds_at + v) p)))
    (expected Form.Unbound))
    (Ok nothing))
    (expected Form.Unbound)

-- bind vN P
unfoldable pub bind_plan : List ℕ → List Token → Result Plan Form
bind_plan ws t =
    cond (fits_form t (word Keyword.Bind ∷ Var ∷ Place ∷ [])) (bound_plan ws (word_at t 1) (word_at t 2)) (expected Form.Bind)

-- node nK var vN, and what sorts have too
abbrev pub node_row_by : Option Plan → List Token → Result Plan Form
node_row_by (Some p) t = Ok p
node_row_by None t =
    cond (fits_form t (word Keyword.Node ∷ Node ∷ word Keyword.Var ∷ Var ∷ []))
    (Ok (row_plan Table.Nodes (five_words variable_kind (word_at t 3) 0 0 0)))
    (expected Form.Node)

unfoldable pub node_plan : List ℕ → List Token → Result Plan Form
node_plan ws t =
    cond (is_next ws (token_at t 1) Table.Nodes)
    (node_row_by (parts_row ws t Keyword.Node Node Place Table.Nodes Table.NodeEntries) t)
    (expected Form.Next)

-- expr eK P
unfoldable pub expr_plan : List ℕ → List Token → Result Plan Form
expr_plan ws t =
    cond (is_next ws (token_at t 1) Table.Exprs)
    (cond (fits_form t (word Keyword.Expr ∷ Expr ∷ Place ∷ []))
    (Ok (row_plan Table.Exprs (five_words (word_at t 2) 0 0 0 0)))
    (expected Form.Expr))
    (expected Form.Next)

-- the kinds of names and overloads, and of constraints, in their rows
abbrev pub target_number : NameKind → ℕ
target_number NameKind.Variable = 1
target_number NameKind.Op = 2
target_number NameKind.Builtin = 3

abbrev pub constraint_number : ConstraintKind → ℕ
constraint_number ConstraintKind.Sub = 0
constraint_number ConstraintKind.Lit = 1
constraint_number ConstraintKind.Disjunction = 2
constraint_number ConstraintKind.Comprehension = 3
constraint_number ConstraintKind.Join = 4

-- name eN variable, name eN builtin, name eN op S, name eN raw KIND SORT; the program holds max_names base names
abbrev pub name_row : List Token → Result Plan Form
name_row t =
    cond (fits_form t (word Keyword.Name ∷ Expr ∷ word Keyword.Variable ∷ []))
    (Ok (row_plan Table.Names (five_words (word_at t 1) (target_number NameKind.Variable) 0 0 0)))
    (cond (fits_form t (word Keyword.Name ∷ Expr ∷ word Keyword.Builtin ∷ []))
    (Ok (row_plan Table.Names (five_words (word_at t 1) (target_number NameKind.Builtin) 0 0 0)))
    (cond (fits_form t (word Keyword.Name ∷ Expr ∷ word Keyword.Op ∷ Sort ∷ []))
    (Ok (row_plan Table.Names (five_words (word_at t 1) (target_number NameKind.Op) (word_at t 3) 0 0)))
    (cond (fits_form t (word Keyword.Name ∷ Expr ∷ word Keyword.Raw ∷ Number ∷ Number ∷ []))
    (Ok (row_plan Table.Names (five_words (word_at t 1) (word_at t 3) (word_at t 4) 0 0)))
    (expected Form.Name))))

unfoldable pub name_plan : List ℕ → List Token → Result Plan Form
name_plan ws t = cond (ltb (rows_given ws name_list) max_names) (name_row t) (expected Form.Names)

-- default S
unfoldable pub default_plan : List Token → Result Plan Form
default_plan t =
    cond (fits_form t (word Keyword.Default ∷ Sort ∷ []))
    (Ok (with_put nothing (put_at default_at (word_at t 1)))) (expected Form.Default)

-- a constraint row, and what kind of line it is of
abbrev pub constraint_row : List ℕ → LastConstraint → Plan
constraint_row r last = with_put (row_plan Table.Constraints r) (put_at last_at (last_number last))

-- a keyword, a place and an item
unfoldable pub pair_plan : List Token → Keyword → Item → ConstraintKind → Form → Result Plan Form
pair_plan t keyword item kind form =
    cond (fits_form t (word keyword ∷ Place ∷ item ∷ []))
    (Ok (constraint_row (five_words (constraint_number kind) (word_at t 1) (word_at t 2) 0 0) LastConstraint.Other))
    (expected form)

-- sub P P
abbrev pub sub_plan : List Token → Result Plan Form
sub_plan t = pair_plan t Keyword.Sub Place ConstraintKind.Sub Form.Sub

-- lit P positive, lit P natural
abbrev pub lit_plan : List Token → Result Plan Form
lit_plan t = pair_plan t Keyword.Lit Literal ConstraintKind.Lit Form.Lit

-- comprehension P P S
unfoldable pub comprehension_plan : List Token → Result Plan Form
comprehension_plan t =
    cond (fits_form t (word Keyword.Comprehension ∷ Place ∷ Place ∷ Sort ∷ []))
    (Ok
    (constraint_row
    (five_words (constraint_number ConstraintKind.Comprehension) (word_at t 1) (word_at t 2) (word_at t 3) 0)
    LastConstraint.Other))
    (expected Form.Comprehension)

-- disjunction eN P
unfoldable pub disjunction_plan : List ℕ → List Token → Result Plan Form
disjunction_plan ws t =
    cond (fits_form t (word Keyword.Disjunction ∷ Expr ∷ Place ∷ []))
    (Ok
    (constraint_row
    (five_words (constraint_number ConstraintKind.Disjunction) (word_at t 1) (word_at t 2) (rows_given ws overload_list) 0)
    LastConstraint.Disjunction))
    (expected Form.Disjunction)

-- an overload; its disjunction has one more
abbrev pub overload_row : List ℕ → List ℕ → Plan
overload_row ws r = with_put (row_plan Table.Overloads r) (grown ws LastConstraint.Disjunction 4 1)

-- overload variable P, overload builtin P, overload op S P, overload raw KIND SORT PLACE
unfoldable pub overload_plan : List ℕ → List Token → Result Plan Form
overload_plan ws t =
    cond (fits_form t (word Keyword.Overload ∷ word Keyword.Variable ∷ Place ∷ []))
    (Ok (overload_row ws (five_words (target_number NameKind.Variable) 0 (word_at t 2) 0 0)))
    (cond (fits_form t (word Keyword.Overload ∷ word Keyword.Builtin ∷ Place ∷ []))
    (Ok (overload_row ws (five_words (target_number NameKind.Builtin) 0 (word_at t 2) 0 0)))
    (cond (fits_form t (word Keyword.Overload ∷ word Keyword.Op ∷ Sort ∷ Place ∷ []))
    (Ok (overload_row ws (five_words (target_number NameKind.Op) (word_at t 2) (word_at t 3) 0 0)))
    (cond (fits_form t (word Keyword.Overload ∷ word Keyword.Raw ∷ Number ∷ Number ∷ Number ∷ []))
    (Ok (overload_row ws (five_words (word_at t 2) (word_at t 3) (word_at t 4) 0 0)))
    (expected Form.Overload))))

-- join P P ...
unfoldable pub join_plan : List ℕ → List Token → Result Plan Form
join_plan ws t =
    cond (list_fits t Place)
    (Ok
    (with_run
    (constraint_row
    (five_words (constraint_number ConstraintKind.Join) (word_at t 1) (rows_given ws source_list) (saturated (length t - 2)) 0)
    LastConstraint.Join)
    Table.Sources 2 (length t)))
    (expected Form.Join)

-- sources P ...
unfoldable pub sources_plan : List ℕ → List Token → Result Plan Form
sources_plan ws t =
    cond (list_fits t Place)
    (Ok
    (with_put (with_run nothing Table.Sources 1 (length t)) (grown ws LastConstraint.Join 3 (saturated (length t - 1)))))
    (expected Form.Sources)

-- entries N ..., node-entries N ...
unfoldable pub entries_plan : List Token → Table → Form → Result Plan Form
entries_plan t k f = cond (list_fits t Number) (Ok (with_run nothing k 1 (length t))) (expected f)

-- constraint KIND A B C D
unfoldable pub constraint_plan : List Token → Result Plan Form
constraint_plan t =
    cond (fits_form t (word Keyword.Constraint ∷ Number ∷ Number ∷ Number ∷ Number ∷ Number ∷ []))
    (Ok
    (constraint_row (five_words (word_at t 1) (word_at t 2) (word_at t 3) (word_at t 4) (word_at t 5))
    LastConstraint.Other))
    (expected Form.Constraint)

-- pad sorts N: sort number K is Def K; pad nodes N: List Bool; pad entries N, pad node-entries N: all 0
unfoldable pub pad_plan : List ℕ → List Token → Result Plan Form
pad_plan ws t =
    cond (fits_form t (word Keyword.Pad ∷ word Keyword.Sorts ∷ Number ∷ []))
    (Ok (rows_plan Table.Sorts (word_at t 2) 1 (five_words def_kind (rows_given ws sort_list) 0 0 0)))
    (cond (fits_form t (word Keyword.Pad ∷ word Keyword.Nodes ∷ Number ∷ []))
    (Ok (rows_plan Table.Nodes (word_at t 2) 0 (five_words (keyword_word Keyword.ListOf) (keyword_word Keyword.Bool) 0 0 0)))
    (cond (fits_form t (word Keyword.Pad ∷ word Keyword.Entries ∷ Number ∷ []))
    (Ok (rows_plan Table.Entries (word_at t 2) 0 (five_words 0 0 0 0 0)))
    (cond (fits_form t (word Keyword.Pad ∷ word Keyword.NodeEntries ∷ Number ∷ []))
    (Ok (rows_plan Table.NodeEntries (word_at t 2) 0 (five_words 0 0 0 0 0)))
    (expected Form.Pad))))

-- a word told, by the number of what the line names
abbrev pub told_by : Option ℕ → ℕ → ℕ → ℕ → Form → Result Plan Form
told_by (Some k) n at told_at form = Ok (told_plan (at + k) n (told_at + k))
told_by None n at told_at form = expected form

unfoldable pub told_line : List Token → Keyword → Option ℕ → ℕ → ℕ → Form → Result Plan Form
told_line t keyword number at told_at form =
    cond (fits_form t (word keyword ∷ AnyWord ∷ Number ∷ []))
    (told_by number (word_at t 2) at told_at form) (expected form)

-- count WHAT N
abbrev pub count_plan : List Token → Result Plan Form
count_plan t = told_line t Keyword.Count (option_map table_number (table_named (token_at t 1))) counts_at counts_told_at Form.Count

-- lend WHAT N
abbrev pub lend_plan : List Token → Result Plan Form
lend_plan t = told_line t Keyword.Lend (option_map slice_number (slice_named (token_at t 1))) lent_at lent_told_at Form.Lend

-- by the line's first word; "for the counting oracle only" are ceilings
abbrev pub plan_by : Token → List ℕ → List Token → Result Plan Form
plan_by (Token.Keyword Keyword.Sort) ws t = sort_plan ws t
plan_by (Token.Keyword Keyword.Var) ws t = var_plan ws t
plan_by (Token.Keyword Keyword.Vars) ws t = vars_plan t
plan_by (Token.Keyword Keyword.Bind) ws t = bind_plan ws t
plan_by (Token.Keyword Keyword.Node) ws t = node_plan ws t
plan_by (Token.Keyword Keyword.Expr) ws t = expr_plan ws t
plan_by (Token.Keyword Keyword.Name) ws t = name_plan ws t
plan_by (Token.Keyword Keyword.Default) ws t = default_plan t
plan_by (Token.Keyword Keyword.Sub) ws t = sub_plan t
plan_by (Token.Keyword Keyword.Lit) ws t = lit_plan t
plan_by (Token.Keyword Keyword.Comprehension) ws t = comprehension_plan t
plan_by (Token.Keyword Keyword.Disjunction) ws t = disjunction_plan ws t
plan_by (Token.Keyword Keyword.Overload) ws t = overload_plan ws t
plan_by (Token.Keyword Keyword.Join) ws t = join_plan ws t
plan_by (Token.Keyword Keyword.Sources) ws t = sources_plan ws t
plan_by (Token.Keyword Keyword.Entries) ws t = entries_plan t Table.Entries Form.Entries
plan_by (Token.Keyword Keyword.NodeEntries) ws t = entries_plan t Table.NodeEntries Form.NodeEntries
plan_by (Token.Keyword Keyword.Constraint) ws t = constraint_plan t
plan_by (Token.Keyword Keyword.Pad) ws t = pad_plan ws t
plan_by (Token.Keyword Keyword.Count) ws t = count_plan t
plan_by (Token.Keyword Keyword.Lend) ws t = lend_plan t
plan_by (Token.Keyword Keyword.Ceilings) ws t = expected Form.Ceilings
plan_by first ws t = expected Form.Keyword

unfoldable pub plan_of : List ℕ → List Token → Result Plan Form
plan_of ws t = plan_by (token_at t 0) ws t

-- whether `?` has one of the other questions: unify P P, or two sorts
unfoldable pub asks_other : List Token → Bool
asks_other t =
    cond (fits_form t (word Keyword.Ask ∷ word Keyword.Unify ∷ Place ∷ Place ∷ [])) true
    (cond (fits_form t (word Keyword.Ask ∷ word Keyword.PartialCmp ∷ Sort ∷ Sort ∷ [])) true
    (cond (fits_form t (word Keyword.Ask ∷ word Keyword.Join ∷ Sort ∷ Sort ∷ [])) true
    (cond (fits_form t (word Keyword.Ask ∷ word Keyword.Meet ∷ Sort ∷ Sort ∷ [])) true
    (cond (fits_form t (word Keyword.Ask ∷ word Keyword.WideningDistance ∷ Sort ∷ Sort ∷ [])) true
    (fits_form t (word Keyword.Ask ∷ word Keyword.IsMaterializable ∷ Sort ∷ Sort ∷ []))))))
