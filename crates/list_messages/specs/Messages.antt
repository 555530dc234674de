-- What is said of a line that is not of the format: what was expected there.
use Rattle.std.specs.Prelude.{List, ◌++◌, ℕ}
use Rattle.text_out.specs.Quoted.{bytes_of}
use Rattle.list_memory.specs.declared.Form.{Form}
use Rattle.list_memory.specs.declared.Form.TheVariants.{Printable, Length, List as FormList, Question, Asked}
use Rattle.list_memory.specs.declared.Form.TheVariants.{Keyword, Next, Bare, Sort, Node, Entries, NodeEntries}
use Rattle.list_memory.specs.declared.Form.TheVariants.{Pad, Var, Vars, Bind, Unbound, Expr, Name, Names, Default}
use Rattle.list_memory.specs.declared.Form.TheVariants.{Sub, Lit, Comprehension, Disjunction, Overload, Join}
use Rattle.list_memory.specs.declared.Form.TheVariants.{Sources, Constraint, Count, Lend, Ceilings, Asks}

-- the message of each form
unfoldable pub form_text : Form → List ℕ
form_text Printable = bytes_of "printable ASCII, no tab and no CR"
form_text Length = bytes_of "at most 200 bytes"
form_text FormList = bytes_of "list before any other line"
form_text Question = bytes_of "a question before an answer"
form_text Asked = bytes_of "?, = or list after a question"
form_text Keyword = bytes_of "a word that begins a line of the format"
form_text Next = bytes_of "the next number in the name of the new row"
form_text Bare = bytes_of "bare, before any other sort"
form_text Sort =
    bytes_of "sort sK List S (or Set, FSet, Bag, FBag), sort sK fn S ... -> S, sort sK Def N, sort sK "
    ++ bytes_of "TypeVar N, sort sK unit or sort sK raw N N N N"
form_text Node =
    bytes_of "node nK List P (or Set, FSet, Bag, FBag), node nK fn P ... -> P, node nK var vN or node "
    ++ bytes_of "nK raw N N N N"
form_text Entries = bytes_of "entries N ..."
form_text NodeEntries = bytes_of "node-entries N ..."
form_text Pad = bytes_of "pad sorts N, pad entries N, pad nodes N or pad node-entries N"
form_text Var = bytes_of "var vK nJ"
form_text Vars = bytes_of "vars N"
form_text Bind = bytes_of "bind vN P"
form_text Unbound = bytes_of "a variable of a line above that has no binding yet"
form_text Expr = bytes_of "expr eK P"
form_text Name = bytes_of "name eN variable, name eN builtin, name eN op S or name eN raw N N"
form_text Names = bytes_of "at most 512 base names, which is what this program holds"
form_text Default = bytes_of "default S"
form_text Sub = bytes_of "sub P P"
form_text Lit = bytes_of "lit P positive or lit P natural"
form_text Comprehension = bytes_of "comprehension P P S"
form_text Disjunction = bytes_of "disjunction eN P"
form_text Overload = bytes_of "overload variable P, overload builtin P, overload op S P or overload raw N N N"
form_text Join = bytes_of "join P P ..."
form_text Sources = bytes_of "sources P ..."
form_text Constraint = bytes_of "constraint N N N N N"
form_text Count =
    bytes_of "count WHAT N, where WHAT is sorts, entries, nodes, node-entries, vars, exprs, names, "
    ++ bytes_of "constraints, overloads or sources"
form_text Lend =
    bytes_of "lend WHAT N, where WHAT is sorts, nodes, bindings, exprs, names, constraints, overloads, "
    ++ bytes_of "sources, scratch, index, out-typing, out-measure or out-choices"
form_text Ceilings = bytes_of "no ceilings line: this program has the fixed ceilings"
form_text Asks = bytes_of "? solve, or another question of the format"

-- the line that says it, after the line's number
unfoldable pub bad_text : Form → List ℕ
bad_text f = bytes_of "expected " ++ (form_text f ++ bytes_of "\n")
