-- The words of a line held against a form: "In the tables below S is a sort (sN or one of the six words), P a place: a
-- sort below s1024, or a node nN. N is a number." A place can name any word, so nN goes up to n64511.
use Rattle.std.specs.Prelude.{Bool, true, false, cond, ◌&&◌, List, ℕ, ◌+◌, ◌-◌, ltb, eqb, length, get_or, take, drop, Option, Some, None}
use Rattle.std.specs.List.{list_all, zip}
use Rattle.list_tokens.specs.declared.Keyword.{Keyword}
use Rattle.list_tokens.specs.declared.Token.{Token}
use Rattle.list_tokens.specs.Words.{same_word}
use Rattle.resolved_sort.specs.Storage.{max_sorts}
use Rattle.list_memory.specs.declared.Table.{Table}
use Rattle.list_memory.specs.declared.Slice.{Slice}
use Rattle.list_forms.specs.declared.Item.{Item}

-- the six words of the fixed sorts; List, Set, FSet, Bag, FBag; positive, natural
abbrev pub is_fixed_sort : Keyword → Bool
is_fixed_sort Keyword.Unit = true
is_fixed_sort Keyword.Bool = true
is_fixed_sort Keyword.Pos = true
is_fixed_sort Keyword.Nat = true
is_fixed_sort Keyword.Int = true
is_fixed_sort Keyword.Real = true
is_fixed_sort k = false

abbrev pub is_container : Keyword → Bool
is_container Keyword.ListOf = true
is_container Keyword.SetOf = true
is_container Keyword.FSetOf = true
is_container Keyword.BagOf = true
is_container Keyword.FBagOf = true
is_container k = false

abbrev pub is_literal : Keyword → Bool
is_literal Keyword.Positive = true
is_literal Keyword.Natural = true
is_literal k = false

-- the table that a word of `count` names, and the slice that a word of `lend` names
abbrev pub table_named : Token → Option Table
table_named (Token.Keyword Keyword.Sorts) = Some Table.Sorts
table_named (Token.Keyword Keyword.Entries) = Some Table.Entries
table_named (Token.Keyword Keyword.Nodes) = Some Table.Nodes
table_named (Token.Keyword Keyword.NodeEntries) = Some Table.NodeEntries
table_named (Token.Keyword Keyword.Vars) = Some Table.Vars
table_named (Token.Keyword Keyword.Exprs) = Some Table.Exprs
table_named (Token.Keyword Keyword.Names) = Some Table.Names
table_named (Token.Keyword Keyword.Constraints) = Some Table.Constraints
table_named (Token.Keyword Keyword.Overloads) = Some Table.Overloads
table_named (Token.Keyword Keyword.Sources) = Some Table.Sources
table_named t = None

abbrev pub slice_named : Token → Option Slice
slice_named (Token.Keyword Keyword.Sorts) = Some Slice.Sorts
slice_named (Token.Keyword Keyword.Nodes) = Some Slice.Nodes
slice_named (Token.Keyword Keyword.Bindings) = Some Slice.Bindings
slice_named (Token.Keyword Keyword.Exprs) = Some Slice.Exprs
slice_named (Token.Keyword Keyword.Names) = Some Slice.Names
slice_named (Token.Keyword Keyword.Constraints) = Some Slice.Constraints
slice_named (Token.Keyword Keyword.Overloads) = Some Slice.Overloads
slice_named (Token.Keyword Keyword.Sources) = Some Slice.Sources
slice_named (Token.Keyword Keyword.Scratch) = Some Slice.Scratch
slice_named (Token.Keyword Keyword.Index) = Some Slice.Index
slice_named (Token.Keyword Keyword.OutTyping) = Some Slice.Typing
slice_named (Token.Keyword Keyword.OutMeasure) = Some Slice.Measure
slice_named (Token.Keyword Keyword.OutChoices) = Some Slice.Choices
slice_named t = None

-- the places of nodes are words: the greatest is max_sorts above the greatest node
abbrev pub node_places : ℕ
node_places = 65536 - max_sorts

-- whether a word of the format, or another word, is of an item
abbrev pub keyword_is : Item → Keyword → Bool
keyword_is (Item.Word expected) k = same_word k expected
keyword_is Item.Sort k = is_fixed_sort k
keyword_is Item.Place k = is_fixed_sort k
keyword_is Item.FixedSort k = is_fixed_sort k
keyword_is Item.Container k = is_container k
keyword_is Item.Literal k = is_literal k
keyword_is Item.AnyWord k = true
keyword_is i k = false

abbrev pub sort_is : Item → ℕ → Bool
sort_is Item.Sort n = true
sort_is Item.Place n = ltb n max_sorts
sort_is i n = false

abbrev pub node_is : Item → ℕ → Bool
node_is Item.Node n = true
node_is Item.Place n = ltb n node_places
node_is i n = false

abbrev pub number_is : Item → Bool
number_is Item.Number = true
number_is i = false

abbrev pub var_is : Item → Bool
var_is Item.Var = true
var_is i = false

abbrev pub expr_is : Item → Bool
expr_is Item.Expr = true
expr_is i = false

unfoldable pub is_of : Item → Token → Bool
is_of i (Token.Keyword k) = keyword_is i k
is_of i (Token.Number n) = number_is i
is_of i (Token.Sort n) = sort_is i n
is_of i (Token.Node n) = node_is i n
is_of i (Token.Var n) = var_is i
is_of i (Token.Expr n) = expr_is i
is_of i Token.Other = false

-- word i of a line
abbrev pub token_at : List Token → ℕ → Token
token_at t i = get_or t i Token.Other

-- what a word of the format stands for in memory: the kind of a container, the number of a fixed sort, the kind of a
-- literal
abbrev pub keyword_word : Keyword → ℕ
keyword_word Keyword.Unit = 0
keyword_word Keyword.Bool = 1
keyword_word Keyword.Pos = 2
keyword_word Keyword.Nat = 3
keyword_word Keyword.Int = 4
keyword_word Keyword.Real = 5
keyword_word Keyword.ListOf = 6
keyword_word Keyword.SetOf = 7
keyword_word Keyword.FSetOf = 8
keyword_word Keyword.BagOf = 9
keyword_word Keyword.FBagOf = 10
keyword_word Keyword.Positive = 0
keyword_word Keyword.Natural = 1
keyword_word k = 0

-- what a word stands for in memory: a node's place is max_sorts above its number; of all others the number
unfoldable pub word_of : Token → ℕ
word_of (Token.Keyword k) = keyword_word k
word_of (Token.Number n) = n
word_of (Token.Sort n) = n
word_of (Token.Node n) = cond (ltb n node_places) (n + max_sorts) n
word_of (Token.Var n) = n
word_of (Token.Expr n) = n
word_of Token.Other = 0

unfoldable pub word_at : List Token → ℕ → ℕ
word_at t i = word_of (token_at t i)

-- the words of a line are of the items, one for one, and no more
unfoldable pub fits_form : List Token → List Item → Bool
fits_form t form = eqb (length t) (length form) && list_all (λ p. is_of p.0 p.1) (zip form t)

abbrev pub all_of : Item → List Token → Bool
all_of item ts = list_all (is_of item) ts

-- `KEYWORD X ...`: at least one word after the first, all of an item
unfoldable pub list_fits : List Token → Item → Bool
list_fits t item = cond (ltb (length t) 2) false (all_of item (drop 1 t))

-- `KEYWORD NAME fn X ... -> X`
unfoldable pub function_fits : List Token → Item → Bool
function_fits t item =
    cond (ltb (length t) 5) false
    (cond (is_of (Item.Word Keyword.Fn) (token_at t 2))
    (cond (is_of (Item.Word Keyword.Arrow) (token_at t (length t - 2)))
    (cond (is_of item (token_at t (length t - 1))) (all_of item (take ((length t - 2) - 3) (drop 3 t))) false)
    false)
    false)
