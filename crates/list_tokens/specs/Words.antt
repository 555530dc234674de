-- The words of the format that are no number and no name with one.
use Rattle.std.specs.Prelude.{Bool, List, [], ◌∷◌, ℕ, eqb, Option}
use Rattle.std.specs.List.{find}
use Rattle.sort_text.specs.Parse.{same_bytes}
use Rattle.text_out.specs.Quoted.{bytes_of}
use Rattle.list_tokens.specs.declared.Keyword.{Keyword}

-- each word as it is written
unfoldable pub spelling : Keyword → List ℕ
spelling Keyword.List = bytes_of "list"
spelling Keyword.Bare = bytes_of "bare"
spelling Keyword.Sort = bytes_of "sort"
spelling Keyword.Entries = bytes_of "entries"
spelling Keyword.Node = bytes_of "node"
spelling Keyword.NodeEntries = bytes_of "node-entries"
spelling Keyword.Pad = bytes_of "pad"
spelling Keyword.Var = bytes_of "var"
spelling Keyword.Vars = bytes_of "vars"
spelling Keyword.Bind = bytes_of "bind"
spelling Keyword.Expr = bytes_of "expr"
spelling Keyword.Name = bytes_of "name"
spelling Keyword.Default = bytes_of "default"
spelling Keyword.Ceilings = bytes_of "ceilings"
spelling Keyword.Count = bytes_of "count"
spelling Keyword.Lend = bytes_of "lend"
spelling Keyword.Sub = bytes_of "sub"
spelling Keyword.Lit = bytes_of "lit"
spelling Keyword.Comprehension = bytes_of "comprehension"
spelling Keyword.Disjunction = bytes_of "disjunction"
spelling Keyword.Join = bytes_of "join"
spelling Keyword.Constraint = bytes_of "constraint"
spelling Keyword.Overload = bytes_of "overload"
spelling Keyword.Ask = bytes_of "?"
spelling Keyword.Answer = bytes_of "="
spelling Keyword.ListOf = bytes_of "List"
spelling Keyword.SetOf = bytes_of "Set"
spelling Keyword.FSetOf = bytes_of "FSet"
spelling Keyword.BagOf = bytes_of "Bag"
spelling Keyword.FBagOf = bytes_of "FBag"
spelling Keyword.Fn = bytes_of "fn"
spelling Keyword.Def = bytes_of "Def"
spelling Keyword.TypeVar = bytes_of "TypeVar"
spelling Keyword.Raw = bytes_of "raw"
spelling Keyword.Arrow = bytes_of "->"
spelling Keyword.Variable = bytes_of "variable"
spelling Keyword.Op = bytes_of "op"
spelling Keyword.Builtin = bytes_of "builtin"
spelling Keyword.Positive = bytes_of "positive"
spelling Keyword.Natural = bytes_of "natural"
spelling Keyword.Sorts = bytes_of "sorts"
spelling Keyword.Nodes = bytes_of "nodes"
spelling Keyword.Bindings = bytes_of "bindings"
spelling Keyword.Exprs = bytes_of "exprs"
spelling Keyword.Names = bytes_of "names"
spelling Keyword.Constraints = bytes_of "constraints"
spelling Keyword.Overloads = bytes_of "overloads"
spelling Keyword.Sources = bytes_of "sources"
spelling Keyword.Scratch = bytes_of "scratch"
spelling Keyword.Index = bytes_of "index"
spelling Keyword.OutTyping = bytes_of "out-typing"
spelling Keyword.OutMeasure = bytes_of "out-measure"
spelling Keyword.OutChoices = bytes_of "out-choices"
spelling Keyword.Solve = bytes_of "solve"
spelling Keyword.Unify = bytes_of "unify"
spelling Keyword.PartialCmp = bytes_of "partial_cmp"
spelling Keyword.Meet = bytes_of "meet"
spelling Keyword.WideningDistance = bytes_of "widening_distance"
spelling Keyword.IsMaterializable = bytes_of "is_materializable"
spelling Keyword.Unit = bytes_of "unit"
spelling Keyword.Bool = bytes_of "Bool"
spelling Keyword.Pos = bytes_of "Pos"
spelling Keyword.Nat = bytes_of "Nat"
spelling Keyword.Int = bytes_of "Int"
spelling Keyword.Real = bytes_of "Real"

-- its place among them, which no two share
unfoldable pub place_of : Keyword → ℕ
place_of Keyword.List = 0
place_of Keyword.Bare = 1
place_of Keyword.Sort = 2
place_of Keyword.Entries = 3
place_of Keyword.Node = 4
place_of Keyword.NodeEntries = 5
place_of Keyword.Pad = 6
place_of Keyword.Var = 7
place_of Keyword.Vars = 8
place_of Keyword.Bind = 9
place_of Keyword.Expr = 10
place_of Keyword.Name = 11
place_of Keyword.Default = 12
place_of Keyword.Ceilings = 13
place_of Keyword.Count = 14
place_of Keyword.Lend = 15
place_of Keyword.Sub = 16
place_of Keyword.Lit = 17
place_of Keyword.Comprehension = 18
place_of Keyword.Disjunction = 19
place_of Keyword.Join = 20
place_of Keyword.Constraint = 21
place_of Keyword.Overload = 22
place_of Keyword.Ask = 23
place_of Keyword.Answer = 24
place_of Keyword.ListOf = 25
place_of Keyword.SetOf = 26
place_of Keyword.FSetOf = 27
place_of Keyword.BagOf = 28
place_of Keyword.FBagOf = 29
place_of Keyword.Fn = 30
place_of Keyword.Def = 31
place_of Keyword.TypeVar = 32
place_of Keyword.Raw = 33
place_of Keyword.Arrow = 34
place_of Keyword.Variable = 35
place_of Keyword.Op = 36
place_of Keyword.Builtin = 37
place_of Keyword.Positive = 38
place_of Keyword.Natural = 39
place_of Keyword.Sorts = 40
place_of Keyword.Nodes = 41
place_of Keyword.Bindings = 42
place_of Keyword.Exprs = 43
place_of Keyword.Names = 44
place_of Keyword.Constraints = 45
place_of Keyword.Overloads = 46
place_of Keyword.Sources = 47
place_of Keyword.Scratch = 48
place_of Keyword.Index = 49
place_of Keyword.OutTyping = 50
place_of Keyword.OutMeasure = 51
place_of Keyword.OutChoices = 52
place_of Keyword.Solve = 53
place_of Keyword.Unify = 54
place_of Keyword.PartialCmp = 55
place_of Keyword.Meet = 56
place_of Keyword.WideningDistance = 57
place_of Keyword.IsMaterializable = 58
place_of Keyword.Unit = 59
place_of Keyword.Bool = 60
place_of Keyword.Pos = 61
place_of Keyword.Nat = 62
place_of Keyword.Int = 63
place_of Keyword.Real = 64

abbrev pub same_word : Keyword → Keyword → Bool
same_word a b = eqb (place_of a) (place_of b)

abbrev pub keywords : List Keyword
keywords =
    Keyword.List ∷ Keyword.Bare ∷ Keyword.Sort ∷ Keyword.Entries ∷ Keyword.Node ∷ Keyword.NodeEntries ∷ Keyword.Pad
    ∷ Keyword.Var ∷ Keyword.Vars ∷ Keyword.Bind ∷ Keyword.Expr ∷ Keyword.Name ∷ Keyword.Default ∷ Keyword.Ceilings
    ∷ Keyword.Count ∷ Keyword.Lend ∷ Keyword.Sub ∷ Keyword.Lit ∷ Keyword.Comprehension ∷ Keyword.Disjunction
    ∷ Keyword.Join ∷ Keyword.Constraint ∷ Keyword.Overload ∷ Keyword.Ask ∷ Keyword.Answer ∷ Keyword.ListOf
    ∷ Keyword.SetOf ∷ Keyword.FSetOf ∷ Keyword.BagOf ∷ Keyword.FBagOf ∷ Keyword.Fn ∷ Keyword.Def ∷ Keyword.TypeVar
    ∷ Keyword.Raw ∷ Keyword.Arrow ∷ Keyword.Variable ∷ Keyword.Op ∷ Keyword.Builtin ∷ Keyword.Positive
    ∷ Keyword.Natural ∷ Keyword.Sorts ∷ Keyword.Nodes ∷ Keyword.Bindings ∷ Keyword.Exprs ∷ Keyword.Names
    ∷ Keyword.Constraints ∷ Keyword.Overloads ∷ Keyword.Sources ∷ Keyword.Scratch ∷ Keyword.Index ∷ Keyword.OutTyping
    ∷ Keyword.OutMeasure ∷ Keyword.OutChoices ∷ Keyword.Solve ∷ Keyword.Unify ∷ Keyword.PartialCmp ∷ Keyword.Meet
    ∷ Keyword.WideningDistance ∷ Keyword.IsMaterializable ∷ Keyword.Unit ∷ Keyword.Bool ∷ Keyword.Pos ∷ Keyword.Nat
    ∷ Keyword.Int ∷ Keyword.Real ∷ []

-- the word of the format that bytes are
unfoldable pub keyword_of : List ℕ → Option Keyword
keyword_of w = find (λ k. same_bytes w (spelling k)) keywords
