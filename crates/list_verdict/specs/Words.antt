-- The words that a verdict is told in, as bytes.
use Rattle.std.specs.Prelude.{List, [], ◌∷◌, ◌++◌, ℕ, get_or}
use Rattle.text_out.specs.Quoted.{bytes_of}

-- The kinds of sorts by number, as a `sort` line of the text format has them; the last is TypeVar. The numbers of the
-- fixed six sorts agree with their kinds.
abbrev pub kind_words : List (List ℕ)
kind_words =
    bytes_of "unit" ∷ bytes_of "Bool" ∷ bytes_of "Pos" ∷ bytes_of "Nat" ∷ bytes_of "Int" ∷ bytes_of "Real"
    ∷ bytes_of "List" ∷ bytes_of "Set" ∷ bytes_of "FSet" ∷ bytes_of "Bag" ∷ bytes_of "FBag" ∷ bytes_of "fn" ∷ bytes_of "Def"
    ∷ []

unfoldable pub kind_word : ℕ → List ℕ
kind_word kind = get_or kind_words kind (bytes_of "TypeVar")

-- What document 01's verdict codes say, shortened, from 0 on; 13 is not one of the solver's.
abbrev pub verdict_messages : List (List ℕ)
verdict_messages =
    bytes_of "a typing"
    ∷ bytes_of "a list is above its ceiling or longer than what is lent for it"
    ∷ bytes_of "the first six sorts are not unit, Bool, Pos, Nat, Int, Real"
    ∷ bytes_of "a sort has an unknown kind, above 16 arguments, a run off its list or a part not below it"
    ∷ bytes_of "two sorts are equal"
    ∷ (bytes_of "a node has an unknown kind, above 16 arguments, a run off its list, or a part or variable that is "
    ++ bytes_of "not there")
    ∷ bytes_of "a binding names neither a sort nor a node"
    ∷ bytes_of "a variable reaches itself"
    ∷ bytes_of "a place of an expression, or a base name, names nothing"
    ∷ bytes_of "a constraint has an unknown kind, a run off its list, or names what is not there"
    ∷ bytes_of "two disjunctions, or two base names, are for one expression"
    ∷ bytes_of "a join has no sources, or there are more than 256 components"
    ∷ bytes_of "the default sort is not in the list"
    ∷ []
    ∷ bytes_of "an output, the scratch, the index, or the storage of sorts or nodes is too short"
    ∷ bytes_of "the search has no room for a new sort"
    ∷ bytes_of "the search has no room for a new node"
    ∷ bytes_of "no typing found"
    ∷ bytes_of "ambiguous: several leaves have the least measure"
    ∷ []

unfoldable pub message : ℕ → List ℕ
message code = get_or verdict_messages code []

-- what a name resolved to
abbrev pub variable_text : List ℕ
variable_text = bytes_of ", variable"

abbrev pub builtin_text : List ℕ
builtin_text = bytes_of ", builtin"

abbrev pub op_text : List ℕ
op_text = bytes_of ", op "

-- what the lines of a verdict begin with, and no choices
abbrev pub measure_text : List ℕ
measure_text = bytes_of "measure ["

abbrev pub choices_text : List ℕ
choices_text = bytes_of "choices "

abbrev pub no_choices_text : List ℕ
no_choices_text = bytes_of "none"

abbrev pub new_text : List ℕ
new_text = bytes_of "new "
