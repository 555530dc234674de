-- Lines that are sorts or stop at each kind of token, the tokens that bytes start, texts, nodes and checks, computed from the definitions:
-- for each one test over a list of cases. Assumes nothing.
use mathlib.Core.Path.{◌≡◌, refl}
use mathlib.Core.Bool.{Bool, true, false}
use mathlib.Core.List.{List, [], ◌∷◌, map}
use Prim.Native.Nat.{ℕ, zero, suc}
use Rattle.text_out.specs.Quoted.{bytes_of}
use Rattle.resolved_sort.specs.declared.Sort.{Sort}
use Rattle.resolved_sort.specs.declared.ComplexSort.{ComplexSort}
use Rattle.resolved_sort.specs.Tree.{unit, primitive, def, typevar, Tree, flat, container, function, no_args, arg}
use Rattle.std.specs.Prelude.{Ok, Err}
use Rattle.resolved_sort.specs.declared.Refusal.TheVariants.{TooShort}
use Rattle.sort_text.specs.declared.Unread.TheVariants.{Refused, NotASort, NoRoom}
use Rattle.sort_text.specs.Tokens
use Rattle.sort_text.specs.Tokens.{is_letter, NextToken, end, word, open_bracket, close_bracket, hash, arrow, bad, next}
use Rattle.sort_text.specs.Text
use Rattle.sort_text.specs.Reading
use Rattle.sort_text.specs.Writing
use Rattle.sort_text.specs.Readable
use Rattle.resolved_sort.specs.Checks
use Rattle.resolved_sort.specs.Checks.{Check}
use Rattle.sort_text.specs.Parse
use Rattle.sort_text.specs.Parse.{parsed, stuck, line}

abbrev bool : Tree
bool = flat (primitive Sort.Bool)

abbrev pos : Tree
pos = flat (primitive Sort.Pos)

abbrev nat : Tree
nat = flat (primitive Sort.Nat)

-- `Nat # Pos`, `-> Nat`, `Nat # -> Bool`, `List Nat`, `List`, `List(`, `List(Nat`, `List()`, `List(Nat # Pos)`, `Nat
-- Pos`, `NatPos`, `Nat2`, `Nat- >Pos`, `(Nat)`, `Nat)`, `Nat ( Pos`, `Nat #   `, `Nat  ( Pos `, ``, `FSet(Pos)`, `
-- Nat->Pos#Bool->Nat `, `List(Nat # Pos -> Bool)`, and 17 operands
lines_are_read : map line (
    (78 ∷ 97 ∷ 116 ∷ 32 ∷ 35 ∷ 32 ∷ 80 ∷ 111 ∷ 115 ∷ [])
    ∷ (45 ∷ 62 ∷ 32 ∷ 78 ∷ 97 ∷ 116 ∷ [])
    ∷ (78 ∷ 97 ∷ 116 ∷ 32 ∷ 35 ∷ 32 ∷ 45 ∷ 62 ∷ 32 ∷ 66 ∷ 111 ∷ 111 ∷ 108 ∷ [])
    ∷ (76 ∷ 105 ∷ 115 ∷ 116 ∷ 32 ∷ 78 ∷ 97 ∷ 116 ∷ [])
    ∷ (76 ∷ 105 ∷ 115 ∷ 116 ∷ [])
    ∷ (76 ∷ 105 ∷ 115 ∷ 116 ∷ 40 ∷ [])
    ∷ (76 ∷ 105 ∷ 115 ∷ 116 ∷ 40 ∷ 78 ∷ 97 ∷ 116 ∷ [])
    ∷ (76 ∷ 105 ∷ 115 ∷ 116 ∷ 40 ∷ 41 ∷ [])
    ∷ (76 ∷ 105 ∷ 115 ∷ 116 ∷ 40 ∷ 78 ∷ 97 ∷ 116 ∷ 32 ∷ 35 ∷ 32 ∷ 80 ∷ 111 ∷ 115 ∷ 41 ∷ [])
    ∷ (78 ∷ 97 ∷ 116 ∷ 32 ∷ 80 ∷ 111 ∷ 115 ∷ [])
    ∷ (78 ∷ 97 ∷ 116 ∷ 80 ∷ 111 ∷ 115 ∷ [])
    ∷ (78 ∷ 97 ∷ 116 ∷ 50 ∷ [])
    ∷ (78 ∷ 97 ∷ 116 ∷ 45 ∷ 32 ∷ 62 ∷ 80 ∷ 111 ∷ 115 ∷ [])
    ∷ (40 ∷ 78 ∷ 97 ∷ 116 ∷ 41 ∷ [])
    ∷ (78 ∷ 97 ∷ 116 ∷ 41 ∷ [])
    ∷ (78 ∷ 97 ∷ 116 ∷ 32 ∷ 40 ∷ 32 ∷ 80 ∷ 111 ∷ 115 ∷ [])
    ∷ (78 ∷ 97 ∷ 116 ∷ 32 ∷ 35 ∷ 32 ∷ 32 ∷ 32 ∷ [])
    ∷ (78 ∷ 97 ∷ 116 ∷ 32 ∷ 32 ∷ 40 ∷ 32 ∷ 80 ∷ 111 ∷ 115 ∷ 32 ∷ [])
    ∷ ([])
    ∷ (70 ∷ 83 ∷ 101 ∷ 116 ∷ 40 ∷ 80 ∷ 111 ∷ 115 ∷ 41 ∷ [])
    ∷ (32 ∷ 32 ∷ 78 ∷ 97 ∷ 116 ∷ 45 ∷ 62 ∷ 80 ∷ 111 ∷ 115 ∷ 35 ∷ 66 ∷ 111 ∷ 111 ∷ 108 ∷ 45 ∷ 62 ∷ 78 ∷ 97 ∷ 116 ∷ 32 ∷ [])
    ∷ (76 ∷ 105 ∷ 115 ∷ 116 ∷ 40 ∷ 78 ∷ 97 ∷ 116 ∷ 32 ∷ 35 ∷ 32 ∷ 80 ∷ 111 ∷ 115 ∷ 32 ∷ 45 ∷ 62 ∷ 32 ∷ 66 ∷ 111 ∷ 111 ∷ 108 ∷ 41 ∷ [])
    ∷ (78 ∷ 97 ∷ 116 ∷ 32 ∷ 35 ∷ 32 ∷ 78 ∷ 97 ∷ 116 ∷ 32 ∷ 35 ∷ 32 ∷ 78 ∷ 97 ∷ 116 ∷ 32 ∷ 35 ∷ 32 ∷ 78 ∷ 97 ∷ 116 ∷ 32
    ∷ 35 ∷ 32 ∷ 78 ∷ 97 ∷ 116 ∷ 32 ∷ 35 ∷ 32 ∷ 78 ∷ 97 ∷ 116 ∷ 32 ∷ 35 ∷ 32 ∷ 78 ∷ 97 ∷ 116 ∷ 32 ∷ 35 ∷ 32 ∷ 78 ∷
    97 ∷ 116 ∷ 32 ∷ 35 ∷ 32 ∷ 78 ∷ 97 ∷ 116 ∷ 32 ∷ 35 ∷ 32 ∷ 78 ∷ 97 ∷ 116 ∷ 32 ∷ 35 ∷ 32 ∷ 78 ∷ 97 ∷ 116 ∷ 32 ∷
    35 ∷ 32 ∷ 78 ∷ 97 ∷ 116 ∷ 32 ∷ 35 ∷ 32 ∷ 78 ∷ 97 ∷ 116 ∷ 32 ∷ 35 ∷ 32 ∷ 78 ∷ 97 ∷ 116 ∷ 32 ∷ 35 ∷ 32 ∷ 78 ∷ 97
    ∷ 116 ∷ 32 ∷ 35 ∷ 32 ∷ 78 ∷ 97 ∷ 116 ∷ 32 ∷ 35 ∷ 32 ∷ 78 ∷ 97 ∷ 116 ∷ 32 ∷ 45 ∷ 62 ∷ 32 ∷ 66 ∷ 111 ∷ 111 ∷ 108
    ∷ [])
    ∷ [])
    ≡ stuck []
    ∷ stuck (45 ∷ 62 ∷ 32 ∷ 78 ∷ 97 ∷ 116 ∷ [])
    ∷ stuck (45 ∷ 62 ∷ 32 ∷ 66 ∷ 111 ∷ 111 ∷ 108 ∷ [])
    ∷ stuck (78 ∷ 97 ∷ 116 ∷ [])
    ∷ stuck []
    ∷ stuck []
    ∷ stuck []
    ∷ stuck (41 ∷ [])
    ∷ stuck (41 ∷ [])
    ∷ stuck (80 ∷ 111 ∷ 115 ∷ [])
    ∷ stuck (78 ∷ 97 ∷ 116 ∷ 80 ∷ 111 ∷ 115 ∷ [])
    ∷ stuck (50 ∷ [])
    ∷ stuck (45 ∷ 32 ∷ 62 ∷ 80 ∷ 111 ∷ 115 ∷ [])
    ∷ stuck (40 ∷ 78 ∷ 97 ∷ 116 ∷ 41 ∷ [])
    ∷ stuck (41 ∷ [])
    ∷ stuck (40 ∷ 32 ∷ 80 ∷ 111 ∷ 115 ∷ [])
    ∷ stuck []
    ∷ stuck (40 ∷ 32 ∷ 80 ∷ 111 ∷ 115 ∷ 32 ∷ [])
    ∷ stuck []
    ∷ parsed (container ComplexSort.FSet pos) []
    ∷ parsed (function (arg nat no_args) (function (arg pos (arg bool no_args)) nat)) []
    ∷ parsed (container ComplexSort.List (function (arg nat (arg pos no_args)) bool)) []
    ∷ stuck (35 ∷ 32 ∷ 78 ∷ 97 ∷ 116 ∷ 32 ∷ 45 ∷ 62 ∷ 32 ∷ 66 ∷ 111 ∷ 111 ∷ 108 ∷ [])
    ∷ []
unfolding line Parse.ending Parse.sort Parse.sort_to Parse.rest Parse.rest_at Parse.alone Parse.snoc Parse.operand
    Parse.operand_at Parse.operand_of Parse.bracketed Parse.in_brackets Parse.closing Parse.meaning Parse.same_bytes Parse.sort_word
    Parse.op_word Tokens.next Tokens.start Tokens.skip Tokens.run Tokens.past
lines_are_read = refl

abbrev int : Tree
int = flat (primitive Sort.Int)

abbrev real : Tree
real = flat (primitive Sort.Real)

-- every word
words_are_read : map line (
    bytes_of "Bool" ∷ bytes_of "Pos" ∷ bytes_of "Nat" ∷ bytes_of "Int" ∷ bytes_of "Real" ∷ bytes_of "List(Int)" ∷ bytes_of "Set(Int)" ∷ bytes_of "FSet(Int)"
    ∷ bytes_of "Bag(Int)" ∷ bytes_of "FBag(Int)" ∷ bytes_of "int" ∷ bytes_of "Na" ∷ [])
    ≡ parsed bool [] ∷ parsed pos [] ∷ parsed nat [] ∷ parsed int [] ∷ parsed real [] ∷ parsed (container ComplexSort.List int) []
    ∷ parsed (container ComplexSort.Set int) [] ∷ parsed (container ComplexSort.FSet int) [] ∷ parsed (container ComplexSort.Bag int) []
    ∷ parsed (container ComplexSort.FBag int) [] ∷ stuck (bytes_of "int") ∷ stuck (bytes_of "Na") ∷ []
unfolding line Parse.ending Parse.sort Parse.sort_to Parse.rest Parse.rest_at Parse.alone Parse.snoc Parse.operand
    Parse.operand_at Parse.operand_of Parse.bracketed Parse.in_brackets Parse.closing Parse.meaning Parse.same_bytes Parse.sort_word
    Parse.op_word Tokens.next Tokens.start Tokens.skip Tokens.run Tokens.past
words_are_read = refl

-- the numbers below k, and those of a list that pass a test
unfoldable below : ℕ → List ℕ → List ℕ
below zero bs = bs
below (suc k) bs = below k (k ∷ bs)

abbrev kept : Bool → ℕ → List ℕ → List ℕ
kept true b bs = b ∷ bs
kept false b bs = bs

unfoldable passing : (ℕ → Bool) → List ℕ → List ℕ
passing p [] = []
passing p (b ∷ bs) = kept (p b) b (passing p bs)

abbrev is_token : NextToken → Bool
is_token end = false
is_token (word w bs) = true
is_token (open_bracket bs) = true
is_token (close_bracket bs) = true
is_token (hash bs) = true
is_token (arrow bs) = true
is_token bad = false

abbrev is_end : NextToken → Bool
is_end end = true
is_end (word w bs) = false
is_end (open_bracket bs) = false
is_end (close_bracket bs) = false
is_end (hash bs) = false
is_end (arrow bs) = false
is_end bad = false

-- of all bytes: those that start a token (with `>` after them), the letters, the spaces
bytes_that_start_a_token : passing (λ b. is_token (next is_letter (b ∷ bytes_of ">"))) (below 256 []) ≡ bytes_of
    "#()-ABCDEFGHIJKLMNOPQRSTUVWXYZabcdefghijklmnopqrstuvwxyz"
unfolding below passing Tokens.next Tokens.start Tokens.skip Tokens.run Tokens.past
bytes_that_start_a_token = refl

letters_are : passing is_letter (below 256 []) ≡ bytes_of "ABCDEFGHIJKLMNOPQRSTUVWXYZabcdefghijklmnopqrstuvwxyz"
unfolding below passing
letters_are = refl

spaces_are : passing (λ b. is_end (next is_letter (b ∷ []))) (below 256 []) ≡ bytes_of " "
unfolding below passing Tokens.next Tokens.start Tokens.skip Tokens.run Tokens.past
spaces_are = refl

tokens_are : map (next is_letter) (
    bytes_of " aZ1" ∷ bytes_of "( x" ∷ bytes_of ")x" ∷ bytes_of "#x" ∷ bytes_of "  ->x" ∷ bytes_of "-" ∷ bytes_of "- >" ∷ bytes_of "-?" ∷ bytes_of "-<"
    ∷ bytes_of ">" ∷ bytes_of "  " ∷ [] ∷ [])
    ≡ word (bytes_of "aZ") (bytes_of "1") ∷ open_bracket (bytes_of " x") ∷ close_bracket (bytes_of "x") ∷ hash (bytes_of "x") ∷ arrow (bytes_of "x")
    ∷ bad ∷ bad ∷ bad ∷ bad ∷ bad ∷ end ∷ end ∷ []
unfolding Tokens.next Tokens.start Tokens.skip Tokens.run Tokens.past
tokens_are = refl

-- sorts that have a text, a function as argument among them, and sorts that have none
abbrev written : List Tree
written =
    function (arg nat (arg pos no_args)) bool
    ∷ container ComplexSort.FBag (function (arg bool (arg pos (arg int no_args))) (function (arg real no_args) nat))
    ∷ function (arg (function (arg nat no_args) pos) (arg (container ComplexSort.List int) no_args)) bool ∷ []

abbrev unwritten : List Tree
unwritten =
    flat unit ∷ flat (def 3) ∷ flat (typevar 4) ∷ function no_args nat ∷ container ComplexSort.Set (flat unit) ∷ function (arg (flat (def 0)) no_args) nat
    ∷ function (arg nat (arg (flat unit) no_args)) nat ∷ function (arg nat no_args) (flat unit) ∷ []

texts_are : map Text.text written
    ≡ bytes_of "Nat # Pos -> Bool" ∷ bytes_of "FBag(Bool # Pos # Int -> Real -> Nat)" ∷ bytes_of "Nat -> Pos # List(Int) -> Bool" ∷ []
unfolding Text.text Text.texts Text.more Parse.sort_word Parse.op_word
texts_are = refl

writable_are : map Text.writable written ≡ true ∷ true ∷ true ∷ []
unfolding Text.writable Text.writables
writable_are = refl

unwritable_are : map Text.writable unwritten ≡ false ∷ false ∷ false ∷ false ∷ false ∷ false ∷ false ∷ false ∷ []
unfolding Text.writable Text.writables
unwritable_are = refl

nodes_are_counted : map Readable.size written ≡ 4 ∷ 8 ∷ 7 ∷ []
unfolding Readable.size Readable.sizes
nodes_are_counted = refl

-- the checks in their order, and the longest line
read_checks_are : map (λ (c : Check). Checks.code_of c.refusal) (Reading.read_checks [] [] 0 0 []) ≡ 1 ∷ 2 ∷ 3 ∷ 4 ∷ 14 ∷ 19 ∷ []
unfolding Reading.read_checks Checks.sort_checks Checks.code_of
read_checks_are = refl

-- the index after a sort, a check, 20 and no room
index_is : map (Reading.index_left (7 ∷ 8 ∷ []))
    (Ok (record { 0 = 5 }, record { sorts = 6; entries = 0 }) ∷ Err (Refused TooShort) ∷ Err (NotASort 3) ∷ Err NoRoom ∷ [])
    ≡ (0 ∷ 0 ∷ []) ∷ (7 ∷ 8 ∷ []) ∷ (7 ∷ 8 ∷ []) ∷ (0 ∷ 0 ∷ []) ∷ []
unfolding Reading.index_left
index_is = refl

write_checks_are : map (λ (c : Check). Checks.code_of c.refusal) (Writing.write_checks [] 0 0 0 []) ≡ 1 ∷ 2 ∷ 3 ∷ 4 ∷ 12 ∷ 13 ∷ 14 ∷ []
unfolding Writing.write_checks Checks.sort_checks Checks.code_of
write_checks_are = refl

longest_line : map Reading.short_line (below 200 [] ∷ below 201 [] ∷ []) ≡ true ∷ false ∷ []
unfolding below Reading.short_line
longest_line = refl
