-- The pieces of a verdict's text, computed on a list of seven sorts and a function. Assumes nothing.
use mathlib.Core.Path.{◌≡◌, refl}
use mathlib.Core.List.{List, [], ◌∷◌, ◌++◌}
use Prim.Native.Nat.{ℕ}
use lib.ListN.{replicate}
use lib.Seq.{sets}
use Rattle.resolved_sort.specs.Interning.{look}
use Rattle.resolved_sort.specs.Storage.{resolved, look_all, tree_of, trees, entries_of}
use Rattle.sort_text.specs.Parse.{sort_word, op_word}
use Rattle.sort_text.specs.Text.{writable, text}
use Rattle.text_out.specs.Quoted.{bytes_of}
use Rattle.text_out.specs.Within.{puts, buffer}
use Rattle.list_verdict.specs.Words.{kind_word, message}
use Rattle.list_verdict.specs.Text.{rows_text, name, sort_name, short, sort_text, target_text, expr_line, separator}
use Rattle.list_verdict.specs.Text.{component, measure_line, choice_text, choice_list, choices_line, argument_text}
use Rattle.list_verdict.specs.Text.{parts, new_line, verdict_line, new_lines, typing_text}
use Rattle.text_out.specs.Decimal.{digit, decimal}

-- the fixed six, s6 Set Pos, s7 fn Bool s6 -> Nat, s8 Def 40513
abbrev sorts : List ℕ
sorts =
    sets
    (sets (replicate 4098 0) 0
    (0 ∷ 0 ∷ 0 ∷ 0 ∷ 1 ∷ 0 ∷ 0 ∷ 0 ∷ 2 ∷ 0 ∷ 0 ∷ 0 ∷ 3 ∷ 0 ∷ 0 ∷ 0 ∷ 4 ∷ 0 ∷ 0 ∷ 0 ∷ 5 ∷ 0 ∷ 0 ∷ 0 ∷ 7 ∷ 2 ∷ 0 ∷ 0 ∷ 11 ∷ 3 ∷ 0 ∷ 2 ∷ 12 ∷ 40513 ∷ []))
    4096 (1 ∷ 6 ∷ [])

-- four expressions: an operation of the sort s8, a variable, a builtin, no name
abbrev typing : List ℕ
typing = 7 ∷ 2 ∷ 8 ∷ 3 ∷ 1 ∷ 0 ∷ 6 ∷ 3 ∷ 0 ∷ 0 ∷ 0 ∷ 0 ∷ []

pub pieces_as_told :
    (typing_text sorts 9 typing (1 ∷ 0 ∷ []) (0 ∷ 1 ∷ 305 ∷ 20 ∷ []) 4 2 2)
    ∷ (typing_text sorts 9 [] [] [] 0 0 0)
    ∷ (new_lines sorts 6 9)
    ∷ (verdict_line 17)
    ∷ (verdict_line 18)
    ∷ (verdict_line 0)
    ∷ (verdict_line 7) ∷ []
    ≡ (bytes_of "e0: Bool # Set(Pos) -> Nat, op s8\n"
    ++ (bytes_of "e1: Nat, variable\n"
    ++ (bytes_of "e2: Set(Pos), builtin\n"
    ++ (bytes_of "e3: s0\n"
    ++ (bytes_of "measure [1, 0]\n"
    ++ (bytes_of "choices e0 1, e305 20\n"))))))
    ∷ (bytes_of "measure []\n"
    ++ (bytes_of "choices none\n"))
    ∷ (bytes_of "new s6 Set Pos\n"
    ++ (bytes_of "new s7 fn Bool s6 -> Nat\n"
    ++ (bytes_of "new s8 Def 40513\n")))
    ∷ (bytes_of "17 no typing found\n")
    ∷ (bytes_of "18 ambiguous: several leaves have the least measure\n")
    ∷ (bytes_of "0 a typing\n")
    ∷ (bytes_of "7 a variable reaches itself\n") ∷ []
unfolding look resolved look_all tree_of trees entries_of sort_word op_word writable text kind_word message rows_text digit
    decimal name sort_name short sort_text target_text expr_line separator component measure_line choice_text choice_list
    choices_line argument_text parts new_line verdict_line new_lines typing_text
pieces_as_told = refl

-- Bytes past the end are lost, and the place stays there.
pub cut_at_the_end : puts (9 ∷ 9 ∷ 9 ∷ []) 1 (1 ∷ 2 ∷ 3 ∷ 4 ∷ []) ≡ buffer (9 ∷ 1 ∷ 2 ∷ []) 3
unfolding puts
cut_at_the_end = refl
