-- The words of sample lines, computed from the definitions. Assumes nothing.
use mathlib.Core.Path.{◌≡◌, refl}
use mathlib.Core.List.{[], ◌∷◌, map}
use Prim.Native.String.{String}
use Rattle.sort_text.specs.Parse.{same_bytes}
use Rattle.sort_text.specs.Tokens.{run, past, skip}
use Rattle.list_tokens.specs.declared.Keyword.{Keyword}
use Rattle.list_tokens.specs.declared.Token.{Token}
use Rattle.list_tokens.specs.declared.Token.TheVariants.{Number, Sort, Node, Var, Expr}
use Rattle.list_tokens.specs.declared.Start.TheVariants.{Skipped, Answer, NewList, Other}
use Rattle.list_tokens.specs.Words.{spelling, keyword_of}
use Rattle.text_out.specs.Quoted.{bytes_of}
use Rattle.list_tokens.specs.Tokens.{decimal_read, number_read, name_token, token_of, tokens_from, line_start}

word : Keyword → Token
word k = Token.Keyword k

-- words of each class; numbers at the border; what is no number and no name
tokens_of_lines :
    map (λ (text : String). tokens_from 6 (bytes_of text))
    ("  sort  s6 Set Nat "
    ∷ "node n1 fn n0 -> Real"
    ∷ "is_materializable ? = - out-choices ->"
    ∷ "0 9 65535 65536 00 07"
    ∷ "s65535 n0 v12 e3 s65536 n"
    ∷ "Sort -1 +1 s-1 1a n01"
    ∷ ""
    ∷ "   "
    ∷ [])
    ≡ (word Keyword.Sort ∷ Sort 6 ∷ word Keyword.SetOf ∷ word Keyword.Nat ∷ [])
    ∷ (word Keyword.Node ∷ Node 1 ∷ word Keyword.Fn ∷ Node 0 ∷ word Keyword.Arrow ∷ word Keyword.Real ∷ [])
    ∷ (word Keyword.IsMaterializable ∷ word Keyword.Ask ∷ word Keyword.Answer ∷ Token.Other ∷ word Keyword.OutChoices ∷ word Keyword.Arrow ∷ [])
    ∷ (Number 0 ∷ Number 9 ∷ Number 65535 ∷ Token.Other ∷ Token.Other ∷ Token.Other ∷ [])
    ∷ (Sort 65535 ∷ Node 0 ∷ Var 12 ∷ Expr 3 ∷ Token.Other ∷ Token.Other ∷ [])
    ∷ (Token.Other ∷ Token.Other ∷ Token.Other ∷ Token.Other ∷ Token.Other ∷ Token.Other ∷ [])
    ∷ []
    ∷ []
    ∷ []
unfolding word spelling keyword_of decimal_read number_read name_token token_of tokens_from same_bytes run past skip
tokens_of_lines = refl

starts_of_lines :
    map (λ (text : String). line_start (bytes_of text)) ("" ∷ "  " ∷ " # sort" ∷ "list" ∷ " list a set" ∷ "lists" ∷ "= 0" ∷ "=0" ∷ "sub n0 n1" ∷ [])
    ≡ Skipped ∷ Skipped ∷ Skipped ∷ NewList ∷ NewList ∷ Other ∷ Answer ∷ Other ∷ Other ∷ []
unfolding spelling keyword_of decimal_read number_read name_token token_of line_start same_bytes run past skip
starts_of_lines = refl
