-- The tokens of the line `  Nat- >(#)->`, computed from the definitions. Assumes nothing.
use mathlib.Core.Path.{◌≡◌, refl}
use mathlib.Core.List.{[], ◌∷◌, map}
use Prim.Native.Nat.{ℕ}
use Rattle.sort_text.specs.Tokens
use Rattle.sort_lexer.specs.declared.Token.{Token}
use Rattle.sort_lexer.specs.declared.Token.TheVariants.{End, Word, Open, Close, Hash, Arrow, Bad}
use Rattle.sort_lexer.specs.declared.Lexeme.{Lexeme}
use Rattle.sort_lexer.specs.Inner.Lexeme.{lexeme, lexeme_of}

abbrev found : Token → ℕ → ℕ → Lexeme
found t i j = record { token = t; at = i; next = j }

-- from the start, at each token, and past the end
tokens_are_found :
    map (lexeme_of (32 ∷ 32 ∷ 78 ∷ 97 ∷ 116 ∷ 45 ∷ 32 ∷ 62 ∷ 40 ∷ 35 ∷ 41 ∷ 45 ∷ 62 ∷ [])) (0 ∷ 5 ∷ 6 ∷ 8 ∷ 9 ∷ 10 ∷ 11 ∷ 12 ∷ 13 ∷ 14 ∷ [])
    ≡ found Word 2 5
    ∷ found Bad 5 5
    ∷ found Bad 7 7
    ∷ found Open 8 9
    ∷ found Hash 9 10
    ∷ found Close 10 11
    ∷ found Arrow 11 13
    ∷ found Bad 12 12
    ∷ found End 13 13
    ∷ found End 13 13
    ∷ []
unfolding lexeme_of lexeme Tokens.next Tokens.start Tokens.skip Tokens.run Tokens.past
tokens_are_found = refl
