-- An arm of a match that takes several tokens knows that the token's number is among theirs: so it is no other token. Assumes nothing.
use mathlib.Core.Path.{◌≡◌}
use mathlib.Core.Bool.{not}
use mathlib.Core.List.{List}
use Prim.Native.Nat.{ℕ}
use lib.Dec.{T}
use mir.Val.{has_key}
use types.Run.{OneOf, miss}
use denote.Enum.Declared.{tag_of}
use Rattle.sort_lexer.specs.declared.Token.{Token}
use Rattle.sort_lexer.specs.contracts.Token.{the_type}

-- End 0, Word 1, Open 2, Close 3, Hash 4, Arrow 5, Bad 6
pub no_other_token : (ks : List ℕ) (t u : Token) → OneOf ks (tag_of the_type t) → T (not (has_key ks (tag_of the_type u))) → t ≡ u → ⊥
no_other_token ks t u f g e = miss ks (tag_of the_type u) g (rw e at f)
