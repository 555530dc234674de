-- Each word of the format is read as itself, and what is read as a word of the format is spelled as it is: so no two words have one
-- spelling, and none is missing among those that are looked up. Word by word, and by what `find` answers. Assumes nothing.
use mathlib.Core.Path.{◌≡◌, refl, sym, ap, subst, ◌∙◌}
use mathlib.Core.Bool.{Bool, true, false, cond}
use mathlib.Core.List.{List, [], ◌∷◌}
use Prim.Native.Nat.{ℕ}
use Rattle.std.specs.Prelude.{Some}
use Rattle.std.specs.List.{find}
use Rattle.sort_text.specs.Parse.{same_bytes}
use Rattle.sort_text.proofs.Words.{same_bytes_equal}
use Rattle.list_tokens.specs.declared.Keyword.{Keyword}
use Rattle.list_tokens.specs.Words.{spelling, keywords, keyword_of}

pub each_word_is_read_as_itself : (k : Keyword) → keyword_of (spelling k) ≡ Some k
unfolding spelling keyword_of same_bytes
each_word_is_read_as_itself Keyword.List = refl
each_word_is_read_as_itself Keyword.Bare = refl
each_word_is_read_as_itself Keyword.Sort = refl
each_word_is_read_as_itself Keyword.Entries = refl
each_word_is_read_as_itself Keyword.Node = refl
each_word_is_read_as_itself Keyword.NodeEntries = refl
each_word_is_read_as_itself Keyword.Pad = refl
each_word_is_read_as_itself Keyword.Var = refl
each_word_is_read_as_itself Keyword.Vars = refl
each_word_is_read_as_itself Keyword.Bind = refl
each_word_is_read_as_itself Keyword.Expr = refl
each_word_is_read_as_itself Keyword.Name = refl
each_word_is_read_as_itself Keyword.Default = refl
each_word_is_read_as_itself Keyword.Ceilings = refl
each_word_is_read_as_itself Keyword.Count = refl
each_word_is_read_as_itself Keyword.Lend = refl
each_word_is_read_as_itself Keyword.Sub = refl
each_word_is_read_as_itself Keyword.Lit = refl
each_word_is_read_as_itself Keyword.Comprehension = refl
each_word_is_read_as_itself Keyword.Disjunction = refl
each_word_is_read_as_itself Keyword.Join = refl
each_word_is_read_as_itself Keyword.Constraint = refl
each_word_is_read_as_itself Keyword.Overload = refl
each_word_is_read_as_itself Keyword.Ask = refl
each_word_is_read_as_itself Keyword.Answer = refl
each_word_is_read_as_itself Keyword.ListOf = refl
each_word_is_read_as_itself Keyword.SetOf = refl
each_word_is_read_as_itself Keyword.FSetOf = refl
each_word_is_read_as_itself Keyword.BagOf = refl
each_word_is_read_as_itself Keyword.FBagOf = refl
each_word_is_read_as_itself Keyword.Fn = refl
each_word_is_read_as_itself Keyword.Def = refl
each_word_is_read_as_itself Keyword.TypeVar = refl
each_word_is_read_as_itself Keyword.Raw = refl
each_word_is_read_as_itself Keyword.Arrow = refl
each_word_is_read_as_itself Keyword.Variable = refl
each_word_is_read_as_itself Keyword.Op = refl
each_word_is_read_as_itself Keyword.Builtin = refl
each_word_is_read_as_itself Keyword.Positive = refl
each_word_is_read_as_itself Keyword.Natural = refl
each_word_is_read_as_itself Keyword.Sorts = refl
each_word_is_read_as_itself Keyword.Nodes = refl
each_word_is_read_as_itself Keyword.Bindings = refl
each_word_is_read_as_itself Keyword.Exprs = refl
each_word_is_read_as_itself Keyword.Names = refl
each_word_is_read_as_itself Keyword.Constraints = refl
each_word_is_read_as_itself Keyword.Overloads = refl
each_word_is_read_as_itself Keyword.Sources = refl
each_word_is_read_as_itself Keyword.Scratch = refl
each_word_is_read_as_itself Keyword.Index = refl
each_word_is_read_as_itself Keyword.OutTyping = refl
each_word_is_read_as_itself Keyword.OutMeasure = refl
each_word_is_read_as_itself Keyword.OutChoices = refl
each_word_is_read_as_itself Keyword.Solve = refl
each_word_is_read_as_itself Keyword.Unify = refl
each_word_is_read_as_itself Keyword.PartialCmp = refl
each_word_is_read_as_itself Keyword.Meet = refl
each_word_is_read_as_itself Keyword.WideningDistance = refl
each_word_is_read_as_itself Keyword.IsMaterializable = refl
each_word_is_read_as_itself Keyword.Unit = refl
each_word_is_read_as_itself Keyword.Bool = refl
each_word_is_read_as_itself Keyword.Pos = refl
each_word_is_read_as_itself Keyword.Nat = refl
each_word_is_read_as_itself Keyword.Int = refl
each_word_is_read_as_itself Keyword.Real = refl

-- what is found is of the list's test
found_is_tested : (p : Keyword → Bool) (ks : List Keyword) (k : Keyword) → find p ks ≡ Some k → p k ≡ true
found_is_tested p [] k e = absurd cc
found_is_tested p (x ∷ xs) k e = go (p x) refl e (found_is_tested p xs k)
  where
    go : (b : Bool) → p x ≡ b → cond b (Some x) (find p xs) ≡ Some k → (find p xs ≡ Some k → p k ≡ true) → p k ≡ true
    go true f e h = let q : x ≡ k = cc in subst (λ (y : Keyword). p y ≡ true) q f
    go false f e h = h e

pub word_is_spelled_as_read : (w : List ℕ) (k : Keyword) → keyword_of w ≡ Some k → w ≡ spelling k
unfolding keyword_of
word_is_spelled_as_read w k e = same_bytes_equal w (spelling k) (found_is_tested (λ x. same_bytes w (spelling x)) keywords k e)

pub words_are_told_apart : (a b : Keyword) → spelling a ≡ spelling b → a ≡ b
words_are_told_apart a b e =
    let q : Some a ≡ Some b = sym (each_word_is_read_as_itself a) ∙ (ap keyword_of e ∙ each_word_is_read_as_itself b) in cc
