-- A word's place is its number in the declaration, so two words of one place are one word, and `same_word` says so. Assumes nothing.
use mathlib.Core.Path.{◌≡◌, refl, sym, ap, ◌∙◌}
use Prim.Native.Nat.{ℕ}
use mathlib.Core.Bool.{true}
use lib.Dec.{eqb}
use lib.ListN.{get_or}
use borrow.Author.Tests.{eqb-true}
use denote.Enum.Bare.{sameb}
use denote.Enum.Declared.{tag_of}
use Rattle.list_tokens.specs.declared.Keyword.{Keyword}
use Rattle.list_tokens.specs.contracts.Keyword.{the_type}
use Rattle.list_tokens.specs.Words.{place_of, same_word, keywords}

place_is_tag : (k : Keyword) → place_of k ≡ tag_of the_type k
unfolding place_of
place_is_tag Keyword.List = refl
place_is_tag Keyword.Bare = refl
place_is_tag Keyword.Sort = refl
place_is_tag Keyword.Entries = refl
place_is_tag Keyword.Node = refl
place_is_tag Keyword.NodeEntries = refl
place_is_tag Keyword.Pad = refl
place_is_tag Keyword.Var = refl
place_is_tag Keyword.Vars = refl
place_is_tag Keyword.Bind = refl
place_is_tag Keyword.Expr = refl
place_is_tag Keyword.Name = refl
place_is_tag Keyword.Default = refl
place_is_tag Keyword.Ceilings = refl
place_is_tag Keyword.Count = refl
place_is_tag Keyword.Lend = refl
place_is_tag Keyword.Sub = refl
place_is_tag Keyword.Lit = refl
place_is_tag Keyword.Comprehension = refl
place_is_tag Keyword.Disjunction = refl
place_is_tag Keyword.Join = refl
place_is_tag Keyword.Constraint = refl
place_is_tag Keyword.Overload = refl
place_is_tag Keyword.Ask = refl
place_is_tag Keyword.Answer = refl
place_is_tag Keyword.ListOf = refl
place_is_tag Keyword.SetOf = refl
place_is_tag Keyword.FSetOf = refl
place_is_tag Keyword.BagOf = refl
place_is_tag Keyword.FBagOf = refl
place_is_tag Keyword.Fn = refl
place_is_tag Keyword.Def = refl
place_is_tag Keyword.TypeVar = refl
place_is_tag Keyword.Raw = refl
place_is_tag Keyword.Arrow = refl
place_is_tag Keyword.Variable = refl
place_is_tag Keyword.Op = refl
place_is_tag Keyword.Builtin = refl
place_is_tag Keyword.Positive = refl
place_is_tag Keyword.Natural = refl
place_is_tag Keyword.Sorts = refl
place_is_tag Keyword.Nodes = refl
place_is_tag Keyword.Bindings = refl
place_is_tag Keyword.Exprs = refl
place_is_tag Keyword.Names = refl
place_is_tag Keyword.Constraints = refl
place_is_tag Keyword.Overloads = refl
place_is_tag Keyword.Sources = refl
place_is_tag Keyword.Scratch = refl
place_is_tag Keyword.Index = refl
place_is_tag Keyword.OutTyping = refl
place_is_tag Keyword.OutMeasure = refl
place_is_tag Keyword.OutChoices = refl
place_is_tag Keyword.Solve = refl
place_is_tag Keyword.Unify = refl
place_is_tag Keyword.PartialCmp = refl
place_is_tag Keyword.Meet = refl
place_is_tag Keyword.WideningDistance = refl
place_is_tag Keyword.IsMaterializable = refl
place_is_tag Keyword.Unit = refl
place_is_tag Keyword.Bool = refl
place_is_tag Keyword.Pos = refl
place_is_tag Keyword.Nat = refl
place_is_tag Keyword.Int = refl
place_is_tag Keyword.Real = refl

pub same_words : (a b : Keyword) → sameb the_type a b ≡ eqb (place_of a) (place_of b)
same_words a b = ap (λ (n : ℕ). eqb n (tag_of the_type b)) (sym (place_is_tag a)) ∙ ap (eqb (place_of a)) (sym (place_is_tag b))

-- and a word is told by its place
word_at_its_place : (k : Keyword) → get_or keywords (place_of k) Keyword.List ≡ k
unfolding place_of
word_at_its_place Keyword.List = refl
word_at_its_place Keyword.Bare = refl
word_at_its_place Keyword.Sort = refl
word_at_its_place Keyword.Entries = refl
word_at_its_place Keyword.Node = refl
word_at_its_place Keyword.NodeEntries = refl
word_at_its_place Keyword.Pad = refl
word_at_its_place Keyword.Var = refl
word_at_its_place Keyword.Vars = refl
word_at_its_place Keyword.Bind = refl
word_at_its_place Keyword.Expr = refl
word_at_its_place Keyword.Name = refl
word_at_its_place Keyword.Default = refl
word_at_its_place Keyword.Ceilings = refl
word_at_its_place Keyword.Count = refl
word_at_its_place Keyword.Lend = refl
word_at_its_place Keyword.Sub = refl
word_at_its_place Keyword.Lit = refl
word_at_its_place Keyword.Comprehension = refl
word_at_its_place Keyword.Disjunction = refl
word_at_its_place Keyword.Join = refl
word_at_its_place Keyword.Constraint = refl
word_at_its_place Keyword.Overload = refl
word_at_its_place Keyword.Ask = refl
word_at_its_place Keyword.Answer = refl
word_at_its_place Keyword.ListOf = refl
word_at_its_place Keyword.SetOf = refl
word_at_its_place Keyword.FSetOf = refl
word_at_its_place Keyword.BagOf = refl
word_at_its_place Keyword.FBagOf = refl
word_at_its_place Keyword.Fn = refl
word_at_its_place Keyword.Def = refl
word_at_its_place Keyword.TypeVar = refl
word_at_its_place Keyword.Raw = refl
word_at_its_place Keyword.Arrow = refl
word_at_its_place Keyword.Variable = refl
word_at_its_place Keyword.Op = refl
word_at_its_place Keyword.Builtin = refl
word_at_its_place Keyword.Positive = refl
word_at_its_place Keyword.Natural = refl
word_at_its_place Keyword.Sorts = refl
word_at_its_place Keyword.Nodes = refl
word_at_its_place Keyword.Bindings = refl
word_at_its_place Keyword.Exprs = refl
word_at_its_place Keyword.Names = refl
word_at_its_place Keyword.Constraints = refl
word_at_its_place Keyword.Overloads = refl
word_at_its_place Keyword.Sources = refl
word_at_its_place Keyword.Scratch = refl
word_at_its_place Keyword.Index = refl
word_at_its_place Keyword.OutTyping = refl
word_at_its_place Keyword.OutMeasure = refl
word_at_its_place Keyword.OutChoices = refl
word_at_its_place Keyword.Solve = refl
word_at_its_place Keyword.Unify = refl
word_at_its_place Keyword.PartialCmp = refl
word_at_its_place Keyword.Meet = refl
word_at_its_place Keyword.WideningDistance = refl
word_at_its_place Keyword.IsMaterializable = refl
word_at_its_place Keyword.Unit = refl
word_at_its_place Keyword.Bool = refl
word_at_its_place Keyword.Pos = refl
word_at_its_place Keyword.Nat = refl
word_at_its_place Keyword.Int = refl
word_at_its_place Keyword.Real = refl

pub same_word_is_one_word : (a b : Keyword) → same_word a b ≡ true → a ≡ b
same_word_is_one_word a b h =
    sym (word_at_its_place a) ∙ (ap (λ (n : ℕ). get_or keywords n Keyword.List) (eqb-true (place_of a) (place_of b) h) ∙ word_at_its_place b)
