-- What is said of a line tells what was expected there: no two forms have one message. Form by form. Assumes nothing.
use mathlib.Core.Path.{◌≡◌, refl, sym, ap, ◌∙◌}
use mathlib.Core.Bool.{Bool, true, false, cond}
use mathlib.Core.List.{List, [], ◌∷◌}
use Prim.Native.Nat.{ℕ}
use lib.Dec.{eqb}
use Rattle.std.specs.Prelude.{Option, Some}
use Rattle.std.specs.List.{find}
use Rattle.list_memory.specs.declared.Form.{Form}
use Rattle.list_messages.specs.Messages.{form_text, bad_text}

same : List ℕ → List ℕ → Bool
same [] [] = true
same [] (c ∷ cs) = false
same (b ∷ bs) [] = false
same (b ∷ bs) (c ∷ cs) = cond (eqb b c) (same bs cs) false

abbrev forms : List Form
forms =
    Form.Printable ∷ Form.Length ∷ Form.List ∷ Form.Question ∷ Form.Asked ∷ Form.Keyword ∷ Form.Next ∷ Form.Bare
    ∷ Form.Sort ∷ Form.Node ∷ Form.Entries ∷ Form.NodeEntries ∷ Form.Pad ∷ Form.Var ∷ Form.Vars ∷ Form.Bind
    ∷ Form.Unbound ∷ Form.Expr ∷ Form.Name ∷ Form.Names ∷ Form.Default ∷ Form.Sub ∷ Form.Lit ∷ Form.Comprehension
    ∷ Form.Disjunction ∷ Form.Overload ∷ Form.Join ∷ Form.Sources ∷ Form.Constraint ∷ Form.Count ∷ Form.Lend
    ∷ Form.Ceilings ∷ Form.Asks ∷ []

-- the first form that has a text
form_of : List ℕ → Option Form
form_of text = find (λ f. same text (bad_text f)) forms

text_is_of_its_form : (f : Form) → form_of (bad_text f) ≡ Some f
unfolding form_of same form_text bad_text
text_is_of_its_form Form.Printable = refl
text_is_of_its_form Form.Length = refl
text_is_of_its_form Form.List = refl
text_is_of_its_form Form.Question = refl
text_is_of_its_form Form.Asked = refl
text_is_of_its_form Form.Keyword = refl
text_is_of_its_form Form.Next = refl
text_is_of_its_form Form.Bare = refl
text_is_of_its_form Form.Sort = refl
text_is_of_its_form Form.Node = refl
text_is_of_its_form Form.Entries = refl
text_is_of_its_form Form.NodeEntries = refl
text_is_of_its_form Form.Pad = refl
text_is_of_its_form Form.Var = refl
text_is_of_its_form Form.Vars = refl
text_is_of_its_form Form.Bind = refl
text_is_of_its_form Form.Unbound = refl
text_is_of_its_form Form.Expr = refl
text_is_of_its_form Form.Name = refl
text_is_of_its_form Form.Names = refl
text_is_of_its_form Form.Default = refl
text_is_of_its_form Form.Sub = refl
text_is_of_its_form Form.Lit = refl
text_is_of_its_form Form.Comprehension = refl
text_is_of_its_form Form.Disjunction = refl
text_is_of_its_form Form.Overload = refl
text_is_of_its_form Form.Join = refl
text_is_of_its_form Form.Sources = refl
text_is_of_its_form Form.Constraint = refl
text_is_of_its_form Form.Count = refl
text_is_of_its_form Form.Lend = refl
text_is_of_its_form Form.Ceilings = refl
text_is_of_its_form Form.Asks = refl

pub message_tells_its_form : (f g : Form) → bad_text f ≡ bad_text g → f ≡ g
message_tells_its_form f g e =
    let q : Some f ≡ Some g = sym (text_is_of_its_form f) ∙ (ap form_of e ∙ text_is_of_its_form g) in cc
