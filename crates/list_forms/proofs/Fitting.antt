-- A line fits a form of its own length if each word is of its item; a first word of another item ends the fit, and one of its item leaves
-- it to the rest. Assumes nothing.
use mathlib.Core.Path.{◌≡◌, refl, sym, ap}
use mathlib.Core.Bool.{Bool, true, false, not, ◌&&◌}
use mathlib.Core.List.{List, ◌∷◌}
use lib.Dec.{eqb, eqb-suc-suc}
use lib.ListN.{length}
use borrow.Author.Tests.{eq-eqb, not-true, not-false}
use Rattle.std.specs.List.{list_all, zip}
use Rattle.list_tokens.specs.declared.Token.{Token}
use Rattle.list_forms.specs.declared.Item.{Item}
use Rattle.list_forms.specs.Items.{is_of, fits_form}

pub fits_at_a_length :
    (t : List Token) (form : List Item) → length t ≡ length form
    → (r : Bool) → r ≡ list_all (λ p. is_of p.0 p.1) (zip form t) → r ≡ fits_form t form
unfolding fits_form
fits_at_a_length t form e r h = rw (eq-eqb _ _ e) h

-- what the first word says of the rest of the line
and_no : (b : Bool) → b && false ≡ false
and_no true = refl
and_no false = refl

module _ (v : Token) (t : List Token) (item : Item) (form : List Item) (r : Bool) (f : r ≡ is_of item v) where
  told : is_of item v ≡ r
  told = sym f

  pub another_word : not r ≡ true → fits_form (v ∷ t) (item ∷ form) ≡ false
  unfolding fits_form
  another_word n = rw (told, not-true r n) (and_no (eqb (length (v ∷ t)) (length (item ∷ form))))

  pub this_word : not r ≡ false → fits_form (v ∷ t) (item ∷ form) ≡ fits_form t form
  unfolding fits_form
  this_word n =
      rw (told, not-false r n)
      (ap (λ (b : Bool). b && list_all (λ p. is_of p.0 p.1) (zip form t)) (eqb-suc-suc (length t) (length form)))
