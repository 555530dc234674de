-- What holds of the refusal of each check holds of the one that fails. Assumes nothing.
use mathlib.Core.Path.{◌≡◌, subst, refl, sym, ◌∙◌}
use mathlib.Core.Bool.{Bool, true, false, cond}
use mathlib.Core.List.{List, [], ◌∷◌, ◌++◌}
use Rattle.std.specs.Prelude.{Ok, Err}
use Rattle.resolved_sort.specs.declared.Refusal.{Refusal}
use Rattle.resolved_sort.proofs.Reached.{no_confusion}
use Rattle.resolved_sort.specs.Checks.{Check, Tested, first_failing}
use mathlib.Core.Logic.{◌↔◌}
use Rattle.resolved_sort.proofs.FirstFailing.{first_fails, first_passes, append_fails, append_passes}

-- what holds of the refusal of each check holds of the one that fails
module _ (P : Refusal → Type 0) where
  abbrev pub EachNumber : List Check → Type 0
  EachNumber [] = Unit {0}
  EachNumber (c ∷ cs) = P c.refusal × EachNumber cs

  pub failing_number : (cs : List Check) (c : Refusal) → EachNumber cs → first_failing cs ≡ Err c → P c
  unfolding first_failing
  failing_number [] c h e = no_confusion cc
  failing_number (k ∷ cs) c h e = go k.passes e (failing_number cs c h.1)
    where
      go : (b : Bool) → cond b (first_failing cs) (Err k.refusal) ≡ Err c → (first_failing cs ≡ Err c → P c) → P c
      go true e ih = ih e
      go false e ih = let z : k.refusal ≡ c = cc in subst P z h.0

-- a check whose refusal no other has: it is the first that fails exactly if those before it pass and it fails
module _ (xs : List Check) (k : Check) (ys : List Check) where
  abbrev pub Other : Refusal → Type 0
  Other c = c ≡ k.refusal → ⊥

  module _ (before : EachNumber Other xs) (behind : EachNumber Other ys) where
    first_passed : first_failing (xs ++ (k ∷ ys)) ≡ Err k.refusal → first_failing xs ≡ Ok tt
    first_passed e = go (first_failing xs) refl
      where
        go : (o : Tested) → first_failing xs ≡ o → o ≡ Ok tt
        go (Ok u) x = refl
        go (Err c) x =
            let y : Err c ≡ Err k.refusal = sym (append_fails xs (k ∷ ys) c x) ∙ e in
            let z : c ≡ k.refusal = cc in
            absurd (failing_number Other xs c before x z)

    this_fails : first_failing (k ∷ ys) ≡ Err k.refusal → k.passes ≡ false
    this_fails e = go k.passes refl
      where
        go : (b : Bool) → k.passes ≡ b → b ≡ false
        go true x = absurd (failing_number Other ys k.refusal behind (sym (first_passes k ys x) ∙ e) refl)
        go false x = refl

    pub fails_first : (first_failing (xs ++ (k ∷ ys)) ≡ Err k.refusal) ↔ ((first_failing xs ≡ Ok tt) × (k.passes ≡ false))
    fails_first = (
      λ e. let p = first_passed e in (p, this_fails (sym (append_passes xs (k ∷ ys) p) ∙ e)),
      λ h. append_passes xs
          (k ∷ ys) h.0 ∙ first_fails k ys h.1,
    )
