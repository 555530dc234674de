-- The first failing check of a list of checks, one check after another. By cases on the first. Assumes nothing.
use mathlib.Core.Path.{◌≡◌, refl}
use mathlib.Core.Bool.{Bool, true, false, cond}
use mathlib.Core.List.{List, [], ◌∷◌, ◌++◌}
use Rattle.std.specs.Prelude.{Ok, Err}
use Rattle.resolved_sort.specs.declared.Refusal.{Refusal}
use Rattle.resolved_sort.specs.Checks.{Check, Tested, first_failing}
use Rattle.resolved_sort.proofs.Reached.{no_confusion}

pub first_fails : (c : Check) (cs : List Check) → c.passes ≡ false → first_failing (c ∷ cs) ≡ Err c.refusal
unfolding first_failing
first_fails c cs e = rw e

pub first_passes : (c : Check) (cs : List Check) → c.passes ≡ true → first_failing (c ∷ cs) ≡ first_failing cs
unfolding first_failing
first_passes c cs e = rw e

by_first : (b : Bool) (x y : Tested) (r f : Refusal) → cond b x (Err f) ≡ Err r → (x ≡ Err r → y ≡ Err r)
    → cond b y (Err f) ≡ Err r
by_first true x y r f e h = h e
by_first false x y r f e h = e

pub append_fails : (xs ys : List Check) (r : Refusal) → first_failing xs ≡ Err r → first_failing (xs ++ ys) ≡ Err r
unfolding first_failing
append_fails [] ys r e = no_confusion cc
append_fails (x ∷ xs) ys r e =
    by_first x.passes (first_failing xs) (first_failing (xs ++ ys)) r x.refusal e (append_fails xs ys r)

by_passing : (b : Bool) (x y z : Tested) (f : Refusal) → cond b x (Err f) ≡ Ok tt → (x ≡ Ok tt → y ≡ z)
    → cond b y (Err f) ≡ z
by_passing true x y z f e h = h e
by_passing false x y z f e h = no_confusion cc

pub append_passes : (xs ys : List Check) → first_failing xs ≡ Ok tt → first_failing (xs ++ ys) ≡ first_failing ys
unfolding first_failing
append_passes [] ys e = refl
append_passes (x ∷ xs) ys e =
    by_passing x.passes (first_failing xs) (first_failing (xs ++ ys)) (first_failing ys) x.refusal e (append_passes xs ys)

both : (b : Bool) (x : Tested) (f : Refusal) → cond b x (Err f) ≡ Ok tt → (b ≡ true) × (x ≡ Ok tt)
both true x f e = (refl, e)
both false x f e = no_confusion cc

pub cons_passes : (c : Check) (cs : List Check) → first_failing (c ∷ cs) ≡ Ok tt → (c.passes ≡ true) × (first_failing cs ≡ Ok tt)
unfolding first_failing
cons_passes c cs e = both c.passes (first_failing cs) c.refusal e
