-- A test of every number below n, run by `all` over a range, is the test that `all_below` defines: where every call said yes it passes at each number, and where one said no it fails there. Assumes nothing.
use mathlib.Core.Path.{◌≡◌, sym, ◌∙◌, ap}
use mathlib.Core.Logic.{⊎_elim}
use mathlib.Core.Bool.{Bool, true, false, and-false}
use mathlib.Core.List.{List}
use lib.ListN.{length, get_or}
use Prim.Native.Nat.{ℕ, zero, suc, ◌<◌}
use native.Mathlib.Omega.{arith}
use native.Mathlib.Nat.{eq-or-lt_of_le, le_of_suc-le-suc}
use denote.Param.Members.{Mut}
use Rattle.std.specs.Prelude.{Option}
use Rattle.std.specs.Bool.{MatchBool}
use Rattle.std.specs.Fn.{Called}
use Rattle.std.specs.Iterator.{YieldsThen}
use Rattle.std.specs.List.{range_with_len, FoldsTo, AllWithin, HoldsAt}
use Rattle.std.specs.Option.{MatchOption}
use Rattle.std.specs.declared.ops.Range.{Range}
use Rattle.std.proofs.iter.Yields.{nat_range_steps}
use Rattle.std.proofs.lemmas.Iterator.{cases_from_all, YieldsList-from_range}
use Rattle.std.proofs.lemmas.List.FromFn.{length-range_with_len, get_or-range_with_len}
use Rattle.resolved_sort.specs.Checks.{all_below}
use Rattle.resolved_sort.proofs.Below.{each_below}

pub all_below_fails : (p : ℕ → Bool) (n i : ℕ) → i < n → p i ≡ false → all_below n p ≡ false
unfolding all_below
all_below_fails p zero i h e = absurd (omega arith)
all_below_fails p (suc n) i h e =
    ⊎_elim (λ z. rw (← z, e) (and-false (all_below i p))) (λ k. rw (all_below_fails p n i k e)) (eq-or-lt_of_le (le_of_suc-le-suc h))

by_cases : (n : ℕ) (p : ℕ → Bool) (r : Bool)
    → MatchBool r (AllWithin (λ x. p x ≡ true) (range_with_len 0 n) 0 (length (range_with_len 0 n))) ((k : ℕ) × (k < length (range_with_len 0 n)) × HoldsAt (λ x. p x ≡ false) (range_with_len 0 n) k)
    → r ≡ all_below n p
by_cases n p true h =
    sym (each_below n p (λ k l.
    let e : k ≡ get_or (range_with_len 0 n) k 0 = omega (arith, get_or-range_with_len 0 n k 0 l) in
    ap p e ∙ h k 0 (omega arith) (rw (length-range_with_len 0 n) l)))
by_cases n p false (k, l, h) =
    let m : k < n = rw (← length-range_with_len 0 n) l in
    let e : k ≡ get_or (range_with_len 0 n) k 0 = omega (arith, get_or-range_with_len 0 n k 0 m) in
    sym (all_below_fails p n k m (ap p e ∙ h 0))

pub all_below_by_all : {F : Type 0} {g : Mut F (ℕ × Unit {0}) Bool} {s : Range ℕ} (u : Range ℕ) (f : F) (r : Bool) (n : ℕ) (p : ℕ → Bool)
    → s ≡ record { start = 0; end = n }
    → (xs : List ℕ) × (o : Option ℕ) × (j : F) × YieldsThen nat_range_steps s xs o u × FoldsTo (λ p x q. Called g p (x, tt) true q) f xs j × MatchOption o (r ≡ true) (λ x. (r ≡ false) × ((h : F) × Called g j (x, tt) false h))
    → ((x : ℕ) (b : Bool) (q : F) → Called g f (x, tt) b q → (q ≡ f) × (b ≡ p x))
    → r ≡ all_below n p
all_below_by_all u f r n p is ran each =
    by_cases n p r (cases_from_all u f r (λ x. p x ≡ true) (λ x. p x ≡ false) ran (YieldsList-from_range 0 n n is (omega arith))
    (λ x q k. let e = each x true q k in (e.0, sym e.1)) (λ x q k. sym (each x false q k).1))
