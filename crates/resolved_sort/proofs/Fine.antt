-- Check 3 of a row, as facts: its parts are below it, and a function's run is short and inside the entries. Both ways, by
-- the fourteen kinds. Assumes nothing.
use mathlib.Core.Path.{◌≡◌, refl, sym, subst}
use mathlib.Core.Bool.{true, ◌&&◌, and-eq-true_iff}
use mathlib.Core.List.{List}
use Prim.Native.Nat.{ℕ, zero, suc, ◌+◌, ◌<◌, ◌≤◌}
use native.Mathlib.Omega.{arith}
use native.Mathlib.Nat.{add-zero}
use lib.Dec.{leb, ltb}
use borrow.Author.Tests.{leb-true, lt-ltb, le-leb}
use Rattle.resolved_sort.specs.Storage.{last_kind, function_kind, kind_at, part_at, start_at, count_at, entry_at, entries_of, words_at, resolved, row_at}
use Rattle.resolved_sort.specs.Checks.{all_below, parts_below, row_fine_of}
use Rattle.resolved_sort.proofs.Below.{each_below}
use Rattle.resolved_sort.proofs.RowTrees.{AllBelow, Within, by_kind, read}

-- a function's run has at most 16 arguments and stays inside the entries
pub record RunInside (ws : List ℕ) (e i : ℕ) : Type 0 where
  pub short : count_at ws i ≤ 16
  pub inside : start_at ws i + count_at ws i ≤ e

pub run_below : (ws : List ℕ) (i s c : ℕ) → AllBelow i (entries_of ws s c) → (j : ℕ) → j < c → entry_at ws (s + j) < i
unfolding AllBelow entries_of
run_below ws i s zero h j l = absurd (omega arith)
run_below ws i s (suc c) h zero l = subst (λ j. entry_at ws j < i) (sym (add-zero s)) h.0
run_below ws i s (suc c) h (suc j) l = subst (λ k. entry_at ws k < i) (omega arith) (run_below ws i (s + 1) c h.1 j (omega arith))

module _ (ws : List ℕ) (e i p s c : ℕ) where
  abbrev Run : ℕ → Type 0
  Run k = k ≡ function_kind → (c ≤ 16) × (s + c ≤ e)

  abbrev Inside : ℕ → Type 0
  Inside k = parts_below ws e i (resolved k p (record { start = s; count = c })) ≡ true → Run k

  abbrev Passes : ℕ → Type 0
  Passes k = Within i (read ws e i p s c k) → Run k → parts_below ws e i (resolved k p (record { start = s; count = c })) ≡ true

  function_inside : (leb c 16 && leb (s + c) e && ltb p i && all_below c (λ j. ltb (entry_at ws (s + j)) i)) ≡ true → (c ≤ 16) × (s + c ≤ e)
  function_inside t =
      let u = (and-eq-true_iff (leb c 16 && leb (s + c) e && ltb p i) (all_below c (λ j. ltb (entry_at ws (s + j)) i))).0 t in
      let v = (and-eq-true_iff (leb c 16 && leb (s + c) e) (ltb p i)).0 u.0 in
      let x = (and-eq-true_iff (leb c 16) (leb (s + c) e)).0 v.0 in
      (leb-true c 16 x.0, leb-true (s + c) e x.1)

  function_passes : Within i (record { kind = 11; part = p; args = entries_of ws s c }) → (c ≤ 16) × (s + c ≤ e)
      → (leb c 16 && leb (s + c) e && ltb p i && all_below c (λ j. ltb (entry_at ws (s + j)) i)) ≡ true
  function_passes w f =
      rw (le-leb c 16 f.0, le-leb (s + c) e f.1, lt-ltb p i (w.part (omega arith) (omega arith)))
      (each_below c (λ j. ltb (entry_at ws (s + j)) i) (λ j l. lt-ltb _ _ (run_below ws i s c w.args j l)))

  inside : (k : ℕ) → k ≤ last_kind → Inside k
  unfolding parts_below resolved
  inside k l = by_kind Inside
      (λ h f. absurd (omega arith))
      (λ h f. absurd (omega arith))
      (λ h f. absurd (omega arith))
      (λ h f. absurd (omega arith))
      (λ h f. absurd (omega arith))
      (λ h f. absurd (omega arith))
      (λ h f. absurd (omega arith))
      (λ h f. absurd (omega arith))
      (λ h f. absurd (omega arith))
      (λ h f. absurd (omega arith))
      (λ h f. absurd (omega arith))
      (λ h f. function_inside h)
      (λ h f. absurd (omega arith))
      (λ h f. absurd (omega arith))
      k l

  passes : (k : ℕ) → k ≤ last_kind → Passes k
  unfolding parts_below resolved
  passes k l = by_kind Passes
      (λ w f. refl)
      (λ w f. refl)
      (λ w f. refl)
      (λ w f. refl)
      (λ w f. refl)
      (λ w f. refl)
      (λ w f. lt-ltb p i (w.part (omega arith) (omega arith)))
      (λ w f. lt-ltb p i (w.part (omega arith) (omega arith)))
      (λ w f. lt-ltb p i (w.part (omega arith) (omega arith)))
      (λ w f. lt-ltb p i (w.part (omega arith) (omega arith)))
      (λ w f. lt-ltb p i (w.part (omega arith) (omega arith)))
      (λ w f. function_passes w (f refl))
      (λ w f. refl)
      (λ w f. refl)
      k l

pub run_inside : (ws : List ℕ) (e i : ℕ) → row_fine_of ws e i ≡ true → kind_at ws i ≡ function_kind → RunInside ws e i
unfolding row_fine_of
run_inside ws e i h f =
    let p = (and-eq-true_iff (leb (kind_at ws i) last_kind) (parts_below ws e i (row_at ws i))).0 h in
    let q = inside ws e i (part_at ws i) (start_at ws i) (count_at ws i) (kind_at ws i) (leb-true _ _ p.0) p.1 f in
    record { short = q.0; inside = q.1 }

pub row_fine : (ws : List ℕ) (e i : ℕ) → Within i (words_at ws i) → (kind_at ws i ≡ function_kind → RunInside ws e i) → row_fine_of ws e i ≡ true
unfolding row_fine_of
row_fine ws e i w r =
    (and-eq-true_iff (leb (kind_at ws i) last_kind) (parts_below ws e i (row_at ws i))).1
    (le-leb _ _ w.known, passes ws e i (part_at ws i) (start_at ws i) (count_at ws i) (kind_at ws i) w.known w (λ f. ((r f).short, (r f).inside)))
