-- Words stored from the front on lie over the old ones; and the loop that stores a measure. Assumes nothing.
use mathlib.Core.Path.{◌≡◌, sym, ap, ◌∙◌}
use mathlib.Core.List.{List, ◌++◌}
use Prim.Native.Nat.{ℕ, suc, ◌+◌, ◌-◌, ◌<◌, ◌≤◌}
use native.Mathlib.Omega.{arith}
use lib.ListN.{length, get_or, set, drop}
use lib.Seq.{sets, sets-eq}
use Rattle.inference.specs.SolveEntry.{written_over}
use Rattle.search_state.specs.Inner.Memory.{best_measure_at}
use Rattle.words.specs.Words.{part}
use Rattle.words.proofs.Parts.{part_first}

pub stored_is_over : (vs old : List ℕ) → length vs ≤ length old → sets old 0 vs ≡ written_over vs old
stored_is_over vs old h = sets-eq vs old 0 (omega (arith, h)) ∙ ap (λ n. vs ++ drop n old) (let z : 0 + length vs ≡ length vs = omega arith in z)

-- The loop over n components: those from the i-th on are left.
module _ (sc old : List ℕ) (n : ℕ) where
  pub record MeasureLeft (ms : List ℕ) (i : ℕ) : Type 0 where
    pub within : i ≤ n
    pub left : sets old 0 (part best_measure_at n sc) ≡ sets ms i (part (best_measure_at + i) (n - i) sc)

  module _ (ms : List ℕ) (i : ℕ) (p : MeasureLeft ms i) where
    pub measure_goes_on : best_measure_at + n ≤ length sc → i < n → (v : ℕ) (us : List ℕ) → v ≡ get_or sc (best_measure_at + i) 0
        → us ≡ set ms i v → MeasureLeft us (i + 1)
    measure_goes_on fits l v us e a =
        let q : us ≡ set ms i (get_or sc (best_measure_at + i) 0) = a ∙ ap (set ms i) e in
        record {
          within = omega (arith, l);
          left =
              let m : n - i ≡ suc (n - (i + 1)) = omega (arith, l) in
              let f : suc (best_measure_at + i) ≡ best_measure_at + (i + 1) = omega arith in
              let k : suc i ≡ i + 1 = omega arith in
              p.left
              ∙ (ap (λ m. sets ms i (part (best_measure_at + i) m sc)) m
              ∙ (ap (sets ms i) (part_first (best_measure_at + i) (n - (i + 1)) sc (omega (arith, fits, l)))
              ∙ ((λ h. sets (set ms i (get_or sc (best_measure_at + i) 0)) (k h) (part (f h) (n - (i + 1)) sc))
              ∙ ap (λ r. sets r (i + 1) (part (best_measure_at + (i + 1)) (n - (i + 1)) sc)) (sym q))));
        }

    pub measure_ends : n ≤ i → ms ≡ sets old 0 (part best_measure_at n sc)
    measure_ends l = sym (p.left ∙ ap (λ m. sets ms i (part (best_measure_at + i) m sc)) (let z : n - i ≡ 0 = omega (arith, l) in z))
