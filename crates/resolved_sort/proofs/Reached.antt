-- What a call that made sorts has left, read off its equation: the list it reached, its answer there, and that a call
-- after it goes on from there as if the two were one. Assumes nothing.
use mathlib.Core.Path.{◌≡◌, refl, ◌∙◌, ap, ap₂, subst}
use mathlib.Core.Bool.{true}
use mathlib.Core.List.{List}
use Prim.Native.Nat.{ℕ, ◌-◌, ◌<◌, ◌≤◌}
use native.Mathlib.Omega.{arith}
use lib.ListN.{length}
use Rattle.resolved_sort.specs.declared.SortId.{SortId}
use Rattle.resolved_sort.specs.declared.Counts.{Counts}
use Rattle.resolved_sort.specs.Entries.{At, Nothing, Full}
use Rattle.resolved_sort.specs.Tree.{Tree}
use Rattle.resolved_sort.specs.Interning.{Sorts, look, number, member, need, Outcome, made, nothing, full, intern}
use Rattle.resolved_sort.specs.Storage.{max_entries, trees, sorts_of}
use Rattle.resolved_sort.specs.Entries.{counts_of, after, stored}
use Rattle.resolved_sort.specs.Rows.{Checked, stored_at}
use Rattle.resolved_sort.specs.Bounds.{intern_at}
use Rattle.resolved_sort.specs.Growing.{parts_in, Grown, SortsExtend, SortsKept, InTree}
use Rattle.resolved_sort.proofs.Numbers.{look_number, number_below}
use Rattle.resolved_sort.proofs.Grown.{grown_none, after_both, sorts_again}
use Rattle.resolved_sort.proofs.Kept.{intern_kept}

pub no_confusion : ◌≡◌ {A = ℕ} 0 1 → {A : Type 0} → A
no_confusion e = absurd (omega arith)

-- A call from ws, n, e answered c with counts k and left vs.
pub record Reached (ws : List ℕ) (n e : ℕ) (S₀ : Sorts) (O : Outcome Tree) (vs : List ℕ) (c : SortId) (k : Counts) : Type 0 where
  pub sort : Tree
  pub sorts : Sorts
  pub is : O ≡ made sort sorts
  pub words : vs ≡ after ws n e sorts
  pub numbered : c.0 ≡ number sorts.trees sort
  pub counted : k ≡ counts_of sorts
  pub grown : Grown ws n e sorts
  pub extends : SortsExtend S₀ sorts
  pub inside : member sorts.trees sort ≡ true

pub reached : (ws : List ℕ) (n e : ℕ) (S₀ : Sorts) (O : Outcome Tree) → SortsKept ws n e InTree S₀ O
    → (vs : List ℕ) (c : SortId) (k : Counts) → stored_at vs (At c k) ≡ stored ws n e O → Reached ws n e S₀ O vs c k
unfolding SortsKept stored
reached ws n e S₀ (made v S) h vs c k q =
    let a : At c k ≡ At (record { 0 = number S.trees v }) (counts_of S) = ap (λ r. r.answer) q in
    record { sort = v; sorts = S; is = refl; words = ap (λ r. r.words) q; numbered = cc; counted = cc; grown = h.0; extends = h.1; inside = h.2 }
reached ws n e S₀ (nothing S) h vs c k q = let a : At c k ≡ Nothing (counts_of S) = ap (λ r. r.answer) q in no_confusion (cc)
reached ws n e S₀ (full S) h vs c k q = let a : At c k ≡ Full = ap (λ r. r.answer) q in no_confusion (cc)

pub stopped : (ws : List ℕ) (n e : ℕ) (O : Outcome Tree) (vs : List ℕ) (k : Counts) → stored_at vs (Nothing k) ≡ stored ws n e O
    → (S : Sorts) × (O ≡ nothing S) × (vs ≡ after ws n e S) × (k ≡ counts_of S)
unfolding stored
stopped ws n e (made v S) vs k q = let a : Nothing k ≡ At (record { 0 = number S.trees v }) (counts_of S) = ap (λ r. r.answer) q in no_confusion (cc)
stopped ws n e (nothing S) vs k q = let a : Nothing k ≡ Nothing (counts_of S) = ap (λ r. r.answer) q in (S, refl, ap (λ r. r.words) q, cc)
stopped ws n e (full S) vs k q = let a : Nothing k ≡ Full = ap (λ r. r.answer) q in no_confusion (cc)

pub ended : (ws : List ℕ) (n e : ℕ) (O : Outcome Tree) (vs : List ℕ) → stored_at vs Full ≡ stored ws n e O → (S : Sorts) × (O ≡ full S) × (vs ≡ after ws n e S)
unfolding stored
ended ws n e (made v S) vs q = let a : Full ≡ At (record { 0 = number S.trees v }) (counts_of S) = ap (λ r. r.answer) q in no_confusion (cc)
ended ws n e (nothing S) vs q = let a : Full ≡ Nothing (counts_of S) = ap (λ r. r.answer) q in no_confusion (cc)
ended ws n e (full S) vs q = (S, refl, ap (λ r. r.words) q)

module _ (ws : List ℕ) (n e : ℕ) (S₀ : Sorts) (O : Outcome Tree) (vs : List ℕ) (c : SortId) (k : Counts) (r : Reached ws n e S₀ O vs c k) where
  pub reached_sorts : k.sorts ≡ length r.sorts.trees
  reached_sorts = ap (λ x. x.sorts) r.counted

  pub reached_checked : Checked vs k.sorts k.entries
  reached_checked = rw (r.words, r.counted) r.grown.checked

  pub reached_list : sorts_of vs k.sorts k.entries ≡ r.sorts
  reached_list = rw (r.words, r.counted) (sorts_again ws n e r.sorts r.grown)

  pub reached_trees : trees vs k.sorts ≡ r.sorts.trees
  reached_trees = ap (λ S. S.trees) reached_list

  pub reached_below : c.0 < k.sorts
  reached_below = omega (arith, r.numbered, reached_sorts, number_below r.sorts.trees r.sort r.inside)

  pub reached_sort : look (trees vs k.sorts) c.0 ≡ r.sort
  reached_sort = ap₂ look reached_trees r.numbered ∙ look_number r.sorts.trees r.sort r.inside

-- two calls, one after the other, leave what the two as one leave
pub stored_again : (ws : List ℕ) (n e : ℕ) (S : Sorts) → Grown ws n e S → (S₀ : Sorts) (O : Outcome Tree)
    → SortsKept (after ws n e S) (length S.trees) (max_entries - S.entries) InTree S₀ O
    → stored (after ws n e S) (length S.trees) (max_entries - S.entries) O ≡ stored ws n e O
unfolding SortsKept stored
stored_again ws n e S g S₀ (made v S') h = rw (after_both ws n e S S' g h.0)
stored_again ws n e S g S₀ (nothing S') h = rw (after_both ws n e S S' g h.0)
stored_again ws n e S g S₀ (full S') h = rw (after_both ws n e S S' g h.0)

-- interning after a call
module _ (ws : List ℕ) (n e : ℕ) (S₀ : Sorts) (O : Outcome Tree) (vs : List ℕ) (c : SortId) (k : Counts) (r : Reached ws n e S₀ O vs c k) where
  pub here : Grown (after ws n e r.sorts) (length r.sorts.trees) (max_entries - r.sorts.entries) r.sorts
  here =
      subst (Grown (after ws n e r.sorts) (length r.sorts.trees) (max_entries - r.sorts.entries)) (sorts_again ws n e r.sorts r.grown)
      (grown_none (after ws n e r.sorts) (length r.sorts.trees) (max_entries - r.sorts.entries) r.grown.checked)

  pub intern_after : (t : Tree) → parts_in r.sorts.trees t ≡ true → need t ≤ 16 → intern_at vs k.sorts k.entries t ≡ stored ws n e (intern t r.sorts)
  unfolding intern_at
  intern_after t p q =
      ap (λ S. stored vs k.sorts k.entries (intern t S)) (reached_list ws n e S₀ O vs c k r)
      ∙ (rw (r.words, r.counted)
      (stored_again ws n e r.sorts r.grown r.sorts (intern t r.sorts)
      (intern_kept (after ws n e r.sorts) (length r.sorts.trees) (max_entries - r.sorts.entries) r.sorts here t p q)))
