-- Words cleared, and sorts entered one after another. Assumes nothing.
use mathlib.Core.Path.{◌≡◌, refl, sym, ap, ◌∙◌}
use mathlib.Core.List.{List, ◌∷◌}
use Prim.Native.Nat.{ℕ, zero, suc, ◌+◌, ◌≤◌}
use native.Mathlib.Omega.{arith}
use lib.ListN.{length, set, take, replicate}
use Rattle.words.specs.Words.{cleared}
use Rattle.resolved_sort.specs.Index.{slots, slot_of, slot_at, free_slot, entered, Indexed}
use Rattle.resolved_sort.specs.Storage.{words_at}
use Rattle.resolved_sort.proofs.IndexAppend.{indexed_none}

take_replicate : (n m x : ℕ) → n ≤ m → take n (replicate m x) ≡ replicate n x
take_replicate zero m x h = refl
take_replicate (suc n) zero x h = absurd (omega arith)
take_replicate (suc n) (suc m) x h = ap (λ l. x ∷ l) (take_replicate n m x (omega arith))

pub none_filled : (ws ix jx : List ℕ) → slots ≤ length ix → jx ≡ cleared ix → Indexed ws 0 jx
none_filled ws ix jx h e = indexed_none ws jx (ap (take slots) e ∙ take_replicate slots (length ix) 0 h)

pub all_filled : (ws ix : List ℕ) (n i : ℕ) → i ≡ n → Indexed ws i ix → Indexed ws n ix
all_filled ws ix n i z e = rw (sym z) e

pub sort_entered : (ws ix jx : List ℕ) (i p q : ℕ) → p ≡ slot_of (words_at ws i) → q ≡ free_slot ix slots p → jx ≡ set ix q (i + 1)
    → jx ≡ entered ws ix i
unfolding entered slot_at
sort_entered ws ix jx i p q ep eq ej = ej ∙ ap (λ x. set ix x (i + 1)) (eq ∙ ap (free_slot ix slots) ep)
