-- The calls on parts, ranges and arguments are in order, and fall: these have lower numbers. Assumes nothing.
use mathlib.Core.Path.{◌≡◌}
use mathlib.Core.List.{List}
use Prim.Native.Nat.{ℕ, ◌+◌, ◌<◌}
use native.Mathlib.Omega.{arith}
use Rattle.resolved_sort.specs.declared.SortId.{SortId}
use Rattle.resolved_sort.specs.declared.ComplexSort.{ComplexSort}
use Rattle.resolved_sort.specs.Storage.{entry_at}
use Rattle.resolved_sort.proofs.Pairs.{OfContainers, OfFunctions}
use Rattle.resolved_sort.proofs.Said.{entry_below}

-- what a call on two sorts asks: less is left than m, and they are sorts of the list
abbrev pub PairCall : ℕ → ℕ → ℕ → ℕ → Type 0
PairCall m n a b = (a + b < m) × ((a < n) × (b < n))

module _ {ws : List ℕ} {n e a b m : ℕ} (now : a + b ≡ m) (ha : a < n) (hb : b < n) where
  pub parts_fall : {o p : ComplexSort} {s t : SortId} → OfContainers ws n e a b o s p t → PairCall m n s.0 t.0
  parts_fall h = (omega (arith, h.lhs_below, h.rhs_below), (omega (arith, h.lhs_below), omega (arith, h.rhs_below)))

  module _ {c ls rs : ℕ} {lr rr : SortId} (h : OfFunctions ws n e a b c ls lr rs rr) where
    pub ranges_fall : PairCall m n lr.0 rr.0
    ranges_fall = (omega (arith, h.lhs_below, h.rhs_below), (omega (arith, h.lhs_below), omega (arith, h.rhs_below)))

    -- the k-th arguments, the other way round
    pub arguments_fall : (k : ℕ) → k < c → {x y : ℕ} → x ≡ entry_at ws (ls + k) → y ≡ entry_at ws (rs + k) → PairCall m n y x
    arguments_fall k l p q =
        let i = entry_below ws a ls c h.lhs_args k l in
        let j = entry_below ws b rs c h.rhs_args k l in
        (omega arith, (omega arith, omega arith))
