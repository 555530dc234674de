-- The wider and narrower sorts, against the language reference.
use Rattle.std.specs.Prelude.{◌≡◌, Bool, true, cond, List, ◌≢◌, ℕ, zero, suc}
use Rattle.std.proofs.Math.Option.{some}
use Rattle.resolved_sort.specs.Tree.{Tree}
use Rattle.resolved_sort.specs.Order.{Steps, materializable}
use Rattle.resolved_sort.specs.Exact.{total, exact}
use Rattle.unification.specs.Related.{Member}
use Rattle.resolved_sort.specs.Reference.{Converts}
use Rattle.unification.specs.Term.{Term, term_of}

-- u is materializable from t (up true), or t from u
abbrev pub reaches : Bool → Tree → Tree → Bool
reaches up t u = cond up (materializable t u) (materializable u t)

-- k steps apart, by the distance without stopping
abbrev pub Distant : Bool → Tree → Tree → ℕ → Type 0
Distant up t u k = (s : Steps) × (exact up t u ≡ some s) × (total s ≡ k)

-- so many conversions, one after another
pub data Conversions : ℕ → Tree → Tree → Type 0 where
  no_more : {s : Tree} → Conversions zero s s
  and_then : {k : ℕ} {s t u : Tree} → Conversions k s t → Converts t u → Conversions (suc k) s u

-- What the places of a wider (narrower) list stand for, where the place asked about stands for t: the i-th for a sort
-- that is materializable in the direction, unequal to t, and i + 1 steps from it; and every such sort is listed.
pub record ListsRelated (up : Bool) (stands : ℕ → Term) (t : Tree) (qs : List ℕ) : Type 0 where
  pub sound : (q i : ℕ) → Member q i qs → (u : Tree) × (stands q ≡ term_of u) × (reaches up t u ≡ true) × (t ≢ u) ×
      Distant up t u (suc i)
  pub complete : (u : Tree) → reaches up t u ≡ true → t ≢ u → (i : ℕ) × (q : ℕ) × Member q i qs × (stands q ≡ term_of
      u) × Distant up t u (suc i)
