-- Two measures passed over from the front. What was passed is equal, so what is left ranks as the whole does, and the pairs that are looked at are those
-- passed and those of what is left. A pair that differs is the last. Where one measure has ended, the longer one is greater. Assumes nothing.
use mathlib.Core.Path.{◌≡◌, refl, sym, ◌∙◌}
use mathlib.Core.Bool.{true, false}
use mathlib.Core.List.{[], ◌∷◌}
use mathlib.Core.Logic.{◌⊎◌, inl, inr}
use Prim.Native.Nat.{ℕ, ◌+◌, ◌<◌}
use native.Mathlib.Omega.{arith}
use lib.ListN.{length}
use Rattle.std.specs.declared.cmp.Ordering.{Ordering}
use Rattle.std.specs.declared.cmp.Ordering.TheVariants.{Less, Equal, Greater}
use Rattle.std.specs.Ordering.{MatchOrdering, nat_cmp, is_ne}
use Rattle.std.proofs.lemmas.Cmp.{ranked}
use Rattle.resolved_sort.proofs.Reached.{no_confusion}
use Rattle.inference.specs.Measure.{Components, compare, looked, ranking_of}
use Rattle.inference.proofs.Measures.{compare_level, compare_below, compare_above}
use Rattle.inference.proofs.Looked.{looked_on, looked_no_further}

-- n pairs are passed, and us and vs are left
pub record Passed (xs ys us vs : Components) (n : ℕ) : Type 0 where
  pub ranks : compare us vs ≡ compare xs ys
  pub counts : n + looked us vs ≡ looked xs ys
  pub measure : n + length us ≡ length xs
  pub best : n + length vs ≡ length ys

-- The next pair.
module _ (xs ys us vs us' vs' : Components) (n x y : ℕ) (g : Passed xs ys us vs n) (p : us ≡ x ∷ us') (q : vs ≡ y ∷ vs') (o : Ordering)
    (h : o ≡ nat_cmp x y) where
  here : Passed xs ys (x ∷ us') (y ∷ vs') n
  here = rw (sym p, sym q) g

  tells : MatchOrdering o (x < y) (x ≡ y) (y < x)
  tells = ranked x y o h

  pub one_more_passed : false ≡ is_ne o → Passed xs ys us' vs' (n + 1)
  one_more_passed f = go o f tells
    where
      go : (o : Ordering) → false ≡ is_ne o → MatchOrdering o (x < y) (x ≡ y) (y < x) → Passed xs ys us' vs' (n + 1)
      go Less f m = no_confusion (cc)
      go Greater f m = no_confusion (cc)
      go Equal f m =
          record {
            ranks = sym (compare_level x y us' vs' m) ∙ here.ranks;
            counts = omega (arith, here.counts, looked_on x y us' vs' m);
            measure = omega (arith, here.measure);
            best = omega (arith, here.best);
          }

  pub ranked_there : true ≡ is_ne o → ranking_of o ≡ compare xs ys
  ranked_there f = go o f tells ∙ here.ranks
    where
      go : (o : Ordering) → true ≡ is_ne o → MatchOrdering o (x < y) (x ≡ y) (y < x) → ranking_of o ≡ compare (x ∷ us') (y ∷ vs')
      go Less f m = sym (compare_below x y us' vs' m)
      go Greater f m = sym (compare_above x y us' vs' m)
      go Equal f m = no_confusion (cc)

  pub counted_there : true ≡ is_ne o → n + 1 ≡ looked xs ys
  counted_there f = go o f tells
    where
      go : (o : Ordering) → true ≡ is_ne o → MatchOrdering o (x < y) (x ≡ y) (y < x) → n + 1 ≡ looked xs ys
      go Less f m = omega (arith, here.counts, looked_no_further x y us' vs' (λ e. omega (arith, m, e)))
      go Greater f m = omega (arith, here.counts, looked_no_further x y us' vs' (λ e. omega (arith, m, e)))
      go Equal f m = no_confusion (cc)

-- No pair is left.
module _ (xs ys us vs : Components) (n : ℕ) (g : Passed xs ys us vs n) (e : (us ≡ []) ⊎ (vs ≡ [])) where
  pub counted_to_the_end : n ≡ looked xs ys
  unfolding looked
  counted_to_the_end = go us vs g e
    where
      go : (us vs : Components) → Passed xs ys us vs n → (us ≡ []) ⊎ (vs ≡ []) → n ≡ looked xs ys
      go [] vs g e = omega (arith, g.counts)
      go (u ∷ us) [] g e = omega (arith, g.counts)
      go (u ∷ us) (v ∷ vs) g (inl f) = no_confusion (cc)
      go (u ∷ us) (v ∷ vs) g (inr f) = no_confusion (cc)

  pub ranked_by_length : (o : Ordering) → o ≡ nat_cmp (length xs) (length ys) → ranking_of o ≡ compare xs ys
  unfolding compare
  ranked_by_length o h = go us vs o (ranked (length xs) (length ys) o h) g e ∙ g.ranks
    where
      go : (us vs : Components) (o : Ordering) → MatchOrdering o (length xs < length ys) (length xs ≡ length ys) (length ys < length xs)
          → Passed xs ys us vs n → (us ≡ []) ⊎ (vs ≡ []) → ranking_of o ≡ compare us vs
      go [] [] Equal m g e = refl
      go [] [] Less m g e = absurd (omega (arith, m, g.measure, g.best))
      go [] [] Greater m g e = absurd (omega (arith, m, g.measure, g.best))
      go [] (v ∷ vs) Less m g e = refl
      go [] (v ∷ vs) Equal m g e = absurd (omega (arith, m, g.measure, g.best))
      go [] (v ∷ vs) Greater m g e = absurd (omega (arith, m, g.measure, g.best))
      go (u ∷ us) [] Greater m g e = refl
      go (u ∷ us) [] Equal m g e = absurd (omega (arith, m, g.measure, g.best))
      go (u ∷ us) [] Less m g e = absurd (omega (arith, m, g.measure, g.best))
      go (u ∷ us) (v ∷ vs) o m g (inl f) = no_confusion (cc)
      go (u ∷ us) (v ∷ vs) o m g (inr f) = no_confusion (cc)
