-- Storing one number and then the rest comes to storing them all. Assumes nothing.
use mathlib.Core.Path.{◌≡◌, refl}
use mathlib.Core.Bool.{Bool, true, false, cond}
use mathlib.Core.List.{List}
use Prim.Native.Nat.{ℕ, min, ◌+◌, ◌<◌, ◌≤◌}
use native.Mathlib.Omega.{arith}
use native.Mathlib.Numerals.{add-one}
use lib.ListN.{length, get_or, set, drop, drop_of_length-le}
use lib.Seq.{drop-cons}
use borrow.Author.Tests.{lt-ltb, le-ltb, ltb-true, ltb-false}
use lib.Dec.{ltb}
use Rattle.replay.specs.Inner.Lines.{words_kept, store_from, most_count, one_more}

module _ (values : List ℕ) (i : ℕ) (ws : List ℕ) (at : ℕ) where
  pub none_more : i < length values → 65535 < get_or values i 0 → words_kept ws false ≡ store_from ws at (drop i values)
  unfolding store_from
  none_more h large = rw (drop-cons values i 0 h, lt-ltb _ _ large)

  pub one_stored : i < length values → get_or values i 0 ≤ 65535 → (us : List ℕ) → us ≡ set ws at (get_or values i 0)
      → (next : ℕ) → next ≡ at + 1 → store_from ws at (drop i values) ≡ store_from us next (drop (i + 1) values)
  unfolding store_from
  one_stored h small us e next n = rw (e, n, add-one, add-one) (rw (drop-cons values i 0 h, le-ltb _ _ small, add-one) refl)

  pub all_stored : length values ≤ i → words_kept ws true ≡ store_from ws at (drop i values)
  unfolding store_from
  all_stored h = rw (drop_of_length-le values h)

pub one_more_is : (n : ℕ) → n ≤ most_count → min (n + 1) most_count ≡ one_more n
unfolding one_more
one_more_is n h = by (ltb n most_count) refl
  where
    by : (b : Bool) → ltb n most_count ≡ b → min (n + 1) most_count ≡ cond b (n + 1) n
    by true e = let l = ltb-true n most_count e in omega (arith, l)
    by false e = let l = ltb-false n most_count e in omega (arith, l, h)
