-- Slices of a list lent at the told lengths. Assumes nothing.
use mathlib.Core.Path.{◌≡◌, sym, ◌∙◌, ap}
use mathlib.Core.List.{List}
use Prim.Native.Nat.{ℕ, ◌+◌, ◌-◌, ◌*◌, ◌≤◌}
use native.Mathlib.Omega.{arith}
use lib.ListN.{length, take, drop}
use lib.Seq.{length-take-le, take-take}
use Rattle.words.specs.Words.{part}
use Rattle.problem_words.proofs.Wholes.{part_length}
use Rattle.list_call.specs.Lists.{length_lent, slice_lent}
use Rattle.list_memory.specs.Memory.{rows_given}

module _ (ws : List ℕ) where
  -- a part from `start` on, as long as lent
  pub part_lent :
      (start j k width top rows m end : ℕ) → rows ≡ rows_given ws k → m ≡ length_lent ws j (width * rows) top → end ≡ start + m
      → take (end - start) (drop start ws) ≡ slice_lent ws start j (width * rows_given ws k) top
  unfolding slice_lent
  part_lent start j k width top rows m end h e g =
      let z : end - start ≡ m = omega arith in
      ap (λ (n : ℕ). take n (drop start ws)) (z ∙ (e ∙ ap (λ (r : ℕ). length_lent ws j (width * r) top) h))

-- a copy of a whole slice, and its first words
module _ (ws : List ℕ) (start top : ℕ) (xs : List ℕ) (room : start + top ≤ length ws) (e : xs ≡ part start top ws) where
  pub front_within : (m : ℕ) → m ≤ top → m ≤ length xs
  front_within m h = omega (arith, ap length e, part_length start top ws room)

  pub front_length : (m : ℕ) → m ≤ top → m ≡ length (take m xs)
  front_length m h = sym (length-take-le m xs (front_within m h))

  pub front_lent : (j n m : ℕ) → m ≡ length_lent ws j n top → m ≤ top → take m xs ≡ slice_lent ws start j n top
  unfolding slice_lent
  front_lent j n m g h = ap (take m) e ∙ (take-take m top (drop start ws) h ∙ ap (λ (k : ℕ). take k (drop start ws)) g)

pub rows_lent : (ws xs : List ℕ) (start j k top n : ℕ) → xs ≡ slice_lent ws start j n top → n ≡ rows_given ws k
    → xs ≡ slice_lent ws start j (1 * rows_given ws k) top
rows_lent ws xs start j k top n e h = e ∙ ap (λ (m : ℕ). slice_lent ws start j m top) (let z : n ≡ 1 * rows_given ws k = omega (arith, h) in z)
