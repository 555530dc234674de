-- Comparing one word and then the rest comes to comparing them all. Assumes nothing.
use mathlib.Core.Path.{◌≡◌, refl, sym, ◌∙◌}
use mathlib.Core.List.{List}
use Prim.Native.Nat.{ℕ, ◌+◌, ◌<◌, ◌≤◌}
use native.Mathlib.Numerals.{add-one}
use lib.ListN.{length, get_or, drop, drop_of_length-le}
use lib.Seq.{drop-cons}
use borrow.Author.Tests.{eq-eqb, ne_eqb}
use Rattle.replay.specs.declared.Verdict.TheVariants.{Agrees, LeavesOther}
use Rattle.recorded_solve.specs.Inner.Lines.{compared_from}

module _ (ws : List ℕ) (at : ℕ) (values : List ℕ) (i : ℕ) where
  pub other : (got : ℕ) → got ≡ get_or ws at 0 → i < length values → (got ≡ get_or values i 0 → ⊥)
      → LeavesOther got ≡ compared_from ws at (drop i values)
  unfolding compared_from
  other got e h d = rw (drop-cons values i 0 h, ne_eqb _ _ (λ z. d (e ∙ z)), e)

  pub same : (got : ℕ) → got ≡ get_or ws at 0 → i < length values → got ≡ get_or values i 0 → (next : ℕ) → next ≡ at + 1
      → compared_from ws at (drop i values) ≡ compared_from ws next (drop (i + 1) values)
  unfolding compared_from
  same got e h s next n = rw (n, add-one, add-one) (rw (drop-cons values i 0 h, eq-eqb _ _ (sym e ∙ s), add-one) refl)

  pub end : length values ≤ i → Agrees ≡ compared_from ws at (drop i values)
  unfolding compared_from
  end h = rw (drop_of_length-le values h)
