-- What `feed` leaves is one: it takes as many bytes as it can, so how many is determined, and with it memory, lines and output; and what it
-- puts stands at the front of the buffer. By comparing how many bytes were taken. Assumes nothing.
use mathlib.Core.Path.{◌≡◌, refl, sym, ◌∙◌, ap}
use mathlib.Core.Bool.{Bool, true, false}
use mathlib.Core.List.{List}
use Prim.Native.Nat.{ℕ, ◌+◌, ◌<◌, ◌≤◌}
use native.Mathlib.Omega.{arith}
use lib.ListN.{length, take}
use lib.Seq.{sets}
use lib.Dec.{ltb}
use borrow.Author.Tests.{ltb-true, ltb-false}
use Rattle.text_out.proofs.Put.{what_is_put_stands}
use Rattle.pair_input.specs.declared.Held.{Held}
use Rattle.pair_input.specs.ByteByByte.{take_bytes}
use Rattle.pair_input.specs.Held.{lines_of, in_memory, bytes_in_memory, Feeds}

module _ (memory : List ℕ) (held : Held) (bytes out : List ℕ) where
  abbrev printed : ℕ → List ℕ
  printed used = (take_bytes (lines_of memory held) (take used bytes)).output

  module _ {memory₁ memory₂ : List ℕ} {held₁ held₂ : Held} {left₁ left₂ : List ℕ} {used₁ used₂ at₁ at₂ : ℕ}
      (f : Feeds memory held bytes out memory₁ held₁ left₁ used₁ at₁) (g : Feeds memory held bytes out memory₂ held₂ left₂ used₂ at₂) where
    not_fewer : used₁ < used₂ → ⊥
    not_fewer h = omega (arith, f.stops (omega (arith, h, g.within)), f.turns.put.behind, g.goes used₁ h)

    as_many : used₂ ≤ used₁
    as_many = by (ltb used₁ used₂) refl
      where
        by : (b : Bool) → ltb used₁ used₂ ≡ b → used₂ ≤ used₁
        by true e = absurd (not_fewer (ltb-true used₁ used₂ e))
        by false e = ltb-false used₁ used₂ e

  module _ {memory₁ memory₂ : List ℕ} {held₁ held₂ : Held} {left₁ left₂ : List ℕ} {used₁ used₂ at₁ at₂ : ℕ}
      (f : Feeds memory held bytes out memory₁ held₁ left₁ used₁ at₁) (g : Feeds memory held bytes out memory₂ held₂ left₂ used₂ at₂) where
    pub one_number_of_bytes_is_taken : used₁ ≡ used₂
    one_number_of_bytes_is_taken = omega (arith, as_many f g, as_many g f)

    pub one_memory_is_left : in_memory memory₁ held₁ ≡ in_memory memory₂ held₂
    one_memory_is_left =
        f.turns.is_stored ∙ (ap (λ (k : ℕ). bytes_in_memory memory held (take k bytes)) one_number_of_bytes_is_taken ∙ sym g.turns.is_stored)

    pub one_output_is_left : (left₁ ≡ left₂) × (at₁ ≡ at₂)
    one_output_is_left = (
      f.turns.put.bytes ∙ (ap (λ (k : ℕ). sets out 0 (printed k)) one_number_of_bytes_is_taken ∙ sym g.turns.put.bytes),
      f.turns.put.behind ∙ (ap (λ (k : ℕ). 0 + length (printed k)) one_number_of_bytes_is_taken ∙ sym g.turns.put.behind),
    )

  -- what is printed for the bytes taken stands at the front, whole
  pub what_is_fed_stands : {memory₁ : List ℕ} {held₁ : Held} {left : List ℕ} {used at : ℕ} → Feeds memory held bytes out memory₁ held₁ left used at
      → take at left ≡ printed used
  what_is_fed_stands {left = left} {used = used} f =
      ap (λ (k : ℕ). take k left) f.turns.put.behind
      ∙ (ap (λ (k : ℕ). take k left) (omega arith) ∙ what_is_put_stands f.turns.put (omega (arith, f.fits, f.turns.put.behind)))
