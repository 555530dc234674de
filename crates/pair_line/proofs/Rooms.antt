-- What is put for a line that is no sort, and for the steps of a distance, has room part by part. Assumes nothing.
use mathlib.Core.Path.{◌≡◌, sym, ◌∙◌, ap}
use mathlib.Core.List.{List, [], ◌∷◌, ◌++◌, append_assoc}
use Prim.Native.Nat.{ℕ, ◌+◌, ◌≤◌}
use native.Mathlib.Omega.{arith}
use lib.ListN.{length, drop, length-append, length-drop}
use Rattle.std.specs.Prelude.{Option, Some, None}
use Rattle.resolved_sort.specs.declared.Steps.{Steps}
use Rattle.text_out.specs.Put.{Put}
use Rattle.text_out.proofs.Put.{put_as, put_length}
use Rattle.pair_line.specs.PairProgram.{none_text, small_decimal, comma}
use Rattle.pair_line.specs.Inner.Answers.{steps_text}

-- a line that is no sort
module _ (bs : List ℕ) (p : ℕ) (out : List ℕ) (at : ℕ) (l : length bs ≤ 200) (room : at + 816 ≤ length out)
    (out₁ : List ℕ) (at₁ : ℕ) (h₁ : Put out at (50 ∷ 48 ∷ 58 ∷ []) out₁ at₁) where
  module _ (us : List ℕ) (e : us ≡ drop p bs) where
    pub unread_room : at₁ + length us ≤ length out₁
    unread_room = omega (arith, ap length e, length-drop p bs, l, room, h₁.behind, put_length h₁)

    module _ (out₂ : List ℕ) (at₂ : ℕ) (h₂ : Put out₁ at₁ us out₂ at₂) where
      pub lf_room : at₂ + 1 ≤ length out₂
      lf_room = omega (arith, ap length e, length-drop p bs, l, room, h₁.behind, put_length h₁, h₂.behind, put_length h₂)

-- the steps of a distance
module _ (steps : Option Steps) (out : List ℕ) (at : ℕ) (room : at + length (steps_text steps ++ comma []) ≤ length out) where
  module _ (e : steps ≡ None) where
    pub no_steps_room : at + 6 ≤ length out
    no_steps_room = omega (arith, room, ap (λ s. length (steps_text s ++ comma [])) e)

    pub no_steps_put : (out₁ : List ℕ) (r : ℕ) → Put out at (none_text ++ comma []) out₁ r → Put out at (steps_text steps ++ comma []) out₁ r
    no_steps_put out₁ r h = put_as (ap (λ s. steps_text s ++ comma []) (sym e)) h

  module _ (head interior : ℕ) (e : steps ≡ Some (record { head = head; interior = interior })) where
    is_steps : small_decimal head ++ ((32 ∷ []) ++ (small_decimal interior ++ comma [])) ≡ steps_text steps ++ comma []
    is_steps = sym (ap (λ s. steps_text s ++ comma []) e ∙ append_assoc (small_decimal head) (32 ∷ small_decimal interior) (comma []))

    lengths : at + (length (small_decimal head) + (1 + (length (small_decimal interior) + 2))) ≤ length out
    lengths = omega (
      arith,
      room,
      ap length is_steps,
      length-append (small_decimal head)
          ((32 ∷ []) ++ (small_decimal interior ++ comma [])),
      length-append (small_decimal interior) (comma []),
    )

    pub head_room : at + length (small_decimal head) ≤ length out
    head_room = omega (arith, lengths)

    module _ (out₁ : List ℕ) (at₁ : ℕ) (h₁ : Put out at (small_decimal head) out₁ at₁) where
      pub space_room : at₁ + 1 ≤ length out₁
      space_room = omega (arith, lengths, h₁.behind, put_length h₁)

      module _ (out₂ : List ℕ) (at₂ : ℕ) (h₂ : Put out₁ at₁ (32 ∷ []) out₂ at₂) where
        pub interior_room : at₂ + length (small_decimal interior) ≤ length out₂
        interior_room = omega (arith, lengths, h₁.behind, put_length h₁, h₂.behind, put_length h₂)

        module _ (out₃ : List ℕ) (at₃ : ℕ) (h₃ : Put out₂ at₂ (small_decimal interior) out₃ at₃) where
          pub behind_room : at₃ + 2 ≤ length out₃
          behind_room = omega (arith, lengths, h₁.behind, put_length h₁, h₂.behind, put_length h₂, h₃.behind, put_length h₃)
