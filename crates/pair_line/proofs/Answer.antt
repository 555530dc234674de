-- The five parts of a pair's line, put one after another, are the line. The trees asked about are the same in the storage as
-- it grows. Assumes nothing.
use mathlib.Core.Path.{◌≡◌, refl, ◌∙◌, ap, ap₂}
use mathlib.Core.Bool.{Bool, true, false}
use mathlib.Core.List.{List, [], ◌∷◌, ◌++◌}
use mathlib.Core.Option.{Option, none, some}
use Prim.Native.Nat.{ℕ, ◌<◌}
use native.Mathlib.Omega.{arith}
use Rattle.std.specs.Prelude as Rust
use Rattle.resolved_sort.specs.declared.Steps.{Steps as StepsAnswer}
use Rattle.resolved_sort.specs.Tree.{Tree}
use Rattle.resolved_sort.specs.Order.{ordering, bound, Steps, steps_of, distance, materializable}
use Rattle.resolved_sort.specs.Entries.{tree_at}
use Rattle.resolved_sort.specs.Rows.{Checked}
use Rattle.text_out.specs.declared.Out.{Out}
use Rattle.text_out.specs.Outs.{then_put}
use Rattle.text_out.proofs.Outs.{put_then}
use Rattle.pair_line.specs.PairProgram.{sign, sort_or_none, steps_or_none, yes_or_no, comma, answer}
use Rattle.pair_line.specs.Inner.Room.{RoomGrows, BothRead}
use Rattle.pair_line.specs.Inner.Answers.{steps_text}

steps_text_is : (d : Option Steps) → steps_text (steps_of d) ≡ steps_or_none d
steps_text_is none = refl
steps_text_is (some d) = refl

-- what is put behind a comma
comma_then : (o : Out) {p q : Out} (xs ys : List ℕ) → p ≡ then_put o (comma []) → q ≡ then_put p xs → {m : Out} → m ≡ then_put q ys → m ≡ then_put o (comma (xs ++ ys))
comma_then o {p} {q} xs ys f g h = put_then o p (comma []) (xs ++ ys) f (put_then p q xs ys g h)

-- the parts are the line
parts_put : (s t : Tree) (o : Out) {o₁ o₂ o₃ o₄ o₅ o₆ o₇ o₈ o₉ : Out} → o₁ ≡ then_put o (sign (ordering s t) ∷ []) → o₂ ≡ then_put o₁ (comma [])
    → o₃ ≡ then_put o₂ (sort_or_none (bound true s t)) → o₄ ≡ then_put o₃ (comma []) → o₅ ≡ then_put o₄ (sort_or_none (bound false s t))
    → o₆ ≡ then_put o₅ (comma []) → o₇ ≡ then_put o₆ (steps_or_none (distance true s t)) → o₈ ≡ then_put o₇ (comma [])
    → o₉ ≡ then_put o₈ (yes_or_no (materializable s t)) → o₉ ≡ then_put o (answer s t)
unfolding answer
parts_put s t o {o₁} {o₂} {o₃} {o₄} {o₅} {o₆} {o₇} {o₈} {o₉} h₁ h₂ h₃ h₄ h₅ h₆ h₇ h₈ h₉ =
    put_then o o₁ (sign (ordering s t) ∷ []) _ h₁
    (comma_then o₁ (sort_or_none (bound true s t)) _ h₂ h₃
    (comma_then o₃ (sort_or_none (bound false s t)) _ h₄ h₅
    (comma_then o₅ (steps_or_none (distance true s t)) _ h₆ h₇
    (put_then o₇ o₈ (comma []) (yes_or_no (materializable s t)) h₈ h₉))))

module _ (ws : List ℕ) (n e a b : ℕ) (q : BothRead ws n e a b) where
  abbrev s : Tree
  s = tree_at ws n a

  abbrev t : Tree
  t = tree_at ws n b

  module _ (ws₁ : List ℕ) (n₁ e₁ : ℕ) (g₁ : RoomGrows ws n e ws₁ n₁ e₁) where
    same_lhs : tree_at ws₁ n₁ a ≡ s
    same_lhs = g₁.same a q.asked.lhs

    same_rhs : tree_at ws₁ n₁ b ≡ t
    same_rhs = g₁.same b q.asked.rhs

    module _ (ws₂ : List ℕ) (n₂ e₂ : ℕ) (g₂ : RoomGrows ws₁ n₁ e₁ ws₂ n₂ e₂) where
      pub last_asked : Checked ws₂ n₂ e₂ × (a < n₂) × (b < n₂)
      last_asked = (g₂.checked, omega (arith, q.asked.lhs, g₁.longer, g₂.longer), omega (arith, q.asked.rhs, g₁.longer, g₂.longer))

      same_lhs₂ : tree_at ws₂ n₂ a ≡ s
      same_lhs₂ = g₂.same a (omega (arith, q.asked.lhs, g₁.longer)) ∙ same_lhs

      same_rhs₂ : tree_at ws₂ n₂ b ≡ t
      same_rhs₂ = g₂.same b (omega (arith, q.asked.rhs, g₁.longer)) ∙ same_rhs

      pub answer_put : (o : Out) {o₁ o₂ o₃ o₄ o₅ o₆ o₇ o₈ o₉ : Out} {x : ℕ} → x ≡ sign (ordering s t) → o₁ ≡ then_put o (x ∷ []) → o₂ ≡ then_put o₁ (comma [])
          → o₃ ≡ then_put o₂ (sort_or_none (bound true s t)) → o₄ ≡ then_put o₃ (comma [])
          → o₅ ≡ then_put o₄ (sort_or_none (bound false (tree_at ws₁ n₁ a) (tree_at ws₁ n₁ b))) → o₆ ≡ then_put o₅ (comma [])
          → {w : Rust.Option StepsAnswer} → w ≡ steps_of (distance true (tree_at ws₂ n₂ a) (tree_at ws₂ n₂ b)) → o₇ ≡ then_put o₆ (steps_text w)
          → o₈ ≡ then_put o₇ (comma []) → {y : Bool} → y ≡ materializable (tree_at ws₂ n₂ a) (tree_at ws₂ n₂ b) → {ys : List ℕ} → ys ≡ yes_or_no y
          → o₉ ≡ then_put o₈ ys → o₉ ≡ then_put o (answer s t)
      answer_put o {o₁} {o₂} {o₃} {o₄} {o₅} {o₆} {o₇} {o₈} {o₉} {x} ex h₁ h₂ h₃ h₄ h₅ h₆ {w} ew h₇ h₈ {y} ey {ys} eys h₉ =
          parts_put s t o (h₁ ∙ ap (λ z. then_put o (z ∷ [])) ex) h₂ h₃ h₄
          (h₅ ∙ ap₂ (λ u v. then_put o₄ (sort_or_none (bound false u v))) same_lhs same_rhs) h₆
          (h₇ ∙ ap (then_put o₆) (ap steps_text (ew ∙ ap₂ (λ u v. steps_of (distance true u v)) same_lhs₂ same_rhs₂) ∙ steps_text_is (distance true s t))) h₈
          (h₉ ∙ ap (then_put o₈) (eys ∙ ap yes_or_no (ey ∙ ap₂ materializable same_lhs₂ same_rhs₂)))
