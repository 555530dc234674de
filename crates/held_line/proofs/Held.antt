-- A byte more of a line: what is held in a memory is what is held of the line, and what is held of a line byte by byte is
-- its first bytes. By whether the line is full. Assumes nothing.
use mathlib.Core.Path.{◌≡◌, refl, sym, ◌∙◌, ap, subst}
use mathlib.Core.Bool.{Bool, true, false, cond}
use mathlib.Core.List.{List, [], ◌∷◌, ◌++◌}
use Prim.Native.Nat.{ℕ, ◌+◌, ◌≤◌}
use native.Mathlib.Omega.{arith}
use native.Mathlib.Numerals.{add-one}
use lib.ListN.{length, take, drop, set, length-append, length-take, length-drop, length-set}
use lib.Seq.{take_all, take-append-le, take-set-le, drop-set-lt, drop-set-add, take-suc-set, length-take-le}
use lib.Dec.{ltb}
use borrow.Author.Tests.{ltb-true, ltb-false, le-ltb}
use Rattle.held_line.specs.Holding.{holding, line_at, LineKept, line_kept, held_at}

-- A byte more of the line from `start` on; what stands before the line and behind it stays.
pub record Holding (most : ℕ) (memory : List ℕ) (start count byte : ℕ) (left : List ℕ) (next : ℕ) : Type 0 where
  pub line : line_at left start next ≡ holding most (line_at memory start count) byte
  pub before : take start left ≡ take start memory
  pub behind : drop (start + next) left ≡ drop (start + next) memory
  pub grows : count ≤ next
  pub few : next ≤ most
  pub long : length left ≡ length memory

module _ (most : ℕ) (memory : List ℕ) (start count byte : ℕ) (c : count ≤ most) (l : start + most ≤ length memory) where
  line_length : length (line_at memory start count) ≡ count
  line_length = length-take-le count (drop start memory) (omega (arith, length-drop start memory, c, l))

  not_full : ltb count most ≡ true → Holding most memory start count byte (set memory (start + count) byte) (count + 1)
  unfolding holding
  not_full e =
      let h = ltb-true count most e in
      record {
        line =
            ap (λ us. take (count + 1) us) (drop-set-add start memory count byte)
            ∙ (ap (λ (k : ℕ). take k (set (drop start memory) count byte)) (add-one count)
            ∙ (take-suc-set (drop start memory) count byte (omega (arith, length-drop start memory, h, l))
            ∙ sym (ap (λ b. cond b (line_at memory start count ++ (byte ∷ [])) (line_at memory start count))
            (ap (λ (k : ℕ). ltb k most) line_length ∙ e))));
        before = take-set-le start memory (start + count) byte (omega arith);
        behind = drop-set-lt (start + (count + 1)) memory (start + count) byte (omega arith);
        grows = omega arith;
        few = omega (arith, h);
        long = length-set memory (start + count) byte;
      }

  full : ltb count most ≡ false → Holding most memory start count byte memory count
  unfolding holding
  full e =
      record {
        line = sym (ap (λ b. cond b (line_at memory start count ++ (byte ∷ [])) (line_at memory start count))
            (ap (λ (k : ℕ). ltb k most) line_length ∙ e));
        before = refl;
        behind = refl;
        grows = omega arith;
        few = c;
        long = refl;
      }

  holds_by : (b : Bool) → ltb count most ≡ b
      → let k : LineKept = cond b (line_kept (set memory (start + count) byte) (count + 1)) (line_kept memory count) in
      Holding most memory start count byte k.memory k.count
  holds_by true e = not_full e
  holds_by false e = full e

  -- what the code leaves
  pub byte_held : (left : List ℕ) (next : ℕ) → line_kept left next ≡ held_at most memory start count byte
      → Holding most memory start count byte left next
  unfolding held_at
  byte_held left next e =
      subst (λ (k : LineKept). Holding most memory start count byte k.memory k.count) (sym e) (holds_by (ltb count most) refl)

-- what is held of a line is its first bytes
holding_held_by : (most : ℕ) (l : List ℕ) (b : ℕ) (t : Bool) → ltb (length l) most ≡ t
    → holding most (take most l) b ≡ take most (l ++ (b ∷ []))
unfolding holding
holding_held_by most l b true e =
    let h = ltb-true (length l) most e in
    let a = take_all most l (omega (arith, h)) in
    ap (λ x. cond (ltb (length x) most) (x ++ (b ∷ [])) x) a
    ∙ (ap (λ x. cond x (l ++ (b ∷ [])) l) e ∙ sym (take_all most (l ++ (b ∷ [])) (omega (arith, h, length-append l (b ∷ [])))))
holding_held_by most l b false e =
    let h = ltb-false (length l) most e in
    ap (λ x. cond x (take most l ++ (b ∷ [])) (take most l)) (le-ltb (length (take most l)) most (omega (arith, h, length-take most l)))
    ∙ sym (take-append-le most l (b ∷ []) h)

pub holding_held : (most : ℕ) (l : List ℕ) (b : ℕ) → holding most (take most l) b ≡ take most (l ++ (b ∷ []))
holding_held most l b = holding_held_by most l b (ltb (length l) most) refl
