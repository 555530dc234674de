-- The pair program byte by byte prints what the pair program prints: a line held as far as 201 bytes comes to what the whole line comes
-- to, and by induction on the input. An input that comes in parts is taken part by part. Assumes nothing.
use mathlib.Core.Path.{◌≡◌, refl, sym, ◌∙◌, ap, ap₂}
use mathlib.Core.Bool.{Bool, true, false}
use mathlib.Core.List.{List, [], ◌∷◌, ◌++◌, append_assoc}
use Prim.Native.Nat.{ℕ}
use native.Mathlib.Omega.{arith}
use lib.ListN.{length, take, length-take}
use lib.Seq.{take_all}
use lib.Dec.{eqb, ltb}
use borrow.Author.Tests.{ltb-true, ltb-false}
use Rattle.held_line.specs.Lines.{lines, whole}
use Rattle.held_line.proofs.Held.{holding_held}
use Rattle.held_line.proofs.Glued.{glue, glue_none, no_lines, after_lf, after_byte}
use Rattle.pair_line.specs.PairProgram.{line_of, single, pair, with_first, pairs, output}
use Rattle.pair_line.specs.Answers.{with_lf}
use Rattle.pair_line.proofs.Lines.{line_long}
use Rattle.pair_input.specs.ByteByByte.{Lines, first, second, most_held, Turned, turned, take_byte, onward, take_bytes, at_end, in_turn}

abbrev held : List ℕ → List ℕ
held l = take most_held l

-- a line held comes to what the line comes to
line_held_by : (l : List ℕ) (b : Bool) → ltb 200 (length l) ≡ b → line_of (held l) ≡ line_of l
line_held_by l true e =
    let h = ltb-true 200 (length l) e in
    line_long (held l) (omega (arith, length-take most_held l, h)) ∙ sym (line_long l h)
line_held_by l false e = ap line_of (take_all most_held l (omega (arith, ltb-false 200 (length l) e)))

line_held : (l : List ℕ) → line_of (held l) ≡ line_of l
line_held l = line_held_by l (ltb 200 (length l)) refl

pair_held : (l m : List ℕ) → pair (held l) (held m) ≡ pair l m
unfolding pair
pair_held l m = ap₂ with_first (line_held l) (line_held m)

-- what is printed from the lines held on
abbrev printed : Turned → List ℕ
printed t = t.output ++ at_end t.lines

printed_onward : (o : List ℕ) (t : Turned) → printed (onward o t) ≡ o ++ printed t
printed_onward o t = append_assoc o t.output (at_end t.lines)

end_first : (l : List ℕ) → at_end (first (held l)) ≡ pairs (glue l [])
unfolding at_end pairs
end_first [] = refl
end_first (b ∷ l) = ap (λ x. with_lf (single x)) (line_held (b ∷ l))

end_second : (l m : List ℕ) → at_end (second (held l) (held m)) ≡ pairs (l ∷ glue m [])
unfolding at_end pairs
end_second l [] = ap (λ x. with_lf (single x)) (line_held l)
end_second l (b ∷ m) = ap with_lf (pair_held l (b ∷ m))

pair_first : (l m : List ℕ) (ls : List (List ℕ)) → with_lf (pair l m) ++ pairs ls ≡ pairs (l ∷ m ∷ ls)
unfolding pairs
pair_first l m ls = append_assoc (pair l m) (10 ∷ []) (pairs ls)

-- one byte
first_lf : (l : List ℕ) (b : ℕ) → eqb b 10 ≡ true → take_byte (first (held l)) b ≡ turned (second (held l) (held [])) []
unfolding take_byte
first_lf l b e = rw e

first_byte : (l : List ℕ) (b : ℕ) → eqb b 10 ≡ false → take_byte (first (held l)) b ≡ turned (first (held (l ++ (b ∷ [])))) []
unfolding take_byte
first_byte l b e = rw e (ap (λ x. turned (first x) []) (holding_held most_held l b))

second_lf : (l m : List ℕ) (b : ℕ) → eqb b 10 ≡ true → take_byte (second (held l) (held m)) b ≡ turned (first (held [])) (with_lf (pair l m))
unfolding take_byte
second_lf l m b e = rw e (ap (λ x. turned (first []) (with_lf x)) (pair_held l m))

second_byte : (l m : List ℕ) (b : ℕ) → eqb b 10 ≡ false → take_byte (second (held l) (held m)) b ≡ turned (second (held l) (held (m ++ (b ∷ [])))) []
unfolding take_byte
second_byte l m b e = rw e (ap (λ x. turned (second (held l) x) []) (holding_held most_held m b))

-- one byte, the rest being known
module _ (bs : List ℕ) (on-first : (l : List ℕ) → printed (take_bytes (first (held l)) bs) ≡ pairs (glue l (lines bs)))
    (on-second : (l m : List ℕ) → printed (take_bytes (second (held l) (held m)) bs) ≡ pairs (l ∷ glue m (lines bs))) where
  abbrev then_printed : Turned → List ℕ
  then_printed t = t.output ++ printed (take_bytes t.lines bs)

  first_by : (l : List ℕ) (b : ℕ) (t : Bool) → eqb b 10 ≡ t → then_printed (take_byte (first (held l)) b) ≡ pairs (glue l (lines (b ∷ bs)))
  first_by l b true e = ap then_printed (first_lf l b e) ∙ (on-second l [] ∙ ap pairs (ap (λ ls. l ∷ ls) (glue_none (lines bs)) ∙ sym (after_lf l b bs e)))
  first_by l b false e = ap then_printed (first_byte l b e) ∙ (on-first (l ++ (b ∷ [])) ∙ ap pairs (after_byte l b bs e))

  second_by : (l m : List ℕ) (b : ℕ) (t : Bool) → eqb b 10 ≡ t → then_printed (take_byte (second (held l) (held m)) b) ≡ pairs (l ∷ glue m (lines (b ∷ bs)))
  second_by l m b true e =
      ap then_printed (second_lf l m b e)
      ∙ (ap (λ x. with_lf (pair l m) ++ x) (on-first [] ∙ ap pairs (glue_none (lines bs))) ∙ (pair_first l m (lines bs)
      ∙ ap (λ ls. pairs (l ∷ ls)) (sym (after_lf m b bs e))))
  second_by l m b false e = ap then_printed (second_byte l m b e) ∙ (on-second l (m ++ (b ∷ [])) ∙ ap (λ ls. pairs (l ∷ ls)) (after_byte m b bs e))

mutual
  unfolding take_bytes

  from_first : (bs l : List ℕ) → printed (take_bytes (first (held l)) bs) ≡ pairs (glue l (lines bs))
  from_first [] l = end_first l ∙ ap (λ ls. pairs (glue l ls)) (sym no_lines)
  from_first (b ∷ bs) l =
      printed_onward (take_byte (first (held l)) b).output (take_bytes (take_byte (first (held l)) b).lines bs) ∙
      first_by bs (λ x. from_first bs x) (λ x y. from_second bs x y) l b (eqb b 10) refl

  from_second : (bs l m : List ℕ) → printed (take_bytes (second (held l) (held m)) bs) ≡ pairs (l ∷ glue m (lines bs))
  from_second [] l m = end_second l m ∙ ap (λ ls. pairs (l ∷ glue m ls)) (sym no_lines)
  from_second (b ∷ bs) l m =
      printed_onward (take_byte (second (held l) (held m)) b).output (take_bytes (take_byte (second (held l) (held m)) b).lines bs)
      ∙ second_by bs (λ x. from_first bs x) (λ x y. from_second bs x y) l m b (eqb b 10) refl

-- The program byte by byte is the pair program.
pub byte_by_byte_exactly : (input : List ℕ) → (take_bytes (first []) input).output ++ at_end (take_bytes (first []) input).lines ≡ output input
unfolding output
byte_by_byte_exactly input = from_first input [] ∙ ap pairs (glue_none (lines input))

-- An input in two parts: the second goes on from the lines that the first has left.
pub in_parts : (h : Lines) (xs ys : List ℕ) → take_bytes h (xs ++ ys) ≡ onward (take_bytes h xs).output (take_bytes (take_bytes h xs).lines ys)
unfolding take_bytes
in_parts h [] ys = refl
in_parts h (b ∷ xs) ys =
    ap (onward (take_byte h b).output) (in_parts (take_byte h b).lines xs ys)
    ∙ ap (turned _) (sym (append_assoc (take_byte h b).output (take_bytes (take_byte h b).lines xs).output _))

parts_from : (ps : List (List ℕ)) (h : Lines) → in_turn h ps ≡ printed (take_bytes h (whole ps))
unfolding take_bytes
parts_from [] h = refl
parts_from (p ∷ ps) h =
    ap (λ x. (take_bytes h p).output ++ x) (parts_from ps (take_bytes h p).lines)
    ∙ sym (ap printed (in_parts h p (whole ps)) ∙ printed_onward (take_bytes h p).output (take_bytes (take_bytes h p).lines (whole ps)))

pub parts_exactly : (ps : List (List ℕ)) → in_turn (first []) ps ≡ output (whole ps)
parts_exactly ps = parts_from ps (first []) ∙ byte_by_byte_exactly (whole ps)
