-- Document 01's number of each outcome of writing a sort: the first failing check's, else 0. The packed answer tells all answers apart, as a
-- text in the buffer is shorter than 2^63, and its low 63 bits are the code of a refusal. By the cases of the first failing check and of
-- the answers. Assumes nothing.
use mathlib.Core.Path.{◌≡◌, refl, ap}
use mathlib.Core.Bool.{and-eq-true_iff}
use mathlib.Core.List.{List, ◌++◌}
use Prim.Native.Nat.{ℕ, ◌<◌, ◌≤◌}
use native.Mathlib.Omega.{arith}
use lib.ListN.{length, drop}
use lib.Dec.{leb}
use borrow.Author.Tests.{leb-true}
use Rattle.resolved_sort.specs.declared.Refusal.{Refusal}
use Rattle.std.specs.Prelude.{Result, Ok, Err}
use Rattle.words.specs.Bits.{bit63}
use Rattle.resolved_sort.specs.Checks.{first_failing, sort_checks, at_ceiling, Numbered, Tested, code_of}
use Rattle.resolved_sort.specs.Entries.{refused_or, tree_at, code_answered}
use Rattle.resolved_sort.proofs.FirstFailing.{cons_passes}
use Rattle.resolved_sort.proofs.FailingNumber.{failing_number}
use Rattle.entry_answers.proofs.Refusals.{codes_tell}
use Rattle.sort_text.specs.Text.{text}
use Rattle.sort_text.specs.Writing.{write_checks, write_left, writing}
use Rattle.sort_writer.specs.Packed.{pack_written, WrittenWithin}

by_check : (x : Tested) (out bs : List ℕ) (m : ℕ)
    → code_answered (refused_or x (λ c. write_left out (Err c)) (write_left bs (Ok m))).answer ≡ refused_or x
    code_of 0
unfolding code_answered
by_check (Ok u) out bs m = refl
by_check (Err c) out bs m = refl

pub code_of_written : (ws : List ℕ) (n e a : ℕ) (out : List ℕ) → code_answered (writing ws n e a out).answer ≡
    refused_or (first_failing (write_checks ws n e a out)) code_of 0
unfolding writing
code_of_written ws n e a out = by_check (first_failing (write_checks ws n e a out)) out _ _

-- what check 14 bounds: the text is not longer than the buffer
in_buffer : (ws : List ℕ) (n e a : ℕ) (out : List ℕ) → first_failing (write_checks ws n e a out) ≡ Ok tt
    → length (text (tree_at ws n a)) ≤ length out
unfolding write_checks sort_checks
in_buffer ws n e a out x =
    let c₁ = cons_passes _ _ x in
    let c₂ = cons_passes _ _ c₁.1 in
    let c₃ = cons_passes _ _ c₂.1 in
    let c₄ = cons_passes _ _ c₃.1 in
    let c₅ = cons_passes _ _ c₄.1 in
    let c₆ = cons_passes _ _ c₅.1 in
    let c₇ = cons_passes _ _ c₆.1 in
    leb-true _ _ ((and-eq-true_iff (at_ceiling ws) (leb (length (text (tree_at ws n a))) (length out))).0 c₇.0).1

refused_by_number : (ws : List ℕ) (n e a : ℕ) (out : List ℕ) (c : Refusal) → first_failing (write_checks ws n e a out) ≡ Err c → Numbered c
unfolding write_checks sort_checks code_of
refused_by_number ws n e a out c x = failing_number Numbered (write_checks ws n e a out) c (
  (omega arith, omega arith),
  (
    (omega arith, omega arith),
    (
      (omega arith, omega arith),
      ((omega arith, omega arith), ((omega arith, omega arith), ((omega arith, omega arith), ((omega arith, omega arith), tt)))),
    ),
  ),
)
    x

-- Whatever the entry is given; a slice has fewer than 2^63 bytes.
pub written_within : (ws : List ℕ) (n e a : ℕ) (out : List ℕ) → length out < bit63 → WrittenWithin (writing ws n e a out).answer
unfolding writing
written_within ws n e a out l = go (first_failing (write_checks ws n e a out)) refl
  where
    go : (x : Tested) → first_failing (write_checks ws n e a out) ≡ x
        → WrittenWithin (refused_or x (λ c. write_left out (Err c))
        (write_left (text (tree_at ws n a) ++ drop (length (text (tree_at ws n a))) out) (Ok (length (text (tree_at ws n a)))))).answer
    go (Ok u) f = omega (arith, l, in_buffer ws n e a out f)
    go (Err c) f = refused_by_number ws n e a out c f

-- the packed answer tells the answers apart
pub written_tells : (r s : Result ℕ Refusal) → WrittenWithin r → WrittenWithin s → pack_written r ≡ pack_written s → r ≡ s
unfolding code_answered
written_tells (Err c) (Err d) x y p = ap Err (codes_tell c d (omega (arith, p)))
written_tells (Err c) (Ok m) x y p = absurd (omega (arith, p, y))
written_tells (Ok n) (Err d) x y p = absurd (omega (arith, p, x))
written_tells (Ok n) (Ok m) x y p = ap Ok p
