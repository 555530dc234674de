-- The packed answer as the code computes it: the code, and each value times the place of its field. By computing the fields. Assumes nothing.
use mathlib.Core.Path.{◌≡◌, sym, ap, ◌∙◌}
use mathlib.Core.Logic.{◌⊎◌, inl, inr}
use Prim.Native.Nat.{ℕ, ◌+◌, ◌*◌}
use native.Mathlib.Omega.{arith}
use Rattle.std.specs.Prelude.{Result, Ok, Err}
use Rattle.std.specs.Result.{MatchResult, IsOkAnd}
use Rattle.resolved_sort.specs.Checks.{code_of}
use Rattle.resolved_sort.specs.declared.Refusal.{Refusal}
use Rattle.resolved_sort.specs.declared.Counts.{Counts}
use Rattle.inference.specs.declared.Verdict.TheVariants.{NoTyping, Ambiguous, Typing}
use Rattle.inference.specs.declared.Outputs.{Outputs}
use Rattle.words.specs.Bits.{bit40, bit52}
use Rattle.inference.specs.declared.Verdict.{Verdict}
use Rattle.inference.specs.SolveEntry.{Solved, code_solved}
use Rattle.entry_answers.specs.Packing.{packed, pack_number, in_fields}
use Rattle.solve_outputs.specs.Packed.{pack_solved}
use Rattle.solve_outputs.specs.Inner.Counts.{pack_counts}

pub solved_refused : (r : Refusal) → code_of r ≡ pack_solved (Err r)
unfolding pack_solved packed in_fields code_solved
solved_refused r = omega arith

pub solved_no_typing : (k : Counts) → 17 + pack_counts k ≡ pack_solved (Ok (NoTyping k))
unfolding pack_solved packed in_fields code_solved
solved_no_typing k = omega arith

pub solved_typing : (o : Outputs) → pack_counts o.counts + o.components * bit40 + o.choices * bit52 ≡ pack_solved (Ok (Typing o))
unfolding pack_solved packed in_fields code_solved
solved_typing o = omega arith

pub solved_ambiguous : (k : Counts) → 18 + pack_counts k ≡ pack_solved (Ok (Ambiguous k))
unfolding pack_solved packed in_fields code_solved
solved_ambiguous k = omega arith

-- a verdict that counts alone go with
pub solved_counted : (v : Verdict) (k : Counts) → (v ≡ NoTyping k) ⊎ (v ≡ Ambiguous k) → (w : Verdict) → w ≡ v → (n m : ℕ)
    → n ≡ code_solved (Ok w) → m ≡ pack_counts k → n + m ≡ pack_solved (Ok v)
unfolding code_solved
solved_counted v k (inl e) w q n m a b =
    let c : n ≡ 17 = a ∙ ap (λ v. code_solved (Ok v)) (q ∙ e) in
    (λ i. c i + b i) ∙ (solved_no_typing k ∙ sym (ap (λ v. pack_solved (Ok v)) e))
solved_counted v k (inr e) w q n m a b =
    let c : n ≡ 18 = a ∙ ap (λ v. code_solved (Ok v)) (q ∙ e) in
    (λ i. c i + b i) ∙ (solved_ambiguous k ∙ sym (ap (λ v. pack_solved (Ok v)) e))

-- as `map` gives a verdict packed, and `pack` its number or the code of a refusal
pub solved_by : (r : Solved) (n : Result ℕ Refusal) (Q : Verdict → ℕ → Type 0) → MatchResult r (λ v. IsOkAnd n (Q v)) (λ e. n ≡ Err e)
    → ((v : Verdict) (m : ℕ) → Q v m → m ≡ pack_solved (Ok v)) → pack_number n ≡ pack_solved r
unfolding pack_number
solved_by (Ok v) (Ok m) Q h each = each v m h
solved_by (Ok v) (Err e) Q h each = absurd h
solved_by (Err r) n Q h each = rw h (solved_refused r)
