-- What unpacking a list of records does, as facts of lists. Assumes nothing.
use mathlib.Core.Path.{◌≡◌, refl, sym, ap, ◌∙◌}
use Prim.Native.Nat.{ℕ, suc, ◌+◌, ◌-◌, ◌*◌, ◌<◌, ◌≤◌, min}
use native.Mathlib.Numerals.{add-one}
use native.Mathlib.Omega.{arith}
use mathlib.Core.List.{List, [], ◌∷◌, ◌++◌}
use lib.ListN.{length, take, drop, set, replicate, length-take, length-replicate, drop_of_length-le}
use lib.Seq.{sets, sets-eq, drop-cons, get_or-take, take-append_seam}
use Rattle.inference.specs.Constraints.{max_overloads}
use Rattle.solve_records.specs.declared.OverloadRecord.{OverloadRecord}
use Rattle.solve_records.specs.Records.{words_of, record_words}
use Rattle.solve_records.specs.Inner.Records.{no_record, record_at, words_from, unpacked, words_of_count}

one_on : (i : ℕ) → 3 * i + 1 ≡ suc (3 * i)
one_on i = omega arith

two_on : (i : ℕ) → 3 * i + 2 ≡ suc (suc (3 * i))
two_on i = omega arith

three_on : (i : ℕ) → 3 * (i + 1) ≡ suc (suc (suc (3 * i)))
three_on i = omega arith

-- three words, one after the other, are a record's
pub three_words_are_a_record : (ws ws₁ ws₂ ws₃ : List ℕ) (i : ℕ) (o : OverloadRecord)
    → ws₁ ≡ set ws (3 * i) o.target.kind → ws₂ ≡ set ws₁ (3 * i + 1) o.target.sort.0
    → ws₃ ≡ set ws₂ (3 * i + 2) o.sort.0
    → ws₃ ≡ sets ws (3 * i) (words_of o)
three_words_are_a_record ws ws₁ ws₂ ws₃ i o e₁ e₂ e₃ =
    e₃
    ∙ ap (λ (l : List ℕ). set l (3 * i + 2) o.sort.0) (e₂ ∙ ap (λ (l : List ℕ). set l (3 * i + 1) o.target.sort.0) e₁)
    ∙ ap (λ (k : ℕ). set (set (set ws (3 * i) o.target.kind) k o.target.sort.0) (3 * i + 2) o.sort.0) (one_on i)
    ∙ ap (λ (k : ℕ). set (set (set ws (3 * i) o.target.kind) (suc (3 * i)) o.target.sort.0) k o.sort.0) (two_on i)

-- past the ceiling, or past the end, nothing is written
none_past_the_last : (os : List OverloadRecord) (i : ℕ) (ws : List ℕ) → min max_overloads (length os) ≤ i → ws ≡ sets ws (3 * i) (words_from i os)
unfolding record_words
none_past_the_last os i ws past =
    sym (ap (λ (l : List OverloadRecord). sets ws (3 * i) (record_words l)) (drop_of_length-le (take max_overloads os)
    {i = i} (omega (arith, past, length-take max_overloads os))))

-- the record at i, and then those from i + 1 on
one_record_more : (os : List OverloadRecord) (i : ℕ) (ws : List ℕ) → i < max_overloads → i < length os
    → sets (sets ws (3 * i) (words_of (record_at os i))) (3 * (i + 1)) (words_from (i + 1) os) ≡ sets ws (3 * i)
    (words_from i os)
unfolding record_words
one_record_more os i ws below within =
    ap (λ (k : ℕ). sets (sets ws (3 * i) (words_of (record_at os i))) k (words_from (i + 1) os)) (three_on i)
    ∙ ap (λ (k : ℕ). sets (sets ws (3 * i) (words_of (record_at os i))) (suc (suc (suc (3 * i)))) (words_from k os)) (add-one i)
    ∙ ap (λ (o : OverloadRecord). sets ws (3 * i) (record_words (o ∷ drop (suc i) (take max_overloads os)))) (sym (get_or-take max_overloads os i no_record below))
    ∙ ap (λ (l : List OverloadRecord). sets ws (3 * i) (record_words l)) (sym (drop-cons (take max_overloads os) i
    no_record (omega (arith, below, within, length-take max_overloads os))))

-- The loop: storing the records that are left comes to storing all.
module _ (os : List OverloadRecord) where
  pub record RecordsLeft (ws : List ℕ) (i : ℕ) : Type 0 where
    pub within : i ≤ min max_overloads (length os)
    pub left : unpacked os ≡ sets ws (3 * i) (words_from i os)

  module _ (ws : List ℕ) (i : ℕ) (p : RecordsLeft ws i) where
    pub records_go_on : i < min max_overloads (length os) → (us : List ℕ) → us ≡ sets ws (3 * i) (words_of (record_at os i)) → RecordsLeft us (i + 1)
    records_go_on l us q =
        record {
          within = omega (arith, l);
          left =
              p.left
              ∙ sym (one_record_more os i ws (omega (arith, l)) (omega (arith, l)))
              ∙ ap (λ (r : List ℕ). sets r (3 * (i + 1)) (words_from (i + 1) os)) (sym q);
        }

    pub records_end : min max_overloads (length os) ≤ i → ws ≡ unpacked os
    records_end l = none_past_the_last os i ws l ∙ sym p.left

-- what is left falls
pub one_record_less : (n i : ℕ) → i < n → n - (i + 1) < n - i
one_record_less n i h = omega arith

pub three_words_each : (os : List OverloadRecord) → length (record_words os) ≡ 3 * length os
unfolding record_words
three_words_each [] = refl
three_words_each (o ∷ os) = let h : length (record_words os) ≡ 3 * length os = three_words_each os in omega (arith, h)

-- of the words, as many as the records that are looked at have are those records'
pub words_looked_at : (os : List OverloadRecord) → take (words_of_count (length os)) (unpacked os) ≡ record_words (take max_overloads os)
words_looked_at os =
    let l : length (record_words (take max_overloads os)) ≡ words_of_count (length os) = three_words_each
    (take max_overloads os) ∙ ap (λ (n : ℕ). 3 * n) (length-take max_overloads os) in
    ap (λ (ws : List ℕ). take (words_of_count (length os)) ws) (sets-eq (record_words (take max_overloads os))
    (replicate 3072 0) 0 (omega (arith, l, length-replicate {A = ℕ} 3072 0)))
    ∙ ap (λ (n : ℕ). take n (record_words (take max_overloads os) ++ drop (0 + length (record_words (take max_overloads os))) (replicate 3072 0))) (sym l)
    ∙ take-append_seam (record_words (take max_overloads os)) (drop (0 + length (record_words (take max_overloads os))) (replicate 3072 0))
