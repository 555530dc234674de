-- Document 01's number of each outcome of reading a line: the first failing check's, 20 where the line is no sort, 15 where room ended, else
-- 0. Number and values tell all answers apart, as a refusal has the number of a check. By the cases of each. Assumes nothing.
use mathlib.Core.Path.{◌≡◌, refl, sym, ◌∙◌, ap}
use mathlib.Core.Logic.{◌⊎◌, inl, inr}
use mathlib.Core.List.{List}
use Prim.Native.Nat.{ℕ}
use native.Mathlib.Omega.{arith}
use lib.ListN.{get_or}
use Rattle.resolved_sort.specs.declared.Refusal.{Refusal}
use Rattle.std.specs.Prelude.{Err, Ok}
use Rattle.resolved_sort.specs.Entries.{Joined}
use Rattle.resolved_sort.specs.Entries.{At, Nothing, Full}
use Rattle.resolved_sort.specs.Storage.{sorts_of}
use Rattle.resolved_sort.specs.Checks.{first_failing, sort_checks, Numbered, Tested, code_of}
use Rattle.resolved_sort.specs.Entries.{refused_or, Stored, stored}
use Rattle.resolved_sort.proofs.FailingNumber.{failing_number}
use Rattle.resolved_sort.specs.declared.Refusal.TheVariants.{LongLine}
use Rattle.entry_answers.proofs.Refusals.{codes_tell, code_in_byte}
use Rattle.sort_text.specs.declared.Unread.TheVariants.{Refused, NotASort, NoRoom}
use Rattle.sort_text.specs.Parse.{Parsed, parsed, stuck, line}
use Rattle.sort_text.specs.Reading.{store, read_checks, ReadAnswer, code_read, WordsLeft, words_left, stored_by, read_as_of}
use Rattle.sort_text.specs.Reading.{reading_words, reading}
use Rattle.sort_reader.specs.Codes.{coded_read, ReadWithin, store_code, line_code_of}
use Rattle.sort_reader.specs.Answered.{ReadSays}
use Rattle.sort_reader.proofs.Answered.{entry_is_line}

stored_code : (ws : List ℕ) (n e : ℕ) (r : Stored) (j : Joined) → code_read (stored_by ws n e r j).answer ≡ store_code j
unfolding stored_by code_read
stored_code ws n e r (At s k) = refl
stored_code ws n e r (Nothing k) = refl
stored_code ws n e r Full = refl

line_code : (ws : List ℕ) (n e : ℕ) (bs : List ℕ) (P : Parsed) → code_read (read_as_of ws n e bs P).answer ≡ line_code_of ws n e P
unfolding read_as_of code_read
line_code ws n e bs (parsed t cs) = stored_code ws n e (stored ws n e (store t (sorts_of ws n e))) _
line_code ws n e bs (stuck cs) = refl

by_check : (x : Tested) (ws : List ℕ) (r : WordsLeft)
    → code_read (refused_or x (λ c. words_left ws (Err (Refused c))) r).answer ≡ refused_or x code_of (code_read r.answer)
unfolding code_read
by_check (Ok u) ws r = refl
by_check (Err c) ws r = refl

else_same : (x : Tested) (m k : ℕ) → m ≡ k → refused_or x code_of m ≡ refused_or x code_of k
else_same x m k e = rw e

pub code_of_reading : (ws ix : List ℕ) (n e : ℕ) (bs : List ℕ) → code_read (reading ws ix n e bs).answer ≡ refused_or
    (first_failing (read_checks ws ix n e bs)) code_of (line_code_of ws n e (line bs))
unfolding reading reading_words
code_of_reading ws ix n e bs =
    by_check (first_failing (read_checks ws ix n e bs)) ws (read_as_of ws n e bs (line bs)) ∙ else_same
    (first_failing (read_checks ws ix n e bs)) _ _ (line_code ws n e bs (line bs))

-- a refusal is by a check
refused_by_number : (ws ix : List ℕ) (n e : ℕ) (bs : List ℕ) (c : Refusal) → first_failing (read_checks ws ix n e bs) ≡ Err c → Numbered c ⊎ (c ≡ LongLine)
unfolding read_checks sort_checks code_of
refused_by_number ws ix n e bs c x = failing_number (λ c. Numbered c ⊎ (c ≡ LongLine)) (read_checks ws ix n e bs) c (
  inl (omega arith, omega arith),
  (
    inl (omega arith, omega arith),
    (inl (omega arith, omega arith), (inl (omega arith, omega arith), (inl (omega arith, omega arith), (inr refl, tt)))),
  ),
)
    x

within_by : (ws ix : List ℕ) (n e : ℕ) (bs vs jx : List ℕ) (r : ReadAnswer) → ReadSays ws ix n e bs vs jx r → ReadWithin r
within_by ws ix n e bs vs jx (Ok sort) h = tt
within_by ws ix n e bs vs jx (Err (Refused c)) h = refused_by_number ws ix n e bs c h.first
within_by ws ix n e bs vs jx (Err (NotASort at)) h = tt
within_by ws ix n e bs vs jx (Err NoRoom) h = tt

-- whatever the entry is given
pub read_within : (ws ix : List ℕ) (n e : ℕ) (bs : List ℕ) → ReadWithin (reading ws ix n e bs).answer
read_within ws ix n e bs = within_by ws ix n e bs _ _ (reading ws ix n e bs).answer (entry_is_line ws ix n e bs _ _ _ refl)

-- a refusal is neither an answer, nor 15, nor 20
not_zero : (c : Refusal) → Numbered c ⊎ (c ≡ LongLine) → code_of c ≡ 0 → ⊥
not_zero c h e = omega (arith, (code_in_byte c).0, e)

not_fifteen : (c : Refusal) → Numbered c ⊎ (c ≡ LongLine) → code_of c ≡ 15 → ⊥
unfolding code_of
not_fifteen c (inl h) e = omega (arith, h.1, e)
not_fifteen c (inr h) e = omega (arith, ap code_of h, e)

not_twenty : (c : Refusal) → Numbered c ⊎ (c ≡ LongLine) → code_of c ≡ 20 → ⊥
unfolding code_of
not_twenty c (inl h) e = omega (arith, h.1, e)
not_twenty c (inr h) e = omega (arith, ap code_of h, e)

-- number and values tell the answers apart
pub read_tells : (r s : ReadAnswer) → ReadWithin r → ReadWithin s → coded_read r ≡ coded_read s → r ≡ s
unfolding code_read
read_tells r s x y p = go r s x y (ap (λ z. z.code) p) (λ i. ap (λ z. get_or z.values i 0) p)
  where
    go : (r s : ReadAnswer) → ReadWithin r → ReadWithin s → (coded_read r).code ≡ (coded_read s).code
        → ((i : ℕ) → get_or (coded_read r).values i 0 ≡ get_or (coded_read s).values i 0) → r ≡ s
    go (Err (Refused c)) (Err (Refused d)) x y k v = ap (λ d. Err (Refused d)) (codes_tell c d k)
    go (Err (Refused c)) (Err (NotASort q)) x y k v = absurd (not_twenty c x k)
    go (Err (Refused c)) (Ok (t, l)) x y k v = absurd (not_zero c x k)
    go (Err (Refused c)) (Err NoRoom) x y k v = absurd (not_fifteen c x k)
    go (Err (NotASort p)) (Err (Refused d)) x y k v = absurd (not_twenty d y (sym k))
    go (Err (NotASort p)) (Err (NotASort q)) x y k v = ap (λ q. Err (NotASort q)) (v 0)
    go (Err (NotASort p)) (Ok (t, l)) x y k v = absurd (omega (arith, k))
    go (Err (NotASort p)) (Err NoRoom) x y k v = absurd (omega (arith, k))
    go (Ok (s, m)) (Err (Refused d)) x y k v = absurd (not_zero d y (sym k))
    go (Ok (s, m)) (Err (NotASort q)) x y k v = absurd (omega (arith, k))
    go (Ok (s, m)) (Ok (t, l)) x y k v = λ i. Ok (record { 0 = v 0 i }, record { sorts = v 1 i; entries = v 2 i })
    go (Ok (s, m)) (Err NoRoom) x y k v = absurd (omega (arith, k))
    go (Err NoRoom) (Err (Refused d)) x y k v = absurd (not_fifteen d y (sym k))
    go (Err NoRoom) (Err (NotASort q)) x y k v = absurd (omega (arith, k))
    go (Err NoRoom) (Ok (t, l)) x y k v = absurd (omega (arith, k))
    go (Err NoRoom) (Err NoRoom) x y k v = refl
