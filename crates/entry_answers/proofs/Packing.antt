-- Packing tells numbers apart that fit their fields: the lowest field is the remainder, the others the quotient. By induction on the
-- fields. Assumes nothing.
use mathlib.Core.Path.{◌≡◌, refl, sym, ◌∙◌, ap}
use mathlib.Core.List.{List, [], ◌∷◌}
use Prim.Native.Nat.{ℕ, zero, suc, ◌+◌, ◌*◌, ◌^◌, ◌%◌, ◌/◌, ◌<◌}
use native.Mathlib.Omega.{arith}
use native.Mathlib.Nat.{add-mul-mod_self_left, add-mul-div_left, mod-eq_of_lt, div-eq_of_lt, mul-zero, zero-add}
use lib.ListN.{get_or}
use Rattle.std.specs.Prelude.{Result, Ok, Err}
use Rattle.std.specs.Result.{MatchResult, IsOkAnd}
use Rattle.resolved_sort.specs.declared.Refusal.{Refusal}
use Rattle.resolved_sort.specs.Checks.{code_of}
use Rattle.entry_answers.specs.Packing.{CodeAndValues, coded, in_fields, packed, code_bits, FitFields, FitsWidths, coded_answer}
use Rattle.entry_answers.specs.Packing.{pack_number}
use Rattle.entry_answers.proofs.Refusals.{codes_tell, code_in_byte}

-- a field and what is above it
module _ (m v u x y : ℕ) (fv : v < m) (fu : u < m) (e : v + m * x ≡ u + m * y) where
  pub lowest_told : v ≡ u
  lowest_told =
      sym (add-mul-mod_self_left v m x ∙ mod-eq_of_lt fv) ∙ (ap (λ k. k % m) e ∙ (add-mul-mod_self_left u m y ∙ mod-eq_of_lt fu))

  pub above_told : x ≡ y
  above_told =
      let p : 0 < m = omega (arith, fv) in
      let a : v / m + x ≡ x = ap (λ k. k + x) (div-eq_of_lt fv) ∙ omega arith in
      let b : u / m + y ≡ y = ap (λ k. k + y) (div-eq_of_lt fu) ∙ omega arith in
      sym (add-mul-div_left v x p ∙ a) ∙ (ap (λ k. k / m) e ∙ (add-mul-div_left u y p ∙ b))

nothing_above : (m : ℕ) → 0 + m * 0 ≡ 0
nothing_above m = zero-add (m * 0) ∙ mul-zero m

no_fields : (ws : List ℕ) → in_fields ws [] ≡ 0
unfolding in_fields
no_fields [] = refl
no_fields (w ∷ ws) = refl

-- numbers that are packed alike are the same field by field
pub fields_tell : (ws vs us : List ℕ) → FitFields ws vs → FitFields ws us → in_fields ws vs ≡ in_fields ws us
    → (i : ℕ) → get_or vs i 0 ≡ get_or us i 0
unfolding FitFields in_fields
fields_tell ws [] [] f g e i = refl
fields_tell [] [] (u ∷ us) f g e i = absurd g
fields_tell [] (v ∷ vs) us f g e i = absurd f
fields_tell (w ∷ ws) [] (u ∷ us) f g e zero =
    lowest_told (2 ^ w) 0 u 0 (in_fields ws us) (omega (arith, g.0)) g.0 (nothing_above (2 ^ w) ∙ e)
fields_tell (w ∷ ws) [] (u ∷ us) f g e (suc i) =
    fields_tell ws [] us tt g.1 (no_fields ws ∙ above_told (2 ^ w) 0 u 0 (in_fields ws us) (omega (arith, g.0)) g.0 (nothing_above (2 ^ w) ∙ e)) i
fields_tell (w ∷ ws) (v ∷ vs) [] f g e zero =
    lowest_told (2 ^ w) v 0 (in_fields ws vs) 0 f.0 (omega (arith, f.0)) (e ∙ sym (nothing_above (2 ^ w)))
fields_tell (w ∷ ws) (v ∷ vs) [] f g e (suc i) =
    fields_tell ws vs [] f.1 tt (above_told (2 ^ w) v 0 (in_fields ws vs) 0 f.0 (omega (arith, f.0)) (e ∙ sym (nothing_above (2 ^ w))) ∙ sym (no_fields ws)) i
fields_tell (w ∷ ws) (v ∷ vs) (u ∷ us) f g e zero =
    lowest_told (2 ^ w) v u (in_fields ws vs) (in_fields ws us) f.0 g.0 e
fields_tell (w ∷ ws) (v ∷ vs) (u ∷ us) f g e (suc i) =
    fields_tell ws vs us f.1 g.1 (above_told (2 ^ w) v u (in_fields ws vs) (in_fields ws us) f.0 g.0 e) i

-- Answers that are packed alike have one code and the same values.
module _ (ws : List ℕ) (a b : CodeAndValues) (f : FitsWidths ws a) (g : FitsWidths ws b) (e : packed ws a ≡ packed ws b) where
  pub codes_told : a.code ≡ b.code
  unfolding packed
  codes_told = fields_tell (code_bits ∷ ws) (a.code ∷ a.values) (b.code ∷ b.values) f g e 0

  pub values_told : (i : ℕ) → get_or a.values i 0 ≡ get_or b.values i 0
  unfolding packed
  values_told i = fields_tell (code_bits ∷ ws) (a.code ∷ a.values) (b.code ∷ b.values) f g e (suc i)

-- The code is the lowest byte of what is packed.
pub code_is_low_byte : (ws : List ℕ) (a : CodeAndValues) → FitsWidths ws a → packed ws a % 256 ≡ a.code
unfolding packed in_fields FitFields
code_is_low_byte ws a f = add-mul-mod_self_left a.code 256 (in_fields ws a.values) ∙ mod-eq_of_lt f.0

-- Answers of one kind, whose values stand in fields of the widths ws: a refusal has the number of a check or of the room
-- that ended, and no values.
module _ {A : Type 0} (ws : List ℕ) (values : A → List ℕ) where
  abbrev pub Fit : Result A Refusal → Type 0
  Fit (Ok a) = FitFields ws (values a)
  Fit (Err r) = Unit {0}

  fits : (r : Result A Refusal) → Fit r → FitsWidths ws (coded_answer values r)
  unfolding FitFields
  fits (Ok a) f = (omega arith, f)
  fits (Err r) f = ((code_in_byte r).1, tt)

  -- values that stand in their fields are told apart
  pub answers_told : ((a b : A) → ((i : ℕ) → get_or (values a) i 0 ≡ get_or (values b) i 0) → a ≡ b)
      → (r s : Result A Refusal) → Fit r → Fit s
      → packed ws (coded_answer values r) ≡ packed ws (coded_answer values s) → r ≡ s
  answers_told told r s f g e =
      go r s (codes_told ws (coded_answer values r) (coded_answer values s) (fits r f) (fits s g) e)
      (values_told ws (coded_answer values r) (coded_answer values s) (fits r f) (fits s g) e)
    where
      go : (r s : Result A Refusal) → (coded_answer values r).code ≡ (coded_answer values s).code
          → ((i : ℕ) → get_or (coded_answer values r).values i 0 ≡ get_or (coded_answer values s).values i 0) → r ≡ s
      go (Ok a) (Ok b) k v = ap Ok (told a b v)
      go (Ok a) (Err s) k v = absurd (omega (arith, k, (code_in_byte s).0))
      go (Err r) (Ok b) k v = absurd (omega (arith, k, (code_in_byte r).0))
      go (Err r) (Err s) k v = ap Err (codes_tell r s k)

  no_values : (c : ℕ) → packed ws (coded c []) ≡ c
  unfolding packed in_fields
  no_values c = omega (arith, no_fields ws)

  -- the code of a refusal is all that is packed of it
  pub refusal_packed : (r : Refusal) → code_of r ≡ packed ws (coded_answer values (Err r))
  refusal_packed r = sym (no_values (code_of r))

  -- as `map` gives the values of an answer packed, and `pack` their number or the code of a refusal
  pub packed_by : (r : Result A Refusal) (n : Result ℕ Refusal) (Q : A → ℕ → Type 0) → MatchResult r (λ a. IsOkAnd n (Q a)) (λ e. n ≡ Err e)
      → ((a : A) (v : ℕ) → Q a v → v ≡ packed ws (coded_answer values (Ok a)))
      → pack_number n ≡ packed ws (coded_answer values r)
  unfolding pack_number
  packed_by (Ok a) (Ok v) Q m each = each a v m
  packed_by (Ok a) (Err e) Q m each = absurd m
  packed_by (Err r) n Q m each = rw m (refusal_packed r)
