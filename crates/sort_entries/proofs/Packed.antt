-- The packed answers tell all answers of the sorts' entries apart. Whatever an entry is given, the numbers of its answer are within their
-- bounds, by the first failing check and by what the answer says; such numbers fit their fields; so answers that are packed alike have the
-- same values or the same refusal, and by their cases they are the same. Assumes nothing.
use mathlib.Core.Path.{◌≡◌, refl, sym, ◌∙◌, ap, subst}
use mathlib.Core.Bool.{Bool, true, false}
use mathlib.Core.List.{List, [], ◌∷◌}
use mathlib.Core.Option.{Option, none, some}
use mathlib.Core.Logic.{inl, inr}
use Prim.Native.Nat.{ℕ, ◌%◌}
use native.Mathlib.Omega.{arith}
use native.Mathlib.Nat.{min-le_left}
use lib.ListN.{get_or}
use Rattle.std.specs.Prelude.{Result, Ok, Err}
use Rattle.std.specs.Prelude as Rust
use Rattle.std.specs.declared.cmp.Ordering.{Ordering}
use Rattle.std.specs.declared.cmp.Ordering.TheVariants.{Less, Equal, Greater}
use Rattle.resolved_sort.specs.declared.Counts.{Counts}
use Rattle.resolved_sort.specs.declared.SortId.{SortId}
use Rattle.resolved_sort.specs.declared.Refusal.{Refusal}
use Rattle.resolved_sort.specs.declared.Steps.{Steps}
use Rattle.resolved_sort.specs.Tree.{Tree}
use Rattle.resolved_sort.specs.Order.{ordering, Steps as StepsOf, steps_of, map₁, distance, most_steps, materializable}
use Rattle.resolved_sort.specs.Exact.{exact, stopped}
use Rattle.resolved_sort.specs.Checks.{Tested, first_failing, pair_checks, Numbered}
use Rattle.resolved_sort.specs.Entries.{tree_at, refused_or, code_answered, compared, measured, materialized}
use Rattle.resolved_sort.specs.JoinMeet.{Bounded, bounded}
use Rattle.resolved_sort.proofs.Distance.{distance_stops_once}
use Rattle.entry_answers.specs.Packing.{packed, in_fields, FitFields, AnswerWithin}
use Rattle.entry_answers.proofs.Packing.{Fit, answers_told}
use Rattle.entry_answers.proofs.Refusals.{code_in_byte}
use Rattle.entry_answers.proofs.SortsLeft.{counts_within}
use Rattle.entry_answers.specs.Packing.{yes_values}
use Rattle.sort_entries.specs.Codes.{order_code, order_values, distance_values, bound_values}
use Rattle.sort_entries.specs.Codes.{ComparedWithin, StepsWithin, MeasuredWithin, MaterializedWithin, BoundedWithin}
use Rattle.sort_entries.specs.Packed.{compared_widths, measured_widths, materialized_widths, bounded_widths}
use Rattle.sort_entries.specs.Packed.{pack_compared, pack_measured, pack_materialized, pack_bounded, packed_sorts, pack_sorts_left}
use Rattle.sort_entries.specs.Answered.{BoundSays}
use Rattle.sort_entries.proofs.Answered.{refused_by_number, bound_by_number, entry_is_bound}

-- a distance stops at 255
steps_within : (x : Option StepsOf) → StepsWithin (steps_of (map₁ stopped x))
steps_within none = tt
steps_within (some d) = (min-le_left most_steps d.head, min-le_left most_steps d.interior)

distance_within : (s t : Tree) → StepsWithin (steps_of (distance true s t))
distance_within s t = subst (λ x. StepsWithin (steps_of x)) (sym (distance_stops_once true s t)) (steps_within (exact true s t))

bound_within : (up : Bool) (ws ix : List ℕ) (n e a b : ℕ) (vs jx : List ℕ) (r : Bounded) → BoundSays up ws ix n e a b vs jx r → BoundedWithin r
bound_within up ws ix n e a b vs jx (Err r) (inl h) = inl (bound_by_number ws ix n e a b r h.0.first)
bound_within up ws ix n e a b vs jx (Err r) (inr h) = inr h.1
bound_within up ws ix n e a b vs jx (Ok (Rust.Some s, k)) h = let w = counts_within vs k.sorts k.entries h.grew.again in (h.listed, w.0, w.1)
bound_within up ws ix n e a b vs jx (Ok (Rust.None, k)) h = counts_within vs k.sorts k.entries h.grew.again

-- whatever the entries are given
module _ (ws : List ℕ) (n e a b : ℕ) where
  answered_within : {A : Type 0} (W : A → Type 0) (x : A) → W x
      → AnswerWithin Numbered W (refused_or (first_failing (pair_checks ws n e a b)) Err (Ok x))
  answered_within {A} W x w = go (first_failing (pair_checks ws n e a b)) refl
    where
      go : (t : Tested) → first_failing (pair_checks ws n e a b) ≡ t → AnswerWithin Numbered W (refused_or t Err (Ok x))
      go (Ok u) f = w
      go (Err r) f = refused_by_number ws n e a b r f

  pub compared_within : ComparedWithin (compared ws n e a b)
  unfolding compared
  compared_within = answered_within (λ o. Unit {0}) (ordering (tree_at ws n a) (tree_at ws n b)) tt

  pub measured_within : MeasuredWithin (measured ws n e a b)
  unfolding measured
  measured_within =
      answered_within StepsWithin (steps_of (distance true (tree_at ws n a) (tree_at ws n b)))
      (distance_within (tree_at ws n a) (tree_at ws n b))

  pub materialized_within : MaterializedWithin (materialized ws n e a b)
  unfolding materialized
  materialized_within = answered_within (λ x. Unit {0}) (materializable (tree_at ws n a) (tree_at ws n b)) tt

  pub bounded_within : (up : Bool) (ix : List ℕ) → BoundedWithin (bounded up ws ix n e a b).answer
  bounded_within up ix =
      bound_within up ws ix n e a b (bounded up ws ix n e a b).words (bounded up ws ix n e a b).index (bounded up ws ix n e a b).answer
      (entry_is_bound up ws ix n e a b _ _ _ refl)

-- numbers within their bounds fit their fields
order_fits : (o : Rust.Option Ordering) → FitFields compared_widths (order_values o)
unfolding FitFields
order_fits Rust.None = (omega arith, tt)
order_fits (Rust.Some Equal) = (omega arith, tt)
order_fits (Rust.Some Less) = (omega arith, tt)
order_fits (Rust.Some Greater) = (omega arith, tt)

compared_fits : (r : Result (Rust.Option Ordering) Refusal) → Fit compared_widths order_values r
compared_fits (Ok o) = order_fits o
compared_fits (Err r) = tt

measured_fits : (r : Result (Rust.Option Steps) Refusal) → MeasuredWithin r → Fit measured_widths distance_values r
unfolding FitFields
measured_fits (Err r) x = tt
measured_fits (Ok (Rust.Some d)) x = (omega arith, (omega (arith, x.0), (omega (arith, x.1), tt)))
measured_fits (Ok Rust.None) x = (omega arith, tt)

materialized_fits : (r : Result Bool Refusal) → Fit materialized_widths yes_values r
unfolding FitFields
materialized_fits (Err r) = tt
materialized_fits (Ok true) = (omega arith, tt)
materialized_fits (Ok false) = (omega arith, tt)

bounded_fits : (r : Bounded) → BoundedWithin r → Fit bounded_widths bound_values r
unfolding FitFields
bounded_fits (Err r) x = tt
bounded_fits (Ok (Rust.Some s, k)) x = (omega arith, (omega (arith, x.0, x.1), (omega (arith, x.1), (omega (arith, x.2), tt))))
bounded_fits (Ok (Rust.None, k)) x = (omega arith, (omega arith, (omega (arith, x.0), (omega (arith, x.1), tt))))

-- an order by its number
abbrev order_at : ℕ → Rust.Option Ordering
order_at i = get_or (Rust.None ∷ Rust.Some Equal ∷ Rust.Some Less ∷ []) i (Rust.Some Greater)

order_again : (o : Rust.Option Ordering) → order_at (order_code o) ≡ o
order_again Rust.None = refl
order_again (Rust.Some Equal) = refl
order_again (Rust.Some Less) = refl
order_again (Rust.Some Greater) = refl

order_told : (o p : Rust.Option Ordering) → order_code o ≡ order_code p → o ≡ p
order_told o p e = sym (order_again o) ∙ (ap order_at e ∙ order_again p)

distance_told : (d f : Rust.Option Steps) → ((i : ℕ) → get_or (distance_values d) i 0 ≡ get_or (distance_values f) i 0) → d ≡ f
distance_told (Rust.Some d) (Rust.Some f) v = λ i. Rust.Some (record { head = v 1 i; interior = v 2 i })
distance_told (Rust.Some d) Rust.None v = absurd (omega (arith, v 0))
distance_told Rust.None (Rust.Some f) v = absurd (omega (arith, v 0))
distance_told Rust.None Rust.None v = refl

yes_told : (x y : Bool) → ((i : ℕ) → get_or (yes_values x) i 0 ≡ get_or (yes_values y) i 0) → x ≡ y
yes_told true true v = refl
yes_told true false v = absurd (omega (arith, v 0))
yes_told false true v = absurd (omega (arith, v 0))
yes_told false false v = refl

counts_told : {a b c d : ℕ} → a ≡ b → c ≡ d → ◌≡◌ {A = Counts} (record { sorts = a; entries = c }) (record { sorts = b; entries = d })
counts_told p q = λ i. record { sorts = p i; entries = q i }

bound_told : (x y : Rust.Option SortId × Counts) → ((i : ℕ) → get_or (bound_values x) i 0 ≡ get_or (bound_values y) i 0) → x ≡ y
bound_told (Rust.Some s, k) (Rust.Some t, l) v = λ i. (Rust.Some (record { 0 = v 1 i }), counts_told (v 2) (v 3) i)
bound_told (Rust.Some s, k) (Rust.None, l) v = absurd (omega (arith, v 0))
bound_told (Rust.None, k) (Rust.Some t, l) v = absurd (omega (arith, v 0))
bound_told (Rust.None, k) (Rust.None, l) v = λ i. (Rust.None, counts_told (v 2) (v 3) i)

-- the lowest 8 bits are document 01's number of the answer
pub bounded_code : (r : Bounded) → pack_bounded r % 256 ≡ code_answered r
unfolding packed in_fields code_answered
bounded_code (Err r) = omega (arith, (code_in_byte r).1)
bounded_code (Ok (Rust.Some s, k)) = omega arith
bounded_code (Ok (Rust.None, k)) = omega arith

-- the packed answers tell the answers apart
pub compared_tells : (r s : Result (Rust.Option Ordering) Refusal) → ComparedWithin r → ComparedWithin s → pack_compared r ≡ pack_compared s → r ≡ s
compared_tells r s x y p =
    answers_told compared_widths order_values (λ o q v. order_told o q (v 0)) r s (compared_fits r) (compared_fits s) p

pub measured_tells : (r s : Result (Rust.Option Steps) Refusal) → MeasuredWithin r → MeasuredWithin s → pack_measured r ≡ pack_measured s → r ≡ s
measured_tells r s x y p = answers_told measured_widths distance_values distance_told r s (measured_fits r x) (measured_fits s y) p

pub materialized_tells : (r s : Result Bool Refusal) → MaterializedWithin r → MaterializedWithin s → pack_materialized r ≡ pack_materialized s → r ≡ s
materialized_tells r s x y p = answers_told materialized_widths yes_values yes_told r s (materialized_fits r) (materialized_fits s) p

pub bounded_tells : (r s : Bounded) → BoundedWithin r → BoundedWithin s → pack_bounded r ≡ pack_bounded s → r ≡ s
bounded_tells r s x y p = answers_told bounded_widths bound_values bound_told r s (bounded_fits r x) (bounded_fits s y) p

-- The same of the exports join and meet: whatever answer their number is read as, it and the words and the index left say what the entry's do.
pub export_is_bound : (up : Bool) (ws ix : List ℕ) (n e a b : ℕ) (vs jx : List ℕ) (p : ℕ)
    → packed_sorts vs jx p ≡ pack_sorts_left (bounded up ws ix n e a b)
    → (r : Bounded) → BoundedWithin r → pack_bounded r ≡ p → BoundSays up ws ix n e a b vs jx r
export_is_bound up ws ix n e a b vs jx p q r w x =
    let words : vs ≡ (bounded up ws ix n e a b).words = ap (λ z. z.words) q in
    let index : jx ≡ (bounded up ws ix n e a b).index = ap (λ z. z.index) q in
    let answer : r ≡ (bounded up ws ix n e a b).answer =
    bounded_tells r (bounded up ws ix n e a b).answer w (bounded_within ws n e a b up ix) (x ∙ ap (λ z. z.result) q) in
    entry_is_bound up ws ix n e a b vs jx r (λ i. record { words = words i; index = index i; answer = answer i })
