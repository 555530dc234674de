-- The answers of the entries as one number, for callers in other languages: the code in the lowest 8 bits, above it the
-- values of an answer. A refusal has nothing above the code.
use Rattle.std.specs.Prelude.{Bool, List, [], ◌∷◌, ℕ, Option, Result}
use Rattle.entry_answers.specs.Packing.{packed}
use Rattle.resolved_sort.specs.JoinMeet.{Bounded, SortsLeft}
use Rattle.std.specs.declared.cmp.Ordering.{Ordering}
use Rattle.resolved_sort.specs.declared.Refusal.{Refusal}
use Rattle.resolved_sort.specs.declared.Steps.{Steps}
use Rattle.sort_entries.specs.Codes.{coded_compared, coded_measured, coded_materialized, coded_bounded}

-- bits 8 to 15: the order
abbrev pub compared_widths : List ℕ
compared_widths = 8 ∷ []

abbrev pub pack_compared : Result (Option Ordering) Refusal → ℕ
pack_compared r = packed compared_widths (coded_compared r)

-- bits 8 to 15: 1 where there is a distance; 16 to 23 its head, 24 to 31 its interior
abbrev pub measured_widths : List ℕ
measured_widths = 8 ∷ 8 ∷ 8 ∷ []

abbrev pub pack_measured : Result (Option Steps) Refusal → ℕ
pack_measured r = packed measured_widths (coded_measured r)

-- bits 8 to 15: 1 for yes
abbrev pub materialized_widths : List ℕ
materialized_widths = 8 ∷ []

abbrev pub pack_materialized : Result Bool Refusal → ℕ
pack_materialized r = packed materialized_widths (coded_materialized r)

-- bits 8 to 15: 1 where there is a sort; 16 to 31 its number, 32 to 47 the sorts and 48 to 63 the
-- entries after the call
abbrev pub bounded_widths : List ℕ
bounded_widths = 8 ∷ 16 ∷ 16 ∷ 16 ∷ []

abbrev pub pack_bounded : Bounded → ℕ
pack_bounded r = packed bounded_widths (coded_bounded r)

-- the storage and the index at exit, and the packed answer
pub record PackedSorts : Type 0 where
  pub words : List ℕ
  pub index : List ℕ
  pub result : ℕ

abbrev pub packed_sorts : List ℕ → List ℕ → ℕ → PackedSorts
packed_sorts ws ix r = record { words = ws; index = ix; result = r }

abbrev pub pack_sorts_left : SortsLeft → PackedSorts
pack_sorts_left l = packed_sorts l.words l.index (pack_bounded l.answer)
