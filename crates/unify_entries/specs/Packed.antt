-- The answer of unify as one number, for callers in other languages: the code in the lowest 8 bits, 1 above it for a
-- yes.
use Rattle.std.specs.Prelude.{Bool, List, [], ◌∷◌, ℕ, Result}
use Rattle.entry_answers.specs.Packing.{packed}
use Rattle.resolved_sort.specs.declared.Refusal.{Refusal}
use Rattle.unification.specs.UnifyEntry.{BindsLeft}
use Rattle.unify_entries.specs.Codes.{coded_unified}

-- bits 8 to 15: 1 for a yes
abbrev pub unified_widths : List ℕ
unified_widths = 8 ∷ []

abbrev pub pack_unified : Result Bool Refusal → ℕ
pack_unified r = packed unified_widths (coded_unified r)

-- the binding words at exit, and the packed answer
pub record PackedBinds : Type 0 where
  pub words : List ℕ
  pub result : ℕ

abbrev pub packed_binds : List ℕ → ℕ → PackedBinds
packed_binds bs r = record { words = bs; result = r }

abbrev pub pack_binds_left : BindsLeft → PackedBinds
pack_binds_left l = packed_binds l.words (pack_unified l.answer)
