-- What the entry over records and its export answer and leave, whatever they are given: what the entry says of the same call with the words of all
-- records as overloads. By the laws of the entry, and since records past the ceiling change nothing. Assumes nothing.
use mathlib.Core.Path.{◌≡◌, ap, ◌∙◌}
use mathlib.Core.List.{List}
use Prim.Native.Nat.{ℕ}
use lib.ListN.{take}
use Rattle.inference.specs.Constraints.{max_overloads}
use Rattle.inference.specs.SolveChecks.{Call}
use Rattle.inference.specs.SolveEntry.{Solved, solve_entry}
use Rattle.solve_checks.specs.declared.Given.{Given}
use Rattle.solve_checks.specs.Call.{call_of}
use Rattle.solve_outputs.specs.Finish.{solve_left}
use Rattle.solve_outputs.specs.Packed.{packed_solve, pack_solve_left}
use Rattle.solve_entries.specs.Given.{given_of}
use Rattle.solve_entries.specs.Says.{EntrySays, PackedSays}
use Rattle.solve_entries.proofs.EntrySays.{entry_says, export_says}
use Rattle.solve_records.specs.declared.OverloadRecord.{OverloadRecord}
use Rattle.solve_records.specs.Records.{record_words}
use Rattle.solve_records.proofs.PastCeiling.{records_past_the_ceiling_change_nothing}

module _ (ws ns bs xs ks cs : List ℕ) (rs : List OverloadRecord) (ss sc ix ts ms hs : List ℕ) (ws' ns' bs' sc' ix' ts' ms' hs' : List ℕ) where
  -- a call with these records, or with the first of them
  abbrev call : Given → List OverloadRecord → Call
  call g rs = call_of g ws ns bs xs ks cs (record_words rs) ss sc ix ts ms hs

  pub records_entry_says : (g : Given) (r : Solved) → solve_left r ws' ns' bs' sc' ix' ts' ms' hs' ≡ solve_entry (call g (take max_overloads rs))
      → EntrySays (call g rs) (solve_left r ws' ns' bs' sc' ix' ts' ms' hs')
  records_entry_says g r e =
      entry_says g ws ns bs xs ks cs (record_words rs) ss sc ix ts ms hs ws' ns' bs' sc' ix' ts' ms' hs' r
      (e ∙ records_past_the_ceiling_change_nothing g ws ns bs xs ks cs ss sc ix ts ms hs rs)

  pub records_export_says : (n e m d v x k c o s t r : ℕ)
      → packed_solve r ws' ns' bs' sc' ix' ts' ms' hs' ≡ pack_solve_left (solve_entry (call (given_of n e m d v x k c o s t) (take max_overloads rs)))
      → PackedSays (call (given_of n e m d v x k c o s t) rs) (packed_solve r ws' ns' bs' sc' ix' ts' ms' hs')
  records_export_says n e m d v x k c o s t r q =
      export_says n e m d v x k c o s t ws ns bs xs ks cs (record_words rs) ss sc ix ts ms hs r ws' ns' bs' sc' ix' ts' ms' hs'
      (q ∙ ap pack_solve_left (records_past_the_ceiling_change_nothing (given_of n e m d v x k c o s t) ws ns bs xs ks cs ss sc ix ts ms hs rs))
