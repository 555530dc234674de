-- Of a reader and a writer that say which bytes they have left and hold: where all is printed, nothing is left to read, and `output` of all
-- that there was is written behind what there was. Assumes nothing.
use mathlib.Core.Path.{◌≡◌, sym, ◌∙◌, ap}
use mathlib.Core.List.{List, [], ◌++◌, append-nil}
use Prim.Native.Nat.{ℕ}
use Rattle.std.specs.Prelude.{Option, Some, None}
use Rattle.pair_line.specs.PairProgram.{output}
use Rattle.pairs.specs.Printed.{AllPrinted}

pub all_is_read_and_its_output_written : (xs ys : List ℕ) (known-left shown-left : Option (List ℕ))
    → AllPrinted (Some xs) known-left (Some ys) shown-left → (known-left ≡ Some []) × (shown-left ≡ Some (ys ++ output xs))
all_is_read_and_its_output_written xs ys None shown-left p = absurd p.read
all_is_read_and_its_output_written xs ys (Some zs) None p = absurd p.written
all_is_read_and_its_output_written xs ys (Some zs) (Some ws) p =
    let input : xs ≡ p.input = p.read ∙ (ap (λ l. p.input ++ l) p.ended ∙ append-nil p.input) in (
      ap Some p.ended,
      ap Some (p.written ∙ ap (λ l. ys ++ output l) (sym input)),
    )
