-- Check 1 of the lists beside sorts, nodes and bindings, taken apart. Assumes nothing.
use mathlib.Core.Path.{◌≡◌}
use mathlib.Core.Bool.{true, ◌&&◌}
use Prim.Native.Nat.{◌*◌}
use lib.Dec.{leb}
use lib.ListN.{length}
use borrow.Author.Tests.{leb-true}
use Rattle.resolved_sort.proofs.Below.{and_left, and_right}
use Rattle.inference.specs.Constraints.{max_exprs, max_constraints, max_overloads, max_sources}
use Rattle.inference.specs.SolveChecks.{Call, rows_within_lent}
use Rattle.inference.specs.Inner.RowsLent.{RowsLent}

pub rows_lent : (I : Call) → rows_within_lent I ≡ true → RowsLent I
unfolding rows_within_lent
rows_lent I f =
    let a = leb I.rows.exprs max_exprs in
    let b = leb I.rows.exprs (length I.exprs) in
    let c = leb (3 * I.rows.names) (length I.names) in
    let d = leb I.rows.constraints max_constraints in
    let e = leb (5 * I.rows.constraints) (length I.constraints) in
    let g = leb I.rows.overloads max_overloads in
    let h = leb (3 * I.rows.overloads) (length I.overloads) in
    let i = leb I.rows.sources max_sources in
    let j = leb I.rows.sources (length I.sources) in
    let x₈ = and_left (a && b && c && d && e && g && h && i) j f in
    let x₇ = and_left (a && b && c && d && e && g && h) i x₈ in
    let x₆ = and_left (a && b && c && d && e && g) h x₇ in
    let x₅ = and_left (a && b && c && d && e) g x₆ in
    let x₄ = and_left (a && b && c && d) e x₅ in
    let x₃ = and_left (a && b && c) d x₄ in
    let x₂ = and_left (a && b) c x₃ in
    record {
      exprs = leb-true I.rows.exprs max_exprs (and_left a b x₂);
      expr_words = leb-true I.rows.exprs (length I.exprs) (and_right a b x₂);
      name_words = leb-true (3 * I.rows.names) (length I.names) (and_right (a && b) c x₃);
      constraints = leb-true I.rows.constraints max_constraints (and_right (a && b && c) d x₄);
      constraint_words = leb-true (5 * I.rows.constraints) (length I.constraints) (and_right (a && b && c && d) e x₅);
      overloads = leb-true I.rows.overloads max_overloads (and_right (a && b && c && d && e) g x₆);
      overload_words = leb-true (3 * I.rows.overloads) (length I.overloads) (and_right (a && b && c && d && e && g) h x₇);
      sources = leb-true I.rows.sources max_sources (and_right (a && b && c && d && e && g && h) i x₈);
      source_words = leb-true I.rows.sources (length I.sources) (and_right (a && b && c && d && e && g && h && i) j f);
    }
