-- What checks 8 and 9 ask of one row: a base name, a source, a constraint; and what a function that is passed in gives.
use Rattle.std.specs.Prelude.{◌≡◌, Bool, ◌&&◌, ℕ, ◌+◌, ◌*◌, leb, ltb, get_or}
use Rattle.inference.specs.Constraints.{constraint_words, name_words, constraint_at}
use Rattle.inference.specs.SolveChecks.{Call, placed, target_fine, constraint_fine}

abbrev pub name_fine : Call → ℕ → Bool
name_fine I i =
    ltb (get_or I.names (name_words * i) 0) I.rows.exprs
    && target_fine I (get_or I.names (name_words * i + 1) 0) (get_or I.names (name_words * i + 2) 0)

abbrev pub source_fine : Call → ℕ → Bool
source_fine I j = placed I (get_or I.sources j 0)

abbrev pub constraint_row_fine : Call → ℕ → Bool
constraint_row_fine I i =
    leb (get_or I.constraints (constraint_words * i) 0) 4
    && constraint_fine I (get_or I.constraints (constraint_words * i + 2) 0) (constraint_at I.constraints i)

abbrev pub Computes : {A B : Type 0} → (A → B → Type 0) → (A → B) → Type 0
Computes {A} {B} post f = (x : A) (r : B) → post x r → r ≡ f x
