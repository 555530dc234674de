-- The kinds of names and of literals by number, as `target` and `lit_kind` have them: no other number is one.
use Rattle.std.specs.Prelude.{[], ◌∷◌, ℕ, get_or, Result, Ok, Err}
use Rattle.inference.specs.declared.NameKind.{NameKind}
use Rattle.inference.specs.declared.NameKind.TheVariants.{Variable, Op, Builtin}
use Rattle.inference.specs.declared.LitKind.{LitKind}
use Rattle.inference.specs.declared.LitKind.TheVariants.{Positive, Natural}
use Rattle.inference.specs.declared.UnknownKind.{UnknownKind}

-- 1 a variable, 2 an operation, 3 a built-in
unfoldable pub kind_of_name : ℕ → Result NameKind UnknownKind
kind_of_name n =
    let none = Err (record { 0 = n }) in
    get_or (none ∷ Ok Variable ∷ Ok Op ∷ Ok Builtin ∷ []) n none

-- 0 positive, 1 natural
unfoldable pub kind_of_literal : ℕ → Result LitKind UnknownKind
kind_of_literal n = get_or (Ok Positive ∷ Ok Natural ∷ []) n (Err (record { 0 = n }))
