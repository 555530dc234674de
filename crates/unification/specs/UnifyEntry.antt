-- unify asked alone: "Asked alone, a no leaves the bindings as at entry." A yes leaves exactly the
-- bindings of the answer.
use Rattle.std.specs.Prelude.{Bool, true, false, List, [], ◌∷◌, ◌++◌, ℕ, drop, Result, Ok, Err}
use Rattle.std.proofs.Math.Option.{Option, none, some}
use Rattle.resolved_sort.specs.Checks.{first_failing}
use Rattle.resolved_sort.specs.Entries.{refused_or}
use Rattle.resolved_sort.specs.declared.Refusal.{Refusal}
use Rattle.unification.specs.Nodes.{shape_at, free_word, Binds, binds_of}
use Rattle.unification.specs.Unify.{Unifies, yes_with, no_way, too_deep, unify}
use Rattle.unification.specs.NodeChecks.{unify_checks}
use Rattle.unification.specs.Checked.{lists_of}

-- the words of bindings
abbrev pub binding_word : Option ℕ → ℕ
binding_word none = free_word
binding_word (some q) = q

unfoldable pub binding_words : Binds → List ℕ
binding_words [] = []
binding_words (b ∷ B) = binding_word b ∷ binding_words B

-- the binding words at exit, and the answer
pub record BindsLeft : Type 0 where
  pub words : List ℕ
  pub answer : Result Bool Refusal

abbrev pub binds_left : List ℕ → Result Bool Refusal → BindsLeft
binds_left bs r = record { words = bs; answer = r }

-- Words past the variables are as they were. On lists that pass the checks the depth is always enough.
unfoldable pub binds_left_by : List ℕ → ℕ → Unifies → BindsLeft
binds_left_by bs v (yes_with C) = binds_left (binding_words C ++ drop v bs) (Ok true)
binds_left_by bs v no_way = binds_left bs (Ok false)
binds_left_by bs v too_deep = binds_left bs (Ok false)

unfoldable pub unify_entry : List ℕ → ℕ → ℕ → List ℕ → ℕ → ℕ → List ℕ → ℕ → ℕ → ℕ → BindsLeft
unify_entry ws n e ns m d bs v l r =
    refused_or (first_failing (unify_checks ws n e ns m d bs v l r)) (λ c. binds_left bs (Err c))
    (binds_left_by bs v (unify (shape_at (lists_of ws n ns m)) (binds_of bs v) l r))
