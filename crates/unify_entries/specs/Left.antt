-- What the entry unify answers and leaves, by Robinson's theorem, whatever it is given.
use Rattle.std.specs.Prelude.{◌≡◌, Bool, true, false, List, ℕ, length, drop, Result, Ok, Err}
use Rattle.resolved_sort.specs.declared.Refusal.{Refusal}
use Rattle.resolved_sort.specs.Checks.{Tested, first_failing}
use Rattle.unification.specs.Term.{Term}
use Rattle.unification.specs.Nodes.{shape_at, binds_of}
use Rattle.unification.specs.Unify.{yes_with}
use Rattle.unification.specs.NodeChecks.{unify_checks}
use Rattle.unification.specs.Checked.{lists_of}
use Rattle.unification.specs.Solutions.{Respects, Equates, Robinson}

module _ (ws : List ℕ) (n e : ℕ) (ns : List ℕ) (m d : ℕ) (bs : List ℕ) (v l r : ℕ) where
  -- the answer to the checks
  abbrev pub failing : Tested
  failing = first_failing (unify_checks ws n e ns m d bs v l r)

  -- A refusal: the first failing check, and the words as given.
  pub record LeftRefused (vs : List ℕ) (c : Refusal) : Type 1 where
    pub first : failing ≡ Err c
    pub given : vs ≡ bs

  -- A no: the words as given, and nothing that respects their bindings makes the two places equal.
  pub record LeftNo (vs : List ℕ) : Type 1 where
    pub passed : failing ≡ Ok tt
    pub given : vs ≡ bs
    pub no_solution : (σ : ℕ → Term) → Respects (shape_at (lists_of ws n ns m)) (binds_of bs v) σ
        → Equates (shape_at (lists_of ws n ns m)) σ l r → ⊥

  -- A yes: the bindings in the words are Robinson's, the words past the variables are as given, and the words pass
  -- all checks.
  pub record LeftYes (vs : List ℕ) : Type 1 where
    pub passed : failing ≡ Ok tt
    pub solved : Robinson (shape_at (lists_of ws n ns m)) (binds_of bs v) l r (yes_with (binds_of vs v))
    pub long : length vs ≡ length bs
    pub past : drop v vs ≡ drop v bs
    pub again : first_failing (unify_checks ws n e ns m d vs v l r) ≡ Ok tt

  abbrev pub LeftSays : List ℕ → Result Bool Refusal → Type 1
  LeftSays vs (Err c) = LeftRefused vs c
  LeftSays vs (Ok false) = LeftNo vs
  LeftSays vs (Ok true) = LeftYes vs
