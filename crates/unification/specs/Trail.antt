-- The trail: the variables bound, one after another, and how they are freed again, the last one first.
use Rattle.std.specs.Prelude.{◌≡◌, Bool, true, false, List, [], ◌∷◌, ℕ, zero, suc, ◌+◌, ◌-◌, ◌≤◌, get_or, set, take, drop}
use Rattle.std.proofs.Math.Option.{Option, none, some}
use Rattle.unification.specs.declared.Lengths.{Lengths}
use Rattle.unification.specs.Nodes.{free_word, Binds, binds_of}
use Rattle.unification.specs.Unify.{Unifies, yes_with, no_way}
use Rattle.unification.specs.Checked.{Ready}

-- the last n of the trail's variables from `base` on made free
unfoldable pub undo : List ℕ → ℕ → ℕ → List ℕ → List ℕ
undo ts base zero bs = bs
undo ts base (suc n) bs = undo ts base n (set bs (get_or ts (base + n) 0) free_word)

-- how many variables are free
abbrev pub frees_at : Option ℕ → ℕ → ℕ
frees_at none n = suc n
frees_at (some q) n = n

abbrev pub frees : Binds → ℕ
frees [] = 0
frees (o ∷ B) = frees_at o (frees B)

-- what the answer and the bindings left say
abbrev pub answer_by : Bool → Binds → Unifies
answer_by true B = yes_with B
answer_by false B = no_way

-- A try with the answer U, from the bindings bs and c variables on the trail: what it leaves, where d variables are on
-- the trail and it answers r. After a yes the bindings are those of U; after either answer undoing the trail gives back
-- what was there before, each variable on the trail has been free, and the words past the variables are as they were.
pub record UnifyLeaves (ws ns : List ℕ) (k : Lengths) (U : Unifies) (bs ts : List ℕ) (c : ℕ)
    (left-bs left-ts : List ℕ) (d : ℕ) (r : Bool) : Type 0 where
  pub says : U ≡ answer_by r (binds_of left-bs k.variables)
  pub undone : undo left-ts c (d - c) left-bs ≡ bs
  pub front : take c left-ts ≡ take c ts
  pub longer : c ≤ d
  pub spent : d + frees (binds_of left-bs k.variables) ≡ c + frees (binds_of bs k.variables)
  pub past : drop k.variables left-bs ≡ drop k.variables bs
  pub ready : Ready ws ns left-bs k
