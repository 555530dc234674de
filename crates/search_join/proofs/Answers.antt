-- What resolve and join answer, with the lengths then, is what the definition makes. By the cases of the answer. Assumes nothing.
use mathlib.Core.Path.{◌≡◌, refl, sym, ◌∙◌, ap, subst}
use mathlib.Core.Bool.{true}
use mathlib.Core.List.{List}
use mathlib.Core.Option.{none, some}
use mathlib.Core.Option.{Option as Maybe}
use Rattle.std.specs.Prelude.{Option, Some as Is, None as Nothing, Result, Ok, Err}
use Rattle.resolved_sort.specs.declared.NoRoom.{NoRoom}
use Prim.Native.Nat.{ℕ}
use Rattle.resolved_sort.specs.declared.SortId.{SortId}
use Rattle.resolved_sort.specs.declared.Counts.{Counts}
use Rattle.resolved_sort.specs.declared.Steps.{Steps as StepsAnswer}
use Rattle.resolved_sort.specs.Order.{Steps, steps_of}
use Rattle.resolved_sort.specs.Entries.{Stored}
use Rattle.resolved_sort.specs.Rows.{left_at}
use Rattle.resolved_sort.specs.Bounds.{bound_at}
use Rattle.resolved_sort.proofs.Reached.{no_confusion}
use Rattle.unification.specs.declared.Lengths.{Lengths}
use Rattle.unification.specs.Default.{Default}
use Rattle.unification.specs.Nodes.{binds_of}
use Rattle.unification.specs.Inner.Resolve.{value_in}
use Rattle.unification.specs.Resolve.{term_resolved, with_counts}
use Rattle.inference.specs.Search.{makes_sort, resolve_in, join_in, head_steps}
use Rattle.search_state.specs.Inner.Leaves.{made_of}
use Rattle.unification.specs.Making.{Makes}
use Rattle.unification.specs.Inner.Making.{lent}

-- an answer r, with counts C then, of the sorts K that the lengths k tell of
module _ (ws ns : List ℕ) (k : Lengths) (K : Counts) (eK : K ≡ record { sorts = k.sorts; entries = k.entries }) where
  module _ (vs : List ℕ) (C : Counts) (r : Result (Option SortId) NoRoom) where
    as_made : (y : Option SortId) → made_of vs ns (with_counts k C) (Ok y) ≡ makes_sort (lent ws ns k) (left_at vs C (Ok y)) (left_at vs C (Ok y)).answer
    as_made (Is id) = refl
    as_made Nothing = refl

    module _ (o : Stored) (e : left_at vs C r ≡ o) where
      answers : (y : Option SortId) → r ≡ Ok y → made_of vs ns (with_counts k C) (Ok y) ≡ makes_sort (lent ws ns k) o o.answer
      answers y z = as_made y ∙ ap (λ (x : Stored). makes_sort (lent ws ns k) x x.answer) (ap (left_at vs C) (sym z) ∙ e)

      ends : (x y : NoRoom) → r ≡ Err x → made_of vs ns k (Err y) ≡ makes_sort (lent ws ns k) o o.answer
      ends x y z = ap (λ (x : Stored). makes_sort (lent ws ns k) x x.answer) (ap (left_at vs C) (sym z) ∙ e)

    -- of a place
    module _ (bs : List ℕ) (d : Default) (p : ℕ)
        (e : left_at vs C r ≡ term_resolved ws (with_counts k K) d (value_in ws ns bs (with_counts k K) p)) where
      same : left_at vs C r ≡ term_resolved ws k d (value_in ws ns bs k p)
      same = e ∙ ap (λ (D : Counts). term_resolved ws (with_counts k D) d (value_in ws ns bs (with_counts k D) p)) eK

      pub sort_found : (y : Option SortId) → r ≡ Ok y → (l : Lengths) → l ≡ with_counts k C
          → made_of vs ns l (Ok y) ≡ resolve_in d (binds_of bs k.variables) p (lent ws ns k)
      unfolding resolve_in
      sort_found y z l el = ap (λ (j : Lengths). made_of vs ns j (Ok y)) el ∙ answers (term_resolved ws k d (value_in ws ns bs k p)) same y z

      pub sort_ends : (x : NoRoom) → r ≡ Err x → (y : NoRoom) → made_of vs ns k (Err y) ≡ resolve_in d (binds_of bs k.variables) p (lent ws ns k)
      unfolding resolve_in
      sort_ends x z y = ends (term_resolved ws k d (value_in ws ns bs k p)) same x y z

    -- of two sorts
    module _ (a b : ℕ) (e : left_at vs C r ≡ bound_at true ws K.sorts K.entries a b) where
      same_bound : left_at vs C r ≡ bound_at true ws k.sorts k.entries a b
      same_bound = e ∙ ap (λ (D : Counts). bound_at true ws D.sorts D.entries a b) eK

      pub join_found : (y : Option SortId) → r ≡ Ok y → (l : Lengths) → l ≡ with_counts k C → made_of vs ns l (Ok y) ≡ join_in a b (lent ws ns k)
      unfolding join_in
      join_found y z l el = ap (λ (j : Lengths). made_of vs ns j (Ok y)) el ∙ answers (bound_at true ws k.sorts k.entries a b) same_bound y z

      pub join_ends : (x : NoRoom) → r ≡ Err x → (y : NoRoom) → made_of vs ns k (Err y) ≡ join_in a b (lent ws ns k)
      unfolding join_in
      join_ends x z y = ends (bound_at true ws k.sorts k.entries a b) same_bound x y z

pub no_head : (o : Maybe Steps) (r : Option StepsAnswer) → r ≡ steps_of o → r ≡ Nothing → 0 ≡ head_steps o
no_head none r e z = refl
no_head (some d) r e z = no_confusion (cc)

-- the words that an interner held are the search's
pub made_moved : (us vs : List ℕ) → vs ≡ us → (ns : List ℕ) (l : Lengths) (r : Result (Option SortId) NoRoom) (O : Makes ℕ)
    → made_of us ns l r ≡ O → made_of vs ns l r ≡ O
made_moved us vs e ns l r O = subst (λ (ws : List ℕ). made_of ws ns l r ≡ O) (sym e)
