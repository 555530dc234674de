-- Room for the sorts of a pair: two lines stored, and their join and meet made.
use Rattle.std.specs.Prelude.{◌≡◌, Bool, true, false}
use Rattle.resolved_sort.specs.Tree.{Tree}
use Rattle.resolved_sort.specs.Interning.{Sorts, Outcome, made, nothing, full, make}
use Rattle.sort_text.specs.Reading.{store}

-- the list that an outcome leaves, and whether room had ended
unfoldable pub list_after : {A : Type 0} → Outcome A → Sorts
list_after (made a S) = S
list_after (nothing S) = S
list_after (full S) = S

unfoldable pub is_full : {A : Type 0} → Outcome A → Bool
is_full (made a S) = false
is_full (nothing S) = false
is_full (full S) = true

-- Both sorts of a pair stored, then their join, then their meet, each from what the one before leaves: none finds
-- room ended.
abbrev pub two_stored : Tree → Tree → Sorts → Sorts
two_stored s t S = list_after (store t (list_after (store s S)))

pub record PairFits (s t : Tree) (S : Sorts) : Type 0 where
  pub first : is_full (store s S) ≡ false
  pub second : is_full (store t (list_after (store s S))) ≡ false
  pub join : is_full (make true s t (two_stored s t S)) ≡ false
  pub meet : is_full (make false s t (list_after (make true s t (two_stored s t S)))) ≡ false
