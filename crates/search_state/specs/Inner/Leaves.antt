-- What the functions that the search calls answer and leave.
use Rattle.std.specs.Prelude.{◌≡◌, Bool, true, false, cond, List, [], ◌∷◌, ℕ, ◌+◌, ◌-◌, ◌≤◌, length, get_or, set, take, drop}
use Rattle.std.specs.Prelude.{Some, None, Result, Ok, Err}
use Rattle.std.specs.Prelude.{Option as Optional}
use Rattle.resolved_sort.specs.declared.SortId.{SortId}
use Rattle.resolved_sort.specs.declared.NoRoom.{NoRoom}
use Rattle.std.proofs.Math.Option.{Option, none, some}
use Rattle.resolved_sort.specs.Tree.{unit, primitive, def, typevar}
use Rattle.unification.specs.declared.Lengths.{Lengths}
use Rattle.unification.specs.declared.Full.{Full}
use Rattle.unification.specs.declared.Full.TheVariants.{Sorts, Nodes}
use Rattle.unification.specs.Term.{flat_head, container_head, function_head, stray_head, Shape, variable, over}
use Rattle.unification.specs.Nodes.{Binds}
use Rattle.unification.specs.Unify.{Unifies, and_then as after-yes, follow, deep, unify}
use Rattle.unification.specs.Checked.{Placed}
use Rattle.unification.specs.Trail.{UnifyLeaves}
use Rattle.unification.specs.Making.{Lent, Makes, made, no_list, no_room, ◌and-then◌, strict_related}
use Rattle.unification.specs.Inner.Making.{lent}
use Rattle.inference.specs.declared.LitKind.{LitKind}
use Rattle.inference.specs.Constraints.{rows_from}
use Rattle.inference.specs.Search.{Agreed, Path, Try, with_binds, with_components, with_choice, wider_tries}
use Rattle.inference.specs.Search.{narrower_tries, lit_component}
use Rattle.search_state.specs.declared.Sizes.{Sizes}
use Rattle.search_state.specs.Inner.States.{State}
use Rattle.search_state.specs.declared.Branch.{Branch}
use Rattle.search_state.specs.Inner.States.{Answer}
use Rattle.search_state.specs.Inner.States.{Found, Missed, Full as Ended}
use Rattle.search_state.specs.declared.Pairs.{Pairs}
use Rattle.search_state.specs.declared.Pairs.TheVariants.{One, Two}
use Rattle.search_state.specs.declared.Step.{Step}
use Rattle.search_state.specs.declared.Step.TheVariants.{Nothing, Component, Written, Choice}
use Rattle.search_state.specs.declared.Tries.{Tries}
use Rattle.search_state.specs.declared.LitAt.{LitAt}
use Rattle.search_state.specs.declared.LitAt.TheVariants.{Number, Free, Other}
use Rattle.search_state.specs.Inner.Memory.{measure_at, choices_at, trail_words, chosen_exprs, path_of}
use Rattle.words.specs.Words.{part}

-- of the words only those from a to b may have changed
pub record ChangedOnly (a b : ℕ) (sc sc' : List ℕ) : Type 0 where
  pub front : take a sc' ≡ take a sc
  pub back : drop b sc' ≡ drop b sc
  pub long : length sc' ≡ length sc

-- the places of a try, made equal one pair after the other
unfoldable pub unify_pairs : (ℕ → Shape) → Pairs → Binds → Unifies
unify_pairs shape (One l r) B = unify shape B l.0 r.0
unify_pairs shape (Two l r p q) B = after-yes (unify shape B l.0 r.0) (λ C. unify shape C p.0 q.0)

abbrev pub PairsPlaced : Lengths → Pairs → Type 0
PairsPlaced k (One l r) = Placed k l.0 × Placed k r.0
PairsPlaced k (Two l r p q) = Placed k l.0 × Placed k r.0 × Placed k p.0 × Placed k q.0

-- how many variables are on the trail after a try from c of them, which is undone after a no; and whether it is a yes
abbrev pub trail_after : ℕ → Optional ℕ → ℕ
trail_after c (Some d) = d
trail_after c None = c

abbrev pub is_made : Optional ℕ → Bool
is_made (Some d) = true
is_made None = false

-- a try with the trail at the front of the scratch, of which nothing else changes
pub record TriesPairs (ws ns : List ℕ) (k : Lengths) (U : Unifies) (bs sc : List ℕ) (c : ℕ) (bs' sc' : List ℕ)
    (r : Optional ℕ) : Type 0 where
  pub tries : UnifyLeaves ws ns k U bs (take trail_words sc) c bs' (take trail_words sc') (trail_after c r) (is_made r)
  pub rest : drop trail_words sc' ≡ drop trail_words sc
  pub long : length sc' ≡ length sc

-- What a step adds to a branch: the words that it writes, the counts after it with t variables on
-- the trail, and the path.
unfoldable pub step_words : Step → Branch → List ℕ → List ℕ
step_words Nothing e sc = sc
step_words (Component c) e sc = set sc (measure_at + e.measure) c
step_words (Written n) e sc = sc
step_words (Choice i) e sc = set sc (choices_at + e.choices) i

abbrev pub added_components : Step → ℕ
added_components Nothing = 0
added_components (Component c) = 1
added_components (Written n) = n
added_components (Choice i) = 0

abbrev pub added_choices : Step → ℕ
added_choices Nothing = 0
added_choices (Component c) = 0
added_choices (Written n) = 0
added_choices (Choice i) = 1

abbrev pub branch_after : Branch → ℕ → Step → Branch
branch_after e t Nothing = record { trail = t; measure = e.measure; choices = e.choices }
branch_after e t (Component c) = record { trail = t; measure = e.measure + 1; choices = e.choices }
branch_after e t (Written n) = record { trail = t; measure = e.measure + n; choices = e.choices }
branch_after e t (Choice i) = record { trail = t; measure = e.measure; choices = e.choices + 1 }

unfoldable pub path_after : List ℕ → Sizes → List ℕ → Branch → Step → Binds → Path
path_after ls z sc e Nothing C = with_binds (path_of ls z C sc e) C
path_after ls z sc e (Component c) C = with_components (path_of ls z C sc e) (c ∷ []) C
path_after ls z sc e (Written n) C = with_components (path_of ls z C sc e) (part (measure_at + e.measure) n sc) C
path_after ls z sc e (Choice i) C = with_choice (path_of ls z C sc e) (get_or (chosen_exprs ls z) e.choices 0) i C

-- the place of the j-th of tries, that try, and those from it on
abbrev pub place_at : Tries → ℕ → ℕ
place_at t j = (get_or t.ids j (record { 0 = 0 })).0

unfoldable pub try_at : Tries → ℕ → Try
try_at t j =
    cond t.up
    (record { left = place_at t j; right = t.other.0; component = t.first + j })
    (record { left = t.other.0; right = place_at t j; component = t.first + j })

abbrev pub tries_from : Tries → ℕ → List Try
tries_from t j = rows_from (try_at t) j (t.count - j)

-- "the wider sorts of the left side (1, 2, 3), or, if the left side has no list, the narrower ones of the right"
abbrev pub where_no_list : {A : Type 0} → Makes A → (Lent → Makes A) → Makes A
where_no_list (made a W) f = made a W
where_no_list (no_list W) f = f W
where_no_list (no_room c W) f = no_room c W

unfoldable pub widenings : Binds → ℕ → ℕ → Lent → Makes (List Try)
widenings B l r W =
    where_no_list (strict_related true B l W and-then (λ ps X. made (wider_tries r 1 ps) X))
    (λ U. strict_related false B r U and-then (λ ps X. made (narrower_tries l 1 ps) X))

-- the room that ended, by its number
abbrev pub code_of : Full → ℕ
code_of Sorts = 15
code_of Nodes = 16

-- the tries of a widening, with the lengths then
abbrev pub widened : List ℕ → List ℕ → Lengths → Result (Optional Tries) Full → Makes (List Try)
widened ws ns k (Ok (Some t)) = made (tries_from t 0) (lent ws ns k)
widened ws ns k (Ok None) = no_list (lent ws ns k)
widened ws ns k (Err full) = no_room (code_of full) (lent ws ns k)

-- at most four tries, and their components are 1 and so on
abbrev pub FewTries : Result (Optional Tries) Full → Type 0
FewTries (Ok (Some t)) = (t.count ≤ 4) × (t.first ≡ 1)
FewTries (Ok None) = Unit {0}
FewTries (Err full) = Unit {0}

pub record FindsWidenings (ws ns : List ℕ) (k : Lengths) (r : Result (Optional Tries) Full) (O : Makes (List Try)) : Type 0 where
  pub says : widened ws ns k r ≡ O
  pub few : FewTries r

-- what stands at the end of a literal's place, with the component that it costs
abbrev pub lit_number : Option ℕ → LitAt
lit_number none = Other
lit_number (some g) = Number g

abbrev pub lit_shape : LitKind → Shape → LitAt
lit_shape kind (variable v) = Free
lit_shape kind (over (flat_head unit) ps) = Other
lit_shape kind (over (flat_head (primitive s)) ps) = lit_number (lit_component kind s)
lit_shape kind (over (flat_head (def n)) ps) = Other
lit_shape kind (over (flat_head (typevar n)) ps) = Other
lit_shape kind (over (container_head o) ps) = Other
lit_shape kind (over (function_head n) ps) = Other
lit_shape kind (over (stray_head n) ps) = Other

abbrev pub lit_end : LitKind → (ℕ → Shape) → Option ℕ → LitAt
lit_end kind shape none = Other
lit_end kind shape (some q) = lit_shape kind (shape q)

unfoldable pub lit_at : LitKind → (ℕ → Shape) → Binds → ℕ → LitAt
lit_at kind shape B p = lit_end kind shape (follow shape deep B p)

-- a sort that was made or found, with the lengths then
abbrev pub made_of : List ℕ → List ℕ → Lengths → Result (Optional SortId) NoRoom → Makes ℕ
made_of ws ns k (Ok (Some s)) = made s.0 (lent ws ns k)
made_of ws ns k (Ok None) = no_list (lent ws ns k)
made_of ws ns k (Err full) = no_room 15 (lent ws ns k)

-- The sort on which the n sources of a Join agree: their head distances stand in the scratch after
-- the measure, and nothing else of it changes.
abbrev pub agreement_of : List ℕ → List ℕ → List ℕ → Branch → ℕ → Lengths → Result (Optional SortId) NoRoom → Makes Agreed
agreement_of ws ns sc e n k (Ok (Some s)) =
    made (record { sort = s.0; components = part (measure_at + e.measure) n sc }) (lent ws ns k)
agreement_of ws ns sc e n k (Ok None) = no_list (lent ws ns k)
agreement_of ws ns sc e n k (Err full) = no_room 15 (lent ws ns k)

pub record AgreesOn (ns sc : List ℕ) (e : Branch) (n : ℕ) (O : Makes Agreed) (ws' sc' : List ℕ) (k' : Lengths)
    (r : Result (Optional SortId) NoRoom) : Type 0 where
  pub says : agreement_of ws' ns sc' e n k' r ≡ O
  pub changed : ChangedOnly (measure_at + e.measure) (measure_at + e.measure + n) sc sc'

-- the sorts of n expressions, read out to the words from a on: whether all have one
abbrev pub extracted_of : List ℕ → List ℕ → List ℕ → ℕ → ℕ → Lengths → Result Bool NoRoom → Makes (List ℕ)
extracted_of ws ns sc a n k (Ok true) = made (part a n sc) (lent ws ns k)
extracted_of ws ns sc a n k (Ok false) = no_list (lent ws ns k)
extracted_of ws ns sc a n k (Err full) = no_room 15 (lent ws ns k)

pub record Extracts (ns sc : List ℕ) (a n : ℕ) (O : Makes (List ℕ)) (ws' sc' : List ℕ) (k' : Lengths) (r : Result Bool NoRoom)
    : Type 0 where
  pub says : extracted_of ws' ns sc' a n k' r ≡ O
  pub changed : ChangedOnly a (a + n) sc sc'

-- whether a leaf was found, with the state then
abbrev pub says_of : Bool → State → Answer
says_of true k = Found k
says_of false k = Missed k

-- "Nodes made for a widening are given back": the lengths of nodes are those of k
abbrev pub with_nodes : Lengths → Lengths → Lengths
with_nodes k l =
    record {
      sorts = l.sorts;
      entries = l.entries;
      nodes = k.nodes;
      arguments = k.arguments;
      variables = l.variables;
    }

-- the state with other lengths
abbrev pub with_lengths : State → Lengths → State
with_lengths s k = record { lengths = k; best = s.best; tied = s.tied }

abbrev pub back_to : Lengths → State → State
back_to k s = with_lengths s (with_nodes k s.lengths)

abbrev pub given_back_to : Lengths → Answer → Answer
given_back_to k (Found s) = Found (back_to k s)
given_back_to k (Missed s) = Missed (back_to k s)
given_back_to k (Ended c l) = Ended c l
