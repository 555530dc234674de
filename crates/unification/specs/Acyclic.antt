-- 7. "Some variable reaches itself through bindings and node parts."
use Rattle.std.specs.Prelude.{◌≡◌, Bool, true, false, cond, ◌&&◌, List, [], ◌∷◌, ◌++◌, ℕ, zero, suc, ◌-◌, ◌<◌, ◌≤◌, length, get_or, replicate}
use Rattle.std.proofs.Math.Option.{Option, none, some}
use Rattle.resolved_sort.specs.Storage.{max_sorts}
use Rattle.unification.specs.Term.{Head, Shape, variable, over}
use Rattle.unification.specs.Nodes.{is_sort, node_at, node_shape, Binds, binding}

-- one of the places
pub data One (q : ℕ) : List ℕ → Type 0 where
  first : (ps : List ℕ) → One q (q ∷ ps)
  later : (p : ℕ) (ps : List ℕ) → One q ps → One q (p ∷ ps)

-- the variable v stands in the sort at p, through parts and bindings
pub data Reaches (shape : ℕ → Shape) (B : Binds) (v : ℕ) : ℕ → Type 0 where
  here : (p : ℕ) → shape p ≡ variable v → Reaches shape B v p
  inside : (p q : ℕ) (h : Head) (ps : List ℕ) → shape p ≡ over h ps → One q ps → Reaches shape B v q
      → Reaches shape B v p
  beyond : (p u q : ℕ) → shape p ≡ variable u → binding B u ≡ some q → Reaches shape B v q
      → Reaches shape B v p

-- no variable reaches itself
abbrev pub Acyclic : (ℕ → Shape) → Binds → Type 0
Acyclic shape B = (v q : ℕ) → binding B v ≡ some q → Reaches shape B v q → ⊥

-- the variable u stands in the sort at p as it stands, bindings not followed
pub data Stands (shape : ℕ → Shape) (u : ℕ) : ℕ → Type 0 where
  at : (p : ℕ) → shape p ≡ variable u → Stands shape u p
  within : (p q : ℕ) (h : Head) (ps : List ℕ) → shape p ≡ over h ps → One q ps → Stands shape u q
      → Stands shape u p

-- The same said by numbers: each variable has one, and it falls to every variable that stands in what it is bound to.
pub record Numbering (shape : ℕ → Shape) (n : ℕ) (B : Binds) : Type 0 where
  pub number : ℕ → ℕ
  pub few : (v : ℕ) → number v ≤ n
  pub falls : (v q u : ℕ) → binding B v ≡ some q → Stands shape u q → number u < number v

-- How it is found out. A variable is settled when it is free, or when the sort that it is bound to is; a sort is
-- settled when all variables that stand in it, as it stands, are. Round by round more variables are settled; those that
-- never are reach themselves or one that does.
abbrev pub place_settled : List Bool → ℕ → Bool
place_settled ms p = cond (is_sort p) true (get_or ms (p - max_sorts) false)

unfoldable pub all_settled : List Bool → List ℕ → Bool
all_settled ms [] = true
all_settled ms (p ∷ ps) = place_settled ms p && all_settled ms ps

abbrev pub shape_settled : List Bool → List Bool → Shape → Bool
shape_settled vs ms (variable v) = get_or vs v false
shape_settled vs ms (over h ps) = all_settled ms ps

-- the first m nodes, by the variables
unfoldable pub nodes_settled : List ℕ → List Bool → ℕ → List Bool
nodes_settled ns vs zero = []
nodes_settled ns vs (suc i) =
    nodes_settled ns vs i ++ (shape_settled vs (nodes_settled ns vs i) (node_shape ns (node_at ns i)) ∷ [])

abbrev pub binding_settled : List Bool → Option ℕ → Bool
binding_settled ms none = true
binding_settled ms (some q) = place_settled ms q

unfoldable pub vars_settled : List Bool → Binds → List Bool
vars_settled ms [] = []
vars_settled ms (b ∷ B) = binding_settled ms b ∷ vars_settled ms B

unfoldable pub rounds : List ℕ → ℕ → Binds → ℕ → List Bool
rounds ns m B zero = replicate (length B) false
rounds ns m B (suc k) = vars_settled (nodes_settled ns (rounds ns m B k) m) B

unfoldable pub all_true : List Bool → Bool
all_true [] = true
all_true (b ∷ bs) = b && all_true bs

-- as many rounds as there are variables settle all that can be
unfoldable pub acyclic : List ℕ → ℕ → Binds → Bool
acyclic ns m B = all_true (rounds ns m B (length B))

-- some variable reaches itself
abbrev pub Cyclic : (ℕ → Shape) → Binds → Type 0
Cyclic shape B = (u : ℕ) × (q : ℕ) × (binding B u ≡ some q) × Reaches shape B u q

-- parts are numbered below the sort that they are parts of, and what has parts is below the ceiling K of places
abbrev pub Lower : (ℕ → Shape) → ℕ → Type 0
Lower shape K = (p q : ℕ) (h : Head) (ps : List ℕ) → shape p ≡ over h ps → One q ps → (q < p) × (p < K)
