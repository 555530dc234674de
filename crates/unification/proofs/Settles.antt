-- Check 7: where the rounds settle all variables, the number of rounds in which a variable was not yet settled falls to every variable of what it
-- is bound to. Assumes nothing.
use mathlib.Core.Path.{◌≡◌, refl, ap, sym, ◌∙◌, subst}
use mathlib.Core.List.{List, [], ◌∷◌, ◌++◌}
use mathlib.Core.Option.{some}
use mathlib.Core.Bool.{Bool, true, false, cond, and-eq-true_iff}
use Prim.Native.Nat.{ℕ, zero, suc, ◌+◌, ◌-◌, ◌<◌, ◌≤◌}
use native.Mathlib.Omega.{arith}
use lib.ListN.{length, get_or, replicate, length-append, length-replicate}
use lib.Seq.{get_or-append_seam}
use lib.Dec.{ltb}
use borrow.Author.Tests.{ltb-true, lt-ltb, le-ltb}
use Rattle.resolved_sort.specs.Storage.{max_sorts, row_at}
use Rattle.resolved_sort.proofs.Numbers.{true_not_false}
use Rattle.resolved_sort.proofs.Reached.{no_confusion}
use Rattle.unification.specs.Term.{stray_head, variable, over}
use Rattle.unification.specs.Nodes.{node_at, node_shape, Lists, is_sort, is_place, shape_at, Binds, binding}
use Rattle.unification.specs.Acyclic.{One, first, later, Stands, at, within, Numbering, place_settled}
use Rattle.unification.specs.Acyclic.{all_settled, shape_settled, nodes_settled, binding_settled, vars_settled}
use Rattle.unification.specs.Acyclic.{rounds, all_true, acyclic}
use Rattle.unification.specs.Checked.{ListsFine, lists_of}
use Rattle.unification.proofs.Numbering.{numbered}
use Rattle.unification.proofs.Parts.{none_of}
use Rattle.unification.proofs.Rows.{sort_parts, sort_no_variable, node_parts}
use Rattle.unification.proofs.FineLists.{sort_parts_fine, node_parts_fine_lem, Place, is_sort_lem, is_node, is_stray, place, scoped}

all_one : (ms : List Bool) (q : ℕ) (ps : List ℕ) → One q ps → all_settled ms ps ≡ true → place_settled ms q ≡ true
unfolding all_settled
all_one ms q _ (first ps) e = ((and-eq-true_iff (place_settled ms q) (all_settled ms ps)).0 e).0
all_one ms q _ (later p ps o) e = all_one ms q ps o ((and-eq-true_iff (place_settled ms p) (all_settled ms ps)).0 e).1

-- nodes in rising number
length_nodes : (ns : List ℕ) (vs : List Bool) (m : ℕ) → length (nodes_settled ns vs m) ≡ m
unfolding nodes_settled
length_nodes ns vs zero = refl
length_nodes ns vs (suc m) = length-append (nodes_settled ns vs m) _ ∙ omega (arith, length_nodes ns vs m)

get_d_before : (xs : List Bool) (y : Bool) (i : ℕ) → i < length xs → get_or (xs ++ (y ∷ [])) i false ≡ get_or xs i false
get_d_before [] y i l = absurd (omega (arith, l))
get_d_before (x ∷ xs) y zero l = refl
get_d_before (x ∷ xs) y (suc i) l = get_d_before xs y i (omega (arith, l))

node_last : (ns : List ℕ) (vs : List Bool) (i : ℕ) → get_or (nodes_settled ns vs (suc i)) i false ≡ shape_settled vs
    (nodes_settled ns vs i) (node_shape ns (node_at ns i))
unfolding nodes_settled
node_last ns vs i =
    ap (λ (k : ℕ). get_or (nodes_settled ns vs i ++ (shape_settled vs (nodes_settled ns vs i) (node_shape ns (node_at ns i))
    ∷ [])) k false) (sym (length_nodes ns vs i))
    ∙ get_or-append_seam (nodes_settled ns vs i) (shape_settled vs (nodes_settled ns vs i) (node_shape ns (node_at ns i))) [] false

node_before : (ns : List ℕ) (vs : List Bool) (m i : ℕ) → i < m → get_or (nodes_settled ns vs (suc m)) i false ≡ get_or (nodes_settled ns vs m) i false
unfolding nodes_settled
node_before ns vs m i l = get_d_before (nodes_settled ns vs m) _ i (omega (arith, l, length_nodes ns vs m))

node_longer : (ns : List ℕ) (vs : List Bool) (k i j : ℕ) → j < i → get_or (nodes_settled ns vs (i + k)) j false ≡ get_or (nodes_settled ns vs i) j false
node_longer ns vs zero i j l = ap (λ (x : ℕ). get_or (nodes_settled ns vs x) j false) (omega arith)
node_longer ns vs (suc k) i j l =
    ap (λ (x : ℕ). get_or (nodes_settled ns vs x) j false) (let z : i + suc k ≡ suc (i + k) = omega arith in z)
    ∙ (node_before ns vs (i + k) j (omega (arith, l)) ∙ node_longer ns vs k i j l)

pub node_is : (ns : List ℕ) (vs : List Bool) (m i : ℕ) → i < m → get_or (nodes_settled ns vs m) i false ≡ shape_settled vs
    (nodes_settled ns vs i) (node_shape ns (node_at ns i))
node_is ns vs m i l =
    ap (λ (x : ℕ). get_or (nodes_settled ns vs x) i false) (let z : m ≡ suc i + (m - suc i) = omega (arith, l) in z)
    ∙ (node_longer ns vs (m - suc i) (suc i) i (omega arith) ∙ node_last ns vs i)

pub settled_longer : (ns : List ℕ) (vs : List Bool) (n m i q : ℕ) → i ≤ m → is_place n i q ≡ true
    → place_settled (nodes_settled ns vs i) q ≡ place_settled (nodes_settled ns vs m) q
unfolding is_place
settled_longer ns vs n m i q l e = go (is_sort q) refl e
  where
    go : (b : Bool) → is_sort q ≡ b → cond b (ltb q n) (ltb (q - max_sorts) i) ≡ true
        → cond b true (get_or (nodes_settled ns vs i) (q - max_sorts) false) ≡ cond b true (get_or (nodes_settled ns vs m) (q - max_sorts) false)
    go true s e = refl
    go false s e =
        sym
        (ap (λ (x : ℕ). get_or (nodes_settled ns vs x) (q - max_sorts) false) (let z : m ≡ i + (m - i) = omega (arith, l) in z)
        ∙ node_longer ns vs (m - i) i (q - max_sorts) (ltb-true (q - max_sorts) i e))

-- a sort is settled, and a node's place is settled as its flag says
pub sort_settled : (ms : List Bool) (q : ℕ) → q < max_sorts → place_settled ms q ≡ true
sort_settled ms q l = rw (lt-ltb q max_sorts l)

pub node_flag : (ms : List Bool) (p i : ℕ) → p ≡ max_sorts + i → get_or ms i false ≡ place_settled ms p
node_flag ms p i x = rw (le-ltb p max_sorts (omega (arith, x))) (ap (λ (j : ℕ). get_or ms j false) (omega (arith, x)))

-- variables
pub var_is : (ms : List Bool) (B : Binds) (v : ℕ) → v < length B → get_or (vars_settled ms B) v false ≡ binding_settled ms (binding B v)
unfolding vars_settled
var_is ms [] v l = absurd (omega (arith, l))
var_is ms (b ∷ B) zero l = refl
var_is ms (b ∷ B) (suc v) l = var_is ms B v (omega (arith, l))

pub bound_inside : (B : Binds) (v q : ℕ) → binding B v ≡ some q → v < length B
bound_inside [] v q e = no_confusion (cc)
bound_inside (b ∷ B) zero q e = omega arith
bound_inside (b ∷ B) (suc v) q e = omega (arith, bound_inside B v q e)

all_each : (xs : List Bool) (v : ℕ) → all_true xs ≡ true → v < length xs → get_or xs v false ≡ true
unfolding all_true
all_each [] v e l = absurd (omega (arith, l))
all_each (x ∷ xs) zero e l = ((and-eq-true_iff x (all_true xs)).0 e).0
all_each (x ∷ xs) (suc v) e l = all_each xs v ((and-eq-true_iff x (all_true xs)).0 e).1 (omega (arith, l))

pub none_at_first : (n v : ℕ) → get_or (replicate n false) v false ≡ false
none_at_first zero v = refl
none_at_first (suc n) zero = refl
none_at_first (suc n) (suc v) = none_at_first n v

pub length_vars : (ms : List Bool) (B : Binds) → length (vars_settled ms B) ≡ length B
unfolding vars_settled
length_vars ms [] = refl
length_vars ms (b ∷ B) = omega (arith, length_vars ms B)

pub length_rounds : (ns : List ℕ) (m : ℕ) (B : Binds) (k : ℕ) → length (rounds ns m B k) ≡ length B
unfolding rounds
length_rounds ns m B zero = length-replicate (length B) false
length_rounds ns m B (suc k) = length_vars (nodes_settled ns (rounds ns m B k) m) B

module _ (ws : List ℕ) (n e : ℕ) (ns : List ℕ) (m d v : ℕ) (c : ListsFine ws n e ns m d v) (B : Binds) where
  abbrev L : Lists
  L = lists_of ws n ns m

  abbrev settled : ℕ → ℕ → Bool
  settled k u = get_or (rounds ns m B k) u false

  abbrev flags : ℕ → List Bool
  flags k = nodes_settled ns (rounds ns m B k) m

  -- what stands in a settled sort is settled
  stands_settled : (k u p : ℕ) → Stands (shape_at L) u p → place_settled (flags k) p ≡ true → settled k u ≡ true
  stands_settled k u _ (at p s) f = go (place ws n ns m p)
    where
      go : Place ws n ns m p → settled k u ≡ true
      go (is_sort_lem a l g) = sort_no_variable ws u (row_at ws p) (sym g ∙ s)
      go (is_node i l x g) =
          let y : node_shape ns (node_at ns i) ≡ variable u = sym g ∙ s in
          sym (ap (shape_settled (rounds ns m B k) (nodes_settled ns (rounds ns m B k) i)) y) ∙
          (sym (node_is ns (rounds ns m B k) m i l) ∙ (node_flag (flags k) p i x ∙ f))
      go (is_stray z g) = let y : over (stray_head p) [] ≡ variable u = sym g ∙ s in no_confusion (cc)
  stands_settled k u _ (within p q h ps s o t) f = stands_settled k u q t (go (place ws n ns m p))
    where
      go : Place ws n ns m p → place_settled (flags k) q ≡ true
      go (is_sort_lem a l g) = sort_settled (flags k) q (omega (
        arith,
        sort_parts ws e p (row_at ws p) (sort_parts_fine ws
            n e ns m d v c p l) q h ps (sym g ∙ s) o,
        l,
        c.sorts,
      ))
      go (is_node i l x g) =
          let y : node_shape ns (node_at ns i) ≡ over h ps = sym g ∙ s in
          let z = sym (ap (shape_settled (rounds ns m B k) (nodes_settled ns (rounds ns m B k) i)) y) ∙
          (sym (node_is ns (rounds ns m B k) m i l) ∙ (node_flag (flags k) p i x ∙ f)) in
          sym (settled_longer ns (rounds ns m B k) n m i q (omega (arith, l)) (node_parts ns d n v i (node_at ns i)
          (node_parts_fine_lem ws n e ns m d v c i l) q h ps y o))
          ∙ all_one (nodes_settled ns (rounds ns m B k) i) q ps o z
      go (is_stray z g) = none_of q ps o (let y : over (stray_head p) [] ≡ over h ps = sym g ∙ s in let w : ps ≡ [] = cc in w)

  -- from a variable to those of what it is bound to, one round back
  one_back : (k x q u : ℕ) → binding B x ≡ some q → Stands (shape_at L) u q → settled (suc k) x ≡ true → settled k u ≡ true
  unfolding rounds
  one_back k x q u b s f = stands_settled k u q s (sym (var_is (flags k) B x (bound_inside B x q b) ∙ ap (binding_settled (flags k)) b) ∙ f)

  -- in how many of the first rounds a variable was not settled
  abbrev one : Bool → ℕ
  one true = 0
  one false = 1

  open_rounds : ℕ → ℕ → ℕ
  open_rounds x zero = 0
  open_rounds x (suc k) = one (settled k x) + open_rounds x k

  one_falls : (a b : Bool) → (b ≡ true → a ≡ true) → one a ≤ one b
  one_falls true b h = omega arith
  one_falls false true h = absurd (true_not_false false (h refl) refl)
  one_falls false false h = omega arith

  more_open : (x q u : ℕ) → binding B x ≡ some q → Stands (shape_at L) u q → (k : ℕ) → suc (open_rounds u k) ≤ open_rounds x (suc k)
  unfolding open_rounds rounds
  more_open x q u b s zero = rw (none_at_first (length B) x) (omega arith)
  more_open x q u b s (suc k) = omega (arith, more_open x q u b s k, one_falls (settled k u) (settled (suc k) x) (one_back k x q u b s))

  module _ (a : acyclic ns m B ≡ true) where
    falls_by : (j : ℕ) → length B ≡ suc j → (x q u : ℕ) → binding B x ≡ some q → Stands (shape_at L) u q → open_rounds u (length B) < open_rounds x (length B)
    unfolding acyclic open_rounds
    falls_by j l x q u b s =
        let z : settled (suc j) x ≡ true = all_each (rounds ns m B (suc j)) x
        (subst (λ (k : ℕ). all_true (rounds ns m B k) ≡ true) l a) (omega (
          arith,
          bound_inside B x q b,
          length_rounds ns m B (suc j),
        )) in
        let y = one_back j x q u b s z in
        subst (λ (k : ℕ). open_rounds u k < open_rounds x k) (sym l) (rw y (omega (arith, more_open x q u b s j)))

    some_variable : (x q : ℕ) → binding B x ≡ some q → length B ≡ suc (length B - 1)
    some_variable x q b = omega (arith, bound_inside B x q b)

    -- Check 7 passed: variables are numbered.
    pub acyclic_numbered : Numbering (shape_at L) v B
    acyclic_numbered = numbered (shape_at L) v (scoped ws n e ns m d v c) B (λ x. open_rounds x (length B))
        (λ x q u b s. falls_by (length B - 1) (some_variable x q b) x q u b s)
