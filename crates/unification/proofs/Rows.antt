-- Rows that passed their checks: their parts are lower, their variables are in the list, and their heads stand over as many parts as they should. By the
-- kinds of rows; a function of sorts and one of nodes pass the same tests, each with its own test for a part. Assumes nothing.
use mathlib.Core.Path.{◌≡◌, sym, subst}
use mathlib.Core.List.{List, [], ◌∷◌, ◌++◌}
use mathlib.Core.Bool.{Bool, true, ◌&&◌, and-eq-true_iff}
use Prim.Native.Nat.{ℕ, ◌+◌, ◌<◌, ◌≤◌}
use lib.ListN.{length}
use lib.Dec.{leb, ltb, eqb}
use borrow.Author.Tests.{ltb-true, leb-true, le-leb, eqb-true}
use Rattle.resolved_sort.specs.declared.Run.{Run}
use Rattle.resolved_sort.specs.declared.ComplexSort.{ComplexSort}
use Rattle.resolved_sort.specs.declared.ResolvedSort.{ResolvedSort}
use Rattle.resolved_sort.specs.declared.ResolvedSort.TheVariants.{Unit as UnitRow, Primitive, Container, Function as SortFunction, Def, TypeVar}
use Rattle.resolved_sort.specs.Tree.{Flat, unit, primitive, def, typevar}
use Rattle.resolved_sort.specs.Storage.{entry_at, entries_of, kind_at}
use Rattle.resolved_sort.specs.Checks.{all_below, parts_below, fixed_six}
use Rattle.resolved_sort.proofs.Below.{below_each, each_below}
use Rattle.resolved_sort.proofs.Reached.{no_confusion}
use Rattle.unification.specs.declared.InferSort.{InferSort}
use Rattle.unification.specs.declared.InferSort.TheVariants.{Generic, Function, Var}
use Rattle.unification.specs.Term.{Head, flat_head, container_head, function_head, Shape, variable, over}
use Rattle.unification.specs.Nodes.{node_entry_at, node_entries_of, sort_shape, node_shape, is_place, node_kind_at, node_at}
use Rattle.unification.specs.NodeChecks.{node_parts_fine, node_kind_fine, node_fine, nodes_fine}
use Rattle.unification.specs.Acyclic.{One}
use Rattle.unification.proofs.Parts.{none_of, one_of_one, sort_runs, node_runs, run_length, each_of_function}

-- A function of at most 16 arguments, its run inside the entries in use, and each argument and the range such as a part should be.
pub record FunctionFine (fits : ℕ → Bool) (entry : ℕ → ℕ) (used : ℕ) (domain : Run) (range : ℕ) : Type 0 where
  pub short : domain.count ≤ 16
  pub inside : domain.start + domain.count ≤ used
  pub range_fits : fits range ≡ true
  pub each_fits : (j : ℕ) → j < domain.count → fits (entry (domain.start + j)) ≡ true

module _ (fits : ℕ → Bool) (entry : ℕ → ℕ) (used : ℕ) (domain : Run) (range : ℕ) where
  abbrev tests : Bool
  tests = leb domain.count 16 && leb (domain.start + domain.count) used && fits range && all_below domain.count (λ j. fits (entry (domain.start + j)))

  pub tests_fine : tests ≡ true → FunctionFine fits entry used domain range
  tests_fine f =
      let a = (and-eq-true_iff (leb domain.count 16 && leb (domain.start + domain.count) used && fits range) _).0 f in
      let b = (and-eq-true_iff (leb domain.count 16 && leb (domain.start + domain.count) used) (fits range)).0 a.0 in
      let c = (and-eq-true_iff (leb domain.count 16) (leb (domain.start + domain.count) used)).0 b.0 in
      record {
        short = leb-true domain.count 16 c.0;
        inside = leb-true (domain.start + domain.count) used c.1;
        range_fits = b.1;
        each_fits = below_each domain.count (λ j. fits (entry (domain.start + j))) a.1;
      }

  pub fine_tests : FunctionFine fits entry used domain range → tests ≡ true
  fine_tests f =
      rw (le-leb domain.count 16 f.short, le-leb (domain.start + domain.count) used f.inside, f.range_fits)
      (each_below domain.count (λ j. fits (entry (domain.start + j))) f.each_fits)

pub sort_function_fine : (ws : List ℕ) (e i : ℕ) (domain : Run) (range : ℕ)
    → parts_below ws e i (SortFunction domain (record { 0 = range })) ≡ true → FunctionFine (λ q. ltb q i) (entry_at ws)
    e domain range
unfolding parts_below
sort_function_fine ws e i domain range = tests_fine (λ q. ltb q i) (entry_at ws) e domain range

pub node_function_fine : (ns : List ℕ) (d n v i : ℕ) (domain : Run) (range : ℕ)
    → node_parts_fine ns d n v i (Function domain (record { 0 = range })) ≡ true
    → FunctionFine (is_place n i) (node_entry_at ns) d domain range
unfolding node_parts_fine
node_function_fine ns d n v i domain range = tests_fine (is_place n i) (node_entry_at ns) d domain range

-- the six fixed sorts have their numbers as kinds
pub fixed_six_kinds : (ws : List ℕ) (n : ℕ) → fixed_six ws n ≡ true → (6 ≤ n) × ((i : ℕ) → i < 6 → kind_at ws i ≡ i)
unfolding fixed_six
fixed_six_kinds ws n f =
    let x = (and-eq-true_iff (leb 6 n) (all_below 6 (λ i. eqb (kind_at ws i) i))).0 f in
    (leb-true 6 n x.0, λ i l. eqb-true (kind_at ws i) i (below_each 6 (λ i. eqb (kind_at ws i) i) x.1 i l))

-- a node passed: its kind is known, and its parts are fine
pub node_fine_parts : (ns : List ℕ) (d n v i : ℕ) → node_fine ns d n v i ≡ true
    → (node_kind_fine (node_kind_at ns i) ≡ true) × (node_parts_fine ns d n v i (node_at ns i) ≡ true)
unfolding node_fine
node_fine_parts ns d n v i f = (and-eq-true_iff (node_kind_fine (node_kind_at ns i)) (node_parts_fine ns d n v i (node_at ns i))).0 f

pub nodes_fine_each : (ns : List ℕ) (m d n v : ℕ) → nodes_fine ns m d n v ≡ true → (i : ℕ) → i < m → node_fine ns d n v i ≡ true
unfolding nodes_fine
nodes_fine_each ns m d n v f = below_each m (node_fine ns d n v) f

-- parts of a sort, and of a node
pub sort_parts : (ws : List ℕ) (e i : ℕ) (r : ResolvedSort) → parts_below ws e i r ≡ true
    → (q : ℕ) (h : Head) (ps : List ℕ) → sort_shape ws r ≡ over h ps → One q ps → q < i
unfolding parts_below sort_shape
sort_parts ws e i UnitRow f q h ps s o = none_of q ps o (let z : ps ≡ [] = cc in z)
sort_parts ws e i (Primitive x) f q h ps s o = none_of q ps o (let z : ps ≡ [] = cc in z)
sort_parts ws e i (Container op x) f q h ps s o = subst (λ (z : ℕ). z < i)
    (sym (one_of_one q x.0 ps o (let z : ps ≡ x.0 ∷ [] = cc in z))) (ltb-true x.0 i f)
sort_parts ws e i (SortFunction domain range) f q h ps s o =
    let g = sort_function_fine ws e i domain range.0 f in
    each_of_function (entry_at ws) (entries_of ws) (sort_runs ws) (λ z. z < i) domain.start domain.count
    range.0 (λ j l. ltb-true (entry_at ws (domain.start + j)) i (g.each_fits j l)) (ltb-true range.0 i
    g.range_fits) q
    (subst (One q) (let z : ps ≡ entries_of ws domain.start domain.count ++ (range.0 ∷ []) = cc in z) o)
sort_parts ws e i (Def x) f q h ps s o = none_of q ps o (let z : ps ≡ [] = cc in z)
sort_parts ws e i (TypeVar x) f q h ps s o = none_of q ps o (let z : ps ≡ [] = cc in z)

pub node_parts : (ns : List ℕ) (d n v i : ℕ) (r : InferSort) → node_parts_fine ns d n v i r ≡ true
    → (q : ℕ) (h : Head) (ps : List ℕ) → node_shape ns r ≡ over h ps → One q ps → is_place n i q ≡ true
unfolding node_parts_fine node_shape
node_parts ns d n v i (Generic op x) f q h ps s o = subst (λ (z : ℕ). is_place n i z ≡ true)
    (sym (one_of_one q x.0 ps o (let z : ps ≡ x.0 ∷ [] = cc in z))) f
node_parts ns d n v i (Function domain range) f q h ps s o =
    let g = node_function_fine ns d n v i domain range.0 f in
    each_of_function (node_entry_at ns) (node_entries_of ns) (node_runs ns) (λ z. is_place n i z ≡ true) domain.start
    domain.count range.0 g.each_fits g.range_fits q
    (subst (One q) (let z : ps ≡ node_entries_of ns domain.start domain.count ++ (range.0 ∷ []) = cc in z) o)
node_parts ns d n v i (Var u) f q h ps s o = no_confusion (cc)

-- variables
pub node_variable : (ns : List ℕ) (d n v i u : ℕ) (r : InferSort) → node_parts_fine ns d n v i r ≡ true → node_shape ns r ≡ variable u → u < v
unfolding node_parts_fine node_shape
node_variable ns d n v i u (Generic op x) f s = no_confusion (cc)
node_variable ns d n v i u (Function domain range) f s = no_confusion (cc)
node_variable ns d n v i u (Var x) f s = subst (λ (z : ℕ). z < v) (let z : x.0 ≡ u = cc in z) (ltb-true x.0 v f)

pub sort_no_variable : {A : Type 0} (ws : List ℕ) (u : ℕ) (r : ResolvedSort) → sort_shape ws r ≡ variable u → A
unfolding sort_shape
sort_no_variable ws u UnitRow s = no_confusion (cc)
sort_no_variable ws u (Primitive x) s = no_confusion (cc)
sort_no_variable ws u (Container op x) s = no_confusion (cc)
sort_no_variable ws u (SortFunction domain range) s = no_confusion (cc)
sort_no_variable ws u (Def x) s = no_confusion (cc)
sort_no_variable ws u (TypeVar x) s = no_confusion (cc)

-- The shapes of rows: a flat sort has no parts, a container one, a function its arguments, at most 16, and its range.
pub length_entries : (ws : List ℕ) (s c : ℕ) → length (entries_of ws s c) ≡ c
length_entries ws = run_length (entry_at ws) (entries_of ws) (sort_runs ws)

pub length_node_entries : (ns : List ℕ) (s c : ℕ) → length (node_entries_of ns s c) ≡ c
length_node_entries ns = run_length (node_entry_at ns) (node_entries_of ns) (node_runs ns)

pub data ShapeFormed : Shape → Type 0 where
  variable_formed : (v : ℕ) → ShapeFormed (variable v)
  flat_formed : (a : Flat) → ShapeFormed (over (flat_head a) [])
  container_formed : (o : ComplexSort) (s : ℕ) → ShapeFormed (over (container_head o) (s ∷ []))
  function_formed : (n : ℕ) (xs : List ℕ) (r : ℕ) → length xs ≡ n → n ≤ 16 → ShapeFormed (over (function_head n) (xs ++ (r ∷ [])))

pub sort_formed : (ws : List ℕ) (e i : ℕ) (r : ResolvedSort) → parts_below ws e i r ≡ true → ShapeFormed (sort_shape ws r)
unfolding sort_shape
sort_formed ws e i UnitRow f = flat_formed unit
sort_formed ws e i (Primitive s) f = flat_formed (primitive s)
sort_formed ws e i (Container op s) f = container_formed op s.0
sort_formed ws e i (SortFunction domain range) f =
    function_formed domain.count (entries_of ws domain.start domain.count) range.0 (length_entries ws
    domain.start domain.count) (sort_function_fine ws e i domain range.0 f).short
sort_formed ws e i (Def n) f = flat_formed (def n)
sort_formed ws e i (TypeVar n) f = flat_formed (typevar n)

pub node_formed : (ns : List ℕ) (d n v i : ℕ) (r : InferSort) → node_parts_fine ns d n v i r ≡ true → ShapeFormed (node_shape ns r)
unfolding node_shape
node_formed ns d n v i (Generic op s) f = container_formed op s.0
node_formed ns d n v i (Function domain range) f =
    function_formed domain.count (node_entries_of ns domain.start domain.count) range.0 (length_node_entries
    ns domain.start domain.count) (node_function_fine ns d n v i domain range.0 f).short
node_formed ns d n v i (Var u) f = variable_formed u.0
