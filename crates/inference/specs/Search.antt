-- "Solver (000)": the search, in the Rust's order of trying and of making. What the Rust hands to solve_widening as a
-- closure is here the continuation of a step: what comes next, on the path taken so far and the lists as they then are.
use Rattle.std.specs.Prelude.{Bool, true, false, cond, ◌&&◌, List, [], ◌∷◌, ◌++◌, ℕ, ◌+◌, take, drop}
use Rattle.std.proofs.Math.Option.{Option, none, some}
use Rattle.resolved_sort.specs.declared.Sort.{Sort}
use Rattle.resolved_sort.specs.declared.ComplexSort.{ComplexSort}
use Rattle.resolved_sort.specs.Entries.{Joined}
use Rattle.resolved_sort.specs.Entries.{At, Nothing as NotThere, Full}
use Rattle.resolved_sort.specs.Tree.{Tree, unit, primitive, def, typevar}
use Rattle.resolved_sort.specs.Order.{Steps, distance, materializable}
use Rattle.resolved_sort.specs.Entries.{Stored, tree_at}
use Rattle.resolved_sort.specs.Bounds.{bound_at}
use Rattle.unification.specs.declared.Lengths.{Lengths}
use Rattle.unification.specs.Default.{Default}
use Rattle.std.specs.Prelude.{Some as Is, None as Nothing}
use Rattle.unification.specs.Term.{flat_head, container_head, function_head, stray_head, Shape, variable, over}
use Rattle.unification.specs.Nodes.{Binds}
use Rattle.unification.specs.Unify.{Unifies, yes_with, no_way, too_deep, deep, follow, unify}
use Rattle.unification.specs.Related.{each}
use Rattle.unification.specs.Resolve.{value, term_resolved, with_counts}
use Rattle.unification.specs.Making.{Lent, graph, Makes, made, no_list}
use Rattle.unification.specs.Making.{no_room, ◌and-then◌, with_nodes_of, intern_container, strict_related}
use Rattle.inference.specs.declared.LitKind.{LitKind}
use Rattle.inference.specs.declared.LitKind.TheVariants.{Positive, Natural}
use Rattle.inference.specs.declared.Overload.{Overload}
use Rattle.inference.specs.declared.Constraint.{Constraint}
use Rattle.inference.specs.declared.Constraint.TheVariants.{Sub, Lit, Disjunction, Comprehension, Join}
use Rattle.inference.specs.Constraints.{Problem}
use Rattle.inference.specs.Measure.{Components, Ranking, smaller, equal, greater, compare, worse}

-- Making sorts: resolving a place, with or without a default, and the join of two sorts. Where the
-- answer is none, what was made stays.
abbrev pub with_stored : Lent → Stored → Lengths → Lent
with_stored W r k = record { sorts = r.words; nodes = W.nodes; lengths = k }

abbrev pub makes_sort : Lent → Stored → Joined → Makes ℕ
makes_sort W r (At id c) = made id.0 (with_stored W r (with_counts W.lengths c))
makes_sort W r (NotThere c) = no_list (with_stored W r (with_counts W.lengths c))
makes_sort W r Full = no_room 15 (with_stored W r W.lengths)

unfoldable pub resolve_in : Default → Binds → ℕ → Lent → Makes ℕ
resolve_in x B p W =
    let r : Stored = term_resolved W.sorts W.lengths x (value (graph W) B p) in makes_sort W r r.answer

unfoldable pub join_in : ℕ → ℕ → Lent → Makes ℕ
join_in a b W =
    let r : Stored = bound_at true W.sorts W.lengths.sorts W.lengths.entries a b in
    makes_sort W r r.answer

-- places resolved one after another, up to the first that has no sort
unfoldable pub resolve_all : Default → Binds → List ℕ → Lent → Makes (List ℕ)
resolve_all x B [] W = made [] W
resolve_all x B (p ∷ ps) W =
    resolve_in x B p W and-then (λ s W. resolve_all x B ps W and-then (λ ss W. made (s ∷ ss) W))

-- "Join: if all sources resolve, their join exists and each is equal to or materializable into it": the join of the
-- sources, and the head distances as components `join` also relates sorts that cannot be materialized (containers by
-- their elements, functions by their arguments), so each source is asked for it.
pub record Agreed : Type 0 where
  pub sort : ℕ
  pub components : Components

unfoldable pub join_all : ℕ → List ℕ → Lent → Makes ℕ
join_all a [] W = made a W
join_all a (b ∷ bs) W = join_in a b W and-then (λ j W. join_all j bs W)

abbrev pub sort_in : Lent → ℕ → Tree
sort_in W s = tree_at W.sorts W.lengths.sorts s

abbrev pub head_steps : Option Steps → ℕ
head_steps none = 0
head_steps (some d) = d.head

abbrev pub all_into : Lent → ℕ → List ℕ → Bool
all_into W j [] = true
all_into W j (s ∷ ss) = materializable (sort_in W s) (sort_in W j) && all_into W j ss

abbrev pub agreed_by : Lent → List ℕ → ℕ → Makes Agreed
agreed_by W ss j =
    cond (all_into W j ss)
    (made (record { sort = j; components = each (λ s. head_steps (distance true (sort_in W s) (sort_in W j))) ss })
    W)
    (no_list W)

unfoldable pub agreed : List ℕ → Lent → Makes Agreed
agreed [] W = no_list W
agreed (s ∷ ss) W = join_all s ss W and-then (λ j W. agreed_by W (s ∷ ss) j)

unfoldable pub join_of : Binds → List ℕ → Lent → Makes Agreed
join_of B ps W = resolve_all Nothing B ps W and-then agreed

-- the expression of a disjunction and the position, from 0, of its overload that was chosen
pub record Choice : Type 0 where
  pub expr : ℕ
  pub position : ℕ

-- What the branch has taken on so far.
pub record Path : Type 0 where
  pub binds : Binds
  pub measure : Components
  pub choices : List Choice

-- The incumbent: the best leaf so far, the sorts of the expressions there, and whether another leaf
-- had the same measure.
pub record Candidate : Type 0 where
  pub measure : Components
  pub sorts : List ℕ
  pub choices : List Choice
  pub duplicate : Bool

abbrev pub with_binds : Path → Binds → Path
with_binds e C = record { binds = C; measure = e.measure; choices = e.choices }

abbrev pub with_components : Path → Components → Binds → Path
with_components e cs C = record { binds = C; measure = e.measure ++ cs; choices = e.choices }

abbrev pub with_choice : Path → ℕ → ℕ → Binds → Path
with_choice e x i C =
    record {
      binds = C;
      measure = e.measure;
      choices = e.choices ++ (record { expr = x; position = i } ∷ []);
    }

-- one way to make two places equal, and the component that it costs
pub record Try : Type 0 where
  pub left : ℕ
  pub right : ℕ
  pub component : ℕ

-- the left side to each of its wider sorts in turn, or each narrower sort of the right side to it: 1, 2, 3
abbrev pub wider_tries : ℕ → ℕ → List ℕ → List Try
wider_tries r i [] = []
wider_tries r i (p ∷ ps) = record { left = p; right = r; component = i } ∷ wider_tries r (i + 1) ps

abbrev pub narrower_tries : ℕ → ℕ → List ℕ → List Try
narrower_tries l i [] = []
narrower_tries l i (p ∷ ps) = record { left = l; right = p; component = i } ∷ narrower_tries l (i + 1) ps

-- The component of a literal at a sort, "generality 0 to 3"; none where the sort is no number, or Pos for "0", which
-- is natural.
-- Also at a free place the generality, so that a literal bound on one branch and free on another compares alike.
unfoldable pub lit_component : LitKind → Sort → Option ℕ
lit_component k Sort.Bool = none
lit_component Positive Sort.Pos = some 0
lit_component Natural Sort.Pos = none
lit_component k Sort.Nat = some 1
lit_component k Sort.Int = some 2
lit_component k Sort.Real = some 3

-- "'0' is Natural and starts at Nat, others at Pos". Pos, Nat, Int, Real are the sorts 2 to 5.
abbrev pub from_nat : ℕ → List Try
from_nat p =
    record { left = p; right = 3; component = 1 } ∷ record { left = p; right = 4; component = 2 }
    ∷ record { left = p; right = 5; component = 3 } ∷ []

abbrev pub lit_tries : LitKind → ℕ → List Try
lit_tries Positive p = record { left = p; right = 2; component = 0 } ∷ from_nat p
lit_tries Natural p = from_nat p

-- "Comprehension: Bool gives Set, Nat Bag, Pos Bag, all three tried"
pub record Reading : Type 0 where
  pub body : ℕ
  pub op : ComplexSort

abbrev pub readings : List Reading
readings =
    record { body = 1; op = ComplexSort.Set } ∷ record { body = 3; op = ComplexSort.Bag }
    ∷ record { body = 2; op = ComplexSort.Bag } ∷ []

-- What goes on from branch to branch: the lists, the incumbent, and, so that laws can speak of them, something about
-- all leaves met. The solver itself keeps nothing of these.
pub record World (Met : Type 0) : Type 0 where
  pub lent : Lent
  pub best : Option Candidate
  pub met : Met

-- whether a leaf was found; or the room that ended, 15 or 16, with the lists as they then are
pub data Out (Met : Type 0) : Type 0 where
  found missed : World Met → Out Met
  ended : ℕ → Lent → Out Met

module _ {Met : Type 0} where
  abbrev pub lending : World Met → Lent → World Met
  lending w W = record { lent = W; best = w.best; met = w.met }

  -- where nothing was found, what else; ended room ends all
  abbrev pub else_try : Out Met → (World Met → Out Met) → Out Met
  else_try (found w) f = found w
  else_try (missed w) f = f w
  else_try (ended c W) f = ended c W

  -- whatever was found, what else, told whether something was
  abbrev pub and_also : Out Met → Bool → (Bool → World Met → Out Met) → Out Met
  and_also (found w) b f = f true w
  and_also (missed w) b f = f b w
  and_also (ended c W) b f = ended c W

  abbrev pub says : Bool → World Met → Out Met
  says true w = found w
  says false w = missed w

  -- two places made equal, and on from there with the new bindings; whatever comes of it, those of before stand again
  abbrev pub on_yes : Unifies → (Binds → World Met → Out Met) → World Met → Out Met
  on_yes (yes_with C) k w = k C w
  on_yes no_way k w = missed w
  on_yes too_deep k w = missed w

  unfoldable pub unifying : Binds → ℕ → ℕ → (Binds → World Met → Out Met) → World Met → Out Met
  unifying B l r k w = on_yes (unify (graph w.lent) B l r) k w

  -- on with what was made
  abbrev pub on_made : {A : Type 0} → Makes A → (A → World Met → Out Met) → (World Met → Out Met) → World Met
      → Out Met
  on_made (made a W) k f w = k a (lending w W)
  on_made (no_list W) k f w = f (lending w W)
  on_made (no_room c W) k f w = ended c W

  abbrev pub nodes_returned : Lent → Out Met → Out Met
  nodes_returned U (found w) = found (lending w (with_nodes_of U w.lent))
  nodes_returned U (missed w) = missed (lending w (with_nodes_of U w.lent))
  nodes_returned U (ended c W) = ended c W

module _ (Met : Type 0) (meet : Path → Lent → Met → Met) (P : Problem) where
  -- what comes next
  abbrev pub Going : Type 0
  Going = Path → World Met → Out Met

  -- the incumbent after a leaf, which is met with its path and the lists as they then are
  abbrev pub keeping : World Met → Path → Candidate → World Met
  keeping w e c = record { lent = w.lent; best = some c; met = meet e w.lent w.met }

  -- "It stops at the first try that found."
  -- Tries come cheapest first, so the first that found is the best that the constraint can contribute.
  unfoldable pub first_found : List Try → Going → Going
  first_found [] k e w = missed w
  first_found (t ∷ ts) k e w =
      else_try (unifying e.binds t.left t.right (λ C. k (with_components e (t.component ∷ []) C)) w)
      (first_found ts k e)

  -- "unify (component 0), and only if that found nothing, the wider sorts of the left side (1, 2, 3), or, if the left
  -- side has no list, the narrower ones of the right. An empty list is a list."
  -- Nearest first, so that the least upcast wins: equally good, they would make Pos ambiguous between Nat and Int.
  abbrev pub narrower : ℕ → ℕ → Going → Going
  narrower l r k e w =
      on_made (strict_related false e.binds r w.lent)
      (λ ps v. nodes_returned w.lent (first_found (narrower_tries l 1 ps) k e v)) missed w

  abbrev pub wider : ℕ → ℕ → Going → Going
  wider l r k e w =
      on_made (strict_related true e.binds l w.lent)
      (λ ps v. nodes_returned w.lent (first_found (wider_tries r 1 ps) k e v)) (narrower l r k e) w

  unfoldable pub widening : ℕ → ℕ → Going → Going
  widening l r k e w = else_try (unifying e.binds l r (λ C. k (with_components e (0 ∷ []) C)) w) (wider l r k e)

  -- A literal: at a number sort its generality, at a free place one number sort after another.
  abbrev pub at_sort : Option ℕ → Going → Going
  at_sort none k e w = missed w
  at_sort (some g) k e w = k (with_components e (g ∷ []) e.binds) w

  abbrev pub literal_at : LitKind → ℕ → Shape → Going → Going
  literal_at kind p (variable v) k e w = first_found (lit_tries kind p) k e w
  literal_at kind p (over (flat_head unit) ps) k e w = missed w
  literal_at kind p (over (flat_head (primitive s)) ps) k e w = at_sort (lit_component kind s) k e w
  literal_at kind p (over (flat_head (def n)) ps) k e w = missed w
  literal_at kind p (over (flat_head (typevar n)) ps) k e w = missed w
  literal_at kind p (over (container_head o) ps) k e w = missed w
  literal_at kind p (over (function_head n) ps) k e w = missed w
  literal_at kind p (over (stray_head n) ps) k e w = missed w

  abbrev pub literal_end : LitKind → ℕ → Option ℕ → Going → Going
  literal_end kind p none k e w = missed w
  literal_end kind p (some q) k e w = literal_at kind p (graph w.lent q) k e w

  unfoldable pub literal : LitKind → ℕ → Going → Going
  literal kind p k e w = literal_end kind p (follow (graph w.lent) deep e.binds p) k e w

  -- Every reading: its container is interned before the body is looked at.
  -- All are tried, so that a body which can be Bool as well as a number shows as ambiguous.
  unfoldable pub every_reading : List Reading → ℕ → ℕ → ℕ → Bool → Going → Going
  every_reading [] body node element b k e w = says b w
  every_reading (r ∷ rs) body node element b k e w =
      on_made (intern_container r.op element w.lent)
      (λ s v. and_also (unifying e.binds body r.body (λ C. unifying C node s (λ D. k (with_binds e D))) v) b
      (λ b. every_reading rs body node element b k e))
      missed w

  -- "Disjunctions try every overload, none allowed." i is the position of the first of them.
  -- After one that found the others are tried too: leaves of one measure through different overloads are an ambiguity.
  unfoldable pub every_overload : ℕ → ℕ → List Overload → ℕ → Bool → Going → Going
  every_overload x p [] i b k e w = says b w
  every_overload x p (o ∷ os) i b k e w =
      and_also (unifying e.binds p o.sort.0 (λ C. k (with_choice e x i C)) w) b
      (λ b. every_overload x p os (i + 1) b k e)

  -- "one source after another as widenings"
  unfoldable pub sequence : List ℕ → ℕ → Going → Going
  sequence [] t k = k
  sequence (s ∷ ss) t k = widening s t (sequence ss t k)

  -- "bind the target to it with the head distances as components; if that found nothing, one source after another"
  -- The agreed sort first, since it does not depend on the order of the sources; but a later constraint may want the
  -- target wider than it.
  unfoldable pub joining : List ℕ → ℕ → Going → Going
  joining ss t k e w =
      on_made (join_of e.binds ss w.lent)
      (λ a v.
      else_try (unifying e.binds t a.sort (λ C. k (with_components e a.components C)) v) (sequence ss t k e))
      (sequence ss t k e) w

  unfoldable pub step : Constraint → Going → Going
  step (Sub l r) k = widening l.0 r.0 k
  step (Lit p kind) k = literal kind p.0 k
  step (Disjunction x p run) k =
      every_overload x.0 p.0 (take run.count (drop run.start P.overloads)) 0 false k
  step (Comprehension body node element) k = every_reading readings body.0 node.0 element.0 false k
  step (Join run t) k = joining (take run.count (drop run.start P.sources)) t.0 k

  -- "At a leaf a smaller measure replaces, an equal one marks ambiguous; both count as found. There each variable still
  -- free stands for the default sort, inside containers and functions too."
  abbrev pub replace : Path → World Met → Out Met
  replace e w =
      on_made (resolve_all (Is (record { 0 = P.default })) e.binds P.exprs w.lent)
      (λ ss v. found (keeping v e
      (record { measure = e.measure; sorts = ss; choices = e.choices; duplicate = false })))
      missed w

  abbrev pub marked_tied : Candidate → Candidate
  marked_tied c = record { measure = c.measure; sorts = c.sorts; choices = c.choices; duplicate = true }

  abbrev pub leaf_by : Ranking → Candidate → Path → World Met → Out Met
  leaf_by smaller c e w = replace e w
  leaf_by equal c e w = found (keeping w e (marked_tied c))
  leaf_by greater c e w = found (keeping w e c)

  abbrev pub leaf_over : Option Candidate → Path → World Met → Out Met
  leaf_over none e w = replace e w
  leaf_over (some c) e w = leaf_by (compare e.measure c.measure) c e w

  unfoldable pub leaf : Going
  leaf e w = leaf_over w.best e w

  -- "On coming to a constraint or to the leaf, and not between a Join's sources, a prefix greater than the
  -- incumbent's is dropped and counts as not found."
  -- It is exact: earlier components decide, so a greater prefix can become neither equal nor smaller.
  abbrev pub dominated_by : Components → Option Candidate → Bool
  dominated_by m none = false
  dominated_by m (some c) = worse m c.measure

  abbrev pub unless_dominated : Going → Going
  unless_dominated k e w = cond (dominated_by e.measure w.best) (missed w) (k e w)

  unfoldable pub solve : List Constraint → Going
  solve [] e w = unless_dominated leaf e w
  solve (c ∷ cs) e w = unless_dominated (step c (solve cs)) e w
