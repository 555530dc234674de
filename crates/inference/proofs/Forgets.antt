-- What is kept of the leaves met has no influence. Two searches that keep different things of them, the one's a function of the other's, go the same
-- way: each way of going on is the image of the other, where what comes next is. By induction over the search. So a search that keeps all measures
-- has the verdict of the solver, which keeps nothing. Assumes nothing.
use mathlib.Core.Path.{◌≡◌, refl, ap, sym, ◌∙◌}
use mathlib.Core.Bool.{Bool, true, false, cond}
use mathlib.Core.List.{List, [], ◌∷◌}
use mathlib.Core.Option.{Option, none, some}
use Prim.Native.Nat.{ℕ, ◌+◌}
use lib.ListN.{take, drop}
use Rattle.resolved_sort.specs.Tree.{unit, primitive, def, typevar}
use Rattle.std.specs.Prelude.{Some as Is}
use Rattle.unification.specs.Term.{flat_head, container_head, function_head, stray_head, Shape, variable, over}
use Rattle.unification.specs.Nodes.{Binds}
use Rattle.unification.specs.Unify.{Unifies, yes_with, no_way, too_deep, deep, follow, unify}
use Rattle.unification.specs.Making.{Lent, graph, Makes, made, no_list, no_room, intern_container, strict_related}
use Rattle.inference.specs.declared.LitKind.{LitKind}
use Rattle.inference.specs.declared.Overload.{Overload}
use Rattle.inference.specs.declared.Constraint.{Constraint}
use Rattle.inference.specs.declared.Constraint.TheVariants.{Sub, Lit, Disjunction, Comprehension, Join}
use Rattle.inference.specs.Constraints.{Problem}
use Rattle.inference.specs.Measure.{Components, Ranking, smaller, equal, greater, compare}
use Rattle.inference.specs.Search.{resolve_all, join_of, Path, Candidate, with_binds, with_components, with_choice}
use Rattle.inference.specs.Search.{Try, wider_tries, narrower_tries, lit_component, lit_tries, Reading, readings}
use Rattle.inference.specs.Search.{World, Out, found, missed, ended, lending, else_try, and_also, says, on_yes}
use Rattle.inference.specs.Search.{unifying, on_made, nodes_returned, first_found, narrower, wider, widening}
use Rattle.inference.specs.Search.{at_sort, literal_at, literal_end, literal, every_reading, every_overload}
use Rattle.inference.specs.Search.{sequence, joining, step, keeping, replace, marked_tied, leaf_by, leaf_over}
use Rattle.inference.specs.Search.{leaf, dominated_by, unless_dominated, solve}
use Rattle.inference.specs.SolveChecks.{Call, given}
use Rattle.inference.specs.SolveEntry.{problem_of, start_path, lent_of, searched, verdict, nothing_met}
use Rattle.inference.specs.Leaves.{measure_met, history}

module _ {Met Met' : Type 0} (f : Met → Met') where
  abbrev pub map_world : World Met → World Met'
  map_world w = record { lent = w.lent; best = w.best; met = f w.met }

  abbrev pub map_out : Out Met → Out Met'
  map_out (found w) = found (map_world w)
  map_out (missed w) = missed (map_world w)
  map_out (ended c W) = ended c W

  -- an outcome that is the image of another, and ways of going on
  unfoldable Image : Out Met → Out Met' → Type 0
  Image o o' = map_out o ≡ o'

  abbrev Alike : (World Met → Out Met) → (World Met' → Out Met') → Type 0
  Alike k k' = (w : World Met) → Image (k w) (k' (map_world w))

  or_else_alike : (o : Out Met) (o' : Out Met') → Image o o' → (g : World Met → Out Met) (g' : World Met' → Out Met')
      → Alike g g' → Image (else_try o g) (else_try o' g')
  unfolding Image
  or_else_alike (found w) o' e g g' h = ap (λ o. else_try o g') e
  or_else_alike (missed w) o' e g g' h = h w ∙ ap (λ o. else_try o g') e
  or_else_alike (ended c W) o' e g g' h = ap (λ o. else_try o g') e

  and_also_alike : (o : Out Met) (o' : Out Met') → Image o o' → (b : Bool) (g : Bool → World Met → Out Met) (g' : Bool
      → World Met' → Out Met') → ((b : Bool) → Alike (g b) (g' b))
      → Image (and_also o b g) (and_also o' b g')
  unfolding Image
  and_also_alike (found w) o' e b g g' h = h true w ∙ ap (λ o. and_also o b g') e
  and_also_alike (missed w) o' e b g g' h = h b w ∙ ap (λ o. and_also o b g') e
  and_also_alike (ended c W) o' e b g g' h = ap (λ o. and_also o b g') e

  missed_alike : Alike missed missed
  unfolding Image
  missed_alike w = refl

  says_alike : (b : Bool) → Alike (says b) (says b)
  unfolding Image
  says_alike true w = refl
  says_alike false w = refl

  unifying_alike : (B : Binds) (l r : ℕ) (k : Binds → World Met → Out Met) (k' : Binds → World Met' → Out Met')
      → ((C : Binds) → Alike (k C) (k' C)) → Alike (unifying B l r k) (unifying B l r k')
  unfolding unifying
  unifying_alike B l r k k' h w = go (unify (graph w.lent) B l r)
    where
      go : (U : Unifies) → Image (on_yes U k w) (on_yes U k' (map_world w))
      go (yes_with C) = h C w
      go no_way = missed_alike w
      go too_deep = missed_alike w

  on_made_alike : {A : Type 0} (m : Makes A) (k : A → World Met → Out Met) (k' : A → World Met'
      → Out Met') (g : World Met → Out Met) (g' : World Met' → Out Met')
      → ((a : A) → Alike (k a) (k' a)) → Alike g g' → Alike (on_made m k g) (on_made m k' g')
  unfolding Image
  on_made_alike (made a W) k k' g g' h i w = h a (lending w W)
  on_made_alike (no_list W) k k' g g' h i w = i (lending w W)
  on_made_alike (no_room c W) k k' g g' h i w = refl

  given_back_alike : (U : Lent) (o : Out Met) (o' : Out Met') → Image o o' → Image (nodes_returned U o) (nodes_returned U o')
  unfolding Image
  given_back_alike U (found w) o' e = ap (nodes_returned U) e
  given_back_alike U (missed w) o' e = ap (nodes_returned U) e
  given_back_alike U (ended c W) o' e = ap (nodes_returned U) e

module _ (Met Met' : Type 0) (meet : Path → Lent → Met → Met) (meet' : Path → Lent → Met' → Met') (f : Met → Met')
    (commutes : (e : Path) (W : Lent) (x : Met) → f (meet e W x) ≡ meet' e W (f x)) (P : Problem) where
  -- what comes next, on every path
  abbrev Nexts : (Path → World Met → Out Met) → (Path → World Met' → Out Met') → Type 0
  Nexts k k' = (e : Path) → Alike f (k e) (k' e)

  module _ (k : Path → World Met → Out Met) (k' : Path → World Met' → Out Met') (h : Nexts k k') where
    first_found_alike : (ts : List Try) → Nexts (first_found Met meet P ts k) (first_found Met' meet' P ts k')
    unfolding first_found
    first_found_alike [] e w = missed_alike f w
    first_found_alike (t ∷ ts) e w =
        or_else_alike f _ _ (unifying_alike f e.binds t.left t.right _ _
        (λ C. h (with_components e (t.component ∷ []) C)) w) (first_found Met meet P ts k e) (first_found Met' meet'
        P ts k' e)
        (first_found_alike ts e)

    narrower_alike : (l r : ℕ) → Nexts (narrower Met meet P l r k) (narrower Met' meet' P l r k')
    narrower_alike l r e w =
        on_made_alike f (strict_related false e.binds r w.lent) _ _ missed missed (λ ps v. given_back_alike f
        w.lent _ _ (first_found_alike (narrower_tries l 1 ps) e v)) (missed_alike f) w

    wider_alike : (l r : ℕ) → Nexts (wider Met meet P l r k) (wider Met' meet' P l r k')
    wider_alike l r e w =
        on_made_alike f (strict_related true e.binds l w.lent) _ _ (narrower Met meet P l r k e) (narrower Met' meet' P l r k' e)
        (λ ps v. given_back_alike f w.lent _ _ (first_found_alike (wider_tries r 1 ps) e v)) (narrower_alike l r e) w

    widening_alike : (l r : ℕ) → Nexts (widening Met meet P l r k) (widening Met' meet' P l r k')
    unfolding widening
    widening_alike l r e w =
        or_else_alike f _ _ (unifying_alike f e.binds l r _ _ (λ C. h (with_components e (0 ∷ []) C)) w)
        (wider Met meet P l r k e) (wider Met' meet' P l r k' e) (wider_alike l r e)

    at_sort_alike : (g : Option ℕ) → Nexts (at_sort Met meet P g k) (at_sort Met' meet' P g k')
    at_sort_alike none e w = missed_alike f w
    at_sort_alike (some g) e w = h (with_components e (g ∷ []) e.binds) w

    literal_alike : (kind : LitKind) (p : ℕ) → Nexts (literal Met meet P kind p k) (literal Met' meet' P kind p k')
    unfolding literal
    literal_alike kind p e w = go (follow (graph w.lent) deep e.binds p)
      where
        by : (s : Shape) → Image f (literal_at Met meet P kind p s k e w) (literal_at Met' meet' P kind p s k' e (map_world f w))
        by (variable v) = first_found_alike (lit_tries kind p) e w
        by (over (flat_head unit) ps) = missed_alike f w
        by (over (flat_head (primitive s)) ps) = at_sort_alike (lit_component kind s) e w
        by (over (flat_head (def n)) ps) = missed_alike f w
        by (over (flat_head (typevar n)) ps) = missed_alike f w
        by (over (container_head o) ps) = missed_alike f w
        by (over (function_head n) ps) = missed_alike f w
        by (over (stray_head n) ps) = missed_alike f w

        go : (o : Option ℕ) → Image f (literal_end Met meet P kind p o k e w) (literal_end Met' meet' P kind p o k' e (map_world f w))
        go none = missed_alike f w
        go (some q) = by (graph w.lent q)

    every_reading_alike : (rs : List Reading) (body node element : ℕ) (b : Bool)
        → Nexts (every_reading Met meet P rs body node element b k) (every_reading Met' meet' P rs body node element b
        k')
    unfolding every_reading
    every_reading_alike [] body node element b e w = says_alike f b w
    every_reading_alike (r ∷ rs) body node element b e w =
        on_made_alike f (intern_container r.op element w.lent) _ _ missed missed
        (λ s v. and_also_alike f _ _ (unifying_alike f e.binds body r.body _ _ (λ C. unifying_alike f C node s _ _ (λ D. h (with_binds e D))) v) b
        (λ b. every_reading Met meet P rs body node element b k e) (λ b. every_reading Met' meet' P rs body node element
        b k' e) (λ b. every_reading_alike rs body node element b e))
        (missed_alike f) w

    every_overload_alike : (x p : ℕ) (os : List Overload) (i : ℕ) (b : Bool)
        → Nexts (every_overload Met meet P x p os i b k) (every_overload Met' meet' P x p os i b k')
    unfolding every_overload
    every_overload_alike x p [] i b e w = says_alike f b w
    every_overload_alike x p (o ∷ os) i b e w =
        and_also_alike f _ _ (unifying_alike f e.binds p o.sort.0 _ _ (λ C. h (with_choice e x i C)) w) b
        (λ b. every_overload Met meet P x p os (i + 1) b k e)
        (λ b. every_overload Met' meet' P x p os (i + 1) b k' e) (λ b. every_overload_alike x p os (i + 1) b e)

  sequence_alike : (ss : List ℕ) (t : ℕ) (k : Path → World Met → Out Met) (k' : Path → World Met' → Out Met')
      → Nexts k k' → Nexts (sequence Met meet P ss t k) (sequence Met' meet' P ss t k')
  unfolding sequence
  sequence_alike [] t k k' h = h
  sequence_alike (s ∷ ss) t k k' h = widening_alike (sequence Met meet P ss t k) (sequence Met' meet' P ss t k') (sequence_alike ss t k k' h) s t

  joining_alike : (ss : List ℕ) (t : ℕ) (k : Path → World Met → Out Met) (k' : Path → World Met' → Out Met')
      → Nexts k k' → Nexts (joining Met meet P ss t k) (joining Met' meet' P ss t k')
  unfolding joining
  joining_alike ss t k k' h e w =
      on_made_alike f (join_of e.binds ss w.lent) _ _ (sequence Met meet P ss t k e) (sequence Met' meet' P ss t k' e)
      (λ a v. or_else_alike f _ _ (unifying_alike f e.binds t a.sort _ _
      (λ C. h (with_components e a.components C)) v) (sequence Met meet P ss t k e) (sequence Met' meet' P ss t
      k' e)
      (sequence_alike ss t k k' h e))
      (sequence_alike ss t k k' h e) w

  step_alike : (c : Constraint) (k : Path → World Met → Out Met) (k' : Path → World Met' → Out Met') → Nexts k k'
      → Nexts (step Met meet P c k) (step Met' meet' P c k')
  unfolding step
  step_alike (Sub l r) k k' h = widening_alike k k' h l.0 r.0
  step_alike (Lit p kind) k k' h = literal_alike k k' h kind p.0
  step_alike (Disjunction x p run) k k' h = every_overload_alike k k' h x.0 p.0 (take run.count (drop run.start P.overloads)) 0 false
  step_alike (Comprehension body node element) k k' h = every_reading_alike k k' h readings body.0 node.0 element.0 false
  step_alike (Join run t) k k' h = joining_alike (take run.count (drop run.start P.sources)) t.0 k k' h

  -- a leaf is met in both
  keeping_alike : (e : Path) (c : Candidate) (w : World Met)
      → Image f (found (keeping Met meet P w e c)) (found (keeping Met' meet' P (map_world f w) e c))
  unfolding Image
  keeping_alike e c w = ap (λ x. found (record { lent = w.lent; best = some c; met = x })) (commutes e w.lent w.met)

  replace_alike : Nexts (replace Met meet P) (replace Met' meet' P)
  replace_alike e w =
      on_made_alike f (resolve_all (Is (record { 0 = P.default })) e.binds P.exprs w.lent) _ _ missed missed
      (λ ss v. keeping_alike e (record { measure = e.measure; sorts = ss; choices = e.choices; duplicate = false }) v) (missed_alike f) w

  leaf_alike : Nexts (leaf Met meet P) (leaf Met' meet' P)
  unfolding leaf
  leaf_alike e w = go w.best
    where
      by : (r : Ranking) (c : Candidate) → Image f (leaf_by Met meet P r c e w) (leaf_by Met' meet' P r c e (map_world f w))
      by smaller c = replace_alike e w
      by equal c = keeping_alike e (marked_tied Met meet P c) w
      by greater c = keeping_alike e c w

      go : (b : Option Candidate) → Image f (leaf_over Met meet P b e w) (leaf_over Met' meet' P b e (map_world f w))
      go none = replace_alike e w
      go (some c) = by (compare e.measure c.measure) c

  unless_alike : (k : Path → World Met → Out Met) (k' : Path → World Met' → Out Met') → Nexts k k'
      → Nexts (unless_dominated Met meet P k) (unless_dominated Met' meet' P k')
  unless_alike k k' h e w = go (dominated_by Met meet P e.measure w.best)
    where
      go : (b : Bool) → Image f (cond b (missed w) (k e w)) (cond b (missed (map_world f w)) (k' e (map_world f w)))
      go true = missed_alike f w
      go false = h e w

  solve_alike : (cs : List Constraint) → Nexts (solve Met meet P cs) (solve Met' meet' P cs)
  unfolding solve
  solve_alike [] = unless_alike (leaf Met meet P) (leaf Met' meet' P) leaf_alike
  solve_alike (c ∷ cs) = unless_alike (step Met meet P c (solve Met meet P cs)) (step Met' meet' P c
      (solve Met' meet' P cs)) (step_alike c (solve Met meet P cs) (solve Met' meet' P cs) (solve_alike cs))

  pub forgets : (cs : List Constraint) (e : Path) (w : World Met) → map_out f (solve Met meet P cs e w) ≡ solve Met' meet' P cs e (map_world f w)
  unfolding Image
  forgets cs e w = solve_alike cs e w

-- The verdict does not look at what is kept of the leaves.
pub verdict_forgets : {Met Met' : Type 0} (f : Met → Met') (I : Call) (o : Out Met) → verdict I (map_out f o) ≡ verdict I o
verdict_forgets f I (found w) = refl
verdict_forgets f I (missed w) = refl
verdict_forgets f I (ended c W) = refl

-- So whatever a search keeps of its leaves, their paths and lists among it, its verdict is the solver's.
pub keeping_has_no_influence : (Met : Type 0) (meet : Path → Lent → Met → Met) (m : Met) (I : Call)
    → verdict I (searched Met meet m I) ≡ verdict I (searched (Unit {0}) nothing_met tt I)
keeping_has_no_influence Met meet m I =
    sym (verdict_forgets {Met' = Unit {0}} (λ x. tt) I (searched Met meet m I))
    ∙ ap (verdict I)
    (forgets Met (Unit {0}) meet nothing_met (λ x. tt) (λ e W x. refl) (problem_of I) (given I) (start_path I)
    (record { lent = lent_of I; best = none; met = m }))

pub history_has_the_verdict : (I : Call) → verdict I (history I) ≡ verdict I (searched (Unit {0}) nothing_met tt I)
history_has_the_verdict I = keeping_has_no_influence (List Components) measure_met [] I
