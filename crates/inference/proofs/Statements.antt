-- What the statements about a whole call say, each read alone: a typing that holds together, by the positions of its expressions and by its constraints;
-- names and choices; the verdict by leaves; the lists that are left. Each statement is taken apart into facts about numbers, words and sorts, so that
-- no clause of it can be weakened unseen. Assumes nothing.
use mathlib.Core.Path.{◌≡◌, refl, sym, ap, subst, ◌∙◌}
use mathlib.Core.Bool.{Bool, true, false, cond}
use mathlib.Core.List.{List, [], ◌∷◌, map}
use mathlib.Core.Option.{none, some}
use mathlib.Core.Logic.{◌⊎◌, inl, inr, ◌↔◌}
use Prim.Native.Nat.{ℕ, suc, ◌+◌, ◌*◌, ◌<◌}
use native.Mathlib.Omega.{arith}
use lib.Dec.{eqb}
use lib.ListN.{length, get_or}
use lib.Seq.{take-append_seam}
use Rattle.resolved_sort.specs.declared.Refusal.{Refusal}
use Rattle.std.specs.Prelude.{Ok, Err}
use Rattle.resolved_sort.specs.declared.Run.{Run}
use Rattle.resolved_sort.specs.declared.Sort.{Sort}
use Rattle.resolved_sort.specs.declared.Counts.{Counts}
use Rattle.resolved_sort.specs.Tree.{Tree, primitive, flat}
use Rattle.resolved_sort.specs.Storage.{entry_at}
use Rattle.resolved_sort.specs.Rows.{AllBelow}
use Rattle.resolved_sort.specs.Checks.{first_failing, code_of as code_of_refusal}
use Rattle.resolved_sort.specs.Entries.{tree_at}
use Rattle.resolved_sort.proofs.SameNumbers.{number_of_tree}
use Rattle.unification.specs.declared.InferSortId.{InferSortId}
use Rattle.unification.specs.Term.{Shape}
use Rattle.unification.specs.Nodes.{Binds, binding, node_entry_at}
use Rattle.unification.specs.Related.{Member, first, later}
use Rattle.unification.specs.Making.{Lent}
use Rattle.unification.specs.Growing.{CheckedLent, Grows, with_sort_words}
use Rattle.unification.proofs.SortsGrow.{agreeing_sorts_grow}
use Rattle.inference.specs.declared.ExprId.{ExprId}
use Rattle.inference.specs.declared.Outputs.{Outputs}
use Rattle.inference.specs.declared.Verdict.TheVariants.{NoTyping, Ambiguous, Typing}
use Rattle.inference.specs.declared.Constraint.{Constraint}
use Rattle.inference.specs.declared.Constraint.TheVariants.{Disjunction}
use Rattle.inference.specs.Constraints.{Problem}
use Rattle.inference.specs.Measure.{Components, Ranking, smaller, equal, greater, compare}
use Rattle.inference.specs.Search.{Choice, World, ended, says}
use Rattle.inference.specs.Names.{run_for, overload_in, chosen_name, base_name, name_of, name_kind, name_sort}
use Rattle.inference.specs.Typing.{Assignment, Has, All, none_left, and_all, In, Typed, all_typed, and_typed, Meets, HoldsTogether}
use Rattle.inference.specs.Typing.{NumberSort, is_pos, is_nat, is_int, is_real}
use Rattle.inference.specs.SolveChecks.{Call, given, disjunctions, among, components, solve_checks}
use Rattle.inference.specs.SolveEntry.{Solved, problem_of, base_names_of, lent_of, SolveLeft, room_refusal, solve_entry}
use Rattle.inference.specs.SolveEntry.{code_solved, measure_out, choices_out, TypingOr15}
use Rattle.inference.specs.Explained.{Explained}
use Rattle.inference.specs.Rising.{RisingNumbers, no_numbers, then_above}
use Rattle.inference.specs.Named.{expr_of, choice, Named}
use Rattle.inference.specs.Leaves.{once, times, Least, met_of, code_left, ByLeaves}
use Rattle.inference.specs.ListsLeft.{counts_told, SortsGrown, ListsKept, Ends}
use Rattle.inference.proofs.Members.{in_all, among_in, is_among}
use Rattle.inference.proofs.Measures.{compare_self, equal_are_one}
use Rattle.inference.proofs.Clauses.{one_sort}

-- Demand 3
pub number_sorts_are_four : (t : Tree) → NumberSort t
    → (t ≡ flat (primitive Sort.Pos)) ⊎ ((t ≡ flat (primitive Sort.Nat)) ⊎ ((t ≡ flat (primitive Sort.Int)) ⊎ (t ≡ flat (primitive Sort.Real))))
number_sorts_are_four _ is_pos = inl refl
number_sorts_are_four _ is_nat = inr (inl refl)
number_sorts_are_four _ is_int = inr (inr (inl refl))
number_sorts_are_four _ is_real = inr (inr (inr refl))

below_each : (n : ℕ) (xs : List ℕ) → AllBelow n xs → (x i : ℕ) → Member x i xs → x < n
unfolding AllBelow
below_each n _ a x _ (first {xs = xs}) = a.0
below_each n _ a x _ (later {xs = xs} m) = below_each n xs a.1 x _ m

typed_long : (shape : ℕ → Shape) (look : ℕ → Tree) (σ : Assignment) (ps ss : List ℕ) → Typed shape look σ ps ss → length ss ≡ length ps
typed_long shape look σ _ _ all_typed = refl
typed_long shape look σ _ _ (and_typed p s ps ss h t) = ap suc (typed_long shape look σ ps ss t)

pub each_place_has_its_sort : (shape : ℕ → Shape) (look : ℕ → Tree) (σ : Assignment) (ps ss : List ℕ) → Typed shape look σ ps ss
    → (p s i : ℕ) → Member p i ps → Member s i ss → Has shape σ p (look s)
each_place_has_its_sort shape look σ _ _ all_typed p s i x7 _ = elim x7 [ ]
each_place_has_its_sort shape look σ _ _ (and_typed _ _ ps ss h t) p s _ first first = h
each_place_has_its_sort shape look σ _ _ (and_typed _ _ ps ss h t) p s _ (later m) (later n) = each_place_has_its_sort shape look σ ps ss t p s _ m n

-- One assignment: a variable bound to a place has the sort of the place; there is a sort for each expression, that of its place, and in the list; each
-- constraint is met; an expression has at most one choice.
pub together_says : (shape : ℕ → Shape) (sortGiven left : ℕ → Tree) (count : ℕ) (B : Binds) (P : Problem) (sorts : List ℕ) (ks : List Choice)
    → HoldsTogether shape sortGiven left count B P sorts ks
    → (σ : Assignment)
    × ((v q : ℕ) (t : Tree) → binding B v ≡ some q → Has shape σ q t → t ≡ σ v)
    × (length sorts ≡ length P.exprs)
    × ((p s i : ℕ) → Member p i P.exprs → Member s i sorts → Has shape σ p (left s) × (s < count))
    × ((c : Constraint) → In c P.constraints → Meets shape sortGiven P ks σ c)
    × ((x i j : ℕ) → In (choice x i) ks → In (choice x j) ks → i ≡ j)
together_says shape sortGiven left count B P sorts ks h =
    let σ = h.assignment in (
      σ,
      λ v q t b g. one_sort shape sortGiven P σ q t (σ v) g (h.bound v q b),
      typed_long shape left σ P.exprs sorts h.typed,
      λ p s i m n. (each_place_has_its_sort shape left σ P.exprs sorts h.typed p s i m n, below_each count sorts h.listed s i n),
      λ c i. in_all (Meets shape sortGiven P ks σ) c P.constraints h.meets i,
      h.once,
    )

-- numbers that rise, by where they stand
later_above : (x y m : ℕ) (xs : List ℕ) → All (λ z. x < z) xs → Member y m xs → x < y
later_above x y _ _ none_left m = elim m [ ]
later_above x y _ _ (and_all _ xs l a) first = l
later_above x y _ _ (and_all z xs l a) (later m) = later_above x y _ xs a m

pub rising_at : (x y i m : ℕ) (xs : List ℕ) → RisingNumbers xs → Member x i xs → Member y m xs → i < m → x < y
rising_at x y _ _ _ no_numbers a b l = elim a [ ]
rising_at x y _ _ _ (then_above z xs q r) first first l = absurd (omega (arith, l))
rising_at x y _ _ _ (then_above _ xs q r) first (later b) l = later_above x y _ xs q b
rising_at x y _ _ _ (then_above _ xs q r) (later a) first l = absurd (omega (arith, l))
rising_at x y _ _ _ (then_above _ xs q r) (later a) (later b) l = rising_at x y _ _ xs r a b (omega (arith, l))

-- Names and choices
module _ (I : Call) (L : SolveLeft) (o : Outputs) (ks : List Choice) (n : Named I L o ks) where
  -- what is told of the measure and of the choices, by the constraints
  pub as_many_as_asked : (o.components ≡ components (given I)) × (o.choices ≡ length (disjunctions (given I)))
  as_many_as_asked = (n.handed_out ∙ n.component_count, n.choice_count ∙ n.as_many)

  pub measure_is_read : measure_out L o ≡ n.measure
  measure_is_read = rw (n.handed_out, n.measure_handed_out) (take-append_seam n.measure _)

  pub as_many_components : length (measure_out L o) ≡ components (given I)
  as_many_components = ap length measure_is_read ∙ n.component_count

  -- of two choices the later one is for a higher expression
  pub choices_rise : (j k : Choice) (i m : ℕ) → Member j i ks → Member k m ks → i < m → j.expr < k.expr
  choices_rise j k i m a b l = rising_at j.expr k.expr i m (map expr_of ks) n.rises (at j i ks a) (at k m ks b) l
    where
      at : (k : Choice) (i : ℕ) (ks : List Choice) → Member k i ks → Member k.expr i (map expr_of ks)
      at k _ _ first = first
      at k _ (j ∷ ks) (later m) = later (at k _ ks m)

  -- and the expressions that have a choice are those of the disjunctions
  pub chosen_where_asked : (x : ℕ) → In x (map expr_of ks) ↔ In x (disjunctions (given I))
  chosen_where_asked x = (
    λ i. is_among x (disjunctions (given I)) (sym (n.for_disjunctions x) ∙ among_in x (map expr_of ks) i),
    λ i. is_among x (map expr_of ks) (n.for_disjunctions x ∙ among_in x (disjunctions (given I)) i),
  )

  -- a disjunction has one choice, of its own run, and its expression has the name of that overload
  pub one_choice_of_the_run : (x : ExprId) (p : InferSortId) (run : Run) → In (Disjunction x p run) (given I)
      → (i : ℕ) × (i < run.count) × ((j : ℕ) → In (choice x.0 j) ks ↔ (j ≡ i))
      × (name_of (problem_of I) (base_names_of I) ks x.0 ≡ some (overload_in (problem_of I).overloads run i).target)
  one_choice_of_the_run x p run d =
      let c = n.chosen x p run d in
      (c.position, c.below, λ j. (c.only j, λ e. subst (λ (k : ℕ). In (choice x.0 k) ks) (sym e) c.among_choices), c.name)

-- the name that is read in an expression's row: its choice's, else its base name
module _ (I : Call) (L : SolveLeft) (o : Outputs) (e : Explained I L o) (n : Named I L o (choices_out L o)) where
  pub chosen_name_is_read : (x : ExprId) (p : InferSortId) (run : Run) → In (Disjunction x p run) (given I) → x.0 < I.rows.exprs
      → (i : ℕ) × In (choice x.0 i) (choices_out L o)
      × (get_or L.typing (3 * x.0 + 1) 0 ≡ name_kind (some (overload_in (problem_of I).overloads run i).target))
      × (get_or L.typing (3 * x.0 + 2) 0 ≡ name_sort (some (overload_in (problem_of I).overloads run i).target))
  chosen_name_is_read x p run d l =
      let c = n.chosen x p run d in
      let w = e.names x.0 l in
      (c.position, c.among_choices, w.0 ∙ ap name_kind c.name, w.1 ∙ ap name_sort c.name)

  pub base_name_is_read : (x : ℕ) → x < I.rows.exprs → among x (disjunctions (given I)) ≡ false
      → (get_or L.typing (3 * x + 1) 0 ≡ name_kind (base_name (base_names_of I) x)) × (get_or L.typing (3 * x + 2) 0 ≡ name_sort (base_name (base_names_of I) x))
  base_name_is_read x l a = let w = e.names x l in let q = n.others x a in (w.0 ∙ ap name_kind q, w.1 ∙ ap name_sort q)

-- a name is chosen only where a disjunction offers a run, whatever the choices are
pub no_name_chosen_without_a_run : (P : Problem) (ks : List Choice) (x : ℕ) → run_for x P.constraints ≡ none → chosen_name P ks x ≡ none
unfolding chosen_name
no_name_chosen_without_a_run P [] x e = refl
no_name_chosen_without_a_run P (k ∷ ks) x e = rw e (either (eqb k.expr x) (no_name_chosen_without_a_run P ks x e))
  where
    either : (b : Bool) → chosen_name P ks x ≡ none → cond b none (chosen_name P ks x) ≡ none
    either true h = refl
    either false h = h

-- Leaves: a measure is counted as often as it is there
pub counted_where_it_is : (m : Components) (ms : List Components) → times m (m ∷ ms) ≡ suc (times m ms)
unfolding times
counted_where_it_is m ms = rw (compare_self m) (omega arith)

pub not_counted_elsewhere : (m n : Components) (ms : List Components) → (m ≡ n → ⊥) → times m (n ∷ ms) ≡ times m ms
unfolding times
not_counted_elsewhere m n ms f = go (compare m n) refl
  where
    go : (r : Ranking) → compare m n ≡ r → once r + times m ms ≡ times m ms
    go smaller e = omega arith
    go equal e = absurd (f (equal_are_one m n e))
    go greater e = omega arith

pub none_counted_in_none : (m : Components) → times m [] ≡ 0
unfolding times
none_counted_in_none m = refl

-- The verdict: without a leaf 17; with a least measure 0 or 18, by how often it was met, and under 0 it is the measure that is read.
pub verdict_says : (I : Call) (L : SolveLeft) (ms : List Components) → ByLeaves I L ms
    → ((code_left L ≡ 17) ↔ (ms ≡ []))
    × ((m : Components) → Least m ms → (times m ms ≡ 1 → code_left L ≡ 0) × (1 < times m ms → code_left L ≡ 18))
    × ((m : Components) (o : Outputs) → Least m ms → L.answer ≡ Ok (Typing o) → measure_out L o ≡ m)
    × (code_left L ≡ 0 → (m : Components) × Least m ms × (times m ms ≡ 1))
    × (code_left L ≡ 18 → (m : Components) × Least m ms × (1 < times m ms))
unfolding code_solved
verdict_says I L ms b = (
  b.none_met,
  λ m l. (λ t. b.least_met_once.1 (m, l, t), λ t. b.least_met_often.1 (m, l, t)),
  λ m o l a.
      let h = b.least_handed_out (ap code_solved a) m l in
      let q : o ≡ h.outputs = let x = h.answer in cc in
      rw (q, h.count, h.measure) (take-append_seam m _),
  b.least_met_once.0,
  b.least_met_often.0,
)

-- where room ended no leaf is told
pub no_leaf_told_without_room : (c : ℕ) (W : Lent) → met_of (ended c W) ≡ []
no_leaf_told_without_room c W = refl

-- "A refusal names the first failing check"
pub refused_with_the_first_failing : (I : Call) (c : Refusal) → first_failing (solve_checks I) ≡ Err c → code_left (solve_entry I) ≡ code_of_refusal c
unfolding solve_entry code_solved
refused_with_the_first_failing I c e = rw e refl

-- Room that ended is refused by its number.
pub room_refused_by_number : (code_of_refusal (room_refusal 15) ≡ 15) × (code_of_refusal (room_refusal 16) ≡ 16)
unfolding room_refusal code_of_refusal
room_refused_by_number = (refl, refl)

-- Lists that are left
pub counts_told_with_each : (k : Counts) (o : Outputs)
    → (counts_told (Ok (NoTyping k)) ≡ some k) × (counts_told (Ok (Ambiguous k)) ≡ some k) × (counts_told (Ok (Typing o)) ≡ some o.counts)
counts_told_with_each k o = (refl, refl, refl)

module _ (I : Call) (c : CheckedLent (lent_of I)) (ws : List ℕ) (k : Counts) (g : SortsGrown I ws k) where
  pub left_sorts_grow : Grows (lent_of I) (with_sort_words (lent_of I) ws k.sorts k.entries)
  left_sorts_grow = agreeing_sorts_grow (lent_of I) c ws k.sorts k.entries g.checked g.more g.more_entries g.as_long g.old

  -- given numbers keep their sorts, and no two numbers have one sort
  pub given_numbers_keep_their_sorts : (s : ℕ) → s < I.lengths.sorts → tree_at ws k.sorts s ≡ tree_at I.sorts I.lengths.sorts s
  given_numbers_keep_their_sorts s l = left_sorts_grow.looks s l

  pub no_two_left_are_equal : (s t : ℕ) → s < k.sorts → t < k.sorts → tree_at ws k.sorts s ≡ tree_at ws k.sorts t → s ≡ t
  no_two_left_are_equal s t = number_of_tree g.checked

pub given_words_stand : (I : Call) (W : Lent) → ListsKept I W
    → ((i : ℕ) → i < 4 * I.lengths.sorts → get_or W.sorts i 0 ≡ get_or I.sorts i 0)
    × ((i : ℕ) → i < I.lengths.entries → entry_at W.sorts i ≡ entry_at I.sorts i)
    × ((i : ℕ) → i < 4 * I.lengths.nodes → get_or W.nodes i 0 ≡ get_or I.nodes i 0)
    × ((i : ℕ) → i < I.lengths.arguments → node_entry_at W.nodes i ≡ node_entry_at I.nodes i)
    × (length W.sorts ≡ length I.sorts) × (length W.nodes ≡ length I.nodes)
given_words_stand I W h = (h.sorts.words, h.sorts.entries, h.nodes.rows, h.nodes.entries, h.as_long.0, h.as_long.1)

pub as_many_nodes_at_the_end : (I : Call) {Met : Type 0} (b : Bool) (w : World Met) → Ends I (says b w)
    → ListsKept I w.lent × (w.lent.lengths.nodes ≡ I.lengths.nodes) × (w.lent.lengths.arguments ≡ I.lengths.arguments)
as_many_nodes_at_the_end I true w e = e
as_many_nodes_at_the_end I false w e = e

pub given_words_stand_without_room : (I : Call) (Met : Type 0) (c : ℕ) (W : Lent) → Ends I {Met = Met} (ended c W) → ListsKept I W
given_words_stand_without_room I Met c W e = e

-- "a typing unless sort room ends (code 15)"
pub typing_or_15_is_0_or_15 : (r : Solved) → TypingOr15 r → (code_solved r ≡ 0) ⊎ (code_solved r ≡ 15)
unfolding code_solved code_of_refusal
typing_or_15_is_0_or_15 r (inl (o, e)) = inl (ap code_solved e)
typing_or_15_is_0_or_15 r (inr e) = inr (ap code_solved e)
