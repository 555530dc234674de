-- Choices and names. What the search keeps has one component for each Sub, Lit and Join source, and one choice for each disjunction, in the order
-- of the constraints, its position below its run's count: so is every path on which a leaf is reached. For a call with code 0 each disjunction has
-- exactly one choice, since by check 10 no two are for one expression; its chosen overload's target is the name of its expression, and the other
-- expressions keep their base names. What is handed out are these choices by rising expression number, all of them, since by check 9 each is for an
-- expression of the call: so it says the same. Assumes nothing.
use mathlib.Core.Path.{◌≡◌, refl, sym, ap, ap₂, subst, ◌∙◌}
use mathlib.Core.Bool.{Bool, true, false, cond, ◌||◌}
use mathlib.Core.List.{List, [], ◌∷◌, ◌++◌, map}
use mathlib.Core.Option.{Option, none, some}
use mathlib.Core.Logic.{◌⊎◌, inl, inr, ◌↔◌}
use Prim.Native.Nat.{ℕ, ◌+◌, ◌<◌}
use native.Mathlib.Omega.{arith}
use lib.Dec.{eqb}
use lib.ListN.{length, drop, get_or, length-take, length-drop, length-map}
use borrow.Author.Tests.{eqb-true, eqb-false, eq-eqb, ne_eqb}
use Rattle.resolved_sort.specs.declared.Run.{Run}
use Rattle.resolved_sort.proofs.Reached.{no_confusion}
use Rattle.unification.specs.declared.InferSortId.{InferSortId}
use Rattle.unification.specs.Nodes.{Binds}
use Rattle.unification.specs.Making.{Lent}
use Rattle.inference.specs.declared.ExprId.{ExprId}
use Rattle.inference.specs.declared.Outputs.{Outputs}
use Rattle.std.specs.Prelude.{Ok}
use Rattle.inference.specs.declared.Verdict.TheVariants.{Typing}
use Rattle.inference.specs.declared.Constraint.{Constraint}
use Rattle.inference.specs.declared.Constraint.TheVariants.{Sub, Lit, Disjunction, Comprehension, Join}
use Rattle.inference.specs.Constraints.{BaseName, rows_from, Problem}
use Rattle.inference.specs.Search.{Choice, Path, Candidate, World, Out, found, missed, ended, lending, leaf, solve}
use Rattle.inference.specs.Names.{run_for, target_in, chosen_name, base_name, name_of}
use Rattle.inference.specs.Typing.{All, none_left, and_all, In, here, there}
use Rattle.inference.specs.SolveChecks.{Call, given, disjunction_for, disjunctions, among, no_two, components_of, components}
use Rattle.inference.specs.SolveEntry.{problem_of, base_names_of, start_path, lent_of, searched, SolveLeft}
use Rattle.inference.specs.SolveEntry.{counts_in, typed, judged_by, judged, verdict, nothing_met, solve_entry}
use Rattle.inference.specs.SolveEntry.{room_refusal, code_solved, choice_at, choices_out}
use Rattle.inference.proofs.Members.{not_in_nothing, in_cases, first_in, in_right, in_map, length_rows, among_in, not_among, no_two_first}
use Rattle.inference.proofs.HandedOut.{choices_read}
use Rattle.inference.proofs.Rising.{AllFor, among_alike, alike_name_the_same, length_rising}
use Rattle.inference.proofs.Rising.{rising_keeps_each, rising_has_exactly, rising_rises, only_one_rises}
use Rattle.inference.specs.Rising.{choices_for, rising, RisingNumbers}
use Rattle.inference.specs.Inner.Listed.{ListedConstraint, sub_listed, lit_listed, disjunction_listed, comprehension_listed, join_listed}
use Rattle.inference.proofs.Accepted.{Accepted, refusal_above_0, refused_or_searched}
use Rattle.inference.proofs.Branches.{newcomer, NoChoice, Chooses, Choosing, none_to_choose, and_chooses, width_of, width, Goes, leaf_goes, search_goes}
use Rattle.inference.specs.Named.{expr_of, choice, ChosenFor, Named}

-- a candidate with the components and choices of the constraints
pub record Fits (P : Problem) (cs : List Constraint) (c : Candidate) : Type 0 where
  pub components : length c.measure ≡ width P cs
  pub choices : Choosing cs c.choices

unfoldable pub FitsBest : Problem → List Constraint → Option Candidate → Type 0
FitsBest P cs none = Unit {0}
FitsBest P cs (some c) = Fits P cs c

module _ (Met : Type 0) (meet : Path → Lent → Met → Met) (P : Problem) (cs : List Constraint) where
  abbrev pub Fitting : World Met → Bool → World Met → Type 0
  Fitting u b v = FitsBest P cs u.best → FitsBest P cs v.best

  stays : (w : World Met) (W : Lent) → Fitting w false (lending w W)
  stays w W f = f

  after : (u v w : World Met) (a b : Bool) → Fitting u a v → Fitting v b w → Fitting u (a || b) w
  after u v w a b x y f = y (x f)

  leaf_fits : (e : Path) → length e.measure ≡ width P cs → Choosing cs e.choices → (w : World Met) → Goes Fitting w (leaf Met meet P e w)
  unfolding FitsBest
  leaf_fits e many choosing w =
      leaf_goes Met meet P Fitting stays after e w (λ q ss W f. new) (λ c q i ss W f. new)
      (λ c q i f. record { components = (before c q f).components; choices = (before c q f).choices }) (λ c q i f. before c q f)
    where
      new : {ss : List ℕ} → Fits P cs (newcomer e ss)
      new = record { components = many; choices = choosing }

      before : (c : Candidate) → w.best ≡ some c → FitsBest P cs w.best → Fits P cs c
      before c q f = subst (FitsBest P cs) q f

  -- what a search keeps that begins with no component and no choice
  pub search_fits : (B : Binds) (w : World Met) → Goes Fitting w (solve Met meet P cs (record { binds = B; measure = []; choices = [] }) w)
  search_fits B =
      search_goes Met meet P Fitting stays after cs (record { binds = B; measure = []; choices = [] })
      (λ e a. leaf_fits e (ap length a.measure ∙ a.many) (subst (Choosing cs) (sym a.choices) a.fine))

-- as many components as check 11 counts, since the sources of each Join are in their list
width_of_one : (W : Lent) (P : Problem) (c : Constraint) → ListedConstraint W P c → width_of P c ≡ components_of c
unfolding width_of
width_of_one W P _ (sub_listed l r x y) = refl
width_of_one W P _ (lit_listed p kind x) = refl
width_of_one W P _ (disjunction_listed e p run x l y) = refl
width_of_one W P _ (comprehension_listed body node element x y l) = refl
width_of_one W P _ (join_listed run t x f a) = omega (
  arith,
  f,
  length-take run.count (drop run.start
      P.sources),
  length-drop run.start P.sources,
)

pub width_is_components : (W : Lent) (P : Problem) (cs : List Constraint) → All (ListedConstraint W P) cs → width P cs ≡ components cs
unfolding width components
width_is_components W P _ none_left = refl
width_is_components W P _ (and_all c cs f a) = ap₂ ◌+◌ (width_of_one W P c f) (width_is_components W P cs a)

-- one choice for each disjunction, in the order of the constraints
pub choices_in_order : (cs : List Constraint) (ks : List Choice) → Choosing cs ks → map expr_of ks ≡ disjunctions cs
unfolding disjunctions Chooses
choices_in_order _ _ none_to_choose = refl
choices_in_order _ _ (and_chooses c cs ks ls x y) = go c x (choices_in_order cs ls y)
  where
    nothing : NoChoice ks → map expr_of ls ≡ disjunctions cs → map expr_of (ks ++ ls) ≡ disjunctions cs
    nothing i h = ap (λ js. map expr_of (js ++ ls)) i ∙ h

    go : (c : Constraint) → Chooses c ks → map expr_of ls ≡ disjunctions cs → map expr_of (ks ++ ls) ≡ disjunction_for c (disjunctions cs)
    go (Sub l r) x h = nothing x h
    go (Lit p kind) x h = nothing x h
    go (Disjunction e p run) x h = ap (λ js. map expr_of (js ++ ls)) x.2 ∙ ap (λ xs. e.0 ∷ xs) h
    go (Comprehension body node element) x h = nothing x h
    go (Join run t) x h = nothing x h

-- its position below its run's count
pub disjunction_has_choice : (x : ExprId) (p : InferSortId) (run : Run) (cs : List Constraint) (ks : List Choice) → Choosing cs ks → In (Disjunction x p run) cs
    → (i : ℕ) × (i < run.count) × In (choice x.0 i) ks
unfolding Chooses
disjunction_has_choice x p run _ _ none_to_choose i = absurd (not_in_nothing _ i)
disjunction_has_choice x p run _ _ (and_chooses c cs ks ls h y) i = go (in_cases (Disjunction x p run) c cs i) (λ j. disjunction_has_choice x p run cs ls y j)
  where
    here_chosen : Chooses (Disjunction x p run) ks → (i : ℕ) × (i < run.count) × In (choice x.0 i) (ks ++ ls)
    here_chosen z = (z.0, z.1, subst (λ js. In (choice x.0 z.0) (js ++ ls)) (sym z.2) (here ls))

    go : (Disjunction x p run ≡ c) ⊎ In (Disjunction x p run) cs → (In (Disjunction x p run) cs → (i : ℕ) × (i < run.count) × In (choice x.0 i) ls)
        → (i : ℕ) × (i < run.count) × In (choice x.0 i) (ks ++ ls)
    go (inl e) f = here_chosen (subst (λ d. Chooses d ks) (sym e) h)
    go (inr j) f = let z = f j in (z.0, z.1, in_right (choice x.0 z.0) ks ls z.2)

pub one_choice : (x i j : ℕ) (ks : List Choice) → no_two (map expr_of ks) ≡ true → In (choice x i) ks → In (choice x j) ks → i ≡ j
one_choice x i j [] n a b = absurd (not_in_nothing _ a)
one_choice x i j (k ∷ ks) n a b = go (in_cases (choice x i) k ks a) (in_cases (choice x j) k ks b) (one_choice x i j ks rest.1)
  where
    rest : (among k.expr (map expr_of ks) ≡ false) × (no_two (map expr_of ks) ≡ true)
    rest = no_two_first k.expr (map expr_of ks) n

    twice : (n : ℕ) → choice x n ≡ k → (m : ℕ) → In (choice x m) ks → ⊥
    twice n e m l = let z : true ≡ false = sym (among_in x (map expr_of ks) (in_map expr_of (choice x m) ks l)) ∙ (ap (λ y. among y (map expr_of ks))
        (ap expr_of e) ∙ rest.0) in no_confusion (cc)

    go : (choice x i ≡ k) ⊎ In (choice x i) ks → (choice x j ≡ k) ⊎ In (choice x j) ks → (In (choice x i) ks → In (choice x j) ks → i ≡ j) → i ≡ j
    go (inl e) (inl f) h = ap (λ k. k.position) (e ∙ sym f)
    go (inl e) (inr m) h = absurd (twice i e j m)
    go (inr l) (inl f) h = absurd (twice j f i l)
    go (inr l) (inr m) h = h l m

-- the run of an expression's disjunction
disjunction_in : (x : ExprId) (p : InferSortId) (run : Run) (cs : List Constraint) → In (Disjunction x p run) cs → In x.0 (disjunctions cs)
unfolding disjunctions
disjunction_in x p run _ (here cs) = here (disjunctions cs)
disjunction_in x p run _ (there c cs i) = go c (disjunction_in x p run cs i)
  where
    go : (c : Constraint) → In x.0 (disjunctions cs) → In x.0 (disjunction_for c (disjunctions cs))
    go (Sub l r) h = h
    go (Lit q kind) h = h
    go (Disjunction y q r) h = there y.0 (disjunctions cs) h
    go (Comprehension body node element) h = h
    go (Join r t) h = h

pub run_of_disjunction : (x : ExprId) (p : InferSortId) (run : Run) (cs : List Constraint)
    → no_two (disjunctions cs) ≡ true → In (Disjunction x p run) cs → run_for x.0 cs ≡ some run
unfolding disjunctions run_for
run_of_disjunction x p run _ n (here cs) = rw (eq-eqb x.0 x.0 refl)
run_of_disjunction x p run _ n (there c cs i) = go c n (λ m. run_of_disjunction x p run cs m i)
  where
    go : (c : Constraint) → no_two (disjunction_for c (disjunctions cs)) ≡ true → (no_two (disjunctions cs) ≡ true → run_for x.0 cs ≡ some run)
        → run_for x.0 (c ∷ cs) ≡ some run
    go (Sub l r) n h = h n
    go (Lit q kind) n h = h n
    go (Disjunction y q r) n h =
        let z = no_two_first y.0 (disjunctions cs) n in
        let other : eqb y.0 x.0 ≡ false = ne_eqb y.0 x.0 (λ e. let f : true ≡ false = sym
        (among_in x.0 (disjunctions cs) (disjunction_in x p run cs i)) ∙ (ap (λ v. among v (disjunctions cs)) (sym e) ∙ z.0) in no_confusion
        (cc)) in
        rw other (h z.1)
    go (Comprehension body node element) n h = h n
    go (Join r t) n h = h n

-- the name that a choice gives
chosen_name_lem : (P : Problem) (x i : ℕ) (ks : List Choice) → In (choice x i) ks → ((j : ℕ) → In (choice x j) ks → j ≡ i)
    → chosen_name P ks x ≡ target_in P.overloads i (run_for x P.constraints)
unfolding chosen_name
chosen_name_lem P x i [] a u = absurd (not_in_nothing _ a)
chosen_name_lem P x i (k ∷ ks) a u = go (eqb k.expr x) refl (chosen_name_lem P x i ks)
  where
    go : (b : Bool) → eqb k.expr x ≡ b
        → (In (choice x i) ks → ((j : ℕ) → In (choice x j) ks → j ≡ i) → chosen_name P ks x ≡ target_in P.overloads i (run_for x P.constraints))
        → cond b (target_in P.overloads k.position (run_for x P.constraints)) (chosen_name P ks x) ≡ target_in P.overloads i (run_for x P.constraints)
    go true e h = ap (λ n. target_in P.overloads n (run_for x P.constraints))
        (u k.position (first_in _ k ks (ap (λ y. choice y k.position) (sym (eqb-true k.expr x e)))))
    go false e h = by (in_cases (choice x i) k ks a)
      where
        by : (choice x i ≡ k) ⊎ In (choice x i) ks → chosen_name P ks x ≡ target_in P.overloads i (run_for x P.constraints)
        by (inl q) = absurd (eqb-false k.expr x e (sym (ap expr_of q)))
        by (inr l) = h l (λ j m. u j (there k ks m))

not_chosen : (P : Problem) (x : ℕ) (ks : List Choice) → among x (map expr_of ks) ≡ false → chosen_name P ks x ≡ none
unfolding chosen_name
not_chosen P x [] a = refl
not_chosen P x (k ∷ ks) a = let q = not_among x k.expr (map expr_of ks) a in rw (ne_eqb k.expr x (λ e. q.0 (sym e))) (not_chosen P x ks q.1)

module _ (P : Problem) (bs : List BaseName) (ks : List Choice) (choosing : Choosing P.constraints ks)
    (n : no_two (disjunctions P.constraints) ≡ true) where
  pub disjunction_named : (x : ExprId) (p : InferSortId) (run : Run) → In (Disjunction x p run) P.constraints → ChosenFor P bs ks x run
  unfolding name_of
  disjunction_named x p run i =
      let z = disjunction_has_choice x p run P.constraints ks choosing i in
      let two : no_two (map expr_of ks) ≡ true = ap no_two (choices_in_order P.constraints ks choosing) ∙ n in
      let u : (j : ℕ) → In (choice x.0 j) ks → j ≡ z.0 = λ j l. one_choice x.0 j z.0 ks two l z.2 in
      record {
        position = z.0;
        below = z.1;
        among_choices = z.2;
        only = u;
        name = rw (chosen_name_lem P x.0 z.0 ks z.2 u, run_of_disjunction x p run P.constraints n i);
      }

  pub others_keep_base_names : (x : ℕ) → among x (disjunctions P.constraints) ≡ false → name_of P bs ks x ≡ base_name bs x
  unfolding name_of
  others_keep_base_names x a = rw (not_chosen P x ks (ap (among x) (choices_in_order P.constraints ks choosing) ∙ a))

-- The choices of a candidate, and what is handed out of them.
module _ (I : Call) (A : Accepted I) (c : Candidate) (f : Fits (problem_of I) (given I) c) where
  abbrev P : Problem
  P = problem_of I

  exprs_chosen : map expr_of c.choices ≡ disjunctions (given I)
  exprs_chosen = choices_in_order (given I) c.choices f.choices

  no_two_chosen : no_two (map expr_of c.choices) ≡ true
  no_two_chosen = ap no_two exprs_chosen ∙ A.one_disjunction_each

  all_for : AllFor (length P.exprs) c.choices
  all_for =
      subst (λ xs. All (λ x. x < length P.exprs) xs) (sym exprs_chosen)
      (subst (λ (n : ℕ). All (λ x. x < n) (disjunctions (given I))) (sym (length_rows (λ i. get_or I.exprs i 0) 0 I.rows.exprs)) A.for_expressions)

  pub as_many_told : length (rising P c.choices) ≡ length c.choices
  as_many_told = length_rising (length P.exprs) c.choices all_for

  told_alike : (x : ℕ) → choices_for x (rising P c.choices) ≡ choices_for x c.choices
  told_alike = rising_keeps_each (length P.exprs) c.choices all_for

  pub told_has_exactly : (k : Choice) → In k (rising P c.choices) ↔ In k c.choices
  told_has_exactly = rising_has_exactly (length P.exprs) c.choices all_for

  told_rises : RisingNumbers (map expr_of (rising P c.choices))
  told_rises = rising_rises c.choices no_two_chosen 0 (length P.exprs)

  -- no other list of these choices rises
  pub only_told_rises : (ks : List Choice) → RisingNumbers (map expr_of ks) → ((k : Choice) → In k ks ↔ In k c.choices) → ks ≡ rising P c.choices
  only_told_rises ks r h =
      only_one_rises ks (rising P c.choices) r told_rises
      (λ k. (λ i. (told_has_exactly k).1 ((h k).0 i), λ i. (h k).1 ((told_has_exactly k).0 i)))

  pub told_names : (x : ℕ) → name_of P (base_names_of I) (rising P c.choices) x ≡ name_of P (base_names_of I) c.choices x
  told_names = alike_name_the_same P (base_names_of I) (rising P c.choices) c.choices told_alike

  told_for : (x : ℕ) → among x (map expr_of (rising P c.choices)) ≡ among x (disjunctions (given I))
  told_for x = among_alike x (rising P c.choices) c.choices (told_alike x) ∙ ap (among x) exprs_chosen

  -- what is read of the rows that are handed out
  pub told_is_read : (W : Lent) (o : Outputs) → (typed I W c).answer ≡ Ok (Typing o) → choices_out (typed I W c) o ≡ rising P c.choices
  told_is_read W o e =
      let q : o ≡ record { counts = counts_in W; components = length c.measure; choices = length c.choices } = cc in
      ap (λ (z : Outputs). choices_out (typed I W c) z) q
      ∙ (ap (rows_from (choice_at (typed I W c).choices) 0) (sym as_many_told) ∙ choices_read (rising P c.choices) _)

-- what a call leaves that hands out a typing
pub record IsTyping (I : Call) (left : SolveLeft) : Type 0 where
  pub accepted : Accepted I
  pub lent : Lent
  pub candidate : Candidate
  pub is : left ≡ typed I lent candidate
  pub fits : Fits (problem_of I) (given I) candidate

module _ (I : Call) (A : Accepted I) where
  judged_typed : (W : Lent) (b : Option Candidate) → FitsBest (problem_of I) (given I) b → code_solved (judged I W b).answer ≡ 0 → IsTyping I (judged I W b)
  unfolding FitsBest code_solved
  judged_typed W none f q = absurd (omega (arith, q))
  judged_typed W (some c) f q = go c.duplicate q
    where
      go : (b : Bool) → code_solved (judged_by I W c b).answer ≡ 0 → IsTyping I (judged_by I W c b)
      go true q = absurd (omega (arith, q))
      go false q = record { accepted = A; lent = W; candidate = c; is = refl; fits = f }

  searched_typed : (w : World (Unit {0})) → FitsBest (problem_of I) (given I) w.best → (o : Out (Unit {0}))
      → Goes (Fitting (Unit {0}) nothing_met (problem_of I) (given I)) w o
      → code_solved (verdict I o).answer ≡ 0 → IsTyping I (verdict I o)
  unfolding Goes code_solved
  searched_typed w f (found v) x q = judged_typed v.lent v.best (x f) q
  searched_typed w f (missed v) x q = judged_typed v.lent v.best (x f) q
  searched_typed w f (ended c W) x q = absurd (omega (arith, refusal_above_0 (room_refusal c), q))

pub code_0_typed : (I : Call) → code_solved (solve_entry I).answer ≡ 0 → IsTyping I (solve_entry I)
unfolding FitsBest code_solved
code_0_typed I =
    let w : World (Unit {0}) = record { lent = lent_of I; best = none; met = tt } in
    refused_or_searched I (λ left. code_solved left.answer ≡ 0 → IsTyping I left) (λ c l q. absurd (omega (arith, l, q)))
    (λ A. searched_typed I A w tt (searched (Unit {0}) nothing_met tt I) (search_fits (Unit {0}) nothing_met (problem_of I) (given I) (start_path I).binds w))

pub names_and_choices : (I : Call) (o : Outputs) → (solve_entry I).answer ≡ Ok (Typing o) → Named I (solve_entry I) o (choices_out (solve_entry I) o)
unfolding code_solved
names_and_choices I o e = named (solve_entry I) t.is e
  where
    t : IsTyping I (solve_entry I)
    t = code_0_typed I (ap code_solved e)

    named : (L : SolveLeft) → L ≡ typed I t.lent t.candidate → L.answer ≡ Ok (Typing o) → Named I L o (choices_out L o)
    named L i a =
        let A = t.accepted in
        let c = t.candidate in
        let f = t.fits in
        let bs = base_names_of I in
        let b : (typed I t.lent c).answer ≡ Ok (Typing o) = ap (λ (z : SolveLeft). z.answer) (sym i) ∙ a in
        let q : o ≡ record { counts = counts_in t.lent; components = length c.measure; choices = length c.choices } = cc in
        let r : choices_out L o ≡ rising (problem_of I) c.choices = ap (λ (z : SolveLeft). choices_out z o) i ∙ told_is_read I A c f t.lent o b in
        let among_both = told_has_exactly I A c f in
        subst (Named I L o) (sym r)
        (record {
          measure = c.measure;
          measure_handed_out = ap (λ (z : SolveLeft). z.measure) i;
          handed_out = ap (λ (z : Outputs). z.components) q;
          component_count = f.components ∙ width_is_components (lent_of I) (problem_of I) (given I) A.constraints;
          choice_count = ap (λ (z : Outputs). z.choices) q ∙ sym (as_many_told I A c f);
          as_many = as_many_told I A c f ∙ (sym (length-map c.choices expr_of) ∙ ap length (exprs_chosen I A c f));
          rises = told_rises I A c f;
          for_disjunctions = told_for I A c f;
          once = λ x m n j l. one_choice x m n c.choices (no_two_chosen I A c f) ((among_both (choice x m)).0 j) ((among_both (choice x n)).0 l);
          chosen = λ x p run d.
              let h = disjunction_named (problem_of I) bs c.choices f.choices A.one_disjunction_each x p run d in
              record {
                position = h.position;
                below = h.below;
                among_choices = (among_both (choice x.0 h.position)).1 h.among_choices;
                only = λ j l. h.only j ((among_both (choice x.0 j)).0 l);
                name = told_names I A c f x.0 ∙ h.name;
              };
          others = λ x a. told_names I A c f x ∙ others_keep_base_names (problem_of I) bs c.choices f.choices A.one_disjunction_each x a;
        })
