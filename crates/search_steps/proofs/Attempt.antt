-- One try and what comes of it. A try changes the trail only; a step writes one word behind the branch's own; so the incumbent stands as it was, the path
-- after the step is the defined one, and what comes next leaves both as they were, so that undoing the trail gives the bindings back. Assumes nothing.
use mathlib.Core.Path.{◌≡◌, refl, sym, ap, ap₂, ◌∙◌, subst}
use mathlib.Core.Bool.{Bool, cond}
use mathlib.Core.List.{List, [], ◌∷◌, ◌++◌}
use mathlib.Core.Option.{Option, none, some}
use Prim.Native.Nat.{ℕ, ◌+◌, ◌-◌, ◌<◌, ◌≤◌}
use native.Mathlib.Numerals.{add-one}
use native.Mathlib.Omega.{arith}
use lib.ListN.{length, get_or, set, take, drop, length-set, length-drop}
use lib.Seq.{length-take-le, take-take, take-set-le, drop-drop}
use Rattle.std.specs.Prelude.{Option as Found, Some, None}
use Rattle.unification.specs.Nodes.{Binds, binds_of}
use Rattle.unification.specs.Unify.{Unifies, yes_with, no_way}
use Rattle.unification.specs.Checked.{graph_of}
use Rattle.unification.specs.Trail.{undo, answer_by}
use Rattle.unifier.specs.Inner.Trying.{Trying}
use Rattle.unifier.proofs.Words.{undo_front}
use Rattle.unifier.proofs.Tries.{binds_nothing}
use Rattle.inference.specs.Constraints.{max_constraints, max_components, constraint_at, rows_from}
use Rattle.inference.specs.Search.{Candidate, Out, missed, on_yes}
use Rattle.inference.specs.SolveChecks.{disjunctions}
use Rattle.inference.proofs.Invariant.{sorts_only_refl}
use Rattle.search_state.specs.declared.Sizes.{Sizes}
use Rattle.search_state.specs.Inner.States.{State}
use Rattle.search_state.specs.declared.Branch.{Branch}
use Rattle.search_state.specs.Inner.States.{Answer}
use Rattle.search_state.specs.Inner.States.{Missed}
use Rattle.search_state.specs.declared.Next.{Next}
use Rattle.search_state.specs.declared.Pairs.{Pairs}
use Rattle.search_state.specs.declared.Step.{Step}
use Rattle.search_state.specs.declared.Step.TheVariants.{Nothing, Component, Written, Choice}
use Rattle.search_state.specs.Inner.Memory.{problem_in, chosen_exprs, trail_words, best_sorts_at, measure_at}
use Rattle.search_state.specs.Inner.Memory.{best_measure_at, choices_at, best_choices_at, scratch_used, choices_of, path_of}
use Rattle.search_state.specs.Inner.Memory.{candidate_of, best_of, world_of, out_of, next_of}
use Rattle.words.specs.Words.{part}
use Rattle.search_state.specs.Inner.Leaves.{unify_pairs, trail_after, is_made, TriesPairs, step_words, added_components, added_choices, branch_after, path_after}
use Rattle.search_state.specs.Inner.Searching.{Sized, Searching, next_constraints, next_components, exprs_of, Done, Comes, trying}
use Rattle.words.proofs.Parts.{length_part, take_part, part_append, part_set_end, part_set_before, part_set_after, part_in_back, take_shorter}
use Rattle.search_state.proofs.Parts.{nothing_chosen}
use Rattle.unification.specs.Inner.Making.{lent}

-- where only the trail changed, the incumbent is the same
module _ (ls : List ℕ) (z : Sizes) (sc sc₁ : List ℕ) (r : drop trail_words sc₁ ≡ drop trail_words sc) where
  part_same : (a n : ℕ) → trail_words ≤ a → part a n sc₁ ≡ part a n sc
  part_same a n l = part_in_back a n trail_words sc sc₁ l r

  pub best_same : (b t : Bool) → best_of ls z sc₁ b t ≡ best_of ls z sc b t
  unfolding best_of candidate_of
  best_same b t =
      λ i. cond b
      (some
      (record {
        measure = part_same best_measure_at z.components (omega arith) i;
        sorts = part_same best_sorts_at z.exprs (omega arith) i;
        choices = choices_of (chosen_exprs ls z) (part_same best_choices_at z.disjunctions (omega arith) i);
        duplicate = t;
      })) none

-- one choice more
choose_more : (xs is : List ℕ) (i : ℕ) → length is < length xs → choices_of xs (is ++ (i ∷ [])) ≡ choices_of xs is ++
    (record { expr = get_or xs (length is) 0; position = i } ∷ [])
unfolding choices_of
choose_more [] is i l = absurd (omega (arith, l))
choose_more (x ∷ xs) [] i l = ap (λ cs. record { expr = x; position = i } ∷ cs) (nothing_chosen xs)
choose_more (x ∷ xs) (j ∷ is) i l = ap (λ cs. record { expr = x; position = j } ∷ cs) (choose_more xs is i (omega (arith, l)))

-- What a step writes, by its kind: behind the branch's own words, and not among the incumbent's.
module _ (ls : List ℕ) (z : Sizes) (few : Sized (problem_in ls z) z) (sc sc₁ : List ℕ) (long : scratch_used ≤ length
    sc₁) (r : drop trail_words sc₁ ≡ drop trail_words sc) (e : Branch) where
  same : (a n : ℕ) → trail_words ≤ a → part a n sc₁ ≡ part a n sc
  same = part_same ls z sc sc₁ r

  abbrev Room : Step → Type 0
  Room s = (e.measure + added_components s ≤ max_components) × (e.choices + added_choices s ≤ max_constraints)

  pub step_front : (s : Step) (n : ℕ) → n ≤ measure_at → take n (step_words s e sc₁) ≡ take n sc₁
  unfolding step_words
  step_front Nothing n l = refl
  step_front (Component c) n l = take-set-le n sc₁ (measure_at + e.measure) c (omega (arith, l))
  step_front (Written m) n l = refl
  step_front (Choice i) n l = take-set-le n sc₁ (choices_at + e.choices) i (omega (arith, l))

  pub step_long : (s : Step) → length (step_words s e sc₁) ≡ length sc₁
  unfolding step_words
  step_long Nothing = refl
  step_long (Component c) = length-set sc₁ (measure_at + e.measure) c
  step_long (Written m) = refl
  step_long (Choice i) = length-set sc₁ (choices_at + e.choices) i

  step_sorts : (s : Step) (n : ℕ) → n ≤ 512 → part best_sorts_at n (step_words s e sc₁) ≡ part best_sorts_at n sc
  unfolding step_words
  step_sorts Nothing n l = same best_sorts_at n (omega arith)
  step_sorts (Component c) n l = part_set_after best_sorts_at n sc₁ (measure_at + e.measure) c (omega (arith, l)) ∙ same best_sorts_at n (omega arith)
  step_sorts (Written m) n l = same best_sorts_at n (omega arith)
  step_sorts (Choice i) n l = part_set_after best_sorts_at n sc₁ (choices_at + e.choices) i (omega (arith, l)) ∙ same best_sorts_at n (omega arith)

  step_best_measure : (s : Step) → Room s → (n : ℕ) → n ≤ 256 → part best_measure_at n (step_words s e sc₁) ≡ part best_measure_at n sc
  unfolding step_words
  step_best_measure Nothing h n l = same best_measure_at n (omega arith)
  step_best_measure (Component c) h n l = part_set_before best_measure_at n sc₁ (measure_at + e.measure) c
      (omega (arith, h.0)) ∙ same best_measure_at n (omega arith)
  step_best_measure (Written m) h n l = same best_measure_at n (omega arith)
  step_best_measure (Choice i) h n l = part_set_after best_measure_at n sc₁ (choices_at + e.choices) i (omega (arith, l)) ∙ same best_measure_at n (omega arith)

  step_best_choices : (s : Step) → Room s → (n : ℕ) → part best_choices_at n (step_words s e sc₁) ≡ part best_choices_at n sc
  unfolding step_words
  step_best_choices Nothing h n = same best_choices_at n (omega arith)
  step_best_choices (Component c) h n = part_set_before best_choices_at n sc₁ (measure_at + e.measure) c
      (omega (arith, h.0)) ∙ same best_choices_at n (omega arith)
  step_best_choices (Written m) h n = same best_choices_at n (omega arith)
  step_best_choices (Choice i) h n = part_set_before best_choices_at n sc₁ (choices_at + e.choices) i (omega (arith, h.1)) ∙ same best_choices_at n (omega arith)

  pub step_best : (s : Step) → Room s → (b t : Bool) → best_of ls z (step_words s e sc₁) b t ≡ best_of ls z sc b t
  unfolding best_of candidate_of
  step_best s h b t =
      λ i. cond b
      (some
      (record {
        measure = step_best_measure s h z.components few.few_components i;
        sorts = step_sorts s z.exprs few.exprs i;
        choices = choices_of (chosen_exprs ls z) (step_best_choices s h z.disjunctions i);
        duplicate = t;
      })) none

  -- the branch's own words
  pub step_measure : (s : Step) → Room s → part measure_at e.measure (step_words s e sc₁) ≡ part measure_at e.measure sc
  unfolding step_words
  step_measure Nothing h = same measure_at e.measure (omega arith)
  step_measure (Component c) h = part_set_after measure_at e.measure sc₁ (measure_at + e.measure) c (omega arith) ∙ same measure_at e.measure (omega arith)
  step_measure (Written m) h = same measure_at e.measure (omega arith)
  step_measure (Choice i) h = part_set_after measure_at e.measure sc₁ (choices_at + e.choices) i
      (omega (arith, h.0)) ∙ same measure_at e.measure (omega arith)

  pub step_choices : (s : Step) → Room s → part choices_at e.choices (step_words s e sc₁) ≡ part choices_at e.choices sc
  unfolding step_words
  step_choices Nothing h = same choices_at e.choices (omega arith)
  step_choices (Component c) h = part_set_before choices_at e.choices sc₁ (measure_at + e.measure) c
      (omega (arith, h.0)) ∙ same choices_at e.choices (omega arith)
  step_choices (Written m) h = same choices_at e.choices (omega arith)
  step_choices (Choice i) h = part_set_after choices_at e.choices sc₁ (choices_at + e.choices) i (omega arith) ∙ same choices_at e.choices (omega arith)

  -- one word more at their ends
  more_measure : (c : ℕ) → e.measure < max_components
      → part measure_at (e.measure + 1) (set sc₁ (measure_at + e.measure) c) ≡ part measure_at e.measure sc ++
      (c ∷ [])
  more_measure c l =
      ap (λ n. part measure_at n (set sc₁ (measure_at + e.measure) c)) (add-one e.measure)
      ∙ (part_set_end measure_at e.measure sc₁ c (omega (arith, l, long)) ∙ ap (λ xs. xs ++ (c ∷ [])) (same measure_at e.measure (omega arith)))

  written_measure : (m : ℕ) → part measure_at (e.measure + m) sc₁ ≡ part measure_at e.measure sc ++ part (measure_at + e.measure) m sc
  written_measure m = part_append measure_at e.measure m sc₁ ∙ ap₂ ◌++◌ (same measure_at e.measure (omega arith))
      (same (measure_at + e.measure) m (omega arith))

  more_choices : (i : ℕ) → e.choices < max_constraints
      → part choices_at (e.choices + 1) (set sc₁ (choices_at + e.choices) i) ≡ part choices_at e.choices sc ++
      (i ∷ [])
  more_choices i l =
      ap (λ n. part choices_at n (set sc₁ (choices_at + e.choices) i)) (add-one e.choices)
      ∙ (part_set_end choices_at e.choices sc₁ i (omega (arith, l, long)) ∙ ap (λ xs. xs ++ (i ∷ [])) (same choices_at e.choices (omega arith)))

  abbrev D : List ℕ
  D = chosen_exprs ls z

  -- a choice is for an expression of the problem
  abbrev Chooses : Step → Type 0
  Chooses s = e.choices + added_choices s ≤ length D

  chosen_more : (i : ℕ) → e.choices < length D → e.choices < max_constraints
      → choices_of D (part choices_at (e.choices + 1) (set sc₁ (choices_at + e.choices) i)) ≡ choices_of D
      (part choices_at e.choices sc) ++ (record { expr = get_or D e.choices 0; position = i } ∷ [])
  chosen_more i l m =
      let n : length (part choices_at e.choices sc) ≡ e.choices =
      ap length (sym (same choices_at e.choices (omega arith))) ∙ length_part choices_at e.choices sc₁ (omega (arith, m, long)) in
      ap (choices_of D) (more_choices i m)
      ∙ (choose_more D (part choices_at e.choices sc) i (omega (arith, l, n))
      ∙ ap (λ j. choices_of D (part choices_at e.choices sc) ++ (record { expr = get_or D j 0; position = i } ∷ [])) n)

  -- the path after a step
  pub step_path : (s : Step) → Room s → Chooses s → (d : ℕ) (C : Binds) → path_of ls z C (step_words s e sc₁) (branch_after e d s) ≡ path_after ls z sc e s C
  unfolding step_words path_after
  step_path Nothing h g d C = λ i. record {
    binds = C;
    measure = same measure_at e.measure (omega arith) i;
    choices = choices_of D (same choices_at e.choices (omega arith) i);
  }
  step_path (Component c) h g d C =
      λ i. record { binds = C; measure = more_measure c (omega (arith, h.0)) i; choices = choices_of D (step_choices (Component c) h i) }
  step_path (Written m) h g d C = λ i. record { binds = C; measure = written_measure m i; choices = choices_of D (same choices_at e.choices (omega arith) i) }
  step_path (Choice j) h g d C =
      λ i. record { binds = C; measure = step_measure (Choice j) h i; choices = chosen_more j (omega (arith, g)) (omega (arith, h.1)) i }

-- what is asked for on a branch gives the room of its step
module _ (ls : List ℕ) (z : Sizes) (ws ns bs sc : List ℕ) (k : State) (e : Branch) (s : Step) (next : Next)
    (S : Searching ws ns bs sc ls z k e (added_components s) (exprs_of ls z e s) next) where
  abbrev E : List ℕ
  E = chosen_exprs ls z

  same_exprs : length E ≡ z.disjunctions
  unfolding chosen_exprs problem_in
  same_exprs = ap (λ n. length (disjunctions (rows_from (constraint_at ls) 0 n))) (let q : z.constraints - 0 ≡
      z.constraints = omega arith in q) ∙ S.sized.disjunctions

  longer : (s : Step) (xs : List ℕ) → drop e.choices E ≡ exprs_of ls z e s ++ xs → e.choices ≤ z.disjunctions → e.choices + added_choices s ≤ length E
  longer Nothing xs q l = omega (arith, l, same_exprs)
  longer (Component c) xs q l = omega (arith, l, same_exprs)
  longer (Written m) xs q l = omega (arith, l, same_exprs)
  longer (Choice i) xs q l = omega (arith, ap length q, length-drop e.choices E)

  pub chooses : e.choices + added_choices s ≤ length E
  chooses = longer s (disjunctions (next_constraints ls z next)) S.choices S.few

  pub room : (e.measure + added_components s ≤ max_components) × (e.choices + added_choices s ≤ max_constraints)
  room = (omega (arith, S.measure, S.sized.few_components), omega (arith, chooses, same_exprs, S.sized.few_disjunctions))

  pub trying_here : Trying ws ns bs (take trail_words sc) k.lengths e.trail
  trying_here =
      record {
        ready = S.ready;
        room = omega (arith, S.trail, length-take-le trail_words sc (omega (arith, S.long)));
        short = omega (arith, length-take-le trail_words sc (omega (arith, S.long)));
      }

  -- after the step, choices and components are those that come next
  rest_of : (s : Step) (xs : List ℕ) → drop e.choices E ≡ exprs_of ls z e s ++ xs → (d : ℕ) → drop (branch_after e d s).choices E ≡ xs
  rest_of Nothing xs q d = q
  rest_of (Component c) xs q d = q
  rest_of (Written m) xs q d = q
  rest_of (Choice i) xs q d = sym (drop-drop 1 e.choices E) ∙ ap (drop 1) q

  measure_of : (s : Step) (d n : ℕ) → e.measure + (added_components s + n) ≡ z.components → (branch_after e d s).measure + (0 + n) ≡ z.components
  measure_of Nothing d n q = omega (arith, q)
  measure_of (Component c) d n q = omega (arith, q)
  measure_of (Written m) d n q = omega (arith, q)
  measure_of (Choice i) d n q = omega (arith, q)

  few_of : (s : Step) (d : ℕ) → e.choices + added_choices s ≤ length E → (branch_after e d s).choices ≤ z.disjunctions
  few_of Nothing d l = omega (arith, l, same_exprs)
  few_of (Component c) d l = omega (arith, l, same_exprs)
  few_of (Written m) d l = omega (arith, l, same_exprs)
  few_of (Choice i) d l = omega (arith, l, same_exprs)

  trail_of : (s : Step) (d : ℕ) → (branch_after e d s).trail ≡ d
  trail_of Nothing d = refl
  trail_of (Component c) d = refl
  trail_of (Written m) d = refl
  trail_of (Choice i) d = refl

  measure_longer : (s : Step) (d : ℕ) → e.measure ≤ (branch_after e d s).measure
  measure_longer Nothing d = omega arith
  measure_longer (Component c) d = omega arith
  measure_longer (Written m) d = omega arith
  measure_longer (Choice i) d = omega arith

  choices_longer : (s : Step) (d : ℕ) → e.choices ≤ (branch_after e d s).choices
  choices_longer Nothing d = omega arith
  choices_longer (Component c) d = omega arith
  choices_longer (Written m) d = omega arith
  choices_longer (Choice i) d = omega arith

  module _ (U : Unifies) (bs₁ sc₁ : List ℕ) (t : Found ℕ) (u : TriesPairs ws ns k.lengths U bs sc e.trail bs₁ sc₁ t) where
    abbrev v : ℕ
    v = k.lengths.variables

    -- on with what comes next, where the answer is a yes
    abbrev tried : Out (Unit {0})
    tried = on_yes U (λ C. next_of ls z next (path_after ls z sc e s C)) (world_of ls z ws ns sc k)

    long₁ : scratch_used ≤ length sc₁
    long₁ = omega (arith, S.long, u.long)

    -- so many on the trail
    pub on_the_trail : (e.trail ≤ trail_after e.trail t) × (trail_after e.trail t ≤ trail_words)
    on_the_trail = (u.tries.longer, omega (arith, u.tries.spent, S.trail))

    front₁ : (n : ℕ) → n ≤ e.trail → take n sc₁ ≡ take n sc
    front₁ n l =
        let m : e.trail ≤ trail_words = omega (arith, on_the_trail.0, on_the_trail.1) in
        sym (take-take n trail_words sc₁ (omega (arith, l, m)))
        ∙ (take_shorter n e.trail (take trail_words sc) (take trail_words sc₁) l u.tries.front ∙ take-take n trail_words sc (omega (arith, l, m)))

    -- undoing a trail that has the try's variables gives the bindings back
    pub freed_again : (sc₃ : List ℕ) → take (trail_after e.trail t) sc₃ ≡ take (trail_after e.trail t) sc₁ → undo sc₃ e.trail (trail_after e.trail t - e.trail) bs₁ ≡ bs
    freed_again sc₃ q =
        undo_front sc₃ (take trail_words sc₁) e.trail (trail_after e.trail t - e.trail) (trail_after e.trail t) bs₁ (omega (arith, on_the_trail.0))
        (q ∙ sym (take-take (trail_after e.trail t) trail_words sc₁ on_the_trail.1))
        ∙ u.tries.undone

    pub tried_no : t ≡ None → Done ls z ws ns bs sc k e tried ws ns bs₁ sc₁ (Missed k)
    unfolding undo
    tried_no q =
        record {
          says = (λ i. missed_with (best_same ls z sc sc₁ u.rest k.best k.tied i)) ∙ sym
              (ap (λ x. on_yes x (λ C. next_of ls z next (path_after ls z sc e s C)) (world_of ls z ws ns sc k)) no);
          grown = sorts_only_refl (lent ws ns k.lengths) S.ready.nodes;
          binds =
              ap (λ (n : ℕ). undo sc₁ e.trail n bs₁) (let y : 0 ≡ trail_after e.trail t - e.trail = omega (arith, ap (trail_after e.trail) q) in y)
              ∙ freed_again sc₁ refl;
          path =
              record {
                trail = front₁ e.trail (omega arith);
                measure = part_same ls z sc sc₁ u.rest measure_at e.measure (omega arith);
                choices = part_same ls z sc sc₁ u.rest choices_at e.choices (omega arith);
                long = u.long;
              };
        }
      where
        no : U ≡ no_way
        no = u.tries.says ∙ ap (λ r. answer_by (is_made r) (binds_of bs₁ v)) q

        missed_with : Option Candidate → Out (Unit {0})
        missed_with b = missed (record { lent = lent ws ns k.lengths; best = b; met = tt })

    module _ (d : ℕ) (q : t ≡ Some d) (sc₂ : List ℕ) (e₂ : Branch) (w : sc₂ ≡ step_words s e sc₁) (a : e₂ ≡ branch_after e d s) where
      count : trail_after e.trail t ≡ d
      count = ap (trail_after e.trail) q

      yes : U ≡ yes_with (binds_of bs₁ v)
      yes = u.tries.says ∙ ap (λ r. answer_by (is_made r) (binds_of bs₁ v)) q

      trail₂ : e₂.trail ≡ d
      trail₂ = ap (λ (x : Branch). x.trail) a ∙ trail_of s d

      -- what comes next is asked for
      pub goes_on : Searching ws ns bs₁ sc₂ ls z k e₂ 0 [] next
      goes_on =
          subst (λ (x : Branch). Searching ws ns bs₁ sc₂ ls z k x 0 [] next) (sym a)
          (record {
            ready = u.tries.ready;
            suits = S.suits;
            sized = S.sized;
            long = omega (arith, long₁, ap length w, step_long ls z S.sized sc sc₁ long₁ u.rest e s);
            trail = omega (arith, trail_of s d, count, u.tries.spent, S.trail);
            fine = S.fine;
            measure = measure_of s d (next_components ls z next) S.measure;
            choices = rest_of s (disjunctions (next_constraints ls z next)) S.choices d;
            few = few_of s d chooses;
          })

      module _ (ws₃ ns₃ bs₃ sc₃ : List ℕ) (r : Answer) (c : Comes ls z ws ns bs₁ sc₂ k e₂ (next_of ls z next) ws₃ ns₃ bs₃ sc₃ r) where
        front₃ : (n : ℕ) → n ≤ d → take n sc₃ ≡ take n sc₁
        front₃ n l =
            take_shorter n e₂.trail sc₂ sc₃ (omega (arith, l, trail₂)) c.path.trail
            ∙ (ap (take n) w ∙ step_front ls z S.sized sc sc₁ long₁ u.rest e s n (omega (arith, l, count, on_the_trail.1)))

        says : out_of ls z ws₃ ns₃ sc₃ r ≡ tried
        says =
            c.says
            ∙ (ap₂ (λ p b. next_of ls z next p (record { lent = lent ws ns k.lengths; best = b; met = tt }))
            (ap₂ (path_of ls z (binds_of bs₁ v)) w a ∙ step_path ls z S.sized sc sc₁ long₁ u.rest e s room chooses d (binds_of bs₁ v))
            (ap (λ xs. best_of ls z xs k.best k.tied) w ∙ step_best ls z S.sized sc sc₁ long₁ u.rest e s room k.best k.tied)
            ∙ sym (ap (λ x. on_yes x (λ C. next_of ls z next (path_after ls z sc e s C)) (world_of ls z ws ns sc k)) yes))

        pub tried_yes : (bs₄ : List ℕ) → bs₄ ≡ undo sc₃ e.trail (d - e.trail) bs₃ → Done ls z ws ns bs sc k e tried ws₃ ns₃ bs₄ sc₃ r
        tried_yes bs₄ b =
            record {
              says = says;
              grown = c.grown;
              binds =
                  b
                  ∙ (ap₂ (λ n xs. undo sc₃ e.trail (n - e.trail) xs) (sym count) c.binds
                  ∙ freed_again sc₃ (front₃ (trail_after e.trail t) (omega (arith, count))));
              path =
                  record {
                    trail = front₃ e.trail (omega (arith, count, on_the_trail.0)) ∙ front₁ e.trail (omega arith);
                    measure =
                        sym (take_part measure_at e.measure e₂.measure sc₃ (longer_measure))
                        ∙ (ap (take e.measure) c.path.measure
                        ∙ (take_part measure_at e.measure e₂.measure sc₂ (longer_measure)
                        ∙ (ap (part measure_at e.measure) w ∙ step_measure ls z S.sized sc sc₁ long₁ u.rest e s room)));
                    choices =
                        sym (take_part choices_at e.choices e₂.choices sc₃ (longer_choices))
                        ∙ (ap (take e.choices) c.path.choices
                        ∙ (take_part choices_at e.choices e₂.choices sc₂ (longer_choices)
                        ∙ (ap (part choices_at e.choices) w ∙ step_choices ls z S.sized sc sc₁ long₁ u.rest e s room)));
                    long = c.path.long ∙ (ap length w ∙ (step_long ls z S.sized sc sc₁ long₁ u.rest e s ∙ u.long));
                  };
            }
          where
            longer_measure : e.measure ≤ e₂.measure
            longer_measure = subst (λ (x : Branch). e.measure ≤ x.measure) (sym a) (measure_longer s d)

            longer_choices : e.choices ≤ e₂.choices
            longer_choices = subst (λ (x : Branch). e.choices ≤ x.choices) (sym a) (choices_longer s d)

  -- the same of the places of a try
  module _ (pairs : Pairs) (bs₁ sc₁ : List ℕ) (t : Found ℕ)
      (u : TriesPairs ws ns k.lengths (unify_pairs (graph_of ws ns k.lengths) pairs (binds_of bs k.lengths.variables)) bs sc e.trail bs₁ sc₁ t) where
    pub attempt_no : t ≡ None → Comes ls z ws ns bs sc k e (trying ls z sc e pairs s next) ws ns bs₁ sc₁ (Missed k)
    unfolding trying
    attempt_no = tried_no _ bs₁ sc₁ t u

    pub attempt_yes : (d : ℕ) → t ≡ Some d → (sc₂ : List ℕ) (e₂ : Branch) → sc₂ ≡ step_words s e sc₁
        → e₂ ≡ branch_after e d s → (ws₃ ns₃ bs₃ sc₃ : List ℕ) (r : Answer)
        → Comes ls z ws ns bs₁ sc₂ k e₂ (next_of ls z next) ws₃ ns₃ bs₃ sc₃ r → (bs₄ : List ℕ) → bs₄ ≡ undo sc₃ e.trail (d - e.trail) bs₃
        → Comes ls z ws ns bs sc k e (trying ls z sc e pairs s next) ws₃ ns₃ bs₄ sc₃ r
    unfolding trying
    attempt_yes = tried_yes _ bs₁ sc₁ t u

  -- the room that the functions called ask for
  module _ (U : Unifies) (bs₁ sc₁ : List ℕ) (t : Found ℕ) (u : TriesPairs ws ns k.lengths U bs sc e.trail bs₁ sc₁ t) where
    pub push_room : (e.measure + added_components s ≤ 256) × (e.choices + added_choices s ≤ 256)
    push_room = room

  -- nothing made equal, and on with a step
  nothing_bound : TriesPairs ws ns k.lengths (yes_with (binds_of bs k.lengths.variables)) bs sc e.trail bs sc (Some e.trail)
  nothing_bound = record { tries = binds_nothing ws ns k.lengths bs (take trail_words sc) e.trail S.ready; rest = refl; long = refl }

  pub went_with : (sc₂ : List ℕ) (e₂ : Branch) → sc₂ ≡ step_words s e sc → e₂ ≡ branch_after e e.trail s → (ws₃ ns₃ bs₃ sc₃ : List ℕ) (r : Answer)
      → Comes ls z ws ns bs sc₂ k e₂ (next_of ls z next) ws₃ ns₃ bs₃ sc₃ r
      → Done ls z ws ns bs sc k e (next_of ls z next (path_after ls z sc e s (binds_of bs k.lengths.variables)) (world_of ls z ws ns sc k)) ws₃ ns₃ bs₃ sc₃ r
  unfolding undo
  went_with sc₂ e₂ w a ws₃ ns₃ bs₃ sc₃ r c =
      tried_yes (yes_with (binds_of bs k.lengths.variables)) bs sc (Some e.trail) nothing_bound e.trail refl sc₂ e₂ w a ws₃ ns₃ bs₃ sc₃ r c bs₃
      (sym (ap (λ n. undo sc₃ e.trail n bs₃) (let q : e.trail - e.trail ≡ 0 = omega arith in q)))
