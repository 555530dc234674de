-- A Join, as its code goes: the sort on which its sources agree first, and where that finds nothing one source after another as widenings. By one branch
-- after another; the head distances are written behind the branch's own words. Assumes nothing.
use mathlib.Core.Path.{◌≡◌, refl, sym, ap, ◌∙◌, subst}
use mathlib.Core.Bool.{Bool, cond}
use mathlib.Core.Option.{some}
use mathlib.Core.Option.{none}
use mathlib.Core.List.{List, [], ◌∷◌}
use Prim.Native.Nat.{ℕ, ◌+◌, ◌-◌, ◌<◌, ◌≤◌}
use native.Mathlib.Omega.{arith}
use Rattle.unification.specs.declared.InferSortId.{InferSortId}
use Rattle.unification.specs.declared.Lengths.{Lengths}
use Rattle.unification.specs.Nodes.{binds_of}
use Rattle.unification.specs.Checked.{Placed}
use Rattle.unification.specs.Making.{Lent}
use Rattle.unification.specs.Inner.Making.{lent}
use Rattle.unification.specs.Growing.{PlacedIn, Grows}
use Rattle.unification.proofs.Grows.{placed_grown}
use Rattle.inference.specs.Constraints.{Problem, rows_from, max_components}
use Rattle.inference.specs.Search.{Path, World, Out, Going, Agreed, join_of, on_made, else_try, unifying, widening, sequence, joining, with_components}
use Rattle.inference.specs.SolveEntry.{nothing_met}
use Rattle.inference.specs.Typing.{All, and_all}
use Rattle.inference.specs.Inner.Listed.{SortsOnly}
use Rattle.inference.proofs.Invariant.{still_placed}
use Rattle.search_state.specs.declared.Sizes.{Sizes}
use Rattle.search_state.specs.Inner.States.{State}
use Rattle.search_state.specs.declared.Branch.{Branch}
use Rattle.search_state.specs.Inner.States.{Answer}
use Rattle.search_state.specs.Inner.States.{Missed, Full}
use Rattle.resolved_sort.specs.declared.Run.{Run}
use Rattle.resolved_sort.specs.declared.SortId.{SortId}
use Rattle.resolved_sort.specs.declared.NoRoom.{NoRoom}
use Rattle.std.specs.Prelude.{Option, Some, None, Result, Ok, Err}
use Rattle.inference.proofs.MakingSorts.{MadeSorts, Agree, join_of_makes}
use Rattle.search_state.specs.declared.Next.TheVariants.{Solve, Source}
use Rattle.search_state.specs.declared.Pairs.TheVariants.{One}
use Rattle.search_state.specs.declared.Step.TheVariants.{Written}
use Rattle.search_state.specs.Inner.Memory.{problem_in, source_at, chosen_exprs, choices_of, trail_words, best_sorts_at}
use Rattle.search_state.specs.Inner.Memory.{measure_at, best_measure_at, choices_at, best_choices_at, path_of, candidate_of}
use Rattle.search_state.specs.Inner.Memory.{best_of, world_of, solve_from, next_of}
use Rattle.words.specs.Words.{part}
use Rattle.search_state.specs.Inner.Leaves.{ChangedOnly, unify_pairs, PairsPlaced, path_after, agreement_of, AgreesOn, with_lengths}
use Rattle.search_state.specs.Inner.Searching.{Sized, Searching, SourcesFine, SamePath, Done, Comes, trying}
use Rattle.search_state.proofs.Parts.{part_before, part_after, take_unchanged}
use Rattle.search_state.proofs.After.{searching_grown, done_as, done_after, same_path, or_stops, or_comes, grown_missed}
use Rattle.solver.proofs.Ways.{sort_placed, after_missed}
use Rattle.inference.proofs.Members.{rows_one_left, rows_none_left}

-- Where only words behind the measure changed, branch and incumbent are the same.
module _ (ls : List ℕ) (z : Sizes) (few : Sized (problem_in ls z) z) (sc sc₁ : List ℕ) (e : Branch) (n : ℕ)
    (t : e.trail ≤ trail_words) (l : e.measure + n ≤ max_components)
    (h : ChangedOnly (measure_at + e.measure) (measure_at + e.measure + n) sc sc₁) where
  behind_measure : SamePath e sc sc₁
  behind_measure =
      record {
        trail = take_unchanged (measure_at + e.measure) (measure_at + e.measure + n) sc sc₁ h e.trail (omega (arith, t));
        measure = part_before (measure_at + e.measure) (measure_at + e.measure + n) sc sc₁ h measure_at e.measure (omega arith);
        choices = part_after (measure_at + e.measure) (measure_at + e.measure + n) sc sc₁ h choices_at e.choices (omega (arith, l));
        long = h.long;
      }

  best_behind_measure : (b d : Bool) → best_of ls z sc₁ b d ≡ best_of ls z sc b d
  unfolding best_of candidate_of
  best_behind_measure b d =
      λ i. cond b
      (some
      (record {
        measure = part_after (measure_at + e.measure) (measure_at + e.measure + n) sc sc₁ h best_measure_at z.components (omega (arith, l)) i;
        sorts = part_before (measure_at + e.measure) (measure_at + e.measure + n) sc sc₁ h best_sorts_at z.exprs (omega (arith, few.exprs)) i;
        choices = choices_of (chosen_exprs ls z) (part_after (measure_at + e.measure) (measure_at + e.measure + n) sc
            sc₁ h best_choices_at z.disjunctions (omega (arith, l)) i);
        duplicate = d;
      })) none

module _ (ls : List ℕ) (z : Sizes) (ws ns bs sc : List ℕ) (k : State) (e : Branch) (run : Run) (t : InferSortId)
    (i : ℕ) (S : Searching ws ns bs sc ls z k e run.count [] (Solve i))
    (F : SourcesFine (lent ws ns k.lengths) ls z t.0 run.start (run.start + run.count)) where
  abbrev P : Problem
  P = problem_in ls z

  abbrev W : Lent
  W = lent ws ns k.lengths

  abbrev path : Path
  path = path_of ls z (binds_of bs k.lengths.variables) sc e

  abbrev w : World (Unit {0})
  w = world_of ls z ws ns sc k

  abbrev ps : List ℕ
  ps = rows_from (source_at ls) run.start run.count

  abbrev seq : Going (Unit {0}) nothing_met P
  seq = sequence (Unit {0}) nothing_met P ps t.0 (solve_from ls z i)

  abbrev goal : Going (Unit {0}) nothing_met P
  goal = joining (Unit {0}) nothing_met P ps t.0 (solve_from ls z i)

  -- so many sources from the start on
  counted : rows_from (source_at ls) run.start (run.start + run.count - run.start) ≡ ps
  counted = ap (rows_from (source_at ls) run.start) (let q : run.start + run.count - run.start ≡ run.count = omega arith in q)

  abbrev seq_from : Going (Unit {0}) nothing_met P
  seq_from = sequence (Unit {0}) nothing_met P (rows_from (source_at ls) run.start (run.start + run.count - run.start)) t.0 (solve_from ls z i)

  seq_same : seq_from ≡ seq
  seq_same = ap (λ xs. sequence (Unit {0}) nothing_met P xs t.0 (solve_from ls z i)) counted

  all_placed : All (PlacedIn W) ps
  all_placed = subst (All (PlacedIn W)) counted F.placed

  room : e.measure + run.count ≤ max_components
  room = omega (arith, S.measure, S.sized.few_components)

  -- the sources in turn, after the components that they cost
  in_turn : (ws' ns' bs' sc' : List ℕ) (k' : State) → Searching ws' ns' bs' sc' ls z k' e run.count [] (Solve i)
      → SourcesFine (lent ws' ns' k'.lengths) ls z t.0 run.start (run.start + run.count)
      → Searching ws' ns' bs' sc' ls z k' e 0 [] (Source t run.start (run.start + run.count) i)
  in_turn ws' ns' bs' sc' k' s f =
      record {
        ready = s.ready;
        suits = s.suits;
        sized = s.sized;
        long = s.long;
        trail = s.trail;
        fine = (s.fine, f);
        measure = omega (arith, s.measure);
        choices = s.choices;
        few = s.few;
      }

  module _ (ws₁ sc₁ : List ℕ) (x : Lengths) (m : Result (Option SortId) NoRoom)
      (A : AgreesOn ns sc e run.count (join_of (binds_of bs k.lengths.variables) ps W) ws₁ sc₁ x m) where
    same_words : SamePath e sc sc₁
    same_words = behind_measure ls z S.sized sc sc₁ e run.count (omega (arith, S.trail)) room A.changed

    best_same : best_of ls z sc₁ k.best k.tied ≡ best_of ls z sc k.best k.tied
    best_same = best_behind_measure ls z S.sized sc sc₁ e run.count (omega (arith, S.trail)) room A.changed k.best k.tied

    makes : MadeSorts (Agree W (binds_of bs k.lengths.variables) ps) (Unit {0}) W (agreement_of ws₁ ns sc₁ e run.count x m)
    makes = subst (MadeSorts (Agree W (binds_of bs k.lengths.variables) ps) (Unit {0}) W) (sym A.says)
        (join_of_makes W S.ready.nodes (binds_of bs k.lengths.variables) S.ready.binds ps all_placed)

    -- by what was agreed on
    abbrev after : Agreed → World (Unit {0}) → Out (Unit {0})
    after a v = else_try (unifying path.binds t.0 a.sort (λ C. solve_from ls z i (with_components path a.components C)) v) (seq path)

    by_agreement : on_made (agreement_of ws₁ ns sc₁ e run.count x m) after (seq path) w ≡ goal path w
    unfolding joining
    by_agreement = ap (λ y. on_made y after (seq path) w) A.says

    -- what is done after the sources were looked at, from the start
    module _ (only : SortsOnly W (lent ws₁ ns x)) (k₁ : State) (u : k₁ ≡ with_lengths k x) where
      grown : SortsOnly W (lent ws₁ ns k₁.lengths)
      grown = subst (λ (y : State). SortsOnly W (lent ws₁ ns y.lengths)) (sym u) only

      pub join_asked : Searching ws₁ ns bs sc₁ ls z k₁ e run.count [] (Solve i)
      join_asked = searching_grown ls z ws ns bs sc k e run.count [] (Solve i) S ws₁ ns bs sc₁ k₁ grown.grows refl same_words.long

      same_path₁ : path_of ls z (binds_of bs k₁.lengths.variables) sc₁ e ≡ path
      same_path₁ = same_path ls z ws ns bs sc k e S.ready.nodes ws₁ ns bs sc₁ k₁ grown refl same_words

      same_world₁ : world_of ls z ws₁ ns sc₁ k₁ ≡ record { lent = lent ws₁ ns x; best = w.best; met = tt }
      same_world₁ = ap (world_of ls z ws₁ ns sc₁) u ∙ ap (λ o. record { lent = lent ws₁ ns x; best = o; met = tt }) best_same

      from_start : (O : Out (Unit {0})) (ws₂ ns₂ bs₂ sc₂ : List ℕ) (r : Answer) → Done ls z ws₁ ns bs sc₁ k₁ e O ws₂
          ns₂ bs₂ sc₂ r → O ≡ goal path w → Comes ls z ws ns bs sc k e goal ws₂ ns₂ bs₂ sc₂ r
      from_start O ws₂ ns₂ bs₂ sc₂ r d q =
          done_as ls z ws ns bs sc k e S.ready.nodes O (goal path w) ws₂ ns₂ bs₂ sc₂ r q
          (done_after ls z ws ns bs sc k e S.ready.nodes ws₁ ns bs sc₁ k₁ grown refl same_words O ws₂ ns₂ bs₂ sc₂ r d)

      -- the sources in turn are asked for
      seq_fine : SourcesFine (lent ws₁ ns k₁.lengths) ls z t.0 run.start (run.start + run.count)
      seq_fine = record {
        ordered = F.ordered;
        inside = F.inside;
        target = placed_grown W S.ready.nodes
            (lent ws₁ ns k₁.lengths) grown.grows t.0 F.target;
        placed = still_placed W S.ready.nodes
            (lent ws₁ ns k₁.lengths) grown.grows _ F.placed;
      }

    module _ (q : m ≡ Ok None) (k₁ : State) (u : k₁ ≡ with_lengths k x) where
      only_none : SortsOnly W (lent ws₁ ns x)
      unfolding MadeSorts
      only_none = (subst (λ y. MadeSorts (Agree W (binds_of bs k.lengths.variables) ps) (Unit {0}) W (agreement_of ws₁ ns sc₁ e run.count x y)) q makes).0

      pub none_asked : Searching ws₁ ns bs sc₁ ls z k₁ e 0 [] (Source t run.start (run.start + run.count) i)
      none_asked = in_turn ws₁ ns bs sc₁ k₁ (join_asked only_none k₁ u) (seq_fine only_none k₁ u)

      pub join_none : (ws₂ ns₂ bs₂ sc₂ : List ℕ) (r : Answer) → Comes ls z ws₁ ns bs sc₁ k₁ e seq_from ws₂ ns₂ bs₂ sc₂
          r → Comes ls z ws ns bs sc k e goal ws₂ ns₂ bs₂ sc₂ r
      join_none ws₂ ns₂ bs₂ sc₂ r d =
          from_start only_none k₁ u _ ws₂ ns₂ bs₂ sc₂ r d
          ((λ j. seq_same j (same_path₁ only_none k₁ u j) (same_world₁ only_none k₁ u j)) ∙
          (sym (ap (λ y. on_made (agreement_of ws₁ ns sc₁ e run.count x y) after (seq path) w) q) ∙ by_agreement))

    pub join_full : (n : NoRoom) → m ≡ Err n → Comes ls z ws ns bs sc k e goal ws₁ ns bs sc₁ (Full 15 x)
    unfolding MadeSorts
    join_full n q =
        record {
          says = sym (ap (λ y. on_made (agreement_of ws₁ ns sc₁ e run.count x y) after (seq path) w) q) ∙ by_agreement;
          grown = (subst (λ y. MadeSorts (Agree W (binds_of bs k.lengths.variables) ps) (Unit {0}) W
              (agreement_of ws₁ ns sc₁ e run.count x y)) q makes).0.grows;
          binds = refl;
          path = same_words;
        }

    module _ (s : SortId) (q : m ≡ Ok (Some s)) (k₁ : State) (u : k₁ ≡ with_lengths k x) where
      made_so : SortsOnly W (lent ws₁ ns x) × Agree W (binds_of bs k.lengths.variables) ps (lent ws₁ ns x)
          (record { sort = s.0; components = part (measure_at + e.measure) run.count sc₁ })
      unfolding MadeSorts
      made_so = subst (λ y. MadeSorts (Agree W (binds_of bs k.lengths.variables) ps) (Unit {0}) W (agreement_of ws₁ ns sc₁ e run.count x y)) q makes

      abbrev only : SortsOnly W (lent ws₁ ns x)
      only = made_so.0

      pub lub_asked : Searching ws₁ ns bs sc₁ ls z k₁ e run.count [] (Solve i)
      lub_asked = join_asked only k₁ u

      pub lub_placed : PairsPlaced k₁.lengths (One t (record { 0 = s.0 }))
      lub_placed = (
        (seq_fine only k₁ u).target,
        sort_placed k₁.lengths lub_asked.ready.nodes.sorts.sorts s.0
            (subst (λ (y : State). s.0 < y.lengths.sorts) (sym u) made_so.1.agreed.number),
      )

      module _ (ws₂ ns₂ bs₂ sc₂ : List ℕ) (r : Answer) (d : Comes ls z ws₁ ns bs sc₁ k₁ e (trying ls z sc₁ e
          (One t (record { 0 = s.0 })) (Written run.count) (Solve i)) ws₂ ns₂ bs₂ sc₂ r) where
        abbrev path₁ : Path
        path₁ = path_of ls z (binds_of bs k₁.lengths.variables) sc₁ e

        abbrev w₁ : World (Unit {0})
        w₁ = world_of ls z ws₁ ns sc₁ k₁

        abbrev first : Out (Unit {0})
        first = trying ls z sc₁ e (One t (record { 0 = s.0 })) (Written run.count) (Solve i) path₁ w₁

        to_or : else_try first (seq_from path₁) ≡ goal path w
        unfolding trying unify_pairs unifying path_after next_of
        to_or =
            (λ j. else_try
            (unifying (same_path₁ only k₁ u j).binds t.0 s.0 (λ C. solve_from ls z i
            (with_components (same_path₁ only k₁ u j) (part (measure_at + e.measure) run.count sc₁) C))
            (same_world₁ only k₁ u j))
            (seq_same j (same_path₁ only k₁ u j)))
            ∙ (sym (ap (λ y. on_made (agreement_of ws₁ ns sc₁ e run.count x y) after (seq path) w) q) ∙ by_agreement)

        pub join_stop : ((y : State) → r ≡ Missed y → ⊥) → Comes ls z ws ns bs sc k e goal ws₂ ns₂ bs₂ sc₂ r
        join_stop n = from_start only k₁ u _ ws₂ ns₂ bs₂ sc₂ r (or_stops ls z ws₁ ns bs sc₁ k₁ e
            lub_asked.ready.nodes first ws₂ ns₂ bs₂ sc₂ r d (seq_from path₁) n) to_or

        module _ (k₂ : State) (v : r ≡ Missed k₂) where
          grown₂ : Grows (lent ws₁ ns k₁.lengths) (lent ws₂ ns₂ k₂.lengths)
          grown₂ = (grown_missed ls z ws₁ ns bs sc₁ k₁ e lub_asked.ready.nodes first ws₂ ns₂ bs₂ sc₂ r d k₂ v).grows

          pub seq_asked : Searching ws₂ ns₂ bs₂ sc₂ ls z k₂ e 0 [] (Source t run.start (run.start + run.count) i)
          seq_asked =
              in_turn ws₂ ns₂ bs₂ sc₂ k₂ (after_missed ls z ws₁ ns bs sc₁ k₁ e run.count [] (Solve i) lub_asked first ws₂ ns₂ bs₂ sc₂ r d k₂ v)
              (record {
                ordered = F.ordered;
                inside = F.inside;
                target = placed_grown (lent ws₁ ns k₁.lengths) lub_asked.ready.nodes
                    (lent ws₂ ns₂ k₂.lengths) grown₂ t.0 (seq_fine only k₁ u).target;
                placed = still_placed (lent ws₁ ns k₁.lengths) lub_asked.ready.nodes
                    (lent ws₂ ns₂ k₂.lengths) grown₂ _ (seq_fine only k₁ u).placed;
              })

          pub join_next : (ws₃ ns₃ bs₃ sc₃ : List ℕ) (a : Answer) → Comes ls z ws₂ ns₂ bs₂ sc₂ k₂ e seq_from ws₃ ns₃
              bs₃ sc₃ a → Comes ls z ws ns bs sc k e goal ws₃ ns₃ bs₃ sc₃ a
          join_next ws₃ ns₃ bs₃ sc₃ a y =
              from_start only k₁ u _ ws₃ ns₃ bs₃ sc₃ a (or_comes ls z ws₁ ns bs sc₁ k₁ e lub_asked.ready.nodes
              first ws₂ ns₂ bs₂ sc₂ r d seq_from k₂ v ws₃ ns₃ bs₃ sc₃ a y) to_or

-- One source after another.
module _ (ls : List ℕ) (z : Sizes) (ws ns bs sc : List ℕ) (k : State) (e : Branch) (t : InferSortId) (j n i : ℕ)
    (S : Searching ws ns bs sc ls z k e 0 [] (Source t j n i)) where
  abbrev all : Going (Unit {0}) nothing_met (problem_in ls z)
  all = sequence (Unit {0}) nothing_met (problem_in ls z) (rows_from (source_at ls) j (n - j)) t.0 (solve_from ls z i)

  pub seq_done : n ≤ j → (ws₁ ns₁ bs₁ sc₁ : List ℕ) (r : Answer) → Comes ls z ws ns bs sc k e (solve_from ls z i) ws₁
      ns₁ bs₁ sc₁ r → Comes ls z ws ns bs sc k e all ws₁ ns₁ bs₁ sc₁ r
  unfolding sequence
  seq_done l ws₁ ns₁ bs₁ sc₁ r d =
      subst (λ xs. Comes ls z ws ns bs sc k e (sequence (Unit {0}) nothing_met (problem_in ls z) xs t.0
      (solve_from ls z i)) ws₁ ns₁ bs₁ sc₁ r) (sym (rows_none_left (source_at ls) n j l)) d

  module _ (l : j < n) (s : InferSortId) (q : s.0 ≡ source_at ls j) where
    first_and_rest : PlacedIn (lent ws ns k.lengths) (source_at ls j) × All (PlacedIn (lent ws ns k.lengths))
        (rows_from (source_at ls) (j + 1) (n - (j + 1)))
    first_and_rest = both (subst (All (PlacedIn (lent ws ns k.lengths))) (rows_one_left (source_at ls) n j l) S.fine.1.placed)
      where
        both : All (PlacedIn (lent ws ns k.lengths)) (source_at ls j ∷ rows_from (source_at ls) (j + 1) (n - (j + 1)))
            → PlacedIn (lent ws ns k.lengths) (source_at ls j) × All (PlacedIn (lent ws ns k.lengths)) (rows_from (source_at ls) (j + 1) (n - (j + 1)))
        both (and_all _ _ x y) = (x, y)

    pub source_placed : Placed k.lengths s.0 × Placed k.lengths t.0
    source_placed = (subst (Placed k.lengths) (sym q) first_and_rest.0, S.fine.1.target)

    pub source_asked : Searching ws ns bs sc ls z k e 1 [] (Source t (j + 1) n i)
    source_asked =
        record {
          ready = S.ready;
          suits = S.suits;
          sized = S.sized;
          long = S.long;
          trail = S.trail;
          fine = (S.fine.0, record { ordered = omega (arith, l); inside = S.fine.1.inside; target = S.fine.1.target; placed = first_and_rest.1 });
          measure = omega (arith, S.measure, l);
          choices = S.choices;
          few = S.few;
        }

    pub seq_more : (ws₁ ns₁ bs₁ sc₁ : List ℕ) (r : Answer)
        → Comes ls z ws ns bs sc k e (widening (Unit {0}) nothing_met (problem_in ls z) s.0 t.0
        (next_of ls z (Source t (j + 1) n i))) ws₁ ns₁ bs₁ sc₁ r
        → Comes ls z ws ns bs sc k e all ws₁ ns₁ bs₁ sc₁ r
    unfolding sequence next_of
    seq_more ws₁ ns₁ bs₁ sc₁ r d =
        subst (λ xs. Comes ls z ws ns bs sc k e (sequence (Unit {0}) nothing_met (problem_in ls z) xs t.0
        (solve_from ls z i)) ws₁ ns₁ bs₁ sc₁ r) (sym (rows_one_left (source_at ls) n j l))
        (subst (λ p. Comes ls z ws ns bs sc k e (widening (Unit {0}) nothing_met (problem_in ls z) p t.0
        (sequence (Unit {0}) nothing_met (problem_in ls z) (rows_from (source_at ls) (j + 1) (n - (j + 1))) t.0
        (solve_from ls z i))) ws₁ ns₁ bs₁ sc₁ r) q d)
