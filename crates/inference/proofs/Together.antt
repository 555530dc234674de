-- Demand 3: a typing comes with one assignment under which the whole list holds together, and under which each component of its measure is what document
-- 01 says. A call that no check refuses starts the search soundly, with nothing passed; so the incumbent that it ends with is fine; and what is handed out are
-- the incumbent's sorts and measure, and its choices by rising expression number, which are the same choices and give the same names. Assumes nothing.
use mathlib.Core.Path.{◌≡◌, refl, sym, subst, ap, ◌∙◌}
use mathlib.Core.Bool.{Bool, true, false}
use mathlib.Core.List.{List, [], ◌∷◌}
use mathlib.Core.Option.{Option, none, some}
use Prim.Native.Nat.{ℕ, suc, ◌+◌, ◌*◌}
use native.Mathlib.Omega.{arith}
use lib.ListN.{length, get_or}
use lib.Seq.{take-append_seam}
use Rattle.resolved_sort.specs.declared.Sort.{Sort}
use Rattle.resolved_sort.specs.Tree.{Tree}
use Rattle.resolved_sort.specs.Order.{materializable}
use Rattle.resolved_sort.specs.Rows.{AllBelow}
use Rattle.resolved_sort.specs.Entries.{tree_at}
use Rattle.resolved_sort.proofs.Materializable.{materializable_refl}
use Rattle.resolved_sort.proofs.Reached.{no_confusion}
use Rattle.unification.specs.Nodes.{Binds, binds_of}
use Rattle.unification.specs.Making.{Lent, graph}
use Rattle.unification.proofs.Grows.{grows_refl}
use Rattle.unification.proofs.Wider.{nearest_first}
use Rattle.inference.specs.declared.LitKind.{LitKind}
use Rattle.inference.specs.declared.LitKind.TheVariants.{Positive, Natural}
use Rattle.inference.specs.declared.Constraint.{Constraint}
use Rattle.inference.specs.declared.Outputs.{Outputs}
use Rattle.std.specs.Prelude.{Ok}
use Rattle.inference.specs.declared.Verdict.TheVariants.{Typing}
use Rattle.inference.specs.Constraints.{Problem}
use Rattle.inference.specs.Measure.{Components}
use Rattle.inference.specs.Search.{Path, Choice, Candidate, World, Out, found, missed, ended, sort_in, lit_component}
use Rattle.inference.specs.Typing.{Assignment, admits, All, none_left, and_all, Into, Typed, all_typed}
use Rattle.inference.specs.Typing.{and_typed, Meets, meets_sub, meets_lit, meets_join, HoldsTogether}
use Rattle.inference.specs.Components.{Widened, equal_to, wider_by, Heads, no_heads, and_head, Sequence}
use Rattle.inference.specs.Components.{no_source, and_source, Costs, sub_costs, lit_costs, disjunction_costs}
use Rattle.inference.specs.Components.{comprehension_costs, agreed_costs, sequence_costs, Costing}
use Rattle.inference.specs.Components.{nothing_costs, and_costs}
use Rattle.inference.specs.SolveChecks.{Call}
use Rattle.inference.specs.Names.{name_of, name_kind, name_sort}
use Rattle.inference.specs.SolveEntry.{problem_of, base_names_of, start_path, lent_of, searched, SolveLeft}
use Rattle.inference.specs.SolveEntry.{counts_in, judged, judged_by, verdict, nothing_met, solve_entry, sorts_out}
use Rattle.inference.specs.SolveEntry.{measure_out, choices_out}
use Rattle.inference.proofs.Members.{length_rows}
use Rattle.inference.proofs.Invariant.{Cost, Fine, FineBest, Leaves}
use Rattle.inference.proofs.HandedOut.{sort_row, kind_row, name_row, rows_are}
use Rattle.inference.specs.Rising.{rising}
use Rattle.inference.proofs.Branches.{Goes}
use Rattle.inference.proofs.Choices.{Fits, FitsBest, Fitting, search_fits, told_is_read, told_names, told_has_exactly, names_and_choices}
use Rattle.inference.proofs.Accepted.{Accepted, refused_or_searched}
use Rattle.inference.proofs.Steps.{solve_goes, more_choices}
use Rattle.inference.specs.Explained.{Explained}

-- what is met at a cost is met
pub widened_materializes : (s t : Tree) (n : ℕ) → Widened s t n → materializable s t ≡ true
widened_materializes s _ _ equal_to = materializable_refl s
widened_materializes s _ _ (wider_by t i m) = ((nearest_first true s t i).0 m).0

pub admitted : (kind : LitKind) (s : Sort) (g : ℕ) → lit_component kind s ≡ some g → admits kind s ≡ true
unfolding lit_component
admitted Positive Sort.Bool g e = no_confusion cc
admitted Natural Sort.Bool g e = no_confusion cc
admitted Positive Sort.Pos g e = refl
admitted Natural Sort.Pos g e = no_confusion cc
admitted Positive Sort.Nat g e = refl
admitted Natural Sort.Nat g e = refl
admitted Positive Sort.Int g e = refl
admitted Natural Sort.Int g e = refl
admitted Positive Sort.Real g e = refl
admitted Natural Sort.Real g e = refl

module _ (W₀ : Lent) (B₀ : Binds) (P : Problem) (ch : List Choice) (ρ : Assignment) where
  heads_into : (t : Tree) (ps : List ℕ) (ss : List Tree) (ns : Components) → Heads (graph W₀) ρ t ps ss ns → All (Into (graph W₀) ρ t) ps
  heads_into t _ _ _ no_heads = none_left
  heads_into t _ _ _ (and_head p s d ps ss ns h m e x) = and_all p ps (record { sort = s; has = h; into = m }) (heads_into t ps ss ns x)

  sequence_into : (t : Tree) (ps : List ℕ) (ns : Components) → Sequence (graph W₀) ρ t ps ns → All (Into (graph W₀) ρ t) ps
  sequence_into t _ _ no_source = none_left
  sequence_into t _ _ (and_source p s n ps ns h w x) = and_all p ps
      (record { sort = s; has = h; into = widened_materializes s t n w }) (sequence_into t ps ns x)

  costs_meet : (c : Constraint) (ns : Components) → Costs (graph W₀) (sort_in W₀) P ch ρ c ns → Meets (graph W₀) (sort_in W₀) P ch ρ c
  costs_meet _ _ (sub_costs l r s t n h g w) = meets_sub l r t g (record { sort = s; has = h; into = widened_materializes s t n w })
  costs_meet _ _ (lit_costs p kind s g h e) = meets_lit p kind s h (admitted kind s g e)
  costs_meet _ _ (disjunction_costs x p run m) = m
  costs_meet _ _ (comprehension_costs b n e m) = m
  costs_meet _ _ (agreed_costs run t s u us ns h g j) = meets_join run t u h (heads_into u _ (s ∷ us) ns g)
  costs_meet _ _ (sequence_costs run t u ns h q) = meets_join run t u h (sequence_into u _ ns q)

  all_met : (cs : List Constraint) (ns : Components) → Cost W₀ B₀ P ch ρ cs ns → All (Meets (graph W₀) (sort_in W₀) P ch ρ) cs
  all_met _ _ nothing_costs = none_left
  all_met _ _ (and_costs c cs ns ms x y) = and_all c cs (costs_meet c ns x) (all_met cs ms y)

-- as many sorts as places
pub typed_long : (W₀ : Lent) (look : ℕ → Tree) (ρ : Assignment) (ps ss : List ℕ) → Typed (graph W₀) look ρ ps ss → length ss ≡ length ps
typed_long W₀ look ρ _ _ all_typed = refl
typed_long W₀ look ρ _ _ (and_typed p s ps ss h t) = ap suc (typed_long W₀ look ρ ps ss t)

module _ (I : Call) where
  abbrev pub W₀ : Lent
  W₀ = lent_of I

  abbrev pub B₀ : Binds
  B₀ = binds_of I.binds I.lengths.variables

  abbrev pub P : Problem
  P = problem_of I

  -- The search of a call that is accepted leaves a fine incumbent.
  pub search_leaves : Accepted I → (Met : Type 0) (meet : Path → Lent → Met → Met) (m : Met) → Leaves W₀ B₀ P Met W₀ (searched Met meet m I)
  unfolding FineBest
  search_leaves A Met meet m =
      solve_goes W₀ B₀ P A.ready.nodes A.six Met meet A.default A.exprs P.constraints [] refl
      A.constraints (start_path I) (record { lent = W₀; best = none; met = m })
      (record { grown = grows_refl W₀ A.ready.nodes; binds = A.ready.binds; refines = λ σ r. r; costs = λ ρ r. nothing_costs }) tt

  -- what a search of an accepted call keeps: a fine incumbent, with a choice for each disjunction
  pub record Held (W : Lent) (c : Candidate) : Type 0 where
    pub fine : Fine W₀ B₀ P W c
    pub fits : Fits P P.constraints c

  unfoldable pub HeldBest : Lent → Option Candidate → Type 0
  HeldBest W none = Unit {0}
  HeldBest W (some c) = Held W c

  unfoldable pub HeldAtEnd : {Met : Type 0} → Out Met → Type 0
  HeldAtEnd (found w) = HeldBest w.lent w.best
  HeldAtEnd (missed w) = HeldBest w.lent w.best
  HeldAtEnd (ended c W) = Unit {0}

  pub search_holds : Accepted I → (Met : Type 0) (meet : Path → Lent → Met → Met) (m : Met) → HeldAtEnd (searched Met meet m I)
  unfolding HeldAtEnd HeldBest FineBest FitsBest Leaves Goes
  search_holds A Met meet m =
      go (searched Met meet m I) (search_leaves A Met meet m) (search_fits Met meet P P.constraints B₀ w)
    where
      w : World Met
      w = record { lent = W₀; best = none; met = m }

      best : (W : Lent) (b : Option Candidate) → FineBest W₀ B₀ P W b → FitsBest P P.constraints b → HeldBest W b
      best W none f g = tt
      best W (some c) f g = record { fine = f; fits = g }

      go : (o : Out Met) → Leaves W₀ B₀ P Met W₀ o → Goes (Fitting Met meet P P.constraints) w o → HeldAtEnd o
      go (found v) l g = best v.lent v.best l.best (g tt)
      go (missed v) l g = best v.lent v.best l.best (g tt)
      go (ended c W) l g = tt

  -- What is handed out of a candidate: its sorts and measure; its choices are `told_is_read`.
  pub hands_out_candidate : (W : Lent) (c : Candidate) → Fine W₀ B₀ P W c → (o : Outputs) → (judged_by I W c false).answer ≡ Ok (Typing o)
      → (sorts_out I (judged_by I W c false) ≡ c.sorts) × (measure_out (judged_by I W c false) o ≡ c.measure)
  hands_out_candidate W c f o e =
      let L : SolveLeft = judged_by I W c false in
      let q : o ≡ record { counts = counts_in W; components = length c.measure; choices = length c.choices } = cc in
      let many : length c.sorts ≡ I.rows.exprs = typed_long W₀ (sort_in W) f.assignment P.exprs c.sorts
      f.typed ∙ length_rows (λ i. get_or I.exprs i 0) 0 I.rows.exprs in (
        rows_are 0 c.sorts (λ i. get_or L.typing (3 * i) 0) 0 I.rows.exprs (sym many)
            (λ j l. ap (λ (i : ℕ). get_or L.typing i 0) (omega arith) ∙ sort_row P (base_names_of I) c.choices 0 c.sorts _ j l),
        ap (λ (z : Outputs). measure_out L z) q ∙ take-append_seam c.measure _,
      )

  module _ (A : Accepted I) where
    explained : (W : Lent) (c : Candidate) → Held W c → (o : Outputs) → (judged_by I W c false).answer ≡ Ok (Typing o)
        → Explained I (judged_by I W c false) o
    explained W c held o e =
        let f = held.fine in
        let L : SolveLeft = judged_by I W c false in
        let bs = base_names_of I in
        let q : o ≡ record { counts = counts_in W; components = length c.measure; choices = length c.choices } = cc in
        let x : o.counts.sorts ≡ W.lengths.sorts = ap (λ (z : Outputs). z.counts.sorts) q in
        let many : length c.sorts ≡ I.rows.exprs = typed_long W₀ (sort_in W) f.assignment P.exprs c.sorts
        f.typed ∙ length_rows (λ i. get_or I.exprs i 0) 0 I.rows.exprs in
        let h = hands_out_candidate W c f o e in
        let ss : sorts_out I L ≡ c.sorts = h.0 in
        let ms : measure_out L o ≡ c.measure = h.1 in
        let ks : choices_out L o ≡ rising P c.choices = told_is_read I A c held.fits W o e in
        let names = told_names I A c held.fits in
        let costs = more_choices W₀ B₀ P c.choices (rising P c.choices) (λ k. (told_has_exactly I A c held.fits k).1) f.assignment
        P.constraints c.measure f.costs in
        record {
          assignment = f.assignment;
          bound = λ v p r. sym (f.respects v p r);
          typed =
              subst (λ (n : ℕ). Typed (graph W₀) (tree_at W.sorts n) f.assignment P.exprs (sorts_out I L)) (sym x)
              (subst (λ zs. Typed (graph W₀) (sort_in W) f.assignment P.exprs zs) (sym ss) f.typed);
          listed = subst (λ (n : ℕ). AllBelow n (sorts_out I L)) (sym x) (subst (AllBelow W.lengths.sorts) (sym ss) f.numbers);
          components =
              subst (λ ns. Costing (graph W₀) (sort_in W₀) P (choices_out L o) f.assignment P.constraints ns) (sym ms)
              (subst (λ zs. Costing (graph W₀) (sort_in W₀) P zs f.assignment P.constraints c.measure) (sym ks) costs);
          names =
              λ y l. subst (λ zs. (get_or L.typing (3 * y + 1) 0 ≡ name_kind (name_of P bs zs y)) ×
              (get_or L.typing (3 * y + 2) 0 ≡ name_sort (name_of P bs zs y))) (sym ks) (
                kind_row P bs c.choices 0 c.sorts _ y (omega (arith, l, many)) ∙ ap name_kind (ap (name_of P bs c.choices) (omega arith) ∙ sym (names y)),
                name_row P bs c.choices 0 c.sorts _ y (omega (arith, l, many)) ∙ ap name_sort (ap (name_of P bs c.choices) (omega arith) ∙ sym (names y)),
              );
        }

    by_candidate : (W : Lent) (c : Candidate) → Held W c → (o : Outputs) (b : Bool)
        → (judged_by I W c b).answer ≡ Ok (Typing o) → Explained I (judged_by I W c b) o
    by_candidate W c f o true e = no_confusion cc
    by_candidate W c f o false e = explained W c f o e

    by_best : (W : Lent) (b : Option Candidate) → HeldBest W b → (o : Outputs) → (judged I W b).answer ≡ Ok (Typing o) → Explained I (judged I W b) o
    unfolding HeldBest
    by_best W none f o e = no_confusion cc
    by_best W (some c) f o e = by_candidate W c f o c.duplicate e

    by_verdict : (O : Out (Unit {0})) → HeldAtEnd O → (o : Outputs) → (verdict I O).answer ≡ Ok (Typing o) → Explained I (verdict I O) o
    unfolding HeldAtEnd
    by_verdict (found w) l o e = by_best w.lent w.best l o e
    by_verdict (missed w) l o e = by_best w.lent w.best l o e
    by_verdict (ended d W) l o e = no_confusion cc

  -- Every typing is explained: no premise but code 0.
  pub every_typing_is_explained : (o : Outputs) → (solve_entry I).answer ≡ Ok (Typing o) → Explained I (solve_entry I) o
  every_typing_is_explained o =
      refused_or_searched I (λ L. L.answer ≡ Ok (Typing o) → Explained I L o) (λ c l e. no_confusion cc)
      (λ A. by_verdict A (searched (Unit {0}) nothing_met tt I) (search_holds A (Unit {0}) nothing_met tt) o)

  -- Demand 3.
  pub typing_holds_together : (o : Outputs) → (solve_entry I).answer ≡ Ok (Typing o)
      → HoldsTogether (graph W₀) (sort_in W₀) (tree_at (solve_entry I).sorts o.counts.sorts) o.counts.sorts B₀ P
      (sorts_out I (solve_entry I)) (choices_out (solve_entry I) o)
  typing_holds_together o e =
      let x = every_typing_is_explained o e in
      record {
        assignment = x.assignment;
        bound = x.bound;
        typed = x.typed;
        listed = x.listed;
        meets = all_met W₀ B₀ P (choices_out (solve_entry I) o) x.assignment P.constraints (measure_out (solve_entry I) o) x.components;
        once = (names_and_choices I o e).once;
      }
