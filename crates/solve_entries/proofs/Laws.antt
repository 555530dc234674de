-- The entry, as its code goes: a call that a check refuses is left as it is; one that passes begins the search with nothing, and what is left after the search
-- is the defined outcome. Assumes nothing.
use mathlib.Core.Path.{◌≡◌, refl, sym, ap, ◌∙◌, subst}
use mathlib.Core.Bool.{Bool}
use mathlib.Core.List.{List, []}
use Prim.Native.Nat.{ℕ, ◌*◌, ◌≤◌}
use lib.ListN.{length, replicate, length-replicate}
use Rattle.std.specs.Prelude.{Result, Ok, Err, IsErrAnd}
use Rattle.resolved_sort.specs.declared.Refusal.{Refusal}
use Rattle.resolved_sort.specs.Checks.{Tested, first_failing}
use Rattle.resolved_sort.specs.Storage.{max_sorts}
use Rattle.resolved_sort.specs.Index.{slots}
use Rattle.unification.specs.declared.Full.{Full}
use Rattle.unification.specs.declared.Lengths.{Lengths}
use Rattle.unification.specs.Full.{refusal_of}
use Rattle.unification.specs.Nodes.{binds_of}
use Rattle.inference.specs.declared.Verdict.{Verdict}
use Rattle.inference.specs.Constraints.{name_words, BaseName, base_name_at, rows_from}
use Rattle.inference.specs.SolveChecks.{Call, solve_checks}
use Rattle.words.specs.Words.{cleared}
use Rattle.inference.specs.SolveEntry.{Solved, SolveLeft, nodes_given_back, solve_entry, problem_of}
use Rattle.search_state.specs.declared.Search.{Search}
use Rattle.search_state.specs.declared.Sizes.{Sizes}
use Rattle.search_state.specs.declared.Branch.{Branch}
use Rattle.search_state.specs.declared.Next.TheVariants.{Solve}
use Rattle.search_state.specs.Inner.Memory.{problem_words, problem_in, path_of, world_of, out_of, solve_from}
use Rattle.search_state.specs.Inner.Searching.{Searching as SearchingIn, Done}
use Rattle.search_state.specs.Inner.Solving.{Given as GivenTo, Searching, Comes, state_of, answer_of}
use Rattle.problem_words.specs.Inner.Packed.{Packable, problem_from}
use Rattle.solve_checks.specs.declared.Problem.{Problem}
use Rattle.solve_checks.specs.Inner.Calls.{call_for}
use Rattle.solve_checks.specs.Call.{lengths_of}
use Rattle.solve_outputs.specs.declared.Handout.{Handout}
use Rattle.solve_outputs.specs.Handout.{call_with, solve_left_with}
use Rattle.solve_outputs.specs.Inner.Begin.{CountsFit, RowsFit, sizes_of, no_incumbent, nothing_taken}
use Rattle.solve_outputs.specs.Finish.{solve_left}
use Rattle.solve_outputs.specs.Inner.Finish.{Settled, solve_left_by, settled_by, Handable}
use Rattle.solve_outputs.specs.Inner.Handing.{told_as, settling, settling_as}
use Rattle.solve_outputs.specs.Packed.{SolvedWithin}
use Rattle.solve_outputs.proofs.Codes.{entry_told}
use Rattle.solve_outputs.proofs.Passed.{counts_fit, rows_fit, packable, packed_problem, names_whole, begins, handable, passed_outputs}
use Rattle.solve_outputs.proofs.Finished.{left_by_search, left_is_outcome}
use Rattle.solve_outputs.proofs.Finishing.{told_as_refusal}
use Rattle.solve_entries.specs.Inner.Searched.{comes_to, settled_from}

-- What is left of the index depends on its length alone: as many zeros. How long it is the search does not say; that its words are lent
-- says it.
same_length : (k : Lengths) (ns bs sc ix jx : List ℕ) (S : Settled) (L : SolveLeft) → length ix ≡ length jx
    → L ≡ solve_left_by k ns bs sc ix S → L ≡ solve_left_by k ns bs sc jx S
same_length k ns bs sc ix jx S L l q =
    q
    ∙ ap (λ (n : ℕ). solve_left S.told.answer S.sorts (nodes_given_back k.nodes k.arguments ns) bs (cleared sc) (replicate n 0)
    S.told.typing S.told.measure S.told.choices) l

by_its_index : (k : Lengths) (ns bs sc ix : List ℕ) (S : Settled) (L : SolveLeft)
    → L ≡ solve_left_by k ns bs sc ix S → L ≡ solve_left_by k ns bs sc L.index S
by_its_index k ns bs sc ix S L q =
    same_length k ns bs sc ix L.index S L (sym (ap (λ (M : SolveLeft). length M.index) q ∙ length-replicate (length ix) 0)) q

-- What ended, as `?` tells it as a refusal.
module _ (x : Result Verdict Full) where
  pub verdict_told : (v : Verdict) → x ≡ Ok v → Ok v ≡ told_as refusal_of x
  verdict_told v q = sym (ap (told_as refusal_of) q)

  pub ending_told : (full : Full) → x ≡ Err full → (y : Solved) → IsErrAnd y (λ c. c ≡ refusal_of full) → y ≡ told_as refusal_of x
  ending_told full q (Ok v) h = absurd h
  ending_told full q (Err c) h = ap Err h ∙ sym (ap (told_as refusal_of) q)

-- The search from nothing, and what comes after it.
module _ (s : Search) (S : Searching s nothing_taken 0 [] (Solve 0)) (e : Branch) (p : e ≡ nothing_taken) where
  module _ (u : Search) (r : Result Bool Full) (d : Comes s e (λ ls z. solve_from ls z 0) u r) where
    from_nothing : Done s.lists.now s.sizes s.sorts.now s.nodes.now s.binds.now s.scratch.now (state_of s) nothing_taken (comes_to s)
        u.sorts.now u.nodes.now u.binds.now u.scratch.now (answer_of (state_of u) r)
    from_nothing =
        subst (λ (y : Branch). Done s.lists.now s.sizes s.sorts.now s.nodes.now s.binds.now s.scratch.now (state_of s) y
        (solve_from s.lists.now s.sizes 0 (path_of s.lists.now s.sizes (binds_of s.binds.now s.lengths.variables) s.scratch.now y)
        (world_of s.lists.now s.sizes s.sorts.now s.nodes.now s.scratch.now (state_of s)))
        u.sorts.now u.nodes.now u.binds.now u.scratch.now (answer_of (state_of u) r)) p d.comes

    pub search_left : (names : List BaseName) (h : Handout) (L : SolveLeft)
        → L ≡ solve_left_by s.lengths u.nodes.now u.binds.now u.scratch.now u.index.now (settling u names h s.lengths r)
        → L ≡ solve_left_by s.lengths s.nodes.now s.binds.now s.scratch.now L.index (settled_from s names h)
    search_left names h L q =
        left_by_search s.lists.now s.sizes s.sorts.now s.nodes.now s.binds.now s.scratch.now L.index (state_of s) nothing_taken (comes_to s)
        u.sorts.now u.nodes.now u.binds.now u.scratch.now (answer_of (state_of u) r) S.ready.nodes from_nothing
        names h.typing.now h.measure.now h.choices.now L
        (by_its_index s.lengths u.nodes.now u.binds.now u.scratch.now u.index.now (settling u names h s.lengths r) L q
        ∙ ap (λ (g : GivenTo). solve_left_by s.lengths u.nodes.now u.binds.now u.scratch.now L.index
        (settled_by (problem_in g.lists g.sizes) names h.typing.now h.measure.now h.choices.now s.lengths
        (out_of g.lists g.sizes u.sorts.now u.nodes.now u.scratch.now (answer_of (state_of u) r)))) d.problem)

    pub search_told : (names : List BaseName) (h : Handout) (x y : Solved) → y ≡ x → (ws ns bs sc ix ts ms hs : List ℕ)
        → solve_left x ws ns bs sc ix ts ms hs
        ≡ solve_left_by s.lengths u.nodes.now u.binds.now u.scratch.now u.index.now (settling_as refusal_of u names h s.lengths r)
        → solve_left y ws ns bs sc ix ts ms hs
        ≡ solve_left_by s.lengths s.nodes.now s.binds.now s.scratch.now ix (settled_from s names h)
    search_told names h x y e ws ns bs sc ix ts ms hs q =
        search_left names h (solve_left y ws ns bs sc ix ts ms hs)
        (ap (λ (a : Solved). solve_left a ws ns bs sc ix ts ms hs) e
        ∙ (q ∙ ap (solve_left_by s.lengths u.nodes.now u.binds.now u.scratch.now u.index.now) (told_as_refusal u names h s.lengths r)))

-- A call.
module _ (p : Problem) (ws ns bs sc ix : List ℕ) (h : Handout) where
  abbrev I : Call
  I = call_with p ws ns bs sc ix h

  -- refused
  module _ (t : Tested) (e : t ≡ first_failing (solve_checks I)) where
    pub refused_so : (c : Refusal) → t ≡ Err c → solve_left_with (Err c) ws ns bs sc ix h ≡ solve_entry I
    unfolding solve_entry
    refused_so c x = rw (sym e ∙ x)

    pub passes : t ≡ Ok tt → first_failing (solve_checks I) ≡ Ok tt
    passes x = sym e ∙ x

  -- passed
  module _ (f : first_failing (solve_checks I) ≡ Ok tt) where
    pub lengths_fit : CountsFit (lengths_of p.given)
    lengths_fit = counts_fit I f

    pub names_lent : name_words * p.given.names ≤ length p.names.now
    names_lent = names_whole I f

    pub sizes_fit : RowsFit (call_for p)
    sizes_fit =
        let r = rows_fit I f in
        record {
          exprs = r.exprs;
          constraints = r.constraints;
          overloads = r.overloads;
          sources = r.sources;
          components = r.components;
          disjunctions = r.disjunctions;
        }

    -- the index can be filled
    pub index_lent : (k : Lengths) → k ≡ lengths_of p.given → (k.sorts ≤ max_sorts) × (slots ≤ length ix)
    index_lent k v = (subst (λ (m : Lengths). m.sorts ≤ max_sorts) (sym v) lengths_fit.sorts, (passed_outputs I f).index)

    module _ (z : Sizes) (q : z ≡ sizes_of (call_for p)) where
      same_sizes : z ≡ sizes_of I
      unfolding sizes_of
      same_sizes = q

      pub can_be_packed : (ls : List ℕ) → problem_words ≤ length ls → Packable ls p.exprs.now p.constraints.now p.overloads.now p.sources.now z
      can_be_packed ls l = subst (Packable ls p.exprs.now p.constraints.now p.overloads.now p.sources.now) (sym same_sizes) (packable I f ls l)

      module _ (ls : List ℕ) (packs : problem_in ls z ≡ problem_from p.exprs.now p.constraints.now p.overloads.now p.sources.now z) where
        says_problem : problem_in ls (sizes_of I) ≡ problem_of I
        says_problem = subst (λ y. problem_in ls y ≡ problem_from p.exprs.now p.constraints.now p.overloads.now p.sources.now y) same_sizes packs ∙ packed_problem I

        module _ (k : Lengths) (v : k ≡ lengths_of p.given) where
          pub search_asked : SearchingIn ws ns bs sc ls z (no_incumbent k) nothing_taken 0 [] (Solve 0) × Handable sc ls z h.typing.now h.measure.now h.choices.now
          search_asked = (
            subst (λ (y : Sizes). SearchingIn ws ns bs sc ls y (no_incumbent k) nothing_taken 0 [] (Solve 0)) (sym same_sizes)
                (subst (λ (m : Lengths). SearchingIn ws ns bs sc ls (sizes_of I) (no_incumbent m) nothing_taken 0 []
                (Solve 0)) (sym v) (begins I f ls says_problem)),
            subst (λ (y : Sizes). Handable sc ls y h.typing.now h.measure.now h.choices.now) (sym same_sizes) (handable I f ls says_problem sc refl),
          )

          pub is_outcome : (L : SolveLeft)
              → L
              ≡ solve_left_by k ns bs sc L.index
              (settled_by (problem_in ls z) (rows_from (base_name_at p.names.now) 0 p.given.names) h.typing.now h.measure.now h.choices.now k
              (solve_from ls z 0 (path_of ls z (binds_of bs k.variables) sc nothing_taken) (world_of ls z ws ns sc (no_incumbent k))))
              → length L.index ≡ length ix → L ≡ solve_entry I
          is_outcome L e l =
              same_length k ns bs sc L.index ix
              (settled_by (problem_in ls z) (rows_from (base_name_at p.names.now) 0 p.given.names) h.typing.now h.measure.now h.choices.now k
              (solve_from ls z 0 (path_of ls z (binds_of bs k.variables) sc nothing_taken) (world_of ls z ws ns sc (no_incumbent k)))) L l e
              ∙ ((λ i. solve_left_by (v i) ns bs sc ix
              (settled_by (problem_in ls (same_sizes i)) (rows_from (base_name_at p.names.now) 0 p.given.names) h.typing.now h.measure.now h.choices.now (v i)
              (solve_from ls (same_sizes i) 0 (path_of ls (same_sizes i) (binds_of bs (v i).variables) sc nothing_taken)
              (world_of ls (same_sizes i) ws ns sc (no_incumbent (v i))))))
              ∙ left_is_outcome I f ls says_problem)

-- The answer as one number.
module _ (J : Call) (r : Solved) (ws ns bs sc ix ts ms hs : List ℕ) (e : solve_left r ws ns bs sc ix ts ms hs ≡ solve_entry J) where
  pub answer_told : SolvedWithin r
  answer_told = subst SolvedWithin (sym (ap (λ (L : SolveLeft). L.answer) e)) (entry_told J)
