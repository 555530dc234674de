-- The search, one cycle of eleven functions: each call is asked for by the laws of its way, and each return is the definition on that way.
-- The index goes along: each call that answers leaves that of the sorts, and between the calls what keeps the sorts keeps it. Assumes nothing.
use Rattle.std.proofs.Common.{◌∙◌, refl, sym, ap, subst, false, arith}
use Rattle.std.specs.Prelude.{Ok}
use Rattle.search_state.specs.Inner.Leaves.{given_back_to}
use Rattle.search_state.specs.Inner.Searching.{trying, Comes as ComesIn}
use Rattle.search_state.specs.Inner.Solving.{Given, Kept, Lists, has_best, is_tied, state_of, answer_of}
use Rattle.search_state.proofs.Solving.{asked_on, comes_on, state_kept, asked_kept, comes_kept, asked_bound, comes_bound}
use Rattle.search_state.proofs.Solving.{index_bound, index_bound_on, index_given_back}
use Rattle.search_state.proofs.Solving.{found_not_missed, ended_not_missed, no_sort_room, same_error, not_some}
use Rattle.search_leaf.specs.Inner.Leaf.{IsDominated}
use Rattle.search_steps.proofs.Attempt as at
use Rattle.solver.proofs.Ways as law
use Rattle.solver.proofs.Ways.{work}
use Rattle.solver.proofs.Widening as wi
use Rattle.solver.proofs.Literals as li
use Rattle.solver.proofs.Joins as jo
use Rattle.solver.proofs.Solving as sv
use Rattle.solver.proofs.Readings as re
use Rattle.solver.proofs.Structs as st
use Rattle.solver.proofs.+search.Goals as goal

-- `attempt`: places made equal, a step recorded, what comes next, the trail undone: the definition of a try.
pub attempt-unify_pairs-requires : goal.attempt-unify_pairs-requires
attempt-unify_pairs-requires t c = (at.trying_here _ _ _ _ _ _ _ _ c.args.step _ c.requires.searching.0, c.requires.searching.1)

pub attempt-push-then-requires : goal.attempt-push-then-requires
attempt-push-then-requires t c = at.push_room _ _ _ _ _ _ _ _ c.args.step _ c.requires.searching.0 _ _ _ _ c.unify_pairs.ensures.0

pub attempt-resume-found-requires : goal.attempt-resume-found-requires
attempt-resume-found-requires t c =
    let q = c.push-then.ensures.2.0 ∙ c.unify_pairs.ensures.1 in (
      omega (arith, c.decreases, ap (λ (l : Lists). work l.given.sizes.constraints c.args.next) q),
      (
        asked_bound c.args.search.now c.push-then.new.search c.push-then.result q _ _ _
            (rw c.push-then.ensures.2.1 (at.goes_on _ _ _ _ _ _ _ _ c.args.step _ c.requires.searching.0 _ _ _ _ c.unify_pairs.ensures.0 _ c.in-Some.is _ _
            c.push-then.ensures.0 c.push-then.ensures.1)),
        index_bound c.args.search.now c.push-then.new.search q c.requires.indexed,
      ),
    )

pub attempt-returns-clause-comes : goal.attempt-returns-clause-comes
attempt-returns-clause-comes t c =
    let s = c.args.search.now in
    let u = c.resume-found.new.search in
    let v = c.roll_back.new.search in
    let q = c.push-then.ensures.2.0 ∙ c.unify_pairs.ensures.1 in
    let r = c.roll_back.ensures in
    record {
      problem = ap (λ (l : Lists). l.given) r.1 ∙ (c.resume-found.ensures.comes.problem ∙ ap (λ (l : Lists). l.given) q);
      comes =
          subst (λ (l : Lists). ComesIn s.lists.now s.sizes s.sorts.now s.nodes.now s.binds.now s.scratch.now (state_of s) c.args.at
          (trying s.lists.now s.sizes s.scratch.now c.args.at c.args.pairs c.args.step c.args.next) l.sorts l.nodes v.binds.now v.scratch.now
          (answer_of (record { lengths = l.lengths; best = has_best l.best; tied = is_tied l.best }) c.resume-found.result)) (sym r.1)
          (rw r.2 (at.attempt_yes _ _ _ _ _ _ _ _ c.args.step _ c.requires.searching.0 c.args.pairs _ _ _ c.unify_pairs.ensures.0 _ c.in-Some.is _ _
          c.push-then.ensures.0 c.push-then.ensures.1 u.sorts.now u.nodes.now u.binds.now u.scratch.now (answer_of (state_of u) c.resume-found.result)
          (rw c.push-then.ensures.2.1 at (comes_bound s c.push-then.new.search c.push-then.result q _ _ _ c.resume-found.ensures.comes)) _ r.0));
    }

pub attempt-returns-clause-indexed : goal.attempt-returns-clause-indexed
attempt-returns-clause-indexed t c =
    index_bound_on c.resume-found.new.search c.roll_back.new.search c.roll_back.ensures.1 c.resume-found.result c.resume-found.ensures.indexed

pub attempt-returns-in_default-clause-comes : goal.attempt-returns-in_default-clause-comes
attempt-returns-in_default-clause-comes t c =
    let s = c.args.search.now in
    let v = c.unify_pairs.new.search in
    let q = c.unify_pairs.ensures.1 in
    record {
      problem = ap (λ (l : Lists). l.given) q;
      comes =
          subst (λ (l : Lists). ComesIn s.lists.now s.sizes s.sorts.now s.nodes.now s.binds.now s.scratch.now (state_of s) c.args.at
          (trying s.lists.now s.sizes s.scratch.now c.args.at c.args.pairs c.args.step c.args.next) l.sorts l.nodes v.binds.now v.scratch.now
          (answer_of (record { lengths = l.lengths; best = has_best l.best; tied = is_tied l.best }) (Ok false))) (sym q)
          (at.attempt_no _ _ _ _ _ _ _ _ c.args.step _ c.requires.searching.0 c.args.pairs _ _ _ c.unify_pairs.ensures.0 (not_some _ c.in_default.not-Some));
    }

pub attempt-returns-in_default-clause-indexed : goal.attempt-returns-in_default-clause-indexed
attempt-returns-in_default-clause-indexed t c = index_bound c.args.search.now c.unify_pairs.new.search c.unify_pairs.ensures.1 c.requires.indexed

-- `resume`: what a value names as coming next is the definition of going on.
pub resume-returns-in-Solve-clause-comes : goal.resume-returns-in-Solve-clause-comes
resume-returns-in-Solve-clause-comes t c =
    record { problem = c.solve.ensures.comes.problem; comes = law.next_solve _ _ _ _ _ _ _ _ _ _ _ _ _ _ _ c.in-Solve.is c.solve.ensures.comes.comes }

pub resume-returns-in-Source-clause-comes : goal.resume-returns-in-Source-clause-comes
resume-returns-in-Source-clause-comes t c =
    record {
      problem = c.solve_join_seq.ensures.comes.problem;
      comes = law.next_source _ _ _ _ _ _ _ _ _ _ _ _ _ _ _ _ _ _ c.in-Source.is c.solve_join_seq.ensures.comes.comes;
    }

-- `solve`: dropped where the prefix is greater than the incumbent's, a leaf at the end, else the next constraint.
pub solve-returns-then-dominated-clause-comes : goal.solve-returns-then-dominated-clause-comes
unfolding IsDominated
solve-returns-then-dominated-clause-comes t c =
    record { problem = refl; comes = sv.solve_dominated _ _ _ _ _ _ _ _ _ c.requires.searching _ (c.dominated.ensures _) c.if-dominated.true }

pub solve-leaf-requires-clause-at_leaf : goal.solve-leaf-requires-clause-at_leaf
solve-leaf-requires-clause-at_leaf t c = sv.at_leaf _ _ _ _ _ _ _ _ _ c.requires.searching c.if-search-index.true

pub solve-returns-then-search-index-clause-comes : goal.solve-returns-then-search-index-clause-comes
unfolding IsDominated
solve-returns-then-search-index-clause-comes t c =
    record {
      problem = c.leaf.ensures.comes.problem;
      comes = sv.solve_leaf _ _ _ _ _ _ _ _ _ c.requires.searching _ (c.dominated.ensures _) c.if-dominated.false c.if-search-index.true _ _ _ _ _ c.leaf.ensures.comes.comes;
    }

pub solve-solve_constraint-requires : goal.solve-solve_constraint-requires
solve-solve_constraint-requires t c = (
  omega (arith, c.decreases, c.if-search-index.false),
  (
    (
      sv.constraint_asked _ _ _ _ _ _ _ _ _ c.requires.searching c.if-search-index.false _ c.constraint_at-constraint.ensures,
      sv.constraint_listed _ _ _ _ _ _ _ _ _ c.requires.searching c.if-search-index.false _ c.constraint_at-constraint.ensures,
    ),
    c.requires.indexed,
  ),
)

pub solve-returns-clause-comes : goal.solve-returns-clause-comes
unfolding IsDominated
solve-returns-clause-comes t c =
    record {
      problem = c.solve_constraint.ensures.comes.problem;
      comes =
          sv.solve_on _ _ _ _ _ _ _ _ _ c.requires.searching _ (c.dominated.ensures _) c.if-dominated.false c.if-search-index.false _
          c.constraint_at-constraint.ensures _ _ _ _ _ c.solve_constraint.ensures.comes.comes;
    }

-- `solve_comprehension`: a container made and tried for each reading in turn.
pub solve_comprehension-returns-in_err-container-clause-comes : goal.solve_comprehension-returns-in_err-container-clause-comes
solve_comprehension-returns-in_err-container-clause-comes t c =
    st.passed _ _ _ _ _ _ (no_sort_room _ c.from_residual.ensures)
    (st.readings_full _ _ _ _ _ _ _ _ _ c.loop-reading.invariant.left c.loop-reading-test.true _ _
    (re.interns_listed _ c.loop-reading-test.true _ _ _ _ _ _ _ c.container_in_search.ensures.interned.0) c.container_in_search.ensures.interned.1 _ c.in_err-container.was)

pub solve_comprehension-attempt-requires : goal.solve_comprehension-attempt-requires
solve_comprehension-attempt-requires t c =
    let o = re.interns_listed _ c.loop-reading-test.true _ _ _ _ _ _ _ c.container_in_search.ensures.interned.0 in (
      omega (
        arith,
        c.decreases,
        ap (λ (g : Given). work g.sizes.constraints c.args.next) (st.problem_there _ _ _ _ _ _ _ _ _ c.loop-reading.invariant.left c.loop-reading-test.true c.container_in_search.new.search c.container_in_search.result o
            c.container_in_search.ensures.interned.1),
      ),
      (
        (
          st.reading_asked _ _ _ _ _ _ _ _ _ c.loop-reading.invariant.left c.loop-reading-test.true c.container_in_search.new.search c.container_in_search.result o c.container_in_search.ensures.interned.1 _ c.in_ok-container.was,
          st.reading_placed _ _ _ _ _ _ _ _ _ c.loop-reading.invariant.left c.loop-reading-test.true c.container_in_search.new.search c.container_in_search.result o c.container_in_search.ensures.interned.1 _ c.in_ok-container.was _
              (re.body_listed _ c.loop-reading-test.true _),
        ),
        c.in_ok-container.ensures.indexed,
      ),
    )

pub solve_comprehension-returns-in_err-found-clause-comes : goal.solve_comprehension-returns-in_err-found-clause-comes
solve_comprehension-returns-in_err-found-clause-comes t c =
    st.passed _ _ _ _ _ _ (same_error _ _ c.from_residual-in_err-found.ensures ∙ sym c.in_err-found.was)
    (st.readings_ended _ _ _ _ _ _ _ _ _ c.loop-reading.invariant.left c.loop-reading-test.true _ _
    (re.interns_listed _ c.loop-reading-test.true _ _ _ _ _ _ _ c.container_in_search.ensures.interned.0) c.container_in_search.ensures.interned.1 _ c.in_ok-container.was _ (re.body_listed _ c.loop-reading-test.true _) _ _
    c.attempt.ensures.comes _ c.in_err-found.was)

pub solve_comprehension-loop-reading-preserved : goal.solve_comprehension-loop-reading-preserved
solve_comprehension-loop-reading-preserved t c =
    record {
      left = st.readings_more _ _ _ _ _ _ _ _ _ c.loop-reading.invariant.left c.loop-reading-test.true _ _
          (re.interns_listed _ c.loop-reading-test.true _ _ _ _ _ _ _ c.container_in_search.ensures.interned.0) c.container_in_search.ensures.interned.1 _ c.in_ok-container.was _ (re.body_listed _ c.loop-reading-test.true _) _ _
          c.attempt.ensures.comes _ c.in_ok-found.was;
      indexed = c.in_ok-found.ensures.indexed;
    }

pub solve_comprehension-returns-clause-comes : goal.solve_comprehension-returns-clause-comes
solve_comprehension-returns-clause-comes t c = st.readings_over _ _ _ _ _ _ _ _ _ c.loop-reading.invariant.left c.loop-reading-test.false

-- `solve_constraint`: the row read is the definition's constraint, and each kind has its function.
pub solve_constraint-solve_disjunction-requires : goal.solve_constraint-solve_disjunction-requires
solve_constraint-solve_disjunction-requires t c = (
  omega (arith, c.decreases),
  (
    (
      sv.kind_asked _ _ _ _ _ _ _ _ _ _ c.requires.searching.0 c.requires.searching.1 _ c.in-Disjunction.is,
      sv.overloads_fine _ _ _ _ _ _ _ _ _ _ c.requires.searching.0 c.requires.searching.1 _ _ _ c.in-Disjunction.is,
    ),
    c.requires.indexed,
  ),
)

pub solve_constraint-solve_join-requires : goal.solve_constraint-solve_join-requires
solve_constraint-solve_join-requires t c = (
  omega (arith, c.decreases),
  (
    (
      sv.kind_asked _ _ _ _ _ _ _ _ _ _ c.requires.searching.0 c.requires.searching.1 _ c.in-Join.is,
      sv.sources_fine _ _ _ _ _ _ _ _ _ _ c.requires.searching.0 c.requires.searching.1 _ _ c.in-Join.is,
    ),
    c.requires.indexed,
  ),
)

pub solve_constraint-returns-in-Sub-clause-comes : goal.solve_constraint-returns-in-Sub-clause-comes
solve_constraint-returns-in-Sub-clause-comes t c =
    record {
      problem = c.solve_widening.ensures.comes.problem;
      comes = sv.step_sub _ _ _ _ _ _ _ _ _ _ c.requires.searching.0 c.requires.searching.1 _ _ _ _ _ _ _ c.in-Sub.is c.solve_widening.ensures.comes.comes;
    }

pub solve_constraint-returns-in-Lit-clause-comes : goal.solve_constraint-returns-in-Lit-clause-comes
solve_constraint-returns-in-Lit-clause-comes t c =
    record {
      problem = c.solve_lit.ensures.comes.problem;
      comes = sv.step_literal _ _ _ _ _ _ _ _ _ _ c.requires.searching.0 c.requires.searching.1 _ _ _ _ _ _ _ c.in-Lit.is c.solve_lit.ensures.comes.comes;
    }

pub solve_constraint-returns-in-Disjunction-clause-comes : goal.solve_constraint-returns-in-Disjunction-clause-comes
solve_constraint-returns-in-Disjunction-clause-comes t c =
    record {
      problem = c.solve_disjunction.ensures.comes.problem;
      comes = sv.step_overloads _ _ _ _ _ _ _ _ _ _ c.requires.searching.0 c.requires.searching.1 _ _ _ c.in-Disjunction.is _ _ _ _ _ c.solve_disjunction.ensures.comes.comes;
    }

pub solve_constraint-returns-in-Comprehension-clause-comes : goal.solve_constraint-returns-in-Comprehension-clause-comes
solve_constraint-returns-in-Comprehension-clause-comes t c =
    record {
      problem = c.solve_comprehension.ensures.comes.problem;
      comes = sv.step_readings _ _ _ _ _ _ _ _ _ _ c.requires.searching.0 c.requires.searching.1 _ _ _ _ _ _ _ _ c.in-Comprehension.is c.solve_comprehension.ensures.comes.comes;
    }

pub solve_constraint-returns-in-Join-clause-comes : goal.solve_constraint-returns-in-Join-clause-comes
solve_constraint-returns-in-Join-clause-comes t c =
    record {
      problem = c.solve_join.ensures.comes.problem;
      comes = sv.step_joined _ _ _ _ _ _ _ _ _ _ c.requires.searching.0 c.requires.searching.1 _ _ c.in-Join.is _ _ _ _ _ c.solve_join.ensures.comes.comes;
    }

-- `solve_disjunction`: a loop over the overloads, all tried.
pub solve_disjunction-loop-i-init : goal.solve_disjunction-loop-i-init
solve_disjunction-loop-i-init t c =
    record {
      left = st.overloads_begin _ _ _ _ _ _ c.requires.searching.0 c.requires.searching.1;
      indexed = c.requires.indexed;
    }

pub solve_disjunction-attempt-requires : goal.solve_disjunction-attempt-requires
solve_disjunction-attempt-requires t c = (
  omega (arith, c.decreases, ap (λ (g : Given). work g.sizes.constraints c.args.next) c.loop-i.invariant.left.same),
  (
    (
      st.overload_asked _ _ _ _ _ _ _ _ _ c.loop-i.invariant.left c.loop-i-test.true _ c.overload_place-place.ensures,
      st.overload_placed _ _ _ _ _ _ _ _ _ c.loop-i.invariant.left c.loop-i-test.true _ c.overload_place-place.ensures,
    ),
    c.loop-i.invariant.indexed,
  ),
)

pub solve_disjunction-returns-in_err-found-clause-comes : goal.solve_disjunction-returns-in_err-found-clause-comes
solve_disjunction-returns-in_err-found-clause-comes t c =
    st.passed _ _ _ _ _ _ (same_error _ _ c.from_residual.ensures ∙ sym c.in_err-found.was)
    (st.overloads_ended _ _ _ _ _ _ _ _ _ c.loop-i.invariant.left c.loop-i-test.true _ c.overload_place-place.ensures _ _ c.attempt.ensures.comes _
    c.in_err-found.was)

pub solve_disjunction-loop-i-preserved : goal.solve_disjunction-loop-i-preserved
solve_disjunction-loop-i-preserved t c =
    record {
      left = st.overloads_more _ _ _ _ _ _ _ _ _ c.loop-i.invariant.left c.loop-i-test.true _ c.overload_place-place.ensures _ _ c.attempt.ensures.comes _ c.in_ok-found.was;
      indexed = c.in_ok-found.ensures.indexed;
    }

pub solve_disjunction-returns-clause-comes : goal.solve_disjunction-returns-clause-comes
solve_disjunction-returns-clause-comes t c = st.overloads_over _ _ _ _ _ _ _ _ _ c.loop-i.invariant.left c.loop-i-test.false

-- `solve_join`: the sort on which the sources agree first, and where that finds nothing one source after another.
pub solve_join-returns-in_err-lub-clause-comes : goal.solve_join-returns-in_err-lub-clause-comes
solve_join-returns-in_err-lub-clause-comes t c =
    let a = c.agreed.ensures.agrees in
    record {
      problem = ap (λ (k : Kept). k.given) a.1;
      comes =
          rw (a.2, ap (λ (k : Kept). k.binds) a.1, no_sort_room c.from_residual.result c.from_residual.ensures)
          (jo.join_full _ _ _ _ _ _ _ _ _ _ _ c.requires.searching.0 c.requires.searching.1 _ _ _ c.agreed.result a.0 _ c.in_err-lub.was);
    }

pub solve_join-solve_join_seq-requires : goal.solve_join-solve_join_seq-requires
solve_join-solve_join_seq-requires t c =
    let s = c.args.search.now in
    let a = c.agreed.ensures.agrees in (
      omega (arith, c.decreases, c.requires.searching.1.inside, c.requires.searching.0.sized.sources, ap (λ (k : Kept). k.given.sizes.constraints) a.1),
      (
        asked_kept s c.agreed.new.search c.args.at a.1 _ _ _
            (rw a.2 (jo.none_asked _ _ _ _ _ _ _ _ _ _ _ c.requires.searching.0 c.requires.searching.1 _ _ _ c.agreed.result a.0
            (c.in_ok-lub.was ∙ ap Ok (not_some _ c.in_default.not-Some)) _ (state_kept s c.agreed.new.search c.args.at a.1))),
        c.in_ok-lub.ensures.indexed,
      ),
    )

pub solve_join-returns-in_default-clause-comes : goal.solve_join-returns-in_default-clause-comes
solve_join-returns-in_default-clause-comes t c =
    let s = c.args.search.now in
    let a = c.agreed.ensures.agrees in
    record {
      problem = c.solve_join_seq.ensures.comes.problem ∙ ap (λ (k : Kept). k.given) a.1;
      comes =
          jo.join_none _ _ _ _ _ _ _ _ _ _ _ c.requires.searching.0 c.requires.searching.1 _ _ _ c.agreed.result a.0
          (c.in_ok-lub.was ∙ ap Ok (not_some _ c.in_default.not-Some)) _ (state_kept s c.agreed.new.search c.args.at a.1) _ _ _ _ _
          (rw a.2 at (comes_kept s c.agreed.new.search c.args.at a.1 _ _ _ c.solve_join_seq.ensures.comes));
    }

pub solve_join-attempt-requires : goal.solve_join-attempt-requires
solve_join-attempt-requires t c =
    let s = c.args.search.now in
    let a = c.agreed.ensures.agrees in
    let q = c.in_ok-lub.was ∙ ap Ok c.in-Some.is in
    let k = state_kept s c.agreed.new.search c.args.at a.1 in (
      omega (arith, c.decreases, ap (λ (k : Kept). k.given.sizes.constraints) a.1),
      (
        (
          asked_kept s c.agreed.new.search c.args.at a.1 _ _ _
              (rw a.2 (jo.lub_asked _ _ _ _ _ _ _ _ _ _ _ c.requires.searching.0 c.requires.searching.1 _ _ _ c.agreed.result a.0 _ q _ k)),
          jo.lub_placed _ _ _ _ _ _ _ _ _ _ _ c.requires.searching.0 c.requires.searching.1 _ _ _ c.agreed.result a.0 _ q _ k,
        ),
        c.in_ok-lub.ensures.indexed,
      ),
    )

pub solve_join-returns-in_err-attempt-clause-comes : goal.solve_join-returns-in_err-attempt-clause-comes
solve_join-returns-in_err-attempt-clause-comes t c =
    let s = c.args.search.now in
    let u = c.attempt.new.search in
    let a = c.agreed.ensures.agrees in
    st.passed _ _ _ _ _ _ (same_error _ _ c.from_residual-in_err-attempt.ensures ∙ sym c.in_err-attempt.was)
    (record {
      problem = c.attempt.ensures.comes.problem ∙ ap (λ (k : Kept). k.given) a.1;
      comes =
          jo.join_stop _ _ _ _ _ _ _ _ _ _ _ c.requires.searching.0 c.requires.searching.1 _ _ _ c.agreed.result a.0 _ (c.in_ok-lub.was ∙ ap Ok c.in-Some.is) _
          (state_kept s c.agreed.new.search c.args.at a.1) u.sorts.now u.nodes.now u.binds.now u.scratch.now (answer_of (state_of u) c.attempt.result)
          (rw a.2 at (comes_kept s c.agreed.new.search c.args.at a.1 _ _ _ c.attempt.ensures.comes))
          (ended_not_missed (state_of u) c.attempt.result _ c.in_err-attempt.was);
    })

pub solve_join-returns-then-branch-clause-comes : goal.solve_join-returns-then-branch-clause-comes
solve_join-returns-then-branch-clause-comes t c =
    let s = c.args.search.now in
    let u = c.attempt.new.search in
    let a = c.agreed.ensures.agrees in
    let f = c.in_ok-attempt.was ∙ ap Ok c.if-branch.true in
    st.passed _ _ _ _ _ _ (sym f)
    (record {
      problem = c.attempt.ensures.comes.problem ∙ ap (λ (k : Kept). k.given) a.1;
      comes =
          jo.join_stop _ _ _ _ _ _ _ _ _ _ _ c.requires.searching.0 c.requires.searching.1 _ _ _ c.agreed.result a.0 _ (c.in_ok-lub.was ∙ ap Ok c.in-Some.is) _
          (state_kept s c.agreed.new.search c.args.at a.1) u.sorts.now u.nodes.now u.binds.now u.scratch.now (answer_of (state_of u) c.attempt.result)
          (rw a.2 at (comes_kept s c.agreed.new.search c.args.at a.1 _ _ _ c.attempt.ensures.comes))
          (found_not_missed (state_of u) c.attempt.result f);
    })

pub solve_join-solve_join_seq-requires-2 : goal.solve_join-solve_join_seq-requires-2
solve_join-solve_join_seq-requires-2 t c =
    let s = c.args.search.now in
    let u = c.attempt.new.search in
    let a = c.agreed.ensures.agrees in
    let p = c.attempt.ensures.comes.problem ∙ ap (λ (k : Kept). k.given) a.1 in (
      omega (arith, c.decreases, c.requires.searching.1.inside, c.requires.searching.0.sized.sources, ap (λ (g : Given). g.sizes.constraints) p),
      (
        asked_on s u c.args.at p _ _ _
            (jo.seq_asked _ _ _ _ _ _ _ _ _ _ _ c.requires.searching.0 c.requires.searching.1 _ _ _ c.agreed.result a.0 _ (c.in_ok-lub.was ∙ ap Ok c.in-Some.is) _
            (state_kept s c.agreed.new.search c.args.at a.1) u.sorts.now u.nodes.now u.binds.now u.scratch.now (answer_of (state_of u) c.attempt.result)
            (rw a.2 at (comes_kept s c.agreed.new.search c.args.at a.1 _ _ _ c.attempt.ensures.comes)) (state_of u)
            (ap (answer_of (state_of u)) (c.in_ok-attempt.was ∙ ap Ok c.if-branch.false))),
        c.in_ok-attempt.ensures.indexed,
      ),
    )

pub solve_join-returns-clause-comes : goal.solve_join-returns-clause-comes
solve_join-returns-clause-comes t c =
    let s = c.args.search.now in
    let u = c.attempt.new.search in
    let a = c.agreed.ensures.agrees in
    let p = c.attempt.ensures.comes.problem ∙ ap (λ (k : Kept). k.given) a.1 in
    record {
      problem = c.solve_join_seq-2.ensures.comes.problem ∙ p;
      comes =
          jo.join_next _ _ _ _ _ _ _ _ _ _ _ c.requires.searching.0 c.requires.searching.1 _ _ _ c.agreed.result a.0 _ (c.in_ok-lub.was ∙ ap Ok c.in-Some.is) _
          (state_kept s c.agreed.new.search c.args.at a.1) u.sorts.now u.nodes.now u.binds.now u.scratch.now (answer_of (state_of u) c.attempt.result)
          (rw a.2 at (comes_kept s c.agreed.new.search c.args.at a.1 _ _ _ c.attempt.ensures.comes)) (state_of u)
          (ap (answer_of (state_of u)) (c.in_ok-attempt.was ∙ ap Ok c.if-branch.false)) _ _ _ _ _
          (comes_on s u c.args.at p _ _ _ c.solve_join_seq-2.ensures.comes);
    }

-- `solve_join_seq`: a source as a widening, what comes next being the sources after it.
pub solve_join_seq-returns-then-to-from-clause-comes : goal.solve_join_seq-returns-then-to-from-clause-comes
solve_join_seq-returns-then-to-from-clause-comes t c =
    record { problem = c.solve.ensures.comes.problem; comes = jo.seq_done _ _ _ _ _ _ _ _ _ _ _ _ c.requires.searching c.if-to-from.true _ _ _ _ _ c.solve.ensures.comes.comes }

pub solve_join_seq-solve_widening-requires : goal.solve_join_seq-solve_widening-requires
solve_join_seq-solve_widening-requires t c = (
  omega (arith, c.decreases, c.if-to-from.false),
  (
    (
      jo.source_asked _ _ _ _ _ _ _ _ _ _ _ _ c.requires.searching c.if-to-from.false _ c.source_at-source.ensures,
      (jo.source_placed _ _ _ _ _ _ _ _ _ _ _ _ c.requires.searching c.if-to-from.false _ c.source_at-source.ensures).0,
      (jo.source_placed _ _ _ _ _ _ _ _ _ _ _ _ c.requires.searching c.if-to-from.false _ c.source_at-source.ensures).1,
    ),
    c.requires.indexed,
  ),
)

pub solve_join_seq-returns-clause-comes : goal.solve_join_seq-returns-clause-comes
solve_join_seq-returns-clause-comes t c =
    record {
      problem = c.solve_widening.ensures.comes.problem;
      comes = jo.seq_more _ _ _ _ _ _ _ _ _ _ _ _ c.requires.searching c.if-to-from.false _ c.source_at-source.ensures _ _ _ _ _ c.solve_widening.ensures.comes.comes;
    }

-- `solve_lit`: at a number sort its component, at a free place the tries, else not found.
pub solve_lit-tries-requires : goal.solve_lit-tries-requires
solve_lit-tries-requires t c = (
  omega (arith, c.decreases),
  (
    (c.requires.searching.0, li.lit_fine _ _ _ _ _ _ _ _ _ _ _ c.requires.searching.0 c.requires.searching.1 _ c.lit_in_search.ensures _ c.lit_tries.ensures),
    c.requires.indexed,
  ),
)

pub solve_lit-returns-in-Number-clause-comes : goal.solve_lit-returns-in-Number-clause-comes
solve_lit-returns-in-Number-clause-comes t c =
    let p = c.push-then.ensures in
    record {
      problem = c.resume.ensures.comes.problem ∙ ap (λ (l : Lists). l.given) p.2.0;
      comes =
          li.lit_number _ _ _ _ _ _ _ _ _ _ _ c.requires.searching.0 c.requires.searching.1 _ c.lit_in_search.ensures _ c.in-Number.is _ _ p.0 p.1 _ _ _ _ _
          (rw p.2.1 at (comes_bound c.args.search.now c.push-then.new.search c.push-then.result p.2.0 _ _ _ c.resume.ensures.comes));
    }

pub solve_lit-returns-in-Free-clause-comes : goal.solve_lit-returns-in-Free-clause-comes
solve_lit-returns-in-Free-clause-comes t c =
    record {
      problem = c.tries.ensures.comes.problem;
      comes =
          li.lit_free _ _ _ _ _ _ _ _ _ _ _ c.requires.searching.0 c.requires.searching.1 _ c.lit_in_search.ensures _ c.lit_tries.ensures c.in-Free.is _ _ _ _ _ c.tries.ensures.comes.comes;
    }

pub solve_lit-returns-in-Other-clause-comes : goal.solve_lit-returns-in-Other-clause-comes
solve_lit-returns-in-Other-clause-comes t c =
    record { problem = refl; comes = li.lit_other _ _ _ _ _ _ _ _ _ _ _ c.requires.searching.0 c.requires.searching.1 _ c.lit_in_search.ensures c.in-Other.is }

-- `solve_widening`: equal first, then the wider or narrower sorts in turn; the nodes made are given back.
pub solve_widening-returns-in_err-attempt-clause-comes : goal.solve_widening-returns-in_err-attempt-clause-comes
solve_widening-returns-in_err-attempt-clause-comes t c =
    let u = c.attempt.new.search in
    st.passed _ _ _ _ _ _ (same_error _ _ c.from_residual.ensures ∙ sym c.in_err-attempt.was)
    (record {
      problem = c.attempt.ensures.comes.problem;
      comes =
          wi.widen_stop _ _ _ _ _ _ _ _ _ _ _ c.requires.searching.0 u.sorts.now u.nodes.now u.binds.now u.scratch.now (answer_of (state_of u) c.attempt.result)
          c.attempt.ensures.comes.comes (ended_not_missed (state_of u) c.attempt.result _ c.in_err-attempt.was);
    })

pub solve_widening-returns-then-branch-clause-comes : goal.solve_widening-returns-then-branch-clause-comes
solve_widening-returns-then-branch-clause-comes t c =
    let u = c.attempt.new.search in
    let f = c.in_ok-attempt.was ∙ ap Ok c.if-branch.true in
    st.passed _ _ _ _ _ _ (sym f)
    (record {
      problem = c.attempt.ensures.comes.problem;
      comes =
          wi.widen_stop _ _ _ _ _ _ _ _ _ _ _ c.requires.searching.0 u.sorts.now u.nodes.now u.binds.now u.scratch.now (answer_of (state_of u) c.attempt.result)
          c.attempt.ensures.comes.comes (found_not_missed (state_of u) c.attempt.result f);
    })

pub solve_widening-widenings_in_search-requires-clause-ready : goal.solve_widening-widenings_in_search-requires-clause-ready
solve_widening-widenings_in_search-requires-clause-ready t c =
    let u = c.attempt.new.search in
    let m = ap (answer_of (state_of u)) (c.in_ok-attempt.was ∙ ap Ok c.if-branch.false) in
    let a = wi.asked_again _ _ _ _ _ _ _ _ _ _ _ c.requires.searching.0 u.sorts.now u.nodes.now u.binds.now u.scratch.now (answer_of (state_of u) c.attempt.result)
    c.attempt.ensures.comes.comes (state_of u) m in (
      a.ready,
      wi.still_there _ _ _ _ _ _ _ _ _ _ _ c.requires.searching.0 u.sorts.now u.nodes.now u.binds.now u.scratch.now (answer_of (state_of u) c.attempt.result)
          c.attempt.ensures.comes.comes (state_of u) m _ c.requires.searching.1,
      wi.still_there _ _ _ _ _ _ _ _ _ _ _ c.requires.searching.0 u.sorts.now u.nodes.now u.binds.now u.scratch.now (answer_of (state_of u) c.attempt.result)
          c.attempt.ensures.comes.comes (state_of u) m _ c.requires.searching.2,
      a.suits.six,
    )

pub solve_widening-returns-in_err-t-clause-comes : goal.solve_widening-returns-in_err-t-clause-comes
solve_widening-returns-in_err-t-clause-comes t c =
    let u = c.attempt.new.search in
    let w = c.widenings_in_search.ensures.finds in
    let p = w.1 in
    let m = ap (answer_of (state_of u)) (c.in_ok-attempt.was ∙ ap Ok c.if-branch.false) in
    let a = wi.asked_again _ _ _ _ _ _ _ _ _ _ _ c.requires.searching.0 u.sorts.now u.nodes.now u.binds.now u.scratch.now (answer_of (state_of u) c.attempt.result)
    c.attempt.ensures.comes.comes (state_of u) m in
    record {
      problem = ap (λ (k : Kept). k.given) p ∙ c.attempt.ensures.comes.problem;
      comes =
          rw (w.2, ap (λ (k : Kept). k.binds) p, same_error _ _ c.from_residual-in_err-t.ensures)
          (wi.widen_on _ _ _ _ _ _ _ _ _ _ _ c.requires.searching.0 u.sorts.now u.nodes.now u.binds.now u.scratch.now (answer_of (state_of u) c.attempt.result)
          c.attempt.ensures.comes.comes (state_of u) m _ _ _ _ _
          (wi.widen_full _ _ _ _ _ _ _ _ _ _ _ a
          (wi.still_there _ _ _ _ _ _ _ _ _ _ _ c.requires.searching.0 u.sorts.now u.nodes.now u.binds.now u.scratch.now (answer_of (state_of u) c.attempt.result)
          c.attempt.ensures.comes.comes (state_of u) m _ c.requires.searching.1)
          (wi.still_there _ _ _ _ _ _ _ _ _ _ _ c.requires.searching.0 u.sorts.now u.nodes.now u.binds.now u.scratch.now (answer_of (state_of u) c.attempt.result)
          c.attempt.ensures.comes.comes (state_of u) m _ c.requires.searching.2)
          _ _ _ c.widenings_in_search.result w.0 _ c.in_err-t.was));
    }

pub solve_widening-returns-in_default-clause-comes : goal.solve_widening-returns-in_default-clause-comes
solve_widening-returns-in_default-clause-comes t c =
    let u = c.attempt.new.search in
    let w = c.widenings_in_search.ensures.finds in
    let p = w.1 in
    let m = ap (answer_of (state_of u)) (c.in_ok-attempt.was ∙ ap Ok c.if-branch.false) in
    let a = wi.asked_again _ _ _ _ _ _ _ _ _ _ _ c.requires.searching.0 u.sorts.now u.nodes.now u.binds.now u.scratch.now (answer_of (state_of u) c.attempt.result)
    c.attempt.ensures.comes.comes (state_of u) m in
    record {
      problem = ap (λ (k : Kept). k.given) p ∙ c.attempt.ensures.comes.problem;
      comes =
          rw (w.2, ap (λ (k : Kept). k.binds) p)
          (wi.widen_on _ _ _ _ _ _ _ _ _ _ _ c.requires.searching.0 u.sorts.now u.nodes.now u.binds.now u.scratch.now (answer_of (state_of u) c.attempt.result)
          c.attempt.ensures.comes.comes (state_of u) m _ _ _ _ _
          (wi.widen_none _ _ _ _ _ _ _ _ _ _ _ a
          (wi.still_there _ _ _ _ _ _ _ _ _ _ _ c.requires.searching.0 u.sorts.now u.nodes.now u.binds.now u.scratch.now (answer_of (state_of u) c.attempt.result)
          c.attempt.ensures.comes.comes (state_of u) m _ c.requires.searching.1)
          (wi.still_there _ _ _ _ _ _ _ _ _ _ _ c.requires.searching.0 u.sorts.now u.nodes.now u.binds.now u.scratch.now (answer_of (state_of u) c.attempt.result)
          c.attempt.ensures.comes.comes (state_of u) m _ c.requires.searching.2)
          _ _ _ c.widenings_in_search.result w.0 (c.in_ok-t.was ∙ ap Ok (not_some _ c.in_default.not-Some)) _
          (state_kept u c.widenings_in_search.new.search c.args.at p)));
    }

pub solve_widening-tries-requires : goal.solve_widening-tries-requires
solve_widening-tries-requires t c =
    let s = c.args.search.now in
    let u = c.attempt.new.search in
    let v = c.widenings_in_search.new.search in
    let w = c.widenings_in_search.ensures.finds in
    let p = w.1 in
    let g = ap (λ (k : Kept). k.given) p ∙ c.attempt.ensures.comes.problem in
    let m = ap (answer_of (state_of u)) (c.in_ok-attempt.was ∙ ap Ok c.if-branch.false) in
    let a = wi.asked_again _ _ _ _ _ _ _ _ _ _ _ c.requires.searching.0 u.sorts.now u.nodes.now u.binds.now u.scratch.now (answer_of (state_of u) c.attempt.result)
    c.attempt.ensures.comes.comes (state_of u) m in
    let l = wi.still_there _ _ _ _ _ _ _ _ _ _ _ c.requires.searching.0 u.sorts.now u.nodes.now u.binds.now u.scratch.now (answer_of (state_of u) c.attempt.result)
    c.attempt.ensures.comes.comes (state_of u) m _ c.requires.searching.1 in
    let r = wi.still_there _ _ _ _ _ _ _ _ _ _ _ c.requires.searching.0 u.sorts.now u.nodes.now u.binds.now u.scratch.now (answer_of (state_of u) c.attempt.result)
    c.attempt.ensures.comes.comes (state_of u) m _ c.requires.searching.2 in
    let i = c.in_ok-t.was ∙ ap Ok c.in-Some.is in (
      omega (arith, c.decreases, ap (λ (y : Given). work y.sizes.constraints c.args.next) g),
      (
        (
          asked_on s v c.args.at g _ _ _
              (rw (w.2, ap (λ (k : Kept). k.binds) p) (wi.tries_asked _ _ _ _ _ _ _ _ _ _ _ a l r _ _ _ c.widenings_in_search.result w.0 _ i _
              (state_kept u v c.args.at p))),
          wi.tries_fine_here _ _ _ _ _ _ _ _ _ _ _ a l r _ _ _ c.widenings_in_search.result w.0 _ i _ (state_kept u v c.args.at p),
        ),
        c.in_ok-t.ensures.indexed,
      ),
    )

pub solve_widening-returns-in_err-found-clause-comes : goal.solve_widening-returns-in_err-found-clause-comes
solve_widening-returns-in_err-found-clause-comes t c =
    let s = c.args.search.now in
    let u = c.attempt.new.search in
    let v = c.widenings_in_search.new.search in
    let x = c.tries.new.search in
    let w = c.widenings_in_search.ensures.finds in
    let p = w.1 in
    let g = ap (λ (k : Kept). k.given) p ∙ c.attempt.ensures.comes.problem in
    let m = ap (answer_of (state_of u)) (c.in_ok-attempt.was ∙ ap Ok c.if-branch.false) in
    let a = wi.asked_again _ _ _ _ _ _ _ _ _ _ _ c.requires.searching.0 u.sorts.now u.nodes.now u.binds.now u.scratch.now (answer_of (state_of u) c.attempt.result)
    c.attempt.ensures.comes.comes (state_of u) m in
    let l = wi.still_there _ _ _ _ _ _ _ _ _ _ _ c.requires.searching.0 u.sorts.now u.nodes.now u.binds.now u.scratch.now (answer_of (state_of u) c.attempt.result)
    c.attempt.ensures.comes.comes (state_of u) m _ c.requires.searching.1 in
    let r = wi.still_there _ _ _ _ _ _ _ _ _ _ _ c.requires.searching.0 u.sorts.now u.nodes.now u.binds.now u.scratch.now (answer_of (state_of u) c.attempt.result)
    c.attempt.ensures.comes.comes (state_of u) m _ c.requires.searching.2 in
    let i = c.in_ok-t.was ∙ ap Ok c.in-Some.is in
    record {
      problem = c.tries.ensures.comes.problem ∙ g;
      comes =
          wi.widen_on _ _ _ _ _ _ _ _ _ _ _ c.requires.searching.0 u.sorts.now u.nodes.now u.binds.now u.scratch.now (answer_of (state_of u) c.attempt.result)
          c.attempt.ensures.comes.comes (state_of u) m _ _ _ _ _
          (wi.widen_tries _ _ _ _ _ _ _ _ _ _ _ a l r _ _ _ c.widenings_in_search.result w.0 _ i _ (state_kept u v c.args.at p)
          x.sorts.now x.nodes.now x.binds.now x.scratch.now (answer_of (state_of x) c.tries.result)
          (rw (w.2, ap (λ (k : Kept). k.binds) p) at (comes_on s v c.args.at g _ _ _ c.tries.ensures.comes)) _
          (ap (answer_of (state_of x)) (same_error _ _ c.from_residual-in_err-found.ensures)
          ∙ sym (ap (λ y. given_back_to u.lengths (answer_of (state_of x) y)) c.in_err-found.was)));
    }

pub solve_widening-returns-clause-comes : goal.solve_widening-returns-clause-comes
solve_widening-returns-clause-comes t c =
    let s = c.args.search.now in
    let u = c.attempt.new.search in
    let v = c.widenings_in_search.new.search in
    let x = c.tries.new.search in
    let w = c.widenings_in_search.ensures.finds in
    let p = w.1 in
    let g = ap (λ (k : Kept). k.given) p ∙ c.attempt.ensures.comes.problem in
    let m = ap (answer_of (state_of u)) (c.in_ok-attempt.was ∙ ap Ok c.if-branch.false) in
    let a = wi.asked_again _ _ _ _ _ _ _ _ _ _ _ c.requires.searching.0 u.sorts.now u.nodes.now u.binds.now u.scratch.now (answer_of (state_of u) c.attempt.result)
    c.attempt.ensures.comes.comes (state_of u) m in
    let l = wi.still_there _ _ _ _ _ _ _ _ _ _ _ c.requires.searching.0 u.sorts.now u.nodes.now u.binds.now u.scratch.now (answer_of (state_of u) c.attempt.result)
    c.attempt.ensures.comes.comes (state_of u) m _ c.requires.searching.1 in
    let r = wi.still_there _ _ _ _ _ _ _ _ _ _ _ c.requires.searching.0 u.sorts.now u.nodes.now u.binds.now u.scratch.now (answer_of (state_of u) c.attempt.result)
    c.attempt.ensures.comes.comes (state_of u) m _ c.requires.searching.2 in
    let i = c.in_ok-t.was ∙ ap Ok c.in-Some.is in
    record {
      problem = c.tries.ensures.comes.problem ∙ g;
      comes =
          wi.widen_on _ _ _ _ _ _ _ _ _ _ _ c.requires.searching.0 u.sorts.now u.nodes.now u.binds.now u.scratch.now (answer_of (state_of u) c.attempt.result)
          c.attempt.ensures.comes.comes (state_of u) m _ _ _ _ _
          (wi.widen_tries _ _ _ _ _ _ _ _ _ _ _ a l r _ _ _ c.widenings_in_search.result w.0 _ i _ (state_kept u v c.args.at p)
          x.sorts.now x.nodes.now x.binds.now x.scratch.now (answer_of (state_of x) c.tries.result)
          (rw (w.2, ap (λ (k : Kept). k.binds) p) at (comes_on s v c.args.at g _ _ _ c.tries.ensures.comes)) _
          (st.returned (state_of x) u.lengths _ c.give_back-search.ensures _ _ c.in_ok-found.was));
    }

pub solve_widening-returns-clause-indexed : goal.solve_widening-returns-clause-indexed
solve_widening-returns-clause-indexed t c =
    let x = c.tries.new.search in
    index_given_back x.sorts.now x.index.now c.attempt.new.search.lengths x.lengths _ c.give_back-search.ensures c.in_ok-found.ensures.indexed

-- `tries`: one try after another up to the first that found.
pub tries-attempt-requires : goal.tries-attempt-requires
tries-attempt-requires t c = (
  omega (arith, c.decreases, ap (λ (g : Given). work g.sizes.constraints c.args.next) c.loop-j.invariant.left.same),
  (
    (
      st.try_asked _ _ _ _ _ _ c.loop-j.invariant.left,
      st.pair_placed _ _ _ _ _ _ c.loop-j.invariant.left c.loop-j-test.true _ c.try_pairs.ensures _ c.try_component-component.ensures,
    ),
    c.loop-j.invariant.indexed,
  ),
)

pub tries-returns-in_err-attempt-clause-comes : goal.tries-returns-in_err-attempt-clause-comes
tries-returns-in_err-attempt-clause-comes t c =
    st.passed _ _ _ _ _ _ (same_error _ _ c.from_residual.ensures ∙ sym c.in_err-attempt.was)
    (st.tries_stop _ _ _ _ _ _ c.loop-j.invariant.left c.loop-j-test.true _ c.try_pairs.ensures _ c.try_component-component.ensures _ _ c.attempt.ensures.comes
    (ended_not_missed _ _ _ c.in_err-attempt.was))

pub tries-returns-then-branch-clause-comes : goal.tries-returns-then-branch-clause-comes
tries-returns-then-branch-clause-comes t c =
    let f = c.in_ok-attempt.was ∙ ap Ok c.if-branch.true in
    st.passed _ _ _ _ _ _ (sym f)
    (st.tries_stop _ _ _ _ _ _ c.loop-j.invariant.left c.loop-j-test.true _ c.try_pairs.ensures _ c.try_component-component.ensures _ _ c.attempt.ensures.comes
    (found_not_missed _ _ f))

pub tries-loop-j-preserved : goal.tries-loop-j-preserved
tries-loop-j-preserved t c =
    record {
      left = st.tries_more _ _ _ _ _ _ c.loop-j.invariant.left c.loop-j-test.true _ c.try_pairs.ensures _ c.try_component-component.ensures _ _ c.attempt.ensures.comes
          (c.in_ok-attempt.was ∙ ap Ok c.if-branch.false);
      indexed = c.in_ok-attempt.ensures.indexed;
    }

pub tries-returns-clause-comes : goal.tries-returns-clause-comes
tries-returns-clause-comes t c = st.tries_over _ _ _ _ _ _ c.loop-j.invariant.left c.loop-j-test.false
