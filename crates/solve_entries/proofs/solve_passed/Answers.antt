-- `solve_passed` meets its contract: the lists are packed, searched, and left as the outcome says. Assumes nothing.
use Rattle.std.proofs.Common.{◌≡◌, ◌∙◌, ap, length, rules, sym}
use Rattle.search_state.specs.Inner.Solving.{Given}
use Rattle.solve_entries.proofs.Laws as law
use Rattle.solve_entries.proofs.solve_passed.Goals as goal

pub lengths_of-lengths-requires : goal.lengths_of-lengths-requires
lengths_of-lengths-requires c =
    let a = c.args in
    law.lengths_fit a.problem.now a.sorts.now a.nodes.now a.binds.now a.scratch.now a.index.now a.handout.now c.requires

pub sizes_of-sizes-requires : goal.sizes_of-sizes-requires
sizes_of-sizes-requires c =
    let a = c.args in
    law.sizes_fit a.problem.now a.sorts.now a.nodes.now a.binds.now a.scratch.now a.index.now a.handout.now c.requires

pub pack-requires : goal.pack-requires
pack-requires c =
    let a = c.args in
    law.can_be_packed a.problem.now a.sorts.now a.nodes.now a.binds.now a.scratch.now a.index.now a.handout.now c.requires _ c.sizes_of-sizes.ensures _ (search rules)

pub invariant_of-names : goal.invariant_of-names
invariant_of-names c =
    let a = c.args in
    record { whole = law.names_lent a.problem.now a.sorts.now a.nodes.now a.binds.now a.scratch.now a.index.now a.handout.now c.requires }

pub invariant_of-search : goal.invariant_of-search
invariant_of-search c =
    let a = c.args in
    record {
      room = (law.search_asked a.problem.now a.sorts.now a.nodes.now a.binds.now a.scratch.now a.index.now a.handout.now c.requires _ c.sizes_of-sizes.ensures _ c.pack.ensures _
          c.lengths_of-lengths.ensures).0.long;
    }

pub run-requires-clause-fine : goal.run-requires-clause-fine
run-requires-clause-fine c =
    let a = c.args in
    law.search_asked a.problem.now a.sorts.now a.nodes.now a.binds.now a.scratch.now a.index.now a.handout.now c.requires _ c.sizes_of-sizes.ensures _ c.pack.ensures _
    c.lengths_of-lengths.ensures

pub returns-clause-says : goal.returns-clause-says
returns-clause-says c =
    let a = c.args in
    let n = c.run.ensures.same_problem in
    let ws = c.sorts-1.given.1.1 (sym (ap (λ (g : Given). g.sorts) n)) in
    let ns = c.nodes-1.given.1.1 (sym (ap (λ (g : Given). g.nodes) n)) in
    let bs = c.binds-1.given.1.1 (sym (ap (λ (g : Given). g.binds) n)) in
    let sc = c.scratch-1.given.1.1 (sym (ap (λ (g : Given). g.scratch) n)) in
    let ix = c.index-2-1.given.1.1 (sym (ap (λ (g : Given). g.index) n)) in
    let l : length c.index-2-1.given.0 ≡ length c.args.index.now = c.index-2-1.given.1.0 ∙ c.fill_index.auto.index in
    rw (ws, ns, bs, sc, ix) (law.is_outcome a.problem.now a.sorts.now a.nodes.now a.binds.now a.scratch.now a.index.now a.handout.now c.requires _ c.sizes_of-sizes.ensures _ c.pack.ensures _
    c.lengths_of-lengths.ensures _ c.run.ensures.says (ap length (sym ix) ∙ l))

pub fill_index-requires : goal.fill_index-requires
fill_index-requires c =
    let a = c.args in
    law.index_lent a.problem.now a.sorts.now a.nodes.now a.binds.now a.scratch.now a.index.now a.handout.now c.requires _ c.lengths_of-lengths.ensures
