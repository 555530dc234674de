-- By extract, which never ends without a sort, and keep. Assumes nothing.
use Rattle.std.proofs.Common.{refl, ap, ◌∙◌}
use Rattle.std.specs.Prelude.{Ok}
use Rattle.search_state.specs.Inner.Solving.{state_of, Kept}
use Rattle.search_state.proofs.Solving.{no_sort_room}
use Rattle.search_leaf.specs.Inner.Leaf.{kept_as_best}
use Rattle.search_leaf.proofs.Laws as law
use Rattle.search_leaf.proofs.replace.Goals as goal

pub extract-requires-clause-readable : goal.extract-requires-clause-readable
extract-requires-clause-readable c =
    let s = c.args.search.now in
    law.readable s.sorts.now s.nodes.now s.binds.now s.scratch.now s.lists.now s.sizes (state_of s) c.args.at c.requires.at_leaf

pub returns-in_err-extract-clause-comes : goal.returns-in_err-extract-clause-comes
returns-in_err-extract-clause-comes c =
    let s = c.args.search.now in
    let x = c.extract.ensures.extracts in
    record {
      problem = ap (λ (y : Kept). y.given) x.1;
      comes =
          law.as_left s.sorts.now s.nodes.now s.binds.now s.scratch.now s.lists.now s.sizes (state_of s) c.args.at c.requires.at_leaf _ _ _ _ x.2
          (ap (λ (y : Kept). y.binds) x.1) _ _ _ (ap (law.told (state_of c.extract.new.search)) (no_sort_room _ c.from_residual.ensures))
          (law.room_ends s.sorts.now s.nodes.now s.binds.now s.scratch.now s.lists.now s.sizes (state_of s) c.args.at c.requires.at_leaf
          _ _ _ c.extract.result x.0 _ c.in_err-extract.was);
    }

pub returns-then-not-branch : goal.returns-then-not-branch
returns-then-not-branch c =
    let s = c.args.search.now in
    law.never_without s.sorts.now s.nodes.now s.binds.now s.scratch.now s.lists.now s.sizes (state_of s) c.args.at c.requires.at_leaf _ _ _
    c.extract.result c.extract.ensures.extracts.0 (c.in_ok-extract.was ∙ ap Ok c.if-not-branch.true)

pub returns-clause-comes : goal.returns-clause-comes
returns-clause-comes c =
    let s = c.args.search.now in
    let x = c.extract.ensures.extracts in
    record {
      problem = ap (λ (y : Kept). y.given) x.1;
      comes =
          law.as_left s.sorts.now s.nodes.now s.binds.now s.scratch.now s.lists.now s.sizes (state_of s) c.args.at c.requires.at_leaf _ _ _ _ x.2
          (ap (λ (y : Kept). y.binds) x.1) _ _ _ refl
          (law.replaces s.sorts.now s.nodes.now s.binds.now s.scratch.now s.lists.now s.sizes (state_of s) c.args.at c.requires.at_leaf _ _ _
          c.extract.result x.0 (c.in_ok-extract.was ∙ ap Ok c.if-not-branch.false) _
          (c.keep.ensures ∙ ap (λ (y : Kept). kept_as_best y.given.sizes c.extract.new.search.scratch.now) x.1));
    }
