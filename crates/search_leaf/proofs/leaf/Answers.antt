-- By rank, and by replace where the leaf is less. Assumes nothing.
use Rattle.std.proofs.Common.{refl}
use Rattle.search_state.specs.Inner.Solving.{state_of}
use Rattle.search_leaf.proofs.Laws as law
use Rattle.search_leaf.proofs.leaf.Goals as goal

pub returns-in-Less-clause-comes : goal.returns-in-Less-clause-comes
returns-in-Less-clause-comes c =
    let s = c.args.search.now in
    record {
      problem = c.replace.ensures.comes.problem;
      comes =
          law.less_replaces s.sorts.now s.nodes.now s.binds.now s.scratch.now s.lists.now s.sizes (state_of s) c.args.at c.requires.at_leaf
          c.rank.result c.rank.ensures c.in-Less.is _ _ _ _ _ c.replace.ensures.comes.comes;
    }

pub returns-in-Equal-clause-comes : goal.returns-in-Equal-clause-comes
returns-in-Equal-clause-comes c =
    let s = c.args.search.now in
    record {
      problem = refl;
      comes =
          law.equal_marks s.sorts.now s.nodes.now s.binds.now s.scratch.now s.lists.now s.sizes (state_of s) c.args.at c.requires.at_leaf
          c.rank.result c.rank.ensures c.in-Equal.is;
    }

pub returns-in-Greater-clause-comes : goal.returns-in-Greater-clause-comes
returns-in-Greater-clause-comes c =
    let s = c.args.search.now in
    record {
      problem = refl;
      comes =
          law.greater_stays s.sorts.now s.nodes.now s.binds.now s.scratch.now s.lists.now s.sizes (state_of s) c.args.at c.requires.at_leaf
          c.rank.result c.rank.ensures c.in-Greater.is;
    }
