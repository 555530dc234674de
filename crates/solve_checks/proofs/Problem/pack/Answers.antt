-- Each copy has room, since the copies before it leave the length; what they come to is the problem. Assumes nothing.
use Rattle.problem_words.proofs.Packing.{packed}
use Rattle.solve_checks.proofs.Problem.pack.Goals as goal

pub returns : goal.returns
returns c =
    let p = c.args.self.now in
    packed c.args.lists.now p.exprs.now p.constraints.now p.overloads.now p.sources.now c.args.sizes
    c.requires c.copy.new.to c.copy-2.new.to c.copy-3.new.to c.copy-4.new.to
    c.copy.ensures c.copy-2.ensures c.copy-3.ensures c.copy-4.ensures
