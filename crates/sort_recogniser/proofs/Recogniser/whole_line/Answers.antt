-- A sort, and by the token after it. Assumes nothing.
use Rattle.std.proofs.Common.{refl}
use Rattle.std.proofs.lemmas.Result.{err_from_is_err_and}
use Rattle.sort_recogniser.proofs.States as way
use Rattle.sort_recogniser.proofs.Recogniser.whole_line.Goals as goal

pub returns-in_err-sort-clause-says : goal.returns-in_err-sort-clause-says
returns-in_err-sort-clause-says c =
    let p = err_from_is_err_and c.from_residual.result c.from_residual.ensures.1 in
    rw (p.1, p.2) (way.line_refuses c.args.self.now c.requires.0 c.requires.1 c.sort.new.self _ c.in_err-sort.ensures.says _ refl)

pub returns-clause-says : goal.returns-clause-says
returns-clause-says c =
    way.line_ends c.args.self.now c.requires.0 c.requires.1 c.sort.new.self _ c.in_ok-sort.ensures.says _ refl c.expect.new.self c.expect.ensures.same_steps
    _ c.expect.ensures.met

pub returns-clause-to_its_end : goal.returns-clause-to_its_end
returns-clause-to_its_end c =
    way.line_to_its_end c.args.self.now c.requires.0 c.requires.1 c.sort.new.self _ c.in_ok-sort.ensures.says _ refl c.expect.new.self c.expect.ensures.same_steps
    _ c.expect.ensures.met
