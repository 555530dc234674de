-- What `all` ran. Assumes nothing.
use Rattle.std.proofs.Common.{rules, tests, ◌∙◌}
use Rattle.std.proofs.lemmas.Iterator.{YieldsList-from_slice}
use Rattle.std.proofs.lemmas.Iterator.Search.{all_from_yields_List}
use Rattle.node_checks.proofs.Settling as law
use Rattle.node_checks.proofs.all_set.Goals as goal

pub returns : goal.returns
returns c =
    all_from_yields_List (λ b. b) c.all.new.self _ _ c.all.ensures.ran (YieldsList-from_slice c.args.flags.now cc)
    (λ x b q k. search (rules, tests))
    ∙ law.flags_set c.args.flags.now
