-- Only a function has a run; of every other kind it is empty. Assumes nothing.
use Rattle.sort_interner.proofs.Rows as law
use Rattle.sort_interner.proofs.run_at.Goals as goal

pub returns-then-kind_at-eq-FUNCTION_KIND : goal.returns-then-kind_at-eq-FUNCTION_KIND
returns-then-kind_at-eq-FUNCTION_KIND c = search law.function_run

pub returns : goal.returns
returns c = search law.empty_run
