-- The sum is the component. Assumes nothing.
use Rattle.search_steps.proofs.Laws as law
use Rattle.search_steps.proofs.try_component.Goals as goal

pub returns : goal.returns
returns c = law.component_of_try _ _
