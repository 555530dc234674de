-- `push` meets its contract, by the kind of the step. Assumes nothing.
use Rattle.std.proofs.Common.{refl}
use Rattle.search_steps.proofs.Trying as law
use Rattle.search_steps.proofs.push.Goals as goal

pub returns-in-Nothing : goal.returns-in-Nothing
returns-in-Nothing c = let p = law.pushes_nothing _ _ _ _ c.in-Nothing.is in (p.0, p.1, (refl, refl))

pub returns-in-Component : goal.returns-in-Component
returns-in-Component c = let p = law.pushes_component _ _ _ _ _ c.in-Component.is in (p.0, p.1, (refl, refl))

pub returns-in-Written : goal.returns-in-Written
returns-in-Written c = let p = law.pushes_written _ _ _ _ _ c.in-Written.is in (p.0, p.1, (refl, refl))

pub returns-in-Choice : goal.returns-in-Choice
returns-in-Choice c = let p = law.pushes_choice _ _ _ _ _ c.in-Choice.is in (p.0, p.1, (refl, refl))
