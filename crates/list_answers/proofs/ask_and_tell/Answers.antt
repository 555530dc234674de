-- What the solver leaves can be told. Assumes nothing.
use Rattle.list_answers.proofs.Telling as law
use Rattle.list_answers.proofs.ask_and_tell.Goals as goal

pub tell-requires : goal.tell-requires
tell-requires c = law.answer_tellable _ _ _ _ _ _ c.ask-answer.ensures.says
