-- A row's third word, past the constraints. Assumes nothing.
use Rattle.search_state.specs.Inner.Memory.{overloads_at}
use Rattle.std.proofs.Common.{◌+◌, ◌*◌, ◌∙◌, sym, get_or-drop}
use Rattle.problem_words.proofs.overload_place.Goals as goal

pub returns : goal.returns
returns c = c.word.ensures ∙ sym (get_or-drop overloads_at c.args.lists.now (3 * c.args.i + 2) 0)
