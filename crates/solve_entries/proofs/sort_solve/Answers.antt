-- `sort_solve` meets its contract: the entry, and its answer as one number. Assumes nothing.
use Rattle.solve_entries.proofs.Laws as law
use Rattle.solve_entries.proofs.sort_solve.Goals as goal

pub pack_solved-requires : goal.pack_solved-requires
pack_solved-requires c = law.answer_told _ _ _ _ _ _ _ _ _ _ c.solve.ensures.says
