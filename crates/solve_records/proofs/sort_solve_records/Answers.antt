-- `sort_solve_records` meets its contract: the entry, and its answer as one number. Assumes nothing.
use Rattle.solve_entries.proofs.Laws as law
use Rattle.solve_records.proofs.sort_solve_records.Goals as goal

pub pack_solved-requires : goal.pack_solved-requires
pack_solved-requires c = law.answer_told _ _ _ _ _ _ _ _ _ _ c.solve_records.ensures.says
