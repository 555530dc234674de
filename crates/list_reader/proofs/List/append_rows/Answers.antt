-- Row after row. Assumes nothing.
use Rattle.list_reader.proofs.Rows as law
use Rattle.list_reader.proofs.List.append_rows.Goals as goal

pub loop-i-preserved : goal.loop-i-preserved
loop-i-preserved c = search law.adding_more

pub returns : goal.returns
returns c = search law.adding_all
