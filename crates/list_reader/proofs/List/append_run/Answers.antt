-- Word after word of the line. Assumes nothing.
use Rattle.list_reader.proofs.Rows as law
use Rattle.list_reader.proofs.List.append_run.Goals as goal

pub loop-i-preserved : goal.loop-i-preserved
loop-i-preserved c = search law.running_more

pub returns : goal.returns
returns c = search law.running_all
