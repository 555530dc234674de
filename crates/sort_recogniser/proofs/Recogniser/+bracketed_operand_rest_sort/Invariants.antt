-- Each call is further along the line, or the first operand at the start of a sort. Assumes nothing.
use Rattle.std.proofs.Common.{◌+◌, ◌-◌, ◌*◌, length}
use Rattle.sort_recogniser.proofs.Recogniser.+bracketed_operand_rest_sort.Given as goal

abbrev pub decreases-bracketed : goal.decreases-bracketed
decreases-bracketed l = (length l.self.now.reader.line.now - l.self.now.reader.at) * 2

abbrev pub decreases-operand : goal.decreases-operand
decreases-operand l = (length l.self.now.reader.line.now - l.self.now.reader.at) * 2

abbrev pub decreases-rest : goal.decreases-rest
decreases-rest l = (length l.self.now.reader.line.now - l.self.now.reader.at) * 2

abbrev pub decreases-sort : goal.decreases-sort
decreases-sort l = (length l.self.now.reader.line.now - l.self.now.reader.at) * 2 + 1
