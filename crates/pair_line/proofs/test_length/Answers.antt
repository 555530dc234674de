-- By the length. Assumes nothing.
use Rattle.pair_line.proofs.Ways as law
use Rattle.pair_line.proofs.test_length.Goals as goal

pub returns-then-line-gt-MAX_LINE : goal.returns-then-line-gt-MAX_LINE
returns-then-line-gt-MAX_LINE c = law.length_fails _ c.if-line-gt-MAX_LINE.true

pub returns : goal.returns
returns c = law.length_passes _ c.if-line-gt-MAX_LINE.false
