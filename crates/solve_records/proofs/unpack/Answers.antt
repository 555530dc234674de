-- A record more stores its words. Assumes nothing.
use Rattle.std.proofs.Common.{arith}
use Rattle.solve_records.proofs.Unpacked.{records_go_on, records_end}
use Rattle.solve_records.proofs.unpack.Goals as goal

pub loop-i-preserved : goal.loop-i-preserved
loop-i-preserved c =
    let l = c.loop-i in
    records_go_on c.args.records.now l.words l.i l.invariant (omega (arith, c.loop-i-test.true, c.at_most-i-end.ensures)) _
    c.put_record.ensures

pub returns : goal.returns
returns c =
    let l = c.loop-i in
    records_end c.args.records.now l.words l.i l.invariant (omega (arith, c.loop-i-test.false, c.at_most-i-end.ensures))
