-- The last line of output has room, and it is what the end prints. Assumes nothing.
use Rattle.std.proofs.Common.{subst, arith}
use Rattle.std.specs.Prelude.{OnOk}
use Rattle.std.specs.Io.KnownBytes.{Appends}
use Rattle.pair_input.proofs.Ways as way
use Rattle.pairs.proofs.Runs as law
use Rattle.pairs.proofs.Pairs.at_end.Goals as goal

pub write-requires : goal.write-requires
write-requires g c = way.end_inside _ c.finish-count.ensures (omega arith)

pub returns : goal.returns
returns g c =
    subst (λ bs. OnOk c.write.result (Appends (g.W.Write.contents c.args.self.now.to) (g.W.Write.contents c.write.new.self.to) bs))
    (law.front_of c.args.self.now.out _ c.finish-count.new.out _ c.finish-count.ensures (way.end_inside _ c.finish-count.ensures (omega arith)))
    c.write.ensures.written
