-- By what is held and by the byte. Assumes nothing.
use Rattle.std.proofs.Common.{arith}
use Rattle.pair_input.proofs.Ways as law
use Rattle.pair_input.proofs.take_byte.Goals as goal

pub returns-in-First-eq10-clause-kept : goal.returns-in-First-eq10-clause-kept
returns-in-First-eq10-clause-kept c = (law.first_ends _ _ _ c.requires _ c.in-First-eq10.is-0 c.in-First-eq10.is-1).0

pub returns-in-First-eq10-clause-put : goal.returns-in-First-eq10-clause-put
returns-in-First-eq10-clause-put c = (law.first_ends _ _ _ c.requires _ c.in-First-eq10.is-0 c.in-First-eq10.is-1).1 c.args.out.now

pub returns-in-First-default-clause-kept : goal.returns-in-First-default-clause-kept
returns-in-First-default-clause-kept c =
    (law.first_goes_on _ _ _ c.requires _ c.in-First-default.is-0 c.in-First-default.is-1.1 _ _ c.hold.ensures).0

pub returns-in-First-default-clause-put : goal.returns-in-First-default-clause-put
returns-in-First-default-clause-put c =
    (law.first_goes_on _ _ _ c.requires _ c.in-First-default.is-0 c.in-First-default.is-1.1 c.hold.new.memory c.hold.result c.hold.ensures).1 c.args.out.now

pub put_held-requires : goal.put_held-requires
put_held-requires c = law.both_inside _ _ c.args.byte c.requires _ _ c.in-Second-eq10.is-0

pub returns-in-Second-eq10-clause-kept : goal.returns-in-Second-eq10-clause-kept
returns-in-Second-eq10-clause-kept c =
    (law.second_ends _ _ _ c.requires _ _ c.in-Second-eq10.is-0 c.in-Second-eq10.is-1 c.args.out.now c.put_held.ensures).0

pub returns-in-Second-eq10-clause-put : goal.returns-in-Second-eq10-clause-put
returns-in-Second-eq10-clause-put c =
    (law.second_ends _ _ _ c.requires _ _ c.in-Second-eq10.is-0 c.in-Second-eq10.is-1 c.args.out.now c.put_held.ensures).1

pub hold-requires-in-Second-default : goal.hold-requires-in-Second-default
hold-requires-in-Second-default c =
    omega (arith, (law.second_few c.args.memory.now c.args.held c.args.byte c.requires _ _ c.in-Second-default.is-0).0, c.requires.long)

pub returns-in-Second-default-clause-kept : goal.returns-in-Second-default-clause-kept
returns-in-Second-default-clause-kept c =
    (law.second_goes_on _ _ _ c.requires _ _ c.in-Second-default.is-0 c.in-Second-default.is-1.1 _ _ c.hold-in-Second-default.ensures).0

pub returns-in-Second-default-clause-put : goal.returns-in-Second-default-clause-put
returns-in-Second-default-clause-put c =
    (law.second_goes_on _ _ _ c.requires _ _ c.in-Second-default.is-0 c.in-Second-default.is-1.1 c.hold-in-Second-default.new.memory
    c.hold-in-Second-default.result c.hold-in-Second-default.ensures).1 c.args.out.now
