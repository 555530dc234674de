-- By what the read comes to. Assumes nothing.
use Rattle.std.proofs.Common.{arith}
use Rattle.std.proofs.lemmas.Result.{err_from_is_err_and}
use Rattle.pairs.specs.Printed.{AfterRead}
use Rattle.pairs.proofs.Runs as law
use Rattle.pairs.proofs.Pairs.read_some.Goals as goal

pub returns-in-Err : goal.returns-in-Err
unfolding AfterRead
returns-in-Err g c = tt

pub returns-in_err-at_end-in-Ok-eq0 : goal.returns-in_err-at_end-in-Ok-eq0
unfolding AfterRead
returns-in_err-at_end-in-Ok-eq0 g c =
    let p = err_from_is_err_and c.from_residual.result c.from_residual.ensures.1 in rw (p.1) tt

pub returns-in_err-take_bytes-in-Ok : goal.returns-in_err-take_bytes-in-Ok
unfolding AfterRead
returns-in_err-take_bytes-in-Ok g c =
    let p = err_from_is_err_and c.from_residual-in_err-take_bytes-in-Ok.result c.from_residual-in_err-take_bytes-in-Ok.ensures.1 in rw (p.1) tt

pub returns-in_ok-at_end-in-Ok-eq0 : goal.returns-in_ok-at_end-in-Ok-eq0
unfolding AfterRead
returns-in_ok-at_end-in-Ok-eq0 g c = record {
  read = law.no_bytes c.in-Ok-eq0.field-0 _ _ c.read.new.buf c.in-Ok-eq0.field-0-test c.in-Ok-eq0.ensures.bytes.0;
  ended = c.in-Ok-eq0.ensures.bytes.1 c.in-Ok-eq0.field-0-test (omega arith);
  written = c.in_ok-at_end-in-Ok-eq0.ensures;
}

pub returns-in_ok-take_bytes-in-Ok : goal.returns-in_ok-take_bytes-in-Ok
unfolding AfterRead
returns-in_ok-take_bytes-in-Ok g c =
    let x = c.in_ok-take_bytes-in-Ok.ensures in
    record { part = _; read = c.in-Ok.ensures.bytes.0; lines = x.taken; written = x.written }
