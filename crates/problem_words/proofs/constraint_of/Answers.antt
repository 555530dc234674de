-- Each arm is what the words say of the kind it tested. Assumes nothing.
use Rattle.problem_words.proofs.Said.{said_so}
use Rattle.problem_words.proofs.constraint_of.Goals as goal

pub returns-in-Sub : goal.returns-in-Sub
returns-in-Sub c =
    let a = c.args in
    said_so a.a a.b a.c a.d a.kind _ c.try_from.ensures _ c.unwrap_or.ensures _ c.in-Sub.is

pub returns-in-Lit : goal.returns-in-Lit
returns-in-Lit c =
    let a = c.args in
    rw c.lit_kind.ensures
    (said_so a.a a.b a.c a.d a.kind _ c.try_from.ensures _ c.unwrap_or.ensures _ c.in-Lit.is)

pub returns-in-Disjunction : goal.returns-in-Disjunction
returns-in-Disjunction c =
    let a = c.args in
    said_so a.a a.b a.c a.d a.kind _ c.try_from.ensures _ c.unwrap_or.ensures _ c.in-Disjunction.is

pub returns-in-Comprehension : goal.returns-in-Comprehension
returns-in-Comprehension c =
    let a = c.args in
    said_so a.a a.b a.c a.d a.kind _ c.try_from.ensures _ c.unwrap_or.ensures _ c.in-Comprehension.is

pub returns-in-Join : goal.returns-in-Join
returns-in-Join c =
    let a = c.args in
    said_so a.a a.b a.c a.d a.kind _ c.try_from.ensures _ c.unwrap_or.ensures _ c.in-Join.is
