-- Each arm rewrites by the word it tested; past the kinds the default is what `get_or` gives. Assumes nothing.
use Rattle.std.proofs.Common.{[], ◌∷◌, arith, sym, Ok, Err}
use Rattle.std.proofs.Math.ListN.{get_or-eq_default}
use Rattle.problem_words.specs.declared.ConstraintKind.TheVariants.{Sub, Lit, Disjunction, Comprehension, Join}
use Rattle.problem_words.specs.Kinds.{kind_of}
use Rattle.problem_words.proofs.ConstraintKindTryFromU16.try_from.Goals as goal

pub returns-in-0 : goal.returns-in-0
unfolding kind_of
returns-in-0 c = rw c.in-0.is

pub returns-in-1 : goal.returns-in-1
unfolding kind_of
returns-in-1 c = rw c.in-1.is

pub returns-in-2 : goal.returns-in-2
unfolding kind_of
returns-in-2 c = rw c.in-2.is

pub returns-in-3 : goal.returns-in-3
unfolding kind_of
returns-in-3 c = rw c.in-3.is

pub returns-in-4 : goal.returns-in-4
unfolding kind_of
returns-in-4 c = rw c.in-4.is

pub returns-in_default : goal.returns-in_default
unfolding kind_of
returns-in_default c =
    sym
    (get_or-eq_default (Ok Sub ∷ Ok Lit ∷ Ok Disjunction ∷ Ok Comprehension ∷ Ok Join ∷ [])
    (Err (record { 0 = c.args.word })) {n = c.args.word} (omega arith))
