-- "one name target or none per expression (base names, overwritten by choices)"
use Rattle.std.specs.Prelude.{cond, List, [], ◌∷◌, ℕ, ◌+◌, eqb, get_or}
use Rattle.std.proofs.Math.Option.{Option, none, some}
use Rattle.resolved_sort.specs.declared.Run.{Run}
use Rattle.inference.specs.declared.NameTarget.{NameTarget}
use Rattle.inference.specs.declared.NameTarget.TheVariants.{Variable, Op, Builtin}
use Rattle.inference.specs.declared.Overload.{Overload}
use Rattle.inference.specs.declared.Constraint.{Constraint}
use Rattle.inference.specs.declared.Constraint.TheVariants.{Sub, Lit, Disjunction, Comprehension, Join}
use Rattle.inference.specs.Constraints.{BaseName, Problem}
use Rattle.inference.specs.Search.{Choice}

-- the overloads that a constraint offers for an expression
abbrev pub run_of : ℕ → Constraint → Option Run
run_of x (Sub l r) = none
run_of x (Lit p kind) = none
run_of x (Disjunction y p run) = cond (eqb y.0 x) (some run) none
run_of x (Comprehension body node element) = none
run_of x (Join run t) = none

abbrev pub or_else : {A : Type 0} → Option A → Option A → Option A
or_else none b = b
or_else (some a) b = some a

unfoldable pub run_for : ℕ → List Constraint → Option Run
run_for x [] = none
run_for x (c ∷ cs) = or_else (run_of x c) (run_for x cs)

-- "The chosen overload is the one that the choice list names": position i in the run
abbrev pub overload_in : List Overload → Run → ℕ → Overload
overload_in os run i = get_or os (run.start + i) (record { target = Variable; sort = record { 0 = 0 } })

abbrev pub target_in : List Overload → ℕ → Option Run → Option NameTarget
target_in os i none = none
target_in os i (some run) = some (overload_in os run i).target

unfoldable pub chosen_name : Problem → List Choice → ℕ → Option NameTarget
chosen_name P [] x = none
chosen_name P (c ∷ cs) x =
    cond (eqb c.expr x) (target_in P.overloads c.position (run_for x P.constraints))
    (chosen_name P cs x)

unfoldable pub base_name : List BaseName → ℕ → Option NameTarget
base_name [] x = none
base_name (b ∷ bs) x = cond (eqb b.key x) (some b.target) (base_name bs x)

unfoldable pub name_of : Problem → List BaseName → List Choice → ℕ → Option NameTarget
name_of P bs cs x = or_else (chosen_name P cs x) (base_name bs x)

-- a name in two words
abbrev pub name_kind : Option NameTarget → ℕ
name_kind none = 0
name_kind (some Variable) = 1
name_kind (some (Op s)) = 2
name_kind (some Builtin) = 3

abbrev pub name_sort : Option NameTarget → ℕ
name_sort none = 0
name_sort (some Variable) = 0
name_sort (some (Op s)) = s.0
name_sort (some Builtin) = 0
