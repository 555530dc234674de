-- What a call leaves, with nodes, bindings, scratch and index as the list lends them. Assumes nothing.
use mathlib.Core.Path.{◌≡◌, ◌∙◌, ap}
use mathlib.Core.List.{List}
use Prim.Native.Nat.{ℕ}
use Rattle.inference.specs.SolveEntry.{Solved, solve_entry}
use Rattle.solve_checks.specs.declared.Given.{Given}
use Rattle.solve_outputs.specs.Finish.{solve_left}
use Rattle.list_call.specs.Lists.{given_in, nodes_in, binds_in, scratch_in, index_in, call_by, call_on}
use Rattle.list_solve.specs.Inner.Asked.{list_answer, list_answer_of}

pub asked_alone :
    (ws ss ns bs xs ix ts ms cs : List ℕ) (g : Given) → g ≡ given_in ws → ns ≡ nodes_in ws → bs ≡ binds_in ws → xs ≡ scratch_in ws
    → ix ≡ index_in ws → (r : Solved) (ss' ns' bs' xs' ix' ts' ms' cs' : List ℕ)
    → solve_left r ss' ns' bs' xs' ix' ts' ms' cs' ≡ solve_entry (call_by ws g ss ns bs xs ix ts ms cs)
    → list_answer r ss' ts' ms' cs' ≡ list_answer_of (solve_entry (call_on ws ss ts ms cs))
asked_alone ws ss ns bs xs ix ts ms cs g eg en eb ex ei r ss' ns' bs' xs' ix' ts' ms' cs' e =
    ap list_answer_of (e ∙ (λ i. solve_entry (call_by ws (eg i) ss (en i) (eb i) (ex i) (ei i) ts ms cs)))
