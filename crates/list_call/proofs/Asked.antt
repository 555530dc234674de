-- The call that asks, by what its slices and counts are. Assumes nothing.
use mathlib.Core.Path.{◌≡◌, ◌∙◌}
use mathlib.Core.List.{List}
use Prim.Native.Nat.{ℕ}
use Rattle.inference.specs.SolveEntry.{SolveLeft, solve_entry}
use Rattle.solve_checks.specs.declared.Given.{Given}
use Rattle.solve_checks.specs.Call.{call_of}
use Rattle.list_call.specs.Lists.{exprs_in, names_in, constraints_in, overloads_in, sources_in, call_by}

-- the call by what its slices and counts are
module _ (ws : List ℕ) (g : Given) (ss ns bs xs ix ts ms cs : List ℕ) where
  pub asked :
      (es ks os ps qs : List ℕ) → es ≡ exprs_in ws → ks ≡ names_in ws → os ≡ constraints_in ws → ps ≡ overloads_in ws → qs ≡ sources_in ws
      → (L : SolveLeft) → L ≡ solve_entry (call_of g ss ns bs es ks os ps qs xs ix ts ms cs) → L ≡ solve_entry (call_by ws g ss ns bs xs ix ts ms cs)
  asked es ks os ps qs e1 e2 e3 e4 e5 L h = h ∙ (λ i. solve_entry (call_of g ss ns bs (e1 i) (e2 i) (e3 i) (e4 i) (e5 i) xs ix ts ms cs))
