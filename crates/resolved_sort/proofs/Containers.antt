-- A kind is a container's exactly if it is that of its rows. By the kinds one by one. Assumes nothing.
use mathlib.Core.Path.{◌≡◌, refl, sym, ap, ◌∙◌}
use Prim.Native.Nat.{ℕ, zero, suc, ◌≤◌}
use native.Mathlib.Omega.{arith}
use Rattle.std.specs.Prelude.{Result, Ok, Err}
use Rattle.resolved_sort.specs.declared.ComplexSort.{ComplexSort}
use Rattle.resolved_sort.specs.declared.NoContainer.{NoContainer}
use Rattle.resolved_sort.specs.declared.Run.{Run}
use Rattle.resolved_sort.specs.declared.ResolvedSort.{ResolvedSort}
use Rattle.resolved_sort.specs.declared.ResolvedSort.TheVariants.{Container, TypeVar}
use Rattle.resolved_sort.specs.Storage.{container_of, resolved}

-- a kind of none of the five is no container's
pub no_container :
    (kind : ℕ) → (kind ≡ 6 → ⊥) → (kind ≡ 7 → ⊥) → (kind ≡ 8 → ⊥) → (kind ≡ 9 → ⊥) → (kind ≡ 10 → ⊥)
    → Err (record { 0 = kind }) ≡ container_of kind
unfolding container_of
no_container zero a b c d e = refl
no_container (suc zero) a b c d e = refl
no_container (suc (suc zero)) a b c d e = refl
no_container (suc (suc (suc zero))) a b c d e = refl
no_container (suc (suc (suc (suc zero)))) a b c d e = refl
no_container (suc (suc (suc (suc (suc zero))))) a b c d e = refl
no_container (suc (suc (suc (suc (suc (suc zero)))))) a b c d e = absurd (a refl)
no_container (suc (suc (suc (suc (suc (suc (suc zero))))))) a b c d e = absurd (b refl)
no_container (suc (suc (suc (suc (suc (suc (suc (suc zero)))))))) a b c d e = absurd (c refl)
no_container (suc (suc (suc (suc (suc (suc (suc (suc (suc zero))))))))) a b c d e = absurd (d refl)
no_container (suc (suc (suc (suc (suc (suc (suc (suc (suc (suc zero)))))))))) a b c d e = absurd (e refl)
no_container (suc (suc (suc (suc (suc (suc (suc (suc (suc (suc (suc k))))))))))) a b c d e = refl

-- what a row says, by the container that is found of its kind, or else by its kind
abbrev pub says : ℕ → ℕ → Run → Result ComplexSort NoContainer → ResolvedSort
says kind part run (Ok op) = Container op (record { 0 = part })
says kind part run (Err e) = resolved kind part run

abbrev none_says : ℕ → ℕ → Run → Result ComplexSort NoContainer → ResolvedSort
none_says kind part run (Ok op) = TypeVar part
none_says kind part run (Err e) = resolved kind part run

says_resolved : (kind part : ℕ) (run : Run) → says kind part run (container_of kind) ≡ resolved kind part run
unfolding container_of resolved
says_resolved zero part run = refl
says_resolved (suc zero) part run = refl
says_resolved (suc (suc zero)) part run = refl
says_resolved (suc (suc (suc zero))) part run = refl
says_resolved (suc (suc (suc (suc zero)))) part run = refl
says_resolved (suc (suc (suc (suc (suc zero))))) part run = refl
says_resolved (suc (suc (suc (suc (suc (suc zero)))))) part run = refl
says_resolved (suc (suc (suc (suc (suc (suc (suc zero))))))) part run = refl
says_resolved (suc (suc (suc (suc (suc (suc (suc (suc zero)))))))) part run = refl
says_resolved (suc (suc (suc (suc (suc (suc (suc (suc (suc zero))))))))) part run = refl
says_resolved (suc (suc (suc (suc (suc (suc (suc (suc (suc (suc zero)))))))))) part run = refl
says_resolved (suc (suc (suc (suc (suc (suc (suc (suc (suc (suc (suc k))))))))))) part run = refl

pub row_of_container :
    (kind part : ℕ) (run : Run) (op : ComplexSort) → Ok op ≡ container_of kind → Container op (record { 0 = part }) ≡ resolved kind part run
row_of_container kind part run op e = ap (says kind part run) e ∙ says_resolved kind part run

-- and a row past the containers, a function and Def
pub row_of_typevar :
    (kind part : ℕ) (run : Run) (n : NoContainer) → Err n ≡ container_of kind → 6 ≤ kind → (kind ≡ 11 → ⊥) → (kind ≡ 12 → ⊥)
    → TypeVar part ≡ resolved kind part run
unfolding container_of resolved
row_of_typevar zero part run n e l f d = absurd (omega (arith, l))
row_of_typevar (suc zero) part run n e l f d = absurd (omega (arith, l))
row_of_typevar (suc (suc zero)) part run n e l f d = absurd (omega (arith, l))
row_of_typevar (suc (suc (suc zero))) part run n e l f d = absurd (omega (arith, l))
row_of_typevar (suc (suc (suc (suc zero)))) part run n e l f d = absurd (omega (arith, l))
row_of_typevar (suc (suc (suc (suc (suc zero))))) part run n e l f d = absurd (omega (arith, l))
row_of_typevar (suc (suc (suc (suc (suc (suc zero)))))) part run n e l f d = sym (ap (none_says 6 part run) e)
row_of_typevar (suc (suc (suc (suc (suc (suc (suc zero))))))) part run n e l f d = sym (ap (none_says 7 part run) e)
row_of_typevar (suc (suc (suc (suc (suc (suc (suc (suc zero)))))))) part run n e l f d = sym (ap (none_says 8 part run) e)
row_of_typevar (suc (suc (suc (suc (suc (suc (suc (suc (suc zero))))))))) part run n e l f d = sym (ap (none_says 9 part run) e)
row_of_typevar (suc (suc (suc (suc (suc (suc (suc (suc (suc (suc zero)))))))))) part run n e l f d = sym (ap (none_says 10 part run) e)
row_of_typevar (suc (suc (suc (suc (suc (suc (suc (suc (suc (suc (suc zero))))))))))) part run n e l f d = absurd (f refl)
row_of_typevar (suc (suc (suc (suc (suc (suc (suc (suc (suc (suc (suc (suc zero)))))))))))) part run n e l f d = absurd (d refl)
row_of_typevar (suc (suc (suc (suc (suc (suc (suc (suc (suc (suc (suc (suc (suc k))))))))))))) part run n e l f d = refl
