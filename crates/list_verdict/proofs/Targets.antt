-- What a name resolved to, by what its kind is read as. By the first numbers one by one. Assumes nothing.
use mathlib.Core.Path.{◌≡◌, refl, sym, ◌∙◌, ap}
use mathlib.Core.List.{List, [], ◌++◌}
use Prim.Native.Nat.{ℕ, zero, suc}
use native.Mathlib.Omega.{arith}
use borrow.Author.Tests.{ne_eqb}
use Rattle.std.specs.Prelude.{Result, Ok, Err}
use Rattle.inference.specs.declared.NameKind.{NameKind}
use Rattle.inference.specs.declared.NameKind.TheVariants.{Variable, Op, Builtin}
use Rattle.inference.specs.declared.UnknownKind.{UnknownKind}
use Rattle.inference.specs.Kinds.{kind_of_name}
use Rattle.text_out.specs.declared.Out.{Out}
use Rattle.text_out.specs.Outs.{then_put}
use Rattle.text_out.proofs.Outs.{then_put_nothing}
use Rattle.list_verdict.specs.Words.{variable_text, builtin_text, op_text}
use Rattle.list_verdict.specs.Text.{sort_text, target_text}

-- of n sorts in the words ws, the sort s
module _ (ws : List ℕ) (n s : ℕ) where
  abbrev pub said : NameKind → List ℕ
  said Variable = variable_text
  said Op = op_text ++ sort_text ws n s
  said Builtin = builtin_text

  -- what is said of a kind, or of a number that is none
  abbrev said_if : Result NameKind UnknownKind → List ℕ
  said_if (Ok k) = said k
  said_if (Err e) = []

  said_by_kind : (kind : ℕ) → said_if (kind_of_name kind) ≡ target_text ws n kind s
  unfolding kind_of_name target_text
  said_by_kind zero = refl
  said_by_kind (suc zero) = refl
  said_by_kind (suc (suc zero)) = refl
  said_by_kind (suc (suc (suc zero))) = refl
  said_by_kind (suc (suc (suc (suc kind)))) =
      let k = suc (suc (suc (suc kind))) in
      rw (ne_eqb k 1 (λ e. omega (arith, e)), ne_eqb k 2 (λ e. omega (arith, e)), ne_eqb k 3 (λ e. omega (arith, e))) refl

  module _ (o : Out) (kind : ℕ) (r : Result NameKind UnknownKind) (e : r ≡ kind_of_name kind) where
    put_if : (x : Result NameKind UnknownKind) → r ≡ x → (l : Out) → l ≡ then_put o (said_if x) → l ≡ then_put o (target_text ws n kind s)
    put_if x f l h =
        h ∙ ap (λ (k : Result NameKind UnknownKind). then_put o (said_if k)) (sym f ∙ e) ∙ ap (then_put o) (said_by_kind kind)

    pub put_said : (x y : NameKind) → r ≡ Ok x → x ≡ y → (l : Out) → l ≡ then_put o (said y) → l ≡ then_put o (target_text ws n kind s)
    put_said x y f g l h = put_if (Ok x) f l (h ∙ ap (λ (k : NameKind). then_put o (said k)) (sym g))

    pub put_none : (x : UnknownKind) → r ≡ Err x → o ≡ then_put o (target_text ws n kind s)
    put_none x f = put_if (Err x) f o (sym (then_put_nothing o))
