-- Rows put one after another, and a row by what it says. Assumes nothing.
use mathlib.Core.Path.{◌≡◌, refl, sym, ◌∙◌, ap}
use mathlib.Core.List.{List, [], ◌∷◌, ◌++◌}
use Prim.Native.Nat.{ℕ, zero, suc, ◌+◌, ◌-◌, ◌<◌, ◌≤◌}
use native.Mathlib.Omega.{arith}
use lib.Dec.{eqb, ltb}
use lib.ListN.{get_or-eq_default}
use borrow.Author.Tests.{le-ltb, ne_eqb}
use Rattle.resolved_sort.specs.declared.Sort.{Sort}
use Rattle.resolved_sort.specs.declared.ComplexSort.{ComplexSort}
use Rattle.resolved_sort.specs.declared.ResolvedSort.{ResolvedSort}
use Rattle.resolved_sort.specs.declared.ResolvedSort.TheVariants.{Unit, Primitive, Container, Function, Def, TypeVar}
use mathlib.Core.Bool.{cond}
use Rattle.resolved_sort.specs.declared.Run.{Run}
use Rattle.resolved_sort.specs.Storage.{kind_at, part_at, start_at, count_at, resolved, row_at, function_kind}
use Rattle.sort_text.specs.Parse.{sort_word, op_word}
use Rattle.sort_text.specs.Text.{arrow_text}
use Rattle.text_out.specs.Quoted.{bytes_of}
use Rattle.text_out.specs.Decimal.{decimal}
use Rattle.text_out.specs.declared.Out.{Out}
use Rattle.text_out.specs.Outs.{then_put}
use Rattle.text_out.proofs.Outs.{then_put_both, then_put_nothing}
use Rattle.list_verdict.specs.Words.{kind_words, kind_word, no_choices_text}
use Rattle.list_verdict.specs.Text.{rows_text, choice_text, choice_list, sort_name, argument_text, parts}
use Rattle.list_verdict.specs.Inner.Row.{row_text}

-- The rows up to n from i on, put behind what a buffer has, come to the whole put behind what it had before the first.
abbrev pub RowsLeft : (ℕ → List ℕ) → List ℕ → ℕ → Out → Out → ℕ → Type 0
RowsLeft row whole n before now i = then_put before whole ≡ then_put now (rows_text row (n - i) i)

module _ (row : ℕ → List ℕ) (whole : List ℕ) (n : ℕ) (before now : Out) (i : ℕ) (left : RowsLeft row whole n before now i) where
  pub one_row_more : i < n → {next : Out} → next ≡ then_put now (row i) → RowsLeft row whole n before next (i + 1)
  unfolding rows_text
  one_row_more h {next} e =
      let z : n - i ≡ suc (n - (i + 1)) = omega arith in
      left
      ∙ (ap (λ (m : ℕ). then_put now (rows_text row m i)) z
      ∙ (then_put_both now (row i) (rows_text row (n - (i + 1)) (i + 1))
      ∙ sym (ap (λ (b : Out). then_put b (rows_text row (n - (i + 1)) (i + 1))) e)))

  pub all_rows : n ≤ i → now ≡ then_put before whole
  unfolding rows_text
  all_rows h =
      let z : n - i ≡ 0 = omega arith in
      sym (left ∙ (ap (λ (m : ℕ). then_put now (rows_text row m i)) z ∙ then_put_nothing now))

-- the chosen overloads, or that there are none
module _ (cs : List ℕ) (m : ℕ) (o n l : Out) where
  pub no_choices : m ≡ 0 → n ≡ then_put o no_choices_text → l ≡ then_put n (rows_text (choice_text cs) m 0) → l ≡ then_put o (choice_list cs m)
  unfolding choice_list rows_text
  no_choices z e f =
      f ∙ (ap (λ (k : ℕ). then_put n (rows_text (choice_text cs) k 0)) z ∙ (then_put_nothing n
      ∙ (e ∙ ap (then_put o) (let w : no_choices_text ≡ choice_list cs m = rw z in w))))

  pub some_choices : (m ≡ 0 → ⊥) → n ≡ o → l ≡ then_put n (rows_text (choice_text cs) m 0) → l ≡ then_put o (choice_list cs m)
  unfolding choice_list
  some_choices z e f =
      f ∙ (ap (λ (p : Out). then_put p (rows_text (choice_text cs) m 0)) e
      ∙ ap (then_put o) (let w : rows_text (choice_text cs) m 0 ≡ choice_list cs m = rw (ne_eqb m 0 z) in w))

-- the words that a row says
abbrev words_of : List ℕ → ℕ → ℕ → Run → List ℕ
words_of ws kind part run =
    kind_word kind
    ++ cond (ltb kind 6) []
    (cond (ltb kind function_kind) (bytes_of " " ++ sort_name part)
    (cond (eqb kind function_kind)
    (rows_text (argument_text ws) run.count run.start ++ (arrow_text ++ sort_name part))
    (bytes_of " " ++ decimal part)))

typevar_said : (ws : List ℕ) (kind part : ℕ) (run : Run) → 13 ≤ kind → row_text ws (resolved kind part run) ≡ words_of ws kind part run
unfolding resolved row_text kind_word sort_word op_word
typevar_said ws kind part run h =
    ap (row_text ws) (get_or-eq_default resolved_rows (TypeVar part) h)
    ∙ sym (rw (get_or-eq_default kind_words (bytes_of "TypeVar") h, le-ltb kind 6 (omega (arith, h)), le-ltb kind 11 (omega (arith, h)), ne_eqb kind 11 (λ e. omega (arith, h, e))))
  where
    resolved_rows : List ResolvedSort
    resolved_rows =
        Unit ∷ Primitive Sort.Bool ∷ Primitive Sort.Pos ∷ Primitive Sort.Nat ∷ Primitive Sort.Int ∷ Primitive Sort.Real
        ∷ Container ComplexSort.List (record { 0 = part }) ∷ Container ComplexSort.Set (record { 0 = part }) ∷ Container ComplexSort.FSet (record { 0 = part })
        ∷ Container ComplexSort.Bag (record { 0 = part }) ∷ Container ComplexSort.FBag (record { 0 = part })
        ∷ Function run (record { 0 = part }) ∷ Def part ∷ []

said : (ws : List ℕ) (kind part : ℕ) (run : Run) → row_text ws (resolved kind part run) ≡ words_of ws kind part run
unfolding resolved row_text kind_word sort_word op_word
said ws zero part run = refl
said ws (suc zero) part run = refl
said ws (suc (suc zero)) part run = refl
said ws (suc (suc (suc zero))) part run = refl
said ws (suc (suc (suc (suc zero)))) part run = refl
said ws (suc (suc (suc (suc (suc zero))))) part run = refl
said ws (suc (suc (suc (suc (suc (suc zero)))))) part run = refl
said ws (suc (suc (suc (suc (suc (suc (suc zero))))))) part run = refl
said ws (suc (suc (suc (suc (suc (suc (suc (suc zero)))))))) part run = refl
said ws (suc (suc (suc (suc (suc (suc (suc (suc (suc zero))))))))) part run = refl
said ws (suc (suc (suc (suc (suc (suc (suc (suc (suc (suc zero)))))))))) part run = refl
said ws (suc (suc (suc (suc (suc (suc (suc (suc (suc (suc (suc zero))))))))))) part run = refl
said ws (suc (suc (suc (suc (suc (suc (suc (suc (suc (suc (suc (suc zero)))))))))))) part run = refl
said ws (suc (suc (suc (suc (suc (suc (suc (suc (suc (suc (suc (suc (suc kind))))))))))))) part run =
    typevar_said ws (suc (suc (suc (suc (suc (suc (suc (suc (suc (suc (suc (suc (suc kind))))))))))))) part run (omega arith)

pub row_is : (ws : List ℕ) (i : ℕ) → row_text ws (row_at ws i) ≡ kind_word (kind_at ws i) ++ parts ws i
unfolding parts
row_is ws i = said ws (kind_at ws i) (part_at ws i) (record { start = start_at ws i; count = count_at ws i })
