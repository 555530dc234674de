-- Putting words, rows and words of a line one by one comes to putting them all. Assumes nothing.
use mathlib.Core.Path.{◌≡◌, refl, sym, ap, ◌∙◌}
use mathlib.Core.Bool.{Bool, true, false, cond}
use mathlib.Core.List.{List, [], ◌∷◌}
use Prim.Native.Nat.{ℕ, zero, suc, ◌+◌, ◌*◌, ◌-◌, ◌^◌, ◌<◌, ◌≤◌}
use Rattle.std.specs.Prelude.{min}
use native.Mathlib.Nat.{mul-le-mul}
use native.Mathlib.Omega.{arith}
use lib.Dec.{ltb}
use lib.ListN.{get_or, set}
use borrow.Author.Tests.{ltb-true, ltb-false}
use Rattle.list_memory.specs.declared.Table.{Table}
use Rattle.list_memory.specs.Memory.{memory_words}
use Rattle.list_memory.specs.Layouts.{layout_of, list_row_at}
use Rattle.list_tokens.specs.declared.Token.{Token}
use Rattle.list_forms.specs.Items.{word_at}
use Rattle.list_forms.specs.Plans.{saturated}
use Rattle.list_reader.specs.Taking.{appended, next_row, append_times, append_run}

-- a row has 5 words at most
pub width_small : (k : Table) → (layout_of k).width ≤ 5
unfolding layout_of
width_small Table.Sorts = omega arith
width_small Table.Entries = omega arith
width_small Table.Nodes = omega arith
width_small Table.NodeEntries = omega arith
width_small Table.Vars = omega arith
width_small Table.Exprs = omega arith
width_small Table.Names = omega arith
width_small Table.Constraints = omega arith
width_small Table.Overloads = omega arith
width_small Table.Sources = omega arith

-- a row of 5 words at most, of 65,535 rows at most
pub row_within : (width n : ℕ) → width ≤ 5 → n ≤ 65535 → width * n ≤ 327675
row_within width n h e = mul-le-mul h e

-- a row below its table's ceiling lies in the list
pub row_in_list : (k : Table) (n : ℕ) → n < (layout_of k).ceiling → list_row_at k n + (layout_of k).width ≤ memory_words
unfolding layout_of
row_in_list Table.Sorts n h = omega (arith, h)
row_in_list Table.Entries n h = omega (arith, h)
row_in_list Table.Nodes n h = omega (arith, h)
row_in_list Table.NodeEntries n h = omega (arith, h)
row_in_list Table.Vars n h = omega (arith, h)
row_in_list Table.Exprs n h = omega (arith, h)
row_in_list Table.Names n h = omega (arith, h)
row_in_list Table.Constraints n h = omega (arith, h)
row_in_list Table.Overloads n h = omega (arith, h)
row_in_list Table.Sources n h = omega (arith, h)

-- the second word of the next row
word_grown : (n v : ℕ) → v ≡ min n (2 ^ 16 - 1) → v ≡ saturated n
word_grown n v e = go (ltb 65535 n) refl
  where
    go : (b : Bool) → ltb 65535 n ≡ b → v ≡ cond b 65535 n
    go true h = omega (arith, e, ltb-true 65535 n h)
    go false h = omega (arith, e, ltb-false 65535 n h)

-- i of n rows are appended, and `next` is the next of them
pub record Adding (n : ℕ) (start : List ℕ) (k : Table) (step : ℕ) (row ws next : List ℕ) (i : ℕ) : Type 0 where
  pub within : i ≤ n
  pub same : append_times n start k step row ≡ append_times (n - i) ws k step next

next_of_many :
    (m : ℕ) (ws : List ℕ) (k : Table) (step : ℕ) (row : List ℕ)
    → append_times (suc m) ws k step row ≡ append_times m (appended ws k row) k step (next_row step row)
unfolding append_times
next_of_many m ws k step row = refl

none_of_many : (ws : List ℕ) (k : Table) (step : ℕ) (row : List ℕ) → append_times zero ws k step row ≡ ws
unfolding append_times
none_of_many ws k step row = refl

module _ (n : ℕ) (start : List ℕ) (k : Table) (step : ℕ) (row ws next : List ℕ) (i : ℕ)
    (g : Adding n start k step row ws next i) where
  pub adding_more :
      i < n → (us : List ℕ) → us ≡ appended ws k next → (v : ℕ) → v ≡ min (get_or next 1 0 + step) (2 ^ 16 - 1)
      → Adding n start k step row us (set next 1 v) (i + 1)
  adding_more h us e v f =
      record {
        within = omega arith;
        same =
            g.same
            ∙ ap (λ (m : ℕ). append_times m ws k step next) (omega arith)
            ∙ next_of_many (n - (i + 1)) ws k step next
            ∙ ap (λ (l : List ℕ). append_times (n - (i + 1)) l k step (next_row step next)) (sym e)
            ∙ ap (λ (b : ℕ). append_times (n - (i + 1)) us k step (set next 1 b)) (sym (word_grown _ v f));
      }

  pub adding_all : n ≤ i → ws ≡ append_times n start k step row
  adding_all h = sym (g.same ∙ ap (λ (m : ℕ). append_times m ws k step next) (omega arith) ∙ none_of_many ws k step next)

-- the words of the line before i are appended
pub record Running (start : List ℕ) (k : Table) (t : List Token) (from to : ℕ) (ws : List ℕ) (i : ℕ) : Type 0 where
  pub same : append_run (to - from) start k t from ≡ append_run (to - i) ws k t i

next_of_run :
    (m : ℕ) (ws : List ℕ) (k : Table) (t : List Token) (i : ℕ)
    → append_run (suc m) ws k t i ≡ append_run m (appended ws k (word_at t i ∷ 0 ∷ 0 ∷ 0 ∷ 0 ∷ [])) k t (i + 1)
unfolding append_run
next_of_run m ws k t i = refl

none_of_run : (ws : List ℕ) (k : Table) (t : List Token) (i : ℕ) → append_run zero ws k t i ≡ ws
unfolding append_run
none_of_run ws k t i = refl

module _ (start : List ℕ) (k : Table) (t : List Token) (from to : ℕ) (ws : List ℕ) (i : ℕ) (g : Running start k t from to ws i) where
  pub running_more :
      i < to → (v : ℕ) → v ≡ word_at t i → (us : List ℕ) → us ≡ appended ws k (v ∷ 0 ∷ 0 ∷ 0 ∷ 0 ∷ []) → Running start k t from to us (i + 1)
  running_more h v d us e =
      record {
        same =
            g.same
            ∙ ap (λ (m : ℕ). append_run m ws k t i) (omega arith)
            ∙ next_of_run (to - (i + 1)) ws k t i
            ∙ ap (λ (x : ℕ). append_run (to - (i + 1)) (appended ws k (x ∷ 0 ∷ 0 ∷ 0 ∷ 0 ∷ [])) k t (i + 1)) (sym d)
            ∙ ap (λ (l : List ℕ). append_run (to - (i + 1)) l k t (i + 1)) (sym e);
      }

  pub running_all : to ≤ i → ws ≡ append_run (to - from) start k t from
  running_all h = sym (g.same ∙ ap (λ (m : ℕ). append_run m ws k t i) (omega arith) ∙ none_of_run ws k t i)
