-- The fixed six sorts, put into any storage of full length, are a checked list. By their kinds. Assumes nothing.
use mathlib.Core.Path.{◌≡◌, refl, sym, subst, ◌∙◌, ap, ap₂}
use mathlib.Core.Bool.{true, ◌&&◌}
use mathlib.Core.List.{List, [], ◌∷◌, ◌++◌}
use Prim.Native.Nat.{ℕ, zero, suc, ◌<◌, ◌≤◌}
use native.Mathlib.Omega.{arith}
use lib.ListN.{length, get_or, set, length-set}
use lib.Seq.{get_or-set_same, get_or-set_other}
use lib.Dec.{eqb, leb}
use borrow.Author.Tests.{le-leb}
use Rattle.resolved_sort.specs.declared.Run.{Run}
use Rattle.resolved_sort.specs.Tree.{Tree, same, family, level}
use Rattle.resolved_sort.specs.Interning.{member, distinct}
use Rattle.resolved_sort.specs.Storage.{full_length, kind_at, part_at, start_at, count_at, words_at, trees, resolved, fixed_sorts, fixed_rows}
use Rattle.resolved_sort.specs.Checks.{all_below, fixed_six, parts_below, row_fine_of, rows_fine, no_two_equal}
use Rattle.sort_text.specs.Postfix.{sixth}
use Rattle.std.proofs.lemmas.Bool.{and_from}
use Rattle.sort_reader.proofs.Entry.{tree_of_six}
use Rattle.pair_line.specs.Room.{Begun}

module _ (ws : List ℕ) (l : full_length ≤ length ws) where
  long : (us : List ℕ) (i v : ℕ) → full_length ≤ length us → full_length ≤ length (set us i v)
  long us i v h = omega (arith, length-set us i v)

  -- a word stays when another is set
  stays : (us : List ℕ) (i j v w : ℕ) → j < i → get_or us j 0 ≡ w → get_or (set us i v) j 0 ≡ w
  stays us i j v w h e = get_or-set_other us i j v 0 (λ q. omega (arith, q)) ∙ e

  abbrev w0 : List ℕ
  w0 = set ws 0 0

  abbrev w1 : List ℕ
  w1 = set w0 4 1

  abbrev w2 : List ℕ
  w2 = set w1 8 2

  abbrev w3 : List ℕ
  w3 = set w2 12 3

  abbrev w4 : List ℕ
  w4 = set w3 16 4

  pub long_0 : full_length ≤ length w0
  long_0 = long ws 0 0 l

  pub long_1 : full_length ≤ length w1
  long_1 = long w0 4 1 long_0

  pub long_2 : full_length ≤ length w2
  long_2 = long w1 8 2 long_1

  pub long_3 : full_length ≤ length w3
  long_3 = long w2 12 3 long_2

  pub long_4 : full_length ≤ length w4
  long_4 = long w3 16 4 long_3

  -- each kind is its number
  kinds : (k : ℕ) → k < 6 → kind_at (fixed_rows 0 fixed_sorts ws) k ≡ k
  unfolding fixed_rows
  kinds zero h =
      stays w4 20 0 5 0 (omega arith) (stays w3 16 0 4 0 (omega arith) (stays w2 12 0 3 0 (omega arith)
      (stays w1 8 0 2 0 (omega arith) (stays w0 4 0 1 0 (omega arith) (get_or-set_same ws 0 0 0
      (omega (arith, l)))))))
  kinds (suc zero) h =
      stays w4 20 4 5 1 (omega arith) (stays w3 16 4 4 1 (omega arith) (stays w2 12 4 3 1 (omega arith)
      (stays w1 8 4 2 1 (omega arith) (get_or-set_same w0 4 1 0 (omega (arith, long_0))))))
  kinds (suc (suc zero)) h =
      stays w4 20 8 5 2 (omega arith) (stays w3 16 8 4 2 (omega arith) (stays w2 12 8 3 2 (omega arith) (get_or-set_same w1 8 2 0 (omega (arith, long_1)))))
  kinds (suc (suc (suc zero))) h = stays w4 20 12 5 3 (omega arith) (stays w3 16 12 4 3 (omega arith) (get_or-set_same w2 12 3 0 (omega (arith, long_2))))
  kinds (suc (suc (suc (suc zero)))) h = stays w4 20 16 5 4 (omega arith) (get_or-set_same w3 16 4 0 (omega (arith, long_3)))
  kinds (suc (suc (suc (suc (suc zero))))) h = get_or-set_same w4 20 5 0 (omega (arith, long_4))
  kinds (suc (suc (suc (suc (suc (suc k)))))) h = absurd (omega (arith, h))

  eqb_itself : (k : ℕ) → k < 6 → eqb (kind_at (fixed_rows 0 fixed_sorts ws) k) k ≡ true
  eqb_itself zero h = ap (λ x. eqb x 0) (kinds 0 h)
  eqb_itself (suc zero) h = ap (λ x. eqb x 1) (kinds 1 h)
  eqb_itself (suc (suc zero)) h = ap (λ x. eqb x 2) (kinds 2 h)
  eqb_itself (suc (suc (suc zero))) h = ap (λ x. eqb x 3) (kinds 3 h)
  eqb_itself (suc (suc (suc (suc zero)))) h = ap (λ x. eqb x 4) (kinds 4 h)
  eqb_itself (suc (suc (suc (suc (suc zero))))) h = ap (λ x. eqb x 5) (kinds 5 h)
  eqb_itself (suc (suc (suc (suc (suc (suc k)))))) h = absurd (omega (arith, h))

  is_six : fixed_six (fixed_rows 0 fixed_sorts ws) 6 ≡ true
  unfolding fixed_six all_below
  is_six = rw (
    eqb_itself 0 (omega arith),
    eqb_itself 1 (omega arith),
    eqb_itself 2 (omega arith),
    eqb_itself 3
        (omega arith),
    eqb_itself 4 (omega arith),
    eqb_itself 5 (omega arith),
  )

  -- a row of one of the six kinds has no parts
  fine_at : (k i part : ℕ) (us : List ℕ) → k < 6 → (run : Run) → parts_below us 0 i (resolved k part run) ≡ true
  unfolding parts_below resolved
  fine_at zero i part us h run = refl
  fine_at (suc zero) i part us h run = refl
  fine_at (suc (suc zero)) i part us h run = refl
  fine_at (suc (suc (suc zero))) i part us h run = refl
  fine_at (suc (suc (suc (suc zero)))) i part us h run = refl
  fine_at (suc (suc (suc (suc (suc zero))))) i part us h run = refl
  fine_at (suc (suc (suc (suc (suc (suc k)))))) i part us h run = absurd (omega (arith, h))

  row_fine : (k : ℕ) → k < 6 → row_fine_of (fixed_rows 0 fixed_sorts ws) 0 k ≡ true
  unfolding row_fine_of
  row_fine k h =
      ap (λ x. leb x 13 && parts_below (fixed_rows 0 fixed_sorts ws) 0 k (resolved x (part_at (fixed_rows 0 fixed_sorts ws) k)
      (record { start = start_at (fixed_rows 0 fixed_sorts ws) k; count = count_at (fixed_rows 0 fixed_sorts ws) k }))) (kinds k h)
      ∙ and_from (leb k 13) _ (le-leb k 13 (omega (arith, h))) (fine_at k k (part_at (fixed_rows 0 fixed_sorts ws) k) (fixed_rows 0 fixed_sorts ws) h
      (record { start = start_at (fixed_rows 0 fixed_sorts ws) k; count = count_at (fixed_rows 0 fixed_sorts ws) k }))

  all_fine : rows_fine (fixed_rows 0 fixed_sorts ws) 6 0 ≡ true
  unfolding rows_fine all_below
  all_fine = rw (
    row_fine 0 (omega arith),
    row_fine 1 (omega arith),
    row_fine 2 (omega arith),
    row_fine 3
        (omega arith),
    row_fine 4 (omega arith),
    row_fine 5 (omega arith),
  )

  one_more : (n : ℕ) (T : List Tree) → n < 6 → trees (fixed_rows 0 fixed_sorts ws) n ≡ T → trees (fixed_rows 0 fixed_sorts ws) (suc n) ≡ T ++ (sixth n ∷ [])
  unfolding trees
  one_more n T h e = ap₂ (λ (U : List Tree) (t : Tree). U ++ (t ∷ [])) e (tree_of_six (trees (fixed_rows 0 fixed_sorts ws) n) (words_at (fixed_rows 0 fixed_sorts ws) n) n h (kinds n h))

  no_trees : trees (fixed_rows 0 fixed_sorts ws) 0 ≡ []
  unfolding trees
  no_trees = refl

  six_trees : trees (fixed_rows 0 fixed_sorts ws) 6 ≡ sixth 0 ∷ sixth 1 ∷ sixth 2 ∷ sixth 3 ∷ sixth 4 ∷ sixth 5 ∷ []
  six_trees =
      one_more 5 _ (omega arith) (one_more 4 _ (omega arith) (one_more 3 _ (omega arith) (one_more 2 _ (omega arith)
      (one_more 1 _ (omega arith) (one_more 0 [] (omega arith) no_trees)))))

  no_two_equal_lem : no_two_equal (fixed_rows 0 fixed_sorts ws) 6 ≡ true
  unfolding no_two_equal distinct member same family level
  no_two_equal_lem = ap distinct six_trees

  -- "the first six sorts are the fixed six"
  six_begun : Begun (fixed_rows 0 fixed_sorts ws) 6 0 0
  unfolding fixed_rows
  six_begun =
      record {
        checked = record { long = long w4 20 5 long_4; sorts = omega arith; entries = omega arith; fine = all_fine; differ = no_two_equal_lem };
        six = is_six;
        sorts = omega arith;
        entries = omega arith;
      }

-- of what putting the six has left
pub begun_with_six : (ws : List ℕ) {us : List ℕ} → full_length ≤ length ws → us ≡ fixed_rows 0 fixed_sorts ws → Begun us 6 0 0
begun_with_six ws l e = subst (λ us. Begun us 6 0 0) (sym e) (six_begun ws l)
