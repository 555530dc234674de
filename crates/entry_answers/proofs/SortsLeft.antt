-- What stands in words that grew from a checked storage, and in words that were given back. New rows and entries stand before the words
-- past the counts, by induction on the new sorts; the checks pass again, since the fixed six stand where they stood and the rest is
-- checked. Words given back agree with the given ones below the counts, so they denote the same sorts. Assumes nothing.
use mathlib.Core.Path.{◌≡◌, refl, sym, ◌∙◌, ap, subst}
use mathlib.Core.Bool.{true, cond, ◌&&◌, and-eq-true_iff}
use mathlib.Core.List.{List, [], ◌∷◌, ◌++◌}
use Prim.Native.Nat.{ℕ, suc, ◌+◌, ◌-◌, ◌*◌, ◌<◌, ◌≤◌}
use native.Mathlib.Omega.{arith}
use lib.ListN.{length, get_or, set, take, drop, replicate, length-append, length-drop, length-replicate, get_or-append, get_or-replicate, get_or-eq_default}
use lib.Seq.{sets, length-take-le, get_or-set_other, get_or-take, get_or-drop, get_or-append-add}
use lib.Dec.{eqb, leb}
use native.Mathlib.Decide.{dec_lt}
use borrow.Author.Tests.{leb-true, le-leb}
use Rattle.std.specs.Prelude.{Ok}
use Rattle.std.proofs.lemmas.List.{ext_get_or}
use Rattle.words.specs.Words.{zeros}
use Rattle.resolved_sort.specs.Tree.{Tree}
use Rattle.resolved_sort.specs.Interning.{Sorts, look, number, need, distinct}
use Rattle.resolved_sort.specs.Storage.{max_sorts, max_entries, row_words, entries_at, function_kind, kind_at, entry_at, Row, trees, row_of, put_row}
use Rattle.resolved_sort.specs.Storage.{append_row, append, written, given_back}
use Rattle.resolved_sort.specs.Checks.{within_lent, fixed_six, all_below, row_fine_of, rows_fine, no_two_equal, first_failing, sort_checks}
use Rattle.resolved_sort.specs.Entries.{tree_at, counts_of, after}
use Rattle.resolved_sort.specs.Rows.{Checked}
use Rattle.resolved_sort.specs.Growing.{Agrees, Grown, needs}
use Rattle.resolved_sort.proofs.Below.{below_each, each_below}
use Rattle.resolved_sort.proofs.Numbers.{number_look}
use Rattle.resolved_sort.proofs.Interned.{listed, trees_differ}
use Rattle.resolved_sort.proofs.Trees.{length_trees}
use Rattle.resolved_sort.proofs.RowTrees.{Within, row_within}
use Rattle.resolved_sort.proofs.Fine.{run_inside, row_fine}
use Rattle.resolved_sort.proofs.FirstFailing.{cons_passes}
use Rattle.resolved_sort.proofs.Append.{put_row_other, get_d_sets_before, length_args, rows_agree, trees_agree}
use Rattle.resolved_sort.proofs.Unchanged.{unchanged, length_after, look_unchanged, longer, entries_longer}
use Rattle.entry_answers.specs.SortsLeft.{GivenStands, SortsGrew, SortsPutBack}

-- words past a new row and its entries
get_d_sets_after : (vs l : List ℕ) (i j : ℕ) → i + length vs ≤ j → get_or (sets l i vs) j 0 ≡ get_or l j 0
get_d_sets_after [] l i j h = refl
get_d_sets_after (v ∷ vs) l i j h =
    get_d_sets_after vs (set l i v) (suc i) j (omega arith) ∙ get_or-set_other l i j v 0 (λ e. omega arith)

module _ (ws : List ℕ) (n e : ℕ) (r : Row) (room : n < max_sorts) where
  abbrev put : List ℕ
  put = put_row ws n r.kind r.part (cond (eqb r.kind function_kind) e 0) (length r.args)

  past_put : (j : ℕ) → 4 * (n + 1) ≤ j → get_or put j 0 ≡ get_or ws j 0
  past_put j h = put_row_other ws n r.kind r.part _ (length r.args) j (λ x. omega arith) (λ x. omega arith) (λ x. omega arith) (λ x. omega arith)

  past_row : (j : ℕ) → 4 * (n + 1) ≤ j → j < entries_at → get_or (append_row ws n e r) j 0 ≡ get_or ws j 0
  unfolding append_row
  past_row j h l = get_d_sets_before r.args put (entries_at + e) j (omega arith) ∙ past_put j h

  past_run : (j : ℕ) → e + length r.args ≤ j → entry_at (append_row ws n e r) j ≡ entry_at ws j
  unfolding append_row
  past_run j h = get_d_sets_after r.args put (entries_at + e) (entries_at + j) (omega arith) ∙ past_put (entries_at + j) (omega arith)

past_rows_written : (ws : List ℕ) (T : List Tree) (e : ℕ) (xs : List Tree) → length T + length xs ≤ max_sorts
    → (j : ℕ) → 4 * (length T + length xs) ≤ j → j < entries_at → get_or (written ws T e xs) j 0 ≡ get_or ws j 0
unfolding written
past_rows_written ws T e [] r j h l = refl
past_rows_written ws T e (x ∷ xs) r j h l =
    let m : length (T ++ (x ∷ [])) ≡ length T + 1 = length-append T (x ∷ []) in
    past_rows_written (append ws T e x) (T ++ (x ∷ [])) (e + need x) xs (omega arith) j (omega arith) l
    ∙ past_row ws (length T) e (row_of T x) (omega arith) j (omega arith) l

past_entries_written : (ws : List ℕ) (T : List Tree) (e : ℕ) (xs : List Tree) → length T + length xs ≤ max_sorts
    → (j : ℕ) → e + needs xs ≤ j → entry_at (written ws T e xs) j ≡ entry_at ws j
unfolding written needs
past_entries_written ws T e [] r j h = refl
past_entries_written ws T e (x ∷ xs) r j h =
    let m : length (T ++ (x ∷ [])) ≡ length T + 1 = length-append T (x ∷ []) in
    past_entries_written (append ws T e x) (T ++ (x ∷ [])) (e + need x) xs (omega arith) j (omega arith)
    ∙ past_run ws (length T) e (row_of T x) (omega arith) j (omega (arith, length_args T x))

-- a checked list with the fixed six passes checks 1 to 4
pub checks_pass : (ws : List ℕ) (n e : ℕ) → Checked ws n e → fixed_six ws n ≡ true → first_failing (sort_checks ws n e) ≡ Ok tt
unfolding sort_checks within_lent first_failing
checks_pass ws n e k six =
    rw (
      le-leb n max_sorts k.sorts,
      le-leb e max_entries k.entries,
      le-leb (4 * n) (length ws) (omega (arith, k.long, k.sorts)),
      le-leb e (length ws - entries_at) (omega (arith, k.long, k.entries)),
      six,
      k.fine,
      k.differ,
    )

-- and check 1 bounds the counts
pub counts_within : (ws : List ℕ) (n e : ℕ) → first_failing (sort_checks ws n e) ≡ Ok tt → (n ≤ max_sorts) × (e ≤ max_entries)
unfolding sort_checks within_lent
counts_within ws n e x =
    let p = (and-eq-true_iff (leb n max_sorts && leb e max_entries && leb (4 * n) (length ws)) (leb e (length ws - entries_at))).0 (cons_passes _ _ x).0 in
    let q = (and-eq-true_iff (leb n max_sorts && leb e max_entries) (leb (4 * n) (length ws))).0 p.0 in
    let r = (and-eq-true_iff (leb n max_sorts) (leb e max_entries)).0 q.0 in
    (leb-true n max_sorts r.0, leb-true e max_entries r.1)

-- the fixed six stand in words that agree
six_agree : (ws us : List ℕ) (n m e : ℕ) → Agrees ws us n e → n ≤ m → fixed_six ws n ≡ true → fixed_six us m ≡ true
unfolding fixed_six
six_agree ws us n m e a l h =
    let p = (and-eq-true_iff (leb 6 n) (all_below 6 (λ i. eqb (kind_at ws i) i))).0 h in
    let s : 6 ≤ n = leb-true 6 n p.0 in
    (and-eq-true_iff (leb 6 m) (all_below 6 (λ i. eqb (kind_at us i) i))).1 (
      le-leb 6 m (omega arith),
      each_below 6 (λ i. eqb (kind_at us i) i) (λ i q. ap (λ k. eqb k i) (a.kinds i (omega arith)) ∙ below_each 6 (λ i. eqb (kind_at ws i) i) p.1 i q),
    )

stands : (ws us : List ℕ) (n e : ℕ) → Agrees ws us n e → length us ≡ length ws → GivenStands ws n e us
stands ws us n e a l = record { rows = a.words; entries = a.entries; as_long = l }

module _ (ws : List ℕ) (n e : ℕ) (k : Checked ws n e) (six : fixed_six ws n ≡ true) where
  -- what was made is kept
  pub grew : (S : Sorts) → Grown ws n e S → SortsGrew ws n e (after ws n e S) (counts_of S)
  grew S g =
      let o = unchanged ws n e k S g in
      let m : length (trees ws n) + length (drop n S.trees) ≡ length S.trees =
      omega (arith, length_trees ws n, length-drop n S.trees, longer ws n e k S g) in
      record {
        given = stands ws (after ws n e S) n e o (length_after ws n e k S g);
        more = longer ws n e k S g;
        more_entries = entries_longer ws n e k S g;
        old = look_unchanged ws n e k S g;
        past_rows = λ i h l. past_rows_written ws (trees ws n) e (drop n S.trees) (omega (arith, m, g.checked.sorts)) i (omega (arith, m, h)) l;
        past_entries = λ j h. past_entries_written ws (trees ws n) e (drop n S.trees) (omega (arith, m, g.checked.sorts)) j (omega (arith, h, g.used));
        again = checks_pass _ _ _ g.checked (six_agree ws (after ws n e S) n (length S.trees) e o (longer ws n e k S g) six);
      }

-- words of which a part is zero
module _ (a b : ℕ) (ws : List ℕ) (ordered : a ≤ b) (long : a ≤ length ws) where
  length_front : length (take a ws) ≡ a
  length_front = length-take-le a ws long

  zeros_before : (i : ℕ) → i < a → get_or (zeros a b ws) i 0 ≡ get_or ws i 0
  unfolding zeros
  zeros_before i h = get_or-append (take a ws) _ 0 i (omega (arith, length_front)) ∙ get_or-take a ws i 0 h

  past_front : (i : ℕ) → get_or (zeros a b ws) (a + i) 0 ≡ get_or (replicate (b - a) 0 ++ drop b ws) i 0
  unfolding zeros
  past_front i = ap (λ j. get_or (zeros a b ws) (j + i) 0) (sym length_front) ∙ get_or-append-add (take a ws) _ i 0

  zeros_inside : (i : ℕ) → a ≤ i → i < b → get_or (zeros a b ws) i 0 ≡ 0
  zeros_inside i h l =
      let m : a + (i - a) ≡ i = omega arith in
      ap (λ j. get_or (zeros a b ws) j 0) (sym m) ∙ (past_front (i - a)
      ∙ (get_or-append (replicate (b - a) 0) (drop b ws) 0 (i - a) (omega (arith, length-replicate {A = ℕ} (b - a) 0))
      ∙ get_or-replicate (b - a) (i - a) 0 0 (omega arith)))

  zeros_after : (i : ℕ) → b ≤ i → get_or (zeros a b ws) i 0 ≡ get_or ws i 0
  zeros_after i h =
      let r = length-replicate {A = ℕ} (b - a) 0 in
      let m : a + (length {A = ℕ} (replicate (b - a) 0) + (i - b)) ≡ i = omega (arith, r) in
      let q : b + (i - b) ≡ i = omega arith in
      ap (λ j. get_or (zeros a b ws) j 0) (sym m) ∙ (past_front (length {A = ℕ} (replicate (b - a) 0) + (i - b))
      ∙ (get_or-append-add (replicate (b - a) 0) (drop b ws) (i - b) 0 ∙ (get_or-drop b ws (i - b) 0 ∙ ap (λ j. get_or ws j 0) q)))

  length_zeros : b ≤ length ws → length (zeros a b ws) ≡ length ws
  unfolding zeros
  length_zeros l =
      length-append (take a ws) (replicate (b - a) 0 ++ drop b ws)
      ∙ omega (arith, length-append (replicate (b - a) 0) (drop b ws), length_front, length-replicate {A = ℕ} (b - a) 0, length-drop b ws)

-- words that agree with a checked list are checked
module _ (ws us : List ℕ) (n e : ℕ) (a : Agrees ws us n e) (l : length us ≡ length ws) (k : Checked ws n e) where
  same_trees : trees us n ≡ trees ws n
  same_trees = trees_agree ws us n (rows_agree ws us n e a k.fine)

  row_again : (i : ℕ) → i < n → row_fine_of us e i ≡ true
  unfolding rows_fine
  row_again i h =
      let was = below_each n (row_fine_of ws e) k.fine i h in
      row_fine us e i (subst (Within i) (sym (rows_agree ws us n e a k.fine i h)) (row_within ws e i was))
      (λ q. let r = run_inside ws e i was (sym (a.kinds i h) ∙ q) in
      record { short = omega (arith, r.short, a.counts i h); inside = omega (arith, r.inside, a.starts i h, a.counts i h) })

  pub checked_agrees : Checked us n e
  unfolding rows_fine no_two_equal
  checked_agrees =
      record {
        long = omega (arith, l, k.long);
        sorts = k.sorts;
        entries = k.entries;
        fine = each_below n (row_fine_of us e) row_again;
        differ = ap distinct same_trees ∙ k.differ;
      }

module _ (ws : List ℕ) (n e : ℕ) (k : Checked ws n e) where
  abbrev us : List ℕ
  us = given_back n e ws

  abbrev without_rows : List ℕ
  without_rows = zeros (4 * n) entries_at ws

  low : 4 * n ≤ entries_at
  low = omega (arith, k.sorts)

  as_long_inside : length without_rows ≡ length ws
  as_long_inside = length_zeros (4 * n) entries_at ws low (omega (arith, low, k.long)) (omega (arith, k.long))

  fits_inside : entries_at + e ≤ length without_rows
  fits_inside = omega (arith, as_long_inside, k.long, k.entries)

  before : (i : ℕ) → i < entries_at + e → get_or us i 0 ≡ get_or without_rows i 0
  unfolding given_back
  before i h = zeros_before (entries_at + e) (length ws) without_rows (omega (arith, k.long, k.entries)) fits_inside i h

  given_row : (i : ℕ) → i < 4 * n → get_or us i 0 ≡ get_or ws i 0
  given_row i h = before i (omega (arith, low)) ∙ zeros_before (4 * n) entries_at ws low (omega (arith, low, k.long)) i h

  given_entry : (j : ℕ) → j < e → entry_at us j ≡ entry_at ws j
  given_entry j h = before (entries_at + j) (omega arith) ∙ zeros_after (4 * n) entries_at ws low (omega (arith, low, k.long)) (entries_at + j) (omega arith)

  as_long : length us ≡ length ws
  unfolding given_back
  as_long =
      length_zeros (entries_at + e) (length ws) without_rows (omega (arith, k.long, k.entries)) fits_inside (omega (arith, as_long_inside))
      ∙ as_long_inside

  agree : Agrees ws us n e
  agree =
      record {
        words = given_row;
        kinds = λ i h. given_row (4 * i) (omega arith);
        parts = λ i h. given_row (4 * i + 1) (omega arith);
        starts = λ i h. given_row (4 * i + 2) (omega arith);
        counts = λ i h. given_row (4 * i + 3) (omega arith);
        entries = given_entry;
      }

  zero_row : (i : ℕ) → 4 * n ≤ i → i < entries_at → get_or us i 0 ≡ 0
  zero_row i h l = before i (omega arith) ∙ zeros_inside (4 * n) entries_at ws low (omega (arith, low, k.long)) i h l

  zero_entry_by : (j : ℕ) → e ≤ j → Dec (entries_at + j < length ws) → entry_at us j ≡ 0
  unfolding given_back
  zero_entry_by j h (yes l) =
      zeros_inside (entries_at + e) (length ws) without_rows (omega (arith, k.long, k.entries)) fits_inside (entries_at + j) (omega arith) l
  zero_entry_by j h (no l) = get_or-eq_default us 0 (omega (arith, as_long))

  -- what was made is given back
  pub put_back : fixed_six ws n ≡ true → SortsPutBack ws n e us
  put_back six =
      record {
        given = stands ws us n e agree as_long;
        old = λ i h. ap (λ T. look T i) (same_trees ws us n e agree as_long k);
        zero_rows = zero_row;
        zero_entries = λ j h. zero_entry_by j h (dec_lt (entries_at + j) (length ws));
        again = checks_pass us n e (checked_agrees ws us n e agree as_long k) (six_agree ws us n n e agree (omega arith) six);
      }

-- words given back are determined: below the counts they are the given ones, past them zero, and they are as many
module _ (ws : List ℕ) (n e : ℕ) (vs us : List ℕ) (p : SortsPutBack ws n e vs) (q : SortsPutBack ws n e us) where
  word_by : (i : ℕ) → get_or vs i 0 ≡ get_or us i 0
  word_by i = elim (dec_lt i entries_at) [
    | yes l ↦ elim (dec_lt i (row_words * n)) [
      | yes h ↦ p.given.rows i h ∙ sym (q.given.rows i h)
      | no h ↦ p.zero_rows i (omega (arith, h)) l ∙ sym (q.zero_rows i (omega (arith, h)) l)
    ]
    | no l ↦
        let z : entries_at + (i - entries_at) ≡ i = omega (arith, l) in
        sym (ap (λ k. get_or vs k 0) z) ∙ (entry_by (i - entries_at) ∙ ap (λ k. get_or us k 0) z)
  ]
    where
      entry_by : (j : ℕ) → entry_at vs j ≡ entry_at us j
      entry_by j = elim (dec_lt j e) [
        | yes h ↦ p.given.entries j h ∙ sym (q.given.entries j h)
        | no h ↦ p.zero_entries j (omega (arith, h)) ∙ sym (q.zero_entries j (omega (arith, h)))
      ]

  pub put_back_once : vs ≡ us
  put_back_once = ext_get_or 0 vs us (p.given.as_long ∙ sym q.given.as_long) (λ i h. word_by i)

-- a sort that stands in words that grew has its own number there
pub own_number : (ws : List ℕ) (n e : ℕ) (S : Sorts) → Grown ws n e S → (i : ℕ) → i < length S.trees
    → number S.trees (tree_at (after ws n e S) (length S.trees) i) ≡ i
own_number ws n e S g i h =
    ap (λ T. number S.trees (look T i)) g.reads
    ∙ number_look S.trees i
    (subst (λ T. distinct T ≡ true) g.reads (trees_differ (after ws n e S) (length S.trees) (max_entries - S.entries) (listed g.checked))) h
