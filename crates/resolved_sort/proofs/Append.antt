-- What a new row leaves: the rows and entries before it read as before, the new row reads as it was given, and the list
-- of sorts is one longer. A checked list stays checked. Assumes nothing.
use mathlib.Core.Path.{◌≡◌, refl, sym, ◌∙◌, ap, ap₂, subst}
use mathlib.Core.Bool.{Bool, true, false, cond, and-eq-true_iff}
use mathlib.Core.Logic.{◌≢◌}
use mathlib.Core.List.{List, [], ◌∷◌, ◌++◌}
use Prim.Native.Nat.{ℕ, zero, suc, ◌+◌, ◌*◌, ◌<◌, ◌≤◌}
use native.Mathlib.Omega.{arith}
use native.Mathlib.Nat.{add-zero}
use native.Mathlib.Decide.{ℕ_discrete}
use lib.ListN.{length, get_or, set, length-set}
use lib.Seq.{sets, length-sets, get_or-set_same, get_or-set_other}
use lib.Dec.{eqb, ltb}
use borrow.Author.Tests.{ltb-true, eqb-true, eqb-false, eq-eqb, lt-ltb}
use Rattle.resolved_sort.specs.declared.Sort.{Sort}
use Rattle.resolved_sort.specs.declared.ComplexSort.{ComplexSort}
use Rattle.resolved_sort.specs.Tree.{Flat, unit, primitive, def, typevar, Tree, flat, container, function, Trees, no_args, arg, arity}
use Rattle.resolved_sort.specs.Interning.{number, member, distinct, need}
use Rattle.resolved_sort.specs.Storage.{max_sorts, max_entries, full_length, entries_at, function_kind, kind_at}
use Rattle.resolved_sort.specs.Storage.{part_at, start_at, count_at, entry_at, entries_of, Row, words_at, trees}
use Rattle.resolved_sort.specs.Storage.{row_of, numbers, kind_flat, kind_op, part_flat, put_row, append_row}
use Rattle.resolved_sort.specs.Checks.{row_fine_of, rows_fine, no_two_equal}
use Rattle.resolved_sort.specs.Rows.{Checked}
use Rattle.resolved_sort.proofs.Below.{below_each, each_below}
use Rattle.resolved_sort.proofs.Numbers.{distinct_snoc, number_below}
use Rattle.resolved_sort.proofs.Trees.{length_trees}
use Rattle.resolved_sort.proofs.RowTrees.{AllBelow, Within, row, plain_within, named_within, container_within, row_within, tree_of_row, numbers_below}
use Rattle.resolved_sort.specs.Growing.{parts_in, members, Agrees, Fresh}
use Rattle.resolved_sort.proofs.Fine.{run_inside, row_fine}

-- a run of stores
pub get_d_sets_before : (vs l : List ℕ) (i j : ℕ) → j < i → get_or (sets l i vs) j 0 ≡ get_or l j 0
get_d_sets_before [] l i j h = refl
get_d_sets_before (v ∷ vs) l i j h = get_d_sets_before vs (set l i v) (suc i) j (omega arith) ∙ get_or-set_other l i j v 0 (λ e. omega arith)

pub get_d_sets_at : (vs l : List ℕ) (i x : ℕ) → i + length vs ≤ length l → x < length vs → get_or (sets l i vs) (i + x) 0 ≡ get_or vs x 0
get_d_sets_at [] l i x h k = absurd (omega arith)
get_d_sets_at (v ∷ vs) l i zero h k =
    ap (λ j. get_or (sets (set l i v) (suc i) vs) j 0) (add-zero i)
    ∙ (get_d_sets_before vs (set l i v) (suc i) i (omega arith) ∙ get_or-set_same l i v 0 (omega arith))
get_d_sets_at (v ∷ vs) l i (suc x) h k =
    ap (λ j. get_or (sets (set l i v) (suc i) vs) j 0) (omega arith)
    ∙ get_d_sets_at vs (set l i v) (suc i) x (omega (arith, length-set l i v)) (omega arith)

-- four words of a row
module _ (ws : List ℕ) (i k p s c : ℕ) where
  abbrev w1 : List ℕ
  w1 = set ws (4 * i) k

  abbrev w2 : List ℕ
  w2 = set w1 (4 * i + 1) p

  abbrev w3 : List ℕ
  w3 = set w2 (4 * i + 2) s

  pub length_put_row : length (put_row ws i k p s c) ≡ length ws
  unfolding put_row
  length_put_row = simp length-set

  pub put_row_other : (j : ℕ) → j ≢ 4 * i → j ≢ 4 * i + 1 → j ≢ 4 * i + 2 → j ≢ 4 * i + 3 → get_or (put_row ws i k p s c) j 0 ≡ get_or ws j 0
  unfolding put_row
  put_row_other j a b d f =
      get_or-set_other w3 (4 * i + 3) j c 0 f ∙ (get_or-set_other w2 (4 * i + 2) j s 0 d ∙ (get_or-set_other w1 (4 * i + 1)
      j p 0 b ∙ get_or-set_other ws (4 * i) j k 0 a))

  module _ (room : 4 * i + 3 < length ws) where
    pub put_row_kind : kind_at (put_row ws i k p s c) i ≡ k
    unfolding put_row
    put_row_kind =
        get_or-set_other w3 (4 * i + 3) (4 * i) c 0 (λ e. omega arith) ∙ (get_or-set_other w2 (4 * i + 2) (4 * i) s 0 (λ e. omega arith)
        ∙ (get_or-set_other w1 (4 * i + 1) (4 * i) p 0 (λ e. omega arith) ∙ get_or-set_same ws (4 * i) k 0 (omega arith)))

    pub put_row_part : part_at (put_row ws i k p s c) i ≡ p
    unfolding put_row
    put_row_part =
        get_or-set_other w3 (4 * i + 3) (4 * i + 1) c 0 (λ e. omega arith) ∙ (get_or-set_other w2 (4 * i + 2) (4 * i + 1) s 0 (λ e. omega arith)
        ∙ get_or-set_same w1 (4 * i + 1) p 0 (omega (arith, length-set ws (4 * i) k)))

    pub put_row_start : start_at (put_row ws i k p s c) i ≡ s
    unfolding put_row
    put_row_start =
        get_or-set_other w3 (4 * i + 3) (4 * i + 2) c 0 (λ e. omega arith)
        ∙ get_or-set_same w2 (4 * i + 2) s 0 (simp length-set (omega arith))

    pub put_row_count : count_at (put_row ws i k p s c) i ≡ c
    unfolding put_row
    put_row_count = get_or-set_same w3 (4 * i + 3) c 0 (simp length-set (omega arith))

-- the run of the entries from s on is what stands there
entries_are : (ws vs : List ℕ) (s : ℕ) → ((x : ℕ) → x < length vs → entry_at ws (s + x) ≡ get_or vs x 0) → entries_of ws s (length vs) ≡ vs
unfolding entries_of
entries_are ws [] s h = refl
entries_are ws (v ∷ vs) s h =
    ap₂ ◌∷◌ (ap (entry_at ws) (sym (add-zero s)) ∙ h 0 (omega arith))
    (entries_are ws vs (s + 1) (λ x l. ap (entry_at ws) (omega arith) ∙ h (suc x) (omega arith)))

pub entries_agree : (ws us : List ℕ) (s c : ℕ) → ((j : ℕ) → j < c → entry_at ws (s + j) ≡ entry_at us (s + j)) → entries_of ws s c ≡ entries_of us s c
unfolding entries_of
entries_agree ws us s zero h = refl
entries_agree ws us s (suc c) h =
    ap₂ ◌∷◌ (ap (entry_at ws) (sym (add-zero s)) ∙ (h 0 (omega arith) ∙ ap (entry_at us) (add-zero s)))
    (entries_agree ws us (s + 1) c (λ j l. ap (entry_at ws) (omega arith) ∙ (h (suc j) (omega arith) ∙ ap (entry_at us) (omega arith))))

module _ (ws us : List ℕ) (n e : ℕ) (a : Agrees ws us n e) (f : rows_fine ws n e ≡ true) where
  args_agree : (i : ℕ) → i < n → (b : Bool) → eqb (kind_at ws i) function_kind ≡ b
      → cond b (entries_of us (start_at ws i) (count_at ws i)) [] ≡ cond b (entries_of ws (start_at ws i) (count_at ws i)) []
  unfolding rows_fine
  args_agree i h false q = refl
  args_agree i h true q =
      let r = run_inside ws e i (below_each n (row_fine_of ws e) f i h) (eqb-true _ _ q) in
      entries_agree us ws (start_at ws i) (count_at ws i) (λ j l. a.entries (start_at ws i + j) (omega (arith, r.inside)))

  pub rows_agree : (i : ℕ) → i < n → words_at us i ≡ words_at ws i
  rows_agree i h =
      rw (a.kinds i h, a.parts i h, a.starts i h, a.counts i h)
      (ap (λ (xs : List ℕ). row (kind_at ws i) (cond (ltb (kind_at ws i) 6) 0 (part_at ws i)) xs) (args_agree i h (eqb (kind_at ws i) function_kind) refl))

trees_none : (ws us : List ℕ) → trees us 0 ≡ trees ws 0
unfolding trees
trees_none ws us = refl

trees_step : (ws us : List ℕ) (m : ℕ) → trees us m ≡ trees ws m → words_at us m ≡ words_at ws m → trees us (suc m) ≡ trees ws (suc m)
unfolding trees
trees_step ws us m e f = rw (e, f)

module _ (ws us : List ℕ) where
  pub trees_agree : (m : ℕ) → ((i : ℕ) → i < m → words_at us i ≡ words_at ws i) → trees us m ≡ trees ws m
  trees_agree zero h = trees_none ws us
  trees_agree (suc m) h = trees_step ws us m (trees_agree m (λ i l. h i (omega arith))) (h m (omega arith))

pub length_append_row : (ws : List ℕ) (n e : ℕ) (r : Row) → length (append_row ws n e r) ≡ length ws
unfolding append_row
length_append_row ws n e r = length-sets (put_row ws n r.kind r.part (cond (eqb r.kind function_kind) e 0)
    (length r.args)) (entries_at + e) r.args ∙ length_put_row ws n r.kind r.part _ (length r.args)

-- one more row, where there is room for it
module _ (ws : List ℕ) (n e : ℕ) (r : Row) (long : full_length ≤ length ws) (room : n < max_sorts) (space : e + length r.args ≤ max_entries) where
  abbrev new : List ℕ
  new = append_row ws n e r

  abbrev start : ℕ
  start = cond (eqb r.kind function_kind) e 0

  abbrev put : List ℕ
  put = put_row ws n r.kind r.part start (length r.args)

  before_entries : (j : ℕ) → j < entries_at + e → get_or new j 0 ≡ get_or put j 0
  unfolding append_row
  before_entries j h = get_d_sets_before r.args put (entries_at + e) j h

  unchanged : (j : ℕ) → j < entries_at + e → j ≢ 4 * n → j ≢ 4 * n + 1 → j ≢ 4 * n + 2 → j ≢ 4 * n + 3 → get_or new j 0 ≡ get_or ws j 0
  unchanged j h a b c d = before_entries j h ∙ put_row_other ws n r.kind r.part start (length r.args) j a b c d

  pub append_agrees : Agrees ws new n e
  append_agrees =
      record {
        words = λ i h. unchanged i (omega arith) (λ x. omega arith) (λ x. omega arith) (λ x. omega arith) (λ x. omega arith);
        kinds = λ i h. unchanged (4 * i) (omega arith) (λ x. omega arith) (λ x. omega arith) (λ x. omega arith) (λ x. omega arith);
        parts = λ i h. unchanged (4 * i + 1) (omega arith) (λ x. omega arith) (λ x. omega arith) (λ x. omega arith) (λ x. omega arith);
        starts = λ i h. unchanged (4 * i + 2) (omega arith) (λ x. omega arith) (λ x. omega arith) (λ x. omega arith) (λ x. omega arith);
        counts = λ i h. unchanged (4 * i + 3) (omega arith) (λ x. omega arith) (λ x. omega arith) (λ x. omega arith) (λ x. omega arith);
        entries = λ j h. unchanged (entries_at + j) (omega arith) (λ x. omega arith) (λ x. omega arith) (λ x. omega arith) (λ x. omega arith);
      }

  pub new_kind : kind_at new n ≡ r.kind
  new_kind = before_entries (4 * n) (omega arith) ∙ put_row_kind ws n r.kind r.part start (length r.args) (omega arith)

  new_part : part_at new n ≡ r.part
  new_part = before_entries (4 * n + 1) (omega arith) ∙ put_row_part ws n r.kind r.part start (length r.args) (omega arith)

  pub new_start : start_at new n ≡ start
  new_start = before_entries (4 * n + 2) (omega arith) ∙ put_row_start ws n r.kind r.part start (length r.args) (omega arith)

  pub new_count : count_at new n ≡ length r.args
  new_count = before_entries (4 * n + 3) (omega arith) ∙ put_row_count ws n r.kind r.part start (length r.args) (omega arith)

  pub length_new : length new ≡ length ws
  unfolding append_row
  length_new = length-sets put (entries_at + e) r.args ∙ length_put_row ws n r.kind r.part start (length r.args)

  new_entries : entries_of new e (length r.args) ≡ r.args
  unfolding append_row
  new_entries =
      entries_are new r.args e
      (λ x h. ap (λ j. get_or new j 0) (omega arith)
      ∙ get_d_sets_at r.args put (entries_at + e) x (omega (arith, length_put_row ws n r.kind r.part start (length r.args))) h)

  module _ (w : Within n r) where
    part_read : (b : Bool) → ltb r.kind 6 ≡ b → cond b 0 r.part ≡ r.part
    part_read false q = refl
    part_read true q = sym (w.plain (ltb-true _ _ q))

    args_read : (b : Bool) → eqb r.kind function_kind ≡ b → cond b (entries_of new (cond b e 0) (length r.args)) [] ≡ r.args
    args_read true q = new_entries
    args_read false q = sym (w.no_run (eqb-false _ _ q))

    -- the new row reads as it was given
    pub new_row : words_at new n ≡ r
    new_row =
        rw (new_kind, new_part, new_start, new_count)
        (λ i. record { kind = r.kind; part = part_read (ltb r.kind 6) refl i; args = args_read (eqb r.kind function_kind) refl i })

-- the row of a sort has its parts in the list
flat_within : (l : ℕ) (a : Flat) → Within l (row (kind_flat a) (part_flat a) [])
unfolding kind_flat part_flat AllBelow
flat_within l unit = plain_within [] 0 l 0 0 0 0 (omega arith)
flat_within l (primitive Sort.Bool) = plain_within [] 0 l 0 0 0 1 (omega arith)
flat_within l (primitive Sort.Pos) = plain_within [] 0 l 0 0 0 2 (omega arith)
flat_within l (primitive Sort.Nat) = plain_within [] 0 l 0 0 0 3 (omega arith)
flat_within l (primitive Sort.Int) = plain_within [] 0 l 0 0 0 4 (omega arith)
flat_within l (primitive Sort.Real) = plain_within [] 0 l 0 0 0 5 (omega arith)
flat_within l (def n) = named_within [] 0 l n 0 0 12 (omega arith) (omega arith)
flat_within l (typevar n) = named_within [] 0 l n 0 0 13 (omega arith) (omega arith)

op_kind : (o : ComplexSort) → (6 ≤ kind_op o) × (kind_op o < 11)
unfolding kind_op
op_kind ComplexSort.List = (omega arith, omega arith)
op_kind ComplexSort.Set = (omega arith, omega arith)
op_kind ComplexSort.FSet = (omega arith, omega arith)
op_kind ComplexSort.Bag = (omega arith, omega arith)
op_kind ComplexSort.FBag = (omega arith, omega arith)

pub row_of_within : (T : List Tree) (t : Tree) → parts_in T t ≡ true → Within (length T) (row_of T t)
unfolding row_of parts_in
row_of_within T (flat a) h = flat_within (length T) a
row_of_within T (container o s) h =
    container_within [] 0 (length T) (number T s) 0 0 (kind_op o) (op_kind o).0 (op_kind o).1 (lt-ltb _ _ (number_below T s h))
row_of_within T (function ts u) h =
    let p = (and-eq-true_iff (members T ts) (member T u)).0 h in
    record {
      known = omega arith;
      plain = λ l. absurd (omega arith);
      part = λ l m. number_below T u p.1;
      no_run =
          λ n. absurd (n refl);
      args = numbers_below T ts p.0;
    }

pub length_numbers : (T : List Tree) (ts : Trees) → length (numbers T ts) ≡ arity ts
unfolding numbers arity
length_numbers T no_args = refl
length_numbers T (arg t ts) = omega (arith, length_numbers T ts)

pub length_args : (T : List Tree) (t : Tree) → length (row_of T t).args ≡ need t
unfolding row_of need
length_args T (flat a) = refl
length_args T (container o s) = refl
length_args T (function ts u) = length_numbers T ts

module _ (ws : List ℕ) (n e : ℕ) (t : Tree) (f : Fresh ws n e t) where
  abbrev next : List ℕ
  next = append_row ws n e (row_of (trees ws n) t)

  space_args : e + length (row_of (trees ws n) t).args ≤ max_entries
  space_args = omega (arith, f.space, length_args (trees ws n) t)

  agree : Agrees ws next n e
  agree = append_agrees ws n e (row_of (trees ws n) t) f.checked.long f.room space_args

  within : Within n (row_of (trees ws n) t)
  within = subst (λ l. Within l (row_of (trees ws n) t)) (length_trees ws n) (row_of_within (trees ws n) t f.parts)

  next_row : words_at next n ≡ row_of (trees ws n) t
  next_row = new_row ws n e (row_of (trees ws n) t) f.checked.long f.room space_args within

  pub trees_before : trees next n ≡ trees ws n
  trees_before = trees_agree ws next n (rows_agree ws next n e agree f.checked.fine)

  -- the list of sorts is one longer
  pub trees_append : trees next (suc n) ≡ trees ws n ++ (t ∷ [])
  unfolding trees
  trees_append = rw (trees_before, next_row, tree_of_row (trees ws n) t f.parts)

  old_fine : (i : ℕ) → i < n → row_fine_of next (e + need t) i ≡ true
  unfolding rows_fine
  old_fine i h =
      let was = below_each n (row_fine_of ws e) f.checked.fine i h in
      row_fine next (e + need t) i
      (subst (Within i) (sym (rows_agree ws next n e agree f.checked.fine i h)) (row_within ws e i was))
      (λ k. let r = run_inside ws e i was (sym (agree.kinds i h) ∙ k) in
      record { short = omega (arith, r.short, agree.counts i h); inside = omega (arith, r.inside, agree.starts i h, agree.counts i h) })

  start_read : eqb (row_of (trees ws n) t).kind function_kind ≡ true → start_at next n ≡ e
  start_read q = new_start ws n e (row_of (trees ws n) t) f.checked.long f.room space_args ∙ rw q

  count_read : count_at next n ≡ need t
  count_read = new_count ws n e (row_of (trees ws n) t) f.checked.long f.room space_args ∙ length_args (trees ws n) t

  kind_read : kind_at next n ≡ (row_of (trees ws n) t).kind
  kind_read = new_kind ws n e (row_of (trees ws n) t) f.checked.long f.room space_args

  last_fine : row_fine_of next (e + need t) n ≡ true
  last_fine =
      row_fine next (e + need t) n (subst (Within n) (sym next_row) within)
      (λ k. let s = start_read (eq-eqb _ _ (sym kind_read ∙ k)) in
      record { short = omega (arith, count_read, f.short); inside = omega (arith, s, count_read) })

  fine_step : (i : ℕ) → i < suc n → Dec (i ≡ n) → row_fine_of next (e + need t) i ≡ true
  fine_step i h (yes d) = rw d last_fine
  fine_step i h (no d) = old_fine i (omega arith)

  -- a checked list stays checked
  pub checked_append : Checked next (suc n) (e + need t)
  unfolding rows_fine no_two_equal
  checked_append =
      record {
        long = omega (arith, f.checked.long, length_new ws n e (row_of (trees ws n) t) f.checked.long f.room space_args);
        sorts = omega (arith, f.room);
        entries = f.space;
        fine = each_below (suc n) (row_fine_of next (e + need t)) (λ i h. fine_step i h (ℕ_discrete i n));
        differ = ap distinct trees_append ∙ distinct_snoc (trees ws n) t f.checked.differ f.absent;
      }
