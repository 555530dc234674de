-- Join and meet of functions as the code meets them: the arguments one after another, then the range, then the whole,
-- each call going on from the list that the one before it reached. Assumes nothing.
use mathlib.Core.Path.{◌≡◌, refl, sym, ◌∙◌, ap, ap₂, subst}
use mathlib.Core.Bool.{Bool, true}
use mathlib.Core.List.{List, ◌∷◌}
use Prim.Native.Nat.{ℕ, suc, ◌+◌, ◌-◌, ◌<◌, ◌≤◌}
use native.Mathlib.Omega.{arith}
use native.Mathlib.Nat.{add-zero, sub-zero}
use native.Mathlib.Numerals.{add-one}
use lib.ListN.{length, set, replicate}
use lib.Seq.{sets}
use Rattle.resolved_sort.specs.declared.SortId.{SortId}
use Rattle.resolved_sort.specs.declared.Run.{Run}
use Rattle.resolved_sort.specs.declared.ResolvedSort.TheVariants.{Function}
use Rattle.resolved_sort.specs.declared.Counts.{Counts}
use Rattle.resolved_sort.specs.Entries.{Joined}
use Rattle.resolved_sort.specs.Entries.{At, Nothing, Full}
use Rattle.resolved_sort.specs.Inner.Bounds.{All, Nothing as NotAll, Full as NoRoom}
use Rattle.resolved_sort.specs.Inner.Pairs.{Functions}
use Rattle.resolved_sort.specs.Tree.{Tree, function, Trees, no_args, arg, arity}
use Rattle.resolved_sort.specs.Interning.{Sorts, look, number, member, Outcome, made, nothing, full, ◌then◌, make, makes}
use Rattle.resolved_sort.specs.Storage.{max_entries, last_kind, function_kind, kind_at, part_at, start_at, count_at}
use Rattle.resolved_sort.specs.Storage.{entry_at, entries_of, resolved, row_at, trees, look_all, numbers, sorts_of}
use Rattle.resolved_sort.specs.Entries.{counts_of, after, stored}
use Rattle.resolved_sort.specs.Rows.{Checked, stored_at}
use Rattle.resolved_sort.specs.Inner.Pairs.{pair_at}
use Rattle.resolved_sort.specs.Bounds.{Asked, bound_at}
use Rattle.resolved_sort.specs.Inner.Bounds.{TwoFunctions, domain_left, arguments_from, domain_of, bound_domain}
use Rattle.resolved_sort.proofs.Numbers.{number_grows}
use Rattle.resolved_sort.proofs.RowTrees.{AllBelow, weaken_all, below_run, by_kind}
use Rattle.resolved_sort.proofs.Interned.{listed, row_below}
use Rattle.resolved_sort.proofs.Fine.{run_below}
use Rattle.resolved_sort.proofs.Pairs.{Says, pair_says, sort_of, Below, look_says, row_parts}
use Rattle.resolved_sort.specs.Growing.{Agrees, Grown, SortsExtend, SortsKept, InTree, Wholes}
use Rattle.resolved_sort.proofs.Grown.{grown_none, after_none, after_both, sorts_again}
use Rattle.resolved_sort.proofs.Unchanged.{longer, unchanged, run_unchanged}
use Rattle.resolved_sort.proofs.Kept.{InTrees, make_kept, makes_kept, wholes_extend}
use Rattle.resolved_sort.proofs.Stored.{look_whole, wholes_below}
use Rattle.resolved_sort.proofs.Reached.{Reached, reached, stopped, ended, reached_checked, reached_sorts, here}
use Rattle.resolved_sort.proofs.BoundsCode.{counts_are}

-- a row that says a function is of the function's kind
function_kind_lem : (p : ℕ) (run : Run) (k : ℕ) → k ≤ last_kind → (d : Run) (r : SortId) → resolved k p run ≡ Function d r → k ≡ function_kind
unfolding resolved
function_kind_lem p run k l =
    by_kind (λ k. (d : Run) (r : SortId) → resolved k p run ≡ Function d r → k ≡ function_kind)
    (λ d r q. let z : ◌≡◌ {A = ℕ} 0 1 = cc in absurd (omega arith))
    (λ d r q. let z : ◌≡◌ {A = ℕ} 0 1 = cc in absurd (omega arith))
    (λ d r q. let z : ◌≡◌ {A = ℕ} 0 1 = cc in absurd (omega arith))
    (λ d r q. let z : ◌≡◌ {A = ℕ} 0 1 = cc in absurd (omega arith))
    (λ d r q. let z : ◌≡◌ {A = ℕ} 0 1 = cc in absurd (omega arith))
    (λ d r q. let z : ◌≡◌ {A = ℕ} 0 1 = cc in absurd (omega arith))
    (λ d r q. let z : ◌≡◌ {A = ℕ} 0 1 = cc in absurd (omega arith))
    (λ d r q. let z : ◌≡◌ {A = ℕ} 0 1 = cc in absurd (omega arith))
    (λ d r q. let z : ◌≡◌ {A = ℕ} 0 1 = cc in absurd (omega arith))
    (λ d r q. let z : ◌≡◌ {A = ℕ} 0 1 = cc in absurd (omega arith))
    (λ d r q. let z : ◌≡◌ {A = ℕ} 0 1 = cc in absurd (omega arith))
    (λ d r q. refl)
    (λ d r q. let z : ◌≡◌ {A = ℕ} 0 1 = cc in absurd (omega arith))
    (λ d r q. let z : ◌≡◌ {A = ℕ} 0 1 = cc in absurd (omega arith))
    k l

pub function_says : (ws : List ℕ) (i : ℕ) → kind_at ws i ≡ function_kind
    → row_at ws i ≡ Function (record { start = start_at ws i; count = count_at ws i }) (record { 0 = part_at ws i })
unfolding resolved
function_says ws i h = rw h

same_count : (d c : Run) (r u : SortId) → Function d r ≡ Function c u → d.count ≡ c.count
same_count d c r u q = let p : d ≡ c = cc in ap (λ x. x.count) p

-- the facts of two functions of a list
module _ (ws : List ℕ) (n e a b : ℕ) where
  pub two_functions : Asked ws n e a b → (c ls : ℕ) (lr : SortId) (rs : ℕ) (rr : SortId) → pair_at ws a b ≡ Functions c ls lr rs rr → TwoFunctions ws n e a b
  unfolding Says
  two_functions k c ls lr rs rr q =
      let s = subst (Says (row_at ws a) (row_at ws b)) q (pair_says (row_at ws a) (row_at ws b)) in
      let ka = function_kind_lem (part_at ws a) (record { start = start_at ws a; count = count_at ws a }) (kind_at ws a)
      (row_below ws n e (listed k.checked) a k.lhs).known _ _ s.0 in
      let kb = function_kind_lem (part_at ws b) (record { start = start_at ws b; count = count_at ws b }) (kind_at ws b)
      (row_below ws n e (listed k.checked) b k.rhs).known _ _ s.1 in
      let x = sym (function_says ws a ka) ∙ s.0 in
      let y = sym (function_says ws b kb) ∙ s.1 in
      record { asked = k; lhs_function = ka; rhs_function = kb; as_many = same_count _ _ _ _ x ∙ sym (same_count _ _ _ _ y) }

module _ (ws : List ℕ) (n e : ℕ) (k : Checked ws n e) (a : ℕ) (ha : a < n) (f : kind_at ws a ≡ function_kind) where
  function_parts : Below ws e a (Function (record { start = start_at ws a; count = count_at ws a }) (record { 0 = part_at ws a }))
  function_parts = subst (Below ws e a) (function_says ws a f) (row_parts ws n e k a ha)

  pub range_below : part_at ws a < a
  unfolding Below
  range_below = function_parts.0

  pub few_arguments : count_at ws a ≤ 16
  unfolding Below
  few_arguments = function_parts.1

  pub run_inside_entries : start_at ws a + count_at ws a ≤ e
  unfolding Below
  run_inside_entries = function_parts.2

  pub arguments_below : AllBelow a (entries_of ws (start_at ws a) (count_at ws a))
  unfolding Below
  arguments_below = function_parts.3

  pub argument_below : (i : ℕ) → i < count_at ws a → entry_at ws (start_at ws a + i) < a
  argument_below i h = run_below ws a (start_at ws a) (count_at ws a) arguments_below i h

  pub function_sort : look (trees ws n) a ≡ function (arguments_from ws n a 0) (look (trees ws n) (part_at ws a))
  unfolding sort_of
  function_sort =
      look_says ws n e k a ha ∙ (ap (sort_of ws (trees ws n)) (function_says ws a f)
      ∙ ap₂ (λ s c. function (look_all (trees ws n) (entries_of ws s c)) (look (trees ws n) (part_at ws a)))
      (sym (add-zero (start_at ws a))) (sym (sub-zero (count_at ws a))))

-- one argument and the rest
run_cons : (ws : List ℕ) (s c i : ℕ) → i < c → entries_of ws (s + i) (c - i) ≡ entry_at ws (s + i) ∷ entries_of ws (s + (i + 1)) (c - (i + 1))
unfolding entries_of
run_cons ws s c i h =
    let x : c - i ≡ suc (c - (i + 1)) = omega arith in
    let y : s + i + 1 ≡ s + (i + 1) = omega arith in
    ap (entries_of ws (s + i)) x ∙ ap (λ j. entry_at ws (s + i) ∷ entries_of ws j (c - (i + 1))) y

arguments_cons : (ws : List ℕ) (n a i : ℕ) → i < count_at ws a
    → arguments_from ws n a i ≡ arg (look (trees ws n) (entry_at ws (start_at ws a + i))) (arguments_from ws n a (i + 1))
unfolding look_all
arguments_cons ws n a i h = ap (look_all (trees ws n)) (run_cons ws (start_at ws a) (count_at ws a) i h)

arguments_end : (ws : List ℕ) (n a i : ℕ) → i ≡ count_at ws a → arguments_from ws n a i ≡ no_args
unfolding look_all entries_of
arguments_end ws n a i h = let x : count_at ws a - i ≡ 0 = omega arith in ap (λ c. look_all (trees ws n) (entries_of ws (start_at ws a + i) c)) x

part_of_all : (l : ℕ) (ws : List ℕ) (s c i : ℕ) → i ≤ c → AllBelow l (entries_of ws s c) → AllBelow l (entries_of ws (s + i) (c - i))
part_of_all l ws s c i h b = below_run ws l (s + i) (c - i) (λ j q. subst (λ x. entry_at ws x < l) (omega arith) (run_below ws l s c b (i + j) (omega arith)))

-- the rest of the arguments, after the first was made
pub number_extends : (S S' : Sorts) (t : Tree) → SortsExtend S S' → member S.trees t ≡ true → number S'.trees t ≡ number S.trees t
number_extends S S' t x m = ap (λ T. number T t) x.1 ∙ number_grows S.trees x.0 t m

pub domain_glue : (ws : List ℕ) (n e : ℕ) (S : Sorts) → Grown ws n e S → (v : Tree) → member S.trees v ≡ true
    → (c : ℕ) → c ≡ number S.trees v → (i : ℕ) (ids : List ℕ) (k : ℕ) (O : Outcome Trees)
    → SortsKept (after ws n e S) (length S.trees) (max_entries - S.entries) (InTrees k) S O
    → domain_of (after ws n e S) (length S.trees) (max_entries - S.entries) (i + 1) (set ids i c) O ≡ domain_of ws n
    e i ids (O then (λ vs S. made (arg v vs) S))
unfolding SortsKept domain_of numbers
domain_glue ws n e S g v m c q i ids k (made vs S') h =
    let w = after_both ws n e S S' g h.0 in
    let d : c ≡ number S'.trees v = q ∙ sym (number_extends S S' v h.1 m) in
    let l : sets (set ids i c) (i + 1) (numbers S'.trees vs) ≡ sets (set ids i (number S'.trees v)) (suc i) (numbers S'.trees vs) =
    ap₂ (λ x j. sets (set ids i x) j (numbers S'.trees vs)) d (add-one i) in
    λ j. record { words = w j; ids = l j; found = All (counts_of S') }
domain_glue ws n e S g v m c q i ids k (nothing S') h =
    let w = after_both ws n e S S' g h.0 in λ j. record { words = w j; ids = replicate 16 0; found = NotAll (counts_of S') }
domain_glue ws n e S g v m c q i ids k (full S') h =
    let w = after_both ws n e S S' g h.0 in λ j. record { words = w j; ids = replicate 16 0; found = NoRoom }

-- the arguments of a function, from the i-th on, in a list that has grown
module _ (ws : List ℕ) (n e : ℕ) (k : Checked ws n e) (S : Sorts) (g : Grown ws n e S) (a : ℕ) (ha : a < n) (f : kind_at ws a ≡ function_kind) where
  pub arguments_unchanged : (i : ℕ) → i ≤ count_at ws a → arguments_from (after ws n e S) (length S.trees) a i ≡ arguments_from ws n a i
  arguments_unchanged i h =
      ap₂ (λ s c. look_all (trees (after ws n e S) (length S.trees)) (entries_of (after ws n e S) (s + i) (c - i)))
      ((unchanged ws n e k S g).starts a ha) ((unchanged ws n e k S g).counts a ha)
      ∙ run_unchanged ws n e k S g (start_at ws a + i) (count_at ws a - i) (omega (arith, run_inside_entries ws n e k a ha f))
      (part_of_all n ws (start_at ws a) (count_at ws a) i h (weaken_all a n (entries_of ws (start_at ws a) (count_at ws a))
      (omega arith) (arguments_below ws n e k a ha f)))

  pub arguments_whole : (i : ℕ) → i ≤ count_at ws a → Wholes (trees ws n) (arguments_from ws n a i)
  arguments_whole i h =
      wholes_below ws n e k n (look_whole ws n e k) (entries_of ws (start_at ws a + i) (count_at ws a - i))
      (part_of_all n ws (start_at ws a) (count_at ws a) i h (weaken_all a n (entries_of ws (start_at ws a) (count_at ws a))
      (omega arith) (arguments_below ws n e k a ha f)))

-- the arguments of two functions, from the i-th on, in the list that a call reached
domain_after : (up : Bool) (ws : List ℕ) (n e a b : ℕ) (f : TwoFunctions ws n e a b) (S : Sorts) → Grown ws n e S
    → (i : ℕ) → i ≤ count_at ws a → (ids vs : List ℕ) (K : Counts)
    → vs ≡ after ws n e S → K ≡ counts_of S
    → bound_domain up vs K.sorts K.entries a b i ids
    ≡ domain_of (after ws n e S) (length S.trees) (max_entries - S.entries) i ids (makes up (arguments_from ws n a i) (arguments_from ws n b i) S)
unfolding bound_domain
domain_after up ws n e a b f S g i h ids vs K w c =
    rw (w, c)
    (rw (
      arguments_unchanged ws n e f.asked.checked S g a f.asked.lhs f.lhs_function i h,
      arguments_unchanged ws n e f.asked.checked S g b f.asked.rhs f.rhs_function i (omega (arith, f.as_many)),
      sorts_again ws n e S g,
    ))

-- the arguments of two functions from the i-th on
module _ (up : Bool) (ws : List ℕ) (C : Counts) (a b : ℕ) (f : TwoFunctions ws C.sorts C.entries a b) (i : ℕ) (ids : List ℕ) where
  abbrev n : ℕ
  n = C.sorts

  abbrev e : ℕ
  e = C.entries

  abbrev k : Checked ws n e
  k = f.asked.checked

  abbrev S : Sorts
  S = sorts_of ws n e

  pub domain_done : i ≡ count_at ws a → domain_left ws ids (All C) ≡ bound_domain up ws n e a b i ids
  unfolding bound_domain domain_of makes numbers
  domain_done h =
      rw (arguments_end ws n a i h, arguments_end ws n b i (h ∙ f.as_many))
      (let w = sym (after_none ws n e k) in
      let c = sym (counts_are ws C k) in
      λ x. record { words = w x; ids = ids; found = All (c x) })

  module _ (h : i < count_at ws a) where
    abbrev x : ℕ
    x = entry_at ws (start_at ws a + i)

    abbrev y : ℕ
    y = entry_at ws (start_at ws b + i)

    pub x_below : x < a
    x_below = argument_below ws n e k a f.asked.lhs f.lhs_function i h

    pub y_below : y < b
    y_below = argument_below ws n e k b f.asked.rhs f.rhs_function i (omega (arith, f.as_many))

    pub arguments_asked : Asked ws n e x y
    arguments_asked = record { checked = k; lhs = omega (arith, x_below, f.asked.lhs); rhs = omega (arith, y_below, f.asked.rhs) }

    abbrev first : Outcome Tree
    first = make up (look (trees ws n) x) (look (trees ws n) y) S

    abbrev rest : Sorts → Outcome Trees
    rest S = makes up (arguments_from ws n a (i + 1)) (arguments_from ws n b (i + 1)) S

    domain_is : bound_domain up ws n e a b i ids ≡ domain_of ws n e i ids (first then (λ v S. rest S then (λ vs S. made (arg v vs) S)))
    unfolding bound_domain makes
    domain_is = rw (arguments_cons ws n a i h, arguments_cons ws n b i (omega (arith, f.as_many)))

    first_kept : SortsKept ws n e InTree S first
    first_kept =
        make_kept ws n e up (look (trees ws n) x) (look (trees ws n) y) S (grown_none ws n e k)
        (look_whole ws n e k x arguments_asked.lhs) (look_whole ws n e k y arguments_asked.rhs)

    module _ (vs : List ℕ) (r : Joined) (er : stored_at vs r ≡ bound_at up ws n e x y) where
      to_first : stored_at vs r ≡ stored ws n e first
      unfolding bound_at
      to_first = er

      pub domain_stops : (K : Counts) → r ≡ Nothing K → domain_left vs (replicate 16 0) (NotAll K) ≡ bound_domain up ws n e a b i ids
      unfolding domain_of
      domain_stops K z =
          let g = stopped ws n e first vs K (ap (stored_at vs) (sym z) ∙ to_first) in
          (let w = g.2 in let c = g.3 in λ j. record { words = w j; ids = replicate 16 0; found = NotAll (c j) })
          ∙ sym (domain_is ∙ ap (λ O. domain_of ws n e i ids (O then (λ v S. rest S then (λ vs S. made (arg v vs) S)))) g.1)

      pub domain_ends : r ≡ Full → domain_left vs (replicate 16 0) NoRoom ≡ bound_domain up ws n e a b i ids
      unfolding domain_of
      domain_ends z =
          let g = ended ws n e first vs (ap (stored_at vs) (sym z) ∙ to_first) in
          (let w = g.2 in λ j. record { words = w j; ids = replicate 16 0; found = NoRoom })
          ∙ sym (domain_is ∙ ap (λ O. domain_of ws n e i ids (O then (λ v S. rest S then (λ vs S. made (arg v vs) S)))) g.1)

      module _ (c : SortId) (K : Counts) (z : r ≡ At c K) where
        there : Reached ws n e S first vs c K
        there = reached ws n e S first first_kept vs c K (ap (stored_at vs) (sym z) ∙ to_first)

        same_rows : Agrees ws vs n e
        same_rows = subst (λ us. Agrees ws us n e) (sym there.words) (unchanged ws n e k there.sorts there.grown)

        more_sorts : n ≤ K.sorts
        more_sorts = omega (arith, longer ws n e k there.sorts there.grown, reached_sorts ws n e S first vs c K there)

        -- the two are functions in the list that was reached
        pub domain_next : TwoFunctions vs K.sorts K.entries a b
        domain_next =
            record {
              asked = record {
                checked = reached_checked ws n e S first vs c K there;
                lhs = omega
                    (arith, f.asked.lhs, more_sorts);
                rhs = omega (arith, f.asked.rhs, more_sorts);
              };
              lhs_function = same_rows.kinds a f.asked.lhs ∙ f.lhs_function;
              rhs_function = same_rows.kinds b f.asked.rhs ∙ f.rhs_function;
              as_many = same_rows.counts a f.asked.lhs ∙ (f.as_many ∙ sym (same_rows.counts b f.asked.rhs));
            }

        pub count_unchanged : count_at vs a ≡ count_at ws a
        count_unchanged = same_rows.counts a f.asked.lhs

        pub lhs_start_unchanged : start_at vs a ≡ start_at ws a
        lhs_start_unchanged = same_rows.starts a f.asked.lhs

        pub rhs_start_unchanged : start_at vs b ≡ start_at ws b
        rhs_start_unchanged = same_rows.starts b f.asked.rhs

        abbrev S₁ : Sorts
        S₁ = there.sorts

        rest_kept : SortsKept (after ws n e S₁) (length S₁.trees) (max_entries - S₁.entries) (InTrees (arity (arguments_from ws n a (i + 1)))) S₁ (rest S₁)
        rest_kept =
            makes_kept (after ws n e S₁) (length S₁.trees) (max_entries - S₁.entries) up (arguments_from ws n a (i + 1)) (arguments_from ws n b (i + 1)) S₁
            (here ws n e S first vs c K there)
            (wholes_extend S S₁ _ there.extends (arguments_whole ws n e k S (grown_none ws n e k) a f.asked.lhs f.lhs_function (i + 1) (omega arith)))
            (wholes_extend S S₁ _ there.extends (arguments_whole ws n e k S (grown_none ws n e k) b f.asked.rhs
            f.rhs_function (i + 1) (omega (arith, f.as_many))))

        -- the arguments from the next on come to those from this one on
        pub domain_goes_on : bound_domain up vs K.sorts K.entries a b (i + 1) (set ids i c.0) ≡ bound_domain up ws n e a b i ids
        domain_goes_on =
            domain_after up ws n e a b f S₁ there.grown (i + 1) (omega arith) (set ids i c.0) vs K there.words there.counted
            ∙ (domain_glue ws n e S₁ there.grown there.sort there.inside c.0 there.numbered i ids _ (rest S₁) rest_kept
            ∙ sym (domain_is ∙ ap (λ O. domain_of ws n e i ids (O then (λ v S. rest S then (λ vs S. made (arg v vs) S)))) there.is))
