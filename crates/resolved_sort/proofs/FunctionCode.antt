-- Join and meet of two functions as the code meets them: after the arguments the range goes on from the list that they
-- reached, and the whole from the list that the range reached. Assumes nothing.
use mathlib.Core.Path.{◌≡◌, refl, sym, ◌∙◌, ap, ap₂, subst}
use mathlib.Core.Bool.{Bool, true, not, and-eq-true_iff}
use mathlib.Core.List.{List, ◌∷◌}
use Prim.Native.Nat.{ℕ, ◌+◌, ◌-◌, ◌<◌, ◌≤◌}
use native.Mathlib.Omega.{arith}
use native.Mathlib.Nat.{sub-zero}
use lib.ListN.{length, take, replicate, length-replicate, length-append}
use lib.Seq.{sets, sets-eq, take-append_seam}
use Rattle.resolved_sort.specs.declared.SortId.{SortId}
use Rattle.resolved_sort.specs.declared.Counts.{Counts}
use Rattle.resolved_sort.specs.Entries.{Joined}
use Rattle.resolved_sort.specs.Entries.{At, Nothing, Full}
use Rattle.resolved_sort.specs.Inner.Bounds.{All, Nothing as NotAll, Full as NoRoom}
use Rattle.resolved_sort.specs.Inner.Bounds.{Domain}
use Rattle.resolved_sort.specs.Tree.{Tree, function, Trees, no_args, arg, arity}
use Rattle.resolved_sort.specs.Interning.{Sorts, look, member, need, Outcome, made, nothing, full, ◌then◌, intern, make, makes}
use Rattle.resolved_sort.specs.Storage.{max_entries, part_at, start_at, count_at, trees, look_all, numbers, sorts_of}
use Rattle.resolved_sort.specs.Entries.{counts_of, after, stored}
use Rattle.resolved_sort.specs.Rows.{Checked, stored_at}
use Rattle.resolved_sort.specs.Bounds.{Asked, bound_at, intern_at}
use Rattle.resolved_sort.specs.Inner.Storage.{sort_numbers}
use Rattle.resolved_sort.specs.Inner.Bounds.{TwoFunctions, stored_domain, arguments_from, domain_of, bound_domain, function_at}
use Rattle.resolved_sort.proofs.Numbers.{look_injective}
use Rattle.resolved_sort.proofs.Trees.{length_trees}
use Rattle.resolved_sort.proofs.RowTrees.{AllBelow, weaken_all, look_all_numbers, numbers_below}
use Rattle.resolved_sort.specs.Growing.{members, parts_in, Grown, SortsExtend, SortsKept, InTree}
use Rattle.resolved_sort.proofs.Interned.{listed, trees_differ}
use Rattle.resolved_sort.proofs.Pairs.{arity_run}
use Rattle.resolved_sort.proofs.Append.{length_numbers}
use Rattle.resolved_sort.proofs.Grown.{grown_none, sorts_again}
use Rattle.resolved_sort.proofs.Unchanged.{longer, look_unchanged}
use Rattle.resolved_sort.proofs.Kept.{members_extends, InTrees, make_kept, makes_kept, intern_kept, whole_extends}
use Rattle.resolved_sort.proofs.Stored.{look_whole}
use Rattle.resolved_sort.proofs.Reached.{no_confusion, Reached, reached, stopped, ended, reached_checked}
use Rattle.resolved_sort.proofs.Reached.{reached_trees, reached_below, reached_sort, reached_sorts}
use Rattle.resolved_sort.proofs.Reached.{stored_again, intern_after}
use Rattle.resolved_sort.proofs.BoundsCode.{make_functions}
use Rattle.resolved_sort.proofs.DomainCode.{number_extends, range_below, few_arguments, function_sort, arguments_whole}

-- What the arguments' call has left.
pub record ReachedAll (ws : List ℕ) (n e : ℕ) (S₀ : Sorts) (k : ℕ) (O : Outcome Trees) (vs : List ℕ) (d : Domain) (K : Counts) : Type 0 where
  pub args : Trees
  pub sorts : Sorts
  pub is : O ≡ made args sorts
  pub words : vs ≡ after ws n e sorts
  pub stored_ids : sort_numbers d.ids ≡ sets (replicate 16 0) 0 (numbers sorts.trees args)
  pub counted : K ≡ counts_of sorts
  pub grown : Grown ws n e sorts
  pub extends : SortsExtend S₀ sorts
  pub inside : members sorts.trees args ≡ true
  pub as_many : arity args ≡ k

pub reached_all : (ws : List ℕ) (n e : ℕ) (S₀ : Sorts) (k : ℕ) (O : Outcome Trees) → SortsKept ws n e (InTrees k) S₀ O
    → (vs : List ℕ) (d : Domain) (K : Counts) → stored_domain vs d ≡ domain_of ws n e 0 (replicate 16 0) O → d.found ≡ All K → ReachedAll ws n e S₀ k O vs d K
unfolding SortsKept domain_of
reached_all ws n e S₀ k (made ts S) h vs d K q z =
    let a : All K ≡ All (counts_of S) = sym z ∙ ap (λ r. r.found) q in
    record {
      args = ts;
      sorts = S;
      is = refl;
      words = ap (λ r. r.words) q;
      stored_ids = ap (λ r. r.ids) q;
      counted = cc;
      grown = h.0;
      extends = h.1;
      inside = h.2.0;
      as_many = h.2.1;
    }
reached_all ws n e S₀ k (nothing S) h vs d K q z = let a : All K ≡ NotAll (counts_of S) = sym z ∙ ap (λ r. r.found) q in no_confusion (cc)
reached_all ws n e S₀ k (full S) h vs d K q z = let a : All K ≡ NoRoom = sym z ∙ ap (λ r. r.found) q in no_confusion (cc)

pub stopped_all : (ws : List ℕ) (n e : ℕ) (O : Outcome Trees) (vs : List ℕ) (d : Domain) (K : Counts)
    → stored_domain vs d ≡ domain_of ws n e 0 (replicate 16 0) O → d.found ≡ NotAll K
    → (S : Sorts) × (O ≡ nothing S) × (vs ≡ after ws n e S) × (K ≡ counts_of S)
unfolding domain_of
stopped_all ws n e (made ts S) vs d K q z = let a : NotAll K ≡ All (counts_of S) = sym z ∙ ap (λ r. r.found) q in no_confusion (cc)
stopped_all ws n e (nothing S) vs d K q z = let a : NotAll K ≡ NotAll (counts_of S) = sym z ∙ ap (λ r. r.found) q in (S, refl, ap (λ r. r.words) q, cc)
stopped_all ws n e (full S) vs d K q z = let a : NotAll K ≡ NoRoom = sym z ∙ ap (λ r. r.found) q in no_confusion (cc)

pub ended_all : (ws : List ℕ) (n e : ℕ) (O : Outcome Trees) (vs : List ℕ) (d : Domain)
    → stored_domain vs d ≡ domain_of ws n e 0 (replicate 16 0) O → d.found ≡ NoRoom
    → (S : Sorts) × (O ≡ full S) × (vs ≡ after ws n e S)
unfolding domain_of
ended_all ws n e (made ts S) vs d q z = let a : NoRoom ≡ All (counts_of S) = sym z ∙ ap (λ r. r.found) q in no_confusion (cc)
ended_all ws n e (nothing S) vs d q z = let a : NoRoom ≡ NotAll (counts_of S) = sym z ∙ ap (λ r. r.found) q in no_confusion (cc)
ended_all ws n e (full S) vs d q z = (S, refl, ap (λ r. r.words) q)

-- the ids that were stored are the numbers of the answers
pub first_ids : (xs : List ℕ) → length xs ≤ 16 → take (length xs) (sets (replicate 16 0) 0 xs) ≡ xs
first_ids xs h =
    ap (take (length xs)) (sets-eq xs (replicate 16 0) 0 (omega (arith, length-replicate {A = ℕ} 16 0)))
    ∙ take-append_seam xs _

pub stored_nothing : (ws : List ℕ) (n e : ℕ) (S : Sorts) (vs : List ℕ) (K : Counts) → vs ≡ after ws n e S
    → K ≡ counts_of S → stored_at vs (Nothing K) ≡ stored ws n e (nothing S)
unfolding stored
stored_nothing ws n e S vs K w c = λ j. record { words = w j; answer = Nothing (c j) }

pub stored_full : (ws : List ℕ) (n e : ℕ) (S : Sorts) (vs : List ℕ) → vs ≡ after ws n e S → stored_at vs Full ≡ stored ws n e (full S)
unfolding stored
stored_full ws n e S vs w = λ j. record { words = w j; answer = Full }

pub numbers_extend : (S S' : Sorts) (ts : Trees) → SortsExtend S S' → members S.trees ts ≡ true → numbers S'.trees ts ≡ numbers S.trees ts
unfolding numbers members
numbers_extend S S' no_args x m = refl
numbers_extend S S' (arg t ts) x m =
    let p = (and-eq-true_iff (member S.trees t) (members S.trees ts)).0 m in
    ap₂ ◌∷◌ (number_extends S S' t x p.0) (numbers_extend S S' ts x p.1)

-- the join or meet of two old sorts in the list that a call reached
range_after : (ws : List ℕ) (n e : ℕ) (k : Checked ws n e) (S : Sorts) (g : Grown ws n e S) (up : Bool) (x y : ℕ) → x < n → y < n → (vs : List ℕ) (K : Counts)
    → vs ≡ after ws n e S → K ≡ counts_of S
    → bound_at up vs K.sorts K.entries x y ≡ stored (after ws n e S) (length S.trees)
    (max_entries - S.entries) (make up (look (trees ws n) x) (look (trees ws n) y) S)
unfolding bound_at
range_after ws n e k S g up x y hx hy vs K w c =
    rw (w, c) (rw (look_unchanged ws n e k S g x hx, look_unchanged ws n e k S g y hy, sorts_again ws n e S g))

module _ (up : Bool) (ws : List ℕ) (C : Counts) (a b : ℕ) (f : TwoFunctions ws C.sorts C.entries a b) where
  abbrev n : ℕ
  n = C.sorts

  abbrev e : ℕ
  e = C.entries

  abbrev k : Checked ws n e
  k = f.asked.checked

  abbrev T : List Tree
  T = trees ws n

  abbrev S : Sorts
  S = sorts_of ws n e

  abbrev arguments : Outcome Trees
  arguments = makes (not up) (arguments_from ws n a 0) (arguments_from ws n b 0) S

  abbrev range : Sorts → Outcome Tree
  range S = make up (look T (part_at ws a)) (look T (part_at ws b)) S

  abbrev whole : Trees → Sorts → Outcome Tree
  whole ts S = range S then (λ v S. intern (function ts v) S)

  function_is : function_at up ws n e a b ≡ stored ws n e (arguments then whole)
  unfolding function_at
  function_is = refl

  arguments_kept : SortsKept ws n e (InTrees (arity (arguments_from ws n a 0))) S arguments
  arguments_kept =
      makes_kept ws n e (not up) (arguments_from ws n a 0) (arguments_from ws n b 0) S (grown_none ws n e k)
      (arguments_whole ws n e k S (grown_none ws n e k) a f.asked.lhs f.lhs_function 0 (omega arith))
      (arguments_whole ws n e k S (grown_none ws n e k) b f.asked.rhs f.rhs_function 0 (omega arith))

  lhs_range : part_at ws a < n
  lhs_range = omega (arith, range_below ws n e k a f.asked.lhs f.lhs_function, f.asked.lhs)

  rhs_range : part_at ws b < n
  rhs_range = omega (arith, range_below ws n e k b f.asked.rhs f.rhs_function, f.asked.rhs)

  module _ (vs : List ℕ) (d : Domain) (q : stored_domain vs d ≡ bound_domain (not up) ws n e a b 0 (replicate 16 0)) where
    to_arguments : stored_domain vs d ≡ domain_of ws n e 0 (replicate 16 0) arguments
    unfolding bound_domain
    to_arguments = q

    pub function_stops : (K : Counts) → d.found ≡ NotAll K → stored_at vs (Nothing K) ≡ function_at up ws n e a b
    function_stops K z =
        let g = stopped_all ws n e arguments vs d K to_arguments z in
        stored_nothing ws n e g.0 vs K g.2 g.3 ∙ sym (function_is ∙ ap (λ O. stored ws n e (O then whole)) g.1)

    pub function_ends : d.found ≡ NoRoom → stored_at vs Full ≡ function_at up ws n e a b
    function_ends z =
        let g = ended_all ws n e arguments vs d to_arguments z in
        stored_full ws n e g.0 vs g.2 ∙ sym (function_is ∙ ap (λ O. stored ws n e (O then whole)) g.1)

    module _ (K : Counts) (z : d.found ≡ All K) where
      there : ReachedAll ws n e S (arity (arguments_from ws n a 0)) arguments vs d K
      there = reached_all ws n e S _ arguments arguments_kept vs d K to_arguments z

      abbrev S₁ : Sorts
      S₁ = there.sorts

      abbrev w₁ : List ℕ
      w₁ = after ws n e S₁

      abbrev n₁ : ℕ
      n₁ = length S₁.trees

      abbrev e₁ : ℕ
      e₁ = max_entries - S₁.entries

      grown_here : Grown w₁ n₁ e₁ S₁
      grown_here = subst (Grown w₁ n₁ e₁) (sorts_again ws n e S₁ there.grown) (grown_none w₁ n₁ e₁ there.grown.checked)

      more : n ≤ n₁
      more = longer ws n e k S₁ there.grown

      -- what the range's call asks
      pub range_asked : Asked vs K.sorts K.entries (part_at ws a) (part_at ws b)
      range_asked = range_asked_at vs K there.words there.counted
        where
          range_asked_at : (vs : List ℕ) (K : Counts) → vs ≡ w₁ → K ≡ counts_of S₁ → Asked vs K.sorts K.entries (part_at ws a) (part_at ws b)
          range_asked_at vs K w c = rw (w, c) (record {
            checked = there.grown.checked;
            lhs = omega
                (arith, lhs_range, more);
            rhs = omega (arith, rhs_range, more);
          })

      range_kept : SortsKept w₁ n₁ e₁ InTree S₁ (range S₁)
      range_kept =
          make_kept w₁ n₁ e₁ up (look T (part_at ws a)) (look T (part_at ws b)) S₁ grown_here
          (whole_extends S S₁ _ there.extends (look_whole ws n e k (part_at ws a) lhs_range))
          (whole_extends S S₁ _ there.extends (look_whole ws n e k (part_at ws b) rhs_range))

      function_then : function_at up ws n e a b ≡ stored ws n e (range S₁ then (λ v S. intern (function there.args v) S))
      function_then = function_is ∙ ap (λ O. stored ws n e (O then whole)) there.is

      module _ (us : List ℕ) (r : Joined) (er : stored_at us r ≡ bound_at up vs K.sorts K.entries (part_at ws a) (part_at ws b)) where
        to_range : stored_at us r ≡ stored w₁ n₁ e₁ (range S₁)
        to_range = er ∙ range_after ws n e k S₁ there.grown up (part_at ws a) (part_at ws b) lhs_range rhs_range vs K there.words there.counted

        range_once : stored w₁ n₁ e₁ (range S₁) ≡ stored ws n e (range S₁)
        range_once = stored_again ws n e S₁ there.grown S₁ (range S₁) range_kept

        pub range_stops : (K₂ : Counts) → r ≡ Nothing K₂ → stored_at us (Nothing K₂) ≡ function_at up ws n e a b
        range_stops K₂ y =
            let h : stored_at us (Nothing K₂) ≡ stored w₁ n₁ e₁ (range S₁) = ap (stored_at us) (sym y) ∙ to_range in
            let g = stopped w₁ n₁ e₁ (range S₁) us K₂ h in
            h ∙ (range_once ∙ (ap (stored ws n e) g.1
            ∙ sym (function_then ∙ ap (λ O. stored ws n e (O then (λ v S. intern (function there.args v) S))) g.1)))

        pub range_ends : r ≡ Full → stored_at us Full ≡ function_at up ws n e a b
        range_ends y =
            let h : stored_at us Full ≡ stored w₁ n₁ e₁ (range S₁) = ap (stored_at us) (sym y) ∙ to_range in
            let g = ended w₁ n₁ e₁ (range S₁) us h in
            h ∙ (range_once ∙ (ap (stored ws n e) g.1
            ∙ sym (function_then ∙ ap (λ O. stored ws n e (O then (λ v S. intern (function there.args v) S))) g.1)))

        module _ (c : SortId) (K₂ : Counts) (y : r ≡ At c K₂) where
          then_there : Reached w₁ n₁ e₁ S₁ (range S₁) us c K₂
          then_there = reached w₁ n₁ e₁ S₁ (range S₁) range_kept us c K₂ (ap (stored_at us) (sym y) ∙ to_range)

          abbrev S₂ : Sorts
          S₂ = then_there.sorts

          pub function_checked : Checked us K₂.sorts K₂.entries
          function_checked = reached_checked w₁ n₁ e₁ S₁ (range S₁) us c K₂ then_there

          pub function_range_below : c.0 < K₂.sorts
          function_range_below = reached_below w₁ n₁ e₁ S₁ (range S₁) us c K₂ then_there

          arguments_count : length (numbers S₁.trees there.args) ≡ count_at ws a
          arguments_count =
              length_numbers S₁.trees there.args ∙ (there.as_many ∙ (arity_run ws T (start_at ws a + 0) (count_at ws a - 0) ∙ sub-zero (count_at ws a)))

          ids_are : take (count_at ws a) (sort_numbers d.ids) ≡ numbers S₁.trees there.args
          ids_are =
              ap₂ take (sym arguments_count) there.stored_ids
              ∙ first_ids (numbers S₁.trees there.args) (omega (arith, arguments_count, few_arguments ws n e k a f.asked.lhs f.lhs_function))

          sorts_grow : n₁ ≤ K₂.sorts
          sorts_grow =
              omega (
                arith,
                reached_sorts w₁ n₁ e₁ S₁ (range S₁) us c K₂ then_there,
                ap length
                    then_there.extends.1,
                length-append S₁.trees then_there.extends.0,
              )

          pub function_ids_below : AllBelow K₂.sorts (take (count_at ws a) (sort_numbers d.ids))
          function_ids_below =
              subst (AllBelow K₂.sorts) (sym ids_are)
              (weaken_all n₁ K₂.sorts (numbers S₁.trees there.args) sorts_grow (numbers_below S₁.trees there.args there.inside))

          members_there : members S₂.trees there.args ≡ true
          members_there = members_extends S₁ S₂ there.args then_there.extends there.inside

          args_there : look_all (trees us K₂.sorts) (take (count_at ws a) (sort_numbers d.ids)) ≡ there.args
          args_there =
              ap₂ look_all (reached_trees w₁ n₁ e₁ S₁ (range S₁) us c K₂ then_there)
              (ids_are ∙ sym (numbers_extend S₁ S₂ there.args then_there.extends there.inside))
              ∙ look_all_numbers S₂.trees there.args members_there

          few : arity there.args ≤ 16
          few =
              omega (
                arith,
                there.as_many,
                arity_run ws T (start_at ws a + 0) (count_at ws a - 0),
                sub-zero
                    (count_at ws a),
                few_arguments ws n e k a f.asked.lhs f.lhs_function,
              )

          parts_there : parts_in S₂.trees (function there.args then_there.sort) ≡ true
          unfolding parts_in
          parts_there = (and-eq-true_iff (members S₂.trees there.args) (member S₂.trees then_there.sort)).1 (members_there, then_there.inside)

          pub function_made : (zs : List ℕ) (w : Joined)
              → stored_at zs w ≡ intern_at us K₂.sorts K₂.entries (function (look_all (trees us K₂.sorts)
              (take (count_at ws a) (sort_numbers d.ids))) (look (trees us K₂.sorts) c.0))
              → stored_at zs w ≡ function_at up ws n e a b
          unfolding need
          function_made zs w g =
              g ∙ (ap₂ (λ ts v. intern_at us K₂.sorts K₂.entries (function ts v)) args_there (reached_sort w₁ n₁ e₁ S₁ (range S₁) us c K₂ then_there)
              ∙ (intern_after w₁ n₁ e₁ S₁ (range S₁) us c K₂ then_there (function there.args then_there.sort) parts_there few
              ∙ (stored_again ws n e S₁ there.grown S₂ (intern (function there.args then_there.sort) S₂)
              (intern_kept w₁ n₁ e₁ S₂ then_there.grown (function there.args then_there.sort) parts_there few)
              ∙ sym (function_then ∙ ap (λ O. stored ws n e (O then (λ v S. intern (function there.args v) S))) then_there.is))))

-- two functions of different numbers: the whole is their join or meet
pub bound_functions : (up : Bool) (ws : List ℕ) (n e a b : ℕ) → TwoFunctions ws n e a b → (a ≡ b → ⊥) → function_at up ws n e a b ≡ bound_at up ws n e a b
unfolding function_at bound_at
bound_functions up ws n e a b f d =
    let k = f.asked.checked in
    let l = function_sort ws n e k a f.asked.lhs f.lhs_function in
    let r = function_sort ws n e k b f.asked.rhs f.rhs_function in
    let differ : look (trees ws n) a ≡ look (trees ws n) b → ⊥ =
    λ q. d (look_injective (trees ws n) a b (trees_differ ws n e (listed k))
    (omega (arith, length_trees ws n, f.asked.lhs)) (omega (arith, length_trees ws n, f.asked.rhs)) q) in
    ap (stored ws n e)
    (sym (ap₂ (λ x y. make up x y (sorts_of ws n e)) l r
    ∙ make_functions up (arguments_from ws n a 0) (arguments_from ws n b 0) (look (trees ws n) (part_at ws a)) (look (trees ws n) (part_at ws b)) (sorts_of ws n e)
    (λ q. differ (l ∙ (q ∙ sym r)))
    (arity_run ws (trees ws n) (start_at ws a + 0) (count_at ws a - 0) ∙ (ap (λ c. c - 0) f.as_many ∙ sym
    (arity_run ws (trees ws n) (start_at ws b + 0) (count_at ws b - 0))))))
