-- Resolve as the code meets it: a container's part and then the whole, a function's arguments one after another, then its range, then the whole, each
-- call going on from the list that the one before it reached. Each law's premises are what a callee ensures and what its answer is. Assumes nothing.
use mathlib.Core.Path.{◌≡◌, refl, sym, ◌∙◌, ap, ap₂, subst}
use mathlib.Core.Bool.{true, and-eq-true_iff}
use mathlib.Core.List.{List, [], ◌∷◌, ◌++◌}
use mathlib.Core.Option.{Option, some}
use Prim.Native.Nat.{ℕ, suc, ◌+◌, ◌-◌, ◌<◌, ◌≤◌}
use native.Mathlib.Omega.{arith}
use lib.ListN.{length, get_or, take, set, replicate, length-append}
use Rattle.resolved_sort.specs.declared.SortId.{SortId}
use Rattle.resolved_sort.specs.declared.ComplexSort.{ComplexSort}
use Rattle.resolved_sort.specs.declared.Counts.{Counts}
use Rattle.resolved_sort.specs.Entries.{Joined}
use Rattle.resolved_sort.specs.Entries.{At, Nothing, Full}
use Rattle.resolved_sort.specs.Inner.Bounds.{All, Nothing as NotAll, Full as NoRoom}
use Rattle.resolved_sort.specs.Inner.Bounds.{Domain}
use Rattle.resolved_sort.specs.Tree.{unit, Tree, flat, container, function, Trees, no_args, arg, arity}
use Rattle.resolved_sort.specs.Interning.{Sorts, look, member, need, Outcome, made, nothing, full, ◌then◌, intern}
use Rattle.resolved_sort.specs.Storage.{max_entries, trees, look_all, numbers, sorts_of}
use Rattle.resolved_sort.specs.Entries.{counts_of, after, stored}
use Rattle.resolved_sort.specs.Rows.{Checked, stored_at, AllBelow}
use Rattle.resolved_sort.specs.Bounds.{intern_at}
use Rattle.resolved_sort.specs.Inner.Storage.{sort_numbers}
use Rattle.resolved_sort.specs.Inner.Bounds.{StoredDomain, domain_left, stored_domain, domain_of}
use Rattle.resolved_sort.proofs.RowTrees.{weaken_all, look_all_numbers, numbers_below}
use Rattle.resolved_sort.specs.Growing.{parts_in, members, Grown, SortsExtend, SortsKept, InTree}
use Rattle.resolved_sort.proofs.Append.{length_numbers}
use Rattle.resolved_sort.proofs.Grown.{grown_none, after_none, sorts_again}
use Rattle.resolved_sort.proofs.Kept.{extends_refl, member_extends, members_extends, InTrees, kept_then, intern_kept}
use Rattle.resolved_sort.proofs.Reached.{Reached, reached, stopped, ended, reached_checked, reached_list}
use Rattle.resolved_sort.proofs.Reached.{reached_trees, reached_below, reached_sort, reached_sorts, stored_again}
use Rattle.resolved_sort.proofs.Reached.{intern_after}
use Rattle.resolved_sort.proofs.BoundsCode.{counts_are}
use Rattle.resolved_sort.proofs.DomainCode.{domain_glue}
use Rattle.resolved_sort.proofs.FunctionCode.{ReachedAll, reached_all, stopped_all, ended_all, first_ids, stored_nothing, stored_full, numbers_extend}
use Rattle.resolved_sort.proofs.Unchanged.{look_unchanged}
use Rattle.unification.specs.Term.{Head, container_head, function_head, Term, var, app, Terms, no_part, part, Shape, variable, over}
use Rattle.unification.specs.Nodes.{is_place, shape_at, Binds}
use Rattle.unification.specs.Unify.{deep, follow}
use Rattle.unification.specs.Acyclic.{One}
use Rattle.unification.specs.Checked.{NodesChecked, lists_of, BindsChecked}
use Rattle.unification.specs.Solutions.{terms_at, value_bound, value_at}
use Rattle.unification.specs.Resolve.{value, firsts, tree_over, resolve_term, resolve_terms, resolve_arguments}
use Rattle.unification.proofs.ResolvedPlaces.{ShapeOver, count_terms, terms_formed, place_over, value_formed, place_there, value_there}
use Rattle.unification.proofs.Parts.{terms_at_agree}
use Rattle.unification.proofs.Places.{bound_is_place}
use Rattle.unification.proofs.Follow.{follow_end, follow_names}
use Rattle.unification.proofs.Lists.{part_is_place}
use Rattle.unification.proofs.Resolved.{value_eq, value_followed}
use Rattle.unification.proofs.ResolvedSorts.{count, Formed, AllFormed, DefaultIn, default_extends}
use Rattle.unification.proofs.ResolvedSorts.{resolve_kept, grown_there, listed, firsts_listed, last_listed}

-- terms, and then one
unfoldable pub with_last : Terms → Term → Terms
with_last no_part r = part r no_part
with_last (part t ts) r = part t (with_last ts r)

pub terms_with_last : (f : ℕ → Term) (xs : List ℕ) (r : ℕ) → terms_at f (xs ++ (r ∷ [])) ≡ with_last (terms_at f xs) (f r)
unfolding with_last
terms_with_last f [] r = refl
terms_with_last f (x ∷ xs) r = ap (part (f x)) (terms_with_last f xs r)

-- The clauses of resolve, by the head.
pub resolve_container : (d : Option Tree) (o : ComplexSort) (t : Term) (S : Sorts)
    → resolve_term d (app (container_head o) (part t no_part)) S ≡ resolve_term d t S then (λ u S. intern (container o u)
    S)
unfolding resolve_term resolve_terms tree_over
resolve_container d o t S = go (resolve_term d t S)
  where
    go : (O : Outcome Tree)
        → (O then (λ u S. made (u ∷ []) S) then (λ us S. intern (container o (get_or us 0 (flat unit))) S)) ≡
        (O then (λ u S. intern (container o u) S))
    go (made u S₁) = refl
    go (nothing S₁) = refl
    go (full S₁) = refl

parts_listed : (d : Option Tree) (ts : Terms) (r : Term) (S : Sorts)
    → resolve_terms d (with_last ts r) S ≡ (resolve_arguments d ts S then (λ us S. resolve_term d r S then (λ u S. made (listed us (u ∷ [])) S)))
unfolding resolve_terms resolve_arguments with_last listed
parts_listed d no_part r S = refl
parts_listed d (part t ts) r S = go (resolve_term d t S) (parts_listed d ts r)
  where
    range : (u : Tree) (us : Trees) (O : Outcome Tree)
        → (O then (λ v S. made (listed us (v ∷ [])) S) then (λ vs S. made (u ∷ vs) S)) ≡ (O then (λ v S. made (listed (arg u us) (v ∷ [])) S))
    range u us (made v S₁) = refl
    range u us (nothing S₁) = refl
    range u us (full S₁) = refl

    rest : (u : Tree) (P : Outcome Trees)
        → (P then (λ us S. resolve_term d r S then (λ v S. made (listed us (v ∷ [])) S)) then (λ vs S. made (u ∷ vs) S))
        ≡ (P then (λ us S. made (arg u us) S) then (λ us S. resolve_term d r S then (λ v S. made (listed us (v ∷ [])) S)))
    rest u (made us S₁) = range u us (resolve_term d r S₁)
    rest u (nothing S₁) = refl
    rest u (full S₁) = refl

    go : (O : Outcome Tree)
        → ((S : Sorts) → resolve_terms d (with_last ts r) S ≡ (resolve_arguments d ts S then (λ us S. resolve_term d r S
        then (λ u S. made (listed us (u ∷ [])) S))))
        → (O then (λ u S. resolve_terms d (with_last ts r) S then (λ us S. made (u ∷ us) S)))
        ≡ (O then (λ u S. resolve_arguments d ts S then (λ us S. made (arg u us) S)) then (λ us S. resolve_term d r S then (λ u S. made (listed us (u ∷ [])) S)))
    go (made u S₁) ih = ap (λ P. P then (λ us S. made (u ∷ us) S)) (ih S₁) ∙ rest u (resolve_arguments d ts S₁)
    go (nothing S₁) ih = refl
    go (full S₁) ih = refl

-- as many arguments are made as there are terms
unfoldable Counted : ℕ → Outcome Trees → Type 0
Counted k (made us S) = arity us ≡ k
Counted k (nothing S) = Unit {0}
Counted k (full S) = Unit {0}

arguments_counted : (d : Option Tree) (ts : Terms) (S : Sorts) → Counted (count ts) (resolve_arguments d ts S)
unfolding Counted resolve_arguments count arity
arguments_counted d no_part S = refl
arguments_counted d (part t ts) S = go (resolve_term d t S) (arguments_counted d ts)
  where
    more : (u : Tree) (P : Outcome Trees) → Counted (count ts) P → Counted (suc (count ts)) (P then (λ us S. made (arg u us) S))
    more u (made us S₁) h = omega (arith, h)
    more u (nothing S₁) h = tt
    more u (full S₁) h = tt

    go : (O : Outcome Tree) → ((S : Sorts) → Counted (count ts) (resolve_arguments d ts S))
        → Counted (suc (count ts)) (O then (λ u S. resolve_arguments d ts S then (λ us S. made (arg u us) S)))
    go (made u S₁) ih = more u (resolve_arguments d ts S₁) (ih S₁)
    go (nothing S₁) ih = tt
    go (full S₁) ih = tt

pub resolve_function : (d : Option Tree) (ts : Terms) (r : Term) (S : Sorts)
    → resolve_term d (app (function_head (count ts)) (with_last ts r)) S ≡ (resolve_arguments d ts S then
    (λ us S. resolve_term d r S then (λ u S. intern (function us u) S)))
unfolding resolve_term tree_over Counted
resolve_function d ts r S =
    ap (λ P. P then (λ us S. intern (tree_over (function_head (count ts)) us) S)) (parts_listed d ts r S) ∙ go
    (resolve_arguments d ts S) (arguments_counted d ts S)
  where
    whole : (us : Trees) (u : Tree) → arity us ≡ count ts → tree_over (function_head (count ts)) (listed us (u ∷ [])) ≡ function us u
    whole us u h =
        ap (λ k. function (firsts k (listed us (u ∷ []))) (get_or (listed us (u ∷ [])) k (flat unit))) (sym h) ∙ ap₂
        function (firsts_listed us (u ∷ [])) (last_listed us u)

    range : (us : Trees) → arity us ≡ count ts → (O : Outcome Tree)
        → (O then (λ u S. made (listed us (u ∷ [])) S) then (λ us S. intern (tree_over (function_head (count ts)) us)
        S)) ≡ (O then (λ u S. intern (function us u) S))
    range us h (made u S₁) = ap (λ t. intern t S₁) (whole us u h)
    range us h (nothing S₁) = refl
    range us h (full S₁) = refl

    go : (P : Outcome Trees) → Counted (count ts) P
        → (P then (λ us S. resolve_term d r S then (λ u S. made (listed us (u ∷ [])) S)) then (λ us S. intern (tree_over (function_head (count ts)) us) S))
        ≡ (P then (λ us S. resolve_term d r S then (λ u S. intern (function us u) S)))
    go (made us S₁) h = range us h (resolve_term d r S₁)
    go (nothing S₁) h = refl
    go (full S₁) h = refl

-- the list after the arguments
module _ (ws : List ℕ) (n e : ℕ) where
  none_kept : (S : Sorts) → Grown ws n e S → SortsKept ws n e (InTrees 0) S (made no_args S)
  unfolding SortsKept members arity
  none_kept S g = (g, extends_refl S, (refl, refl))

  one_kept : (u : Tree) (k : ℕ) (S₀ S : Sorts) → InTree S₀ u → Grown ws n e S → SortsExtend S₀ S → (us : Trees)
      → InTrees k S us → SortsKept ws n e (InTrees (suc k)) S (made (arg u us) S)
  unfolding SortsKept members arity
  one_kept u k S₀ S m g x us h =
      (g, extends_refl S, ((and-eq-true_iff (member S.trees u) (members S.trees us)).1 (member_extends S₀ S u x m, h.0), omega (arith, h.1)))

  pub arguments_kept : (d : Option Tree) (ts : Terms) (S : Sorts) → Grown ws n e S → DefaultIn d S → AllFormed ts
      → SortsKept ws n e (InTrees (count ts)) S (resolve_arguments d ts S)
  unfolding resolve_arguments AllFormed count
  arguments_kept d no_part S g i f = none_kept S g
  arguments_kept d (part t ts) S g i f =
      kept_then ws n e InTree (InTrees (suc (count ts))) S (resolve_term d t S) _ (resolve_kept ws n e d t S g i f.0)
      (λ u S₁ g₁ x₁ m. kept_then ws n e (InTrees (count ts)) (InTrees (suc (count ts))) S₁ (resolve_arguments d ts S₁) _
      (arguments_kept d ts S₁ g₁ (default_extends d S S₁ x₁ i) f.1)
      (λ us S₂ g₂ x₂ h. one_kept u (count ts) S₁ S₂ m g₂ x₂ us h))

-- what a call has left, by the words and the counts that it gave back
left_reads : (ws : List ℕ) (n e : ℕ) (S : Sorts) → Grown ws n e S → (vs : List ℕ) (K : Counts) → vs ≡ after ws n e S
    → K ≡ counts_of S → sorts_of vs K.sorts K.entries ≡ S
left_reads ws n e S g vs K w c = rw (w, c) (sorts_again ws n e S g)

-- calls from the words ws with the counts C
module _ (ws : List ℕ) (C : Counts) (k : Checked ws C.sorts C.entries) (x : Option Tree) (i : DefaultIn x (sorts_of ws C.sorts C.entries)) where
  abbrev n : ℕ
  n = C.sorts

  abbrev e : ℕ
  e = C.entries

  abbrev S : Sorts
  S = sorts_of ws n e

  -- no arguments
  pub arguments_done : (j : ℕ) (ids : List ℕ) → domain_left ws ids (All C) ≡ domain_of ws n e j ids (resolve_arguments x no_part S)
  unfolding domain_of resolve_arguments numbers
  arguments_done j ids =
      let w = sym (after_none ws n e k) in
      let c = sym (counts_are ws C k) in
      λ y. record { words = w y; ids = ids; found = All (c y) }

  -- one part resolved
  module _ (t : Term) (f : Formed t) (vs : List ℕ) (r : Joined) (er : stored_at vs r ≡ stored ws n e (resolve_term x t S)) where
    abbrev one : Outcome Tree
    one = resolve_term x t S

    one_is_kept : SortsKept ws n e InTree S one
    one_is_kept = resolve_kept ws n e x t S (grown_none ws n e k) i f

    part_stopped : (K : Counts) → r ≡ Nothing K → (S₁ : Sorts) × (one ≡ nothing S₁) × (vs ≡ after ws n e S₁) × (K ≡ counts_of S₁)
    part_stopped K z = stopped ws n e one vs K (ap (stored_at vs) (sym z) ∙ er)

    part_ended : r ≡ Full → (S₁ : Sorts) × (one ≡ full S₁) × (vs ≡ after ws n e S₁)
    part_ended z = ended ws n e one vs (ap (stored_at vs) (sym z) ∙ er)

    pub container_stops : (o : ComplexSort) (K : Counts) → r ≡ Nothing K → stored_at vs (Nothing K) ≡ stored ws n e
        (resolve_term x (app (container_head o) (part t no_part)) S)
    container_stops o K z =
        let g = part_stopped K z in
        stored_nothing ws n e g.0 vs K g.2 g.3 ∙ ap (stored ws n e) (sym (resolve_container x o t S ∙ ap
        (λ O. O then (λ u S. intern (container o u) S)) g.1))

    pub container_ends : (o : ComplexSort) → r ≡ Full → stored_at vs Full ≡ stored ws n e (resolve_term x (app (container_head o) (part t no_part)) S)
    container_ends o z =
        let g = part_ended z in
        stored_full ws n e g.0 vs g.2 ∙ ap (stored ws n e) (sym (resolve_container x o t S ∙ ap (λ O. O then (λ u S. intern (container o u) S)) g.1))

    pub arguments_stop : (ts : Terms) (j : ℕ) (ids : List ℕ) (K : Counts) → r ≡ Nothing K
        → domain_left vs (replicate 16 0) (NotAll K) ≡ domain_of ws n e j ids (resolve_arguments x (part t ts) S)
    unfolding domain_of resolve_arguments
    arguments_stop ts j ids K z =
        let g = part_stopped K z in
        (let w = g.2 in let c = g.3 in λ y. record { words = w y; ids = replicate 16 0; found = NotAll (c y) })
        ∙ sym (ap (λ O. domain_of ws n e j ids (O then (λ u S. resolve_arguments x ts S then (λ us S. made (arg u us) S)))) g.1)

    pub arguments_end : (ts : Terms) (j : ℕ) (ids : List ℕ) → r ≡ Full
        → domain_left vs (replicate 16 0) NoRoom ≡ domain_of ws n e j ids (resolve_arguments x (part t ts) S)
    unfolding domain_of resolve_arguments
    arguments_end ts j ids z =
        let g = part_ended z in
        (let w = g.2 in λ y. record { words = w y; ids = replicate 16 0; found = NoRoom })
        ∙ sym (ap (λ O. domain_of ws n e j ids (O then (λ u S. resolve_arguments x ts S then (λ us S. made (arg u us) S)))) g.1)

    module _ (c : SortId) (K : Counts) (z : r ≡ At c K) where
      -- what the call has left
      pub part_reached : Reached ws n e S one vs c K
      part_reached = reached ws n e S one one_is_kept vs c K (ap (stored_at vs) (sym z) ∙ er)

      abbrev S' : Sorts
      S' = part_reached.sorts

      pub part_checked : Checked vs K.sorts K.entries
      part_checked = reached_checked ws n e S one vs c K part_reached

      pub part_below : c.0 < K.sorts
      part_below = reached_below ws n e S one vs c K part_reached

      -- a container is interned over it
      pub container_made : (o : ComplexSort) (us : List ℕ) (w : Joined) → stored_at us w ≡ intern_at vs K.sorts
          K.entries (container o (look (trees vs K.sorts) c.0))
          → stored_at us w ≡ stored ws n e (resolve_term x (app (container_head o) (part t no_part)) S)
      unfolding parts_in need
      container_made o us w q =
          q ∙ (ap (λ u. intern_at vs K.sorts K.entries (container o u)) (reached_sort ws n e S one vs c K part_reached)
          ∙ (intern_after ws n e S one vs c K part_reached (container o part_reached.sort) part_reached.inside (omega arith)
          ∙ ap (stored ws n e) (sym (resolve_container x o t S ∙ ap (λ O. O then (λ u S. intern (container o u) S)) part_reached.is))))

      -- it is the first argument, and the others follow
      pub arguments_made : (ts : Terms) → AllFormed ts → (j : ℕ) (ids : List ℕ) (d : StoredDomain)
          → d ≡ domain_of vs K.sorts K.entries (j + 1) (set ids j c.0) (resolve_arguments x ts (sorts_of vs K.sorts K.entries))
          → d ≡ domain_of ws n e j ids (resolve_arguments x (part t ts) S)
      unfolding resolve_arguments
      arguments_made ts fs j ids d q =
          q ∙ (ap (λ U. domain_of vs K.sorts K.entries (j + 1) (set ids j c.0) (resolve_arguments x ts U))
          (reached_list ws n e S one vs c K part_reached)
          ∙ (ap₂ (λ ys D. domain_of ys D.sorts D.entries (j + 1) (set ids j c.0) (resolve_arguments x ts S'))
          part_reached.words part_reached.counted
          ∙ (domain_glue ws n e S' part_reached.grown part_reached.sort part_reached.inside c.0
          part_reached.numbered j ids (count ts) (resolve_arguments x ts S')
          (arguments_kept (after ws n e S') (length S'.trees) (max_entries - S'.entries) x ts S'
          (grown_there ws n e S' part_reached.grown) (default_extends x S S' part_reached.extends i) fs)
          ∙ sym (ap (λ O. domain_of ws n e j ids (O then (λ u S. resolve_arguments x ts S then (λ us S. made (arg u us) S)))) part_reached.is))))

  -- a function: the arguments, then the range, then the whole
  module _ (ts : Terms) (fs : AllFormed ts) (few : count ts ≤ 16) (t : Term) (f : Formed t) where
    abbrev arguments : Outcome Trees
    arguments = resolve_arguments x ts S

    abbrev range : Sorts → Outcome Tree
    range S = resolve_term x t S

    abbrev whole : Trees → Sorts → Outcome Tree
    whole us S = range S then (λ u S. intern (function us u) S)

    abbrev function_term : Term
    function_term = app (function_head (count ts)) (with_last ts t)

    arguments_are_kept : SortsKept ws n e (InTrees (count ts)) S arguments
    arguments_are_kept = arguments_kept ws n e x ts S (grown_none ws n e k) i fs

    module _ (vs : List ℕ) (a : Domain) (q : stored_domain vs a ≡ domain_of ws n e 0 (replicate 16 0) arguments) where
      pub function_stops : (K : Counts) → a.found ≡ NotAll K → stored_at vs (Nothing K) ≡ stored ws n e (resolve_term x function_term S)
      function_stops K z =
          let g = stopped_all ws n e arguments vs a K q z in
          stored_nothing ws n e g.0 vs K g.2 g.3 ∙ ap (stored ws n e) (sym (resolve_function x ts t S ∙ ap (λ O. O then whole) g.1))

      pub function_ends : a.found ≡ NoRoom → stored_at vs Full ≡ stored ws n e (resolve_term x function_term S)
      function_ends z =
          let g = ended_all ws n e arguments vs a q z in
          stored_full ws n e g.0 vs g.2 ∙ ap (stored ws n e) (sym (resolve_function x ts t S ∙ ap (λ O. O then whole) g.1))

      module _ (K : Counts) (z : a.found ≡ All K) where
        -- what the arguments' call has left
        pub arguments_reached : ReachedAll ws n e S (count ts) arguments vs a K
        arguments_reached = reached_all ws n e S (count ts) arguments arguments_are_kept vs a K q z

        abbrev S₁ : Sorts
        S₁ = arguments_reached.sorts

        abbrev w₁ : List ℕ
        w₁ = after ws n e S₁

        abbrev n₁ : ℕ
        n₁ = length S₁.trees

        abbrev e₁ : ℕ
        e₁ = max_entries - S₁.entries

        grown_here : Grown w₁ n₁ e₁ S₁
        grown_here = grown_there ws n e S₁ arguments_reached.grown

        default_here : DefaultIn x S₁
        default_here = default_extends x S S₁ arguments_reached.extends i

        arguments_list : sorts_of vs K.sorts K.entries ≡ S₁
        arguments_list = left_reads ws n e S₁ arguments_reached.grown vs K arguments_reached.words arguments_reached.counted

        range_kept : SortsKept w₁ n₁ e₁ InTree S₁ (range S₁)
        range_kept = resolve_kept w₁ n₁ e₁ x t S₁ grown_here default_here f

        function_then : resolve_term x function_term S ≡ (range S₁ then (λ u S. intern (function arguments_reached.args u) S))
        function_then = resolve_function x ts t S ∙ ap (λ O. O then whole) arguments_reached.is

        module _ (us : List ℕ) (r : Joined) (er : stored_at us r ≡ stored vs K.sorts K.entries
            (resolve_term x t (sorts_of vs K.sorts K.entries))) where
          to_range : stored_at us r ≡ stored w₁ n₁ e₁ (range S₁)
          to_range =
              er ∙ (ap (λ U. stored vs K.sorts K.entries (resolve_term x t U)) arguments_list
              ∙ ap₂ (λ ys D. stored ys D.sorts D.entries (range S₁)) arguments_reached.words arguments_reached.counted)

          range_once : stored w₁ n₁ e₁ (range S₁) ≡ stored ws n e (range S₁)
          range_once = stored_again ws n e S₁ arguments_reached.grown S₁ (range S₁) range_kept

          pub range_stops : (K₂ : Counts) → r ≡ Nothing K₂ → stored_at us (Nothing K₂) ≡ stored ws n e (resolve_term x function_term S)
          range_stops K₂ y =
              let h : stored_at us (Nothing K₂) ≡ stored w₁ n₁ e₁ (range S₁) = ap (stored_at us) (sym y) ∙ to_range in
              let g = stopped w₁ n₁ e₁ (range S₁) us K₂ h in
              h ∙ (range_once ∙ (ap (stored ws n e) g.1
              ∙ ap (stored ws n e) (sym (function_then ∙ ap (λ O. O then (λ u S. intern (function arguments_reached.args u) S)) g.1))))

          pub range_ends : r ≡ Full → stored_at us Full ≡ stored ws n e (resolve_term x function_term S)
          range_ends y =
              let h : stored_at us Full ≡ stored w₁ n₁ e₁ (range S₁) = ap (stored_at us) (sym y) ∙ to_range in
              let g = ended w₁ n₁ e₁ (range S₁) us h in
              h ∙ (range_once ∙ (ap (stored ws n e) g.1
              ∙ ap (stored ws n e) (sym (function_then ∙ ap (λ O. O then (λ u S. intern (function arguments_reached.args u) S)) g.1))))

          module _ (c : SortId) (K₂ : Counts) (y : r ≡ At c K₂) where
            range_reached : Reached w₁ n₁ e₁ S₁ (range S₁) us c K₂
            range_reached = reached w₁ n₁ e₁ S₁ (range S₁) range_kept us c K₂ (ap (stored_at us) (sym y) ∙ to_range)

            abbrev S₂ : Sorts
            S₂ = range_reached.sorts

            abbrev args : Trees
            args = arguments_reached.args

            pub function_checked : Checked us K₂.sorts K₂.entries
            function_checked = reached_checked w₁ n₁ e₁ S₁ (range S₁) us c K₂ range_reached

            pub function_range_below : c.0 < K₂.sorts
            function_range_below = reached_below w₁ n₁ e₁ S₁ (range S₁) us c K₂ range_reached

            arguments_count : length (numbers S₁.trees args) ≡ count ts
            arguments_count = length_numbers S₁.trees args ∙ arguments_reached.as_many

            ids_are : take (count ts) (sort_numbers a.ids) ≡ numbers S₁.trees args
            ids_are = ap₂ take (sym arguments_count) arguments_reached.stored_ids ∙ first_ids (numbers S₁.trees
                args) (omega (arith, arguments_count, few))

            sorts_grow : n₁ ≤ K₂.sorts
            sorts_grow = omega (
              arith,
              reached_sorts w₁ n₁ e₁ S₁ (range S₁) us c K₂ range_reached,
              ap length
                  range_reached.extends.1,
              length-append S₁.trees range_reached.extends.0,
            )

            pub function_ids_below : AllBelow K₂.sorts (take (count ts) (sort_numbers a.ids))
            function_ids_below =
                subst (AllBelow K₂.sorts) (sym ids_are) (weaken_all n₁ K₂.sorts (numbers S₁.trees args)
                sorts_grow (numbers_below S₁.trees args arguments_reached.inside))

            members_there : members S₂.trees args ≡ true
            members_there = members_extends S₁ S₂ args range_reached.extends arguments_reached.inside

            args_there : look_all (trees us K₂.sorts) (take (count ts) (sort_numbers a.ids)) ≡ args
            args_there =
                ap₂ look_all (reached_trees w₁ n₁ e₁ S₁ (range S₁) us c K₂ range_reached)
                (ids_are ∙ sym (numbers_extend S₁ S₂ args range_reached.extends arguments_reached.inside))
                ∙ look_all_numbers S₂.trees args members_there

            few_args : arity args ≤ 16
            few_args = omega (arith, arguments_reached.as_many, few)

            parts_there : parts_in S₂.trees (function args range_reached.sort) ≡ true
            unfolding parts_in
            parts_there = (and-eq-true_iff (members S₂.trees args) (member S₂.trees range_reached.sort)).1 (members_there, range_reached.inside)

            pub function_made : (zs : List ℕ) (w : Joined)
                → stored_at zs w ≡ intern_at us K₂.sorts K₂.entries (function (look_all (trees us K₂.sorts)
                (take (count ts) (sort_numbers a.ids))) (look (trees us K₂.sorts) c.0))
                → stored_at zs w ≡ stored ws n e (resolve_term x function_term S)
            unfolding need
            function_made zs w g =
                g ∙ (ap₂ (λ vs u. intern_at us K₂.sorts K₂.entries (function vs u)) args_there (reached_sort w₁ n₁ e₁ S₁ (range S₁) us c K₂ range_reached)
                ∙ (intern_after w₁ n₁ e₁ S₁ (range S₁) us c K₂ range_reached (function args range_reached.sort) parts_there few_args
                ∙ (stored_again ws n e S₁ arguments_reached.grown S₂ (intern (function args range_reached.sort) S₂)
                (intern_kept w₁ n₁ e₁ S₂ range_reached.grown (function args range_reached.sort) parts_there few_args)
                ∙ ap (stored ws n e) (sym (function_then ∙ ap (λ O. O then (λ u S. intern (function args u) S)) range_reached.is)))))

-- places in what a call has left
module _ (ws : List ℕ) (n e : ℕ) (ns : List ℕ) (m d v : ℕ) (c : NodesChecked ws n e ns m d v) (B : Binds) (b : BindsChecked (lists_of ws n ns m) v B)
    (S : Sorts) (g : Grown ws n e S) (vs : List ℕ) (K : Counts) (w : vs ≡ after ws n e S) (q : K ≡ counts_of S) where
  pub left_place : (p : ℕ) → is_place n m p ≡ true → is_place K.sorts m p ≡ true
  left_place p i = rw q (place_there ws n e ns m d v c S g p i)

  pub left_value : (p : ℕ) → is_place n m p ≡ true → value (shape_at (lists_of vs K.sorts ns m)) B p ≡ value (shape_at (lists_of ws n ns m)) B p
  left_value p i = rw (w, q) (value_there ws n e ns m d v c S g B b p i)

  pub left_values : (ps : List ℕ) → ((p : ℕ) → One p ps → is_place n m p ≡ true)
      → terms_at (value (shape_at (lists_of vs K.sorts ns m)) B) ps ≡ terms_at (value (shape_at (lists_of ws n ns m)) B) ps
  left_values ps f = terms_at_agree _ _ ps (λ p o. left_value p (f p o))

  -- and sorts: old numbers keep their sorts
  pub left_look : (j : ℕ) → j < n → look (trees vs K.sorts) j ≡ look (trees ws n) j
  left_look j l = rw (w, q) (look_unchanged ws n e c.sorts S g j l)

-- the terms in front of the last, and the last
formed_split : (ts : Terms) (r : Term) → AllFormed (with_last ts r) → AllFormed ts × Formed r
unfolding AllFormed with_last
formed_split no_part r f = (tt, f.0)
formed_split (part t ts) r f = let z = formed_split ts r f.1 in ((f.0, z.0), z.1)

-- The term of a place by what stands at the end of its bindings.
module _ (ws : List ℕ) (n e : ℕ) (ns : List ℕ) (m d v : ℕ) (c : NodesChecked ws n e ns m d v) (B : Binds) (b : BindsChecked (lists_of ws n ns m) v B) where
  abbrev graph : ℕ → Shape
  graph = shape_at (lists_of ws n ns m)

  abbrev val : ℕ → Term
  val p = value graph B p

  followed_is_place : (k p q : ℕ) → is_place n m p ≡ true → follow graph k B p ≡ some q → is_place n m q ≡ true
  followed_is_place = follow_names graph B (λ p. is_place n m p ≡ true) (λ u q. bound_is_place n m B u q b.places)

  module _ (p q : ℕ) (f : follow graph deep B p ≡ some q) where
    end_value : (s : Shape) → graph q ≡ s → val p ≡ value_at B var val s
    end_value s y = value_followed ws n e ns m d v c B b p q f ∙ (value_eq ws n e ns m d v c B b q ∙ ap (value_at B var val) y)

    pub value_of_variable : (u : ℕ) → graph q ≡ variable u → val p ≡ var u
    value_of_variable u y = end_value (variable u) y ∙ ap (value_bound var u val) (follow_end graph B deep p q u f y)

    pub value_of_container : (o : ComplexSort) (s : ℕ) → graph q ≡ over (container_head o) (s ∷ []) → val p ≡ app (container_head o) (part (val s) no_part)
    value_of_container o s y = end_value (over (container_head o) (s ∷ [])) y

    pub value_of_function : (xs : List ℕ) (r : ℕ) → graph q ≡ over (function_head (length xs)) (xs ++ (r ∷ []))
        → val p ≡ app (function_head (count (terms_at val xs))) (with_last (terms_at val xs) (val r))
    value_of_function xs r y =
        end_value (over (function_head (length xs)) (xs ++ (r ∷ []))) y
        ∙ ap₂ (λ (k : ℕ) (ts : Terms). app (function_head k) ts) (sym (count_terms val xs)) (terms_with_last val xs r)

    -- where the place is one of the lists, the parts are formed as they should be
    module _ (i : is_place n m p ≡ true) where
      parts_formed : (h : Head) (ps : List ℕ) → graph q ≡ over h ps → AllFormed (terms_at val ps)
      parts_formed h ps y =
          terms_formed val ps (λ r o. value_formed ws n e ns m d v c B b r (part_is_place ws n e ns m d v c q r h ps (followed_is_place deep p q i f) y o))

      pub container_formed : (o : ComplexSort) (s : ℕ) → graph q ≡ over (container_head o) (s ∷ []) → Formed (val s)
      unfolding AllFormed
      container_formed o s y = (parts_formed (container_head o) (s ∷ []) y).0

      pub function_formed : (xs : List ℕ) (r : ℕ) → graph q ≡ over (function_head (length xs)) (xs ++ (r ∷ []))
          → AllFormed (terms_at val xs) × Formed (val r) × (count (terms_at val xs) ≤ 16)
      function_formed xs r y =
          let z = formed_split (terms_at val xs) (val r) (subst AllFormed (terms_with_last val xs r)
          (parts_formed (function_head (length xs)) (xs ++ (r ∷ [])) y)) in
          let o = subst ShapeOver y (place_over ws n e ns m d v c q (followed_is_place deep p q i f)) in
          (z.0, z.1, omega (arith, o.1, count_terms val xs))
