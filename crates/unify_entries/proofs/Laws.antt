-- The first failing check of unify, as its tests find it one after another; what it means that none fails; and what a try leaves behind.
-- Assumes nothing.
use mathlib.Core.Path.{◌≡◌, refl, ap, ap₂, sym, ◌∙◌, subst}
use mathlib.Core.List.{List, [], ◌∷◌, ◌++◌}
use mathlib.Core.Bool.{Bool, true, false, not, ◌&&◌, and-eq-true_iff}
use Prim.Native.Nat.{ℕ, ◌-◌, ◌*◌, ◌<◌, ◌≤◌}
use native.Mathlib.Omega.{arith}
use lib.ListN.{length, drop, take-append-drop}
use lib.Dec.{leb}
use borrow.Author.Tests.{not-true, not-false, leb-true, le-leb, lt-leb}
use Rattle.resolved_sort.specs.declared.Refusal.{Refusal}
use Rattle.resolved_sort.specs.declared.Refusal.TheVariants.{NotLent, NotInList, TooShort}
use Rattle.resolved_sort.specs.Checks.{Tested}
use Rattle.std.specs.Prelude.{Result, Ok, Err}
use Rattle.resolved_sort.specs.Storage.{max_sorts, max_entries, full_length}
use Rattle.resolved_sort.specs.Checks.{within_lent, rows_fine, no_two_equal, at_ceiling, Check, first_failing, sort_row_checks, sort_checks}
use Rattle.resolved_sort.specs.Entries.{refused_or}
use Rattle.resolved_sort.proofs.FirstFailing.{first_fails, first_passes, cons_passes}
use Rattle.resolved_sort.proofs.Testing.{fails, passes, first_refuses, second_decides, first_of_two, second_of_two, both_of_two}
use Rattle.unification.specs.declared.Lengths.{Lengths}
use Rattle.unification.specs.Nodes.{max_nodes, max_node_entries, max_vars, node_entries_at, full_nodes, is_place, shape_at, binds_of}
use Rattle.unification.specs.Unify.{Unifies, unify}
use Rattle.unification.specs.Acyclic.{acyclic}
use Rattle.unification.specs.NodeChecks.{nodes_within_lent, bindings_within_lent, nodes_fine, bindings_fine, node_checks, place_checks, unify_checks}
use Rattle.unification.specs.Checked.{lists_of, Ready}
use Rattle.unification.specs.Trail.{undo, answer_by, UnifyLeaves}
use Rattle.unification.specs.UnifyEntry.{binding_words, BindsLeft, binds_left, binds_left_by, unify_entry}
use Rattle.unification.proofs.BindingWords.{words_of_binds}
use Rattle.unification.proofs.Equations.{frees_few}
use Rattle.unification.proofs.Passed.{length_binds, two_ceilings, passed_ready}
use Rattle.unification.proofs.Passed as passed
use Rattle.unifier.specs.Inner.Trying.{Trying}

module _ (ws : List ℕ) (n : ℕ) (ns : List ℕ) (m l r : ℕ) where
  abbrev fourteen : Check
  fourteen = record { refusal = TooShort; passes = at_ceiling ws && leb full_nodes (length ns) }

  abbrev places : List Check
  places = place_checks ws n ns m l r

  module _ (x y : Bool) (ex : x ≡ is_place n m l) (ey : y ≡ is_place n m r) where
    same_places : (x && y) ≡ (is_place n m l && is_place n m r)
    same_places = ap₂ (λ (a b : Bool). a && b) ex ey

    pub rhs_stray : not x ≡ false → not y ≡ true → Err NotInList ≡ first_failing places
    unfolding place_checks
    rhs_stray h k = fails (x && y) _ same_places NotInList _ (second_of_two x y h k)

    module _ (h : not x ≡ false) (k : not y ≡ false) where
      past_12 : (t : Tested) → t ≡ first_failing (fourteen ∷ []) → t ≡ first_failing places
      unfolding place_checks
      past_12 t z = passes (x && y) _ same_places NotInList _ (both_of_two x y h k) t z

      pub sorts_short : length ws < full_length → Err TooShort ≡ first_failing places
      unfolding at_ceiling
      sorts_short q = past_12 (Err TooShort) (sym (first_fails fourteen [] (rw (lt-leb full_length (length ws) q))))

      module _ (q : full_length ≤ length ws) where
        pub nodes_short : length ns < full_nodes → Err TooShort ≡ first_failing places
        unfolding at_ceiling
        nodes_short z = past_12 (Err TooShort)
            ((sym (first_fails fourteen [] (rw (
              le-leb full_length (length ws) q,
              lt-leb full_nodes
                  (length ns) z,
            )))))

        pub all_in_place : full_nodes ≤ length ns → Ok tt ≡ first_failing places
        unfolding at_ceiling first_failing
        all_in_place z = past_12 (Ok tt) (sym (first_passes fourteen [] (rw (le-leb full_length (length ws) q, le-leb full_nodes (length ns) z))))

  pub lhs_stray : (x : Bool) → x ≡ is_place n m l → not x ≡ true → Err NotInList ≡ first_failing places
  unfolding place_checks
  lhs_stray x ex h = fails (x && is_place n m r) _ (ap (λ z. z && is_place n m r) ex) NotInList _ (first_of_two x (is_place n m r) h)

-- counts that check 1 passed are within their ceilings
-- check 1, three tests, and then the rest
module _ (ws : List ℕ) (n e : ℕ) (ns : List ℕ) (m d : ℕ) (bs : List ℕ) (v l r : ℕ) where
  abbrev all : List Check
  all = unify_checks ws n e ns m d bs v l r

  abbrev rest : List Check
  rest = node_checks ns m d n bs v ++ place_checks ws n ns m l r

  module _ (a : Bool) (ea : a ≡ within_lent ws n e) where
    pub sorts_outside : not a ≡ true → Err NotLent ≡ first_failing all
    unfolding unify_checks
    sorts_outside h = fails _ _ refl NotLent _ (ap (λ z. not (z && nodes_within_lent ns m d && bindings_within_lent bs v)) (sym ea ∙ not-true a h))

    module _ (ha : not a ≡ false) (b : Bool) (eb : b ≡ nodes_within_lent ns m d) where
      pub nodes_outside : not b ≡ true → Err NotLent ≡ first_failing all
      unfolding unify_checks
      nodes_outside h = fails _ _ refl NotLent _ (ap₂ (λ y z. not (y && z && bindings_within_lent bs v)) (sym ea ∙ not-false a ha) (sym eb ∙ not-true b h))

      module _ (hb : not b ≡ false) (c : Bool) (ec : c ≡ bindings_within_lent bs v) where
        two_within : (within_lent ws n e && nodes_within_lent ns m d) ≡ true
        two_within = ap₂ (λ (y z : Bool). y && z) (sym ea ∙ not-false a ha) (sym eb ∙ not-false b hb)

        pub bindings_outside : not c ≡ true → Err NotLent ≡ first_failing all
        unfolding unify_checks
        bindings_outside h = fails _ _ refl NotLent _ (ap₂ (λ (y z : Bool). not (y && z)) two_within (sym ec ∙ not-true c h))

        module _ (hc : not c ≡ false) where
          pub ceilings : (m ≤ max_nodes) × (v ≤ max_vars)
          unfolding nodes_within_lent bindings_within_lent
          ceilings =
              let w = ((and-eq-true_iff (leb v max_vars) (leb v (length bs))).0 (sym ec ∙ not-false c hc)).0 in (
                (two_ceilings m max_nodes d max_node_entries (leb (4 * m) (length ns)) (leb d (length ns - node_entries_at))
                    (sym eb ∙ not-false b hb)).0,
                leb-true v max_vars w,
              )

          abbrev sorted : List Check
          sorted = sort_row_checks ws n e

          past_1 : (t : Tested) → t ≡ first_failing (sorted ++ rest) → t ≡ first_failing all
          unfolding unify_checks
          past_1 t z = passes _ _ refl NotLent _ (ap₂ (λ (y z : Bool). not (y && z)) two_within (sym ec ∙ not-false c hc)) t z

          module _ (t : Tested) (et : t ≡ first_failing (sort_checks ws n e)) where
            by_sorts : t ≡ first_failing sorted
            unfolding sort_checks
            by_sorts = et ∙ first_passes _ sorted (sym ea ∙ not-false a ha)

            pub sorts_refused : (code : Refusal) → t ≡ Err code → Err code ≡ first_failing all
            sorts_refused code x = past_1 (Err code) (first_refuses sorted rest t by_sorts code x)

            pub rest_decides : t ≡ Ok tt → (u : Tested) → u ≡ first_failing rest → u ≡ first_failing all
            rest_decides p u y = past_1 u (second_decides sorted rest t by_sorts p u y)

  -- no check fails
  module _ (none_fails : Ok tt ≡ first_failing all) where
    x : first_failing all ≡ Ok tt
    x = sym none_fails

    pub chain : (within_lent ws n e ≡ true) × (nodes_within_lent ns m d ≡ true) × (bindings_within_lent bs v ≡ true) ×
        (rows_fine ws n e ≡ true) × (no_two_equal ws n ≡ true) × (nodes_fine ns m d n v ≡ true)
        × (bindings_fine n m (binds_of bs v) ≡ true) × (acyclic ns m (binds_of bs v) ≡ true) × (is_place n m l ≡ true) ×
        (is_place n m r ≡ true) × (at_ceiling ws ≡ true) × (leb full_nodes (length ns) ≡ true)
    unfolding unify_checks node_checks place_checks
    chain =
        let c₁ = cons_passes _ _ x in
        let c₂ = cons_passes _ _ c₁.1 in
        let c₃ = cons_passes _ _ c₂.1 in
        let c₄ = cons_passes _ _ c₃.1 in
        let c₅ = cons_passes _ _ c₄.1 in
        let c₆ = cons_passes _ _ c₅.1 in
        let c₇ = cons_passes _ _ c₆.1 in
        let c₈ = cons_passes _ _ c₇.1 in
        let c₉ = cons_passes _ _ c₈.1 in
        let w = (and-eq-true_iff (within_lent ws n e && nodes_within_lent ns m d) (bindings_within_lent bs v)).0 c₁.0 in
        let u = (and-eq-true_iff (within_lent ws n e) (nodes_within_lent ns m d)).0 w.0 in
        let p = (and-eq-true_iff (is_place n m l) (is_place n m r)).0 c₈.0 in
        let f = (and-eq-true_iff (at_ceiling ws) (leb full_nodes (length ns))).0 c₉.0 in
        (u.0, u.1, w.1, c₃.0, c₄.0, c₅.0, c₆.0, c₇.0, p.0, p.1, f.0, f.1)

    pub sort_counts : (n ≤ max_sorts) × (e ≤ max_entries)
    sort_counts = passed.sort_counts ws n e ns m d bs v chain.0 chain.1 chain.2

    pub node_counts : (m ≤ max_nodes) × (d ≤ max_node_entries)
    node_counts = passed.node_counts ws n e ns m d bs v chain.0 chain.1 chain.2

    pub var_counts : (v ≤ max_vars) × (v ≤ length bs)
    var_counts = passed.var_counts ws n e ns m d bs v chain.0 chain.1 chain.2

    pub ready : Ready ws ns bs (record { sorts = n; entries = e; nodes = m; arguments = d; variables = v })
    ready = passed_ready ws n e ns m d bs v chain.0 chain.1 chain.2 chain.3 chain.4 chain.5 chain.6 chain.7 chain.10 chain.11

    pub lhs_placed : is_place n m l ≡ true
    lhs_placed = chain.8

    pub rhs_placed : is_place n m r ≡ true
    rhs_placed = chain.9

-- a try on an empty trail
module _ (ws ns bs : List ℕ) (k : Lengths) (q : Ready ws ns bs k) where
  pub trying : (ts : List ℕ) → length ts ≡ 512 → Trying ws ns bs ts k 0
  trying ts e = record {
    ready = q;
    room = omega (
      arith,
      frees_few (binds_of bs k.variables),
      length_binds bs
          k.variables,
      q.nodes.variables,
      e,
    );
    short = omega (arith, e);
  }

  module _ (U : Unifies) (ts bs₁ ts₁ : List ℕ) (d : ℕ) where
    pub yes_leaves : (r : Bool) → r ≡ true → UnifyLeaves ws ns k U bs ts 0 bs₁ ts₁ d r → binds_left bs₁ (Ok true) ≡ binds_left_by bs k.variables U
    unfolding binds_left_by
    yes_leaves r e x = sym (ap (binds_left_by bs k.variables) (x.says ∙ ap (λ y. answer_by y (binds_of bs₁ k.variables)) e) ∙ ap (λ xs. binds_left xs (Ok true)) words)
      where
        words : binding_words (binds_of bs₁ k.variables) ++ drop k.variables bs ≡ bs₁
        words =
            ap₂ (λ (xs ys : List ℕ). xs ++ ys) (words_of_binds bs₁ k.variables x.ready.long) (sym x.past)
            ∙ take-append-drop k.variables bs₁

    module _ (r : Bool) (x : UnifyLeaves ws ns k U bs ts 0 bs₁ ts₁ d r) where
      pub trail_long : length ts₁ ≡ 512 → (0 ≤ d) × (d ≤ length ts₁)
      trail_long g = (omega arith, omega (arith, g, x.spent, frees_few (binds_of bs k.variables), length_binds bs k.variables, q.nodes.variables))

      pub no_leaves : r ≡ false → (bs₂ : List ℕ) → bs₂ ≡ undo ts₁ 0 (d - 0) bs₁ → binds_left bs₂ (Ok false) ≡ binds_left_by bs k.variables U
      unfolding binds_left_by
      no_leaves e bs₂ u =
          sym (ap (binds_left_by bs k.variables) (x.says ∙ ap (λ y. answer_by y (binds_of bs₁ k.variables)) e)
          ∙ ap (λ xs. binds_left xs (Ok false)) (sym (u ∙ x.undone)))

-- the bindings under another name
pub words_left : (bs bs₁ : List ℕ) (a : Result Bool Refusal) {O : BindsLeft} → bs ≡ bs₁ → binds_left bs₁ a ≡ O → binds_left bs a ≡ O
words_left bs bs₁ a {O} e = subst (λ (xs : List ℕ). binds_left xs a ≡ O) (sym e)

-- the entry, by what the checks found
module _ (ws : List ℕ) (n e : ℕ) (ns : List ℕ) (m d : ℕ) (bs : List ℕ) (v l r : ℕ) (t : Tested) (et : t ≡ first_failing (unify_checks ws n e ns m d bs v l r)) where
  abbrev refuse : Refusal → BindsLeft
  refuse c = binds_left bs (Err c)

  pub refused : (c : Refusal) → t ≡ Err c → binds_left bs (Err c) ≡ unify_entry ws n e ns m d bs v l r
  unfolding unify_entry
  refused c x =
      sym (ap (λ o. refused_or o refuse (binds_left_by bs v (unify (shape_at (lists_of ws n ns m)) (binds_of bs v) l r)))
      (sym et ∙ x))

  module _ (p : t ≡ Ok tt) where
    none_failed : first_failing (unify_checks ws n e ns m d bs v l r) ≡ Ok tt
    none_failed = sym et ∙ p

    pub answered : (bs₁ : List ℕ) (u : Result Bool Refusal) → binds_left bs₁ u ≡ binds_left_by bs v
        (unify (shape_at (lists_of ws n ns m)) (binds_of bs v) l r) → binds_left bs₁ u ≡ unify_entry ws n e ns m d bs v l r
    unfolding unify_entry
    answered bs₁ u x =
        x ∙ sym (ap (λ o. refused_or o refuse (binds_left_by bs v (unify (shape_at (lists_of ws n ns m)) (binds_of bs v) l r))) none_failed)
