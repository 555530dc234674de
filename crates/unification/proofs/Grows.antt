-- Lists of sorts and nodes that grow. Where the old places keep their shapes, all that is said of them stays: the parts of a place are places, so
-- that what the law of agreeing graphs says holds of all places; checked bindings stay checked. Assumes nothing.
use mathlib.Core.Path.{◌≡◌, refl, ap, ap₂, sym, ◌∙◌, subst}
use mathlib.Core.List.{List, [], ◌∷◌, ◌++◌}
use mathlib.Core.Bool.{Bool, true, false, cond, and-eq-true_iff}
use mathlib.Core.Logic.{◌↔◌}
use Prim.Native.Nat.{ℕ, zero, suc, ◌+◌, ◌-◌, ◌*◌, ◌<◌, ◌≤◌}
use native.Mathlib.Omega.{arith}
use native.Mathlib.Nat.{add-zero}
use borrow.Author.Tests.{ltb-true, ltb-false}
use Rattle.resolved_sort.specs.Storage.{max_sorts, row_at}
use Rattle.resolved_sort.proofs.Unchanged.{agrees_refl, agrees_trans}
use Rattle.resolved_sort.proofs.Below.{each_below}
use Rattle.unification.specs.declared.InferSort.{InferSort}
use Rattle.unification.specs.declared.InferSort.TheVariants.{Generic, Function, Var}
use Rattle.unification.specs.Term.{Head, function_head, Term, var, over}
use Rattle.unification.specs.Nodes.{node_kind_at, node_entry_at, node_entries_of, inferred, node_at, sort_shape}
use Rattle.unification.specs.Nodes.{node_shape, is_sort, is_place, shape_at, Binds, binds_of}
use Rattle.unification.specs.Unify.{unify, deep, deeper}
use Rattle.unification.specs.Acyclic.{One}
use Rattle.unification.specs.NodeChecks.{node_parts_fine, node_kind_fine, node_fine, nodes_fine}
use Rattle.unification.specs.Checked.{lists_of, BindsChecked}
use Rattle.unification.specs.Solutions.{term_at, Respects}
use Rattle.unification.specs.Resolve.{value}
use Rattle.unification.specs.Making.{Lent, graph, with_nodes_of}
use Rattle.unification.proofs.Places.{sort_below, node_below, place_longer, bound_is_place, bindings_longer}
use Rattle.unification.proofs.Rows.{node_function_fine, fine_tests, node_fine_parts, nodes_fine_each}
use Rattle.unification.proofs.Lists.{part_is_place}
use Rattle.unification.proofs.Agree.{Agree, term_agrees, value_agrees, numbering_agrees, respects_agrees, unify_agrees}
use Rattle.unification.specs.Growing.{Names, CheckedLent, ReadyLent, PlacedIn, NodesAgree, Grows}

-- old rows that read the same have the same shape
pub rows_same : (W W' : Lent) → W.lengths.sorts ≤ W'.lengths.sorts → W.lengths.nodes ≤ W'.lengths.nodes
    → ((i : ℕ) → i < W.lengths.sorts → sort_shape W'.sorts (row_at W'.sorts i) ≡ sort_shape W.sorts (row_at W.sorts i))
    → ((i : ℕ) → i < W.lengths.nodes → node_shape W'.nodes (node_at W'.nodes i) ≡ node_shape W.nodes (node_at W.nodes i))
    → (p : ℕ) → PlacedIn W p → graph W' p ≡ graph W p
unfolding shape_at
rows_same W W' l k a b p e = rw (
  e,
  place_longer W.lengths.sorts W'.lengths.sorts W.lengths.nodes
      W'.lengths.nodes p l k e,
) (go (is_sort p) refl e)
  where
    go : (s : Bool) → is_sort p ≡ s → is_place W.lengths.sorts W.lengths.nodes p ≡ true
        → cond s (sort_shape W'.sorts (row_at W'.sorts p)) (node_shape W'.nodes (node_at W'.nodes (p - max_sorts)))
        ≡ cond s (sort_shape W.sorts (row_at W.sorts p)) (node_shape W.nodes (node_at W.nodes (p - max_sorts)))
    go true s e = a p (sort_below W.lengths.sorts W.lengths.nodes p (ltb-true p max_sorts s) e)
    go false s e = b (p - max_sorts) (node_below W.lengths.sorts W.lengths.nodes p (ltb-false p max_sorts s) e)

node_entries_agree : (ns ns' : List ℕ) (s c : ℕ) → ((j : ℕ) → j < c → node_entry_at ns' (s + j) ≡ node_entry_at ns
    (s + j)) → node_entries_of ns' s c ≡ node_entries_of ns s c
unfolding node_entries_of
node_entries_agree ns ns' s zero h = refl
node_entries_agree ns ns' s (suc c) h =
    ap₂ ◌∷◌ (ap (node_entry_at ns') (sym (add-zero s)) ∙ (h 0 (omega arith) ∙ ap (node_entry_at ns) (add-zero s)))
    (node_entries_agree ns ns' (s + 1) c (λ j l. ap (node_entry_at ns') (omega arith) ∙ (h (suc j) (omega (arith, l)) ∙ ap (node_entry_at ns) (omega arith))))

module _ (ns ns' : List ℕ) (m d : ℕ) (a : NodesAgree ns ns' m d) where
  kind_same : (i : ℕ) → i < m → node_kind_at ns' i ≡ node_kind_at ns i
  kind_same i l = a.rows (4 * i) (omega (arith, l))

  node_same : (i : ℕ) → i < m → node_at ns' i ≡ node_at ns i
  node_same i l =
      let p = a.rows (4 * i + 1) (omega (arith, l)) in
      let s = a.rows (4 * i + 2) (omega (arith, l)) in
      let c = a.rows (4 * i + 3) (omega (arith, l)) in
      λ j. inferred (kind_same i l j) (p j) (record { start = s j; count = c j })

  module _ (n v i : ℕ) where
    parts_shape : (r : InferSort) → node_parts_fine ns d n v i r ≡ true → node_shape ns' r ≡ node_shape ns r
    unfolding node_shape
    parts_shape (Generic op x) f = refl
    parts_shape (Function domain range) f =
        let l = (node_function_fine ns d n v i domain range.0 f).inside in
        ap (λ xs. over (function_head domain.count) (xs ++ (range.0 ∷ [])))
        (node_entries_agree ns ns' domain.start domain.count (λ j h. a.entries (domain.start + j) (omega (arith, l, h))))
    parts_shape (Var u) f = refl

    parts_fine_longer : (d' n' : ℕ) → d ≤ d' → n ≤ n' → (r : InferSort) → node_parts_fine ns d n v i r ≡ true → node_parts_fine ns' d' n' v i r ≡ true
    unfolding node_parts_fine
    parts_fine_longer d' n' k l (Generic op x) f = place_longer n n' i i x.0 l (omega arith) f
    parts_fine_longer d' n' k l (Function domain range) f =
        let x = node_function_fine ns d n v i domain range.0 f in
        fine_tests (is_place n' i) (node_entry_at ns') d' domain range.0
        (record {
          short = x.short;
          inside = omega (arith, x.inside, k);
          range_fits = place_longer n n' i i range.0 l (omega arith) x.range_fits;
          each_fits = λ j h. ap (is_place n' i) (a.entries (domain.start + j) (omega (arith, x.inside, h)))
              ∙ place_longer n n' i i (node_entry_at ns (domain.start + j)) l (omega arith) (x.each_fits j h);
        })
    parts_fine_longer d' n' k l (Var u) f = f

  -- old nodes stay fine, and keep their shapes
  module _ (n v : ℕ) (f : nodes_fine ns m d n v ≡ true) where
    pub node_fine_longer : (d' n' : ℕ) → d ≤ d' → n ≤ n' → (i : ℕ) → i < m → node_fine ns' d' n' v i ≡ true
    unfolding node_fine
    node_fine_longer d' n' k l i h =
        let x = node_fine_parts ns d n v i (nodes_fine_each ns m d n v f i h) in
        (and-eq-true_iff (node_kind_fine (node_kind_at ns' i)) (node_parts_fine ns' d' n' v i (node_at ns' i))).1
        (ap node_kind_fine (kind_same i h) ∙ x.0, ap (node_parts_fine ns' d' n' v i) (node_same i h) ∙ parts_fine_longer n v i d' n' k l (node_at ns i) x.1)

    pub node_shape_same : (i : ℕ) → i < m → node_shape ns' (node_at ns' i) ≡ node_shape ns (node_at ns i)
    node_shape_same i h =
        let x = node_fine_parts ns d n v i (nodes_fine_each ns m d n v f i h) in
        ap (node_shape ns') (node_same i h) ∙ parts_shape n v i (node_at ns i) x.1

-- the bindings of checked lists name places
pub ready_names : (W : Lent) (bs : List ℕ) → ReadyLent W bs → Names (PlacedIn W) (binds_of bs W.lengths.variables)
ready_names W bs r v q e = bound_is_place W.lengths.sorts W.lengths.nodes (binds_of bs W.lengths.variables) v q r.binds.places e

module _ (W : Lent) (c : CheckedLent W) where
  abbrev n : ℕ
  n = W.lengths.sorts

  abbrev m : ℕ
  m = W.lengths.nodes

  pub parts_placed : (p q : ℕ) (h : Head) (ps : List ℕ) → PlacedIn W p → graph W p ≡ over h ps → One q ps → PlacedIn W q
  parts_placed = part_is_place W.sorts n W.lengths.entries W.nodes m W.lengths.arguments W.lengths.variables c

  pub grows_refl : Grows W W
  grows_refl =
      record {
        checked = c;
        sorts = omega arith;
        entries = omega arith;
        nodes = omega arith;
        arguments = omega arith;
        variables = refl;
        sort_words = agrees_refl W.sorts n W.lengths.entries;
        node_words = record { rows = λ j l. refl; entries = λ j l. refl };
        as_long = (refl, refl);
        same = λ p x. refl;
        looks = λ i l. refl;
        fixed = λ f. f;
      }

  module _ (W' : Lent) (g : Grows W W') where
    pub placed_grown : (p : ℕ) → PlacedIn W p → PlacedIn W' p
    placed_grown p x = place_longer n W'.lengths.sorts m W'.lengths.nodes p g.sorts g.nodes x

    pub agree_grown : Agree (PlacedIn W) (graph W) (graph W')
    agree_grown = record { parts = parts_placed; same = g.same }

    -- a place keeps its term
    pub term_grown : (p : ℕ) → PlacedIn W p → term_at (graph W') p ≡ term_at (graph W) p
    term_grown p x = term_agrees (PlacedIn W) (graph W) (graph W') agree_grown (suc p) p x

    -- and all else that bindings of W make of it
    module _ (B : Binds) (b : Names (PlacedIn W) B) where
      pub value_grown : (p : ℕ) → PlacedIn W p → value (graph W') B p ≡ value (graph W) B p
      value_grown = value_agrees (PlacedIn W) (graph W) (graph W') agree_grown B b var deep

      pub respects_grown : (σ : ℕ → Term) → Respects (graph W) B σ ↔ Respects (graph W') B σ
      respects_grown = respects_agrees (PlacedIn W) (graph W) (graph W') agree_grown B b

      pub unify_grown : (l r : ℕ) → PlacedIn W l → PlacedIn W r → unify (graph W') B l r ≡ unify (graph W) B l r
      unfolding unify
      unify_grown = unify_agrees (PlacedIn W) (graph W) (graph W') agree_grown B b deep deeper

      pub binds_grown : BindsChecked (lists_of W.sorts n W.nodes m) W.lengths.variables B
          → BindsChecked (lists_of W'.sorts W'.lengths.sorts W'.nodes W'.lengths.nodes) W.lengths.variables B
      binds_grown r =
          record {
            many = r.many;
            places = bindings_longer n W'.lengths.sorts m W'.lengths.nodes B g.sorts g.nodes r.places;
            numbered = numbering_agrees (PlacedIn W) (graph W) (graph W') agree_grown B b W.lengths.variables r.numbered;
          }

    pub same_binds : (bs : List ℕ) → binds_of bs W'.lengths.variables ≡ binds_of bs W.lengths.variables
    same_binds bs = ap (binds_of bs) g.variables

  pub grows_trans : (W' W'' : Lent) → Grows W W' → Grows W' W'' → Grows W W''
  grows_trans W' W'' g h =
      record {
        checked = h.checked;
        sorts = omega (arith, g.sorts, h.sorts);
        entries = omega (arith, g.entries, h.entries);
        nodes = omega (arith, g.nodes, h.nodes);
        arguments = omega (arith, g.arguments, h.arguments);
        variables = h.variables ∙ g.variables;
        sort_words = agrees_trans W.sorts W'.sorts W''.sorts n W'.lengths.sorts W.lengths.entries
            W'.lengths.entries g.sorts g.entries g.sort_words h.sort_words;
        node_words =
            record {
              rows = λ j l. h.node_words.rows j (omega (arith, l, g.nodes)) ∙ g.node_words.rows j l;
              entries = λ j l. h.node_words.entries j (omega (arith, l, g.arguments)) ∙ g.node_words.entries j l;
            };
        as_long = (h.as_long.0 ∙ g.as_long.0, h.as_long.1 ∙ g.as_long.1);
        same = λ p x. h.same p (placed_grown W' g p x) ∙ g.same p x;
        looks = λ i l. h.looks i (omega (arith, l, g.sorts)) ∙ g.looks i l;
        fixed = λ f. h.fixed (g.fixed f);
      }

-- Lists that were ready are ready again, with the same bindings.
pub ready_grown : (W W' : Lent) (bs : List ℕ) → ReadyLent W bs → Grows W W' → ReadyLent W' bs
ready_grown W W' bs r g =
    record {
      nodes = g.checked;
      binds =
          subst (λ v. BindsChecked (lists_of W'.sorts W'.lengths.sorts W'.nodes W'.lengths.nodes) v (binds_of bs v)) (sym g.variables)
          (binds_grown W r.nodes W' g (binds_of bs W.lengths.variables) (ready_names W bs r) r.binds);
      long = omega (arith, r.long, g.variables);
    }

-- Nodes given back: what has grown has grown, with as many nodes as there were.
pub given_back_grows : (W W' : Lent) → CheckedLent W → Grows W W' → Grows W (with_nodes_of W W')
unfolding nodes_fine shape_at
given_back_grows W W' c g =
    record {
      checked =
          record {
            sorts = g.checked.sorts;
            long = g.checked.long;
            nodes = c.nodes;
            entries = c.entries;
            variables = g.checked.variables;
            fine =
                subst (λ v. nodes_fine W'.nodes W.lengths.nodes W.lengths.arguments W'.lengths.sorts v ≡ true) (sym g.variables)
                (each_below W.lengths.nodes (node_fine W'.nodes W.lengths.arguments W'.lengths.sorts W.lengths.variables)
                (node_fine_longer W.nodes W'.nodes W.lengths.nodes W.lengths.arguments g.node_words
                W.lengths.sorts W.lengths.variables c.fine W.lengths.arguments W'.lengths.sorts
                (omega arith) g.sorts));
          };
      sorts = g.sorts;
      entries = g.entries;
      nodes = omega arith;
      arguments = omega arith;
      variables = g.variables;
      sort_words = g.sort_words;
      node_words = g.node_words;
      as_long = g.as_long;
      same =
          λ p x. (rw (
            place_longer W.lengths.sorts W'.lengths.sorts W.lengths.nodes W'.lengths.nodes p
                g.sorts g.nodes x,
            place_longer W.lengths.sorts W'.lengths.sorts W.lengths.nodes
                W.lengths.nodes p g.sorts (omega arith) x,
          ) refl) ∙ g.same p x;
      looks = g.looks;
      fixed = g.fixed;
    }
