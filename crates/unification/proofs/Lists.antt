-- The places of checked lists: parts are places with lower numbers, variables are in the list, and two sorts have different terms. By the rows that
-- stand there and what the checks say of them; all but the last, that two sorts differ, needs checks 1, 3 and 5 only (`FineLists`). Assumes nothing.
use mathlib.Core.Path.{◌≡◌, refl, ap, ap₂, sym, ◌∙◌}
use mathlib.Core.List.{List, [], ◌∷◌, ◌++◌}
use mathlib.Core.Bool.{true, cond, and-eq-true_iff}
use Prim.Native.Nat.{ℕ, zero, suc, ◌<◌, ◌≤◌}
use native.Mathlib.Omega.{arith}
use lib.Dec.{eqb, leb, ltb}
use borrow.Author.Tests.{ltb-true, leb-true}
use Rattle.resolved_sort.specs.declared.Run.{Run}
use Rattle.resolved_sort.specs.Tree.{Tree, flat, container, function, Trees, no_args, arg, arity}
use Rattle.resolved_sort.specs.Interning.{look}
use Rattle.resolved_sort.specs.Storage.{max_sorts, kind_at, part_at, start_at, count_at, entries_of, resolved, row_at, look_all, tree_of, trees}
use Rattle.resolved_sort.specs.Checks.{parts_below, row_fine_of}
use Rattle.resolved_sort.proofs.Numbers.{true_not_false, look_injective}
use Rattle.resolved_sort.proofs.Trees.{length_trees}
use Rattle.resolved_sort.proofs.Pairs.{arity_look_all}
use Rattle.resolved_sort.proofs.RowTrees.{by_kind}
use Rattle.resolved_sort.proofs.Interned.{listed, trees_differ, look_tree}
use Rattle.resolved_sort.proofs.Reached.{no_confusion}
use Rattle.unification.specs.Term.{Head, function_head, stray_head, Term, app, Terms, no_part, part, Shape, variable, over, term_of, terms_of}
use Rattle.unification.specs.Nodes.{node_at, sort_shape, Lists, is_sort, is_place, shape_at}
use Rattle.unification.specs.NodeChecks.{node_parts_fine, node_fine}
use Rattle.unification.specs.Acyclic.{One, Lower}
use Rattle.unification.specs.Checked.{ListsFine, NodesChecked, fine_of, lists_of}
use Rattle.unification.specs.Solutions.{terms_at}
use Rattle.unification.specs.Exact.{shape_val, Apart}
use Rattle.unification.proofs.Parts.{terms_at_agree}
use Rattle.unification.proofs.Places.{sort_is_place}
use Rattle.unification.proofs.FineLists.{Place, is_sort_lem, is_node, is_stray, place}
use Rattle.unification.proofs.FineLists as fine
use Rattle.unification.proofs.Rows.{sort_parts, length_entries, ShapeFormed}

-- the sort of a row and its shape say the same
abbrev sort_value : List Tree → ℕ → Term
sort_value T q = term_of (look T q)

parts_looked : (T : List Tree) (xs : List ℕ) (r : ℕ) → terms_of (look_all T xs) (part (sort_value T r) no_part) ≡ terms_at (sort_value T) (xs ++ (r ∷ []))
unfolding terms_of look_all
parts_looked T [] r = refl
parts_looked T (x ∷ xs) r = ap (part (sort_value T x)) (parts_looked T xs r)

module _ (ws : List ℕ) (T : List Tree) (σ : ℕ → Term) (part start count : ℕ) where
  abbrev run : Run
  run = record { start = start; count = count }

  abbrev SaysTheSame : ℕ → Type 0
  SaysTheSame k =
      term_of (tree_of T (record { kind = k; part = cond (ltb k 6) 0 part; args = cond (eqb k 11) (entries_of ws start count) [] }))
      ≡ shape_val σ (sort_value T) (sort_shape ws (resolved k part run))

  function_says : SaysTheSame 11
  unfolding tree_of term_of sort_shape resolved
  function_says =
      ap₂ (λ (h : Head) (us : Terms). app h us) (ap function_head (arity_look_all T (entries_of ws start count) ∙
      length_entries ws start count)) (parts_looked T (entries_of ws start count) part)

  row_says : (k : ℕ) → k ≤ 13 → SaysTheSame k
  unfolding tree_of term_of sort_shape resolved
  row_says = by_kind SaysTheSame refl refl refl refl refl refl refl refl refl refl refl function_says refl refl

-- terms of sorts without variables are equal only if the sorts are
mutual
  unfolding term_of terms_of arity

  pub term_injective : (t u : Tree) → term_of t ≡ term_of u → t ≡ u
  term_injective (flat a) (flat b) e = let z : a ≡ b = cc in ap flat z
  term_injective (flat a) (container p u) e = no_confusion (cc)
  term_injective (flat a) (function us q) e = no_confusion (cc)
  term_injective (container o t) (flat b) e = no_confusion (cc)
  term_injective (container o t) (container p u) e = let x : o ≡ p = cc in let y : term_of t ≡ term_of u = cc in ap₂ container x (term_injective t u y)
  term_injective (container o t) (function us q) e = no_confusion (cc)
  term_injective (function ts r) (flat b) e = no_confusion (cc)
  term_injective (function ts r) (container p u) e = no_confusion (cc)
  term_injective (function ts r) (function us q) e =
      let x : arity ts ≡ arity us = cc in
      let y : terms_of ts (part (term_of r) no_part) ≡ terms_of us (part (term_of q) no_part) = cc in
      let z = terms_injective ts us (part (term_of r) no_part) (part (term_of q) no_part) x y in
      let tails : part (term_of r) no_part ≡ part (term_of q) no_part = z.1 in
      let g : term_of r ≡ term_of q = cc in
      ap₂ function z.0 (term_injective r q g)

  terms_injective : (ts us : Trees) (xs ys : Terms) → arity ts ≡ arity us → terms_of ts xs ≡ terms_of us ys → (ts ≡ us) × (xs ≡ ys)
  terms_injective no_args no_args xs ys a e = (refl, e)
  terms_injective no_args (arg u us) xs ys a e = absurd (omega (arith, a))
  terms_injective (arg t ts) no_args xs ys a e = absurd (omega (arith, a))
  terms_injective (arg t ts) (arg u us) xs ys a e =
      let x : term_of t ≡ term_of u = cc in
      let y : terms_of ts xs ≡ terms_of us ys = cc in
      let z = terms_injective ts us xs ys (omega (arith, a)) y in
      (ap₂ arg (term_injective t u x) z.0, z.1)

module _ (ws : List ℕ) (n e : ℕ) (ns : List ℕ) (m d v : ℕ) (c : NodesChecked ws n e ns m d v) where
  abbrev L : Lists
  L = lists_of ws n ns m

  -- what holds of them before check 4 and however long the words are
  abbrev f : ListsFine ws n e ns m d v
  f = fine_of ws n e ns m d v c

  pub sort_fine : (p : ℕ) → p < n → row_fine_of ws e p ≡ true
  sort_fine = fine.sort_fine ws n e ns m d v f

  pub node_fine_lem : (i : ℕ) → i < m → node_fine ns d n v i ≡ true
  node_fine_lem = fine.node_fine_lem ws n e ns m d v f

  pub sort_parts_fine : (p : ℕ) → p < n → parts_below ws e p (row_at ws p) ≡ true
  sort_parts_fine = fine.sort_parts_fine ws n e ns m d v f

  pub node_parts_fine_lem : (i : ℕ) → i < m → node_parts_fine ns d n v i (node_at ns i) ≡ true
  node_parts_fine_lem = fine.node_parts_fine_lem ws n e ns m d v f

  pub lower : Lower (shape_at L) 3072
  lower = fine.lower ws n e ns m d v f

  pub scoped : (p u : ℕ) → shape_at L p ≡ variable u → u < v
  scoped = fine.scoped ws n e ns m d v f

  pub part_is_place : (p q : ℕ) (h : Head) (ps : List ℕ) → is_place n m p ≡ true → shape_at L p ≡ over h ps → One q ps → is_place n m q ≡ true
  part_is_place = fine.part_is_place ws n e ns m d v f

  pub place_formed : (p : ℕ) → is_place n m p ≡ true → ShapeFormed (shape_at L p)
  place_formed = fine.place_formed ws n e ns m d v f

  abbrev T : List Tree
  T = trees ws n

  -- the term of a sort is that of its tree
  sort_says : (σ : ℕ → Term) (p : ℕ) → p < n → term_of (look T p) ≡ shape_val σ (sort_value T) (sort_shape ws (row_at ws p))
  unfolding row_fine_of
  sort_says σ p l =
      ap term_of (look_tree ws n e (listed c.sorts) p l)
      ∙ row_says ws T σ (part_at ws p) (start_at ws p) (count_at ws p) (kind_at ws p)
      (leb-true (kind_at ws p) 13 ((and-eq-true_iff (leb (kind_at ws p) 13) (parts_below ws e p (row_at ws p))).0 (sort_fine p l)).0)

  module _ (σ val : ℕ → Term) (isval : (p : ℕ) → val p ≡ shape_val σ val (shape_at L p)) where
    pub sort_value_lem : (k p : ℕ) → p < k → p < n → val p ≡ term_of (look T p)
    sort_value_lem zero p l x = absurd (omega (arith, l))
    sort_value_lem (suc k) p l x = go (place ws n ns m p) (sort_value_lem k)
      where
        same : (s : Shape) → sort_shape ws (row_at ws p) ≡ s → ((q : ℕ) → q < k → q < n → val q ≡ term_of (look T q))
            → shape_val σ val s ≡ shape_val σ (sort_value T) s
        same (variable u) i ih = refl
        same (over h ps) i ih =
            ap (app h) (terms_at_agree val (sort_value T) ps (λ q o. let y = sort_parts ws e p (row_at ws p)
            (sort_parts_fine p x) q h ps i o in ih q (omega (arith, l, y)) (omega (arith, x, y))))

        go : Place ws n ns m p → ((q : ℕ) → q < k → q < n → val q ≡ term_of (look T q)) → val p ≡ term_of (look T p)
        go (is_sort_lem a y f) ih = isval p ∙ (ap (shape_val σ val) f ∙ (same (sort_shape ws (row_at ws p)) refl ih ∙ sym (sort_says σ p x)))
        go (is_node i y z f) ih = absurd (omega (arith, x, z, c.sorts.sorts))
        go (is_stray z f) ih = absurd (true_not_false (is_place n m p) (sort_is_place n m p c.sorts.sorts x) z)

    stray_value : (p : ℕ) → shape_at L p ≡ over (stray_head p) [] → val p ≡ app (stray_head p) no_part
    stray_value p f = isval p ∙ ap (shape_val σ val) f

    tree_not_stray : (t : Tree) (x : ℕ) → term_of t ≡ app (stray_head x) no_part → ⊥
    unfolding term_of
    tree_not_stray (flat a) x e = no_confusion (cc)
    tree_not_stray (container o t) x e = no_confusion (cc)
    tree_not_stray (function ts r) x e = no_confusion (cc)

    apart_by : (l r : ℕ) → Place ws n ns m l → Place ws n ns m r → is_sort l ≡ true → is_sort r ≡ true → (l ≡ r → ⊥) → val l ≡ val r → ⊥
    apart_by l r (is_sort_lem a x f) (is_sort_lem b y g) sl sr ne e =
        ne
        (look_injective T l r (trees_differ ws n _ (listed c.sorts)) (omega (arith, x, length_trees ws n)) (omega (arith, y, length_trees ws n))
        (term_injective (look T l) (look T r) (sym (sort_value_lem (suc l) l (omega arith) x) ∙ (e ∙ sort_value_lem (suc r) r (omega arith) y))))
    apart_by l r (is_sort_lem a x f) (is_stray z g) sl sr ne e = tree_not_stray (look T l) r (sym (sort_value_lem (suc l) l (omega arith) x) ∙ (e ∙ stray_value r g))
    apart_by l r (is_stray z f) (is_sort_lem b y g) sl sr ne e = tree_not_stray (look T r) l
        (sym (sort_value_lem (suc r) r (omega arith) y) ∙ (sym e ∙ stray_value l f))
    apart_by l r (is_stray z f) (is_stray y g) sl sr ne e =
        let h : app (stray_head l) no_part ≡ app (stray_head r) no_part = sym (stray_value l f) ∙ (e ∙ stray_value r g) in
        let k : l ≡ r = cc in
        ne k
    apart_by l r (is_node i x y f) q sl sr ne e = absurd (omega (arith, y, ltb-true l max_sorts sl))
    apart_by l r (is_sort_lem a x f) (is_node i y z g) sl sr ne e = absurd (omega (arith, z, ltb-true r max_sorts sr))
    apart_by l r (is_stray z f) (is_node i y x g) sl sr ne e = absurd (omega (arith, x, ltb-true r max_sorts sr))

  pub apart : Apart (shape_at L)
  apart l r sl sr ne σ val isval e = apart_by σ val isval l r (place ws n ns m l) (place ws n ns m r) sl sr ne e
