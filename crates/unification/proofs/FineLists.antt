-- The places of lists that pass checks 1, 3 and 5: parts are places with lower numbers, and variables are in the list. By the rows that stand there
-- and what the checks say of them. Assumes nothing.
use mathlib.Core.Path.{◌≡◌, refl, sym, ◌∙◌, subst}
use mathlib.Core.List.{List, []}
use mathlib.Core.Bool.{Bool, true, false, and-eq-true_iff}
use Prim.Native.Nat.{ℕ, ◌+◌, ◌-◌, ◌<◌}
use native.Mathlib.Omega.{arith}
use lib.Dec.{leb, ltb}
use borrow.Author.Tests.{ltb-true, ltb-false}
use Rattle.resolved_sort.specs.Storage.{max_sorts, kind_at, row_at}
use Rattle.resolved_sort.specs.Checks.{parts_below, row_fine_of, rows_fine}
use Rattle.resolved_sort.proofs.Below.{below_each}
use Rattle.resolved_sort.proofs.Numbers.{true_not_false}
use Rattle.resolved_sort.proofs.Reached.{no_confusion}
use Rattle.unification.specs.Term.{Head, stray_head, variable, over}
use Rattle.unification.specs.Nodes.{node_at, sort_shape, node_shape, Lists, is_sort, is_place, shape_at}
use Rattle.unification.specs.NodeChecks.{node_parts_fine, node_fine}
use Rattle.unification.specs.Acyclic.{One, Lower}
use Rattle.unification.specs.Checked.{ListsFine, lists_of}
use Rattle.unification.proofs.Parts.{none_of}
use Rattle.unification.proofs.Places.{sort_is_place, place_below, place_longer}
use Rattle.unification.proofs.Rows.{sort_parts, node_parts, node_variable, sort_no_variable, ShapeFormed}
use Rattle.unification.proofs.Rows.{sort_formed, node_formed, node_fine_parts, nodes_fine_each}

-- what stands at a place: a sort of the list, a node of the list, or nothing
module _ (ws : List ℕ) (n : ℕ) (ns : List ℕ) (m : ℕ) where
  pub data Place (p : ℕ) : Type 0 where
    is_sort_lem : is_sort p ≡ true → p < n → shape_at (lists_of ws n ns m) p ≡ sort_shape ws (row_at ws p) → Place p
    is_node : (i : ℕ) → i < m → p ≡ max_sorts + i → shape_at (lists_of ws n ns m) p ≡ node_shape ns (node_at ns i) → Place p
    is_stray : is_place n m p ≡ false → shape_at (lists_of ws n ns m) p ≡ over (stray_head p) [] → Place p

  pub place : (p : ℕ) → Place p
  unfolding shape_at is_place
  place p = go (is_sort p) refl (ltb p n) refl (ltb (p - max_sorts) m) refl
    where
      go : (a : Bool) → is_sort p ≡ a → (b : Bool) → ltb p n ≡ b → (d : Bool) → ltb (p - max_sorts) m ≡ d → Place p
      go true s true x d y = is_sort_lem s (ltb-true p n x) (rw (s, x))
      go true s false x d y = is_stray (rw (s, x)) (rw (s, x))
      go false s b x true y =
          let i : p ≡ max_sorts + (p - max_sorts) = omega (arith, ltb-false p max_sorts s) in
          is_node (p - max_sorts) (ltb-true (p - max_sorts) m y) i (rw (s, y))
      go false s b x false y = is_stray (rw (s, y)) (rw (s, y))

module _ (ws : List ℕ) (n e : ℕ) (ns : List ℕ) (m d v : ℕ) (c : ListsFine ws n e ns m d v) where
  abbrev L : Lists
  L = lists_of ws n ns m

  pub sort_fine : (p : ℕ) → p < n → row_fine_of ws e p ≡ true
  unfolding rows_fine
  sort_fine p l = below_each n (row_fine_of ws e) c.rows p l

  pub node_fine_lem : (i : ℕ) → i < m → node_fine ns d n v i ≡ true
  node_fine_lem = nodes_fine_each ns m d n v c.fine

  pub sort_parts_fine : (p : ℕ) → p < n → parts_below ws e p (row_at ws p) ≡ true
  unfolding row_fine_of
  sort_parts_fine p l = ((and-eq-true_iff (leb (kind_at ws p) 13) (parts_below ws e p (row_at ws p))).0 (sort_fine p l)).1

  pub node_parts_fine_lem : (i : ℕ) → i < m → node_parts_fine ns d n v i (node_at ns i) ≡ true
  node_parts_fine_lem i l = (node_fine_parts ns d n v i (node_fine_lem i l)).1

  pub lower : Lower (shape_at L) 3072
  lower p q h ps s o = go (place ws n ns m p)
    where
      go : Place ws n ns m p → (q < p) × (p < 3072)
      go (is_sort_lem a l f) = (sort_parts ws e p (row_at ws p) (sort_parts_fine p l) q h ps (sym f ∙ s) o, omega (arith, l, c.sorts))
      go (is_node i l x f) =
          let b = place_below n i q c.sorts (node_parts ns d n v i (node_at ns i) (node_parts_fine_lem i l) q h ps (sym f ∙ s) o) in
          (omega (arith, b, x), omega (arith, l, x, c.nodes))
      go (is_stray z f) = none_of q ps o (let y : over (stray_head p) [] ≡ over h ps = sym f ∙ s in let w : ps ≡ [] = cc in w)

  pub scoped : (p u : ℕ) → shape_at L p ≡ variable u → u < v
  scoped p u s = go (place ws n ns m p)
    where
      go : Place ws n ns m p → u < v
      go (is_sort_lem a l f) = sort_no_variable ws u (row_at ws p) (sym f ∙ s)
      go (is_node i l x f) = node_variable ns d n v i u (node_at ns i) (node_parts_fine_lem i l) (sym f ∙ s)
      go (is_stray z f) = let y : over (stray_head p) [] ≡ variable u = sym f ∙ s in no_confusion (cc)

  -- the parts of a place are places, and its head stands over as many as it should
  pub part_is_place : (p q : ℕ) (h : Head) (ps : List ℕ) → is_place n m p ≡ true → shape_at L p ≡ over h ps → One q ps → is_place n m q ≡ true
  part_is_place p q h ps k s o = go (place ws n ns m p)
    where
      go : Place ws n ns m p → is_place n m q ≡ true
      go (is_sort_lem a l f) = sort_is_place n m q c.sorts (omega (arith, l, sort_parts ws e p (row_at ws p) (sort_parts_fine p l) q h ps (sym f ∙ s) o))
      go (is_node i l x f) = place_longer n n i m q (omega arith) (omega (arith, l)) (node_parts ns d n v i
          (node_at ns i) (node_parts_fine_lem i l) q h ps (sym f ∙ s) o)
      go (is_stray z f) = absurd (true_not_false (is_place n m p) k z)

  pub place_formed : (p : ℕ) → is_place n m p ≡ true → ShapeFormed (shape_at L p)
  place_formed p k = go (place ws n ns m p)
    where
      go : Place ws n ns m p → ShapeFormed (shape_at L p)
      go (is_sort_lem a l f) = subst ShapeFormed (sym f) (sort_formed ws e p (row_at ws p) (sort_parts_fine p l))
      go (is_node i l x f) = subst ShapeFormed (sym f) (node_formed ns d n v i (node_at ns i) (node_parts_fine_lem i l))
      go (is_stray z f) = absurd (true_not_false (is_place n m p) k z)
