-- More sorts: a list of sorts that has grown by interning reads as before below its old lengths, so that old rows keep their shapes, and what was a
-- place is a place among more sorts. Assumes nothing.
use mathlib.Core.Path.{◌≡◌, refl, ap, ◌∙◌}
use mathlib.Core.List.{List, [], ◌∷◌, ◌++◌}
use mathlib.Core.Bool.{true}
use Prim.Native.Nat.{ℕ, ◌+◌, ◌-◌, ◌<◌, ◌≤◌}
use native.Mathlib.Omega.{arith}
use lib.ListN.{length}
use lib.Dec.{eqb}
use borrow.Author.Tests.{le-leb, eq-eqb}
use Rattle.resolved_sort.specs.declared.ResolvedSort.{ResolvedSort}
use Rattle.resolved_sort.specs.declared.ResolvedSort.TheVariants.{Unit as UnitRow, Primitive, Container, Function as SortFunction, Def, TypeVar}
use Rattle.resolved_sort.specs.Interning.{Sorts, look}
use Rattle.resolved_sort.specs.Storage.{max_entries, kind_at, resolved, row_at}
use Rattle.resolved_sort.specs.Entries.{after}
use Rattle.resolved_sort.specs.Checks.{fixed_six, parts_below}
use Rattle.resolved_sort.specs.Rows.{Checked}
use Rattle.resolved_sort.proofs.Below.{each_below}
use Rattle.resolved_sort.proofs.Trees.{look_longer}
use Rattle.resolved_sort.specs.Growing.{Agrees, Grown}
use Rattle.resolved_sort.proofs.Append.{entries_agree, rows_agree, trees_agree}
use Rattle.resolved_sort.proofs.Unchanged.{longer, entries_longer, unchanged, length_after}
use Rattle.unification.specs.Term.{function_head, over}
use Rattle.unification.specs.Nodes.{sort_shape}
use Rattle.unification.specs.NodeChecks.{node_fine, nodes_fine}
use Rattle.unification.specs.declared.Lengths.{Lengths}
use Rattle.unification.specs.Checked.{Ready}
use Rattle.unification.specs.Making.{Lent}
use Rattle.unification.proofs.Lists.{sort_parts_fine}
use Rattle.unification.proofs.Rows.{sort_function_fine, fixed_six_kinds}
use Rattle.unification.specs.Growing.{CheckedLent, Grows, with_sort_words}
use Rattle.unification.proofs.Grows.{rows_same, node_fine_longer, ready_grown}

-- the lists with the sorts S
abbrev pub with_more_sorts : Lent → Sorts → Lent
with_more_sorts W S = with_sort_words W (after W.sorts W.lengths.sorts W.lengths.entries S) (length S.trees) (max_entries - S.entries)

module _ (ws us : List ℕ) (n e : ℕ) (a : Agrees ws us n e) where
  row_same : (i : ℕ) → i < n → row_at us i ≡ row_at ws i
  row_same i l =
      let k = a.kinds i l in
      let p = a.parts i l in
      let s = a.starts i l in
      let c = a.counts i l in
      λ j. resolved (k j) (p j) (record { start = s j; count = c j })

  -- a row whose run is inside the entries has the same shape
  sort_shape_lem : (i : ℕ) (r : ResolvedSort) → parts_below ws e i r ≡ true → sort_shape us r ≡ sort_shape ws r
  unfolding sort_shape
  sort_shape_lem i UnitRow f = refl
  sort_shape_lem i (Primitive s) f = refl
  sort_shape_lem i (Container op s) f = refl
  sort_shape_lem i (SortFunction domain range) f =
      let l = (sort_function_fine ws e i domain range.0 f).inside in
      ap (λ xs. over (function_head domain.count) (xs ++ (range.0 ∷ []))) (entries_agree us ws domain.start
      domain.count (λ j h. a.entries (domain.start + j) (omega (arith, l, h))))
  sort_shape_lem i (Def x) f = refl
  sort_shape_lem i (TypeVar x) f = refl

  fixed_six_same : (m : ℕ) → n ≤ m → fixed_six ws n ≡ true → fixed_six us m ≡ true
  unfolding fixed_six
  fixed_six_same m l f =
      let x = fixed_six_kinds ws n f in
      rw (le-leb 6 m (omega (arith, x.0, l))) (each_below 6 (λ i. eqb (kind_at us i) i) (λ i h. eq-eqb (kind_at us i) i
      (a.kinds i (omega (arith, x.0, h)) ∙ x.1 i h)))

-- words that read as before below the old lengths
module _ (W : Lent) (c : CheckedLent W) (us : List ℕ) (n' e' : ℕ) (k : Checked us n' e') (more : W.lengths.sorts ≤
    n') (used : W.lengths.entries ≤ e') (as_long : length us ≡ length W.sorts) (old : Agrees W.sorts us
    W.lengths.sorts W.lengths.entries) where
  abbrev n : ℕ
  n = W.lengths.sorts

  abbrev e : ℕ
  e = W.lengths.entries

  pub agreeing_sorts_grow : Grows W (with_sort_words W us n' e')
  unfolding nodes_fine
  agreeing_sorts_grow =
      record {
        checked =
            record {
              sorts = k;
              long = c.long;
              nodes = c.nodes;
              entries = c.entries;
              variables = c.variables;
              fine =
                  each_below W.lengths.nodes (node_fine W.nodes W.lengths.arguments n' W.lengths.variables)
                  (node_fine_longer W.nodes W.nodes W.lengths.nodes W.lengths.arguments
                  (record { rows = λ j l. refl; entries = λ j l. refl }) n W.lengths.variables c.fine
                  W.lengths.arguments n' (omega arith) more);
            };
        sorts = more;
        entries = used;
        nodes = omega arith;
        arguments = omega arith;
        variables = refl;
        sort_words = old;
        node_words = record { rows = λ j l. refl; entries = λ j l. refl };
        as_long = (as_long, refl);
        same =
            rows_same W (with_sort_words W us n' e') more (omega arith)
            (λ i l. ap (sort_shape us) (row_same W.sorts us n e old i l)
            ∙ sort_shape_lem W.sorts us n e old i (row_at W.sorts i) (sort_parts_fine W.sorts n e W.nodes
            W.lengths.nodes W.lengths.arguments W.lengths.variables c i l))
            (λ i l. refl);
        looks = λ i l. look_longer us n n' i l more ∙ ap (λ T. look T i) (trees_agree W.sorts us n (rows_agree W.sorts us n e old c.sorts.fine));
        fixed = fixed_six_same W.sorts us n e old n' more;
      }

module _ (W : Lent) (c : CheckedLent W) (S : Sorts) (g : Grown W.sorts W.lengths.sorts W.lengths.entries S) where
  pub sorts_grow : Grows W (with_more_sorts W S)
  sorts_grow =
      agreeing_sorts_grow W c (after W.sorts W.lengths.sorts W.lengths.entries S) (length S.trees) (max_entries - S.entries) g.checked
      (longer W.sorts W.lengths.sorts W.lengths.entries c.sorts S g) (entries_longer W.sorts
      W.lengths.sorts W.lengths.entries c.sorts S g)
      (length_after W.sorts W.lengths.sorts W.lengths.entries c.sorts S g) (unchanged W.sorts
      W.lengths.sorts W.lengths.entries c.sorts S g)

-- The same for lists given apart: ready again, and each place a place.
pub ready_with_more_sorts : (ws ns bs : List ℕ) (k : Lengths) → Ready ws ns bs k → (S : Sorts) → Grown ws k.sorts k.entries S
    → Ready (after ws k.sorts k.entries S) ns bs (record {
      sorts = length S.trees;
      entries = max_entries -
          S.entries;
      nodes = k.nodes;
      arguments = k.arguments;
      variables = k.variables;
    })
ready_with_more_sorts ws ns bs k r S g =
    let W : Lent = record { sorts = ws; nodes = ns; lengths = k } in
    ready_grown W (with_more_sorts W S) bs r (sorts_grow W r.nodes S g)
