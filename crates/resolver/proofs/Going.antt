-- The loop over a function's arguments. Its invariant: to resolve all of them from the lists at entry is to resolve those that are left from the lists
-- now, with the ids made so far in place. Each law answers a place of the code: its premises are the invariant and
-- what the callees ensure there. Assumes nothing.
use mathlib.Core.Path.{◌≡◌, refl, sym, ◌∙◌, ap, ap₂, subst}
use mathlib.Core.List.{List, [], ◌∷◌, ◌++◌}
use Prim.Native.Nat.{ℕ, ◌+◌, ◌-◌, ◌<◌, ◌≤◌}
use native.Mathlib.Numerals.{unary_clauses}
use native.Mathlib.Omega.{arith}
use lib.ListN.{length, set, take, replicate, length-set}
use lib.Seq.{length-take-le}
use Rattle.resolved_sort.specs.declared.SortId.{SortId}
use Rattle.resolved_sort.specs.declared.Counts.{Counts}
use Rattle.resolved_sort.specs.Entries.{Joined}
use Rattle.resolved_sort.specs.Entries.{At, Nothing, Full}
use Rattle.resolved_sort.specs.Inner.Bounds.{All, Nothing as NotAll, Full as NoRoom}
use Rattle.resolved_sort.specs.Inner.Bounds.{Domain}
use Rattle.resolved_sort.specs.Tree.{function}
use Rattle.resolved_sort.specs.Interning.{look}
use Rattle.resolved_sort.specs.Storage.{trees, look_all}
use Rattle.resolved_sort.specs.Rows.{Checked, AllBelow, stored_at}
use Rattle.resolved_sort.specs.Bounds.{intern_at}
use Rattle.resolved_sort.specs.Inner.Storage.{sort_numbers}
use Rattle.resolved_sort.specs.Inner.Bounds.{domain_left, stored_domain}
use Rattle.resolved_sort.proofs.SortNumbers.{set_sort_numbers, zeros_sort_numbers, take_sort_numbers}
use Rattle.unification.specs.declared.Lengths.{Lengths}
use Rattle.unification.specs.Default.{Default}
use Rattle.unification.specs.Term.{function_head, Term, app, Terms}
use Rattle.unification.specs.Nodes.{node_entry_at, node_entries_of}
use Rattle.unification.specs.Checked.{Ready, Placed}
use Rattle.unification.specs.Solutions.{terms_at}
use Rattle.unification.specs.Resolve.{DefaultBelow, term_resolved, arguments_resolved, with_counts}
use Rattle.unification.specs.Inner.Resolve.{value_in}
use Rattle.unification.proofs.Exact.{size, sizes}
use Rattle.infer_nodes.specs.Inner.Bound.{RunPlaced}
use Rattle.resolver.proofs.Laws as law

-- the m arguments from s on, and the function of them and the range g
abbrev pub argument_terms : List ℕ → List ℕ → List ℕ → Lengths → ℕ → ℕ → Terms
argument_terms ws ns bs k s m = terms_at (value_in ws ns bs k) (node_entries_of ns s m)

abbrev pub function_term : List ℕ → List ℕ → List ℕ → Lengths → ℕ → ℕ → ℕ → Term
function_term ws ns bs k s m g = app (function_head m) (terms_at (value_in ws ns bs k) (node_entries_of ns s m ++ (g ∷ [])))

abbrev counts_in : Lengths → Counts
counts_in k = record { sorts = k.sorts; entries = k.entries }

-- before the i-th argument; ₀ marks what was at entry
pub record Going (ns bs : List ℕ) (x : Default) (s m g : ℕ) (ws₀ : List ℕ) (k₀ : Lengths) (ws : List ℕ) (ids : List SortId) (k : Lengths) (i : ℕ) : Type 0 where
  pub entered : Ready ws₀ ns bs k₀ × DefaultBelow k₀.sorts x × RunPlaced ns k₀ s m × Placed k₀ g
  pub ready : Ready ws ns bs k × DefaultBelow k.sorts x × RunPlaced ns k (s + i) (m - i)
  pub within : i ≤ m
  pub stored : length ids ≡ 16
  pub counted : k ≡ with_counts k₀ (record { sorts = k.sorts; entries = k.entries })
  pub smaller : sizes (argument_terms ws ns bs k (s + i) (m - i)) ≤ sizes (argument_terms ws₀ ns bs k₀ s m)
  pub same : arguments_resolved ws k x (argument_terms ws ns bs k (s + i) (m - i)) i (sort_numbers ids) ≡ arguments_resolved ws₀ k₀ x
      (argument_terms ws₀ ns bs k₀ s m) 0 (replicate 16 0)

pub start : (ws ns bs : List ℕ) (k : Lengths) (x : Default) (s m g : ℕ) → Ready ws ns bs k × DefaultBelow k.sorts x × RunPlaced ns k s m × Placed k g
    → Going ns bs x s m g ws k ws (replicate 16 (record { 0 = 0 })) k 0
start ws ns bs k x s m g p = record {
  entered = p;
  ready = (p.0, p.1, simp unary_clauses p.2);
  within = omega arith;
  stored = refl;
  counted = refl;
  smaller = simp unary_clauses (omega arith);
  same = rw (zeros_sort_numbers 16) (simp unary_clauses);
}

module _ (ns bs : List ℕ) (x : Default) (s m g : ℕ) (ws₀ : List ℕ) (k₀ : Lengths) (ws : List ℕ) (ids : List SortId) (k : Lengths)
    (i : ℕ) (G : Going ns bs x s m g ws₀ k₀ ws ids k i) where
  parts : sizes (argument_terms ws₀ ns bs k₀ s m) + size (value_in ws₀ ns bs k₀ g) < size (function_term ws₀ ns bs k₀ s m g)
  parts = omega (arith, law.function_parts ws₀ ns bs k₀ G.entered.0 x G.entered.1 s m g G.entered.2 G.entered.3)

  module _ (h : i < m) where
    left : 0 < m - i
    left = omega (arith, h)

    module _ (a : ℕ) (ea : a ≡ node_entry_at ns (s + i)) where
      pub argument_ready : Ready ws ns bs k × DefaultBelow k.sorts x × Placed k a
      argument_ready = (G.ready.0, G.ready.1, law.first_placed ws ns bs k G.ready.0 x G.ready.1 (s + i) (m - i) i G.ready.2 (sort_numbers ids) left a ea)

      pub argument_falls : size (value_in ws ns bs k a) < size (function_term ws₀ ns bs k₀ s m g)
      argument_falls = omega (arith, parts, G.smaller, law.first_falls ws ns bs k G.ready.0 x G.ready.1 (s + i) (m - i) i G.ready.2 (sort_numbers ids) left a ea)

      module _ (vs : List ℕ) (w : Joined) (ew : stored_at vs w ≡ term_resolved ws k x (value_in ws ns bs k a)) where
        pub argument_stops : (K : Counts) → w ≡ Nothing K → stored_at vs (Nothing K) ≡ term_resolved ws₀ k₀ x (function_term ws₀ ns bs k₀ s m g)
        argument_stops K z =
            law.function_stops ws₀ ns bs k₀ G.entered.0 x G.entered.1 s m g G.entered.2 G.entered.3 vs
            (record { ids = replicate 16 (record { 0 = 0 }); found = NotAll K })
            (ap (λ l. domain_left vs l (NotAll K)) (zeros_sort_numbers 16) ∙ law.arguments_stop ws ns bs k G.ready.0 x G.ready.1 (s + i) (m - i) i G.ready.2 (sort_numbers ids) left a ea vs w ew K z ∙ G.same)
            K refl

        pub argument_ends : w ≡ Full → stored_at vs Full ≡ term_resolved ws₀ k₀ x (function_term ws₀ ns bs k₀ s m g)
        argument_ends z =
            law.function_ends ws₀ ns bs k₀ G.entered.0 x G.entered.1 s m g G.entered.2 G.entered.3 vs
            (record { ids = replicate 16 (record { 0 = 0 }); found = NoRoom })
            (ap (λ l. domain_left vs l NoRoom) (zeros_sort_numbers 16) ∙ law.arguments_end ws ns bs k G.ready.0 x G.ready.1 (s + i) (m - i) i G.ready.2 (sort_numbers ids) left a ea vs w ew z ∙ G.same) refl

        pub next : (c : SortId) (K : Counts) → w ≡ At c K → (k' : Lengths)
            → k' ≡ with_counts k K → Going ns bs x s m g ws₀ k₀ vs (set ids i c) k' (i + 1)
        next c K z k' ek = record {
          entered = G.entered;
          ready = (
            there.0,
            there.1,
            subst (λ (j : ℕ). RunPlaced ns k' j (m - (i + 1))) further
                (subst (λ (j : ℕ). RunPlaced ns k' (s + i + 1) j) fewer there.2),
          );
          within = omega (arith, h);
          stored = length-set ids i c ∙ G.stored;
          counted = rw ek (ap (λ (y : Lengths). with_counts y K) G.counted);
          smaller = omega (arith, G.smaller, ap sizes moved, falls, same_sizes);
          same = ap₂ (λ ts l. arguments_resolved vs k' x ts (i + 1) l) (sym moved) (set_sort_numbers ids i c) ∙ (on ∙ G.same);
        }
          where
            there : Ready vs ns bs k' × DefaultBelow k'.sorts x × RunPlaced ns k' (s + i + 1) (m - i - 1)
            there = law.rest_ready ws ns bs k G.ready.0 x G.ready.1 (s + i) (m - i) i G.ready.2 (sort_numbers ids) left a ea vs w ew c K z k' ek

            further : s + i + 1 ≡ s + (i + 1)
            further = omega arith

            fewer : m - i - 1 ≡ m - (i + 1)
            fewer = omega arith

            moved : argument_terms vs ns bs k' (s + i + 1) (m - i - 1) ≡ argument_terms vs ns bs k' (s + (i + 1)) (m - (i + 1))
            moved = ap₂ (λ (j n : ℕ). argument_terms vs ns bs k' j n) further fewer

            falls : size (value_in ws ns bs k a) + sizes (argument_terms ws ns bs k (s + i + 1) (m - i - 1)) ≡ sizes (argument_terms ws ns bs k (s + i) (m - i))
            falls = law.first_falls ws ns bs k G.ready.0 x G.ready.1 (s + i) (m - i) i G.ready.2 (sort_numbers ids) left a ea

            same_sizes : sizes (argument_terms vs ns bs k' (s + i + 1) (m - i - 1)) ≡ sizes (argument_terms ws ns bs k (s + i + 1) (m - i - 1))
            same_sizes = law.rest_same ws ns bs k G.ready.0 x G.ready.1 (s + i) (m - i) i G.ready.2 (sort_numbers ids) left a ea vs w ew c K z k' ek

            on : arguments_resolved vs k' x (argument_terms vs ns bs k' (s + i + 1) (m - i - 1)) (i + 1)
                (set (sort_numbers ids) i c.0) ≡ arguments_resolved ws k x (argument_terms ws ns bs k (s + i) (m - i)) i (sort_numbers ids)
            on = law.arguments_made ws ns bs k G.ready.0 x G.ready.1 (s + i) (m - i) i G.ready.2 (sort_numbers ids) left a ea vs w ew c K z k' ek

  -- no argument is left: the range, and the whole
  module _ (h : m ≤ i) where
    abbrev all : Domain
    all = record { ids = ids; found = All (counts_in k) }

    made : stored_domain ws all ≡ arguments_resolved ws₀ k₀ x (argument_terms ws₀ ns bs k₀ s m) 0 (replicate 16 0)
    made = law.no_arguments ws ns bs k G.ready.0 x G.ready.1 (s + i) (m - i) i G.ready.2 (sort_numbers ids) (omega (arith, h)) (counts_in k) refl ∙ G.same

    pub range_ready : Ready ws ns bs k × DefaultBelow k.sorts x × Placed k g
    range_ready = law.range_ready ws₀ ns bs k₀ G.entered.0 x G.entered.1 s m g G.entered.2 G.entered.3
        ws all made (counts_in k) refl k G.counted

    pub range_falls : size (value_in ws ns bs k g) < size (function_term ws₀ ns bs k₀ s m g)
    range_falls =
        omega (
          arith,
          parts,
          law.range_same ws₀ ns bs k₀ G.entered.0 x G.entered.1 s m g G.entered.2
              G.entered.3 ws all made (counts_in k) refl k G.counted,
        )

    module _ (vs : List ℕ) (w : Joined) (ew : stored_at vs w ≡ term_resolved ws k x (value_in ws ns bs k g)) where
      pub range_stops : (K : Counts) → w ≡ Nothing K → stored_at vs (Nothing K) ≡ term_resolved ws₀ k₀ x (function_term ws₀ ns bs k₀ s m g)
      range_stops = law.range_stops ws₀ ns bs k₀ G.entered.0 x G.entered.1 s m g G.entered.2
          G.entered.3 ws all made (counts_in k) refl k G.counted vs w ew

      pub range_ends : w ≡ Full → stored_at vs Full ≡ term_resolved ws₀ k₀ x (function_term ws₀ ns bs k₀ s m g)
      range_ends = law.range_ends ws₀ ns bs k₀ G.entered.0 x G.entered.1 s m g G.entered.2 G.entered.3
          ws all made (counts_in k) refl k G.counted vs w ew

      module _ (c : SortId) (K : Counts) (z : w ≡ At c K) where
        asked : Checked vs K.sorts K.entries × (c.0 < K.sorts) × (m ≤ 16) × AllBelow K.sorts (take m (sort_numbers ids))
        asked = law.function_asked ws₀ ns bs k₀ G.entered.0 x G.entered.1 s m g G.entered.2
            G.entered.3 ws all made (counts_in k) refl k G.counted vs w ew c K z

        pub function_asked : Checked vs K.sorts K.entries × (c.0 < K.sorts) × (length (take m ids) ≤ 16) × AllBelow K.sorts (sort_numbers (take m ids))
        function_asked = (
          asked.0,
          asked.1,
          omega (arith, length-take-le m ids (omega (arith, asked.2, G.stored)), asked.2),
          subst (AllBelow K.sorts) (sym (take_sort_numbers m ids)) asked.3,
        )

        pub function_made : (us : List ℕ) (v : Joined)
            → stored_at us v ≡ intern_at vs K.sorts K.entries (function (look_all (trees vs K.sorts) (sort_numbers (take m ids))) (look (trees vs K.sorts) c.0))
            → stored_at us v ≡ term_resolved ws₀ k₀ x (function_term ws₀ ns bs k₀ s m g)
        function_made us v f = law.function_made ws₀ ns bs k₀ G.entered.0 x G.entered.1 s m g G.entered.2
            G.entered.3 ws all made (counts_in k) refl k G.counted vs w ew c K z us v
            (f ∙ ap (λ l. intern_at vs K.sorts K.entries (function (look_all (trees vs K.sorts) l) (look (trees vs K.sorts) c.0))) (take_sort_numbers m ids))
