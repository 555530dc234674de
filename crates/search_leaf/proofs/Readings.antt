-- The sorts of the expressions, read out one after another. The loop's invariant: to read all from the lists at entry is to read those that are left from the
-- lists now, after those that stand in the words already; and the lists have grown by sorts only. Assumes nothing.
use mathlib.Core.Path.{◌≡◌, refl, sym, ap, subst, ◌∙◌}
use mathlib.Core.Bool.{Bool, true, false}
use mathlib.Core.List.{List, [], ◌∷◌, ◌++◌, append_assoc, append-nil}
use Prim.Native.Nat.{ℕ, suc, ◌+◌, ◌-◌, ◌<◌, ◌≤◌}
use native.Mathlib.Numerals.{add-one, unary_clauses}
use native.Mathlib.Omega.{arith}
use lib.ListN.{length, set}
use Rattle.resolved_sort.specs.declared.SortId.{SortId}
use Rattle.unification.specs.declared.Lengths.{Lengths}
use Rattle.std.specs.Prelude.{Option, Some as Is, None}
use Rattle.unification.specs.Nodes.{Binds, binds_of}
use Rattle.unification.specs.Checked.{Ready, Placed}
use Rattle.unification.specs.Making.{Lent, Makes, made, no_list, no_room, ◌and-then◌}
use Rattle.unification.specs.Inner.Making.{lent}
use Rattle.unification.proofs.Grows.{placed_grown, ready_grown, same_binds}
use Rattle.unification.proofs.SortsLeft.{SortWith}
use Rattle.unification.proofs.ResolveAnswers.{AlwaysStandsFor}
use Rattle.inference.specs.Constraints.{rows_from}
use Rattle.inference.specs.Search.{resolve_in, resolve_all}
use Rattle.inference.proofs.Members.{each_row_at}
use Rattle.inference.specs.Inner.Listed.{SortsOnly}
use Rattle.inference.proofs.Invariant.{sorts_only_refl, sorts_only_trans}
use Rattle.inference.proofs.MakingSorts.{MadeSorts, resolve_makes}
use Rattle.std.specs.Prelude.{Result, Ok, Err}
use Rattle.resolved_sort.specs.declared.NoRoom.{NoRoom}
use Rattle.search_state.specs.Inner.Memory.{expr_at, best_sorts_at}
use Rattle.words.specs.Words.{part}
use Rattle.search_state.specs.Inner.Leaves.{ChangedOnly, Extracts, made_of}
use Rattle.search_state.proofs.Parts.{changed_none, changed_then, changed_by_set}
use Rattle.words.proofs.Parts.{part_set_end}
use Rattle.search_leaf.specs.Inner.Leaf.{Readable, sorts_from}

-- before the i-th expression; ₀ marks what was at entry
pub record Extracting (ns bs ls : List ℕ) (d : SortId) (n : ℕ) (ws₀ sc₀ : List ℕ) (k₀ : Lengths) (ws sc : List ℕ) (k : Lengths) (i : ℕ) : Type 0 where
  pub entered : Readable ws₀ ns bs sc₀ ls d n k₀
  pub within : i ≤ n
  pub only : SortsOnly (lent ws₀ ns k₀) (lent ws ns k)
  pub changed : ChangedOnly best_sorts_at (best_sorts_at + n) sc₀ sc
  pub same : sorts_from bs ls d i (n - i) (lent ws ns k) and-then (λ ss W. made (part best_sorts_at i sc ++ ss) W) ≡ sorts_from bs ls d 0 n (lent ws₀ ns k₀)

nothing_before : (O : Makes (List ℕ)) → O and-then (λ ss W. made ([] ++ ss) W) ≡ O
nothing_before (made ss W) = refl
nothing_before (no_list W) = refl
nothing_before (no_room c W) = refl

one_before : (xs ys : List ℕ) (s : ℕ) → ys ≡ xs ++ (s ∷ []) → (O : Makes (List ℕ))
    → O and-then (λ ss W. made (ys ++ ss) W) ≡ (O and-then (λ ss W. made (s ∷ ss) W)) and-then
    (λ ss W. made (xs ++ ss) W)
one_before xs ys s e (made ss W) = ap (λ (zs : List ℕ). made zs W) (ap (λ (zs : List ℕ). zs ++ ss) e ∙ append_assoc xs (s ∷ []) ss)
one_before xs ys s e (no_list W) = refl
one_before xs ys s e (no_room c W) = refl

pub start : (ws ns bs sc ls : List ℕ) (d : SortId) (n : ℕ) (k : Lengths) → Readable ws ns bs sc ls d n k → Extracting ns bs ls d n ws sc k ws sc k 0
start ws ns bs sc ls d n k p =
    record {
      entered = p;
      within = omega arith;
      only = sorts_only_refl (lent ws ns k) p.ready.nodes;
      changed = changed_none best_sorts_at (best_sorts_at + n) sc;
      same = simp unary_clauses (nothing_before (sorts_from bs ls d 0 n (lent ws ns k)));
    }

module _ (ns bs ls : List ℕ) (d : SortId) (n : ℕ) (ws₀ sc₀ : List ℕ) (k₀ : Lengths) (ws sc : List ℕ) (k : Lengths)
    (i : ℕ) (G : Extracting ns bs ls d n ws₀ sc₀ k₀ ws sc k i) where
  abbrev W₀ : Lent
  W₀ = lent ws₀ ns k₀

  abbrev W : Lent
  W = lent ws ns k

  abbrev whole : Makes (List ℕ)
  whole = sorts_from bs ls d 0 n W₀

  abbrev B : Binds
  B = binds_of bs k.variables

  ready : Ready ws ns bs k
  ready = ready_grown W₀ W bs G.entered.ready G.only.grows

  default : d.0 < k.sorts
  default = omega (arith, G.entered.default, G.only.grows.sorts)

  pub scratch_long : length sc ≡ length sc₀
  scratch_long = G.changed.long

  module _ (h : i < n) (p : ℕ) (ep : p ≡ expr_at ls i) where
    placed : Placed k p
    placed =
        subst (Placed k) (sym ep) (placed_grown W₀ G.entered.ready.nodes W G.only.grows (expr_at ls i)
        (each_row_at (Placed k₀) (expr_at ls) n G.entered.placed i h))

    pub asked : Ready ws ns bs k × (d.0 < k.sorts) × Placed k p
    asked = (ready, default, placed)

    module _ (vs : List ℕ) (l : Lengths) (r : Result (Option SortId) NoRoom) (er : made_of vs ns l r ≡ resolve_in (Is d) B p W) where
      abbrev rest : Lent → Makes (List ℕ)
      rest W = resolve_all (Is d) B (rows_from (expr_at ls) (i + 1) (n - (i + 1))) W

      -- the first of those left, then the rest
      abbrev after_first : Makes ℕ → Makes (List ℕ)
      after_first O = (O and-then (λ s W. rest W and-then (λ ss W. made (s ∷ ss) W))) and-then (λ ss W. made (part best_sorts_at i sc ++ ss) W)

      on : after_first (made_of vs ns l r) ≡ whole
      unfolding resolve_all rows_from
      on =
          let e : n - i ≡ suc (n - (i + 1)) = omega (arith, h) in
          ap after_first (er ∙ ap (λ (q : ℕ). resolve_in (Is d) B q W) ep)
          ∙ (ap (λ (m : ℕ). sorts_from bs ls d i m W and-then (λ ss W. made (part best_sorts_at i sc ++ ss) W)) (sym e) ∙ G.same)

      by : (x : Result (Option SortId) NoRoom) → r ≡ x → after_first (made_of vs ns l x) ≡ whole
      by x z = ap (λ (y : Result (Option SortId) NoRoom). after_first (made_of vs ns l y)) (sym z) ∙ on

      pub stops : r ≡ Ok None → Extracts ns sc₀ best_sorts_at n whole vs sc l (Ok false)
      stops z = record { says = by (Ok None) z; changed = G.changed }

      pub ends : (x : NoRoom) → r ≡ Err x → Extracts ns sc₀ best_sorts_at n whole vs sc l (Err x)
      ends x z = record { says = by (Err x) z; changed = G.changed }

      pub next : (c : SortId) → r ≡ Ok (Is c) → (sc' : List ℕ) → sc' ≡ set sc (best_sorts_at + i) c.0
          → Extracting ns bs ls d n ws₀ sc₀ k₀ vs sc' l (i + 1)
      unfolding MadeSorts
      next c z sc' es = subst (λ (ys : List ℕ). Extracting ns bs ls d n ws₀ sc₀ k₀ vs ys l (i + 1)) (sym es) there
        where
          only : SortsOnly W (lent vs ns l)
          only =
              (subst (MadeSorts (SortWith (AlwaysStandsFor W B (Is d) p)) ⊥ W) (sym er ∙ ap (made_of vs ns l) z)
              (resolve_makes W ready.nodes B ready.binds (Is d) default p placed)).0

          last : part best_sorts_at (i + 1) (set sc (best_sorts_at + i) c.0) ≡ part best_sorts_at i sc ++ (c.0 ∷ [])
          last = ap (λ (j : ℕ). part best_sorts_at j (set sc (best_sorts_at + i) c.0)) (add-one i) ∙ part_set_end
              best_sorts_at i sc c.0 (omega (arith, h, G.entered.few, G.entered.long, scratch_long))

          there : Extracting ns bs ls d n ws₀ sc₀ k₀ vs (set sc (best_sorts_at + i) c.0) l (i + 1)
          there =
              record {
                entered = G.entered;
                within = omega (arith, h);
                only = sorts_only_trans W₀ W (lent vs ns l) G.entered.ready.nodes G.only only;
                changed =
                    changed_then best_sorts_at (best_sorts_at + n) sc₀ sc (set sc (best_sorts_at + i) c.0) G.changed
                    (changed_by_set best_sorts_at (best_sorts_at + n) sc (best_sorts_at + i) c.0 (omega arith)
                    (omega (arith, h)));
                same =
                    ap (λ (C : Binds). resolve_all (Is d) C (rows_from (expr_at ls) (i + 1) (n - (i + 1))) (lent vs ns l) and-then
                    (λ ss U. made (part best_sorts_at (i + 1) (set sc (best_sorts_at + i) c.0) ++ ss) U)) (same_binds W ready.nodes (lent vs ns l) only.grows bs)
                    ∙ (one_before (part best_sorts_at i sc) (part best_sorts_at (i + 1) (set sc (best_sorts_at + i) c.0))
                    c.0 last (rest (lent vs ns l))
                    ∙ by (Ok (Is c)) z);
              }

  pub all_read : n ≤ i → Extracts ns sc₀ best_sorts_at n whole ws sc k (Ok true)
  unfolding resolve_all rows_from
  all_read h =
      let e : n - i ≡ 0 = omega (arith, h) in
      let f : n ≡ i = omega (arith, h, G.within) in
      record {
        says =
            ap (λ (j : ℕ). made (part best_sorts_at j sc) W) f
            ∙ (ap (λ (xs : List ℕ). made xs W) (sym (append-nil (part best_sorts_at i sc)))
            ∙ (ap (λ (m : ℕ). sorts_from bs ls d i m W and-then (λ ss W. made (part best_sorts_at i sc ++ ss) W)) (sym e) ∙ G.same));
        changed = G.changed;
      }

-- of nodes, bindings and lists that are those at entry
pub as_entered : (ns ns' bs bs' ls ls' : List ℕ) → ns' ≡ ns → bs' ≡ bs → ls' ≡ ls → (sc : List ℕ) (d : SortId) (n : ℕ)
    (ws : List ℕ) (k : Lengths) (ws' sc' : List ℕ) (k' : Lengths) (r : Result Bool NoRoom)
    → Extracts ns' sc best_sorts_at n (sorts_from bs' ls' d 0 n (lent ws ns' k)) ws' sc' k' r
    → Extracts ns sc best_sorts_at n (sorts_from bs ls d 0 n (lent ws ns k)) ws' sc' k' r
as_entered ns ns' bs bs' ls ls' p q o sc d n ws k ws' sc' k' r x =
    subst (λ (ys : List ℕ). Extracts ys sc best_sorts_at n (sorts_from bs ls d 0 n (lent ws ys k)) ws' sc' k' r) p
    (subst (λ (ys : List ℕ). Extracts ns' sc best_sorts_at n (sorts_from ys ls d 0 n (lent ws ns' k)) ws' sc' k' r) q
    (subst (λ (ys : List ℕ). Extracts ns' sc best_sorts_at n (sorts_from bs' ys d 0 n (lent ws ns' k)) ws' sc' k' r) o x))

pub going_as : (ns ns' bs bs' ls ls' : List ℕ) → ns' ≡ ns → bs' ≡ bs → ls' ≡ ls → (d : SortId) (n : ℕ) (ws₀ sc₀ : List ℕ) (k₀ : Lengths)
    (ws sc : List ℕ) (k : Lengths) (i : ℕ) → Extracting ns bs ls d n ws₀ sc₀ k₀ ws sc k i → Extracting ns' bs' ls' d n ws₀ sc₀ k₀ ws sc k i
going_as ns ns' bs bs' ls ls' p q o d n ws₀ sc₀ k₀ ws sc k i G = rw (p, q, o) G

-- from the words left as they were
pub of_scratch : (sc sc' : List ℕ) → sc' ≡ sc → (ns sc₀ : List ℕ) (a n : ℕ) (O : Makes (List ℕ)) (ws' : List ℕ) (k' : Lengths)
    (r : Result Bool NoRoom) → Extracts ns sc₀ a n O ws' sc k' r → Extracts ns sc₀ a n O ws' sc' k' r
of_scratch sc sc' p ns sc₀ a n O ws' k' r x = rw p x
