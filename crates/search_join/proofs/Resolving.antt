-- The loop over the sources. Its invariant: the sorts so far, and to resolve what is left from the lists now, is to resolve all of them from the lists
-- at entry. Each law answers a place of the code: its premises are the invariant and what the callees ensure there. Assumes nothing.
use mathlib.Core.Path.{◌≡◌, refl, sym, ◌∙◌, ap, subst}
use mathlib.Core.Bool.{Bool, true, false}
use mathlib.Core.List.{List, [], ◌∷◌, ◌++◌, append_assoc, append-nil}
use Prim.Native.Nat.{ℕ, ◌+◌, ◌-◌, ◌<◌, ◌≤◌}
use native.Mathlib.Omega.{arith}
use native.Mathlib.Numerals.{unary_clauses}
use lib.ListN.{length, take, set, length-set}
use Rattle.resolved_sort.specs.declared.SortId.{SortId}
use Rattle.resolved_sort.specs.declared.Run.{Run}
use Rattle.unification.specs.declared.Lengths.{Lengths}
use Rattle.std.specs.Prelude.{None as Nothing}
use Rattle.unification.specs.Nodes.{Binds, binds_of}
use Rattle.unification.specs.Checked.{Ready, Placed}
use Rattle.unification.specs.Making.{Lent, Makes, made, no_list, no_room, ◌and-then◌}
use Rattle.unification.specs.Inner.Making.{lent}
use Rattle.unification.specs.Growing.{PlacedIn}
use Rattle.unification.proofs.Grows.{ready_grown, placed_grown, same_binds}
use Rattle.unification.proofs.SortsLeft.{SortWith}
use Rattle.unification.proofs.ResolveAnswers.{AlwaysStandsFor}
use Rattle.inference.specs.Constraints.{rows_from}
use Rattle.inference.specs.Search.{resolve_in, resolve_all}
use Rattle.inference.specs.Inner.Listed.{SortsOnly}
use Rattle.inference.proofs.Invariant.{sorts_only_refl, sorts_only_trans}
use Rattle.inference.proofs.MakingSorts.{MadeSorts, NoDefault, resolve_makes}
use Rattle.std.specs.Prelude.{Option, Some, None, Result, Ok, Err}
use Rattle.resolved_sort.specs.declared.NoRoom.{NoRoom}
use Rattle.search_state.specs.Inner.Memory.{source_at}
use Rattle.search_state.specs.Inner.Leaves.{made_of, extracted_of}
use Rattle.search_join.specs.Inner.Sources.{Sources}
use Rattle.search_join.proofs.Lists.{one_more}
use Rattle.inference.proofs.Members.{each_row, run_one_left}

-- sorts before those that are made
abbrev before : List ℕ → Makes (List ℕ) → Makes (List ℕ)
before xs O = O and-then (λ ss W. made (xs ++ ss) W)

before_none : (O : Makes (List ℕ)) → before [] O ≡ O
before_none (made ss W) = refl
before_none (no_list W) = refl
before_none (no_room c W) = refl

before_one : (xs : List ℕ) (x : ℕ) (O : Makes (List ℕ)) → before (xs ++ (x ∷ [])) O ≡ before xs (O and-then (λ ss W. made (x ∷ ss) W))
before_one xs x (made ss W) = ap (λ ys. made ys W) (append_assoc xs (x ∷ []) ss)
before_one xs x (no_list W) = refl
before_one xs x (no_room c W) = refl

-- all sources, and those from the i-th on
abbrev all_of : Binds → List ℕ → ℕ → ℕ → Lent → Makes (List ℕ)
all_of B ls s m W = resolve_all Nothing B (rows_from (source_at ls) s m) W

-- before the i-th source; ₀ marks what was at entry
pub record Going (ns bs ls : List ℕ) (s m : ℕ) (ws₀ ids₀ : List ℕ) (k₀ : Lengths) (ws ids : List ℕ) (k : Lengths) (i : ℕ) : Type 0 where
  pub entered : Sources ws₀ ns bs ls ids₀ k₀ (record { start = s; count = m })
  pub within : i ≤ m
  pub many : length ids ≡ length ids₀
  pub grown : SortsOnly (lent ws₀ ns k₀) (lent ws ns k)
  pub same : before (take i ids) (all_of (binds_of bs k₀.variables) ls (s + i) (m - i) (lent ws ns k)) ≡ all_of
      (binds_of bs k₀.variables) ls s m (lent ws₀ ns k₀)

pub start : (ws ns bs ls ids : List ℕ) (k : Lengths) (run : Run) → Sources ws ns bs ls ids k run → Going ns bs ls run.start run.count ws ids k ws ids k 0
start ws ns bs ls ids k run e =
    record {
      entered = e;
      within = omega arith;
      many = refl;
      grown = sorts_only_refl (lent ws ns k) e.ready.nodes;
      same = simp unary_clauses (before_none (all_of (binds_of bs k.variables) ls run.start run.count (lent ws ns k)));
    }

module _ (ns bs ls : List ℕ) (s m : ℕ) (ws₀ ids₀ : List ℕ) (k₀ : Lengths) (ws ids : List ℕ) (k : Lengths) (i : ℕ)
    (G : Going ns bs ls s m ws₀ ids₀ k₀ ws ids k i) where
  abbrev W₀ : Lent
  W₀ = lent ws₀ ns k₀

  abbrev W : Lent
  W = lent ws ns k

  abbrev B : Binds
  B = binds_of bs k₀.variables

  pub as_long : length ws ≡ length ws₀
  as_long = G.grown.grows.as_long.0

  binds_now : binds_of bs k.variables ≡ B
  binds_now = same_binds W₀ G.entered.ready.nodes W G.grown.grows bs

  ready : Ready ws ns bs k
  ready = ready_grown W₀ W bs G.entered.ready G.grown.grows

  module _ (h : i < m) where
    module _ (p : ℕ) (e : p ≡ source_at ls (s + i)) where
      pub source_ready : Ready ws ns bs k × Placed k p
      source_ready = (
        ready,
        placed_grown W₀ G.entered.ready.nodes W G.grown.grows p (subst (PlacedIn W₀) (sym e)
            (each_row (PlacedIn W₀) (source_at ls) s m G.entered.placed i h)),
      )

      abbrev rest : ℕ → Lent → Makes (List ℕ)
      rest c U = all_of B ls (s + (i + 1)) (m - (i + 1)) U and-then (λ ss W. made (c ∷ ss) W)

      -- the first of what is left
      first : before (take i ids) (resolve_in Nothing (binds_of bs k.variables) p W and-then rest) ≡ all_of B ls s m W₀
      unfolding resolve_all
      first =
          ap (λ C. before (take i ids) (resolve_in Nothing C p W and-then rest)) binds_now
          ∙ (ap (λ q. before (take i ids) (resolve_in Nothing B q W and-then rest)) e
          ∙ (ap (λ ps. before (take i ids) (resolve_all Nothing B ps W)) (sym (run_one_left (source_at ls) s m i h)) ∙ G.same))

      module _ (vs : List ℕ) (l : Lengths) (r : Result (Option SortId) NoRoom)
          (er : made_of vs ns l r ≡ resolve_in Nothing (binds_of bs k.variables) p W) where
        by : (x : Result (Option SortId) NoRoom) → r ≡ x → before (take i ids) (made_of vs ns l x and-then rest) ≡ all_of B ls s m W₀
        by x z = ap (λ y. before (take i ids) (made_of vs ns l y and-then rest)) (sym z) ∙ (ap (λ O. before (take i ids) (O and-then rest)) er ∙ first)

        pub stops : r ≡ Ok None → extracted_of vs ns ids 0 m l (Ok false) ≡ all_of B ls s m W₀
        stops z = by (Ok None) z

        pub ends : (x : NoRoom) → r ≡ Err x → extracted_of vs ns ids 0 m l (Err x) ≡ all_of B ls s m W₀
        ends x z = by (Err x) z

        pub next : (c : SortId) → r ≡ Ok (Some c) → (xs : List ℕ) → xs ≡ set ids i c.0 → Going ns bs ls s m ws₀ ids₀ k₀ vs xs l (i + 1)
        unfolding MadeSorts
        next c z xs ex =
            record {
              entered = G.entered;
              within = omega (arith, h);
              many = ap length ex ∙ (length-set ids i c.0 ∙ G.many);
              grown = sorts_only_trans W₀ W (lent vs ns l) G.entered.ready.nodes G.grown made_sorts.0;
              same =
                  ap (λ ys. before ys (all_of B ls (s + (i + 1)) (m - (i + 1)) (lent vs ns l))) (ap (take (i + 1)) ex ∙
                  one_more ids i c.0 (omega (arith, G.many, G.entered.room, h)))
                  ∙ (before_one (take i ids) c.0 (all_of B ls (s + (i + 1)) (m - (i + 1)) (lent vs ns l)) ∙ by (Ok (Some c)) z);
            }
          where
            made_sorts : MadeSorts (SortWith (AlwaysStandsFor W (binds_of bs k.variables) Nothing p)) (NoDefault Nothing) W (made c.0 (lent vs ns l))
            made_sorts =
                subst (MadeSorts (SortWith (AlwaysStandsFor W (binds_of bs k.variables) Nothing p)) (NoDefault Nothing) W) (sym er ∙ ap (made_of vs ns l) z)
                (resolve_makes W ready.nodes (binds_of bs k.variables) ready.binds Nothing tt p source_ready.1)

  -- no source is left
  pub all_made : m ≤ i → extracted_of ws ns ids 0 m k (Ok true) ≡ all_of B ls s m W₀
  unfolding resolve_all rows_from
  all_made h =
      let at-end : m ≡ i = omega (arith, h, G.within) in
      let none_left : 0 ≡ m - i = omega (arith, h) in
      ap (λ (n : ℕ). made (take n ids) W) at-end
      ∙ (ap (λ xs. made xs W) (sym (append-nil (take i ids))) ∙ (ap (λ (n : ℕ). before (take i ids) (all_of B ls (s + i) n W)) none_left ∙ G.same))

-- of nodes, bindings and lists that are those at entry
pub as_entered : (ns ns' bs bs' ls ls' : List ℕ) → ns' ≡ ns → bs' ≡ bs → ls' ≡ ls → (s m : ℕ) (ws : List ℕ) (k : Lengths)
    (vs ids : List ℕ) (l : Lengths) (r : Result Bool NoRoom)
    → extracted_of vs ns' ids 0 m l r ≡ all_of (binds_of bs' k.variables) ls' s m (lent ws ns' k)
    → extracted_of vs ns ids 0 m l r ≡ all_of (binds_of bs k.variables) ls s m (lent ws ns k)
as_entered ns ns' bs bs' ls ls' p q o s m ws k vs ids l r x =
    subst (λ (ys : List ℕ). extracted_of vs ys ids 0 m l r ≡ all_of (binds_of bs k.variables) ls s m (lent ws ys k)) p
    (subst (λ (ys : List ℕ). extracted_of vs ns' ids 0 m l r ≡ all_of (binds_of ys k.variables) ls s m (lent ws ns' k)) q
    (subst (λ (ys : List ℕ). extracted_of vs ns' ids 0 m l r ≡ all_of (binds_of bs' k.variables) ys s m (lent ws ns' k)) o x))

pub going_as : (ns ns' bs bs' ls ls' : List ℕ) → ns' ≡ ns → bs' ≡ bs → ls' ≡ ls → (s m : ℕ) (ws₀ ids₀ : List ℕ) (k₀ : Lengths) (ws ids : List ℕ)
    (k : Lengths) (i : ℕ) → Going ns bs ls s m ws₀ ids₀ k₀ ws ids k i → Going ns' bs' ls' s m ws₀ ids₀ k₀ ws ids k i
going_as ns ns' bs bs' ls ls' p q o s m ws₀ ids₀ k₀ ws ids k i G = rw (p, q, o) G
