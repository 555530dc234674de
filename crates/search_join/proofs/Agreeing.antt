-- Sorts that agree: their join, if each is materializable into it, and their head distances in the scratch. Then the sources, resolved and agreed. Each
-- law answers a place of the code: its premises are what the callees ensure there. Assumes nothing.
use mathlib.Core.Path.{◌≡◌, refl, sym, ◌∙◌, ap, subst}
use mathlib.Core.Bool.{Bool, true, false, cond}
use mathlib.Core.List.{List, [], ◌∷◌, ◌++◌, append_assoc}
use Prim.Native.Nat.{ℕ, suc, ◌+◌, ◌<◌, ◌≤◌}
use native.Mathlib.Omega.{arith}
use lib.ListN.{length, take, drop, set, replicate}
use lib.Seq.{sets, length-sets, sets-eq, length-take-le, take-set-le, drop-set-lt, take_at, drop_at}
use Rattle.resolved_sort.specs.declared.SortId.{SortId}
use Rattle.resolved_sort.specs.declared.Run.{Run}
use Rattle.resolved_sort.specs.Rows.{AllBelow}
use Rattle.resolved_sort.proofs.SortNumbers.{length_sort_numbers}
use Rattle.resolved_sort.proofs.RowTrees.{weaken_all}
use Rattle.resolved_sort.specs.Inner.Storage.{sort_numbers}
use Rattle.unification.specs.declared.Lengths.{Lengths}
use Rattle.std.specs.Prelude.{None as Nothing}
use Rattle.unification.specs.Nodes.{Binds, binds_of}
use Rattle.unification.specs.Making.{Lent, Makes, made, no_list, ◌and-then◌}
use Rattle.unification.specs.Inner.Making.{lent}
use Rattle.unification.proofs.StandsAlike.{length_each}
use Rattle.inference.specs.Constraints.{max_sources, max_components, rows_from}
use Rattle.inference.specs.Search.{Agreed, resolve_all, join_all, all_into, agreed_by, agreed, join_of}
use Rattle.inference.proofs.Invariant.{sorts_only_refl}
use Rattle.inference.proofs.MakingSorts.{MadeSorts, NoDefault, StandAll, stand_below, resolve_all_makes}
use Rattle.search_state.specs.declared.Branch.{Branch}
use Rattle.std.specs.Prelude.{Option, Some, None, Result, Ok, Err}
use Rattle.resolved_sort.specs.declared.NoRoom.{NoRoom}
use Rattle.search_state.specs.Inner.Memory.{source_at, measure_at, scratch_used}
use Rattle.words.specs.Words.{part}
use Rattle.search_state.specs.Inner.Leaves.{ChangedOnly, made_of, AgreesOn, extracted_of}
use Rattle.search_state.specs.Inner.Searching.{Agreeing}
use Rattle.search_join.specs.Inner.Sources.{Sources, Resolved}
use Rattle.search_join.proofs.Joining.{LeavesSort, joins_leave}
use Rattle.search_join.proofs.Heads.{head_to, heads_to}

-- words stored from a on
take_sets : (vs l : List ℕ) (n i : ℕ) → n ≤ i → take n (sets l i vs) ≡ take n l
take_sets [] l n i h = refl
take_sets (v ∷ vs) l n i h = take_sets vs (set l i v) n (suc i) (omega (arith, h)) ∙ take-set-le n l i v h

drop_sets : (vs l : List ℕ) (n i : ℕ) → i + length vs ≤ n → drop n (sets l i vs) ≡ drop n l
drop_sets [] l n i h = refl
drop_sets (v ∷ vs) l n i h = drop_sets vs (set l i v) n (suc i) (omega (arith, h)) ∙ drop-set-lt n l i v (omega (arith, h))

part_sets : (vs l : List ℕ) (a n : ℕ) → length vs ≡ n → a + n ≤ length l → part a n (sets l a vs) ≡ vs
part_sets vs l a n e h =
    ap (part a n) (sets-eq vs l a (omega (arith, e, h)) ∙ append_assoc (take a l) vs (drop (a + length vs) l))
    ∙ (ap (take n) (drop_at (take a l) (vs ++ drop (a + length vs) l) a (length-take-le a l (omega (arith, h)))) ∙ take_at vs (drop (a + length vs) l) n e)

stored_changes_only : (vs l : List ℕ) (a n : ℕ) → length vs ≡ n → ChangedOnly a (a + n) l (sets l a vs)
stored_changes_only vs l a n e = record {
  front = take_sets vs l a a (omega arith);
  back = drop_sets vs l (a + n) a
      (omega (arith, e));
  long = length-sets l a vs;
}

unchanged : (l : List ℕ) (a b : ℕ) → ChangedOnly a b l l
unchanged l a b = record { front = refl; back = refl; long = refl }

-- no sorts
pub nothing_agrees : (ws : List ℕ) (k : Lengths) (sc : List ℕ) (e : Branch) (m : ℕ) (ids : List ℕ) → ids ≡ []
    → (ns : List ℕ) → AgreesOn ns sc e m (agreed ids (lent ws ns k)) ws sc k (Ok None)
unfolding agreed
nothing_agrees ws k sc e m ids z ns = record {
  says = ap (λ (xs : List ℕ). agreed xs (lent ws ns k)) (sym z);
  changed = unchanged sc (measure_at + e.measure) (measure_at + e.measure + m);
}

-- a sort and the rest
module _ (ws : List ℕ) (k : Lengths) (first : ℕ) (rest ids : List ℕ) (listed : ids ≡ first ∷ rest) (sc : List ℕ) (e : Branch) (m : ℕ)
    (asked : Resolved ws k ids) where
  pub all_asked : Resolved ws k (first ∷ rest)
  all_asked = subst (Resolved ws k) listed asked

  abbrev by_join : Makes ℕ → Makes Agreed
  by_join O = O and-then (λ j U. agreed_by U ids j)

  agreed_first : (W : Lent) → by_join (join_all first rest W) ≡ agreed ids W
  unfolding agreed
  agreed_first W = ap (λ ss. join_all first rest W and-then (λ j U. agreed_by U ss j)) listed ∙ ap (λ ss. agreed ss W) (sym listed)

  module _ (vs : List ℕ) (l : Lengths) (r : Result (Option SortId) NoRoom) (er : (ns : List ℕ) → made_of vs ns l r ≡ join_all first rest (lent ws ns k)) where
    by : (x : Result (Option SortId) NoRoom) → r ≡ x → (ns : List ℕ) → by_join (made_of vs ns l x) ≡ agreed ids (lent ws ns k)
    by x z ns = ap (λ y. by_join (made_of vs ns l y)) (sym z) ∙ (ap by_join (er ns) ∙ agreed_first (lent ws ns k))

    pub join_stops : r ≡ Ok None → (ns : List ℕ) → AgreesOn ns sc e m (agreed ids (lent ws ns k)) vs sc l (Ok None)
    join_stops z ns = record { says = by (Ok None) z ns; changed = unchanged sc (measure_at + e.measure) (measure_at + e.measure + m) }

    pub join_ends : (x : NoRoom) → r ≡ Err x → (ns : List ℕ) → AgreesOn ns sc e m (agreed ids (lent ws ns k)) vs sc l (Err x)
    join_ends x z ns = record { says = by (Err x) z ns; changed = unchanged sc (measure_at + e.measure) (measure_at + e.measure + m) }

    module _ (c : SortId) (z : r ≡ Ok (Some c)) where
      left : LeavesSort (lent ws [] k) (made c.0 (lent vs [] l))
      unfolding AllBelow
      left =
          subst (LeavesSort (lent ws [] k)) (sym (er []) ∙ ap (made_of vs [] l) z)
          (joins_leave rest (lent ws [] k) first all_asked.checked all_asked.below.0 all_asked.below.1)

      pub still_resolved : Resolved vs l ids × (c.0 < l.sorts)
      still_resolved = (record { checked = left.0; below = weaken_all k.sorts l.sorts ids left.2 asked.below }, left.1)

      module _ (b : Bool) (eb : (ns : List ℕ) → b ≡ all_into (lent vs ns l) c.0 ids) where
        abbrev heads : List ℕ
        heads = heads_to vs l.sorts c.0 ids

        by_test : (x : Bool) → b ≡ x → (ns : List ℕ) → cond x (made (record { sort = c.0; components = heads })
            (lent vs ns l)) (no_list (lent vs ns l)) ≡ agreed ids (lent ws ns k)
        by_test x f ns =
            ap (λ y. cond y (made (record { sort = c.0; components = heads }) (lent vs ns l)) (no_list (lent vs ns l))) (sym f ∙ eb ns) ∙ by (Ok (Some c)) z ns

        pub not_materializable : b ≡ false → (ns : List ℕ) → AgreesOn ns sc e m (agreed ids (lent ws ns k)) vs sc l (Ok None)
        not_materializable f ns = record { says = by_test false f ns; changed = unchanged sc (measure_at + e.measure) (measure_at + e.measure + m) }

        pub they_agree : b ≡ true → length ids ≡ m → (scratch_used ≤ length sc) × (e.measure + m ≤ max_components)
            → (sc' : List ℕ) → sc' ≡ sets sc (measure_at + e.measure) heads
            → (ns : List ℕ) → AgreesOn ns sc e m (agreed ids (lent ws ns k)) vs sc' l (Ok (Some c))
        they_agree f n room sc' es ns =
            let many : length heads ≡ m = length_each (head_to vs l.sorts c.0) ids ∙ n in
            record {
              says =
                  ap (λ cs. made (record { sort = c.0; components = cs }) (lent vs ns l))
                  (ap (part (measure_at + e.measure) m) es ∙ part_sets heads sc (measure_at + e.measure) m many (omega (arith, room.0, room.1)))
                  ∙ by_test true f ns;
              changed = subst (ChangedOnly (measure_at + e.measure) (measure_at + e.measure + m) sc) (sym es)
                  (stored_changes_only heads sc (measure_at + e.measure) m many);
            }

-- The sources of a Join.
module _ (ws ns bs sc ls : List ℕ) (k : Lengths) (e : Branch) (run : Run) (asked : Agreeing ws ns bs sc ls k e run) where
  abbrev W : Lent
  W = lent ws ns k

  abbrev B : Binds
  B = binds_of bs k.variables

  abbrev ps : List ℕ
  ps = rows_from (source_at ls) run.start run.count

  module _ (vs ids : List ℕ) (l : Lengths) (r : Result Bool NoRoom) (er : extracted_of vs ns ids 0 run.count l r ≡ resolve_all Nothing B ps W) where
    by_sources : (x : Result Bool NoRoom) → r ≡ x → extracted_of vs ns ids 0 run.count l x and-then agreed ≡ join_of B ps W
    unfolding join_of
    by_sources x z = ap (λ O. O and-then agreed) (ap (extracted_of vs ns ids 0 run.count l) (sym z) ∙ er)

    pub sources_stop : r ≡ Ok false → AgreesOn ns sc e run.count (join_of B ps W) vs sc l (Ok None)
    sources_stop z = record { says = by_sources (Ok false) z; changed = unchanged sc (measure_at + e.measure) (measure_at + e.measure + run.count) }

    pub sources_end : (x : NoRoom) → r ≡ Err x → AgreesOn ns sc e run.count (join_of B ps W) vs sc l (Err x)
    sources_end x z = record { says = by_sources (Err x) z; changed = unchanged sc (measure_at + e.measure) (measure_at + e.measure + run.count) }

    module _ (z : r ≡ Ok true) (us : List ℕ) (eu : us ≡ take run.count ids) where
      pub resolved : Resolved vs l us
      unfolding MadeSorts
      resolved =
          record {
            checked = made_sorts.0.grows.checked.sorts;
            below = subst (AllBelow l.sorts) (sym eu) (stand_below W B Nothing (lent vs ns l) ps (take run.count ids) made_sorts.1);
          }
        where
          made_sorts : MadeSorts (λ U ss. StandAll W B Nothing U ps ss) (NoDefault Nothing) W (made (take run.count ids) (lent vs ns l))
          made_sorts =
              subst (MadeSorts (λ U ss. StandAll W B Nothing U ps ss) (NoDefault Nothing) W) (sym er ∙ ap (extracted_of vs ns ids 0 run.count l) z)
              (resolve_all_makes W asked.ready.nodes B asked.ready.binds Nothing tt ps asked.placed W (sorts_only_refl W asked.ready.nodes))

      pub sources_agree : (n : ℕ) → n ≡ run.count → (vs' sc' : List ℕ) (l' : Lengths) (x : Result (Option SortId) NoRoom)
          → ((os : List ℕ) → AgreesOn os sc e n (agreed us (lent vs os l)) vs' sc' l' x)
          → AgreesOn ns sc e run.count (join_of B ps W) vs' sc' l' x
      sources_agree n en vs' sc' l' x a = subst (λ O. AgreesOn ns sc e run.count O vs' sc' l' x) (by_sources (Ok true) z) (subst (λ (j : ℕ). AgreesOn ns sc e j (agreed (take run.count ids) (lent vs ns l)) vs' sc' l' x) en
          (subst (λ (xs : List ℕ). AgreesOn ns sc e n (agreed xs (lent vs ns l)) vs' sc' l' x) eu (a ns)))

-- the same, from the words left as they were
pub of_scratch : (sc sc' : List ℕ) → sc' ≡ sc → (ns : List ℕ) (e : Branch) (n : ℕ) (O : Makes Agreed) (ws' : List ℕ) (k' : Lengths)
    (r : Result (Option SortId) NoRoom) → AgreesOn ns sc e n O ws' sc k' r → AgreesOn ns sc e n O ws' sc' k' r
of_scratch sc sc' p ns e n O ws' k' r a = rw p a

-- the sorts of a slice by their numbers
pub none_listed : (ids : List SortId) → length ids ≡ 0 → sort_numbers ids ≡ []
unfolding sort_numbers
none_listed [] e = refl
none_listed (s ∷ ss) e = absurd (omega (arith, e))

pub first_listed : (ids : List SortId) (s : SortId) (ss : List SortId) → ids ≡ s ∷ ss → sort_numbers ids ≡ s.0 ∷ sort_numbers ss
unfolding sort_numbers
first_listed ids s ss e = ap sort_numbers e

pub so_many : (n : ℕ) (ids : List SortId) → n ≤ length ids → length (take n ids) ≡ n
so_many n ids l = length-take-le n ids l

-- room for every source's number
pub room_for_all : (ws ns bs sc ls : List ℕ) (k : Lengths) (e : Branch) (run : Run) → Agreeing ws ns bs sc ls k e run
    → Sources ws ns bs ls (sort_numbers (replicate max_sources (record { 0 = 0 }))) k run
room_for_all ws ns bs sc ls k e run a =
    record {
      ready = a.ready;
      placed = a.placed;
      inside = a.inside;
      room = omega (arith, a.inside, length_sort_numbers (replicate max_sources (record { 0 = 0 })));
    }
