-- The readings of a comprehension, as its code goes: a container interned, two pairs of places made equal, and on to the next reading. By one branch after
-- another, and by what interning leaves of the lists. Assumes nothing.
use mathlib.Core.Path.{◌≡◌, refl, sym, ap, ap₂, ◌∙◌, subst}
use mathlib.Core.Bool.{Bool, true, false, ◌||◌}
use mathlib.Core.List.{List, [], ◌∷◌}
use lib.ListN.{get_or}
use Rattle.resolved_sort.specs.declared.ComplexSort.{ComplexSort}
use Rattle.solver.specs.declared.Reading.{Reading as ReadingRow}
use Prim.Native.Nat.{ℕ, zero, suc, ◌+◌, ◌<◌, ◌≤◌}
use native.Mathlib.Omega.{arith}
use Rattle.unification.specs.declared.InferSortId.{InferSortId}
use Rattle.unification.specs.declared.Lengths.{Lengths}
use Rattle.unification.specs.Nodes.{binds_of}
use Rattle.unification.specs.Checked.{Placed}
use Rattle.unification.specs.Making.{Lent, intern_container}
use Rattle.unification.specs.Inner.Making.{lent}
use Rattle.unification.specs.Growing.{CheckedLent}
use Rattle.unification.proofs.Grows.{placed_grown}
use Rattle.inference.specs.Constraints.{Problem}
use Rattle.inference.specs.Search.{Path, World, Out, missed, Going, Reading, on_made, and_also, says, unifying, every_reading, with_binds}
use Rattle.inference.specs.SolveEntry.{nothing_met}
use Rattle.inference.specs.Inner.Listed.{SortsOnly}
use Rattle.search_state.specs.declared.Sizes.{Sizes}
use Rattle.search_state.specs.Inner.States.{State}
use Rattle.search_state.specs.declared.Branch.{Branch}
use Rattle.search_state.specs.Inner.States.{Answer}
use Rattle.search_state.specs.Inner.States.{Full}
use Rattle.search_state.specs.declared.Next.{Next}
use Rattle.resolved_sort.specs.declared.SortId.{SortId}
use Rattle.resolved_sort.specs.declared.NoRoom.{NoRoom}
use Rattle.std.specs.Prelude.{Result, Ok, Err}
use Rattle.search_state.specs.declared.Pairs.TheVariants.{Two}
use Rattle.search_state.specs.declared.Step.TheVariants.{Nothing}
use Rattle.search_state.specs.Inner.Memory.{problem_in, path_of, world_of, next_of}
use Rattle.search_state.specs.Inner.Leaves.{PairsPlaced, path_after, says_of, with_lengths}
use Rattle.search_state.specs.Inner.Searching.{Searching, Done, Comes, trying}
use Rattle.search_state.proofs.Parts.{same_path_refl}
use Rattle.search_state.proofs.After.{searching_grown, misses, finds, done_as, done_after, and_stops, and_comes, grown_on}
use Rattle.search_state.proofs.Ways.{two_pairs, container_is_sort, no_room_for_container_is_15}
use Rattle.search_steps.specs.Inner.Steps.{interned_of, InternsContainer}
use Rattle.solver.specs.Inner.Asked.{reading_body, reading_op, reading_at, readings_from}
use Rattle.solver.proofs.Ways.{sort_placed, fixed_placed}
use Rattle.inference.proofs.Members.{rows_one_left, rows_none_left}

-- whether a leaf was found so far
pub says_so : (ls : List ℕ) (z : Sizes) (ws ns bs sc : List ℕ) (k : State) (e : Branch)
    → CheckedLent (lent ws ns k.lengths) → (b : Bool) (r : Answer) → r ≡ says_of b k
    → Done ls z ws ns bs sc k e (says b (world_of ls z ws ns sc k)) ws ns bs sc r
says_so ls z ws ns bs sc k e c b r q = subst (Done ls z ws ns bs sc k e (says b (world_of ls z ws ns sc k)) ws ns bs sc) (sym q) (go b)
  where
    go : (b : Bool) → Done ls z ws ns bs sc k e (says b (world_of ls z ws ns sc k)) ws ns bs sc (says_of b k)
    go true = finds ls z ws ns bs sc k e c
    go false = misses ls z ws ns bs sc k e c

module _ (ls : List ℕ) (z : Sizes) (ws ns bs sc : List ℕ) (k : State) (e : Branch) (body node : InferSortId) (element : SortId) (i : ℕ) (b : Bool) (next : Next)
    (S : Searching ws ns bs sc ls z k e 0 [] next) (hb : Placed k.lengths body.0) (hn : Placed k.lengths
    node.0) (he : element.0 < k.lengths.sorts) where
  abbrev P : Problem
  P = problem_in ls z

  abbrev W : Lent
  W = lent ws ns k.lengths

  abbrev path : Path
  path = path_of ls z (binds_of bs k.lengths.variables) sc e

  abbrev w : World (Unit {0})
  w = world_of ls z ws ns sc k

  abbrev rest : List Reading → Bool → Going (Unit {0}) nothing_met P
  rest rs b = every_reading (Unit {0}) nothing_met P rs body.0 node.0 element.0 b (next_of ls z next)

  abbrev goal : Going (Unit {0}) nothing_met P
  goal = rest (readings_from i) b

  pub readings_done : 3 ≤ i → (r : Answer) → r ≡ says_of b k → Comes ls z ws ns bs sc k e goal ws ns bs sc r
  unfolding every_reading
  readings_done l r q =
      done_as ls z ws ns bs sc k e S.ready.nodes _ _ ws ns bs sc r (sym (ap (λ rs. rest rs b path w) (rows_none_left reading_at 3 i l)))
      (says_so ls z ws ns bs sc k e S.ready.nodes b r q)

  module _ (l : i < 3) (ws₁ : List ℕ) (x : Lengths) (m : Result SortId NoRoom)
      (o : InternsContainer (reading_op i) element.0 ws k.lengths ws₁ x m) where
    interned : interned_of ws₁ ns x m ≡ intern_container (reading_op i) element.0 W
    unfolding InternsContainer
    interned = o ns

    -- the reading, by what was interned
    abbrev reads : ℕ → World (Unit {0}) → Out (Unit {0})
    reads s v =
        and_also (unifying path.binds body.0 (reading_body i) (λ C. unifying C node.0 s (λ D. next_of ls z next
        (with_binds path D))) v) b (λ b. rest (readings_from (i + 1)) b path)

    by_made : on_made (interned_of ws₁ ns x m) reads missed w ≡ goal path w
    unfolding every_reading
    by_made = ap (λ y. on_made y reads missed w) interned ∙ sym (ap (λ rs. rest rs b path w) (rows_one_left reading_at 3 i l))

    pub readings_full : (n : NoRoom) → m ≡ Err n → Comes ls z ws ns bs sc k e goal ws₁ ns bs sc (Full 15 x)
    readings_full n q =
        record {
          says = sym (ap (λ y. on_made (interned_of ws₁ ns x y) reads missed w) q) ∙ by_made;
          grown = (no_room_for_container_is_15 W S.ready.nodes (reading_op i) element.0 he 15 (lent ws₁ ns x) (sym interned ∙ ap (interned_of ws₁ ns x) q)).1;
          binds = refl;
          path = same_path_refl e sc;
        }

    module _ (s : SortId) (q : m ≡ Ok s) (k₁ : State) (u : k₁ ≡ with_lengths k x) where
      is_sort : SortsOnly W (lent ws₁ ns x) × (s.0 < x.sorts)
      is_sort = container_is_sort W S.ready.nodes (reading_op i) element.0 he s.0 (lent ws₁ ns x) (sym interned ∙ ap (interned_of ws₁ ns x) q)

      grown : SortsOnly W (lent ws₁ ns k₁.lengths)
      grown = subst (λ (y : State). SortsOnly W (lent ws₁ ns y.lengths)) (sym u) is_sort.0

      pub reading_asked : Searching ws₁ ns bs sc ls z k₁ e 0 [] next
      reading_asked = searching_grown ls z ws ns bs sc k e 0 [] next S ws₁ ns bs sc k₁ grown.grows refl refl

      pub reading_placed : (rb : InferSortId) → rb.0 ≡ reading_body i → PairsPlaced k₁.lengths (Two body rb node (record { 0 = s.0 }))
      reading_placed rb v = (
        placed_grown W S.ready.nodes (lent ws₁ ns k₁.lengths) grown.grows body.0 hb,
        subst (Placed k₁.lengths) (sym v) (fixed_placed k₁.lengths reading_asked.suits.six (reading_body i) (below i)),
        placed_grown W S.ready.nodes (lent ws₁ ns k₁.lengths) grown.grows node.0 hn,
        sort_placed k₁.lengths reading_asked.ready.nodes.sorts.sorts s.0 (subst (λ (y : State). s.0 < y.lengths.sorts) (sym u) is_sort.1),
      )
        where
          below : (n : ℕ) → reading_body n < 6
          below zero = omega arith
          below (suc zero) = omega arith
          below (suc (suc n)) = omega arith

      module _ (rb : InferSortId) (v : rb.0 ≡ reading_body i) (ws₂ ns₂ bs₂ sc₂ : List ℕ) (r : Answer)
          (d : Comes ls z ws₁ ns bs sc k₁ e (trying ls z sc e (Two body rb node (record { 0 = s.0 })) Nothing next) ws₂ ns₂ bs₂ sc₂ r) where
        abbrev path₁ : Path
        path₁ = path_of ls z (binds_of bs k₁.lengths.variables) sc e

        abbrev w₁ : World (Unit {0})
        w₁ = world_of ls z ws₁ ns sc k₁

        same_path_here : path₁ ≡ path
        same_path_here = ap (λ n. path_of ls z (binds_of bs n) sc e) grown.grows.variables

        abbrev first : Out (Unit {0})
        first = trying ls z sc e (Two body rb node (record { 0 = s.0 })) Nothing next path₁ w₁

        -- the rest, from here and from the start
        to_and : and_also first b (λ b. rest (readings_from (i + 1)) b path₁) ≡ goal path w
        unfolding trying path_after
        to_and =
            ap (λ o. and_also o b (λ b. rest (readings_from (i + 1)) b path₁)) (sym (two_pairs path₁.binds body rb w₁
            node (record { 0 = s.0 }) (λ D. next_of ls z next (with_binds path₁ D))))
            ∙ (ap (λ n. and_also (unifying path₁.binds body.0 n (λ C. unifying C node.0 s.0
            (λ D. next_of ls z next (with_binds path₁ D))) w₁) b (λ b. rest (readings_from (i + 1)) b path₁)) v
            ∙ (ap₂ (λ p y. and_also (unifying p.binds body.0 (reading_body i) (λ C. unifying C node.0 s.0
            (λ D. next_of ls z next (with_binds p D))) y) b (λ b. rest (readings_from (i + 1)) b p)) same_path_here
            (ap (world_of ls z ws₁ ns sc) u)
            ∙ (sym (ap (λ y. on_made (interned_of ws₁ ns x y) reads missed w) q) ∙ by_made)))

        from_start : (ws₃ ns₃ bs₃ sc₃ : List ℕ) (a : Answer)
            → Done ls z ws₁ ns bs sc k₁ e (and_also first b (λ b. rest (readings_from (i + 1)) b path₁)) ws₃ ns₃ bs₃ sc₃
            a
            → Comes ls z ws ns bs sc k e goal ws₃ ns₃ bs₃ sc₃ a
        from_start ws₃ ns₃ bs₃ sc₃ a y =
            done_as ls z ws ns bs sc k e S.ready.nodes _ _ ws₃ ns₃ bs₃ sc₃ a to_and
            (done_after ls z ws ns bs sc k e S.ready.nodes ws₁ ns bs sc k₁ grown refl (same_path_refl e sc) _ ws₃ ns₃ bs₃ sc₃ a y)

        pub readings_stop : (c : ℕ) (n : Lengths) → r ≡ Full c n → Comes ls z ws ns bs sc k e goal ws₂ ns₂ bs₂ sc₂ r
        readings_stop c n h =
            from_start ws₂ ns₂ bs₂ sc₂ r
            (and_stops ls z ws₁ ns bs sc k₁ e reading_asked.ready.nodes first ws₂ ns₂ bs₂ sc₂ r d b (λ b. rest (readings_from (i + 1)) b path₁) c n h)

        module _ (y : Bool) (k₂ : State) (h : r ≡ says_of y k₂) where
          grown₂ : SortsOnly (lent ws₁ ns k₁.lengths) (lent ws₂ ns₂ k₂.lengths)
          grown₂ = grown_on ls z ws₁ ns bs sc k₁ e reading_asked.ready.nodes first ws₂ ns₂ bs₂ sc₂ r d y k₂ h

          pub readings_asked : Searching ws₂ ns₂ bs₂ sc₂ ls z k₂ e 0 [] next
          readings_asked = searching_grown ls z ws₁ ns bs sc k₁ e 0 [] next reading_asked ws₂ ns₂ bs₂ sc₂ k₂ grown₂.grows d.binds d.path.long

          pub reading_places : Placed k₂.lengths body.0 × Placed k₂.lengths node.0 × (element.0 < k₂.lengths.sorts)
          reading_places =
              let up : (p : ℕ) → Placed k.lengths p → Placed k₂.lengths p =
              λ p h. placed_grown (lent ws₁ ns k₁.lengths) reading_asked.ready.nodes
              (lent ws₂ ns₂ k₂.lengths) grown₂.grows p (placed_grown W S.ready.nodes
              (lent ws₁ ns k₁.lengths) grown.grows p h) in
              (up body.0 hb, up node.0 hn, omega (arith, he, grown.grows.sorts, grown₂.grows.sorts))

          pub readings_on : (ws₃ ns₃ bs₃ sc₃ : List ℕ) (a : Answer) → Comes ls z ws₂ ns₂ bs₂ sc₂ k₂ e (rest (readings_from (i + 1)) (b || y)) ws₃ ns₃ bs₃ sc₃ a
              → Comes ls z ws ns bs sc k e goal ws₃ ns₃ bs₃ sc₃ a
          readings_on ws₃ ns₃ bs₃ sc₃ a t =
              from_start ws₃ ns₃ bs₃ sc₃ a
              (and_comes ls z ws₁ ns bs sc k₁ e reading_asked.ready.nodes first ws₂ ns₂ bs₂ sc₂ r d b
              (rest (readings_from (i + 1))) y k₂ h ws₃ ns₃ bs₃ sc₃ a t)

-- the readings, as the code lists them
abbrev pub readings_listed : List ReadingRow
readings_listed =
    record { body = record { 0 = 1 }; op = ComplexSort.Set } ∷ record { body = record { 0 = 3 }; op = ComplexSort.Bag }
    ∷ record { body = record { 0 = 2 }; op = ComplexSort.Bag } ∷ []

pub body_listed : (i : ℕ) → i < 3 → (d : ReadingRow) → (get_or readings_listed i d).body.0 ≡ reading_body i
body_listed zero l d = refl
body_listed (suc zero) l d = refl
body_listed (suc (suc zero)) l d = refl
body_listed (suc (suc (suc i))) l d = absurd (omega (arith, l))

pub op_listed : (i : ℕ) → i < 3 → (d : ReadingRow) → (get_or readings_listed i d).op ≡ reading_op i
op_listed zero l d = refl
op_listed (suc zero) l d = refl
op_listed (suc (suc zero)) l d = refl
op_listed (suc (suc (suc i))) l d = absurd (omega (arith, l))

pub interns_listed : (i : ℕ) → i < 3 → (d : ReadingRow) (s : ℕ) (ws : List ℕ) (k : Lengths) (ws' : List ℕ) (k' : Lengths) (r : Result SortId NoRoom)
    → InternsContainer (get_or readings_listed i d).op s ws k ws' k' r → InternsContainer (reading_op i) s ws k ws' k' r
interns_listed i l d s ws k ws' k' r = subst (λ (o : ComplexSort). InternsContainer o s ws k ws' k' r) (op_listed i l d)
