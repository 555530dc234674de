-- The laws of join and meet with the premises that `bound` has at each of its ways: what the rows are, and what a call has
-- left. Assumes nothing.
use mathlib.Core.Path.{◌≡◌, refl, sym, ◌∙◌, ap, ap₂, subst}
use mathlib.Core.Bool.{Bool, true, false, cond, not, false≢true}
use mathlib.Core.List.{List}
use mathlib.Core.Option.{none, some}
use Prim.Native.Nat.{ℕ, ◌+◌, ◌<◌, ◌≤◌}
use native.Mathlib.Omega.{arith}
use lib.ListN.{set, take, replicate, length, length-set}
use lib.Seq.{length-take-le}
use lib.Dec.{eqb}
use borrow.Author.Tests.{eq-eqb}
use Rattle.std.specs.Prelude.{Option, Some, None, Result, Ok, Err}
use Rattle.std.specs.Result.{IsErr, OnErr}
use Rattle.resolved_sort.specs.declared.SortId.{SortId}
use Rattle.resolved_sort.specs.declared.Sort.{Sort}
use Rattle.resolved_sort.specs.declared.ComplexSort.{ComplexSort}
use Rattle.resolved_sort.specs.declared.Counts.{Counts}
use Rattle.resolved_sort.specs.declared.NoRoom.{NoRoom}
use Rattle.resolved_sort.specs.declared.Run.{Run}
use Rattle.resolved_sort.specs.declared.ResolvedSort.{ResolvedSort}
use Rattle.resolved_sort.specs.declared.ResolvedSort.TheVariants.{Primitive, Container, Function}
use Rattle.resolved_sort.specs.Entries.{Joined}
use Rattle.resolved_sort.specs.Entries.{At, Nothing, Full}
use Rattle.resolved_sort.specs.Tree.{Tree, primitive, container, function as functionSort, family, level, family_op, level_op}
use Rattle.resolved_sort.specs.Order.{le_level, bound_op}
use Rattle.resolved_sort.specs.Interning.{look, Outcome, make}
use Rattle.resolved_sort.specs.Storage.{trees, sorts_of, look_all, row_at, count_at, start_at, part_at, entry_at}
use Rattle.resolved_sort.specs.Rows.{Checked, AllBelow, stored_at, left_at, interned_at}
use Rattle.resolved_sort.specs.Inner.Pairs.{Functions, pair_of, with_function, pair_at}
use Rattle.resolved_sort.specs.Bounds.{Asked, bound_at, intern_at}
use Rattle.resolved_sort.specs.Inner.Bounds.{container_at, TwoFunctions, All, Nothing as NotAll, Full as NoneFits, Domain, domain_left, stored_domain, bound_domain}
use Rattle.resolved_sort.specs.Inner.Storage.{sort_numbers}
use Rattle.resolved_sort.proofs.SortNumbers.{set_sort_numbers, zeros_sort_numbers, take_sort_numbers}
use Rattle.resolved_sort.proofs.Pairs.{Unlike, OfContainers}
use Rattle.resolved_sort.proofs.Grown.{grown_none}
use Rattle.resolved_sort.proofs.Kept.{make_kept}
use Rattle.resolved_sort.proofs.Stored.{look_whole}
use Rattle.resolved_sort.proofs.Unchanged.{longer, entries_longer}
use Rattle.resolved_sort.proofs.Reached.{no_confusion, Reached, reached, reached_sorts}
use Rattle.resolved_sort.proofs.RowsSay.{numbers_differ, primitives, containers}
use Rattle.resolved_sort.proofs.BoundsCode as law
use Rattle.resolved_sort.proofs.DomainCode as domain
use Rattle.resolved_sort.proofs.FunctionCode as functions
use Rattle.sort_bounds.specs.Farther.{farther}

-- what a call has left and answered, by the forms that the laws speak of
abbrev joined : Counts → Result (Option SortId) NoRoom → Joined
joined K (Ok (Some i)) = At i K
joined K (Ok None) = Nothing K
joined K (Err e) = Full

left_is : (ws : List ℕ) (K : Counts) (r : Result (Option SortId) NoRoom) → stored_at ws (joined K r) ≡ left_at ws K r
left_is ws K (Ok (Some i)) = refl
left_is ws K (Ok None) = refl
left_is ws K (Err e) = refl

abbrev interned : Counts → Result SortId NoRoom → Joined
interned K (Ok i) = At i K
interned K (Err e) = Full

interned_is : (ws : List ℕ) (K : Counts) (r : Result SortId NoRoom) → stored_at ws (interned K r) ≡ interned_at ws K r
interned_is ws K (Ok i) = refl
interned_is ws K (Err e) = refl

pub err_left : (ws : List ℕ) (K : Counts) (r : Result (Option SortId) NoRoom) → IsErr r → left_at ws K r ≡ stored_at ws Full
err_left ws K (Ok x) h = absurd (false≢true h)
err_left ws K (Err e) h = refl

pub full_of : (ws : List ℕ) (K : Counts) (r : Result SortId NoRoom) {e : NoRoom} → r ≡ Err e → stored_at ws Full ≡ interned_at ws K r
full_of ws K r z = ap (interned_at ws K) (sym z)

pub made_of : (ws : List ℕ) (K : Counts) (r : Result SortId NoRoom) {i : SortId} → r ≡ Ok i → stored_at ws (At i K) ≡ interned_at ws K r
made_of ws K r z = ap (interned_at ws K) (sym z)

-- what a call that ended for want of room has left: a checked list, as long as before or longer
abbrev pub Usable : List ℕ → Counts → Counts → Type 0
Usable vs C K = Checked vs K.sorts K.entries × (C.sorts ≤ K.sorts) × (C.entries ≤ K.entries)

pub err_usable : {A : Type 0} {P : Type 0} (r : Result A NoRoom) → P → OnErr r P
err_usable (Ok x) p = tt
err_usable (Err e) p = p

pub at_err : {A : Type 0} {P : Type 0} (r : Result A NoRoom) {e : NoRoom} → r ≡ Err e → OnErr r P → P
at_err (Ok x) z p = let w : Ok x ≡ Err _ = z in no_confusion (cc)
at_err (Err e) z p = p

pub usable_after : (vs : List ℕ) (B C K : Counts) → (B.sorts ≤ C.sorts) × (B.entries ≤ C.entries) → Usable vs C K → Usable vs B K
usable_after vs B C K b u = (u.0, omega (arith, b.0, u.1), omega (arith, b.1, u.2))

-- a call that leaves the list and its counts as they are
pub usable_kept : (vs us : List ℕ) (C K L : Counts) → Checked vs K.sorts K.entries → (C.sorts ≤ K.sorts) × (C.entries ≤ K.entries)
    → (L ≡ K) × (us ≡ vs) → Usable us C L
usable_kept vs us C K L k g e = rw (e.0, e.1) (k, g.0, g.1)

-- a call that has answered a sort has left a list as long as before or longer
module _ (ws : List ℕ) (C : Counts) (up : Bool) (a b : ℕ) (q : Asked ws C.sorts C.entries a b) where
  abbrev makes : Outcome Tree
  makes = make up (look (trees ws C.sorts) a) (look (trees ws C.sorts) b) (sorts_of ws C.sorts C.entries)

  module _ (vs : List ℕ) (K : Counts) (r : Result (Option SortId) NoRoom) (left : left_at vs K r ≡ bound_at up ws C.sorts C.entries a b)
      (c : SortId) (z : r ≡ Ok (Some c)) where
    answered : Reached ws C.sorts C.entries (sorts_of ws C.sorts C.entries) makes vs c K
    unfolding bound_at
    answered =
        reached ws C.sorts C.entries (sorts_of ws C.sorts C.entries) makes
        (make_kept ws C.sorts C.entries up (look (trees ws C.sorts) a) (look (trees ws C.sorts) b) (sorts_of ws C.sorts C.entries)
        (grown_none ws C.sorts C.entries q.checked) (look_whole ws C.sorts C.entries q.checked a q.lhs) (look_whole ws C.sorts C.entries q.checked b q.rhs))
        vs c K (ap (left_at vs K) (sym z) ∙ left)

    pub more : (C.sorts ≤ K.sorts) × (C.entries ≤ K.entries)
    more = (
      omega (
        arith,
        longer ws C.sorts C.entries q.checked answered.sorts answered.grown,
        reached_sorts ws C.sorts C.entries (sorts_of ws C.sorts C.entries) makes vs c K answered,
      ),
      omega (arith, entries_longer ws C.sorts C.entries q.checked answered.sorts answered.grown, ap (λ (k : Counts). k.entries) answered.counted),
    )

-- the operator of a join or meet, by what the code picks
as_picked : (f g : Bool) (o p : ComplexSort) {x : Option ComplexSort} → x ≡ cond f (Some (cond g p o)) None
    → (x ≡ None → cond f (some (cond g p o)) none ≡ none) × ((y : ComplexSort) → x ≡ Some y → cond f (some (cond g p o)) none ≡ some y)
as_picked false g o p e = (λ z. refl, λ y z. let w : None ≡ Some y = sym e ∙ z in no_confusion (cc))
as_picked true g o p e =
    (λ z. let w : Some (cond g p o) ≡ None = sym e ∙ z in no_confusion (cc), λ y z. let w : Some (cond g p o) ≡ Some y = sym e ∙ z in ap some (cc))

module _ (up : Bool) (o p : ComplexSort) {x : Option ComplexSort} (e : x ≡ farther family_op level_op up o p o p) where
  none_picked : x ≡ None → bound_op up o p ≡ none
  unfolding farther bound_op
  none_picked z = (as_picked (eqb (family_op o) (family_op p)) (le_level up (level_op o) (level_op p)) o p e).0 z

  op_picked : (y : ComplexSort) → x ≡ Some y → bound_op up o p ≡ some y
  unfolding farther bound_op
  op_picked y z = (as_picked (eqb (family_op o) (family_op p)) (le_level up (level_op o) (level_op p)) o p e).1 y z

run_is : (d c : Run) (r u : SortId) → Function d r ≡ Function c u → d ≡ c
run_is d c r u e = cc

part_is : (d c : Run) (r u : SortId) → Function d r ≡ Function c u → r ≡ u
part_is d c r u e = cc

-- What is known before the k-th arguments of two functions with these domains: the list has grown, the two are as they were,
-- and the rest of the arguments comes to the whole.
pub record Going (up : Bool) (ws : List ℕ) (C : Counts) (a b : ℕ) (x y : Run) (now : List ℕ) (K : Counts) (k : ℕ) (ids : List SortId) : Type 0 where
  pub functions : TwoFunctions now K.sorts K.entries a b
  pub lhs_start : start_at now a ≡ x.start
  pub rhs_start : start_at now b ≡ y.start
  pub lhs_count : count_at now a ≡ x.count
  pub same : bound_domain (not up) now K.sorts K.entries a b k (sort_numbers ids) ≡ bound_domain (not up) ws C.sorts C.entries a b 0 (replicate 16 0)
  pub long : length ids ≡ 16

-- And the list is as long as at the start or longer.
pub record GoingAndGrown (up : Bool) (ws : List ℕ) (C : Counts) (a b : ℕ) (x y : Run) (now : List ℕ) (K : Counts) (k : ℕ) (ids : List SortId) : Type 0 where
  pub going : Going up ws C a b x y now K k ids
  pub more : (C.sorts ≤ K.sorts) × (C.entries ≤ K.entries)

module _ (ws : List ℕ) (C : Counts) (up : Bool) (a b : SortId) (q : Asked ws C.sorts C.entries a.0 b.0) where
  pub itself : a.0 ≡ b.0 → stored_at ws (At a C) ≡ bound_at up ws C.sorts C.entries a.0 b.0
  itself e = law.bound_itself ws C q.checked up a b q.lhs q.rhs e

  -- two sorts that differ
  module _ {same : Bool} (asked : same ≡ eqb a.0 b.0) (no : same ≡ false) where
    d : a.0 ≡ b.0 → ⊥
    d = numbers_differ a.0 b.0 asked no

    pub other : ((a.0 ≡ b.0 → ⊥) → Unlike (look (trees ws C.sorts) a.0) (look (trees ws C.sorts) b.0))
        → stored_at ws (Nothing C) ≡ bound_at up ws C.sorts C.entries a.0 b.0
    other u = law.bound_unlike ws C q.checked up a b q.lhs q.rhs d (u d)

    by_side : (f g : Bool) → left_at ws C (Ok (cond f (Some (cond g b a)) None)) ≡ stored_at ws (cond f (cond g (At b C) (At a C)) (Nothing C))
    by_side true true = refl
    by_side true false = refl
    by_side false g = refl

    -- with these rows
    module _ {lhs_row rhs_row : ResolvedSort} (el : lhs_row ≡ row_at ws a.0) (er : rhs_row ≡ row_at ws b.0) where
      pub number : {l r : Sort} → lhs_row ≡ Primitive l → rhs_row ≡ Primitive r → (x : Option SortId)
          → x ≡ farther (λ s. family (primitive s)) (λ s. level (primitive s)) up l r a b → left_at ws C (Ok x) ≡ bound_at up ws C.sorts C.entries a.0 b.0
      unfolding farther
      number {l} {r} il ir x e =
          ap (λ y. left_at ws C (Ok y)) e
          ∙ (by_side (eqb (family (primitive l)) (family (primitive r))) (le_level up (level (primitive l)) (level (primitive r)))
          ∙ law.bound_number ws C q.checked up a b q.lhs q.rhs d l r (primitives q.checked q.lhs q.rhs d el er il ir))

      -- two containers
      module _ {o p : ComplexSort} {s t : SortId} (il : lhs_row ≡ Container o s) (ir : rhs_row ≡ Container p t) where
        h : OfContainers ws C.sorts C.entries a.0 b.0 o s p t
        h = containers q.checked q.lhs q.rhs d el er il ir

        -- the parts are numbers of the list, below the containers
        pub parts_asked : (s.0 + t.0 < a.0 + b.0) × Asked ws C.sorts C.entries s.0 t.0
        parts_asked = (
          omega (arith, h.lhs_below, h.rhs_below),
          record { checked = q.checked; lhs = omega (arith, h.lhs_below, q.lhs); rhs = omega (arith, h.rhs_below, q.rhs) },
        )

        whole : container_at up ws C.sorts C.entries o s.0 p t.0 ≡ bound_at up ws C.sorts C.entries a.0 b.0
        whole = law.bound_container ws C q.checked up a b q.lhs q.rhs d o s p t h

        module _ (x : Option ComplexSort) (e : x ≡ farther family_op level_op up o p o p) where
          pub no_operator : x ≡ None → stored_at ws (Nothing C) ≡ bound_at up ws C.sorts C.entries a.0 b.0
          no_operator f =
              law.container_none ws C q.checked up o s p t parts_asked.1.lhs parts_asked.1.rhs (none_picked up o p e f) ∙ whole

          module _ (y : ComplexSort) (f : x ≡ Some y) (vs : List ℕ) (K : Counts) (r : Result (Option SortId) NoRoom)
              (left : left_at vs K r ≡ bound_at up ws C.sorts C.entries s.0 t.0) where
            by_part : stored_at vs (joined K r) ≡ bound_at up ws C.sorts C.entries s.0 t.0
            by_part = left_is vs K r ∙ left

            pub part_more : (c : SortId) → r ≡ Ok (Some c) → (C.sorts ≤ K.sorts) × (C.entries ≤ K.entries)
            part_more c z = more ws C up s.0 t.0 parts_asked.1 vs K r left c z

            pub part_stops : r ≡ Ok None → stored_at vs (Nothing K) ≡ bound_at up ws C.sorts C.entries a.0 b.0
            part_stops z =
                law.container_stops ws C q.checked up o s p t parts_asked.1.lhs parts_asked.1.rhs y (op_picked up o p e y f)
                vs (joined K r) by_part K (ap (joined K) z) ∙ whole

            pub part_ends : {w : NoRoom} → r ≡ Err w → stored_at vs Full ≡ bound_at up ws C.sorts C.entries a.0 b.0
            part_ends z =
                law.container_ends ws C q.checked up o s p t parts_asked.1.lhs parts_asked.1.rhs y (op_picked up o p e y f)
                vs (joined K r) by_part (ap (joined K) z) ∙ whole

            module _ (c : SortId) (z : r ≡ Ok (Some c)) where
              pub generic_asked : Checked vs K.sorts K.entries × (c.0 < K.sorts)
              generic_asked = (
                law.container_checked ws C q.checked up o s p t parts_asked.1.lhs parts_asked.1.rhs y (op_picked up o p e y f)
                    vs (joined K r) by_part c K (ap (joined K) z),
                law.container_below ws C q.checked up o s p t parts_asked.1.lhs parts_asked.1.rhs y (op_picked up o p e y f)
                    vs (joined K r) by_part c K (ap (joined K) z),
              )

              pub container_made : (us : List ℕ) (L : Counts) (w : Result SortId NoRoom)
                  → interned_at us L w ≡ intern_at vs K.sorts K.entries (container y (look (trees vs K.sorts) c.0))
                  → interned_at us L w ≡ bound_at up ws C.sorts C.entries a.0 b.0
              container_made us L w i =
                  sym (interned_is us L w)
                  ∙ (law.container_made ws C q.checked up o s p t parts_asked.1.lhs parts_asked.1.rhs y (op_picked up o p e y f)
                  vs (joined K r) by_part c K (ap (joined K) z) us (interned L w) (interned_is us L w ∙ i) ∙ whole)

      -- two functions with as many arguments
      module _ {x y : Run} {u v : SortId} (il : lhs_row ≡ Function x u) (ir : rhs_row ≡ Function y v) (m : x.count ≡ y.count) where
        ex : row_at ws a.0 ≡ Function x u
        ex = sym el ∙ il

        ey : row_at ws b.0 ≡ Function y v
        ey = sym er ∙ ir

        pair_is : pair_at ws a.0 b.0 ≡ Functions x.count x.start u y.start v
        unfolding pair_of with_function
        pair_is = ap₂ pair_of ex ey ∙ rw (eq-eqb x.count y.count m)

        two : TwoFunctions ws C.sorts C.entries a.0 b.0
        two = domain.two_functions ws C.sorts C.entries a.0 b.0 q x.count x.start u y.start v pair_is

        abbrev function_at : ℕ → ResolvedSort
        function_at i = Function (record { start = start_at ws i; count = count_at ws i }) (record { 0 = part_at ws i })

        lhs_says : function_at a.0 ≡ Function x u
        lhs_says = sym (domain.function_says ws a.0 two.lhs_function) ∙ ex

        rhs_says : function_at b.0 ≡ Function y v
        rhs_says = sym (domain.function_says ws b.0 two.rhs_function) ∙ ey

        lhs_run : record { start = start_at ws a.0; count = count_at ws a.0 } ≡ x
        lhs_run = run_is _ x _ u lhs_says

        rhs_run : record { start = start_at ws b.0; count = count_at ws b.0 } ≡ y
        rhs_run = run_is _ y _ v rhs_says

        lhs_part : part_at ws a.0 ≡ u.0
        lhs_part = ap (λ (i : SortId). i.0) (part_is _ x _ u lhs_says)

        rhs_part : part_at ws b.0 ≡ v.0
        rhs_part = ap (λ (i : SortId). i.0) (part_is _ y _ v rhs_says)

        pub going_from_start : Going up ws C a.0 b.0 x y ws C 0 (replicate 16 (record { 0 = 0 }))
        going_from_start =
            record {
              functions = two;
              lhs_start = ap (λ (r : Run). r.start) lhs_run;
              rhs_start = ap (λ (r : Run). r.start) rhs_run;
              lhs_count = ap (λ (r : Run). r.count) lhs_run;
              same = ap (bound_domain (not up) ws C.sorts C.entries a.0 b.0 0) (zeros_sort_numbers 16);
              long = refl;
            }

        pub grown_from_start : GoingAndGrown up ws C a.0 b.0 x y ws C 0 (replicate 16 (record { 0 = 0 }))
        grown_from_start = record { going = going_from_start; more = (omega arith, omega arith) }

        module _ (now : List ℕ) (K : Counts) (k : ℕ) (ids : List SortId) (g : Going up ws C a.0 b.0 x y now K k ids) where
          few : x.count ≤ 16
          few = omega (arith, g.lhs_count, domain.few_arguments now K.sorts K.entries g.functions.asked.checked a.0 g.functions.asked.lhs g.functions.lhs_function)

          module _ (hk : k < x.count) (l r : SortId) (lhs_read : l.0 ≡ entry_at now (x.start + k)) (rhs_read : r.0 ≡ entry_at now (y.start + k)) where
            one_left : k < count_at now a.0
            one_left = omega (arith, hk, g.lhs_count)

            pub below_sixteen : k < 16
            below_sixteen = omega (arith, hk, few)

            lhs_is : l.0 ≡ entry_at now (start_at now a.0 + k)
            lhs_is = lhs_read ∙ ap (λ (i : ℕ). entry_at now (i + k)) (sym g.lhs_start)

            rhs_is : r.0 ≡ entry_at now (start_at now b.0 + k)
            rhs_is = rhs_read ∙ ap (λ (i : ℕ). entry_at now (i + k)) (sym g.rhs_start)

            pub arguments_asked : (l.0 + r.0 < a.0 + b.0) × Asked now K.sorts K.entries l.0 r.0
            arguments_asked = (
              omega (
                arith,
                lhs_is,
                rhs_is,
                domain.x_below (not up) now K a.0 b.0 g.functions k (sort_numbers ids) one_left,
                domain.y_below (not up) now K a.0 b.0 g.functions k (sort_numbers ids) one_left,
              ),
              rw (lhs_is, rhs_is) (domain.arguments_asked (not up) now K a.0 b.0 g.functions k (sort_numbers ids) one_left),
            )

            module _ (vs : List ℕ) (L : Counts) (j : Result (Option SortId) NoRoom) (left : left_at vs L j ≡ bound_at (not up) now K.sorts K.entries l.0 r.0) where
              by_entries : stored_at vs (joined L j)
                  ≡ bound_at (not up) now K.sorts K.entries (entry_at now (start_at now a.0 + k)) (entry_at now (start_at now b.0 + k))
              by_entries = left_is vs L j ∙ (left ∙ ap₂ (bound_at (not up) now K.sorts K.entries) lhs_is rhs_is)

              pub arguments_stop : j ≡ Ok None → stored_at vs (Nothing L) ≡ bound_at up ws C.sorts C.entries a.0 b.0
              arguments_stop z =
                  functions.function_stops up ws C a.0 b.0 two vs (record { ids = replicate 16 (record { 0 = 0 }); found = NotAll L })
                  (ap (λ i. domain_left vs i (NotAll L)) (zeros_sort_numbers 16)
                  ∙ (domain.domain_stops (not up) now K a.0 b.0 g.functions k (sort_numbers ids) one_left vs (joined L j) by_entries L (ap (joined L) z) ∙ g.same)) L refl
                  ∙ functions.bound_functions up ws C.sorts C.entries a.0 b.0 two d

              pub arguments_end : {w : NoRoom} → j ≡ Err w → stored_at vs Full ≡ bound_at up ws C.sorts C.entries a.0 b.0
              arguments_end z =
                  functions.function_ends up ws C a.0 b.0 two vs (record { ids = replicate 16 (record { 0 = 0 }); found = NoneFits })
                  (ap (λ i. domain_left vs i NoneFits) (zeros_sort_numbers 16)
                  ∙ (domain.domain_ends (not up) now K a.0 b.0 g.functions k (sort_numbers ids) one_left vs (joined L j) by_entries (ap (joined L) z) ∙ g.same)) refl
                  ∙ functions.bound_functions up ws C.sorts C.entries a.0 b.0 two d

              module _ (c : SortId) (z : j ≡ Ok (Some c)) where
                at : joined L j ≡ At c L
                at = ap (joined L) z

                pub going_on : Going up ws C a.0 b.0 x y vs L (k + 1) (set ids k c)
                going_on =
                    record {
                      functions = domain.domain_next (not up) now K a.0 b.0 g.functions k (sort_numbers ids) one_left vs (joined L j) by_entries c L at;
                      lhs_start = domain.lhs_start_unchanged (not up) now K a.0 b.0 g.functions k (sort_numbers ids) one_left vs (joined L j) by_entries c L at ∙ g.lhs_start;
                      rhs_start = domain.rhs_start_unchanged (not up) now K a.0 b.0 g.functions k (sort_numbers ids) one_left vs (joined L j) by_entries c L at ∙ g.rhs_start;
                      lhs_count = domain.count_unchanged (not up) now K a.0 b.0 g.functions k (sort_numbers ids) one_left vs (joined L j) by_entries c L at ∙ g.lhs_count;
                      same = ap (bound_domain (not up) vs L.sorts L.entries a.0 b.0 (k + 1)) (set_sort_numbers ids k c)
                          ∙ (domain.domain_goes_on (not up) now K a.0 b.0 g.functions k (sort_numbers ids) one_left vs (joined L j) by_entries c L at ∙ g.same);
                      long = length-set ids k c ∙ g.long;
                    }

                pub grown_on : (C.sorts ≤ K.sorts) × (C.entries ≤ K.entries) → GoingAndGrown up ws C a.0 b.0 x y vs L (k + 1) (set ids k c)
                grown_on grown =
                    let m = more now K (not up) l.0 r.0 arguments_asked.1 vs L j left c z in
                    record { going = going_on; more = (omega (arith, grown.0, m.0), omega (arith, grown.1, m.1)) }

          -- all arguments are made
          module _ (within : k ≤ x.count) (over : x.count ≤ k) where
            last : k ≡ x.count
            last = omega (arith, within, over)

            abbrev made : Domain
            made = record { ids = ids; found = All K }

            done : stored_domain now made ≡ bound_domain (not up) ws C.sorts C.entries a.0 b.0 0 (replicate 16 0)
            done = domain.domain_done (not up) now K a.0 b.0 g.functions k (sort_numbers ids) (last ∙ sym g.lhs_count) ∙ g.same

            pub range_asked : (u.0 + v.0 < a.0 + b.0) × Asked now K.sorts K.entries u.0 v.0
            range_asked = (
              omega (
                arith,
                lhs_part,
                rhs_part,
                domain.range_below ws C.sorts C.entries q.checked a.0 q.lhs two.lhs_function,
                domain.range_below ws C.sorts C.entries q.checked b.0 q.rhs two.rhs_function,
              ),
              subst (λ (i : ℕ). Asked now K.sorts K.entries i v.0) lhs_part
                  (subst (λ (i : ℕ). Asked now K.sorts K.entries (part_at ws a.0) i) rhs_part
                  (functions.range_asked up ws C a.0 b.0 two now made done K refl)),
            )

            pub domain_fits : x.count ≤ length ids
            domain_fits = omega (arith, few, g.long)

            pub domain_long : x.count ≡ length (take x.count ids)
            domain_long = sym (length-take-le x.count ids domain_fits)

            module _ (us : List ℕ) (L : Counts) (j : Result (Option SortId) NoRoom) (left : left_at us L j ≡ bound_at up now K.sorts K.entries u.0 v.0) where
              by_parts : stored_at us (joined L j) ≡ bound_at up now K.sorts K.entries (part_at ws a.0) (part_at ws b.0)
              by_parts = left_is us L j ∙ (left ∙ ap₂ (bound_at up now K.sorts K.entries) (sym lhs_part) (sym rhs_part))

              pub range_more : (C.sorts ≤ K.sorts) × (C.entries ≤ K.entries) → (c : SortId) → j ≡ Ok (Some c)
                  → (C.sorts ≤ L.sorts) × (C.entries ≤ L.entries)
              range_more grown c z =
                  let m = more now K up u.0 v.0 range_asked.1 us L j left c z in
                  (omega (arith, grown.0, m.0), omega (arith, grown.1, m.1))

              pub range_stops : j ≡ Ok None → stored_at us (Nothing L) ≡ bound_at up ws C.sorts C.entries a.0 b.0
              range_stops z =
                  functions.range_stops up ws C a.0 b.0 two now made done K refl us (joined L j) by_parts L (ap (joined L) z)
                  ∙ functions.bound_functions up ws C.sorts C.entries a.0 b.0 two d

              pub range_ends : {w : NoRoom} → j ≡ Err w → stored_at us Full ≡ bound_at up ws C.sorts C.entries a.0 b.0
              range_ends z =
                  functions.range_ends up ws C a.0 b.0 two now made done K refl us (joined L j) by_parts (ap (joined L) z)
                  ∙ functions.bound_functions up ws C.sorts C.entries a.0 b.0 two d

              module _ (c : SortId) (z : j ≡ Ok (Some c)) where
                there : joined L j ≡ At c L
                there = ap (joined L) z

                by_count : take (count_at ws a.0) (sort_numbers ids) ≡ sort_numbers (take x.count ids)
                by_count = ap (λ (n : ℕ). take n (sort_numbers ids)) (ap (λ (r : Run). r.count) lhs_run) ∙ sym (take_sort_numbers x.count ids)

                pub function_asked : Checked us L.sorts L.entries × (c.0 < L.sorts) × (length (take x.count ids) ≤ 16)
                    × AllBelow L.sorts (sort_numbers (take x.count ids))
                function_asked = (
                  functions.function_checked up ws C a.0 b.0 two now made done K refl us (joined L j) by_parts c L there,
                  functions.function_range_below up ws C a.0 b.0 two now made done K refl us (joined L j) by_parts c L there,
                  omega (arith, few, domain_long),
                  subst (AllBelow L.sorts) by_count
                      (functions.function_ids_below up ws C a.0 b.0 two now made done K refl us (joined L j) by_parts c L there),
                )

                pub function_made : (zs : List ℕ) (M : Counts) (w : Result SortId NoRoom)
                    → interned_at zs M w ≡ intern_at us L.sorts L.entries (functionSort (look_all (trees us L.sorts)
                    (sort_numbers (take x.count ids))) (look (trees us L.sorts) c.0))
                    → interned_at zs M w ≡ bound_at up ws C.sorts C.entries a.0 b.0
                function_made zs M w i =
                    sym (interned_is zs M w)
                    ∙ (functions.function_made up ws C a.0 b.0 two now made done K refl us (joined L j) by_parts c L there zs (interned M w)
                    (interned_is zs M w ∙ (i ∙ ap (λ xs. intern_at us L.sorts L.entries (functionSort (look_all (trees us L.sorts) xs)
                    (look (trees us L.sorts) c.0))) (sym by_count)))
                    ∙ functions.bound_functions up ws C.sorts C.entries a.0 b.0 two d)
