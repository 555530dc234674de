-- Down to the final range and back. Functions that follow one another have falling ranks, so none comes twice, and by the pigeonhole principle there are no
-- more than places. What is found at the end of a range is what the definition has for the range; the lists have grown by then, and the functions on the way
-- stand in them as before. So, outwards, each function over what was found is what the definition has for that function. Assumes nothing.
use mathlib.Core.Path.{◌≡◌, refl, ap, sym, ◌∙◌, subst}
use mathlib.Core.List.{List}
use mathlib.Core.Option.{some}
use mathlib.Core.Bool.{Bool, true, false}
use Prim.Native.Nat.{ℕ, suc, ◌+◌, ◌-◌, ◌<◌, ◌≤◌, zero}
use native.Mathlib.Omega.{arith}
use native.Mathlib.Numerals.{add-one}
use native.Mathlib.Decide.{ℕ_discrete}
use lib.ListN.{length, get_or, set, take}
use lib.Dec.{eqb}
use borrow.Author.Tests.{eq-eqb, eqb-true}
use lib.Seq.{get_or-set_same, get_or-set_other, get_or-take, length-take-le}
use Rattle.resolved_sort.specs.Tree.{Flat, unit, primitive, def, typevar}
use Rattle.resolved_sort.specs.declared.Sort.{Sort}
use Rattle.resolved_sort.specs.declared.ComplexSort.{ComplexSort}
use Rattle.resolved_sort.specs.Storage.{function_kind, kind_flat, kind_op}
use Rattle.resolved_sort.proofs.Numbers.{true_not_false}
use Rattle.unification.specs.declared.Lengths.{Lengths}
use Rattle.unification.specs.Term.{function_head, Shape, over, kind_head}
use Rattle.unification.specs.Inner.Term.{head_of, parts_of}
use Rattle.unification.specs.Nodes.{max_places, is_sort, Binds, binds_of}
use Rattle.unification.specs.Unify.{follow, deep}
use Rattle.unification.specs.Checked.{graph_of, Ready, Placed}
use Rattle.unification.specs.Growing.{Grows}
use Rattle.unification.specs.Making.{Lent, graph, Makes, made, no_list, no_room, ◌and-then◌, push_functions, related_shape}
use Rattle.unification.specs.Making.{strict_related}
use Rattle.unification.specs.Inner.Making.{lent}
use Rattle.unification.proofs.Rank.{rank}
use Rattle.unification.proofs.Cycle.{Walk, stay, step, comes_back}
use Rattle.unification.proofs.Places.{place_below}
use Rattle.unification.proofs.PlaceTerms.{placed_formed}
use Rattle.unification.proofs.Rows.{ShapeFormed, variable_formed, flat_formed, container_formed, function_formed}
use Rattle.unification.proofs.RelatedEq.{related_at, made_at_function}
use Rattle.unification.proofs.RelatedPlaced.{related_placed}
use Rattle.unification.proofs.Grows.{ready_names, placed_grown}
use Rattle.unification.proofs.MakingGrows.{MadeFrom, made_grows, AllPlaced}
use Rattle.infer_nodes.specs.Inner.Parts.{NodesReady}
use Rattle.related_sorts.specs.declared.Last.{Last}
use Rattle.related_sorts.specs.Inner.Outcome.{IsFunction, FunctionAt}
use Rattle.related_sorts.specs.Inner.Ranges.{SixThere, related_head, Down, here, deeper, FinalRange, arguments_of, over_function}
use Rattle.related_sorts.specs.Inner.Ranges.{outwards, Stands, AllStand}
use Rattle.related_sorts.proofs.Ends as ends

-- kinds: only a function has a function's
primitive_kind : (s : Sort) → kind_flat (primitive s) ≡ function_kind → ⊥
unfolding kind_flat
primitive_kind Sort.Bool e = omega arith
primitive_kind Sort.Pos e = omega arith
primitive_kind Sort.Nat e = omega arith
primitive_kind Sort.Int e = omega arith
primitive_kind Sort.Real e = omega arith

flat_kind : (a : Flat) → kind_flat a ≡ function_kind → ⊥
unfolding kind_flat
flat_kind unit e = omega arith
flat_kind (primitive s) e = primitive_kind s e
flat_kind (def n) e = omega arith
flat_kind (typevar n) e = omega arith

container_kind : (o : ComplexSort) → kind_op o ≡ function_kind → ⊥
unfolding kind_op
container_kind ComplexSort.List e = omega arith
container_kind ComplexSort.Set e = omega arith
container_kind ComplexSort.FSet e = omega arith
container_kind ComplexSort.Bag e = omega arith
container_kind ComplexSort.FBag e = omega arith

function_shaped : (s : Shape) → ShapeFormed s → kind_head (head_of s) ≡ function_kind → (n : ℕ) × (s ≡ over (function_head n) (parts_of s))
unfolding kind_head
function_shaped _ (variable_formed v) e = absurd (omega (arith, e))
function_shaped _ (flat_formed a) e = absurd (flat_kind a e)
function_shaped _ (container_formed o s) e = absurd (container_kind o e)
function_shaped _ (function_formed n xs r l h) e = (n, refl)

-- told of a row
pub function_told : (k : ℕ) (r : Bool) → r ≡ eqb k function_kind → r ≡ true → k ≡ function_kind
function_told k r e t = eqb-true k function_kind (sym e ∙ t)

pub other_told : (k : ℕ) (r : Bool) → r ≡ eqb k function_kind → r ≡ false → k ≡ function_kind → ⊥
other_told k r e f i = true_not_false r (e ∙ eq-eqb k function_kind i) f

-- The loop down: the functions noted so far, and what stands at the place that is reached.
pub record Descending (ws ns bs : List ℕ) (k : Lengths) (p : ℕ) (fs : List ℕ) (end count kind : ℕ) : Type 0 where
  pub down : Down ws ns bs k p fs count end
  pub placed : Placed k end
  pub few : count ≤ max_places
  pub is : kind ≡ kind_head (head_of (graph_of ws ns k end))

module _ (ws ns bs : List ℕ) (k : Lengths) (q : Ready ws ns bs k) where
  abbrev W : Lent
  W = lent ws ns k

  abbrev B : Binds
  B = binds_of bs k.variables

  abbrev shape : ℕ → Shape
  shape = graph_of ws ns k

  abbrev ρ : ℕ → ℕ
  ρ = rank shape deep B

  abbrev range_of : ℕ → ℕ → ℕ
  range_of f n = get_or (parts_of (shape f)) n 0

  pub function_by_kind : (p kind : ℕ) → Placed k p → kind ≡ kind_head (head_of (shape p)) → kind ≡ function_kind → FunctionAt ws ns k p
  function_by_kind p kind i e t =
      let s = function_shaped (shape p) (placed_formed W q.nodes p i) (sym e ∙ t) in
      ends.function_at ws ns bs k q true p i s.0 (parts_of (shape p)) s.1

  module _ (p : ℕ) (x : Placed k p) (fs : List ℕ) where
    -- the place that is reached
    end_placed : (i y : ℕ) → Down ws ns bs k p fs i y → Placed k y
    end_placed _ _ here = x
    end_placed _ _ (deeper i n y d I e) =
        ends.end_placed ws ns bs k q true (range_of (get_or fs i 0) n) y
        (ends.range_placed ws ns bs k q true (get_or fs i 0) n I (range_of (get_or fs i 0) n) refl) e

    lower : (i n y : ℕ) → IsFunction ws ns k (get_or fs i 0) n → follow shape deep B (range_of (get_or fs i 0) n) ≡ some y → ρ y < ρ (get_or fs i 0)
    lower i n y I e =
        let g = range_of (get_or fs i 0) n in
        omega (
          arith,
          ends.range_lower ws ns bs k q true (get_or fs i 0) n I g refl,
          ends.end_rank ws ns bs k q true g y (ends.range_placed ws ns bs k q true (get_or fs i 0) n I g refl) e,
        )

    below : (y : ℕ) → Placed k y → y < max_places
    below y i = let l = place_below k.sorts k.nodes y q.nodes.sorts.sorts i in omega (arith, l, q.nodes.nodes)

    abbrev Rises : ℕ → ℕ → Type 0
    Rises a b = ρ a < ρ b

    rises : (a b c : ℕ) → Rises a b → Rises b c → Rises a c
    rises a b c l m = omega (arith, l, m)

    -- back up from the place that is reached, through functions that rise
    up_again : (i y : ℕ) → Down ws ns bs k p fs i y → Walk Rises rises max_places y i
    up_again _ _ here = stay p (below p x)
    up_again _ _ (deeper i n y d I e) =
        step y (get_or fs i 0) i (below y (end_placed (suc i) y (deeper i n y d I e))) (lower i n y I e) (up_again i (get_or fs i 0) d)

    -- there are not as many functions as places
    pub not_so_many : (y : ℕ) → Down ws ns bs k p fs max_places y → ⊥
    not_so_many y d = let r = comes_back Rises rises max_places y (up_again max_places y d) in omega (arith, r.1)

  pub begun : (p : ℕ) (x : Placed k p) (fs : List ℕ) (kind : ℕ) → kind ≡ kind_head (head_of (shape p)) → Descending ws ns bs k p fs p 0 kind
  begun p x fs kind e = record { down = here; placed = x; few = omega arith; is = e }

  -- what is noted later leaves what was passed
  still_down : (p : ℕ) (fs : List ℕ) (j v i y : ℕ) → i ≤ j → Down ws ns bs k p fs i y → Down ws ns bs k p (set fs j v) i y
  still_down p fs j v _ _ l here = here
  still_down p fs j v _ _ l (deeper i n y d I e) =
      let same : get_or fs i 0 ≡ get_or (set fs j v) i 0 = sym (get_or-set_other fs j i v 0 (λ z. omega (arith, z, l))) in
      deeper i n y (subst (Down ws ns bs k p (set fs j v) i) same (still_down p fs j v i (get_or fs i 0) (omega (arith, l)) d))
      (subst (λ (f : ℕ). IsFunction ws ns k f n) same I) (subst (λ (f : ℕ). follow shape deep B (range_of f n) ≡ some y) same e)

  module _ (p : ℕ) (x : Placed k p) (fs : List ℕ) (end count kind : ℕ) (s : Descending ws ns bs k p fs end count kind) where
    module _ {said : Bool} (told : said ≡ eqb kind function_kind) (holds : said ≡ true) where
      t : kind ≡ function_kind
      t = function_told kind said told holds

      pub function_there : FunctionAt ws ns k end
      function_there = function_by_kind end kind s.placed s.is t

      pub room : count < max_places
      room = go (ℕ_discrete count max_places)
        where
          go : Dec (count ≡ max_places) → count < max_places
          go (yes e) = absurd (not_so_many p x fs end (subst (λ (i : ℕ). Down ws ns bs k p fs i end) e s.down))
          go (no d) = omega (arith, s.few, d)

      module _ (m : ℕ) (em : m ≡ length (parts_of (shape end))) where
        counted : (0 < m) × IsFunction ws ns k end (m - 1)
        counted = ends.counted ws ns k end function_there m em

        pub range_asked : NodesReady ws ns k × Placed k end × (m - 1 < length (parts_of (shape end)))
        range_asked = ends.range_asked ws ns bs k q true end (m - 1) counted.1

        module _ (g : ℕ) (part : m - 1 < length (parts_of (shape end)) → g ≡ range_of end (m - 1)) where
          eg : g ≡ range_of end (m - 1)
          eg = part range_asked.2

          pub range_there : Placed k g
          range_there = ends.range_placed ws ns bs k q true end (m - 1) counted.1 g eg

          module _ (y : ℕ) (ey : follow shape deep B g ≡ some y) where
            pub next_placed : Placed k y
            next_placed = ends.end_placed ws ns bs k q true g y range_there ey

            pub next_lower : ρ y < ρ end
            next_lower =
                omega (
                  arith,
                  ends.range_lower ws ns bs k q true end (m - 1) counted.1 g eg,
                  ends.end_rank ws ns bs k q true g y range_there ey,
                )

            pub one_further : max_places ≤ length fs → (kind' : ℕ) → kind' ≡ kind_head (head_of (shape y))
                → Descending ws ns bs k p (set fs count end) y (count + 1) kind'
            one_further l kind' ek =
                let noted : end ≡ get_or (set fs count end) count 0 = sym (get_or-set_same fs count end 0 (omega (arith, l, room))) in
                record {
                  down =
                      subst (λ (i : ℕ). Down ws ns bs k p (set fs count end) i y) (sym (add-one count))
                      (deeper count (m - 1) y
                      (subst (Down ws ns bs k p (set fs count end) count) noted (still_down p fs count end count end (omega arith) s.down))
                      (subst (λ (f : ℕ). IsFunction ws ns k f (m - 1)) noted counted.1)
                      (subst (λ (f : ℕ). follow shape deep B (range_of f (m - 1)) ≡ some y) noted (ap (follow shape deep B) (sym eg) ∙ ey)));
                  placed = next_placed;
                  few = omega (arith, room);
                  is = ek;
                }

  -- what is found by the head at an end at which no function stands
  module _ (up : Bool) where
    abbrev answer : ℕ → Makes (List ℕ)
    answer y = strict_related up B y W

    head_alone : (f g : ℕ → Lent → Makes (List ℕ)) (b : Bool) (s : Shape) → ShapeFormed s → (kind_head (head_of s) ≡ function_kind → ⊥)
        → related_shape up f b s W ≡ related_shape up g b s W
    unfolding kind_head
    head_alone f g b _ (variable_formed v) h = refl
    head_alone f g b _ (flat_formed a) h = refl
    head_alone f g b _ (container_formed o s) h = refl
    head_alone f g b _ (function_formed n xs r l m) h = absurd (h refl)

    pub by_head : (y : ℕ) → Placed k y → follow shape deep B y ≡ some y → (kind_head (head_of (shape y)) ≡ function_kind → ⊥) → related_head up y W ≡ answer y
    by_head y i e h =
        head_alone (λ p U. no_list U) (strict_related up B) (is_sort y) (shape y) (placed_formed W q.nodes y i) h
        ∙ sym (related_at W bs q up y y e (shape y) refl)

    -- in lists that have grown a function stands as before
    module _ (f n : ℕ) (I : IsFunction ws ns k f n) where
      function_grown : (U : Lent) → Grows W U → FunctionAt U.sorts U.nodes U.lengths f
      function_grown U g =
          let same : shape f ≡ graph U f = sym (g.same f I.placed) in
          record {
            arguments = n;
            function =
                record {
                  nodes = g.checked;
                  placed = placed_grown W q.nodes U g f I.placed;
                  stands = subst (λ (s : Shape). s ≡ over (function_head n) (parts_of s)) same I.stands;
                  many = subst (λ (s : Shape). length (parts_of s) ≡ suc n) same I.many;
                  few = I.few;
                };
          }

      over_grown : (O : Makes (List ℕ)) → MadeFrom AllPlaced W O
          → Stands f O × ((O and-then over_function f) ≡ (O and-then push_functions (take n (parts_of (shape f)))))
      over_grown (made ps U) m =
          let g = (made_grows AllPlaced W U ps (made ps U) m refl).0 in
          (function_grown U g, ap (λ (s : Shape). push_functions (arguments_of s) ps U) (g.same f I.placed ∙ I.stands))
      over_grown (no_list U) m = (tt, refl)
      over_grown (no_room c U) m = (tt, refl)

    module _ (six : SixThere k) (p : ℕ) (F : FunctionAt ws ns k p) (fs : List ℕ) where
      abbrev x : Placed k p
      x = F.function.placed

      -- what is found for the place reached, and the functions outwards over it, is what the definition has
      back : (i y : ℕ) → Down ws ns bs k p fs i y → AllStand fs i (answer y) × (outwards fs i (answer y) ≡ answer p)
      unfolding outwards AllStand
      back _ _ here = (tt, refl)
      back _ _ (deeper i n y d I e) =
          let f = get_or fs i 0 in
          let m = related_placed W q.nodes six up B (ready_names W bs q) y (end_placed p x fs (suc i) y (deeper i n y d I e)) in
          let s = over_grown f n I (answer y) m in
          let t : (answer y and-then over_function f) ≡ answer f = s.1
          ∙ (ap (λ O. O and-then push_functions (take n (parts_of (shape f)))) (ends.end_answers ws ns bs k q up (range_of f n) y
          (ends.range_placed ws ns bs k q up f n I (range_of f n) refl) e)
          ∙ sym (made_at_function W bs q up f f (ends.own_end ws ns bs k q up f (function_head n) (parts_of (shape f)) I.stands) n (parts_of (shape f)) I.stands)) in
          let ih = back i f d in
          ((s.0, subst (AllStand fs i) (sym t) ih.0), ap (outwards fs i) t ∙ ih.1)

      reached_end : (i y : ℕ) → Down ws ns bs k p fs i y → follow shape deep B y ≡ some y
      reached_end _ _ here = ends.own_end ws ns bs k q up p (function_head F.arguments) (parts_of (shape p)) F.function.stands
      reached_end _ _ (deeper i n y d I e) =
          ends.end_of_end ws ns bs k q up (range_of (get_or fs i 0) n) y
          (ends.range_placed ws ns bs k q up (get_or fs i 0) n I (range_of (get_or fs i 0) n) refl) e

      module _ (r : Last) (z : FinalRange ws ns bs k p fs r) (O : Makes (List ℕ)) (u : O ≡ related_head up r.range.0 W) where
        found : O ≡ answer r.range.0
        found = u ∙ by_head r.range.0 z.placed (reached_end r.count r.range.0 z.down) z.ends

        pub functions_stand : AllStand fs r.count O
        functions_stand = subst (AllStand fs r.count) (sym found) (back r.count r.range.0 z.down).0

        pub functions_related : outwards fs r.count O ≡ answer p
        functions_related = ap (outwards fs r.count) found ∙ (back r.count r.range.0 z.down).1

-- over no list, and where there is no room, stands nothing
outwards_none : (fs : List ℕ) (i : ℕ) (V : Lent) → outwards fs i (no_list V) ≡ no_list V
unfolding outwards
outwards_none fs zero V = refl
outwards_none fs (suc i) V = outwards_none fs i V

outwards_full : (fs : List ℕ) (i c : ℕ) (V : Lent) → outwards fs i (no_room c V) ≡ no_room c V
unfolding outwards
outwards_full fs zero c V = refl
outwards_full fs (suc i) c V = outwards_full fs i c V

pub over_no_list : (fs : List ℕ) (i : ℕ) (V : Lent) → no_list V ≡ outwards fs i (no_list V)
over_no_list fs i V = sym (outwards_none fs i V)

pub over_no_room : (fs : List ℕ) (i c : ℕ) (V : Lent) → no_room c V ≡ outwards fs i (no_room c V)
over_no_room fs i c V = sym (outwards_full fs i c V)

-- The loop back: over so many functions are left to go. O₀ was found, and O is left.
pub record Rising (fs : List ℕ) (count : ℕ) (O₀ : Makes (List ℕ)) (left : ℕ) (O : Makes (List ℕ)) : Type 0 where
  pub stand : AllStand fs left O
  pub same : outwards fs left O ≡ outwards fs count O₀
  pub within : left ≤ count

module _ (fs : List ℕ) (count : ℕ) (O₀ : Makes (List ℕ)) where
  module _ (left : ℕ) (O : Makes (List ℕ)) (s : Rising fs count O₀ left O) where
    pub risen : left ≡ 0 → O ≡ outwards fs count O₀
    unfolding outwards
    risen e = subst (λ (i : ℕ). outwards fs i O ≡ outwards fs count O₀) e s.same

    module _ (h : 0 < left) where
      one_left : left ≡ suc (left - 1)
      one_left = omega (arith, h)

      abbrev f : ℕ
      f = get_or fs (left - 1) 0

      next_stands : AllStand fs (suc (left - 1)) O
      next_stands = subst (λ (i : ℕ). AllStand fs i O) one_left s.stand

      pub function_asked : Stands f O
      unfolding AllStand
      function_asked = next_stands.0

      module _ (P : Makes (List ℕ)) (u : P ≡ (O and-then over_function f)) where
        further : outwards fs (left - 1) P ≡ outwards fs count O₀
        unfolding outwards
        further = ap (outwards fs (left - 1)) u ∙ subst (λ (i : ℕ). outwards fs i O ≡ outwards fs count O₀) one_left s.same

        pub rise_goes_on : Rising fs count O₀ (left - 1) P
        unfolding AllStand
        rise_goes_on =
            record {
              stand = subst (AllStand fs (left - 1)) (sym u) next_stands.1;
              same = further;
              within = omega (arith, s.within);
            }

        pub rise_ends : (c : ℕ) (V : Lent) → P ≡ no_room c V → no_room c V ≡ outwards fs count O₀
        rise_ends c V e = sym (outwards_full fs (left - 1) c V) ∙ subst (λ (Q : Makes (List ℕ)). outwards fs (left - 1) Q ≡ outwards fs count O₀) e further

-- The functions noted are the front of what was lent: over that slice, its length is their count.
front_outwards : (c : ℕ) (fs : List ℕ) (i : ℕ) (O : Makes (List ℕ)) → i ≤ c → outwards (take c fs) i O ≡ outwards fs i O
unfolding outwards
front_outwards c fs zero O l = refl
front_outwards c fs (suc i) O l =
    ap (λ (f : ℕ). outwards (take c fs) i (O and-then over_function f)) (get_or-take c fs i 0 l)
    ∙ front_outwards c fs i (O and-then over_function (get_or fs i 0)) (omega (arith, l))

front_stands : (c : ℕ) (fs : List ℕ) (i : ℕ) (O : Makes (List ℕ)) → i ≤ c → AllStand fs i O → AllStand (take c fs) i O
unfolding AllStand
front_stands c fs zero O l s = s
front_stands c fs (suc i) O l s =
    let e : get_or fs i 0 ≡ get_or (take c fs) i 0 = sym (get_or-take c fs i 0 l) in (
      subst (λ (f : ℕ). Stands f O) e s.0,
      subst (λ (f : ℕ). AllStand (take c fs) i (O and-then over_function f)) e (front_stands c fs i (O and-then over_function (get_or fs i 0)) (omega (arith, l)) s.1),
    )

pub slice_outwards : (c : ℕ) (fs : List ℕ) (O : Makes (List ℕ)) → c ≤ length fs → outwards (take c fs) (length (take c fs)) O ≡ outwards fs c O
slice_outwards c fs O h = ap (λ (i : ℕ). outwards (take c fs) i O) (length-take-le c fs h) ∙ front_outwards c fs c O (omega arith)

pub slice_stands : (c : ℕ) (fs : List ℕ) (O : Makes (List ℕ)) → c ≤ length fs → AllStand fs c O → AllStand (take c fs) (length (take c fs)) O
slice_stands c fs O h s = subst (λ (i : ℕ). AllStand (take c fs) i O) (sym (length-take-le c fs h)) (front_stands c fs c O (omega arith) s)
