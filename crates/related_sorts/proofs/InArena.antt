-- The laws of ends and of functions, said of an arena and of the bindings that it lent. Assumes nothing.
use mathlib.Core.Path.{◌≡◌, refl, sym, ap, ◌∙◌}
use mathlib.Core.Bool.{Bool, true, false}
use mathlib.Core.List.{List}
use mathlib.Core.Option.{some}
use Prim.Native.Nat.{ℕ, ◌≤◌}
use lib.ListN.{length, take}
use lib.Dec.{eqb}
use Rattle.std.specs.Prelude.{Option as Found, Some, None, Result, Ok, Err}
use Rattle.resolved_sort.specs.Storage.{function_kind}
use Rattle.unification.specs.declared.Full.{Full}
use Rattle.unification.specs.Term.{kind_head}
use Rattle.unification.specs.Inner.Term.{head_of}
use Rattle.unification.specs.Nodes.{binds_of}
use Rattle.unification.specs.Checked.{graph_of}
use Rattle.unification.specs.Unify.{follow, deep}
use Rattle.unification.specs.Making.{Lent, Makes, made, no_list, no_room, strict_related}
use Rattle.infer_nodes.specs.declared.Places.{Places}
use Rattle.infer_nodes.specs.declared.Bindings.{Bindings}
use Rattle.infer_nodes.specs.Places.{graph, bindings}
use Rattle.related_sorts.specs.declared.Arena.{Arena}
use Rattle.related_sorts.specs.declared.Last.{Last}
use Rattle.related_sorts.specs.declared.listing.Listed.{Listed}
use Rattle.related_sorts.specs.Listed.{places}
use Rattle.related_sorts.specs.Arena.{world, ReadyIn, PlacedIn, BindingsOf}
use Rattle.related_sorts.specs.Inner.Outcome.{FunctionAt, no_room_in, listed}
use Rattle.related_sorts.specs.Inner.Ranges.{SixThere, related_head, FinalRange, AllStand, outwards}
use Rattle.related_sorts.proofs.Lent.{end_there, final_there, kind_there}
use Rattle.related_sorts.proofs.Ends as ends
use Rattle.related_sorts.proofs.Ranges as ranges

module _ (A : Arena) (bs : List ℕ) (q : ReadyIn A bs) (up : Bool) where
  abbrev answer : ℕ → Makes (List ℕ)
  answer p = strict_related up (binds_of bs A.lengths.variables) p (world A)

  -- the end of a place
  module _ (p : ℕ) (i : PlacedIn A p) (B : Bindings) (e : BindingsOf A bs B) (end : ℕ) (f : follow (graph B.places) deep (bindings B) p ≡ some end) where
    there : follow (graph_of A.sorts.now A.nodes.now A.lengths) deep (binds_of bs A.lengths.variables) p ≡ some end
    there = end_there A bs B e p (some end) f

    pub end_placed : PlacedIn A end
    end_placed = ends.end_placed A.sorts.now A.nodes.now bs A.lengths q up p end i there

    pub end_answers : answer end ≡ answer p
    end_answers = ends.end_answers A.sorts.now A.nodes.now bs A.lengths q up p end i there

    module _ (P : Places) (same : (P.sorts.now ≡ A.sorts.now) × (P.nodes.now ≡ A.nodes.now) × (P.lengths ≡ A.lengths)) {b : Bool}
        (told : b ≡ eqb (kind_head (head_of (graph P end))) function_kind) where
      pub function_at_end : b ≡ true → FunctionAt A.sorts.now A.nodes.now A.lengths end
      function_at_end t =
          ranges.function_by_kind A.sorts.now A.nodes.now bs A.lengths q end _ end_placed refl
          (ranges.function_told _ b (kind_there A P same end b told) t)

      pub head_at_end : b ≡ false → related_head up end (world A) ≡ answer p
      head_at_end t =
          ranges.by_head A.sorts.now A.nodes.now bs A.lengths q up end end_placed
          (ends.end_of_end A.sorts.now A.nodes.now bs A.lengths q up p end i there)
          (ranges.other_told _ b (kind_there A P same end b told) t)
          ∙ end_answers

  -- a function: what was found for its final range, and the functions over it
  module _ (six : SixThere A.lengths) (p : ℕ) (F : FunctionAt A.sorts.now A.nodes.now A.lengths p) (B : Bindings) (e : BindingsOf A bs B)
      (fs : List ℕ) (r : Last) (z : FinalRange B.places.sorts.now B.places.nodes.now B.binds.now B.places.lengths p fs r)
      (W : Lent) (x : Result (Found Listed) Full) (found : listed x W ≡ related_head up r.range.0 (world A)) where
    final : FinalRange A.sorts.now A.nodes.now bs A.lengths p fs r
    final = final_there A bs B e p fs r z

    related : {y : Result (Found Listed) Full} → x ≡ y → outwards fs r.count (listed y W) ≡ answer p
    related {y} w =
        ranges.functions_related A.sorts.now A.nodes.now bs A.lengths q up six p F fs r final (listed y W) (ap (λ v. listed v W) (sym w) ∙ found)

    pub no_room_for_ranges : {y : Full} → x ≡ Err y → no_room (no_room_in y) W ≡ answer p
    no_room_for_ranges {y} w = ranges.over_no_room fs r.count (no_room_in y) W ∙ related w

    module _ {o : Found Listed} (w : x ≡ Ok o) where
      pub no_ranges : o ≡ None → no_list W ≡ answer p
      no_ranges v = ranges.over_no_list fs r.count W ∙ related (w ∙ ap Ok v)

      module _ {l : Listed} (v : o ≡ Some l) (few : r.count ≤ length fs) where
        pub functions_stand : AllStand (take r.count fs) (length (take r.count fs)) (made (places l) W)
        functions_stand =
            ranges.slice_stands r.count fs (made (places l) W) few
            (ranges.functions_stand A.sorts.now A.nodes.now bs A.lengths q up six p F fs r final (made (places l) W)
            (ap (λ y. listed y W) (sym (w ∙ ap Ok v)) ∙ found))

        pub functions_over_ranges : outwards (take r.count fs) (length (take r.count fs)) (made (places l) W) ≡ answer p
        functions_over_ranges = ranges.slice_outwards r.count fs (made (places l) W) few ∙ related (w ∙ ap Ok v)
