-- Join and meet in a storage with room: room does not end, the answer is the join or meet of the two sorts, and the storage has grown by
-- it. By the laws of making, read off the callee's equation. Assumes nothing.
use mathlib.Core.Path.{◌≡◌, refl, sym, ◌∙◌, ap, subst}
use mathlib.Core.Bool.{Bool}
use mathlib.Core.List.{List}
use mathlib.Core.Option.{none, some}
use Rattle.std.specs.Prelude as Rust
use Rattle.std.specs.Prelude.{Result, Ok, Err}
use Rattle.std.specs.Result.{result_unwrap_or}
use Rattle.resolved_sort.specs.declared.NoRoom.{NoRoom}
use Prim.Native.Nat.{ℕ, ◌<◌, ◌≤◌}
use native.Mathlib.Omega.{arith}
use Rattle.resolved_sort.specs.declared.SortId.{SortId}
use Rattle.resolved_sort.specs.declared.Counts.{Counts}
use Rattle.resolved_sort.specs.Entries.{Joined}
use Rattle.resolved_sort.specs.Entries.{At, Nothing, Full}
use Rattle.resolved_sort.specs.Tree.{Tree}
use Rattle.resolved_sort.specs.Order.{bound}
use Rattle.resolved_sort.specs.Interning.{Sorts, Outcome, nothing, make}
use Rattle.resolved_sort.specs.Storage.{sorts_of}
use Rattle.resolved_sort.specs.Entries.{tree_at, counts_of, after, Stored, stored}
use Rattle.resolved_sort.specs.Rows.{Checked, stored_at, left_at}
use Rattle.resolved_sort.specs.Bounds.{bound_at}
use Rattle.resolved_sort.specs.Growing.{Grown, SortsKept, InTree, Answers}
use Rattle.resolved_sort.proofs.Grown.{grown_none}
use Rattle.resolved_sort.proofs.Kept.{make_kept}
use Rattle.resolved_sort.proofs.Stored.{look_whole}
use Rattle.resolved_sort.proofs.Made.{make_answers}
use Rattle.resolved_sort.proofs.Reached.{no_confusion, Reached, reached, stopped, ended, reached_checked, reached_below, reached_sort}
use Rattle.sort_text.specs.Text.{text}
use Rattle.pair_line.specs.PairProgram.{sort_or_none, none_text}
use Rattle.sort_text.specs.Readable.{size}
use Rattle.sort_text.proofs.WhatIsRead.{line_nodes}
use Rattle.sort_text.proofs.Sizes.{entries_of, entries_below_size, Spent, Within, AnyTree, make_within, make_not_full}
use Rattle.pair_line.specs.Inner.Room.{RoomGrows}
use Rattle.pair_line.specs.Room.{BoundRoom}
use Rattle.pair_line.proofs.Grows.{grows}

module _ (up : Bool) (ws : List ℕ) (n e a b : ℕ) (q : BoundRoom ws n e a b) where
  abbrev s : Tree
  s = tree_at ws n a

  abbrev t : Tree
  t = tree_at ws n b

  abbrev O : Outcome Tree
  O = make up s t (sorts_of ws n e)

  nodes : size s ≤ 200
  nodes = omega (arith, line_nodes q.of_line.bytes q.of_line.left s q.of_line.is, q.of_line.short)

  within : Within AnyTree (size s) (entries_of s) (sorts_of ws n e) O
  within = make_within up s t (sorts_of ws n e) (omega (arith, nodes, q.sorts)) (omega (arith, nodes, entries_below_size s, q.entries))

  kept : SortsKept ws n e InTree (sorts_of ws n e) O
  kept =
      make_kept ws n e up s t (sorts_of ws n e) (grown_none ws n e q.asked.checked) (look_whole ws n e q.asked.checked a q.asked.lhs)
      (look_whole ws n e q.asked.checked b q.asked.rhs)

  module _ (vs : List ℕ) (j : Joined) (f : stored_at vs j ≡ bound_at up ws n e a b) where
    as_stored : (x : Joined) → j ≡ x → stored_at vs x ≡ stored ws n e O
    unfolding bound_at
    as_stored x i = ap (stored_at vs) (sym i) ∙ f

    -- there is one
    module _ (u : SortId) (K : Counts) (i : j ≡ At u K) where
      abbrev r : Reached ws n e (sorts_of ws n e) O vs u K
      r = reached ws n e (sorts_of ws n e) O kept vs u K (as_stored (At u K) i)

      is_bound : bound up s t ≡ some r.sort
      unfolding Answers
      is_bound = subst (Answers (bound up s t)) r.is (make_answers up s t (sorts_of ws n e))

      spent : Spent (size s) (entries_of s) (sorts_of ws n e) r.sorts
      unfolding Within
      spent = (subst (Within AnyTree (size s) (entries_of s) (sorts_of ws n e)) r.is within).1

      pub bound_grows : RoomGrows ws n e vs K.sorts K.entries
      bound_grows = grows ws n e q.asked.checked r.sorts r.grown (size s) (entries_of s) spent nodes
          (omega (arith, nodes, entries_below_size s)) vs K r.words r.counted

      pub bound_text : text (tree_at vs K.sorts u.0) ≡ sort_or_none (bound up s t)
      bound_text = ap text (reached_sort ws n e (sorts_of ws n e) O vs u K r) ∙ sym (ap sort_or_none is_bound)

      pub bound_checked : Checked vs K.sorts K.entries
      bound_checked = reached_checked ws n e (sorts_of ws n e) O vs u K r

      pub bound_below : u.0 < K.sorts
      bound_below = reached_below ws n e (sorts_of ws n e) O vs u K r

    -- there is none
    module _ (K : Counts) (i : j ≡ Nothing K) where
      it : (S : Sorts) × (O ≡ nothing S) × (vs ≡ after ws n e S) × (K ≡ counts_of S)
      it = stopped ws n e O vs K (as_stored (Nothing K) i)

      is_none : bound up s t ≡ none
      unfolding Answers
      is_none = subst (Answers (bound up s t)) it.1 (make_answers up s t (sorts_of ws n e))

      none_spent : Spent (size s) (entries_of s) (sorts_of ws n e) it.0
      unfolding Within
      none_spent = subst (Within AnyTree (size s) (entries_of s) (sorts_of ws n e)) it.1 within

      none_grown : Grown ws n e it.0
      unfolding SortsKept
      none_grown = (subst (SortsKept ws n e InTree (sorts_of ws n e)) it.1 kept).0

      pub none_grows : RoomGrows ws n e vs K.sorts K.entries
      none_grows = grows ws n e q.asked.checked it.0 none_grown (size s) (entries_of s) none_spent nodes
          (omega (arith, nodes, entries_below_size s)) vs K it.2 it.3

      pub none_is : none_text ≡ sort_or_none (bound up s t)
      none_is = sym (ap sort_or_none is_none)

    -- room does not end
    pub not_full : j ≡ Full → ⊥
    not_full i =
        let x = ended ws n e O vs (as_stored Full i) in
        make_not_full up s t (sorts_of ws n e) x.0 (omega (arith, nodes, q.sorts)) (omega (arith, nodes, q.entries)) x.1

-- what is answered, where room does not end
module _ (vs : List ℕ) (K : Counts) {W : Stored} where
  some_answered : (r : Result (Rust.Option SortId) NoRoom) {u : SortId} → result_unwrap_or r Rust.None ≡ Rust.Some u → left_at vs K r ≡ W → stored_at vs (At u K) ≡ W
  some_answered (Ok x) e f = ap (λ y. left_at vs K (Ok y)) (sym e) ∙ f
  some_answered (Err x) e f = no_confusion (cc)

  none_answered : (r : Result (Rust.Option SortId) NoRoom) → result_unwrap_or r Rust.None ≡ Rust.None → left_at vs K r ≡ W → (stored_at vs Full ≡ W → ⊥)
      → stored_at vs (Nothing K) ≡ W
  none_answered (Ok x) e f h = ap (λ y. left_at vs K (Ok y)) (sym e) ∙ f
  none_answered (Err x) e f h = absurd (h f)

module _ (up : Bool) (ws : List ℕ) (n e a b : ℕ) (q : BoundRoom ws n e a b) (vs : List ℕ) (K : Counts) (r : Result (Rust.Option SortId) NoRoom)
    (f : left_at vs K r ≡ bound_at up ws n e a b) where
  -- a bound is made
  pub record Made (u : SortId) : Type 0 where
    pub checked : Checked vs K.sorts K.entries
    pub below : u.0 < K.sorts
    pub is : text (tree_at vs K.sorts u.0) ≡ sort_or_none (bound up (tree_at ws n a) (tree_at ws n b))
    pub grows : RoomGrows ws n e vs K.sorts K.entries

  pub some_made : {x : Rust.Option SortId} → x ≡ result_unwrap_or r Rust.None → {u : SortId} → x ≡ Rust.Some u → Made u
  some_made i {u} w =
      let g = some_answered vs K r (sym i ∙ w) f in
      record {
        checked = bound_checked up ws n e a b q vs (At u K) g u K refl;
        below = bound_below up ws n e a b q vs (At u K) g u K refl;
        is = bound_text up ws n e a b q vs (At u K) g u K refl;
        grows = bound_grows up ws n e a b q vs (At u K) g u K refl;
      }

  -- or none
  pub none_made : {x : Rust.Option SortId} → x ≡ result_unwrap_or r Rust.None → x ≡ Rust.None
      → (none_text ≡ sort_or_none (bound up (tree_at ws n a) (tree_at ws n b))) × RoomGrows ws n e vs K.sorts K.entries
  none_made i w =
      let g = none_answered vs K r (sym i ∙ w) f (λ h. not_full up ws n e a b q vs Full h refl) in
      (none_is up ws n e a b q vs (Nothing K) g K refl, none_grows up ws n e a b q vs (Nothing K) g K refl)
