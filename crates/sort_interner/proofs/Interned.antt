-- A row appended, and a row interned, at each way through the code. Assumes nothing.
use mathlib.Core.Path.{◌≡◌, refl, sym, ap, subst, ◌∙◌}
use mathlib.Core.Bool.{Bool, true, false, cond}
use mathlib.Core.List.{List}
use Prim.Native.Nat.{ℕ, ◌+◌, ◌<◌, ◌≤◌}
use native.Mathlib.Omega.{arith}
use lib.ListN.{length}
use lib.Seq.{sets}
use lib.Dec.{eqb}
use borrow.Author.Tests.{lt-ltb, le-ltb, le-leb, lt-leb}
use Rattle.std.specs.Prelude.{Option, Some, None, Ok}
use Rattle.resolved_sort.specs.declared.SortId.{SortId}
use Rattle.resolved_sort.specs.declared.Counts.{Counts}
use Rattle.resolved_sort.specs.Entries.{At, Full}
use Rattle.resolved_sort.specs.Storage.{function_kind, entries_at, put_row, append_row, Row}
use Rattle.resolved_sort.specs.Rows.{Checked, stored_at, interned_at, intern_row, found_row}
use Rattle.resolved_sort.specs.Index.{lookup, entered, Indexed}
use Rattle.resolved_sort.proofs.IndexTwice.{lookup_is_scan}
use Rattle.resolved_sort.proofs.IndexAppend.{indexed_after_append}
use Rattle.resolved_sort.specs.Inner.Storage.{sort_numbers}
use Rattle.resolved_sort.proofs.SortNumbers.{length_sort_numbers}
use Rattle.resolved_sort.proofs.Reached.{no_confusion}
use Rattle.sort_interner.specs.Inner.Tests.{given_row}

was_found : (b : Bool) (s : SortId) (o : Option SortId) (at : SortId) → o ≡ cond b (Some s) None → o ≡ Some at → (b ≡ true) × (s ≡ at)
was_found true s o at e f = let g : Some s ≡ Some at = sym e ∙ f in (refl, cc)
was_found false s o at e f = let g : None ≡ Some at = sym e ∙ f in no_confusion (cc)

was_not_found : (b : Bool) (s : SortId) (o : Option SortId) → o ≡ cond b (Some s) None → o ≡ None → b ≡ false
was_not_found true s o e f = let g : Some s ≡ None = sym e ∙ f in no_confusion (cc)
was_not_found false s o e f = refl

module _ (kind : ℕ) (part : SortId) (args : List SortId) where
  abbrev row : Row
  row = given_row kind part args

  pub row_appended : (ws : List ℕ) (n e s c : ℕ) → s ≡ cond (eqb kind function_kind) e 0 → c ≡ length args
      → (vs : List ℕ) → vs ≡ put_row ws n kind part.0 s c → (us : List ℕ) → us ≡ sets vs (entries_at + e) (sort_numbers args)
      → us ≡ append_row ws n e row
  unfolding append_row
  row_appended ws n e s c es ec vs ev us eu = rw (length_sort_numbers args, ← es, ← ec, ← ev) eu

  module _ (ws : List ℕ) (k : Counts) (fine : Checked ws k.sorts k.entries) (ix : List ℕ) (held : Indexed ws k.sorts ix) (o : Option SortId)
      (l : o ≡ lookup ws ix row) where
    -- what the lookup gives is what the scan gives
    e : o ≡ found_row ws k.sorts row
    e = l ∙ lookup_is_scan ws ix k.sorts k.entries fine held row

    pub interned_found : (at : SortId) → o ≡ Some at → interned_at ws k (Ok at) ≡ intern_row ws k.sorts k.entries row
    unfolding intern_row
    interned_found at f = let h = was_found _ _ o at e f in rw h.0 (ap (λ i. stored_at ws (At i k)) (sym h.1))

    module _ (none : o ≡ None) where
      pub no_room_for_rows : 1024 ≤ k.sorts → stored_at ws Full ≡ intern_row ws k.sorts k.entries row
      unfolding intern_row
      no_room_for_rows h = rw (was_not_found _ _ o e none, le-ltb k.sorts 1024 h)

      module _ (h : k.sorts < 1024) where
        pub no_room_for_entries : 4096 < k.entries + length args → stored_at ws Full ≡ intern_row ws k.sorts k.entries row
        unfolding intern_row
        no_room_for_entries l = rw (was_not_found _ _ o e none, lt-ltb k.sorts 1024 h, length_sort_numbers args, lt-leb (k.entries + length args) 4096 l)

        stored_new : k.entries + length args ≤ 4096 → (vs : List ℕ) → vs ≡ append_row ws k.sorts k.entries row
            → stored_at vs (At (record { 0 = k.sorts }) (record { sorts = k.sorts + 1; entries = k.entries + length args }))
            ≡ intern_row ws k.sorts k.entries row
        unfolding intern_row
        stored_new l vs a = rw (was_not_found _ _ o e none, lt-ltb k.sorts 1024 h, length_sort_numbers args, le-leb (k.entries + length args) 4096 l, a)

        pub interned_new : k.entries + length args ≤ 4096 → (vs : List ℕ) → vs ≡ append_row ws k.sorts k.entries row
            → (n : Counts) → n ≡ record { sorts = k.sorts + 1; entries = k.entries + length args }
            → (id : SortId) → id.0 ≡ k.sorts → interned_at vs n (Ok id) ≡ intern_row ws k.sorts k.entries row
        interned_new l vs a n en id ei = (λ i. stored_at vs (At (record { 0 = ei i }) (en i))) ∙ stored_new l vs a

  -- the new row is entered, so that the index is again that of the rows
  pub indexed_new : (ws : List ℕ) (k : Counts) → Checked ws k.sorts k.entries → (ix : List ℕ) → Indexed ws k.sorts ix → k.sorts < 1024
      → k.entries + length args ≤ 4096 → (vs : List ℕ) → vs ≡ append_row ws k.sorts k.entries row → (jx : List ℕ) → jx ≡ entered vs ix k.sorts
      → (n : Counts) → n ≡ record { sorts = k.sorts + 1; entries = k.entries + length args } → Indexed vs n.sorts jx
  indexed_new ws k fine ix held h l vs a jx e n en =
      subst (λ (c : Counts). Indexed vs c.sorts jx) (sym en)
      (indexed_after_append ws k.sorts k.entries row fine h (omega (arith, length_sort_numbers args)) ix held vs jx a e)
