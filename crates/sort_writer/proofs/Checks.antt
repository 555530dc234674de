-- The checks of writing, as the tests find the first that fails, and what it means that none fails. Assumes nothing.
use mathlib.Core.Path.{◌≡◌, refl, sym, ◌∙◌, subst}
use mathlib.Core.Bool.{Bool, true, false, cond, ◌&&◌, and-eq-true_iff}
use mathlib.Core.List.{List, [], ◌∷◌, ◌++◌}
use Prim.Native.Nat.{ℕ, ◌-◌, ◌*◌, ◌<◌, ◌≤◌}
use native.Mathlib.Omega.{arith}
use native.Mathlib.Decide.{dec_le}
use lib.ListN.{length, get_or, drop, replicate, length-replicate}
use lib.Dec.{leb}
use borrow.Author.Tests.{ltb-true, leb-true, lt-ltb, le-ltb, le-leb, lt-leb}
use Rattle.resolved_sort.specs.declared.Counts.{Counts}
use Rattle.resolved_sort.specs.declared.Refusal.{Refusal}
use Rattle.resolved_sort.specs.declared.Refusal.TheVariants.{NotInList, NoText, TooShort}
use Rattle.resolved_sort.specs.Checks.{Tested}
use Rattle.std.specs.Prelude.{Ok, Err}
use Rattle.resolved_sort.specs.Storage.{max_sorts, max_entries, full_length, entries_at}
use Rattle.resolved_sort.specs.Checks.{Check, first_failing, sort_checks, within_lent, rows_fine, no_two_equal, in_list, at_ceiling}
use Rattle.resolved_sort.specs.Entries.{refused_or, tree_at}
use Rattle.resolved_sort.specs.Rows.{Checked}
use Rattle.resolved_sort.specs.Growing.{ListFine}
use Rattle.resolved_sort.proofs.FirstFailing.{first_fails, first_passes, append_fails, append_passes, cons_passes}
use Rattle.sort_text.specs.Text.{writable, text}
use Rattle.sort_text.specs.Writing.{write_checks, write_left, writing}
use Rattle.sort_writer.specs.Inner.Sizes.{most_size, capped, size_if, sized, sizes_to}
use Rattle.text_out.specs.Put.{Put}
use Rattle.sort_writer.proofs.Front.{put_front}
use Rattle.sort_writer.proofs.Sizes.{capped_short, capped_long, text_some}
use Rattle.sort_writer.proofs.Fills.{sizes_right}

-- what checks 1 to 4 show
within : (ws : List ℕ) (n e : ℕ) → within_lent ws n e ≡ true → (n ≤ max_sorts) × (e ≤ max_entries)
unfolding within_lent
within ws n e x =
    let p = (and-eq-true_iff (leb n max_sorts && leb e max_entries && leb (4 * n) (length ws)) (leb e (length ws - entries_at))).0 x in
    let q = (and-eq-true_iff (leb n max_sorts && leb e max_entries) (leb (4 * n) (length ws))).0 p.0 in
    let r = (and-eq-true_iff (leb n max_sorts) (leb e max_entries)).0 q.0 in
    (leb-true n max_sorts r.0, leb-true e max_entries r.1)

module _ (ws : List ℕ) (n e : ℕ) (x : first_failing (sort_checks ws n e) ≡ Ok tt) where
  chain : (within_lent ws n e ≡ true) × (rows_fine ws n e ≡ true) × (no_two_equal ws n ≡ true)
  unfolding sort_checks
  chain =
      let c₁ = cons_passes _ _ x in
      let c₂ = cons_passes _ _ c₁.1 in
      let c₃ = cons_passes _ _ c₂.1 in
      let c₄ = cons_passes _ _ c₃.1 in
      (c₁.0, c₃.0, c₄.0)

  in_order : ListFine ws n e
  in_order = record { fine = chain.1; differ = chain.2 }

-- a size is 0 exactly where there is no text, and else it is the length as far as 2^63
module _ (b : Bool) (l : ℕ) (h : b ≡ true → 0 < l) where
  size_none : size_if b l ≡ 0 → b ≡ false
  unfolding size_if
  size_none = go b h
    where
      go : (b : Bool) → (b ≡ true → 0 < l) → cond b (capped l) 0 ≡ 0 → b ≡ false
      go true h z = absurd (by (dec_le l most_size))
        where
          by : Dec (l ≤ most_size) → ⊥
          by (yes d) = omega (arith, capped_short l d, h refl)
          by (no d) = omega (arith, capped_long l (omega arith))
      go false h z = refl

size_some : (b : Bool) (l : ℕ) → (size_if b l ≡ 0 → ⊥) → (b ≡ true) × (size_if b l ≡ capped l)
unfolding size_if
size_some true l h = (refl, refl)
size_some false l h = absurd (h refl)

capped_above : (l m : ℕ) → m < capped l → m < l
capped_above l m h = go (dec_le l most_size)
  where
    go : Dec (l ≤ most_size) → m < l
    go (yes d) = omega (arith, capped_short l d)
    go (no d) = omega (arith, capped_long l (omega arith))

capped_within : (l m : ℕ) → m < most_size → capped l ≤ m → l ≤ m
capped_within l m h g = go (dec_le l most_size)
  where
    go : Dec (l ≤ most_size) → l ≤ m
    go (yes d) = omega (arith, capped_short l d)
    go (no d) = absurd (omega (arith, capped_long l (omega arith)))

-- the tests one after another
module _ (ws : List ℕ) (n e a : ℕ) (out : List ℕ) where
  abbrev twelve : Check
  twelve = record { refusal = NotInList; passes = in_list n a }

  abbrev thirteen : Check
  thirteen = record { refusal = NoText; passes = writable (tree_at ws n a) }

  abbrev fourteen : Check
  fourteen = record { refusal = TooShort; passes = at_ceiling ws && leb (length (text (tree_at ws n a))) (length out) }

  pub sorts_fail : (c : Refusal) → Err c ≡ first_failing (sort_checks ws n e) → Err c ≡ first_failing (write_checks ws n e a out)
  unfolding write_checks
  sorts_fail c r = sym (append_fails (sort_checks ws n e) (twelve ∷ thirteen ∷ fourteen ∷ []) c (sym r))

  module _ (p : Ok tt ≡ first_failing (sort_checks ws n e)) where
    pub few_sorts : n ≤ max_sorts
    few_sorts = (within ws n e (chain ws n e (sym p)).0).0

    past_sorts : first_failing (write_checks ws n e a out) ≡ first_failing (twelve ∷ thirteen ∷ fourteen ∷ [])
    unfolding write_checks
    past_sorts = append_passes (sort_checks ws n e) (twelve ∷ thirteen ∷ fourteen ∷ []) (sym p)

    pub not_in_list : n ≤ a → Err NotInList ≡ first_failing (write_checks ws n e a out)
    unfolding in_list
    not_in_list h = sym (past_sorts ∙ first_fails twelve _ (le-ltb a n h))

    module _ (ha : a < n) {size : ℕ} (es : size ≡ get_or (sizes_to ws (replicate 1024 0) n) a 0) where
      past_12 : first_failing (write_checks ws n e a out) ≡ first_failing (thirteen ∷ fourteen ∷ [])
      unfolding in_list
      past_12 = past_sorts ∙ first_passes twelve _ (lt-ltb a n ha)

      size_is : size ≡ size_if (writable (tree_at ws n a)) (length (text (tree_at ws n a)))
      unfolding sized
      size_is =
          es ∙ sizes_right ws (replicate 1024 0) n e (in_order ws n e (sym p))
          (omega (arith, few_sorts, length-replicate {A = ℕ} 1024 0)) n (omega arith) a ha

      pub no_text : size ≡ 0 → Err NoText ≡ first_failing (write_checks ws n e a out)
      no_text z = sym (past_12 ∙ first_fails thirteen _ (size_none _ _ (text_some (tree_at ws n a)) (sym size_is ∙ z)))

      module _ (z : size ≡ 0 → ⊥) where
        written_size : (writable (tree_at ws n a) ≡ true) × (size ≡ capped (length (text (tree_at ws n a))))
        written_size = let w = size_some _ _ (λ q. z (size_is ∙ q)) in (w.0, size_is ∙ w.1)

        past_13 : first_failing (write_checks ws n e a out) ≡ first_failing (fourteen ∷ [])
        past_13 = past_12 ∙ first_passes thirteen _ written_size.0

        pub storage_short : length ws < full_length → Err TooShort ≡ first_failing (write_checks ws n e a out)
        unfolding at_ceiling
        storage_short h = sym (past_13 ∙ first_fails fourteen _ (rw (lt-leb full_length (length ws) h)))

        module _ (hw : full_length ≤ length ws) where
          pub text_long : length out < size → Err TooShort ≡ first_failing (write_checks ws n e a out)
          unfolding at_ceiling
          text_long h =
              sym
              (past_13
              ∙ first_fails fourteen _
              (rw (le-leb full_length (length ws) hw, lt-leb (length (text (tree_at ws n a))) (length out) (capped_above _ _ (omega (arith, written_size.1))))))

          pub all_pass : size ≤ length out → length out < most_size → Ok tt ≡ first_failing (write_checks ws n e a out)
          unfolding at_ceiling first_failing
          all_pass h m =
              sym
              (past_13
              ∙ first_passes fourteen []
              (rw (
                le-leb full_length (length ws) hw,
                le-leb (length (text (tree_at ws n a))) (length out)
                    (capped_within _ _ m (omega (arith, written_size.1))),
              )))

-- a sort of a checked list, whose text has room
pub record SortRoom (ws : List ℕ) (n e a : ℕ) (out : List ℕ) : Type 0 where
  pub checked : Checked ws n e
  pub below : a < n
  pub room : length (text (tree_at ws n a)) ≤ length out

-- what the entry answers
module _ (ws : List ℕ) (n e a : ℕ) (out : List ℕ) (t : Tested) (et : t ≡ first_failing (write_checks ws n e a out)) where
  pub refused : (c : Refusal) → t ≡ Err c → write_left out (Err c) ≡ writing ws n e a out
  unfolding writing
  refused c r = rw (sym et ∙ r)

  module _ (p : t ≡ Ok tt) where
    none_fails : first_failing (write_checks ws n e a out) ≡ Ok tt
    none_fails = sym et ∙ p

    pub has_room : SortRoom ws n e a out
    unfolding write_checks sort_checks in_list at_ceiling
    has_room =
        let c₁ = cons_passes _ _ none_fails in
        let c₂ = cons_passes _ _ c₁.1 in
        let c₃ = cons_passes _ _ c₂.1 in
        let c₄ = cons_passes _ _ c₃.1 in
        let c₅ = cons_passes _ _ c₄.1 in
        let c₆ = cons_passes _ _ c₅.1 in
        let c₇ = cons_passes _ _ c₆.1 in
        let r = (and-eq-true_iff (leb full_length (length ws)) (leb (length (text (tree_at ws n a))) (length out))).0 c₇.0 in
        let w = within ws n e c₁.0 in
        record {
          checked = record { long = leb-true full_length (length ws) r.0; sorts = w.0; entries = w.1; fine = c₃.0; differ = c₄.0 };
          below = ltb-true a n c₅.0;
          room = omega (arith, leb-true (length (text (tree_at ws n a))) (length out) r.1);
        }

    pub answered : {left : List ℕ} {r : ℕ} → Put out 0 (text (tree_at ws n a)) left r → write_left left (Ok r) ≡ writing ws n e a out
    unfolding writing
    answered h = rw none_fails (put_front (omega (arith, has_room.room)) h)

    -- with the counts that the tests answered
    module _ (k : Counts) (sorts_given : k.sorts ≡ n) (entries_given : k.entries ≡ e) where
      pub room_with : SortRoom ws k.sorts k.entries a out
      room_with =
          subst (λ i. SortRoom ws i k.entries a out) (sym sorts_given) (subst (λ j. SortRoom ws n j a out) (sym entries_given) has_room)

      pub answered_with : {left : List ℕ} {r : ℕ} → Put out 0 (text (tree_at ws k.sorts a)) left r
          → write_left left (Ok r) ≡ writing ws n e a out
      answered_with {left} {r} h = answered (subst (λ i. Put out 0 (text (tree_at ws i a)) left r) sorts_given h)

-- a text that was written fits the buffer, so its length is below 2^63 and no packed refusal
pub text_fits : (ws : List ℕ) (n e a : ℕ) (out : List ℕ) (l : ℕ) → (writing ws n e a out).answer ≡ Ok l → l ≤ length out
unfolding writing
text_fits ws n e a out l h = go (first_failing (write_checks ws n e a out)) refl h
  where
    go : (x : Tested) → first_failing (write_checks ws n e a out) ≡ x
        → (refused_or x (λ c. write_left out (Err c)) (write_left (text (tree_at ws n a) ++ drop
        (length (text (tree_at ws n a))) out) (Ok (length (text (tree_at ws n a)))))).answer ≡ Ok l
        → l ≤ length out
    go (Ok u) e₁ q = let z : length (text (tree_at ws n a)) ≡ l = cc in omega (arith, (has_room ws n e a out (Ok tt) (sym e₁) refl).room)
    go (Err c) e₁ q = let z : ◌≡◌ {A = ℕ} 0 1 = cc in absurd (omega arith)
