-- The first failing check, as the tests of an entry find it one after another, and what it means that none fails.
-- Assumes nothing.
use mathlib.Core.Path.{◌≡◌, refl, sym, ◌∙◌, ap, ap₂, subst}
use mathlib.Core.Bool.{Bool, true, ◌&&◌, and-eq-true_iff}
use mathlib.Core.List.{List, [], ◌∷◌, ◌++◌}
use Prim.Native.Nat.{ℕ, ◌-◌, ◌*◌, ◌<◌, ◌≤◌}
use lib.ListN.{length, replicate}
use lib.Dec.{leb, ltb}
use borrow.Author.Tests.{ltb-true, leb-true, lt-ltb, le-ltb, le-leb, lt-leb}
use Rattle.resolved_sort.specs.declared.Refusal.TheVariants.{NotInList, TooShort}
use Rattle.resolved_sort.specs.Checks.{Tested}
use Rattle.std.specs.Prelude.{Option, Some, None, Result, Ok, Err}
use Rattle.resolved_sort.specs.declared.NoRoom.{NoRoom}
use Rattle.resolved_sort.specs.declared.SortId.{SortId}
use Rattle.resolved_sort.specs.declared.Refusal.{Refusal}
use Rattle.resolved_sort.specs.declared.Refusal.TheVariants.{SortsFull}
use Rattle.resolved_sort.specs.declared.Counts.{Counts}
use Rattle.resolved_sort.specs.Tree.{Tree}
use Rattle.resolved_sort.specs.Interning.{Outcome, made, nothing, full, make}
use Rattle.resolved_sort.specs.Storage.{max_sorts, max_entries, full_length, entries_at, sorts_of, given_back}
use Rattle.resolved_sort.specs.Checks.{within_lent, rows_fine, no_two_equal, in_list, at_ceiling, Check, first_failing, sort_checks, pair_checks}
use Rattle.resolved_sort.specs.Entries.{refused_or, tree_at, Stored, stored}
use Rattle.resolved_sort.specs.JoinMeet.{bound_checks, Bounded, sorts_left, sorts_left_by, bounded}
use Rattle.resolved_sort.specs.Index.{slots, index_long}
use Rattle.resolved_sort.specs.Rows.{Checked, left_at}
use Rattle.resolved_sort.specs.Bounds.{Asked, bound_at}
use Rattle.resolved_sort.proofs.FirstFailing.{first_fails, first_passes, append_fails, append_passes, cons_passes}
use Rattle.resolved_sort.proofs.Reached.{no_confusion}
use Rattle.resolved_sort.proofs.Grown.{grown_none}
use Rattle.resolved_sort.specs.Growing.{SortsKept, InTree}
use Rattle.resolved_sort.proofs.Kept.{make_kept}
use Rattle.resolved_sort.proofs.Stored.{look_whole}
use Rattle.resolved_sort.proofs.GivenBack.{made_is_given_back}
use Rattle.sort_entries.specs.Inner.Kept.{pair_tested, kept_or_given_back}

module _ (ws : List ℕ) (n e a b : ℕ) (x : first_failing (pair_checks ws n e a b) ≡ Ok tt) where
  chain : (within_lent ws n e ≡ true) × (rows_fine ws n e ≡ true) × (no_two_equal ws n ≡ true) × ((in_list n a && in_list n b) ≡ true) × (at_ceiling ws ≡ true)
  unfolding pair_checks sort_checks
  chain =
      let c₁ = cons_passes _ _ x in
      let c₂ = cons_passes _ _ c₁.1 in
      let c₃ = cons_passes _ _ c₂.1 in
      let c₄ = cons_passes _ _ c₃.1 in
      let c₅ = cons_passes _ _ c₄.1 in
      let c₆ = cons_passes _ _ c₅.1 in
      (c₁.0, c₃.0, c₄.0, c₅.0, c₆.0)

  within : (n ≤ max_sorts) × (e ≤ max_entries)
  unfolding within_lent
  within =
      let p = (and-eq-true_iff (leb n max_sorts && leb e max_entries && leb (4 * n) (length ws)) (leb e (length ws - entries_at))).0 chain.0 in
      let q = (and-eq-true_iff (leb n max_sorts && leb e max_entries) (leb (4 * n) (length ws))).0 p.0 in
      let r = (and-eq-true_iff (leb n max_sorts) (leb e max_entries)).0 q.0 in
      (leb-true n max_sorts r.0, leb-true e max_entries r.1)

  pub sorts_asked : Asked ws n e a b
  unfolding in_list at_ceiling
  sorts_asked =
      let i = (and-eq-true_iff (ltb a n) (ltb b n)).0 chain.3 in
      record {
        checked = record { long = leb-true full_length (length ws) chain.4; sorts = within.0; entries = within.1; fine = chain.1; differ = chain.2 };
        lhs = ltb-true a n i.0;
        rhs = ltb-true b n i.1;
      }

-- checks 12 and 14, after 1 to 4
module _ (ws : List ℕ) (n e a b : ℕ) where
  abbrev twelve : Check
  twelve = record { refusal = NotInList; passes = in_list n a && in_list n b }

  abbrev fourteen : Check
  fourteen = record { refusal = TooShort; passes = at_ceiling ws }

  refused_by : (r : Refusal) → first_failing (pair_checks ws n e a b) ≡ Err r → Err r ≡ pair_tested ws n e a b
  unfolding pair_tested
  refused_by r q = rw q

  pub sorts_fail : (c : Refusal) → Err c ≡ first_failing (sort_checks ws n e) → Err c ≡ pair_tested ws n e a b
  unfolding pair_checks
  sorts_fail c q = refused_by c (append_fails (sort_checks ws n e) (twelve ∷ fourteen ∷ []) c (sym q))

  module _ (p : Ok tt ≡ first_failing (sort_checks ws n e)) where
    past_sorts : first_failing (pair_checks ws n e a b) ≡ first_failing (twelve ∷ fourteen ∷ [])
    unfolding pair_checks
    past_sorts = append_passes (sort_checks ws n e) (twelve ∷ fourteen ∷ []) (sym p)

    pub lhs_fails : n ≤ a → Err NotInList ≡ pair_tested ws n e a b
    unfolding in_list
    lhs_fails h = refused_by NotInList (past_sorts ∙ first_fails twelve _ (rw (le-ltb a n h)))

    module _ (ha : a < n) where
      pub rhs_fails : n ≤ b → Err NotInList ≡ pair_tested ws n e a b
      unfolding in_list
      rhs_fails h = refused_by NotInList (past_sorts ∙ first_fails twelve _ (rw (lt-ltb a n ha, le-ltb b n h)))

      module _ (hb : b < n) where
        past_12 : first_failing (pair_checks ws n e a b) ≡ first_failing (fourteen ∷ [])
        unfolding in_list
        past_12 = past_sorts ∙ first_passes twelve _ (rw (lt-ltb a n ha, lt-ltb b n hb))

        pub length_fails : length ws < full_length → Err TooShort ≡ pair_tested ws n e a b
        unfolding at_ceiling
        length_fails h = refused_by TooShort (past_12 ∙ first_fails fourteen _ (lt-leb full_length (length ws) h))

        module _ (h : full_length ≤ length ws) where
          none_failed : first_failing (pair_checks ws n e a b) ≡ Ok tt
          unfolding at_ceiling first_failing
          none_failed = past_12 ∙ first_passes fourteen [] (le-leb full_length (length ws) h)

          pub all_pass : Ok (record { sorts = n; entries = e }) ≡ pair_tested ws n e a b
          unfolding pair_tested
          all_pass = rw none_failed

          pub list_checked : Checked ws n e
          list_checked = (sorts_asked ws n e a b none_failed).checked

-- checks one after another: where all pass, the first of them do
first_pass : (xs ys : List Check) (o : Tested) → first_failing xs ≡ o → first_failing (xs ++ ys) ≡ Ok tt → o ≡ Ok tt
first_pass xs ys (Ok u) q f = refl
first_pass xs ys (Err c) q f = let e : ◌≡◌ {A = Tested} (Err c) (Ok tt) = sym (append_fails xs ys c q) ∙ f in no_confusion cc

-- the check of the index, after those of the pair
module _ (ws ix : List ℕ) (n e a b : ℕ) where
  abbrev index_check : Check
  index_check = record { refusal = TooShort; passes = index_long ix }

  pub pair_passes : first_failing (bound_checks ws ix n e a b) ≡ Ok tt → first_failing (pair_checks ws n e a b) ≡ Ok tt
  unfolding bound_checks
  pair_passes f = first_pass (pair_checks ws n e a b) (index_check ∷ []) (first_failing (pair_checks ws n e a b)) refl f

  pair_fails : (c : Refusal) → first_failing (pair_checks ws n e a b) ≡ Err c → first_failing (bound_checks ws ix n e a b) ≡ Err c
  unfolding bound_checks
  pair_fails c q = append_fails (pair_checks ws n e a b) (index_check ∷ []) c q

  module _ (q : first_failing (pair_checks ws n e a b) ≡ Ok tt) where
    index_fails : length ix < slots → first_failing (bound_checks ws ix n e a b) ≡ Err TooShort
    unfolding bound_checks index_long
    index_fails h =
        append_passes (pair_checks ws n e a b) (index_check ∷ []) q
        ∙ first_fails index_check [] (lt-leb slots (length ix) h)

    index_passes : slots ≤ length ix → first_failing (bound_checks ws ix n e a b) ≡ Ok tt
    unfolding bound_checks index_long first_failing
    index_passes h =
        append_passes (pair_checks ws n e a b) (index_check ∷ []) q
        ∙ first_passes index_check [] (le-leb slots (length ix) h)

-- what the checks of an entry found
module _ (ws : List ℕ) (n e a b : ℕ) where
  pub refusal_is : (r : Refusal) → Err r ≡ pair_tested ws n e a b → first_failing (pair_checks ws n e a b) ≡ Err r
  unfolding pair_tested
  refusal_is r h = go (first_failing (pair_checks ws n e a b)) h
    where
      go : (x : Tested) → ◌≡◌ {A = Result Counts Refusal} (Err r) (refused_or x Err (Ok (record { sorts = n; entries = e }))) → x ≡ Err r
      go (Ok u) q = no_confusion cc
      go (Err c) q = let z : r ≡ c = cc in rw z

  passed_with : (k : Counts) → Ok k ≡ pair_tested ws n e a b
      → (first_failing (pair_checks ws n e a b) ≡ Ok tt) × (record { sorts = n; entries = e } ≡ k)
  unfolding pair_tested
  passed_with k h = go (first_failing (pair_checks ws n e a b)) h
    where
      go : (x : Tested) → ◌≡◌ {A = Result Counts Refusal} (Ok k) (refused_or x Err (Ok (record { sorts = n; entries = e })))
          → (x ≡ Ok tt) × (record { sorts = n; entries = e } ≡ k)
      go (Ok u) q = (refl, let z : k ≡ record { sorts = n; entries = e } = cc in sym z)
      go (Err c) q = no_confusion cc

  pub refused_with : {A : Type 0} (y : A) (r : Refusal) → Err r ≡ pair_tested ws n e a b
      → Err r ≡ refused_or (first_failing (pair_checks ws n e a b)) Err (Ok y)
  refused_with y r h = rw (refusal_is r h)

  module _ (k : Counts) (h : Ok k ≡ pair_tested ws n e a b) where
    pub none_fails : first_failing (pair_checks ws n e a b) ≡ Ok tt
    none_fails = (passed_with k h).0

    pub counted : record { sorts = n; entries = e } ≡ k
    counted = (passed_with k h).1

    pub asked : Asked ws k.sorts k.entries a b
    asked = subst (λ (c : Counts). Asked ws c.sorts c.entries a b) (passed_with k h).1 (sorts_asked ws n e a b none_fails)

    pub asked_given : Asked ws n e a b
    asked_given = sorts_asked ws n e a b none_fails

    -- an answer about the list of these words and counts
    pub answered : {A : Type 0} (f : List ℕ → ℕ → A) {us : List ℕ} → us ≡ ws → (x : A) → x ≡ f us k.sorts
        → Ok x ≡ refused_or (first_failing (pair_checks ws n e a b)) Err (Ok (f ws n))
    answered f u x q =
        ap Ok (q ∙ ap (λ ws. f ws k.sorts) u ∙ sym (ap (λ (c : Counts). f ws c.sorts) (passed_with k h).1)) ∙ rw none_fails

-- join and meet: what was made stays where they answered, and is given back where room ended
module _ (up : Bool) (ws : List ℕ) (n e a b : ℕ) (k : Asked ws n e a b) where
  abbrev outcome : Outcome Tree
  outcome = make up (tree_at ws n a) (tree_at ws n b) (sorts_of ws n e)

  pub outcome_kept : SortsKept ws n e InTree (sorts_of ws n e) outcome
  outcome_kept =
      make_kept ws n e up (tree_at ws n a) (tree_at ws n b) (sorts_of ws n e) (grown_none ws n e k.checked)
      (look_whole ws n e k.checked a k.lhs) (look_whole ws n e k.checked b k.rhs)

  given_back_left : (O : Outcome Tree) → SortsKept ws n e InTree (sorts_of ws n e) O → given_back n e (stored ws n e O).words ≡ given_back n e ws
  unfolding SortsKept stored
  given_back_left (made v S) h = made_is_given_back ws n e k.checked S h.0
  given_back_left (nothing S) h = made_is_given_back ws n e k.checked S h.0
  given_back_left (full S) h = made_is_given_back ws n e k.checked S h.0

  abbrev given : Counts
  given = record { sorts = n; entries = e }

  module _ (ix jx : List ℕ) (same : length jx ≡ length ix) where
    kept_left : (vs : List ℕ) (l : Counts) (r : Result (Option SortId) NoRoom) (s : Stored) → left_at vs l r ≡ s
        → given_back n e s.words ≡ given_back n e ws → kept_or_given_back vs jx l given r ≡ sorts_left_by ws ix n e s s.answer
    unfolding kept_or_given_back sorts_left_by
    kept_left vs l (Ok (Some id)) s q g =
        ap (λ m. sorts_left vs (replicate m 0) (Ok (Some id, l))) same ∙ ap (λ s. sorts_left_by ws ix n e s s.answer) q
    kept_left vs l (Ok None) s q g =
        ap (λ m. sorts_left vs (replicate m 0) (Ok (None, l))) same ∙ ap (λ s. sorts_left_by ws ix n e s s.answer) q
    kept_left vs l (Err x) s q g =
        ap₂ (λ us m. sorts_left us (replicate m 0) (Err SortsFull)) (ap (λ s. given_back n e s.words) q ∙ g) same
        ∙ ap (λ s. sorts_left_by ws ix n e s s.answer) q

    pub bound_answered : (vs : List ℕ) (l : Counts) (r : Result (Option SortId) NoRoom) → left_at vs l r ≡ bound_at up ws n e a b
        → (us ux : List ℕ) (x : Bounded) → sorts_left us ux x ≡ kept_or_given_back vs jx l given r
        → first_failing (bound_checks ws ix n e a b) ≡ Ok tt → sorts_left us ux x ≡ bounded up ws ix n e a b
    unfolding bound_at bounded
    bound_answered vs l r q us ux x g f =
        g ∙ (kept_left vs l r (stored ws n e outcome) q (given_back_left outcome outcome_kept) ∙ rw f)

-- as the code of both meets them, with the counts that its checks answered
module _ (up : Bool) (ws ix : List ℕ) (n e a b : ℕ) where
  refused : (r : Refusal) → first_failing (bound_checks ws ix n e a b) ≡ Err r → sorts_left ws ix (Err r) ≡ bounded up ws ix n e a b
  unfolding bounded
  refused r f = rw f

  pub bound_refused : (r : Refusal) → Err r ≡ pair_tested ws n e a b → (x : Bounded) → x ≡ Err r
      → sorts_left ws ix x ≡ bounded up ws ix n e a b
  bound_refused r h x q =
      ap (sorts_left ws ix) q ∙ refused r (pair_fails ws ix n e a b r (refusal_is ws n e a b r h))

  module _ (k : Counts) (h : Ok k ≡ pair_tested ws n e a b) where
    pub index_short : length ix < slots → sorts_left ws ix (Err TooShort) ≡ bounded up ws ix n e a b
    index_short s = refused TooShort (index_fails ws ix n e a b (none_fails ws n e a b k h) s)

    -- the lent words are then what the interner held
    pub bound_answered_with : slots ≤ length ix → (vs : List ℕ) (l : Counts) (r : Result (Option SortId) NoRoom)
        → left_at vs l r ≡ bound_at up ws k.sorts k.entries a b
        → (ls jx us ux : List ℕ) (x : Bounded) → sorts_left us ux x ≡ kept_or_given_back ls jx l k r
        → ls ≡ vs → length jx ≡ length ix → sorts_left us ux x ≡ bounded up ws ix n e a b
    bound_answered_with s vs l r q ls jx us ux x g w same =
        bound_answered up ws n e a b (asked_given ws n e a b k h) ix jx same vs l r
        (q ∙ sym (ap (λ (c : Counts). bound_at up ws c.sorts c.entries a b) (counted ws n e a b k h))) us ux x
        (g ∙ ap (λ us. kept_or_given_back us jx l k r) w
        ∙ sym (ap (λ (c : Counts). kept_or_given_back vs jx l c r) (counted ws n e a b k h)))
        (index_passes ws ix n e a b (none_fails ws n e a b k h) s)
