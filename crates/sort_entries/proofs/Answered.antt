-- What the entries join and meet answer and leave, whatever they are given, over the direction: a refusal names the first failing check and
-- leaves the words and the index; else the number answered stands for the join or meet in the words left, none is answered exactly if there is none, and
-- room ended at a sort that did not fit. By what making answers (`make_answers`), keeps (`make_kept`) and ends at (`make_ends`). Assumes
-- nothing.
use Rattle.std.specs.Prelude as Rust
use mathlib.Core.Path.{◌≡◌, refl, sym, ◌∙◌, ap, ap₂, subst}
use mathlib.Core.Bool.{Bool, true}
use mathlib.Core.List.{List}
use mathlib.Core.Option.{some}
use mathlib.Core.Logic.{◌↔◌, inl, inr}
use native.Mathlib.Omega.{arith}
use Prim.Native.Nat.{ℕ}
use Rattle.std.specs.Prelude.{Ok, Err}
use Rattle.resolved_sort.specs.declared.Refusal.{Refusal}
use Rattle.resolved_sort.specs.declared.Refusal.TheVariants.{SortsFull}
use Rattle.resolved_sort.specs.Tree.{Tree}
use Rattle.resolved_sort.specs.declared.Counts.{Counts}
use Rattle.resolved_sort.specs.declared.SortId.{SortId}
use Rattle.resolved_sort.specs.Interning.{look, number, Outcome, made, nothing, full, make}
use Rattle.resolved_sort.specs.Storage.{sorts_of, trees, given_back}
use Rattle.resolved_sort.specs.Checks.{Tested, code_of, Numbered, fixed_six, first_failing, sort_checks, pair_checks}
use lib.ListN.{length}
use Rattle.resolved_sort.specs.Entries.{refused_or, tree_at, counts_of, after, Stored, stored}
use Rattle.resolved_sort.specs.JoinMeet.{bound_checks, Bounded, SortsLeft, sorts_left, sorts_left_by, bounded}
use Rattle.words.specs.Words.{cleared}
use Rattle.resolved_sort.specs.Bounds.{Asked}
use Rattle.resolved_sort.specs.Growing.{SortsKept, InTree, Answers}
use Rattle.resolved_sort.proofs.FirstFailing.{cons_passes}
use Rattle.resolved_sort.proofs.FailingNumber.{failing_number}
use Rattle.resolved_sort.proofs.Numbers.{look_number, number_below}
use Rattle.resolved_sort.proofs.Made.{make_answers}
use Rattle.resolved_sort.proofs.Stored.{look_whole}
use Rattle.entry_answers.proofs.SortsLeft.{own_number, grew, put_back, put_back_once}
use Rattle.entry_answers.proofs.RanOut.{Ends, Anything, make_ends, ran_out}
use Rattle.sort_entries.proofs.Laws.{sorts_asked, outcome_kept, pair_passes}
use Rattle.sort_entries.specs.Answered.{BoundRefused, BoundFound, BoundNone, BoundNoRoom, BoundSays, bound_asked, made_asked}

-- the number of a check
pub bound_by_number : (ws ix : List ℕ) (n e a b : ℕ) (c : Refusal) → first_failing (bound_checks ws ix n e a b) ≡ Err c → Numbered c
unfolding bound_checks pair_checks sort_checks code_of
bound_by_number ws ix n e a b c x = failing_number Numbered (bound_checks ws ix n e a b) c (
  (omega arith, omega arith),
  (
    (omega arith, omega arith),
    (
      (omega arith, omega arith),
      ((omega arith, omega arith), ((omega arith, omega arith), ((omega arith, omega arith), ((omega arith, omega arith), tt)))),
    ),
  ),
)
    x

pub refused_by_number : (ws : List ℕ) (n e a b : ℕ) (c : Refusal) → first_failing (pair_checks ws n e a b) ≡ Err c → Numbered c
unfolding pair_checks sort_checks code_of
refused_by_number ws n e a b c x = failing_number Numbered (pair_checks ws n e a b) c (
  (omega arith, omega arith),
  (
    (omega arith, omega arith),
    ((omega arith, omega arith), ((omega arith, omega arith), ((omega arith, omega arith), ((omega arith, omega arith), tt)))),
  ),
)
    x

full_is_no_check : (c : Refusal) → code_of c ≡ code_of SortsFull → Numbered c → ⊥
unfolding code_of
full_is_no_check c e h = omega (arith, e, h.1)

module _ (up : Bool) (ws ix : List ℕ) (n e a b : ℕ) where
  abbrev left : Stored → SortsLeft
  left r = sorts_left_by ws ix n e r r.answer

  module _ (f : first_failing (bound_checks ws ix n e a b) ≡ Ok tt) where
    asked : Asked ws n e a b
    asked = sorts_asked ws n e a b (pair_passes ws ix n e a b f)

    six : fixed_six ws n ≡ true
    unfolding pair_checks sort_checks
    six = (cons_passes _ _ (cons_passes _ _ (pair_passes ws ix n e a b f)).1).0

    by_outcome : (O : Outcome Tree) → made_asked up ws ix n e a b ≡ O → SortsKept ws n e InTree (sorts_of ws n e) O
        → Answers (bound_asked up ws ix n e a b) O → Ends Anything O
        → BoundSays up ws ix n e a b (left (stored ws n e O)).words (left (stored ws n e O)).index (left (stored ws n e O)).answer
    unfolding SortsKept stored sorts_left_by Answers ran_out
    by_outcome (made t S) m h x y =
        let stands : look (trees (after ws n e S) (length S.trees)) (number S.trees t) ≡ t =
        ap (λ T. look T (number S.trees t)) h.0.reads ∙ look_number S.trees t h.2 in
        record {
          passed = f;
          listed = number_below S.trees t h.2;
          is = x ∙ ap some (sym stands);
          grew = grew ws n e asked.checked six S h.0;
          sorts = S;
          made_so = m ∙ ap (λ u. made u S) (sym stands);
          left = record { words = refl; counts = refl };
          zero_index = refl;
        }
    by_outcome (nothing S) m h x y =
        record {
          passed = f;
          is = x;
          grew = grew ws n e asked.checked six S h.0;
          sorts = S;
          made_so = m;
          left = record { words = refl; counts = refl };
          zero_index = refl;
        }
    by_outcome (full S) m h x y =
        inr (record { passed = f; ran_out = ran_out ws n e Tree Anything S h.0 y; made_so = m; put_back = put_back ws n e asked.checked six; zero_index = refl }, refl)

  -- Whatever words, counts and numbers the entry is given: what its answer and the words that it leaves say.
  pub entry_is_bound : (vs jx : List ℕ) (r : Bounded) → sorts_left vs jx r ≡ bounded up ws ix n e a b → BoundSays up ws ix n e a b vs jx r
  unfolding bounded
  entry_is_bound vs jx r w = go (first_failing (bound_checks ws ix n e a b)) refl w
    where
      says : SortsLeft → Type 0
      says z = BoundSays up ws ix n e a b z.words z.index z.answer

      go : (o : Tested) → first_failing (bound_checks ws ix n e a b) ≡ o
          → sorts_left vs jx r ≡ refused_or o (λ c. sorts_left ws ix (Err c))
          (left (stored ws n e (make up (tree_at ws n a) (tree_at ws n b) (sorts_of ws n e))))
          → BoundSays up ws ix n e a b vs jx r
      go (Ok u) f w =
          subst says (sym w)
          (by_outcome f (make up (tree_at ws n a) (tree_at ws n b) (sorts_of ws n e)) refl (outcome_kept up ws n e a b (asked f))
          (make_answers up (tree_at ws n a) (tree_at ws n b) (sorts_of ws n e))
          (make_ends (trees ws n) up (tree_at ws n a) (tree_at ws n b) (sorts_of ws n e) (look_whole ws n e (asked f).checked a (asked f).lhs)))
      go (Err c) f w =
          subst says (sym w)
          (inl (record { first = f; given = refl; given_index = refl }, λ q. full_is_no_check c (ap code_of q) (bound_by_number ws ix n e a b c f)))

  -- And the other way: what says so is the defined outcome. So no clause of it says less than the entry does.
  module _ (f : first_failing (bound_checks ws ix n e a b) ≡ Ok tt) where
    by_made : (O : Outcome Tree) → made_asked up ws ix n e a b ≡ O → left (stored ws n e O) ≡ bounded up ws ix n e a b
    unfolding bounded
    by_made O m = sym (rw f (ap (λ P. left (stored ws n e P)) m))

    grown : (O : Outcome Tree) → made_asked up ws ix n e a b ≡ O → SortsKept ws n e InTree (sorts_of ws n e) O
    grown O m = subst (SortsKept ws n e InTree (sorts_of ws n e)) m (outcome_kept up ws n e a b (asked f))

    found_left : (vs jx : List ℕ) (s : SortId) (k : Counts) → BoundFound up ws ix n e a b vs jx s k → sorts_left vs jx (Ok (Rust.Some s, k)) ≡ bounded up ws ix n e a b
    unfolding SortsKept stored sorts_left_by
    found_left vs jx s k x =
        let t : Tree = tree_at vs k.sorts s.0 in
        let S = x.sorts in
        let same : t ≡ tree_at (after ws n e S) (length S.trees) s.0 =
        ap₂ (λ us m. tree_at us m s.0) x.left.words (ap (λ (c : Counts). c.sorts) x.left.counts) in
        let number_is : number S.trees t ≡ s.0 =
        ap (number S.trees) same
        ∙ own_number ws n e S (grown (made t S) x.made_so).0 s.0 (omega (arith, x.listed, ap (λ (c : Counts). c.sorts) x.left.counts)) in
        ap (λ jx. sorts_left vs jx (Ok (Rust.Some s, k))) x.zero_index
        ∙ (ap₂ (λ us c. sorts_left us (cleared ix) (Ok (Rust.Some s, c))) x.left.words x.left.counts
        ∙ (ap (λ i. sorts_left (after ws n e S) (cleared ix) (Ok (Rust.Some (record { 0 = i }), counts_of S))) (sym number_is) ∙ by_made (made t S) x.made_so))

    none_left : (vs jx : List ℕ) (k : Counts) → BoundNone up ws ix n e a b vs jx k → sorts_left vs jx (Ok (Rust.None, k)) ≡ bounded up ws ix n e a b
    unfolding stored sorts_left_by
    none_left vs jx k x =
        ap (λ jx. sorts_left vs jx (Ok (Rust.None, k))) x.zero_index
        ∙ (ap₂ (λ us c. sorts_left us (cleared ix) (Ok (Rust.None, c))) x.left.words x.left.counts ∙ by_made (nothing x.sorts) x.made_so)

    full_left : (vs jx : List ℕ) → BoundNoRoom up ws ix n e a b vs jx → sorts_left vs jx (Err SortsFull) ≡ bounded up ws ix n e a b
    unfolding stored sorts_left_by
    full_left vs jx x =
        ap₂ (λ us jx. sorts_left us jx (Err SortsFull)) (put_back_once ws n e vs (given_back n e ws) x.put_back (put_back ws n e (asked f).checked (six f))) x.zero_index
        ∙ by_made (full x.ran_out.so_far) x.made_so

  refused_left : (vs jx : List ℕ) (c : Refusal) → BoundRefused up ws ix n e a b vs jx c → sorts_left vs jx (Err c) ≡ bounded up ws ix n e a b
  unfolding bounded
  refused_left vs jx c x = sym (rw x.first (ap₂ (λ us jx. sorts_left us jx (Err c)) (sym x.given) (sym x.given_index)))

  says_all : (vs jx : List ℕ) (r : Bounded) → BoundSays up ws ix n e a b vs jx r → sorts_left vs jx r ≡ bounded up ws ix n e a b
  says_all vs jx (Err c) (inl x) = refused_left vs jx c x.0
  says_all vs jx (Err c) (inr x) = ap (λ d. sorts_left vs jx (Err d)) x.1 ∙ full_left x.0.passed vs jx x.0
  says_all vs jx (Ok (Rust.Some s, k)) x = found_left x.passed vs jx s k x
  says_all vs jx (Ok (Rust.None, k)) x = none_left x.passed vs jx k x

  pub bound_says_exactly : (vs jx : List ℕ) (r : Bounded) → BoundSays up ws ix n e a b vs jx r ↔ (sorts_left vs jx r ≡ bounded up ws ix n e a b)
  bound_says_exactly vs jx r = (says_all vs jx r, entry_is_bound vs jx r)
