-- "Whatever its words held at entry": indexes of one length make the same answer, and the same words of the sort list. By
-- the checks, which look at the length alone, and by the cases of what join and meet come to. Assumes nothing.
use mathlib.Core.Path.{◌≡◌, refl, ap}
use mathlib.Core.Bool.{Bool}
use mathlib.Core.List.{List, [], ◌∷◌, ◌++◌}
use Prim.Native.Nat.{ℕ}
use lib.ListN.{length}
use lib.Dec.{leb}
use Rattle.std.specs.Prelude.{Ok, Err}
use Rattle.resolved_sort.specs.declared.Refusal.TheVariants.{TooShort}
use Rattle.resolved_sort.specs.Checks.{Tested, first_failing, pair_checks}
use Rattle.resolved_sort.specs.Entries.{Joined, At, Nothing, Full, Stored, refused_or}
use Rattle.resolved_sort.specs.Index.{slots, index_long}
use Rattle.resolved_sort.specs.JoinMeet.{bound_checks, SortsLeft, sorts_left, sorts_left_by, bounded}

module _ (up : Bool) (ws : List ℕ) (n e a b : ℕ) (ix jx : List ℕ) (as_long : length ix ≡ length jx) where
  abbrev Alike : SortsLeft → SortsLeft → Type 0
  Alike l m = (l.words ≡ m.words) × (l.answer ≡ m.answer)

  same_checks : bound_checks ws ix n e a b ≡ bound_checks ws jx n e a b
  unfolding bound_checks index_long
  same_checks = ap (λ l. pair_checks ws n e a b ++ (record { refusal = TooShort; passes = leb slots l } ∷ [])) as_long

  answered_alike : (r : Stored) (j : Joined) → Alike (sorts_left_by ws ix n e r j) (sorts_left_by ws jx n e r j)
  unfolding sorts_left_by
  answered_alike r (At s k) = (refl, refl)
  answered_alike r (Nothing k) = (refl, refl)
  answered_alike r Full = (refl, refl)

  tested_alike : (o : Tested) (l m : SortsLeft) → Alike l m
      → Alike (refused_or o (λ c. sorts_left ws ix (Err c)) l) (refused_or o (λ c. sorts_left ws jx (Err c)) m)
  tested_alike (Ok u) l m h = h
  tested_alike (Err c) l m h = (refl, refl)

  pub index_words_do_not_matter : Alike (bounded up ws ix n e a b) (bounded up ws jx n e a b)
  unfolding bounded
  index_words_do_not_matter = rw same_checks (tested_alike (first_failing (bound_checks ws jx n e a b)) _ _ (answered_alike _ _))
