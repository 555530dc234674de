-- Parts of a list of words, and words of which only some have changed. A part is read word by word; a part before or after the words that changed is as it
-- was, and so is the branch where only the incumbent's words changed. Assumes nothing.
use mathlib.Core.Path.{◌≡◌, refl, ◌∙◌}
use mathlib.Core.List.{List, [], ◌∷◌}
use Prim.Native.Nat.{ℕ, ◌+◌, ◌<◌, ◌≤◌}
use native.Mathlib.Omega.{arith}
use lib.ListN.{set, take, length-set}
use lib.Seq.{take-set-le, drop-set-lt}
use Rattle.inference.specs.Constraints.{max_constraints, max_components}
use Rattle.search_state.specs.declared.Branch.{Branch}
use Rattle.search_state.specs.Inner.Memory.{choices_of, trail_words, best_sorts_at, measure_at, best_measure_at, choices_at, best_choices_at, scratch_used}
use Rattle.words.specs.Words.{part}
use Rattle.search_state.specs.Inner.Leaves.{ChangedOnly}
use Rattle.search_state.specs.Inner.Searching.{SamePath}
use Rattle.words.proofs.Parts.{part_in_front, drop_longer, part_in_back, take_shorter}

-- no choices without positions
pub nothing_chosen : (xs : List ℕ) → choices_of xs [] ≡ []
unfolding choices_of
nothing_chosen [] = refl
nothing_chosen (x ∷ xs) = refl

-- Words of which only those from a to b have changed.
pub changed_none : (a b : ℕ) (xs : List ℕ) → ChangedOnly a b xs xs
changed_none a b xs = record { front = refl; back = refl; long = refl }

pub changed_then : (a b : ℕ) (xs ys zs : List ℕ) → ChangedOnly a b xs ys → ChangedOnly a b ys zs → ChangedOnly a b xs zs
changed_then a b xs ys zs g h = record { front = h.front ∙ g.front; back = h.back ∙ g.back; long = h.long ∙ g.long }

pub changed_wider : (a b c d : ℕ) (xs ys : List ℕ) → c ≤ a → b ≤ d → ChangedOnly a b xs ys → ChangedOnly c d xs ys
changed_wider a b c d xs ys l k h = record { front = take_shorter c a xs ys l h.front; back = drop_longer b d xs ys k h.back; long = h.long }

pub changed_by_set : (a b : ℕ) (xs : List ℕ) (i v : ℕ) → a ≤ i → i < b → ChangedOnly a b xs (set xs i v)
changed_by_set a b xs i v l k = record { front = take-set-le a xs i v l; back = drop-set-lt b xs i v k; long = length-set xs i v }

module _ (a b : ℕ) (xs ys : List ℕ) (h : ChangedOnly a b xs ys) where
  pub take_unchanged : (n : ℕ) → n ≤ a → take n ys ≡ take n xs
  take_unchanged n l = take_shorter n a xs ys l h.front

  pub part_before : (c n : ℕ) → c + n ≤ a → part c n ys ≡ part c n xs
  part_before c n l = part_in_front c n a xs ys l h.front

  pub part_after : (c n : ℕ) → b ≤ c → part c n ys ≡ part c n xs
  part_after c n l = part_in_back c n b xs ys l h.back

-- The branch stands as before.
pub same_path_refl : (e : Branch) (xs : List ℕ) → SamePath e xs xs
same_path_refl e xs = record { trail = refl; measure = refl; choices = refl; long = refl }

pub same_path_trans : (e : Branch) (xs ys zs : List ℕ) → SamePath e xs ys → SamePath e ys zs → SamePath e xs zs
same_path_trans e xs ys zs g h =
    record { trail = h.trail ∙ g.trail; measure = h.measure ∙ g.measure; choices = h.choices ∙ g.choices; long = h.long ∙ g.long }

-- where only the incumbent's words changed: its sorts, its measure, its choices
module _ (e : Branch) (t : e.trail ≤ trail_words) (m : e.measure ≤ max_components) (c : e.choices ≤ max_constraints) (xs ys : List ℕ) where
  pub sorts_change_no_path : ChangedOnly best_sorts_at measure_at xs ys → SamePath e xs ys
  sorts_change_no_path h =
      record {
        trail = take_unchanged best_sorts_at measure_at xs ys h e.trail t;
        measure = part_after best_sorts_at measure_at xs ys h measure_at e.measure (omega arith);
        choices = part_after best_sorts_at measure_at xs ys h choices_at e.choices (omega arith);
        long = h.long;
      }

  pub measure_changes_no_path : ChangedOnly best_measure_at choices_at xs ys → SamePath e xs ys
  measure_changes_no_path h =
      record {
        trail = take_unchanged best_measure_at choices_at xs ys h e.trail (omega (arith, t));
        measure = part_before best_measure_at choices_at xs ys h measure_at e.measure (omega (arith, m));
        choices = part_after best_measure_at choices_at xs ys h choices_at e.choices (omega arith);
        long = h.long;
      }

  pub choices_change_no_path : ChangedOnly best_choices_at scratch_used xs ys → SamePath e xs ys
  choices_change_no_path h =
      record {
        trail = take_unchanged best_choices_at scratch_used xs ys h e.trail (omega (arith, t));
        measure = part_before best_choices_at scratch_used xs ys h measure_at e.measure (omega (arith, m));
        choices = part_before best_choices_at scratch_used xs ys h choices_at e.choices (omega (arith, c));
        long = h.long;
      }
