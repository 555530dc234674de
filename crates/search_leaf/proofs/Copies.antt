-- Copying words, as the loop meets it, and what a copy leaves: the words are at both places, and only those that it wrote have changed. So the measure and
-- the choices of the branch are the incumbent's, whose sorts and the branch stay. Assumes nothing.
use mathlib.Core.Path.{◌≡◌, sym, ap, ◌∙◌}
use mathlib.Core.List.{List, ◌++◌, append_assoc}
use Prim.Native.Nat.{ℕ, ◌+◌, ◌<◌, ◌≤◌}
use native.Mathlib.Numerals.{add-one}
use native.Mathlib.Omega.{arith}
use lib.ListN.{length, get_or, set, take, drop, length-drop, get_or-append}
use lib.Seq.{length-take-le, take_at, drop_at, get_or-take, get_or-drop, paste-zero, paste-suc, length-paste, drop-paste}
use Rattle.inference.specs.Constraints.{max_exprs, max_constraints, max_components}
use Rattle.search_state.specs.declared.Sizes.{Sizes}
use Rattle.search_state.specs.declared.Branch.{Branch}
use Rattle.search_state.specs.Inner.Memory.{trail_words, best_sorts_at, measure_at, best_measure_at, choices_at, best_choices_at, scratch_used}
use Rattle.words.specs.Words.{part}
use Rattle.search_state.specs.Inner.Leaves.{ChangedOnly}
use Rattle.search_state.specs.Inner.Searching.{SamePath}
use Rattle.search_state.proofs.Parts.{part_before, part_after, changed_wider, same_path_trans, measure_changes_no_path, choices_change_no_path}
use Rattle.words.proofs.Parts.{length_part}
use Rattle.search_leaf.specs.Inner.Leaf.{copied, kept_as_best, Keepable}

-- i of n words are copied
pub record Copying (a b n : ℕ) (sc₀ sc : List ℕ) (i : ℕ) : Type 0 where
  pub apart : a + n ≤ b
  pub inside : b + n ≤ length sc₀
  pub within : i ≤ n
  pub same : sc ≡ copied a b i sc₀

pub start : (a b n : ℕ) (sc : List ℕ) → (a + n ≤ b) × (b + n ≤ length sc) → Copying a b n sc sc 0
start a b n sc p = record { apart = p.0; inside = p.1; within = omega arith; same = paste-zero sc b (drop a sc) }

module _ (a b n : ℕ) (sc : List ℕ) (apart : a + n ≤ b) (inside : b + n ≤ length sc) where
  long : n ≤ length (drop a sc)
  long = omega (arith, apart, inside, length-drop a sc)

  pub copied_long : length (copied a b n sc) ≡ length sc
  copied_long = length-paste sc b (drop a sc) n inside long

  split : copied a b n sc ≡ take b sc ++ (part a n sc ++ drop (b + n) sc)
  split = append_assoc (take b sc) (part a n sc) (drop (b + n) sc)

  b_long : length (take b sc) ≡ b
  b_long = length-take-le b sc (omega (arith, inside))

  pub copied_changes : ChangedOnly b (b + n) sc (copied a b n sc)
  copied_changes =
      record {
        front = ap (take b) split ∙ take_at (take b sc) (part a n sc ++ drop (b + n) sc) b b_long;
        back = drop-paste sc b (drop a sc) n (omega (arith, inside)) long;
        long = copied_long;
      }

  pub copied_there : part b n (copied a b n sc) ≡ part a n sc
  copied_there =
      ap (part b n) split
      ∙ (ap (take n) (drop_at (take b sc) (part a n sc ++ drop (b + n) sc) b b_long) ∙ take_at (part a n sc)
      (drop (b + n) sc) n (length_part a n sc (omega (arith, apart, inside))))

  pub copied_before : (j : ℕ) → j < b → get_or (copied a b n sc) j 0 ≡ get_or sc j 0
  copied_before j l =
      ap (λ (xs : List ℕ). get_or xs j 0) split
      ∙ (get_or-append (take b sc) (part a n sc ++ drop (b + n) sc) 0 j (omega (arith, l, b_long)) ∙ get_or-take b sc j 0 l)

module _ (a b n : ℕ) (sc₀ sc : List ℕ) (i : ℕ) (G : Copying a b n sc₀ sc i) where
  pub copying_long : length sc ≡ length sc₀
  copying_long = ap length G.same ∙ copied_long a b i sc₀ (omega (arith, G.apart, G.within)) (omega (arith, G.inside, G.within))

  pub next : i < n → Copying a b n sc₀ (set sc (b + i) (get_or sc (a + i) 0)) (i + 1)
  next h =
      record {
        apart = G.apart;
        inside = G.inside;
        within = omega (arith, h);
        same =
            ap (λ (xs : List ℕ). set xs (b + i) (get_or xs (a + i) 0)) G.same
            ∙ (ap (set (copied a b i sc₀) (b + i)) (copied_before a b i sc₀ (omega (arith, G.apart, h))
            (omega (arith, G.inside, h)) (a + i) (omega (arith, G.apart, h)) ∙ sym (get_or-drop a sc₀ i 0))
            ∙ (paste-suc sc₀ b (drop a sc₀) i 0 (omega (arith, G.inside, h)) (omega (arith, length-drop a sc₀, G.apart, G.inside, h))
            ∙ ap (λ (j : ℕ). copied a b j sc₀) (sym (add-one i))));
      }

  pub all_copied : n ≤ i → sc ≡ copied a b n sc₀
  all_copied h = let e : i ≡ n = omega (arith, h, G.within) in G.same ∙ ap (λ (j : ℕ). copied a b j sc₀) e

-- What is kept.
pub kept_by_two : (z : Sizes) (sc one two : List ℕ) → one ≡ copied measure_at best_measure_at z.components sc
    → two ≡ copied choices_at best_choices_at z.disjunctions one → two ≡ kept_as_best z sc
unfolding kept_as_best
kept_by_two z sc one two f g = g ∙ ap (copied choices_at best_choices_at z.disjunctions) f

module _ (z : Sizes) (sc : List ℕ) (p : Keepable z sc) where
  abbrev one : List ℕ
  one = copied measure_at best_measure_at z.components sc

  pub measure_room : (measure_at + z.components ≤ best_measure_at) × (best_measure_at + z.components ≤ length sc)
  measure_room = omega (arith, p.components, p.long)

  one_long : length one ≡ length sc
  one_long = copied_long measure_at best_measure_at z.components sc measure_room.0 measure_room.1

  pub choices_room : (ys : List ℕ) → length ys ≡ length sc → (choices_at + z.disjunctions ≤ best_choices_at) × (best_choices_at + z.disjunctions ≤ length ys)
  choices_room ys e = omega (arith, p.disjunctions, p.long, e)

  first_changes : ChangedOnly best_measure_at choices_at sc one
  first_changes =
      changed_wider best_measure_at (best_measure_at + z.components) best_measure_at choices_at sc one (omega arith) (omega (arith, p.components))
      (copied_changes measure_at best_measure_at z.components sc measure_room.0 measure_room.1)

  second_changes : ChangedOnly best_choices_at scratch_used one (kept_as_best z sc)
  unfolding kept_as_best
  second_changes =
      changed_wider best_choices_at (best_choices_at + z.disjunctions) best_choices_at scratch_used one (kept_as_best z sc)
      (omega arith) (omega (arith, p.disjunctions))
      (copied_changes choices_at best_choices_at z.disjunctions one (choices_room one one_long).0 (choices_room one one_long).1)

  pub kept_measure : part best_measure_at z.components (kept_as_best z sc) ≡ part measure_at z.components sc
  kept_measure =
      part_before best_choices_at scratch_used one (kept_as_best z sc) second_changes best_measure_at z.components (omega (arith, p.components))
      ∙ copied_there measure_at best_measure_at z.components sc measure_room.0 measure_room.1

  pub kept_choices : part best_choices_at z.disjunctions (kept_as_best z sc) ≡ part choices_at z.disjunctions sc
  unfolding kept_as_best
  kept_choices =
      copied_there choices_at best_choices_at z.disjunctions one (choices_room one one_long).0 (choices_room one one_long).1
      ∙ part_after best_measure_at choices_at sc one first_changes choices_at z.disjunctions (omega arith)

  pub kept_sorts : (n : ℕ) → n ≤ max_exprs → part best_sorts_at n (kept_as_best z sc) ≡ part best_sorts_at n sc
  kept_sorts n l =
      part_before best_choices_at scratch_used one (kept_as_best z sc) second_changes best_sorts_at n (omega (arith, l))
      ∙ part_before best_measure_at choices_at sc one first_changes best_sorts_at n (omega (arith, l))

  pub kept_path : (e : Branch) → e.trail ≤ trail_words → e.measure ≤ max_components → e.choices ≤ max_constraints → SamePath e sc (kept_as_best z sc)
  kept_path e t m c =
      same_path_trans e sc one (kept_as_best z sc) (measure_changes_no_path e t m c sc one first_changes)
      (choices_change_no_path e t m c one (kept_as_best z sc) second_changes)
