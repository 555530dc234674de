-- The distance as `widening_distance` meets it: by what the rows say of the two sorts, and argument by argument.
-- Assumes nothing.
use mathlib.Core.Path.{◌≡◌, refl, sym, ap, ap₂, ◌∙◌}
use mathlib.Core.Bool.{Bool, true, false, cond}
use mathlib.Core.Option.{Option, none, some}
use mathlib.Core.List.{List}
use Prim.Native.Nat.{ℕ, ◌+◌, ◌-◌, ◌<◌, ◌≤◌, min}
use native.Mathlib.Omega.{arith}
use Rattle.std.specs.Prelude.{Option as Answer, Some, None}
use Rattle.resolved_sort.specs.declared.SortId.{SortId}
use Rattle.resolved_sort.specs.declared.Sort.{Sort}
use Rattle.resolved_sort.specs.declared.ComplexSort.{ComplexSort}
use Rattle.resolved_sort.specs.declared.Steps.{Steps as StepsAnswer}
use Rattle.resolved_sort.specs.Tree.{primitive, family, level, family_op, level_op}
use Rattle.resolved_sort.specs.Order.{le_op, Steps, steps_of, only_if, map₁, map₂, stopped_sum, all_steps, distance, distances}
use Rattle.resolved_sort.specs.Storage.{entry_at}
use Rattle.resolved_sort.specs.Inner.Storage.{args_at}
use Rattle.resolved_sort.specs.Entries.{tree_at}
use Rattle.resolved_sort.proofs.Distance.{distance_flips, distance_of_equal}
use Rattle.resolved_sort.proofs.Pairs.{Unlike, OfPrimitives, OfContainers, OfFunctions}
use Rattle.resolved_sort.proofs.Unlikes.{unlike_distance}
use Rattle.resolved_sort.proofs.Reached.{no_confusion}
use Rattle.sort_order.specs.Heads.{heads_steps}
use Rattle.sort_order.proofs.Orders.{args_from, args_from_end, args_from_next}

abbrev steps : ℕ → ℕ → StepsAnswer
steps h i = record { head = h; interior = i }

some_is : (m n : ℕ) → Some m ≡ Some n → m ≡ n
some_is m n e = cc

steps_are : (d : Steps) (p : StepsAnswer) → Some (steps d.head d.interior) ≡ Some p → all_steps d ≡ stopped_sum p.head p.interior
steps_are d p e = let z : steps d.head d.interior ≡ p = cc in ap (λ (x : StepsAnswer). stopped_sum x.head x.interior) z

-- what heads answer, and the distances of the whole
head_only : (b : Bool) (m h : ℕ) (o : Answer ℕ) → o ≡ cond b (Some m) None → o ≡ Some h
    → Some (steps h 0) ≡ steps_of (only_if b (some (record { head = m; interior = 0 })))
head_only true m h o e f = let z : Some m ≡ Some h = sym e ∙ f in ap (λ i. Some (steps i 0)) (sym (some_is m h z))
head_only false m h o e f = let z : None ≡ Some h = sym e ∙ f in no_confusion (cc)

no_head : (b : Bool) (m : ℕ) (x : Option Steps) (o : Answer ℕ) → o ≡ cond b (Some m) None → o ≡ None → None ≡ steps_of (only_if b x)
no_head true m x o e f = let z : Some m ≡ None = sym e ∙ f in no_confusion (cc)
no_head false m x o e f = refl

beneath_head : (b : Bool) (m h : ℕ) (x : Option Steps) (p : StepsAnswer) (i : ℕ) (o : Answer ℕ) → o ≡ cond b (Some m) None → o ≡ Some h
    → steps_of x ≡ Some p → i ≡ stopped_sum p.head p.interior
    → Some (steps h i) ≡ steps_of (only_if b (map₁ (λ d. record { head = m; interior = all_steps d }) x))
beneath_head true m h none p i o e f g k = let z : None ≡ Some p = g in no_confusion (cc)
beneath_head true m h (some d) p i o e f g k =
    ap₂ (λ (x y : ℕ). Some (steps x y)) (sym (some_is m h (sym e ∙ f))) (k ∙ sym (steps_are d p g))
beneath_head false m h x p i o e f g k = let z : None ≡ Some h = sym e ∙ f in no_confusion (cc)

no_part : (b : Bool) (m : ℕ) (x : Option Steps) → steps_of x ≡ None
    → None ≡ steps_of (only_if b (map₁ (λ d. record { head = m; interior = all_steps d }) x))
no_part true m none g = refl
no_part true m (some d) g = no_confusion (cc)
no_part false m x g = refl

-- a count of steps with those that are left, where there is a distance
abbrev pub added : ℕ → Option ℕ → Option ℕ
added n x = map₁ (stopped_sum n) x

added_next : (n : ℕ) (d : Option Steps) (p : StepsAnswer) (x : Option ℕ) (m : ℕ) → steps_of d ≡ Some p → m ≡ stopped_sum n (stopped_sum p.head p.interior)
    → added m x ≡ added n (map₂ (λ d n. stopped_sum (all_steps d) n) d x)
added_next n none p x m e f = let z : None ≡ Some p = e in no_confusion (cc)
added_next n (some d) p none m e f = refl
added_next n (some d) p (some k) m e f = let z = steps_are d p e in ap some (omega arith)

added_none : (n : ℕ) (d : Option Steps) (x : Option ℕ) → steps_of d ≡ None → added n (map₂ (λ d n. stopped_sum (all_steps d) n) d x) ≡ none
added_none n none x e = refl
added_none n (some d) x e = no_confusion (cc)

none_added : (n : ℕ) (x : Option ℕ) → none ≡ added n x → x ≡ none
none_added n none e = refl
none_added n (some k) e = no_confusion (cc)

args_none : (x : Option ℕ) (d : Option Steps) → x ≡ none → None ≡ steps_of (map₂ (λ n d. record { head = 0; interior = stopped_sum n (all_steps d) }) x d)
args_none none d e = refl
args_none (some k) d e = no_confusion (cc)

range_none : (x : Option ℕ) (d : Option Steps) → steps_of d ≡ None → None ≡ steps_of (map₂ (λ n d. record { head = 0; interior = stopped_sum n (all_steps d) }) x d)
range_none none d e = refl
range_none (some k) none e = refl
range_none (some k) (some d) e = no_confusion (cc)

range_added : (n : ℕ) (x : Option ℕ) (d : Option Steps) (p : StepsAnswer) (i : ℕ) → some (stopped_sum n 0) ≡ added 0 x → steps_of d ≡ Some p
    → i ≡ stopped_sum n (stopped_sum p.head p.interior)
    → Some (steps 0 i) ≡ steps_of (map₂ (λ n d. record { head = 0; interior = stopped_sum n (all_steps d) }) x d)
range_added n none d p i e f g = no_confusion (cc)
range_added n (some k) none p i e f g = let z : None ≡ Some p = f in no_confusion (cc)
range_added n (some k) (some d) p i e f g =
    let y = steps_are d p f in
    let z : stopped_sum n 0 ≡ stopped_sum 0 k = cc in
    ap (λ (x : ℕ). Some (steps 0 x)) (omega arith)

-- the distance between the sorts of two numbers
abbrev pub distance_at : List ℕ → ℕ → ℕ → ℕ → Answer StepsAnswer
distance_at ws n a b = steps_of (distance true (tree_at ws n a) (tree_at ws n b))

module _ (ws : List ℕ) (n : ℕ) where
  pub distance_of_equals : (a b : ℕ) → a ≡ b → Some (steps 0 0) ≡ distance_at ws n a b
  distance_of_equals a b e = sym (ap steps_of (distance_of_equal true (tree_at ws n a))) ∙ ap (distance_at ws n a) e

  pub distance_of_unlike : (a b : ℕ) → Unlike (tree_at ws n a) (tree_at ws n b) → None ≡ distance_at ws n a b
  distance_of_unlike a b h = sym (ap steps_of (unlike_distance true h))

  module _ {e a b : ℕ} {l r : Sort} (h : OfPrimitives ws n e a b l r) {o : Answer ℕ}
      (g : o ≡ heads_steps (λ s. family (primitive s)) (λ s. level (primitive s)) l r) where
    pub distance_of_primitives : {m : ℕ} → o ≡ Some m → Some (steps m 0) ≡ distance_at ws n a b
    unfolding distance heads_steps
    distance_of_primitives {m} f = head_only _ _ m o g f ∙ sym (ap₂ (λ s t. steps_of (distance true s t)) h.lhs h.rhs)

    pub no_distance_of_primitives : o ≡ None → None ≡ distance_at ws n a b
    unfolding distance heads_steps
    no_distance_of_primitives f = no_head _ _ _ o g f ∙ sym (ap₂ (λ s t. steps_of (distance true s t)) h.lhs h.rhs)

  module _ {e a b : ℕ} {o p : ComplexSort} {s t : SortId} (h : OfContainers ws n e a b o s p t) where
    whole : distance_at ws n a b ≡ steps_of (only_if (le_op true o p)
        (map₁ (λ d. record { head = level_op p - level_op o; interior = all_steps d }) (distance true (tree_at ws n s.0) (tree_at ws n t.0))))
    unfolding distance
    whole = ap₂ (λ s t. steps_of (distance true s t)) h.lhs h.rhs

    module _ {x : Answer ℕ} (g : x ≡ heads_steps family_op level_op o p) where
      pub no_head_distance : x ≡ None → None ≡ distance_at ws n a b
      unfolding heads_steps
      no_head_distance f = no_head _ _ _ x g f ∙ sym whole

      pub distance_of_containers : {m i : ℕ} {y : Answer StepsAnswer} {q : StepsAnswer} → x ≡ Some m → y ≡ distance_at ws n s.0 t.0 → y ≡ Some q
          → i ≡ stopped_sum q.head q.interior → Some (steps m i) ≡ distance_at ws n a b
      unfolding heads_steps
      distance_of_containers {m} {i} {y} {q} f j u v = beneath_head _ _ m _ q i x g f (sym j ∙ u) v ∙ sym whole

    pub no_part_distance : {y : Answer StepsAnswer} → y ≡ distance_at ws n s.0 t.0 → y ≡ None → None ≡ distance_at ws n a b
    no_part_distance j u = no_part _ _ _ (sym j ∙ u) ∙ sym whole

  -- what the steps so far come to with those of the arguments that are left
  abbrev pub StepsLeft : (s t c k i : ℕ) → Type 0
  StepsLeft s t c k i =
      added i (distances false (args_from ws n s c k) (args_from ws n t c k)) ≡ added 0 (distances false (args_at ws n s c) (args_at ws n t c))

  module _ (s t c k i : ℕ) (inv : StepsLeft s t c k i) where
    steps_at_end : c ≤ k → some (stopped_sum i 0) ≡ added 0 (distances false (args_at ws n s c) (args_at ws n t c))
    unfolding distance
    steps_at_end h = sym (ap (added i) (ap₂ (distances false) (args_from_end ws n s c k h) (args_from_end ws n t c k h))) ∙ inv

    module _ (h : k < c) {l r : ℕ} (p : l ≡ entry_at ws (s + k)) (q : r ≡ entry_at ws (t + k)) {x : Answer StepsAnswer}
        (f : x ≡ distance_at ws n r l) where
      abbrev first : Option Steps
      first = distance false (tree_at ws n (entry_at ws (s + k))) (tree_at ws n (entry_at ws (t + k)))

      abbrev rest : Option ℕ
      rest = distances false (args_from ws n s c (k + 1)) (args_from ws n t c (k + 1))

      first_steps : x ≡ steps_of first
      first_steps =
          f ∙ (ap₂ (distance_at ws n) q p
          ∙ ap steps_of (distance_flips true (tree_at ws n (entry_at ws (t + k))) (tree_at ws n (entry_at ws (s + k)))))

      by_first : added i (map₂ (λ d n. stopped_sum (all_steps d) n) first rest) ≡ added 0 (distances false (args_at ws n s c) (args_at ws n t c))
      unfolding distance
      by_first = sym (ap (added i) (ap₂ (distances false) (args_from_next ws n s c k h) (args_from_next ws n t c k h))) ∙ inv

      pub steps_next : {d : StepsAnswer} {j : ℕ} → x ≡ Some d → j ≡ stopped_sum i (stopped_sum d.head d.interior) → StepsLeft s t c (k + 1) j
      steps_next {d} {j} g u = added_next i first d rest j (sym first_steps ∙ g) u ∙ by_first

      pub no_steps_left : x ≡ None → distances false (args_at ws n s c) (args_at ws n t c) ≡ none
      no_steps_left g = none_added 0 _ (sym (added_none i first rest (sym first_steps ∙ g)) ∙ by_first)

  module _ {e a b c ls rs : ℕ} {lr rr : SortId} (h : OfFunctions ws n e a b c ls lr rs rr) where
    whole_function : distance_at ws n a b ≡ steps_of (map₂ (λ n d. record { head = 0; interior = stopped_sum n (all_steps d) })
        (distances false (args_at ws n ls c) (args_at ws n rs c)) (distance true (tree_at ws n lr.0) (tree_at ws n rr.0)))
    unfolding distance
    whole_function = ap₂ (λ s t. steps_of (distance true s t)) h.lhs h.rhs

    pub no_argument_distance : {k : ℕ} (i : ℕ) {l r : ℕ} → StepsLeft ls rs c k i → k < c → l ≡ entry_at ws (ls + k) → r ≡ entry_at ws (rs + k)
        → {x : Answer StepsAnswer} → x ≡ distance_at ws n r l → x ≡ None → None ≡ distance_at ws n a b
    no_argument_distance {k} i inv u p q f g =
        args_none _ (distance true (tree_at ws n lr.0) (tree_at ws n rr.0)) (no_steps_left ls rs c k i inv u p q f g) ∙ sym whole_function

    pub no_range_distance : {x : Answer StepsAnswer} → x ≡ distance_at ws n lr.0 rr.0 → x ≡ None → None ≡ distance_at ws n a b
    no_range_distance f g = range_none (distances false (args_at ws n ls c) (args_at ws n rs c)) _ (sym f ∙ g) ∙ sym whole_function

    pub distance_of_functions : {k : ℕ} (i : ℕ) → StepsLeft ls rs c k i → c ≤ k → {x : Answer StepsAnswer} {d : StepsAnswer} {j : ℕ}
        → x ≡ distance_at ws n lr.0 rr.0 → x ≡ Some d → j ≡ stopped_sum i (stopped_sum d.head d.interior) → Some (steps 0 j) ≡ distance_at ws n a b
    distance_of_functions {k} i inv l {x} {d} {j} f g u =
        range_added i (distances false (args_at ws n ls c) (args_at ws n rs c)) (distance true (tree_at ws n lr.0) (tree_at ws n rr.0)) d j
        (steps_at_end ls rs c k i inv l) (sym f ∙ g) u ∙ sym whole_function

-- sums that stop, as the code's method has them
pub sum_stops : {r : ℕ} (a b : ℕ) → r ≡ min (a + b) 255 → r ≡ stopped_sum a b
sum_stops a b e = omega arith

pub sums_stop : {r s : ℕ} (a b c : ℕ) → r ≡ min (a + s) 255 → s ≡ min (b + c) 255 → r ≡ stopped_sum a (stopped_sum b c)
sums_stop a b c e f = omega arith
