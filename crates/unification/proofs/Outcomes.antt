-- What holds of each outcome of making: P of an answer, N of no list, C of no room. Through one making and then another, and of each thing that is
-- made by its own outcomes; a node and a container of sorts never come to no list. Assumes nothing.
use mathlib.Core.Path.{◌≡◌, refl, ap, subst}
use mathlib.Core.List.{List, [], ◌∷◌}
use mathlib.Core.Option.{Option, none, some}
use mathlib.Core.Bool.{Bool, true, false, cond, ◌&&◌}
use Prim.Native.Nat.{ℕ, suc, ◌+◌, ◌≤◌}
use native.Mathlib.Omega.{arith}
use lib.ListN.{length}
use lib.Dec.{leb, ltb}
use Rattle.resolved_sort.specs.declared.ComplexSort.{ComplexSort}
use Rattle.resolved_sort.specs.Tree.{Tree, container}
use Rattle.resolved_sort.specs.Interning.{Sorts, look, Outcome, made as interned, nothing, full, intern}
use Rattle.resolved_sort.specs.Storage.{max_sorts, function_kind, kind_op, Row, trees, sorts_of}
use Rattle.resolved_sort.specs.Entries.{Stored, stored}
use Rattle.resolved_sort.specs.Bounds.{intern_at}
use Rattle.resolved_sort.specs.Growing.{Answers}
use Rattle.resolved_sort.proofs.Made.{intern_answers}
use Rattle.resolved_sort.proofs.Reached.{no_confusion}
use Rattle.unification.specs.Nodes.{max_nodes, max_node_entries}
use Rattle.unification.specs.Making.{Lent, Makes, made, no_list, no_room, ◌and-then◌, append_node, push_node}
use Rattle.unification.specs.Making.{with_sorts, intern_container, only, related_over, push_functions}

abbrev pub Each : {A : Type 0} → (A → Lent → Type 0) → (Lent → Type 0) → (ℕ → Lent → Type 0) → Makes A → Type 0
Each P N C (made a W) = P a W
Each P N C (no_list W) = N W
Each P N C (no_room c W) = C c W

-- nothing is asked
abbrev pub Any : {A : Type 0} → A → Lent → Type 0
Any a W = Unit {0}

pub each_then : {A D : Type 0} (P : A → Lent → Type 0) (Q : D → Lent → Type 0) (N : Lent → Type 0) (C : ℕ → Lent
    → Type 0) (x : Makes A) (k : A → Lent → Makes D)
    → Each P N C x → ((a : A) (W : Lent) → P a W → Each Q N C (k a W)) → Each Q N C (x and-then k)
each_then P Q N C (made a W) k h then = then a W h
each_then P Q N C (no_list W) k h then = h
each_then P Q N C (no_room c W) k h then = h

pub each_weaker : {A : Type 0} (P Q : A → Lent → Type 0) (N : Lent → Type 0) (C : ℕ → Lent → Type 0) (x : Makes A)
    → ((a : A) (W : Lent) → P a W → Q a W) → Each P N C x → Each Q N C x
each_weaker P Q N C (made a W) f h = f a W h
each_weaker P Q N C (no_list W) f h = h
each_weaker P Q N C (no_room c W) f h = h

intern_not_nothing : (t : Tree) (S S' : Sorts) → intern t S ≡ nothing S' → ⊥
unfolding Answers
intern_not_nothing t S S' e = let z : some t ≡ none = subst (Answers (some t)) e (intern_answers t S) in no_confusion (cc)

module _ (N : Lent → Type 0) (C : ℕ → Lent → Type 0) where
  pub each_node : (P : ℕ → Lent → Type 0) (r : Row) (W : Lent) → P (max_sorts + W.lengths.nodes) (append_node W r) → C 16 W → Each P N C (push_node r W)
  unfolding push_node
  each_node P r W h c = go (ltb W.lengths.nodes max_nodes && leb (W.lengths.arguments + length r.args) max_node_entries)
    where
      go : (b : Bool) → Each P N C (cond b (made (max_sorts + W.lengths.nodes) (append_node W r)) (no_room 16 W))
      go true = h
      go false = c

  -- interning comes to a sort or to no room
  pub each_container : (P : ℕ → Lent → Type 0) (o : ComplexSort) (s : ℕ) (W : Lent) → ((p : ℕ) (W' : Lent) → P p W')
      → C 15 W → Each P N C (intern_container o s W)
  unfolding intern_container intern_at stored
  each_container P o s W h c = go (intern (container o part) S) (intern_not_nothing (container o part) S)
    where
      part : Tree
      part = look (trees W.sorts W.lengths.sorts) s

      S : Sorts
      S = sorts_of W.sorts W.lengths.sorts W.lengths.entries

      left : Outcome Tree → Stored
      left x = stored W.sorts W.lengths.sorts W.lengths.entries x

      go : (x : Outcome Tree) → ((S' : Sorts) → x ≡ nothing S' → ⊥) → Each P N C (with_sorts W (left x) (left x).answer)
      go (interned t S') d = h _ _
      go (nothing S') d = absurd (d S' refl)
      go (full S') d = c

  -- a container makes one place or none
  pub each_over : (o : Option ComplexSort) (sort : Bool) (s : ℕ) (W : Lent) → C 15 W → C 16 W → Each (λ qs W'. length qs ≤ 1) N C (related_over o sort s W)
  each_over none sort s W c d = omega arith
  each_over (some o) true s W c d =
      each_then Any (λ qs W'. length qs ≤ 1) N C (intern_container o s W) only (each_container Any o s W (λ p W'. tt) c) (λ p W' h. omega arith)
  each_over (some o) false s W c d =
      each_then Any (λ qs W'. length qs ≤ 1) N C (push_node (record { kind = kind_op o; part = s; args = [] }) W) only
      (each_node Any (record { kind = kind_op o; part = s; args = [] }) W tt d) (λ p W' h. omega arith)

  -- as many functions as there are ranges
  pub each_functions : ((W : Lent) → C 16 W) → (xs rs : List ℕ) (W : Lent) → Each (λ ps W'. length ps ≡ length rs) N C (push_functions xs rs W)
  unfolding push_functions
  each_functions c xs [] W = refl
  each_functions c xs (r ∷ rs) W =
      each_then Any (λ ps W'. length ps ≡ suc (length rs)) N C (push_node (record { kind = function_kind; part = r; args = xs }) W) _
      (each_node Any (record { kind = function_kind; part = r; args = xs }) W tt (c W))
      (λ p W' h. each_then (λ ps W'. length ps ≡ length rs) (λ ps W'. length ps ≡ suc (length rs)) N C
      (push_functions xs rs W') _ (each_functions c xs rs W') (λ ps W'' e. ap suc e))
