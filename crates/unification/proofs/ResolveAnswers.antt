-- What resolve and resolve_or_default hand back: a number of lists that have grown, whose sort is what the place stands for under every assignment that
-- respects the bindings (and, with a default, gives it to each free variable); none only where a free variable is reached, and with a default never.
-- By the laws of `resolve_term` and of the list that it leaves. Assumes nothing.
use mathlib.Core.Path.{◌≡◌, sym, ◌∙◌}
use mathlib.Core.List.{List}
use mathlib.Core.Option.{none, some}
use Prim.Native.Nat.{ℕ, ◌<◌}
use native.Mathlib.Omega.{arith}
use Rattle.resolved_sort.specs.declared.SortId.{SortId}
use Rattle.resolved_sort.specs.declared.Counts.{Counts}
use Rattle.resolved_sort.specs.Entries.{At, Nothing as NotFound, Full}
use Rattle.resolved_sort.specs.Tree.{Tree}
use Rattle.resolved_sort.specs.Interning.{Sorts, look, nothing, full}
use Rattle.resolved_sort.specs.Storage.{trees, sorts_of}
use Rattle.resolved_sort.specs.Entries.{Stored}
use Rattle.resolved_sort.specs.Rows.{stored_at}
use Rattle.resolved_sort.proofs.Numbers.{member_look}
use Rattle.resolved_sort.proofs.Trees.{length_trees}
use Rattle.resolved_sort.proofs.Grown.{grown_none}
use Rattle.resolved_sort.proofs.Reached.{no_confusion}
use Rattle.unification.specs.Default.{Default}
use Rattle.std.specs.Prelude.{Some as Is, None as Nothing}
use Rattle.unification.specs.Term.{Term, term_of, substitute}
use Rattle.unification.specs.Nodes.{Binds, binding}
use Rattle.unification.specs.Acyclic.{Reaches}
use Rattle.unification.specs.Solutions.{term_at, Respects}
use Rattle.unification.specs.Resolve.{value, DefaultBelow, term_resolved}
use Rattle.unification.specs.Making.{Lent, graph}
use Rattle.unification.proofs.ResolvedSorts.{resolve_kept}
use Rattle.unification.proofs.ResolvedPlaces.{value_formed}
use Rattle.unification.proofs.Resolved.{resolved_is_every_assignment, resolve_none_exactly}
use Rattle.unification.proofs.Resolved.{resolve_or_default_never_none, resolve_or_default_is_the_assignment}
use Rattle.unification.specs.Growing.{CheckedLent, PlacedIn, Grows, CheckedBinds, with_sort_words, ReadsAs}
use Rattle.unification.proofs.SortsLeft.{Leaves, left_by, leaves_sort, leaves_none, leaves_full}

-- each free variable has the default, where there is one
abbrev pub FreeHave : Lent → Binds → Default → (ℕ → Term) → Type 0
FreeHave W B (Is d) σ = (u : ℕ) → binding B u ≡ none → σ u ≡ term_of (look (trees W.sorts W.lengths.sorts) d.0)
FreeHave W B Nothing σ = Unit {0}

-- the place stands for the sort t, whatever the assignment is
abbrev pub AlwaysStandsFor : Lent → Binds → Default → ℕ → Tree → Type 0
AlwaysStandsFor W B x p t = (σ : ℕ → Term) → Respects (graph W) B σ → FreeHave W B x σ → substitute σ (term_at (graph W) p) ≡ term_of t

-- the place reaches a free variable, and there is no default for it
abbrev pub ReachesFree : Lent → Binds → Default → ℕ → Type 0
ReachesFree W B (Is d) p = ⊥
ReachesFree W B Nothing p = (u : ℕ) × (Reaches (graph W) B u p × (binding B u ≡ none))

module _ (W : Lent) (c : CheckedLent W) (B : Binds) (b : CheckedBinds W B) (p : ℕ) (i : PlacedIn W p) where
  abbrev ws : List ℕ
  ws = W.sorts

  abbrev ns : List ℕ
  ns = W.nodes

  abbrev n : ℕ
  n = W.lengths.sorts

  abbrev e : ℕ
  e = W.lengths.entries

  abbrev m : ℕ
  m = W.lengths.nodes

  abbrev d : ℕ
  d = W.lengths.arguments

  abbrev v : ℕ
  v = W.lengths.variables

  abbrev S : Sorts
  S = sorts_of ws n e

  abbrev answer : Default → Stored
  answer x = term_resolved ws W.lengths x (value (graph W) B p)

  -- Whatever the answer is.
  pub resolve_leaves : (x : Default) → DefaultBelow n x → Leaves (AlwaysStandsFor W B x p) (ReachesFree W B x p) W (answer x).words (answer x).answer
  unfolding term_resolved
  resolve_leaves Nothing l =
      left_by W c (AlwaysStandsFor W B Nothing p) (ReachesFree W B Nothing p) S _
      (resolve_kept ws n e none (value (graph W) B p) S (grown_none ws n e c.sorts) tt (value_formed ws n e ns m d v c B b p i))
      (λ t S₁ q σ r z. resolved_is_every_assignment ws n e ns m d v c B b p S i t S₁ q σ r)
      (λ S₁ q. (resolve_none_exactly ws n e ns m d v c B b p S (λ S₂ f. let z : nothing S₁ ≡ full S₂ = sym q ∙ f in no_confusion (cc))).0 (S₁, q))
  resolve_leaves (Is x) l =
      left_by W c (AlwaysStandsFor W B (Is x) p) (ReachesFree W B (Is x) p) S _
      (resolve_kept ws n e (some (look (trees ws n) x.0)) (value (graph W) B p) S (grown_none ws n e c.sorts)
      (member_look (trees ws n) x.0 (omega (arith, l, length_trees ws n)))
      (value_formed ws n e ns m d v c B b p i))
      (λ t S₁ q σ r z. resolve_or_default_is_the_assignment ws n e ns m d v c B b p S i (look (trees ws n) x.0) t S₁ q σ r z)
      (λ S₁ q. resolve_or_default_never_none ws n e ns m d v c B b p S (look (trees ws n) x.0) S₁ q)

  -- By the equation that a call answers.
  module _ (us : List ℕ) where
    pub resolve_answers : (id : SortId) (K : Counts) → answer Nothing ≡ stored_at us (At id K)
        → Grows W (with_sort_words W us K.sorts K.entries)
        × ((id.0 < K.sorts) × ((σ : ℕ → Term) → Respects (graph W) B σ → substitute σ (term_at (graph W) p) ≡ term_of (look (trees us K.sorts) id.0)))
    resolve_answers id K q =
        let h = leaves_sort W (AlwaysStandsFor W B Nothing p) (ReachesFree W B Nothing p) (answer Nothing) (resolve_leaves Nothing tt) us id K q in
        (h.0, (h.1.0, λ σ r. h.1.1 σ r tt))

    pub resolve_answers_none : (K : Counts) → answer Nothing ≡ stored_at us (NotFound K)
        → Grows W (with_sort_words W us K.sorts K.entries) × ((u : ℕ) × (Reaches (graph W) B u p × (binding B u ≡ none)))
    resolve_answers_none K q = leaves_none W (AlwaysStandsFor W B Nothing p) (ReachesFree W B Nothing p) (answer Nothing) (resolve_leaves Nothing tt) us K q

    module _ (x : SortId) (l : x.0 < n) where
      pub resolve_or_default_answers : (id : SortId) (K : Counts) → answer (Is x) ≡ stored_at us (At id K)
          → Grows W (with_sort_words W us K.sorts K.entries)
          × ((id.0 < K.sorts)
          × ((σ : ℕ → Term) → Respects (graph W) B σ → ((u : ℕ) → binding B u ≡ none → σ u ≡ term_of (look (trees ws n) x.0))
          → substitute σ (term_at (graph W) p) ≡ term_of (look (trees us K.sorts) id.0)))
      resolve_or_default_answers id K q = leaves_sort W (AlwaysStandsFor W B (Is x) p) (ReachesFree W B (Is x) p)
          (answer (Is x)) (resolve_leaves (Is x) l) us id K q

      pub resolve_or_default_answers_a_sort : (K : Counts) → answer (Is x) ≡ stored_at us (NotFound K) → ⊥
      resolve_or_default_answers_a_sort K q = (leaves_none W (AlwaysStandsFor W B (Is x) p) (ReachesFree W B (Is x) p)
          (answer (Is x)) (resolve_leaves (Is x) l) us K q).1

    pub resolve_has_no_room : (x : Default) → DefaultBelow n x → answer x ≡ stored_at us Full → Grows W (with_sort_words W us n e) × ReadsAs W us
    resolve_has_no_room x l q = leaves_full W (AlwaysStandsFor W B x p) (ReachesFree W B x p) (answer x) (resolve_leaves x l) us q
