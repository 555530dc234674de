-- Join and meet of two sorts of the lent lists: what the call answers is the join or meet of the two, it answers none exactly where there is none, and
-- the lists have grown. By the laws of making. Assumes nothing.
use mathlib.Core.Path.{◌≡◌, subst}
use mathlib.Core.Bool.{Bool}
use mathlib.Core.List.{List}
use mathlib.Core.Option.{none, some}
use Prim.Native.Nat.{ℕ, ◌<◌}
use Rattle.resolved_sort.specs.Tree.{Tree}
use Rattle.resolved_sort.specs.Order.{bound}
use Rattle.resolved_sort.specs.Interning.{look, Outcome, make}
use Rattle.resolved_sort.specs.Storage.{trees, sorts_of}
use Rattle.resolved_sort.specs.Bounds.{bound_at}
use Rattle.resolved_sort.proofs.Grown.{grown_none}
use Rattle.resolved_sort.proofs.Kept.{make_kept}
use Rattle.resolved_sort.proofs.Stored.{look_whole}
use Rattle.resolved_sort.specs.Growing.{Answers}
use Rattle.resolved_sort.proofs.Made.{make_answers}
use Rattle.unification.specs.Making.{Lent}
use Rattle.unification.specs.Growing.{CheckedLent}
use Rattle.unification.proofs.SortsLeft.{Leaves, left_by}

module _ (W : Lent) (c : CheckedLent W) (up : Bool) (a b : ℕ) (x : a < W.lengths.sorts) (y : b < W.lengths.sorts) where
  abbrev ws : List ℕ
  ws = W.sorts

  abbrev n : ℕ
  n = W.lengths.sorts

  abbrev e : ℕ
  e = W.lengths.entries

  abbrev s : Tree
  s = look (trees ws n) a

  abbrev t : Tree
  t = look (trees ws n) b

  abbrev O : Outcome Tree
  O = make up s t (sorts_of ws n e)

  pub bound_leaves : Leaves (λ u. bound up s t ≡ some u) (bound up s t ≡ none) W (bound_at up ws n e a b).words (bound_at up ws n e a b).answer
  unfolding bound_at Answers
  bound_leaves =
      left_by W c (λ u. bound up s t ≡ some u) (bound up s t ≡ none) (sorts_of ws n e) O
      (make_kept ws n e up s t (sorts_of ws n e) (grown_none ws n e c.sorts) (look_whole ws n e c.sorts a x) (look_whole ws n e c.sorts b y))
      (λ u S q. subst (Answers (bound up s t)) q (make_answers up s t (sorts_of ws n e)))
      (λ S q. subst (Answers (bound up s t)) q (make_answers up s t (sorts_of ws n e)))
