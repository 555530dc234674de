-- `same` answers true exactly for equal trees: by the clauses of `same`. Assumes nothing.
use mathlib.Core.Path.{◌≡◌, refl, ap, ap₂}
use mathlib.Core.Bool.{true, and-eq-true_iff}
use mathlib.Core.Logic.{◌↔◌}
use Rattle.resolved_sort.specs.Tree.{Tree, flat, container, function, Trees, no_args, arg, same, sames}
use Rattle.resolved_sort.proofs.Heads.{same_flat_lem, same_op}

mutual
  unfolding same

  same_equal : (s t : Tree) → same s t ≡ true → s ≡ t
  same_equal (flat a) (flat b) e = ap flat ((same_flat_lem a b).0 e)
  same_equal (flat a) (container p t) e = cc
  same_equal (flat a) (function ts u) e = cc
  same_equal (container o s) (flat b) e = cc
  same_equal (container o s) (container p t) e = let h = (and-eq-true_iff _ _).0 e in ap₂ container ((same_op o p).0 h.0) (same_equal s t h.1)
  same_equal (container o s) (function ts u) e = cc
  same_equal (function ss r) (flat b) e = cc
  same_equal (function ss r) (container p t) e = cc
  same_equal (function ss r) (function ts u) e = let h = (and-eq-true_iff _ _).0 e in ap₂ function (sames_equal ss ts h.0) (same_equal r u h.1)

  sames_equal : (ss ts : Trees) → sames ss ts ≡ true → ss ≡ ts
  sames_equal no_args no_args e = refl
  sames_equal no_args (arg t ts) e = cc
  sames_equal (arg s ss) no_args e = cc
  sames_equal (arg s ss) (arg t ts) e = let h = (and-eq-true_iff _ _).0 e in ap₂ arg (same_equal s t h.0) (sames_equal ss ts h.1)

mutual
  unfolding same

  same_refl : (s : Tree) → same s s ≡ true
  same_refl (flat a) = (same_flat_lem a a).1 refl
  same_refl (container o s) = (and-eq-true_iff _ _).1 ((same_op o o).1 refl, same_refl s)
  same_refl (function ss r) = (and-eq-true_iff _ _).1 (sames_refl ss, same_refl r)

  sames_refl : (ss : Trees) → sames ss ss ≡ true
  sames_refl no_args = refl
  sames_refl (arg s ss) = (and-eq-true_iff _ _).1 (same_refl s, sames_refl ss)

pub same_exactly : (s t : Tree) → (same s t ≡ true) ↔ (s ≡ t)
same_exactly s t = (same_equal s t, λ e. rw e (same_refl t))

pub sames_exactly : (ss ts : Trees) → (sames ss ts ≡ true) ↔ (ss ≡ ts)
sames_exactly ss ts = (sames_equal ss ts, λ e. rw e (sames_refl ts))
