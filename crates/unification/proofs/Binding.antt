-- Binding a free variable to a sort in which it does not occur keeps the numbering of variables: the variables in which the bound one occurs
-- are numbered anew, above all others. Assumes nothing.
use mathlib.Core.Path.{◌≡◌, refl, ap, sym, ◌∙◌, subst}
use mathlib.Core.List.{List}
use mathlib.Core.Option.{none, some}
use Prim.Native.Nat.{ℕ, suc, ◌+◌, ◌*◌, ◌<◌}
use native.Mathlib.Omega.{arith}
use native.Mathlib.Decide.{ℕ_discrete}
use lib.ListN.{length, set}
use lib.Seq.{get_or-set_same, get_or-set_other}
use borrow.Author.Tests.{eq-eqb}
use Rattle.resolved_sort.proofs.Reached.{no_confusion}
use Rattle.unification.specs.Term.{Head, Shape, variable, over}
use Rattle.unification.specs.Nodes.{Binds, binding}
use Rattle.unification.specs.Acyclic.{One, first, later, Stands, at, within, Numbering, Lower}
use Rattle.unification.specs.Unify.{Occurs, unknown, absent, present, or_else, of_test, occurs_any, occurs_bound, occurs}
use Rattle.unification.proofs.Rank.{Ranked}
use Rattle.unification.proofs.Numbering.{numbered, numbered_ranked}
use Rattle.unification.proofs.Enough.{occurs_eq, occurs_known}

-- in a list of parts
any_absent : (shape : ℕ → Shape) (f : ℕ → Occurs) (q : ℕ) (ps : List ℕ) → One q ps → occurs_any shape f ps ≡ absent → f q ≡ absent
any_absent shape f q _ (first ps) e = go (f q) refl e
  where
    go : (a : Occurs) → f q ≡ a → or_else a (occurs_any shape f ps) ≡ absent → f q ≡ absent
    go absent i e = i
    go present i e = no_confusion (cc)
    go unknown i e = no_confusion (cc)
any_absent shape f q _ (later p ps o) e = go (f p) e (any_absent shape f q ps o)
  where
    go : (a : Occurs) → or_else a (occurs_any shape f ps) ≡ absent → (occurs_any shape f ps ≡ absent → f q ≡ absent) → f q ≡ absent
    go absent e k = k e
    go present e k = no_confusion (cc)
    go unknown e k = no_confusion (cc)

any_present : (shape : ℕ → Shape) (f : ℕ → Occurs) → ((p : ℕ) → f p ≡ unknown → ⊥) → (q : ℕ) (ps : List ℕ) → One q ps
    → f q ≡ present → occurs_any shape f ps ≡ present
any_present shape f known q _ (first ps) e = rw e
any_present shape f known q _ (later p ps o) e = go (f p) refl (any_present shape f known q ps o e)
  where
    go : (a : Occurs) → f p ≡ a → occurs_any shape f ps ≡ present → or_else a (occurs_any shape f ps) ≡ present
    go absent i k = k
    go present i k = refl
    go unknown i k = absurd (known p i)

module _ (shape : ℕ → Shape) (K : ℕ) (lower : Lower shape K) (n : ℕ) (scoped : (p v : ℕ) → shape p ≡ variable v
    → v < n) (w : ℕ) (deep : suc n * suc K + K < w) (B : Binds) (N : Numbering shape n B) where
  abbrev ranked : Ranked shape w B
  ranked = numbered_ranked shape K lower n B N w deep

  module _ (v r : ℕ) (free : binding B v ≡ none) (inside : v < length B) (o : occurs shape w B v r ≡ absent) where
    abbrev found : ℕ → Occurs
    found = occurs shape w B v

    known : (p : ℕ) → found p ≡ unknown → ⊥
    known p = occurs_known shape w B ranked v w p (ranked.short p)

    -- whether v occurs in the variable u
    abbrev reaching : ℕ → Occurs
    reaching u = occurs_bound shape (binding B u) v u found

    at_variable : (p u : ℕ) → shape p ≡ variable u → found p ≡ reaching u
    at_variable p u s = occurs_eq shape w B ranked v p ∙ rw s

    at_parts : (p : ℕ) (h : Head) (ps : List ℕ) → shape p ≡ over h ps → found p ≡ occurs_any shape found ps
    at_parts p h ps s = occurs_eq shape w B ranked v p ∙ rw s

    stands_absent : (u p : ℕ) → Stands shape u p → found p ≡ absent → reaching u ≡ absent
    stands_absent u _ (at p s) e = sym (at_variable p u s) ∙ e
    stands_absent u _ (within p q h ps s i t) e = stands_absent u q t (any_absent shape found q ps i (sym (at_parts p h ps s) ∙ e))

    stands_present : (u p : ℕ) → Stands shape u p → reaching u ≡ present → found p ≡ present
    stands_present u _ (at p s) e = at_variable p u s ∙ e
    stands_present u _ (within p q h ps s i t) e = at_parts p h ps s ∙ any_present shape found known q ps i (stands_present u q t e)

    -- above all others where v occurs
    abbrev raised : Occurs → ℕ
    raised absent = 0
    raised present = suc n
    raised unknown = 0

    abbrev anew : ℕ → ℕ
    anew u = N.number u + raised (reaching u)

    v_reaches : reaching v ≡ present
    v_reaches = rw free (ap of_test (eq-eqb v v refl))

    unchanged : (u : ℕ) → (u ≡ v → ⊥) → binding (set B v (some r)) u ≡ binding B u
    unchanged u d = get_or-set_other B v u (some r) none d

    old_falls : (x q u : ℕ) → binding B x ≡ some q → Stands shape u q → anew u < anew x
    old_falls x q u e s = go (reaching u) refl
      where
        go : (a : Occurs) → reaching u ≡ a → N.number u + raised a < N.number x + raised (reaching x)
        go absent i = omega (arith, N.falls x q u e s)
        go unknown i = omega (arith, N.falls x q u e s)
        go present i = rw (e, stands_present u q s i) (omega (arith, N.falls x q u e s))

    new_falls : (u : ℕ) → Stands shape u r → anew u < anew v
    new_falls u s = rw (stands_absent u r s o, v_reaches) (omega (arith, N.few u))

    anew_falls : (x q u : ℕ) → Dec (x ≡ v) → binding (set B v (some r)) x ≡ some q → Stands shape u q → anew u < anew x
    anew_falls x q u (yes i) e s =
        let a : some r ≡ some q = sym (get_or-set_same B v (some r) none inside) ∙ (ap (binding (set B v (some r))) (sym i) ∙ e) in
        let b : r ≡ q = cc in
        subst (λ (y : ℕ). anew u < anew y) (sym i) (new_falls u (subst (Stands shape u) (sym b) s))
    anew_falls x q u (no d) e s = old_falls x q u (sym (unchanged x d) ∙ e) s

    pub binding_numbered : Numbering shape n (set B v (some r))
    binding_numbered = numbered shape n scoped (set B v (some r)) anew (λ x q u e s. anew_falls x q u (ℕ_discrete x v) e s)
