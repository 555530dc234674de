-- The variables that a try puts on the trail are those that it binds, each once. Undoing sets a variable free for each word of the trail, and exactly
-- so many more are free then; so each word names a variable that was bound, and no two name the same. Assumes nothing.
use mathlib.Core.Path.{◌≡◌, refl, ap, sym, ◌∙◌, subst}
use mathlib.Core.List.{List, [], ◌∷◌}
use mathlib.Core.Option.{Option, none, some}
use Prim.Native.Nat.{ℕ, zero, suc, ◌+◌, ◌-◌, ◌<◌, ◌≤◌}
use native.Mathlib.Omega.{arith}
use native.Mathlib.Decide.{ℕ_discrete}
use lib.ListN.{length, get_or, set, length-set}
use lib.Seq.{get_or-set_other}
use Rattle.unification.specs.declared.Lengths.{Lengths}
use Rattle.unification.specs.Nodes.{free_word, Binds, binding, binding_of, binds_of}
use Rattle.unification.specs.Unify.{Unifies}
use Rattle.unification.specs.Trail.{undo, frees, UnifyLeaves}
use mathlib.Core.Bool.{Bool}
use Rattle.resolved_sort.proofs.Reached.{no_confusion}
use Rattle.unification.proofs.Equations.{frees_few}
use Rattle.unification.proofs.Passed.{length_binds}
use Rattle.unification.proofs.Settles.{bound_inside}
use Rattle.unifier.specs.OnTrail.{OnTrail}

-- a variable set free
free_there : (B : Binds) (x : ℕ) → binding (set B x none) x ≡ none
free_there [] x = refl
free_there (o ∷ B) zero = refl
free_there (o ∷ B) (suc x) = free_there B x

set_before : (B : Binds) (x u q : ℕ) → binding (set B x none) u ≡ some q → (u ≡ x → ⊥) × (binding B u ≡ some q)
set_before B x u q e = (apart, sym (get_or-set_other B x u none none apart) ∙ e)
  where
    apart : u ≡ x → ⊥
    apart i = let z : none ≡ some q = (sym (free_there B x) ∙ (ap (binding (set B x none)) (sym i) ∙ e)) in no_confusion cc

one_more : (B : Binds) (x : ℕ) → (frees (set B x none) ≤ suc (frees B)) × (frees (set B x none) ≡ suc (frees B) → (q : ℕ) × (binding B x ≡ some q))
one_more [] x = (omega arith, λ e. absurd (omega (arith, e)))
one_more (none ∷ B) zero = (omega arith, λ e. absurd (omega (arith, e)))
one_more (some q ∷ B) zero = (omega arith, λ e. (q, refl))
one_more (none ∷ B) (suc x) = let h = one_more B x in (omega (arith, h.0), λ e. h.1 (omega (arith, e)))
one_more (some q ∷ B) (suc x) = let h = one_more B x in (omega (arith, h.0), λ e. h.1 (omega (arith, e)))

-- undoing, on bindings
module _ (ts : List ℕ) (base : ℕ) where
  abbrev at : ℕ → ℕ
  at i = get_or ts (base + i) 0

  abbrev freed : ℕ → Binds → Binds
  freed zero B = B
  freed (suc n) B = freed n (set B (at n) none)

  binds_freed : (bs : List ℕ) (v x : ℕ) → v ≤ length bs → binds_of (set bs x free_word) v ≡ set (binds_of bs v) x none
  unfolding binds_of
  binds_freed bs zero x l = refl
  binds_freed [] (suc v) x l = absurd (omega (arith, l))
  binds_freed (w ∷ bs) (suc v) zero l = refl
  binds_freed (w ∷ bs) (suc v) (suc x) l = ap (λ (B : Binds). binding_of w ∷ B) (binds_freed bs v x (omega (arith, l)))

  binds_undone : (n : ℕ) (bs : List ℕ) (v : ℕ) → v ≤ length bs → binds_of (undo ts base n bs) v ≡ freed n (binds_of bs v)
  unfolding undo
  binds_undone zero bs v l = refl
  binds_undone (suc n) bs v l =
      binds_undone n (set bs (at n) free_word) v (omega (arith, l, length-set bs (at n) free_word)) ∙ ap (freed n) (binds_freed bs v (at n) l)

  -- what is bound after undoing was bound before
  bound_before : (n : ℕ) (B : Binds) (u q : ℕ) → binding (freed n B) u ≡ some q → binding B u ≡ some q
  bound_before zero B u q e = e
  bound_before (suc n) B u q e = (set_before B (at n) u q (bound_before n (set B (at n) none) u q e)).1

  free_stays : (n : ℕ) (B : Binds) (u : ℕ) → binding B u ≡ none → binding (freed n B) u ≡ none
  free_stays n B u e = go (binding (freed n B) u) refl
    where
      go : (o : Option ℕ) → binding (freed n B) u ≡ o → o ≡ none
      go none i = refl
      go (some q) i = let z : none ≡ some q = (sym e ∙ bound_before n B u q i) in no_confusion cc

  freed_there : (n : ℕ) (B : Binds) (i : ℕ) → i < n → binding (freed n B) (at i) ≡ none
  freed_there zero B i l = absurd (omega (arith, l))
  freed_there (suc n) B i l = go (ℕ_discrete i n) (freed_there n (set B (at n) none) i)
    where
      go : Dec (i ≡ n) → (i < n → binding (freed n (set B (at n) none)) (at i) ≡ none) → binding (freed n (set B (at n) none)) (at i) ≡ none
      go (yes e) ih = free_stays n (set B (at n) none) (at i) (subst (λ (j : ℕ). binding (set B (at n) none) (at j) ≡ none) (sym e) (free_there B (at n)))
      go (no d) ih = ih (omega (arith, l, d))

  -- what undoing frees is on the trail
  found : (n : ℕ) (B : Binds) (u q : ℕ) → binding (freed n B) u ≡ none → binding B u ≡ some q → (i : ℕ) × (i < n) × (at i ≡ u)
  found zero B u q f e = let z : none ≡ some q = (sym f ∙ e) in no_confusion cc
  found (suc n) B u q f e = go (ℕ_discrete u (at n)) (found n (set B (at n) none) u q f)
    where
      go : Dec (u ≡ at n) → (binding (set B (at n) none) u ≡ some q → (i : ℕ) × (i < n) × (at i ≡ u)) → (i : ℕ) × (i < suc n) × (at i ≡ u)
      go (yes i) ih = (n, omega arith, sym i)
      go (no d) ih = let r = ih (get_or-set_other B (at n) u none none d ∙ e) in (r.0, omega (arith, r.1), r.2)

  counted : (n : ℕ) (B : Binds) → frees (freed n B) ≤ n + frees B
  counted zero B = omega arith
  counted (suc n) B = omega (arith, counted n (set B (at n) none), (one_more B (at n)).0)

  -- as many freed as words: each word names a bound variable, and no two the same
  record Each (n : ℕ) (B : Binds) : Type 0 where
    bound : (i : ℕ) → i < n → (q : ℕ) × (binding B (at i) ≡ some q)
    differ : (i j : ℕ) → i < n → j < n → at i ≡ at j → i ≡ j

  each : (n : ℕ) (B : Binds) → frees (freed n B) ≡ n + frees B → Each n B
  each zero B e = record { bound = λ i l. absurd (omega (arith, l)); differ = λ i j l. absurd (omega (arith, l)) }
  each (suc n) B e = go (each n (set B (at n) none) (omega (arith, e, counted n (set B (at n) none), (one_more B (at n)).0)))
    where
      last : (q : ℕ) × (binding B (at n) ≡ some q)
      last = (one_more B (at n)).1 (omega (arith, e, counted n (set B (at n) none), (one_more B (at n)).0))

      go : Each n (set B (at n) none) → Each (suc n) B
      go h = record { bound = λ i l. bound i l (ℕ_discrete i n); differ = λ i j l m x. differ i j l m x (ℕ_discrete i n) (ℕ_discrete j n) }
        where
          before : (i : ℕ) → i < n → (q : ℕ) × ((at i ≡ at n → ⊥) × (binding B (at i) ≡ some q))
          before i l = let x = h.bound i l in (x.0, set_before B (at n) (at i) x.0 x.1)

          bound : (i : ℕ) → i < suc n → Dec (i ≡ n) → (q : ℕ) × (binding B (at i) ≡ some q)
          bound i l (yes x) = subst (λ (j : ℕ). (q : ℕ) × (binding B (at j) ≡ some q)) (sym x) last
          bound i l (no d) = let x = before i (omega (arith, l, d)) in (x.0, x.1.1)

          differ : (i j : ℕ) → i < suc n → j < suc n → at i ≡ at j → Dec (i ≡ n) → Dec (j ≡ n) → i ≡ j
          differ i j l m x (yes y) (yes z) = y ∙ sym z
          differ i j l m x (yes y) (no z) = absurd ((before j (omega (arith, m, z))).1.0 (sym x ∙ ap at y))
          differ i j l m x (no y) (yes z) = absurd ((before i (omega (arith, l, y))).1.0 (x ∙ ap at z))
          differ i j l m x (no y) (no z) = h.differ i j (omega (arith, l, y)) (omega (arith, m, z)) x

module _ (ws ns : List ℕ) (k : Lengths) (U : Unifies) (bs ts : List ℕ) (c : ℕ) (bs₁ ts₁ : List ℕ) (d : ℕ) (r : Bool) (t : UnifyLeaves ws ns k U bs ts c bs₁ ts₁ d r) where
  abbrev B : Binds
  B = binds_of bs k.variables

  abbrev C : Binds
  C = binds_of bs₁ k.variables

  abbrev n : ℕ
  n = d - c

  undone : freed ts₁ c n C ≡ B
  undone = sym (binds_undone ts₁ c n bs₁ k.variables t.ready.long) ∙ ap (λ xs. binds_of xs k.variables) t.undone

  told : Each ts₁ c n C
  told = each ts₁ c n C (ap frees undone ∙ (let z : frees B ≡ n + frees C = omega (arith, t.spent, t.longer) in z))

  -- the j-th word of the trail
  word : (j : ℕ) → c ≤ j → get_or ts₁ (c + (j - c)) 0 ≡ get_or ts₁ j 0
  word j l = ap (λ (i : ℕ). get_or ts₁ i 0) (let z : c + (j - c) ≡ j = omega (arith, l) in z)

  bound : (j : ℕ) → c ≤ j → j < d → (q : ℕ) × (binding C (get_or ts₁ j 0) ≡ some q)
  bound j l m = subst (λ (u : ℕ). (q : ℕ) × (binding C u ≡ some q)) (word j l) (told.bound (j - c) (omega (arith, l, m)))

  free : (j : ℕ) → c ≤ j → j < d → binding B (get_or ts₁ j 0) ≡ none
  free j l m = sym (ap (λ (D : Binds). binding D (get_or ts₁ j 0)) undone) ∙ (ap (binding (freed ts₁ c n C))
      (sym (word j l)) ∙ freed_there ts₁ c n C (j - c) (omega (arith, l, m)))

  once : (i j : ℕ) → c ≤ i → i < d → c ≤ j → j < d → get_or ts₁ i 0 ≡ get_or ts₁ j 0 → i ≡ j
  once i j l m o p x =
      omega (arith, l, o, told.differ (i - c) (j - c) (omega (arith, l, m)) (omega (arith, o, p)) (word i l ∙ (x ∙ sym (word j o))))

  every : (u q : ℕ) → binding B u ≡ none → binding C u ≡ some q → (j : ℕ) × (c ≤ j) × (j < d) × (get_or ts₁ j 0 ≡ u)
  every u q f e = let x = found ts₁ c n C u q (ap (λ (D : Binds). binding D u) undone ∙ f) e in (c + x.0, omega arith, omega (arith, x.1), x.2)

  -- A try, whatever it answers, has on the trail exactly the variables that it bound, each once; what was bound stays bound.
  pub trail_variables : OnTrail ts₁ c (d) k.variables B C
  trail_variables =
      record {
        listed = λ j l m. let x = bound j l m in omega (arith, bound_inside C (get_or ts₁ j 0) x.0 x.1, length_binds bs₁ k.variables);
        free_before = free;
        bound_after = bound;
        once = once;
        every = every;
        stays = λ u q e. bound_before ts₁ c n C u q (ap (λ (D : Binds). binding D u) undone ∙ e);
        few = (omega (arith, t.spent, frees_few B, length_binds bs k.variables), t.ready.nodes.variables);
      }
