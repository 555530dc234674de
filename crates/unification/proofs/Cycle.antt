-- Check 7 refuses only what is cyclic. A variable that round k + 1 does not settle is bound to a place in which a variable stands that round k does
-- not settle. So a variable that v rounds do not settle begins a walk of v steps among v variables; such a walk comes back, by the pigeonhole
-- principle. Assumes nothing.
use mathlib.Core.Path.{◌≡◌, refl, sym, ◌∙◌, subst}
use mathlib.Core.List.{List, [], ◌∷◌}
use mathlib.Core.Option.{Option, none, some}
use mathlib.Core.Bool.{Bool, true, false, ◌&&◌}
use mathlib.Core.Logic.{◌⊎◌, inl, inr, ⊎_elim}
use Prim.Native.Nat.{ℕ, zero, suc, ◌+◌, ◌<◌}
use native.Mathlib.Omega.{arith}
use native.Mathlib.Decide.{ℕ_discrete}
use lib.ListN.{length, get_or}
use Rattle.resolved_sort.specs.Storage.{max_sorts}
use Rattle.resolved_sort.proofs.Numbers.{true_not_false}
use Rattle.unification.specs.Term.{Shape, variable, over}
use Rattle.unification.specs.Nodes.{node_at, node_shape, is_place, shape_at, Binds, binding}
use Rattle.unification.specs.NodeChecks.{bindings_fine}
use Rattle.unification.specs.Acyclic.{One, first, later, Reaches, here, inside, beyond, Stands, at, within}
use Rattle.unification.specs.Acyclic.{place_settled, all_settled, shape_settled, nodes_settled, binding_settled}
use Rattle.unification.specs.Acyclic.{rounds, all_true, acyclic, Cyclic}
use Rattle.unification.specs.Checked.{ListsFine, lists_of}
use Rattle.unification.proofs.Numbering.{stands_scoped}
use Rattle.unification.proofs.Places.{place_below, place_longer, bound_is_place}
use Rattle.unification.proofs.Rows.{node_parts}
use Rattle.unification.proofs.FineLists.{node_parts_fine_lem, Place, is_sort_lem, is_node, is_stray, place, scoped}
use Rattle.unification.proofs.Settles.{node_flag, node_is, var_is, length_rounds, settled_longer}

-- The pigeonhole principle. A walk of k steps goes through k + 1 numbers below n. Where two steps in a row make one, a walk of n steps below n
-- comes back to some number.
module _ (Step : ℕ → ℕ → Type 0) (join : (x y z : ℕ) → Step x y → Step y z → Step x z) where
  pub data Walk (n : ℕ) : ℕ → ℕ → Type 0 where
    stay : (x : ℕ) → x < n → Walk n x zero
    step : (x y k : ℕ) → x < n → Step x y → Walk n y k → Walk n x (suc k)

  -- a walk below n + 1 to which n leads comes back to n, or is below n
  not_again : (n x : ℕ) → x < suc n → Step n x → Step n n ⊎ (x < n)
  not_again n x l s = go (ℕ_discrete x n)
    where
      go : Dec (x ≡ n) → Step n n ⊎ (x < n)
      go (yes e) = inl (subst (Step n) e s)
      go (no d) = inr (omega (arith, l, d))

  from_then_below : (n x k : ℕ) → Step n x → Walk (suc n) x k → Step n n ⊎ Walk n x k
  from_then_below n _ _ s (stay x l) = ⊎_elim inl (λ b. inr (stay x b)) (not_again n x l s)
  from_then_below n _ _ s (step x y k l t w) =
      ⊎_elim inl (λ b. ⊎_elim inl (λ r. inr (step x y k b t r)) (from_then_below n y k (join n x y s t) w)) (not_again n x l s)

  -- a walk below n + 1 comes back to n; or there is one below n, a step shorter, to which whatever leads to the first leads
  abbrev Shorter : ℕ → ℕ → ℕ → Type 0
  Shorter n x k = Step n n ⊎ ((z : ℕ) × ((p : ℕ) → Step p x → Step p z) × Walk n z k)

  without_first : (n x y k : ℕ) → x < suc n → Step x y → Walk (suc n) y k → (x < n → Shorter n x k) → Shorter n x k
  without_first n x y k l s w other = go (ℕ_discrete x n)
    where
      go : Dec (x ≡ n) → Shorter n x k
      go (yes e) = ⊎_elim inl (λ r. inr (y, λ p t. join p x y t s, r)) (from_then_below n y k (subst (λ (z : ℕ). Step z y) e s) w)
      go (no d) = other (omega (arith, l, d))

  one_fewer : (n x k : ℕ) → Walk (suc n) x (suc k) → Shorter n x k
  one_fewer n _ zero (step x y _ l s w) = without_first n x y zero l s w (λ b. inr (x, λ p t. t, stay x b))
  one_fewer n _ (suc k) (step x y _ l s w) =
      let ih = one_fewer n y k w in
      without_first n x y (suc k) l s w (λ b. ⊎_elim inl (λ r. inr (x, λ p t. t, step x r.0 k b (r.1 x s) r.2)) ih)

  pub comes_back : (n x : ℕ) → Walk n x n → (u : ℕ) × Step u u
  comes_back zero x (stay _ l) = absurd (omega (arith, l))
  comes_back (suc n) x w = ⊎_elim (λ s. (n, s)) (λ r. comes_back n r.0 r.2) (one_fewer n x n w)

-- not all are settled: one is not
one_open : (ms : List Bool) (ps : List ℕ) → all_settled ms ps ≡ false → (q : ℕ) × One q ps × (place_settled ms q ≡ false)
unfolding all_settled
one_open ms [] e = absurd (true_not_false true refl e)
one_open ms (p ∷ ps) e = go (place_settled ms p) refl e (one_open ms ps)
  where
    go : (b : Bool) → place_settled ms p ≡ b → (b && all_settled ms ps) ≡ false → (all_settled ms ps ≡ false → (q : ℕ) × One q ps × (place_settled ms q ≡ false))
        → (q : ℕ) × One q (p ∷ ps) × (place_settled ms q ≡ false)
    go true x e ih = let r = ih e in (r.0, later p ps r.1, r.2)
    go false x e ih = (p, first ps, x)

one_false : (xs : List Bool) → all_true xs ≡ false → (x : ℕ) × (x < length xs) × (get_or xs x false ≡ false)
unfolding all_true
one_false [] e = absurd (true_not_false true refl e)
one_false (true ∷ xs) e = let r = one_false xs e in (suc r.0, omega (arith, r.1), r.2)
one_false (false ∷ xs) e = (0, omega arith, refl)

-- what stands at a place is reached, and so is what a variable that is reached reaches
module _ (shape : ℕ → Shape) (B : Binds) where
  stands_reaches : (u p : ℕ) → Stands shape u p → Reaches shape B u p
  stands_reaches u _ (at p s) = here p s
  stands_reaches u _ (within p q h ps s o t) = inside p q h ps s o (stands_reaches u q t)

  -- a variable leads to those that what it is bound to reaches
  abbrev Leads : ℕ → ℕ → Type 0
  Leads u w = (q : ℕ) × (binding B u ≡ some q) × Reaches shape B w q

  reaches_through : (u w p : ℕ) → Reaches shape B u p → Leads u w → Reaches shape B w p
  reaches_through u w _ (here p s) t = beyond p u t.0 s t.1 t.2
  reaches_through u w _ (inside p q h ps s o r) t = inside p q h ps s o (reaches_through u w q r t)
  reaches_through u w _ (beyond p x q s b r) t = beyond p x q s b (reaches_through u w q r t)

  leads_on : (x y z : ℕ) → Leads x y → Leads y z → Leads x z
  leads_on x y z s t = (s.0, s.1, reaches_through y z s.0 s.2 t)

module _ (ws : List ℕ) (n e : ℕ) (ns : List ℕ) (m d v : ℕ) (c : ListsFine ws n e ns m d v) (B : Binds) where
  abbrev shape : ℕ → Shape
  shape = shape_at (lists_of ws n ns m)

  abbrev settled : ℕ → ℕ → Bool
  settled k u = get_or (rounds ns m B k) u false

  abbrev flags : ℕ → List Bool
  flags k = nodes_settled ns (rounds ns m B k) m

  -- in a place that is not settled stands a variable that is not: parts are lower
  abbrev Open : ℕ → ℕ → Type 0
  Open k p = (u : ℕ) × Stands shape u p × (settled k u ≡ false)

  abbrev OpenBelow : ℕ → ℕ → Type 0
  OpenBelow k w = (p : ℕ) → p < w → is_place n m p ≡ true → place_settled (flags k) p ≡ false → Open k p

  open_stands : (k w : ℕ) → OpenBelow k w
  open_stands k zero p l f o = absurd (omega (arith, l))
  open_stands k (suc w) p l f o = go (place ws n ns m p) (open_stands k w)
    where
      node : (i : ℕ) → i < m → p ≡ max_sorts + i → (s : Shape) → shape p ≡ s → node_shape ns (node_at ns i) ≡ s
          → shape_settled (rounds ns m B k) (nodes_settled ns (rounds ns m B k) i) s ≡ false
          → OpenBelow k w → Open k p
      node i j x (variable u) g y z ih = (u, at p g, z)
      node i j x (over h ps) g y z ih =
          let r = one_open (nodes_settled ns (rounds ns m B k) i) ps z in
          let a = node_parts ns d n v i (node_at ns i) (node_parts_fine_lem ws n e ns m d v c i j) r.0 h ps y r.1 in
          let b = place_below n i r.0 c.sorts a in
          let t = ih r.0 (omega (arith, b, x, l)) (place_longer n n i m r.0 (omega arith) (omega (arith, j)) a)
          (sym (settled_longer ns (rounds ns m B k) n m i r.0 (omega (arith, j)) a) ∙ r.2) in
          (t.0, within p r.0 h ps g r.1 t.1, t.2)

      go : Place ws n ns m p → OpenBelow k w → Open k p
      go (is_sort_lem a j g) ih = absurd (true_not_false (place_settled (flags k) p) (rw a) o)
      go (is_node i j x g) ih = node i j x (node_shape ns (node_at ns i)) g refl (sym (node_is ns (rounds ns m B k) m i j) ∙ (node_flag (flags k) p i x ∙ o)) ih
      go (is_stray z g) ih = absurd (true_not_false (is_place n m p) f z)

  module _ (many : length B ≡ v) (places : bindings_fine n m B ≡ true) where
    -- a variable that is not settled leads to one that was not settled a round before
    open_leads : (k x : ℕ) → x < v → settled (suc k) x ≡ false → (u : ℕ) × Leads shape B x u × (u < v) × (settled k u ≡ false)
    unfolding rounds
    open_leads k x l f = go (binding B x) refl (sym (var_is (flags k) B x (omega (arith, l, many))) ∙ f)
      where
        go : (b : Option ℕ) → binding B x ≡ b → binding_settled (flags k) b ≡ false → (u : ℕ) × Leads shape B x u × (u < v) × (settled k u ≡ false)
        go none b f = absurd (true_not_false true refl f)
        go (some q) b f =
            let r = open_stands k (suc q) q (omega arith) (bound_is_place n m B x q places b) f in
            (r.0, (q, b, stands_reaches shape B r.0 q r.1), stands_scoped shape v (scoped ws n e ns m d v c) r.0 q r.1, r.2)

    open_walks : (k x : ℕ) → x < v → settled k x ≡ false → Walk (Leads shape B) (leads_on shape B) v x k
    open_walks zero x l f = stay x l
    open_walks (suc k) x l f = let r = open_leads k x l f in step x r.0 k l r.1 (open_walks k r.0 r.2 r.3)

    -- Check 7 refused: some variable reaches itself.
    pub refused_cyclic : acyclic ns m B ≡ false → Cyclic shape B
    unfolding acyclic
    refused_cyclic f =
        let r = one_false (rounds ns m B (length B)) f in
        let w = open_walks v r.0 (omega (arith, r.1, length_rounds ns m B (length B), many)) (subst (λ (k : ℕ). settled k r.0 ≡ false) many r.2) in
        let u = comes_back (Leads shape B) (leads_on shape B) v r.0 w in
        (u.0, u.1.0, u.1.1, u.1.2)
