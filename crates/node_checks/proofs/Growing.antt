-- Rounds only settle more: what is settled by some variables is settled by more of them, and so in the next round. So once all variables are settled,
-- further rounds find nothing else. By induction over the nodes and the rounds. Assumes nothing.
use mathlib.Core.Path.{◌≡◌, refl, sym, ap, ◌∙◌, subst}
use mathlib.Core.Bool.{Bool, true, false, cond, and-eq-true_iff}
use mathlib.Core.List.{List, [], ◌∷◌, ◌++◌}
use mathlib.Core.Option.{Option, none, some}
use Prim.Native.Nat.{ℕ, zero, suc, ◌+◌, ◌-◌, ◌<◌, ◌≤◌}
use native.Mathlib.Omega.{arith}
use lib.ListN.{length, get_or, length-append}
use Rattle.resolved_sort.specs.Storage.{max_sorts}
use Rattle.unification.specs.Term.{Shape, variable, over}
use Rattle.unification.specs.Nodes.{is_sort, node_at, node_shape, Binds}
use Rattle.unification.specs.Acyclic.{place_settled, all_settled, shape_settled, nodes_settled, binding_settled, vars_settled, rounds, all_true, acyclic}
use Rattle.unification.proofs.Settles.{length_rounds, none_at_first}

-- each flag of the first is one of the second
abbrev More : List Bool → List Bool → Type 0
More xs ys = (i : ℕ) → get_or xs i false ≡ true → get_or ys i false ≡ true

module _ (ms ns : List Bool) (h : More ms ns) where
  place_more : (p : ℕ) → place_settled ms p ≡ true → place_settled ns p ≡ true
  place_more p e = go (is_sort p) e
    where
      go : (b : Bool) → cond b true (get_or ms (p - max_sorts) false) ≡ true → cond b true (get_or ns (p - max_sorts) false) ≡ true
      go true e = refl
      go false e = h (p - max_sorts) e

  all_more : (ps : List ℕ) → all_settled ms ps ≡ true → all_settled ns ps ≡ true
  unfolding all_settled
  all_more [] e = refl
  all_more (p ∷ ps) e =
      let x = (and-eq-true_iff (place_settled ms p) (all_settled ms ps)).0 e in
      (and-eq-true_iff (place_settled ns p) (all_settled ns ps)).1 (place_more p x.0, all_more ps x.1)

  shape_more : (us vs : List Bool) → More us vs → (s : Shape) → shape_settled us ms s ≡ true → shape_settled vs ns s ≡ true
  shape_more us vs k (variable v) e = k v e
  shape_more us vs k (over g ps) e = all_more ps e

  binding_more : (o : Option ℕ) → binding_settled ms o ≡ true → binding_settled ns o ≡ true
  binding_more none e = refl
  binding_more (some q) e = place_more q e

  vars_more : (B : Binds) → More (vars_settled ms B) (vars_settled ns B)
  unfolding vars_settled
  vars_more [] i e = e
  vars_more (o ∷ B) zero e = binding_more o e
  vars_more (o ∷ B) (suc i) e = vars_more B i e

append_more : (xs ys : List Bool) (a b : Bool) → length xs ≡ length ys → More xs ys → (a ≡ true → b ≡ true) → More (xs ++ (a ∷ [])) (ys ++ (b ∷ []))
append_more [] [] a b l h k zero e = k e
append_more [] [] a b l h k (suc i) e = e
append_more [] (y ∷ ys) a b l h k i e = absurd (omega (arith, l))
append_more (x ∷ xs) [] a b l h k i e = absurd (omega (arith, l))
append_more (x ∷ xs) (y ∷ ys) a b l h k zero e = h 0 e
append_more (x ∷ xs) (y ∷ ys) a b l h k (suc i) e = append_more xs ys a b (omega (arith, l)) (λ j. h (suc j)) k i e

module _ (ns : List ℕ) (us vs : List Bool) (h : More us vs) where
  as_many : (m : ℕ) → length (nodes_settled ns us m) ≡ length (nodes_settled ns vs m)
  unfolding nodes_settled
  as_many zero = refl
  as_many (suc m) = simp length-append (omega (arith, as_many m))

  nodes_more : (m : ℕ) → More (nodes_settled ns us m) (nodes_settled ns vs m)
  unfolding nodes_settled
  nodes_more zero = λ i e. e
  nodes_more (suc m) =
      append_more (nodes_settled ns us m) (nodes_settled ns vs m) _ _ (as_many m) (nodes_more m)
      (shape_more (nodes_settled ns us m) (nodes_settled ns vs m) (nodes_more m) us vs h (node_shape ns (node_at ns m)))

module _ (ns : List ℕ) (m : ℕ) (B : Binds) where
  round_more : (k : ℕ) → More (rounds ns m B k) (rounds ns m B (suc k))
  unfolding rounds
  round_more zero = λ i e. absurd (let z : ◌≡◌ {A = Bool} false true = sym (none_at_first (length B) i) ∙ e in let y : ◌≡◌ {A = ℕ} 0 1 = cc in omega arith)
  round_more (suc k) = vars_more _ _ (nodes_more ns (rounds ns m B k) (rounds ns m B (suc k)) (round_more k) m) B

  -- flags all set, one by one
  all_of : (xs : List Bool) → all_true xs ≡ true → (i : ℕ) → i < length xs → get_or xs i false ≡ true
  unfolding all_true
  all_of [] e i l = absurd (omega (arith, l))
  all_of (x ∷ xs) e zero l = ((and-eq-true_iff x (all_true xs)).0 e).0
  all_of (x ∷ xs) e (suc i) l = all_of xs ((and-eq-true_iff x (all_true xs)).0 e).1 i (omega (arith, l))

  of_all : (xs : List Bool) → ((i : ℕ) → i < length xs → get_or xs i false ≡ true) → all_true xs ≡ true
  unfolding all_true
  of_all [] h = refl
  of_all (x ∷ xs) h = (and-eq-true_iff x (all_true xs)).1 (h 0 (omega arith), of_all xs (λ i l. h (suc i) (omega (arith, l))))

  still_all : (k d : ℕ) → all_true (rounds ns m B k) ≡ true → all_true (rounds ns m B (k + d)) ≡ true
  still_all k zero e = subst (λ n. all_true (rounds ns m B n) ≡ true) (let q : k ≡ k + 0 = omega arith in q) e
  still_all k (suc d) e =
      subst (λ n. all_true (rounds ns m B n) ≡ true) (let q : suc (k + d) ≡ k + suc d = omega arith in q)
      (of_all (rounds ns m B (suc (k + d)))
      (λ i l. round_more (k + d) i (all_of (rounds ns m B (k + d)) (still_all k d e) i
      (omega (arith, l, length_rounds ns m B (k + d), length_rounds ns m B (suc (k + d)))))))

  -- all variables settled after some rounds
  pub settled_early : (k : ℕ) → k ≤ length B → all_true (rounds ns m B k) ≡ true → true ≡ acyclic ns m B
  unfolding acyclic
  settled_early k l e = sym (subst (λ n. all_true (rounds ns m B n) ≡ true) (let q : k + (length B - k) ≡ length B =
      omega (arith, l) in q) (still_all k (length B - k) e))

  -- the same of the flags in memory, after one round more
  pub settled_here : (vs : List Bool) (r v : ℕ) → v ≡ length B → r < v → vs ≡ rounds ns m B (r + 1) → (b : Bool)
      → b ≡ all_true vs → b ≡ true → true ≡ acyclic ns m B
  settled_here vs r v q l e b f g = settled_early (r + 1) (omega (arith, q, l)) (sym (ap all_true e) ∙ (sym f ∙ g))
