-- Lists of parts. What holds of each entry of a run, and of what stands behind it, holds of each one of the list; and functions that agree on each part
-- agree on the list. By induction on the list. Assumes nothing.
use mathlib.Core.Path.{◌≡◌, refl, ap, sym, ◌∙◌, subst}
use mathlib.Core.List.{List, [], ◌∷◌, ◌++◌}
use Prim.Native.Nat.{ℕ, zero, suc, ◌+◌, ◌<◌}
use native.Mathlib.Omega.{arith}
use lib.ListN.{length, get_or}
use Rattle.resolved_sort.specs.Storage.{entry_at, entries_of}
use Rattle.resolved_sort.proofs.Reached.{no_confusion}
use Rattle.unification.specs.Term.{Term, Shape, substitute, substitutes}
use Rattle.unification.specs.Nodes.{node_entry_at, node_entries_of}
use Rattle.unification.specs.Unify.{Occurs, occurs_any}
use Rattle.unification.specs.Acyclic.{One, first, later}
use Rattle.unification.specs.Solutions.{terms_at}

-- one of a list
pub none_of : {A : Type 0} (q : ℕ) (ps : List ℕ) → One q ps → ps ≡ [] → A
none_of q _ (first ps) e = no_confusion (cc)
none_of q _ (later p ps o) e = no_confusion (cc)

pub one_of_one : (q x : ℕ) (ps : List ℕ) → One q ps → ps ≡ x ∷ [] → q ≡ x
one_of_one q x _ (first ps) e = cc
one_of_one q x _ (later p ps o) e = none_of q ps o (let z : ps ≡ [] = cc in z)

pub one_at : (xs : List ℕ) (j : ℕ) → j < length xs → One (get_or xs j 0) xs
one_at [] j l = absurd (omega (arith, l))
one_at (x ∷ xs) zero l = first xs
one_at (x ∷ xs) (suc j) l = later x xs (one_at xs j (omega (arith, l)))

pub one_last : (xs : List ℕ) (r : ℕ) → One r (xs ++ (r ∷ []))
one_last [] r = first []
one_last (x ∷ xs) r = later x (xs ++ (r ∷ [])) (one_last xs r)

pub one_front : (q : ℕ) (xs ys : List ℕ) → One q xs → One q (xs ++ ys)
one_front q _ ys (first xs) = first (xs ++ ys)
one_front q _ ys (later x xs o) = later x (xs ++ ys) (one_front q xs ys o)

-- what holds of the first and of the others, and of two lists, holds of each
each_of_more : (P : ℕ → Type 0) (x : ℕ) (xs : List ℕ) → P x → ((q : ℕ) → One q xs → P q) → (q : ℕ) → One q (x ∷ xs) → P q
each_of_more P x xs h k _ (first _) = h
each_of_more P x xs h k q (later _ _ o) = k q o

each_of_both : (P : ℕ → Type 0) (xs ys : List ℕ) → ((q : ℕ) → One q xs → P q) → ((q : ℕ) → One q ys → P q) → (q : ℕ) → One q (xs ++ ys) → P q
each_of_both P [] ys h k = k
each_of_both P (x ∷ xs) ys h k = each_of_more P x (xs ++ ys) (h x (first xs)) (each_of_both P xs ys (λ q o. h q (later x xs o)) k)

-- runs of entries, of sorts and of nodes
pub record Runs (entry : ℕ → ℕ) (entries : ℕ → ℕ → List ℕ) : Type 0 where
  pub none : (s : ℕ) → entries s zero ≡ []
  pub more : (s c : ℕ) → entries s (suc c) ≡ entry s ∷ entries (s + 1) c

pub sort_runs : (ws : List ℕ) → Runs (entry_at ws) (entries_of ws)
unfolding entries_of
sort_runs ws = record { none = λ s. refl; more = λ s c. refl }

pub node_runs : (ns : List ℕ) → Runs (node_entry_at ns) (node_entries_of ns)
unfolding node_entries_of
node_runs ns = record { none = λ s. refl; more = λ s c. refl }

module _ (entry : ℕ → ℕ) (entries : ℕ → ℕ → List ℕ) (R : Runs entry entries) where
  pub run_length : (s c : ℕ) → length (entries s c) ≡ c
  run_length s zero = ap length (R.none s)
  run_length s (suc c) = ap length (R.more s c) ∙ omega (arith, run_length (s + 1) c)

  pub each_of_run : (P : ℕ → Type 0) (s c : ℕ) → ((j : ℕ) → j < c → P (entry (s + j))) → (q : ℕ) → One q (entries s c) → P q
  each_of_run P s zero h q o = none_of q (entries s zero) o (R.none s)
  each_of_run P s (suc c) h q o =
      each_of_more P (entry s) (entries (s + 1) c) (subst (λ (i : ℕ). P (entry i)) (let z : s + 0 ≡ s = omega arith in z) (h 0 (omega arith)))
      (each_of_run P (s + 1) c (λ j l. subst (λ (i : ℕ). P (entry i)) (let z : s + suc j ≡ s + 1 + j = omega arith in z) (h (suc j) (omega (arith, l))))) q
      (subst (One q) (R.more s c) o)

  -- arguments and a range
  pub each_of_function : (P : ℕ → Type 0) (s c r : ℕ) → ((j : ℕ) → j < c → P (entry (s + j))) → P r → (q : ℕ) → One q (entries s c ++ (r ∷ [])) → P q
  each_of_function P s c r h k =
      each_of_both P (entries s c) (r ∷ []) (each_of_run P s c h) (λ q o. subst P (sym (one_of_one q r (r ∷ []) o refl)) k)

-- functions that agree on each part
pub terms_at_agree : (f g : ℕ → Term) (ps : List ℕ) → ((q : ℕ) → One q ps → f q ≡ g q) → terms_at f ps ≡ terms_at g ps
terms_at_agree f g [] h = refl
terms_at_agree f g (p ∷ ps) h = let a = h p (first ps) in let b = terms_at_agree f g ps (λ q o. h q (later p ps o)) in cc

pub puts_agree : (σ f g : ℕ → Term) (ps : List ℕ) → ((q : ℕ) → One q ps → substitute σ (f q) ≡ g q) → substitutes σ (terms_at f ps) ≡ terms_at g ps
unfolding substitutes
puts_agree σ f g [] h = refl
puts_agree σ f g (p ∷ ps) h = let a = h p (first ps) in let b = puts_agree σ f g ps (λ q o. h q (later p ps o)) in cc

pub occurs_any_agree : (shape shape' : ℕ → Shape) (f g : ℕ → Occurs) (ps : List ℕ) → ((q : ℕ) → One q ps → f q ≡ g q)
    → occurs_any shape' f ps ≡ occurs_any shape g ps
occurs_any_agree shape shape' f g [] h = refl
occurs_any_agree shape shape' f g (p ∷ ps) h = let a = h p (first ps) in let c = occurs_any_agree shape shape' f g ps (λ q o. h q (later p ps o)) in cc
