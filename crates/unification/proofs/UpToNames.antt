-- Terms up to the names of their variables. Two terms that are instances of each other are equal once all names are forgotten; resolve looks at no name;
-- nor does it depend on a name whether a term ends in a variable, through the ranges of functions. By induction on terms. Assumes nothing.
use mathlib.Core.Path.{◌≡◌, refl, ap, ap₂, sym, ◌∙◌}
use mathlib.Core.Bool.{Bool, true, false}
use mathlib.Core.List.{List, [], ◌∷◌}
use mathlib.Core.Logic.{inl, inr}
use mathlib.Core.Option.{Option}
use Prim.Native.Nat.{ℕ, zero, suc, ◌<◌}
use native.Mathlib.Omega.{arith}
use lib.ListN.{length, get_or}
use Rattle.resolved_sort.specs.Tree.{Tree}
use Rattle.resolved_sort.specs.Interning.{Sorts, made, ◌then◌, intern}
use Rattle.resolved_sort.proofs.Reached.{no_confusion}
use Rattle.unification.specs.Term.{flat_head, container_head, function_head, stray_head, Term, var, app, Terms, no_part, part, substitute, substitutes}
use Rattle.unification.specs.Solutions.{terms_at}
use Rattle.unification.specs.Resolve.{tree_over, resolve_term, resolve_terms}
use Rattle.unification.proofs.Resolved.{Has, OneHas}

-- t is u with terms put in for its variables
abbrev pub Instance : Term → Term → Type 0
Instance t u = (τ : ℕ → Term) × (t ≡ substitute τ u)

-- equal, all names forgotten
abbrev pub nameless : Term → Term
nameless t = substitute (λ v. var 0) t

abbrev pub SameButNames : Term → Term → Type 0
SameButNames t u = nameless t ≡ nameless u

mutual
  unfolding substitute substitutes

  pub instances_same_but_names : (σ τ : ℕ → Term) (t u : Term) → t ≡ substitute σ u → u ≡ substitute τ t → SameButNames t u
  instances_same_but_names σ τ (var v) (var w) p q = refl
  instances_same_but_names σ τ (var v) (app g us) p q = no_confusion (cc)
  instances_same_but_names σ τ (app h ts) (var w) p q = no_confusion (cc)
  instances_same_but_names σ τ (app h ts) (app g us) p q =
      let x : h ≡ g = cc in
      let y : ts ≡ substitutes σ us = cc in
      let z : us ≡ substitutes τ ts = cc in
      ap₂ app x (all_same_but_names σ τ ts us y z)

  all_same_but_names : (σ τ : ℕ → Term) (ts us : Terms) → ts ≡ substitutes σ us → us ≡ substitutes τ ts
      → substitutes (λ v. var 0) ts ≡ substitutes (λ v. var 0) us
  all_same_but_names σ τ no_part no_part p q = refl
  all_same_but_names σ τ no_part (part u us) p q = no_confusion (cc)
  all_same_but_names σ τ (part t ts) no_part p q = no_confusion (cc)
  all_same_but_names σ τ (part t ts) (part u us) p q =
      let a : t ≡ substitute σ u = cc in
      let b : u ≡ substitute τ t = cc in
      let x : ts ≡ substitutes σ us = cc in
      let y : us ≡ substitutes τ ts = cc in
      ap₂ part (instances_same_but_names σ τ t u a b) (all_same_but_names σ τ ts us x y)

-- what is put in matters only for the variables that stand there; and putting in twice is putting in once
module _ (σ τ : ℕ → Term) where
  mutual
    unfolding substitute substitutes Has OneHas

    pub put_agrees : (t : Term) → ((v : ℕ) → Has v t → σ v ≡ τ v) → substitute σ t ≡ substitute τ t
    put_agrees (var v) h = h v refl
    put_agrees (app g ts) h = ap (app g) (all_agree ts h)

    all_agree : (ts : Terms) → ((v : ℕ) → OneHas v ts → σ v ≡ τ v) → substitutes σ ts ≡ substitutes τ ts
    all_agree no_part h = refl
    all_agree (part t ts) h = ap₂ part (put_agrees t (λ v x. h v (inl x))) (all_agree ts (λ v x. h v (inr x)))

  mutual
    unfolding substitute substitutes

    pub put_twice : (t : Term) → substitute σ (substitute τ t) ≡ substitute (λ v. substitute σ (τ v)) t
    put_twice (var v) = refl
    put_twice (app g ts) = ap (app g) (all_twice ts)

    all_twice : (ts : Terms) → substitutes σ (substitutes τ ts) ≡ substitutes (λ v. substitute σ (τ v)) ts
    all_twice no_part = refl
    all_twice (part t ts) = ap₂ part (put_twice t) (all_twice ts)

-- resolve
module _ (d : Option Tree) where
  mutual
    unfolding resolve_term resolve_terms substitute substitutes

    resolve_nameless : (t : Term) (S : Sorts) → resolve_term d (nameless t) S ≡ resolve_term d t S
    resolve_nameless (var v) S = refl
    resolve_nameless (app h ts) S = ap (λ O. O then (λ us S. intern (tree_over h us) S)) (resolves_nameless ts S)

    resolves_nameless : (ts : Terms) (S : Sorts) → resolve_terms d (substitutes (λ v. var 0) ts) S ≡ resolve_terms d ts S
    resolves_nameless no_part S = refl
    resolves_nameless (part t ts) S = λ i. resolve_nameless t S i then (λ u S. resolves_nameless ts S i then (λ us S. made (u ∷ us) S))

  pub resolve_up_to_names : (t u : Term) → SameButNames t u → (S : Sorts) → resolve_term d t S ≡ resolve_term d u S
  resolve_up_to_names t u e S = sym (resolve_nameless t S) ∙ (ap (λ x. resolve_term d x S) e ∙ resolve_nameless u S)

-- whether a term is a variable, or a function whose final range is one
unfoldable mutual
  pub open_end : Term → Bool
  open_end (var v) = true
  open_end (app (flat_head a) ts) = false
  open_end (app (container_head o) ts) = false
  open_end (app (function_head n) ts) = open_at n ts
  open_end (app (stray_head x) ts) = false

  -- of the part after n others
  pub open_at : ℕ → Terms → Bool
  open_at n no_part = false
  open_at zero (part t ts) = open_end t
  open_at (suc n) (part t ts) = open_at n ts

mutual
  unfolding open_end open_at substitute substitutes

  open_nameless : (t : Term) → open_end (nameless t) ≡ open_end t
  open_nameless (var v) = refl
  open_nameless (app (flat_head a) ts) = refl
  open_nameless (app (container_head o) ts) = refl
  open_nameless (app (function_head n) ts) = open_at_nameless n ts
  open_nameless (app (stray_head x) ts) = refl

  open_at_nameless : (n : ℕ) (ts : Terms) → open_at n (substitutes (λ v. var 0) ts) ≡ open_at n ts
  open_at_nameless n no_part = refl
  open_at_nameless zero (part t ts) = open_nameless t
  open_at_nameless (suc n) (part t ts) = open_at_nameless n ts

pub open_up_to_names : (t u : Term) → SameButNames t u → open_end t ≡ open_end u
open_up_to_names t u e = sym (open_nameless t) ∙ (ap open_end e ∙ open_nameless u)

pub open_at_part : (f : ℕ → Term) (n : ℕ) (ps : List ℕ) → n < length ps → open_at n (terms_at f ps) ≡ open_end (f (get_or ps n 0))
unfolding open_at
open_at_part f n [] l = absurd (omega (arith, l))
open_at_part f zero (p ∷ ps) l = refl
open_at_part f (suc n) (p ∷ ps) l = open_at_part f n ps (omega (arith, l))
