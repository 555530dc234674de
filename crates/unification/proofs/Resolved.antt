-- What resolve's answers mean. A sort: the place stands for it under every assignment that respects the bindings. None: a free variable stands in
-- the place. With a default: the assignment that gives each free variable the default. By the term of the place through the bindings, whose
-- variables are the free ones that the place reaches. Assumes nothing.
use mathlib.Core.Path.{◌≡◌, refl, sym, ◌∙◌, ap, ap₂, subst}
use mathlib.Core.Bool.{Bool, true, false, cond}
use mathlib.Core.Logic.{◌⊎◌, inl, inr, ⊎_elim, ◌↔◌}
use mathlib.Core.List.{List, [], ◌∷◌}
use mathlib.Core.Option.{Option, none, some}
use Prim.Native.Nat.{ℕ, zero, suc, ◌<◌}
use native.Mathlib.Omega.{arith}
use lib.ListN.{length, get_or}
use Rattle.resolved_sort.specs.Tree.{unit, Tree, flat}
use Rattle.resolved_sort.specs.Interning.{Sorts, member, Outcome, made, nothing, full, ◌then◌, fits, intern}
use Rattle.resolved_sort.proofs.Reached.{no_confusion}
use Rattle.unification.specs.Term.{Head, flat_head, container_head, function_head, stray_head, Term, var, app}
use Rattle.unification.specs.Term.{Terms, no_part, part, Shape, variable, over, term_of, terms_of, substitute}
use Rattle.unification.specs.Term.{substitutes}
use Rattle.unification.specs.Nodes.{is_place, shape_at, Binds, binding}
use Rattle.unification.specs.Unify.{deep, follow}
use Rattle.unification.specs.Acyclic.{One, first, later, Reaches, here, inside, beyond, Lower}
use Rattle.unification.specs.Checked.{NodesChecked, lists_of, BindsChecked}
use Rattle.unification.specs.Solutions.{terms_at, value_bound, value_at, value_to, term_at, Respects}
use Rattle.unification.specs.Resolve.{value, firsts, tree_over, resolve_term, resolve_terms, resolve}
use Rattle.unification.specs.Resolve.{resolve_or_default, NoRoomFor, Determined, determined, underdetermined}
use Rattle.unification.specs.Resolve.{out_of_room}
use Rattle.unification.specs.Exact.{shape_val}
use Rattle.unification.proofs.Exact.{follow_value}
use Rattle.unification.proofs.Rank.{highest, rank, Ranked, rank_var, rank_over, one_highest}
use Rattle.unification.proofs.Parts.{puts_agree}
use Rattle.unification.proofs.Enough.{model}
use Rattle.unification.proofs.Enough as Enough
use Rattle.unification.proofs.Solved.{value_by_shape, solution}
use Rattle.unification.proofs.Lists.{lower, scoped}
use Rattle.unification.proofs.Theorem.{deep_enough, checked_ranked}
use Rattle.unification.proofs.ResolvedSorts.{count, HeadOver, Formed, AllFormed, firsts_arity}
use Rattle.unification.proofs.ResolvedPlaces.{value_formed}

-- the variable v stands in a term
unfoldable mutual
  pub Has : ℕ → Term → Type 0
  Has v (var u) = v ≡ u
  Has v (app h ts) = OneHas v ts

  pub OneHas : ℕ → Terms → Type 0
  OneHas v no_part = ⊥
  OneHas v (part t ts) = Has v t ⊎ OneHas v ts

-- an answer of which P holds; none only if N; nothing is said where room ended
unfoldable Says : {A : Type 0} → (A → Type 0) → Type 0 → Outcome A → Type 0
Says P N (made a S) = P a
Says P N (nothing S) = N
Says P N (full S) = Unit {0}

says_then : {A B : Type 0} (P : A → Type 0) (N : Type 0) (Q : B → Type 0) (M : Type 0) (O : Outcome A) (k : A → Sorts → Outcome B)
    → Says P N O → (N → M) → ((a : A) (S : Sorts) → P a → Says Q M (k a S)) → Says Q M (O then k)
unfolding Says
says_then P N Q M (made a S) k h n f = f a S h
says_then P N Q M (nothing S) k h n f = n h
says_then P N Q M (full S) k h n f = tt

says_made : {A : Type 0} (P : A → Type 0) (N : Type 0) (O : Outcome A) (a : A) (S : Sorts) → Says P N O → O ≡ made a S → P a
unfolding Says
says_made P N O a S h q = subst (Says P N) q h

says_nothing : {A : Type 0} (P : A → Type 0) (N : Type 0) (O : Outcome A) (S : Sorts) → Says P N O → O ≡ nothing S → N
unfolding Says
says_nothing P N O S h q = subst (Says P N) q h

-- interning answers the sort itself
intern_by : (P : Tree → Type 0) (N : Type 0) (t : Tree) (S S' : Sorts) (b c : Bool) → P t → Says P N (cond b (made t S) (cond c (made t S') (full S)))
unfolding Says
intern_by P N t S S' true c h = h
intern_by P N t S S' false true h = h
intern_by P N t S S' false false h = tt

intern_says : (P : Tree → Type 0) (N : Type 0) (t : Tree) (S : Sorts) → P t → Says P N (intern t S)
unfolding intern
intern_says P N t S h = intern_by P N t S _ (member S.trees t) (fits t S) h

-- the terms of sorts, and the term of a head over sorts
unfoldable pub terms_for : List Tree → Terms
terms_for [] = no_part
terms_for (u ∷ us) = part (term_of u) (terms_for us)

pub count_for : (us : List Tree) → count (terms_for us) ≡ length us
unfolding count terms_for
count_for [] = refl
count_for (u ∷ us) = ap suc (count_for us)

function_terms : (k : ℕ) (us : List Tree) → length us ≡ suc k → terms_for us ≡ terms_of (firsts k us) (part (term_of (get_or us k (flat unit))) no_part)
unfolding terms_for terms_of firsts
function_terms k [] l = absurd (omega arith)
function_terms zero (u ∷ []) l = refl
function_terms zero (u ∷ w ∷ us) l = absurd (omega arith)
function_terms (suc k) (u ∷ us) l = ap (part (term_of u)) (function_terms k us (omega arith))

pub head_term : (h : Head) (us : List Tree) → HeadOver h (length us) → app h (terms_for us) ≡ term_of (tree_over h us)
unfolding terms_for term_of tree_over
head_term (flat_head a) [] o = refl
head_term (flat_head a) (u ∷ us) o = absurd (omega arith)
head_term (container_head q) [] o = absurd (omega arith)
head_term (container_head q) (u ∷ []) o = refl
head_term (container_head q) (u ∷ w ∷ us) o = absurd (omega arith)
head_term (function_head k) us o =
    ap₂ (λ (h : Head) (ts : Terms). app h ts) (ap function_head (sym (firsts_arity k us (omega (arith, o.0))))) (function_terms k us o.0)
head_term (stray_head x) us o = absurd o

pub count_puts : (σ : ℕ → Term) (ts : Terms) → count (substitutes σ ts) ≡ count ts
unfolding count substitutes
count_puts σ no_part = refl
count_puts σ (part t ts) = ap suc (count_puts σ ts)

-- a term that is the default's, where there is one
abbrev Given : Option Tree → Term → Type 0
Given none t = Unit {0}
Given (some x) t = t ≡ term_of x

-- the sort made is the term, with the default put in for variables
module _ (d : Option Tree) where
  abbrev Gives : (ℕ → Term) → Term → Type 0
  Gives σ t = (v : ℕ) → Has v t → Given d (σ v)

  abbrev AllGive : (ℕ → Term) → Terms → Type 0
  AllGive σ ts = (v : ℕ) → OneHas v ts → Given d (σ v)

  abbrev Denotes : Term → Tree → Type 0
  Denotes t u = (σ : ℕ → Term) → Gives σ t → substitute σ t ≡ term_of u

  abbrev AllDenote : Terms → List Tree → Type 0
  AllDenote ts us = (σ : ℕ → Term) → AllGive σ ts → substitutes σ ts ≡ terms_for us

  abbrev Any : Type 0
  Any = Unit {0}

  variable_denotes : (v : ℕ) (S : Sorts) → Says (Denotes (var v)) Any (resolve_term d (var v) S)
  unfolding Says resolve_term substitute Has
  variable_denotes v S = go d
    where
      go : (x : Option Tree) → Says (λ u. (σ : ℕ → Term) → ((w : ℕ) → Has w (var v) → Given x (σ w))
          → substitute σ (var v) ≡ term_of u) Any (resolve_term x (var v) S)
      go none = tt
      go (some y) = λ σ h. h v refl

  over_denotes : (h : Head) (ts : Terms) → HeadOver h (count ts) → (us : List Tree) → AllDenote ts us → Denotes (app h ts) (tree_over h us)
  unfolding substitute Has
  over_denotes h ts o us a σ z =
      let q = a σ z in
      ap (app h) q ∙ head_term h us (subst (HeadOver h) (sym (count_puts σ ts) ∙ (ap count q ∙ count_for us)) o)

  no_part_denotes : (S : Sorts) → Says (AllDenote no_part) Any (made [] S)
  unfolding Says substitutes terms_for
  no_part_denotes S = λ σ z. refl

  part_denotes : (t : Term) (ts : Terms) (u : Tree) (us : List Tree) (S : Sorts) → Denotes t u → AllDenote ts us
      → Says (AllDenote (part t ts)) Any (made (u ∷ us) S)
  unfolding Says substitutes terms_for OneHas
  part_denotes t ts u us S a b = λ σ z. ap₂ part (a σ (λ v x. z v (inl x))) (b σ (λ v x. z v (inr x)))

  mutual
    unfolding resolve_term resolve_terms Formed AllFormed

    resolve_denotes : (t : Term) (S : Sorts) → Formed t → Says (Denotes t) Any (resolve_term d t S)
    resolve_denotes (var v) S f = variable_denotes v S
    resolve_denotes (app h ts) S f =
        says_then (AllDenote ts) Any (Denotes (app h ts)) Any (resolve_terms d ts S) _ (resolves_denote ts S f.1) (λ z. z)
        (λ us S₁ a. intern_says (Denotes (app h ts)) Any (tree_over h us) S₁ (over_denotes h ts f.0 us a))

    resolves_denote : (ts : Terms) (S : Sorts) → AllFormed ts → Says (AllDenote ts) Any (resolve_terms d ts S)
    resolves_denote no_part S f = no_part_denotes S
    resolves_denote (part t ts) S f =
        says_then (Denotes t) Any (AllDenote (part t ts)) Any (resolve_term d t S) _ (resolve_denotes t S f.0) (λ z. z)
        (λ u S₁ a. says_then (AllDenote ts) Any (AllDenote (part t ts)) Any (resolve_terms d ts S₁) _ (resolves_denote ts S₁ f.1) (λ z. z)
        (λ us S₂ b. part_denotes t ts u us S₂ a b))

-- without a default: a sort only where no variable stands in the term, none only where one does
abbrev Closed : Term → Type 0
Closed t = (v : ℕ) → Has v t → ⊥

abbrev AllClosed : Terms → Type 0
AllClosed ts = (v : ℕ) → OneHas v ts → ⊥

abbrev Open : Term → Type 0
Open t = (v : ℕ) × Has v t

abbrev OneOpen : Terms → Type 0
OneOpen ts = (v : ℕ) × OneHas v ts

variable_open : (v : ℕ) (S : Sorts) → Says (λ (u : Tree). Closed (var v)) (Open (var v)) (nothing S)
unfolding Says Has
variable_open v S = (v, refl)

no_part_closed : (S : Sorts) → Says (λ (us : List Tree). AllClosed no_part) (OneOpen no_part) (made [] S)
unfolding Says OneHas
no_part_closed S = λ v z. z

part_closed : (t : Term) (ts : Terms) (us : List Tree) (S : Sorts) → Closed t → AllClosed ts
    → Says (λ us. AllClosed (part t ts)) (OneOpen (part t ts)) (made us S)
unfolding Says OneHas
part_closed t ts us S a b = λ v z. ⊎_elim (a v) (b v) z

mutual
  unfolding resolve_term resolve_terms Has OneHas

  resolve_closed : (t : Term) (S : Sorts) → Says (λ u. Closed t) (Open t) (resolve_term none t S)
  resolve_closed (var v) S = variable_open v S
  resolve_closed (app h ts) S =
      says_then (λ us. AllClosed ts) (OneOpen ts) (λ u. AllClosed ts) (OneOpen ts) (resolve_terms none ts S) _ (resolves_closed ts S) (λ z. z)
      (λ us S₁ a. intern_says (λ u. AllClosed ts) (OneOpen ts) (tree_over h us) S₁ a)

  resolves_closed : (ts : Terms) (S : Sorts) → Says (λ us. AllClosed ts) (OneOpen ts) (resolve_terms none ts S)
  resolves_closed no_part S = no_part_closed S
  resolves_closed (part t ts) S =
      says_then (λ u. Closed t) (Open t) (λ us. AllClosed (part t ts)) (OneOpen (part t ts)) (resolve_term none t S) _
      (resolve_closed t S) (λ z. (z.0, inl z.1))
      (λ u S₁ a. says_then (λ us. AllClosed ts) (OneOpen ts) (λ us. AllClosed (part t ts)) (OneOpen (part t ts))
      (resolve_terms none ts S₁) _ (resolves_closed ts S₁) (λ z. (z.0, inr z.1))
      (λ us S₂ b. part_closed t ts (u ∷ us) S₂ a b))

-- with a default: never none
made_says : {A : Type 0} (a : A) (S : Sorts) → Says (λ x. Unit {0}) ⊥ (made a S)
unfolding Says
made_says a S = tt

mutual
  unfolding resolve_term resolve_terms

  default_never_none : (x : Tree) (t : Term) (S : Sorts) → Says (λ u. Unit {0}) ⊥ (resolve_term (some x) t S)
  default_never_none x (var v) S = made_says x S
  default_never_none x (app h ts) S =
      says_then (λ us. Unit {0}) ⊥ (λ u. Unit {0}) ⊥ (resolve_terms (some x) ts S) _ (defaults_never_none x ts S)
      (λ z. z) (λ us S₁ a. intern_says (λ u. Unit {0}) ⊥ (tree_over h us) S₁ tt)

  defaults_never_none : (x : Tree) (ts : Terms) (S : Sorts) → Says (λ us. Unit {0}) ⊥ (resolve_terms (some x) ts S)
  defaults_never_none x no_part S = made_says [] S
  defaults_never_none x (part t ts) S =
      says_then (λ u. Unit {0}) ⊥ (λ us. Unit {0}) ⊥ (resolve_term (some x) t S) _ (default_never_none x t S) (λ z. z)
      (λ u S₁ a. says_then (λ us. Unit {0}) ⊥ (λ us. Unit {0}) ⊥ (resolve_terms (some x) ts S₁) _ (defaults_never_none
      x ts S₁) (λ z. z) (λ us S₂ b. made_says (u ∷ us) S₂))

-- the term of a place through the bindings
module _ (shape : ℕ → Shape) (w : ℕ) (B : Binds) (A : Ranked shape w B) where
  abbrev val : ℕ → Term
  val p = value_to shape B var w p

  abbrev ρ : ℕ → ℕ
  ρ = rank shape w B

  value_at_lem : (p : ℕ) (s : Shape) → shape p ≡ s → val p ≡ value_at B var val s
  value_at_lem p s e = Enough.value_eq shape w B A var p ∙ ap (value_at B var val) e

  pub value_follows : (k p q : ℕ) → follow shape k B p ≡ some q → val p ≡ val q
  value_follows k p q e = follow_value shape B _ val (model shape w B A var) k p q e

  -- its variables are the free ones that the place reaches
  one_has : (v q : ℕ) (ps : List ℕ) → One q ps → Has v (val q) → OneHas v (terms_at val ps)
  unfolding OneHas
  one_has v q _ (first ps) h = inl h
  one_has v q _ (later p ps o) h = inr (one_has v q ps o h)

  pub free_stands : (v p : ℕ) → binding B v ≡ none → Reaches shape B v p → Has v (val p)
  unfolding Has
  free_stands v _ e (here p s) = subst (Has v) (sym (value_at_lem p (variable v) s ∙ ap (value_bound var v val) e)) refl
  free_stands v _ e (inside p q h ps s o t) = subst (Has v) (sym (value_at_lem p (over h ps) s)) (one_has v q ps o (free_stands v q e t))
  free_stands v _ e (beyond p u q s b t) = subst (Has v) (sym (value_at_lem p (variable u) s ∙ ap (value_bound var u val) b)) (free_stands v q e t)

  abbrev Free : ℕ → ℕ → Type 0
  Free v p = Reaches shape B v p × (binding B v ≡ none)

  some_part : (v k : ℕ) (ps : List ℕ) → highest ρ ps < suc k → OneHas v (terms_at val ps) → ((q : ℕ) → ρ q < k
      → Has v (val q) → Free v q) → (q : ℕ) × (One q ps × Free v q)
  unfolding OneHas
  some_part v k [] l h ih = absurd h
  some_part v k (p ∷ ps) l h ih =
      ⊎_elim (λ x. (p, (first ps, ih p (omega (arith, l)) x))) (λ x. let r = some_part v k ps (omega (arith, l)) x
      ih in (r.0, (later p ps r.1.0, r.1.1))) h

  stands_free_to : (v k p : ℕ) → ρ p < k → Has v (val p) → Free v p
  unfolding Has
  stands_free_to v zero p l h = absurd (omega (arith, l))
  stands_free_to v (suc k) p l h = go (shape p) refl (subst (Has v) (Enough.value_eq shape w B A var p) h) (stands_free_to v k)
    where
      bound : (u : ℕ) (o : Option ℕ) → shape p ≡ variable u → binding B u ≡ o → Has v (value_bound var u val o)
          → ((q : ℕ) → ρ q < k → Has v (val q) → Free v q) → Free v p
      bound u none s e x ih = (here p (s ∙ ap variable (sym x)), ap (binding B) x ∙ e)
      bound u (some q) s e x ih = let y = ih q (omega (arith, l, rank_var shape w B A p u q s e)) x in (beyond p u q s e y.0, y.1)

      go : (s : Shape) → shape p ≡ s → Has v (value_at B var val s) → ((q : ℕ) → ρ q < k → Has v (val q) → Free v q) → Free v p
      go (variable u) s x ih = bound u (binding B u) s refl x ih
      go (over h ps) s x ih =
          let r = some_part v k ps (omega (arith, l, rank_over shape w B A p h ps s)) x ih in
          (inside p r.0 h ps s r.1.0 r.1.1.0, r.1.1.1)

  pub stands_free : (v p : ℕ) → Has v (val p) → Free v p
  stands_free v p h = stands_free_to v w p (A.short p) h

  -- and under an assignment that respects the bindings it is what the place stands for
  module _ (K : ℕ) (low : Lower shape K) (σ : ℕ → Term) (r : Respects shape B σ) where
    abbrev now : ℕ → Term
    now p = substitute σ (term_at shape p)

    put_value_to : (k p : ℕ) → ρ p < k → substitute σ (val p) ≡ now p
    unfolding substitute
    put_value_to zero p l = absurd (omega (arith, l))
    put_value_to (suc k) p l = ap (substitute σ) (Enough.value_eq shape w B A var p) ∙ (go (shape p) refl
        (put_value_to k) ∙ sym (value_by_shape shape K low σ p))
      where
        bound : (u : ℕ) (o : Option ℕ) → shape p ≡ variable u → binding B u ≡ o → ((q : ℕ) → ρ q < k
            → substitute σ (val q) ≡ now q) → substitute σ (value_bound var u val o) ≡ σ u
        bound u none s e ih = refl
        bound u (some q) s e ih = ih q (omega (arith, l, rank_var shape w B A p u q s e)) ∙ sym (r u q e)

        go : (s : Shape) → shape p ≡ s → ((q : ℕ) → ρ q < k → substitute σ (val q) ≡ now q) → substitute σ (value_at B var val s) ≡ shape_val σ now s
        go (variable u) s ih = bound u (binding B u) s refl ih
        go (over h ps) s ih = ap (app h) (puts_agree σ val now ps (λ q o. ih q (omega (arith, l, rank_over shape w B A p h ps s, one_highest ρ ps q o))))

    pub put_value : (p : ℕ) → substitute σ (val p) ≡ now p
    put_value p = put_value_to w p (A.short p)

unfoldable Ends : {A : Type 0} → Outcome A → Type 0
Ends (made a S) = Unit {0}
Ends (nothing S) = Unit {0}
Ends (full S) = NoRoomFor S

ends_then : {A B : Type 0} (O : Outcome A) (k : A → Sorts → Outcome B) → Ends O → ((a : A) (S : Sorts) → Ends (k a S)) → Ends (O then k)
unfolding Ends
ends_then (made a S) k h f = f a S
ends_then (nothing S) k h f = tt
ends_then (full S) k h f = h

intern_ends_by : (t : Tree) (S S' : Sorts) (b c : Bool) → member S.trees t ≡ b → fits t S ≡ c → Ends (cond b (made t S) (cond c (made t S') (full S)))
unfolding Ends
intern_ends_by t S S' true c m f = tt
intern_ends_by t S S' false true m f = tt
intern_ends_by t S S' false false m f = record { sort = t; absent = m; too_big = f }

intern_ends : (t : Tree) (S : Sorts) → Ends (intern t S)
unfolding intern
intern_ends t S = intern_ends_by t S _ (member S.trees t) (fits t S) refl refl

made_ends : {A : Type 0} (a : A) (S : Sorts) → Ends (made a S)
unfolding Ends
made_ends a S = tt

variable_ends : (d : Option Tree) (v : ℕ) (S : Sorts) → Ends (resolve_term d (var v) S)
unfolding Ends resolve_term
variable_ends none v S = tt
variable_ends (some x) v S = tt

mutual
  unfolding resolve_term resolve_terms

  resolve_ends : (d : Option Tree) (t : Term) (S : Sorts) → Ends (resolve_term d t S)
  resolve_ends d (var v) S = variable_ends d v S
  resolve_ends d (app h ts) S = ends_then (resolve_terms d ts S) _ (resolves_end d ts S) (λ us S₁. intern_ends (tree_over h us) S₁)

  resolves_end : (d : Option Tree) (ts : Terms) (S : Sorts) → Ends (resolve_terms d ts S)
  resolves_end d no_part S = made_ends [] S
  resolves_end d (part t ts) S =
      ends_then (resolve_term d t S) _ (resolve_ends d t S) (λ u S₁. ends_then (resolve_terms d ts S₁) _ (resolves_end d ts S₁) (λ us S₂. made_ends (u ∷ us) S₂))

module _ (ws : List ℕ) (n e : ℕ) (ns : List ℕ) (m d v : ℕ) (c : NodesChecked ws n e ns m d v) (B : Binds) (b : BindsChecked (lists_of ws n ns m) v B) where
  abbrev graph : ℕ → Shape
  graph = shape_at (lists_of ws n ns m)

  abbrev A : Ranked graph deep B
  A = checked_ranked ws n e ns m d v c B b

  -- the term of a place by its shape
  pub value_eq : (p : ℕ) → value graph B p ≡ value_at B var (value graph B) (graph p)
  value_eq p = Enough.value_eq graph deep B A var p

  -- and at the end of its bindings
  pub value_followed : (p q : ℕ) → follow graph deep B p ≡ some q → value graph B p ≡ value graph B q
  value_followed p q f = value_follows graph deep B A deep p q f

  pub put_place : (σ : ℕ → Term) → Respects graph B σ → (p : ℕ) → substitute σ (value graph B p) ≡ substitute σ (term_at graph p)
  put_place σ r p = put_value graph deep B A 3072 (lower ws n e ns m d v c) σ r p

  module _ (p : ℕ) (S : Sorts) where
    -- A sort is what the place stands for under every assignment.
    pub resolved_is_every_assignment : is_place n m p ≡ true → (t : Tree) (S' : Sorts)
        → resolve graph B p S ≡ made t S' → (σ : ℕ → Term) → Respects graph B σ
        → substitute σ (term_at graph p) ≡ term_of t
    resolved_is_every_assignment i t S' q σ r =
        sym (put_place σ r p) ∙ says_made (Denotes none (value graph B p)) (Unit {0}) (resolve graph B p S) t S'
        (resolve_denotes none (value graph B p) S (value_formed ws n e ns m d v c B b p i)) q σ (λ u h. tt)

    determined_by : (O : Outcome Tree) → Says (λ u. Closed (value graph B p)) (Open (value graph B p)) O → Ends O → Determined graph B p O
    unfolding Says Ends
    determined_by (made t S₁) h f = determined t S₁ (λ u r x. h u (free_stands graph deep B A u p x r))
    determined_by (nothing S₁) h f = let z = stands_free graph deep B A h.0 p h.1 in underdetermined S₁ h.0 z.0 z.1
    determined_by (full S₁) h f = out_of_room S₁ f

    -- Every answer of resolve, by the free variables that the place reaches.
    pub resolve_determined : Determined graph B p (resolve graph B p S)
    resolve_determined = determined_by (resolve graph B p S) (resolve_closed (value graph B p) S) (resolve_ends none (value graph B p) S)

    none_by : (O : Outcome Tree) → Determined graph B p O → ((S' : Sorts) → O ≡ full S' → ⊥)
        → ((S' : Sorts) × (O ≡ nothing S')) ↔ ((u : ℕ) × (Reaches graph B u p × (binding B u ≡ none)))
    none_by _ (determined t S₁ h) f = (λ x. let y : made t S₁ ≡ nothing x.0 = x.1 in no_confusion (cc), λ x. absurd (h x.0 x.1.0 x.1.1))
    none_by _ (underdetermined S₁ u r y) f = (λ x. (u, (r, y)), λ x. (S₁, refl))
    none_by _ (out_of_room S₁ z) f = absurd (f S₁ refl)

    -- As long as there is room, the answer is none exactly if the place reaches a free variable.
    pub resolve_none_exactly : ((S' : Sorts) → resolve graph B p S ≡ full S' → ⊥)
        → ((S' : Sorts) × (resolve graph B p S ≡ nothing S')) ↔ ((u : ℕ) × (Reaches graph B u p × (binding B u ≡ none)))
    resolve_none_exactly f = none_by (resolve graph B p S) resolve_determined f

    -- With a default there is always an answer, as long as there is room.
    pub resolve_or_default_never_none : (x : Tree) (S' : Sorts) → resolve_or_default graph B p x S ≡ nothing S' → ⊥
    resolve_or_default_never_none x S' q = says_nothing (λ u. Unit {0}) ⊥ (resolve_or_default graph B p x S) S' (default_never_none x (value graph B p) S) q

    -- It is what the place stands for where each free variable is the default.
    pub resolve_or_default_is_the_assignment : is_place n m p ≡ true → (x t : Tree) (S' : Sorts) → resolve_or_default graph B p x S ≡ made t S'
        → (σ : ℕ → Term) → Respects graph B σ → ((u : ℕ) → binding B u ≡ none → σ u ≡ term_of x) → substitute σ (term_at graph p) ≡ term_of t
    resolve_or_default_is_the_assignment i x t S' q σ r y =
        sym (put_place σ r p)
        ∙ says_made (Denotes (some x) (value graph B p)) (Unit {0}) (resolve_or_default graph B p x S) t S'
        (resolve_denotes (some x) (value graph B p) S (value_formed ws n e ns m d v c B b p i)) q σ
        (λ u h. y u (stands_free graph deep B A u p h).1)

  -- There is such an assignment.
  pub default_assignment : (x : Tree) → (σ : ℕ → Term) × (Respects graph B σ × ((u : ℕ) → binding B u ≡ none → σ u ≡ term_of x))
  default_assignment x = solution graph 3072 (lower ws n e ns m d v c) v (scoped ws n e ns m d v c) deep
      (deep_enough ws n e ns m d v c) B b.numbered (λ u. term_of x)
