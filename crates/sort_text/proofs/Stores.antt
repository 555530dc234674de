-- Storing a sort: it answers that sort or ends for want of room, and carrying out the steps of a sort is storing it. By the clauses
-- of `store`. Assumes nothing.
use mathlib.Core.Path.{◌≡◌, refl, sym, ◌∙◌, ap, subst}
use mathlib.Core.Bool.{Bool, true, false, cond, ◌&&◌, and-eq-true_iff}
use mathlib.Core.List.{List, [], ◌∷◌, ◌++◌, append_assoc, append-nil}
use Prim.Native.Nat.{ℕ, ◌+◌, ◌-◌}
use native.Mathlib.Omega.{arith}
use native.Mathlib.Numerals.{add-one}
use borrow.Author.Tests.{le-ltb}
use Rattle.resolved_sort.specs.declared.Sort.{Sort}
use Rattle.resolved_sort.specs.declared.ComplexSort.{ComplexSort}
use Rattle.resolved_sort.specs.Tree.{Flat, unit, primitive, def, typevar, Tree, flat, container, function, Trees, no_args, arg, arity}
use Rattle.resolved_sort.specs.Interning.{Sorts, member, Outcome, made, nothing, full, ◌then◌, fits, intern}
use Rattle.resolved_sort.specs.Storage.{kind_flat, kind_op}
use Rattle.resolved_sort.proofs.Numbers.{true_not_false, member_grows}
use Rattle.sort_text.specs.Text.{nonempty, flat_writable, writable, writables}
use Rattle.sort_text.specs.Reading.{store, stores}
use Rattle.sort_text.specs.Postfix.{postfix, postfixes, popped, take_arguments, step_on, steps, HasPrimitives}

-- an outcome that is the answer t, with the primitive sorts still in the list, or that room has ended
unfoldable pub Stores : {A : Type 0} → A → Outcome A → Type 0
Stores t (made u S) = (u ≡ t) × HasPrimitives S
Stores t (nothing S) = ⊥
Stores t (full S) = Unit {0}

stores_then : {A B : Type 0} (t : A) (v : B) (O : Outcome A) (k : A → Sorts → Outcome B) → Stores t O
    → ((S : Sorts) → HasPrimitives S → Stores v (k t S)) → Stores v (O then k)
unfolding Stores
stores_then t v (made u S) k h f = subst (λ w. Stores v (k w S)) (sym h.0) (f S h.1)
stores_then t v (nothing S) k h f = absurd h
stores_then t v (full S) k h f = tt

intern_by : (t : Tree) (S : Sorts) (b c : Bool) (S' : Sorts) → HasPrimitives S → HasPrimitives S' → Stores t (cond b (made t S) (cond c (made t S') (full S)))
unfolding Stores
intern_by t S true c S' h k = (refl, h)
intern_by t S false true S' h k = (refl, k)
intern_by t S false false S' h k = tt

pub intern_stores : (t : Tree) (S : Sorts) → HasPrimitives S → Stores t (intern t S)
unfolding intern
intern_stores t S h = intern_by t S (member S.trees t) (fits t S) _ h (λ s. member_grows S.trees (t ∷ []) (flat (primitive s)) (h s))

made_stores : {A : Type 0} (a : A) (S : Sorts) → HasPrimitives S → Stores a (made a S)
unfolding Stores
made_stores a S h = (refl, h)

mutual
  unfolding store stores

  pub store_stores : (t : Tree) (S : Sorts) → HasPrimitives S → Stores t (store t S)
  store_stores (flat a) S h = intern_stores (flat a) S h
  store_stores (container o t) S h = stores_then t (container o t) (store t S) _ (store_stores t S h) (λ S₁ k. intern_stores (container o t) S₁ k)
  store_stores (function ts r) S h =
      stores_then ts (function ts r) (stores ts S) _ (stores_store ts S h)
      (λ S₁ k. stores_then r (function ts r) (store r S₁) _ (store_stores r S₁ k) (λ S₂ l. intern_stores (function ts r) S₂ l))

  pub stores_store : (ts : Trees) (S : Sorts) → HasPrimitives S → Stores ts (stores ts S)
  stores_store no_args S h = made_stores no_args S h
  stores_store (arg t ts) S h =
      stores_then t (arg t ts) (store t S) _ (store_stores t S h)
      (λ S₁ k. stores_then ts (arg t ts) (stores ts S₁) _ (stores_store ts S₁ k) (λ S₂ l. made_stores (arg t ts) S₂ l))

-- two ways on from an outcome that agree on its answer
pub then_agree : {A B : Type 0} (t : A) (O : Outcome A) → Stores t O → (f g : A → Sorts → Outcome B)
    → ((S : Sorts) → HasPrimitives S → f t S ≡ g t S) → (O then f) ≡ (O then g)
unfolding Stores
then_agree t (made u S) h f g e = ap (λ w. f w S) h.0 ∙ (e S h.1 ∙ ap (λ w. g w S) (sym h.0))
then_agree t (nothing S) h f g e = absurd h
then_agree t (full S) h f g e = refl

pub then_then : {A B C : Type 0} (O : Outcome A) (f : A → Sorts → Outcome B) (g : B → Sorts → Outcome C) → ((O then f) then g) ≡ (O then (λ a S. f a S then g))
then_then (made a S) f g = refl
then_then (nothing S) f g = refl
then_then (full S) f g = refl

intern_member : (t : Tree) (S : Sorts) → member S.trees t ≡ true → intern t S ≡ made t S
unfolding intern
intern_member t S m = rw m

-- the steps 0 to 5
primitive_step : (s : Sort) (ops : List ℕ) (st : List Tree) (S : Sorts) → steps (kind_flat (primitive s) ∷ ops) st S ≡ steps ops (flat (primitive s) ∷ st) S
unfolding steps step_on kind_flat
primitive_step Sort.Bool ops st S = refl
primitive_step Sort.Pos ops st S = refl
primitive_step Sort.Nat ops st S = refl
primitive_step Sort.Int ops st S = refl
primitive_step Sort.Real ops st S = refl

flat_steps : (a : Flat) → flat_writable a ≡ true → (ops : List ℕ) (st : List Tree) (S : Sorts) → HasPrimitives S
    → steps (kind_flat a ∷ ops) st S ≡ (intern (flat a) S then (λ u S. steps ops (u ∷ st) S))
flat_steps unit w ops st S h = absurd (true_not_false false w refl)
flat_steps (primitive s) w ops st S h = primitive_step s ops st S ∙ ap (λ O. O then (λ u S. steps ops (u ∷ st) S))
    (sym (intern_member (flat (primitive s)) S (h s)))
flat_steps (def n) w ops st S h = absurd (true_not_false false w refl)
flat_steps (typevar n) w ops st S h = absurd (true_not_false false w refl)

-- the steps 6 to 10
container_step : (o : ComplexSort) (t : Tree) (ops : List ℕ) (st : List Tree) (S : Sorts)
    → steps (kind_op o ∷ ops) (t ∷ st) S ≡ ((intern (container o t) S then (λ u S. made (u ∷ st) S)) then (λ st S. steps ops st S))
unfolding steps step_on kind_op
container_step ComplexSort.List t ops st S = refl
container_step ComplexSort.Set t ops st S = refl
container_step ComplexSort.FSet t ops st S = refl
container_step ComplexSort.Bag t ops st S = refl
container_step ComplexSort.FBag t ops st S = refl

-- a function's step takes its arguments off the stack again
unfoldable pub pushes : Trees → List Tree → List Tree
pushes no_args st = st
pushes (arg t ts) st = pushes ts (t ∷ st)

unfoldable pub append : Trees → Trees → Trees
append no_args us = us
append (arg t ts) us = arg t (append ts us)

pub append_end : (ts : Trees) → append ts no_args ≡ ts
unfolding append
append_end no_args = refl
append_end (arg t ts) = ap (arg t) (append_end ts)

take_one : (k : ℕ) (us : Trees) (t : Tree) (st : List Tree) → take_arguments (k + 1) us (t ∷ st) ≡ take_arguments k (arg t us) st
unfolding take_arguments
take_one k us t st = ap (λ j. take_arguments j us (t ∷ st)) (add-one k)

takes_pushed : (ts us : Trees) (j : ℕ) (st : List Tree) → take_arguments (arity ts + j) us (pushes ts st) ≡ take_arguments j (append ts us) st
unfolding pushes append arity
takes_pushed no_args us j st = ap (λ k. take_arguments k us st) (omega arith)
takes_pushed (arg t ts) us j st =
    let e : arity ts + 1 + j ≡ arity ts + (j + 1) = omega arith in
    ap (λ k. take_arguments k us (pushes ts (t ∷ st))) e ∙ (takes_pushed ts us (j + 1) (t ∷ st) ∙ take_one j (append ts us) t st)

takes_arguments : (ts : Trees) (st : List Tree) → take_arguments (arity ts) no_args (pushes ts st) ≡ popped ts st
unfolding take_arguments
takes_arguments ts st =
    let e : arity ts ≡ arity ts + 0 = omega arith in
    ap (λ k. take_arguments k no_args (pushes ts st)) e ∙ (takes_pushed ts no_args 0 st ∙ ap (λ us. popped us st) (append_end ts))

function_step : (ts : Trees) (r : Tree) (ops : List ℕ) (st : List Tree) (S : Sorts)
    → steps ((16 + arity ts) ∷ ops) (r ∷ pushes ts st) S ≡ ((intern (function ts r) S then (λ u S. made (u ∷ st) S)) then (λ st S. steps ops st S))
unfolding steps step_on
function_step ts r ops st S =
    let k : 16 + arity ts - 16 ≡ arity ts = omega arith in
    rw (le-ltb (16 + arity ts) 6 (omega arith), le-ltb (16 + arity ts) 11 (omega arith), k, takes_arguments ts st)

then_ext : {A B : Type 0} (O : Outcome A) (f g : A → Sorts → Outcome B) → ((a : A) (S : Sorts) → f a S ≡ g a S) → (O then f) ≡ (O then g)
then_ext (made a S) f g e = e a S
then_ext (nothing S) f g e = refl
then_ext (full S) f g e = refl

container_on : (o : ComplexSort) (ops : List ℕ) (st : List Tree) (t : Tree) (S : Sorts)
    → steps (kind_op o ∷ ops) (t ∷ st) S ≡ (intern (container o t) S then (λ u S. steps ops (u ∷ st) S))
container_on o ops st t S = container_step o t ops st S ∙ then_then (intern (container o t) S) _ _

function_on : (ts : Trees) (ops : List ℕ) (st : List Tree) (r : Tree) (S : Sorts)
    → steps ((16 + arity ts) ∷ ops) (r ∷ pushes ts st) S ≡ (intern (function ts r) S then (λ u S. steps ops (u ∷ st) S))
function_on ts ops st r S = function_step ts r ops st S ∙ then_then (intern (function ts r) S) _ _

function_writable : (ts : Trees) (r : Tree) → (nonempty ts && writables ts && writable r) ≡ true → (writables ts ≡ true) × (writable r ≡ true)
function_writable ts r w =
    let p = (and-eq-true_iff (nonempty ts && writables ts) (writable r)).0 w in
    (((and-eq-true_iff (nonempty ts) (writables ts)).0 p.0).1, p.1)

mutual
  unfolding store stores postfix postfixes writable writables pushes

  -- carrying out the steps of a sort stores it, and goes on with it on the stack
  pub steps_store : (t : Tree) → writable t ≡ true → (ops : List ℕ) (st : List Tree) (S : Sorts) → HasPrimitives S
      → steps (postfix t ++ ops) st S ≡ (store t S then (λ u S. steps ops (u ∷ st) S))
  steps_store (flat a) w ops st S h = flat_steps a w ops st S h
  steps_store (container o t) w ops st S h =
      ap (λ l. steps l st S) (append_assoc (postfix t) (kind_op o ∷ []) ops)
      ∙ (steps_store t w (kind_op o ∷ ops) st S h
      ∙ (then_ext (store t S) _ _ (container_on o ops st) ∙ sym (then_then (store t S) (λ u S. intern (container o u) S) (λ u S. steps ops (u ∷ st) S))))
  steps_store (function ts r) w ops st S h =
      let v = function_writable ts r w in
      ap (λ l. steps l st S) (append_assoc (postfixes ts) (postfix r ++ ((16 + arity ts) ∷ [])) ops ∙ ap
      (λ l. postfixes ts ++ l) (append_assoc (postfix r) ((16 + arity ts) ∷ []) ops))
      ∙ (steps_stores ts v.0 (postfix r ++ ((16 + arity ts) ∷ ops)) st S h
      ∙ (then_agree ts (stores ts S) (stores_store ts S h) _ (λ us S. (store r S then (λ x S. intern (function us x) S)) then (λ u S. steps ops (u ∷ st) S))
      (λ S₁ k. steps_store r v.1 ((16 + arity ts) ∷ ops) (pushes ts st) S₁ k
      ∙ (then_ext (store r S₁) _ _ (function_on ts ops st) ∙ sym (then_then (store r S₁) (λ x S. intern (function ts x) S) (λ u S. steps ops (u ∷ st) S))))
      ∙ sym (then_then (stores ts S) (λ us S. store r S then (λ x S. intern (function us x) S)) (λ u S. steps ops (u ∷ st) S))))

  pub steps_stores : (ts : Trees) → writables ts ≡ true → (ops : List ℕ) (st : List Tree) (S : Sorts) → HasPrimitives S
      → steps (postfixes ts ++ ops) st S ≡ (stores ts S then (λ us S. steps ops (pushes us st) S))
  steps_stores no_args w ops st S h = refl
  steps_stores (arg t ts) w ops st S h =
      let v = (and-eq-true_iff (writable t) (writables ts)).0 w in
      ap (λ l. steps l st S) (append_assoc (postfix t) (postfixes ts) ops)
      ∙ (steps_store t v.0 (postfixes ts ++ ops) st S h
      ∙ (then_agree t (store t S) (store_stores t S h) _ (λ u S. (stores ts S then (λ us S. made (arg u us) S)) then (λ us S. steps ops (pushes us st) S))
      (λ S₁ k. steps_stores ts v.1 ops (t ∷ st) S₁ k ∙ sym (then_then (stores ts S₁) (λ us S. made (arg t us) S) (λ us S. steps ops (pushes us st) S)))
      ∙ sym (then_then (store t S) (λ u S. stores ts S then (λ us S. made (arg u us) S)) (λ us S. steps ops (pushes us st) S))))

then_made : {A : Type 0} (O : Outcome A) → (O then (λ a S. made a S)) ≡ O
then_made (made a S) = refl
then_made (nothing S) = refl
then_made (full S) = refl

-- the steps of a sort, on an empty stack, store it
pub steps_are_store : (t : Tree) → writable t ≡ true → (S : Sorts) → HasPrimitives S → steps (postfix t) [] S ≡ store t S
unfolding steps
steps_are_store t w S h = ap (λ l. steps l [] S) (sym (append-nil (postfix t))) ∙ (steps_store t w [] [] S h ∙ then_made (store t S))
