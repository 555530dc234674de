-- What a lookup sees, and the first empty slot. A word put into an empty slot only makes more seen, and where it went to the
-- first empty slot from p on, it is seen from p. Assumes nothing.
use mathlib.Core.Path.{◌≡◌, refl, sym, ◌∙◌, ap, ap₂}
use mathlib.Core.Bool.{Bool, true, false}
use mathlib.Core.Logic.{◌⊎◌, inl, inr, ⊎_elim}
use mathlib.Core.List.{List, [], ◌∷◌}
use Prim.Native.Nat.{ℕ, zero, suc, ◌<◌, ◌≤◌}
use native.Mathlib.Omega.{arith}
use lib.ListN.{length, get_or, set}
use lib.Seq.{get_or-set_same, get_or-set_other}
use lib.Dec.{eqb}
use borrow.Author.Tests.{eqb-true, eqb-false, eq-eqb, ne_eqb}
use Rattle.resolved_sort.specs.Index.{Has, slots, next_slot, slot_after, seen, free_slot}
use Rattle.resolved_sort.proofs.IndexSlots.{next_is_slot}

pub seen_empty : (ix : List ℕ) (k p : ℕ) → get_or ix p 0 ≡ 0 → seen ix (suc k) p ≡ []
unfolding seen
seen_empty ix k p e = rw (eq-eqb (get_or ix p 0) 0 e)

pub seen_more : (ix : List ℕ) (k p : ℕ) → (get_or ix p 0 ≡ 0 → ⊥) → seen ix (suc k) p ≡ get_or ix p 0 ∷ seen ix k (next_slot p)
unfolding seen
seen_more ix k p f = rw (ne_eqb (get_or ix p 0) 0 f)

pub free_here : (ix : List ℕ) (k p : ℕ) → get_or ix p 0 ≡ 0 → free_slot ix (suc k) p ≡ p
unfolding free_slot
free_here ix k p e = rw (eq-eqb (get_or ix p 0) 0 e)

pub free_later : (ix : List ℕ) (k p : ℕ) → (get_or ix p 0 ≡ 0 → ⊥) → free_slot ix (suc k) p ≡ free_slot ix k (next_slot p)
unfolding free_slot
free_later ix k p f = rw (ne_eqb (get_or ix p 0) 0 f)

free_none : (ix : List ℕ) (p : ℕ) → free_slot ix zero p ≡ p
unfolding free_slot
free_none ix p = refl

seen_none : (ix : List ℕ) (p : ℕ) → seen ix zero p ≡ []
unfolding seen
seen_none ix p = refl

-- a slot is empty or not
empty_by : {A : Type 0} (x : ℕ) → (x ≡ 0 → A) → ((x ≡ 0 → ⊥) → A) → (b : Bool) → eqb x 0 ≡ b → A
empty_by x f g true e = f (eqb-true x 0 e)
empty_by x f g false e = g (eqb-false x 0 e)

pub empty_or : {A : Type 0} (x : ℕ) → (x ≡ 0 → A) → ((x ≡ 0 → ⊥) → A) → A
empty_or x f g = empty_by x f g (eqb x 0) refl

-- indexes that agree at every slot
module _ (ix jx : List ℕ) (same : (p : ℕ) → p < slots → get_or ix p 0 ≡ get_or jx p 0) where
  pub seen_agrees : (k p : ℕ) → p < slots → seen ix k p ≡ seen jx k p
  unfolding seen
  seen_agrees zero p h = refl
  seen_agrees (suc k) p h = rw (same p h, seen_agrees k (next_slot p) (next_is_slot p))

  pub free_agrees : (k p : ℕ) → p < slots → free_slot ix k p ≡ free_slot jx k p
  unfolding free_slot
  free_agrees zero p h = refl
  free_agrees (suc k) p h = rw (same p h, free_agrees k (next_slot p) (next_is_slot p))

pub free_is_slot : (ix : List ℕ) (k p : ℕ) → p < slots → free_slot ix k p < slots
free_is_slot ix zero p h = rw (free_none ix p) h
free_is_slot ix (suc k) p h =
    empty_or (get_or ix p 0) (λ e. rw (free_here ix k p e) h) (λ f. rw (free_later ix k p f) (free_is_slot ix k (next_slot p) (next_is_slot p)))

after_none : (p : ℕ) → slot_after p zero ≡ p
unfolding slot_after
after_none p = refl

after_one : (p j : ℕ) → slot_after p (suc j) ≡ slot_after (next_slot p) j
unfolding slot_after
after_one p j = refl

-- an empty slot among the k from p on: the free slot is empty
pub free_is_empty : (ix : List ℕ) (k p j : ℕ) → j < k → get_or ix (slot_after p j) 0 ≡ 0 → get_or ix (free_slot ix k p) 0 ≡ 0
free_is_empty ix zero p j h e = absurd (omega arith)
free_is_empty ix (suc k) p zero h e = let z = rw after_none at e in rw (free_here ix k p z) z
free_is_empty ix (suc k) p (suc j) h e =
    empty_or (get_or ix p 0) (λ z. rw (free_here ix k p z) z)
    (λ f. rw (free_later ix k p f) (free_is_empty ix k (next_slot p) j (omega arith) (rw after_one at e)))

-- the words seen from p on begin with a word v where v stands at p, and go on where another word stands there
seen_first : (ix : List ℕ) (k p v : ℕ) → (v ≡ 0 → ⊥) → get_or ix p 0 ≡ v → Has (seen ix (suc k) p) v
unfolding Has
seen_first ix k p v f e = rw (seen_more ix k p (λ z. f (sym e ∙ z))) (inl e)

seen_later : (ix : List ℕ) (k p v : ℕ) → (get_or ix p 0 ≡ 0 → ⊥) → Has (seen ix k (next_slot p)) v → Has (seen ix (suc k) p) v
unfolding Has
seen_later ix k p v f m = rw (seen_more ix k p f) (inr m)

-- what is seen from p on is at p or seen from the next slot on
seen_cases : {A : Type 0} (ix : List ℕ) (k p v : ℕ) → Has (seen ix (suc k) p) v → ((get_or ix p 0 ≡ 0 → ⊥) → get_or ix p 0 ≡ v → A)
    → ((get_or ix p 0 ≡ 0 → ⊥) → Has (seen ix k (next_slot p)) v → A) → A
unfolding Has
seen_cases ix k p v m f g =
    empty_or (get_or ix p 0) (λ e. absurd (rw (seen_empty ix k p e) at m))
    (λ h. ⊎_elim (f h) (g h) (rw (seen_more ix k p h) at m))

-- a word v put into an empty slot q
module _ (ix : List ℕ) (q v : ℕ) (free : get_or ix q 0 ≡ 0) where
  other_slot : (p : ℕ) → (get_or ix p 0 ≡ 0 → ⊥) → get_or (set ix q v) p 0 ≡ get_or ix p 0
  other_slot p f = get_or-set_other ix q p v 0 (λ e. f (ap (λ x. get_or ix x 0) e ∙ free))

  kept_slot : (p : ℕ) → (get_or ix p 0 ≡ 0 → ⊥) → get_or (set ix q v) p 0 ≡ 0 → ⊥
  kept_slot p f z = f (sym (other_slot p f) ∙ z)

  -- what was seen is seen
  pub seen_stays : (k p x : ℕ) → Has (seen ix k p) x → Has (seen (set ix q v) k p) x
  unfolding Has
  seen_stays zero p x m = absurd (rw (seen_none ix p) at m)
  seen_stays (suc k) p x m =
      seen_cases ix k p x m (λ f e. seen_first (set ix q v) k p x (λ z. f (e ∙ z)) (other_slot p f ∙ e))
      (λ f t. seen_later (set ix q v) k p x (kept_slot p f) (seen_stays k (next_slot p) x t))

-- and where q is the first empty slot from p on, v is seen from p
pub entered_is_seen : (ix : List ℕ) (v : ℕ) → (v ≡ 0 → ⊥) → slots ≤ length ix → (k p j : ℕ) → p < slots → j < k → get_or ix (slot_after p j) 0 ≡ 0
    → Has (seen (set ix (free_slot ix k p) v) k p) v
entered_is_seen ix v f l zero p j b h e = absurd (omega arith)
entered_is_seen ix v f l (suc k) p zero b h e =
    let z = rw after_none at e in
    rw (free_here ix k p z) (seen_first (set ix p v) k p v f (get_or-set_same ix p v 0 (omega arith)))
entered_is_seen ix v f l (suc k) p (suc j) b h e =
    let d : get_or ix (slot_after (next_slot p) j) 0 ≡ 0 = rw after_one at e in
    empty_or (get_or ix p 0)
    (λ z. rw (free_here ix k p z) (seen_first (set ix p v) k p v f (get_or-set_same ix p v 0 (omega arith))))
    (λ g. rw (free_later ix k p g)
    (seen_later (set ix (free_slot ix k (next_slot p)) v) k p v
    (kept_slot ix (free_slot ix k (next_slot p)) v (free_is_empty ix k (next_slot p) j (omega arith) d) p g)
    (entered_is_seen ix v f l k (next_slot p) j (next_is_slot p) (omega arith) d)))

-- Slots that agree from p to an empty one e steps on: the same is seen.
pub seen_to_empty : (ix jx : List ℕ) (k p e : ℕ) → ((j : ℕ) → j ≤ e → get_or ix (slot_after p j) 0 ≡ get_or jx (slot_after p j) 0)
    → get_or ix (slot_after p e) 0 ≡ 0
    → seen ix k p ≡ seen jx k p
seen_to_empty ix jx zero p e same z = seen_none ix p ∙ sym (seen_none jx p)
seen_to_empty ix jx (suc k) p zero same z =
    let a : get_or ix p 0 ≡ 0 = rw after_none at z in
    let b : get_or ix p 0 ≡ get_or jx p 0 = rw after_none at (same 0 (omega arith)) in
    seen_empty ix k p a ∙ sym (seen_empty jx k p (sym b ∙ a))
seen_to_empty ix jx (suc k) p (suc e) same z =
    let b : get_or ix p 0 ≡ get_or jx p 0 = rw after_none at (same 0 (omega arith)) in
    empty_or (get_or ix p 0) (λ a. seen_empty ix k p a ∙ sym (seen_empty jx k p (sym b ∙ a)))
    (λ f. seen_more ix k p f
    ∙ (ap₂ ◌∷◌ b (seen_to_empty ix jx k (next_slot p) e (λ j h. rw after_one at (same (suc j) (omega arith))) (rw after_one at z))
    ∙ sym (seen_more jx k p (λ a. f (b ∙ a)))))

-- what is seen is a word of some slot, and not zero
pub seen_from_slot : (ix : List ℕ) (n k p x : ℕ) → ((q : ℕ) → get_or ix q 0 ≤ n) → Has (seen ix k p) x → (0 < x) × (x ≤ n)
unfolding Has
seen_from_slot ix n zero p x h m = absurd (rw (seen_none ix p) at m)
seen_from_slot ix n (suc k) p x h m =
    seen_cases ix k p x m (λ f e. (let g : x ≡ 0 → ⊥ = λ z. f (e ∙ z) in omega arith, omega (arith, h p))) (λ f t. seen_from_slot ix n k (next_slot p) x h t)
