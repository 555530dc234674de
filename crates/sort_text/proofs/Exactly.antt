-- The reader reads exactly the grammar: whatever has a derivation is read so, and a line has at most one derived tree. By induction on
-- the derivation, with the equation that `sort` satisfies. Assumes nothing.
use mathlib.Core.Path.{◌≡◌, refl, sym, ◌∙◌, ap, subst}
use mathlib.Core.Logic.{◌↔◌}
use mathlib.Core.List.{List, []}
use Prim.Native.Nat.{ℕ, zero, suc, ◌+◌, ◌-◌, ◌≤◌}
use native.Mathlib.Omega.{arith}
use Rattle.resolved_sort.specs.Tree.{Tree, container, function, Trees, no_args, arg, arity}
use Rattle.sort_text.specs.Tokens.{is_letter, NextToken, end, word, open_bracket, close_bracket, hash, arrow, bad, skip, next}
use Rattle.sort_text.specs.Parse.{Parsed, parsed, ◌then-read◌, closing, in_brackets, bracketed, operand_of, operand_at}
use Rattle.sort_text.specs.Parse.{operand, snoc, alone, rest_at, rest, sort, ending, line}
use Rattle.sort_text.proofs.Depth.{sort_is}
use Rattle.sort_text.specs.Grammar.{Operand, basic_sort, container_of, SortOf, one_operand, function_of, Operands, first, another, LineOf}
use Rattle.sort_text.proofs.Grammar.{arity_snoc, line_derived}

-- the tokens after which a sort is not continued
abbrev pub Stops : NextToken → Type 0
Stops end = Unit {0}
Stops (word w bs) = Unit {0}
Stops (open_bracket bs) = Unit {0}
Stops (close_bracket bs) = Unit {0}
Stops (hash bs) = ⊥
Stops (arrow bs) = ⊥
Stops bad = Unit {0}

-- how what follows an operand goes on, by the token
stops_at : (t : Tree) (at bs : List ℕ) (m : List ℕ → Parsed) (n : NextToken) → Stops n → rest_at sort (arg t no_args) at bs m n ≡ parsed t bs
unfolding rest_at alone
stops_at t at bs m end h = refl
stops_at t at bs m (word w cs) h = refl
stops_at t at bs m (open_bracket cs) h = refl
stops_at t at bs m (close_bracket cs) h = refl
stops_at t at bs m (hash cs) h = absurd h
stops_at t at bs m (arrow cs) h = absurd h
stops_at t at bs m bad h = refl

rest_stops : (k : ℕ) (t : Tree) (bs : List ℕ) → Stops (next is_letter bs) → rest sort k (arg t no_args) bs ≡ parsed t bs
unfolding rest
rest_stops zero t bs h = stops_at t (skip bs) bs _ (next is_letter bs) h
rest_stops (suc k) t bs h = stops_at t (skip bs) bs _ (next is_letter bs) h

pub rest_arrow : (k : ℕ) (ts : Trees) (bs cs : List ℕ) → next is_letter bs ≡ arrow cs → rest sort k ts bs ≡ (sort cs then-read (λ r ds. parsed (function ts r) ds))
unfolding rest rest_at
rest_arrow zero ts bs cs e = ap (rest_at sort ts (skip bs) bs _) e
rest_arrow (suc k) ts bs cs e = ap (rest_at sort ts (skip bs) bs _) e

pub rest_hash : (k : ℕ) (ts : Trees) (bs cs : List ℕ) → next is_letter bs ≡ hash cs
    → rest sort (suc k) ts bs ≡ (operand sort cs then-read (λ t ds. rest sort k (snoc ts t) ds))
unfolding rest rest_at
rest_hash k ts bs cs e = ap (rest_at sort ts (skip bs) bs _) e

abbrev step : List ℕ → Parsed
step bs = operand sort bs then-read (λ t cs. rest sort 15 (arg t no_args) cs)

one_fits : (t : Tree) (k : ℕ) → arity (arg t no_args) + k ≡ 16 → 15 ≡ k
unfolding arity
one_fits t k e = omega arith

room : (ts : Trees) → arity ts ≤ 16 → (k : ℕ) × (arity ts + k ≡ 16)
room ts l = (16 - arity ts, omega arith)

closed_is_read : (ds es fs : List ℕ) (t : Tree) → sort ds ≡ parsed t es → next is_letter es ≡ close_bracket fs → in_brackets sort ds ≡ parsed t fs
unfolding in_brackets closing
closed_is_read ds es fs t h c = ap (λ p. p then-read (λ u gs. closing u (skip gs) (next is_letter gs))) h ∙ ap (closing t (skip es)) c

mutual
  unfolding operand operand_at operand_of bracketed

  operand_is_read : {bs cs : List ℕ} {t : Tree} → Operand bs t cs → operand sort bs ≡ parsed t cs
  operand_is_read (basic_sort {bs} {w} {cs} e m) = ap (operand_at sort (skip bs)) e ∙ ap (λ n. operand_of sort (skip bs) n cs) m
  operand_is_read (container_of {bs} {w} {cs} {ds} {es} {fs} {o} {t} e m b h c) =
      ap (operand_at sort (skip bs)) e
      ∙ (ap (λ n. operand_of sort (skip bs) n cs) m
      ∙ (ap (bracketed sort o (skip cs)) b
      ∙ ap (λ p. p then-read (λ u gs. parsed (container o u) gs)) (closed_is_read ds es fs t (sort_is_read h (subst Stops (sym c) tt)) c)))

  sort_is_read : {bs cs : List ℕ} {t : Tree} → SortOf bs t cs → Stops (next is_letter cs) → sort bs ≡ parsed t cs
  sort_is_read {bs} {cs} {t} (one_operand h) s =
      sort_is bs ∙ (ap (λ p. p then-read (λ u gs. rest sort 15 (arg u no_args) gs)) (operand_is_read h) ∙ rest_stops 15 t cs s)
  sort_is_read (function_of {bs} {cs} {ds} {es} {ts} {r} h l e k) s =
      let (j, q) = room ts l in
      sort_is bs ∙ (operands_are_read h j q ∙ (rest_arrow j ts cs ds e ∙ ap (λ p. p then-read (λ u gs. parsed (function ts u) gs)) (sort_is_read k s)))

  operands_are_read : {bs cs : List ℕ} {ts : Trees} → Operands bs ts cs → (k : ℕ) → arity ts + k ≡ 16 → step bs ≡ rest sort k ts cs
  operands_are_read {cs = cs} (first {t = t} h) k q =
      ap (λ p. p then-read (λ u gs. rest sort 15 (arg u no_args) gs)) (operand_is_read h) ∙ ap (λ j. rest sort j (arg t no_args) cs) (one_fits t k q)
  operands_are_read {cs = es} (another {cs = cs} {ds = ds} {ts = ts} {us = us} {t = t} h e o i) k q =
      operands_are_read h (suc k) (omega (arith, arity_snoc ts t, ap arity i))
      ∙ (rest_hash k ts cs ds e ∙ (ap (λ p. p then-read (λ u gs. rest sort k (snoc ts u) gs)) (operand_is_read o) ∙ ap (λ vs. rest sort k vs es) (sym i)))

line_is_read : (bs cs : List ℕ) (t : Tree) → LineOf bs t cs → line bs ≡ parsed t []
unfolding line ending
line_is_read bs cs t h =
    ap (λ p. p then-read (λ u gs. ending u (skip gs) (next is_letter gs))) (sort_is_read h.1
    (subst Stops (sym h.2) tt)) ∙ ap (ending t (skip h.0)) h.2

-- A line is read as a tree exactly where the grammar derives that tree from it.
pub line_exactly : (bs : List ℕ) (t : Tree) → (line bs ≡ parsed t []) ↔ LineOf bs t []
line_exactly bs t = (line_derived bs [] t, line_is_read bs [] t)

-- The grammar derives at most one tree from a line.
pub one_tree : (bs : List ℕ) (s t : Tree) → LineOf bs s [] → LineOf bs t [] → s ≡ t
one_tree bs s t h k =
    let a = line_is_read bs [] s h in
    let b = line_is_read bs [] t k in
    cc
