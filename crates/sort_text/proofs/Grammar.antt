-- The grammar as derivations: what each answer of the reader rests on, so that a law of read sorts goes by induction on how they
-- were read. A sort that is read has a derivation, by the clauses of the definitions. Assumes nothing.
use mathlib.Core.Path.{◌≡◌, refl}
use mathlib.Core.List.{List}
use Prim.Native.Nat.{ℕ, zero, suc, ◌+◌, ◌≤◌}
use native.Mathlib.Omega.{arith}
use Rattle.resolved_sort.specs.declared.ComplexSort.{ComplexSort}
use Rattle.resolved_sort.specs.Tree.{Tree, Trees, no_args, arg, arity}
use Rattle.sort_text.specs.Tokens.{is_letter, NextToken, end, word, open_bracket, close_bracket, hash, arrow, bad, skip, next}
use Rattle.sort_text.specs.Parse.{Parsed, parsed, ◌then-read◌, WordMeaning, basic, operator, unknown, meaning}
use Rattle.sort_text.specs.Parse.{closing, in_brackets, bracketed, operand_of, operand_at, operand, snoc, alone, rest_at, rest}
use Rattle.sort_text.specs.Parse.{sort_to, sort, ending, line}
use Rattle.sort_text.proofs.Progress.{IfRead, then_if_read, read}
use Rattle.sort_text.specs.Grammar.{Operand, SortOf, Operands, basic_sort, container_of, one_operand, function_of, first, another, LineOf}

-- a reader of sorts
abbrev pub Reads : (List ℕ → Parsed) → Type 0
Reads f = (bs : List ℕ) → IfRead (SortOf bs) (f bs)

-- two operands alone are no sort
two_alone : (P : Tree → List ℕ → Type 0) (ts : Trees) (t u : Tree) (at cs : List ℕ) → IfRead P (alone (snoc (snoc ts t) u) at cs)
unfolding alone snoc
two_alone P no_args t u at cs = tt
two_alone P (arg x no_args) t u at cs = tt
two_alone P (arg x (arg y ts)) t u at cs = tt

snoc_alone : {bs cs : List ℕ} {ts : Trees} → Operands bs ts cs → (P : Tree → List ℕ → Type 0) (u : Tree) (at ds : List ℕ) → IfRead P (alone (snoc ts u) at ds)
unfolding alone snoc
snoc_alone (first h) P u at ds = tt
snoc_alone (another {ts = ts} {t = t} h e k i) P u at ds = rw i (two_alone P ts t u at ds)

alone_read : {bs cs : List ℕ} {ts : Trees} → Operands bs ts cs → (at : List ℕ) → IfRead (SortOf bs) (alone ts at cs)
unfolding alone
alone_read (first h) at = one_operand h
alone_read {bs} {cs} (another {t = t} h e k i) at = rw i (snoc_alone h (SortOf bs) t at cs)

pub arity_snoc : (ts : Trees) (t : Tree) → arity (snoc ts t) ≡ arity ts + 1
unfolding arity snoc
arity_snoc no_args t = refl
arity_snoc (arg s ts) t = rw (arity_snoc ts t)

-- a sort and `)`
abbrev pub Closed : List ℕ → Tree → List ℕ → Type 0
Closed ds t fs = (es : List ℕ) × SortOf ds t es × (next is_letter es ≡ close_bracket fs)

closing_read : {ds es : List ℕ} {t : Tree} → SortOf ds t es → (at : List ℕ) (n : NextToken) → next is_letter es ≡ n → IfRead (Closed ds) (closing t at n)
unfolding closing
closing_read {es = es} d at (close_bracket fs) e = (es, d, e)
closing_read d at end e = tt
closing_read d at (word w fs) e = tt
closing_read d at (open_bracket fs) e = tt
closing_read d at (hash fs) e = tt
closing_read d at (arrow fs) e = tt
closing_read d at bad e = tt

module _ (f : List ℕ → Parsed) (g : Reads f) where
  in_brackets_read : (ds : List ℕ) → IfRead (Closed ds) (in_brackets f ds)
  unfolding in_brackets
  in_brackets_read ds = then_if_read (SortOf ds) (Closed ds) (f ds) _ (g ds) (λ t es h. closing_read h (skip es) (next is_letter es) refl)

  bracketed_read : (bs : List ℕ) {w cs : List ℕ} {o : ComplexSort} → next is_letter bs ≡ word w cs → meaning w ≡ operator o
      → (at : List ℕ) (n : NextToken) → next is_letter cs ≡ n → IfRead (Operand bs) (bracketed f o at n)
  unfolding bracketed
  bracketed_read bs a b at (open_bracket ds) e =
      then_if_read (Closed ds) (Operand bs) (in_brackets f ds) _ (in_brackets_read ds) (λ t fs h. container_of a b e h.1 h.2)
  bracketed_read bs a b at end e = tt
  bracketed_read bs a b at (word w ds) e = tt
  bracketed_read bs a b at (close_bracket ds) e = tt
  bracketed_read bs a b at (hash ds) e = tt
  bracketed_read bs a b at (arrow ds) e = tt
  bracketed_read bs a b at bad e = tt

  operand_of_read : (bs : List ℕ) {w cs : List ℕ} → next is_letter bs ≡ word w cs → (at : List ℕ) (m : WordMeaning)
      → meaning w ≡ m → IfRead (Operand bs) (operand_of f at m cs)
  unfolding operand_of
  operand_of_read bs a at (basic s) e = basic_sort a e
  operand_of_read bs {cs = cs} a at (operator o) e = bracketed_read bs a e (skip cs) (next is_letter cs) refl
  operand_of_read bs a at unknown e = tt

  operand_at_read : (bs at : List ℕ) (n : NextToken) → next is_letter bs ≡ n → IfRead (Operand bs) (operand_at f at n)
  unfolding operand_at
  operand_at_read bs at (word w cs) e = operand_of_read bs e at (meaning w) refl
  operand_at_read bs at end e = tt
  operand_at_read bs at (open_bracket cs) e = tt
  operand_at_read bs at (close_bracket cs) e = tt
  operand_at_read bs at (hash cs) e = tt
  operand_at_read bs at (arrow cs) e = tt
  operand_at_read bs at bad e = tt

  pub operand_read : (bs : List ℕ) → IfRead (Operand bs) (operand f bs)
  unfolding operand
  operand_read bs = operand_at_read bs (skip bs) (next is_letter bs) refl

  rest_at_read : {bs cs : List ℕ} {ts : Trees} → Operands bs ts cs → arity ts ≤ 16 → (at : List ℕ) (m : List ℕ → Parsed) (n : NextToken) → next is_letter cs ≡ n
      → ((ds : List ℕ) → next is_letter cs ≡ hash ds → IfRead (SortOf bs) (m ds)) → IfRead (SortOf bs) (rest_at f ts at cs m n)
  unfolding rest_at
  rest_at_read a b at m (hash ds) e k = k ds e
  rest_at_read {bs} a b at m (arrow ds) e k = then_if_read (SortOf ds) (SortOf bs) (f ds) _ (g ds) (λ r es h. function_of a b e h)
  rest_at_read a b at m end e k = alone_read a at
  rest_at_read a b at m (word w ds) e k = alone_read a at
  rest_at_read a b at m (open_bracket ds) e k = alone_read a at
  rest_at_read a b at m (close_bracket ds) e k = alone_read a at
  rest_at_read a b at m bad e k = alone_read a at

  pub rest_read : {bs : List ℕ} (k : ℕ) {cs : List ℕ} {ts : Trees} → Operands bs ts cs → arity ts + k ≡ 16 → IfRead (SortOf bs) (rest f k ts cs)
  unfolding rest
  rest_read zero {cs} a b = rest_at_read a (omega arith) (skip cs) _ (next is_letter cs) refl (λ ds e. tt)
  rest_read {bs} (suc k) {cs} {ts} a b =
      rest_at_read a (omega arith) (skip cs) _ (next is_letter cs) refl
      (λ ds e. then_if_read (Operand ds) (SortOf bs) (operand f ds) _ (operand_read ds) (λ t es h. rest_read k
      (another a e h refl) (omega (arith, arity_snoc ts t))))

  step_read : (bs : List ℕ) → IfRead (SortOf bs) (operand f bs then-read (λ t cs. rest f 15 (arg t no_args) cs))
  unfolding arity
  step_read bs = then_if_read (Operand bs) (SortOf bs) (operand f bs) _ (operand_read bs) (λ t cs h. rest_read 15 (first h) (omega arith))

pub sort_to_reads : (d : ℕ) → Reads (sort_to d)
unfolding sort_to
sort_to_reads zero bs = tt
sort_to_reads (suc d) bs = step_read (sort_to d) (sort_to_reads d) bs

-- What is read was derived.
pub sort_derived : (bs cs : List ℕ) (t : Tree) → sort bs ≡ parsed t cs → SortOf bs t cs
unfolding sort
sort_derived bs cs t e = read (SortOf bs) (sort bs) t cs (sort_to_reads _ bs) e

ending_read : {bs cs : List ℕ} {t : Tree} → SortOf bs t cs → (at : List ℕ) (n : NextToken) → next is_letter cs ≡ n → IfRead (LineOf bs) (ending t at n)
unfolding ending
ending_read {cs} h at end e = (cs, h, e, refl)
ending_read h at (word w ds) e = tt
ending_read h at (open_bracket ds) e = tt
ending_read h at (close_bracket ds) e = tt
ending_read h at (hash ds) e = tt
ending_read h at (arrow ds) e = tt
ending_read h at bad e = tt

pub line_derived : (bs cs : List ℕ) (t : Tree) → line bs ≡ parsed t cs → LineOf bs t cs
unfolding line sort
line_derived bs cs t e =
    read (LineOf bs) (line bs) t cs (then_if_read (SortOf bs) (LineOf bs) (sort bs) _ (sort_to_reads _ bs)
    (λ u ds h. ending_read h (skip ds) (next is_letter ds) refl)) e
