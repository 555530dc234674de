-- Sizes of texts: two texts one after the other have the size of both, and the size of a sort comes from those of its parts.
-- A sort that has a text has a byte of it at least, so that 0 tells that there is none. Assumes nothing.
use mathlib.Core.Path.{◌≡◌, refl, sym, ◌∙◌, ap, ap₂}
use mathlib.Core.Bool.{Bool, true, false, cond, ◌&&◌, and-eq-true_iff}
use Prim.Native.Nat.{ℕ, ◌+◌, ◌<◌, ◌≤◌}
use native.Mathlib.Omega.{arith}
use native.Mathlib.Decide.{dec_le}
use lib.ListN.{length, length-append}
use lib.Dec.{leb}
use borrow.Author.Tests.{ne_eqb, eq-eqb, le-leb, lt-leb}
use Rattle.resolved_sort.specs.declared.Sort.{Sort}
use Rattle.resolved_sort.specs.declared.ComplexSort.{ComplexSort}
use Rattle.resolved_sort.specs.Tree.{Flat, unit, primitive, def, typevar, Tree, flat, container, function, Trees, no_args, arg}
use Rattle.sort_text.specs.Parse.{sort_word, op_word}
use Rattle.sort_text.specs.Text.{nonempty, flat_writable, writable, writables, text, texts, more}
use Rattle.sort_writer.specs.Inner.Sizes.{most_size, capped, size_if, sized, sized_all, joined}

pub capped_short : (n : ℕ) → n ≤ most_size → capped n ≡ n
unfolding capped
capped_short n h = rw (le-leb n most_size h)

pub capped_long : (n : ℕ) → most_size ≤ n → capped n ≡ most_size
unfolding capped
capped_long n h = go (dec_le n most_size)
  where
    go : Dec (n ≤ most_size) → cond (leb n most_size) n most_size ≡ most_size
    go (yes l) = rw (le-leb n most_size l) (omega arith)
    go (no l) = rw (lt-leb n most_size (omega arith))

capped_some : (n : ℕ) → 0 < n → capped n ≡ 0 → ⊥
capped_some n h e = go (dec_le n most_size)
  where
    go : Dec (n ≤ most_size) → ⊥
    go (yes l) = omega (arith, capped_short n l)
    go (no l) = omega (arith, capped_long n (omega arith))

pub joined_none : (a b : ℕ) → a ≡ 0 → 0 ≡ joined a b
unfolding joined
joined_none a b e = rw (eq-eqb a 0 e)

pub joined_with_none : (a b : ℕ) → (a ≡ 0 → ⊥) → b ≡ 0 → 0 ≡ joined a b
unfolding joined
joined_with_none a b h e = rw (ne_eqb a 0 h, eq-eqb b 0 e)

module _ (a b : ℕ) (ha : a ≡ 0 → ⊥) (hb : b ≡ 0 → ⊥) where
  joined_both : joined a b ≡ capped (a + b)
  unfolding joined
  joined_both = rw (ne_eqb a 0 ha, ne_eqb b 0 hb)

  pub joined_far : most_size < a + b → most_size ≡ joined a b
  joined_far h = sym (joined_both ∙ capped_long (a + b) (omega arith))

  pub joined_whole : a + b ≤ most_size → a + b ≡ joined a b
  joined_whole h = sym (joined_both ∙ capped_short (a + b) h)

pub joined_as : (a b r : ℕ) → (a ≡ 0 → ⊥) → (b ≡ 0 → ⊥) → (a + b ≤ most_size → r ≡ a + b) → (most_size < a + b → r ≡ most_size) → r ≡ joined a b
joined_as a b r ha hb whole far = go (dec_le (a + b) most_size)
  where
    go : Dec (a + b ≤ most_size) → r ≡ joined a b
    go (yes l) = whole l ∙ joined_whole a b ha hb l
    go (no l) = far (omega arith) ∙ joined_far a b ha hb (omega arith)

-- the sizes of two texts
joined_capped : (a b : ℕ) → 0 < a → 0 < b → joined (capped a) (capped b) ≡ capped (a + b)
joined_capped a b ha hb = joined_both (capped a) (capped b) (capped_some a ha) (capped_some b hb) ∙ go (dec_le a most_size) (dec_le b most_size)
  where
    go : Dec (a ≤ most_size) → Dec (b ≤ most_size) → capped (capped a + capped b) ≡ capped (a + b)
    go (yes l) (yes m) = ap₂ (λ (x y : ℕ). capped (x + y)) (capped_short a l) (capped_short b m)
    go (yes l) (no m) = capped_long (capped a + capped b) (omega (arith, capped_long b (omega arith))) ∙ sym (capped_long (a + b) (omega arith))
    go (no l) m = capped_long (capped a + capped b) (omega (arith, capped_long a (omega arith))) ∙ sym (capped_long (a + b) (omega arith))

pub joined_if : (b d : Bool) (m n : ℕ) → (b ≡ true → 0 < m) → (d ≡ true → 0 < n) → joined (size_if b m) (size_if d n) ≡ size_if (b && d) (m + n)
unfolding size_if
joined_if true true m n h k = joined_capped m n (h refl) (k refl)
joined_if true false m n h k = sym (joined_with_none (capped m) 0 (capped_some m (h refl)) refl)
joined_if false d m n h k = sym (joined_none 0 (cond d (capped n) 0) refl)

size_there : (n : ℕ) → n ≤ most_size → size_if true n ≡ n
unfolding size_if
size_there n l = capped_short n l

-- a word of few bytes before a text
joined_word : (w : ℕ) (d : Bool) (n : ℕ) → 0 < w → w ≤ 6 → (d ≡ true → 0 < n) → joined w (size_if d n) ≡ size_if d (w + n)
joined_word w d n h l k = ap (λ (x : ℕ). joined x (size_if d n)) (sym (size_there w (omega arith))) ∙ joined_if true d w n (λ e. h) k

word_length : (s : Sort) → (0 < length (sort_word s)) × (length (sort_word s) ≤ 4)
unfolding sort_word
word_length Sort.Bool = (omega arith, omega arith)
word_length Sort.Pos = (omega arith, omega arith)
word_length Sort.Nat = (omega arith, omega arith)
word_length Sort.Int = (omega arith, omega arith)
word_length Sort.Real = (omega arith, omega arith)

op_length : (o : ComplexSort) → length (op_word o) ≤ 4
unfolding op_word
op_length ComplexSort.List = omega arith
op_length ComplexSort.Set = omega arith
op_length ComplexSort.FSet = omega arith
op_length ComplexSort.Bag = omega arith
op_length ComplexSort.FBag = omega arith

-- how long texts are
container_length : (o : ComplexSort) (t : Tree) → length (text (container o t)) ≡ length (op_word o) + 2 + length (text t)
unfolding text
container_length o t = simp length-append (omega arith)

function_length : (ts : Trees) (r : Tree) → length (text (function ts r)) ≡ length (texts ts) + (4 + length (text r))
unfolding text
function_length ts r = simp length-append (omega arith)

pub text_some : (t : Tree) → writable t ≡ true → 0 < length (text t)
unfolding writable text
text_some (flat unit) e = let z : ◌≡◌ {A = ℕ} 0 1 = cc in absurd (omega arith)
text_some (flat (primitive s)) e = (word_length s).0
text_some (flat (def n)) e = let z : ◌≡◌ {A = ℕ} 0 1 = cc in absurd (omega arith)
text_some (flat (typevar n)) e = let z : ◌≡◌ {A = ℕ} 0 1 = cc in absurd (omega arith)
text_some (container o t) e = omega (arith, container_length o t)
text_some (function ts r) e = omega (arith, function_length ts r)

texts_length : (t : Tree) (ts : Trees) → length (texts (arg t ts)) ≡ length (text t) + length (more ts)
unfolding text
texts_length t ts = length-append (text t) (more ts)

texts_some : (ts : Trees) → (nonempty ts && writables ts) ≡ true → 0 < length (texts ts)
unfolding writable
texts_some no_args e = let z : ◌≡◌ {A = ℕ} 0 1 = cc in absurd (omega arith)
texts_some (arg t ts) e = omega (arith, texts_length t ts, text_some t ((and-eq-true_iff (writable t) (writables ts)).0 e).0)

-- the size of a sort, by its parts
pub size_of_none : (a : Flat) → flat_writable a ≡ false → 0 ≡ sized (flat a)
unfolding sized size_if writable
size_of_none a e = rw e

pub size_of_primitive : (s : Sort) → length (sort_word s) ≡ sized (flat (primitive s))
unfolding sized writable text
size_of_primitive s = sym (size_there (length (sort_word s)) (omega (arith, word_length s)))

pub size_of_container : (o : ComplexSort) (t : Tree) → joined (length (op_word o) + 2) (sized t) ≡ sized (container o t)
unfolding sized writable
size_of_container o t =
    joined_word (length (op_word o) + 2) (writable t) (length (text t)) (omega arith) (omega (arith, op_length o)) (text_some t)
    ∙ ap (size_if (writable t)) (sym (container_length o t))

pub size_of_function : (ts : Trees) (r : Tree) → joined (sized_all ts) (joined 4 (sized r)) ≡ sized (function ts r)
unfolding sized sized_all writable
size_of_function ts r =
    ap (joined (size_if (nonempty ts && writables ts) (length (texts ts)))) (joined_word 4 (writable r)
    (length (text r)) (omega arith) (omega arith) (text_some r))
    ∙ (joined_if (nonempty ts && writables ts) (writable r) (length (texts ts)) (4 + length (text r)) (texts_some ts) (λ e. omega arith)
    ∙ ap (size_if (nonempty ts && writables ts && writable r)) (sym (function_length ts r)))

and_true : (b : Bool) → b ≡ (b && true)
and_true true = refl
and_true false = refl

no_more : length (more no_args) ≡ 0
unfolding text
no_more = refl

more_length : (u : Tree) (us : Trees) → length (more (arg u us)) ≡ 3 + length (texts (arg u us))
unfolding text
more_length u us = omega arith

-- the size of arguments
pub size_of_no_arguments : 0 ≡ sized_all no_args
unfolding sized_all size_if
size_of_no_arguments = refl

pub size_of_one : (t : Tree) → sized t ≡ sized_all (arg t no_args)
unfolding sized sized_all writable
size_of_one t = ap₂ size_if (and_true (writable t)) (omega (arith, texts_length t no_args, no_more))

pub size_of_more : (t u : Tree) (us : Trees) → joined (sized t) (joined 3 (sized_all (arg u us))) ≡ sized_all (arg t (arg u us))
unfolding sized sized_all writable
size_of_more t u us =
    ap (joined (size_if (writable t) (length (text t)))) (joined_word 3 (writable u && writables us)
    (length (texts (arg u us))) (omega arith) (omega arith) (texts_some (arg u us)))
    ∙ (joined_if (writable t) (writable u && writables us) (length (text t)) (3 + length (texts (arg u us))) (text_some t) (λ e. omega arith)
    ∙ ap (size_if (writable t && (writable u && writables us))) (omega (arith, texts_length t (arg u us), more_length u us)))
