-- Reading the text of a sort gives that sort, for the sorts that a line can spell: by induction on the sort, with the equation that
-- `sort` satisfies. Nothing is said of functions as arguments. Assumes nothing.
use mathlib.Core.Path.{◌≡◌, refl, sym, ◌∙◌, ap, ap₂}
use mathlib.Core.Bool.{Bool, true, false, cond, not, ◌&&◌}
use mathlib.Core.Logic.{◌↔◌}
use mathlib.Core.List.{List, [], ◌∷◌, ◌++◌, append_assoc, append-nil}
use Prim.Native.Nat.{ℕ, zero, suc, ◌≤◌}
use native.Mathlib.Omega.{arith}
use lib.Dec.{eqb}
use borrow.Author.Tests.{not-true, leb-true}
use Rattle.resolved_sort.specs.declared.Sort.{Sort}
use Rattle.resolved_sort.specs.declared.ComplexSort.{ComplexSort}
use Rattle.resolved_sort.specs.Tree.{Flat, unit, primitive, def, typevar, Tree, flat, container, function, Trees, no_args, arg, arity}
use Rattle.sort_text.specs.Tokens.{is_letter, NextToken, word, run, past, skip, start, next_at, next}
use Rattle.sort_text.specs.Parse.{parsed, ◌then-read◌, same_bytes, sort_word, op_word, basic, operator, meaning}
use Rattle.sort_text.specs.Parse.{closing, in_brackets, bracketed, operand_of, operand_at, operand, snoc, alone, rest_at, rest}
use Rattle.sort_text.specs.Parse.{sort, ending, line}
use Rattle.sort_text.specs.Text.{nonempty, flat_writable, writable, between_text, arrow_text, text, texts, more}
use Rattle.sort_text.proofs.Depth.{sort_is}
use Rattle.resolved_sort.specs.Order.{is_function}
use Rattle.sort_text.specs.Readable.{readable, arguments, few, no_function_argument}
use Rattle.resolved_sort.proofs.Below.{and_left, and_right}
use Rattle.sort_text.proofs.Readable.{function_readable, argument_readable, parts_readable}
use Rattle.sort_text.proofs.WhatIsRead.{line_readable}

-- a word of letters before what starts with no letter is one token
abbrev pub no_letter : List ℕ → Bool
no_letter [] = true
no_letter (b ∷ bs) = not (is_letter b)

abbrev pub letters : List ℕ → Bool
letters [] = true
letters (b ∷ bs) = is_letter b && letters bs

run_none : (rs : List ℕ) → no_letter rs ≡ true → run is_letter rs ≡ []
unfolding run
run_none [] h = refl
run_none (b ∷ bs) h = go (is_letter b) (not-true (is_letter b) h)
  where
    go : (t : Bool) → t ≡ false → cond t (b ∷ run is_letter bs) [] ≡ []
    go true e = cc
    go false e = refl

past_none : (rs : List ℕ) → no_letter rs ≡ true → past is_letter rs ≡ rs
unfolding past
past_none [] h = refl
past_none (b ∷ bs) h = go (is_letter b) (not-true (is_letter b) h)
  where
    go : (t : Bool) → t ≡ false → cond t (past is_letter bs) (b ∷ bs) ≡ b ∷ bs
    go true e = cc
    go false e = refl

run_cons : (t : Bool) (b : ℕ) (x y : List ℕ) → t ≡ true → x ≡ y → cond t (b ∷ x) [] ≡ b ∷ y
run_cons true b x y e h = ap (λ z. b ∷ z) h
run_cons false b x y e h = cc

past_cons : (t : Bool) (x y z : List ℕ) → t ≡ true → x ≡ z → cond t x y ≡ z
past_cons true x y z e h = h
past_cons false x y z e h = cc

pub run_letters : (w rs : List ℕ) → letters w ≡ true → no_letter rs ≡ true → run is_letter (w ++ rs) ≡ w
unfolding run
run_letters [] rs h n = run_none rs n
run_letters (b ∷ w) rs h n = run_cons (is_letter b) b (run is_letter (w ++ rs)) w (and_left (is_letter b) (letters w) h)
    (run_letters w rs (and_right (is_letter b) (letters w) h) n)

pub past_letters : (w rs : List ℕ) → letters w ≡ true → no_letter rs ≡ true → past is_letter (w ++ rs) ≡ rs
unfolding past
past_letters [] rs h n = past_none rs n
past_letters (b ∷ w) rs h n = past_cons (is_letter b) (past is_letter (w ++ rs)) (b ∷ (w ++ rs)) rs
    (and_left (is_letter b) (letters w) h) (past_letters w rs (and_right (is_letter b) (letters w) h) n)

-- the token of a byte that is no space
next_by : (b : ℕ) (bs : List ℕ) (t : Bool) → t ≡ false → next_at is_letter (cond t (skip bs) (b ∷ bs)) ≡ start is_letter b bs
next_by b bs true e = cc
next_by b bs false e = refl

pub next_here : (b : ℕ) (bs : List ℕ) → eqb 32 b ≡ false → next is_letter (b ∷ bs) ≡ start is_letter b bs
unfolding next skip past
next_here b bs e = next_by b bs (eqb 32 b) e

start_by : (b : ℕ) (bs : List ℕ) (w rs : List ℕ) (t : Bool) (n : NextToken) → t ≡ true → run is_letter bs ≡ w → past is_letter bs ≡ rs
    → cond t (word (b ∷ run is_letter bs) (past is_letter bs)) n ≡ word (b ∷ w) rs
start_by b bs w rs true n e h k = ap₂ (λ x y. word (b ∷ x) y) h k
start_by b bs w rs false n e h k = cc

pub next_word : (b : ℕ) (w rs : List ℕ) → eqb 32 b ≡ false → is_letter b ≡ true → letters w ≡ true → no_letter rs ≡ true
    → next is_letter (b ∷ (w ++ rs)) ≡ word (b ∷ w) rs
unfolding start
next_word b w rs s l h n = next_here b (w ++ rs) s ∙ start_by b (w ++ rs) w rs (is_letter b) _ l (run_letters w rs h n) (past_letters w rs h n)

-- the words of the sorts
pub next_sort_word : (s : Sort) (rs : List ℕ) → no_letter rs ≡ true → next is_letter (sort_word s ++ rs) ≡ word (sort_word s) rs
unfolding sort_word
next_sort_word Sort.Bool rs n = next_word 66 (111 ∷ 111 ∷ 108 ∷ []) rs refl refl refl n
next_sort_word Sort.Pos rs n = next_word 80 (111 ∷ 115 ∷ []) rs refl refl refl n
next_sort_word Sort.Nat rs n = next_word 78 (97 ∷ 116 ∷ []) rs refl refl refl n
next_sort_word Sort.Int rs n = next_word 73 (110 ∷ 116 ∷ []) rs refl refl refl n
next_sort_word Sort.Real rs n = next_word 82 (101 ∷ 97 ∷ 108 ∷ []) rs refl refl refl n

pub next_op_word : (o : ComplexSort) (rs : List ℕ) → no_letter rs ≡ true → next is_letter (op_word o ++ rs) ≡ word (op_word o) rs
unfolding op_word
next_op_word ComplexSort.List rs n = next_word 76 (105 ∷ 115 ∷ 116 ∷ []) rs refl refl refl n
next_op_word ComplexSort.Set rs n = next_word 83 (101 ∷ 116 ∷ []) rs refl refl refl n
next_op_word ComplexSort.FSet rs n = next_word 70 (83 ∷ 101 ∷ 116 ∷ []) rs refl refl refl n
next_op_word ComplexSort.Bag rs n = next_word 66 (97 ∷ 103 ∷ []) rs refl refl refl n
next_op_word ComplexSort.FBag rs n = next_word 70 (66 ∷ 97 ∷ 103 ∷ []) rs refl refl refl n

pub meaning_sort_word : (s : Sort) → meaning (sort_word s) ≡ basic s
unfolding meaning same_bytes sort_word op_word
meaning_sort_word Sort.Bool = refl
meaning_sort_word Sort.Pos = refl
meaning_sort_word Sort.Nat = refl
meaning_sort_word Sort.Int = refl
meaning_sort_word Sort.Real = refl

pub meaning_op_word : (o : ComplexSort) → meaning (op_word o) ≡ operator o
unfolding meaning same_bytes sort_word op_word
meaning_op_word ComplexSort.List = refl
meaning_op_word ComplexSort.Set = refl
meaning_op_word ComplexSort.FSet = refl
meaning_op_word ComplexSort.Bag = refl
meaning_op_word ComplexSort.FBag = refl

-- what may stand after a whole sort
pub data Ending : List ℕ → Type 0 where
  nothing : Ending []
  bracket : {bs : List ℕ} → Ending (41 ∷ bs)

pub ending_no_letter : {rs : List ℕ} → Ending rs → no_letter rs ≡ true
ending_no_letter nothing = refl
ending_no_letter bracket = refl

rest_ends : {rs : List ℕ} (t : Tree) → Ending rs → rest sort 15 (arg t no_args) rs ≡ parsed t rs
unfolding rest rest_at alone next skip past start
rest_ends t nothing = refl
rest_ends t bracket = refl

-- the text of a sort, and of an operand, read
abbrev pub ReadsBack : Tree → Type 0
ReadsBack t = (rs : List ℕ) → Ending rs → sort (text t ++ rs) ≡ parsed t rs

abbrev pub OperandReadsBack : Tree → Type 0
OperandReadsBack t = (rs : List ℕ) → no_letter rs ≡ true → operand sort (text t ++ rs) ≡ parsed t rs

-- an operand alone is a sort
operand_sort : (t : Tree) → OperandReadsBack t → ReadsBack t
operand_sort t h rs e = sort_is (text t ++ rs) ∙ (ap (λ p. p then-read (λ u cs. rest sort 15 (arg u no_args) cs)) (h rs (ending_no_letter e)) ∙ rest_ends t e)

operand_flat : (a : Flat) → flat_writable a ≡ true → OperandReadsBack (flat a)
unfolding operand operand_at operand_of text
operand_flat unit w rs n = cc
operand_flat (primitive s) w rs n =
    ap (operand_at sort (skip (sort_word s ++ rs))) (next_sort_word s rs n) ∙ ap (λ m. operand_of sort (skip (sort_word s ++ rs)) m rs) (meaning_sort_word s)
operand_flat (def k) w rs n = cc
operand_flat (typevar k) w rs n = cc

closes : (t : Tree) (rs : List ℕ) → closing t (skip (41 ∷ rs)) (next is_letter (41 ∷ rs)) ≡ parsed t rs
unfolding closing next skip past start
closes t rs = refl

-- the text of a sort, and `)`
in_brackets_read : (t : Tree) → ReadsBack t → (rs : List ℕ) → in_brackets sort (text t ++ (41 ∷ rs)) ≡ parsed t rs
unfolding in_brackets
in_brackets_read t h rs = ap (λ p. p then-read (λ u cs. closing u (skip cs) (next is_letter cs))) (h (41 ∷ rs) bracket) ∙ closes t rs

opens : (o : ComplexSort) (at bs : List ℕ) → bracketed sort o at (next is_letter (40 ∷ bs)) ≡ (in_brackets sort bs then-read
    (λ t cs. parsed (container o t) cs))
unfolding bracketed next skip past start
opens o at bs = refl

operand_over : (o : ComplexSort) (bs : List ℕ) → operand sort (op_word o ++ (40 ∷ bs)) ≡ (in_brackets sort bs then-read (λ t cs. parsed (container o t) cs))
unfolding operand operand_at operand_of
operand_over o bs =
    ap (operand_at sort (skip (op_word o ++ (40 ∷ bs)))) (next_op_word o (40 ∷ bs) refl)
    ∙ (ap (λ m. operand_of sort (skip (op_word o ++ (40 ∷ bs))) m (40 ∷ bs)) (meaning_op_word o) ∙ opens o (skip (40 ∷ bs)) bs)

operand_container : (o : ComplexSort) (t : Tree) → ReadsBack t → OperandReadsBack (container o t)
unfolding text
operand_container o t h rs n =
    ap (operand sort) (append_assoc (op_word o) (40 ∷ (text t ++ (41 ∷ []))) rs ∙ ap (λ x. op_word o ++ (40 ∷ x)) (append_assoc (text t) (41 ∷ []) rs))
    ∙ (operand_over o (text t ++ (41 ∷ rs)) ∙ ap (λ p. p then-read (λ u cs. parsed (container o u) cs)) (in_brackets_read t h rs))

-- spaces before a sort
operand_space : (bs : List ℕ) → operand sort (32 ∷ bs) ≡ operand sort bs
unfolding operand next skip past
operand_space bs = refl

pub sort_space : (bs : List ℕ) → sort (32 ∷ bs) ≡ sort bs
sort_space bs = sort_is (32 ∷ bs) ∙ (ap (λ p. p then-read (λ u cs. rest sort 15 (arg u no_args) cs)) (operand_space bs) ∙ sym (sort_is bs))

-- the arguments one by one
unfoldable pub snocs : Trees → Trees → Trees
snocs ts no_args = ts
snocs ts (arg u us) = snocs (snoc ts u) us

snocs_cons : (t : Tree) (ts us : Trees) → snocs (arg t ts) us ≡ arg t (snocs ts us)
unfolding snocs snoc
snocs_cons t ts no_args = refl
snocs_cons t ts (arg u us) = snocs_cons t (snoc ts u) us

snocs_no_args : (us : Trees) → snocs no_args us ≡ us
unfolding snocs snoc
snocs_no_args no_args = refl
snocs_no_args (arg u us) = snocs_cons u no_args us ∙ ap (arg u) (snocs_no_args us)

snocs_one : (u : Tree) (us : Trees) → snocs (arg u no_args) us ≡ arg u us
snocs_one u us = snocs_cons u no_args us ∙ ap (arg u) (snocs_no_args us)

rest_arrow : (k : ℕ) (ts : Trees) (bs : List ℕ) → rest sort k ts (arrow_text ++ bs) ≡ (sort (32 ∷ bs) then-read (λ r ds. parsed (function ts r) ds))
unfolding rest rest_at next skip past start
rest_arrow zero ts bs = refl
rest_arrow (suc k) ts bs = refl

rest_hash : (k : ℕ) (ts : Trees) (bs : List ℕ) → rest sort (suc k) ts (between_text ++ bs) ≡ (operand sort (32 ∷ bs)
    then-read (λ t ds. rest sort k (snoc ts t) ds))
unfolding rest rest_at next skip past start
rest_hash k ts bs = refl

more_no_letter : (us : Trees) (bs : List ℕ) → no_letter (more us ++ (arrow_text ++ bs)) ≡ true
unfolding more
more_no_letter no_args bs = refl
more_no_letter (arg u us) bs = refl

no_function : {P : Type 0} → not true ≡ true → P
no_function e = let z : ◌≡◌ {A = ℕ} 0 1 = cc in absurd (omega arith)

mutual
  unfolding readable arguments text texts more arity snocs

  sort_text : (t : Tree) → readable t ≡ true → ReadsBack t
  sort_text (flat a) h = operand_sort (flat a) (operand_flat a h)
  sort_text (container o t) h = operand_sort (container o t) (operand_container o t (sort_text t h))
  sort_text (function ts r) h =
      let p = function_readable ts r h in
      λ rs e. ap sort (append_assoc (texts ts) (arrow_text ++ text r) rs) ∙ (sort_is (texts ts ++ (arrow_text ++ (text r ++ rs)))
      ∙ operands_text ts p.0 p.2 (leb-true (arity ts) 16 p.1) r rs (sort_text r p.3 rs e))

  operand_text : (t : Tree) → not (is_function t) ≡ true → readable t ≡ true → OperandReadsBack t
  operand_text (flat a) n h = operand_flat a h
  operand_text (container o t) n h = operand_container o t (sort_text t h)
  operand_text (function ts r) n h = no_function n

  operands_text : (ts : Trees) → nonempty ts ≡ true → arguments ts ≡ true → arity ts ≤ 16 → (r : Tree) (rs : List ℕ) → sort (text r ++ rs) ≡ parsed r rs
      → (operand sort (texts ts ++ (arrow_text ++ (text r ++ rs))) then-read (λ t cs. rest sort 15 (arg t no_args) cs)) ≡ parsed (function ts r) rs
  operands_text no_args s h l r rs e = cc
  operands_text (arg u us) s h l r rs e =
      let p = argument_readable u us h in
      let x = arrow_text ++ (text r ++ rs) in
      ap (λ bs. operand sort bs then-read (λ t cs. rest sort 15 (arg t no_args) cs)) (append_assoc (text u) (more us) x)
      ∙ (ap (λ q. q then-read (λ t cs. rest sort 15 (arg t no_args) cs)) (operand_text u p.0 p.1 (more us ++ x) (more_no_letter us (text r ++ rs)))
      ∙ (more_text us p.2 15 (arg u no_args) (omega arith) r rs e ∙ ap (λ ts. parsed (function ts r) rs) (snocs_one u us)))

  more_text : (us : Trees) → arguments us ≡ true → (k : ℕ) (ts : Trees) → arity us ≤ k → (r : Tree) (rs : List ℕ) → sort (text r ++ rs) ≡ parsed r rs
      → rest sort k ts (more us ++ (arrow_text ++ (text r ++ rs))) ≡ parsed (function (snocs ts us) r) rs
  more_text no_args h k ts l r rs e =
      rest_arrow k ts (text r ++ rs) ∙ ap (λ p. p then-read (λ r ds. parsed (function ts r) ds)) (sort_space (text r ++ rs) ∙ e)
  more_text (arg u us) h zero ts l r rs e = absurd (omega arith)
  more_text (arg u us) h (suc k) ts l r rs e =
      let p = argument_readable u us h in
      let x = arrow_text ++ (text r ++ rs) in
      rest_hash k ts ((text u ++ more us) ++ x)
      ∙ (ap (λ q. q then-read (λ t ds. rest sort k (snoc ts t) ds)) (operand_space ((text u ++ more us) ++ x) ∙
      (ap (operand sort) (append_assoc (text u) (more us) x)
      ∙ operand_text u p.0 p.1 (more us ++ x) (more_no_letter us (text r ++ rs))))
      ∙ more_text us p.2 k (snoc ts u) (omega arith) r rs e)

-- Reading the text of a sort gives that sort.
pub line_of_text : (t : Tree) → readable t ≡ true → line (text t) ≡ parsed t []
unfolding line ending next skip past
line_of_text t h =
    ap line (sym (append-nil (text t))) ∙ ap (λ p. p then-read (λ u cs. ending u (skip cs) (next is_letter cs))) (sort_text t h [] nothing)

pub round_trip : (t : Tree) → writable t ≡ true → few t ≡ true → no_function_argument t ≡ true → line (text t) ≡ parsed t []
round_trip t w f n = line_of_text t (parts_readable t w f n)

-- Two sorts with one text are one sort.
pub text_injective : (s t : Tree) → readable s ≡ true → readable t ≡ true → text s ≡ text t → s ≡ t
text_injective s t h k e =
    let a = line_of_text s h in
    let b = line_of_text t k in
    let c : line (text s) ≡ line (text t) = ap line e in
    cc

-- What is read reads the same from its text.
pub read_again : (bs cs : List ℕ) (t : Tree) → line bs ≡ parsed t cs → line (text t) ≡ parsed t []
read_again bs cs t e = line_of_text t (line_readable bs cs t e)

-- The sorts that some line spells are the readable ones.
pub spelled_exactly : (t : Tree) → (readable t ≡ true) ↔ ((bs : List ℕ) × (line bs ≡ parsed t []))
spelled_exactly t = (λ h. (text t, line_of_text t h), λ p. line_readable p.0 [] t p.1)
