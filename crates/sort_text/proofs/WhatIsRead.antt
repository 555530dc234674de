-- What is read: a line that is read is read to its end, its sort is one that a line can spell, and the sort has no more nodes than
-- the line has bytes. (Exactly one tree: `line` is a function.) By induction on the derivation. Assumes nothing.
use mathlib.Core.Path.{◌≡◌, refl}
use mathlib.Core.Bool.{true, not}
use mathlib.Core.List.{List, []}
use Prim.Native.Nat.{ℕ, ◌+◌, ◌≤◌}
use native.Mathlib.Omega.{arith}
use lib.ListN.{length}
use borrow.Author.Tests.{le-leb}
use Rattle.resolved_sort.specs.Tree.{Tree, Trees, no_args, arg, arity}
use Rattle.sort_text.specs.Tokens.{is_letter}
use Rattle.sort_text.specs.Parse.{parsed, snoc, sort, line}
use Rattle.sort_text.specs.Text.{nonempty, writable}
use Rattle.sort_text.proofs.Progress.{word_takes, open_bracket_takes, close_bracket_takes, hash_takes, arrow_takes}
use Rattle.sort_text.specs.Grammar.{Operand, basic_sort, container_of, SortOf, one_operand, function_of, Operands, first, another}
use Rattle.sort_text.proofs.Grammar.{sort_derived, line_derived}
use Rattle.resolved_sort.specs.Order.{is_function}
use Rattle.sort_text.specs.Readable.{readable, arguments, few, no_function_argument, size, sizes}
use Rattle.sort_text.proofs.Readable.{readable_function, readable_argument, argument_readable, readable_parts}

pub nonempty_snoc : (ts : Trees) (t : Tree) → nonempty (snoc ts t) ≡ true
unfolding snoc
nonempty_snoc no_args t = refl
nonempty_snoc (arg s ts) t = refl

pub arguments_snoc : (ts : Trees) (t : Tree) → arguments ts ≡ true → not (is_function t) ≡ true → readable t ≡ true → arguments (snoc ts t) ≡ true
unfolding snoc
arguments_snoc no_args t a b c = readable_argument t no_args b c a
arguments_snoc (arg s ts) t a b c =
    let h = argument_readable s ts a in
    readable_argument s (snoc ts t) h.0 h.1 (arguments_snoc ts t h.2 b c)

pub sizes_snoc : (ts : Trees) (t : Tree) → sizes (snoc ts t) ≡ sizes ts + size t
unfolding snoc sizes
sizes_snoc no_args t = omega arith
sizes_snoc (arg s ts) t = omega (arith, sizes_snoc ts t)

mutual
  unfolding readable arguments

  operand_readable : {bs cs : List ℕ} {t : Tree} → Operand bs t cs → (not (is_function t) ≡ true) × (readable t ≡ true)
  operand_readable (basic_sort e m) = (refl, refl)
  operand_readable (container_of e m b h c) = (refl, sort_readable h)

  sort_readable : {bs cs : List ℕ} {t : Tree} → SortOf bs t cs → readable t ≡ true
  sort_readable (one_operand h) = (operand_readable h).1
  sort_readable (function_of {ts = ts} {r = r} h l e k) =
      let a = operands_readable h in
      readable_function ts r a.0 (le-leb (arity ts) 16 l) a.1 (sort_readable k)

  operands_readable : {bs cs : List ℕ} {ts : Trees} → Operands bs ts cs → (nonempty ts ≡ true) × (arguments ts ≡ true)
  operands_readable (first {t = t} h) = let a = operand_readable h in (refl, readable_argument t no_args a.0 a.1 refl)
  operands_readable (another {ts = ts} {t = t} h e k i) =
      let a = operands_readable h in
      let b = operand_readable k in
      rw i (nonempty_snoc ts t, arguments_snoc ts t a.1 b.0 b.1)

mutual
  unfolding size sizes

  operand_size : {bs cs : List ℕ} {t : Tree} → Operand bs t cs → size t + length cs ≤ length bs
  operand_size (basic_sort {bs} {w} {cs} e m) = let a = word_takes is_letter bs w cs e in omega (arith, a)
  operand_size (container_of {bs} {w} {cs} {ds} {es} {fs} e m b h c) =
      let a = word_takes is_letter bs w cs e in
      omega (arith, a, open_bracket_takes is_letter cs ds b, sort_size h, close_bracket_takes is_letter es fs c)

  sort_size : {bs cs : List ℕ} {t : Tree} → SortOf bs t cs → size t + length cs ≤ length bs
  sort_size (one_operand h) = operand_size h
  sort_size (function_of {cs = cs} {ds = ds} h l e k) = omega (arith, operands_size h, arrow_takes is_letter cs ds e, sort_size k)

  operands_size : {bs cs : List ℕ} {ts : Trees} → Operands bs ts cs → sizes ts + length cs ≤ length bs
  operands_size (first h) = omega (arith, operand_size h)
  operands_size (another {cs = cs} {ds = ds} {ts = ts} {t = t} h e k i) = rw i
      (omega (arith, operands_size h, hash_takes is_letter cs ds e, operand_size k, sizes_snoc ts t))

-- The nodes of a sort are no more than the bytes that it took.
pub sort_nodes : (bs cs : List ℕ) (t : Tree) → sort bs ≡ parsed t cs → size t + length cs ≤ length bs
sort_nodes bs cs t e = sort_size (sort_derived bs cs t e)

pub sort_is_readable : (bs cs : List ℕ) (t : Tree) → sort bs ≡ parsed t cs → readable t ≡ true
sort_is_readable bs cs t e = sort_readable (sort_derived bs cs t e)

-- A line that is read is read to its end.
pub line_read_whole : (bs cs : List ℕ) (t : Tree) → line bs ≡ parsed t cs → cs ≡ []
line_read_whole bs cs t e = (line_derived bs cs t e).3

pub line_readable : (bs cs : List ℕ) (t : Tree) → line bs ≡ parsed t cs → readable t ≡ true
line_readable bs cs t e = sort_readable (line_derived bs cs t e).1

-- Its sort is writable, each of its functions has 1 to 16 arguments, and none of them is a function.
pub line_writable : (bs cs : List ℕ) (t : Tree) → line bs ≡ parsed t cs → writable t ≡ true
line_writable bs cs t e = (readable_parts t (line_readable bs cs t e)).0

pub line_few : (bs cs : List ℕ) (t : Tree) → line bs ≡ parsed t cs → few t ≡ true
line_few bs cs t e = (readable_parts t (line_readable bs cs t e)).1

pub line_no_function_argument : (bs cs : List ℕ) (t : Tree) → line bs ≡ parsed t cs → no_function_argument t ≡ true
line_no_function_argument bs cs t e = (readable_parts t (line_readable bs cs t e)).2

pub line_nodes : (bs cs : List ℕ) (t : Tree) → line bs ≡ parsed t cs → size t ≤ length bs
line_nodes bs cs t e = omega (arith, sort_size (line_derived bs cs t e).1)
