-- The steps of a sort that is read: one for each of its nodes, so no more than the line has bytes, and none of a function of more than
-- 16 arguments. By the clauses of `postfix`. Assumes nothing.
use mathlib.Core.Path.{◌≡◌}
use mathlib.Core.Bool.{true}
use mathlib.Core.List.{List, [], ◌∷◌, ◌++◌}
use Prim.Native.Nat.{ℕ, ◌+◌, ◌≤◌, ◌<◌}
use native.Mathlib.Omega.{arith}
use lib.ListN.{length, length-append}
use borrow.Author.Tests.{leb-true}
use Rattle.resolved_sort.specs.declared.Sort.{Sort}
use Rattle.resolved_sort.specs.declared.ComplexSort.{ComplexSort}
use Rattle.resolved_sort.specs.Tree.{Flat, unit, primitive, def, typevar, Tree, flat, container, function, Trees, no_args, arg, arity}
use Rattle.resolved_sort.specs.Storage.{kind_flat, kind_op}
use Rattle.sort_text.specs.Parse.{parsed, line}
use Rattle.sort_text.specs.Postfix.{postfix, postfixes, Short}
use Rattle.sort_text.specs.Readable.{readable, arguments, size, sizes}
use Rattle.sort_text.proofs.Readable.{function_readable, argument_readable}
use Rattle.sort_text.proofs.WhatIsRead.{line_readable, line_nodes}
use Rattle.sort_text.proofs.Sizes.{entries_below_size}

mutual
  unfolding postfix postfixes size sizes

  -- A sort has a step for each of its nodes.
  pub postfix_length : (t : Tree) → length (postfix t) ≡ size t
  postfix_length (flat a) = omega arith
  postfix_length (container o t) = simp length-append (omega (arith, postfix_length t))
  postfix_length (function ts r) = simp length-append (omega (arith, postfixes_length ts, postfix_length r))

  pub postfixes_length : (ts : Trees) → length (postfixes ts) ≡ sizes ts
  postfixes_length no_args = omega arith
  postfixes_length (arg t ts) = simp length-append (omega (arith, postfix_length t, postfixes_length ts))

pub short_append : (xs ys : List ℕ) → Short xs → Short ys → Short (xs ++ ys)
unfolding Short
short_append [] ys h k = k
short_append (x ∷ xs) ys h k = (h.0, short_append xs ys h.1 k)

short_one : (k : ℕ) → k ≤ 32 → Short (k ∷ [])
unfolding Short
short_one k h = (h, tt)

kind_flat_short : (a : Flat) → kind_flat a ≤ 32
unfolding kind_flat
kind_flat_short unit = omega arith
kind_flat_short (primitive Sort.Bool) = omega arith
kind_flat_short (primitive Sort.Pos) = omega arith
kind_flat_short (primitive Sort.Nat) = omega arith
kind_flat_short (primitive Sort.Int) = omega arith
kind_flat_short (primitive Sort.Real) = omega arith
kind_flat_short (def n) = omega arith
kind_flat_short (typevar n) = omega arith

kind_op_short : (o : ComplexSort) → kind_op o ≤ 32
unfolding kind_op
kind_op_short ComplexSort.List = omega arith
kind_op_short ComplexSort.Set = omega arith
kind_op_short ComplexSort.FSet = omega arith
kind_op_short ComplexSort.Bag = omega arith
kind_op_short ComplexSort.FBag = omega arith

mutual
  unfolding postfix postfixes readable Short

  pub postfix_short : (t : Tree) → readable t ≡ true → Short (postfix t)
  postfix_short (flat a) h = short_one (kind_flat a) (kind_flat_short a)
  postfix_short (container o t) h = short_append (postfix t) (kind_op o ∷ []) (postfix_short t h) (short_one (kind_op o) (kind_op_short o))
  postfix_short (function ts r) h =
      let p = function_readable ts r h in
      short_append (postfixes ts) (postfix r ++ ((16 + arity ts) ∷ [])) (postfixes_short ts p.2)
      (short_append (postfix r) ((16 + arity ts) ∷ []) (postfix_short r p.3) (short_one (16 + arity ts) (omega (arith, leb-true (arity ts) 16 p.1))))

  pub postfixes_short : (ts : Trees) → arguments ts ≡ true → Short (postfixes ts)
  postfixes_short no_args h = tt
  postfixes_short (arg t ts) h =
      let p = argument_readable t ts h in
      short_append (postfix t) (postfixes ts) (postfix_short t p.1) (postfixes_short ts p.2)

-- A line's sort has at least one step and no more than the line has bytes.
pub line_steps_length : (bs cs : List ℕ) (t : Tree) → line bs ≡ parsed t cs → (0 < length (postfix t)) × (length (postfix t) ≤ length bs)
line_steps_length bs cs t e = omega (arith, postfix_length t, entries_below_size t, line_nodes bs cs t e)

pub line_steps_short : (bs cs : List ℕ) (t : Tree) → line bs ≡ parsed t cs → Short (postfix t)
line_steps_short bs cs t e = postfix_short t (line_readable bs cs t e)
