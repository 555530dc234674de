-- The sorts that a line can spell: the writable ones whose functions have at most 16 arguments, none of them a function. Said at
-- once and said in three parts, which agree by the clauses. Assumes nothing.
use mathlib.Core.Path.{◌≡◌, refl}
use mathlib.Core.Bool.{true, not, ◌&&◌}
use lib.Dec.{leb}
use Rattle.std.proofs.lemmas.Bool.{and_from}
use Rattle.resolved_sort.proofs.Below.{and_left, and_right}
use Rattle.resolved_sort.specs.Tree.{Tree, flat, container, function, Trees, no_args, arg, arity}
use Rattle.resolved_sort.specs.Order.{is_function}
use Rattle.sort_text.specs.Text.{nonempty, writable, writables}
use Rattle.resolved_sort.specs.Storage.{max_arguments}
use Rattle.sort_text.specs.Readable.{readable, arguments, few, fews, no_function_argument, no_functions}

-- the parts of what a function asks
pub function_readable : (ts : Trees) (r : Tree) → readable (function ts r) ≡ true
    → (nonempty ts ≡ true) × (leb (arity ts) max_arguments ≡ true) × (arguments ts ≡ true) × (readable r ≡ true)
unfolding readable
function_readable ts r e =
    let a = and_left (nonempty ts && leb (arity ts) max_arguments && arguments ts) (readable r) e in
    let b = and_left (nonempty ts && leb (arity ts) max_arguments) (arguments ts) a in (
      and_left (nonempty ts) (leb (arity ts) max_arguments) b,
      and_right (nonempty ts) (leb (arity ts) max_arguments) b,
      and_right (nonempty ts && leb (arity ts) max_arguments) (arguments ts) a,
      and_right (nonempty ts && leb (arity ts) max_arguments && arguments ts) (readable r) e,
    )

pub readable_function : (ts : Trees) (r : Tree) → nonempty ts ≡ true → leb (arity ts) max_arguments ≡ true
    → arguments ts ≡ true → readable r ≡ true → readable (function ts r) ≡ true
unfolding readable
readable_function ts r a b c d = and_from _ _ (and_from _ _ (and_from _ _ a b) c) d

pub argument_readable : (t : Tree) (ts : Trees) → arguments (arg t ts) ≡ true → (not (is_function t) ≡ true) × (readable t ≡ true) × (arguments ts ≡ true)
unfolding arguments
argument_readable t ts e =
    let a = and_left (not (is_function t) && readable t) (arguments ts) e in
    (and_left (not (is_function t)) (readable t) a, and_right (not (is_function t)) (readable t) a, and_right (not (is_function t) && readable t) (arguments ts) e)

pub readable_argument : (t : Tree) (ts : Trees) → not (is_function t) ≡ true → readable t ≡ true → arguments ts ≡ true → arguments (arg t ts) ≡ true
unfolding arguments
readable_argument t ts a b c = and_from _ _ (and_from _ _ a b) c

-- readable is writable, few arguments, and no function for an argument
abbrev pub Parts : Tree → Type 0
Parts t = (writable t ≡ true) × (few t ≡ true) × (no_function_argument t ≡ true)

abbrev pub PartsAll : Trees → Type 0
PartsAll ts = (writables ts ≡ true) × (fews ts ≡ true) × (no_functions ts ≡ true)

mutual
  unfolding writable writables few fews no_function_argument no_functions readable arguments

  pub readable_parts : (t : Tree) → readable t ≡ true → Parts t
  readable_parts (flat a) e = (e, refl, refl)
  readable_parts (container o t) e = readable_parts t e
  readable_parts (function ts r) e =
      let h = function_readable ts r e in
      let a = arguments_parts ts h.2 in
      let b = readable_parts r h.3 in
      (and_from _ _ (and_from _ _ h.0 a.0) b.0, and_from _ _ (and_from _ _ h.1 a.1) b.1, and_from _ _ a.2 b.2)

  pub arguments_parts : (ts : Trees) → arguments ts ≡ true → PartsAll ts
  arguments_parts no_args e = (refl, refl, refl)
  arguments_parts (arg t ts) e =
      let h = argument_readable t ts e in
      let a = readable_parts t h.1 in
      let b = arguments_parts ts h.2 in
      (and_from _ _ a.0 b.0, and_from _ _ a.1 b.1, and_from _ _ (and_from _ _ h.0 a.2) b.2)

mutual
  unfolding writable writables few fews no_function_argument no_functions readable arguments

  pub parts_readable : (t : Tree) → writable t ≡ true → few t ≡ true → no_function_argument t ≡ true → readable t ≡ true
  parts_readable (flat a) w f n = w
  parts_readable (container o t) w f n = parts_readable t w f n
  parts_readable (function ts r) w f n =
      let a = and_left (nonempty ts && writables ts) (writable r) w in
      let b = and_left (leb (arity ts) max_arguments && fews ts) (few r) f in
      readable_function ts r (and_left (nonempty ts) (writables ts) a) (and_left (leb (arity ts) max_arguments) (fews ts) b)
      (parts_arguments ts (and_right (nonempty ts) (writables ts) a) (and_right (leb (arity ts) max_arguments)
      (fews ts) b) (and_left (no_functions ts) (no_function_argument r) n))
      (parts_readable r (and_right (nonempty ts && writables ts) (writable r) w)
      (and_right (leb (arity ts) max_arguments && fews ts) (few r) f) (and_right (no_functions ts)
      (no_function_argument r) n))

  pub parts_arguments : (ts : Trees) → writables ts ≡ true → fews ts ≡ true → no_functions ts ≡ true → arguments ts ≡ true
  parts_arguments no_args w f n = refl
  parts_arguments (arg t ts) w f n =
      let a = and_left (not (is_function t) && no_function_argument t) (no_functions ts) n in
      readable_argument t ts (and_left (not (is_function t)) (no_function_argument t) a)
      (parts_readable t (and_left (writable t) (writables ts) w) (and_left (few t) (fews ts) f) (and_right (not (is_function t)) (no_function_argument t) a))
      (parts_arguments ts (and_right (writable t) (writables ts) w) (and_right (few t) (fews ts) f)
      (and_right (not (is_function t) && no_function_argument t) (no_functions ts) n))
