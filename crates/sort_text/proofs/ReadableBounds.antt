-- A join or meet of two sorts that a line can spell is one that a line can spell: at each place it has a word of one of the two. So it
-- has a text, and its text reads back. By the clauses of `bound`. Assumes nothing.
use mathlib.Core.Path.{◌≡◌, refl, ◌∙◌, ap}
use mathlib.Core.Bool.{Bool, true, false, cond, not}
use mathlib.Core.List.{List, []}
use mathlib.Core.Option.{some, none}
use Prim.Native.Nat.{ℕ, ◌+◌}
use lib.Dec.{eqb, leb}
use Rattle.resolved_sort.specs.Tree.{Flat, Tree, flat, container, function, Trees, no_args, arg, arity, family, level}
use Rattle.resolved_sort.specs.Order.{le_level, bound_flat, bound_op, bound, bounds, is_function}
use Rattle.sort_text.specs.Parse.{parsed, line}
use Rattle.sort_text.specs.Text.{nonempty, flat_writable, writable, text}
use Rattle.sort_text.specs.Readable.{readable, arguments}
use Rattle.sort_text.proofs.Readable.{function_readable, readable_function, argument_readable, readable_argument, readable_parts}
use Rattle.sort_text.proofs.WhatIsRead.{line_readable}
use Rattle.sort_text.proofs.RoundTrip.{line_of_text}
use Rattle.sort_text.proofs.Length.{IfSome, map₁_if_some, map₂_if_some, any, if_some_is}
use Rattle.resolved_sort.specs.Storage.{max_arguments}

-- of two heads the bound is one
flat_by : (P : Flat → Type 0) (a b : Flat) (f l : Bool) → P a → P b → IfSome P (cond f (some (cond l b a)) none)
flat_by P a b true true x y = y
flat_by P a b true false x y = x
flat_by P a b false l x y = tt

pub flat_one_of_two : (P : Flat → Type 0) (up : Bool) (a b : Flat) → P a → P b → IfSome P (bound_flat up a b)
unfolding bound_flat
flat_one_of_two P up a b x y = flat_by P a b (eqb (family a) (family b)) (le_level up (level a) (level b)) x y

-- readable, and a function where the first sort is one
abbrev Like : Tree → Tree → Type 0
Like s u = (is_function u ≡ is_function s) × (readable u ≡ true)

abbrev LikeAll : Trees → Trees → Type 0
LikeAll ss us = (nonempty us ≡ nonempty ss) × (arity us ≡ arity ss) × (arguments us ≡ true)

function_like : (ss : Trees) (r : Tree) → readable (function ss r) ≡ true → (vs : Trees) (v : Tree) → LikeAll ss vs
    → Like r v → Like (function ss r) (function vs v)
function_like ss r h vs v a b =
    let p = function_readable ss r h in
    (refl, readable_function vs v (a.0 ∙ p.0) (ap (λ n. leb n max_arguments) a.1 ∙ p.1) a.2 b.1)

argument_like : (s : Tree) (ss : Trees) → arguments (arg s ss) ≡ true → (v : Tree) (vs : Trees) → Like s v → LikeAll ss vs → LikeAll (arg s ss) (arg v vs)
unfolding arity
argument_like s ss h v vs a b =
    let p = argument_readable s ss h in
    (refl, ap (λ n. n + 1) b.1, readable_argument v vs (ap not a.0 ∙ p.0) a.1 b.2)

mutual
  unfolding bound bounds readable arguments

  like_if_bound : (up : Bool) (s t : Tree) → readable s ≡ true → readable t ≡ true → IfSome (Like s) (bound up s t)
  like_if_bound up (flat a) (flat b) h k =
      map₁_if_some (λ c. flat_writable c ≡ true) (Like (flat a)) flat (bound_flat up a b)
      (flat_one_of_two (λ c. flat_writable c ≡ true) up a b h k) (λ c i. (refl, i))
  like_if_bound up (flat a) (container p t) h k = tt
  like_if_bound up (flat a) (function ts u) h k = tt
  like_if_bound up (container o s) (flat b) h k = tt
  like_if_bound up (container o s) (container p t) h k =
      map₂_if_some (λ q. Unit {0}) (Like s) (Like (container o s)) container (bound_op up o p) (bound up s t)
      (any (bound_op up o p)) (like_if_bound up s t h k) (λ q v x y. (refl, y.1))
  like_if_bound up (container o s) (function ts u) h k = tt
  like_if_bound up (function ss r) (flat b) h k = tt
  like_if_bound up (function ss r) (container p t) h k = tt
  like_if_bound up (function ss r) (function ts u) h k =
      let p = function_readable ss r h in
      let q = function_readable ts u k in
      map₂_if_some (LikeAll ss) (Like r) (Like (function ss r)) function (bounds (not up) ss ts) (bound up r u)
      (likes_if_bound (not up) ss ts p.2 q.2) (like_if_bound up r u p.3 q.3)
      (function_like ss r h)

  likes_if_bound : (up : Bool) (ss ts : Trees) → arguments ss ≡ true → arguments ts ≡ true → IfSome (LikeAll ss) (bounds up ss ts)
  likes_if_bound up no_args no_args h k = (refl, refl, refl)
  likes_if_bound up no_args (arg t ts) h k = tt
  likes_if_bound up (arg s ss) no_args h k = tt
  likes_if_bound up (arg s ss) (arg t ts) h k =
      let p = argument_readable s ss h in
      let q = argument_readable t ts k in
      map₂_if_some (Like s) (LikeAll ss) (LikeAll (arg s ss)) arg (bound up s t) (bounds up ss ts) (like_if_bound up s
      t p.1 q.1) (likes_if_bound up ss ts p.2 q.2) (argument_like s ss h)

pub bound_readable : (up : Bool) (s t u : Tree) → readable s ≡ true → readable t ≡ true → bound up s t ≡ some u → readable u ≡ true
bound_readable up s t u h k e = (if_some_is (Like s) (bound up s t) u (like_if_bound up s t h k) e).1

-- A join or meet of two lines' sorts is writable, and its text reads back as that sort.
pub lines_bound_writable : (bs cs bs' cs' : List ℕ) (up : Bool) (s t u : Tree) → line bs ≡ parsed s cs
    → line bs' ≡ parsed t cs' → bound up s t ≡ some u → writable u ≡ true
lines_bound_writable bs cs bs' cs' up s t u a b e = (readable_parts u (bound_readable up s t u (line_readable bs cs s a) (line_readable bs' cs' t b) e)).0

pub lines_bound_read_again : (bs cs bs' cs' : List ℕ) (up : Bool) (s t u : Tree) → line bs ≡ parsed s cs → line bs' ≡ parsed t cs' → bound up s t ≡ some u
    → line (text u) ≡ parsed u []
lines_bound_read_again bs cs bs' cs' up s t u a b e = line_of_text u (bound_readable up s t u (line_readable bs cs s a) (line_readable bs' cs' t b) e)
