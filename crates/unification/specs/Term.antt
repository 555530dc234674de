-- Terms: sorts that may hold inference variables. And what stands at a place: one shape for sorts and nodes.
use Rattle.std.specs.Prelude.{Bool, ◌&&◌, List, ℕ, eqb}
use Rattle.resolved_sort.specs.declared.ComplexSort.{ComplexSort}
use Rattle.resolved_sort.specs.Tree.{Flat, Tree, flat, container, function, Trees, no_args, arg, arity}
use Rattle.resolved_sort.specs.Storage.{function_kind, kind_flat, part_flat, kind_op}

-- A head stands over parts: a flat sort over none, a container over one, a function of n arguments over these and then
-- its range. A number that is no place has a head of its own.
pub data Head : Type 0 where
  flat_head : Flat → Head
  container_head : ComplexSort → Head
  function_head : ℕ → Head
  stray_head : ℕ → Head

mutual
  pub data Term : Type 0 where
    var : ℕ → Term
    app : Head → Terms → Term

  pub data Terms : Type 0 where
    no_part : Terms
    part : Term → Terms → Terms

-- What stands at a place: a variable, or a head over places.
pub data Shape : Type 0 where
  variable : ℕ → Shape
  over : Head → List ℕ → Shape

-- equal heads: of one kind and one number
unfoldable pub kind_head : Head → ℕ
kind_head (flat_head a) = kind_flat a
kind_head (container_head o) = kind_op o
kind_head (function_head n) = function_kind
kind_head (stray_head n) = 14

unfoldable pub number_head : Head → ℕ
number_head (flat_head a) = part_flat a
number_head (container_head o) = 0
number_head (function_head n) = n
number_head (stray_head n) = n

unfoldable pub same_head : Head → Head → Bool
same_head h g = eqb (kind_head h) (kind_head g) && eqb (number_head h) (number_head g)

unfoldable mutual
  -- the term of a sort, which has no variables
  pub term_of : Tree → Term
  term_of (flat a) = app (flat_head a) no_part
  term_of (container o t) = app (container_head o) (part (term_of t) no_part)
  term_of (function ts r) = app (function_head (arity ts)) (terms_of ts (part (term_of r) no_part))

  -- the terms of arguments, in front of others
  pub terms_of : Trees → Terms → Terms
  terms_of no_args us = us
  terms_of (arg t ts) us = part (term_of t) (terms_of ts us)

-- a term with terms put in for its variables
unfoldable mutual
  pub substitute : (ℕ → Term) → Term → Term
  substitute σ (var v) = σ v
  substitute σ (app h ts) = app h (substitutes σ ts)

  pub substitutes : (ℕ → Term) → Terms → Terms
  substitutes σ no_part = no_part
  substitutes σ (part t ts) = part (substitute σ t) (substitutes σ ts)
