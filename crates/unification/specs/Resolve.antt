-- resolve and resolve_or_default (001): the sort that a place stands for through the bindings. Its parts are made
-- first, a function's arguments left to right and then its range, and then the whole is interned. A sort of the list,
-- and each of its parts, is found there, so that nothing is made for it.
use Rattle.std.specs.Prelude.{List, [], ◌∷◌, ℕ, zero, suc, ◌<◌, get_or, ◌≡◌, false, Some, None}
use Rattle.std.proofs.Math.Option.{Option, none, some}
use Rattle.resolved_sort.specs.Tree.{unit, Tree, flat, container, function, Trees, no_args, arg}
use Rattle.resolved_sort.specs.declared.Counts.{Counts}
use Rattle.resolved_sort.specs.Interning.{Sorts, look, Outcome, made, ◌then◌, where_some, intern, member, nothing}
use Rattle.resolved_sort.specs.Interning.{full, fits}
use Rattle.resolved_sort.specs.Storage.{trees, sorts_of}
use Rattle.resolved_sort.specs.Entries.{Stored, stored}
use Rattle.resolved_sort.specs.Inner.Bounds.{StoredDomain, domain_of}
use Rattle.unification.specs.declared.Lengths.{Lengths}
use Rattle.unification.specs.Default.{Default}
use Rattle.unification.specs.Term.{Head, flat_head, container_head, function_head, stray_head, Term, var, app}
use Rattle.unification.specs.Term.{Terms, no_part, part, Shape}
use Rattle.unification.specs.Nodes.{Binds, binding}
use Rattle.unification.specs.Unify.{deep}
use Rattle.unification.specs.Solutions.{value_to, value_bound}
use Rattle.unification.specs.Acyclic.{Reaches}

-- the term of a place through the bindings; what is free stays a variable
abbrev pub value : (ℕ → Shape) → Binds → ℕ → Term
value shape B p = value_to shape B var deep p

-- the first n of the sorts as arguments
unfoldable pub firsts : ℕ → List Tree → Trees
firsts zero us = no_args
firsts (suc n) [] = no_args
firsts (suc n) (u ∷ us) = arg u (firsts n us)

-- the sort of a head over sorts; the head of a number that is no place has none, and unit stands for it
unfoldable pub tree_over : Head → List Tree → Tree
tree_over (flat_head a) us = flat a
tree_over (container_head o) us = container o (get_or us 0 (flat unit))
tree_over (function_head n) us = function (firsts n us) (get_or us n (flat unit))
tree_over (stray_head n) us = flat unit

-- The sort of a term. Where a variable stands, it is the default, and none where there is no
-- default: what was made up to there stays.
unfoldable mutual
  pub resolve_term : Option Tree → Term → Sorts → Outcome Tree
  resolve_term d (var v) S = where_some d S (λ t. made t S)
  resolve_term d (app h ts) S = resolve_terms d ts S then (λ us S. intern (tree_over h us) S)

  pub resolve_terms : Option Tree → Terms → Sorts → Outcome (List Tree)
  resolve_terms d no_part S = made [] S
  resolve_terms d (part t ts) S =
      resolve_term d t S then (λ u S. resolve_terms d ts S then (λ us S. made (u ∷ us) S))

-- the arguments of a function, left to right
unfoldable pub resolve_arguments : Option Tree → Terms → Sorts → Outcome Trees
resolve_arguments d no_part S = made no_args S
resolve_arguments d (part t ts) S =
    resolve_term d t S then (λ u S. resolve_arguments d ts S then (λ us S. made (arg u us) S))

-- resolve at a place, and resolve_or_default
abbrev pub resolve : (ℕ → Shape) → Binds → ℕ → Sorts → Outcome Tree
resolve shape B p S = resolve_term none (value shape B p) S

abbrev pub resolve_or_default : (ℕ → Shape) → Binds → ℕ → Tree → Sorts → Outcome Tree
resolve_or_default shape B p d S = resolve_term (some d) (value shape B p) S

-- The same over lent words, with the default by its number.
abbrev pub default_of : List Tree → Default → Option Tree
default_of T (Some d) = some (look T d.0)
default_of T None = none

abbrev pub DefaultBelow : ℕ → Default → Type 0
DefaultBelow n (Some d) = d.0 < n
DefaultBelow n None = Unit {0}

-- the default, and the term of a place
abbrev pub default_in : List ℕ → Lengths → Default → Option Tree
default_in ws k x = default_of (trees ws k.sorts) x

unfoldable pub term_resolved : List ℕ → Lengths → Default → Term → Stored
term_resolved ws k x t =
    stored ws k.sorts k.entries (resolve_term (default_in ws k x) t (sorts_of ws k.sorts k.entries))

unfoldable pub arguments_resolved : List ℕ → Lengths → Default → Terms → ℕ → List ℕ → StoredDomain
arguments_resolved ws k x ts i ids =
    domain_of ws k.sorts k.entries i ids
    (resolve_arguments (default_in ws k x) ts (sorts_of ws k.sorts k.entries))

abbrev pub with_counts : Lengths → Counts → Lengths
with_counts k c =
    record {
      sorts = c.sorts;
      entries = c.entries;
      nodes = k.nodes;
      arguments = k.arguments;
      variables = k.variables;
    }

abbrev pub general : (ℕ → Shape) → Binds → ℕ → Term
general shape B u = value_bound var u (value shape B) (binding B u)

-- room ends only at a sort that the list has not and that does not fit
pub record NoRoomFor (S : Sorts) : Type 0 where
  pub sort : Tree
  pub absent : member S.trees sort ≡ false
  pub too_big : fits sort S ≡ false

-- An answer of resolve by what is free: a sort, where the place reaches no free variable; none, where it reaches
-- one; or room ended.
pub data Determined (shape : ℕ → Shape) (B : Binds) (p : ℕ) : Outcome Tree → Type 0 where
  determined : (t : Tree) (S : Sorts) → ((u : ℕ) → Reaches shape B u p → binding B u ≡ none → ⊥)
      → Determined shape B p (made t S)
  underdetermined : (S : Sorts) (u : ℕ) → Reaches shape B u p → binding B u ≡ none → Determined shape B p (nothing S)
  out_of_room : (S : Sorts) → NoRoomFor S → Determined shape B p (full S)
