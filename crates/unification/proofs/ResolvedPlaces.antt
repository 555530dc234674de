-- The places of checked lists under resolve: the term of a place is formed as it should be, the term of a sort is that of its tree, and a list of
-- sorts that has grown leaves places and terms as they were. By the shapes of places, and by the growth of lists. Assumes nothing.
use mathlib.Core.Path.{◌≡◌, refl, sym, ◌∙◌, ap, subst}
use mathlib.Core.Bool.{true}
use mathlib.Core.List.{List, [], ◌∷◌}
use mathlib.Core.Option.{Option, none, some}
use Prim.Native.Nat.{ℕ, zero, suc, ◌<◌}
use native.Mathlib.Omega.{arith}
use lib.ListN.{length, length-append}
use Rattle.resolved_sort.specs.Tree.{Tree}
use Rattle.resolved_sort.specs.Interning.{Sorts, look, member, made}
use Rattle.resolved_sort.specs.Storage.{trees}
use Rattle.resolved_sort.specs.Entries.{after}
use Rattle.resolved_sort.proofs.Numbers.{member_look, member_grows}
use Rattle.resolved_sort.proofs.Trees.{length_trees}
use Rattle.resolved_sort.specs.Growing.{Grown}
use Rattle.unification.specs.Term.{Term, var, Shape, variable, over, term_of}
use Rattle.unification.specs.Nodes.{Lists, is_place, shape_at, Binds, binding}
use Rattle.unification.specs.Unify.{deep}
use Rattle.unification.specs.Acyclic.{One, first, later}
use Rattle.unification.specs.Checked.{NodesChecked, lists_of, BindsChecked}
use Rattle.unification.specs.Solutions.{terms_at, value_bound, value_at, value_to}
use Rattle.unification.specs.Resolve.{value, resolve_term}
use Rattle.unification.specs.Making.{Lent}
use Rattle.unification.proofs.Enough.{model}
use Rattle.unification.proofs.Places.{bound_is_place}
use Rattle.unification.proofs.Rows.{ShapeFormed, variable_formed, flat_formed, container_formed, function_formed}
use Rattle.unification.proofs.Lists.{part_is_place, place_formed, sort_value_lem}
use Rattle.unification.proofs.Theorem.{checked_ranked}
use Rattle.unification.specs.Growing.{Names, PlacedIn, Grows}
use Rattle.unification.proofs.Grows.{placed_grown, value_grown}
use Rattle.unification.proofs.SortsGrow.{with_more_sorts, sorts_grow}
use Rattle.unification.proofs.ResolvedSorts.{count, HeadOver, Formed, AllFormed, sort_is_found}

-- the heads of shapes stand over as many parts as they should
abbrev pub ShapeOver : Shape → Type 0
ShapeOver (variable v) = Unit {0}
ShapeOver (over h ps) = HeadOver h (length ps)

formed_over : (s : Shape) → ShapeFormed s → ShapeOver s
formed_over _ (variable_formed v) = tt
formed_over _ (flat_formed a) = refl
formed_over _ (container_formed o s) = refl
formed_over _ (function_formed n xs r l few) = (omega (arith, l, length-append xs (r ∷ [])), few)

pub count_terms : (f : ℕ → Term) (ps : List ℕ) → count (terms_at f ps) ≡ length ps
unfolding count
count_terms f [] = refl
count_terms f (p ∷ ps) = ap suc (count_terms f ps)

pub terms_formed : (f : ℕ → Term) (ps : List ℕ) → ((q : ℕ) → One q ps → Formed (f q)) → AllFormed (terms_at f ps)
unfolding AllFormed
terms_formed f [] h = tt
terms_formed f (p ∷ ps) h = (h p (first ps), terms_formed f ps (λ q o. h q (later p ps o)))

module _ (ws : List ℕ) (n e : ℕ) (ns : List ℕ) (m d v : ℕ) (c : NodesChecked ws n e ns m d v) where
  abbrev L : Lists
  L = lists_of ws n ns m

  pub place_over : (p : ℕ) → is_place n m p ≡ true → ShapeOver (shape_at L p)
  place_over p i = formed_over (shape_at L p) (place_formed ws n e ns m d v c p i)

  module _ (B : Binds) (b : BindsChecked (lists_of ws n ns m) v B) where
    formed_to : (k p : ℕ) → is_place n m p ≡ true → Formed (value_to (shape_at L) B var k p)
    unfolding value_to Formed
    formed_to zero p i = tt
    formed_to (suc k) p i = go (shape_at L p) refl (place_over p i) (formed_to k)
      where
        bound : (u : ℕ) (o : Option ℕ) → binding B u ≡ o → ((q : ℕ) → is_place n m q ≡ true
            → Formed (value_to (shape_at L) B var k q)) → Formed (value_bound var u (value_to (shape_at L) B var k) o)
        bound u none e ih = tt
        bound u (some q) e ih = ih q (bound_is_place n m B u q b.places e)

        go : (s : Shape) → shape_at L p ≡ s → ShapeOver s → ((q : ℕ) → is_place n m q ≡ true
            → Formed (value_to (shape_at L) B var k q)) → Formed (value_at B var (value_to (shape_at L) B var k) s)
        go (variable u) s x ih = bound u (binding B u) refl ih
        go (over h ps) s x ih = (
          subst (HeadOver h) (sym (count_terms (value_to (shape_at L) B var k) ps)) x,
          terms_formed (value_to (shape_at L) B var k) ps (λ q o. ih q (part_is_place ws n e ns m d v c p q h ps i s o)),
        )

    -- the term of a place is formed as it should be
    pub value_formed : (p : ℕ) → is_place n m p ≡ true → Formed (value (shape_at L) B p)
    value_formed p i = formed_to deep p i

    -- the term of a sort is that of its tree
    pub value_of_sort : (p : ℕ) → p < n → value (shape_at L) B p ≡ term_of (look (trees ws n) p)
    value_of_sort p l = sort_value_lem ws n e ns m d v c _ (value (shape_at L) B) (model (shape_at L) deep B
        (checked_ranked ws n e ns m d v c B b) var).isval (suc p) p (omega arith) l

    -- and it is found in every list that grew from the storage
    pub sort_place_is_found : (S : Sorts) → Grown ws n e S → (x : Option Tree) (p : ℕ) → p < n
        → resolve_term x (value (shape_at L) B p) S ≡ made (look (trees ws n) p) S
    sort_place_is_found S g x p l =
        ap (λ t. resolve_term x t S) (value_of_sort p l)
        ∙ sort_is_found ws n e S g x (look (trees ws n) p)
        (subst (λ T. member T (look (trees ws n) p) ≡ true) (sym g.prefix) (member_grows (trees ws n) _
        (look (trees ws n) p) (member_look (trees ws n) p (omega (arith, l, length_trees ws n)))))

-- A list of sorts that has grown: places of before are places, and stand for what they stood for.
module _ (ws : List ℕ) (n e : ℕ) (ns : List ℕ) (m d v : ℕ) (c : NodesChecked ws n e ns m d v) (S : Sorts) (g : Grown ws n e S) where
  abbrev there : Lists
  there = lists_of (after ws n e S) (length S.trees) ns m

  abbrev before : Lent
  before = record { sorts = ws; nodes = ns; lengths = record { sorts = n; entries = e; nodes = m; arguments = d; variables = v } }

  grows : Grows before (with_more_sorts before S)
  grows = sorts_grow before c S g

  pub place_there : (p : ℕ) → is_place n m p ≡ true → is_place (length S.trees) m p ≡ true
  place_there = placed_grown before c (with_more_sorts before S) grows

  module _ (B : Binds) (b : BindsChecked (lists_of ws n ns m) v B) where
    names : Names (PlacedIn before) B
    names u q = bound_is_place n m B u q b.places

    -- a place stands for what it stood for
    pub value_there : (p : ℕ) → is_place n m p ≡ true → value (shape_at there) B p ≡ value (shape_at (lists_of ws n ns m)) B p
    value_there = value_grown before c (with_more_sorts before S) grows B names
