-- "Unify descends through containers, functions and bindings to any depth, with the occurs check before a binding."
-- Each definition is one step over the call below it, and goes to a depth; a law says which depth is enough.
use Rattle.std.specs.Prelude.{Bool, true, false, List, [], ◌∷◌, ℕ, zero, suc, ◌^◌, eqb, set}
use Rattle.std.proofs.Math.Option.{Option, none, some}
use Rattle.unification.specs.Term.{Shape, variable, over, same_head}
use Rattle.unification.specs.Nodes.{Binds, binding}

-- what unify comes to: the bindings of a yes, a no, or that the depth was not enough
pub data Unifies : Type 0 where
  yes_with : Binds → Unifies
  no_way : Unifies
  too_deep : Unifies

abbrev pub and_then : Unifies → (Binds → Unifies) → Unifies
and_then (yes_with B) f = f B
and_then no_way f = no_way
and_then too_deep f = too_deep

-- whether a variable occurs
pub data Occurs : Type 0 where
  absent present unknown : Occurs

abbrev pub or_else : Occurs → Occurs → Occurs
or_else absent x = x
or_else present x = present
or_else unknown x = unknown

abbrev pub of_test : Bool → Occurs
of_test true = present
of_test false = absent

-- deep enough for every list within the ceilings whose variables do not reach themselves
abbrev pub deep : ℕ
deep = 2 ^ 24

abbrev pub deeper : ℕ
deeper = 2 ^ 40

module _ (shape : ℕ → Shape) where
  -- "Both sides are first followed through bindings to their ends."
  abbrev pub follow_bound : Option ℕ → ℕ → (ℕ → Option ℕ) → Option ℕ
  follow_bound none p f = some p
  follow_bound (some q) p f = f q

  abbrev pub follow_at : Shape → Binds → ℕ → (ℕ → Option ℕ) → Option ℕ
  follow_at (variable v) B p f = follow_bound (binding B v) p f
  follow_at (over h ps) B p f = some p

  unfoldable pub follow : ℕ → Binds → ℕ → Option ℕ
  follow zero B p = none
  follow (suc k) B p = follow_at (shape p) B p (follow k B)

  -- does the variable v occur in the sort at p, through the bindings?
  abbrev pub occurs_any : (ℕ → Occurs) → List ℕ → Occurs
  occurs_any f [] = absent
  occurs_any f (p ∷ ps) = let r = occurs_any f ps in or_else (f p) r

  abbrev pub occurs_bound : Option ℕ → ℕ → ℕ → (ℕ → Occurs) → Occurs
  occurs_bound none v u f = of_test (eqb v u)
  occurs_bound (some q) v u f = f q

  abbrev pub occurs_at : Shape → Binds → ℕ → (ℕ → Occurs) → Occurs
  occurs_at (variable u) B v f = occurs_bound (binding B u) v u f
  occurs_at (over h ps) B v f = occurs_any f ps

  unfoldable pub occurs : ℕ → Binds → ℕ → ℕ → Occurs
  occurs zero B v p = unknown
  occurs (suc k) B v p = occurs_at (shape p) B v (occurs k B v)

  -- "with the occurs check before a binding"
  abbrev pub bind_unless : Occurs → Binds → ℕ → ℕ → Unifies
  bind_unless absent B v p = yes_with (set B v (some p))
  bind_unless present B v p = no_way
  bind_unless unknown B v p = too_deep

  -- parts, left to right, the range of a function last
  abbrev pub unify_all : (Binds → ℕ → ℕ → Unifies) → Binds → List ℕ → List ℕ → Unifies
  unify_all f B [] [] = yes_with B
  unify_all f B [] (q ∷ qs) = no_way
  unify_all f B (p ∷ ps) [] = no_way
  unify_all f B (p ∷ ps) (q ∷ qs) = and_then (f B p q) (λ C. unify_all f C ps qs)

  abbrev pub unify_heads : Bool → (Binds → ℕ → ℕ → Unifies) → Binds → List ℕ → List ℕ → Unifies
  unify_heads true f B ps qs = unify_all f B ps qs
  unify_heads false f B ps qs = no_way

  -- "two nodes of one variable, is a yes that binds nothing"
  abbrev pub unify_variables : Bool → Binds → ℕ → ℕ → Unifies
  unify_variables true B v r = yes_with B
  unify_variables false B v r = yes_with (set B v (some r))

  -- "Else a free left end is bound to the right one, else a free right end to the left."
  abbrev pub unify_shapes : ℕ → (Binds → ℕ → ℕ → Unifies) → Binds → ℕ → Shape → ℕ → Shape → Unifies
  unify_shapes k f B l (variable v) r (variable u) = unify_variables (eqb v u) B v r
  unify_shapes k f B l (variable v) r (over h qs) = bind_unless (occurs k B v r) B v r
  unify_shapes k f B l (over h ps) r (variable u) = bind_unless (occurs k B u l) B u l
  unify_shapes k f B l (over h ps) r (over g qs) = unify_heads (same_head h g) f B ps qs

  -- "The same end twice .. is a yes that binds nothing." So two sorts that differ are gone down by their one part that
  -- differs first, and never unify: `different_sorts_do_not_unify`.
  abbrev pub unify_ends : Bool → ℕ → (Binds → ℕ → ℕ → Unifies) → Binds → ℕ → ℕ → Unifies
  unify_ends true k f B l r = yes_with B
  unify_ends false k f B l r = unify_shapes k f B l (shape l) r (shape r)

  abbrev pub unify_followed : ℕ → (Binds → ℕ → ℕ → Unifies) → Binds → Option ℕ → Option ℕ → Unifies
  unify_followed k f B none r = too_deep
  unify_followed k f B (some l) none = too_deep
  unify_followed k f B (some l) (some r) = unify_ends (eqb l r) k f B l r

  -- w is the depth of following and of the occurs check, k that of unify's own calls
  unfoldable pub unify_to : ℕ → ℕ → Binds → ℕ → ℕ → Unifies
  unify_to w zero B l r = too_deep
  unify_to w (suc k) B l r = unify_followed w (unify_to w k) B (follow w B l) (follow w B r)

  unfoldable pub unify : Binds → ℕ → ℕ → Unifies
  unify B l r = unify_to deep deeper B l r
