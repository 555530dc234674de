-- The size of the term falls. The loop's invariant: to resolve the arguments that are left is to resolve them all. Assumes nothing.
use Rattle.std.proofs.Common.{◌≡◌, ◌+◌, ◌*◌, [], ◌∷◌, ◌++◌}
use Rattle.resolved_sort.specs.Index.{Indexed}
use Rattle.unification.specs.Term.{function_head, app}
use Rattle.unification.specs.Nodes.{node_entries_of}
use Rattle.unification.specs.Solutions.{terms_at}
use Rattle.unification.proofs.Exact.{size}
use Rattle.resolver.specs.Resolver.{lengths_in, value_at}
use Rattle.resolver.proofs.Going.{Going}
use Rattle.resolver.proofs.Resolver.+resolve_resolve_function.Given as goal

abbrev pub decreases-resolve_function : goal.decreases-resolve_function
decreases-resolve_function l =
    size (app (function_head l.domain.count) (terms_at (value_at l.self.now l.interner.now)
    (node_entries_of l.self.now.nodes.now l.domain.start l.domain.count ++ (l.range.0 ∷ [])))) * 2

abbrev pub decreases-resolve : goal.decreases-resolve
decreases-resolve l = size (value_at l.self.now l.interner.now l.id.0) * 2 + 1

abbrev pub invariant-resolve_function-loop-i : goal.invariant-resolve_function-loop-i
invariant-resolve_function-loop-i l =
    (l.interner.words.ghost_name ≡ l.initial.interner.words.ghost_name)
    × (l.interner.index.ghost_name ≡ l.initial.interner.index.ghost_name)
    × Indexed l.interner.words.now l.interner.counts.sorts l.interner.index.now
    × Going l.self.nodes.now l.self.binds.now l.self.default l.domain.start l.domain.count l.range.0 l.initial.interner.words.now (lengths_in l.self l.initial.interner)
    l.interner.words.now l.ids (lengths_in l.self l.interner) l.i
