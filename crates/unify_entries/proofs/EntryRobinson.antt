-- Robinson's theorem about the entry, whatever it is given: a refusal names the first failing check and leaves the words; a no means that there is
-- no solution, and leaves the words; a yes leaves words whose bindings are the most general solution, with the words past the variables as they
-- were, and these words pass every check again. Checks that pass make the lists and bindings those of `unify_is_robinson`, so depth never
-- ends; the bindings of a yes name places, all below 65,535, so the words left hold exactly them. Assumes nothing.
use mathlib.Core.Path.{◌≡◌, refl, ap, sym, ◌∙◌, subst}
use mathlib.Core.List.{List, ◌++◌}
use mathlib.Core.Option.{some}
use mathlib.Core.Bool.{Bool, true}
use Prim.Native.Nat.{ℕ, ◌<◌}
use native.Mathlib.Omega.{arith}
use lib.ListN.{length, drop, length-append, length-drop}
use lib.Seq.{drop_at}
use Rattle.resolved_sort.specs.Checks.{Tested, first_failing}
use Rattle.resolved_sort.specs.Entries.{refused_or}
use Rattle.std.specs.Prelude.{Result, Ok, Err}
use Rattle.resolved_sort.specs.declared.Refusal.{Refusal}
use Rattle.unification.specs.Term.{Shape}
use Rattle.unification.specs.Nodes.{shape_at, free_word, Binds, binding, binds_of}
use Rattle.unification.specs.Unify.{Unifies, yes_with, no_way, too_deep, unify, deep, deeper}
use Rattle.unification.specs.Acyclic.{acyclic}
use Rattle.unification.specs.NodeChecks.{bindings_within_lent, bindings_fine, node_checks, unify_checks}
use Rattle.unification.specs.Checked.{fine_of, lists_of, Ready}
use Rattle.unification.specs.Solutions.{Robinson, says_no, says_yes}
use Rattle.unification.specs.Making.{Lent}
use Rattle.unification.specs.UnifyEntry.{binding_words, BindsLeft, binds_left, binds_left_by, unify_entry}
use Rattle.unification.proofs.Places.{place_below}
use Rattle.unification.specs.Growing.{Names, PlacedIn}
use Rattle.unification.proofs.Agree.{unify_names}
use Rattle.unification.proofs.Grows.{ready_names, parts_placed}
use Rattle.unification.proofs.BindingWords.{length_words, binds_of_words, named_places_fine}
use Rattle.unification.proofs.BoundStays.{as_many_variables}
use Rattle.unification.proofs.Theorem.{unify_is_robinson, check_7_exactly}
use Rattle.unification.proofs.Passed.{length_binds}
use Rattle.unify_entries.proofs.Laws.{chain, ready, lhs_placed, rhs_placed}
use Rattle.unify_entries.specs.Left.{failing, LeftYes, LeftSays}

module _ (ws : List ℕ) (n e : ℕ) (ns : List ℕ) (m d : ℕ) (bs : List ℕ) (v l r : ℕ) where
  module _ (f : failing ws n e ns m d bs v l r ≡ Ok tt) where
    abbrev shape : ℕ → Shape
    shape = shape_at (lists_of ws n ns m)

    abbrev B : Binds
    B = binds_of bs v

    abbrev lent : Lent
    lent = record { sorts = ws; nodes = ns; lengths = record { sorts = n; entries = e; nodes = m; arguments = d; variables = v } }

    checked : Ready ws ns bs lent.lengths
    checked = ready ws n e ns m d bs v l r (sym f)

    is_robinson : Robinson shape B l r (unify shape B l r)
    is_robinson = unify_is_robinson ws n e ns m d v checked.nodes B checked.binds l r

    names : (C : Binds) → unify shape B l r ≡ yes_with C → Names (PlacedIn lent) C
    unfolding unify
    names C y =
        unify_names (PlacedIn lent) shape shape (record {
          parts = parts_placed lent checked.nodes;
          same = λ p x.
              refl;
        }) B (ready_names lent bs checked) deep deeper l r C
        (lhs_placed ws n e ns m d bs v l r (sym f)) (rhs_placed ws n e ns m d bs v l r (sym f)) y

    module _ (C : Binds) (y : unify shape B l r ≡ yes_with C) where
      abbrev words : List ℕ
      words = binding_words C ++ drop v bs

      many : length C ≡ v
      many = as_many_variables shape B l r C y ∙ length_binds bs v

      below : (u q : ℕ) → binding C u ≡ some q → q < free_word
      below u q x = omega (arith, place_below n m q checked.nodes.sorts.sorts (names C y u q x), checked.nodes.nodes)

      held : binds_of words v ≡ C
      held = subst (λ (k : ℕ). binds_of words k ≡ C) many (binds_of_words C (drop v bs) below)

      as_long : length words ≡ length bs
      as_long = omega (arith, length-append (binding_words C) (drop v bs), length_words C, many, length-drop v bs, checked.long)

      rest : drop v words ≡ drop v bs
      rest = drop_at (binding_words C) (drop v bs) v (length_words C ∙ many)

      fine : bindings_fine n m C ≡ true
      fine = named_places_fine n m C (names C y)

      solved_by : Robinson shape B l r (yes_with C)
      solved_by = subst (Robinson shape B l r) y is_robinson

      settled : acyclic ns m C ≡ true
      settled = go C solved_by many fine
        where
          go : (C : Binds) → Robinson shape B l r (yes_with C) → length C ≡ v → bindings_fine n m C ≡ true → acyclic ns m C ≡ true
          go C (says_yes _ sound complete a solution) k p = (check_7_exactly ws n e ns m d v (fine_of ws n e ns m d v checked.nodes) C k p).0.1 a

      same_checks : unify_checks ws n e ns m d words v l r ≡ unify_checks ws n e ns m d bs v l r
      unfolding unify_checks node_checks bindings_within_lent
      same_checks = rw (held, as_long, fine, settled, (chain ws n e ns m d bs v l r (sym f)).6, (chain ws n e ns m d bs v l r (sym f)).7)

      left_yes : LeftYes ws n e ns m d bs v l r words
      left_yes = record { passed = f; solved = rw held solved_by; long = as_long; past = rest; again = ap first_failing same_checks ∙ f }

    by_answer : (a : Unifies) → unify shape B l r ≡ a → Robinson shape B l r a → (vs : List ℕ) (u : Result Bool Refusal)
        → binds_left vs u ≡ binds_left_by bs v a → LeftSays ws n e ns m d bs v l r vs u
    unfolding binds_left_by
    by_answer too_deep y x vs u w = elim x [ ]
    by_answer (yes_with C) y x vs u w = subst (λ (z : BindsLeft). LeftSays ws n e ns m d bs v l r z.words z.answer) (sym w) (left_yes C y)
    by_answer no_way y (says_no h) vs u w = subst (λ (z : BindsLeft). LeftSays ws n e ns m d bs v l r z.words
        z.answer) (sym w) (record { passed = f; given = refl; no_solution = h })

  -- Whatever lists, bindings and places the entry is given: what its answer and the words that it leaves say.
  pub entry_is_robinson : (vs : List ℕ) (u : Result Bool Refusal) → binds_left vs u ≡ unify_entry ws n e ns m d bs v l r → LeftSays ws n e ns m d bs v l r vs u
  unfolding unify_entry
  entry_is_robinson vs u w = go (failing ws n e ns m d bs v l r) refl w
    where
      go : (o : Tested) → failing ws n e ns m d bs v l r ≡ o
          → binds_left vs u ≡ refused_or o (λ c. binds_left bs (Err c))
          (binds_left_by bs v (unify (shape_at (lists_of ws n ns m)) (binds_of bs v) l r))
          → LeftSays ws n e ns m d bs v l r vs u
      go (Ok t) f w = by_answer f (unify (shape_at (lists_of ws n ns m)) (binds_of bs v) l r) refl (is_robinson f) vs u w
      go (Err c) f w = subst (λ (z : BindsLeft). LeftSays ws n e ns m d bs v l r z.words z.answer) (sym w) (record { first = f; given = refl })
