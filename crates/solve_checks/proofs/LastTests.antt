-- Checks 11, 12 and 14 as the code makes them, one after another: each that fails is answered, and the last decides.
-- Assumes nothing.
use mathlib.Core.Path.{◌≡◌, refl, sym, ap, ap₂, ◌∙◌}
use mathlib.Core.Bool.{Bool}
use mathlib.Core.List.{List, [], ◌∷◌}
use Prim.Native.Nat.{ℕ, ◌*◌, ◌/◌}
use lib.Dec.{leb}
use lib.ListN.{length}
use Rattle.std.specs.Prelude.{Ok, Err}
use Rattle.resolved_sort.specs.declared.Refusal.{Refusal}
use Rattle.resolved_sort.specs.declared.Refusal.TheVariants.{BadJoin, NotInList, TooShort}
use Rattle.resolved_sort.specs.Storage.{full_length}
use Rattle.resolved_sort.specs.Index.{slots}
use Rattle.resolved_sort.specs.Checks.{Check, Tested, first_failing}
use Rattle.unification.specs.Nodes.{full_nodes}
use Rattle.inference.specs.Constraints.{max_components}
use Rattle.inference.specs.SolveChecks.{Call, listed, given, disjunctions, joins_fine, components}
use Rattle.inference.specs.SolveChecks.{last_checks, scratch_words, typing_words, choice_words}
use Rattle.solve_checks.specs.declared.Problem.{Problem}
use Rattle.solve_checks.specs.declared.Room.{Room}
use Rattle.solve_checks.specs.declared.Storage.{Storage}
use Rattle.solve_checks.specs.Inner.Calls.{Outs, solve_call, constraint_rows}
use Rattle.solve_checks.proofs.Quotients.{half}
use Rattle.solve_checks.proofs.Testing.{one, found, refused, gone_on, last_tests_are, parts_counted, choices_counted}

-- the tests after each
abbrev after_measure : Call → List Check
after_measure I = one TooShort (leb (choice_words * length (disjunctions (given I))) (length I.choices)) ∷ []

abbrev after_typing : Call → List Check
after_typing I = one TooShort (leb (components (given I)) (length I.measure)) ∷ after_measure I

abbrev after_index : Call → List Check
after_index I = one TooShort (leb (typing_words * I.rows.exprs) (length I.typing)) ∷ after_typing I

abbrev after_scratch : Call → List Check
after_scratch I = one TooShort (leb slots (length I.index)) ∷ after_index I

abbrev after_nodes : Call → List Check
after_nodes I = one TooShort (leb scratch_words (length I.scratch)) ∷ after_scratch I

abbrev after_sorts : Call → List Check
after_sorts I = one TooShort (leb full_nodes (length I.nodes)) ∷ after_nodes I

abbrev after_default : Call → List Check
after_default I = one TooShort (leb full_length (length I.sorts)) ∷ after_sorts I

abbrev after_parts : Call → List Check
after_parts I = one NotInList (listed I I.default) ∷ after_default I

abbrev after_joins : Call → List Check
after_joins I = one BadJoin (leb (components (given I)) max_components) ∷ after_parts I

module _ (s : Storage) (p : Problem) (room : Room) (o : Outs room) where
  abbrev I : Call
  I = solve_call s p room o

  -- what one test passed and failed says
  abbrev Passes : Refusal → Bool → Type 0
  Passes r b = Ok tt ≡ first_failing (one r b ∷ [])

  abbrev Fails : Refusal → Bool → Type 0
  Fails r b = (d : Refusal) → Err d ≡ first_failing (one r b ∷ []) → Err d ≡ first_failing (last_checks I)

  module _ {joins : Bool} (joins_are : joins ≡ joins_fine (given I)) where
    pub joins_refused : Fails BadJoin joins
    joins_refused d f = refused _ _ _ joins_are _ d f ∙ last_tests_are I

    module _ (joins_pass : Passes BadJoin joins) where
      past_joins : {u : Tested} → u ≡ first_failing (after_joins I) → u ≡ first_failing (last_checks I)
      past_joins {u} w = gone_on _ _ _ joins_are _ joins_pass u w ∙ last_tests_are I

      module _ (n : ℕ) (counted : n ≡ p.given.constraints) (parts : ℕ) (parts_are : parts ≡ components (constraint_rows p.constraints.now n)) where
        compared : leb parts max_components ≡ leb (components (given I)) max_components
        compared = ap (λ (m : ℕ). leb m max_components) (parts_counted p n counted parts parts_are)

        measured : leb parts room.measure ≡ leb (components (given I)) (length o.measure)
        measured = ap₂ leb (parts_counted p n counted parts parts_are) (sym o.measure_length)

        pub parts_refused : Fails BadJoin (leb parts max_components)
        parts_refused d f = past_joins (refused _ _ _ compared _ d f)

        module _ (parts_pass : Passes BadJoin (leb parts max_components)) where
          past_parts : {u : Tested} → u ≡ first_failing (after_parts I) → u ≡ first_failing (last_checks I)
          past_parts {u} w = past_joins (gone_on _ _ _ compared _ parts_pass u w)

          module _ {default : Bool} (default_is : default ≡ listed I I.default) where
            pub default_refused : Fails NotInList default
            default_refused d f = past_parts (refused _ _ _ default_is _ d f)

            module _ (default_pass : Passes NotInList default) where
              past_default : {u : Tested} → u ≡ first_failing (after_default I) → u ≡ first_failing (last_checks I)
              past_default {u} w = past_parts (gone_on _ _ _ default_is _ default_pass u w)

              pub sorts_refused : Fails TooShort (leb full_length (length s.sorts.now))
              sorts_refused d f = past_default (refused _ _ _ refl _ d f)

              module _ (sorts_pass : Passes TooShort (leb full_length (length s.sorts.now))) where
                past_sorts : {u : Tested} → u ≡ first_failing (after_sorts I) → u ≡ first_failing (last_checks I)
                past_sorts {u} w = past_default (gone_on _ _ _ refl _ sorts_pass u w)

                pub nodes_refused : Fails TooShort (leb full_nodes (length s.nodes.now))
                nodes_refused d f = past_sorts (refused _ _ _ refl _ d f)

                module _ (nodes_pass : Passes TooShort (leb full_nodes (length s.nodes.now))) where
                  past_nodes : {u : Tested} → u ≡ first_failing (after_nodes I) → u ≡ first_failing (last_checks I)
                  past_nodes {u} w = past_sorts (gone_on _ _ _ refl _ nodes_pass u w)

                  pub scratch_refused : Fails TooShort (leb scratch_words room.scratch)
                  scratch_refused d f = past_nodes (refused _ _ _ (ap (leb scratch_words) (sym o.scratch_length)) _ d f)

                  module _ (scratch_pass : Passes TooShort (leb scratch_words room.scratch)) where
                    past_scratch : {u : Tested} → u ≡ first_failing (after_scratch I) → u ≡ first_failing (last_checks I)
                    past_scratch {u} w = past_nodes (gone_on _ _ _ (ap (leb scratch_words) (sym o.scratch_length)) _ scratch_pass u w)

                    pub index_refused : Fails TooShort (leb slots room.index)
                    index_refused d f = past_scratch (refused _ _ _ (ap (leb slots) (sym o.index_length)) _ d f)

                    module _ (index_pass : Passes TooShort (leb slots room.index)) where
                      past_index : {u : Tested} → u ≡ first_failing (after_index I) → u ≡ first_failing (last_checks I)
                      past_index {u} w = past_scratch (gone_on _ _ _ (ap (leb slots) (sym o.index_length)) _ index_pass u w)

                      pub typing_refused : Fails TooShort (leb (typing_words * p.given.exprs) room.typing)
                      typing_refused d f = past_index (refused _ _ _ (ap (leb (typing_words * p.given.exprs)) (sym o.typing_length)) _ d f)

                      module _ (typing_pass : Passes TooShort (leb (typing_words * p.given.exprs) room.typing)) where
                        past_typing : {u : Tested} → u ≡ first_failing (after_typing I) → u ≡ first_failing (last_checks I)
                        past_typing {u} w = past_index (gone_on _ _ _ (ap (leb (typing_words * p.given.exprs)) (sym o.typing_length)) _ typing_pass u w)

                        pub measure_refused : Fails TooShort (leb parts room.measure)
                        measure_refused d f = past_typing (refused _ _ _ measured _ d f)

                        module _ (measure_pass : Passes TooShort (leb parts room.measure)) where
                          past_measure : {u : Tested} → u ≡ first_failing (after_measure I) → u ≡ first_failing (last_checks I)
                          past_measure {u} w = past_typing (gone_on _ _ _ measured _ measure_pass u w)

                          pub choices_decide : (choices : ℕ) → choices ≡ length (disjunctions (constraint_rows p.constraints.now n))
                              → {t : Tested} → t ≡ first_failing (one TooShort (leb choices (room.choices / 2)) ∷ []) → t ≡ first_failing (last_checks I)
                          choices_decide choices e {t} f =
                              past_measure
                              (found TooShort _ _ (half choices room.choices ∙ ap₂ (λ (d m : ℕ). leb (2 * d) m)
                              (choices_counted p n counted choices e) (sym o.choices_length)) t f)
