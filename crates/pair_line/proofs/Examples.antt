-- What the pair program prints for whole inputs, computed: the lines of document 01 and inputs at its edges. Assumes nothing.
use mathlib.Core.Path.{◌≡◌, refl}
use lib.ListN.{replicate}
use mathlib.Core.List.{[], ◌∷◌, ◌++◌, map}
use Rattle.resolved_sort.specs.Tree.{Tree}
use Rattle.resolved_sort.specs.Tree
use Rattle.resolved_sort.specs.Order
use Rattle.sort_text.specs.Tokens
use Rattle.sort_text.specs.Text
use Rattle.sort_text.specs.Reading
use Rattle.held_line.specs.Lines
use Rattle.pair_line.specs.PairProgram
use Rattle.pair_line.specs.PairProgram.{output}
use Rattle.sort_text.specs.Parse
use Rattle.sort_text.specs.Parse.{line}

-- document 01's four lines, and inputs that end early, are empty or too long
inputs_are_answered : map output (
    (70 ∷ 83 ∷ 101 ∷ 116 ∷ 40 ∷ 80 ∷ 111 ∷ 115 ∷ 41 ∷ 10 ∷ 83 ∷ 101 ∷ 116 ∷ 40 ∷ 78 ∷ 97 ∷ 116 ∷ 41 ∷ 10 ∷ 78 ∷ 97 ∷
    116 ∷ 32 ∷ 45 ∷ 62 ∷ 32 ∷ 80 ∷ 111 ∷ 115 ∷ 10 ∷ 80 ∷ 111 ∷ 115 ∷ 32 ∷ 45 ∷ 62 ∷ 32 ∷ 78 ∷ 97 ∷ 116 ∷ 10 ∷ [])
    ∷ (78 ∷ 97 ∷ 116 ∷ 32 ∷ 40 ∷ 32 ∷ 80 ∷ 111 ∷ 115 ∷ 10 ∷ 78 ∷ 97 ∷ 116 ∷ [])
    ∷ (70 ∷ 111 ∷ 111 ∷ [])
    ∷ (78 ∷ 97 ∷ 116 ∷ 10 ∷ [])
    ∷ (10 ∷ [])
    ∷ (78 ∷ 97 ∷ 116 ∷ 10 ∷ 10 ∷ [])
    ∷ ([])
    ∷ (replicate 201 78 ++ (10 ∷ 78 ∷ 97 ∷ 116 ∷ 10 ∷ []))
    ∷ (66 ∷ 111 ∷ 111 ∷ 108 ∷ 10 ∷ 78 ∷ 97 ∷ 116 ∷ 10 ∷ [])
    ∷ [])
    ≡ (60 ∷ 44 ∷ 32 ∷ 83 ∷ 101 ∷ 116 ∷ 40 ∷ 78 ∷ 97 ∷ 116 ∷ 41 ∷ 44 ∷ 32 ∷ 70 ∷ 83 ∷ 101 ∷ 116 ∷ 40 ∷ 80 ∷ 111 ∷ 115 ∷
    41 ∷ 44 ∷ 32 ∷ 49 ∷ 32 ∷ 49 ∷ 44 ∷ 32 ∷ 110 ∷ 111 ∷ 10 ∷ 60 ∷ 44 ∷ 32 ∷ 80 ∷ 111 ∷ 115 ∷ 32 ∷ 45 ∷ 62 ∷ 32 ∷
    78 ∷ 97 ∷ 116 ∷ 44 ∷ 32 ∷ 78 ∷ 97 ∷ 116 ∷ 32 ∷ 45 ∷ 62 ∷ 32 ∷ 80 ∷ 111 ∷ 115 ∷ 44 ∷ 32 ∷ 48 ∷ 32 ∷ 50 ∷ 44 ∷
    32 ∷ 110 ∷ 111 ∷ 10 ∷ [])
    ∷ (50 ∷ 48 ∷ 58 ∷ 40 ∷ 32 ∷ 80 ∷ 111 ∷ 115 ∷ 10 ∷ [])
    ∷ (50 ∷ 48 ∷ 58 ∷ 70 ∷ 111 ∷ 111 ∷ 10 ∷ [])
    ∷ (50 ∷ 49 ∷ 10 ∷ [])
    ∷ (50 ∷ 48 ∷ 58 ∷ 10 ∷ [])
    ∷ (50 ∷ 48 ∷ 58 ∷ 10 ∷ [])
    ∷ ([])
    ∷ (49 ∷ 57 ∷ 10 ∷ [])
    ∷ (124 ∷ 44 ∷ 32 ∷ 110 ∷ 111 ∷ 110 ∷ 101 ∷ 44 ∷ 32 ∷ 110 ∷ 111 ∷ 110 ∷ 101 ∷ 44 ∷ 32 ∷ 110 ∷ 111 ∷ 110 ∷ 101 ∷ 44 ∷ 32 ∷ 110 ∷ 111 ∷ 10 ∷ [])
    ∷ []
unfolding output PairProgram.pairs PairProgram.pair PairProgram.line_of PairProgram.answer PairProgram.small_decimal
    Lines.lines Reading.short_line Text.text Text.texts Text.more Order.ordering Order.le Order.les Order.bound
    Order.bounds Order.bound_flat Order.bound_op Order.distance Order.distances Order.materializable Tree.same
    Tree.sames Tree.family Tree.level Tree.family_op Tree.level_op line Parse.ending Parse.sort Parse.sort_to Parse.rest
    Parse.rest_at Parse.alone Parse.snoc Parse.operand Parse.operand_at Parse.operand_of Parse.bracketed Parse.in_brackets Parse.closing
    Parse.meaning Parse.same_bytes Parse.sort_word Parse.op_word Tokens.next Tokens.start Tokens.skip Tokens.run
    Tokens.past
inputs_are_answered = refl
