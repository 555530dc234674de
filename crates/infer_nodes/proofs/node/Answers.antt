-- Each kind of a row says its node. Assumes nothing.
use Rattle.infer_nodes.proofs.Ways as law
use Rattle.infer_nodes.proofs.node.Goals as goal

pub returns-then-kind-eq-FUNCTION_KIND : goal.returns-then-kind-eq-FUNCTION_KIND
returns-then-kind-eq-FUNCTION_KIND c = law.says_function c.args.nodes.now c.args.id.0 _ _ c.word-kind.ensures c.word.ensures _ _ c.word-start.ensures c.word-count.ensures c.if-kind-eq-FUNCTION_KIND.true

pub returns-then-kind-lt-FUNCTION_KIND : goal.returns-then-kind-lt-FUNCTION_KIND
returns-then-kind-lt-FUNCTION_KIND c = law.says_generic c.args.nodes.now c.args.id.0 _ _ c.word-kind.ensures c.word.ensures _ c.op_of_kind.ensures c.if-kind-eq-FUNCTION_KIND.false c.if-kind-lt-FUNCTION_KIND.true

pub returns : goal.returns
returns c = law.says_variable c.args.nodes.now c.args.id.0 _ _ c.word-kind.ensures c.word.ensures c.if-kind-eq-FUNCTION_KIND.false c.if-kind-lt-FUNCTION_KIND.false
