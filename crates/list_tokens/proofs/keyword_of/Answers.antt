-- The first word that is the same. Assumes nothing.
use Rattle.std.proofs.Common.{rules, tests, ◌∙◌}
use Rattle.std.proofs.lemmas.Iterator.{YieldsList-from_slice}
use Rattle.std.proofs.lemmas.Iterator.Search.{find_from_yields_List}
use Rattle.sort_text.specs.Parse.{same_bytes}
use Rattle.sort_lexer.proofs.Words.{equal_bytes}
use Rattle.list_tokens.specs.Words.{spelling, keywords, keyword_of}
use Rattle.list_tokens.proofs.keyword_of.Goals as goal

pub returns : goal.returns
unfolding keyword_of
returns c =
    c.copied.ensures
    ∙ find_from_yields_List (λ k. same_bytes c.args.w.now (spelling k)) _ _ c.find.result c.find.ensures.ran
    (YieldsList-from_slice keywords cc)
    (λ x b q k. search (rules, tests, equal_bytes))
