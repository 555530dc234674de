-- The first byte that is no space says which token it is. Assumes nothing.
use Rattle.std.proofs.Common.{rules, ltb-false, sym}
use Rattle.sort_lexer.proofs.Tokens as law
use Rattle.sort_lexer.proofs.token_from.Goals as goal

pub returns-in_default : goal.returns-in_default
returns-in_default c = law.no_token_left _ _ _ c.skip_spaces-from.ensures (ltb-false _ _ (sym c.in_default.ensures.lookup.0))

pub returns-in-40 : goal.returns-in-40
returns-in-40 c =
    let f = c.in-Some.ensures.lookup in
    law.says_open _ _ _ c.skip_spaces-from.ensures _ f.0 f.1 c.in-40.is

pub returns-in-41 : goal.returns-in-41
returns-in-41 c =
    let f = c.in-Some.ensures.lookup in
    law.says_close _ _ _ c.skip_spaces-from.ensures _ f.0 f.1 c.in-41.is

pub returns-in-35 : goal.returns-in-35
returns-in-35 c =
    let f = c.in-Some.ensures.lookup in
    law.says_hash _ _ _ c.skip_spaces-from.ensures _ f.0 f.1 c.in-35.is

pub returns-in-45 : goal.returns-in-45
returns-in-45 c =
    let f = c.in-Some.ensures.lookup in
    law.says_arrow _ _ _ c.skip_spaces-from.ensures _ f.0 f.1 c.in-45.is _ c.rest.ensures _ c.starts_with.ensures.value c.if-starts_with.true

pub returns-then-is_ascii_alphabetic : goal.returns-then-is_ascii_alphabetic
returns-then-is_ascii_alphabetic c =
    let f = c.in-Some.ensures.lookup in
    law.says_word _ _ _ c.skip_spaces-from.ensures _ f.0 f.1 _ c.is_ascii_alphabetic.ensures.value c.if-is_ascii_alphabetic.true _ c.word_end.ensures

pub returns-in_default-2 : goal.returns-in_default-2
returns-in_default-2 c =
    let f = c.in-Some.ensures.lookup in
    law.says_dash _ _ _ c.skip_spaces-from.ensures _ f.0 f.1 c.in-45.is _ c.rest.ensures _ c.starts_with.ensures.value c.if-starts_with.false

pub returns-in_default-2-2 : goal.returns-in_default-2-2
returns-in_default-2-2 c =
    let f = c.in-Some.ensures.lookup in
    law.says_nothing _ _ _ c.skip_spaces-from.ensures _ f.0 f.1 _ c.is_ascii_alphabetic.ensures.value c.if-is_ascii_alphabetic.false (search rules) (search rules) (search rules) (search rules)
