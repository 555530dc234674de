-- "Whatever its words held at entry": indexes of one length make the same answer of a line, and the same words of the sort
-- list. By the checks, which look at the length alone. Assumes nothing.
use mathlib.Core.Path.{◌≡◌, ap}
use mathlib.Core.Bool.{◌&&◌}
use mathlib.Core.List.{List, [], ◌∷◌, ◌++◌}
use Prim.Native.Nat.{ℕ}
use lib.ListN.{length}
use lib.Dec.{leb}
use Rattle.std.specs.Prelude.{Err}
use Rattle.resolved_sort.specs.declared.Refusal.TheVariants.{TooShort, LongLine}
use Rattle.resolved_sort.specs.Checks.{first_failing, sort_checks, at_ceiling}
use Rattle.resolved_sort.specs.Entries.{refused_or}
use Rattle.resolved_sort.specs.Index.{slots, index_long}
use Rattle.sort_text.specs.declared.Unread.TheVariants.{Refused}
use Rattle.sort_text.specs.Parse.{line}
use Rattle.sort_text.specs.Reading.{short_line, read_checks, words_left, read_as_of, reading_words, reading}

module _ (ws : List ℕ) (n e : ℕ) (bs ix jx : List ℕ) (as_long : length ix ≡ length jx) where
  same_checks : read_checks ws ix n e bs ≡ read_checks ws jx n e bs
  unfolding read_checks index_long
  same_checks =
      ap (λ l. sort_checks ws n e
      ++ (record { refusal = TooShort; passes = at_ceiling ws && leb slots l } ∷ record { refusal = LongLine; passes = short_line bs } ∷ []))
      as_long

  same_words : reading_words ws ix n e bs ≡ reading_words ws jx n e bs
  unfolding reading_words
  same_words = ap (λ cs. refused_or (first_failing cs) (λ c. words_left ws (Err (Refused c))) (read_as_of ws n e bs (line bs))) same_checks

  pub index_words_do_not_matter :
      ((reading ws ix n e bs).words ≡ (reading ws jx n e bs).words) × ((reading ws ix n e bs).answer ≡ (reading ws jx n e bs).answer)
  unfolding reading
  index_words_do_not_matter = (ap (λ l. l.words) same_words, ap (λ l. l.answer) same_words)
