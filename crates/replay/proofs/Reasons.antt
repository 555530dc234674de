-- Why reading has ended, taken apart: reads that were made, one after another from the reader that was handed in to the one that is left,
-- and how the last one ended, or how many there were. By the cases of the definitions. Assumes nothing.
use mathlib.Core.Path.{◌≡◌, refl}
use mathlib.Core.Bool.{true, false}
use mathlib.Core.List.{List}
use mathlib.Core.Logic.{◌⊎◌, inl, inr}
use Prim.Native.Nat.{ℕ}
use lib.ListN.{length}
use Rattle.std.specs.Prelude.{Result, Ok, Err}
use Rattle.std.specs.declared.io.Error.{Error}
use Rattle.line_input.specs.Reads.{Shows, Reads}
use Rattle.replay.specs.Ending.{ReadsMade, none_made, then_made, ThenRead, NotRead, read_failed, line_endless, most_lines_read, ReadingEnds}

module _ {R : Type 0} (shows : Shows R) where
  -- a read with this answer, after those that were made before it
  pub record AfterReads (s : R) (answer : Result ℕ Error) (u : R) : Type 0 where
    pub then : R
    pub buffer : List ℕ
    pub before : ReadsMade shows s then
    pub shown : shows then answer buffer u

  pub record LastMade (s u : R) : Type 0 where
    pub count : ℕ
    pub read : AfterReads s (Ok count) u

  pub reads_made_are_none_or_a_last_one_and_those_before : {s u : R} → ReadsMade shows s u → (s ≡ u) ⊎ LastMade s u
  reads_made_are_none_or_a_last_one_and_those_before (none_made s) = inl refl
  reads_made_are_none_or_a_last_one_and_those_before (then_made s t u n buffer g h) =
      inr (record { count = n; read = record { then = t; buffer = buffer; before = g; shown = h } })

  after_reads : {s u : R} {answer : Result ℕ Error} → ThenRead shows s answer u → AfterReads s answer u
  after_reads g = record { then = g.before; buffer = g.buffer; before = g.made; shown = g.last }

  pub all_is_read_where_a_last_read_gave_nothing : (s u : R) (lines : ℕ) → ReadingEnds shows s lines true u → AfterReads s (Ok 0) u
  unfolding ReadingEnds
  all_is_read_where_a_last_read_gave_nothing s u lines h = after_reads h

  pub record LastFailed (s u : R) : Type 0 where
    pub error : Error
    pub read : AfterReads s (Err error) u

  pub record NoEndOfLine (s u : R) : Type 0 where
    pub then : R
    pub parts : List (List ℕ)
    pub before : ReadsMade shows s then
    pub reads : Reads shows then parts u
    pub most : length parts ≡ 18446744073709551615

  by_cases : {s u : R} {lines : ℕ} → NotRead shows s lines u
      → LastFailed s u ⊎ (NoEndOfLine s u ⊎ (ReadsMade shows s u × (lines ≡ 18446744073709551615)))
  by_cases (read_failed e g) = inl (record { error = e; read = after_reads g })
  by_cases (line_endless g) = inr (inl (record { then = g.start; parts = g.parts; before = g.made; reads = g.reads; most = g.most }))
  by_cases (most_lines_read g e) = inr (inr (g, e))

  pub the_rest_is_not_read_where_a_read_failed_or_a_line_or_the_lines_go_on : (s u : R) (lines : ℕ) → ReadingEnds shows s lines false u
      → LastFailed s u ⊎ (NoEndOfLine s u ⊎ (ReadsMade shows s u × (lines ≡ 18446744073709551615)))
  unfolding ReadingEnds
  the_rest_is_not_read_where_a_read_failed_or_a_line_or_the_lines_go_on s u lines h = by_cases h
