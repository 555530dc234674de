-- How reading line by line ends: the reads of each call come after those before it, and the answer of the last call says how its last read
-- has ended; by the laws of what an answer of `next_line` rests on. Assumes nothing.
use mathlib.Core.Path.{◌≡◌, refl, subst}
use mathlib.Core.Bool.{true, false}
use mathlib.Core.List.{List, []}
use mathlib.Core.Logic.{◌⊎◌, inl, inr}
use Prim.Native.Nat.{ℕ}
use lib.ListN.{length}
use Rattle.std.specs.Prelude.{Option, Some, None, Result, Ok, Err}
use Rattle.std.specs.IoError.{error_kind}
use Rattle.std.specs.declared.io.Error.{Error}
use Rattle.std.specs.declared.io.ErrorKind.TheVariants.{TimedOut}
use Rattle.line_input.specs.declared.Lines.{Lines}
use Rattle.line_input.specs.Found.{Nothing}
use Rattle.line_input.specs.Lines.{LineRead, seen}
use Rattle.line_input.specs.Reads.{Shows, Reads, no_read, a_read}
use Rattle.line_input.specs.Answers.{unread, most_reads}
use Rattle.line_input.specs.Taking.{Came, line_ends, going, take_line, goes_on}
use Rattle.line_input.proofs.Rests.{LastRead, LineRests, a_line_is_the_first_of_what_reads_gave}
use Rattle.line_input.proofs.Rests.{the_end_is_where_a_read_gave_nothing}
use Rattle.line_input.proofs.Rests.{ErrorRests, an_error_is_the_readers_or_no_read_is_left}
use Rattle.replay.specs.Ending.{ReadsMade, then_made, ThenRead, NotRead, read_failed, line_endless, most_lines_read, most_lines, ReadingEnds}

module _ {R : Type 0} (shows : Shows R) where
  made_by_reads : {s t u : R} {ps : List (List ℕ)} → ReadsMade shows s t → Reads shows t ps u → ReadsMade shows s u
  made_by_reads g (no_read t) = g
  made_by_reads {s = s} g (a_read t v u n buffer ps h p l rest) = made_by_reads (then_made s t v n buffer g h) rest

  module _ (s t u : R) (before after : Lines) (known known' : Option (List ℕ)) (g : ReadsMade shows s t) where
    then_read : {parts : List (List ℕ)} {answer : Result ℕ Error} → LastRead shows t u before after parts answer → ThenRead shows s answer u
    then_read l = record { before = l.then; made = made_by_reads g l.reads; buffer = l.buffer; last = l.last }

    made_with_one_of_nothing : ThenRead shows s (Ok 0) u → ReadsMade shows s u
    made_with_one_of_nothing h = then_made s h.before u 0 h.buffer h.made h.last

    pub reads_made_after_a_line : (r : Result (Option ℕ) Error) → LineRead shows t u known known' before after r → (n : ℕ) → r ≡ Ok (Some n)
        → ReadsMade shows s u
    reads_made_after_a_line r l n e = by (goes_on long w.parts (take_line long [] (unread before.buffer.now (seen before Nothing)))).came refl
      where
        w : LineRests shows t u before after n
        w = a_line_is_the_first_of_what_reads_gave shows t u before after l n e

        long : ℕ
        long = length before.line.bytes.now

        by : (c : Came) → (goes_on long w.parts (take_line long [] (unread before.buffer.now (seen before Nothing)))).came ≡ c → ReadsMade shows s u
        by (line_ends k bs) i = made_by_reads g (w.with_its_lf k bs i)
        by (going k) i = made_with_one_of_nothing (then_read (w.without_lf k i))

    pub ends_where_none_came : (r : Result (Option ℕ) Error) → LineRead shows t u known known' before after r → r ≡ Ok None → (count : ℕ)
        → ReadingEnds shows s count true u
    unfolding ReadingEnds
    ends_where_none_came r l e count = then_read (the_end_is_where_a_read_gave_nothing shows t u before after l e).last

    pub ends_at_an_error : (r : Result (Option ℕ) Error) → LineRead shows t u known known' before after r → (error : Error) → r ≡ Err error
        → (count : ℕ) → ReadingEnds shows s count false u
    unfolding ReadingEnds
    ends_at_an_error r l error e count =
        by (an_error_is_the_readers_or_no_read_is_left shows t u before after (subst (λ x. LineRead shows t u known known' before after x) e l))
      where
        by_reads : (ps : List (List ℕ))
            → LastRead shows t u before after ps (Err error) ⊎ (Reads shows t ps u × (length ps ≡ most_reads) × (error_kind error ≡ TimedOut))
            → NotRead shows s count u
        by_reads ps (inl h) = read_failed error (then_read h)
        by_reads ps (inr h) = line_endless (record { start = t; made = g; parts = ps; reads = h.0; most = h.1 })

        by : ErrorRests shows t u before after error → NotRead shows s count u
        by w = by_reads w.parts w.reads

  pub ends_where_no_line_is_left : (s u : R) (count : ℕ) → ReadsMade shows s u → count ≡ most_lines → ReadingEnds shows s count false u
  unfolding ReadingEnds
  ends_where_no_line_is_left s u count g e = most_lines_read g e
