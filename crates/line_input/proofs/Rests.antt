-- What an answer of `next_line` rests on, by the answer alone: which reads were made, and what the bytes not taken before and those that
-- were given come to. By how the search for a line has ended. Assumes nothing.
use mathlib.Core.Path.{◌≡◌, refl, sym, subst}
use mathlib.Core.List.{List, [], ◌∷◌}
use mathlib.Core.Logic.{◌⊎◌, inl, inr}
use Prim.Native.Nat.{ℕ, ◌<◌, ◌≤◌}
use lib.ListN.{length, take, drop}
use Rattle.std.specs.Prelude.{Option, Some, None, Result, Ok, Err}
use Rattle.std.specs.IoError.{error_kind}
use Rattle.std.specs.declared.io.Error.{Error}
use Rattle.std.specs.declared.io.ErrorKind.TheVariants.{TimedOut}
use Rattle.line_input.specs.Found.{LineFound}
use Rattle.line_input.specs.Found.{Nothing, Line, End, Failed}
use Rattle.line_input.specs.declared.Lines.{Lines}
use Rattle.line_input.specs.Taking.{line_ends, going, take_line, Reached, reached, goes_on, some_line, no_line, following_of}
use Rattle.line_input.specs.Answers.{unread, SaysLine, most_reads}
use Rattle.line_input.specs.Reads.{Shows, Reads, no_read, a_read, ReadsThen, ReadsFor}
use Rattle.line_input.specs.Lines.{LineRead, SameMemory, AnswersFound, seen}
use Rattle.line_input.proofs.Streams.{found_line, found_end}

-- reads one after another, taken apart: none, or one that gave the first part, and then the others
module _ {R : Type 0} (shows : Shows R) where
  pub no_reads_leave_the_reader : {s u : R} → Reads shows s [] u → s ≡ u
  no_reads_leave_the_reader (no_read s) = refl

  pub record FirstRead (s : R) (p : List ℕ) (ps : List (List ℕ)) (u : R) : Type 0 where
    pub after : R
    pub count : ℕ
    pub buffer : List ℕ
    pub shown : shows s (Ok count) buffer after
    pub some : 0 < count
    pub few : count ≤ length buffer
    pub part : p ≡ take count buffer
    pub others : Reads shows after ps u

  pub a_part_is_what_a_read_gave : {s u : R} {p : List ℕ} {ps : List (List ℕ)} → Reads shows s (p ∷ ps) u → FirstRead s p ps u
  a_part_is_what_a_read_gave (a_read s t u n buffer ps h i k rest) =
      record { after = t; count = n; buffer = buffer; shown = h; some = i; few = k; part = refl; others = rest }

-- what the bytes that were not taken before, and then parts, come to
abbrev came : Lines → List (List ℕ) → Reached
came before ps =
    goes_on (length before.line.bytes.now) ps (take_line (length before.line.bytes.now) [] (unread before.buffer.now (seen before Nothing)))

-- the bytes that are held, and those that are left
abbrev held : Lines → ℕ → List ℕ
held after n = take n after.line.bytes.now

abbrev left : Lines → List ℕ
left after = unread after.buffer.now (seen after Nothing)

module _ {R : Type 0} (shows : Shows R) (reader reader' : R) (before after : Lines) where
  -- what `next_line` says
  abbrev Said : Option (List ℕ) → Option (List ℕ) → Result (Option ℕ) Error → Type 0
  Said known known' r = LineRead shows reader reader' known known' before after r

  -- after the reads that gave the parts one with this answer
  pub record LastRead (parts : List (List ℕ)) (answer : Result ℕ Error) : Type 0 where
    pub then : R
    pub reads : Reads shows reader parts then
    pub buffer : List ℕ
    pub last : shows then answer buffer reader'

  last_read : {parts : List (List ℕ)} {answer : Result ℕ Error} → ReadsThen shows reader parts answer reader' → LastRead parts answer
  last_read t = record { then = t.before; reads = t.reads; buffer = t.buffer; last = t.last }

  -- a line: it is the first of what came; where it has no LF, a last read gave nothing
  pub record LineRests (n : ℕ) : Type 0 where
    pub parts : List (List ℕ)
    pub is : following_of (came before parts) ≡ some_line (held after n) (left after) []
    pub with_its_lf : (l bs : List ℕ) → (came before parts).came ≡ line_ends l bs → Reads shows reader parts reader'
    pub without_lf : (l : List ℕ) → (came before parts).came ≡ going l → LastRead parts (Ok 0)

  pub a_line_is_the_first_of_what_reads_gave : {known known' : Option (List ℕ)} {r : Result (Option ℕ) Error} → Said known known' r
      → (n : ℕ) → r ≡ Ok (Some n) → LineRests n
  unfolding SaysLine ReadsFor
  a_line_is_the_first_of_what_reads_gave {known = known} {known' = known'} {r = r} l n e =
      let f = found_line l.found after.line.at n r l.answer e in
      record {
        parts = l.next.next.parts;
        is = subst (λ (k : ℕ). following_of (came before l.next.next.parts) ≡ some_line (held after k) (left after) []) (sym f.1)
            (subst (λ x. SaysLine x (came before l.next.next.parts) (held after after.line.at) (left after)) f.0 l.next.next.says);
        with_its_lf = λ k bs i. subst (λ c. ReadsFor shows Line c reader l.next.next.parts reader' r) i (reads_of_it l f.0);
        without_lf = λ k i. last_read (subst (λ c. ReadsFor shows Line c reader l.next.next.parts reader' r) i (reads_of_it l f.0));
      }
    where
      reads_of_it : (l : Said known known' r) → l.found ≡ Line
          → ReadsFor shows Line (came before l.next.next.parts).came reader l.next.next.parts reader' r
      reads_of_it l f = subst (λ x. ReadsFor shows x (came before l.next.next.parts).came reader l.next.next.parts reader' r) f l.reads

  -- the end: nothing came, and a last read gave nothing
  pub record EndRests : Type 0 where
    pub parts : List (List ℕ)
    pub is : following_of (came before parts) ≡ no_line
    pub none_held : held after after.line.at ≡ []
    pub none_left : left after ≡ []
    pub last : LastRead parts (Ok 0)

  pub the_end_is_where_a_read_gave_nothing : {known known' : Option (List ℕ)} {r : Result (Option ℕ) Error} → Said known known' r
      → r ≡ Ok None → EndRests
  unfolding SaysLine ReadsFor
  the_end_is_where_a_read_gave_nothing {r = r} l e =
      let f = found_end l.found after.line.at r l.answer e in
      record {
        parts = l.next.next.parts;
        is = (subst (λ x. SaysLine x (came before l.next.next.parts) (held after after.line.at) (left after)) f l.next.next.says).0;
        none_held = (subst (λ x. SaysLine x (came before l.next.next.parts) (held after after.line.at) (left after)) f l.next.next.says).1;
        none_left = (subst (λ x. SaysLine x (came before l.next.next.parts) (held after after.line.at) (left after)) f l.next.next.says).2;
        last = last_read (subst (λ x. ReadsFor shows x (came before l.next.next.parts).came reader l.next.next.parts reader' r) f l.reads);
      }

  -- an error: no line came, what came is held, and a last read failed with this error, or no read is left
  pub record ErrorRests (e : Error) : Type 0 where
    pub parts : List (List ℕ)
    pub is : came before parts ≡ reached (going (held after after.line.at)) []
    pub none_left : left after ≡ []
    pub reads : LastRead parts (Err e)
        ⊎ (Reads shows reader parts reader' × (length parts ≡ most_reads) × (error_kind e ≡ TimedOut))

  error_by : (f : LineFound) (e : Error) (ps : List (List ℕ)) → AnswersFound f after.line.at (Err e)
      → SaysLine f (came before ps) (held after after.line.at) (left after)
      → ReadsFor shows f (came before ps).came reader ps reader' (Err e) → (f ≡ Nothing → length ps ≡ most_reads) → ErrorRests e
  unfolding AnswersFound SaysLine ReadsFor
  error_by Line e ps a s h t = absurd (let z : ◌≡◌ {A = Result (Option ℕ) Error} (Err e) (Ok (Some after.line.at)) = a in cc z)
  error_by End e ps a s h t = absurd (let z : ◌≡◌ {A = Result (Option ℕ) Error} (Err e) (Ok None) = a in cc z)
  error_by Failed e ps a s h t =
      let i : h.error ≡ e = let z : ◌≡◌ {A = Result (Option ℕ) Error} (Err e) (Err h.error) = h.handed in sym (cc z) in
      record {
        parts = ps;
        is = s.0;
        none_left = s.1;
        reads = inl (subst (λ x. LastRead ps (Err x)) i (last_read h.reads));
      }
  error_by Nothing e ps a s h t = record { parts = ps; is = s.0; none_left = s.1; reads = inr (h, t refl, a) }

  pub an_error_is_the_readers_or_no_read_is_left : {known known' : Option (List ℕ)} {e : Error} → Said known known' (Err e) → ErrorRests e
  an_error_is_the_readers_or_no_read_is_left {e = e} l =
      error_by l.found e l.next.next.parts l.answer l.next.next.says l.reads l.next.next.turns

  -- the memory behind what is held stays
  pub what_is_behind_the_line_stays : {known known' : Option (List ℕ)} {r : Result (Option ℕ) Error} → Said known known' r
      → drop after.line.at after.line.bytes.now ≡ drop after.line.at before.line.bytes.now
  what_is_behind_the_line_stays l = l.next.next.behind

-- the buffer and the line's memory are those that were lent
pub the_memory_lent_stays : {before after : Lines} → SameMemory before after
    → (after.buffer.ghost_name ≡ before.buffer.ghost_name) × (after.line.bytes.ghost_name ≡ before.line.bytes.ghost_name)
the_memory_lent_stays m = (m.buffer, m.line)
