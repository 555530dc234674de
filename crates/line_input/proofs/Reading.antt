-- What the methods of `Lines` leave, from what their callees leave. Assumes nothing.
use mathlib.Core.Path.{◌≡◌, refl, sym, ◌∙◌, ap, subst, transport}
use mathlib.Core.Bool.{Bool, true, false, cond}
use mathlib.Core.List.{List, [], ◌∷◌}
use Prim.Native.Nat.{ℕ, min, zero, suc, ◌+◌, ◌-◌, ◌<◌, ◌≤◌}
use native.Mathlib.Omega.{arith}
use native.Mathlib.Nat.{zero-add}
use lib.ListN.{length, take, set, get_or, length-take}
use lib.Seq.{set_out}
use lib.Dec.{ltb}
use borrow.Author.Tests.{ltb-false, lt-ltb}
use Rattle.text_out.specs.declared.Out.{Out}
use Rattle.text_out.specs.Within.{puts}
use Rattle.text_out.specs.Outs.{then_put}
use Rattle.text_out.proofs.Outs.{then_put_length}
use Rattle.std.specs.Prelude.{Option, Some, None, Result, Ok, Err, IsErr}
use Rattle.std.specs.Bool.{then_some}
use Rattle.std.specs.Io.KnownBytes.{ReadConsumes, Consumes, IsAtEnd}
use Rattle.std.specs.Io.{ReadsAtMost}
use Rattle.std.specs.Result.{result_unwrap_or}
use Rattle.std.specs.IoError.{error_kind}
use Rattle.std.specs.declared.io.Error.{Error}
use Rattle.std.specs.declared.io.ErrorKind.TheVariants.{TimedOut}
use Rattle.held_line.specs.Holding.{line_kept, held_at}
use Rattle.line_input.specs.Found.{Input}
use Rattle.line_input.specs.declared.Lines.{Lines}
use Rattle.line_input.specs.Found.{LineFound}
use Rattle.line_input.specs.Found.{Nothing, Line, End, Failed}
use Rattle.line_input.specs.Taking.{Came, take_line, goes_on}
use Rattle.line_input.specs.Answers.{unread, most_reads, EndsInput}
use Rattle.line_input.specs.Reads.{Shows, ReadsFor}
use Rattle.line_input.specs.Inner.Answers.{Takes, end_of, failed, at_its_end, bytes, AfterRead}
use Rattle.line_input.specs.Lines.{SameMemory, LineRead, AnswersFound, seen}
use Rattle.line_input.specs.Inner.Lines.{FilledBy, found_where}
use Rattle.line_input.proofs.Ways.{Taking, byte_taken, line_ends_lem, stays_going, ReadOn, GivenOn, ReadSome, Next}
use Rattle.line_input.proofs.Ways.{starts, read_once, says_before, no_end_before, line_is_next}
use Rattle.line_input.proofs.Ways.{failed_is_something, end_is_something, line_is_something}
use Rattle.line_input.proofs.Given.{SoFar, none_so_far, Answered, line_without_a_read, answered_where_it_fails}
use Rattle.line_input.proofs.Given.{answered_with_the_end, answered_with_the_last_line, one_more_so_far, answered_with_a_line}

-- a byte put behind a line is held of it
byte_held_by : (out : List ℕ) (at b : ℕ) (t : Bool) → ltb at (length out) ≡ t
    → line_kept (set out at b) (cond t (at + 1) at) ≡ cond t (line_kept (set out (0 + at) b) (at + 1)) (line_kept out at)
byte_held_by out at b true e = ap (λ (k : ℕ). line_kept (set out k b) (at + 1)) (sym (zero-add at))
byte_held_by out at b false e = ap (λ us. line_kept us at) (set_out out at b (ltb-false at (length out) e))

pub byte_held_of : (o n : Out) (b : ℕ) → n ≡ then_put o (b ∷ []) → line_kept n.bytes.now n.at ≡ held_at (length o.bytes.now) o.bytes.now 0 o.at b
unfolding then_put puts held_at
byte_held_of o n b e = ap (λ (m : Out). line_kept m.bytes.now m.at) e ∙ byte_held_by o.bytes.now o.at b (ltb o.at (length o.bytes.now)) refl

same_memory : (o n : Out) (bs : List ℕ) → n ≡ then_put o bs → n.bytes.ghost_name ≡ o.bytes.ghost_name
unfolding then_put
same_memory o n bs e = ap (λ (m : Out). m.bytes.ghost_name) e

same_length : (o n : Out) (bs : List ℕ) → n ≡ then_put o bs → length n.bytes.now ≡ length o.bytes.now
same_length o n bs e = ap (λ (m : Out). length m.bytes.now) e ∙ then_put_length o bs

-- the loop that takes bytes
pub record TakingOn (before now : Lines) (at : ℕ) : Type 0 where
  pub taking : Taking before.buffer.now before.line.bytes.now before.at before.end before.line.at now.line.bytes.now now.at now.line.at
  pub memory : SameMemory before now
  pub buffer : now.buffer.now ≡ before.buffer.now
  pub end : now.end ≡ before.end
  pub place : now.at ≡ at

module _ (before now : Lines) (at : ℕ) (t : TakingOn before now at) where
  abbrev Takes_to : Input → Type 0
  Takes_to r = Takes before.buffer.now before.line.bytes.now before.at before.end before.line.at now.line.bytes.now r

  pub line_taken : at < before.end → at < length before.buffer.now → get_or now.buffer.now at 0 ≡ 10
      → Takes_to (record { at = at + 1; end = now.end; length = now.line.at; found = Line })
  line_taken e l b =
      let p = t.place in
      let q = sym t.end in
      let u = sym t.buffer in
      let b' : get_or before.buffer.now now.at 0 ≡ 10 = (λ i. get_or (u i) (p i) 0) ∙ b in
      subst Takes_to (λ i. record { at = p i + 1; end = q i; length = now.line.at; found = Line })
      (line_ends_lem _ _ _ _ _ _ _ _ t.taking (omega (arith, l, p)) (omega (arith, e, p)) b')

  pub all_taken : min before.end (length before.buffer.now) ≤ at → Takes_to (seen now Nothing)
  all_taken h =
      let q = sym t.end in
      subst Takes_to (λ i. record { at = now.at; end = q i; length = now.line.at; found = Nothing })
      (stays_going _ _ _ _ _ _ _ _ t.taking (omega (arith, h, t.place, length-take before.end before.buffer.now)))

  pub one_byte_taken : at < before.end → at < length before.buffer.now → (get_or now.buffer.now at 0 ≡ 10 → ⊥) → (line : Out)
      → line ≡ then_put now.line (get_or now.buffer.now at 0 ∷ [])
      → TakingOn before (record { buffer = now.buffer; at = at + 1; end = now.end; line = line }) (at + 1)
  one_byte_taken e l b line k =
      let p = t.place in
      let u = sym t.buffer in
      let same : get_or before.buffer.now now.at 0 ≡ get_or now.buffer.now at 0 = λ i. get_or (u i) (p i) 0 in
      let held = byte_held_of now.line line (get_or now.buffer.now at 0) k in
      record {
        taking = subst (λ (n : ℕ). Taking before.buffer.now before.line.bytes.now before.at before.end before.line.at line.bytes.now n line.at)
            (ap (λ (n : ℕ). n + 1) p)
            (byte_taken _ _ _ _ _ _ _ _ t.taking (omega (arith, l, p)) (omega (arith, e, p)) (λ z. b (sym same ∙ z))
            (length now.line.bytes.now) t.taking.long line.bytes.now line.at
            (held ∙ ap (held_at (length now.line.bytes.now) now.line.bytes.now 0 now.line.at) (sym same)));
        memory = record {
          buffer = t.memory.buffer;
          line = same_memory now.line line _ k ∙ t.memory.line;
          buffer_long = t.memory.buffer_long;
          line_long = same_length now.line line _ k ∙ t.memory.line_long;
        };
        buffer = t.buffer;
        end = t.end;
        place = refl;
      }

-- where a line is begun, nothing of it is held
abbrev from_start : Lines → Lines
from_start s = record s { line = record s.line { at = 0 } }

same_from_start : (before after : Lines) → SameMemory (from_start before) after → SameMemory before after
same_from_start before after m = record { buffer = m.buffer; line = m.line; buffer_long = m.buffer_long; line_long = m.line_long }

-- what the bytes not taken and then parts come to
abbrev pub came_of : Lines → List (List ℕ) → Came
came_of before ps =
    (goes_on (length before.line.bytes.now) ps (take_line (length before.line.bytes.now) [] (unread before.buffer.now (seen before Nothing)))).came

pub same_then : (a b c : Lines) → SameMemory a b → SameMemory b c → SameMemory a c
same_then a b c m n =
    record {
      buffer = n.buffer ∙ m.buffer;
      line = n.line ∙ m.line;
      buffer_long = n.buffer_long ∙ m.buffer_long;
      line_long = n.line_long ∙ m.line_long;
    }

none_got : (known known' : Option (List ℕ)) (buffer : List ℕ) (e : ℕ) → ReadConsumes {E = Error} known known' (Ok e) buffer → e ≡ 0
    → Consumes known known' [] × (0 < length buffer → IsAtEnd known')
none_got known known' buffer e h z = (subst (λ (k : ℕ). Consumes known known' (take k buffer)) z h.0, h.1 z)

module _ {R : Type 0} {shows : Shows R} where
  line_read_of : (before after : Lines) (f : LineFound) (r : Result (Option ℕ) Error) (reader₀ reader : R) (known₀ known : Option (List ℕ))
      → AnswersFound f after.line.at r
      → Next before.buffer.now before.line.bytes.now (seen before Nothing) after.buffer.now after.line.bytes.now (seen after f)
      (Answered shows f (came_of before) before.buffer.now r reader₀ reader known₀ known)
      → LineRead shows reader₀ reader known₀ known before after r
  line_read_of before after f r reader₀ reader known₀ known a n =
      record {
        found = f;
        answer = a;
        next = record { next = n.next; given = n.given.bytes; ended = n.given.ended };
        reads = n.given.reads;
      }

  -- a line that stands in the buffer
  pub line_at_once : (before first : Lines) (found : Bool) → found ≡ true → SameMemory (from_start before) first → first.buffer.now ≡ before.buffer.now
      → Takes before.buffer.now before.line.bytes.now before.at before.end 0 first.line.bytes.now (seen first (found_where found))
      → (reader : R) (known : Option (List ℕ)) → LineRead shows reader reader known known before first (Ok (Some first.line.at))
  unfolding AnswersFound goes_on
  line_at_once before first found e m' b t' reader known =
      let m = same_from_start before first m' in
      let t = subst (λ f. Takes before.buffer.now before.line.bytes.now before.at before.end 0 first.line.bytes.now (seen first (found_where f))) e t' in
      let Given = Answered shows Line (came_of before) before.buffer.now (Ok (Some first.line.at)) reader reader known known in
      line_read_of before first Line (Ok (Some first.line.at)) reader reader known known refl
      (line_is_next before.buffer.now before.line.bytes.now (seen before Nothing) first.line.bytes.now (seen first Line) t m.line_long
      first.buffer.now first.line.bytes.now (seen first Line) most_reads Given
      (subst (λ bs. ReadOn before.buffer.now first.line.bytes.now (seen first Line) bs first.line.bytes.now (seen first Line) most_reads Given) (sym b)
      (starts before.buffer.now before.line.bytes.now (seen before Nothing) first.line.bytes.now (seen first Line) t m.line_long Given
      (line_without_a_read shows (came_of before) before.buffer.now (Ok (Some first.line.at)) reader known
      (no_end_before before.buffer.now before.line.bytes.now (seen before Nothing) first.line.bytes.now (seen first Line) t m.line_long))))
      (λ x. absurd (line_is_something x)))

-- the loop that reads: so many reads have brought no line to its end
pub record ReadingOn {R : Type 0} (shows : Shows R) (before first now : Lines) (reads : ℕ) (reader₀ reader : R)
    (known₀ known : Option (List ℕ)) : Type 0 where
  pub taken : Takes before.buffer.now before.line.bytes.now before.at before.end 0 first.line.bytes.now (seen first Nothing)
  pub first_same : SameMemory before first
  pub on : ReadOn before.buffer.now first.line.bytes.now (seen first Nothing) now.buffer.now now.line.bytes.now (seen now Nothing) (most_reads - reads)
      (SoFar shows reader₀ reader known₀ known)
  pub same : SameMemory before now

module _ {R : Type 0} {shows : Shows R} where
  pub none_read_yet : (before first : Lines) (found : Bool) → found ≡ false → SameMemory (from_start before) first → first.buffer.now ≡ before.buffer.now
      → Takes before.buffer.now before.line.bytes.now before.at before.end 0 first.line.bytes.now (seen first (found_where found))
      → (reader : R) (known : Option (List ℕ)) → ReadingOn shows before first first 0 reader reader known known
  none_read_yet before first found e m' b t' reader known =
      let m = same_from_start before first m' in
      let t = subst (λ f. Takes before.buffer.now before.line.bytes.now before.at before.end 0 first.line.bytes.now (seen first (found_where f))) e t' in
      record {
        taken = t;
        first_same = m;
        on = subst (λ bs. ReadOn before.buffer.now first.line.bytes.now (seen first Nothing) bs first.line.bytes.now (seen first Nothing) most_reads
            (SoFar shows reader reader known known)) (sym b)
            (starts before.buffer.now before.line.bytes.now (seen before Nothing) first.line.bytes.now (seen first Nothing) t m.line_long
            (SoFar shows reader reader known known) (none_so_far shows reader known));
        same = m;
      }

  module _ (before first now : Lines) (reads : ℕ) (reader₀ reader : R) (known₀ known : Option (List ℕ))
      (g : ReadingOn shows before first now reads reader₀ reader known₀ known) where
    -- the reads are used up
    pub reads_used_up : most_reads ≤ reads → (e : Error) → error_kind e ≡ TimedOut → LineRead shows reader₀ reader known₀ known before now (Err e)
    unfolding AnswersFound EndsInput ReadsFor
    reads_used_up used e a =
        let n = line_is_next before.buffer.now before.line.bytes.now (seen before Nothing) first.line.bytes.now (seen first Nothing) g.taken
        g.first_same.line_long now.buffer.now now.line.bytes.now (seen now Nothing) (most_reads - reads) (SoFar shows reader₀ reader known₀ known) g.on
        (λ x. omega (arith, used)) in
        record {
          found = Nothing;
          answer = a;
          next = record { next = n.next; given = n.given.bytes; ended = λ x p. absurd x };
          reads = n.given.reads;
        }

    module _ (more : reads < most_reads) (after : Lines) (f : LineFound) (m : SameMemory now after) (Given : List (List ℕ) → Type 0)
        (s : ReadSome (SoFar shows reader₀ reader known₀ known) Given (came_of before) after.buffer.now now.line.bytes.now now.line.at
        after.line.bytes.now (seen after f)) where
      step : ReadOn before.buffer.now first.line.bytes.now (seen first Nothing) after.buffer.now after.line.bytes.now (seen after f)
          (most_reads - reads - 1) Given
      step =
          read_once before.buffer.now first.line.bytes.now (seen first Nothing) now.buffer.now now.line.bytes.now (seen now Nothing)
          (most_reads - reads) (SoFar shows reader₀ reader known₀ known) g.on refl after.buffer.now m.buffer_long Given
          (take_line (length before.line.bytes.now) [] (unread before.buffer.now (seen before Nothing))) (length before.line.bytes.now) g.first_same.line_long
          (says_before before.buffer.now before.line.bytes.now (seen before Nothing) first.line.bytes.now (seen first Nothing) g.taken g.first_same.line_long)
          (omega (arith, more)) after.line.bytes.now m.line_long (seen after f) s

    answered : (more : reads < most_reads) (after : Lines) (f : LineFound) (m : SameMemory now after) (r : Result (Option ℕ) Error) (reader' : R)
        (known' : Option (List ℕ))
        → ReadSome (SoFar shows reader₀ reader known₀ known) (Answered shows f (came_of before) before.buffer.now r reader₀ reader' known₀ known')
        (came_of before) after.buffer.now now.line.bytes.now now.line.at after.line.bytes.now (seen after f)
        → (f ≡ Nothing → ⊥) → AnswersFound f after.line.at r → LineRead shows reader₀ reader' known₀ known' before after r
    answered more after f m r reader' known' s n a =
        line_read_of before after f r reader₀ reader' known₀ known' a
        (line_is_next before.buffer.now before.line.bytes.now (seen before Nothing) first.line.bytes.now (seen first Nothing) g.taken
        g.first_same.line_long after.buffer.now after.line.bytes.now (seen after f) (most_reads - reads - 1)
        (Answered shows f (came_of before) before.buffer.now r reader₀ reader' known₀ known')
        (step more after f m (Answered shows f (came_of before) before.buffer.now r reader₀ reader' known₀ known') s)
        (λ x. absurd (n x)))

    module _ (more : reads < most_reads) (filled : Lines) (reader' : R) (known' : Option (List ℕ)) (n : Result ℕ Error) (m : SameMemory now filled)
        (l : filled.line ≡ now.line) (h : FilledBy shows reader reader' known known' filled n) where
      seen_filled : (e : ℕ) (f : LineFound) → result_unwrap_or n 0 ≡ e
          → ◌≡◌ {A = Input} (seen filled f) (record { at = 0; end = e; length = now.line.at; found = f })
      seen_filled e f x =
          let a = h.at in
          let y = h.end ∙ x in
          λ i. record { at = a i; end = y i; length = (l i).at; found = f }

      -- a read that failed
      pub read_failed : (e : Error) → n ≡ Err e → (r : Result (Option ℕ) Error) → r ≡ Err e → LineRead shows reader₀ reader' known₀ known' before filled r
      unfolding AfterRead GivenOn AnswersFound
      read_failed e is r a =
          answered more filled Failed m r reader' known'
          (record {
            got = failed;
            after = (seen_filled 0 Failed (ap (λ x. result_unwrap_or x 0) is), ap (λ (o : Out). o.bytes.now) l);
            given = λ ps s. answered_where_it_fails shows (came_of before) before.buffer.now r
                reader₀ reader reader' known₀ known known' ps s e filled.buffer.now (subst (λ x. ReadConsumes known known' x filled.buffer.now) is h.bytes)
                (subst (λ x. shows reader x filled.buffer.now reader') is h.shown) a;
          })
          failed_is_something (subst IsErr (sym a) refl)

      -- the end of the input
      ends_by : (e : ℕ) → n ≡ Ok e → e ≡ 0 → (count : ℕ) → now.line.at ≡ count → (o : Option ℕ) → o ≡ then_some (ltb 0 count) count
          → LineRead shows reader₀ reader' known₀ known' before filled (Ok o)
      unfolding AfterRead GivenOn AnswersFound end_of
      ends_by e is z zero c o a =
          answered more filled End m (Ok o) reader' known'
          (record {
            got = at_its_end;
            after = (
              seen_filled 0 End (ap (λ x. result_unwrap_or x 0) is ∙ z)
                  ∙ (ap (λ (k : ℕ). record { at = 0; end = 0; length = k; found = End }) c ∙ ap end_of (sym c)),
              ap (λ (o : Out). o.bytes.now) l,
            );
            given = λ ps s k i. answered_with_the_end shows (came_of before) before.buffer.now (Ok o)
                reader₀ reader reader' known₀ known known' ps s filled.buffer.now
                (none_got known known' filled.buffer.now e (subst (λ x. ReadConsumes known known' x filled.buffer.now) is h.bytes) z)
                (subst (λ x. shows reader x filled.buffer.now reader') (is ∙ ap Ok z) h.shown) (m.buffer_long ∙ g.same.buffer_long);
          })
          end_is_something (ap Ok a)
      ends_by e is z (suc count) c o a =
          answered more filled Line m (Ok o) reader' known'
          (record {
            got = at_its_end;
            after = (
              seen_filled 0 Line (ap (λ x. result_unwrap_or x 0) is ∙ z)
                  ∙ (ap (λ (k : ℕ). record { at = 0; end = 0; length = k; found = Line }) c ∙ ap end_of (sym c)),
              ap (λ (o : Out). o.bytes.now) l,
            );
            given = λ ps s k i. answered_with_the_last_line shows (came_of before) before.buffer.now (Ok o)
                reader₀ reader reader' known₀ known known' ps s filled.buffer.now
                (none_got known known' filled.buffer.now e (subst (λ x. ReadConsumes known known' x filled.buffer.now) is h.bytes) z)
                (subst (λ x. shows reader x filled.buffer.now reader') (is ∙ ap Ok z) h.shown) (m.buffer_long ∙ g.same.buffer_long) k i;
          })
          line_is_something (ap Ok (a ∙ ap (λ b. then_some b (suc count)) (lt-ltb 0 (suc count) (omega arith)) ∙ ap Some (sym c ∙ ap (λ (o : Out). o.at) (sym l))))

      pub ends : (e : ℕ) → n ≡ Ok e → e ≡ 0 → (o : Option ℕ) → o ≡ then_some (ltb 0 filled.line.at) filled.line.at
          → LineRead shows reader₀ reader' known₀ known' before filled (Ok o)
      ends e is z o a = ends_by e is z filled.line.at (ap (λ (o : Out). o.at) (sym l)) o a

      -- bytes that were read, and some of them taken
      module _ (e : ℕ) (is : n ≡ Ok e) (some : e ≡ 0 → ⊥) (after : Lines) (s : SameMemory filled after) (b : after.buffer.now ≡ filled.buffer.now) where
        few : e ≤ length after.buffer.now
        few = subst (λ bs. e ≤ length bs) (sym b) (subst (λ x. ReadsAtMost x filled.buffer.now) is h.few).0

        came : Consumes known known' (take e after.buffer.now)
        came = subst (λ bs. Consumes known known' (take e bs)) (sym b) (subst (λ x. ReadConsumes known known' x filled.buffer.now) is h.bytes).0

        given : shows reader (Ok e) after.buffer.now reader'
        given = subst (λ bs. shows reader (Ok e) bs reader') (sym b) (subst (λ x. shows reader x filled.buffer.now reader') is h.shown)

        positive : 0 < e
        positive = by e refl
          where
            by : (k : ℕ) → e ≡ k → 0 < e
            by zero z = absurd (some z)
            by (suc k) z = omega (arith, z)

        abbrev Takes_from : Input → Type 0
        Takes_from i = Takes filled.buffer.now filled.line.bytes.now filled.at filled.end filled.line.at after.line.bytes.now i

        bytes_after : (f : LineFound) → Takes_from (seen after f)
            → AfterRead (bytes e) after.buffer.now now.line.bytes.now now.line.at after.line.bytes.now (seen after f)
        unfolding AfterRead
        bytes_after f t =
            let a = h.at in
            let y = h.end ∙ ap (λ x. result_unwrap_or x 0) is in
            let c = sym b in
            (few, transport (λ i. Takes (c i) (l i).bytes.now (a i) (y i) (l i).at after.line.bytes.now (seen after f)) t)

        module _ (found : Bool)
            (t : Takes_from (seen after (found_where found))) where
          pub line_came : found ≡ true → LineRead shows reader₀ reader' known₀ known' before after (Ok (Some after.line.at))
          unfolding AnswersFound GivenOn
          line_came x =
              let t' = subst (λ y. Takes_from (seen after (found_where y))) x t in
              answered more after Line (same_then now filled after m s) (Ok (Some after.line.at)) reader' known'
              (record {
                got = bytes e;
                after = bytes_after Line t';
                given = λ ps q i. answered_with_a_line shows (came_of before) before.buffer.now (Ok (Some after.line.at))
                    reader₀ reader reader' known₀ known known' ps q e after.buffer.now came given positive few i;
              })
              line_is_something refl

          pub none_came : found ≡ false → ReadingOn shows before first after (reads + 1) reader₀ reader' known₀ known'
          unfolding GivenOn
          none_came x =
              let t' = subst (λ y. Takes_from (seen after (found_where y))) x t in
              record {
                taken = g.taken;
                first_same = g.first_same;
                on = subst (λ (k : ℕ). ReadOn before.buffer.now first.line.bytes.now (seen first Nothing)
                    after.buffer.now after.line.bytes.now (seen after Nothing) k
                    (SoFar shows reader₀ reader' known₀ known'))
                    (fewer reads)
                    (step more after Nothing (same_then now filled after m s) (SoFar shows reader₀ reader' known₀ known')
                    (record {
                      got = bytes e;
                      after = bytes_after Nothing t';
                      given = λ ps q i. one_more_so_far shows (came_of before) before.buffer.now (Ok None)
                          reader₀ reader reader' known₀ known known' ps q e after.buffer.now came given positive few;
                    }));
                same = same_then before now after g.same (same_then now filled after m s);
              }
            where
              fewer : (k : ℕ) → most_reads - k - 1 ≡ most_reads - (k + 1)
              fewer k = omega arith
