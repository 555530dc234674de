-- The loop that asks lines again: a line more, and the end; and of an input whose bytes are known the lines so far are its first ones.
-- Assumes nothing.
use mathlib.Core.Path.{◌≡◌, refl, sym, ◌∙◌, ap, subst, transport}
use mathlib.Core.Bool.{Bool, true, false, cond}
use mathlib.Core.List.{List, [], ◌∷◌, ◌++◌, append_assoc, append-nil}
use Prim.Native.Nat.{ℕ, ◌<◌, ◌+◌}
use native.Mathlib.Omega.{arith}
use lib.ListN.{length, take, drop, length-append}
use lib.Dec.{ltb}
use borrow.Author.Tests.{ltb-true, lt-ltb}
use Rattle.std.specs.Prelude.{Option, Some, None, Result, Ok, Err, OnOk, IfSome}
use Rattle.std.specs.declared.io.Error.{Error}
use Rattle.std.specs.Io.KnownBytes.{Appends, prepend_known}
use Rattle.line_input.specs.declared.Lines.{Lines}
use Rattle.line_input.specs.Found.{Nothing}
use Rattle.line_input.specs.Lines.{LineRead, SameMemory, seen}
use Rattle.line_input.specs.Reads.{Shows}
use Rattle.line_input.specs.Answers.{unread}
use Rattle.line_input.specs.Taking.{held_lines}
use Rattle.line_input.proofs.Streams.{LinesLeft, line_read, all_lines_read}
use Rattle.replay.specs.declared.Verdict.{Verdict}
use Rattle.replay.specs.declared.Tally.{Tally}
use Rattle.replay.specs.Inner.Lines.{counted_of}
use Rattle.replay.specs.Said.{end_said}
use Rattle.replay.specs.Ending.{ReadingEnds}
use Rattle.replay.specs.Reading.{LinesRead, a_line_more, LinesEnd}
use Rattle.replay.specs.Replays.{line_step, line_text, Run, started, after_line, after_lines, known_input, LinesOf, Replayed, ReplayedFrom}

pub appends_more : (a b c : Option (List ℕ)) (xs ys : List ℕ) → Appends a b xs → Appends b c ys → Appends a c (xs ++ ys)
appends_more None b c xs ys p q = tt
appends_more (Some ms) None c xs ys p q = absurd p
appends_more (Some ms) (Some ns) None xs ys p q = absurd q
appends_more (Some ms) (Some ns) (Some os) xs ys p q = q ∙ (ap (λ l. l ++ ys) p ∙ append_assoc ms xs ys)

pub nothing_more : (a : Option (List ℕ)) → Appends a a []
nothing_more None = tt
nothing_more (Some xs) = sym (append-nil xs)

-- the bytes that lines are read from
abbrev pub not_taken : Lines → List ℕ
not_taken lines = unread lines.buffer.now (seen lines Nothing)

pub record KnownInput (lines : Lines) (known : Option (List ℕ)) (xs : List ℕ) : Type 0 where
  pub room : 0 < length lines.buffer.now
  pub some : 0 < length lines.line.bytes.now
  pub rest : List ℕ
  pub is : known ≡ Some rest
  pub whole_is : xs ≡ not_taken lines ++ rest

pub known_input_is : (lines : Lines) (known : Option (List ℕ)) (xs : List ℕ) → known_input lines known ≡ Some xs → KnownInput lines known xs
unfolding known_input
known_input_is lines known xs = by (ltb 0 (length lines.buffer.now)) refl (ltb 0 (length lines.line.bytes.now)) refl known refl
  where
    by : (a : Bool) → ltb 0 (length lines.buffer.now) ≡ a → (b : Bool) → ltb 0 (length lines.line.bytes.now) ≡ b → (k : Option (List ℕ)) → known ≡ k
        → cond a (cond b (prepend_known (not_taken lines) k) None) None ≡ Some xs → KnownInput lines known xs
    by false d b e k f h = absurd (let z : ◌≡◌ {A = Option (List ℕ)} None (Some xs) = h in let y : ◌≡◌ {A = ℕ} 0 1 = cc z in omega arith)
    by true d false e k f h = absurd (let z : ◌≡◌ {A = Option (List ℕ)} None (Some xs) = h in let y : ◌≡◌ {A = ℕ} 0 1 = cc z in omega arith)
    by true d true e None f h = absurd (let z : ◌≡◌ {A = Option (List ℕ)} None (Some xs) = h in let y : ◌≡◌ {A = ℕ} 0 1 = cc z in omega arith)
    by true d true e (Some rest) f h = record {
      room = ltb-true 0 (length lines.buffer.now) d;
      some = ltb-true 0 (length lines.line.bytes.now) e;
      rest = rest;
      is = f;
      whole_is = let z : ◌≡◌ {A = Option (List ℕ)} (Some (not_taken lines ++ rest)) (Some xs) = h in sym (cc z);
    }

-- before the first read the reader's bytes are all
pub known_from_the_start : (lines : Lines) (known : Option (List ℕ)) → lines.at ≡ 0 → lines.end ≡ 0 → 0 < length lines.buffer.now
    → 0 < length lines.line.bytes.now → known_input lines known ≡ known
unfolding known_input
known_from_the_start lines known a e r s =
    rw (lt-ltb _ _ r, lt-ltb _ _ s) (ap (λ u. prepend_known u known) none ∙ by known)
  where
    none : not_taken lines ≡ []
    none = ap (λ (k : ℕ). drop lines.at (take k lines.buffer.now)) e ∙ ap (λ (k : ℕ). drop k []) a

    by : (k : Option (List ℕ)) → prepend_known [] k ≡ k
    by None = refl
    by (Some xs) = refl

-- a line more of the input, or its end
module _ {R : Type 0} {shows : Shows R} {reader reader' : R} (known known' : Option (List ℕ)) (before after : Lines)
    (r : Result (Option ℕ) Error) (l : LineRead shows reader reader' known known' before after r)
    (room : 0 < length before.buffer.now) (some : 0 < length before.line.bytes.now) (most : ℕ) (m : length before.line.bytes.now ≡ most)
    (xs : List ℕ) (taken : List (List ℕ)) (s : LinesLeft most xs (not_taken before) known taken) where
  as_long : LinesLeft (length before.line.bytes.now) xs (not_taken before) known taken
  as_long = subst (λ (n : ℕ). LinesLeft n xs (not_taken before) known taken) (sym m) s

  pub one_line_more : (n : ℕ) → r ≡ Ok (Some n) → (line : List ℕ) → line ≡ take n after.line.bytes.now
      → LinesLeft most xs (not_taken after) known' (taken ++ (line ∷ []))
  one_line_more n e line h =
      subst (λ x. LinesLeft most xs (not_taken after) known' (taken ++ (x ∷ []))) (sym h)
      (subst (λ (k : ℕ). LinesLeft k xs (not_taken after) known' (taken ++ (take n after.line.bytes.now ∷ []))) m
      (line_read known known' before after r l room some xs taken as_long n e))

  pub all_lines : r ≡ Ok None → LinesOf most xs taken true
  all_lines e =
      let h = all_lines_read known known' before after r l room some xs taken as_long e in
      record { later = []; first = subst (λ (k : ℕ). held_lines k xs ≡ taken) m h ∙ sym (append-nil taken); all = λ x. refl }

pub same_memory_then : (a b c : Lines) → SameMemory a b → SameMemory b c → SameMemory a c
same_memory_then a b c p q =
    record {
      buffer = q.buffer ∙ p.buffer;
      line = q.line ∙ p.line;
      buffer_long = q.buffer_long ∙ p.buffer_long;
      line_long = q.line_long ∙ p.line_long;
    }

-- a call more, which gave a line
pub one_call_more : {R : Type 0} {shows : Shows R} {remaining : R → Option (List ℕ)} (s t u : R) (start before after : Lines)
    (ls : List (List ℕ)) → LinesRead shows remaining s start ls t before → (r : Result (Option ℕ) Error)
    → LineRead shows t u (remaining t) (remaining u) before after r → (n : ℕ) → r ≡ Ok (Some n)
    → (line : List ℕ) → line ≡ take n after.line.bytes.now → LinesRead shows remaining s start (ls ++ (line ∷ [])) u after
one_call_more {shows = shows} {remaining = remaining} s t u start before after ls g r l n e line h =
    subst (λ x. LinesRead shows remaining s start (ls ++ (x ∷ [])) u after) (sym h)
    (a_line_more s t u start before after ls n g (subst (λ x. LineRead shows t u (remaining t) (remaining u) before after x) e l))

pub first_lines : (most : ℕ) (xs left : List ℕ) (known : Option (List ℕ)) (taken : List (List ℕ)) → LinesLeft most xs left known taken
    → LinesOf most xs taken false
first_lines most xs left known taken s =
    record { later = held_lines most (left ++ s.rest); first = s.lines_are; all = λ e. absurd (let z : ◌≡◌ {A = ℕ} 0 1 = cc e in omega arith) }

if_known : (k : Option (List ℕ)) (P : List ℕ → Type 0) → ((xs : List ℕ) → k ≡ Some xs → P xs) → IfSome k P
if_known None P h = tt
if_known (Some xs) P h = h xs refl

module _ {S : Type 0} (step : S → ℕ → List ℕ → S × Verdict) (most : ℕ) where
  lines_then : (r : Run S) (ls : List (List ℕ)) (l : List ℕ) → after_lines step most r (ls ++ (l ∷ [])) ≡ after_line step most (after_lines step most r ls) l
  unfolding after_lines
  lines_then r [] l = refl
  lines_then r (k ∷ ls) l = lines_then (after_line step most r k) ls l

  -- `Given` says which calls gave the lines.
  pub record Replaying (s : S) (input shown₀ : Option (List ℕ)) (count : ℕ) (held : S) (tally : Tally) (left : List ℕ)
      (known shown : Option (List ℕ)) (Given : List (List ℕ) → Type 0) : Type 0 where
    pub lines : List (List ℕ)
    pub count_is : length lines ≡ count
    pub run : Run S
    pub is : run ≡ after_lines step most (started s) lines
    pub held_is : held ≡ run.held
    pub tally_is : tally ≡ run.tally
    pub said : Appends shown₀ shown run.said
    pub lines_left : (xs : List ℕ) → input ≡ Some xs → LinesLeft most xs left known lines
    pub given : Given lines

  pub none_replayed : (s : S) (lines : Lines) (known shown : Option (List ℕ)) (Given : List (List ℕ) → Type 0) → Given []
      → Replaying s (known_input lines known) shown 0 s (started s).tally (not_taken lines) known shown Given
  unfolding after_lines
  none_replayed s lines known shown Given none =
      record {
        lines = [];
        count_is = refl;
        run = started s;
        is = refl;
        held_is = refl;
        tally_is = refl;
        said = nothing_more shown;
        lines_left = λ xs e. let k = known_input_is lines known xs e in
            record { rest = k.rest; is = k.is; lines_are = ap (held_lines most) k.whole_is };
        given = none;
      }

  module _ (s : S) (input shown₀ : Option (List ℕ)) (count : ℕ) (held : S) (tally : Tally) (left : List ℕ) (known shown : Option (List ℕ))
      (Given : List (List ℕ) → Type 0) (g : Replaying s input shown₀ count held tally left known shown Given) where
    pub one_replayed : (line : List ℕ) (held' : S) (tally' : Tally) (left' : List ℕ) (known' shown' : Option (List ℕ))
        (Given' : List (List ℕ) → Type 0)
        → held' ≡ (line_step step most held line).0 → tally' ≡ counted_of tally (line_step step most held line).1
        → Appends shown shown' (line_text tally line (line_step step most held line).1)
        → ((xs : List ℕ) → input ≡ Some xs → (taken : List (List ℕ)) → LinesLeft most xs left known taken
        → LinesLeft most xs left' known' (taken ++ (line ∷ [])))
        → ((taken : List (List ℕ)) → Given taken → Given' (taken ++ (line ∷ [])))
        → Replaying s input shown₀ (count + 1) held' tally' left' known' shown' Given'
    unfolding after_line
    one_replayed line held' tally' left' known' shown' Given' e f a h' one_more =
        let h = g.held_is in
        let t = g.tally_is in
        record {
          lines = g.lines ++ (line ∷ []);
          count_is = omega (arith, length-append g.lines (line ∷ []), g.count_is);
          run = after_line step most g.run line;
          is = ap (λ r. after_line step most r line) g.is ∙ sym (lines_then (started s) g.lines line);
          held_is = e ∙ ap (λ x. (line_step step most x line).0) h;
          tally_is = f ∙ (λ i. counted_of (t i) (line_step step most (h i) line).1);
          said = appends_more shown₀ shown shown' g.run.said (line_text g.run.tally line (line_step step most g.run.held line).1) g.said
              (transport (λ i. Appends shown shown' (line_text (t i) line (line_step step most (h i) line).1)) a);
          lines_left = λ xs k. h' xs k g.lines (g.lines_left xs k);
          given = one_more g.lines g.given;
        }

    pub all_replayed : {R : Type 0} (shows : Shows R) (reader reader' : R) (complete : S → Bool) (read : Bool) (b : Bool)
        (shown' : Option (List ℕ)) (of_reader : R → Option (List ℕ)) (before after : Lines) → b ≡ complete held → ReadingEnds shows reader count read reader'
        → ((xs : List ℕ) → input ≡ Some xs → (taken : List (List ℕ)) → LinesLeft most xs left known taken → LinesOf most xs taken read)
        → ((taken : List (List ℕ)) → length taken ≡ count → Given taken → LinesEnd shows of_reader reader before taken read reader' after)
        → Appends shown shown' (end_said tally read b)
        → ReplayedFrom shows of_reader reader reader' step complete most s held input before after shown₀ shown'
    all_replayed shows reader reader' complete read b shown' of_reader before after e d h' calls a =
        let h = g.held_is in
        let t = g.tally_is in
        let r = g.is in
        record {
          replayed = record {
            lines = g.lines;
            read = read;
            said =
                transport (λ i. Appends shown₀ shown' ((r i).said ++ end_said (r i).tally read (complete (r i).held)))
                (appends_more shown₀ shown shown' g.run.said (end_said g.run.tally read (complete g.run.held)) g.said
                (transport (λ i. Appends shown shown' (end_said (t i) read (complete (h i))))
                (subst (λ x. Appends shown shown' (end_said tally read x)) e a)));
            held = h ∙ ap (λ (x : Run S). x.held) r;
            of_input = if_known input (λ xs. LinesOf most xs g.lines read) (λ xs k. h' xs k g.lines (g.lines_left xs k));
            ends = subst (λ (n : ℕ). ReadingEnds shows reader n read reader') (sym g.count_is) d;
          };
          calls = calls g.lines g.count_is g.given;
        }

pub on_ok : {T E : Type 0} (r : Result T E) {P Q : Type 0} → (P → Q) → OnOk r P → OnOk r Q
on_ok (Ok x) f p = f p
on_ok (Err e) f p = tt

module _ {S : Type 0} (step : S → ℕ → List ℕ → S × Verdict) (complete : S → Bool) (most : ℕ) (s s' : S) where
  pub without_the_calls : {T E R : Type 0} (shows : Shows R) (remaining : R → Option (List ℕ)) (reader reader' : R)
      (known : Option (List ℕ)) (before after : Lines) (shown shown' : Option (List ℕ)) (r : Result T E)
      → OnOk r (ReplayedFrom shows remaining reader reader' step complete most s s' known before after shown shown')
      → OnOk r (Replayed shows reader reader' step complete most s s' known shown shown')
  without_the_calls shows remaining reader reader' known before after shown shown' (Ok x) p = p.replayed
  without_the_calls shows remaining reader reader' known before after shown shown' (Err e) p = tt
