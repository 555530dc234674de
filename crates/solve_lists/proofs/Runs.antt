-- What the reads and writes of the list program come to: line after line, and the end. Assumes nothing.
use mathlib.Core.Path.{◌≡◌, refl, sym, ◌∙◌, ap, ap₂, subst}
use mathlib.Core.Bool.{Bool}
use mathlib.Core.List.{List, [], ◌++◌, append_assoc}
use Prim.Native.Nat.{ℕ, ◌+◌, ◌<◌, ◌≤◌}
use native.Mathlib.Omega.{arith}
use lib.ListN.{length, take, drop}
use lib.Seq.{sets, sets-eq, length-sets, take-append_seam}
use Rattle.std.specs.Prelude.{Option, Some, None, IfSome, Result, Ok}
use Rattle.std.specs.declared.io.Error.{Error}
use Rattle.std.specs.Io.KnownBytes.{Appends}
use Rattle.text_out.specs.declared.Out.{Out}
use Rattle.text_out.specs.Within.{Buffer, buffer}
use Rattle.text_out.specs.Outs.{then_put}
use Rattle.text_out.proofs.Outs.{then_put_room}
use Rattle.line_input.specs.Found.{Input}
use Rattle.line_input.specs.Found.{Nothing, Line, End}
use Rattle.line_input.specs.declared.Lines.{Lines}
use Rattle.line_input.specs.Reads.{Shows}
use Rattle.line_input.specs.Lines.{LineRead, seen}
use Rattle.line_input.specs.Taking.{held_lines}
use Rattle.line_input.specs.Answers.{unread, NextLineFrom}
use Rattle.line_input.proofs.Streams.{LinesLeft, one_line_more, all_lines_taken, found_line, found_end}
use Rattle.list_memory.specs.declared.Stage.{Stage}
use Rattle.list_reader.specs.Taking.{stage_is, line_taken}
use Rattle.list_lines.specs.Lines.{unasked_text, printed, numbered, LineLeft, line_left, heard_line}
use Rattle.list_lines.specs.Longest.{printed_room, held_line}
use Rattle.list_lines.proofs.Longest.{printed_fits, end_fits}
use Rattle.solve_lists.specs.Printed.{number_text, line_printed, all_printed}

pub shown_more : (a b c : Option (List ℕ)) (bs cs : List ℕ) → Appends a b bs → Appends b c cs → Appends a c (bs ++ cs)
shown_more None b c bs cs p q = tt
shown_more (Some xs) None c bs cs p q = absurd p
shown_more (Some xs) (Some ys) None bs cs p q = absurd q
shown_more (Some xs) (Some ys) (Some zs) bs cs p q = q ∙ (ap (λ l. l ++ cs) p ∙ append_assoc xs bs cs)

-- bytes put at the front of a buffer are its front
front_of : (out bs : List ℕ) → length bs ≤ length out → take (length bs) (sets out 0 bs) ≡ bs
front_of out bs l =
    ap (take (length bs)) (sets-eq bs out 0 (omega (arith, l))) ∙ take-append_seam bs (drop (0 + length bs) out)

front_by : (out bs left : List ℕ) (end : ℕ) → length bs ≤ length out → buffer left end ≡ buffer (sets out 0 bs) (length bs) → take end left ≡ bs
front_by out bs left end l e = ap (λ (b : Buffer). take b.at b.bytes) e ∙ front_of out bs l

-- what was put into an empty buffer that has room for it is its front
module _ (o n : Out) (bs : List ℕ) (z : o.at ≡ 0) (room : length bs ≤ length o.bytes.now) (e : n ≡ then_put o bs) where
  put_is : buffer n.bytes.now n.at ≡ buffer (sets o.bytes.now 0 bs) (length bs)
  put_is =
      ap (λ (p : Out). buffer p.bytes.now p.at) (e ∙ then_put_room o bs (omega (arith, z, room)))
      ∙ ap₂ buffer (ap (λ (k : ℕ). sets o.bytes.now k bs) z) (omega (arith, z))

  pub put_within : n.at ≤ length n.bytes.now
  put_within =
      omega (
        arith,
        ap (λ (b : Buffer). b.at) put_is,
        ap (λ (b : Buffer). length b.bytes) put_is,
        length-sets o.bytes.now 0 bs,
        room,
      )

  pub put_front : take n.at n.bytes.now ≡ bs
  put_front = front_by o.bytes.now bs n.bytes.now n.at room put_is

-- a line that was heard
module _ (ws line ws' : List ℕ) (o n : Out) (b : Bool) (e : line_left ws' n b ≡ heard_line ws line o) where
  pub words_heard : ws' ≡ (line_taken ws line).words
  unfolding heard_line
  words_heard = ap (λ (x : LineLeft). x.words) e

  pub numbered_heard : b ≡ numbered (line_taken ws line).heard
  unfolding heard_line
  numbered_heard = ap (λ (x : LineLeft). x.numbered) e

  out_heard : n ≡ then_put o (printed (line_taken ws line).heard line ws (line_taken ws line).words)
  unfolding heard_line
  out_heard = ap (λ (x : LineLeft). x.out) e

  module _ (z : o.at ≡ 0) (l : length line ≤ held_line) (r : printed_room ≤ length o.bytes.now) where
    fits : length (printed (line_taken ws line).heard line ws (line_taken ws line).words) ≤ length o.bytes.now
    fits = let t = line_taken ws line in omega (arith, printed_fits t.heard line ws t.words l, r)

    pub heard_within : n.at ≤ length n.bytes.now
    heard_within = put_within o n _ z fits out_heard

    pub front_heard : take n.at n.bytes.now ≡ printed (line_taken ws line).heard line ws (line_taken ws line).words
    front_heard = put_front o n _ z fits out_heard

    pub line_written : (k : ℕ) (a c d : Option (List ℕ)) → Appends a c (number_text b k) → Appends c d (take n.at n.bytes.now)
        → Appends a d (line_printed k ws line)
    line_written k a c d p q =
        shown_more a c d _ _ (subst (λ x. Appends a c (number_text x k)) numbered_heard p) (subst (Appends c d) front_heard q)

-- the end
module _ (unasked : Bool) (o n : Out) (z : o.at ≡ 0) (r : printed_room ≤ length o.bytes.now) (e : n ≡ then_put o (unasked_text unasked)) where
  pub end_within : n.at ≤ length n.bytes.now
  end_within = put_within o n _ z (omega (arith, end_fits unasked, r)) e

  pub end_written : (a b : Option (List ℕ)) → Appends a b (take n.at n.bytes.now) → Appends a b (unasked_text unasked)
  end_written a b q = subst (Appends a b) (put_front o n _ z (omega (arith, end_fits unasked, r)) e) q

-- The lines so far: what was printed for them is written, and what is left is printed from line n on.
pub record Solving (xs : List ℕ) (most : ℕ) (known shown₀ shown : Option (List ℕ)) (ws₀ ws left : List ℕ) (n : ℕ) : Type 0 where
  pub rest : List ℕ
  pub is : known ≡ Some rest
  pub text : List ℕ
  pub written : Appends shown₀ shown text
  pub same : all_printed 1 ws₀ (held_lines most xs) ≡ text ++ all_printed n ws (held_lines most (left ++ rest))

pub moved : (xs : List ℕ) (most most' : ℕ) (known shown₀ shown : Option (List ℕ)) (ws₀ ws ws' left : List ℕ) (n n' : ℕ)
    → Solving xs most known shown₀ shown ws₀ ws left n → most ≡ most' → ws ≡ ws' → n ≡ n'
    → Solving xs most' known shown₀ shown ws₀ ws' left n'
moved xs most most' known shown₀ shown ws₀ ws ws' left n n' s e f h =
    subst (λ (m : ℕ). Solving xs m known shown₀ shown ws₀ ws' left n') e
    (subst (λ us. Solving xs most known shown₀ shown ws₀ us left n') f
    (subst (λ (m : ℕ). Solving xs most known shown₀ shown ws₀ ws left m) h s))

module _ (xs : List ℕ) (known shown₀ shown : Option (List ℕ)) (ws₀ ws : List ℕ) (n : ℕ)
    (known' : Option (List ℕ)) (buffer line : List ℕ) (input : Input) (buffer' line' : List ℕ) (r : Input)
    (next : NextLineFrom known known' buffer line input buffer' line' r) (room : 0 < length buffer) (some : 0 < length line)
    (s : Solving xs (length line) known shown₀ shown ws₀ ws (unread buffer input) n) where
  abbrev here : LinesLeft (length line) (unread buffer input ++ s.rest) (unread buffer input) known []
  here = record { rest = s.rest; is = s.is; lines_are = refl }

  pub one_solved : r.found ≡ Line → (shown' : Option (List ℕ)) → Appends shown shown' (line_printed n ws (take r.length line'))
      → Solving xs (length line) known' shown₀ shown' ws₀ (line_taken ws (take r.length line')).words (unread buffer' r) (n + 1)
  unfolding all_printed
  one_solved e shown' w =
      let t = one_line_more known known' buffer line input buffer' line' r next room some (unread buffer input ++ s.rest) [] here e in
      record {
        rest = t.rest;
        is = t.is;
        text = s.text ++ line_printed n ws (take r.length line');
        written = shown_more shown₀ shown shown' s.text (line_printed n ws (take r.length line')) s.written w;
        same =
            s.same
            ∙ (ap (λ ls. s.text ++ all_printed n ws ls) t.lines_are
            ∙ sym (append_assoc s.text (line_printed n ws (take r.length line'))
            (all_printed (n + 1) (line_taken ws (take r.length line')).words (held_lines (length line) (unread buffer' r ++ t.rest)))));
      }

  pub all_solved : r.found ≡ End → (shown' : Option (List ℕ)) → Appends shown shown' (unasked_text (stage_is ws Stage.Reading))
      → Appends shown₀ shown' (all_printed 1 ws₀ (held_lines (length line) xs))
  unfolding all_printed
  all_solved e shown' w =
      let t = all_lines_taken known known' buffer line input buffer' line' r next room some (unread buffer input ++ s.rest) [] here e in
      subst (Appends shown₀ shown') (sym (s.same ∙ ap (λ ls. s.text ++ all_printed n ws ls) t))
      (shown_more shown₀ shown shown' s.text (unasked_text (stage_is ws Stage.Reading)) s.written w)

-- The same of a call of `next_line`, by its answer.
module _ {R : Type 0} {shows : Shows R} {reader reader' : R} (xs : List ℕ)
    (known shown₀ shown : Option (List ℕ)) (ws₀ ws : List ℕ) (n : ℕ) (known' : Option (List ℕ)) (before after : Lines)
    (r : Result (Option ℕ) Error) (l : LineRead shows reader reader' known known' before after r)
    (room : 0 < length before.buffer.now) (some : 0 < length before.line.bytes.now)
    (s : Solving xs (length before.line.bytes.now) known shown₀ shown ws₀ ws (unread before.buffer.now (seen before Nothing)) n) where
  pub line_solved : (held : ℕ) → r ≡ Ok (Some held) → length after.line.bytes.now ≡ length before.line.bytes.now
      → (shown' : Option (List ℕ)) (ws' : List ℕ) → ws' ≡ (line_taken ws (take held after.line.bytes.now)).words
      → Appends shown shown' (line_printed n ws (take held after.line.bytes.now))
      → Solving xs (length after.line.bytes.now) known' shown₀ shown' ws₀ ws' (unread after.buffer.now (seen after Nothing)) (n + 1)
  line_solved held e long shown' ws' we w =
      let f = found_line l.found after.line.at held r l.answer e in
      moved xs _ _ known' shown₀ shown' ws₀ _ ws' _ _ _
      (one_solved xs known shown₀ shown ws₀ ws n known' before.buffer.now before.line.bytes.now (seen before Nothing)
      after.buffer.now after.line.bytes.now (seen after l.found) l.next room some s f.0 shown'
      (subst (λ (k : ℕ). Appends shown shown' (line_printed n ws (take k after.line.bytes.now))) f.1 w))
      (sym long) (ap (λ (k : ℕ). (line_taken ws (take k after.line.bytes.now)).words) (sym f.1) ∙ sym we) refl

  pub all_read : r ≡ Ok None → (shown' : Option (List ℕ)) → Appends shown shown' (unasked_text (stage_is ws Stage.Reading))
      → Appends shown₀ shown' (all_printed 1 ws₀ (held_lines (length before.line.bytes.now) xs))
  all_read e shown' w =
      all_solved xs known shown₀ shown ws₀ ws n known' before.buffer.now before.line.bytes.now (seen before Nothing)
      after.buffer.now after.line.bytes.now (seen after l.found) l.next room some s (found_end l.found after.line.at r l.answer e) shown' w

pub held_within : {R : Type 0} {shows : Shows R} {reader reader' : R} (known known' : Option (List ℕ))
    (before after : Lines) (r : Result (Option ℕ) Error) → LineRead shows reader reader' known known' before after r
    → length after.line.bytes.now ≡ length before.line.bytes.now → (held : ℕ) → r ≡ Ok (Some held) → held ≤ length after.line.bytes.now
held_within known known' before after r l long held e =
    omega (arith, (found_line l.found after.line.at held r l.answer e).1, l.next.next.few, long)

-- what holds of the known bytes, if any are known
pub if_known : (k : Option (List ℕ)) (P : List ℕ → Type 0) → ((xs : List ℕ) → k ≡ Some xs → P xs) → IfSome k P
if_known None P h = tt
if_known (Some xs) P h = h xs refl
