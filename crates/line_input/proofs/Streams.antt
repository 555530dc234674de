-- A reader that says which bytes it has left, line by line: each call takes the first of the lines that are left, and the
-- end comes where none is left. Assumes nothing.
use mathlib.Core.Path.{◌≡◌, refl, sym, ◌∙◌, ap, subst}
use mathlib.Core.List.{List, [], ◌∷◌, ◌++◌, map, append_assoc, append-nil}
use Prim.Native.Nat.{ℕ, ◌<◌, ◌≤◌}
use native.Mathlib.Omega.{arith}
use lib.ListN.{length, take}
use Rattle.std.specs.Prelude.{Option, Some, None, Result, Ok, IsErr, IsErrAnd}
use Rattle.std.specs.IoError.{error_kind}
use Rattle.std.specs.declared.io.Error.{Error}
use Rattle.std.specs.declared.io.ErrorKind.TheVariants.{TimedOut}
use Rattle.std.specs.Io.KnownBytes.{Consumes, IsAtEnd}
use Rattle.held_line.specs.Lines.{whole}
use Rattle.line_input.specs.Found.{Input}
use Rattle.line_input.specs.Found.{LineFound}
use Rattle.line_input.specs.Found.{Nothing, Line, End, Failed}
use Rattle.line_input.specs.declared.Lines.{Lines}
use Rattle.line_input.specs.Reads.{Shows}
use Rattle.line_input.specs.Lines.{LineRead, AnswersFound, seen}
use Rattle.line_input.specs.Taking.{Came, line_ends, going, take_line, Reached, reached, goes_on, some_line, no_line, following_by, following_of, next_line, held_lines}
use Rattle.line_input.specs.Answers.{unread, SaysLine, EndsInput, NextLineFrom}
use Rattle.line_input.proofs.Taking.{later_parts}
use Rattle.line_input.proofs.Exactly.{First, IsNext, takes_the_first_line}

-- The lines of all that the reader had, each as far as it is held, are those taken and those of the bytes that are left.
pub record LinesLeft (most : ℕ) (all left : List ℕ) (known : Option (List ℕ)) (taken : List (List ℕ)) : Type 0 where
  pub rest : List ℕ
  pub is : known ≡ Some rest
  pub lines_are : held_lines most all ≡ taken ++ held_lines most (left ++ rest)

-- nothing is taken yet
pub none_read : (most : ℕ) (all : List ℕ) → LinesLeft most all [] (Some all) []
none_read most all = record { rest = all; is = refl; lines_are = refl }

-- what a reader gave and what it has left are what it had
record Gave (rest bytes : List ℕ) (known : Option (List ℕ)) : Type 0 where
  left : List ℕ
  is : known ≡ Some left
  whole_is : rest ≡ bytes ++ left

gave : (known known' : Option (List ℕ)) (rest bytes : List ℕ) → known ≡ Some rest → Consumes known known' bytes → Gave rest bytes known'
gave known None rest bytes e c = absurd (subst (λ k. Consumes k None bytes) e c)
gave known (Some left) rest bytes e c = record { left = left; is = refl; whole_is = subst (λ k. Consumes k (Some left) bytes) e c }

at_end : (known : Option (List ℕ)) (left : List ℕ) → known ≡ Some left → IsAtEnd known → left ≡ []
at_end known left e h = subst IsAtEnd e h

whole_then : (ps : List (List ℕ)) (xs : List ℕ) → whole (ps ++ (xs ∷ [])) ≡ whole ps ++ xs
whole_then [] xs = append-nil xs
whole_then (p ∷ ps) xs = ap (λ l. p ++ l) (whole_then ps xs) ∙ sym (append_assoc p (whole ps) xs)

-- the answer of one call
module _ (most : ℕ) (some : 0 < most) (u : List ℕ) (parts : List (List ℕ)) where
  abbrev g : Reached
  g = goes_on most parts (take_line most [] u)

  -- a line up to its LF: what comes later is the next call's
  ends_line : (l left later : List ℕ) → g ≡ reached (line_ends l left) []
      → held_lines most (u ++ (whole parts ++ later)) ≡ l ∷ held_lines most (left ++ later)
  unfolding following_by
  ends_line l left later e =
      let n : next_line most u (parts ++ (later ∷ [])) ≡ some_line l left (later ∷ []) =
      ap following_of (later_parts most parts (later ∷ []) (take_line most [] u) l left e) in
      let f : First most u (parts ++ (later ∷ [])) l left (later ∷ []) =
      subst (IsNext most u (parts ++ (later ∷ []))) n (takes_the_first_line most some u (parts ++ (later ∷ []))) in
      ap (λ xs. held_lines most (u ++ xs)) (sym (whole_then parts later))
      ∙ (f.first ∙ ap (λ xs. l ∷ held_lines most (left ++ xs)) (append-nil later))

  -- a last line without LF
  ends_input : (l left : List ℕ) → following_of g ≡ some_line l left [] → held_lines most (u ++ whole parts) ≡ l ∷ held_lines most (left ++ [])
  ends_input l left e = (subst (IsNext most u parts) e (takes_the_first_line most some u parts)).first

  no_line_left : following_of g ≡ no_line → held_lines most (u ++ whole parts) ≡ []
  no_line_left e = ap (map (take most)) (subst (IsNext most u parts) e (takes_the_first_line most some u parts))

  line_by : (c : Came) (qs : List (List ℕ)) (l left later : List ℕ) → g ≡ reached c qs → following_by c qs ≡ some_line l left []
      → (EndsInput Line c → later ≡ []) → held_lines most (u ++ (whole parts ++ later)) ≡ l ∷ held_lines most (left ++ later)
  unfolding following_by EndsInput
  line_by (line_ends m bs) qs l left later e f h =
      let q : qs ≡ [] = cc f in
      let m_is : m ≡ l = cc f in
      let bs_is : bs ≡ left = cc f in
      ends_line l left later (e ∙ cc (m_is, bs_is, q))
  line_by (going []) qs l left later e f h = absurd (let z : ◌≡◌ {A = ℕ} 0 1 = cc f in omega arith)
  line_by (going (b ∷ m)) qs l left later e f h =
      let n : later ≡ [] = h tt in
      ap (λ xs. held_lines most (u ++ xs)) (ap (λ xs. whole parts ++ xs) n ∙ append-nil (whole parts))
      ∙ (ends_input l left (ap following_of e ∙ f) ∙ ap (λ xs. l ∷ held_lines most (left ++ xs)) (sym n))

module _ (known known' : Option (List ℕ)) (buffer line : List ℕ) (input : Input) (buffer' line' : List ℕ) (r : Input)
    (n : NextLineFrom known known' buffer line input buffer' line' r) (room : 0 < length buffer) (some : 0 < length line)
    (all : List ℕ) (taken : List (List ℕ)) (s : LinesLeft (length line) all (unread buffer input) known taken) where
  abbrev came : Came
  came = (g (length line) some (unread buffer input) n.next.parts).came

  said : (f : LineFound) → r.found ≡ f → SaysLine f (g (length line) some (unread buffer input) n.next.parts) (take r.length line') (unread buffer' r)
  said f e = subst (λ x. SaysLine x (g (length line) some (unread buffer input) n.next.parts) (take r.length line') (unread buffer' r)) e n.next.says

  none_later : (f : LineFound) → r.found ≡ f → EndsInput f came → (left : List ℕ) → known' ≡ Some left → left ≡ []
  none_later f e x left k = at_end known' left k (n.ended (subst (λ y. EndsInput y came) (sym e) x) room)

  -- a line
  pub one_line_more : r.found ≡ Line → LinesLeft (length line) all (unread buffer' r) known' (taken ++ (take r.length line' ∷ []))
  unfolding SaysLine
  one_line_more e =
      let v = gave known known' s.rest (whole n.next.parts) s.is n.given in
      let w = line_by (length line) some (unread buffer input) n.next.parts came (g (length line) some (unread buffer input) n.next.parts).parts
      (take r.length line') (unread buffer' r) v.left refl (said Line e) (λ x. none_later Line e x v.left v.is) in
      record {
        rest = v.left;
        is = v.is;
        lines_are =
            s.lines_are
            ∙ (ap (λ xs. taken ++ held_lines (length line) (unread buffer input ++ xs)) v.whole_is
            ∙ (ap (λ ls. taken ++ ls) w
            ∙ sym (append_assoc taken (take r.length line' ∷ []) (held_lines (length line) (unread buffer' r ++ v.left)))));
      }

  -- the end
  pub all_lines_taken : r.found ≡ End → held_lines (length line) all ≡ taken
  unfolding SaysLine EndsInput
  all_lines_taken e =
      let v = gave known known' s.rest (whole n.next.parts) s.is n.given in
      let z : v.left ≡ [] = none_later End e tt v.left v.is in
      s.lines_are
      ∙ (ap (λ xs. taken ++ held_lines (length line) (unread buffer input ++ xs)) (v.whole_is ∙ (ap (λ xs. whole n.next.parts ++ xs) z ∙ append-nil (whole n.next.parts)))
      ∙ (ap (λ ls. taken ++ ls) (no_line_left (length line) some (unread buffer input) n.next.parts (said End e).0)
      ∙ append-nil taken))

-- The same of a call of `next_line` of `Lines`, by its answer.
pub found_line : (f : LineFound) (n m : ℕ) (r : Result (Option ℕ) Error) → AnswersFound f n r → r ≡ Ok (Some m) → (f ≡ Line) × (m ≡ n)
unfolding AnswersFound
found_line Line n m r a e = (refl, let z : ◌≡◌ {A = Result (Option ℕ) Error} (Ok (Some m)) (Ok (Some n)) = sym e ∙ a in cc z)
found_line End n m r a e = absurd (let z : ◌≡◌ {A = Result (Option ℕ) Error} (Ok (Some m)) (Ok None) = sym e ∙ a in cc z)
found_line Failed n m r a e = absurd (let z = subst IsErr e a in cc z)
found_line Nothing n m r a e = absurd (subst (λ x. IsErrAnd x (λ k. error_kind k ≡ TimedOut)) e a)

pub found_end : (f : LineFound) (n : ℕ) (r : Result (Option ℕ) Error) → AnswersFound f n r → r ≡ Ok None → f ≡ End
unfolding AnswersFound
found_end Line n r a e = absurd (let z : ◌≡◌ {A = Result (Option ℕ) Error} (Ok None) (Ok (Some n)) = sym e ∙ a in cc z)
found_end End n r a e = refl
found_end Failed n r a e = absurd (let z = subst IsErr e a in cc z)
found_end Nothing n r a e = absurd (subst (λ x. IsErrAnd x (λ k. error_kind k ≡ TimedOut)) e a)

-- a line is held in its memory
pub line_held : {R : Type 0} {shows : Shows R} {reader reader' : R} (known known' : Option (List ℕ)) (before after : Lines)
    (r : Result (Option ℕ) Error) → LineRead shows reader reader' known known' before after r
    → (n : ℕ) → r ≡ Ok (Some n) → n ≤ length before.line.bytes.now
line_held known known' before after r l n e =
    let f = (found_line l.found after.line.at n r l.answer e).1 in
    omega (arith, f, l.next.next.few)

module _ {R : Type 0} {shows : Shows R} {reader reader' : R} (known known' : Option (List ℕ)) (before after : Lines)
    (r : Result (Option ℕ) Error) (l : LineRead shows reader reader' known known' before after r)
    (room : 0 < length before.buffer.now) (some : 0 < length before.line.bytes.now)
    (all : List ℕ) (taken : List (List ℕ))
    (s : LinesLeft (length before.line.bytes.now) all (unread before.buffer.now (seen before Nothing)) known taken) where
  pub line_read : (n : ℕ) → r ≡ Ok (Some n)
      → LinesLeft (length before.line.bytes.now) all (unread after.buffer.now (seen after Nothing)) known' (taken ++ (take n after.line.bytes.now ∷ []))
  line_read n e =
      let f = found_line l.found after.line.at n r l.answer e in
      subst (λ (k : ℕ). LinesLeft (length before.line.bytes.now) all (unread after.buffer.now (seen after Nothing)) known' (taken ++ (take k after.line.bytes.now ∷ [])))
      (sym f.1)
      (one_line_more known known' before.buffer.now before.line.bytes.now (seen before Nothing) after.buffer.now after.line.bytes.now
      (seen after l.found) l.next room some all taken s f.0)

  pub all_lines_read : r ≡ Ok None → held_lines (length before.line.bytes.now) all ≡ taken
  all_lines_read e =
      all_lines_taken known known' before.buffer.now before.line.bytes.now (seen before Nothing) after.buffer.now after.line.bytes.now
      (seen after l.found) l.next room some all taken s (found_end l.found after.line.at r l.answer e)
