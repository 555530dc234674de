-- What each function of the crate leaves, from what its callees leave: what is left of the bytes comes to what the whole comes
-- to, and a read is one part more. Assumes nothing.
use mathlib.Core.Path.{◌≡◌, refl, sym, ◌∙◌, ap, ap₂, subst}
use mathlib.Core.List.{List, [], ◌∷◌, ◌++◌}
use Prim.Native.Nat.{ℕ, zero, suc, ◌+◌, ◌-◌, ◌<◌, ◌≤◌}
use native.Mathlib.Omega.{arith}
use native.Mathlib.Numerals.{add-one}
use native.Mathlib.Nat.{zero-add}
use lib.ListN.{length, take, drop, get_or, length-append, length-take, length-drop, drop_of_length-le}
use lib.Seq.{slice, drop-cons, drop-drop, get_or-take, length-take-le}
use borrow.Author.Tests.{eq-eqb, ne_eqb}
use Rattle.held_line.specs.Holding.{holding, line_kept, held_at}
use Rattle.held_line.proofs.Held.{byte_held}
use Rattle.line_input.specs.Found.{Input}
use Rattle.line_input.specs.Found.{LineFound}
use Rattle.line_input.specs.Found.{Nothing, Line, End, Failed}
use Rattle.line_input.specs.Taking.{Came, line_ends, going, take_line, Reached, reached, goes_on, some_line, following_by, following_of}
use Rattle.line_input.specs.Answers.{unread, SaysLine, most_reads, EndsInput, NextLine}
use Rattle.line_input.specs.Inner.Answers.{held_of, input_of, Takes, end_of, Got, failed, at_its_end, bytes, AfterRead}
use Rattle.line_input.proofs.Taking.{taken_lf, taken_byte, taken_none, grows, left_is_last, goes_further}

abbrev input : ℕ → ℕ → ℕ → LineFound → Input
input at end n f = record { at = at; end = end; length = n; found = f }

drop_later : (m n : ℕ) (a b : List ℕ) → m ≤ n → drop m a ≡ drop m b → drop n a ≡ drop n b
drop_later m n a b h e =
    let i : m + (n - m) ≡ n = omega (arith, h) in
    subst (λ (k : ℕ). drop k a ≡ drop k b) i (sym (drop-drop (n - m) m a) ∙ (ap (drop (n - m)) e ∙ drop-drop (n - m) m b))

-- the bytes of a buffer from a place on
module _ (buffer : List ℕ) (at end : ℕ) where
  none_from : length (take end buffer) ≤ at → slice at end buffer ≡ []
  none_from h = drop_of_length-le (take end buffer) h

  byte_from : at < length buffer → at < end → slice at end buffer ≡ get_or buffer at 0 ∷ slice (at + 1) end buffer
  byte_from h k =
      drop-cons (take end buffer) at 0 (omega (arith, h, k, length-take end buffer))
      ∙ ap₂ (λ (x : ℕ) (n : ℕ). x ∷ slice n end buffer) (get_or-take end buffer at 0 k) (sym (add-one at))

-- taking: what is left of the bytes comes to what the whole comes to
pub record Taking (buffer line : List ℕ) (from end before : ℕ) (left : List ℕ) (at count : ℕ) : Type 0 where
  pub same : take_line (length line) (take before line) (slice from end buffer) ≡ take_line (length line) (take count left) (slice at end buffer)
  pub behind : drop count left ≡ drop count line
  pub few : count ≤ length line
  pub long : length left ≡ length line
  pub place : at + length (slice at end buffer) ≡ from + length (slice from end buffer)
  pub forward : from ≤ at

pub none_taken : (buffer line : List ℕ) (from end before : ℕ) → before ≤ length line → Taking buffer line from end before line from before
none_taken buffer line from end before h =
    record { same = refl; behind = refl; few = h; long = refl; place = refl; forward = omega arith }

module _ (buffer line : List ℕ) (from end before : ℕ) (left : List ℕ) (at count : ℕ) (t : Taking buffer line from end before left at count) where
  held_length : length (take count left) ≡ count
  held_length = length-take-le count left (omega (arith, t.few, t.long))

  -- no byte is left
  pub stays_going : length (take end buffer) ≤ at → Takes buffer line from end before left (input at end count Nothing)
  unfolding held_of input_of
  stays_going h =
      let none = none_from buffer at end h in
      let e : take_line (length line) (take before line) (slice from end buffer) ≡ going (take count left) = t.same ∙
      (ap (take_line (length line) (take count left)) none ∙ taken_none (length line) (take count left)) in
      let n : length (slice at end buffer) ≡ 0 = ap length none in
      record {
        answer =
            ap₂ (λ (a : ℕ) (k : ℕ). input a end k Nothing)
            (omega (arith, t.place, n))
            (sym held_length)
            ∙ sym (ap (input_of from end (length (slice from end buffer))) e);
        held = sym (ap held_of e);
        behind = t.behind;
      }

  module _ (i : at < length buffer) (j : at < end) where
    abbrev rest : List ℕ
    rest = slice (at + 1) end buffer

    one_less : at + 1 + length rest ≡ from + length (slice from end buffer)
    one_less = omega (arith, ap length (byte_from buffer at end i j), t.place)

    -- an LF
    pub line_ends_lem : get_or buffer at 0 ≡ 10 → Takes buffer line from end before left (input (at + 1) end count Line)
    unfolding held_of input_of
    line_ends_lem b =
        let e : take_line (length line) (take before line) (slice from end buffer) ≡ line_ends (take count left) rest = t.same ∙
        (ap (take_line (length line) (take count left)) (byte_from buffer at end i j) ∙ taken_lf (length line)
        (take count left) (get_or buffer at 0) rest (eq-eqb (get_or buffer at 0) 10 b)) in
        record {
          answer =
              ap₂ (λ (a : ℕ) (k : ℕ). input a end k Line)
              (omega (arith, one_less, t.forward))
              (sym held_length)
              ∙ sym (ap (input_of from end (length (slice from end buffer))) e);
          held = sym (ap held_of e);
          behind = t.behind;
        }

    -- another byte
    pub byte_taken : (get_or buffer at 0 ≡ 10 → ⊥) → (most : ℕ) → most ≡ length line → (left' : List ℕ) (next : ℕ)
        → line_kept left' next ≡ held_at most left 0 count (get_or buffer at 0) → Taking buffer line from end before left' (at + 1) next
    byte_taken b most m left' next k =
        let h = byte_held most left 0 count (get_or buffer at 0) (omega (arith, t.few, m)) (omega (arith, t.long, m)) left' next k in
        record {
          same =
              t.same ∙ (ap (take_line (length line) (take count left)) (byte_from buffer at end i j)
              ∙ (taken_byte (length line) (take count left) (get_or buffer at 0) rest (ne_eqb (get_or buffer at 0) 10 b)
              ∙ ap (λ l. take_line (length line) l rest)
              (ap (λ (n : ℕ). holding n (take count left) (get_or buffer at 0)) (sym m) ∙ sym h.line)));
          behind =
              subst (λ (n : ℕ). drop n left' ≡ drop n left) (zero-add next) h.behind
              ∙ drop_later count next left line h.grows t.behind;
          few = omega (arith, h.few, m);
          long = h.long ∙ t.long;
          place = omega (arith, one_less);
          forward = omega (arith, t.forward);
        }

-- what `take` answers says what the bytes come to
module _ (buffer line : List ℕ) (from end before : ℕ) (left : List ℕ) (r : Input) (t : Takes buffer line from end before left r) where
  abbrev taken : Came
  taken = take_line (length line) (take before line) (slice from end buffer)

  says_by : (c : Came) → taken ≡ c → SaysLine r.found (reached c []) (take r.length left) (unread buffer r)
  unfolding SaysLine following_by held_of input_of
  says_by (line_ends l bs) e =
      let a : r ≡ input (from + (length (slice from end buffer) - length bs)) end (length l) Line = t.answer ∙ ap
      (input_of from end (length (slice from end buffer))) e in
      let h : l ≡ take r.length left = sym (t.held ∙ ap held_of e) in
      let k : bs ≡ unread buffer r = sym (ap (unread buffer) a ∙
      (sym (drop-drop (length (slice from end buffer) - length bs) from (take end buffer))
      ∙ (left_is_last (length line) (slice from end buffer) (take before line) l bs e).is)) in
      subst (λ f. SaysLine f (reached (line_ends l bs) []) (take r.length left) (unread buffer r))
      (sym (ap (λ (x : Input). x.found) a)) (ap₂ (λ x y. some_line x y []) h k)
  says_by (going l) e =
      let a : r ≡ input (from + length (slice from end buffer)) end (length l) Nothing = t.answer ∙ ap
      (input_of from end (length (slice from end buffer))) e in
      subst (λ f. SaysLine f (reached (going l) []) (take r.length left) (unread buffer r))
      (sym (ap (λ (x : Input). x.found) a)) (
        ap (λ x. reached (going x) []) (sym (t.held ∙ ap held_of e)),
        ap (unread buffer) a ∙ drop_of_length-le (take end buffer) {i = from + length (slice from end buffer)} (omega (arith, length-drop from (take end buffer))),
      )

  pub takes_says : SaysLine r.found (reached taken []) (take r.length left) (unread buffer r)
  takes_says = says_by taken refl

  length_by : (n : ℕ) (c : Came) → (input_of from end n c).length ≡ length (held_of c)
  unfolding input_of held_of
  length_by n (line_ends l bs) = refl
  length_by n (going l) = refl

  held_count : r.length ≡ length (held_of taken)
  held_count = ap (λ (x : Input). x.length) t.answer ∙ length_by (length (slice from end buffer)) taken

  module _ (b : before ≤ length line) where
    pub longer : before ≤ r.length
    longer = omega (arith, held_count, (grows (length line) (slice from end buffer) (take before line)).more, length-take-le before line b)

    pub not_too_long : r.length ≤ length line
    not_too_long =
        let f = (grows (length line) (slice from end buffer) (take before line)).few (omega (arith, length-take-le before line b, b)) in
        omega (arith, held_count, f)

  -- bytes say nothing of the end of the input
  end_by : (n : ℕ) (c : Came) → EndsInput (input_of from end n c).found c → ⊥
  unfolding input_of EndsInput
  end_by n (line_ends l bs) e = e
  end_by n (going l) e = e

  pub takes_no_end : EndsInput r.found taken → ⊥
  takes_no_end e =
      end_by (length (slice from end buffer)) taken (subst (λ (x : Input). EndsInput x.found taken) t.answer e)

-- reading on: one part more each time. What is said of the parts is a parameter.
pub record ReadOn (buffer₀ line₀ : List ℕ) (current₀ : Input) (buffer line : List ℕ) (current : Input) (turns : ℕ)
    (Given : List (List ℕ) → Type 0) : Type 0 where
  pub parts : List (List ℕ)
  pub says : (c : Came) → SaysLine current₀.found (reached c []) (take current₀.length line₀) (unread buffer₀ current₀)
      → SaysLine current.found (goes_on (length line₀) parts c) (take current.length line) (unread buffer current)
  pub behind : drop current.length line ≡ drop current.length line₀
  pub longer : current₀.length ≤ current.length
  pub few : current.length ≤ length line₀
  pub line_long : length line ≡ length line₀
  pub buffer_long : length buffer ≡ length buffer₀
  pub reads : current.found ≡ Nothing → length parts + turns ≡ most_reads
  pub given : Given parts

pub nothing_read : (buffer line : List ℕ) (current : Input) (Given : List (List ℕ) → Type 0) → current.length ≤ length line
    → Given [] → ReadOn buffer line current buffer line current most_reads Given
unfolding goes_on
nothing_read buffer line current Given f h =
    record {
      parts = [];
      says = λ c s. s;
      behind = refl;
      longer = omega arith;
      few = f;
      line_long = refl;
      buffer_long = refl;
      reads = λ e. omega arith;
      given = h;
    }

-- What is said of the parts after a read, from what was said before it: they are the same after one that fails, or that gives nothing,
-- where they have come to no line; and else there is one more, at which the input does not end.
unfoldable pub GivenOn : Got → (Given Given' : List (List ℕ) → Type 0) → (came : List (List ℕ) → Came) → LineFound → (buffer : List ℕ) → Type 0
GivenOn failed Given Given' came f buffer = (ps : List (List ℕ)) → Given ps → Given' ps
GivenOn at_its_end Given Given' came f buffer = (ps : List (List ℕ)) → Given ps → (l : List ℕ) → came ps ≡ going l → Given' ps
GivenOn (bytes n) Given Given' came f buffer =
    (ps : List (List ℕ)) → Given ps → (EndsInput f (came (ps ++ (take n buffer ∷ []))) → ⊥) → Given' (ps ++ (take n buffer ∷ []))

pub record ReadSome (Given Given' : List (List ℕ) → Type 0) (came : List (List ℕ) → Came) (buffer line : List ℕ) (count : ℕ)
    (left : List ℕ) (r : Input) : Type 0 where
  pub got : Got
  pub after : AfterRead got buffer line count left r
  pub given : GivenOn got Given Given' came r.found buffer

pub failed_is_something : Failed ≡ Nothing → ⊥
failed_is_something e = let z : ◌≡◌ {A = ℕ} 0 1 = cc e in omega arith

pub end_is_something : End ≡ Nothing → ⊥
end_is_something e = let z : ◌≡◌ {A = ℕ} 0 1 = cc e in omega arith

pub line_is_something : Line ≡ Nothing → ⊥
line_is_something e = let z : ◌≡◌ {A = ℕ} 0 1 = cc e in omega arith

module _ (buffer₀ line₀ : List ℕ) (current₀ : Input) (buffer line : List ℕ) (current : Input) (turns : ℕ)
    (Given : List (List ℕ) → Type 0) (g : ReadOn buffer₀ line₀ current₀ buffer line current turns Given) (f : current.found ≡ Nothing)
    (buffer' : List ℕ) (k : length buffer' ≡ length buffer) (Given' : List (List ℕ) → Type 0) where
  -- no line so far
  so_far : (c : Came) → SaysLine current₀.found (reached c []) (take current₀.length line₀) (unread buffer₀ current₀)
      → goes_on (length line₀) g.parts c ≡ reached (going (take current.length line)) []
  unfolding SaysLine
  so_far c s = (subst (λ x. SaysLine x (goes_on (length line₀) g.parts c) (take current.length line) (unread buffer current)) f (g.says c s)).0

  -- a read that fails
  read_fails : Given' g.parts → ReadOn buffer₀ line₀ current₀ buffer' line (input 0 0 current.length Failed) (turns - 1) Given'
  unfolding SaysLine
  read_fails h =
      record {
        parts = g.parts;
        says = λ c s. (so_far c s, refl);
        behind = g.behind;
        longer = g.longer;
        few = g.few;
        line_long = g.line_long;
        buffer_long = k ∙ g.buffer_long;
        reads = λ e. absurd (failed_is_something e);
        given = h;
      }

  -- the end of the input
  some_held : (n : ℕ) (l : List ℕ) → length l ≡ suc n → following_by (going l) [] ≡ some_line l [] []
  unfolding following_by
  some_held n [] e = absurd (omega (arith, e))
  some_held n (b ∷ l) e = refl

  module _ (h : Given' g.parts) where
    ends_by : (n : ℕ) → current.length ≡ n → ReadOn buffer₀ line₀ current₀ buffer' line (end_of n) (turns - 1) Given'
    unfolding SaysLine end_of following_by
    ends_by zero e =
        record {
          parts = g.parts;
          says = λ c s. (ap following_of (so_far c s) ∙ ap (λ (n : ℕ). following_by (going (take n line)) []) e, refl, refl);
          behind = subst (λ (n : ℕ). drop n line ≡ drop n line₀) e g.behind;
          longer = omega (arith, g.longer, e);
          few = omega arith;
          line_long = g.line_long;
          buffer_long = k ∙ g.buffer_long;
          reads = λ x. absurd (end_is_something x);
          given = h;
        }
    ends_by (suc n) e =
        record {
          parts = g.parts;
          says = λ c s. ap following_of (so_far c s) ∙ (ap (λ (n : ℕ). following_by (going (take n line)) []) e
              ∙ some_held n (take (suc n) line) (length-take-le (suc n) line (omega (arith, g.few, g.line_long, e))));
          behind = subst (λ (n : ℕ). drop n line ≡ drop n line₀) e g.behind;
          longer = omega (arith, g.longer, e);
          few = omega (arith, g.few, e);
          line_long = g.line_long;
          buffer_long = k ∙ g.buffer_long;
          reads = λ x. absurd (line_is_something x);
          given = h;
        }

  module _ (c₀ : Came) (most : ℕ) (m : length line₀ ≡ most)
      (s₀ : SaysLine current₀.found (reached c₀ []) (take current₀.length line₀) (unread buffer₀ current₀))
      (positive : 0 < turns) (line' : List ℕ) (long : length line' ≡ length line) (r : Input) where
    -- bytes
    one_part_more : (part : List ℕ) (c : Came)
        → SaysLine current₀.found (reached c []) (take current₀.length line₀) (unread buffer₀ current₀)
        → goes_on (length line₀) (g.parts ++ (part ∷ [])) c ≡ reached (take_line (length line) (take current.length line) part) []
    unfolding goes_on
    one_part_more part c s =
        goes_further (length line₀) g.parts (part ∷ []) c (take current.length line) (so_far c s)
        ∙ ap (λ (m : ℕ). reached (take_line m (take current.length line) part) []) (sym g.line_long)

    -- what the first bytes and then parts come to
    abbrev pub came : List (List ℕ) → Came
    came ps = (goes_on most ps c₀).came

    no_line_came : came g.parts ≡ going (take current.length line)
    no_line_came = ap (λ (n : ℕ). (goes_on n g.parts c₀).came) (sym m) ∙ ap (λ (x : Reached). x.came) (so_far c₀ s₀)

    bytes_read : (n : ℕ) → Takes buffer' line 0 n current.length line' r
        → ((EndsInput r.found (came (g.parts ++ (take n buffer' ∷ []))) → ⊥) → Given' (g.parts ++ (take n buffer' ∷ [])))
        → ReadOn buffer₀ line₀ current₀ buffer' line' r (turns - 1) Given'
    bytes_read n t h =
        let inside : current.length ≤ length line = omega (arith, g.few, g.line_long) in
        let part = slice 0 n buffer' in
        record {
          parts = g.parts ++ (part ∷ []);
          says = λ c s. subst (λ x. SaysLine r.found x (take r.length line') (unread buffer' r))
              (sym (one_part_more part c s))
              (takes_says buffer' line 0 n current.length line' r t);
          behind = t.behind ∙ drop_later current.length r.length line line₀
              (longer buffer' line 0 n current.length line' r t inside) g.behind;
          longer = omega (arith, g.longer, longer buffer' line 0 n current.length line' r t inside);
          few = omega (arith, g.line_long, not_too_long buffer' line 0 n current.length line' r t inside);
          line_long = long ∙ g.line_long;
          buffer_long = k ∙ g.buffer_long;
          reads = λ e. omega (arith, length-append g.parts (part ∷ []), g.reads f, positive);
          given = h (λ e. takes_no_end buffer' line 0 n current.length line' r t
              (subst (λ (x : Reached). EndsInput r.found x.came) (one_part_more part c₀ s₀)
              (subst (λ (n : ℕ). EndsInput r.found (goes_on n (g.parts ++ (part ∷ [])) c₀).came) (sym m) e)));
        }

    read_by : (x : Got) → AfterRead x buffer' line current.length line' r → GivenOn x Given Given' came r.found buffer'
        → ReadOn buffer₀ line₀ current₀ buffer' line' r (turns - 1) Given'
    unfolding AfterRead GivenOn
    read_by failed a h =
        subst (λ l. ReadOn buffer₀ line₀ current₀ buffer' l r (turns - 1) Given') (sym a.1)
        (subst (λ (x : Input). ReadOn buffer₀ line₀ current₀ buffer' line x (turns - 1) Given') (sym a.0) (read_fails (h g.parts g.given)))
    read_by at_its_end a h =
        subst (λ l. ReadOn buffer₀ line₀ current₀ buffer' l r (turns - 1) Given') (sym a.1)
        (subst (λ (x : Input). ReadOn buffer₀ line₀ current₀ buffer' line x (turns - 1) Given') (sym a.0)
        (ends_by (h g.parts g.given (take current.length line) no_line_came) current.length refl))
    read_by (bytes n) a h = bytes_read n a.1 (h g.parts g.given)

    pub read_once : ReadSome Given Given' came buffer' line current.length line' r
        → ReadOn buffer₀ line₀ current₀ buffer' line' r (turns - 1) Given'
    read_once s = read_by s.got s.after s.given

-- what `next_line` answers, and what is said of its parts
pub record Next (buffer line : List ℕ) (i : Input) (buffer' line' : List ℕ) (r : Input) (Given : List (List ℕ) → Type 0) : Type 0 where
  pub next : NextLine buffer line i buffer' line' r
  pub given : Given next.parts

module _ (buffer line : List ℕ) (i : Input) (line₁ : List ℕ) (first : Input) (t : Takes buffer line i.at i.end 0 line₁ first)
    (long : length line₁ ≡ length line) where
  -- what the bytes that are not taken yet come to
  abbrev pub came_before : Came
  came_before = take_line (length line) [] (unread buffer i)

  pub says_before : SaysLine first.found (reached came_before []) (take first.length line₁) (unread buffer first)
  says_before = takes_says buffer line i.at i.end 0 line₁ first t

  pub no_end_before : EndsInput first.found came_before → ⊥
  no_end_before = takes_no_end buffer line i.at i.end 0 line₁ first t

  pub starts : (Given : List (List ℕ) → Type 0) → Given [] → ReadOn buffer line₁ first buffer line₁ first most_reads Given
  starts Given h =
      nothing_read buffer line₁ first Given
      (omega (arith, long, not_too_long buffer line i.at i.end 0 line₁ first t (omega arith))) h

  module _ (buffer' line' : List ℕ) (r : Input) (turns : ℕ) (Given : List (List ℕ) → Type 0)
      (g : ReadOn buffer line₁ first buffer' line' r turns Given) where
    pub line_is_next : (r.found ≡ Nothing → turns ≡ 0) → Next buffer line i buffer' line' r Given
    line_is_next used =
        record {
          next = record {
            parts = g.parts;
            says = subst (λ (m : ℕ). SaysLine r.found (goes_on m g.parts came_before) (take r.length line') (unread buffer' r))
                long (g.says came_before says_before);
            behind = g.behind ∙ drop_later first.length r.length line₁ line g.longer t.behind;
            few = omega (arith, g.few, long);
            turns = λ e. omega (arith, g.reads e, used e);
          };
          given = g.given;
        }
