-- The ways of the recogniser from one of its states to another: each law's premises are what a callee ensures, what a test says or
-- what a match binds, and its conclusion is what the call says. Assumes nothing.
use mathlib.Core.Path.{◌≡◌, refl, ◌∙◌, ap, ap₂, subst}
use mathlib.Core.List.{List, []}
use Prim.Native.Nat.{ℕ, ◌+◌, ◌-◌, ◌≤◌, ◌<◌}
use native.Mathlib.Omega.{arith}
use lib.ListN.{length, drop, take, set, length-set}
use Rattle.std.specs.Prelude.{Option, Some, None, Result, Ok, Err, OnOk}
use Rattle.resolved_sort.specs.declared.Sort.{Sort}
use Rattle.resolved_sort.specs.declared.ComplexSort.{ComplexSort}
use Rattle.resolved_sort.specs.Tree.{primitive}
use Rattle.resolved_sort.specs.Storage.{kind_flat, kind_op}
use Rattle.sort_text.specs.Tokens.{is_letter, skip, next}
use Rattle.sort_text.specs.Parse.{Parsed, meaning, in_brackets, bracketed, operand, sort, line}
use Rattle.sort_lexer.specs.declared.Token.{Token}
use Rattle.sort_lexer.specs.declared.Token.TheVariants.{End, Word, Open, Close, Hash, Arrow}
use Rattle.sort_lexer.specs.declared.Lexeme.{Lexeme}
use Rattle.sort_lexer.specs.declared.Word.{Word as Said}
use Rattle.sort_lexer.specs.declared.Word.TheVariants.{Basic, Container}
use Rattle.sort_lexer.specs.Inner.Lexeme.{lexeme_of, least}
use Rattle.sort_lexer.specs.Inner.Meant.{meant}
use Rattle.sort_lexer.proofs.Lexemes.{ends_at_the_end}
use Rattle.sort_recogniser.specs.declared.Stuck.{Stuck}
use Rattle.sort_recogniser.specs.declared.Recogniser.{Recogniser}
use Rattle.sort_recogniser.specs.Inner.Says.{Recognised, done_at, stuck_at, ended, Says, SaysRest, Met}
use Rattle.sort_recogniser.specs.Inner.States.{needed, Same, Read, ReadRest, same_but_place}
use Rattle.sort_recogniser.specs.Inner.Room.{RoomFrom}
use Rattle.sort_recogniser.proofs.Ways as way

-- the same of equal buffers and ends
lands : (l : List ℕ) (lo room : ℕ) (front : List ℕ) (P : Parsed) (out out' : List ℕ) (q q' : Recognised) → out' ≡ out → q' ≡ q
    → Says l lo room front P out q → Says l lo room front P out' q'
lands l lo room front P out out' q q' e f s = rw (e, f) s

reread : (l l' out out' : List ℕ) (n n' p p' : ℕ) (left : List ℕ) (q : Recognised) → l' ≡ l → out' ≡ out → n' ≡ n → p' ≡ p
    → Says l' (p' + 1) (n' + (length l' - p')) (take n' out') (sort (drop p' l')) left q
    → Says l (p + 1) (n + (length l - p)) (take n out) (sort (drop p l)) left q
reread l l' out out' n n' p p' left q e f g h s = rw (← e, ← f, ← g, ← h) s

-- there is room
abbrev pub HasRoom : Recogniser → Type 0
HasRoom s = RoomFrom s.reader.line.now s.reader.at s.steps.now s.count

-- one step written
pub record Pushed (s s' : Recogniser) (v : ℕ) : Type 0 where
  pub reader : s'.reader ≡ s.reader
  pub steps : s'.steps.now ≡ set s.steps.now s.count v
  pub count : s'.count ≡ s.count + 1

-- a state at another position, where there is room too
abbrev pub moved : (s : Recogniser) (p : ℕ) → RoomFrom s.reader.line.now p s.steps.now s.count → Recogniser
moved s p m = record { reader = record { line = s.reader.line; at = p }; steps = s.steps; count = s.count; room = m }

abbrev pub RoomAt : Recogniser → ℕ → Type 0
RoomAt s p = RoomFrom s.reader.line.now p s.steps.now s.count

module _ (s : Recogniser) (room : HasRoom s) (r : Lexeme) (e : r ≡ lexeme_of s.reader.line.now s.reader.at) where
  pub room_after : (w : Token) → r.token ≡ w → RoomAt s r.next
  room_after w f =
      let g = way.later s.reader.line.now s.reader.at room.0 s.steps.now s.count room.1 r e w f in
      let d = way.later_within s.reader.line.now s.reader.at room.0 s.steps.now s.count room.1 r e in
      (d, omega (arith, g, d))

  pub further : (w : Token) → r.token ≡ w → 1 ≤ least w → s.reader.at + 1 ≤ r.next
  further w f n = omega (arith, way.later s.reader.line.now s.reader.at room.0 s.steps.now s.count room.1 r e w f)

  pub operand_refuses : (r.token ≡ Word → ⊥) → Read s (s.reader.at + 1) (operand sort (drop s.reader.at s.reader.line.now)) s (Err (record { 0 = r.at }))
  operand_refuses z = record { same = (refl, refl); says = way.operand_stuck s.reader.line.now s.reader.at room.0 s.steps.now s.count room.1 r e z }

  module _ (f : r.token ≡ Word) (w : Option Said) (i : w ≡ meant (meaning (take (r.next - r.at) (drop r.at s.reader.line.now)))) where
    pub word_refuses : w ≡ None → Read s (s.reader.at + 1) (operand sort (drop s.reader.at s.reader.line.now)) s (Err (record { 0 = r.at }))
    word_refuses g = record { same = (refl, refl); says = way.operand_unknown s.reader.line.now s.reader.at room.0 s.steps.now s.count room.1 r e f w i g }

    pub takes_sort : (b : Sort) → w ≡ Some (Basic b) → (v : ℕ) → v ≡ kind_flat (primitive b) → (m : RoomAt s r.next) (s' : Recogniser) → Pushed (moved s r.next m) s' v
        → Read s (s.reader.at + 1) (operand sort (drop s.reader.at s.reader.line.now)) s' (Ok tt)
    takes_sort b g v ev m s' p = record {
      same = (ap (λ x. x.line.now) p.reader, ap length p.steps ∙ length-set s.steps.now s.count v);
      says = lands _ _ _ _ _ _ _ _ _ p.steps (ap₂ done_at (ap (λ x. x.at) p.reader) p.count)
          (way.operand_basic s.reader.line.now s.reader.at room.0 s.steps.now s.count room.1 r e f w i b g v ev);
    }

    pub takes_container : (o : ComplexSort) → w ≡ Some (Container o) → (m : RoomAt s r.next) (s' : Recogniser) (q : Result (Unit {0}) Stuck)
        → Read (moved s r.next m) r.next (bracketed sort o (skip (drop r.next s.reader.line.now)) (next is_letter (drop r.next s.reader.line.now))) s' q
        → Read s (s.reader.at + 1) (operand sort (drop s.reader.at s.reader.line.now)) s' q
    takes_container o g m s' q k = record {
      same = k.same;
      says = way.operand_over s.reader.line.now s.reader.at room.0 s.steps.now s.count room.1 r e f w i o g s'.steps.now (ended s'.reader.at s'.count q) k.says;
    }

  -- after the operands, which are k
  module _ (k : ℕ) where
    pub no_more : r.token ≡ Hash → k ≡ 16 → ReadRest s k s (Err (record { 0 = r.at }))
    no_more f g = record { same = (refl, refl); says = way.rest_full s.reader.line.now s.reader.at room.0 s.steps.now s.count room.1 r e f k g }

    pub one_alone : (r.token ≡ Hash → ⊥) → (r.token ≡ Arrow → ⊥) → k ≡ 1 → ReadRest s k s (Ok tt)
    one_alone y z g = record { same = (refl, refl); says = way.rest_one s.reader.line.now s.reader.at room.0 s.steps.now s.count room.1 r e y z k g }

    pub several_alone : (r.token ≡ Hash → ⊥) → (r.token ≡ Arrow → ⊥) → (k ≡ 1 → ⊥) → ReadRest s k s (Err (record { 0 = r.at }))
    several_alone y z g = record { same = (refl, refl); says = way.rest_many s.reader.line.now s.reader.at room.0 s.steps.now s.count room.1 r e y z k g }

    module _ (f : r.token ≡ Hash) (few : k < 16) (m : RoomAt s r.next) (s' : Recogniser) (q : Result (Unit {0}) Stuck)
        (read : Read (moved s r.next m) (r.next + 1) (operand sort (drop r.next s.reader.line.now)) s' q) where
      pub room_next : (u : Unit {0}) → q ≡ Ok u → HasRoom s' × (s.reader.at + 1 ≤ s'.reader.at) × (length s'.reader.line.now ≡ length s.reader.line.now)
      room_next u g =
          let d = way.done_room s.reader.line.now _ _ _ _ _ _ _ _ read.says (ap (ended s'.reader.at s'.count) g) in
          let n = ap length read.same.0 in
          let x = way.later s.reader.line.now s.reader.at room.0 s.steps.now s.count room.1 r e Hash f in
          ((omega (arith, d.1, n), omega (arith, d.2, d.1, n, x, read.same.1, room.1)), omega (arith, d.0, x), n)

      pub next_refuses : (t : Stuck) → q ≡ Err t → ReadRest s k s' (Err t)
      next_refuses t g = record {
        same = read.same;
        says = way.rest_passes s.reader.line.now s.reader.at room.0 s.steps.now s.count room.1 r e f k (omega arith) (omega arith) s'.steps.now _ read.says t.0
            (ap (ended s'.reader.at s'.count) g);
      }

      pub next_goes_on : (u : Unit {0}) → q ≡ Ok u → (s'' : Recogniser) (q' : Result (Unit {0}) Stuck) → ReadRest s' (k + 1) s'' q' → ReadRest s k s'' q'
      next_goes_on u g s'' q' k' = record {
        same = (k'.same.0 ∙ read.same.0, k'.same.1 ∙ read.same.1);
        says = way.rest_goes_on s.reader.line.now s.reader.at room.0 s.steps.now s.count room.1 r e f k (omega arith) (omega arith) s'.steps.now _ read.says s'.reader.at s'.count
            (ap (ended s'.reader.at s'.count) g) s''.steps.now (ended s''.reader.at s''.count q')
            (subst (λ x. SaysRest x s'.reader.at s'.steps.now s'.count (k + 1) s''.steps.now (ended s''.reader.at s''.count q')) read.same.0 k'.says);
      }

    module _ (f : r.token ≡ Arrow) (m : RoomAt s r.next) (s' : Recogniser) (q : Result (Unit {0}) Stuck)
        (read : Read (moved s r.next m) (r.next + 1) (sort (drop r.next s.reader.line.now)) s' q) where
      pub range_refuses : (t : Stuck) → q ≡ Err t → ReadRest s k s' (Err t)
      range_refuses t g = record {
        same = read.same;
        says = way.range_passes s.reader.line.now s.reader.at room.0 s.steps.now s.count room.1 r e f k s'.steps.now read.same.1 _ read.says t.0
            (ap (ended s'.reader.at s'.count) g);
      }

      pub range_has_room : (u : Unit {0}) → q ≡ Ok u → needed s' < length s'.steps.now
      range_has_room u g = omega (
        arith,
        ap length read.same.0,
        way.range_room s.reader.line.now s.reader.at room.0 s.steps.now s.count room.1 r e f k s'.steps.now read.same.1 _ read.says s'.reader.at s'.count
            (ap (ended s'.reader.at s'.count) g),
      )

      pub range_goes_on : (u : Unit {0}) → q ≡ Ok u → (v : ℕ) → v ≡ 16 + k → (s'' : Recogniser) → Pushed s' s'' v → ReadRest s k s'' (Ok tt)
      unfolding SaysRest
      range_goes_on u g v ev s'' p = record {
        same = (ap (λ x. x.line.now) p.reader ∙ read.same.0, ap length p.steps ∙ (length-set s'.steps.now s'.count v ∙ read.same.1));
        says = λ front ts w a. lands _ _ _ _ _ _ _ _ _ p.steps (ap₂ done_at (ap (λ x. x.at) p.reader) p.count)
            (way.range_done s.reader.line.now s.reader.at room.0 s.steps.now s.count room.1 r e f k s'.steps.now read.same.1 _ read.says s'.reader.at s'.count v
            (ap (ended s'.reader.at s'.count) g) ev front ts w a);
      }

-- a sort: its first operand, and what comes after it
module _ (s s' : Recogniser) (q : Result (Unit {0}) Stuck) (read : Read s (s.reader.at + 1) (operand sort (drop s.reader.at s.reader.line.now)) s' q) where
  pub first_refuses : (t : Stuck) → q ≡ Err t → Read s (s.reader.at + 1) (sort (drop s.reader.at s.reader.line.now)) s' (Err t)
  first_refuses t g = record {
    same = read.same;
    says = way.sort_passes s.reader.line.now s.reader.at s.steps.now s.count s'.steps.now _ read.says t.0 (ap (ended s'.reader.at s'.count) g);
  }

  pub room_left : HasRoom s → (u : Unit {0}) → q ≡ Ok u → HasRoom s' × (s.reader.at + 1 ≤ s'.reader.at) × (length s'.reader.line.now ≡ length s.reader.line.now)
  room_left room u g =
      let d = way.done_room s.reader.line.now _ _ _ _ _ _ _ _ read.says (ap (ended s'.reader.at s'.count) g) in
      let n = ap length read.same.0 in
      ((omega (arith, d.1, n), omega (arith, d.2, read.same.1, room.1, n)), d.0, n)

  pub first_goes_on : (u : Unit {0}) → q ≡ Ok u → (s'' : Recogniser) (q' : Result (Unit {0}) Stuck) → ReadRest s' 1 s'' q'
      → Read s (s.reader.at + 1) (sort (drop s.reader.at s.reader.line.now)) s'' q'
  first_goes_on u g s'' q' k = record {
    same = (k.same.0 ∙ read.same.0, k.same.1 ∙ read.same.1);
    says = way.sort_goes_on s.reader.line.now s.reader.at s.steps.now s.count s'.steps.now _ read.says s'.reader.at s'.count (ap (ended s'.reader.at s'.count) g) s''.steps.now
        (ended s''.reader.at s''.count q') (subst (λ x. SaysRest x s'.reader.at s'.steps.now s'.count 1 s''.steps.now (ended s''.reader.at s''.count q')) read.same.0 k.says);
  }

-- a sort in brackets: from s the `(` leads to s₁, the sort to s₂, and the `)` to s₃
module _ (s : Recogniser) (room : HasRoom s) (o : ComplexSort) where
  abbrev here : Parsed
  here = bracketed sort o (skip (drop s.reader.at s.reader.line.now)) (next is_letter (drop s.reader.at s.reader.line.now))

  pub open_refuses : (s₁ : Recogniser) → same_but_place s s₁ → (t : Stuck) → Met s.reader.line.now s.reader.at Open s₁.reader.at (Err t) → Read s s.reader.at here s₁ (Err t)
  open_refuses s₁ same t m = record {
    same = (same.0, ap length same.1);
    says = lands _ _ _ _ _ _ _ _ _ same.1 (ap stuck_at m.1)
        (way.bracketed_stuck s.reader.line.now s.reader.at room.0 s.steps.now s.count room.1 (lexeme_of s.reader.line.now s.reader.at) refl m.0 o);
  }

  module _ (s₁ : Recogniser) (same₁ : same_but_place s s₁) (opened : Met s.reader.line.now s.reader.at Open s₁.reader.at (Ok tt)) where
    abbrev inner : Lexeme
    inner = lexeme_of s.reader.line.now s.reader.at

    pub room_inside : HasRoom s₁ × (s.reader.at + 1 ≤ s₁.reader.at) × (length s₁.reader.line.now ≡ length s.reader.line.now)
    room_inside =
        let g = way.later s.reader.line.now s.reader.at room.0 s.steps.now s.count room.1 inner refl Open opened.0 in
        let d = way.later_within s.reader.line.now s.reader.at room.0 s.steps.now s.count room.1 inner refl in
        let n = ap length same₁.0 in let k = ap length same₁.1 in
        ((omega (arith, d, n, opened.1), omega (arith, g, d, n, k, opened.1, same₁.2, room.1)), omega (arith, g, opened.1), n)

    abbrev Inside : Recogniser → Result (Unit {0}) Stuck → Type 0
    Inside s₂ q = Read s₁ (s₁.reader.at + 1) (sort (drop s₁.reader.at s₁.reader.line.now)) s₂ q

    says_inside : (s₂ : Recogniser) (q : Result (Unit {0}) Stuck) → Inside s₂ q
        → Says s.reader.line.now (inner.next + 1) (s.count + (length s.reader.line.now - inner.next)) (take s.count s.steps.now)
        (sort (drop inner.next s.reader.line.now)) s₂.steps.now (ended s₂.reader.at s₂.count q)
    says_inside s₂ q read = reread _ _ _ _ _ _ _ _ _ _ same₁.0 same₁.1 same₁.2 opened.1 read.says

    same₂ : (s₂ : Recogniser) (q : Result (Unit {0}) Stuck) → Inside s₂ q → Same s s₂
    same₂ s₂ q read = (read.same.0 ∙ same₁.0, read.same.1 ∙ ap length same₁.1)

    pub inside_refuses : (s₂ : Recogniser) (q : Result (Unit {0}) Stuck) → Inside s₂ q → (t : Stuck) → q ≡ Err t → Read s s.reader.at here s₂ (Err t)
    inside_refuses s₂ q read t g = record {
      same = same₂ s₂ q read;
      says = way.bracketed_passes s.reader.line.now s.reader.at room.0 s.steps.now s.count room.1 inner refl opened.0 o s₂.steps.now (same₂ s₂ q read).1 _
          (way.in_brackets_passes s.reader.line.now inner.next s.steps.now s.count s₂.steps.now _ (says_inside s₂ q read) t.0 (ap (ended s₂.reader.at s₂.count) g)) t.0 refl;
    }

    module _ (s₂ : Recogniser) (read : Inside s₂ (Ok tt)) (s₃ : Recogniser) (same₃ : same_but_place s₂ s₃) where
      abbrev behind : Lexeme
      behind = lexeme_of s.reader.line.now s₂.reader.at

      within : s₂.reader.at ≤ length s.reader.line.now
      within = (way.done_room s.reader.line.now _ _ _ _ _ _ _ _ (says_inside s₂ (Ok tt) read) refl).1

      in_line : (q : Result (Unit {0}) Stuck) → Met s₂.reader.line.now s₂.reader.at Close s₃.reader.at q → Met s.reader.line.now s₂.reader.at Close s₃.reader.at q
      in_line q m = subst (λ x. Met x s₂.reader.at Close s₃.reader.at q) (same₂ s₂ (Ok tt) read).0 m

      pub close_refuses : (t : Stuck) → Met s₂.reader.line.now s₂.reader.at Close s₃.reader.at (Err t) → Read s s.reader.at here s₃ (Err t)
      close_refuses t m =
          let k = in_line (Err t) m in
          record {
            same = (same₃.0 ∙ (same₂ s₂ (Ok tt) read).0, ap length same₃.1 ∙ (same₂ s₂ (Ok tt) read).1);
            says = lands _ _ _ _ _ _ _ _ _ same₃.1 (ap stuck_at k.1)
                (way.bracketed_passes s.reader.line.now s.reader.at room.0 s.steps.now s.count room.1 inner refl opened.0 o s₂.steps.now (same₂ s₂ (Ok tt) read).1 _
                (way.in_brackets_goes_on s.reader.line.now inner.next s.steps.now s.count s₂.steps.now _ (says_inside s₂ (Ok tt) read) s₂.reader.at s₂.count refl
                (stuck_at behind.at) (way.closing_stuck s.reader.line.now s₂.reader.at within s₂.count behind refl k.0)) behind.at refl);
          }

      module _ (closed : Met s₂.reader.line.now s₂.reader.at Close s₃.reader.at (Ok tt)) where
        says_closed : Says s.reader.line.now (inner.next + 1) (s.count + (length s.reader.line.now - inner.next)) (take s.count s.steps.now)
            (in_brackets sort (drop inner.next s.reader.line.now)) s₂.steps.now (done_at behind.next s₂.count)
        says_closed = way.in_brackets_goes_on s.reader.line.now inner.next s.steps.now s.count s₂.steps.now _ (says_inside s₂ (Ok tt) read) s₂.reader.at s₂.count refl
            (done_at behind.next s₂.count) (way.closing_done s.reader.line.now s₂.reader.at within s₂.count behind refl (in_line (Ok tt) closed).0)

        pub room_closed : needed s₃ < length s₃.steps.now
        room_closed = omega (
          arith,
          way.bracketed_room s.reader.line.now s.reader.at room.0 s.steps.now s.count room.1 inner refl opened.0 o s₂.steps.now
              (same₂ s₂ (Ok tt) read).1 _ says_closed behind.next s₂.count refl,
          same₃.2,
          ap length same₃.1,
          (in_line (Ok tt) closed).1,
          ap length (same₃.0 ∙ (same₂ s₂ (Ok tt) read).0),
        )

        pub closes : (v : ℕ) → v ≡ kind_op o → (s₄ : Recogniser) → Pushed s₃ s₄ v → Read s s.reader.at here s₄ (Ok tt)
        closes v ev s₄ p = record {
          same = (
            ap (λ x. x.line.now) p.reader ∙ (same₃.0 ∙ (same₂ s₂ (Ok tt) read).0),
            ap length p.steps ∙ (length-set s₃.steps.now s₃.count v ∙ (ap length same₃.1 ∙ (same₂ s₂ (Ok tt) read).1)),
          );
          says = lands _ _ _ _ _ _ _ _ _ (p.steps ∙ ap₂ (λ xs n. set xs n v) same₃.1 same₃.2)
              (ap₂ done_at (ap (λ x. x.at) p.reader ∙ (in_line (Ok tt) closed).1) (p.count ∙ ap (λ n. n + 1) same₃.2))
              (way.bracketed_done s.reader.line.now s.reader.at room.0 s.steps.now s.count room.1 inner refl opened.0 o s₂.steps.now
              (same₂ s₂ (Ok tt) read).1 _ says_closed behind.next s₂.count v refl ev);
        }

-- a line: from its start s a sort leads to s₁, and its end to s₂
module _ (s : Recogniser) (from : s.reader.at ≡ 0) (none : s.count ≡ 0) (s₁ : Recogniser) (q : Result (Unit {0}) Stuck)
    (read : Read s (s.reader.at + 1) (sort (drop s.reader.at s.reader.line.now)) s₁ q) where
  says_line : Says s.reader.line.now (0 + 1) (0 + (length s.reader.line.now - 0)) (take 0 s.steps.now) (sort (drop 0 s.reader.line.now)) s₁.steps.now (ended s₁.reader.at s₁.count q)
  says_line = reread _ _ _ _ _ _ _ _ _ _ refl refl none from read.says

  at_start : (P : Parsed) (out : List ℕ) (q' : Recognised) → Says s.reader.line.now 0 (length s.reader.line.now) [] P out q'
      → Says s.reader.line.now 0 (s.count + (length s.reader.line.now - s.reader.at)) (take s.count s.steps.now) P out q'
  at_start P out q' k = rw (none, from) (subst (λ x. Says s.reader.line.now 0 x [] P out q') (omega arith) k)

  pub line_refuses : (t : Stuck) → q ≡ Err t → Read s 0 (line s.reader.line.now) s₁ (Err t)
  line_refuses t g = record {
    same = read.same;
    says = at_start _ _ _ (way.line_passes s.reader.line.now s₁.steps.now s.steps.now _ says_line t.0 (ap (ended s₁.reader.at s₁.count) g));
  }

  module _ (u : Unit {0}) (g : q ≡ Ok u) (s₂ : Recogniser) (same : same_but_place s₁ s₂) where
    in_the_line : (q' : Result (Unit {0}) Stuck) → Met s₁.reader.line.now s₁.reader.at End s₂.reader.at q' → Met s.reader.line.now s₁.reader.at End s₂.reader.at q'
    in_the_line q' m = subst (λ x. Met x s₁.reader.at End s₂.reader.at q') read.same.0 m

    pub line_ends : (q' : Result (Unit {0}) Stuck) → Met s₁.reader.line.now s₁.reader.at End s₂.reader.at q' → Read s 0 (line s.reader.line.now) s₂ q'
    line_ends (Ok t) m =
        let k = in_the_line (Ok t) m in
        record {
          same = (same.0 ∙ read.same.0, ap length same.1 ∙ read.same.1);
          says = at_start _ _ _ (lands _ _ _ _ _ _ _ _ _ same.1 (ap₂ done_at (k.1 ∙ ends_at_the_end s.reader.line.now s₁.reader.at _ refl k.0) same.2)
              (way.line_done s.reader.line.now s₁.steps.now s.steps.now _ says_line s₁.reader.at s₁.count (ap (ended s₁.reader.at s₁.count) g)
              (lexeme_of s.reader.line.now s₁.reader.at) refl k.0));
        }
    line_ends (Err t) m =
        let k = in_the_line (Err t) m in
        record {
          same = (same.0 ∙ read.same.0, ap length same.1 ∙ read.same.1);
          says = at_start _ _ _ (lands _ _ _ _ _ _ _ _ _ same.1 (ap stuck_at k.1)
              (way.line_stuck s.reader.line.now s₁.steps.now s.steps.now _ says_line s₁.reader.at s₁.count (ap (ended s₁.reader.at s₁.count) g)
              (lexeme_of s.reader.line.now s₁.reader.at) refl k.0));
        }

    pub line_to_its_end : (q' : Result (Unit {0}) Stuck) → Met s₁.reader.line.now s₁.reader.at End s₂.reader.at q' → OnOk q' (s₂.reader.at ≡ length s.reader.line.now)
    line_to_its_end (Ok t) m = let k = in_the_line (Ok t) m in k.1 ∙ ends_at_the_end s.reader.line.now s₁.reader.at _ refl k.0
    line_to_its_end (Err t) m = tt

-- what the whole of it says, at the buffer that is left
module _ (s s' : Recogniser) (from : s.reader.at ≡ 0) (none : s.count ≡ 0) (out : List ℕ) (left : out ≡ s'.steps.now) where
  from_start : (q : Recognised) → Says s.reader.line.now 0 (s.count + (length s.reader.line.now - s.reader.at)) (take s.count s.steps.now) (line s.reader.line.now) s'.steps.now q
      → Says s.reader.line.now 0 (length s.reader.line.now) [] (line s.reader.line.now) out q
  from_start q k = rw left (subst (λ x. Says s.reader.line.now 0 x [] (line s.reader.line.now) s'.steps.now q) (omega arith) (rw (none, from) at k))

  pub line_done : (u : Unit {0}) → Read s 0 (line s.reader.line.now) s' (Ok u) → s'.reader.at ≡ length s.reader.line.now
      → Says s.reader.line.now 0 (length s.reader.line.now) [] (line s.reader.line.now) out (done_at (length s.reader.line.now) s'.count)
  line_done u k e = from_start _ (subst (λ x. Says s.reader.line.now 0 (s.count + (length s.reader.line.now - s.reader.at)) (take s.count s.steps.now) (line s.reader.line.now)
      s'.steps.now (done_at x s'.count)) e k.says)

  pub line_stuck : (t : Stuck) → Read s 0 (line s.reader.line.now) s' (Err t)
      → Says s.reader.line.now 0 (length s.reader.line.now) [] (line s.reader.line.now) out (stuck_at t.0)
  line_stuck t k = from_start _ k.says
