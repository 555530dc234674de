-- Calls in turn take the lines of an input, each once: what is held of a line is its first bytes, bytes and then parts either end
-- the first line and leave the others, or go on with it, by induction on bytes and parts; and a line less is left after each
-- call. Assumes nothing.
use mathlib.Core.Path.{◌≡◌, refl, sym, ◌∙◌, ap, subst}
use mathlib.Core.Bool.{Bool, true, false}
use mathlib.Core.List.{List, [], ◌∷◌, ◌++◌, map}
use Prim.Native.Nat.{ℕ, zero, suc, ◌+◌, ◌<◌, ◌≤◌}
use native.Mathlib.Omega.{arith}
use lib.ListN.{length, take, length-append, length-take}
use lib.Seq.{take-nil}
use lib.Dec.{eqb}
use Rattle.held_line.specs.Lines.{lines, whole}
use Rattle.held_line.specs.Holding.{holding}
use Rattle.held_line.proofs.Held.{holding_held}
use Rattle.held_line.proofs.Glued.{glue, glue_none, no_lines, after_lf, after_byte}
use Rattle.line_input.specs.Taking.{Came, line_ends, going, take_line, goes_on}
use Rattle.line_input.specs.Taking.{Following, some_line, no_line, following_by, next_line, line_by_line, then_lines, held_lines}
use Rattle.line_input.proofs.Taking.{taken_lf, taken_byte}

module _ (most : ℕ) where
  -- bytes after the line l, and whatever comes after them
  pub record Ends (l bs m left : List ℕ) : Type 0 where
    pub full : List ℕ
    pub held : m ≡ take most full
    pub lines_are : (xs : List ℕ) → glue l (lines (bs ++ xs)) ≡ full ∷ lines (left ++ xs)
    pub fewer : length left < length bs

  pub record StaysOpen (l bs m : List ℕ) : Type 0 where
    pub full : List ℕ
    pub held : m ≡ take most full
    pub lines_are : (xs : List ℕ) → glue l (lines (bs ++ xs)) ≡ glue full (lines xs)
    pub longer : length full ≤ length l + length bs

  abbrev Took : List ℕ → List ℕ → Came → Type 0
  Took l bs (line_ends m left) = Ends l bs m left
  Took l bs (going m) = StaysOpen l bs m

  later : (l bs : List ℕ) (b : ℕ) → eqb b 10 ≡ false → (c : Came) → Took (l ++ (b ∷ [])) bs c → Took l (b ∷ bs) c
  later l bs b e (line_ends m left) h =
      record {
        full = h.full;
        held = h.held;
        lines_are = λ xs. sym (after_byte l b (bs ++ xs) e) ∙ h.lines_are xs;
        fewer = omega (arith, h.fewer);
      }
  later l bs b e (going m) h =
      record {
        full = h.full;
        held = h.held;
        lines_are = λ xs. sym (after_byte l b (bs ++ xs) e) ∙ h.lines_are xs;
        longer = omega (arith, h.longer, length-append l (b ∷ []));
      }

  took_by : (bs l : List ℕ) (b : ℕ) (t : Bool) → eqb b 10 ≡ t → ((k : List ℕ) → Took k bs (take_line most (take most k) bs))
      → Took l (b ∷ bs) (take_line most (take most l) (b ∷ bs))
  took_by bs l b true e rest =
      subst (Took l (b ∷ bs)) (sym (taken_lf most (take most l) b bs e))
      (record { full = l; held = refl; lines_are = λ xs. after_lf l b (bs ++ xs) e; fewer = omega arith })
  took_by bs l b false e rest =
      subst (Took l (b ∷ bs)) (sym (taken_byte most (take most l) b bs e))
      (later l bs b e (take_line most (holding most (take most l) b) bs)
      (subst (λ h. Took (l ++ (b ∷ [])) bs (take_line most h bs)) (sym (holding_held most l b)) (rest (l ++ (b ∷ [])))))

  took : (bs l : List ℕ) → Took l bs (take_line most (take most l) bs)
  unfolding take_line
  took [] l = record { full = l; held = refl; lines_are = λ xs. refl; longer = omega arith }
  took (b ∷ bs) l = took_by bs l b (eqb b 10) refl (took bs)

  -- the same over parts: no further input comes
  pub record PartsEnd (l bs : List ℕ) (ps : List (List ℕ)) (m left : List ℕ) (qs : List (List ℕ)) : Type 0 where
    pub full : List ℕ
    pub held : m ≡ take most full
    pub lines_are : glue l (lines (bs ++ whole ps)) ≡ full ∷ lines (left ++ whole qs)
    pub fewer : length (left ++ whole qs) < length (bs ++ whole ps)

  pub record PartsOpen (l bs : List ℕ) (ps : List (List ℕ)) (m : List ℕ) : Type 0 where
    pub full : List ℕ
    pub held : m ≡ take most full
    pub lines_are : glue l (lines (bs ++ whole ps)) ≡ glue full []
    pub longer : length full ≤ length l + length (bs ++ whole ps)

  abbrev Went : List ℕ → List ℕ → List (List ℕ) → Came → List (List ℕ) → Type 0
  Went l bs ps (line_ends m left) qs = PartsEnd l bs ps m left qs
  Went l bs ps (going m) qs = PartsOpen l bs ps m

  further : (l bs p : List ℕ) (ps : List (List ℕ)) (m : List ℕ) (s : StaysOpen l bs m) (c : Came) (qs : List (List ℕ))
      → Went s.full p ps c qs → Went l bs (p ∷ ps) c qs
  further l bs p ps m s (line_ends m' left) qs h =
      record {
        full = h.full;
        held = h.held;
        lines_are = s.lines_are (p ++ whole ps) ∙ h.lines_are;
        fewer = omega (arith, h.fewer, length-append bs (p ++ whole ps));
      }
  further l bs p ps m s (going m') qs h =
      record {
        full = h.full;
        held = h.held;
        lines_are = s.lines_are (p ++ whole ps) ∙ h.lines_are;
        longer = omega (arith, h.longer, s.longer, length-append bs (p ++ whole ps));
      }

  parts_end : (ps : List (List ℕ)) (l bs m left : List ℕ) → Ends l bs m left → PartsEnd l bs ps m left ps
  parts_end ps l bs m left h =
      record {
        full = h.full;
        held = h.held;
        lines_are = h.lines_are (whole ps);
        fewer = omega (arith, h.fewer, length-append bs (whole ps), length-append left (whole ps));
      }

  parts_open : (l bs m : List ℕ) → StaysOpen l bs m → PartsOpen l bs [] m
  parts_open l bs m h =
      record {
        full = h.full;
        held = h.held;
        lines_are = h.lines_are [] ∙ ap (glue h.full) no_lines;
        longer = omega (arith, h.longer, length-append bs []);
      }

  went : (ps : List (List ℕ)) (l bs : List ℕ) (c : Came) → Took l bs c
      → Went l bs ps (goes_on most ps c).came (goes_on most ps c).parts
  unfolding goes_on
  went [] l bs (line_ends m left) h = parts_end [] l bs m left h
  went [] l bs (going m) h = parts_open l bs m h
  went (p ∷ ps) l bs (line_ends m left) h = parts_end (p ∷ ps) l bs m left h
  went (p ∷ ps) l bs (going m) h =
      let t : Took h.full p (take_line most m p) = subst (λ x. Took h.full p (take_line most x p)) (sym h.held) (took p h.full) in
      further l bs p ps m h (goes_on most ps (take_line most m p)).came (goes_on most ps (take_line most m p)).parts
      (went ps h.full p (take_line most m p) t)

  -- the next line is the first one, as far as it is held, and the others are left
  pub record First (bs : List ℕ) (ps : List (List ℕ)) (m left : List ℕ) (qs : List (List ℕ)) : Type 0 where
    pub first : held_lines most (bs ++ whole ps) ≡ m ∷ held_lines most (left ++ whole qs)
    pub fewer : length (left ++ whole qs) < length (bs ++ whole ps)

  abbrev pub IsNext : List ℕ → List (List ℕ) → Following → Type 0
  IsNext bs ps (some_line m left qs) = First bs ps m left qs
  IsNext bs ps no_line = lines (bs ++ whole ps) ≡ []

  module _ (some : 0 < most) where
    no_bytes : (l : List ℕ) → [] ≡ take most l → l ≡ []
    no_bytes [] e = refl
    no_bytes (b ∷ l) e =
        let n = length-take most (b ∷ l) in
        let z : 0 ≡ length (take most (b ∷ l)) = ap length e in
        absurd (omega (arith, n, z, some))

    last_line : (b : ℕ) (h l : List ℕ) → (b ∷ h) ≡ take most l → glue l [] ≡ l ∷ []
    last_line b h [] e = absurd (omega (arith, ap length e, length-take {A = ℕ} most []))
    last_line b h (c ∷ l) e = refl

    some_bytes : (b : ℕ) (h l : List ℕ) → (b ∷ h) ≡ take most l → 0 < length l
    some_bytes b h l e = omega (arith, ap length e, length-take most l)

    next_by : (bs : List ℕ) (ps : List (List ℕ)) (c : Came) (qs : List (List ℕ)) → Went [] bs ps c qs → IsNext bs ps (following_by c qs)
    unfolding following_by
    next_by bs ps (line_ends m left) qs h =
        record {
          first =
              ap (map (take most)) (sym (glue_none (lines (bs ++ whole ps))) ∙ h.lines_are)
              ∙ ap (λ x. x ∷ held_lines most (left ++ whole qs)) (sym h.held);
          fewer = h.fewer;
        }
    next_by bs ps (going []) qs h =
        sym (glue_none (lines (bs ++ whole ps))) ∙ (h.lines_are ∙ ap (λ x. glue x []) (no_bytes h.full h.held))
    next_by bs ps (going (b ∷ m)) qs h =
        record {
          first =
              ap (map (take most)) (sym (glue_none (lines (bs ++ whole ps))) ∙ (h.lines_are ∙ (last_line b m h.full h.held
              ∙ ap (λ ls. h.full ∷ ls) (sym no_lines))))
              ∙ ap (λ x. x ∷ held_lines most []) (sym h.held);
          fewer = omega (arith, h.longer, some_bytes b m h.full h.held);
        }

    -- What a call takes is the first line, and what it leaves are the others.
    pub takes_the_first_line : (bs : List ℕ) (ps : List (List ℕ)) → IsNext bs ps (next_line most bs ps)
    takes_the_first_line bs ps =
        next_by bs ps (goes_on most ps (take_line most [] bs)).came (goes_on most ps (take_line most [] bs)).parts
        (went ps [] bs (take_line most [] bs) (subst (λ x. Took [] bs (take_line most x bs)) (take-nil most) (took bs [])))

    lines_by : (k : ℕ) (bs : List ℕ) (ps : List (List ℕ)) → length (bs ++ whole ps) < suc k
        → ((cs : List ℕ) (qs : List (List ℕ)) → length (cs ++ whole qs) < k → line_by_line k most cs qs ≡ held_lines most (cs ++ whole qs))
        → (n : Following) → IsNext bs ps n → then_lines (λ cs qs. line_by_line k most cs qs) n ≡ held_lines most (bs ++ whole ps)
    unfolding then_lines
    lines_by k bs ps e rest (some_line m left qs) h =
        ap (λ ls. m ∷ ls) (rest left qs (omega (arith, h.fewer, e))) ∙ sym h.first
    lines_by k bs ps e rest no_line h = sym (ap (map (take most)) h)

    -- An input in any parts: calls in turn take its lines, each once and in order, each as far as it is held.
    pub every_line_once : (k : ℕ) (bs : List ℕ) (ps : List (List ℕ)) → length (bs ++ whole ps) < k
        → line_by_line k most bs ps ≡ held_lines most (bs ++ whole ps)
    unfolding line_by_line
    every_line_once zero bs ps e = absurd (omega (arith, e))
    every_line_once (suc k) bs ps e = lines_by k bs ps e (every_line_once k) (next_line most bs ps) (takes_the_first_line bs ps)
