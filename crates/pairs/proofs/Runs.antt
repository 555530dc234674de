-- What the reads and writes of the pair program come to: parts of the input one after another, and its end. Assumes nothing.
use mathlib.Core.Path.{◌≡◌, refl, sym, ◌∙◌, ap, subst}
use mathlib.Core.Bool.{true, false}
use mathlib.Core.List.{List, [], ◌++◌, append_assoc, append-nil}
use Prim.Native.Nat.{ℕ, ◌+◌, ◌-◌, ◌<◌, ◌≤◌}
use native.Mathlib.Omega.{arith}
use lib.ListN.{length, take, drop, length-take, length-drop}
use lib.Seq.{sets-eq, take-append_seam}
use Rattle.std.specs.Prelude.{Option, Some, None, Ok}
use Rattle.std.specs.Io.KnownBytes.{Consumes, Appends}
use Rattle.text_out.specs.Put.{Put}
use Rattle.text_out.proofs.Put.{put_length}
use Rattle.pair_input.specs.declared.Held.{Held}
use Rattle.pair_input.specs.ByteByByte.{Lines, first, Turned, take_bytes, at_end}
use Rattle.pair_input.specs.Held.{lines_of, Feeds}
use Rattle.pair_input.proofs.Exactly.{in_parts, byte_by_byte_exactly}
use Rattle.pair_line.specs.Room.{line_room}
use Rattle.pair_input.proofs.Ways.{feeds_some, fed_further, fed_output, all_taken, all_printed, none_taken, none_printed}
use Rattle.pairs.specs.Printed.{PartPrinted, AfterRead, AllPrinted}

-- known bytes
nothing_shown : (a : Option (List ℕ)) → Appends a a []
nothing_shown None = tt
nothing_shown (Some xs) = sym (append-nil xs)

shown_more : (a b c : Option (List ℕ)) (bs cs : List ℕ) → Appends a b bs → Appends b c cs → Appends a c (bs ++ cs)
shown_more None b c bs cs p q = tt
shown_more (Some xs) None c bs cs p q = absurd p
shown_more (Some xs) (Some ys) None bs cs p q = absurd q
shown_more (Some xs) (Some ys) (Some zs) bs cs p q = q ∙ (ap (λ l. l ++ cs) p ∙ append_assoc xs bs cs)

nothing_read : (a : Option (List ℕ)) → Consumes a a []
nothing_read None = tt
nothing_read (Some xs) = refl

read_more : (a b c : Option (List ℕ)) (bs cs : List ℕ) → Consumes a b bs → Consumes b c cs → Consumes a c (bs ++ cs)
read_more None b c bs cs p q = tt
read_more (Some xs) None c bs cs p q = absurd p
read_more (Some xs) (Some ys) None bs cs p q = absurd q
read_more (Some xs) (Some ys) (Some zs) bs cs p q = p ∙ (ap (λ l. bs ++ l) q ∙ sym (append_assoc bs cs zs))

-- bytes put at the front of a buffer are its front
pub front_of : (out : List ℕ) (bs left : List ℕ) (r : ℕ) → Put out 0 bs left r → r ≤ length left → take r left ≡ bs
front_of out bs left r h l =
    let n : r ≡ length bs = omega (arith, h.behind) in
    ap (take r) (h.bytes ∙ sets-eq bs out 0 (omega (arith, n, l, put_length h)))
    ∙ (ap (λ (k : ℕ). take k (bs ++ drop (0 + length bs) out)) n ∙ take-append_seam bs (drop (0 + length bs) out))

-- taking bytes: what is taken so far is held, what it prints is written, and the buffer has room for a line
pub record Taking (h₀ : Lines) (bytes : List ℕ) (shown₀ : Option (List ℕ)) (h : Lines) (out : List ℕ) (shown : Option (List ℕ)) (from : ℕ)
    : Type 0 where
  pub within : from ≤ length bytes
  pub room : line_room ≤ length out
  pub lines : h ≡ (take_bytes h₀ (take from bytes)).lines
  pub written : Appends shown₀ shown (take_bytes h₀ (take from bytes)).output

pub none_taken_yet : (h : Lines) (bytes out : List ℕ) (shown : Option (List ℕ)) → line_room ≤ length out → Taking h bytes shown h out shown 0
none_taken_yet h bytes out shown l =
    record {
      within = omega arith;
      room = l;
      lines = none_taken h bytes;
      written = subst (Appends shown shown) (none_printed h bytes) (nothing_shown shown);
    }

module _ (h₀ : Lines) (bytes : List ℕ) (shown₀ : Option (List ℕ)) (memory : List ℕ) (held : Held) (out : List ℕ) (shown : Option (List ℕ)) (from : ℕ)
    (t : Taking h₀ bytes shown₀ (lines_of memory held) out shown from) where
  abbrev pub rest : List ℕ
  rest = take (length bytes - from) (drop from bytes)

  pub rest_long : length rest ≡ length bytes - from
  rest_long = omega (arith, length-take (length bytes - from) (drop from bytes), length-drop from bytes)

  module _ (inside : from < length bytes) (memory' : List ℕ) (held' : Held) (out' : List ℕ) (used at : ℕ)
      (f : Feeds memory held rest out memory' held' out' used at) where
    pub fed_within : from + used ≤ length bytes
    fed_within = omega (arith, f.within, rest_long, inside)

    pub same_room : length out' ≡ length out
    same_room = put_length f.turns.put

    pub put_within : at ≤ length out'
    put_within = omega (arith, f.fits, same_room)

    -- each turn takes at least one byte
    pub less_left : length bytes - (from + used) < length bytes - from
    less_left =
        omega (arith, inside, fed_within, feeds_some memory held rest out memory' held' out' used at f (omega (arith, rest_long, inside)) t.room)

    pub part_taken : (h' : Lines) → h' ≡ lines_of memory' held' → (out'' : List ℕ) → length out'' ≡ length out' → (shown' : Option (List ℕ))
        → Appends shown shown' (take at out') → Taking h₀ bytes shown₀ h' out'' shown' (from + used)
    part_taken h' e out'' o shown' w =
        record {
          within = fed_within;
          room = omega (arith, o, same_room, t.room);
          lines = e ∙ (f.turns.lines ∙ (ap (λ h. (take_bytes h (take used rest)).lines) t.lines ∙ fed_further h₀ bytes from used fed_within));
          written = subst (Appends shown₀ shown')
              (sym (fed_output h₀ bytes from used fed_within
              ∙ ap (λ h. (take_bytes h₀ (take from bytes)).output ++ (take_bytes h (take used rest)).output) (sym t.lines)))
              (shown_more shown₀ shown shown' _ _ t.written
              (subst (Appends shown shown') (front_of out (take_bytes (lines_of memory held) (take used rest)).output out' at f.turns.put put_within) w));
        }

  pub all_lines : length bytes ≤ from → lines_of memory held ≡ (take_bytes h₀ bytes).lines
  all_lines l = t.lines ∙ all_taken h₀ bytes from l

  pub all_written : length bytes ≤ from → Appends shown₀ shown (take_bytes h₀ bytes).output
  all_written l = subst (Appends shown₀ shown) (all_printed h₀ bytes from l) t.written

-- The program so far: the part that was read.
abbrev pub Run : (known₀ known shown₀ shown : Option (List ℕ)) → Lines → Type 0
Run known₀ known shown₀ shown h = PartPrinted known₀ known shown₀ shown (first []) h

pub run_starts : (known shown : Option (List ℕ)) (h : Lines) → h ≡ first [] → Run known known shown shown h
unfolding take_bytes
run_starts known shown h e = record { part = []; read = nothing_read known; lines = e; written = nothing_shown shown }

module _ (known₀ known known' shown₀ shown shown' : Option (List ℕ)) (h left : Lines) (p : Run known₀ known shown₀ shown h) where
  pub run_goes_on : AfterRead (Ok true) known known' shown shown' h left → Run known₀ known' shown₀ shown' left
  unfolding AfterRead
  run_goes_on a =
      let e = in_parts (first []) p.part a.part in
      record {
        part = p.part ++ a.part;
        read = read_more known₀ known known' p.part a.part p.read a.read;
        lines = a.lines ∙ (ap (λ x. (take_bytes x a.part).lines) p.lines ∙ sym (ap (λ (x : Turned). x.lines) e));
        written = subst (Appends shown₀ shown')
            (ap (λ x. (take_bytes (first []) p.part).output ++ (take_bytes x a.part).output) p.lines ∙ sym (ap (λ (x : Turned). x.output) e))
            (shown_more shown₀ shown shown' _ _ p.written a.written);
      }

  pub run_ends : AfterRead (Ok false) known known' shown shown' h left → AllPrinted known₀ known' shown₀ shown'
  unfolding AfterRead
  run_ends a =
      record {
        input = p.part;
        read = subst (Consumes known₀ known') (append-nil p.part) (read_more known₀ known known' p.part [] p.read a.read);
        ended = a.ended;
        written = subst (Appends shown₀ shown')
            (ap (λ x. (take_bytes (first []) p.part).output ++ at_end x) p.lines ∙ byte_by_byte_exactly p.part)
            (shown_more shown₀ shown shown' _ _ p.written a.written);
      }

-- no byte is read, and none is held
pub no_bytes : (n : ℕ) (a b : Option (List ℕ)) (buffer : List ℕ) → n ≡ 0 → Consumes a b (take n buffer) → Consumes a b []
no_bytes n a b buffer e h = subst (λ (k : ℕ). Consumes a b (take k buffer)) e h
