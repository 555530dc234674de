-- What each function of the crate leaves, from what its callees leave. Assumes nothing.
use mathlib.Core.Path.{◌≡◌, refl, sym, ◌∙◌, ap, ap₂, subst}
use mathlib.Core.Bool.{Bool, true, false, cond}
use mathlib.Core.List.{List, [], ◌∷◌, ◌++◌, append-nil}
use Prim.Native.Nat.{ℕ, zero, suc, ◌+◌, ◌-◌, ◌<◌, ◌≤◌}
use native.Mathlib.Omega.{arith}
use native.Mathlib.Numerals.{add-one}
use lib.ListN.{length, take, drop, get_or, length-drop}
use lib.Seq.{take_all, take-take, take-add, take-suc, length-take-le}
use lib.Dec.{eqb, ltb}
use borrow.Author.Tests.{ltb-true, ltb-false, eq-eqb, ne_eqb}
use Rattle.held_line.specs.Holding.{holding, line_at, line_kept, held_at}
use Rattle.held_line.proofs.Held.{byte_held}
use Rattle.pair_line.specs.PairProgram.{line_of, single, pair}
use Rattle.text_out.specs.Put.{Put}
use Rattle.text_out.proofs.Put.{put_none, put_then, put_length}
use Rattle.text_out.specs.declared.Out.{Out}
use Rattle.text_out.specs.Outs.{then_put}
use Rattle.text_out.proofs.Outs.{then_put_nothing, then_put_both, left_whole}
use Rattle.pair_line.specs.Room.{line_room}
use Rattle.pair_line.specs.Answers.{with_lf}
use Rattle.pair_line.proofs.Ways.{pair_has_room, single_has_room}
use Rattle.pair_input.specs.declared.Held.{Held}
use Rattle.pair_input.specs.declared.Held.TheVariants.{First, Second}
use Rattle.pair_input.specs.ByteByByte.{Lines, first, second, most_held, Turned, turned, take_byte, take_bytes, at_end}
use Rattle.pair_input.specs.Held.{lines_of, Fits, Holds, InMemory, first_in_memory, second_in_memory, byte_in_memory, bytes_in_memory, Turns, Feeds}
use Rattle.pair_input.specs.Inner.Held.{TurnKept}
use Rattle.pair_input.proofs.Exactly.{in_parts}

-- a byte of the input, by what is held
module _ (memory : List ℕ) (held : Held) (byte : ℕ) (q : Holds memory held) where
  module _ (n : ℕ) (i : held ≡ First n) where
    pub first_few : n ≤ most_held
    unfolding Fits
    first_few = subst Fits i q.fits

    lines_first : lines_of memory held ≡ first (line_at memory 0 n)
    unfolding lines_of
    lines_first = ap (lines_of memory) i

    pub first_ends : byte ≡ 10
        → TurnKept (take_byte (lines_of memory held) byte) (byte_in_memory memory held byte) memory (Second n 0) × ((o : Out) → o ≡ then_put o (take_byte (lines_of memory held) byte).output)
    unfolding take_byte lines_of Fits byte_in_memory
    first_ends e =
        let t : take_byte (lines_of memory held) byte ≡ turned (second (line_at memory 0 n) []) [] = ap
        (λ h. take_byte h byte) lines_first ∙ rw (eq-eqb byte 10 e) in (
          record {
            holds = record { fits = (first_few, omega arith); long = q.long };
            is_stored = sym (ap (λ h. byte_in_memory memory h byte) i ∙ rw (eq-eqb byte 10 e));
            lines = sym (ap (λ x. x.lines)
                t);
          },
          λ o. sym (ap (λ x. then_put o x.output) t ∙ then_put_nothing o),
        )

    pub first_goes_on : (byte ≡ 10 → ⊥) → (left : List ℕ) (next : ℕ) → line_kept left next ≡ held_at most_held memory 0 n byte
        → TurnKept (take_byte (lines_of memory held) byte) (byte_in_memory memory held byte) left (First next) × ((o : Out) → o ≡ then_put o (take_byte (lines_of memory held) byte).output)
    unfolding take_byte lines_of Fits byte_in_memory
    first_goes_on d left next k =
        let h = byte_held most_held memory 0 n byte first_few (omega (arith, q.long)) left next k in
        let t : take_byte (lines_of memory held) byte ≡ turned (first (holding most_held (line_at memory 0 n) byte)) [] = ap
        (λ x. take_byte x byte) lines_first ∙ rw (ne_eqb byte 10 d) in (
          record {
            holds = record { fits = h.few; long = omega (arith, h.long, q.long) };
            is_stored = ap first_in_memory k ∙ sym (ap (λ x. byte_in_memory memory x byte) i ∙ rw (ne_eqb byte 10 d));
            lines = ap first h.line ∙ sym (ap (λ x. x.lines) t);
          },
          λ o. sym (ap (λ x. then_put o x.output) t ∙ then_put_nothing o),
        )

  module _ (n m : ℕ) (i : held ≡ Second n m) where
    pub second_few : (n ≤ most_held) × (m ≤ most_held)
    unfolding Fits
    second_few = subst Fits i q.fits

    pub both_inside : n + m ≤ length memory
    both_inside = omega (arith, second_few.0, second_few.1, q.long)

    lines_second : lines_of memory held ≡ second (line_at memory 0 n) (line_at memory n m)
    unfolding lines_of
    lines_second = ap (lines_of memory) i

    pub second_ends : byte ≡ 10 → (o : Out) {p : Out} → p ≡ then_put o (with_lf (pair (line_at memory 0 n) (line_at memory n m)))
        → TurnKept (take_byte (lines_of memory held) byte) (byte_in_memory memory held byte) memory (First 0) × (p ≡ then_put o (take_byte (lines_of memory held) byte).output)
    unfolding take_byte lines_of Fits byte_in_memory
    second_ends e o h =
        let t : take_byte (lines_of memory held) byte ≡ turned (first [])
        (with_lf (pair (line_at memory 0 n) (line_at memory n m))) = ap (λ x. take_byte x byte) lines_second ∙
        rw (eq-eqb byte 10 e) in (
          record {
            holds = record { fits = omega arith; long = q.long };
            is_stored = sym (ap (λ x. byte_in_memory memory x byte) i ∙ rw (eq-eqb byte 10 e));
            lines = sym (ap (λ x. x.lines) t);
          },
          h ∙ sym (ap (λ x. then_put o x.output) t),
        )

    pub second_goes_on : (byte ≡ 10 → ⊥) → (left : List ℕ) (next : ℕ) → line_kept left next ≡ held_at most_held memory n m byte
        → TurnKept (take_byte (lines_of memory held) byte) (byte_in_memory memory held byte) left (Second n next) × ((o : Out) → o ≡ then_put o (take_byte (lines_of memory held) byte).output)
    unfolding take_byte lines_of Fits byte_in_memory
    second_goes_on d left next k =
        let h = byte_held most_held memory n m byte second_few.1 (omega (arith, second_few.0, q.long)) left next k in
        let t : take_byte (lines_of memory held) byte ≡ turned (second (line_at memory 0 n) (holding most_held (line_at memory n m)
        byte)) [] = ap (λ x. take_byte x byte) lines_second ∙ rw (ne_eqb byte 10 d) in (
          record {
            holds = record { fits = (second_few.0, h.few); long = omega (arith, h.long, q.long) };
            is_stored = ap (second_in_memory n) k ∙ sym (ap (λ x. byte_in_memory memory x byte) i ∙ rw (ne_eqb byte 10 d));
            lines = ap₂ second h.before h.line ∙ sym (ap (λ x. x.lines) t);
          },
          λ o. sym (ap (λ x. then_put o x.output) t ∙ then_put_nothing o),
        )

-- no byte prints more than the longest line
output_by : (o : List ℕ) (b : Bool) (h k : Lines) → length o ≤ line_room → length (cond b (turned h o) (turned k [])).output ≤ line_room
output_by o true h k l = l
output_by o false h k l = omega arith

byte_output : (h : Lines) (b : ℕ) → length (take_byte h b).output ≤ line_room
unfolding take_byte
byte_output (first l) b = output_by [] (eqb b 10) (second l []) (first (holding most_held l b)) (omega arith)
byte_output (second l m) b = output_by (with_lf (pair l m)) (eqb b 10) (first []) (second l (holding most_held m b)) (pair_has_room l m)

stored_then : (xs memory : List ℕ) (held : Held) (b : ℕ)
    → bytes_in_memory memory held (xs ++ (b ∷ []))
    ≡ byte_in_memory (bytes_in_memory memory held xs).memory (bytes_in_memory memory held xs).held b
unfolding bytes_in_memory
stored_then [] memory held b = refl
stored_then (x ∷ xs) memory held b = stored_then xs (byte_in_memory memory held x).memory (byte_in_memory memory held x).held b

-- bytes of the input, one after another
pub record Feeding (memory : List ℕ) (held : Held) (bytes out : List ℕ) (memory' : List ℕ) (held' : Held) (out' : List ℕ) (used at : ℕ) : Type 0 where
  pub turns : Turns (take_bytes (lines_of memory held) (take used bytes)) (bytes_in_memory memory held (take used bytes)) out 0 memory' held' out' at
  pub within : used ≤ length bytes
  pub fits : at ≤ length out
  pub goes : (k : ℕ) → k < used → length (take_bytes (lines_of memory held) (take k bytes)).output + line_room ≤ length out
  pub out_long : length out' ≡ length out

-- the same, as the buffer is put by the one that started with it
pub record FeedingTo (memory : List ℕ) (held : Held) (bytes : List ℕ) (o : Out) (memory' : List ℕ) (held' : Held) (p : Out) (used : ℕ) : Type 0 where
  pub feeding : Feeding memory held bytes o.bytes.now memory' held' p.bytes.now used p.at
  pub is : p ≡ then_put o (take_bytes (lines_of memory held) (take used bytes)).output

pub nothing_fed : (memory : List ℕ) (held : Held) (bytes out : List ℕ) → Holds memory held → Feeding memory held bytes out memory held out 0 0
unfolding take_bytes bytes_in_memory
nothing_fed memory held bytes out q =
    record {
      turns = record { holds = q; is_stored = refl; lines = refl; put = put_none out 0 };
      within = omega arith;
      fits = omega
          arith;
      goes = λ k l. absurd (omega (arith, l));
      out_long = refl;
    }

module _ (memory : List ℕ) (held : Held) (bytes out memory₁ : List ℕ) (held₁ : Held) (out₁ : List ℕ) (used at : ℕ)
    (f : Feeding memory held bytes out memory₁ held₁ out₁ used at) where
  module _ (u : used < length bytes) where
    pub fed_full : length out₁ - at < line_room → Feeds memory held bytes out memory₁ held₁ out₁ used at
    fed_full h = record { turns = f.turns; within = f.within; fits = f.fits; goes = f.goes; stops = λ x. omega (arith, h, f.out_long, f.fits) }

    abbrev t₁ : Turned
    t₁ = take_bytes (lines_of memory held) (take used bytes)

    abbrev t₂ : Turned
    t₂ = take_byte t₁.lines (get_or bytes used 0)

    next_byte : take_bytes (lines_of memory held) (take (used + 1) bytes) ≡ turned t₂.lines (t₁.output ++ t₂.output)
    unfolding take_bytes
    next_byte =
        ap (λ (k : ℕ). take_bytes (lines_of memory held) (take k bytes)) (add-one used)
        ∙ (ap (take_bytes (lines_of memory held)) (take-suc bytes used 0 u)
        ∙ (in_parts (lines_of memory held) (take used bytes) (get_or bytes used 0 ∷ [])
        ∙ ap (λ o. turned t₂.lines (t₁.output ++ o)) (append-nil t₂.output)))

    next_stored : byte_in_memory memory₁ held₁ (get_or bytes used 0) ≡ bytes_in_memory memory held (take (used + 1) bytes)
    next_stored =
        ap (λ (s : InMemory). byte_in_memory s.memory s.held (get_or bytes used 0)) f.turns.is_stored
        ∙ sym (ap (λ (k : ℕ). bytes_in_memory memory held (take k bytes)) (add-one used)
        ∙ (ap (bytes_in_memory memory held) (take-suc bytes used 0 u) ∙ stored_then (take used bytes) memory held (get_or bytes used 0)))

    -- there was room for this byte too
    goes_on : line_room ≤ length out₁ - at → (j : ℕ) (b : Bool) → ltb j used ≡ b → j < used + 1
        → length (take_bytes (lines_of memory held) (take j bytes)).output + line_room ≤ length out
    goes_on h j true e l = f.goes j (ltb-true j used e)
    goes_on h j false e l =
        let i : j ≡ used = omega (arith, ltb-false j used e, l) in
        subst (λ (x : ℕ). length (take_bytes (lines_of memory held) (take x bytes)).output + line_room ≤ length out)
        (sym i) (omega (arith, f.turns.put.behind, h, f.out_long))

    pub byte_fed : line_room ≤ length out₁ - at → (memory₂ : List ℕ) (held₂ : Held) (out₂ : List ℕ) (next : ℕ)
        → Turns (take_byte (lines_of memory₁ held₁) (get_or bytes used 0)) (byte_in_memory memory₁ held₁ (get_or bytes used 0)) out₁ at memory₂ held₂ out₂ next
        → Feeding memory held bytes out memory₂ held₂ out₂ (used + 1) next
    byte_fed h memory₂ held₂ out₂ next g =
        let g' = subst (λ x. Turns (take_byte x (get_or bytes used 0)) (byte_in_memory memory₁ held₁ (get_or bytes used 0)) out₁ at memory₂ held₂ out₂ next) f.turns.lines g in
        record {
          turns = subst (λ x. Turns x (bytes_in_memory memory held (take (used + 1) bytes)) out 0 memory₂ held₂ out₂ next) (sym next_byte)
              (record { holds = g'.holds; is_stored = g'.is_stored ∙ next_stored; lines = g'.lines; put = put_then f.turns.put g'.put });
          within = omega (arith, u);
          fits = omega (arith, h, f.out_long, g'.put.behind, byte_output t₁.lines (get_or bytes used 0), put_length g'.put);
          goes = λ j l. goes_on h j (ltb j used) refl l;
          out_long = put_length g'.put ∙ f.out_long;
        }

  all_fed : length bytes ≤ used → Feeds memory held bytes out memory₁ held₁ out₁ used at
  all_fed h = record { turns = f.turns; within = f.within; fits = f.fits; goes = f.goes; stops = λ x. absurd (omega (arith, h, x)) }

  pub all_fed_as : length bytes ≤ used → Feeds memory held bytes out memory₁ held₁ out₁ (length bytes) at
  all_fed_as h =
      let z : used ≡ length bytes = omega (arith, h, f.within) in
      subst (λ (u : ℕ). Feeds memory held bytes out memory₁ held₁ out₁ u at) z (all_fed h)

-- bytes fed to a buffer that is put by one
module _ (memory : List ℕ) (held : Held) (bytes : List ℕ) (o : Out) where
  pub none_fed_to : o.at ≡ 0 → Holds memory held → FeedingTo memory held bytes o memory held o 0
  unfolding take_bytes
  none_fed_to z q =
      record {
        feeding = subst (Feeding memory held bytes o.bytes.now memory held o.bytes.now 0) (sym z) (nothing_fed memory held bytes o.bytes.now q);
        is = sym (then_put_nothing o);
      }

  module _ (memory₁ : List ℕ) (held₁ : Held) (p : Out) (used : ℕ) (f : FeedingTo memory held bytes o memory₁ held₁ p used) where
    -- the buffer as it is then
    pub fed_to : {left : List ℕ} (u : ℕ) → (o.bytes.ghost_name ≡ p.bytes.ghost_name → left ≡ p.bytes.now)
        → Feeds memory held bytes o.bytes.now memory₁ held₁ p.bytes.now u p.at → Feeds memory held bytes o.bytes.now memory₁ held₁ left u p.at
    unfolding then_put
    fed_to u h g = subst (λ us. Feeds memory held bytes o.bytes.now memory₁ held₁ us u p.at) (sym (h (sym (ap (λ m. m.bytes.ghost_name) f.is)))) g

    module _ (u : used < length bytes) (h : line_room ≤ length o.bytes.now - p.at) where
      pub byte_fed_to : (memory₂ : List ℕ) (held₂ : Held) (q : Out)
          → TurnKept (take_byte (lines_of memory₁ held₁) (get_or bytes used 0)) (byte_in_memory memory₁ held₁ (get_or bytes used 0)) memory₂ held₂
          → q ≡ then_put p (take_byte (lines_of memory₁ held₁) (get_or bytes used 0)).output
          → FeedingTo memory held bytes o memory₂ held₂ q (used + 1)
      byte_fed_to memory₂ held₂ q g e =
          let room : line_room ≤ length p.bytes.now - p.at = omega (arith, h, f.feeding.out_long) in
          let fits = byte_output (lines_of memory₁ held₁) (get_or bytes used 0) in
          record {
            feeding = byte_fed memory held bytes o.bytes.now memory₁ held₁ p.bytes.now used p.at f.feeding u room memory₂ held₂ q.bytes.now q.at
                (record { holds = g.holds; is_stored = g.is_stored; lines = g.lines; put = left_whole p q (omega (arith, room, fits)) e (λ z. refl) });
            is = e ∙ (ap₂ (λ x h. then_put x (take_byte h (get_or bytes used 0)).output) f.is f.feeding.turns.lines
                ∙ (sym (then_put_both o _ _)
                ∙ sym (ap (λ x. then_put o x.output) (next_byte memory held bytes o.bytes.now memory₁ held₁ p.bytes.now used p.at f.feeding u))));
          }

-- the end of the input
module _ (memory : List ℕ) (held : Held) (q : Holds memory held) (o : Out) where
  line_is_some : (start n : ℕ) → (n ≡ 0 → ⊥) → start + n ≤ length memory → (b : ℕ) × (l : List ℕ) × (line_at memory start n ≡ b ∷ l)
  line_is_some start n d h = some (line_at memory start n) (omega (
    arith,
    length-take-le n (drop start memory)
        (omega (arith, h, length-drop start memory)),
    positive n d,
  )) refl
    where
      positive : (k : ℕ) → (k ≡ 0 → ⊥) → 0 < k
      positive zero e = absurd (e refl)
      positive (suc k) e = omega arith

      some : (l : List ℕ) → 0 < length l → line_at memory start n ≡ l → (b : ℕ) × (m : List ℕ) × (line_at memory start n ≡ b ∷ m)
      some [] p e = absurd (omega (arith, p))
      some (b ∷ m) p e = (b, m, e)

  module _ (n : ℕ) (i : held ≡ First n) where
    pub none_left : n ≡ 0 → o ≡ then_put o (at_end (lines_of memory held))
    unfolding at_end lines_of
    none_left e = sym (ap (λ h. then_put o (at_end (lines_of memory h))) (i ∙ ap First e) ∙ then_put_nothing o)

    pub one_left : (n ≡ 0 → ⊥) → {p : Out} → p ≡ then_put o (with_lf (single (line_of (line_at memory 0 n)))) → p ≡ then_put o (at_end (lines_of memory held))
    unfolding at_end lines_of
    one_left d h =
        let x = line_is_some 0 n d (omega (arith, first_few memory held 0 q n i, q.long)) in
        h ∙ ap (then_put o) (ap (λ l. with_lf (single (line_of l))) x.2 ∙ sym (ap (λ k. at_end (lines_of memory k)) i ∙ ap (λ l. at_end (first l)) x.2))

  module _ (n m : ℕ) (i : held ≡ Second n m) where
    pub single_left : m ≡ 0 → {p : Out} → p ≡ then_put o (with_lf (single (line_of (line_at memory 0 n)))) → p ≡ then_put o (at_end (lines_of memory held))
    unfolding at_end lines_of
    single_left e h = h ∙ ap (then_put o) (sym (ap (λ k. at_end (lines_of memory k)) (i ∙ ap (Second n) e)))

    pub pair_left : (m ≡ 0 → ⊥) → {p : Out} → p ≡ then_put o (with_lf (pair (line_at memory 0 n) (line_at memory n m))) → p ≡ then_put o (at_end (lines_of memory held))
    unfolding at_end lines_of
    pair_left d h =
        let x = line_is_some n m d (both_inside memory held 0 q n m i) in
        h ∙ ap (then_put o) (ap (λ l. with_lf (pair (line_at memory 0 n) l)) x.2 ∙ sym (ap (λ k. at_end (lines_of memory k)) i ∙ ap
        (λ l. at_end (second (line_at memory 0 n) l)) x.2))

-- Where there are bytes and the buffer has room for a line, at least one byte is taken.
pub feeds_some : (memory : List ℕ) (held : Held) (bytes out memory₁ : List ℕ) (held₁ : Held) (out₁ : List ℕ)
    (used at : ℕ) → Feeds memory held bytes out memory₁ held₁ out₁ used at
    → 0 < length bytes → line_room ≤ length out → 0 < used
unfolding take_bytes
feeds_some memory held bytes out memory₁ held₁ out₁ zero at f b l = absurd (omega (arith, f.stops b, f.turns.put.behind, l))
feeds_some memory held bytes out memory₁ held₁ out₁ (suc used) at f b l = omega arith

-- an empty memory
pub nothing_held : (memory : List ℕ) → lines_of memory (First 0) ≡ first []
unfolding lines_of
nothing_held memory = refl

-- the end of the input prints no more than the longest line
pub end_output : (h : Lines) → length (at_end h) ≤ line_room
unfolding at_end
end_output (first []) = omega arith
end_output (first (b ∷ l)) = single_has_room (b ∷ l)
end_output (second l []) = single_has_room l
end_output (second l (b ∷ m)) = pair_has_room l (b ∷ m)

pub end_inside : (h : Lines) {out left : List ℕ} {r : ℕ} → Put out 0 (at_end h) left r → line_room ≤ length out → r ≤ length left
end_inside h p l = omega (arith, p.behind, end_output h, put_length p, l)

-- The lines held after a part of the input, and after the next part of it.
pub fed_further : (h : Lines) (bytes : List ℕ) (from used : ℕ) → from + used ≤ length bytes
    → (take_bytes (take_bytes h (take from bytes)).lines (take used (take (length bytes - from)
    (drop from bytes)))).lines ≡ (take_bytes h (take (from + used) bytes)).lines
fed_further h bytes from used l =
    ap (λ us. (take_bytes (take_bytes h (take from bytes)).lines us).lines) (take-take used (length bytes - from) (drop from bytes) (omega (arith, l)))
    ∙ sym (ap (λ us. (take_bytes h us).lines) (take-add from used bytes) ∙ ap (λ x. x.lines) (in_parts h (take from bytes) (take used (drop from bytes))))

pub all_taken : (h : Lines) (bytes : List ℕ) (from : ℕ) → length bytes ≤ from → (take_bytes h (take from bytes)).lines ≡ (take_bytes h bytes).lines
all_taken h bytes from l = ap (λ us. (take_bytes h us).lines) (take_all from bytes l)

pub none_taken : (h : Lines) (bytes : List ℕ) → h ≡ (take_bytes h (take 0 bytes)).lines
unfolding take_bytes
none_taken h bytes = refl

-- what is printed for a part of the input, and for the next part of it
pub fed_output : (h : Lines) (bytes : List ℕ) (from used : ℕ) → from + used ≤ length bytes
    → (take_bytes h (take (from + used) bytes)).output
    ≡ (take_bytes h (take from bytes)).output
    ++ (take_bytes (take_bytes h (take from bytes)).lines (take used (take (length bytes - from) (drop from bytes)))).output
fed_output h bytes from used l =
    ap (λ us. (take_bytes h us).output) (take-add from used bytes)
    ∙ (ap (λ (x : Turned). x.output) (in_parts h (take from bytes) (take used (drop from bytes)))
    ∙ ap (λ us. (take_bytes h (take from bytes)).output ++ (take_bytes (take_bytes h (take from bytes)).lines us).output)
    (sym (take-take used (length bytes - from) (drop from bytes) (omega (arith, l)))))

pub all_printed : (h : Lines) (bytes : List ℕ) (from : ℕ) → length bytes ≤ from → (take_bytes h (take from bytes)).output ≡ (take_bytes h bytes).output
all_printed h bytes from l = ap (λ us. (take_bytes h us).output) (take_all from bytes l)

pub none_printed : (h : Lines) (bytes : List ℕ) → [] ≡ (take_bytes h (take 0 bytes)).output
unfolding take_bytes
none_printed h bytes = refl
