-- What the reads of a reader come to, one after another: the bytes that it gave, and that the reads were made. By induction on the
-- parts. Assumes nothing.
use mathlib.Core.Path.{◌≡◌, refl, sym, ◌∙◌, ap, subst}
use mathlib.Core.List.{List, [], ◌∷◌, ◌++◌, append_assoc, append-nil}
use Prim.Native.Nat.{ℕ, ◌<◌, ◌≤◌}
use lib.ListN.{length, take}
use Rattle.std.specs.Prelude.{Option, Some, None, Result, Ok, Err}
use Rattle.std.specs.Io.KnownBytes.{Keeps, Consumes, IsAtEnd}
use Rattle.std.specs.declared.io.Error.{Error}
use Rattle.held_line.specs.Lines.{whole}
use Rattle.line_input.specs.Found.{LineFound}
use Rattle.line_input.specs.Found.{Line, End, Failed}
use Rattle.line_input.specs.Taking.{Came, line_ends, going}
use Rattle.line_input.specs.Answers.{EndsInput}
use Rattle.line_input.specs.Reads.{Shows, Reads, no_read, a_read, ReadsFor}

-- the bytes that a reader has given
pub nothing_given : (a : Option (List ℕ)) → Consumes a a []
nothing_given None = tt
nothing_given (Some xs) = refl

pub given_more : (a b c : Option (List ℕ)) (bs cs : List ℕ) → Consumes a b bs → Consumes b c cs → Consumes a c (bs ++ cs)
given_more None b c bs cs p q = tt
given_more (Some xs) None c bs cs p q = absurd p
given_more (Some xs) (Some ys) None bs cs p q = absurd q
given_more (Some xs) (Some ys) (Some zs) bs cs p q = p ∙ (ap (λ l. bs ++ l) q ∙ sym (append_assoc bs cs zs))

pub given_still : (a b c : Option (List ℕ)) (bs : List ℕ) → Consumes a b bs → Keeps b c → Consumes a c bs
given_still None b c bs p q = tt
given_still (Some xs) None c bs p q = absurd p
given_still (Some xs) (Some ys) None bs p q = absurd q
given_still (Some xs) (Some ys) (Some zs) bs p q = p ∙ ap (λ l. bs ++ l) (sym q)

pub whole_more : (ps : List (List ℕ)) (p : List ℕ) → whole (ps ++ (p ∷ [])) ≡ whole ps ++ p
whole_more [] p = append-nil p
whole_more (q ∷ ps) p = ap (λ l. q ++ l) (whole_more ps p) ∙ sym (append_assoc q (whole ps) p)

module _ {R : Type 0} (shows : Shows R) where
  pub reads_then : {s t : R} {ps : List (List ℕ)} → Reads shows s ps t → (n : ℕ) (buffer : List ℕ) (u : R) → shows t (Ok n) buffer u
      → 0 < n → n ≤ length buffer → Reads shows s (ps ++ (take n buffer ∷ [])) u
  reads_then (no_read s) n buffer u h p l = a_read s u u n buffer [] h p l (no_read u)
  reads_then (a_read s t v k b ps g q m rest) n buffer u h p l =
      a_read s t u k b (ps ++ (take n buffer ∷ [])) g q m (reads_then rest n buffer u h p l)

  -- the parts read so far
  pub record SoFar (s₀ s : R) (known₀ known : Option (List ℕ)) (ps : List (List ℕ)) : Type 0 where
    pub bytes : Consumes known₀ known (whole ps)
    pub reads : Reads shows s₀ ps s

  pub none_so_far : (s : R) (known : Option (List ℕ)) → SoFar s s known known []
  none_so_far s known = record { bytes = nothing_given known; reads = no_read s }

  -- the parts that an answer rests on
  pub record Answered (f : LineFound) (came : List (List ℕ) → Came) (buffer : List ℕ) (r : Result (Option ℕ) Error) (s₀ s : R)
      (known₀ known : Option (List ℕ)) (ps : List (List ℕ)) : Type 0 where
    pub bytes : Consumes known₀ known (whole ps)
    pub ended : EndsInput f (came ps) → 0 < length buffer → IsAtEnd known
    pub reads : ReadsFor shows f (came ps) s₀ ps s r

  -- a line up to its LF
  reads_for_a_line : (s u : R) (ps : List (List ℕ)) (c : Came) (r : Result (Option ℕ) Error) → (EndsInput Line c → ⊥) → Reads shows s ps u
      → ReadsFor shows Line c s ps u r
  unfolding ReadsFor EndsInput
  reads_for_a_line s u ps (line_ends l bs) r h g = g
  reads_for_a_line s u ps (going l) r h g = absurd (h tt)

  module _ (came : List (List ℕ) → Came) (buffer : List ℕ) (r : Result (Option ℕ) Error) where
    pub line_without_a_read : (s : R) (known : Option (List ℕ)) → (EndsInput Line (came []) → ⊥) → Answered Line came buffer r s s known known []
    line_without_a_read s known h =
        record {
          bytes = nothing_given known;
          ended = λ e p. absurd (h e);
          reads = reads_for_a_line s s [] (came []) r h (no_read s);
        }

    module _ (s₀ s t : R) (known₀ known known' : Option (List ℕ)) (ps : List (List ℕ)) (g : SoFar s₀ s known₀ known ps) where
      pub answered_where_it_fails : (e : Error) (bs : List ℕ) → Keeps known known' → shows s (Err e) bs t → r ≡ Err e
          → Answered Failed came buffer r s₀ t known₀ known' ps
      unfolding ReadsFor EndsInput
      answered_where_it_fails e bs k h i =
          record {
            bytes = given_still known₀ known known' (whole ps) g.bytes k;
            ended = λ x p. absurd x;
            reads = record { error = e; reads = record { before = s; reads = g.reads; buffer = bs; last = h }; handed = i };
          }

      module _ (bs : List ℕ) (c : Consumes known known' [] × (0 < length bs → IsAtEnd known')) (h : shows s (Ok 0) bs t)
          (long : length bs ≡ length buffer) where
        still : Consumes known₀ known' (whole ps)
        still = subst (Consumes known₀ known') (append-nil (whole ps)) (given_more known₀ known known' (whole ps) [] g.bytes c.0)

        none_left : 0 < length buffer → IsAtEnd known'
        none_left p = c.1 (subst (λ (n : ℕ). 0 < n) (sym long) p)

        pub answered_with_the_end : Answered End came buffer r s₀ t known₀ known' ps
        unfolding ReadsFor
        answered_with_the_end =
            record { bytes = still; ended = λ x p. none_left p; reads = record { before = s; reads = g.reads; buffer = bs; last = h } }

        pub answered_with_the_last_line : (l : List ℕ) → came ps ≡ going l → Answered Line came buffer r s₀ t known₀ known' ps
        unfolding ReadsFor
        answered_with_the_last_line l i =
            record {
              bytes = still;
              ended = λ x p. none_left p;
              reads = subst (λ x. ReadsFor shows Line x s₀ ps t r) (sym i) (record { before = s; reads = g.reads; buffer = bs; last = h });
            }

      module _ (n : ℕ) (bs : List ℕ) (c : Consumes known known' (take n bs)) (h : shows s (Ok n) bs t) (p : 0 < n) (l : n ≤ length bs) where
        more_bytes : Consumes known₀ known' (whole (ps ++ (take n bs ∷ [])))
        more_bytes =
            subst (Consumes known₀ known') (sym (whole_more ps (take n bs)))
            (given_more known₀ known known' (whole ps) (take n bs) g.bytes c)

        pub one_more_so_far : SoFar s₀ t known₀ known' (ps ++ (take n bs ∷ []))
        one_more_so_far = record { bytes = more_bytes; reads = reads_then g.reads n bs t h p l }

        pub answered_with_a_line : (EndsInput Line (came (ps ++ (take n bs ∷ []))) → ⊥)
            → Answered Line came buffer r s₀ t known₀ known' (ps ++ (take n bs ∷ []))
        answered_with_a_line i =
            record {
              bytes = more_bytes;
              ended = λ e q. absurd (i e);
              reads = reads_for_a_line s₀ t (ps ++ (take n bs ∷ [])) (came (ps ++ (take n bs ∷ []))) r i (reads_then g.reads n bs t h p l);
            }
