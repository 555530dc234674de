-- The unread end of a line starts at the first token that cannot follow. Each reader runs along the tokens of a line: what it has read
-- fits any continuation, where it stops a sort can be completed, and on a line with the same tokens it goes the same way. Readers that
-- run along are put one after another, or after a token; `sort` goes by induction on the bytes of the line. Assumes nothing.
use mathlib.Core.Path.{◌≡◌, refl, sym, ◌∙◌, ap, subst}
use mathlib.Core.Logic.{◌↔◌}
use mathlib.Core.Bool.{Bool, true, false, cond}
use mathlib.Core.List.{List, [], ◌∷◌, ◌++◌}
use Prim.Native.Nat.{ℕ, zero, suc, ◌+◌, ◌-◌, ◌≤◌, ◌<◌}
use native.Mathlib.Omega.{arith}
use lib.ListN.{length, drop}
use lib.Dec.{eqb, ltb}
use borrow.Author.Tests.{eqb-true, ltb-true, ltb-false}
use Rattle.std.specs.Prelude.{Ok, Err}
use Rattle.resolved_sort.specs.declared.Sort.{Sort}
use Rattle.resolved_sort.specs.declared.ComplexSort.{ComplexSort}
use Rattle.resolved_sort.specs.Tree.{primitive, Tree, flat, container, function, Trees, no_args, arg, arity}
use Rattle.resolved_sort.specs.Entries.{Joined}
use Rattle.resolved_sort.specs.Entries.{At, Nothing, Full}
use Rattle.resolved_sort.specs.Storage.{sorts_of}
use Rattle.resolved_sort.specs.Checks.{first_failing, Tested}
use Rattle.resolved_sort.specs.Entries.{refused_or, Stored, stored}
use Rattle.sort_text.specs.declared.Unread.TheVariants.{Refused, NotASort}
use Rattle.sort_text.specs.Reading.{store, read_checks, words_left, stored_by, read_as_of, reading_words, reading}
use Rattle.sort_text.specs.Tokens.{is_letter, NextToken, end, word, open_bracket, close_bracket, hash, arrow, bad}
use Rattle.sort_text.specs.Tokens.{run, past, skip, dash, start, next_at, next}
use Rattle.sort_text.specs.Parse.{Parsed, parsed, stuck, ◌then-read◌, WordMeaning, basic, operator, unknown, meaning}
use Rattle.sort_text.specs.Parse.{sort_word, closing, in_brackets, bracketed, operand_of, operand_at, operand, snoc, alone}
use Rattle.sort_text.specs.Parse.{rest_at, rest, sort, ending, line}
use Rattle.sort_text.specs.Grammar.{Operand, basic_sort, container_of, SortOf, one_operand, function_of, Operands, first, another, LineOf}
use Rattle.sort_text.specs.CannotFollow.{BareToken, bare_word, bare_open, bare_close, bare_hash, bare_arrow, no_token, no_more}
use Rattle.sort_text.specs.CannotFollow.{bare, beyond, after_tokens, SameTokens, CanBegin, FirstThatCannotFollow}
use Rattle.sort_text.proofs.Suffix.{sort_suffix, unread_end}
use Rattle.sort_text.proofs.Progress.{word_takes, open_bracket_takes, hash_takes, arrow_takes, operand_takes}
use Rattle.sort_text.proofs.Depth.{sort_is}
use Rattle.sort_text.proofs.Grammar.{Closed, arity_snoc, line_derived}
use Rattle.sort_text.proofs.Exactly.{Stops, rest_arrow, rest_hash, line_exactly}
use Rattle.std.proofs.lemmas.Bool.{and_from}
use Rattle.sort_text.proofs.RoundTrip.{no_letter, letters, next_word, next_sort_word, meaning_sort_word}

-- tokens by themselves
abbrev pub rebuilt : BareToken → List ℕ → NextToken
rebuilt (bare_word w) bs = word w bs
rebuilt bare_open bs = open_bracket bs
rebuilt bare_close bs = close_bracket bs
rebuilt bare_hash bs = hash bs
rebuilt bare_arrow bs = arrow bs
rebuilt no_token bs = bad
rebuilt no_more bs = end

rebuilt_is : (n : NextToken) → n ≡ rebuilt (bare n) (beyond n)
rebuilt_is end = refl
rebuilt_is (word w bs) = refl
rebuilt_is (open_bracket bs) = refl
rebuilt_is (close_bracket bs) = refl
rebuilt_is (hash bs) = refl
rebuilt_is (arrow bs) = refl
rebuilt_is bad = refl

-- the token of a line that begins with the same token
again : (bs cs : List ℕ) (n : NextToken) → next is_letter bs ≡ n → bare (next is_letter bs) ≡ bare (next is_letter cs)
    → next is_letter cs ≡ rebuilt (bare n) (beyond (next is_letter cs))
again bs cs n e a = rebuilt_is (next is_letter cs) ∙ ap (λ b. rebuilt b (beyond (next is_letter cs))) (sym a ∙ ap bare e)

-- lines that begin with the same tokens
pub same_refl : (i : ℕ) (bs : List ℕ) → SameTokens i bs bs
unfolding SameTokens
same_refl zero bs = tt
same_refl (suc i) bs = (refl, same_refl i (beyond (next is_letter bs)))

same_next : (bs cs : List ℕ) → SameTokens 1 bs cs → bare (next is_letter bs) ≡ bare (next is_letter cs)
unfolding SameTokens
same_next bs cs a = a.0

-- a line whose first i tokens are tokens, and neither its end nor a byte that starts none
abbrev pub IsToken : NextToken → Type 0
IsToken end = ⊥
IsToken (word w bs) = Unit {0}
IsToken (open_bracket bs) = Unit {0}
IsToken (close_bracket bs) = Unit {0}
IsToken (hash bs) = Unit {0}
IsToken (arrow bs) = Unit {0}
IsToken bad = ⊥

unfoldable pub AllTokens : ℕ → List ℕ → Type 0
AllTokens zero bs = Unit {0}
AllTokens (suc i) bs = IsToken (next is_letter bs) × AllTokens i (beyond (next is_letter bs))

-- tokens of one reader and then of another
unfoldable pub both : ℕ → ℕ → ℕ
both zero j = j
both (suc i) j = suc (both i j)

pub both_is : (i j : ℕ) → both i j ≡ i + j
unfolding both
both_is zero j = omega arith
both_is (suc i) j = omega (arith, both_is i j)

all_append : (i j : ℕ) (bs : List ℕ) → AllTokens i bs → AllTokens j (after_tokens i bs) → AllTokens (both i j) bs
unfolding AllTokens after_tokens both
all_append zero j bs a b = b
all_append (suc i) j bs a b = (a.0, all_append i j _ a.1 b)

pub same_fewer : (i j : ℕ) (bs cs : List ℕ) → SameTokens (both i j) bs cs → SameTokens i bs cs
unfolding SameTokens both
same_fewer zero j bs cs a = tt
same_fewer (suc i) j bs cs a = (a.0, same_fewer i j _ _ a.1)

same_later : (i j : ℕ) (bs cs : List ℕ) → SameTokens (both i j) bs cs → SameTokens j (after_tokens i bs) (after_tokens i cs)
unfolding SameTokens after_tokens both
same_later zero j bs cs a = a
same_later (suc i) j bs cs a = same_later i j _ _ a.1

pub same_append : (i j : ℕ) (bs cs : List ℕ) → SameTokens i bs cs → SameTokens j (after_tokens i bs) (after_tokens i cs) → SameTokens (both i j) bs cs
unfolding SameTokens after_tokens both
same_append zero j bs cs a b = b
same_append (suc i) j bs cs a b = (a.0, same_append i j _ _ a.1 b)

after_append : (i j : ℕ) (bs : List ℕ) → after_tokens (both i j) bs ≡ after_tokens j (after_tokens i bs)
unfolding after_tokens both
after_append zero j bs = refl
after_append (suc i) j bs = after_append i j (beyond (next is_letter bs))

-- a relation of the grammar: bytes, the tree that they begin with, and the bytes after it
abbrev Relation : Type 1
Relation = List ℕ → Tree → List ℕ → Type 0

-- the tokens that were read, with another continuation; `apart` since no letter may follow a word
record Fitted (P : Relation) (j : ℕ) (bs : List ℕ) (t : Tree) (ds : List ℕ) : Type 0 where
  bytes : List ℕ
  derived : P bytes t ds
  apart : no_letter bytes ≡ true
  same : SameTokens j bs bytes
  goes_on : after_tokens j bytes ≡ ds

-- the first i tokens, completed
record Completed (P : Relation) (i : ℕ) (bs ds : List ℕ) : Type 0 where
  bytes : List ℕ
  tree : Tree
  derived : P bytes tree ds
  apart : no_letter bytes ≡ true
  same : SameTokens i bs bytes

abbrev IsStuck : Parsed → Type 0
IsStuck (parsed t cs) = ⊥
IsStuck (stuck cs) = Unit {0}

-- What a reader F makes of bs, beside the relation P: a tree and what is left,
record Through (P : Relation) (F : List ℕ → Parsed) (bs : List ℕ) (t : Tree) (cs : List ℕ) : Type 0 where
  taken : ℕ
  tokens : AllTokens taken bs
  left_is : cs ≡ after_tokens taken bs
  fits : (ds : List ℕ) → no_letter ds ≡ true → Fitted P taken bs t ds
  alike : (es : List ℕ) → SameTokens (suc taken) bs es → F es ≡ parsed t (after_tokens taken es)

-- or what is left from the token that cannot follow.
record Stopped (P : Relation) (F : List ℕ → Parsed) (bs cs : List ℕ) : Type 0 where
  taken : ℕ
  tokens : AllTokens taken bs
  left_is : cs ≡ skip (after_tokens taken bs)
  completes : (ds : List ℕ) → no_letter ds ≡ true → Completed P taken bs ds
  alike : (es : List ℕ) → SameTokens (suc taken) bs es → IsStuck (F es)

abbrev Runs : Relation → (List ℕ → Parsed) → List ℕ → Parsed → Type 0
Runs P F bs (parsed t cs) = Through P F bs t cs
Runs P F bs (stuck cs) = Stopped P F bs cs

-- something to go on with
record Ahead (P : Relation) (ds : List ℕ) : Type 0 where
  bytes : List ℕ
  tree : Tree
  derived : P bytes tree ds
  apart : no_letter bytes ≡ true

-- the same, whatever tree came before
record Onward (Q : Tree → Relation) (ds : List ℕ) : Type 0 where
  bytes : List ℕ
  tree : Tree → Tree
  derived : (t : Tree) → Q t bytes (tree t) ds
  apart : no_letter bytes ≡ true

-- a token that cannot follow, at once
stops_here : (P : Relation) (F : List ℕ → Parsed) (bs : List ℕ) → ((ds : List ℕ) → no_letter ds ≡ true → Ahead P ds)
    → ((es : List ℕ) → bare (next is_letter bs) ≡ bare (next is_letter es) → IsStuck (F es)) → Stopped P F bs (skip bs)
unfolding SameTokens after_tokens AllTokens
stops_here P F bs a s = record {
  taken = 0;
  tokens = tt;
  left_is = refl;
  completes = λ ds n. let x = a ds n in record { bytes = x.bytes; tree = x.tree; derived = x.derived; apart = x.apart; same = tt };
  alike = λ es z. s es z.0;
}

-- nothing read
data Pure : Tree → List ℕ → Tree → List ℕ → Type 0 where
  pure : {t : Tree} {bs : List ℕ} → Pure t bs t bs

pure_runs : (t : Tree) (bs : List ℕ) → Through (Pure t) (parsed t) bs t bs
unfolding SameTokens after_tokens AllTokens
pure_runs t bs = record {
  taken = 0;
  tokens = tt;
  left_is = refl;
  fits = λ ds n. record { bytes = ds; derived = pure; apart = n; same = tt; goes_on = refl };
  alike = λ es z. refl;
}

-- a token in front
record Fronted (R : Relation) (bs ds : List ℕ) (u : Tree) (fs : List ℕ) : Type 0 where
  bytes : List ℕ
  derived : R bytes u fs
  apart : no_letter bytes ≡ true
  same : bare (next is_letter bs) ≡ bare (next is_letter bytes)
  goes_on : beyond (next is_letter bytes) ≡ ds

module _ (P R : Relation) (F G : List ℕ → Parsed) (bs cs : List ℕ) (e : beyond (next is_letter bs) ≡ cs) (token : IsToken (next is_letter bs))
    (front : (ds fs : List ℕ) (u : Tree) → no_letter ds ≡ true → P ds u fs → Fronted R bs ds u fs)
    (goes : (es : List ℕ) → bare (next is_letter bs) ≡ bare (next is_letter es) → G es ≡ F (beyond (next is_letter es))) where
  one_more : (i : ℕ) → AllTokens i cs → AllTokens (suc i) bs
  unfolding AllTokens
  one_more i a = (token, subst (AllTokens i) (sym e) a)

  same_front : (i : ℕ) (fs xs : List ℕ) (u : Tree) (f : Fronted R bs xs u fs) → SameTokens i cs xs → SameTokens (suc i) bs f.bytes
  unfolding SameTokens
  same_front i fs xs u f a =
      (f.same, subst (λ x. SameTokens i x (beyond (next is_letter f.bytes))) (sym e) (subst (SameTokens i cs) (sym f.goes_on) a))

  behind : (i : ℕ) (es : List ℕ) → SameTokens (suc i) bs es → SameTokens i cs (beyond (next is_letter es))
  unfolding SameTokens
  behind i es a = subst (λ x. SameTokens i x (beyond (next is_letter es))) e a.1

  same_head : (i : ℕ) (es : List ℕ) → SameTokens (suc i) bs es → bare (next is_letter bs) ≡ bare (next is_letter es)
  unfolding SameTokens
  same_head i es a = a.0

  after_front : (i : ℕ) (xs : List ℕ) → after_tokens (suc i) xs ≡ after_tokens i (beyond (next is_letter xs))
  unfolding after_tokens
  after_front i xs = refl

  token_runs : (p : Parsed) → Runs P F cs p → Runs R G bs p
  token_runs (parsed t ds) r = record {
    taken = suc r.taken;
    tokens = one_more r.taken r.tokens;
    left_is = r.left_is ∙ sym (after_front r.taken bs ∙ ap (after_tokens r.taken) e);
    fits = λ fs n.
        let x = r.fits fs n in
        let f = front x.bytes fs t x.apart x.derived in
        record {
          bytes = f.bytes;
          derived = f.derived;
          apart = f.apart;
          same = same_front r.taken fs x.bytes t f x.same;
          goes_on = after_front r.taken f.bytes ∙ (ap (after_tokens r.taken) f.goes_on ∙ x.goes_on);
        };
    alike = λ es a.
        goes es (same_head (suc r.taken) es a) ∙ (r.alike (beyond (next is_letter es)) (behind (suc r.taken) es a)
        ∙ ap (parsed t) (sym (after_front r.taken es)));
  }
  token_runs (stuck ds) r = record {
    taken = suc r.taken;
    tokens = one_more r.taken r.tokens;
    left_is = r.left_is ∙ ap skip (sym (after_front r.taken bs ∙ ap (after_tokens r.taken) e));
    completes = λ fs n.
        let x = r.completes fs n in
        let f = front x.bytes fs x.tree x.apart x.derived in
        record {
          bytes = f.bytes;
          tree = x.tree;
          derived = f.derived;
          apart = f.apart;
          same = same_front r.taken fs x.bytes x.tree f x.same;
        };
    alike = λ es a.
        subst IsStuck (sym (goes es (same_head (suc r.taken) es a))) (r.alike (beyond (next is_letter es)) (behind (suc r.taken) es a));
  }

stuck_then : (p : Parsed) (k : Tree → List ℕ → Parsed) → IsStuck p → IsStuck (p then-read k)
stuck_then (parsed t cs) k s = absurd s
stuck_then (stuck cs) k s = tt

-- one reader after another
module _ (P R : Relation) (F : List ℕ → Parsed) (Q : Tree → Relation) (G : Tree → List ℕ → Parsed)
    (composed : (bs cs es : List ℕ) (t u : Tree) → P bs t cs → Q t cs u es → R bs u es)
    (onward : (ds : List ℕ) → no_letter ds ≡ true → Onward Q ds) where
  -- tokens of the first, then of the second
  same_both : (i k : ℕ) (bs cs xs ys : List ℕ) → cs ≡ after_tokens i bs → SameTokens i bs xs → after_tokens i xs ≡ ys → SameTokens k cs ys → SameTokens (both i k) bs xs
  same_both i k bs cs xs ys l a g b =
      same_append i k bs xs a (subst (λ z. SameTokens k z (after_tokens i xs)) l (subst (SameTokens k cs) (sym g) b))

  same_second : (i k : ℕ) (bs cs es : List ℕ) → cs ≡ after_tokens i bs → SameTokens (suc (both i k)) bs es → SameTokens (suc k) cs (after_tokens i es)
  same_second i k bs cs es l a =
      subst (λ z. SameTokens (suc k) z (after_tokens i es)) (sym l)
      (same_later i (suc k) bs es (subst (λ m. SameTokens m bs es) (omega (arith, both_is i k, both_is i (suc k))) a))

  same_first : (i k : ℕ) (bs es : List ℕ) → SameTokens (suc (both i k)) bs es → SameTokens (suc i) bs es
  same_first i k bs es a = same_fewer (suc i) k bs es (subst (λ m. SameTokens m bs es) (omega (arith, both_is i k, both_is (suc i) k)) a)

  second_runs : (bs cs : List ℕ) (t : Tree) → Through P F bs t cs → (q : Parsed) → Runs (Q t) (G t) cs q → Runs R (λ xs. F xs then-read G) bs q
  second_runs bs cs t r (parsed u es) s = record {
    taken = both r.taken s.taken;
    tokens = all_append r.taken s.taken bs r.tokens (subst (AllTokens s.taken) r.left_is s.tokens);
    left_is = s.left_is ∙ (ap (after_tokens s.taken) r.left_is ∙ sym (after_append r.taken s.taken bs));
    fits = λ ds n.
        let y = s.fits ds n in
        let x = r.fits y.bytes y.apart in
        record {
          bytes = x.bytes;
          derived = composed x.bytes y.bytes ds t u x.derived y.derived;
          apart = x.apart;
          same = same_both r.taken s.taken bs cs x.bytes y.bytes r.left_is x.same x.goes_on y.same;
          goes_on = after_append r.taken s.taken x.bytes ∙ (ap (after_tokens s.taken) x.goes_on ∙ y.goes_on);
        };
    alike = λ zs a.
        ap (λ p. p then-read G) (r.alike zs (same_first r.taken s.taken bs zs a))
        ∙ (s.alike (after_tokens r.taken zs) (same_second r.taken s.taken bs cs zs r.left_is a)
        ∙ ap (parsed u) (sym (after_append r.taken s.taken zs)));
  }
  second_runs bs cs t r (stuck es) s = record {
    taken = both r.taken s.taken;
    tokens = all_append r.taken s.taken bs r.tokens (subst (AllTokens s.taken) r.left_is s.tokens);
    left_is = s.left_is ∙ ap skip (ap (after_tokens s.taken) r.left_is ∙ sym (after_append r.taken s.taken bs));
    completes = λ ds n.
        let y = s.completes ds n in
        let x = r.fits y.bytes y.apart in
        record {
          bytes = x.bytes;
          tree = y.tree;
          derived = composed x.bytes y.bytes ds t y.tree x.derived y.derived;
          apart = x.apart;
          same = same_both r.taken s.taken bs cs x.bytes y.bytes r.left_is x.same x.goes_on y.same;
        };
    alike = λ zs a.
        subst (λ p. IsStuck (p then-read G)) (sym (r.alike zs (same_first r.taken s.taken bs zs a)))
        (s.alike (after_tokens r.taken zs) (same_second r.taken s.taken bs cs zs r.left_is a));
  }

  then_runs : (bs : List ℕ) (p : Parsed) → Runs P F bs p → ((t : Tree) (cs : List ℕ) → p ≡ parsed t cs → Runs (Q t) (G t) cs (G t cs))
      → Runs R (λ xs. F xs then-read G) bs (p then-read G)
  then_runs bs (parsed t cs) r g = second_runs bs cs t r (G t cs) (g t cs refl)
  then_runs bs (stuck cs) r g = record {
    taken = r.taken;
    tokens = r.tokens;
    left_is = r.left_is;
    completes = λ ds n.
        let y = onward ds n in
        let x = r.completes y.bytes y.apart in
        record {
          bytes = x.bytes;
          tree = y.tree x.tree;
          derived = composed x.bytes y.bytes ds x.tree (y.tree x.tree) x.derived (y.derived x.tree);
          apart = x.apart;
          same = x.same;
        };
    alike = λ zs a. stuck_then (F zs) G (r.alike zs a);
  }

-- words again
record WordBytes (w : List ℕ) : Type 0 where
  head : ℕ
  tail : List ℕ
  is : w ≡ head ∷ tail
  letter : is_letter head ≡ true
  all : letters tail ≡ true

abbrev IfWord : NextToken → Type 0
IfWord end = Unit {0}
IfWord (word w bs) = WordBytes w
IfWord (open_bracket bs) = Unit {0}
IfWord (close_bracket bs) = Unit {0}
IfWord (hash bs) = Unit {0}
IfWord (arrow bs) = Unit {0}
IfWord bad = Unit {0}

pub run_is_letters : (bs : List ℕ) → letters (run is_letter bs) ≡ true
unfolding run
run_is_letters [] = refl
run_is_letters (b ∷ bs) = go (run_is_letters bs) (is_letter b) refl
  where
    go : letters (run is_letter bs) ≡ true → (t : Bool) → is_letter b ≡ t → letters (cond t (b ∷ run is_letter bs) []) ≡ true
    go h true e = and_from (is_letter b) (letters (run is_letter bs)) e h
    go h false e = refl

dash_word : (bs : List ℕ) → IfWord (dash bs)
dash_word [] = tt
dash_word (c ∷ bs) = go (eqb c 62)
  where
    go : (t : Bool) → IfWord (cond t (arrow bs) bad)
    go true = tt
    go false = tt

start_word : (b : ℕ) (bs : List ℕ) → IfWord (start is_letter b bs)
unfolding start
start_word b bs = go (is_letter b) refl (eqb b 40) (eqb b 41) (eqb b 35) (eqb b 45)
  where
    go : (l : Bool) → is_letter b ≡ l → (o c h d : Bool)
        → IfWord (cond l (word (b ∷ run is_letter bs) (past is_letter bs)) (cond o (open_bracket bs)
        (cond c (close_bracket bs) (cond h (hash bs) (cond d (dash bs) bad)))))
    go true e o c h d = record { head = b; tail = run is_letter bs; is = refl; letter = e; all = run_is_letters bs }
    go false e true c h d = tt
    go false e false true h d = tt
    go false e false false true d = tt
    go false e false false false true = dash_word bs
    go false e false false false false = tt

next_at_word : (bs : List ℕ) → IfWord (next_at is_letter bs)
next_at_word [] = tt
next_at_word (b ∷ bs) = start_word b bs

next_is_letters : (bs w cs : List ℕ) → next is_letter bs ≡ word w cs → WordBytes w
unfolding next
next_is_letters bs w cs e = subst IfWord e (next_at_word (skip bs))

letter_no_space : (b : ℕ) → is_letter b ≡ true → eqb 32 b ≡ false
letter_no_space b l = go (eqb 32 b) refl
  where
    go : (t : Bool) → eqb 32 b ≡ t → t ≡ false
    go true e = let z : is_letter 32 ≡ true = subst (λ x. is_letter x ≡ true) (sym (eqb-true 32 b e)) l in cc
    go false e = refl

pub spaced : (bs : List ℕ) → next is_letter (32 ∷ bs) ≡ next is_letter bs
unfolding next skip past
spaced bs = refl

word_again : (bs w cs ds : List ℕ) → next is_letter bs ≡ word w cs → no_letter ds ≡ true → next is_letter (32 ∷ (w ++ ds)) ≡ word w ds
word_again bs w cs ds e n =
    let x = next_is_letters bs w cs e in
    spaced (w ++ ds) ∙ (ap (λ v. next is_letter (v ++ ds)) x.is
    ∙ (next_word x.head x.tail ds (letter_no_space x.head x.letter) x.letter x.all n ∙ ap (λ v. word v ds) (sym x.is)))

-- the other tokens
pub next_open : (bs : List ℕ) → next is_letter (40 ∷ bs) ≡ open_bracket bs
unfolding next skip past start
next_open bs = refl

pub next_close : (bs : List ℕ) → next is_letter (41 ∷ bs) ≡ close_bracket bs
unfolding next skip past start
next_close bs = refl

pub next_hash : (bs : List ℕ) → next is_letter (35 ∷ bs) ≡ hash bs
unfolding next skip past start
next_hash bs = refl

pub next_arrow : (bs : List ℕ) → next is_letter (45 ∷ (62 ∷ bs)) ≡ arrow bs
unfolding next skip past start
next_arrow bs = refl

-- tokens put in front
module _ (P R : Relation) (bs cs ds fs : List ℕ) (u : Tree) (n : no_letter ds ≡ true) where
  front_word : (w : List ℕ) → next is_letter bs ≡ word w cs → R (32 ∷ (w ++ ds)) u fs → Fronted R bs ds u fs
  front_word w e d =
      let x = word_again bs w cs ds e n in
      record { bytes = 32 ∷ (w ++ ds); derived = d; apart = refl; same = ap bare e ∙ sym (ap bare x); goes_on = ap beyond x }

  front_open : next is_letter bs ≡ open_bracket cs → R (40 ∷ ds) u fs → Fronted R bs ds u fs
  front_open e d = record { bytes = 40 ∷ ds; derived = d; apart = refl; same = ap bare e ∙ sym (ap bare (next_open ds)); goes_on = ap beyond (next_open ds) }

  front_hash : next is_letter bs ≡ hash cs → R (35 ∷ ds) u fs → Fronted R bs ds u fs
  front_hash e d = record { bytes = 35 ∷ ds; derived = d; apart = refl; same = ap bare e ∙ sym (ap bare (next_hash ds)); goes_on = ap beyond (next_hash ds) }

  front_arrow : next is_letter bs ≡ arrow cs → R (45 ∷ (62 ∷ ds)) u fs → Fronted R bs ds u fs
  front_arrow e d =
      record { bytes = 45 ∷ (62 ∷ ds); derived = d; apart = refl; same = ap bare e ∙ sym (ap bare (next_arrow ds)); goes_on = ap beyond (next_arrow ds) }

-- a sort to complete with: `Nat`
nat_operand : (ds : List ℕ) → no_letter ds ≡ true → Operand (32 ∷ (sort_word Sort.Nat ++ ds)) (flat (primitive Sort.Nat)) ds
nat_operand ds n = basic_sort (spaced (sort_word Sort.Nat ++ ds) ∙ next_sort_word Sort.Nat ds n) (meaning_sort_word Sort.Nat)

operand_ahead : (ds : List ℕ) → no_letter ds ≡ true → Ahead Operand ds
operand_ahead ds n = record { bytes = 32 ∷ (sort_word Sort.Nat ++ ds); tree = flat (primitive Sort.Nat); derived = nat_operand ds n; apart = refl }

-- `)`
data Closes : Tree → List ℕ → Tree → List ℕ → Type 0 where
  closes : {t : Tree} {bs cs : List ℕ} → next is_letter bs ≡ close_bracket cs → Closes t bs t cs

abbrev closed : Tree → List ℕ → Parsed
closed t bs = closing t (skip bs) (next is_letter bs)

close_onward : (ds : List ℕ) → no_letter ds ≡ true → Onward Closes ds
close_onward ds n = record { bytes = 41 ∷ ds; tree = λ t. t; derived = λ t. closes (next_close ds); apart = refl }

close_ahead : (t : Tree) (ds : List ℕ) → no_letter ds ≡ true → Ahead (Closes t) ds
close_ahead t ds n = record { bytes = 41 ∷ ds; tree = t; derived = closes (next_close ds); apart = refl }

close_front : (bs cs : List ℕ) {t u : Tree} {ds fs : List ℕ} → next is_letter bs ≡ close_bracket cs → Pure t ds u fs → Fronted (Closes t) bs ds u fs
close_front bs cs e (pure {bs = ds}) = record {
  bytes = 41 ∷ ds;
  derived = closes (next_close ds);
  apart = refl;
  same = ap bare e ∙ sym (ap bare (next_close ds));
  goes_on = ap beyond (next_close ds);
}

not_closing : (t : Tree) (bs : List ℕ) (n : NextToken) → next is_letter bs ≡ n
    → ((at ds : List ℕ) → IsStuck (closing t at (rebuilt (bare n) ds))) → Stopped (Closes t) (closed t) bs (skip bs)
not_closing t bs n e s =
    stops_here (Closes t) (closed t) bs (close_ahead t)
    (λ es a. subst (λ x. IsStuck (closing t (skip es) x)) (sym (again bs es n e a)) (s (skip es) (beyond (next is_letter es))))

closing_runs : (t : Tree) (bs : List ℕ) (n : NextToken) → next is_letter bs ≡ n → Runs (Closes t) (closed t) bs (closing t (skip bs) n)
unfolding closing
closing_runs t bs (close_bracket cs) e =
    token_runs (Pure t) (Closes t) (parsed t) (closed t) bs cs (ap beyond e) (subst IsToken (sym e) tt) (λ ds fs u n p. close_front bs cs e p)
    (λ es a. ap (closing t (skip es)) (again bs es (close_bracket cs) e a)) (parsed t cs) (pure_runs t cs)
closing_runs t bs end e = not_closing t bs end e (λ at ds. tt)
closing_runs t bs (word w cs) e = not_closing t bs (word w cs) e (λ at ds. tt)
closing_runs t bs (open_bracket cs) e = not_closing t bs (open_bracket cs) e (λ at ds. tt)
closing_runs t bs (hash cs) e = not_closing t bs (hash cs) e (λ at ds. tt)
closing_runs t bs (arrow cs) e = not_closing t bs (arrow cs) e (λ at ds. tt)
closing_runs t bs bad e = not_closing t bs bad e (λ at ds. tt)

closed_both : {bs cs es : List ℕ} {t u : Tree} → SortOf bs t cs → Closes t cs u es → Closed bs u es
closed_both s (closes {bs = cs} e) = (cs, s, e)

-- a sort in brackets
in_brackets_runs : (bs : List ℕ) → Runs SortOf sort bs (sort bs) → Runs Closed (in_brackets sort) bs (in_brackets sort bs)
unfolding in_brackets
in_brackets_runs bs r =
    then_runs SortOf Closed sort Closes closed (λ xs cs es t u s c. closed_both s c) close_onward bs (sort bs) r
    (λ t cs e. closing_runs t cs (next is_letter cs) refl)

-- a container over it
data Over : ComplexSort → List ℕ → Tree → List ℕ → Type 0 where
  over : {o : ComplexSort} {t : Tree} {bs cs : List ℕ} → Closed bs t cs → Over o bs (container o t) cs

data Opens : ComplexSort → List ℕ → Tree → List ℕ → Type 0 where
  opens : {o : ComplexSort} {u : Tree} {bs ds fs : List ℕ} → next is_letter bs ≡ open_bracket ds → Over o ds u fs → Opens o bs u fs

abbrev contained : ComplexSort → List ℕ → Parsed
contained o bs = in_brackets sort bs then-read (λ t cs. parsed (container o t) cs)

abbrev opened : ComplexSort → List ℕ → Parsed
opened o bs = bracketed sort o (skip bs) (next is_letter bs)

over_both : {o : ComplexSort} {bs cs es : List ℕ} {t u : Tree} → Closed bs t cs → Pure (container o t) cs u es → Over o bs u es
over_both c pure = over c

over_runs : (o : ComplexSort) (bs : List ℕ) → Runs SortOf sort bs (sort bs) → Runs (Over o) (contained o) bs (contained o bs)
over_runs o bs r =
    then_runs Closed (Over o) (in_brackets sort) (λ t. Pure (container o t)) (λ t cs. parsed (container o t) cs)
    (λ xs cs es t u c p. over_both c p) (λ ds n. record { bytes = ds; tree = λ t. container o t; derived = λ t. pure; apart = n })
    bs (in_brackets sort bs) (in_brackets_runs bs r) (λ t cs e. pure_runs (container o t) cs)

open_ahead : (o : ComplexSort) (ds : List ℕ) → no_letter ds ≡ true → Ahead (Opens o) ds
open_ahead o ds n = record {
  bytes = 40 ∷ (32 ∷ (sort_word Sort.Nat ++ (41 ∷ ds)));
  tree = container o (flat (primitive Sort.Nat));
  derived = opens (next_open (32 ∷ (sort_word Sort.Nat ++ (41 ∷ ds)))) (over (41 ∷ ds, one_operand (nat_operand (41 ∷ ds) refl), next_close ds));
  apart = refl;
}

not_opening : (o : ComplexSort) (bs : List ℕ) (n : NextToken) → next is_letter bs ≡ n
    → ((at ds : List ℕ) → IsStuck (bracketed sort o at (rebuilt (bare n) ds))) → Stopped (Opens o) (opened o) bs (skip bs)
not_opening o bs n e s =
    stops_here (Opens o) (opened o) bs (open_ahead o)
    (λ es a. subst (λ x. IsStuck (bracketed sort o (skip es) x)) (sym (again bs es n e a)) (s (skip es) (beyond (next is_letter es))))

-- the sorts of fewer than n bytes
abbrev Below : ℕ → Type 0
Below n = (bs : List ℕ) → length bs < n → Runs SortOf sort bs (sort bs)

bracketed_runs : (m : ℕ) → Below m → (o : ComplexSort) (bs : List ℕ) → length bs ≤ m → (n : NextToken) → next is_letter bs ≡ n
    → Runs (Opens o) (opened o) bs (bracketed sort o (skip bs) n)
unfolding bracketed
bracketed_runs m below o bs l (open_bracket cs) e =
    token_runs (Over o) (Opens o) (contained o) (opened o) bs cs (ap beyond e) (subst IsToken (sym e) tt)
    (λ ds fs u n p. front_open (Over o) (Opens o) bs cs ds fs u n e (opens (next_open ds) p))
    (λ es a. ap (bracketed sort o (skip es)) (again bs es (open_bracket cs) e a)) (contained o cs)
    (over_runs o cs (below cs (omega (arith, l, open_bracket_takes is_letter bs cs e))))
bracketed_runs m below o bs l end e = not_opening o bs end e (λ at ds. tt)
bracketed_runs m below o bs l (word w cs) e = not_opening o bs (word w cs) e (λ at ds. tt)
bracketed_runs m below o bs l (close_bracket cs) e = not_opening o bs (close_bracket cs) e (λ at ds. tt)
bracketed_runs m below o bs l (hash cs) e = not_opening o bs (hash cs) e (λ at ds. tt)
bracketed_runs m below o bs l (arrow cs) e = not_opening o bs (arrow cs) e (λ at ds. tt)
bracketed_runs m below o bs l bad e = not_opening o bs bad e (λ at ds. tt)

-- an operand
basic_front : (bs cs w : List ℕ) {s : Sort} {u : Tree} {ds fs : List ℕ} → next is_letter bs ≡ word w cs → meaning w ≡ basic s → no_letter ds ≡ true
    → Pure (flat (primitive s)) ds u fs → Fronted Operand bs ds u fs
basic_front bs cs w {s} e m n (pure {bs = ds}) =
    front_word Operand Operand bs cs ds ds (flat (primitive s)) n w e (basic_sort (word_again bs w cs ds e n) m)

over_front : (bs cs w : List ℕ) {o : ComplexSort} {u : Tree} {ds fs : List ℕ} → next is_letter bs ≡ word w cs → meaning w ≡ operator o → no_letter ds ≡ true
    → Opens o ds u fs → Fronted Operand bs ds u fs
over_front bs cs w e m n (opens {bs = ds} {fs = fs} b (over {o} {t} c)) =
    front_word Operand Operand bs cs ds fs (container o t) n w e (container_of (word_again bs w cs ds e n) m b c.1 c.2)

-- the word of a line that begins with the same word
operand_word : (es w cs : List ℕ) (m : WordMeaning) → next is_letter es ≡ word w cs → meaning w ≡ m → operand sort es ≡ operand_of sort (skip es) m cs
unfolding operand operand_at
operand_word es w cs m e f = ap (operand_at sort (skip es)) e ∙ ap (λ x. operand_of sort (skip es) x cs) f

operand_of_runs : (m : ℕ) → Below m → (bs : List ℕ) → length bs ≤ m → (w cs : List ℕ) → next is_letter bs ≡ word w cs → (x : WordMeaning) → meaning w ≡ x
    → Runs Operand (operand sort) bs (operand_of sort (skip bs) x cs)
unfolding operand_of
operand_of_runs m below bs l w cs e (basic s) f =
    token_runs (Pure (flat (primitive s))) Operand (parsed (flat (primitive s))) (operand sort) bs cs (ap beyond e) (subst IsToken (sym e) tt)
    (λ ds fs u n p. basic_front bs cs w e f n p)
    (λ es a. operand_word es w (beyond (next is_letter es)) (basic s) (again bs es (word w cs) e a) f)
    (parsed (flat (primitive s)) cs) (pure_runs (flat (primitive s)) cs)
operand_of_runs m below bs l w cs e (operator o) f =
    token_runs (Opens o) Operand (opened o) (operand sort) bs cs (ap beyond e) (subst IsToken (sym e) tt)
    (λ ds fs u n p. over_front bs cs w e f n p)
    (λ es a. operand_word es w (beyond (next is_letter es)) (operator o) (again bs es (word w cs) e a) f)
    (opened o cs) (bracketed_runs m below o cs (omega (arith, l, (word_takes is_letter bs w cs e).0)) (next is_letter cs) refl)
operand_of_runs m below bs l w cs e unknown f =
    stops_here Operand (operand sort) bs operand_ahead
    (λ es a. subst IsStuck (sym (operand_word es w (beyond (next is_letter es)) unknown (again bs es (word w cs) e a) f)) tt)

no_operand : (bs : List ℕ) (n : NextToken) → next is_letter bs ≡ n
    → ((at ds : List ℕ) → IsStuck (operand_at sort at (rebuilt (bare n) ds))) → Stopped Operand (operand sort) bs (skip bs)
unfolding operand
no_operand bs n e s =
    stops_here Operand (operand sort) bs operand_ahead
    (λ es a. subst (λ x. IsStuck (operand_at sort (skip es) x)) (sym (again bs es n e a)) (s (skip es) (beyond (next is_letter es))))

operand_at_runs : (m : ℕ) → Below m → (bs : List ℕ) → length bs ≤ m → (n : NextToken) → next is_letter bs ≡ n
    → Runs Operand (operand sort) bs (operand_at sort (skip bs) n)
unfolding operand_at
operand_at_runs m below bs l (word w cs) e = operand_of_runs m below bs l w cs e (meaning w) refl
operand_at_runs m below bs l end e = no_operand bs end e (λ at ds. tt)
operand_at_runs m below bs l (open_bracket cs) e = no_operand bs (open_bracket cs) e (λ at ds. tt)
operand_at_runs m below bs l (close_bracket cs) e = no_operand bs (close_bracket cs) e (λ at ds. tt)
operand_at_runs m below bs l (hash cs) e = no_operand bs (hash cs) e (λ at ds. tt)
operand_at_runs m below bs l (arrow cs) e = no_operand bs (arrow cs) e (λ at ds. tt)
operand_at_runs m below bs l bad e = no_operand bs bad e (λ at ds. tt)

operand_runs : (m : ℕ) → Below m → (bs : List ℕ) → length bs ≤ m → Runs Operand (operand sort) bs (operand sort bs)
unfolding operand
operand_runs m below bs l = operand_at_runs m below bs l (next is_letter bs) refl

-- after the operands ts
abbrev After : Trees → List ℕ → Tree → List ℕ → Type 0
After ts cs u es = (bs : List ℕ) → Operands bs ts cs → SortOf bs u es

abbrev AfterHash : Trees → List ℕ → Tree → List ℕ → Type 0
AfterHash ts ds u es = (bs cs : List ℕ) → Operands bs ts cs → next is_letter cs ≡ hash ds → SortOf bs u es

abbrev AfterArrow : Trees → List ℕ → Tree → List ℕ → Type 0
AfterArrow ts ds u es = (bs cs : List ℕ) → Operands bs ts cs → next is_letter cs ≡ arrow ds → SortOf bs u es

-- `-> Nat`
range_ahead : (ts : Trees) → arity ts ≤ 16 → (ds : List ℕ) → no_letter ds ≡ true → Ahead (After ts) ds
range_ahead ts l ds n = record {
  bytes = 45 ∷ (62 ∷ (32 ∷ (sort_word Sort.Nat ++ ds)));
  tree = function ts (flat (primitive Sort.Nat));
  derived = λ bs h. function_of h l (next_arrow (32 ∷ (sort_word Sort.Nat ++ ds))) (one_operand (nat_operand ds n));
  apart = refl;
}

range_onward : (f : Tree → Trees) → ((t : Tree) → arity (f t) ≤ 16) → (ds : List ℕ) → no_letter ds ≡ true → Onward (λ t. After (f t)) ds
range_onward f l ds n = record {
  bytes = 45 ∷ (62 ∷ (32 ∷ (sort_word Sort.Nat ++ ds)));
  tree = λ t. function (f t) (flat (primitive Sort.Nat));
  derived = λ t bs h. function_of h (l t) (next_arrow (32 ∷ (sort_word Sort.Nat ++ ds))) (one_operand (nat_operand ds n));
  apart = refl;
}

arrow_both : {ts : Trees} {bs cs es : List ℕ} {t u : Tree} → arity ts ≤ 16 → SortOf bs t cs → Pure (function ts t) cs u es → AfterArrow ts bs u es
arrow_both l s pure = λ xs ys h e. function_of h l e s

operands_some : {bs cs : List ℕ} {ts : Trees} → Operands bs ts cs → 1 ≤ arity ts
unfolding arity
operands_some (first h) = omega arith
operands_some (another {ts = ts} {t = t} h e k i) = rw i (omega (arith, arity_snoc ts t))

only_operand : {bs cs : List ℕ} {ts : Trees} (t : Tree) → Operands bs ts cs → ts ≡ arg t no_args → Operand bs t cs
unfolding arity
only_operand {bs} {cs} t (first {t = u} h) e = let z : u ≡ t = cc in subst (λ x. Operand bs x cs) z h
only_operand t (another {ts = ts} {t = u} h f k i) e =
    absurd (omega (arith, operands_some h, arity_snoc ts u, ap arity (sym i ∙ e)))

rest_at_alone : (ts : Trees) (at bs : List ℕ) (m : List ℕ → Parsed) (n : NextToken) → Stops n → rest_at sort ts at bs m n ≡ alone ts at bs
unfolding rest_at
rest_at_alone ts at bs m end h = refl
rest_at_alone ts at bs m (word w cs) h = refl
rest_at_alone ts at bs m (open_bracket cs) h = refl
rest_at_alone ts at bs m (close_bracket cs) h = refl
rest_at_alone ts at bs m (hash cs) h = absurd h
rest_at_alone ts at bs m (arrow cs) h = absurd h
rest_at_alone ts at bs m bad h = refl

rest_alone : (k : ℕ) (ts : Trees) (bs : List ℕ) → Stops (next is_letter bs) → rest sort k ts bs ≡ alone ts (skip bs) bs
unfolding rest
rest_alone zero ts bs h = rest_at_alone ts (skip bs) bs _ (next is_letter bs) h
rest_alone (suc k) ts bs h = rest_at_alone ts (skip bs) bs _ (next is_letter bs) h

rest_full : (ts : Trees) (bs cs : List ℕ) → next is_letter bs ≡ hash cs → rest sort zero ts bs ≡ stuck (skip bs)
unfolding rest rest_at
rest_full ts bs cs e = ap (rest_at sort ts (skip bs) bs _) e

stops_again : (n : NextToken) (bs : List ℕ) → Stops n → Stops (rebuilt (bare n) bs)
stops_again end bs h = tt
stops_again (word w cs) bs h = tt
stops_again (open_bracket cs) bs h = tt
stops_again (close_bracket cs) bs h = tt
stops_again (hash cs) bs h = h
stops_again (arrow cs) bs h = h
stops_again bad bs h = tt

same_stops : (bs es : List ℕ) → Stops (next is_letter bs) → bare (next is_letter bs) ≡ bare (next is_letter es) → Stops (next is_letter es)
same_stops bs es h a = subst Stops (sym (again bs es (next is_letter bs) refl a)) (stops_again (next is_letter bs) (beyond (next is_letter es)) h)

alone_runs : (k : ℕ) (ts : Trees) (bs : List ℕ) → arity ts ≤ 16 → Stops (next is_letter bs) → Runs (After ts) (rest sort k ts) bs (alone ts (skip bs) bs)
unfolding alone SameTokens after_tokens AllTokens
alone_runs k no_args bs l h =
    stops_here (After no_args) (rest sort k no_args) bs (range_ahead no_args l)
    (λ es a. subst IsStuck (sym (rest_alone k no_args es (same_stops bs es h a))) tt)
alone_runs k (arg t no_args) bs l h = record {
  taken = 0;
  tokens = tt;
  left_is = refl;
  fits = λ ds n. record { bytes = ds; derived = λ xs p. one_operand (only_operand t p refl); apart = n; same = tt; goes_on = refl };
  alike = λ es a. rest_alone k (arg t no_args) es (same_stops bs es h a.0);
}
alone_runs k (arg t (arg u us)) bs l h =
    stops_here (After (arg t (arg u us))) (rest sort k (arg t (arg u us))) bs (range_ahead (arg t (arg u us)) l)
    (λ es a. subst IsStuck (sym (rest_alone k (arg t (arg u us)) es (same_stops bs es h a))) tt)

stopping_runs : (k : ℕ) (ts : Trees) (bs : List ℕ) → arity ts ≤ 16 → Stops (next is_letter bs) → Runs (After ts) (rest sort k ts) bs (rest sort k ts bs)
stopping_runs k ts bs l h = subst (Runs (After ts) (rest sort k ts) bs) (sym (rest_alone k ts bs h)) (alone_runs k ts bs l h)

arrow_runs : (m : ℕ) → Below m → (k : ℕ) (ts : Trees) (bs cs : List ℕ) → arity ts ≤ 16 → length bs ≤ m → next is_letter bs ≡ arrow cs
    → Runs (After ts) (rest sort k ts) bs (rest sort k ts bs)
arrow_runs m below k ts bs cs a l e =
    subst (Runs (After ts) (rest sort k ts) bs) (sym (rest_arrow k ts bs cs e))
    (token_runs (AfterArrow ts) (After ts) (λ xs. sort xs then-read (λ r ds. parsed (function ts r) ds)) (rest sort k ts) bs cs (ap beyond e) (subst IsToken (sym e) tt)
    (λ ds fs u n p. front_arrow (AfterArrow ts) (After ts) bs cs ds fs u n e (λ xs h. p xs (45 ∷ (62 ∷ ds)) h (next_arrow ds)))
    (λ es z. rest_arrow k ts es (beyond (next is_letter es)) (again bs es (arrow cs) e z))
    (sort cs then-read (λ r ds. parsed (function ts r) ds))
    (then_runs SortOf (AfterArrow ts) sort (λ r. Pure (function ts r)) (λ r ds. parsed (function ts r) ds)
    (λ xs ys es t u s p. arrow_both a s p) (λ ds n. record { bytes = ds; tree = λ r. function ts r; derived = λ r. pure; apart = n })
    cs (sort cs) (below cs (omega (arith, l, arrow_takes is_letter bs cs e))) (λ r ds f. pure_runs (function ts r) ds)))

by_token : (m : ℕ) → Below m → (k : ℕ) (ts : Trees) (bs : List ℕ) → arity ts ≤ 16 → length bs ≤ m
    → ((cs : List ℕ) → next is_letter bs ≡ hash cs → Runs (After ts) (rest sort k ts) bs (rest sort k ts bs))
    → (n : NextToken) → next is_letter bs ≡ n → Runs (After ts) (rest sort k ts) bs (rest sort k ts bs)
by_token m below k ts bs a l h (hash cs) e = h cs e
by_token m below k ts bs a l h (arrow cs) e = arrow_runs m below k ts bs cs a l e
by_token m below k ts bs a l h end e = stopping_runs k ts bs a (subst Stops (sym e) tt)
by_token m below k ts bs a l h (word w cs) e = stopping_runs k ts bs a (subst Stops (sym e) tt)
by_token m below k ts bs a l h (open_bracket cs) e = stopping_runs k ts bs a (subst Stops (sym e) tt)
by_token m below k ts bs a l h (close_bracket cs) e = stopping_runs k ts bs a (subst Stops (sym e) tt)
by_token m below k ts bs a l h bad e = stopping_runs k ts bs a (subst Stops (sym e) tt)

rest_runs : (m : ℕ) → Below m → (k : ℕ) (ts : Trees) → arity ts + k ≡ 16 → (bs : List ℕ) → length bs ≤ m → Runs (After ts) (rest sort k ts) bs (rest sort k ts bs)
rest_runs m below zero ts a bs l =
    by_token m below zero ts bs (omega arith) l
    (λ cs e.
    subst (Runs (After ts) (rest sort zero ts) bs) (sym (rest_full ts bs cs e))
    (stops_here (After ts) (rest sort zero ts) bs (range_ahead ts (omega arith))
    (λ es z. subst IsStuck (sym (rest_full ts es (beyond (next is_letter es)) (again bs es (hash cs) e z))) tt)))
    (next is_letter bs) refl
rest_runs m below (suc k) ts a bs l =
    by_token m below (suc k) ts bs (omega arith) l
    (λ cs e.
    subst (Runs (After ts) (rest sort (suc k) ts) bs) (sym (rest_hash k ts bs cs e))
    (token_runs (AfterHash ts) (After ts) (λ xs. operand sort xs then-read (λ t ds. rest sort k (snoc ts t) ds)) (rest sort (suc k) ts) bs cs (ap beyond e) (subst IsToken (sym e) tt)
    (λ ds fs u n p. front_hash (AfterHash ts) (After ts) bs cs ds fs u n e (λ xs h. p xs (35 ∷ ds) h (next_hash ds)))
    (λ es z. rest_hash k ts es (beyond (next is_letter es)) (again bs es (hash cs) e z))
    (operand sort cs then-read (λ t ds. rest sort k (snoc ts t) ds))
    (then_runs Operand (AfterHash ts) (operand sort) (λ t. After (snoc ts t)) (λ t ds. rest sort k (snoc ts t) ds)
    (λ xs ys es t u p q. λ zs vs h f. q zs (another h f p refl))
    (range_onward (snoc ts) (λ t. omega (arith, arity_snoc ts t)))
    cs (operand sort cs) (operand_runs m below cs (omega (arith, l, hash_takes is_letter bs cs e)))
    (λ t ds f. rest_runs m below k (snoc ts t) (omega (arith, arity_snoc ts t)) ds
    (omega (arith, l, hash_takes is_letter bs cs e, operand_takes sort sort_suffix cs ds t f))))))
    (next is_letter bs) refl

-- equal readers
runs_as : (P : Relation) (F G : List ℕ → Parsed) → ((xs : List ℕ) → G xs ≡ F xs) → (bs : List ℕ) (p : Parsed) → Runs P F bs p → Runs P G bs p
runs_as P F G e bs (parsed t cs) r =
    record { taken = r.taken; tokens = r.tokens; left_is = r.left_is; fits = r.fits; alike = λ es a. e es ∙ r.alike es a }
runs_as P F G e bs (stuck cs) r =
    record { taken = r.taken; tokens = r.tokens; left_is = r.left_is; completes = r.completes; alike = λ es a. subst IsStuck (sym (e es)) (r.alike es a) }

one_argument : (t : Tree) → arity (arg t no_args) ≡ 1
unfolding arity
one_argument t = refl

abbrev step : List ℕ → Parsed
step bs = operand sort bs then-read (λ t cs. rest sort 15 (arg t no_args) cs)

step_runs : (m : ℕ) → Below m → (bs : List ℕ) → length bs ≤ m → Runs SortOf step bs (step bs)
step_runs m below bs l =
    then_runs Operand SortOf (operand sort) (λ t. After (arg t no_args)) (λ t cs. rest sort 15 (arg t no_args) cs)
    (λ xs cs es t u p q. q xs (first p)) (range_onward (λ t. arg t no_args) (λ t. omega (arith, one_argument t)))
    bs (operand sort bs) (operand_runs m below bs l)
    (λ t cs e. rest_runs m below 15 (arg t no_args) (omega (arith, one_argument t)) cs
    (omega (arith, l, operand_takes sort sort_suffix bs cs t e)))

sorts_run : (m : ℕ) → Below m
sorts_run zero bs l = absurd (omega arith)
sorts_run (suc m) bs l =
    subst (Runs SortOf sort bs) (sym (sort_is bs))
    (runs_as SortOf step sort sort_is bs (step bs) (step_runs m (sorts_run m) bs (omega arith)))

-- a line
abbrev ended : Tree → List ℕ → Parsed
ended t cs = ending t (skip cs) (next is_letter cs)

line_ends_lem : {bs : List ℕ} {t : Tree} → SortOf bs t [] → LineOf bs t []
unfolding next skip past
line_ends_lem h = ([], h, refl, refl)

line_is : (bs : List ℕ) → line bs ≡ (sort bs then-read ended)
unfolding line
line_is bs = refl

no_sort : (cs : List ℕ) (t : Tree) → LineOf cs t [] → IsStuck (sort cs then-read ended) → ⊥
no_sort cs t h s = subst IsStuck (sym (line_is cs) ∙ (line_exactly cs t).1 h) s

-- the law, and that tokens stand before the unread end
pub record Stop (bs cs : List ℕ) : Type 0 where
  pub shown : FirstThatCannotFollow bs cs
  pub tokens : AllTokens shown.before bs

abbrev IfStuck : (List ℕ → Type 0) → Parsed → Type 0
IfStuck P (parsed t cs) = Unit {0}
IfStuck P (stuck cs) = P cs

ends_here : (bs cs : List ℕ) (t : Tree) → Through SortOf sort bs t cs
    → ((es : List ℕ) → bare (next is_letter cs) ≡ bare (next is_letter es) → IsStuck (ended t es)) → Stop bs (skip cs)
ends_here bs cs t r s = record {
  tokens = r.tokens;
  shown = record {
    before = r.taken;
    starts_there = ap skip r.left_is;
    can_begin = let x = r.fits [] refl in (x.bytes, t, line_ends_lem x.derived, x.same);
    cannot_follow = λ y.
        let a : SameTokens 1 (after_tokens r.taken bs) (after_tokens r.taken y.0) =
        same_later r.taken 1 bs y.0 (subst (λ k. SameTokens k bs y.0) (omega (arith, both_is r.taken 1)) y.3) in
        no_sort y.0 y.1 y.2 (subst (λ p. IsStuck (p then-read ended)) (sym (r.alike y.0 y.3))
        (s (after_tokens r.taken y.0) (ap (λ x. bare (next is_letter x)) r.left_is ∙ same_next (after_tokens r.taken bs) (after_tokens r.taken y.0) a)));
  };
}

not_ending : (bs cs : List ℕ) (t : Tree) → Through SortOf sort bs t cs → (n : NextToken) → next is_letter cs ≡ n
    → ((at ds : List ℕ) → IsStuck (ending t at (rebuilt (bare n) ds))) → Stop bs (skip cs)
not_ending bs cs t r n e s =
    ends_here bs cs t r (λ es a. subst (λ x. IsStuck (ending t (skip es) x)) (sym (again cs es n e a)) (s (skip es) (beyond (next is_letter es))))

ending_stops : (bs cs : List ℕ) (t : Tree) → Through SortOf sort bs t cs → (n : NextToken) → next is_letter cs ≡ n
    → IfStuck (Stop bs) (ending t (skip cs) n)
unfolding ending
ending_stops bs cs t r end e = tt
ending_stops bs cs t r (word w ds) e = not_ending bs cs t r (word w ds) e (λ at xs. tt)
ending_stops bs cs t r (open_bracket ds) e = not_ending bs cs t r (open_bracket ds) e (λ at xs. tt)
ending_stops bs cs t r (close_bracket ds) e = not_ending bs cs t r (close_bracket ds) e (λ at xs. tt)
ending_stops bs cs t r (hash ds) e = not_ending bs cs t r (hash ds) e (λ at xs. tt)
ending_stops bs cs t r (arrow ds) e = not_ending bs cs t r (arrow ds) e (λ at xs. tt)
ending_stops bs cs t r bad e = not_ending bs cs t r bad e (λ at xs. tt)

sort_stops : (bs : List ℕ) (p : Parsed) → Runs SortOf sort bs p → IfStuck (Stop bs) (p then-read ended)
sort_stops bs (parsed t cs) r = ending_stops bs cs t r (next is_letter cs) refl
sort_stops bs (stuck cs) r = record {
  tokens = r.tokens;
  shown = record {
    before = r.taken;
    starts_there = r.left_is;
    can_begin = let x = r.completes [] refl in (x.bytes, x.tree, line_ends_lem x.derived, x.same);
    cannot_follow = λ y. no_sort y.0 y.1 y.2 (stuck_then (sort y.0) ended (r.alike y.0 y.3));
  };
}

pub stop : (bs cs : List ℕ) → line bs ≡ stuck cs → Stop bs cs
stop bs cs e =
    subst (IfStuck (Stop bs)) (sym (line_is bs) ∙ e) (sort_stops bs (sort bs) (sorts_run (suc (length bs)) bs (omega arith)))

-- With 20 the unread end starts at the first token that cannot follow.
pub stops_at_the_first_token_that_cannot_follow : (bs cs : List ℕ) → line bs ≡ stuck cs → FirstThatCannotFollow bs cs
stops_at_the_first_token_that_cannot_follow bs cs e = (stop bs cs e).shown

-- a beginning of a beginning of a sort is one
can_begin_fewer : (i j : ℕ) (bs : List ℕ) → i ≤ j → CanBegin j bs → CanBegin i bs
can_begin_fewer i j bs l y = (y.0, y.1, y.2, same_fewer i (j - i) bs y.0 (subst (λ k. SameTokens k bs y.0) (omega (arith, both_is i (j - i))) y.3))

-- There is one first token that cannot follow,
pub first_that_cannot_follow_is_one : (bs cs ds : List ℕ) → FirstThatCannotFollow bs cs → FirstThatCannotFollow bs ds → cs ≡ ds
first_that_cannot_follow_is_one bs cs ds x y = go (ltb x.before y.before) refl (ltb y.before x.before) refl
  where
    go : (p : Bool) → ltb x.before y.before ≡ p → (q : Bool) → ltb y.before x.before ≡ q → cs ≡ ds
    go true e q f = absurd (x.cannot_follow (can_begin_fewer (suc x.before) y.before bs (ltb-true x.before y.before e) y.can_begin))
    go false e true f = absurd (y.cannot_follow (can_begin_fewer (suc y.before) x.before bs (ltb-true y.before x.before f) x.can_begin))
    go false e false f =
        let z : x.before ≡ y.before = omega (arith, ltb-false x.before y.before e, ltb-false y.before x.before f) in
        x.starts_there ∙ (ap (λ i. skip (after_tokens i bs)) z ∙ sym y.starts_there)

-- so the reader stops where the grammar says, and nowhere else.
pub stuck_exactly : (bs cs : List ℕ) → (line bs ≡ stuck cs) ↔ FirstThatCannotFollow bs cs
stuck_exactly bs cs = (stops_at_the_first_token_that_cannot_follow bs cs, λ x. go x (line bs) refl)
  where
    go : FirstThatCannotFollow bs cs → (p : Parsed) → line bs ≡ p → p ≡ stuck cs
    go x (parsed t ds) e =
        let h = line_derived bs ds t e in
        absurd (x.cannot_follow (bs, t, (h.0, h.1, h.2, refl), same_refl (suc x.before) bs))
    go x (stuck ds) e = ap stuck (first_that_cannot_follow_is_one bs ds cs (stops_at_the_first_token_that_cannot_follow bs ds e) x)

-- of what the entry answers
stored_is_a_sort : (ws : List ℕ) (n e : ℕ) (r : Stored) (j : Joined) (p : ℕ) → (stored_by ws n e r j).answer ≡ Err (NotASort p) → ⊥
unfolding stored_by
stored_is_a_sort ws n e r (At s k) p a = let z : ◌≡◌ {A = ℕ} 0 1 = cc in omega arith
stored_is_a_sort ws n e r (Nothing k) p a = let z : ◌≡◌ {A = ℕ} 0 1 = cc in omega arith
stored_is_a_sort ws n e r Full p a = let z : ◌≡◌ {A = ℕ} 0 1 = cc in omega arith

read_as : (ws : List ℕ) (n e : ℕ) (bs : List ℕ) (p : ℕ) (q : Parsed) → line bs ≡ q → (read_as_of ws n e bs q).answer ≡ Err (NotASort p)
    → FirstThatCannotFollow bs (drop p bs)
unfolding read_as_of
read_as ws n e bs p (parsed t cs) f a =
    absurd (stored_is_a_sort ws n e (stored ws n e (store t (sorts_of ws n e))) (stored ws n e (store t (sorts_of ws n e))).answer p a)
read_as ws n e bs p (stuck cs) f a =
    let z : length bs - length cs ≡ p = cc in
    subst (FirstThatCannotFollow bs) (sym (unread_end bs cs f) ∙ ap (λ k. drop k bs) z) (stops_at_the_first_token_that_cannot_follow bs cs f)

by_checks : (x : Tested) (ws : List ℕ) (n e : ℕ) (bs : List ℕ) (p : ℕ)
    → (refused_or x (λ c. words_left ws (Err (Refused c))) (read_as_of ws n e bs (line bs))).answer ≡ Err (NotASort p) → FirstThatCannotFollow bs (drop p bs)
by_checks (Ok u) ws n e bs p a = read_as ws n e bs p (line bs) refl a
by_checks (Err c) ws n e bs p a = let z : ◌≡◌ {A = ℕ} 0 1 = cc in absurd (omega arith)

-- With 20 the caller gets back the place where the first token stands that cannot follow.
pub unread_end_cannot_follow : (ws ix : List ℕ) (n e : ℕ) (bs : List ℕ) (p : ℕ) → (reading ws ix n e bs).answer ≡ Err (NotASort p)
    → FirstThatCannotFollow bs (drop p bs)
unfolding reading reading_words
unread_end_cannot_follow ws ix n e bs p a = by_checks (first_failing (read_checks ws ix n e bs)) ws n e bs p a
