-- An index that was lent full of junk is always left as it must be, so what is compared is the packed answer of join and meet. By the cases of
-- what the entries answer: a refusal by a check has one of the codes 1 to 14 and leaves the index, every other answer has code 0 or 15 and
-- clears it. Assumes nothing.
use Rattle.std.specs.Prelude as Rust
use mathlib.Core.Path.{◌≡◌, refl, sym, ◌∙◌, ap}
use mathlib.Core.Bool.{Bool, true, false, cond, ◌&&◌}
use mathlib.Core.List.{List}
use mathlib.Core.Logic.{inl, inr}
use Prim.Native.Nat.{ℕ, zero, suc}
use lib.ListN.{length, replicate}
use lib.Dec.{leb, eqb}
use borrow.Author.Tests.{le-leb, eq-eqb}
use Rattle.std.specs.Prelude.{Ok, Err}
use Rattle.std.specs.List.{list_all}
use Rattle.resolved_sort.specs.Checks.{code_of, Numbered}
use Rattle.resolved_sort.specs.Entries.{code_answered}
use Rattle.resolved_sort.specs.Index.{slots}
use Rattle.resolved_sort.specs.JoinMeet.{Bounded, bounded}
use Rattle.sort_entries.specs.Packed.{pack_bounded}
use Rattle.sort_entries.specs.Answered.{BoundSays}
use Rattle.sort_entries.proofs.Answered.{bound_by_number, entry_is_bound}
use Rattle.sort_entries.proofs.Packed.{bounded_code}
use Rattle.recorded_sorts.specs.declared.Question.TheVariants.{Join, Meet}
use Rattle.recorded_sorts.specs.Inner.Lines.{junk, index_word, index_answer, packed_answer}

all_the_same : (k v : ℕ) → list_all (λ w. eqb w v) (replicate k v) ≡ true
all_the_same zero v = refl
all_the_same (suc k) v = rw (eq-eqb v v refl) (all_the_same k v)

abbrev lent : List ℕ
lent = replicate slots junk

-- the word by the code
word_is : (r : Bounded) (c : ℕ) → code_answered r ≡ c → index_word (pack_bounded r) ≡ cond (leb 1 c && leb c 14) junk 0
word_is r c e = ap (λ m. cond (leb 1 m && leb m 14) junk 0) (bounded_code r ∙ e)

module _ (up : Bool) (ws : List ℕ) (n e a b : ℕ) where
  right : (vs jx : List ℕ) (r : Bounded) → BoundSays up ws lent n e a b vs jx r
      → (k : ℕ) × (jx ≡ replicate k (index_word (pack_bounded r)))
  unfolding code_answered code_of
  right vs jx (Err r) (inl x) =
      let m : Numbered r = bound_by_number ws lent n e a b r x.0.first in (
        slots,
        x.0.given_index ∙ sym (ap (replicate slots) (word_is (Err r) (code_of r) refl ∙ rw (le-leb 1 (code_of r) m.0, le-leb (code_of r) 14 m.1))),
      )
  right vs jx (Err r) (inr x) = (length lent, x.0.zero_index ∙ sym (ap (replicate (length lent)) (word_is (Err r) 15 (ap code_of x.1))))
  right vs jx (Ok (Rust.Some s, k)) x = (length lent, x.zero_index ∙ sym (ap (replicate (length lent)) (word_is (Ok (Rust.Some s, k)) 0 refl)))
  right vs jx (Ok (Rust.None, k)) x = (length lent, x.zero_index ∙ sym (ap (replicate (length lent)) (word_is (Ok (Rust.None, k)) 0 refl)))

  pub answer_compared : index_answer (bounded up ws lent n e a b).index (pack_bounded (bounded up ws lent n e a b).answer)
      ≡ pack_bounded (bounded up ws lent n e a b).answer
  unfolding index_answer
  answer_compared =
      let l = bounded up ws lent n e a b in
      let z = right l.words l.index l.answer (entry_is_bound up ws lent n e a b l.words l.index l.answer refl) in
      rw (z.1, all_the_same z.0 (index_word (pack_bounded l.answer)))

pub join_compared : (ws : List ℕ) (n e a b : ℕ) → packed_answer Join ws n e a b ≡ pack_bounded (bounded true ws lent n e a b).answer
unfolding packed_answer
join_compared ws n e a b = answer_compared true ws n e a b

pub meet_compared : (ws : List ℕ) (n e a b : ℕ) → packed_answer Meet ws n e a b ≡ pack_bounded (bounded false ws lent n e a b).answer
unfolding packed_answer
meet_compared ws n e a b = answer_compared false ws n e a b
