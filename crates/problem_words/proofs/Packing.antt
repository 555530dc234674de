-- What is packed says what the caller's lists say: each list is stored where no later one reaches, and is read word by word. Assumes nothing.
use mathlib.Core.Path.{◌≡◌, ap, ◌∙◌}
use mathlib.Core.List.{List}
use Prim.Native.Nat.{ℕ, ◌+◌, ◌*◌, ◌<◌, ◌≤◌}
use native.Mathlib.Omega.{arith}
use lib.ListN.{length, get_or, drop}
use lib.Seq.{sets, length-sets, get_or-drop}
use Rattle.resolved_sort.proofs.Append.{get_d_sets_before, get_d_sets_at}
use Rattle.inference.specs.Constraints.{target, constraint, constraint_at, overload_at}
use Rattle.inference.proofs.Members.{rows_same}
use Rattle.search_state.specs.declared.Sizes.{Sizes}
use Rattle.search_state.specs.Inner.Memory.{overloads_at, sources_at, exprs_at, source_at, expr_at, problem_in}
use Rattle.words.specs.Words.{part}
use Rattle.words.proofs.Parts.{length_part, part_at}
use Rattle.problem_words.specs.Inner.Packed.{problem_from, Packable}

stored : (l vs : List ℕ) (at n : ℕ) → at + n ≤ length l → n ≤ length vs → (j : ℕ) → j < n → get_or (sets l at (part 0 n vs)) (at + j) 0 ≡ get_or vs j 0
stored l vs at n h k j i =
    let e = length_part 0 n vs (omega (arith, k)) in
    get_d_sets_at (part 0 n vs) l at j (omega (arith, e, h)) (omega (arith, e, i)) ∙ (part_at 0 n vs j i ∙ ap
    (λ m. get_or vs m 0) (let z : 0 + j ≡ j = omega arith in z))

module _ (old xs cs os ss : List ℕ) (z : Sizes) (p : Packable old xs cs os ss z)
    (l1 l2 l3 l4 : List ℕ)
    (e1 : l1 ≡ sets old 0 (part 0 (5 * z.constraints) cs))
    (e2 : l2 ≡ sets l1 overloads_at (part 0 (3 * z.overloads) os))
    (e3 : l3 ≡ sets l2 sources_at (part 0 z.sources ss))
    (e4 : l4 ≡ sets l3 exprs_at (part 0 z.exprs xs)) where
  long1 : length l1 ≡ length old
  long1 = ap length e1 ∙ length-sets old 0 (part 0 (5 * z.constraints) cs)

  long2 : length l2 ≡ length old
  long2 = ap length e2 ∙ (length-sets l1 overloads_at (part 0 (3 * z.overloads) os) ∙ long1)

  long3 : length l3 ≡ length old
  long3 = ap length e3 ∙ (length-sets l2 sources_at (part 0 z.sources ss) ∙ long2)

  -- what a list leaves of those before it
  before4 : (j : ℕ) → j < exprs_at → get_or l4 j 0 ≡ get_or l3 j 0
  before4 j l = ap (λ m. get_or m j 0) e4 ∙ get_d_sets_before (part 0 z.exprs xs) l3 exprs_at j l

  before3 : (j : ℕ) → j < sources_at → get_or l3 j 0 ≡ get_or l2 j 0
  before3 j l = ap (λ m. get_or m j 0) e3 ∙ get_d_sets_before (part 0 z.sources ss) l2 sources_at j l

  before2 : (j : ℕ) → j < overloads_at → get_or l2 j 0 ≡ get_or l1 j 0
  before2 j l = ap (λ m. get_or m j 0) e2 ∙ get_d_sets_before (part 0 (3 * z.overloads) os) l1 overloads_at j l

  -- the words of each list
  constraint_word : (j : ℕ) → j < 5 * z.constraints → get_or l4 j 0 ≡ get_or cs j 0
  constraint_word j l =
      before4 j (omega (arith, l, p.constraints)) ∙ (before3 j (omega (arith, l, p.constraints)) ∙ (before2 j (omega (arith, l, p.constraints))
      ∙ (ap (λ m. get_or m j 0) e1
      ∙ (ap (λ m. get_or (sets old 0 (part 0 (5 * z.constraints) cs)) m 0) (let x : j ≡ 0 + j = omega arith in x)
      ∙ stored old cs 0 (5 * z.constraints) (omega (arith, p.constraints, p.room)) p.constraint_words j l))))

  overload_word : (j : ℕ) → j < 3 * z.overloads → get_or (drop overloads_at l4) j 0 ≡ get_or os j 0
  overload_word j l =
      get_or-drop overloads_at l4 j 0 ∙ (before4 (overloads_at + j) (omega (arith, l, p.overloads)) ∙ (before3 (overloads_at + j) (omega (arith, l, p.overloads))
      ∙ (ap (λ m. get_or m (overloads_at + j) 0) e2
      ∙ stored l1 os overloads_at (3 * z.overloads) (omega (arith, long1, p.overloads, p.room)) p.overload_words j l)))

  source_word : (j : ℕ) → j < z.sources → source_at l4 j ≡ get_or ss j 0
  source_word j l =
      before4 (sources_at + j) (omega (arith, l, p.sources)) ∙ (ap (λ m. get_or m (sources_at + j) 0) e3
      ∙ stored l2 ss sources_at z.sources (omega (arith, long2, p.sources, p.room)) p.source_words j l)

  expr_word : (j : ℕ) → j < z.exprs → expr_at l4 j ≡ get_or xs j 0
  expr_word j l = ap (λ m. get_or m (exprs_at + j) 0) e4 ∙ stored l3 xs exprs_at z.exprs (omega (arith, long3, p.exprs, p.room)) p.expr_words j l

  -- the rows of each list
  constraint_row : (i : ℕ) → i < z.constraints → constraint_at l4 i ≡ constraint_at cs i
  constraint_row i l =
      let a = constraint_word (5 * i) (omega (arith, l)) in
      let b = constraint_word (5 * i + 1) (omega (arith, l)) in
      let c = constraint_word (5 * i + 2) (omega (arith, l)) in
      let d = constraint_word (5 * i + 3) (omega (arith, l)) in
      let e = constraint_word (5 * i + 4) (omega (arith, l)) in
      λ k. constraint (a k) (b k) (c k) (d k) (e k)

  overload_row : (i : ℕ) → i < z.overloads → overload_at (drop overloads_at l4) i ≡ overload_at os i
  overload_row i l =
      let a = overload_word (3 * i) (omega (arith, l)) in
      let b = overload_word (3 * i + 1) (omega (arith, l)) in
      let c = overload_word (3 * i + 2) (omega (arith, l)) in
      λ k. record { target = target (a k) (b k); sort = record { 0 = c k } }

  pub packed : problem_in l4 z ≡ problem_from xs cs os ss z
  unfolding problem_in
  packed =
      let a = rows_same (constraint_at l4) (constraint_at cs) z.constraints constraint_row in
      let b = rows_same (overload_at (drop overloads_at l4)) (overload_at os) z.overloads overload_row in
      let c = rows_same (source_at l4) (λ i. get_or ss i 0) z.sources source_word in
      let d = rows_same (expr_at l4) (λ i. get_or xs i 0) z.exprs expr_word in
      λ k. record { constraints = a k; overloads = b k; sources = c k; exprs = d k; default = z.default.0 }
