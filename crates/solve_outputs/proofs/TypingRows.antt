-- Rows of sorts with no name, then the base names and then the choices stored over them, are the rows of the typing. A name stored in a row is the name of its
-- expression and of no other; from the last to the first, the first for an expression is what stays, as `base_name` and `chosen_name` have it. A choice for x is
-- by the first run for x, since no constraint before its own is for x. Assumes nothing.
use mathlib.Core.Path.{◌≡◌, refl, sym, ap, ◌∙◌}
use mathlib.Core.Bool.{Bool, true, false, cond}
use mathlib.Core.List.{List, [], ◌∷◌, ◌++◌}
use mathlib.Core.Option.{Option, none, some}
use Prim.Native.Nat.{ℕ, zero, suc, ◌+◌, ◌-◌, ◌*◌, ◌<◌, ◌≤◌}
use native.Mathlib.Omega.{arith}
use lib.Dec.{eqb, ltb}
use lib.ListN.{length, set, drop}
use lib.Seq.{sets}
use borrow.Author.Tests.{ltb-true, ltb-false, eq-eqb, ne_eqb}
use Rattle.resolved_sort.specs.declared.Run.{Run}
use Rattle.inference.specs.declared.NameTarget.{NameTarget}
use Rattle.inference.specs.declared.Overload.{Overload}
use Rattle.inference.specs.declared.Constraint.{Constraint}
use Rattle.inference.specs.declared.Constraint.TheVariants.{Sub, Lit, Disjunction, Comprehension, Join}
use Rattle.inference.specs.Constraints.{constraint_at, overload_at, BaseName, rows_from, Problem}
use Rattle.inference.specs.Search.{Choice}
use Rattle.inference.specs.Names.{or_else, run_for, overload_in, target_in, chosen_name, base_name, name_of, name_kind, name_sort}
use Rattle.inference.specs.SolveChecks.{disjunctions}
use Rattle.inference.specs.SolveEntry.{typing_rows, written_over}
use Rattle.inference.proofs.Members.{rows_all_left}
use Rattle.search_state.specs.declared.Sizes.{Sizes}
use Rattle.search_state.specs.Inner.Memory.{overloads_at, problem_in, rest_from, chosen_exprs, choices_kept, choices_of, best_sorts_at, best_choices_at, scratch_used}
use Rattle.words.specs.Words.{part}
use Rattle.search_state.specs.Inner.Searching.{Sized}
use Rattle.words.proofs.Parts.{length_part, part_first}
use Rattle.solve_outputs.specs.Inner.Written.{position_at, named_rows, no_name, named, base_named, chosen_named}
use Rattle.solve_outputs.proofs.Over.{stored_is_over}

-- Rows with names.
abbrev Named : Type 0
Named = ℕ → Option NameTarget

pub length_rows : (name : Named) (x : ℕ) (ss : List ℕ) → length (named_rows name x ss) ≡ 3 * length ss
unfolding named_rows
length_rows name x [] = omega arith
length_rows name x (s ∷ ss) = omega (arith, length_rows name (x + 1) ss)

rows_alike : (name name' : Named) (x : ℕ) (ss : List ℕ) → ((j : ℕ) → j < length ss → name (x + j) ≡ name' (x + j)) → named_rows name x ss ≡ named_rows name' x ss
unfolding named_rows
rows_alike name name' x [] h = refl
rows_alike name name' x (s ∷ ss) h =
    let a : name x ≡ name' x = ap name (omega arith) ∙ (h 0 (omega arith) ∙ ap name' (omega arith)) in
    let b : named_rows name (x + 1) ss ≡ named_rows name' (x + 1) ss = rows_alike name name' (x + 1) ss
    (λ j l. ap name (omega arith) ∙ (h (suc j) (omega (arith, l)) ∙ ap name' (omega arith))) in
    λ i. s ∷ name_kind (a i) ∷ name_sort (a i) ∷ b i

-- one name more
abbrev with_name : ℕ → Option NameTarget → Named → Named
with_name y t name x = cond (eqb y x) t (name x)

other_name : (y x : ℕ) (t : Option NameTarget) (name : Named) → (y ≡ x → ⊥) → name x ≡ with_name y t name x
other_name y x t name d = ap (λ (u : Bool). cond u t (name x)) (sym (ne_eqb y x d))

own_name : (y x : ℕ) (t : Option NameTarget) (name : Named) → y ≡ x → t ≡ with_name y t name x
own_name y x t name e = ap (λ (u : Bool). cond u t (name x)) (sym (eq-eqb y x e))

module _ (name : Named) (t : Option NameTarget) (rest : List ℕ) where
  abbrev stored : List ℕ → ℕ → List ℕ
  stored ws j = set (set ws (3 * j + 1) (name_kind t)) (3 * j + 2) (name_sort t)

  name_stored : (x : ℕ) (ss : List ℕ) (j : ℕ) → j < length ss → stored (named_rows name x ss ++ rest) j ≡ named_rows (with_name (x + j) t name) x ss ++ rest
  unfolding named_rows
  name_stored x [] j l = absurd (omega (arith, l))
  name_stored x (s ∷ ss) zero l =
      let a = own_name (x + 0) x t name (omega arith) in
      let b = rows_alike name (with_name (x + 0) t name) (x + 1) ss (λ j l. other_name (x + 0) (x + 1 + j) t name (λ e. omega (arith, e))) in
      λ i. s ∷ name_kind (a i) ∷ name_sort (a i) ∷ (b i ++ rest)
  name_stored x (s ∷ ss) (suc j) l =
      let p : 3 * suc j + 1 ≡ suc (suc (suc (3 * j + 1))) = omega arith in
      let q : 3 * suc j + 2 ≡ suc (suc (suc (3 * j + 2))) = omega arith in
      let a = other_name (x + suc j) x t name (λ e. omega (arith, e)) in
      let b = name_stored (x + 1) ss j (omega (arith, l)) ∙ ap (λ y. named_rows (with_name y t name) (x + 1) ss ++
      rest) (let z : x + 1 + j ≡ x + suc j = omega arith in z) in
      (λ i. set (set (named_rows name x (s ∷ ss) ++ rest) (p i) (name_kind t)) (q i) (name_sort t)) ∙ λ i. s ∷ name_kind (a i) ∷ name_sort (a i) ∷ b i

-- where there is no row, none changes
module _ (name : Named) (ss rest : List ℕ) (y : ℕ) (t : NameTarget) where
  rows_named : named (length ss) (named_rows name 0 ss ++ rest) y t ≡ named_rows (with_name y (some t) name) 0 ss ++ rest
  unfolding named
  rows_named = go (ltb y (length ss)) refl
    where
      go : (u : Bool) → ltb y (length ss) ≡ u → cond u (stored name (some t) rest (named_rows name 0 ss ++ rest) y)
          (named_rows name 0 ss ++ rest) ≡ named_rows (with_name y (some t) name) 0 ss ++ rest
      go true e =
          name_stored name (some t) rest 0 ss y (ltb-true y (length ss) e) ∙ ap (λ y. named_rows (with_name y (some t)
          name) 0 ss ++ rest) (let z : 0 + y ≡ y = omega arith in z)
      go false e =
          let h = ltb-false y (length ss) e in
          ap (λ rs. rs ++ rest) (rows_alike name (with_name y (some t) name) 0 ss (λ j l. other_name y (0 + j) (some t) name (λ e. omega (arith, e, h, l))))

-- Base names.
rows_base_named : (ss rest : List ℕ) (bs : List BaseName) → base_named (length ss) bs (named_rows no_name 0 ss ++ rest) ≡ named_rows (base_name bs) 0 ss ++ rest
unfolding base_named base_name
rows_base_named ss rest [] = refl
rows_base_named ss rest (b ∷ bs) =
    ap (λ ts. named (length ss) ts b.key b.target) (rows_base_named ss rest bs) ∙ rows_named (base_name bs) ss rest b.key b.target

-- Choices, each by the run of its own constraint.
module _ (os : List Overload) (sc : List ℕ) where
  unfoldable own_chosen : List Constraint → ℕ → ℕ → Option NameTarget
  own_chosen [] k x = none
  own_chosen (Sub l r ∷ cs) k x = own_chosen cs k x
  own_chosen (Lit p kind ∷ cs) k x = own_chosen cs k x
  own_chosen (Disjunction y p run ∷ cs) k x = cond (eqb y.0 x) (some (overload_in os run (position_at sc k)).target) (own_chosen cs (k + 1) x)
  own_chosen (Comprehension body node element ∷ cs) k x = own_chosen cs k x
  own_chosen (Join run t ∷ cs) k x = own_chosen cs k x

  abbrev over_base : List Constraint → ℕ → Named → Named
  over_base cs k name x = or_else (own_chosen cs k x) (name x)

  or_else_cond : (u : Bool) (a b c : Option NameTarget) (t : NameTarget) → a ≡ some t → cond u a (or_else b c) ≡ or_else (cond u a b) c
  or_else_cond true a b c t e = e ∙ ap (λ (o : Option NameTarget). or_else o c) (sym e)
  or_else_cond false a b c t e = refl

  module _ (name : Named) (ss rest : List ℕ) where
    rows_chosen_named : (cs : List Constraint) (k : ℕ) → chosen_named (length ss) os sc cs k (named_rows name 0 ss ++
        rest) ≡ named_rows (over_base cs k name) 0 ss ++ rest
    unfolding chosen_named own_chosen
    rows_chosen_named [] k = refl
    rows_chosen_named (Sub l r ∷ cs) k = rows_chosen_named cs k
    rows_chosen_named (Lit p kind ∷ cs) k = rows_chosen_named cs k
    rows_chosen_named (Disjunction y p run ∷ cs) k =
        let t = (overload_in os run (position_at sc k)).target in
        ap (λ ts. named (length ss) ts y.0 t) (rows_chosen_named cs (k + 1))
        ∙ (rows_named (over_base cs (k + 1) name) ss rest y.0 t
        ∙ ap (λ rs. rs ++ rest)
        (rows_alike (with_name y.0 (some t) (over_base cs (k + 1) name)) (over_base (Disjunction y p run ∷ cs) k name) 0 ss
        (λ j l. or_else_cond (eqb y.0 (0 + j)) (some t) (own_chosen cs (k + 1) (0 + j)) (name (0 + j)) t refl)))
    rows_chosen_named (Comprehension body node element ∷ cs) k = rows_chosen_named cs k
    rows_chosen_named (Join run t ∷ cs) k = rows_chosen_named cs k

module _ (P : Problem) (sc : List ℕ) (d : ℕ) (fits : best_choices_at + d ≤ length sc) (x : ℕ) where
  -- by whether the constraint is for x
  own_by_test : (u : Bool) (run : Run) (cs : List Constraint) (i : ℕ) (own more : Option NameTarget)
      → run_for x P.constraints ≡ or_else (cond u (some run) none) (run_for x cs)
      → (run_for x P.constraints ≡ run_for x cs → own ≡ more)
      → cond u (some (overload_in P.overloads run i).target) own ≡ cond u (target_in P.overloads i (run_for x P.constraints)) more
  own_by_test true run cs i own more e f = sym (ap (target_in P.overloads i) e)
  own_by_test false run cs i own more e f = f e

  own_is_chosen : (cs : List Constraint) (k : ℕ) → k + length (disjunctions cs) ≡ d → run_for x P.constraints ≡ run_for x cs
      → own_chosen P.overloads sc cs k x ≡ chosen_name P (choices_of (disjunctions cs) (part (best_choices_at + k) (d - k) sc)) x
  unfolding own_chosen disjunctions choices_of chosen_name run_for
  own_is_chosen [] k h e = refl
  own_is_chosen (Sub l r ∷ cs) k h e = own_is_chosen cs k h e
  own_is_chosen (Lit p kind ∷ cs) k h e = own_is_chosen cs k h e
  own_is_chosen (Disjunction y p run ∷ cs) k h e =
      own_by_test (eqb y.0 x) run cs (position_at sc k) _ _ e (own_is_chosen cs (k + 1) (omega (arith, h)))
      ∙ sym (ap (λ m. chosen_name P (choices_of (y.0 ∷ disjunctions cs) (part (best_choices_at + k) m sc)) x)
      (let z : d - k ≡ suc (d - (k + 1)) = omega (arith, h) in z)
      ∙ (ap (λ is. chosen_name P (choices_of (y.0 ∷ disjunctions cs) is) x) (part_first (best_choices_at + k) (d - (k + 1)) sc (omega (arith, fits, h)))
      ∙ ap (λ m. chosen_name P (record { expr = y.0; position = position_at sc k } ∷ choices_of (disjunctions cs)
      (part m (d - (k + 1)) sc)) x) (let z : suc (best_choices_at + k) ≡ best_choices_at + (k + 1) = omega arith in
      z)))
  own_is_chosen (Comprehension body node element ∷ cs) k h e = own_is_chosen cs k h e
  own_is_chosen (Join run t ∷ cs) k h e = own_is_chosen cs k h e

-- The rows of a typing are rows with names.
rows_of_typing : (P : Problem) (bs : List BaseName) (ks : List Choice) (x : ℕ) (ss : List ℕ) → named_rows (name_of P bs ks) x ss ≡ typing_rows P bs ks x ss
unfolding named_rows typing_rows
rows_of_typing P bs ks x [] = refl
rows_of_typing P bs ks x (s ∷ ss) = ap (λ rs. s ∷ name_kind (name_of P bs ks x) ∷ name_sort (name_of P bs ks x) ∷ rs) (rows_of_typing P bs ks (x + 1) ss)

pub typing_written : (P : Problem) (bs : List BaseName) (sc old ss : List ℕ) (n d : ℕ) → best_choices_at + d ≤ length sc
    → length (disjunctions P.constraints) ≡ d
    → length ss ≡ n → 3 * n ≤ length old
    → chosen_named n P.overloads sc P.constraints 0 (base_named n bs (sets old 0 (named_rows no_name 0 ss)))
    ≡ written_over (typing_rows P bs (choices_of (disjunctions P.constraints) (part best_choices_at d sc)) 0 ss) old
unfolding name_of
typing_written P bs sc old ss n d fits all e room =
    let ks = choices_of (disjunctions P.constraints) (part best_choices_at d sc) in
    let a = stored_is_over (named_rows no_name 0 ss) old (omega (arith, length_rows no_name 0 ss, e, room)) in
    let b : length (named_rows no_name 0 ss) ≡ length (named_rows (name_of P bs ks) 0 ss) = length_rows no_name 0 ss ∙ sym (length_rows (name_of P bs ks) 0 ss) in
    let c : (x : ℕ) → own_chosen P.overloads sc P.constraints 0 x ≡ chosen_name P ks x = λ x. own_is_chosen P sc d
    fits x P.constraints 0 (omega (arith, all)) refl ∙ ap (λ m. chosen_name P
    (choices_of (disjunctions P.constraints) (part best_choices_at m sc)) x) (let z : d - 0 ≡ d = omega arith in
    z) in
    let rest = drop (length (named_rows no_name 0 ss)) old in
    ap (λ m. chosen_named m P.overloads sc P.constraints 0 (base_named m bs (sets old 0 (named_rows no_name 0 ss)))) (sym e)
    ∙ (ap (λ ts. chosen_named (length ss) P.overloads sc P.constraints 0 (base_named (length ss) bs ts)) a
    ∙ (ap (chosen_named (length ss) P.overloads sc P.constraints 0) (rows_base_named ss rest bs)
    ∙ (rows_chosen_named P.overloads sc (base_name bs) ss rest P.constraints 0
    ∙ (ap (λ rs. rs ++ rest) (rows_alike (over_base P.overloads sc P.constraints 0 (base_name bs))
    (name_of P bs ks) 0 ss (λ j l. ap (λ (o : Option NameTarget). or_else o (base_name bs (0 + j))) (c (0 + j))))
    ∙ (ap (λ m. named_rows (name_of P bs ks) 0 ss ++ drop m old) b
    ∙ ap (λ rs. rs ++ drop (length rs) old) (rows_of_typing P bs ks 0 ss))))))

-- as the three loops leave it, for the constraints of a problem
pub typing_handed_out : (sc old ls : List ℕ) (bs : List BaseName) (z : Sizes) → Sized (problem_in ls z) z → 3 * z.exprs ≤ length old → scratch_used ≤ length sc
    → (us vs ws : List ℕ) → us ≡ sets old 0 (named_rows no_name 0 (part best_sorts_at z.exprs sc)) → vs ≡ base_named z.exprs bs us
    → ws ≡ chosen_named z.exprs (rows_from (overload_at (drop overloads_at ls)) 0 z.overloads) sc (rest_from ls z 0) 0 vs
    → ws ≡ written_over (typing_rows (problem_in ls z) bs (choices_kept ls z sc) 0 (part best_sorts_at z.exprs sc)) old
unfolding problem_in chosen_exprs
typing_handed_out sc old ls bs z s room used us vs ws a b c =
    let P = problem_in ls z in
    let ss = part best_sorts_at z.exprs sc in
    let e : rest_from ls z 0 ≡ P.constraints = rows_all_left (constraint_at ls) z.constraints in
    let n : length ss ≡ z.exprs = length_part best_sorts_at z.exprs sc (omega (arith, s.exprs, used)) in
    c
    ∙ ((λ h. chosen_named z.exprs P.overloads sc (e h) 0 ((b ∙ ap (base_named z.exprs bs) a) h))
    ∙ (typing_written P bs sc old ss z.exprs z.disjunctions (omega (arith, s.few_disjunctions, used)) s.disjunctions n room
    ∙ ap (λ cs. written_over (typing_rows P bs (choices_of (disjunctions cs) (part best_choices_at z.disjunctions sc)) 0 ss) old) (sym e)))
