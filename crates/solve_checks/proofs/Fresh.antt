-- Numbers marked one after another, from no marks on, are marked once each exactly if no two of them are equal: a number below the length of the marks is
-- marked at its place, and at no other. By induction on the numbers. Assumes nothing.
use mathlib.Core.Path.{◌≡◌, refl, sym, subst, ap, ap₂, ◌∙◌}
use mathlib.Core.Bool.{Bool, true, false, not, cond, ◌&&◌, and-false, and_assoc, and-eq-true_iff}
use mathlib.Core.List.{List, [], ◌∷◌}
use Prim.Native.Nat.{ℕ, zero, suc, ◌+◌, ◌<◌, ◌≤◌}
use native.Mathlib.Nat.{add-zero}
use native.Mathlib.Omega.{arith}
use lib.Dec.{eqb, ltb}
use lib.ListN.{length, get_or, set, length-set, replicate, length-replicate}
use lib.Seq.{get_or-set_same, get_or-set_other}
use borrow.Author.Tests.{ltb-true, lt-ltb, eqb-true, eqb-false}
use Rattle.std.specs.Prelude.{Option, Some, None}
use Rattle.inference.specs.declared.Constraint.{Constraint}
use Rattle.inference.specs.declared.Constraint.TheVariants.{Sub, Lit, Disjunction, Comprehension, Join}
use Rattle.inference.specs.declared.ExprId.{ExprId}
use Rattle.inference.specs.Constraints.{max_exprs, rows_from}
use Rattle.inference.specs.SolveChecks.{disjunction_for, disjunctions, among, no_two}
use Rattle.solve_checks.specs.Inner.Marks.{Marked, marked, mark_of, disjunction_expr, expr_before, exprs_for, IsExpr, EachIsExpr}
use Rattle.solve_checks.proofs.RowsLeft.{left, one_left, none_left}
use Rattle.unification.proofs.Settles.{none_at_first}

unfoldable pub fresh_from : List Bool → List ℕ → Bool
fresh_from seen [] = true
fresh_from seen (x ∷ xs) = not (get_or seen x false) && fresh_from (set seen x true) xs

unfoldable all_under : ℕ → List ℕ → Bool
all_under n [] = true
all_under n (x ∷ xs) = ltb x n && all_under n xs

unfoldable none_seen : List Bool → List ℕ → Bool
none_seen seen [] = true
none_seen seen (x ∷ xs) = not (get_or seen x false) && none_seen seen xs

-- one mark more
module _ (seen : List Bool) (x : ℕ) (l : x < length seen) where
  hides_first : (y : ℕ) (ys : List ℕ) → none_seen (set seen x true) ys ≡ (none_seen seen ys && not (among x ys)) → (b : Bool) → eqb x y ≡ b
      → (not (get_or (set seen x true) y false) && none_seen (set seen x true) ys) ≡
      ((not (get_or seen y false) && none_seen seen ys) && not (cond b true (among x ys)))
  hides_first y ys ih true e =
      ap (λ z. not z && none_seen (set seen x true) ys) (ap (λ (w : ℕ). get_or (set seen x true) w false)
      (sym (eqb-true x y e)) ∙ get_or-set_same seen x true false l)
      ∙ sym (and-false (not (get_or seen y false) && none_seen seen ys))
  hides_first y ys ih false e =
      ap₂ (λ (z w : Bool). not z && w) (get_or-set_other seen x y true false (λ q. eqb-false x y e (sym q))) ih
      ∙ sym (and_assoc (not (get_or seen y false)) (none_seen seen ys) (not (among x ys)))

  mark_hides : (ys : List ℕ) → none_seen (set seen x true) ys ≡ (none_seen seen ys && not (among x ys))
  unfolding none_seen among
  mark_hides [] = refl
  mark_hides (y ∷ ys) = hides_first y ys (mark_hides ys) (eqb x y) refl

regroup : (a b c d : Bool) → (a && ((b && c) && d)) ≡ ((a && b) && (c && d))
regroup true b c d = and_assoc b c d
regroup false b c d = refl

fresh_by : (seen : List Bool) (xs : List ℕ) → all_under (length seen) xs ≡ true → fresh_from seen xs ≡ (none_seen seen xs && no_two xs)
unfolding fresh_from none_seen no_two all_under
fresh_by seen [] u = refl
fresh_by seen (x ∷ xs) u =
    let w = (and-eq-true_iff (ltb x (length seen)) (all_under (length seen) xs)).0 u in
    let l = ltb-true x (length seen) w.0 in
    let r = fresh_by (set seen x true) xs (ap (λ (n : ℕ). all_under n xs) (length-set seen x true) ∙ w.1) in
    ap (λ z. not (get_or seen x false) && z) (r ∙ ap (λ z. z && no_two xs) (mark_hides seen x l xs))
    ∙ regroup (not (get_or seen x false)) (none_seen seen xs) (not (among x xs)) (no_two xs)

none_marked : (n : ℕ) (xs : List ℕ) → none_seen (replicate n false) xs ≡ true
unfolding none_seen
none_marked n [] = refl
none_marked n (x ∷ xs) = ap₂ (λ (a b : Bool). not a && b) (none_at_first n x) (none_marked n xs)

fresh_is_no_two : (n : ℕ) (xs : List ℕ) → all_under n xs ≡ true → fresh_from (replicate n false) xs ≡ no_two xs
fresh_is_no_two n xs u =
    fresh_by (replicate n false) xs (ap (λ (m : ℕ). all_under m xs) (length-replicate n false) ∙ u) ∙ ap (λ z. z && no_two xs) (none_marked n xs)

-- Marks so far, and the numbers left.
module _ (whole : List ℕ) where
  pub record Marking (seen : List Bool) (rest : List ℕ) : Type 0 where
    pub size : length seen ≡ max_exprs
    pub left_over : fresh_from (replicate max_exprs false) whole ≡ fresh_from seen rest

  module _ (seen : List Bool) (rest : List ℕ) (p : Marking seen rest) where
    end : all_under max_exprs whole ≡ true → rest ≡ [] → true ≡ no_two whole
    unfolding fresh_from
    end u e = sym (sym (fresh_is_no_two max_exprs whole u) ∙ (p.left_over ∙ ap (fresh_from seen) e))

    -- a step that marks the first numbers and leaves rest₁
    module _ (seen₁ : List Bool) (b : Bool) (rest₁ : List ℕ) (step : fresh_from seen rest ≡ (b && fresh_from seen₁ rest₁)) where
      twice : all_under max_exprs whole ≡ true → b ≡ false → false ≡ no_two whole
      twice u x = sym (sym (fresh_is_no_two max_exprs whole u) ∙ (p.left_over ∙ (step ∙ ap (λ z. z && fresh_from seen₁ rest₁) x)))

      once : b ≡ true → length seen₁ ≡ length seen → Marking seen₁ rest₁
      once x s = record { size = s ∙ p.size; left_over = p.left_over ∙ (step ∙ ap (λ z. z && fresh_from seen₁ rest₁) x) }

-- rows that are for expressions within the ceiling
rows_under : (row : ℕ → Option ExprId) (i n : ℕ) → ((j : ℕ) → j < n → IsExpr (row (i + j))) → all_under max_exprs (exprs_for (rows_from row i n)) ≡ true
unfolding all_under rows_from exprs_for
rows_under row i zero h = refl
rows_under row i (suc n) h =
    one (row i) (subst (λ (k : ℕ). IsExpr (row k)) (add-zero i) (h 0 (omega arith))) (exprs_for (rows_from row (i + 1) n))
    (rows_under row (i + 1) n (λ j l. subst (λ (k : ℕ). IsExpr (row k)) (omega arith) (h (suc j) (omega (arith, l)))))
  where
    one : (x : Option ExprId) → IsExpr x → (xs : List ℕ) → all_under max_exprs xs ≡ true → all_under max_exprs (expr_before x xs) ≡ true
    one None y xs u = u
    one (Some x) y xs u = (and-eq-true_iff (ltb x.0 max_exprs) (all_under max_exprs xs)).1 (lt-ltb x.0 max_exprs y, u)

all_exprs : (row : ℕ → Option ExprId) (n : ℕ) → EachIsExpr n row → all_under max_exprs (exprs_for (rows_from row 0 n)) ≡ true
all_exprs row n u = rows_under row 0 n (λ j l. subst (λ (k : ℕ). IsExpr (row k)) (omega arith) (u j l))

-- the expressions that rows are for
mark_steps : (seen : List Bool) (x : ExprId) (xs : List ℕ) → fresh_from seen (expr_before (Some x) xs)
    ≡ ((mark_of seen x.0).fresh && fresh_from (mark_of seen x.0).seen xs)
unfolding fresh_from
mark_steps seen x xs = refl

module _ (row : ℕ → Option ExprId) (n : ℕ) where
  abbrev exprs : List ℕ
  exprs = exprs_for (rows_from row 0 n)

  abbrev exprs_left : ℕ → List ℕ
  exprs_left i = exprs_for (left row n i)

  abbrev pub ExprsMarked : List Bool → ℕ → Type 0
  ExprsMarked seen i = (i ≤ n) × Marking exprs seen (exprs_left i)

  module _ (seen : List Bool) (i : ℕ) (p : ExprsMarked seen i) where
    module _ (l : i < n) where
      expr_left : exprs_left i ≡ expr_before (row i) (exprs_left (i + 1))
      unfolding exprs_for
      expr_left = ap exprs_for (one_left row n i l)

      pub none_to_mark : None ≡ row i → ExprsMarked seen (i + 1)
      none_to_mark e = (
        omega (arith, l),
        once exprs seen (exprs_left i) p.1 seen true (exprs_left (i + 1)) (ap (fresh_from seen)
            (expr_left ∙ ap (λ x. expr_before x (exprs_left (i + 1))) (sym e))) refl refl,
      )

      module _ (x : ExprId) (e : Some x ≡ row i) (seen₁ : List Bool) (b : Bool) (m : marked seen₁ b ≡ mark_of seen x.0) where
        marked_one : fresh_from seen (exprs_left i) ≡ (b && fresh_from seen₁ (exprs_left (i + 1)))
        marked_one =
            ap (fresh_from seen) (expr_left ∙ ap (λ y. expr_before y (exprs_left (i + 1))) (sym e))
            ∙ (mark_steps seen x (exprs_left (i + 1))
            ∙ sym (ap₂ (λ (y : Bool) (ys : List Bool). y && fresh_from ys (exprs_left (i + 1)))
            (ap (λ (k : Marked). k.fresh) m) (ap (λ (k : Marked). k.seen) m)))

        pub expr_twice : EachIsExpr n row → b ≡ false → false ≡ no_two exprs
        expr_twice u = twice exprs seen (exprs_left i) p.1 seen₁ b (exprs_left (i + 1)) marked_one (all_exprs row n u)

        pub expr_once : b ≡ true → ExprsMarked seen₁ (i + 1)
        expr_once y = (
          omega (arith, l),
          once exprs seen (exprs_left i) p.1 seen₁ b (exprs_left (i + 1)) marked_one y (ap (λ (k : Marked). length k.seen) m ∙
              length-set seen x.0 true),
        )

    pub exprs_differ : EachIsExpr n row → n ≤ i → true ≡ no_two exprs
    unfolding exprs_for
    exprs_differ u l = end exprs seen (exprs_left i) p.1 (all_exprs row n u) (ap exprs_for (none_left row n i l))

-- the rows of check 10
pub each_disjunction : (row : ℕ → Constraint) (i n : ℕ) → exprs_for (rows_from (λ k. disjunction_expr (row k)) i n) ≡ disjunctions (rows_from row i n)
unfolding exprs_for disjunctions rows_from
each_disjunction row i zero = refl
each_disjunction row i (suc n) = one (row i) _ _ (each_disjunction row (i + 1) n)
  where
    one : (c : Constraint) (xs ys : List ℕ) → xs ≡ ys → expr_before (disjunction_expr c) xs ≡ disjunction_for c ys
    one (Sub l r) xs ys e = e
    one (Lit p kind) xs ys e = e
    one (Disjunction x p run) xs ys e = ap (λ zs. x.0 ∷ zs) e
    one (Comprehension body node element) xs ys e = e
    one (Join run t) xs ys e = e

pub each_key : (key : ℕ → ℕ) (i n : ℕ) → exprs_for (rows_from (λ k. Some (record { 0 = key k })) i n) ≡ rows_from key i n
unfolding exprs_for rows_from
each_key key i zero = refl
each_key key i (suc n) = ap (λ xs. key i ∷ xs) (each_key key (i + 1) n)
