-- One name at a time. A name is stored in the two words after the sort of its expression, where that has a row; what a position chooses is read from the
-- overloads. Then the loops: the sorts from the first on, the names from the last on. Assumes nothing.
use mathlib.Core.Path.{◌≡◌, refl, sym, ap, ◌∙◌, subst}
use mathlib.Core.Bool.{Bool, true, false, cond}
use mathlib.Core.List.{List, [], ◌∷◌}
use mathlib.Core.Option.{some}
use Prim.Native.Nat.{ℕ, zero, suc, ◌+◌, ◌-◌, ◌*◌, ◌<◌, ◌≤◌}
use native.Mathlib.Omega.{arith}
use lib.ListN.{length, get_or, set, drop, length-set}
use lib.Dec.{ltb}
use lib.Seq.{sets, get_or-drop}
use borrow.Author.Tests.{lt-ltb, le-ltb}
use Rattle.resolved_sort.specs.declared.Run.{Run}
use Rattle.inference.specs.declared.NameTarget.{NameTarget}
use Rattle.inference.specs.declared.NameTarget.TheVariants.{Variable}
use Rattle.inference.specs.declared.Overload.{Overload}
use Rattle.inference.specs.declared.Constraint.{Constraint}
use Rattle.inference.specs.declared.Constraint.TheVariants.{Sub, Lit, Disjunction, Comprehension, Join}
use Rattle.inference.specs.Constraints.{max_constraints, target, constraint_at, overload_at, base_name_at, rows_from}
use Rattle.inference.specs.Names.{overload_in, name_kind, name_sort}
use Rattle.inference.specs.SolveChecks.{disjunction_for, disjunctions}
use Rattle.inference.proofs.Members.{row_at_lem, row_past, rows_one_left, rows_none_left}
use Rattle.search_state.specs.declared.Sizes.{Sizes}
use Rattle.search_state.specs.Inner.Memory.{overloads_at, problem_in, rest_from, best_sorts_at}
use Rattle.words.specs.Words.{part}
use Rattle.search_state.specs.Inner.Searching.{Sized}
use Rattle.words.proofs.Parts.{part_first}
use Rattle.solve_outputs.specs.Inner.Written.{Walked, walked, position_at, named_rows, no_name, named, base_named, name_by_of, chosen_named}
use Rattle.solve_outputs.proofs.Choosing.{choices_in_all}

module _ (n : ℕ) (ts : List ℕ) (x : ℕ) (t : NameTarget) where
  pub named_inside : x < n → (ws vs : List ℕ) (a b : ℕ) → a ≡ name_kind (some t) → ws ≡ set ts (3 * x + 1) a
      → b ≡ name_sort (some t) → vs ≡ set ws (3 * x + 2) b → vs ≡ named n ts x t
  unfolding named
  named_inside l ws vs a b p q r s =
      (s ∙ λ j. set ((q ∙ ap (set ts (3 * x + 1)) p) j) (3 * x + 2) (r j))
      ∙ ap (λ (u : Bool). cond u (set (set ts (3 * x + 1) (name_kind (some t))) (3 * x + 2) (name_sort (some t))) ts) (sym (lt-ltb x n l))

  pub named_outside : n ≤ x → ts ≡ named n ts x t
  unfolding named
  named_outside l = ap (λ (u : Bool). cond u (set (set ts (3 * x + 1) (name_kind (some t))) (3 * x + 2) (name_sort (some t))) ts) (sym (le-ltb x n l))

  pub length_named : length (named n ts x t) ≡ length ts
  unfolding named
  length_named = go (ltb x n)
    where
      go : (u : Bool) → length (cond u (set (set ts (3 * x + 1) (name_kind (some t))) (3 * x + 2) (name_sort (some t))) ts) ≡ length ts
      go true = simp length-set
      go false = refl

-- what a position of a run chooses, by whether it is one of n overloads
module _ (ls : List ℕ) (n : ℕ) (run : Run) (i : ℕ) where
  abbrev chosen : NameTarget
  chosen = (overload_in (rows_from (overload_at (drop overloads_at ls)) 0 n) run i).target

  pub target_past : n ≤ run.start + i → Variable ≡ chosen
  target_past l = sym (ap (λ (o : Overload). o.target) (row_past (overload_at (drop overloads_at ls)) _ n (run.start + i) l))

  pub target_inside : run.start + i < n → (kind sort : ℕ) (t : NameTarget)
      → kind ≡ get_or ls (1280 + 3 * (run.start + i)) 0 → sort ≡ get_or ls (1280 + 3 * (run.start + i) + 1) 0 → t ≡ target kind sort → t ≡ chosen
  target_inside l kind sort t a b c =
      let p = a ∙ sym (get_or-drop overloads_at ls (3 * (run.start + i)) 0) in
      let q = b ∙ (ap (λ j. get_or ls j 0) (omega arith) ∙ sym (get_or-drop overloads_at ls (3 * (run.start + i) + 1) 0)) in
      (c ∙ λ j. target (p j) (q j)) ∙ sym (ap (λ (o : Overload). o.target) (row_at_lem (overload_at (drop overloads_at ls)) _ n (run.start + i) l))

-- The loop over the sorts of n expressions: those from the x-th on are left.
module _ (sc old : List ℕ) (n : ℕ) where
  pub record SortsLeft (ts : List ℕ) (x : ℕ) : Type 0 where
    pub within : x ≤ n
    pub long : length ts ≡ length old
    pub left : sets old 0 (named_rows no_name 0 (part best_sorts_at n sc)) ≡ sets ts (3 * x) (named_rows no_name x (part (best_sorts_at + x) (n - x) sc))

  module _ (ts : List ℕ) (x : ℕ) (p : SortsLeft ts x) where
    pub sorts_go_on : best_sorts_at + n ≤ length sc → x < n → (s : ℕ) (us vs ws : List ℕ) → s ≡ get_or sc (best_sorts_at + x) 0
        → us ≡ set ts (3 * x) s → vs ≡ set us (3 * x + 1) 0 → ws ≡ set vs (3 * x + 2) 0 → SortsLeft ws (x + 1)
    unfolding named_rows
    sorts_go_on fits l s us vs ws e a b c =
        let q : ws ≡ set (set (set ts (3 * x) (get_or sc (best_sorts_at + x) 0)) (3 * x + 1) 0) (3 * x + 2) 0 =
        c ∙ ap (λ r. set r (3 * x + 2) 0) (b ∙ ap (λ r. set r (3 * x + 1) 0) (a ∙ ap (set ts (3 * x)) e)) in
        record {
          within = omega (arith, l);
          long = ap length q ∙ simp length-set p.long;
          left =
              let m : n - x ≡ suc (n - (x + 1)) = omega (arith, l) in
              let f : suc (best_sorts_at + x) ≡ best_sorts_at + (x + 1) = omega arith in
              let i : suc (3 * x) ≡ 3 * x + 1 = omega arith in
              let j : suc (suc (3 * x)) ≡ 3 * x + 2 = omega arith in
              let k : suc (suc (suc (3 * x))) ≡ 3 * (x + 1) = omega arith in
              p.left
              ∙ (ap (λ m. sets ts (3 * x) (named_rows no_name x (part (best_sorts_at + x) m sc))) m
              ∙ (ap (λ ss. sets ts (3 * x) (named_rows no_name x ss)) (part_first (best_sorts_at + x) (n - (x + 1)) sc (omega (arith, fits, l)))
              ∙ ((λ h. sets (set (set (set ts (3 * x) (get_or sc (best_sorts_at + x) 0)) (i h) 0) (j h) 0) (k h)
              (named_rows no_name (x + 1) (part (f h) (n - (x + 1)) sc)))
              ∙ ap (λ r. sets r (3 * (x + 1)) (named_rows no_name (x + 1) (part (best_sorts_at + (x + 1)) (n - (x + 1)) sc))) (sym q))));
        }

    pub sorts_end : n ≤ x → ts ≡ sets old 0 (named_rows no_name 0 (part best_sorts_at n sc))
    unfolding named_rows
    sorts_end l = sym (p.left ∙ ap (λ m. sets ts (3 * x) (named_rows no_name x (part (best_sorts_at + x) m sc))) (let z : n - x ≡ 0 = omega (arith, l) in z))

-- The loop over m base names, from the last on: those below the i-th are left.
module _ (names old : List ℕ) (n m : ℕ) where
  pub record BaseLeft (ts : List ℕ) (i : ℕ) : Type 0 where
    pub within : i ≤ m
    pub long : length ts ≡ length old
    pub done : ts ≡ base_named n (rows_from (base_name_at names) i (m - i)) old

  pub base_begin : BaseLeft old m
  unfolding base_named
  base_begin = record { within = omega arith; long = refl; done = ap (λ bs. base_named n bs old) (sym (rows_none_left (base_name_at names) m m (omega arith))) }

  module _ (ts : List ℕ) (i : ℕ) (p : BaseLeft ts i) where
    pub base_go_on : 0 < i → (key kind sort : ℕ) (t : NameTarget) (ws : List ℕ) → key ≡ get_or names (3 * (i - 1)) 0 → kind ≡ get_or names (3 * (i - 1) + 1) 0
        → sort ≡ get_or names (3 * (i - 1) + 2) 0 → t ≡ target kind sort → ws ≡ named n ts key t → BaseLeft ws (i - 1)
    unfolding base_named
    base_go_on l key kind sort t ws a b c d e =
        let j : i - 1 + 1 ≡ i = omega (arith, l) in
        record {
          within = omega (arith, p.within);
          long = ap length e ∙ (length_named n ts key t ∙ p.long);
          done =
              e
              ∙ ((λ h. named n (p.done h) (a h) ((d ∙ λ h. target (b h) (c h)) h))
              ∙ (ap (λ j. named n (base_named n (rows_from (base_name_at names) j (m - j)) old)
              (base_name_at names (i - 1)).key (base_name_at names (i - 1)).target) (sym j)
              ∙ ap (λ bs. base_named n bs old) (sym (rows_one_left (base_name_at names) m (i - 1) (omega (arith, l, p.within))))));
        }

-- how many choices constraints have
pub choices_more : (c : Constraint) (cs : List Constraint) → length (disjunctions (c ∷ cs)) ≡ length (disjunction_for c []) + length (disjunctions cs)
unfolding disjunctions
choices_more (Sub l r) cs = omega arith
choices_more (Lit p kind) cs = omega arith
choices_more (Disjunction x p run) cs = omega arith
choices_more (Comprehension body node element) cs = omega arith
choices_more (Join run t) cs = omega arith

-- one constraint more before those whose names are there
module _ (n : ℕ) (os : List Overload) (sc old : List ℕ) (cs : List Constraint) where
  one_named : (ts : List ℕ) (k : ℕ) → ts ≡ chosen_named n os sc cs k old → (c : Constraint) → length (disjunction_for c []) ≤ k
      → ((name_by_of n os sc c ts k).words ≡ chosen_named n os sc (c ∷ cs) (name_by_of n os sc c ts k).count old) ×
      ((name_by_of n os sc c ts k).count + length (disjunction_for c []) ≡ k)
  unfolding name_by_of chosen_named
  one_named ts k e (Sub l r) h = (e, omega arith)
  one_named ts k e (Lit p kind) h = (e, omega arith)
  one_named ts k e (Disjunction x p run) h =
      let j : k ≡ k - 1 + 1 = omega (arith, h) in
      (ap (λ us. named n us x.0 (overload_in os run (position_at sc (k - 1))).target) (e ∙ ap (λ k. chosen_named n os sc cs k old) j), omega (arith, h))
  one_named ts k e (Comprehension body node element) h = (e, omega arith)
  one_named ts k e (Join run t) h = (e, omega arith)

  length_by : (ts : List ℕ) (k : ℕ) (c : Constraint) → length (name_by_of n os sc c ts k).words ≡ length ts
  unfolding name_by_of
  length_by ts k (Sub l r) = refl
  length_by ts k (Lit p kind) = refl
  length_by ts k (Disjunction x p run) = length_named n ts x.0 (overload_in os run (position_at sc (k - 1))).target
  length_by ts k (Comprehension body node element) = refl
  length_by ts k (Join run t) = refl

-- The loop over the constraints, from the last on: those below the i-th are left, with k choices.
module _ (sc old ls : List ℕ) (z : Sizes) where
  abbrev pub overloads : List Overload
  overloads = rows_from (overload_at (drop overloads_at ls)) 0 z.overloads

  pub record NamesLeft (ts : List ℕ) (k i : ℕ) : Type 0 where
    pub within : i ≤ z.constraints
    pub count : k + length (disjunctions (rest_from ls z i)) ≡ z.disjunctions
    pub long : length ts ≡ length old
    pub done : ts ≡ chosen_named z.exprs overloads sc (rest_from ls z i) k old

  -- no more choices than there are in all
  fewer_left : (i : ℕ) → i ≤ z.constraints → length (disjunctions (rest_from ls z i)) ≤ length (disjunctions (rest_from ls z 0))
  fewer_left zero l = omega arith
  fewer_left (suc i) l =
      let j : i + 1 ≡ suc i = omega arith in
      let e = ap (λ cs. length (disjunctions cs)) (rows_one_left (constraint_at ls) z.constraints i
      (omega (arith, l))) ∙ choices_more (constraint_at ls i) (rest_from ls z (i + 1)) in
      omega (arith, fewer_left i (omega (arith, l)), e, ap (λ j. length (disjunctions (rest_from ls z j))) j)

  module _ (s : Sized (problem_in ls z) z) where
    total_left : length (disjunctions (rest_from ls z 0)) ≡ z.disjunctions
    total_left = choices_in_all ls z s

    pub names_begin : NamesLeft old z.disjunctions z.constraints
    unfolding disjunctions chosen_named
    names_begin =
        let e = rows_none_left (constraint_at ls) z.constraints z.constraints (omega arith) in
        record {
          within = omega arith;
          count = ap (λ cs. z.disjunctions + length (disjunctions cs)) e ∙ (let x : z.disjunctions + 0 ≡ z.disjunctions = omega arith in x);
          long = refl;
          done = ap (λ cs. chosen_named z.exprs overloads sc cs z.disjunctions old) (sym e);
        }

    module _ (ts : List ℕ) (k i : ℕ) (p : NamesLeft ts k i) where
      pub names_few : k ≤ max_constraints
      names_few = omega (arith, p.count, s.few_disjunctions)

      module _ (l : 0 < i) where
        back : i - 1 + 1 ≡ i
        back = omega (arith, l)

        rest_is : rest_from ls z (i - 1) ≡ constraint_at ls (i - 1) ∷ rest_from ls z i
        rest_is = rows_one_left (constraint_at ls) z.constraints (i - 1) (omega (arith, l, p.within)) ∙ ap
            (λ j. constraint_at ls (i - 1) ∷ rest_from ls z j) back

        count_is : length (disjunctions (rest_from ls z (i - 1))) ≡ length (disjunction_for (constraint_at ls (i - 1))
            []) + length (disjunctions (rest_from ls z i))
        count_is = ap (λ cs. length (disjunctions cs)) rest_is ∙ choices_more (constraint_at ls (i - 1)) (rest_from ls z i)

        own_choice : length (disjunction_for (constraint_at ls (i - 1)) []) ≤ k
        own_choice = omega (arith, p.count, total_left, count_is, fewer_left (i - 1) (omega (arith, p.within)))

        pub names_enough : (c : Constraint) → c ≡ constraint_at ls (i - 1) → length (disjunction_for c []) ≤ k
        names_enough c e = subst (λ c. length (disjunction_for c []) ≤ k) (sym e) own_choice

        pub names_go_on : (c : Constraint) → c ≡ constraint_at ls (i - 1) → (ws : List ℕ) (k' : ℕ)
            → walked ws k' ≡ name_by_of z.exprs overloads sc c ts k → NamesLeft ws k' (i - 1)
        names_go_on c e ws k' y =
            let q : walked ws k' ≡ name_by_of z.exprs overloads sc (constraint_at ls (i - 1)) ts k = y ∙ ap (λ c. name_by_of z.exprs overloads sc c ts k) e in
            let o = one_named z.exprs overloads sc old (rest_from ls z i) ts k p.done (constraint_at ls (i - 1)) own_choice in
            let r : ws ≡ chosen_named z.exprs overloads sc (constraint_at ls (i - 1) ∷ rest_from ls z i) k' old =
            subst (λ (w : Walked). w.words ≡ chosen_named z.exprs overloads sc (constraint_at ls (i - 1) ∷ rest_from ls z i) w.count old) (sym q) o.0 in
            let f : k' + length (disjunction_for (constraint_at ls (i - 1)) []) ≡ k = subst (λ (w : Walked). w.count +
            length (disjunction_for (constraint_at ls (i - 1)) []) ≡ k) (sym q) o.1 in
            record {
              within = omega (arith, p.within);
              count = omega (arith, f, count_is, p.count);
              long = ap (λ (w : Walked). length w.words) q ∙ (length_by z.exprs overloads sc old
                  (rest_from ls z i) ts k (constraint_at ls (i - 1)) ∙ p.long);
              done = r ∙ ap (λ cs. chosen_named z.exprs overloads sc cs k' old) (sym rest_is);
            }

      pub names_end : i ≤ 0 → ts ≡ chosen_named z.exprs overloads sc (rest_from ls z 0) 0 old
      names_end l =
          let a : i ≡ 0 = omega (arith, l) in
          let b : k ≡ 0 = omega (arith, p.count, total_left, ap (λ i. length (disjunctions (rest_from ls z i))) a) in
          p.done ∙ λ h. chosen_named z.exprs overloads sc (rest_from ls z (a h)) (b h) old
