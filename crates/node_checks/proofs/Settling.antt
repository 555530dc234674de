-- Rounds of settling, as the code meets them. Assumes nothing.
use mathlib.Core.Path.{◌≡◌, refl, ap, ap₂, sym, ◌∙◌, subst}
use mathlib.Core.List.{List, [], ◌∷◌, ◌++◌}
use mathlib.Core.Option.{none, some}
use mathlib.Core.Bool.{Bool, true, false, cond, ◌&&◌, and-true, and_assoc}
use Prim.Native.Nat.{ℕ, zero, suc, ◌+◌, ◌-◌, ◌<◌, ◌≤◌}
use native.Mathlib.Omega.{arith}
use native.Mathlib.Numerals.{add-one}
use Rattle.std.specs.List.{list_all}
use lib.ListN.{length, get_or, take, set, replicate}
use lib.Seq.{take-suc, take-suc-set, take_all}
use borrow.Author.Tests.{eq-eqb, ne_eqb}
use Rattle.resolved_sort.specs.declared.Run.{Run}
use Rattle.resolved_sort.specs.declared.ComplexSort.{ComplexSort}
use Rattle.unification.specs.declared.InferSortId.{InferSortId}
use Rattle.unification.specs.declared.SortVar.{SortVar}
use Rattle.unification.specs.declared.InferSort.{InferSort}
use Rattle.unification.specs.declared.InferSort.TheVariants.{Generic, Function, Var}
use Rattle.resolved_sort.specs.Checks.{all_below}
use Rattle.unification.specs.Nodes.{node_entry_at, node_entries_of, node_at, node_shape, free_word, binding_of, binds_of}
use Rattle.unification.specs.Acyclic.{place_settled, all_settled, shape_settled, nodes_settled, binding_settled, vars_settled, rounds, all_true, acyclic}
use Rattle.unification.proofs.Settles.{var_is, length_vars, sort_settled, node_flag}
use Rattle.unification.proofs.Passed.{length_binds}
use Rattle.infer_nodes.proofs.Ways.{binding_word}
use Rattle.node_checks.proofs.Fronts.{from_front, same_below}

-- a place, a binding
pub sort_is_settled : (ms : List Bool) (p : ℕ) → p < 1024 → true ≡ place_settled ms p
sort_is_settled ms p l = sym (sort_settled ms p l)

pub flag_settles : (ms : List Bool) (p : ℕ) → 1024 ≤ p → (r : Bool) → r ≡ get_or ms (p - 1024) false → r ≡ place_settled ms p
flag_settles ms p l r x = x ∙ node_flag ms p (p - 1024) (omega (arith, l))

pub free_settled : (ms : List Bool) (w : ℕ) → w ≡ free_word → true ≡ binding_settled ms (binding_of w)
free_settled ms w e = sym (ap (λ b. binding_settled ms (cond b none (some w))) (eq-eqb w free_word e))

pub bound_settled : (ms : List Bool) (w : ℕ) → (w ≡ free_word → ⊥) → (r : Bool) → r ≡ place_settled ms w → r ≡ binding_settled ms (binding_of w)
bound_settled ms w d r x = x ∙ sym (ap (λ b. binding_settled ms (cond b none (some w))) (ne_eqb w free_word d))

-- a run of arguments
pub run_settled : (ns : List ℕ) (ms : List Bool) (c s : ℕ)
    → all_below c (λ j. place_settled ms (node_entry_at ns (s + j))) ≡ all_settled ms (node_entries_of ns s c)
unfolding all_below all_settled node_entries_of
run_settled ns ms zero s = refl
run_settled ns ms (suc c) s =
    from_front c (λ j. place_settled ms (node_entry_at ns (s + j)))
    ∙ ap₂ (λ (x y : Bool). x && y) (ap (λ i. place_settled ms (node_entry_at ns i)) (let z : s + 0 ≡ s = omega arith in z))
    (same_below c (λ j. place_settled ms (node_entry_at ns (s + suc j))) (λ j. place_settled ms (node_entry_at ns (s + 1 + j)))
    (λ j l. ap (λ i. place_settled ms (node_entry_at ns i)) (let z : s + suc j ≡ s + 1 + j = omega arith in z)) ∙ run_settled ns ms c (s + 1))

-- a node
settled_last : (ms : List Bool) (xs : List ℕ) (y : ℕ) → all_settled ms (xs ++ (y ∷ [])) ≡ (all_settled ms xs && place_settled ms y)
unfolding all_settled
settled_last ms [] y = and-true (place_settled ms y)
settled_last ms (x ∷ xs) y = ap (λ z. place_settled ms x && z) (settled_last ms xs y) ∙ sym
    (and_assoc (place_settled ms x) (all_settled ms xs) (place_settled ms y))

module _ (ns : List ℕ) (vs ms : List Bool) (i : ℕ) (r : InferSort) (e : r ≡ node_at ns i) where
  abbrev whole : Bool
  whole = shape_settled vs ms (node_shape ns (node_at ns i))

  pub generic_settled : (op : ComplexSort) (s : InferSortId) → r ≡ Generic op s → (b : Bool) → b ≡ place_settled ms s.0 → b ≡ whole
  unfolding node_shape all_settled
  generic_settled op s x b y = y ∙ sym (ap (λ z. shape_settled vs ms (node_shape ns z)) (sym e ∙ x) ∙ and-true (place_settled ms s.0))

  module _ (d : Run) (s : InferSortId) (x : r ≡ Function d s) where
    by_parts : whole ≡ (all_settled ms (node_entries_of ns d.start d.count) && place_settled ms s.0)
    unfolding node_shape
    by_parts = ap (λ z. shape_settled vs ms (node_shape ns z)) (sym e ∙ x) ∙ settled_last ms (node_entries_of ns d.start d.count) s.0

    module _ (b : Bool) (eb : b ≡ all_settled ms (node_entries_of ns d.start d.count)) where
      pub domain_open : b ≡ false → false ≡ whole
      domain_open y = sym (by_parts ∙ ap (λ z. z && place_settled ms s.0) (sym eb ∙ y))

      pub range_decides : b ≡ true → (c : Bool) → c ≡ place_settled ms s.0 → c ≡ whole
      range_decides y c z = z ∙ sym (by_parts ∙ ap (λ w. w && place_settled ms s.0) (sym eb ∙ y))

  pub variable_settled : (u : SortVar) → r ≡ Var u → (b : Bool) → b ≡ get_or vs u.0 false → b ≡ whole
  unfolding node_shape
  variable_settled u x b y = y ∙ sym (ap (λ z. shape_settled vs ms (node_shape ns z)) (sym e ∙ x))

-- nodes one after another
module _ (ns : List ℕ) (vs : List Bool) where
  pub none_of_nodes : (fs : List Bool) → take 0 fs ≡ nodes_settled ns vs 0
  unfolding nodes_settled
  none_of_nodes fs = refl

  pub one_more_node : (fs : List Bool) (i : ℕ) → i < length fs → take i fs ≡ nodes_settled ns vs i → (b : Bool)
      → b ≡ shape_settled vs (take i fs) (node_shape ns (node_at ns i))
      → take (i + 1) (set fs i b) ≡ nodes_settled ns vs (i + 1)
  unfolding nodes_settled
  one_more_node fs i l e b x =
      ap (λ (j : ℕ). take j (set fs i b)) (add-one i)
      ∙ (take-suc-set fs i b l
      ∙ (ap₂ (λ (ys : List Bool) (y : Bool). ys ++ (y ∷ [])) e
      (x ∙ ap (λ ys. shape_settled vs ys (node_shape ns (node_at ns i))) e) ∙ ap (nodes_settled ns vs)
      (sym (add-one i))))

-- variables one after another
module _ (bs : List ℕ) (v : ℕ) (ms : List Bool) where
  abbrev new : List Bool
  new = vars_settled ms (binds_of bs v)

  pub one_more_var : (fs : List Bool) (x : ℕ) → x < v → v ≤ length fs → take x fs ≡ take x new → (b : Bool)
      → b ≡ binding_settled ms (binding_of (get_or bs x 0)) → take (x + 1) (set fs x b) ≡ take (x + 1) new
  one_more_var fs x l m e b y =
      ap (λ (j : ℕ). take j (set fs x b)) (add-one x)
      ∙ (take-suc-set fs x b (omega (arith, l, m))
      ∙ (ap₂ (λ (ys : List Bool) (z : Bool). ys ++ (z ∷ [])) e (y ∙ sym (var_is ms (binds_of bs v) x
      (omega (arith, l, length_binds bs v)) ∙ ap (binding_settled ms) (binding_word bs v x l)))
      ∙ (sym (take-suc new x false (omega (arith, l, length_vars ms (binds_of bs v), length_binds bs v))) ∙ ap (λ (j : ℕ). take j new) (sym (add-one x)))))

  pub all_vars : (fs : List Bool) (x : ℕ) → x ≡ v → take x fs ≡ take x new → take v fs ≡ new
  all_vars fs x i e = subst (λ (j : ℕ). take j fs ≡ take j new) i e ∙ take_all v new (omega (arith, length_vars ms (binds_of bs v), length_binds bs v))

-- all flags
pub flags_set : (fs : List Bool) → list_all (λ b. b) fs ≡ all_true fs
unfolding all_true
flags_set [] = refl
flags_set (b ∷ fs) = ap (λ c. b && c) (flags_set fs)

-- rounds
pub no_rounds : (ns bs : List ℕ) (m v : ℕ) → v ≤ 512 → take v (replicate 512 false) ≡ rounds ns m (binds_of bs v) 0
unfolding rounds
no_rounds ns bs m v l = take_falses 512 v l ∙ ap (λ (n : ℕ). replicate n false) (sym (length_binds bs v))
  where
    take_falses : (n v : ℕ) → v ≤ n → take v (replicate n false) ≡ replicate v false
    take_falses n zero l = refl
    take_falses zero (suc v) l = absurd (omega (arith, l))
    take_falses (suc n) (suc v) l = ap (λ xs. false ∷ xs) (take_falses n v (omega (arith, l)))

pub one_round : (ns bs : List ℕ) (m v r : ℕ) (vs fs us : List Bool) → take v vs ≡ rounds ns m (binds_of bs v) r
    → take m fs ≡ nodes_settled ns (take v vs) m → take v us ≡ vars_settled (take m fs) (binds_of bs v)
    → take v us ≡ rounds ns m (binds_of bs v) (r + 1)
unfolding rounds
one_round ns bs m v r vs fs us e f g =
    g ∙ (ap (λ ms. vars_settled ms (binds_of bs v)) (f ∙ ap (λ ys. nodes_settled ns ys m) e) ∙ ap (rounds ns m (binds_of bs v)) (sym (add-one r)))

pub rounds_over : (ns bs : List ℕ) (m v r : ℕ) (vs : List Bool) → r ≡ v → take v vs ≡ rounds ns m (binds_of bs v) r
    → (b : Bool) → b ≡ all_true (take v vs) → b ≡ acyclic ns m (binds_of bs v)
unfolding acyclic
rounds_over ns bs m v r vs i e b x = x ∙ (ap all_true e ∙ ap (λ (n : ℕ). all_true (rounds ns m (binds_of bs v) n)) (i ∙ sym (length_binds bs v)))

-- each way through the code
pub ruleset bindings = (free_settled, bound_settled)

pub ruleset node_ways = (generic_settled, domain_open, range_decides, variable_settled)
