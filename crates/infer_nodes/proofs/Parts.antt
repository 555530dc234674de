-- Heads and parts read off the words of a row: the same for sorts and for nodes. By the kinds. Assumes nothing.
use mathlib.Core.Path.{◌≡◌, refl, ap, sym, ◌∙◌, subst}
use mathlib.Core.List.{List, [], ◌∷◌, ◌++◌}
use mathlib.Core.Bool.{Bool, true, false, cond, ◌&&◌, and-eq-true_iff}
use Prim.Native.Nat.{ℕ, zero, suc, ◌+◌, ◌-◌, ◌*◌, ◌<◌, ◌≤◌}
use native.Mathlib.Omega.{arith}
use native.Mathlib.Decide.{ℕ_discrete}
use lib.ListN.{length, get_or, length-append}
use lib.Seq.{get_or-append_seam}
use lib.Dec.{eqb, leb, ltb}
use borrow.Author.Tests.{ltb-true, ltb-false, leb-true, leb-false, eqb-true, le-leb, lt-leb, eq-eqb, ne_eqb}
use Rattle.resolved_sort.specs.declared.Run.{Run}
use Rattle.resolved_sort.specs.declared.ResolvedSort.{ResolvedSort}
use Rattle.resolved_sort.specs.Storage.{max_sorts, kind_at, part_at, start_at, count_at, entry_at, entries_of, resolved, row_at, kind_flat, part_flat, kind_op}
use Rattle.resolved_sort.specs.Checks.{parts_below, row_fine_of}
use Rattle.resolved_sort.proofs.Numbers.{true_not_false}
use Rattle.resolved_sort.proofs.RowTrees.{by_kind}
use Rattle.resolved_sort.proofs.Fine.{run_inside}
use Rattle.unification.specs.declared.Lengths.{Lengths}
use Rattle.unification.specs.declared.InferSort.{InferSort}
use Rattle.unification.specs.declared.InferSort.TheVariants.{Function, Var}
use Rattle.unification.specs.declared.SortVar.{SortVar}
use Rattle.std.specs.Prelude.{Some, None}
use Rattle.unification.specs.Term.{Head, Shape, variable, over, kind_head, number_head, same_head}
use Rattle.unification.specs.Inner.Term.{head_of, parts_of}
use Rattle.unification.specs.Nodes.{node_kind_at, node_part_at, node_start_at, node_count_at, node_entry_at, node_entries_of, inferred, node_at, sort_shape, node_shape}
use Rattle.unification.specs.NodeChecks.{node_kind_fine, node_parts_fine, node_fine}
use Rattle.unification.specs.Checked.{graph_of, Placed}
use Rattle.unification.proofs.Parts.{Runs, sort_runs, node_runs, run_length}
use Rattle.unification.proofs.Places.{sort_below, node_below}
use Rattle.unification.proofs.Rows.{node_function_fine, sort_no_variable, node_fine_parts}
use Rattle.unification.proofs.Lists.{sort_fine, node_fine_lem}
use Rattle.infer_nodes.specs.Inner.Parts.{NodesReady, var_by, var_at, number_by, count_by, entry_in, SmallCount, RowAt, Says}
use Rattle.infer_nodes.proofs.Shapes.{at_sort, at_node, shape_of_variable}

-- a run and the range behind it
module _ (entry : ℕ → ℕ) (entries : ℕ → ℕ → List ℕ) (R : Runs entry entries) where
  pub all_length : (s c r : ℕ) → length (entries s c ++ (r ∷ [])) ≡ c + 1
  all_length s c r = length-append (entries s c) (r ∷ []) ∙ omega (arith, run_length entry entries R s c)

  pub argument_of : (c s i r : ℕ) → i < c → get_or (entries s c ++ (r ∷ [])) i 0 ≡ entry (s + i)
  argument_of zero s i r l = absurd (omega (arith, l))
  argument_of (suc c) s zero r l = ap (λ xs. get_or (xs ++ (r ∷ [])) 0 0) (R.more s c) ∙ ap entry (let z : s ≡ s + 0 = omega arith in z)
  argument_of (suc c) s (suc i) r l = ap (λ xs. get_or (xs ++ (r ∷ [])) (suc i) 0) (R.more s c) ∙
      (argument_of c (s + 1) i r (omega (arith, l)) ∙ ap entry (let z : s + 1 + i ≡ s + suc i = omega arith in z))

  pub range_of : (s c r : ℕ) → get_or (entries s c ++ (r ∷ [])) c 0 ≡ r
  range_of s c r = ap (λ (j : ℕ). get_or (entries s c ++ (r ∷ [])) j 0) (sym (run_length entry entries R s c)) ∙ get_or-append_seam (entries s c) r [] 0

one_part : (entry : ℕ → ℕ) (part x : ℕ) → part ≡ x → (i : ℕ) → i < 1 → part ≡ get_or (x ∷ []) i 0
one_part entry part x e zero l = e
one_part entry part x e (suc i) l = absurd (omega (arith, l))

-- a function
module _ (entry : ℕ → ℕ) (entries : ℕ → ℕ → List ℕ) (R : Runs entry entries) (part start count : ℕ) where
  abbrev ps : List ℕ
  ps = entries start count ++ (part ∷ [])

  function_each : (i : ℕ) (b : Bool) → ltb i count ≡ b → i < length ps → cond b (entry (start + i)) part ≡ get_or ps i 0
  function_each i true e l = sym (argument_of entry entries R count start i part (ltb-true i count e))
  function_each i false e l =
      let j : i ≡ count = omega (arith, ltb-false i count e, l, all_length entry entries R start count part) in
      sym (ap (λ (x : ℕ). get_or ps x 0) j ∙ range_of entry entries R start count part)

  pub function_says : (s : Shape) → kind_head (head_of s) ≡ 11 → number_head (head_of s) ≡ count → parts_of s ≡ ps → Says s entry 11 part start count
  function_says s k n p =
      record {
        kind = sym k;
        number = sym n;
        many = sym (ap length p ∙ all_length entry entries R start count part);
        each = λ i l. function_each i (ltb i count) refl (subst (λ xs. i < length xs) p l) ∙ sym (ap (λ xs. get_or xs i 0) p);
      }

module _ (ws : List ℕ) (part start count : ℕ) where
  abbrev run : Run
  run = record { start = start; count = count }

  abbrev SortSays : ℕ → Type 0
  SortSays k = Says (sort_shape ws (resolved k part run)) (entry_at ws) k part start count

  no_parts : (i : ℕ) → i < 0 → {x y : ℕ} → x ≡ y
  no_parts i l = absurd (omega (arith, l))

  pub sort_says : (k : ℕ) → k ≤ 13 → SortSays k
  unfolding sort_shape resolved kind_head number_head kind_flat part_flat kind_op entries_of
  sort_says =
      by_kind SortSays
      (record { kind = refl; number = refl; many = refl; each = λ i l. no_parts i l })
      (record { kind = refl; number = refl; many = refl; each = λ i l. no_parts i l })
      (record { kind = refl; number = refl; many = refl; each = λ i l. no_parts i l })
      (record { kind = refl; number = refl; many = refl; each = λ i l. no_parts i l })
      (record { kind = refl; number = refl; many = refl; each = λ i l. no_parts i l })
      (record { kind = refl; number = refl; many = refl; each = λ i l. no_parts i l })
      (record { kind = refl; number = refl; many = refl; each = λ i l. one_part (entry_at ws) part part refl i l })
      (record { kind = refl; number = refl; many = refl; each = λ i l. one_part (entry_at ws) part part refl i l })
      (record { kind = refl; number = refl; many = refl; each = λ i l. one_part (entry_at ws) part part refl i l })
      (record { kind = refl; number = refl; many = refl; each = λ i l. one_part (entry_at ws) part part refl i l })
      (record { kind = refl; number = refl; many = refl; each = λ i l. one_part (entry_at ws) part part refl i l })
      (function_says (entry_at ws) (entries_of ws) (sort_runs ws) part start count (sort_shape ws (resolved 11 part run)) refl refl refl)
      (record { kind = refl; number = refl; many = refl; each = λ i l. no_parts i l })
      (record { kind = refl; number = refl; many = refl; each = λ i l. no_parts i l })

  abbrev NodeSays : ℕ → Type 0
  NodeSays k = node_kind_fine k ≡ true → Says (node_shape ws (inferred k part run)) (node_entry_at ws) k part start count

  unknown_kind : {A : Type 0} → false ≡ true → A
  unknown_kind e = absurd (true_not_false false e refl)

  node_says_to_13 : (k : ℕ) → k ≤ 13 → NodeSays k
  unfolding node_shape inferred kind_head number_head kind_op node_entries_of node_kind_fine
  node_says_to_13 =
      by_kind NodeSays
      (λ e. unknown_kind e) (λ e. unknown_kind e) (λ e. unknown_kind e) (λ e. unknown_kind e) (λ e. unknown_kind e) (λ e. unknown_kind e)
      (λ e. record { kind = refl; number = refl; many = refl; each = λ i l. one_part (node_entry_at ws) part part refl i l })
      (λ e. record { kind = refl; number = refl; many = refl; each = λ i l. one_part (node_entry_at ws) part part refl i l })
      (λ e. record { kind = refl; number = refl; many = refl; each = λ i l. one_part (node_entry_at ws) part part refl i l })
      (λ e. record { kind = refl; number = refl; many = refl; each = λ i l. one_part (node_entry_at ws) part part refl i l })
      (λ e. record { kind = refl; number = refl; many = refl; each = λ i l. one_part (node_entry_at ws) part part refl i l })
      (λ e. function_says (node_entry_at ws) (node_entries_of ws) (node_runs ws) part start count (node_shape ws (inferred 11 part run)) refl refl refl)
      (λ e. unknown_kind e) (λ e. unknown_kind e)

  variable_says : NodeSays 14
  unfolding node_shape inferred kind_head number_head
  variable_says e = record { kind = refl; number = refl; many = refl; each = λ i l. no_parts i l }

  not_known : {A : Type 0} (k : ℕ) → 13 < k → (k ≡ 14 → ⊥) → node_kind_fine k ≡ true → A
  unfolding node_kind_fine
  not_known k l d f =
      let x : (leb 6 k && leb k 11) ≡ true = subst (λ b. cond b true (leb 6 k && leb k 11) ≡ true) (ne_eqb k 14 d) f in
      absurd (omega (arith, leb-true k 11 ((and-eq-true_iff (leb 6 k) (leb k 11)).0 x).1, l))

  pub node_says : (k : ℕ) → NodeSays k
  node_says k = go (leb k 13) refl (ℕ_discrete k 14)
    where
      go : (b : Bool) → leb k 13 ≡ b → Dec (k ≡ 14) → NodeSays k
      go true e d = node_says_to_13 k (leb-true k 13 e)
      go false e (yes i) = subst NodeSays (sym i) variable_says
      go false e (no i) = λ f. not_known k (leb-false k 13 e) i f

sort_no_var : (ws : List ℕ) (r : ResolvedSort) → var_at (sort_shape ws r) ≡ None
sort_no_var ws r = go (sort_shape ws r) refl
  where
    go : (s : Shape) → sort_shape ws r ≡ s → var_at s ≡ None
    go (variable v) e = sort_no_variable ws v r e
    go (over h ps) e = refl

node_var_by : (ns : List ℕ) (k part : ℕ) (run : Run) → var_by k part ≡ var_at (node_shape ns (inferred k part run))
unfolding node_shape inferred
node_var_by ns k part run = go (ℕ_discrete k 11) (ltb k 11) refl
  where
    go : Dec (k ≡ 11) → (b : Bool) → ltb k 11 ≡ b → var_by k part ≡ var_at (node_shape ns (inferred k part run))
    go (yes i) b x = subst (λ (m : ℕ). var_by m part ≡ var_at (node_shape ns (inferred m part run))) (sym i) refl
    go (no n) true x = let l = ltb-true k 11 x in rw (ne_eqb k 11 n, x, le-leb k 11 (omega (arith, l)))
    go (no n) false x = let l = ltb-false k 11 x in rw (ne_eqb k 11 n, x, lt-leb k 11 (omega (arith, l, n)))

function_small : (ns : List ℕ) (d n v j : ℕ) → node_kind_at ns j ≡ 11 → node_parts_fine ns d n v j (node_at ns j) ≡ true → node_count_at ns j ≤ 16
unfolding inferred
function_small ns d n v j f x =
    let run : Run = record { start = node_start_at ns j; count = node_count_at ns j } in
    let y : node_parts_fine ns d n v j (Function run (record { 0 = node_part_at ns j })) ≡ true = subst
    (λ (m : ℕ). node_parts_fine ns d n v j (inferred m (node_part_at ns j) run) ≡ true) f x in
    (node_function_fine ns d n v j run (node_part_at ns j) y).short

-- at a place
module _ (ws ns : List ℕ) (k : Lengths) (q : NodesReady ws ns k) (p : ℕ) (e : Placed k p) where
  abbrev s : Shape
  s = graph_of ws ns k p

  row_is_fine : p < max_sorts → row_fine_of ws k.entries p ≡ true
  row_is_fine l = sort_fine ws k.sorts k.entries ns k.nodes k.arguments k.variables q p (sort_below k.sorts k.nodes p l e)

  module _ (l : p < max_sorts) where
    pub says_sort : Says s (entry_at ws) (kind_at ws p) (part_at ws p) (start_at ws p) (count_at ws p)
    unfolding row_fine_of
    says_sort =
        subst (λ x. Says x (entry_at ws) (kind_at ws p) (part_at ws p) (start_at ws p) (count_at ws p)) (sym (at_sort ws ns k q p e l))
        (sort_says ws (part_at ws p) (start_at ws p) (count_at ws p) (kind_at ws p) (leb-true (kind_at ws p) 13
        ((and-eq-true_iff (leb (kind_at ws p) 13) (parts_below ws k.entries p (row_at ws p))).0
        (row_is_fine l)).0))

    pub small_sort : SmallCount ws (4 * p)
    small_sort f = (run_inside ws k.entries p (row_is_fine l) f).short

    pub sort_inside : (x : ℕ) → x ≡ p → 4 * x + 3 < length ws
    sort_inside x y = omega (arith, q.sorts.long, l, y)

    pub row_of_sort : (x : ℕ) → x ≡ p → (a b c d : ℕ) (us : List ℕ) (at : ℕ) → RowAt ws (4 * x) 4096 a b c d us at
        → Says s (entry_in us at) a b c d
    row_of_sort x y a b c d us at r = rw (r.is_kind, r.is_part, r.is_start, r.is_count, r.is_words, r.is_at, y) says_sort

    pub no_variable : None ≡ var_at s
    no_variable = sym (ap var_at (at_sort ws ns k q p e l) ∙ sort_no_var ws (row_at ws p))

  module _ (l : max_sorts ≤ p) where
    abbrev j : ℕ
    j = p - max_sorts

    node_is_fine : node_fine ns k.arguments k.sorts k.variables j ≡ true
    node_is_fine = node_fine_lem ws k.sorts k.entries ns k.nodes k.arguments k.variables q j (node_below k.sorts k.nodes p l e)

    pub says_node : Says s (node_entry_at ns) (node_kind_at ns j) (node_part_at ns j) (node_start_at ns j) (node_count_at ns j)
    says_node =
        subst (λ x. Says x (node_entry_at ns) (node_kind_at ns j) (node_part_at ns j) (node_start_at ns j) (node_count_at ns j)) (sym (at_node ws ns k q p e l))
        (node_says ns (node_part_at ns j) (node_start_at ns j) (node_count_at ns j) (node_kind_at ns j) (node_fine_parts ns
        k.arguments k.sorts k.variables j node_is_fine).0)

    pub small_node : SmallCount ns (4 * j)
    small_node f =
        function_small ns k.arguments k.sorts k.variables j f
        (node_fine_parts ns k.arguments k.sorts k.variables j node_is_fine).1

    pub node_inside : (x : ℕ) → x ≡ j → 4 * x + 3 < length ns
    node_inside x y = omega (arith, q.long, q.nodes, node_below k.sorts k.nodes p l e, y)

    pub node_var : (x : ℕ) → x ≡ j → (a b c d : ℕ) (us : List ℕ) (at : ℕ) → RowAt ns (4 * x) 8192 a b c d us at → var_by a b ≡ var_at s
    node_var x y a b c d us at r =
        rw (r.is_kind, r.is_part, y)
        (node_var_by ns (node_kind_at ns j) (node_part_at ns j) (record { start = node_start_at ns j; count = node_count_at ns j })
        ∙ sym (ap var_at (at_node ws ns k q p e l)))

    pub row_of_node : (x : ℕ) → x ≡ j → (a b c d : ℕ) (us : List ℕ) (at : ℕ) → RowAt ns (4 * x) 8192 a b c d us at
        → Says s (entry_in us at) a b c d
    row_of_node x y a b c d us at r = rw (r.is_kind, r.is_part, r.is_start, r.is_count, r.is_words, r.is_at, y) says_node

  -- a node that is a variable
  module _ (l : max_sorts ≤ p) (r : InferSort) (i : r ≡ node_at ns (p - max_sorts)) where
    pub node_variable : (v : SortVar) → r ≡ Var v → Some v ≡ var_at s
    node_variable v x = sym (ap var_at (shape_of_variable ws ns k q p e l r i v x))

-- equal kinds and equal numbers
pub heads_alike : (h g : Head) (a m b n : ℕ) → a ≡ kind_head h → m ≡ number_head h → b ≡ kind_head g → n ≡ number_head g
    → (eqb a b && eqb m n) ≡ same_head h g
unfolding same_head
heads_alike h g a m b n ea em eb en = rw (ea, em, eb, en)

-- Places of the same head have as many parts.
counts_agree : (k j a b c d : ℕ) → k ≡ j → number_by k a c ≡ number_by j b d → count_by k c ≡ count_by j d
counts_agree k j a b c d e f = go (ℕ_discrete k 11)
  where
    go : Dec (k ≡ 11) → count_by k c ≡ count_by j d
    go (yes i) =
        let x : c ≡ d = sym (ap (λ t. cond t c (cond (leb 12 k) a 0)) (eq-eqb k 11 i)) ∙
        (f ∙ ap (λ t. cond t d (cond (leb 12 j) b 0)) (eq-eqb j 11 (sym e ∙ i))) in
        ap (λ t. cond t (c + 1) (cond (ltb k 6) 0 (cond (ltb k 11) 1 0))) (eq-eqb k 11 i)
        ∙ (ap (λ (y : ℕ). y + 1) x ∙ sym (ap (λ t. cond t (d + 1) (cond (ltb j 6) 0 (cond (ltb j 11) 1 0))) (eq-eqb j 11 (sym e ∙ i))))
    go (no n) =
        ap (λ t. cond t (c + 1) (cond (ltb k 6) 0 (cond (ltb k 11) 1 0))) (ne_eqb k 11 n)
        ∙ (ap (λ (y : ℕ). cond (ltb y 6) 0 (cond (ltb y 11) 1 0)) e ∙ sym
        (ap (λ t. cond t (d + 1) (cond (ltb j 6) 0 (cond (ltb j 11) 1 0))) (ne_eqb j 11 (λ m. n (e ∙ m)))))

record Row (s : Shape) : Type 0 where
  entry : ℕ → ℕ
  kind : ℕ
  part : ℕ
  start : ℕ
  count : ℕ
  says : Says s entry kind part start count

row_at_lem : (ws ns : List ℕ) (k : Lengths) (q : NodesReady ws ns k) (p : ℕ) → Placed k p → Row (graph_of ws ns k p)
row_at_lem ws ns k q p e = go (ltb p max_sorts) refl
  where
    go : (b : Bool) → ltb p max_sorts ≡ b → Row (graph_of ws ns k p)
    go true x = record {
      entry = entry_at ws;
      kind = kind_at ws p;
      part = part_at ws p;
      start = start_at ws p;
      count =
          count_at ws p;
      says = says_sort ws ns k q p e (ltb-true p max_sorts x);
    }
    go false x =
        let l = ltb-false p max_sorts x in
        record {
          entry = node_entry_at ns;
          kind = node_kind_at ns (p - max_sorts);
          part = node_part_at ns (p - max_sorts);
          start = node_start_at ns (p - max_sorts);
          count = node_count_at ns (p - max_sorts);
          says = says_node ws ns k q p
              e l;
        }

pub same_count : (ws ns : List ℕ) (k : Lengths) (q : NodesReady ws ns k) (l r : ℕ) → Placed k l → Placed k r
    → same_head (head_of (graph_of ws ns k l)) (head_of (graph_of ws ns k r)) ≡ true
    → length (parts_of (graph_of ws ns k l)) ≡ length (parts_of (graph_of ws ns k r))
unfolding same_head
same_count ws ns k q l r pl pr h =
    let a = row_at_lem ws ns k q l pl in
    let b = row_at_lem ws ns k q r pr in
    let s = graph_of ws ns k l in
    let u = graph_of ws ns k r in
    let x = (and-eq-true_iff (eqb (kind_head (head_of s)) (kind_head (head_of u))) (eqb (number_head (head_of s)) (number_head (head_of u)))).0 h in
    sym a.says.many
    ∙ (counts_agree a.kind b.kind a.part b.part a.count b.count
    (a.says.kind ∙ (eqb-true (kind_head (head_of s)) (kind_head (head_of u)) x.0 ∙ sym b.says.kind))
    (a.says.number ∙ (eqb-true (number_head (head_of s)) (number_head (head_of u)) x.1 ∙ sym b.says.number))
    ∙ b.says.many)
