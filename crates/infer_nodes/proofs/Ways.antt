-- Where bindings lead, and whether a variable occurs: what the code meets, by the equations of `follow` and `occurs` on checked lists. Ranks fall
-- from a variable to what it is bound to and from a node to its parts. Assumes nothing.
use mathlib.Core.Path.{◌≡◌, refl, ap, ap₂, sym, ◌∙◌, subst}
use mathlib.Core.List.{List, [], ◌∷◌, ◌++◌}
use mathlib.Core.Option.{none, some}
use mathlib.Core.Bool.{Bool, true, false}
use Prim.Native.Nat.{ℕ, zero, suc, ◌+◌, ◌-◌, ◌<◌, ◌≤◌}
use native.Mathlib.Omega.{arith}
use lib.ListN.{get_or}
use lib.Dec.{eqb}
use borrow.Author.Tests.{lt-ltb, le-ltb, ne_eqb, eq-eqb}
use Rattle.resolved_sort.specs.declared.Run.{Run}
use Rattle.resolved_sort.specs.declared.ComplexSort.{ComplexSort}
use Rattle.resolved_sort.specs.declared.NoContainer.{NoContainer}
use Rattle.resolved_sort.specs.Storage.{max_sorts, row_at, container_of}
use Rattle.resolved_sort.proofs.Reached.{no_confusion}
use Rattle.std.specs.Prelude.{Option as Found, Some, None, Result}
use Rattle.std.specs.Result.{result_unwrap_or}
use Rattle.unification.specs.declared.Lengths.{Lengths}
use Rattle.unification.specs.declared.InferSortId.{InferSortId}
use Rattle.unification.specs.declared.SortVar.{SortVar}
use Rattle.unification.specs.declared.NodeId.{NodeId}
use Rattle.unification.specs.declared.Place.TheVariants.{Node}
use Rattle.unification.specs.declared.InferSort.{InferSort}
use Rattle.unification.specs.declared.InferSort.TheVariants.{Generic, Function, Var}
use Rattle.unification.specs.Term.{container_head, function_head, Shape, variable, over}
use Rattle.unification.specs.Inner.Term.{head_of, parts_of}
use Rattle.unification.specs.Nodes.{node_kind_at, node_part_at, node_start_at, node_count_at, node_entry_at, node_entries_of}
use Rattle.unification.specs.Nodes.{op_of_kind, inferred, node_at, sort_shape, node_shape, is_place, Binds, binding}
use Rattle.unification.specs.Nodes.{binding_of, binds_of}
use Rattle.unification.specs.NodeChecks.{node_parts_fine}
use Rattle.unification.specs.Unify.{Occurs, absent, present, unknown, or_else, of_test, follow_at, follow, occurs_any, occurs_at, occurs, deep}
use Rattle.unification.specs.Acyclic.{One, first, later}
use Rattle.unification.specs.Inner.Apart.{TakenApart}
use Rattle.unification.specs.Checked.{graph_of, Ready, Placed}
use Rattle.unification.proofs.Rank.{highest, rank, Ranked, rank_var, rank_over, one_highest}
use Rattle.unification.proofs.Parts.{one_last}
use Rattle.unification.proofs.Places.{sort_is_place, sort_below, node_below, place_longer, bound_is_place}
use Rattle.unification.proofs.Rows.{FunctionFine, node_function_fine, sort_parts, sort_no_variable}
use Rattle.unification.proofs.Follow.{follow_holds, follow_end, follow_names}
use Rattle.unification.proofs.Theorem.{ready_ranked}
use Rattle.unification.proofs.Enough.{follow_eq, occurs_eq, end_no_higher}
use Rattle.unification.proofs.Lists.{sort_parts_fine, scoped}
use Rattle.infer_nodes.specs.Inner.Bound.{bound_to, RunPlaced}
use Rattle.infer_nodes.proofs.Apart.{above_sorts, stands_at_place}
use Rattle.infer_nodes.specs.Inner.Parts.{var_at}
use Rattle.infer_nodes.proofs.Shapes.{at_sort, shape_of_node, parts_fine, shape_of_variable}

-- bindings as words
pub binding_word : (bs : List ℕ) (n v : ℕ) → v < n → binding (binds_of bs n) v ≡ binding_of (get_or bs v 0)
unfolding binds_of
binding_word bs zero v l = absurd (omega (arith, l))
binding_word [] (suc n) zero l = refl
binding_word [] (suc n) (suc v) l = binding_word [] n v (omega (arith, l)) ∙ refl
binding_word (w ∷ bs) (suc n) zero l = refl
binding_word (w ∷ bs) (suc n) (suc v) l = binding_word bs n v (omega (arith, l))

or_absent : (x : Occurs) → or_else x absent ≡ x
or_absent absent = refl
or_absent present = refl
or_absent unknown = refl

-- the variable that was found at a place stands there
pub is_variable : (s : Shape) (v : SortVar) → Some v ≡ var_at s → s ≡ variable v.0
is_variable (variable u) v e = let z : v.0 ≡ u = cc in ap variable (sym z)
is_variable (over h ps) v e = no_confusion (cc)

pub is_solid : (s : Shape) → None ≡ var_at s → s ≡ over (head_of s) (parts_of s)
is_solid (variable u) e = no_confusion (cc)
is_solid (over h ps) e = refl

-- bindings were followed from p to `end`
pub record Following (shape : ℕ → Shape) (B : Binds) (k : Lengths) (p end : ℕ) : Type 0 where
  pub same : follow shape deep B p ≡ follow shape deep B end
  pub placed : Placed k end

-- of the c arguments from s on, the first i do not hold the variable u
pub record Searching (shape : ℕ → Shape) (B : Binds) (ns : List ℕ) (k : Lengths) (u s c i : ℕ) : Type 0 where
  pub same : occurs_any shape (occurs shape deep B u) (node_entries_of ns s c) ≡ occurs_any shape (occurs shape deep B u) (node_entries_of ns (s + i) (c - i))
  pub run : RunPlaced ns k (s + i) (c - i)
  pub lower : highest (rank shape deep B) (node_entries_of ns (s + i) (c - i)) ≤ highest (rank shape deep B) (node_entries_of ns s c)

-- a node by its kind
module _ (ns : List ℕ) (i kind part : ℕ) (ek : kind ≡ node_kind_at ns i) (ep : part ≡ node_part_at ns i) where
  pub says_function : (start count : ℕ) → start ≡ node_start_at ns i → count ≡ node_count_at ns i → kind ≡ 11
      → Function (record { start = start; count = count }) (record { 0 = part }) ≡ node_at ns i
  unfolding inferred
  says_function start count es ec e = rw (sym ek, sym ep, sym es, sym ec, eq-eqb kind 11 e)

  pub says_generic : (op : ComplexSort) → op ≡ op_of_kind kind → (kind ≡ 11 → ⊥) → kind < 11 → Generic op (record { 0 = part }) ≡ node_at ns i
  unfolding inferred
  says_generic op eo d l = rw (sym ek, sym ep, ne_eqb kind 11 d, lt-ltb kind 11 l) (ap (λ x. Generic x (record { 0 = part })) eo)

  pub says_variable : (kind ≡ 11 → ⊥) → 11 ≤ kind → Var (record { 0 = part }) ≡ node_at ns i
  unfolding inferred
  says_variable d l = rw (sym ek, sym ep, ne_eqb kind 11 d, le-ltb kind 11 l)

module _ (ws ns bs : List ℕ) (k : Lengths) (q : Ready ws ns bs k) where
  abbrev shape : ℕ → Shape
  shape = graph_of ws ns k

  abbrev B : Binds
  B = binds_of bs k.variables

  abbrev ranked : Ranked shape deep B
  ranked = ready_ranked ws ns bs k q

  abbrev ρ : ℕ → ℕ
  ρ = rank shape deep B

  -- what the variable at a place is bound to
  pub variable_bound : (p : ℕ) (x : Found SortVar) (u : SortVar) → x ≡ var_at (shape p) → x ≡ Some u
      → binding_of (get_or bs u.0 0) ≡ bound_to (shape p) B
  variable_bound p x u e f =
      let s = is_variable (shape p) u (sym f ∙ e) in
      sym (ap (λ y. bound_to y B) s ∙ binding_word bs k.variables u.0 (scoped ws k.sorts k.entries ns k.nodes k.arguments k.variables q.nodes p u.0 s))

  -- following
  pub begun : (p : ℕ) → Placed k p → Following shape B k p p
  begun p e = record { same = refl; placed = e }

  module _ (p end : ℕ) (f : Following shape B k p end) where
    step_by : (next : ℕ) (s : Shape) → shape end ≡ s → some next ≡ bound_to s B → (v : ℕ) × ((shape end ≡ variable v) × (binding B v ≡ some next))
    step_by next (variable v) x e = (v, (x, sym e))
    step_by next (over h ps) x e = no_confusion (cc)

    module _ (next : ℕ) (b : some next ≡ bound_to (shape end) B) where
      step : (v : ℕ) × ((shape end ≡ variable v) × (binding B v ≡ some next))
      step = step_by next (shape end) refl b

      next_placed : Placed k next
      next_placed = bound_is_place k.sorts k.nodes B step.0 next q.binds.places step.1.1

      pub next_lower : ρ next < ρ end
      next_lower = omega (arith, rank_var shape deep B ranked end step.0 next step.1.0 step.1.1)

      goes_on : follow shape deep B end ≡ follow shape deep B next
      goes_on = follow_eq shape deep B ranked end ∙ rw step.1.0 (rw step.1.1)

      pub one_further : Following shape B k p next
      one_further = record { same = f.same ∙ goes_on; placed = next_placed }

    ends_by : (s : Shape) → shape end ≡ s → none ≡ bound_to s B → follow_at shape s B end (follow shape deep B) ≡ some end
    ends_by (variable v) x e = rw (sym e)
    ends_by (over h ps) x e = refl

    pub ends_here : none ≡ bound_to (shape end) B → follow shape deep B p ≡ some end
    ends_here z = f.same ∙ (follow_eq shape deep B ranked end ∙ ends_by (shape end) refl z)

  -- the end of a place
  pub end_is_placed : (p end : ℕ) → Placed k p → follow shape deep B p ≡ some end → Placed k end
  end_is_placed = follow_names shape B (Placed k) (λ v x. bound_is_place k.sorts k.nodes B v x q.binds.places) deep

  follow_occurs : (u p end : ℕ) → follow shape deep B p ≡ some end → occurs shape deep B u p ≡ occurs shape deep B u end
  follow_occurs u =
      follow_holds shape B (λ p end. occurs shape deep B u p ≡ occurs shape deep B u end) (λ p i. refl)
      (λ p v r end s b h. occurs_eq shape deep B ranked u p ∙ (rw s (rw b h))) deep

  -- a sort holds no variable
  any_absent : (f : ℕ → Occurs) (ps : List ℕ) → ((x : ℕ) → One x ps → f x ≡ absent) → occurs_any shape f ps ≡ absent
  any_absent f [] h = refl
  any_absent f (p ∷ ps) h = let a = h p (first ps) in let b = any_absent f ps (λ x o. h x (later p ps o)) in rw a b

  sort_shape_of : (p : ℕ) → p < k.sorts → shape p ≡ sort_shape ws (row_at ws p)
  sort_shape_of p l = at_sort ws ns k q.nodes p (sort_is_place k.sorts k.nodes p q.nodes.sorts.sorts l) (omega (arith, l, q.nodes.sorts.sorts))

  sort_absent : (u j p : ℕ) → p < j → p < k.sorts → occurs shape deep B u p ≡ absent
  sort_absent u zero p l m = absurd (omega (arith, l))
  sort_absent u (suc j) p l m = occurs_eq shape deep B ranked u p ∙ go (shape p) (sort_shape_of p m) (sort_absent u j)
    where
      go : (s : Shape) → s ≡ sort_shape ws (row_at ws p) → ((x : ℕ) → x < j → x < k.sorts
          → occurs shape deep B u x ≡ absent) → occurs_at shape s B u (occurs shape deep B u) ≡ absent
      go (variable v) s ih = sort_no_variable ws v (row_at ws p) (sym s)
      go (over h ps) s ih = any_absent (occurs shape deep B u) ps (λ x o. let y = sort_parts ws k.entries p
          (row_at ws p) (sort_parts_fine ws k.sorts k.entries ns k.nodes k.arguments k.variables
          q.nodes p m) x h ps (sym s) o in ih x (omega (arith, l, y)) (omega (arith, m, y)))

  -- places among the parts of a node
  among_fewer : (i x : ℕ) → i ≤ k.nodes → is_place k.sorts i x ≡ true → Placed k x
  among_fewer i x = place_longer k.sorts k.sorts i k.nodes x (omega arith)

  highest_front : (g : ℕ → ℕ) (xs ys : List ℕ) → highest g xs ≤ highest g (xs ++ ys)
  highest_front g [] ys = omega arith
  highest_front g (x ∷ xs) ys = omega (arith, highest_front g xs ys)

  any_last : (f : ℕ → Occurs) (xs : List ℕ) (y : ℕ) → occurs_any shape f (xs ++ (y ∷ [])) ≡ or_else (occurs_any shape f xs) (f y)
  any_last f [] y = or_absent (f y)
  any_last f (x ∷ xs) y = ap (or_else (f x)) (any_last f xs y) ∙ assoc (f x) (occurs_any shape f xs) (f y)
    where
      assoc : (a b c : Occurs) → or_else a (or_else b c) ≡ or_else (or_else a b) c
      assoc absent b c = refl
      assoc present b c = refl
      assoc unknown b c = refl

  -- the occurs check, at the end of a place
  module _ (u p end : ℕ) (e : Placed k p) (f : follow shape deep B p ≡ some end) where
    end_placed : Placed k end
    end_placed = end_is_placed p end e f

    end_rank : ρ end ≤ ρ p
    end_rank = end_no_higher shape deep B ranked deep p end f

    same_there : occurs shape deep B u p ≡ occurs shape deep B u end
    same_there = follow_occurs u p end f

    pub occurs_in_sort : end < max_sorts → occurs shape deep B u p ≡ absent
    occurs_in_sort l = same_there ∙ sort_absent u (suc end) end (omega arith) (sort_below k.sorts k.nodes end l end_placed)

    module _ (n : NodeId) (apart : TakenApart end (Node n)) {r : InferSort} (stands : r ≡ node_at ns n.0) where
      l : max_sorts ≤ end
      l = above_sorts end n apart

      i : r ≡ node_at ns (end - max_sorts)
      i = stands_at_place end n apart ns stands

      pub occurs_at_variable : (v : SortVar) → r ≡ Var v → occurs shape deep B u p ≡ of_test (eqb u v.0)
      occurs_at_variable v x =
          let s = shape_of_variable ws ns k q.nodes end end_placed l r i v x in
          same_there ∙ (occurs_eq shape deep B ranked u end ∙ (rw s (rw (follow_end shape B deep p end v.0 f s))))

      module _ (op : ComplexSort) (s : InferSortId) (x : r ≡ Generic op s) where
        pub generic_shape : shape end ≡ over (container_head op) (s.0 ∷ [])
        unfolding node_shape
        generic_shape = shape_of_node ws ns k q.nodes end end_placed l r i ∙ ap (node_shape ns) x

        pub subsort_placed : Placed k s.0
        unfolding node_parts_fine
        subsort_placed =
            among_fewer (end - max_sorts) s.0 (omega (arith, node_below k.sorts k.nodes end l end_placed))
            (subst (λ y. node_parts_fine ns k.arguments k.sorts k.variables (end - max_sorts) y ≡ true) x
            (parts_fine ws ns k q.nodes end end_placed l r i))

        pub subsort_lower : ρ s.0 < ρ p
        subsort_lower = omega (arith, end_rank, rank_over shape deep B ranked end (container_head op) (s.0 ∷ []) generic_shape)

        pub occurs_in_subsort : (b : Bool) → occurs shape deep B u s.0 ≡ of_test b → occurs shape deep B u p ≡ of_test b
        occurs_in_subsort b y = same_there ∙ (occurs_eq shape deep B ranked u end ∙ rw generic_shape (or_absent (occurs shape deep B u s.0) ∙ y))

      module _ (d : Run) (s : InferSortId) (x : r ≡ Function d s) where
        abbrev args : List ℕ
        args = node_entries_of ns d.start d.count

        pub function_shape : shape end ≡ over (function_head d.count) (args ++ (s.0 ∷ []))
        unfolding node_shape
        function_shape = shape_of_node ws ns k q.nodes end end_placed l r i ∙ ap (node_shape ns) x

        function_fine : FunctionFine (is_place k.sorts (end - max_sorts)) (node_entry_at ns) k.arguments d s.0
        function_fine =
            node_function_fine ns k.arguments k.sorts k.variables (end - max_sorts) d s.0
            (subst (λ y. node_parts_fine ns k.arguments k.sorts k.variables (end - max_sorts) y ≡ true) x
            (parts_fine ws ns k q.nodes end end_placed l r i))

        part_placed : (y : ℕ) → is_place k.sorts (end - max_sorts) y ≡ true → Placed k y
        part_placed y = among_fewer (end - max_sorts) y (omega (arith, node_below k.sorts k.nodes end l end_placed))

        pub run_placed : RunPlaced ns k d.start d.count
        run_placed =
            record {
              places = λ j h. part_placed (node_entry_at ns (d.start + j)) (function_fine.each_fits j h);
              short = function_fine.short;
              inside = function_fine.inside;
            }

        pub range_placed : Placed k s.0
        range_placed = part_placed s.0 function_fine.range_fits

        function_rank : ρ end ≡ highest ρ (args ++ (s.0 ∷ []))
        function_rank = rank_over shape deep B ranked end (function_head d.count) (args ++ (s.0 ∷ [])) function_shape

        pub run_lower : highest ρ args ≤ ρ p
        run_lower = omega (arith, end_rank, function_rank, highest_front ρ args (s.0 ∷ []))

        pub range_lower : ρ s.0 < ρ p
        range_lower = omega (arith, end_rank, function_rank, one_highest ρ (args ++ (s.0 ∷ [])) s.0 (one_last args s.0))

        by_parts : occurs shape deep B u p ≡ or_else (occurs_any shape (occurs shape deep B u) args) (occurs shape deep B u s.0)
        by_parts = same_there ∙ (occurs_eq shape deep B ranked u end ∙ rw function_shape (any_last (occurs shape deep B u) args s.0))

        pub occurs_in_domain : (b : Bool) → occurs_any shape (occurs shape deep B u) args ≡ of_test b → b ≡ true → occurs shape deep B u p ≡ of_test true
        occurs_in_domain b y z = by_parts ∙ ap (λ o. or_else o (occurs shape deep B u s.0)) (y ∙ ap of_test z)

        pub occurs_in_range : (b c : Bool) → occurs_any shape (occurs shape deep B u) args ≡ of_test b → b ≡ false
            → occurs shape deep B u s.0 ≡ of_test c → occurs shape deep B u p ≡ of_test c
        occurs_in_range b c y z w = by_parts ∙ (ap (λ o. or_else o (occurs shape deep B u s.0)) (y ∙ ap of_test z) ∙ w)

  -- a run of arguments
  module _ (s c : ℕ) (r : RunPlaced ns k s c) where
    pub search_begins : (u : ℕ) → Searching shape B ns k u s c 0
    search_begins u =
        let z : s ≡ s + 0 = omega arith in
        let y : c ≡ c - 0 = omega arith in
        record {
          same = ap₂ (λ (x j : ℕ). occurs_any shape (occurs shape deep B u) (node_entries_of ns x j)) z y;
          run = subst (λ (j : ℕ). RunPlaced ns k (s + 0) j) y (subst (λ (x : ℕ). RunPlaced ns k x c) z r);
          lower = let w : highest ρ (node_entries_of ns s c) ≡ highest ρ (node_entries_of ns (s + 0) (c - 0)) = ap₂
              (λ (x j : ℕ). highest ρ (node_entries_of ns x j)) z y in omega (arith, w);
        }

    module _ (d : 0 < c) where
      pub one_and_rest : node_entries_of ns s c ≡ node_entry_at ns s ∷ node_entries_of ns (s + 1) (c - 1)
      unfolding node_entries_of
      one_and_rest = ap (node_entries_of ns s) (let z : c ≡ suc (c - 1) = omega (arith, d) in z)

      pub first_placed : Placed k (node_entry_at ns s)
      first_placed = subst (λ (x : ℕ). Placed k (node_entry_at ns x)) (omega arith) (r.places 0 d)

      pub rest_placed : RunPlaced ns k (s + 1) (c - 1)
      rest_placed =
          record {
            places = λ j h. subst (λ (x : ℕ). Placed k (node_entry_at ns x)) (omega arith) (r.places (j + 1) (omega (arith, h)));
            short = omega (arith, r.short);
            inside = omega (arith, r.inside, d);
          }

  -- a search through a run
  module _ (u s c i : ℕ) (g : Searching shape B ns k u s c i) where
    abbrev any : List ℕ → Occurs
    any = occurs_any shape (occurs shape deep B u)

    pub none_in_run : c ≤ i → any (node_entries_of ns s c) ≡ absent
    unfolding node_entries_of
    none_in_run e = g.same ∙ ap (λ (j : ℕ). any (node_entries_of ns (s + i) j)) (let z : c - i ≡ 0 = omega (arith, e) in z)

    module _ (d : i < c) where
      pub inside : s + i < k.arguments
      inside = omega (arith, g.run.inside, d)

      module _ (x : ℕ) (e : x ≡ node_entry_at ns (s + i)) where
        abbrev others : List ℕ
        others = node_entries_of ns (s + (i + 1)) (c - (i + 1))

        one_and_others : node_entries_of ns (s + i) (c - i) ≡ x ∷ others
        one_and_others =
            let a : s + (i + 1) ≡ s + i + 1 = omega arith in
            let b : c - (i + 1) ≡ c - i - 1 = omega arith in
            one_and_rest (s + i) (c - i) g.run (omega (arith, d)) ∙ rw (sym e, a, b)

        pub one_placed : Placed k x
        one_placed = subst (Placed k) (sym e) (first_placed (s + i) (c - i) g.run (omega (arith, d)))

        pub one_lower : ρ x < highest ρ (node_entries_of ns s c)
        one_lower = let y : ρ x < highest ρ (node_entries_of ns (s + i) (c - i)) = rw one_and_others (omega arith) in omega (arith, y, g.lower)

        module _ (b : Bool) (o : occurs shape deep B u x ≡ of_test b) where
          one_then_others : any (node_entries_of ns s c) ≡ or_else (of_test b) (any others)
          one_then_others = g.same ∙ (ap any one_and_others ∙ ap (λ y. or_else y (any others)) o)

          pub in_one : b ≡ true → any (node_entries_of ns s c) ≡ of_test true
          in_one z = one_then_others ∙ rw z

          pub search_goes_on : b ≡ false → Searching shape B ns k u s c (i + 1)
          search_goes_on z =
              record {
                same = one_then_others ∙ rw z;
                run = let a : s + (i + 1) ≡ s + i + 1 = omega arith in
                    let h : c - (i + 1) ≡ c - i - 1 = omega arith in
                    rw (a, h) (rest_placed (s + i) (c - i) g.run (omega (arith, d)));
                lower = let w : highest ρ others ≤ highest ρ (node_entries_of ns (s + i) (c - i)) = rw one_and_others (omega arith) in omega (arith, w, g.lower);
              }

-- the container of a kind below a function's, where none is a List
or_list : (kind : ℕ) → kind < 11 → result_unwrap_or (container_of kind) ComplexSort.List ≡ op_of_kind kind
unfolding container_of
or_list zero l = refl
or_list (suc zero) l = refl
or_list (suc (suc zero)) l = refl
or_list (suc (suc (suc zero))) l = refl
or_list (suc (suc (suc (suc zero)))) l = refl
or_list (suc (suc (suc (suc (suc zero))))) l = refl
or_list (suc (suc (suc (suc (suc (suc zero)))))) l = refl
or_list (suc (suc (suc (suc (suc (suc (suc zero))))))) l = refl
or_list (suc (suc (suc (suc (suc (suc (suc (suc zero)))))))) l = refl
or_list (suc (suc (suc (suc (suc (suc (suc (suc (suc zero))))))))) l = refl
or_list (suc (suc (suc (suc (suc (suc (suc (suc (suc (suc zero)))))))))) l = refl
or_list (suc (suc (suc (suc (suc (suc (suc (suc (suc (suc (suc k))))))))))) l = absurd (omega (arith, l))

pub op_or_list :
    (kind : ℕ) (r : Result ComplexSort NoContainer) → r ≡ container_of kind → kind < 11 → (op : ComplexSort)
    → op ≡ result_unwrap_or r ComplexSort.List → op ≡ op_of_kind kind
op_or_list kind r e l op f = f ∙ ap (λ y. result_unwrap_or y ComplexSort.List) e ∙ or_list kind l
