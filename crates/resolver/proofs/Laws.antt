-- Resolving, as the code meets it: by what stands at the end of a place, and from the lists that a call has left. Sizes of terms fall from a place
-- to its parts. Assumes nothing.
use mathlib.Core.Path.{◌≡◌, refl, ap, ap₂, sym, ◌∙◌, subst}
use mathlib.Core.List.{List, [], ◌∷◌, ◌++◌}
use mathlib.Core.Option.{Option, some}
use mathlib.Core.Bool.{false}
use Prim.Native.Nat.{ℕ, suc, ◌+◌, ◌-◌, ◌<◌, ◌≤◌}
use native.Mathlib.Omega.{arith}
use lib.ListN.{set, take, replicate}
use Rattle.resolved_sort.specs.declared.ComplexSort.{ComplexSort}
use Rattle.resolved_sort.specs.declared.SortId.{SortId}
use Rattle.resolved_sort.specs.declared.Run.{Run}
use Rattle.resolved_sort.specs.declared.Counts.{Counts}
use Rattle.resolved_sort.specs.Entries.{Joined}
use Rattle.resolved_sort.specs.Entries.{At, Nothing, Full}
use Rattle.resolved_sort.specs.Inner.Bounds.{All, Nothing as NotAll, Full as NoRoom}
use Rattle.resolved_sort.specs.Inner.Bounds.{Domain}
use Rattle.resolved_sort.specs.Tree.{Tree, container, function}
use Rattle.resolved_sort.specs.Interning.{Sorts, look}
use Rattle.resolved_sort.specs.Storage.{max_sorts, trees, sorts_of, look_all}
use Rattle.resolved_sort.specs.Entries.{Stored, counts_of, after, stored}
use Rattle.std.specs.Prelude.{Option as Found, Result, Ok, Err}
use Rattle.std.specs.Result.{IsErr}
use Rattle.resolved_sort.specs.declared.NoRoom.{NoRoom as NoRoomLeft}
use Rattle.resolved_sort.specs.Rows.{Checked, AllBelow, stored_at, interned_at, left_at}
use Rattle.resolved_sort.specs.Bounds.{intern_at}
use Rattle.resolved_sort.specs.Inner.Storage.{sort_numbers}
use Rattle.resolved_sort.specs.Inner.Bounds.{StoredDomain, domain_left, stored_domain, domain_of}
use Rattle.resolved_sort.proofs.Numbers.{member_look, true_not_false}
use Rattle.resolved_sort.proofs.Trees.{length_trees}
use Rattle.resolved_sort.specs.Growing.{Grown}
use Rattle.resolved_sort.proofs.Grown.{grown_none}
use Rattle.resolved_sort.proofs.Unchanged.{longer}
use Rattle.resolved_sort.proofs.BoundsCode.{answer_old, answer_none}
use Rattle.resolved_sort.proofs.Reached.{Reached}
use Rattle.resolved_sort.proofs.FunctionCode.{ReachedAll}
use Rattle.unification.specs.declared.Lengths.{Lengths}
use Rattle.unification.specs.Default.{Default}
use Rattle.std.specs.Prelude.{Some as Is, None as NoDefault}
use Rattle.unification.specs.declared.InferSortId.{InferSortId}
use Rattle.unification.specs.declared.SortVar.{SortVar}
use Rattle.unification.specs.declared.NodeId.{NodeId}
use Rattle.unification.specs.declared.Place.TheVariants.{Node}
use Rattle.unification.specs.declared.InferSort.{InferSort}
use Rattle.unification.specs.declared.InferSort.TheVariants.{Generic, Function, Var}
use Rattle.unification.specs.Term.{container_head, function_head, Term, var, app, Terms, no_part, part, over}
use Rattle.unification.specs.Nodes.{node_entry_at, node_entries_of, node_at, Binds, binds_of}
use Rattle.unification.specs.Unify.{follow, deep}
use Rattle.unification.specs.Checked.{graph_of, Ready, Placed}
use Rattle.unification.specs.Solutions.{terms_at}
use Rattle.unification.specs.Resolve.{resolve_term, resolve_arguments, DefaultBelow, default_of, default_in, term_resolved, arguments_resolved, with_counts}
use Rattle.unification.specs.Inner.Resolve.{free_sort, value_in}
use Rattle.unification.specs.Inner.Apart.{TakenApart}
use Rattle.unification.proofs.Exact.{size, sizes}
use Rattle.unification.proofs.Parts.{node_runs, each_of_run}
use Rattle.unification.proofs.Places.{sort_below}
use Rattle.unification.proofs.Rows.{length_node_entries}
use Rattle.unification.proofs.SortsGrow.{ready_with_more_sorts}
use Rattle.unification.proofs.ResolvedSorts.{count, Formed, AllFormed, DefaultIn}
use Rattle.unification.proofs.ResolvedPlaces.{count_terms, terms_formed, value_formed, sort_place_is_found}
use Rattle.unification.proofs.Resolved.{value_followed}
use Rattle.unification.proofs.ResolvedCode as code
use Rattle.infer_nodes.specs.Inner.Bound.{RunPlaced, BindsPass}
use Rattle.infer_nodes.proofs.Shapes.{shape_of_variable}
use Rattle.infer_nodes.proofs.Apart.{above_sorts, stands_at_place}
use Rattle.infer_nodes.proofs.Ways as ways

-- what was left, by what the answer was
pub left_as : (ws : List ℕ) (K : Counts) (a b : Result (Found SortId) NoRoomLeft) {T : Stored} → a ≡ b → left_at ws K a ≡ T → left_at ws K b ≡ T
left_as ws K a b {T} e = subst (λ r. left_at ws K r ≡ T) e

pub found_as : (ws : List ℕ) (K : Counts) (a : Result (Found SortId) NoRoomLeft) {x y : Found SortId} {T : Stored} → a ≡ Ok x → x ≡ y
    → left_at ws K a ≡ T → left_at ws K (Ok y) ≡ T
found_as ws K a {x} {y} e f = left_as ws K a (Ok y) (e ∙ ap Ok f)

pub interned_as : (ws : List ℕ) (K : Counts) (a b : Result SortId NoRoomLeft) {T : Stored} → a ≡ b → interned_at ws K a ≡ T → interned_at ws K b ≡ T
interned_as ws K a b {T} e = subst (λ r. interned_at ws K r ≡ T) e

-- an answer that is an error, whatever the error says
pub left_err : (ws : List ℕ) (K : Counts) (r : Result (Found SortId) NoRoomLeft) {T : Stored} → IsErr r → stored_at ws Full ≡ T → left_at ws K r ≡ T
left_err ws K (Ok x) i t = absurd (true_not_false false i refl)
left_err ws K (Err e) i t = t

pub default_left_at : (ws : List ℕ) (K : Counts) (x : Default) → left_at ws K (Ok x) ≡ stored_at ws (free_sort K x)
default_left_at ws K (Is d) = refl
default_left_at ws K NoDefault = refl

sizes_last : (f : ℕ → Term) (xs : List ℕ) (y : ℕ) → sizes (terms_at f (xs ++ (y ∷ []))) ≡ sizes (terms_at f xs) + size (f y)
unfolding sizes
sizes_last f [] y = omega arith
sizes_last f (x ∷ xs) y = omega (arith, sizes_last f xs y)

module _ (ws ns bs : List ℕ) (k : Lengths) (q : Ready ws ns bs k) (x : Default) (dx : DefaultBelow k.sorts x) where
  abbrev n : ℕ
  n = k.sorts

  abbrev e : ℕ
  e = k.entries

  abbrev C : Counts
  C = record { sorts = n; entries = e }

  abbrev X : Option Tree
  X = default_in ws k x

  abbrev S : Sorts
  S = sorts_of ws n e

  abbrev B : Binds
  B = binds_of bs k.variables

  abbrev val : ℕ → Term
  val = value_in ws ns bs k

  abbrev checked : Checked ws n e
  checked = q.nodes.sorts

  default_in_lem : DefaultIn X S
  default_in_lem = go x dx
    where
      go : (y : Default) → DefaultBelow n y → DefaultIn (default_of (trees ws n) y) S
      go (Is d) l = member_look (trees ws n) d.0 (omega (arith, l, length_trees ws n))
      go NoDefault l = tt

  formed : (p : ℕ) → Placed k p → Formed (val p)
  formed p i = value_formed ws n e ns k.nodes k.arguments k.variables q.nodes B q.binds p i

  run_formed : (s c : ℕ) → RunPlaced ns k s c → AllFormed (terms_at val (node_entries_of ns s c))
  run_formed s c r = terms_formed val (node_entries_of ns s c) (λ p o. formed p (each_of_run (node_entry_at ns)
      (node_entries_of ns) (node_runs ns) (Placed k) s c r.places p o))

  run_count : (s c : ℕ) → count (terms_at val (node_entries_of ns s c)) ≡ c
  run_count s c = count_terms val (node_entries_of ns s c) ∙ length_node_entries ns s c

  -- by what stands at the end
  module _ (p end : ℕ) (i : Placed k p) (f : follow (graph_of ws ns k) deep B p ≡ some end) where
    end_placed : Placed k end
    end_placed = ways.end_is_placed ws ns bs k q p end i f

    pub sort_found : end < max_sorts → (s : SortId) → s.0 ≡ end → (c : Counts) → c ≡ C → stored_at ws (At s c) ≡ term_resolved ws k x (val p)
    unfolding term_resolved
    sort_found l s es c y =
        let b = sort_below k.sorts k.nodes end l end_placed in
        ap₂ (λ (m : ℕ) (z : Counts). stored_at ws (At (record { 0 = m }) z)) es y
        ∙ (answer_old ws C checked (record { 0 = end }) b
        ∙ ap (stored ws n e)
        (sym (ap (λ t. resolve_term X t S) (value_followed ws n e ns k.nodes k.arguments k.variables q.nodes B q.binds p end f)
        ∙ sort_place_is_found ws n e ns k.nodes k.arguments k.variables q.nodes B q.binds S (grown_none ws n e checked) X end b)))

    module _ (at : NodeId) (apart : TakenApart end (Node at)) {r : InferSort} (stands : r ≡ node_at ns at.0) where
      pub variable_answers : (u : SortVar) → r ≡ Var u → (c : Counts) → c ≡ C → (w : Joined) → w ≡ free_sort c x → stored_at ws w ≡ term_resolved ws k x (val p)
      unfolding term_resolved resolve_term
      variable_answers u y c z w v =
          ap (stored_at ws) (v ∙ ap (λ d. free_sort d x) z)
          ∙ (go x dx
          ∙ ap (λ t. stored ws n e (resolve_term X t S))
          (sym (code.value_of_variable ws n e ns k.nodes k.arguments k.variables q.nodes B q.binds p
          end f u.0 (shape_of_variable ws ns k q.nodes end end_placed (above_sorts end at apart) r (stands_at_place end at apart ns stands) u y))))
        where
          go : (y : Default) → DefaultBelow n y → stored_at ws (free_sort C y) ≡ stored ws n e (resolve_term (default_of (trees ws n) y) (var u.0) S)
          go (Is d) b = answer_old ws C checked d b
          go NoDefault b = answer_none ws C checked

      module _ (o : ComplexSort) (s : InferSortId) (y : r ≡ Generic o s) where
        abbrev term : Term
        term = app (container_head o) (part (val s.0) no_part)

        is_container : val p ≡ term
        is_container =
            code.value_of_container ws n e ns k.nodes k.arguments k.variables q.nodes B q.binds p end f
            o s.0 (ways.generic_shape ws ns bs k q 0 p end i f at apart stands o s y)

        pub part_placed : Placed k s.0
        part_placed = ways.subsort_placed ws ns bs k q 0 p end i f at apart stands o s y

        pub part_falls : size (val s.0) < size (val p)
        unfolding size sizes
        part_falls = subst (λ t. size (val s.0) < size t) (sym is_container) (omega arith)

        whole : term_resolved ws k x term ≡ term_resolved ws k x (val p)
        whole = ap (term_resolved ws k x) (sym is_container)

        module _ (vs : List ℕ) (a : Joined) (ea : stored_at vs a ≡ term_resolved ws k x (val s.0)) where
          ea' : stored_at vs a ≡ stored ws n e (resolve_term X (val s.0) S)
          unfolding term_resolved
          ea' = ea

          pub container_stops : (K : Counts) → a ≡ Nothing K → stored_at vs (Nothing K) ≡ term_resolved ws k x (val p)
          unfolding term_resolved
          container_stops K z = code.container_stops ws C checked X default_in_lem (val s.0) (formed s.0 part_placed) vs a ea' o K z ∙ whole

          pub container_ends : a ≡ Full → stored_at vs Full ≡ term_resolved ws k x (val p)
          unfolding term_resolved
          container_ends z = code.container_ends ws C checked X default_in_lem (val s.0) (formed s.0 part_placed) vs a ea' o z ∙ whole

          module _ (c : SortId) (K : Counts) (z : a ≡ At c K) where
            pub container_asked : Checked vs K.sorts K.entries × (c.0 < K.sorts)
            container_asked = (
              code.part_checked ws C checked X default_in_lem (val s.0) (formed s.0 part_placed) vs a ea' c K z,
              code.part_below ws C checked X default_in_lem (val s.0) (formed s.0 part_placed) vs a ea' c K z,
            )

            pub container_made : (us : List ℕ) (w : Joined) → stored_at us w ≡ intern_at vs K.sorts K.entries
                (container o (look (trees vs K.sorts) c.0)) → stored_at us w ≡ term_resolved ws k x (val p)
            unfolding term_resolved
            container_made us w g = code.container_made ws C checked X default_in_lem (val s.0) (formed s.0 part_placed) vs a ea' c K z o us w g ∙ whole

      module _ (d : Run) (s : InferSortId) (y : r ≡ Function d s) where
        pub domain_placed : RunPlaced ns k d.start d.count
        domain_placed = ways.run_placed ws ns bs k q 0 p end i f at apart stands d s y

        pub range_placed : Placed k s.0
        range_placed = ways.range_placed ws ns bs k q 0 p end i f at apart stands d s y

        abbrev args : List ℕ
        args = node_entries_of ns d.start d.count

        pub is_function : val p ≡ app (function_head d.count) (terms_at val (args ++ (s.0 ∷ [])))
        is_function =
            code.value_of_function ws n e ns k.nodes k.arguments k.variables q.nodes B q.binds p end f args s.0
            (ways.function_shape ws ns bs k q 0 p end i f at apart stands d s y ∙ ap (λ (c : ℕ). over (function_head c)
            (args ++ (s.0 ∷ []))) (sym (length_node_entries ns d.start d.count)))
            ∙ ap₂ (λ (c : ℕ) (ts : Terms). app (function_head c) ts) (run_count d.start d.count) (sym (code.terms_with_last val args s.0))

        pub function_size : size (app (function_head d.count) (terms_at val (args ++ (s.0 ∷ [])))) ≡ size (val p)
        function_size = ap size (sym is_function)

        pub whole_function : term_resolved ws k x (app (function_head d.count) (terms_at val (args ++ (s.0 ∷ [])))) ≡ term_resolved ws k x (val p)
        whole_function = ap (term_resolved ws k x) (sym is_function)

  -- from the lists that a call has left
  module _ (S₁ : Sorts) (g : Grown ws n e S₁) (vs : List ℕ) (K : Counts) (w : vs ≡ after ws n e S₁)
      (c : K ≡ counts_of S₁) (k' : Lengths) (ek : k' ≡ with_counts k K) where
    ready_left : Ready vs ns bs k'
    ready_left = rw (ek, w, c) (ready_with_more_sorts ws ns bs k q S₁ g)

    more_sorts : n ≤ K.sorts
    more_sorts = omega (arith, longer ws n e checked S₁ g, ap (λ (y : Counts). y.sorts) c)

    default_left : DefaultBelow k'.sorts x
    default_left = rw ek (go x dx)
      where
        go : (y : Default) → DefaultBelow n y → DefaultBelow K.sorts y
        go (Is d) l = omega (arith, l, more_sorts)
        go NoDefault l = tt

    default_same : default_of (trees vs K.sorts) x ≡ X
    default_same = go x dx
      where
        go : (y : Default) → DefaultBelow n y → default_of (trees vs K.sorts) y ≡ default_of (trees ws n) y
        go (Is d) l = ap some (code.left_look ws n e ns k.nodes k.arguments k.variables q.nodes B q.binds S₁ g vs K w c d.0 l)
        go NoDefault l = refl

    placed_left : (p : ℕ) → Placed k p → Placed k' p
    placed_left p i = rw ek (code.left_place ws n e ns k.nodes k.arguments k.variables q.nodes B q.binds S₁ g vs K w c p i)

    run_left : (s m : ℕ) → RunPlaced ns k s m → RunPlaced ns k' s m
    run_left s m r = record { places = λ j l. placed_left (node_entry_at ns (s + j)) (r.places j l); short = r.short; inside = rw ek r.inside }

    value_left : (p : ℕ) → Placed k p → value_in vs ns bs k' p ≡ val p
    value_left p i = rw ek (code.left_value ws n e ns k.nodes k.arguments k.variables q.nodes B q.binds S₁ g vs K w c p i)

    values_left : (s m : ℕ) → RunPlaced ns k s m → terms_at (value_in vs ns bs k') (node_entries_of ns s m) ≡ terms_at val (node_entries_of ns s m)
    values_left s m r =
        rw ek
        (code.left_values ws n e ns k.nodes k.arguments k.variables q.nodes B q.binds S₁ g vs K w c
        (node_entries_of ns s m) (λ p o. each_of_run (node_entry_at ns) (node_entries_of ns) (node_runs ns) (Placed k) s
        m r.places p o))

    resolved_left : (p : ℕ) → Placed k p → term_resolved vs k' x (value_in vs ns bs k' p) ≡ stored vs K.sorts
        K.entries (resolve_term X (val p) (sorts_of vs K.sorts K.entries))
    unfolding term_resolved
    resolved_left p i = ap (term_resolved vs k' x) (value_left p i) ∙ rw ek (ap (λ y. stored vs K.sorts K.entries
        (resolve_term y (val p) (sorts_of vs K.sorts K.entries))) default_same)

    arguments_left : (s m : ℕ) → RunPlaced ns k s m → (t : ℕ) (ids : List ℕ)
        → arguments_resolved vs k' x (terms_at (value_in vs ns bs k') (node_entries_of ns s m)) t ids
        ≡ domain_of vs K.sorts K.entries t ids (resolve_arguments X (terms_at val (node_entries_of ns s m)) (sorts_of vs K.sorts K.entries))
    unfolding arguments_resolved
    arguments_left s m r t ids =
        ap (λ ts. arguments_resolved vs k' x ts t ids) (values_left s m r)
        ∙ rw ek (ap (λ y. domain_of vs K.sorts K.entries t ids (resolve_arguments y
        (terms_at val (node_entries_of ns s m)) (sorts_of vs K.sorts K.entries))) default_same)

  -- a run of arguments
  module _ (s m t : ℕ) (r : RunPlaced ns k s m) (ids : List ℕ) where
    abbrev run : Terms
    run = terms_at val (node_entries_of ns s m)

    pub no_arguments : m ≡ 0 → (c : Counts) → c ≡ C → domain_left ws ids (All c) ≡ arguments_resolved ws k x run t ids
    unfolding arguments_resolved node_entries_of
    no_arguments z c y =
        ap (λ d. domain_left ws ids (All d)) y
        ∙ (code.arguments_done ws C checked X default_in_lem t ids
        ∙ ap (λ (a : ℕ). domain_of ws n e t ids (resolve_arguments X (terms_at val (node_entries_of ns s a)) S)) (sym z))

    module _ (h : 0 < m) (a₀ : ℕ) (e₀ : a₀ ≡ node_entry_at ns s) where
      abbrev a : ℕ
      a = node_entry_at ns s

      abbrev rest : Terms
      rest = terms_at val (node_entries_of ns (s + 1) (m - 1))

      first_and_rest : run ≡ part (val a) rest
      first_and_rest = ap (terms_at val) (ways.one_and_rest ws ns bs k q s m r h)

      first_here : Placed k a
      first_here = ways.first_placed ws ns bs k q s m r h

      pub first_placed : Placed k a₀
      first_placed = subst (Placed k) (sym e₀) first_here

      rest_run : RunPlaced ns k (s + 1) (m - 1)
      rest_run = ways.rest_placed ws ns bs k q s m r h

      pub first_falls : size (val a₀) + sizes rest ≡ sizes run
      unfolding sizes
      first_falls = sym (ap sizes first_and_rest ∙ ap (λ (z : ℕ). size (val z) + sizes rest) (sym e₀))

      module _ (vs : List ℕ) (w : Joined) (ew : stored_at vs w ≡ term_resolved ws k x (val a₀)) where
        ew' : stored_at vs w ≡ stored ws n e (resolve_term X (val a) S)
        unfolding term_resolved
        ew' = ew ∙ ap (λ z. term_resolved ws k x (val z)) e₀

        back : arguments_resolved ws k x (part (val a) rest) t ids ≡ arguments_resolved ws k x run t ids
        back = ap (λ ts. arguments_resolved ws k x ts t ids) (sym first_and_rest)

        pub arguments_stop : (K : Counts) → w ≡ Nothing K
            → domain_left vs (replicate 16 0) (NotAll K) ≡ arguments_resolved ws k x run t ids
        unfolding arguments_resolved
        arguments_stop K z = code.arguments_stop ws C checked X default_in_lem (val a) (formed a first_here) vs w ew' rest t ids K z ∙ back

        pub arguments_end : w ≡ Full → domain_left vs (replicate 16 0) NoRoom ≡ arguments_resolved ws k x run t ids
        unfolding arguments_resolved
        arguments_end z = code.arguments_end ws C checked X default_in_lem (val a) (formed a first_here) vs w ew' rest t ids z ∙ back

        module _ (c : SortId) (K : Counts) (z : w ≡ At c K) (k' : Lengths) (ek : k' ≡ with_counts k K) where
          abbrev reached : Reached ws n e S (resolve_term X (val a) S) vs c K
          reached = code.part_reached ws C checked X default_in_lem (val a) (formed a first_here) vs w ew' c K z

          pub rest_ready : Ready vs ns bs k' × DefaultBelow k'.sorts x × RunPlaced ns k' (s + 1) (m - 1)
          rest_ready = (
            ready_left reached.sorts reached.grown vs K reached.words reached.counted k' ek,
            default_left reached.sorts reached.grown vs K reached.words reached.counted k' ek,
            run_left reached.sorts reached.grown vs K reached.words reached.counted k' ek (s + 1) (m - 1) rest_run,
          )

          pub rest_same : sizes (terms_at (value_in vs ns bs k') (node_entries_of ns (s + 1) (m - 1))) ≡ sizes rest
          rest_same = ap sizes (values_left reached.sorts reached.grown vs K reached.words reached.counted k' ek (s + 1) (m - 1) rest_run)

          pub arguments_made : arguments_resolved vs k' x (terms_at (value_in vs ns bs k') (node_entries_of ns (s + 1)
              (m - 1))) (t + 1) (set ids t c.0) ≡ arguments_resolved ws k x run t ids
          unfolding arguments_resolved
          arguments_made =
              code.arguments_made ws C checked X default_in_lem (val a) (formed a first_here) vs w ew' c K z rest
              (run_formed (s + 1) (m - 1) rest_run) t ids there
              (arguments_left reached.sorts reached.grown vs K reached.words reached.counted k' ek (s + 1)
              (m - 1) rest_run (t + 1) (set ids t c.0))
              ∙ back
            where
              there : StoredDomain
              there = arguments_resolved vs k' x (terms_at (value_in vs ns bs k') (node_entries_of ns (s + 1) (m - 1))) (t + 1) (set ids t c.0)

  -- a function
  module _ (s m g : ℕ) (r : RunPlaced ns k s m) (i : Placed k g) where
    abbrev ts : Terms
    ts = terms_at val (node_entries_of ns s m)

    abbrev term_of_function : Term
    term_of_function = app (function_head m) (terms_at val (node_entries_of ns s m ++ (g ∷ [])))

    as_code : app (function_head (count ts)) (code.with_last ts (val g)) ≡ term_of_function
    as_code = ap₂ (λ (c : ℕ) (us : Terms). app (function_head c) us) (run_count s m) (sym (code.terms_with_last val (node_entries_of ns s m) g))

    to_whole : stored ws n e (resolve_term X (app (function_head (count ts)) (code.with_last ts (val g))) S) ≡ term_resolved ws k x term_of_function
    unfolding term_resolved
    to_whole = ap (term_resolved ws k x) as_code

    few : count ts ≤ 16
    few = omega (arith, run_count s m, r.short)

    pub function_parts : suc (sizes ts + size (val g)) ≡ size term_of_function
    unfolding size
    function_parts = ap suc (sym (sizes_last val (node_entries_of ns s m) g))

    module _ (vs : List ℕ) (a : Domain) (ea : stored_domain vs a ≡ arguments_resolved ws k x ts 0 (replicate 16 0)) where
      ed : stored_domain vs a ≡ domain_of ws n e 0 (replicate 16 0) (resolve_arguments X ts S)
      unfolding arguments_resolved
      ed = ea

      pub function_stops : (K : Counts) → a.found ≡ NotAll K → stored_at vs (Nothing K) ≡ term_resolved ws k x term_of_function
      function_stops K z = code.function_stops ws C checked X default_in_lem ts (run_formed s m r) few (val g) (formed g i) vs a ed K z ∙ to_whole

      pub function_ends : a.found ≡ NoRoom → stored_at vs Full ≡ term_resolved ws k x term_of_function
      function_ends z = code.function_ends ws C checked X default_in_lem ts (run_formed s m r) few (val g) (formed g i) vs a ed z ∙ to_whole

      module _ (K : Counts) (z : a.found ≡ All K) (k' : Lengths) (ek : k' ≡ with_counts k K) where
        abbrev reached_all : ReachedAll ws n e S (count ts) (resolve_arguments X ts S) vs a K
        reached_all = code.arguments_reached ws C checked X default_in_lem ts (run_formed s m r) few (val g) (formed g i) vs a ed K z

        pub range_ready : Ready vs ns bs k' × DefaultBelow k'.sorts x × Placed k' g
        range_ready = (
          ready_left reached_all.sorts reached_all.grown vs K reached_all.words reached_all.counted k' ek,
          default_left reached_all.sorts reached_all.grown vs K reached_all.words reached_all.counted k' ek,
          placed_left reached_all.sorts reached_all.grown vs K reached_all.words reached_all.counted k' ek g i,
        )

        pub range_same : size (value_in vs ns bs k' g) ≡ size (val g)
        range_same = ap size (value_left reached_all.sorts reached_all.grown vs K reached_all.words reached_all.counted k' ek g i)

        module _ (us : List ℕ) (w : Joined) (ew : stored_at us w ≡ term_resolved vs k' x (value_in vs ns bs k' g)) where
          ew'' : stored_at us w ≡ stored vs K.sorts K.entries (resolve_term X (val g) (sorts_of vs K.sorts K.entries))
          ew'' = ew ∙ resolved_left reached_all.sorts reached_all.grown vs K reached_all.words reached_all.counted k' ek g i

          pub range_stops : (K₂ : Counts) → w ≡ Nothing K₂ → stored_at us (Nothing K₂) ≡ term_resolved ws k x term_of_function
          range_stops K₂ y = code.range_stops ws C checked X default_in_lem ts (run_formed s m r) few (val g) (formed g i) vs a ed K z us w ew'' K₂ y ∙ to_whole

          pub range_ends : w ≡ Full → stored_at us Full ≡ term_resolved ws k x term_of_function
          range_ends y = code.range_ends ws C checked X default_in_lem ts (run_formed s m r) few (val g) (formed g i) vs a ed K z us w ew'' y ∙ to_whole

          module _ (c : SortId) (K₂ : Counts) (y : w ≡ At c K₂) where
            pub function_asked : Checked us K₂.sorts K₂.entries × (c.0 < K₂.sorts) × (m ≤ 16) × AllBelow K₂.sorts (take m (sort_numbers a.ids))
            function_asked = (
              code.function_checked ws C checked X default_in_lem ts (run_formed s m r) few (val g) (formed g i) vs a ed K z us w ew'' c K₂ y,
              code.function_range_below ws C checked X default_in_lem ts (run_formed s m r) few (val g) (formed g i) vs a ed K z us w ew'' c K₂ y,
              r.short,
              subst (λ (j : ℕ). AllBelow K₂.sorts (take j (sort_numbers a.ids))) (run_count s m)
                  (code.function_ids_below ws C checked X default_in_lem ts (run_formed s m r) few (val g) (formed g i) vs a ed K z us w ew'' c K₂ y),
            )

            pub function_made : (zs : List ℕ) (v : Joined)
                → stored_at zs v ≡ intern_at us K₂.sorts K₂.entries (function (look_all (trees us K₂.sorts)
                (take m (sort_numbers a.ids))) (look (trees us K₂.sorts) c.0))
                → stored_at zs v ≡ term_resolved ws k x term_of_function
            function_made zs v h =
                code.function_made ws C checked X default_in_lem ts (run_formed s m r) few (val g) (formed g i) vs a ed K z us w ew'' c K₂ y zs v
                (h ∙ ap (λ (j : ℕ). intern_at us K₂.sorts K₂.entries (function (look_all (trees us K₂.sorts)
                (take j (sort_numbers a.ids))) (look (trees us K₂.sorts) c.0))) (sym (run_count s m)))
                ∙ to_whole

-- bindings that pass over these words and lengths, under other names
pub pass_there : (ws us ns bs : List ℕ) (k j : Lengths) → us ≡ ws → j ≡ k → BindsPass ws ns bs k → BindsPass us ns bs j
pass_there ws us ns bs k j e f p = subst (λ (vs : List ℕ). BindsPass vs ns bs j) (sym e) (subst (λ (i : Lengths). BindsPass ws ns bs i) (sym f) p)
