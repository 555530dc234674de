-- The steps on a stack of numbers as the code meets them: each law's premises are what a callee ensures, what a test says or what a
-- match binds, and its conclusion is the call's own equation. Assumes nothing.
use mathlib.Core.Path.{◌≡◌, refl, sym, ◌∙◌, ap, ap₂, subst}
use mathlib.Core.Bool.{Bool, true, false, and-eq-true_iff}
use Rattle.std.specs.Prelude.{Option, Some, None, Result, Ok, Err}
use Rattle.std.specs.Result.{result_ok}
use Rattle.resolved_sort.specs.declared.NoRoom.{NoRoom}
use Rattle.resolved_sort.specs.declared.ComplexSort.{ComplexSort}
use Rattle.sort_reader.specs.declared.Step.{Step}
use Rattle.sort_reader.specs.declared.Step.TheVariants.{Fixed, Container, Function}
use mathlib.Core.List.{List, [], ◌∷◌, ◌++◌}
use Prim.Native.Nat.{ℕ, zero, suc, ◌+◌, ◌-◌, ◌≤◌, ◌<◌}
use native.Mathlib.Omega.{arith}
use native.Mathlib.Numerals.{add-one}
use native.Mathlib.Decide.{ℕ_discrete}
use lib.ListN.{length, get_or, drop, take, set, drop_of_length-le, length-take, length-drop}
use lib.Seq.{drop-cons, length-take-le, take-suc, get_or-set_same, get_or-set_other, get_or-drop, get_or-take}
use lib.Dec.{ltb}
use borrow.Author.Tests.{lt-ltb, le-ltb}
use Rattle.resolved_sort.specs.declared.SortId.{SortId}
use Rattle.resolved_sort.specs.declared.Counts.{Counts}
use Rattle.resolved_sort.specs.Entries.{Joined}
use Rattle.resolved_sort.specs.Entries.{At, Nothing, Full}
use Rattle.resolved_sort.specs.Tree.{Tree, container, function, Trees, no_args, arg}
use Rattle.resolved_sort.specs.Interning.{Sorts, look, member, need, made, nothing, ◌then◌, intern}
use Rattle.resolved_sort.specs.Storage.{max_entries, trees, look_all, sorts_of}
use Rattle.resolved_sort.specs.Entries.{after, Stored, stored}
use Rattle.resolved_sort.specs.Rows.{AllBelow, Checked, stored_at, interned_at}
use Rattle.resolved_sort.specs.Bounds.{intern_at}
use Rattle.resolved_sort.specs.Inner.Storage.{sort_numbers}
use Rattle.resolved_sort.proofs.SortNumbers.{length_sort_numbers, get_d_sort_numbers, take_sort_numbers, drop_sort_numbers}
use Rattle.resolved_sort.proofs.Numbers.{member_look, look_grows}
use Rattle.resolved_sort.proofs.Trees.{length_trees}
use Rattle.resolved_sort.specs.Growing.{parts_in, members, SortsKept, InTree}
use Rattle.resolved_sort.proofs.Grown.{grown_none}
use Rattle.resolved_sort.proofs.Unchanged.{longer}
use Rattle.resolved_sort.proofs.Kept.{intern_kept}
use Rattle.resolved_sort.proofs.Reached.{Reached, reached, ended, reached_checked, reached_list}
use Rattle.resolved_sort.proofs.Reached.{reached_trees, reached_below, reached_sort, reached_sorts, stored_again}
use Rattle.resolved_sort.proofs.Reached.{here, no_confusion}
use Rattle.resolved_sort.proofs.BoundsCode.{answer_old, answer_none, members_below}
use Rattle.resolved_sort.proofs.Pairs.{arity_look_all}
use native.Mathlib.Nat.{add-zero}
use Rattle.sort_text.specs.Postfix.{Short, sixth, op_of, popped, not_enough, take_arguments, applied, step_on, steps, InStack, HasSix}
use Rattle.sort_text.proofs.Stores.{then_then, append, append_end}
use Rattle.sort_text.proofs.Running.{stack_extends, six_extends, steps_kept}
use Rattle.sort_reader.specs.Inner.Run.{id_at, stack_of, run_at, Running, SaysStep, TopTaken, MadeNone, RunLeft, arguments_of}

-- what interning answers
pub full_of : (ws : List ℕ) (K : Counts) (r : Result SortId NoRoom) → result_ok r ≡ None → stored_at ws Full ≡ interned_at ws K r
full_of ws K (Ok x) z = no_confusion (cc)
full_of ws K (Err e) z = refl

pub made_of : (ws : List ℕ) (K : Counts) (r : Result SortId NoRoom) {i : SortId} → result_ok r ≡ Some i → stored_at ws (At i K) ≡ interned_at ws K r
made_of ws K (Ok x) {i} z = ap (λ (y : SortId). stored_at ws (At y K)) (cc)
made_of ws K (Err e) {i} z = no_confusion (cc)

-- no sort was made
none_left : (ws : List ℕ) (K : Counts) {j : Joined} {w : Stored} → MadeNone j → stored_at ws j ≡ w → RunLeft ws K None w
none_left ws K {j} m e = subst (λ (w : Stored). (ws ≡ w.words) × MadeNone w.answer) e (refl, m)

-- what a `?` hands on
pub handed_on : (ws : List ℕ) (K : Counts) (w : Stored) (o : Option SortId) → o ≡ None → RunLeft ws K None w → RunLeft ws K o w
handed_on ws K w o e r = subst (λ x. RunLeft ws K x w) (sym e) r

-- stacks
stack_in : (ws : List ℕ) (n e : ℕ) (ids : List SortId) (d : ℕ) → ((j : ℕ) → j < d → id_at ids j < n) → InStack (sorts_of ws n e) (stack_of (trees ws n) ids d)
unfolding stack_of InStack
stack_in ws n e ids zero h = tt
stack_in ws n e ids (suc d) h =
    (member_look (trees ws n) (id_at ids d) (omega (arith, length_trees ws n, h d (omega arith))), stack_in ws n e ids d (λ j l. h j (omega arith)))

stack_set : (T : List Tree) (ids : List SortId) (d b : ℕ) (v : SortId) → d ≤ b → stack_of T (set ids b v) d ≡ stack_of T ids d
unfolding stack_of
stack_set T ids zero b v h = refl
stack_set T ids (suc d) b v h = ap₂ (λ x s. look T x ∷ s) (ap (λ (x : SortId). x.0) (get_or-set_other ids b d v (record { 0 = 0 }) (λ e. omega arith))) (stack_set T ids d b v (omega arith))

stack_top : (T : List Tree) (ids : List SortId) (b : ℕ) (v : SortId) → b < length ids → stack_of T (set ids b v) (b + 1) ≡ look T v.0 ∷ stack_of T ids b
unfolding stack_of
stack_top T ids b v h =
    ap (stack_of T (set ids b v)) (add-one b) ∙ ap₂ (λ x s. look T x ∷ s) (ap (λ (x : SortId). x.0) (get_or-set_same ids b v (record { 0 = 0 }) h)) (stack_set T ids b b v (omega arith))

stack_agrees : (T U : List Tree) (ids : List SortId) (d n : ℕ) → ((j : ℕ) → j < d → id_at ids j < n) → ((x : ℕ) → x < n
    → look T x ≡ look U x) → stack_of T ids d ≡ stack_of U ids d
unfolding stack_of
stack_agrees T U ids zero n h e = refl
stack_agrees T U ids (suc d) n h e = ap₂ ◌∷◌ (e (id_at ids d) (h d (omega arith))) (stack_agrees T U ids d n (λ j l. h j (omega arith)) e)

set_below : (ids : List SortId) (b : ℕ) (v : SortId) (m : ℕ) → b < length ids → v.0 < m → ((j : ℕ) → j < b → id_at ids j < m) → (j : ℕ)
    → j < b + 1 → Dec (j ≡ b) → id_at (set ids b v) j < m
set_below ids b v m l hv h j k (yes d) = subst (λ x. id_at (set ids b v) x < m) (sym d)
    (subst (λ y. y < m) (sym (ap (λ (x : SortId). x.0) (get_or-set_same ids b v (record { 0 = 0 }) l))) hv)
set_below ids b v m l hv h j k (no d) = subst (λ y. y < m) (sym (ap (λ (x : SortId). x.0) (get_or-set_other ids b j v (record { 0 = 0 }) d))) (h j (omega arith))

on_top : (S : Sorts) (t : Tree) (st : List Tree) → member S.trees t ≡ true → InStack S st → InStack S (t ∷ st)
unfolding InStack
on_top S t st m h = (m, h)

-- the arguments of a function step
stack_suc : (T : List Tree) (ids : List SortId) (d : ℕ) → stack_of T ids (suc d) ≡ look T (id_at ids d) ∷ stack_of T ids d
unfolding stack_of
stack_suc T ids d = refl

none_taken : (T : List Tree) (us : Trees) (st : List Tree) → popped us st ≡ popped (append (look_all T []) us) st
unfolding look_all append
none_taken T us st = refl

append_snoc : (ts us : Trees) (t : Tree) → append (append ts (arg t no_args)) us ≡ append ts (arg t us)
unfolding append
append_snoc no_args us t = refl
append_snoc (arg s ts) us t = ap (arg s) (append_snoc ts us t)

look_all_snoc : (T : List Tree) (xs : List ℕ) (x : ℕ) → look_all T (xs ++ (x ∷ [])) ≡ append (look_all T xs) (arg (look T x) no_args)
unfolding look_all append
look_all_snoc T [] x = refl
look_all_snoc T (y ∷ ys) x = ap (arg (look T y)) (look_all_snoc T ys x)

takes_numbers : (T : List Tree) (ids : List SortId) (base k : ℕ) (us : Trees) → base + k ≤ length ids
    → take_arguments k us (stack_of T ids (base + k)) ≡ popped (append (look_all T (take k (drop base (sort_numbers ids)))) us) (stack_of T ids base)
unfolding take_arguments
takes_numbers T ids base zero us h = ap (λ d. popped us (stack_of T ids d)) (add-zero base) ∙ none_taken T us (stack_of T ids base)
takes_numbers T ids base (suc k) us h =
    let l : k < length (drop base (sort_numbers ids)) = omega (arith, length-drop base (sort_numbers ids), length_sort_numbers ids) in
    let d : base + suc k ≡ suc (base + k) = omega arith in
    ap (λ m. take_arguments (suc k) us (stack_of T ids m)) d
    ∙ (ap (take_arguments (suc k) us) (stack_suc T ids (base + k))
    ∙ (takes_numbers T ids base k (arg (look T (id_at ids (base + k))) us) (omega arith)
    ∙ ap (λ ts. popped ts (stack_of T ids base))
    (sym (ap (λ xs. append (look_all T xs) us) (take-suc (drop base (sort_numbers ids)) k 0 l)
    ∙ (ap (λ ts. append ts us) (look_all_snoc T (take k (drop base (sort_numbers ids))) (get_or (drop base (sort_numbers ids)) k 0))
    ∙ (append_snoc (look_all T (take k (drop base (sort_numbers ids)))) us (look T (get_or (drop base (sort_numbers ids)) k 0))
    ∙ ap (λ x. append (look_all T (take k (drop base (sort_numbers ids)))) (arg (look T x) us)) (get_or-drop base (sort_numbers ids) k 0 ∙ sym (get_d_sort_numbers ids (base + k)))))))))

takes_short : (T : List Tree) (ids : List SortId) (d k : ℕ) (us : Trees) → d < k → take_arguments k us (stack_of T ids d) ≡ not_enough
unfolding take_arguments stack_of
takes_short T ids d zero us h = absurd (omega arith)
takes_short T ids zero (suc k) us h = refl
takes_short T ids (suc d) (suc k) us h = takes_short T ids d k (arg (look T (id_at ids d)) us) (omega arith)

takes_all : (T : List Tree) (ids : List SortId) (base k : ℕ) → base + k ≤ length ids
    → take_arguments k no_args (stack_of T ids (base + k)) ≡ popped (look_all T (take k (drop base (sort_numbers ids)))) (stack_of T ids base)
takes_all T ids base k h = takes_numbers T ids base k no_args h ∙ ap (λ ts. popped ts (stack_of T ids base)) (append_end (look_all T (take k (drop base (sort_numbers ids)))))

all_below : (n : ℕ) (xs : List ℕ) → ((j : ℕ) → j < length xs → get_or xs j 0 < n) → AllBelow n xs
unfolding AllBelow
all_below n [] h = tt
all_below n (x ∷ xs) h = (h 0 (omega arith), all_below n xs (λ j l. h (suc j) (omega arith)))

push_step : (op : ℕ) (st : List Tree) (S : Sorts) → op < 6 → step_on op st S ≡ made (sixth op ∷ st) S
unfolding step_on
push_step op st S l = rw (lt-ltb op 6 l)

over_step : (op : ℕ) (t : Tree) (st : List Tree) (S : Sorts) → 6 ≤ op → op < 11
    → step_on op (t ∷ st) S ≡ (intern (container (op_of (op - 6)) t) S then (λ u S. made (u ∷ st) S))
unfolding step_on
over_step op t st S h l = rw (le-ltb op 6 h, lt-ltb op 11 l)

map_step : (op : ℕ) (r : Tree) (st : List Tree) (S : Sorts) → 11 ≤ op → step_on op (r ∷ st) S ≡ applied r (take_arguments (op - 16) no_args st) S
unfolding step_on
map_step op r st S h = rw (le-ltb op 6 (omega arith), le-ltb op 11 h)

empty_step : (op : ℕ) (S : Sorts) (b : Bool) → 6 ≤ op → ltb op 11 ≡ b → step_on op [] S ≡ nothing S
unfolding step_on
empty_step op S true h e = rw (le-ltb op 6 h, e)
empty_step op S false h e = rw (le-ltb op 6 h, e)

module _ (ws : List ℕ) (C : Counts) (ops : List ℕ) (i : ℕ) (ids : List SortId) (len : length ids ≡ 256) (depth : ℕ)
    (q : Running ws C.sorts C.entries ops i ids depth) where
  abbrev n : ℕ
  n = C.sorts

  abbrev e : ℕ
  e = C.entries

  abbrev T : List Tree
  T = trees ws n

  abbrev S : Sorts
  S = sorts_of ws n e

  abbrev whole : Stored
  whole = run_at ws n e (drop i ops) ids depth

  run_none : length ops ≤ i → depth ≡ 0 → stored_at ws (Nothing C) ≡ whole
  unfolding run_at stack_of steps
  run_none h z = answer_none ws C q.checked ∙ rw (drop_of_length-le ops {i = i} h, z)

  stack_cons : (d : ℕ) → depth ≡ suc d → stack_of T ids depth ≡ look T (id_at ids d) ∷ stack_of T ids d
  unfolding stack_of
  stack_cons d z = rw z

  run_top : length ops ≤ i → (depth ≡ 0 → ⊥) → (x : SortId) → x.0 ≡ id_at ids (depth - 1) → stored_at ws (At x C) ≡ whole
  unfolding run_at steps
  run_top h z x f =
      let b : x.0 < n = omega (arith, f, q.numbers (depth - 1) (omega arith)) in
      answer_old ws C q.checked x b
      ∙ rw (drop_of_length-le ops {i = i} h, stack_cons (depth - 1) (omega arith)) (ap (λ y. stored ws n e (made (look T y) S)) f)

  module _ (h : i < length ops) where
    abbrev op : ℕ
    op = get_or ops i 0

    abbrev later : List ℕ
    later = drop (i + 1) ops

    steps_cons : drop i ops ≡ op ∷ later
    steps_cons = drop-cons ops i 0 h ∙ ap (λ j. op ∷ drop j ops) (sym (add-one i))

    whole_is : whole ≡ stored ws n e (step_on op (stack_of T ids depth) S then (λ st S. steps later st S))
    unfolding run_at steps
    whole_is = rw steps_cons

    short_left : (op ≤ 32) × Short later
    unfolding Short
    short_left = subst Short steps_cons q.steps_left

    pub step_small : op ≤ 32
    step_small = short_left.0

    six_in : HasSix S
    six_in k l = subst (λ t. member T t ≡ true) (q.six k l) (member_look T k (omega (arith, q.has_six, length_trees ws n)))

    run_short : 6 ≤ op → depth ≡ 0 → stored_at ws (Nothing C) ≡ whole
    unfolding stack_of
    run_short l z =
        answer_none ws C q.checked
        ∙ sym (whole_is ∙ ap (λ O. stored ws n e (O then (λ st S. steps later st S)))
        (ap (λ d. step_on op (stack_of T ids d) S) z ∙ empty_step op S (ltb op 11) l refl))

    -- one of the fixed six on the stack
    module _ (l : op < 6) where
      pushed : Running ws n e ops (i + 1) (set ids depth (record { 0 = op })) (depth + 1)
      pushed =
          record {
            checked = q.checked;
            has_six = q.has_six;
            six = q.six;
            numbers = λ j m. set_below ids depth (record { 0 = op }) n (omega (arith, len, q.room)) (omega (arith, q.has_six)) q.numbers j m (ℕ_discrete j depth);
            room = omega (arith, q.room);
            steps_left = short_left.1;
          }

      push_goes_on : run_at ws n e later (set ids depth (record { 0 = op })) (depth + 1) ≡ whole
      unfolding run_at
      push_goes_on =
          ap (λ st. stored ws n e (steps later st S)) (stack_top T ids depth (record { 0 = op }) (omega (arith, len, q.room)) ∙
          ap (λ t. t ∷ stack_of T ids depth) (q.six op l))
          ∙ sym (whole_is ∙ ap (λ O. stored ws n e (O then (λ st S. steps later st S))) (push_step op (stack_of T ids depth) S l))

    -- a sort interned, and then on the stack at base
    module _ (t : Tree) (base : ℕ) (hb : base < depth) (p : parts_in T t ≡ true) (few : need t ≤ 16)
        (is : whole ≡ stored ws n e (intern t S then (λ u S. steps later (u ∷ stack_of T ids base) S))) (vs : List ℕ) where
      interned_kept : SortsKept ws n e InTree S (intern t S)
      interned_kept = intern_kept ws n e S (grown_none ws n e q.checked) t p few

      module _ (c : SortId) (K : Counts) (ej : stored_at vs (At c K) ≡ intern_at ws n e t) where
        to_intern : stored_at vs (At c K) ≡ stored ws n e (intern t S)
        unfolding intern_at
        to_intern = ej

        there : Reached ws n e S (intern t S) vs c K
        there = reached ws n e S (intern t S) interned_kept vs c K to_intern

        look_there : (x : ℕ) → x < n → look (trees vs K.sorts) x ≡ look T x
        look_there x l =
            ap (λ U. look U x) (reached_trees ws n e S (intern t S) vs c K there ∙ there.extends.1) ∙ look_grows T
            there.extends.0 x (omega (arith, length_trees ws n))

        more : n ≤ K.sorts
        more = omega (arith, longer ws n e q.checked there.sorts there.grown, reached_sorts ws n e S (intern t S) vs c K there)

        next : Running vs K.sorts K.entries ops (i + 1) (set ids base c) (base + 1)
        next =
            record {
              checked = reached_checked ws n e S (intern t S) vs c K there;
              has_six = omega (arith, q.has_six, more);
              six = λ k l. look_there k (omega (arith, q.has_six)) ∙ q.six k l;
              numbers = λ j m. set_below ids base c K.sorts (omega (arith, len, q.room)) (reached_below ws n e S (intern t S) vs c K there)
                  (λ j l. omega (arith, q.numbers j (omega arith), more)) j m (ℕ_discrete j base);
              room = omega (arith, q.room);
              steps_left = short_left.1;
            }

        on_stack : run_at vs K.sorts K.entries later (set ids base c) (base + 1)
            ≡ stored vs K.sorts K.entries (steps later (there.sort ∷ stack_of T ids base) there.sorts)
        unfolding run_at
        on_stack =
            ap₂ (λ st L. stored vs K.sorts K.entries (steps later st L))
            (stack_top (trees vs K.sorts) ids base c (omega (arith, len, q.room))
            ∙ ap₂ ◌∷◌ (reached_sort ws n e S (intern t S) vs c K there)
            (stack_agrees (trees vs K.sorts) T ids base n (λ j l. q.numbers j (omega arith)) look_there))
            (reached_list ws n e S (intern t S) vs c K there)

        after_is : stored vs K.sorts K.entries (steps later (there.sort ∷ stack_of T ids base) there.sorts)
            ≡ stored ws n e (steps later (there.sort ∷ stack_of T ids base) there.sorts)
        after_is =
            ap₂ (λ us k. stored us k.sorts k.entries (steps later (there.sort ∷ stack_of T ids base) there.sorts)) there.words there.counted
            ∙ stored_again ws n e there.sorts there.grown there.sorts (steps later (there.sort ∷ stack_of T ids base) there.sorts) later_kept
          where
            later_kept : SortsKept (after ws n e there.sorts) (length there.sorts.trees)
                (max_entries - there.sorts.entries) InTree there.sorts (steps later (there.sort ∷ stack_of T ids
                base) there.sorts)
            later_kept =
                steps_kept (after ws n e there.sorts) (length there.sorts.trees)
                (max_entries - there.sorts.entries) later (there.sort ∷ stack_of T ids base) there.sorts
                short_left.1 (here ws n e S (intern t S) vs c K there) (six_extends S there.sorts there.extends six_in)
                (on_top there.sorts there.sort (stack_of T ids base) there.inside
                (stack_extends S there.sorts (stack_of T ids base) there.extends (stack_in ws n e ids base (λ j l. q.numbers j (omega arith)))))

        made_goes_on : run_at vs K.sorts K.entries later (set ids base c) (base + 1) ≡ whole
        made_goes_on = on_stack ∙ (after_is ∙ sym (is ∙ ap (λ O. stored ws n e (O then (λ u S. steps later (u ∷ stack_of T ids base) S))) there.is))

      -- there is no room
      full_is : stored_at vs Full ≡ intern_at ws n e t → stored_at vs Full ≡ whole
      unfolding intern_at
      full_is f =
          let x = ended ws n e (intern t S) vs f in
          f ∙ (ap (stored ws n e) x.1 ∙ sym (is ∙ ap (λ O. stored ws n e (O then (λ u S. steps later (u ∷ stack_of T ids base) S))) x.1))

    -- a container step
    module _ (l : 6 ≤ op) (m : op < 11) (z : depth ≡ 0 → ⊥) where
      abbrev last : ℕ
      last = id_at ids (depth - 1)

      pub last_below : last < n
      last_below = q.numbers (depth - 1) (omega arith)

      pub container_is : whole ≡ stored ws n e (intern (container (op_of (op - 6)) (look T last)) S then (λ u S. steps later (u ∷ stack_of T ids (depth - 1)) S))
      container_is =
          whole_is ∙ (ap (λ st. stored ws n e (step_on op st S then (λ st S. steps later st S))) (stack_cons (depth - 1) (omega arith))
          ∙ (ap (λ O. stored ws n e (O then (λ st S. steps later st S))) (over_step op (look T last) (stack_of T ids (depth - 1)) S l m)
          ∙ ap (stored ws n e) (then_then (intern (container (op_of (op - 6)) (look T last)) S)
          (λ u S. made (u ∷ stack_of T ids (depth - 1)) S) (λ st S. steps later st S))))

      container_parts : parts_in T (container (op_of (op - 6)) (look T last)) ≡ true
      unfolding parts_in
      container_parts = member_look T last (omega (arith, length_trees ws n, last_below))

      container_few : need (container (op_of (op - 6)) (look T last)) ≤ 16
      unfolding need
      container_few = omega arith

      module _ (vs : List ℕ) where
        abbrev made_container : Tree
        made_container = container (op_of (op - 6)) (look T last)

        container_next : (c : SortId) (K : Counts) → stored_at vs (At c K) ≡ intern_at ws n e made_container
            → Running vs K.sorts K.entries ops (i + 1) (set ids (depth - 1) c) (depth - 1 + 1)
        container_next = next made_container (depth - 1) (omega arith) container_parts container_few container_is vs

        container_goes_on : (c : SortId) (K : Counts) → stored_at vs (At c K) ≡ intern_at ws n e made_container
            → run_at vs K.sorts K.entries later (set ids (depth - 1) c) (depth - 1 + 1) ≡ whole
        container_goes_on = made_goes_on made_container (depth - 1) (omega arith) container_parts container_few container_is vs

        container_full : stored_at vs Full ≡ intern_at ws n e made_container → stored_at vs Full ≡ whole
        container_full = full_is made_container (depth - 1) (omega arith) container_parts container_few container_is vs

    -- a function step
    module _ (l : 11 ≤ op) (z : depth ≡ 0 → ⊥) (k : ℕ) (ek : k ≡ arguments_of op) (enough : k < depth) where
      abbrev base : ℕ
      base = depth - 1 - k

      abbrev range : ℕ
      range = id_at ids (depth - 1)

      abbrev numbers : List ℕ
      numbers = take k (drop base (sort_numbers ids))

      abbrev arrow : Tree
      arrow = function (look_all T numbers) (look T range)

      pub few_arguments : k ≤ 16
      few_arguments = omega (arith, ek, step_small)

      pub range_below : range < n
      range_below = q.numbers (depth - 1) (omega arith)

      pub numbers_below : AllBelow n numbers
      numbers_below =
          all_below n numbers
          (λ j m. let b : j < k = omega (arith, length-take k (drop base (sort_numbers ids))) in
          subst (λ x. x < n) (sym (get_or-take k (drop base (sort_numbers ids)) j 0 b ∙ (get_or-drop base (sort_numbers ids) j 0 ∙ sym (get_d_sort_numbers ids (base + j))))) (q.numbers (base + j) (omega arith)))

      function_is : whole ≡ stored ws n e (intern arrow S then (λ u S. steps later (u ∷ stack_of T ids base) S))
      function_is =
          let d : depth - 1 ≡ base + k = omega arith in
          whole_is ∙ (ap (λ st. stored ws n e (step_on op st S then (λ st S. steps later st S))) (stack_cons (depth - 1) (omega arith))
          ∙ (ap (λ O. stored ws n e (O then (λ st S. steps later st S)))
          (map_step op (look T range) (stack_of T ids (depth - 1)) S l
          ∙ ap (λ x. applied (look T range) x S) (ap₂ (λ j m. take_arguments j no_args (stack_of T ids m)) (sym ek) d ∙
          takes_all T ids base k (omega (arith, len, q.room))))
          ∙ ap (stored ws n e) (then_then (intern arrow S) (λ u S. made (u ∷ stack_of T ids base) S) (λ st S. steps later st S))))

      function_parts : parts_in T arrow ≡ true
      unfolding parts_in
      function_parts =
          (and-eq-true_iff (members T (look_all T numbers)) (member T (look T range))).1
          (members_below ws C q.checked numbers numbers_below, member_look T range (omega (arith, length_trees ws n, range_below)))

      function_few : need arrow ≤ 16
      unfolding need
      function_few = omega (arith, few_arguments, arity_look_all T numbers, length-take k (drop base (sort_numbers ids)))

      module _ (vs : List ℕ) where
        function_next : (c : SortId) (K : Counts) → stored_at vs (At c K) ≡ intern_at ws n e arrow
            → Running vs K.sorts K.entries ops (i + 1) (set ids base c) (base + 1)
        function_next = next arrow base (omega arith) function_parts function_few function_is vs

        function_goes_on : (c : SortId) (K : Counts) → stored_at vs (At c K) ≡ intern_at ws n e arrow
            → run_at vs K.sorts K.entries later (set ids base c) (base + 1) ≡ whole
        function_goes_on = made_goes_on arrow base (omega arith) function_parts function_few function_is vs

        function_full : stored_at vs Full ≡ intern_at ws n e arrow → stored_at vs Full ≡ whole
        function_full = full_is arrow base (omega arith) function_parts function_few function_is vs

    too_few : 11 ≤ op → (depth ≡ 0 → ⊥) → (k : ℕ) → k ≡ arguments_of op → depth ≤ k → stored_at ws (Nothing C) ≡ whole
    too_few l z k ek h =
        answer_none ws C q.checked
        ∙ sym (whole_is ∙ (ap (λ st. stored ws n e (step_on op st S then (λ st S. steps later st S))) (stack_cons (depth - 1) (omega arith))
        ∙ ap (λ O. stored ws n e (O then (λ st S. steps later st S)))
        (map_step op (look T (id_at ids (depth - 1))) (stack_of T ids (depth - 1)) S l
        ∙ ap (λ x. applied (look T (id_at ids (depth - 1))) x S)
        (ap (λ j. take_arguments j no_args (stack_of T ids (depth - 1))) (sym ek) ∙ takes_short T ids (depth - 1) k no_args (omega arith)))))

-- The steps so far: the list has grown to vs, and the rest of the steps comes to the whole.
module _ (ws : List ℕ) (C : Counts) (ops : List ℕ) where
  pub record Going (vs : List ℕ) (K : Counts) (i : ℕ) (ids : List SortId) (depth : ℕ) : Type 0 where
    pub running : Running vs K.sorts K.entries ops i ids depth
    pub rest : run_at vs K.sorts K.entries (drop i ops) ids depth ≡ run_at ws C.sorts C.entries ops [] 0

  pub starts : (ids : List SortId) → Running ws C.sorts C.entries ops 0 [] 0 → Going ws C 0 ids 0
  unfolding run_at stack_of
  starts ids q =
      record {
        running = record {
          checked = q.checked;
          has_six = q.has_six;
          six = q.six;
          numbers = λ d l. absurd (omega (arith, l));
          room = q.room;
          steps_left = q.steps_left;
        };
        rest = refl;
      }

-- the stack that was left
pub going_as : (ws : List ℕ) (C : Counts) (ops vs : List ℕ) (K : Counts) {i : ℕ} {ids left : List SortId} {depth d : ℕ} → left ≡ ids → d ≡ depth
    → Going ws C ops vs K i ids depth → Going ws C ops vs K i left d
going_as ws C ops vs K {i} {ids} {left} {depth} {d} e f g = subst (λ xs. Going ws C ops vs K i xs d) (sym e) (subst (Going ws C ops vs K i ids) (sym f) g)

module _ (ws : List ℕ) (C : Counts) (ops vs : List ℕ) (K : Counts) (i : ℕ) (ids : List SortId) (len : length ids ≡ 256) (depth : ℕ)
    (g : Going ws C ops vs K i ids depth) where
  abbrev answer : Stored
  answer = run_at ws C.sorts C.entries ops [] 0

  -- after the last step: what is on top
  pub ends : length ops ≤ i → (l : ℕ) (top : Option SortId) → TopTaken ids depth l top → RunLeft vs K top answer
  ends h l (Some id) t =
      let d : l ≡ depth - 1 = omega (arith, t.0) in
      run_top vs K ops i ids len depth g.running h (λ z. omega (arith, t.0, z)) id (t.1 ∙ ap (id_at ids) d) ∙ g.rest
  ends h l None t = none_left vs K tt (run_none vs K ops i ids len depth g.running h t.0 ∙ g.rest)

  module _ (h : i < length ops) (s : Step) (says : SaysStep (get_or ops i 0) s) where
    pub fixed_pushed : (id : SortId) → s ≡ Fixed id → Going ws C ops vs K (i + 1) (set ids depth id) (depth + 1)
    unfolding SaysStep
    fixed_pushed id e =
        let x = subst (SaysStep (get_or ops i 0)) e says in
        let z : ◌≡◌ {A = SortId} (record { 0 = get_or ops i 0 }) id = λ j. record { 0 = sym x.1 j } in
        subst (λ v. Going ws C ops vs K (i + 1) (set ids depth v) (depth + 1)) z
        (record {
          running = pushed vs K ops i ids len depth g.running h x.0;
          rest = push_goes_on vs K ops i ids len depth g.running h x.0 ∙ g.rest;
        })

    -- a container step on an empty stack
    pub container_missing : (o : ComplexSort) → s ≡ Container o → (l : ℕ) → TopTaken ids depth l None → RunLeft vs K None answer
    unfolding SaysStep
    container_missing o e l t =
        let x = subst (SaysStep (get_or ops i 0)) e says in
        none_left vs K tt (run_short vs K ops i ids len depth g.running h x.0 t.0 ∙ g.rest)

    module _ (o : ComplexSort) (e : s ≡ Container o) (l : ℕ) (id : SortId) (t : TopTaken ids depth l (Some id)) where
      container_says : (6 ≤ get_or ops i 0) × (get_or ops i 0 < 11) × (o ≡ op_of (get_or ops i 0 - 6))
      unfolding SaysStep
      container_says = subst (SaysStep (get_or ops i 0)) e says

      not_empty : depth ≡ 0 → ⊥
      not_empty z = omega (arith, t.0, z)

      l_is : depth - 1 ≡ l
      l_is = omega (arith, t.0)

      top_is : id_at ids (depth - 1) ≡ id.0
      top_is = ap (id_at ids) l_is ∙ sym t.1

      module _ (us : List ℕ) where
        interned_is : (j : Joined) → stored_at us j ≡ intern_at vs K.sorts K.entries (container o (look (trees vs K.sorts) id.0))
            → stored_at us j ≡ intern_at vs K.sorts K.entries (container (op_of (get_or ops i 0 - 6)) (look (trees vs K.sorts) (id_at ids (depth - 1))))
        interned_is j f =
            f ∙ ap₂ (λ p x. intern_at vs K.sorts K.entries (container p (look (trees vs K.sorts) x))) container_says.2 (sym top_is)

        pub container_pushed : (c : SortId) (L : Counts)
            → stored_at us (At c L) ≡ intern_at vs K.sorts K.entries (container o (look (trees vs K.sorts) id.0))
            → (ids' : List SortId) → ids' ≡ ids → Going ws C ops us L (i + 1) (set ids' l c) (l + 1)
        container_pushed c L f ids' r =
            subst (λ xs. Going ws C ops us L (i + 1) (set xs l c) (l + 1)) (sym r)
            (subst (λ d. Going ws C ops us L (i + 1) (set ids d c) (d + 1)) l_is
            (record {
              running = container_next vs K ops i ids len depth g.running h container_says.0 container_says.1 not_empty us c L (interned_is (At c L) f);
              rest = container_goes_on vs K ops i ids len depth g.running h container_says.0 container_says.1 not_empty us c L (interned_is (At c L) f) ∙ g.rest;
            }))

        pub container_has_no_room : (L : Counts) → stored_at us Full ≡ intern_at vs K.sorts K.entries (container o (look (trees vs K.sorts) id.0))
            → RunLeft us L None answer
        container_has_no_room L f =
            none_left us L tt
            (container_full vs K ops i ids len depth g.running h container_says.0 container_says.1 not_empty us (interned_is Full f) ∙ g.rest)

    -- a function step on an empty stack
    pub range_missing : (k : ℕ) → s ≡ Function k → (l : ℕ) → TopTaken ids depth l None → RunLeft vs K None answer
    unfolding SaysStep
    range_missing k e l t =
        let x = subst (SaysStep (get_or ops i 0)) e says in
        none_left vs K tt (run_short vs K ops i ids len depth g.running h (omega (arith, x.0)) t.0 ∙ g.rest)

    module _ (k : ℕ) (e : s ≡ Function k) (l : ℕ) (id : SortId) (t : TopTaken ids depth l (Some id)) where
      function_says : (11 ≤ get_or ops i 0) × (k ≡ arguments_of (get_or ops i 0))
      unfolding SaysStep
      function_says = subst (SaysStep (get_or ops i 0)) e says

      has_range : depth ≡ 0 → ⊥
      has_range z = omega (arith, t.0, z)

      -- too few sorts below its range
      pub arguments_missing : l < k → RunLeft vs K None answer
      arguments_missing m =
          none_left vs K tt (too_few vs K ops i ids len depth g.running h function_says.0 has_range k function_says.1 (omega (arith, t.0, m)) ∙ g.rest)

      module _ (ids' : List SortId) (r : ids' ≡ ids) (domain : List SortId) (m : k ≤ l) (d : domain ≡ take k (drop (l - k) ids')) where
        enough_below : k < depth
        enough_below = omega (arith, t.0, m)

        base_is : depth - 1 - k ≡ l - k
        base_is = omega (arith, t.0)

        range_is : id_at ids (depth - 1) ≡ id.0
        range_is = let z : depth - 1 ≡ l = omega (arith, t.0) in ap (id_at ids) z ∙ sym t.1

        domain_is : take k (drop (depth - 1 - k) (sort_numbers ids)) ≡ sort_numbers domain
        domain_is =
            ap (λ b. take k (drop b (sort_numbers ids))) base_is
            ∙ (sym (take_sort_numbers k (drop (l - k) ids) ∙ ap (take k) (drop_sort_numbers (l - k) ids))
            ∙ ap sort_numbers (sym (d ∙ ap (λ xs. take k (drop (l - k) xs)) r)))

        domain_long : length domain ≡ k
        domain_long =
            ap length (d ∙ ap (λ xs. take k (drop (l - k) xs)) r)
            ∙ length-take-le k (drop (l - k) ids) (omega (arith, length-drop (l - k) ids, len, t.0, m, g.running.room))

        pub function_asked : Checked vs K.sorts K.entries × (id.0 < K.sorts) × (length domain ≤ 16) × AllBelow K.sorts (sort_numbers domain)
        function_asked = (
          g.running.checked,
          subst (λ x. x < K.sorts) range_is
              (range_below vs K ops i ids len depth g.running h function_says.0 has_range k function_says.1 enough_below),
          omega (arith, domain_long, few_arguments vs K ops i ids len depth g.running h function_says.0 has_range k function_says.1 enough_below),
          subst (AllBelow K.sorts) domain_is
              (numbers_below vs K ops i ids len depth g.running h function_says.0 has_range k function_says.1 enough_below),
        )

        module _ (us : List ℕ) where
          function_is_it : (j : Joined)
              → stored_at us j ≡ intern_at vs K.sorts K.entries (function (look_all (trees vs K.sorts) (sort_numbers domain)) (look (trees vs K.sorts) id.0))
              → stored_at us j ≡ intern_at vs K.sorts K.entries (function (look_all (trees vs K.sorts) (take k (drop (depth - 1 - k) (sort_numbers ids)))) (look (trees vs K.sorts) (id_at ids (depth - 1))))
          function_is_it j f =
              f ∙ ap₂ (λ xs x. intern_at vs K.sorts K.entries (function (look_all (trees vs K.sorts) xs) (look (trees vs K.sorts) x)))
              (sym domain_is) (sym range_is)

          pub function_pushed : (c : SortId) (L : Counts)
              → stored_at us (At c L) ≡ intern_at vs K.sorts K.entries (function (look_all (trees vs K.sorts) (sort_numbers domain)) (look (trees vs K.sorts) id.0))
              → Going ws C ops us L (i + 1) (set ids' (l - k) c) (l - k + 1)
          function_pushed c L f =
              subst (λ xs. Going ws C ops us L (i + 1) (set xs (l - k) c) (l - k + 1)) (sym r)
              (subst (λ b. Going ws C ops us L (i + 1) (set ids b c) (b + 1)) base_is
              (record {
                running = function_next vs K ops i ids len depth g.running h function_says.0 has_range k function_says.1 enough_below us c L (function_is_it (At c L) f);
                rest = function_goes_on vs K ops i ids len depth g.running h function_says.0 has_range k function_says.1 enough_below us c L (function_is_it (At c L) f) ∙ g.rest;
              }))

          pub function_has_no_room : (L : Counts)
              → stored_at us Full ≡ intern_at vs K.sorts K.entries (function (look_all (trees vs K.sorts) (sort_numbers domain)) (look (trees vs K.sorts) id.0))
              → RunLeft us L None answer
          function_has_no_room L f =
              none_left us L tt
              (function_full vs K ops i ids len depth g.running h function_says.0 has_range k function_says.1 enough_below us (function_is_it Full f) ∙ g.rest)
