-- What the definition makes, as the code meets it. Assumes nothing.
use mathlib.Core.Path.{◌≡◌, refl, ap, sym, ◌∙◌, subst}
use mathlib.Core.List.{List, [], ◌∷◌, ◌++◌, append_assoc, append-nil}
use mathlib.Core.Option.{Option, none, some}
use mathlib.Core.Bool.{Bool, true, false, cond}
use Prim.Native.Nat.{ℕ, suc, ◌+◌, ◌<◌, ◌≤◌}
use native.Mathlib.Omega.{arith}
use native.Mathlib.Numerals.{add-one}
use lib.ListN.{length, get_or, set, take, drop, length-set, drop_of_length-le}
use lib.Seq.{sets, take-suc-set, take-length, drop-cons, get_or-take, get_or-set_other, length-take-le}
use lib.Dec.{eqb}
use borrow.Author.Tests.{lt-ltb, le-ltb, le-leb, lt-leb}
use Rattle.resolved_sort.specs.declared.ComplexSort.{ComplexSort}
use Rattle.resolved_sort.specs.declared.SortId.{SortId}
use Rattle.resolved_sort.specs.declared.Counts.{Counts}
use Rattle.std.specs.Prelude.{Option as Found, Some, Result, Ok, Err}
use Rattle.resolved_sort.specs.Entries.{Joined}
use Rattle.resolved_sort.specs.Entries.{At as JoinedAt, Full as JoinedFull}
use Rattle.resolved_sort.specs.Tree.{Tree, container}
use Rattle.resolved_sort.specs.Interning.{look, member, made as made-sort, full, fits, intern}
use Rattle.resolved_sort.specs.Storage.{function_kind, Row, put_row, trees, sorts_of}
use Rattle.resolved_sort.specs.Entries.{Stored, stored}
use Rattle.resolved_sort.specs.Rows.{Checked, stored_at}
use Rattle.resolved_sort.specs.Bounds.{intern_at}
use Rattle.resolved_sort.proofs.Grown.{after_none, more}
use Rattle.resolved_sort.proofs.Reached.{no_confusion}
use Rattle.unification.specs.declared.Lengths.{Lengths}
use Rattle.unification.specs.declared.Full.{Full}
use Rattle.std.specs.Result.{IsErr, IsErrAnd}
use Rattle.resolved_sort.specs.declared.NoRoom.{NoRoom as NoRoomLeft}
use Rattle.resolved_sort.specs.Rows.{interned_at}
use Rattle.resolved_sort.proofs.Numbers.{true_not_false}
use Rattle.related_sorts.specs.Arena.{node_of}
use Rattle.unification.specs.declared.InferSortId.{InferSortId}
use Rattle.unification.specs.Nodes.{max_nodes, max_node_entries, node_entries_at}
use Rattle.unification.specs.Related.{related_container}
use Rattle.unification.specs.Making.{Lent, Makes, made, no_list, no_room, ◌and-then◌, only, with_sorts, push_node}
use Rattle.unification.specs.Making.{append_node, intern_container, related_over, push_functions}
use Rattle.unification.specs.Inner.Making.{lent}
use Rattle.unification.specs.Resolve.{with_counts}
use Rattle.related_sorts.specs.declared.listing.Listed.{Listed}
use Rattle.related_sorts.specs.Listed.{numbers, places}
use Rattle.related_sorts.specs.Inner.Outcome.{found_op, row, no_room_in, listed, some_listed}
use Rattle.related_sorts.proofs.Numbers.{length_numbers, get_or_numbers, set_numbers, front_numbers}

-- one more node
module _ (ws ns : List ℕ) (k : Lengths) (kind part : ℕ) (args : List ℕ) where
  abbrev W : Lent
  W = lent ws ns k

  abbrev r : Row
  r = row kind part args

  pub no_row : max_nodes ≤ k.nodes → no_room 16 W ≡ push_node r W
  unfolding push_node
  no_row l = rw (le-ltb k.nodes max_nodes l)

  module _ (l : k.nodes < max_nodes) where
    pub no_entries : max_node_entries < k.arguments + length args → no_room 16 W ≡ push_node r W
    unfolding push_node
    no_entries h = rw (lt-ltb k.nodes max_nodes l, lt-leb (k.arguments + length args) max_node_entries h)

    pub node_made : k.arguments + length args ≤ max_node_entries → (start : ℕ) → start ≡ cond (eqb kind function_kind) k.arguments 0 → (ns₁ ns₂ : List ℕ)
        → ns₁ ≡ put_row ns k.nodes kind part start (length args) → ns₂ ≡ sets ns₁ (node_entries_at + k.arguments) args
        → made (1024 + k.nodes) (lent ws ns₂ (record {
          sorts = k.sorts;
          entries = k.entries;
          nodes = k.nodes + 1;
          arguments = k.arguments + length args;
          variables = k.variables;
        })) ≡ push_node r W
    unfolding push_node append_node
    node_made h start es ns₁ ns₂ e₁ e₂ =
        rw (lt-ltb k.nodes max_nodes l, le-leb (k.arguments + length args) max_node_entries h)
        (ap
        (λ ms. made (1024 + k.nodes) (lent ws ms (record {
          sorts = k.sorts;
          entries = k.entries;
          nodes = k.nodes + 1;
          arguments = k.arguments + length args;
          variables = k.variables;
        })))
        (e₂ ∙ ap (λ (xs : List ℕ). sets xs (node_entries_at + k.arguments) args) (e₁ ∙ ap (λ (s : ℕ). put_row ns k.nodes kind part s (length args)) es)))

-- an answer that is an error
pub same_err : {A : Type 0} (r : Result A Full) (x : Full) → IsErr r × IsErrAnd r (λ e. e ≡ x) → r ≡ Err x
same_err (Ok y) x i = absurd (true_not_false false i.0 refl)
same_err {A} (Err y) x i = ap {B = Result A Full} (λ z. Err z) i.1

-- what is known of an answer, by what the answer was
pub some_as : (W : Lent) (a b : Result Listed Full) {O : Makes (List ℕ)} → a ≡ b → some_listed a W ≡ O → some_listed b W ≡ O
some_as W a b {O} e = subst (λ (y : Result Listed Full). some_listed y W ≡ O) e

pub listed_as : (W : Lent) (a b : Result (Found Listed) Full) {O : Makes (List ℕ)} → a ≡ b → listed a W ≡ O → listed b W ≡ O
listed_as W a b {O} e = subst (λ (y : Result (Found Listed) Full). listed y W ≡ O) e

-- an answer handed on
pub some_err : (W : Lent) (r : Result Listed Full) (x : Full) {O : Makes (List ℕ)} → r ≡ Err x → no_room (no_room_in x) W ≡ O → some_listed r W ≡ O
some_err W r x e = some_as W (Err x) r (sym e)

pub listed_err : (W : Lent) (r : Result (Found Listed) Full) (x : Full) {O : Makes (List ℕ)} → r ≡ Err x → no_room (no_room_in x) W ≡ O → listed r W ≡ O
listed_err W r x e = listed_as W (Err x) r (sym e)

pub interned_as : (ws : List ℕ) (K : Counts) (a b : Result SortId NoRoomLeft) {T : Stored} → a ≡ b → interned_at ws K a ≡ T → interned_at ws K b ≡ T
interned_as ws K a b {T} e = subst (λ (r : Result SortId NoRoomLeft). interned_at ws K r ≡ T) e

-- the words that the interner held are the arena's
pub sorts_moved : (us vs ns : List ℕ) (k : Lengths) (ps : List ℕ) {O : Makes (List ℕ)} → vs ≡ us → made ps (lent us ns k) ≡ O → made ps (lent vs ns k) ≡ O
sorts_moved us vs ns k ps {O} e = subst (λ (ws : List ℕ). made ps (lent ws ns k) ≡ O) (sym e)

pub room_moved : (us vs ns : List ℕ) (k : Lengths) {O : Makes (List ℕ)} → vs ≡ us → no_room 15 (lent us ns k) ≡ O → no_room 15 (lent vs ns k) ≡ O
room_moved us vs ns k {O} e = subst (λ (ws : List ℕ). no_room 15 (lent ws ns k) ≡ O) (sym e)

-- one making after another, and then a third
pub then_then : {A B C : Type 0} (O : Makes A) (f : A → Lent → Makes B) (g : B → Lent → Makes C)
    → ((O and-then f) and-then g) ≡ (O and-then (λ a W. f a W and-then g))
then_then (made a W) f g = refl
then_then (no_list W) f g = refl
then_then (no_room c W) f g = refl

-- Functions over ranges, one after another: before the i-th those over the ranges before it are made, and W is left.
abbrev before : List ℕ → List ℕ → Lent → Makes (List ℕ)
before done ps W = made (done ++ ps) W

pub record Over (xs : List ℕ) (rs : Listed) (W₀ : Lent) (ids : List InferSortId) (W : Lent) (i : ℕ) : Type 0 where
  pub within : i ≤ rs.count
  pub long : length ids ≡ rs.count
  pub unread : (j : ℕ) → i ≤ j → j < rs.count → get_or ids j (record { 0 = 0 }) ≡ get_or rs.ids j (record { 0 = 0 })
  pub same : push_functions xs (places rs) W₀ ≡ (push_functions xs (drop i (places rs)) W and-then before (take i (numbers ids)))

module _ (xs : List ℕ) (rs : Listed) (long : length rs.ids ≡ 3) (W₀ : Lent) where
  module _ (ids : List InferSortId) (W : Lent) (i : ℕ) (g : Over xs rs W₀ ids W i) where
    many : length (places rs) ≡ rs.count
    many = length-take-le rs.count (numbers rs.ids) (omega (arith, rs.few, length_numbers rs.ids, long))

    -- what was stored stands before what is left of the array
    all_stored : rs.count ≤ i → (qs : List InferSortId) → take i (numbers ids) ≡ take rs.count (numbers (ids ++ qs))
    all_stored h qs =
        ap (λ (j : ℕ). take j (numbers ids)) (let z : i ≡ length (numbers ids) = omega (arith, h, g.within, g.long, length_numbers ids) in z)
        ∙ (take-length (numbers ids) ∙ (sym (front_numbers ids qs ids refl) ∙ ap (λ (j : ℕ). take j (numbers (ids ++ qs))) g.long))

    pub over_ends : rs.count ≤ i → (qs : List InferSortId) → made (take rs.count (numbers (ids ++ qs))) W ≡ push_functions xs (places rs) W₀
    unfolding push_functions
    over_ends h qs =
        let none : drop i (places rs) ≡ [] = drop_of_length-le (places rs) (omega (arith, many, h)) in
        sym (g.same ∙ ap (λ (ys : List ℕ). push_functions xs ys W and-then before (take i (numbers ids))) none
        ∙ ap (λ (ys : List ℕ). made ys W) (append-nil (take i (numbers ids)) ∙ all_stored h qs))

    module _ (h : i < rs.count) (p : Result InferSortId Full) (W₁ : Lent) (range : ℕ) (read : range ≡ (get_or ids i (record { 0 = 0 })).0)
        (e : node_of p W₁ ≡ push_node (row function_kind range xs) W) where
      abbrev rest : ℕ → Lent → Makes (List ℕ)
      rest q V = push_functions xs (drop (suc i) (places rs)) V and-then (λ ps U. made (q ∷ ps) U)

      range_is : range ≡ get_or (places rs) i 0
      range_is = read ∙ ap (λ (p : InferSortId). p.0) (g.unread i (omega arith) h) ∙ (get_or_numbers rs.ids i ∙ sym (get_or-take rs.count (numbers rs.ids) i 0 h))

      step : push_functions xs (places rs) W₀ ≡ (node_of p W₁ and-then (λ q V. rest q V and-then before (take i (numbers ids))))
      unfolding push_functions
      step =
          g.same
          ∙ (ap (λ (ys : List ℕ). push_functions xs ys W and-then before (take i (numbers ids))) (drop-cons (places rs) i 0 (omega (arith, many, h)))
          ∙ (ap (λ (y : ℕ). (push_node (row function_kind y xs) W and-then rest) and-then before (take i (numbers ids))) (sym range_is)
          ∙ (ap (λ O. (O and-then rest) and-then before (take i (numbers ids))) (sym e)
          ∙ then_then (node_of p W₁) rest (before (take i (numbers ids))))))

      pub over_full : (x : Full) → p ≡ Err x → no_room (no_room_in x) W₁ ≡ push_functions xs (places rs) W₀
      over_full x z = sym (step ∙ ap (λ y. node_of y W₁ and-then (λ q V. rest q V and-then before (take i (numbers ids)))) z)

      one_more : (q : ℕ) (ps : List ℕ) → take i (numbers ids) ++ (q ∷ ps) ≡ take (i + 1) (set (numbers ids) i q) ++ ps
      one_more q ps =
          sym (append_assoc (take i (numbers ids)) (q ∷ []) ps)
          ∙ ap (λ (ys : List ℕ). ys ++ ps)
          (sym (ap (λ (j : ℕ). take j (set (numbers ids) i q)) (add-one i) ∙ take-suc-set (numbers ids) i q (omega (arith, length_numbers ids, g.long, h, rs.few))))

      after_one : (q : ℕ) (O : Makes (List ℕ)) → ((O and-then (λ ps U. made (q ∷ ps) U)) and-then before (take i (numbers ids)))
          ≡ (O and-then before (take (i + 1) (set (numbers ids) i q)))
      after_one q (made ps U) = ap (λ (ys : List ℕ). made ys U) (one_more q ps)
      after_one q (no_list U) = refl
      after_one q (no_room c U) = refl

      pub over_goes_on : (q : InferSortId) → p ≡ Ok q → Over xs rs W₀ (set ids i q) W₁ (i + 1)
      over_goes_on q z =
          record {
            within = omega (arith, h);
            long = length-set ids i q ∙ g.long;
            unread = λ j l k. get_or-set_other ids i j q (record { 0 = 0 }) (λ z. omega (arith, z, l)) ∙ g.unread j (omega (arith, l)) k;
            same =
                step ∙ (ap (λ y. node_of y W₁ and-then (λ q V. rest q V and-then before (take i (numbers ids)))) z
                ∙ (after_one q.0 (push_functions xs (drop (suc i) (places rs)) W₁)
                ∙ (ap (λ (j : ℕ). push_functions xs (drop j (places rs)) W₁ and-then before (take (i + 1) (set (numbers ids) i q.0))) (sym (add-one i))
                ∙ ap (λ (ys : List ℕ). push_functions xs (drop (i + 1) (places rs)) W₁ and-then before (take (i + 1) ys)) (sym (set_numbers ids i q)))));
          }

-- interning that found no room has changed nothing
module _ (ws : List ℕ) (n e : ℕ) (k : Checked ws n e) (t : Tree) (ws₁ : List ℕ) where
  full_by : (a b : Bool) → stored_at ws₁ JoinedFull ≡ stored ws n e (cond a (made-sort t (sorts_of ws n e))
      (cond b (made-sort t (more ws n e t)) (full (sorts_of ws n e)))) → ws₁ ≡ ws
  unfolding stored
  full_by true b x = absurd (let y = ap (λ (r : Stored). r.answer) x in let z : ◌≡◌ {A = ℕ} 0 1 = cc in omega arith)
  full_by false true x = absurd (let y = ap (λ (r : Stored). r.answer) x in let z : ◌≡◌ {A = ℕ} 0 1 = cc in omega arith)
  full_by false false x = ap (λ (r : Stored). r.words) x ∙ after_none ws n e k

  pub full_unchanged : stored_at ws₁ JoinedFull ≡ intern_at ws n e t → ws₁ ≡ ws
  unfolding intern_at intern
  full_unchanged x = full_by (member (trees ws n) t) (fits t (sorts_of ws n e)) x

-- containers
module _ (up : Bool) (o : ComplexSort) (b : Found ComplexSort) (e : b ≡ found_op (related_container up o)) where
  op_is : (x : Option ComplexSort) (q : ComplexSort) → found_op x ≡ Some q → x ≡ some q
  op_is none q z = no_confusion (cc)
  op_is (some p) q z = cc

  module _ (q : ComplexSort) (z : b ≡ Some q) (s : ℕ) (ws ns : List ℕ) (k : Lengths) where
    is_some : related_container up o ≡ some q
    is_some = op_is (related_container up o) q (sym e ∙ z)

    -- of a sort
    module _ (c : Counts) (ec : c ≡ record { sorts = k.sorts; entries = k.entries }) (ws₁ : List ℕ) (j : Joined)
        (ej : stored_at ws₁ j ≡ intern_at ws c.sorts c.entries (container q (look (trees ws c.sorts) s))) where
      interned : intern_at ws k.sorts k.entries (container q (look (trees ws k.sorts) s)) ≡ stored_at ws₁ j
      interned = sym (ej ∙ ap (λ (y : Counts). intern_at ws y.sorts y.entries (container q (look (trees ws y.sorts) s))) ec)

      sort_of : related_over (related_container up o) true s (lent ws ns k) ≡ (with_sorts (lent ws ns k) (stored_at ws₁ j) j and-then only)
      unfolding intern_container
      sort_of = ap (λ x. related_over x true s (lent ws ns k)) is_some ∙ ap (λ (r : Stored). with_sorts (lent ws ns k) r r.answer and-then only) interned

      pub container_interned : (id : SortId) (K : Counts) → j ≡ JoinedAt id K → (k' : Lengths) → k' ≡ with_counts k K
          → (l : Listed) → places l ≡ id.0 ∷ [] → made (places l) (lent ws₁ ns k') ≡ related_over (related_container up o) true s (lent ws ns k)
      container_interned id K x k' ek l y =
          ap (λ (ps : List ℕ). made ps (lent ws₁ ns k')) y
          ∙ (ap (λ (m : Lengths). made (id.0 ∷ []) (lent ws₁ ns m)) ek ∙ sym (sort_of ∙ ap (λ w. with_sorts (lent ws ns k) (stored_at ws₁ j) w and-then only) x))

      pub no_room_for_sort : Checked ws k.sorts k.entries → j ≡ JoinedFull → no_room 15 (lent ws₁ ns k) ≡ related_over (related_container up o) true s (lent ws ns k)
      no_room_for_sort ck x =
          ap (λ (ys : List ℕ). no_room 15 (lent ys ns k)) (full_unchanged ws k.sorts k.entries ck
          (container q (look (trees ws k.sorts) s)) ws₁ (ap (stored_at ws₁) (sym x) ∙ sym interned))
          ∙ sym (sort_of ∙ ap (λ w. with_sorts (lent ws ns k) (stored_at ws₁ j) w and-then only) x)
