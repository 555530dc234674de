-- What joining leaves of the list of sorts, and the loop over the sorts that are joined. Its invariant: to join what is left from the lists now is to
-- join all from the lists at entry. Assumes nothing.
use mathlib.Core.Path.{◌≡◌, refl, sym, ◌∙◌, ap, subst}
use mathlib.Core.Bool.{true}
use mathlib.Core.List.{List, [], ◌∷◌}
use Prim.Native.Nat.{ℕ, ◌+◌, ◌<◌, ◌≤◌}
use native.Mathlib.Omega.{arith}
use lib.ListN.{length, get_or, drop, drop_of_length-le}
use Rattle.resolved_sort.specs.declared.SortId.{SortId}
use Rattle.resolved_sort.specs.declared.Counts.{Counts}
use Rattle.resolved_sort.specs.Entries.{Joined}
use Rattle.resolved_sort.specs.Entries.{At, Nothing, Full}
use Rattle.resolved_sort.specs.Interning.{look, Outcome, make}
use Rattle.resolved_sort.specs.Storage.{trees, sorts_of}
use Rattle.resolved_sort.specs.Entries.{Stored}
use Rattle.resolved_sort.specs.Rows.{Checked, AllBelow, stored_at}
use Rattle.resolved_sort.specs.Bounds.{Asked, bound_at}
use Rattle.resolved_sort.specs.Tree.{Tree}
use Rattle.resolved_sort.proofs.Grown.{grown_none}
use Rattle.resolved_sort.proofs.Kept.{make_kept}
use Rattle.resolved_sort.proofs.Stored.{look_whole}
use Rattle.resolved_sort.proofs.Unchanged.{longer}
use Rattle.resolved_sort.proofs.Reached.{Reached, reached, reached_checked, reached_below, reached_sorts}
use Rattle.resolved_sort.proofs.RowTrees.{weaken_all}
use Rattle.unification.specs.declared.Lengths.{Lengths}
use Rattle.unification.specs.Making.{Lent, Makes, made, no_list, no_room, ◌and-then◌}
use Rattle.unification.specs.Inner.Making.{lent}
use Rattle.inference.specs.Search.{makes_sort, join_in, join_all}
use Rattle.std.specs.Prelude.{Option, Some, None, Result, Ok, Err}
use Rattle.resolved_sort.specs.declared.NoRoom.{NoRoom}
use Rattle.search_state.specs.Inner.Leaves.{made_of}
use Rattle.search_join.specs.Inner.Sources.{Resolved}
use Rattle.search_join.proofs.Lists.{below_at, one_left}

-- a sort of a list that passes its checks and has all that W has
abbrev pub LeavesSort : Lent → Makes ℕ → Type 0
LeavesSort W (made c W') = Checked W'.sorts W'.lengths.sorts W'.lengths.entries × (c < W'.lengths.sorts) × (W.lengths.sorts ≤ W'.lengths.sorts)
LeavesSort W (no_list W') = Unit {0}
LeavesSort W (no_room c W') = Unit {0}

abbrev AskedIn : Lent → ℕ → ℕ → Type 0
AskedIn W a b = Asked W.sorts W.lengths.sorts W.lengths.entries a b

module _ (W : Lent) (a b : ℕ) (q : AskedIn W a b) where
  abbrev ws : List ℕ
  ws = W.sorts

  abbrev n : ℕ
  n = W.lengths.sorts

  abbrev e : ℕ
  e = W.lengths.entries

  abbrev r : Stored
  r = bound_at true ws n e a b

  abbrev O : Outcome Tree
  O = make true (look (trees ws n) a) (look (trees ws n) b) (sorts_of ws n e)

  join_reaches : (c : SortId) (K : Counts) → r.answer ≡ At c K → Reached ws n e (sorts_of ws n e) O r.words c K
  unfolding bound_at
  join_reaches c K z =
      reached ws n e (sorts_of ws n e) O
      (make_kept ws n e true (look (trees ws n) a) (look (trees ws n) b) (sorts_of ws n e) (grown_none ws n e
      q.checked) (look_whole ws n e q.checked a q.lhs) (look_whole ws n e q.checked b q.rhs))
      r.words c K (ap (stored_at r.words) (sym z))

  join_leaves : LeavesSort W (join_in a b W)
  unfolding join_in
  join_leaves = go r.answer refl
    where
      go : (j : Joined) → r.answer ≡ j → LeavesSort W (makes_sort W r j)
      go (At c K) z =
          let x : Reached ws n e (sorts_of ws n e) O r.words c K = join_reaches c K z in (
            reached_checked ws n e (sorts_of ws n e) O r.words c K x,
            reached_below ws n e (sorts_of ws n e) O r.words c K x,
            omega (arith, longer ws n e q.checked x.sorts x.grown, reached_sorts ws n e (sorts_of ws n e) O r.words c K x),
          )
      go (Nothing K) z = tt
      go Full z = tt

leaves_then : (W : Lent) (O : Makes ℕ) (f : ℕ → Lent → Makes ℕ) → LeavesSort W O
    → ((c : ℕ) (U : Lent) → Checked U.sorts U.lengths.sorts U.lengths.entries → c < U.lengths.sorts
    → W.lengths.sorts ≤ U.lengths.sorts → LeavesSort U (f c U)) → LeavesSort W (O and-then f)
leaves_then W (made c U) f x g = on (f c U) (g c U x.0 x.1 x.2)
  where
    on : (Q : Makes ℕ) → LeavesSort U Q → LeavesSort W Q
    on (made d X) y = (y.0, y.1, omega (arith, x.2, y.2))
    on (no_list X) y = tt
    on (no_room d X) y = tt
leaves_then W (no_list U) f x g = tt
leaves_then W (no_room d U) f x g = tt

pub joins_leave : (bs : List ℕ) (W : Lent) (a : ℕ) → Checked W.sorts W.lengths.sorts W.lengths.entries
    → a < W.lengths.sorts → AllBelow W.lengths.sorts bs
    → LeavesSort W (join_all a bs W)
unfolding join_all AllBelow
joins_leave [] W a c x y = (c, x, omega arith)
joins_leave (b ∷ bs) W a c x y =
    leaves_then W (join_in a b W) (λ j U. join_all j bs U) (join_leaves W a b (record { checked = c; lhs = x; rhs = y.0 }))
    (λ j U d z l. joins_leave bs U j d z (weaken_all W.lengths.sorts U.lengths.sorts bs l y.1))

-- before the i-th of the rest; ₀ marks what was at entry
pub record Going (first : ℕ) (rest : List ℕ) (ws₀ : List ℕ) (k₀ : Lengths) (ws : List ℕ) (lub : ℕ) (k : Lengths) (i : ℕ) : Type 0 where
  pub resolved : Resolved ws k rest
  pub below : lub < k.sorts
  pub same : (ns : List ℕ) → join_all lub (drop i rest) (lent ws ns k) ≡ join_all first rest (lent ws₀ ns k₀)

pub start : (first : ℕ) (rest : List ℕ) (ws : List ℕ) (k : Lengths) → Resolved ws k (first ∷ rest) → Going first rest ws k ws first k 0
unfolding AllBelow
start first rest ws k x =
    record { resolved = record { checked = x.checked; below = x.below.1 }; below = x.below.0; same = λ ns. refl }

module _ (first : ℕ) (rest : List ℕ) (ws₀ : List ℕ) (k₀ : Lengths) (ws : List ℕ) (lub : ℕ) (k : Lengths) (i : ℕ) (G : Going first rest ws₀ k₀ ws lub k i) where
  module _ (h : i < length rest) (b : ℕ) (eb : b ≡ get_or rest i 0) where
    pub asked : Asked ws k.sorts k.entries lub b
    asked =
        record {
          checked = G.resolved.checked;
          lhs = G.below;
          rhs = subst (λ (x : ℕ). x < k.sorts) (sym eb) (below_at k.sorts rest G.resolved.below i h);
        }

    abbrev then : ℕ → Lent → Makes ℕ
    then j U = join_all j (drop (i + 1) rest) U

    next_joined : (ns : List ℕ) → join_in lub b (lent ws ns k) and-then then ≡ join_all first rest (lent ws₀ ns k₀)
    unfolding join_all
    next_joined ns =
        ap (λ x. join_in lub x (lent ws ns k) and-then then) eb ∙ (ap (λ xs. join_all lub xs (lent ws ns k)) (sym (one_left rest i h)) ∙ G.same ns)

    module _ (vs : List ℕ) (l : Lengths) (r : Result (Option SortId) NoRoom) (er : (ns : List ℕ) → made_of vs ns l r ≡ join_in lub b (lent ws ns k)) where
      by : (x : Result (Option SortId) NoRoom) → r ≡ x → (ns : List ℕ) → made_of vs ns l x and-then then ≡ join_all first rest (lent ws₀ ns k₀)
      by x z ns = ap (λ y. made_of vs ns l y and-then then) (sym z) ∙ (ap (λ O. O and-then then) (er ns) ∙ next_joined ns)

      pub stops : r ≡ Ok None → (ns : List ℕ) → made_of vs ns l (Ok None) ≡ join_all first rest (lent ws₀ ns k₀)
      stops z = by (Ok None) z

      pub ends : (x : NoRoom) → r ≡ Err x → (ns : List ℕ) → made_of vs ns l (Err x) ≡ join_all first rest (lent ws₀ ns k₀)
      ends x z = by (Err x) z

      pub next : (c : SortId) → r ≡ Ok (Some c) → Going first rest ws₀ k₀ vs c.0 l (i + 1)
      next c z =
          let x : LeavesSort (lent ws [] k) (made c.0 (lent vs [] l)) = subst (LeavesSort (lent ws [] k))
          (sym (er []) ∙ ap (made_of vs [] l) z) (join_leaves (lent ws [] k) lub b asked) in
          record {
            resolved = record { checked = x.0; below = weaken_all k.sorts l.sorts rest x.2 G.resolved.below };
            below = x.1;
            same = by (Ok (Some c)) z;
          }

  -- no sort is left
  pub all_joined : length rest ≤ i → (l : SortId) → l.0 ≡ lub → (ns : List ℕ) → made_of ws ns k (Ok (Some l)) ≡ join_all first rest (lent ws₀ ns k₀)
  unfolding join_all
  all_joined h l e ns =
      ap (λ (x : ℕ). made x (lent ws ns k)) e
      ∙ (ap (λ xs. join_all lub xs (lent ws ns k)) (sym (drop_of_length-le rest h)) ∙ G.same ns)
