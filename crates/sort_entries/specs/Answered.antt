-- What the entries join (up true) and meet (up false) answer and leave, whatever they are given.
use Rattle.std.specs.Prelude as Rust
use Rattle.resolved_sort.specs.declared.Refusal.{Refusal}
use Rattle.resolved_sort.specs.declared.Refusal.TheVariants.{SortsFull}
use Rattle.std.specs.Prelude.{◌≡◌, ◌⊎◌, Bool, List, ℕ, ◌<◌, Ok, Err}
use Rattle.std.proofs.Math.Option.{Option, none, some}
use Rattle.resolved_sort.specs.declared.Counts.{Counts}
use Rattle.resolved_sort.specs.declared.SortId.{SortId}
use Rattle.resolved_sort.specs.Tree.{Tree}
use Rattle.resolved_sort.specs.Order.{bound}
use Rattle.resolved_sort.specs.Interning.{Sorts, Outcome, made, nothing, full, make}
use Rattle.resolved_sort.specs.Storage.{sorts_of}
use Rattle.words.specs.Words.{cleared}
use Rattle.resolved_sort.specs.Checks.{first_failing}
use Rattle.resolved_sort.specs.Entries.{tree_at}
use Rattle.resolved_sort.specs.JoinMeet.{bound_checks, Bounded}
use Rattle.entry_answers.specs.SortsLeft.{SortsGrew, LeftBy, SortsPutBack, RanOut}

module _ (up : Bool) (ws ix : List ℕ) (n e a b : ℕ) where
  -- the join or meet, as trees, of what the two numbers stand for
  abbrev pub bound_asked : Option Tree
  bound_asked = bound up (tree_at ws n a) (tree_at ws n b)

  -- what making it in the given list comes to
  abbrev pub made_asked : Outcome Tree
  made_asked = make up (tree_at ws n a) (tree_at ws n b) (sorts_of ws n e)

  -- A refusal by a check: the first that fails, and the words and the index as given.
  pub record BoundRefused (vs jx : List ℕ) (c : Refusal) : Type 0 where
    pub first : first_failing (bound_checks ws ix n e a b) ≡ Err c
    pub given : vs ≡ ws
    pub given_index : jx ≡ ix

  -- A sort: in the words left its number stands for the join or meet. The index is "zero after each call that passes its
  -- checks", here and in the next two.
  pub record BoundFound (vs jx : List ℕ) (s : SortId) (k : Counts) : Type 0 where
    pub passed : first_failing (bound_checks ws ix n e a b) ≡ Ok tt
    pub listed : s.0 < k.sorts
    pub is : bound_asked ≡ some (tree_at vs k.sorts s.0)
    pub grew : SortsGrew ws n e vs k
    pub sorts : Sorts
    pub made_so : made_asked ≡ made (tree_at vs k.sorts s.0) sorts
    pub left : LeftBy ws n e vs k sorts
    pub zero_index : jx ≡ cleared ix

  -- None: there is no join or meet. "Join and meet keep the sorts the Rust's would make, also where the answer is
  -- none."
  pub record BoundNone (vs jx : List ℕ) (k : Counts) : Type 0 where
    pub passed : first_failing (bound_checks ws ix n e a b) ≡ Ok tt
    pub is : bound_asked ≡ none
    pub grew : SortsGrew ws n e vs k
    pub sorts : Sorts
    pub made_so : made_asked ≡ nothing sorts
    pub left : LeftBy ws n e vs k sorts
    pub zero_index : jx ≡ cleared ix

  -- No room: some new sort did not fit, and what was made is given back.
  pub record BoundNoRoom (vs jx : List ℕ) : Type 0 where
    pub passed : first_failing (bound_checks ws ix n e a b) ≡ Ok tt
    pub ran_out : RanOut ws n e
    pub made_so : made_asked ≡ full ran_out.so_far
    pub put_back : SortsPutBack ws n e vs
    pub zero_index : jx ≡ cleared ix

  abbrev pub BoundSays : List ℕ → List ℕ → Bounded → Type 0
  BoundSays vs jx (Err r) = (BoundRefused vs jx r × (r ≡ SortsFull → ⊥)) ⊎ (BoundNoRoom vs jx × (r ≡ SortsFull))
  BoundSays vs jx (Ok (Rust.Some s, k)) = BoundFound vs jx s k
  BoundSays vs jx (Ok (Rust.None, k)) = BoundNone vs jx k
