-- Lists of sorts that grow: what stays as it was, and what a new sort asks for. The laws on interning and making
-- speak of these.
use Rattle.std.specs.Prelude.{◌≡◌, Bool, true, false, ◌&&◌, List, [], ◌∷◌, ◌++◌, ℕ, ◌+◌, ◌*◌, ◌<◌, ◌≤◌, ◌-◌, length, get_or, drop}
use Rattle.resolved_sort.specs.Tree.{Tree, flat, container, function, Trees, no_args, arg, arity}
use Rattle.resolved_sort.specs.Interning.{member, need, Sorts, Outcome, made, nothing, full}
use Rattle.resolved_sort.specs.Storage.{kind_at, part_at, start_at, count_at, entry_at, max_sorts, max_entries, trees}
use Rattle.resolved_sort.specs.Checks.{rows_fine, no_two_equal}
use Rattle.resolved_sort.specs.Rows.{Checked}
use Rattle.resolved_sort.specs.Entries.{after}
use Rattle.std.proofs.Math.Option.{Option, none, some}

-- the parts of a sort are in the list
unfoldable pub members : List Tree → Trees → Bool
members T no_args = true
members T (arg t ts) = member T t && members T ts

unfoldable pub parts_in : List Tree → Tree → Bool
parts_in T (flat a) = true
parts_in T (container o s) = member T s
parts_in T (function ts u) = members T ts && member T u

-- Storage that reads the same below n rows and e entries.
pub record Agrees (ws us : List ℕ) (n e : ℕ) : Type 0 where
  pub words : (i : ℕ) → i < 4 * n → get_or us i 0 ≡ get_or ws i 0
  pub kinds : (i : ℕ) → i < n → kind_at us i ≡ kind_at ws i
  pub parts : (i : ℕ) → i < n → part_at us i ≡ part_at ws i
  pub starts : (i : ℕ) → i < n → start_at us i ≡ start_at ws i
  pub counts : (i : ℕ) → i < n → count_at us i ≡ count_at ws i
  pub entries : (j : ℕ) → j < e → entry_at us j ≡ entry_at ws j

-- A new sort, with its parts in the list and at most 16 arguments, appended to a checked list with room for it.
pub record Fresh (ws : List ℕ) (n e : ℕ) (t : Tree) : Type 0 where
  pub checked : Checked ws n e
  pub absent : member (trees ws n) t ≡ false
  pub parts : parts_in (trees ws n) t ≡ true
  pub short : need t ≤ 16
  pub room : n < max_sorts
  pub space : e + need t ≤ max_entries

-- the entries that sorts take
unfoldable pub needs : List Tree → ℕ
needs [] = 0
needs (t ∷ ts) = need t + needs ts

pub record Grown (ws : List ℕ) (n e : ℕ) (S : Sorts) : Type 0 where
  pub prefix : S.trees ≡ trees ws n ++ drop n S.trees
  pub reads : trees (after ws n e S) (length S.trees) ≡ S.trees
  pub rows : S.rows ≡ max_sorts - length S.trees
  pub entries : S.entries ≤ max_entries
  pub used : max_entries - S.entries ≡ e + needs (drop n S.trees)
  pub checked : Checked (after ws n e S) (length S.trees) (max_entries - S.entries)

-- the second list begins with the first
abbrev pub SortsExtend : Sorts → Sorts → Type 0
SortsExtend S S' = (U : List Tree) × (S'.trees ≡ S.trees ++ U)

-- all parts of a sort, and the sort, are in the list, and no function has more than 16 arguments
unfoldable mutual
  pub Whole : List Tree → Tree → Type 0
  Whole T (flat a) = member T (flat a) ≡ true
  Whole T (container o s) = (member T (container o s) ≡ true) × Whole T s
  Whole T (function ss r) = (member T (function ss r) ≡ true) × Wholes T ss × Whole T r × (arity ss ≤ 16)

  pub Wholes : List Tree → Trees → Type 0
  Wholes T no_args = Unit {0}
  Wholes T (arg t ts) = Whole T t × Wholes T ts

abbrev pub InTree : Sorts → Tree → Type 0
InTree S t = member S.trees t ≡ true

-- an outcome whose list has grown from the storage and extends another, with its answer in it
unfoldable pub SortsKept : (ws : List ℕ) (n e : ℕ) {A : Type 0} → (Sorts → A → Type 0) → Sorts → Outcome A → Type 0
SortsKept ws n e In S₀ (made a S) = Grown ws n e S × SortsExtend S₀ S × In S a
SortsKept ws n e In S₀ (nothing S) = Grown ws n e S × SortsExtend S₀ S
SortsKept ws n e In S₀ (full S) = Grown ws n e S × SortsExtend S₀ S

-- what checks 3 and 4 have shown
pub record ListFine (ws : List ℕ) (n e : ℕ) : Type 0 where
  pub fine : rows_fine ws n e ≡ true
  pub differ : no_two_equal ws n ≡ true

-- an outcome with the answer x, unless room ended
unfoldable pub Answers : {A : Type 0} → Option A → Outcome A → Type 0
Answers x (made a S) = x ≡ some a
Answers x (nothing S) = x ≡ none
Answers x (full S) = Unit {0}
