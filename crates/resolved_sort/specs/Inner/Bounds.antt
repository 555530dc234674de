-- Join and meet of containers and of functions of a list, part by part, as the laws speak of them: beside
-- `specs/Bounds.antt`.
use Rattle.std.specs.Prelude.{Bool, not, List, ◌≡◌, ℕ, ◌+◌, ◌-◌, replicate}
use Rattle.std.proofs.lemmas.List.Edits.{sets}
use Rattle.resolved_sort.specs.declared.SortId.{SortId}
use Rattle.resolved_sort.specs.declared.Counts.{Counts}
use Rattle.resolved_sort.specs.declared.ComplexSort.{ComplexSort}
use Rattle.resolved_sort.specs.Tree.{container, function, Trees}
use Rattle.resolved_sort.specs.Order.{bound_op}
use Rattle.resolved_sort.specs.Interning.{look, Outcome, made, nothing, full, ◌then◌, where_some, intern}
use Rattle.resolved_sort.specs.Interning.{make, makes}
use Rattle.resolved_sort.specs.Storage.{max_arguments, function_kind, kind_at, part_at, start_at, count_at}
use Rattle.resolved_sort.specs.Storage.{entries_of, look_all, numbers, trees, sorts_of}
use Rattle.resolved_sort.specs.Inner.Storage.{sort_numbers}
use Rattle.resolved_sort.specs.Entries.{counts_of, after, Stored, stored}
use Rattle.resolved_sort.specs.Bounds.{Asked}

-- the join or meet of two containers of a list, by operators and parts
unfoldable pub container_at : Bool → List ℕ → ℕ → ℕ → ComplexSort → ℕ → ComplexSort → ℕ → Stored
container_at up ws n e o s p t =
    stored ws n e
    (where_some (bound_op up o p) (sorts_of ws n e)
    (λ q. make up (look (trees ws n) s) (look (trees ws n) t) (sorts_of ws n e)
    then (λ v S. intern (container q v) S)))

-- a and b are functions of a checked list with as many arguments
pub record TwoFunctions (ws : List ℕ) (n e a b : ℕ) : Type 0 where
  pub asked : Asked ws n e a b
  pub lhs_function : kind_at ws a ≡ function_kind
  pub rhs_function : kind_at ws b ≡ function_kind
  pub as_many : count_at ws a ≡ count_at ws b

-- How the joins or meets of two domains ended: all with these counts, one missing, or no room.
pub data Found : Type 0 where
  All : Counts → Found
  Nothing : Counts → Found
  Full : Found

-- The joins or meets of two domains, where there are all of them.
pub record Domain : Type 0 where
  pub ids : List SortId
  pub found : Found

pub record StoredDomain : Type 0 where
  pub words : List ℕ
  pub ids : List ℕ
  pub found : Found

abbrev pub domain_left : List ℕ → List ℕ → Found → StoredDomain
domain_left ws ids found = record { words = ws; ids = ids; found = found }

abbrev pub stored_domain : List ℕ → Domain → StoredDomain
stored_domain ws d = domain_left ws (sort_numbers d.ids) d.found

-- the sorts of the arguments from the i-th on
abbrev pub arguments_from : List ℕ → ℕ → ℕ → ℕ → Trees
arguments_from ws n a i = look_all (trees ws n) (entries_of ws (start_at ws a + i) (count_at ws a - i))

-- the numbers of the answers stored from the i-th of the ids on; no ids where an answer is missing
unfoldable pub domain_of : List ℕ → ℕ → ℕ → ℕ → List ℕ → Outcome Trees → StoredDomain
domain_of ws n e i ids (made vs S) =
    domain_left (after ws n e S) (sets ids i (numbers S.trees vs)) (All (counts_of S))
domain_of ws n e i ids (nothing S) = domain_left (after ws n e S) (replicate max_arguments 0) (Nothing (counts_of S))
domain_of ws n e i ids (full S) = domain_left (after ws n e S) (replicate max_arguments 0) Full

-- the joins or meets of the arguments of a and b from the i-th on
unfoldable pub bound_domain : Bool → List ℕ → ℕ → ℕ → ℕ → ℕ → ℕ → List ℕ → StoredDomain
bound_domain up ws n e a b i ids =
    domain_of ws n e i ids (makes up (arguments_from ws n a i) (arguments_from ws n b i) (sorts_of ws n e))

-- the join or meet of two functions of a list: the arguments the other way, then the range, then the whole
unfoldable pub function_at : Bool → List ℕ → ℕ → ℕ → ℕ → ℕ → Stored
function_at up ws n e a b =
    stored ws n e
    (makes (not up) (arguments_from ws n a 0) (arguments_from ws n b 0) (sorts_of ws n e)
    then (λ vs S. make up (look (trees ws n) (part_at ws a)) (look (trees ws n) (part_at ws b)) S
    then (λ v S. intern (function vs v) S)))
