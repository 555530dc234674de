-- A sort by structure: the tree that a number of the sort list stands for. Document 01 compares sorts so ("sorts are
-- compared by structure").
use Rattle.std.specs.Prelude.{Bool, true, false, ◌&&◌, ℕ, ◌+◌, ◌*◌, eqb}
use Rattle.resolved_sort.specs.declared.Sort.{Sort}
use Rattle.resolved_sort.specs.declared.ComplexSort.{ComplexSort}

-- A sort without parts.
pub data Flat : Type 0 where
  unit : Flat
  primitive : Sort → Flat
  def : ℕ → Flat
  typevar : ℕ → Flat

mutual
  pub data Tree : Type 0 where
    flat : Flat → Tree
    container : ComplexSort → Tree → Tree
    function : Trees → Tree → Tree

  -- The arguments of a function.
  pub data Trees : Type 0 where
    no_args : Trees
    arg : Tree → Trees → Trees

unfoldable pub arity : Trees → ℕ
arity no_args = 0
arity (arg t ts) = arity ts + 1

-- Heads that are ordered among themselves form a family, and stand in it at levels: the number sorts by generality,
-- a container's finite form below its infinite one. Each other head is a family of its own.
unfoldable pub family : Flat → ℕ
family unit = 0
family (primitive Sort.Bool) = 1
family (primitive Sort.Pos) = 2
family (primitive Sort.Nat) = 2
family (primitive Sort.Int) = 2
family (primitive Sort.Real) = 2
family (def n) = 2 * n + 3
family (typevar n) = 2 * n + 4

unfoldable pub level : Flat → ℕ
level unit = 0
level (primitive Sort.Bool) = 0
level (primitive Sort.Pos) = 0
level (primitive Sort.Nat) = 1
level (primitive Sort.Int) = 2
level (primitive Sort.Real) = 3
level (def n) = 0
level (typevar n) = 0

unfoldable pub family_op : ComplexSort → ℕ
family_op ComplexSort.List = 0
family_op ComplexSort.Set = 1
family_op ComplexSort.FSet = 1
family_op ComplexSort.Bag = 2
family_op ComplexSort.FBag = 2

unfoldable pub level_op : ComplexSort → ℕ
level_op ComplexSort.List = 0
level_op ComplexSort.Set = 1
level_op ComplexSort.FSet = 0
level_op ComplexSort.Bag = 1
level_op ComplexSort.FBag = 0

abbrev pub same_flat : Flat → Flat → Bool
same_flat a b = eqb (family a) (family b) && eqb (level a) (level b)

abbrev pub same_op_of : ComplexSort → ComplexSort → Bool
same_op_of o p = eqb (family_op o) (family_op p) && eqb (level_op o) (level_op p)

-- Equal by structure.
unfoldable mutual
  pub same : Tree → Tree → Bool
  same (flat a) (flat b) = same_flat a b
  same (flat a) (container p t) = false
  same (flat a) (function ts u) = false
  same (container o s) (flat b) = false
  same (container o s) (container p t) = same_op_of o p && same s t
  same (container o s) (function ts u) = false
  same (function ss r) (flat b) = false
  same (function ss r) (container p t) = false
  same (function ss r) (function ts u) = sames ss ts && same r u

  pub sames : Trees → Trees → Bool
  sames no_args no_args = true
  sames no_args (arg t ts) = false
  sames (arg s ss) no_args = false
  sames (arg s ss) (arg t ts) = same s t && sames ss ts
