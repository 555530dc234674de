-- A local that holds an array as one value, as its elements side by side, which `Denote/Lend.antt` lends as a slice,
-- and back. It says nothing of the crate, and can be copied as it stands.
--     array-to-cells   the local's cell, holding v, and what the array owns at v  ⊢  the elements in memory, n of them
--     cells-to-array   and back, at some v
-- The elements' type has one MIR type (`Single`). Assumes `Logic`.
use Prim.Native.Nat.{ℕ, zero}
use mathlib.Core.Path.{refl}
use mathlib.Core.List.{List, [], ◌∷◌}
use lib.ListN.{length}
use seplogic.Ra.Ura.{Ura}
use base.Fraction.{full_share}
use mir.Syntax.{ty_array}
use mir.Val.{Val}
use base.Logic.{ent, sep, ex}
use base.Fml.{fat}
use types.Logic.{Logic, sem}
use types.Kit.{‵, ◌$◌, ◌∵◌, !, qed, by, use1, use2, fsplit, fjoin, feq_l, feq_i, done}
use types.SemTy.{cells, Arr}
use types.Share.{arr_parts}
use denote.RattleType.{RattleType}
use denote.Memory.{mem, lone, part_at, shares}
use denote.Index.{row, whole_in, whole_out}
use denote.Array.{Array}
use denote.ArrayMemory.{Single, Array-apart, Array-whole}
use borrow.Table.OneValue.{part_in, part_out}

module _ {M : Type 1} {𝓤 : Ura M} (𝓛 : Logic 𝓤) (R : RattleType) (n b : ℕ) (xs : List R.Denot) where
  open 𝓛 use {H}

  pub array_to_cells : Single R.mir → (v : Val)
      → ent 𝓤 (sep 𝓤 (H.at full_share (ty_array (lone R.mir) n) b zero v) (sem 𝓛 ((Array R n).own_val xs (v ∷ []))))
      (sem 𝓛 ((Arr (mem R) n).own_at xs b zero))
  array_to_cells one v =
      qed 𝓛 (‵ (fat full_share (ty_array (lone R.mir) n) b zero v) ∷ ‵ ((Array R n).own_val xs (v ∷ [])) ∷ []) ∵
      use2 𝓛 (‵ (part_at (Array R n) full_share xs b zero)) (part_in 𝓛 (Array R n) refl full_share xs b zero v) $
      use1 𝓛 (‵ ((arr_parts (shares R) n).part full_share xs b zero)) (Array-apart 𝓛 R full_share one n xs b
      zero) $
      fsplit ! $ feq_l ! (λ e. use1 𝓛 (‵ (cells (mem R) xs b zero)) (whole_in 𝓛 R xs b zero) $ feq_i ! ℕ (length xs) n e $ done !)

  pub cells_to_array : ent 𝓤 (sem 𝓛 ((Arr (mem R) n).own_at xs b zero))
      (ex 𝓤 (λ (v : Val). sep 𝓤 (H.at full_share (ty_array (lone R.mir) n) b zero v)
      (sem 𝓛 ((Array R n).own_val xs (v ∷ [])))))
  cells_to_array =
      qed 𝓛 (‵ ((Arr (mem R) n).own_at xs b zero) ∷ []) ∵ fsplit ! $ feq_l ! (λ e. use1 𝓛 (‵ (row R full_share xs b zero))
      (whole_out 𝓛 R xs b zero) $ feq_i ! ℕ (length xs) n e $ fjoin ! $
      use1 𝓛 (‵ (part_at (Array R n) full_share xs b zero)) (Array-whole 𝓛 R full_share n xs b zero) $ by !
      (part_out 𝓛 (Array R n) refl full_share xs b zero))
