-- Steps of a walk by hand over a function with many locals. They say nothing of the crate, and can be copied as they stand.
--     env_at            a function's locals, at the blocks that they are allocated in
--     Cell, cells      what each local holds when the function returns, nothing or a value, and the locals so in memory, the first one first
--     releases         the locals, whatever they hold, are released
--     ends-unit        a function whose result is `()` gives it and ends: its locals are released. `others` are the locals after the result
--     big-lit          a constant whose bound a proof shows
--     is-unit          a call's result that is `()` can be stored.        at   a slice's machine value
-- And of many entries of a context at once.
--     nest, fnest      entries as one, and formulas as one, nested to the right, with nothing at the end: what a signature's tokens and parameters are
--     opened, closed   one such entry becomes the entries, and back.        fopened, fclosed   the same of formulas
-- Assumes `Logic`.
use Prim.Native.Nat.{ℕ, zero}
use mathlib.Core.List.{List, [], ◌∷◌, ◌++◌}
use lib.Dec.{T}
use lib.ListN.{length}
use seplogic.Ra.Ura.{Ura}
use base.Fraction.{full_share}
use mir.Syntax.{Width, Local, local, value_local, ty_unit, place, rv_opd, opd_unit, int_big, seq, assign, return}
use mir.Val.{Val, WT, has_ty, vunit, vint, Fits}
use mathlib.Core.Path.{◌≡◌, refl, sym, ap, subst}
use base.Logic.{SProp, ent, sep, id⊢, via, mono_r, guard_i}
use base.Fml.{Fml, ftrue, fsep, fat, froom, fdies}
use prog.Wp.{Heap, Env, Calls, Loops}
use types.Logic.{Logic, sem}
use types.Kit.{Item, ‵, ◌⊛◌, mean, ⋆, push, pop, cut, Goal, prop, runs, frees, at_ret, Seq, Step, step, ◌$◌}
use denote.Ref.{Bor}
use denote.Slice.{slice_val}
use denote.Steps.{only}
use types.Run.{Opd, look, init, forget, stop, from, unit_lit, of_opd, assigns, returns, free1, free0}

abbrev pub env_at : {M : Type 1} (𝓤 : Ura M) (H : Heap 𝓤) → List Local → List ℕ → Env 𝓤 H
env_at 𝓤 H [] bs = []
env_at 𝓤 H (local τ h ∷ ls) [] = []
env_at 𝓤 H (local τ h ∷ ls) (b ∷ bs) = (τ, b) ∷ env_at 𝓤 H ls bs

pub data Cell : Type 0 where
  empty : Cell
  full : Val → Cell

-- in front of what else there is
abbrev pub cells : {M : Type 1} (𝓤 : Ura M) → List Local → List ℕ → List Cell → List (Item 𝓤) → List (Item 𝓤)
cells 𝓤 [] bs cs Γ = Γ
cells 𝓤 (local τ h ∷ ls) [] cs Γ = Γ
cells 𝓤 (local τ h ∷ ls) (b ∷ bs) [] Γ = ‵ (froom τ b zero) ∷ ‵ (fdies τ b) ∷ cells 𝓤 ls bs [] Γ
cells 𝓤 (local τ h ∷ ls) (b ∷ bs) (empty ∷ cs) Γ = ‵ (froom τ b zero) ∷ ‵ (fdies τ b) ∷ cells 𝓤 ls bs cs Γ
cells 𝓤 (local τ h ∷ ls) (b ∷ bs) (full v ∷ cs) Γ = ‵ (fat full_share τ b zero v) ∷ ‵ (fdies τ b) ∷ cells 𝓤 ls bs cs Γ

pub is_unit : (v : Val) → v ∷ [] ≡ vunit ∷ [] → T (has_ty ty_unit v) × WT v
is_unit v e = subst (λ (y : Val). T (has_ty ty_unit y) × WT y) (sym (ap only e)) (tt, tt)

abbrev pub at : {X : Type 0} → Bor (List X) → Val
at x = slice_val x.ref_ptr (length x.now)

abbrev pub others : List Local → List Local
others [] = []
others (l ∷ ls) = ls

module _ {M : Type 1} {𝓤 : Ura M} {𝓛 : Logic 𝓤} {K : Type 0} {Γ : List (Item 𝓤)} where
  open 𝓛 use {H}

  released : K → (G : Goal 𝓤 H) (ls : List Local) (bs : List ℕ) (cs : List Cell) → Seq K 𝓛 Γ G → Seq K 𝓛 (cells 𝓤 ls bs cs Γ) (frees (env_at 𝓤 H ls bs) G)
  released t G [] bs cs s = free0 t $ s
  released t G (local τ h ∷ ls) [] cs s = free0 t $ s
  released t G (local τ h ∷ ls) (b ∷ bs) [] s = free1 t $ released t G ls bs [] s
  released t G (local τ h ∷ ls) (b ∷ bs) (empty ∷ cs) s = free1 t $ released t G ls bs cs s
  released t G (local τ h ∷ ls) (b ∷ bs) (full v ∷ cs) s = forget t 0 refl $ free1 t $ released t G ls bs cs s

  pub releases : K → {G : Goal 𝓤 H} (ls : List Local) (bs : List ℕ) (cs : List Cell) → Step K 𝓛 Γ G (cells 𝓤 ls bs cs Γ) (frees (env_at 𝓤 H ls bs) G)
  releases t {G} ls bs cs = step (λ s. released t G ls bs cs s)

  pub ends_unit : K → {C : Calls 𝓤 H} {Λ : Loops 𝓤 H} {Kf : Val → SProp 𝓤} (ls : List Local) (l : ℕ) (bs : List ℕ) (cs : List Cell)
      → Step K 𝓛 Γ (prop (Kf vunit)) (cells 𝓤 (local ty_unit value_local ∷ ls) (l ∷ bs) (empty ∷ cs) Γ)
      (runs C Λ (env_at 𝓤 H (local ty_unit value_local ∷ ls) (l ∷ bs)) (seq (assign (place 0 []) (rv_opd opd_unit)) return)
      (at_ret (env_at 𝓤 H (local ty_unit value_local ∷ ls) (l ∷ bs)) Kf))
  ends_unit t ls l bs cs = step (λ s. assigns t (of_opd t (unit_lit t)) (from t (stop t)) (init t 0 refl (tt, tt)) $
      returns t (look t 0 refl) $ releases t (local ty_unit value_local ∷ ls) (l ∷ bs) (full vunit ∷ cs) $ s)

  pub big_lit : K → {E : Env 𝓤 H} {w : Width} {n : ℕ} → Fits w n → Opd K 𝓛 Γ E (int_big w n) (vint w n)
  big_lit t {E} {w} {n} f = record { go = λ Kt h. via 𝓤 (Kt (vint w n)) h (guard_i 𝓤 (Fits w n) (Kt (vint w n)) f) }

abbrev pub nest : {M : Type 1} {𝓤 : Ura M} → List (Item 𝓤) → Item 𝓤
nest [] = ‵ ftrue
nest (i ∷ is) = i ⊛ nest is

abbrev pub fnest : List Fml → Fml
fnest [] = ftrue
fnest (P ∷ Ps) = fsep P (fnest Ps)

abbrev pub entries : {M : Type 1} {𝓤 : Ura M} → List Fml → List (Item 𝓤)
entries [] = []
entries (P ∷ Ps) = ‵ P ∷ entries Ps

module _ {M : Type 1} {𝓤 : Ura M} (𝓛 : Logic 𝓤) where
  nest_opens : (is : List (Item 𝓤)) → ent 𝓤 (mean 𝓛 (nest is)) (⋆ 𝓛 is)
  nest_opens [] = id⊢ 𝓤 _
  nest_opens (i ∷ is) = via 𝓤 (sep 𝓤 (mean 𝓛 i) (⋆ 𝓛 is)) (mono_r 𝓤 (mean 𝓛 i) (nest_opens is)) (push 𝓛 i is)

  nest_closes : (is : List (Item 𝓤)) → ent 𝓤 (⋆ 𝓛 is) (mean 𝓛 (nest is))
  nest_closes [] = id⊢ 𝓤 _
  nest_closes (i ∷ is) = via 𝓤 (sep 𝓤 (mean 𝓛 i) (⋆ 𝓛 is)) (pop 𝓛 i is) (mono_r 𝓤 (mean 𝓛 i) (nest_closes is))

  fnest_opens : (Ps : List Fml) → ent 𝓤 (sem 𝓛 (fnest Ps)) (⋆ 𝓛 (entries Ps))
  fnest_opens [] = id⊢ 𝓤 _
  fnest_opens (P ∷ Ps) = via 𝓤 (sep 𝓤 (sem 𝓛 P) (⋆ 𝓛 (entries Ps))) (mono_r 𝓤 (sem 𝓛 P) (fnest_opens Ps)) (push 𝓛 (‵ P) (entries Ps))

  fnest_closes : (Ps : List Fml) → ent 𝓤 (⋆ 𝓛 (entries Ps)) (sem 𝓛 (fnest Ps))
  fnest_closes [] = id⊢ 𝓤 _
  fnest_closes (P ∷ Ps) = via 𝓤 (sep 𝓤 (sem 𝓛 P) (⋆ 𝓛 (entries Ps))) (pop 𝓛 (‵ P) (entries Ps)) (mono_r 𝓤 (sem 𝓛 P) (fnest_closes Ps))

module _ {M : Type 1} {𝓤 : Ura M} {𝓛 : Logic 𝓤} {K : Type 0} {Γ : List (Item 𝓤)} {G : Goal 𝓤 𝓛.H} where
  pub opened : K → (is : List (Item 𝓤)) → Step K 𝓛 (is ++ Γ) G (nest is ∷ Γ) G
  opened t is = cut (nest is ∷ []) is Γ (nest_opens 𝓛 is)

  pub closed : K → (is : List (Item 𝓤)) → Step K 𝓛 (nest is ∷ Γ) G (is ++ Γ) G
  closed t is = cut is (nest is ∷ []) Γ (nest_closes 𝓛 is)

  pub fopened : K → (Ps : List Fml) → Step K 𝓛 (entries Ps ++ Γ) G (‵ (fnest Ps) ∷ Γ) G
  fopened t Ps = cut (‵ (fnest Ps) ∷ []) (entries Ps) Γ (fnest_opens 𝓛 Ps)

  pub fclosed : K → (Ps : List Fml) → Step K 𝓛 (‵ (fnest Ps) ∷ Γ) G (entries Ps ++ Γ) G
  fclosed t Ps = cut (entries Ps) (‵ (fnest Ps) ∷ []) Γ (fnest_closes 𝓛 Ps)
