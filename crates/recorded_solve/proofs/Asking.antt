-- A question works on copies of the slices that it may change, and what it leaves is kept in their places. Assumes nothing.
use mathlib.Core.Path.{◌≡◌, ap, ◌∙◌}
use mathlib.Core.List.{List}
use Prim.Native.Nat.{ℕ}
use lib.Seq.{sets}
use Rattle.words.specs.Words.{part}
use Rattle.recorded_solve.specs.declared.Slices.{Slices}
use Rattle.recorded_solve.specs.Inner.Outcome.{solved}
use Rattle.recorded_solve.specs.Inner.Slices.{slice_start, slices_held, packed_of, call_held_in, call_held, kept_in, slices_kept, left_held}
use Rattle.recorded_solve.specs.Inner.Lines.{reply, ask_of}

module _ (us ss ns bs xs ix ts ms cs : List ℕ) where
  pub all_kept :
      (v1 v2 v3 v4 v5 v6 v7 v8 : List ℕ) → v1 ≡ sets us 0 ss → v2 ≡ sets v1 8192 ns → v3 ≡ sets v2 20480 bs → v4 ≡ sets v3 29952 xs
      → v5 ≡ sets v4 34048 ix → v6 ≡ sets v5 27648 ts → v7 ≡ sets v6 29184 ms → v8 ≡ sets v7 29440 cs → v8 ≡ kept_in us ss ns bs xs ix ts ms cs
  all_kept v1 v2 v3 v4 v5 v6 v7 v8 e1 e2 e3 e4 e5 e6 e7 e8 =
      e8
      ∙ ap (λ w. sets w 29440 cs)
      (e7
      ∙ ap (λ w. sets w 29184 ms)
      (e6
      ∙ ap (λ w. sets w 27648 ts)
      (e5
      ∙ ap (λ w. sets w 34048 ix)
      (e4
      ∙ ap (λ w. sets w 29952 xs) (e3 ∙ ap (λ w. sets w 20480 bs) (e2 ∙ ap (λ w. sets w 8192 ns) e1))))))

pub sliced : (ws ss ns bs xs ix ts ms cs : List ℕ) → ss ≡ part 0 8192 ws → ns ≡ part 8192 12288 ws → bs ≡ part 20480 512 ws → xs ≡ part 29952 4096 ws
    → ix ≡ part 34048 2048 ws → ts ≡ part 27648 1536 ws → ms ≡ part 29184 256 ws → cs ≡ part 29440 512 ws
    → ◌≡◌ {A = Slices} (record { sorts = ss; nodes = ns; binds = bs; scratch = xs; index = ix; typing = ts; measure = ms; choices = cs }) (slices_held ws)
unfolding slice_start
sliced ws ss ns bs xs ix ts ms cs es en eb ex ei et em ec =
    λ i. record { sorts = es i; nodes = en i; binds = eb i; scratch = ex i; index = ei i; typing = et i; measure = em i; choices = ec i }

pub asked : (ws : List ℕ) (s s' : Slices) (r : ℕ) (us : List ℕ) → s ≡ slices_held ws → packed_of s' r ≡ solved (call_held_in ws s)
    → us ≡ slices_kept ws s' → reply us r ≡ ask_of ws
unfolding ask_of
asked ws s s' r us es e u =
    let p : packed_of s' r ≡ solved (call_held ws) = e ∙ ap (λ x. solved (call_held_in ws x)) es in
    let w : us ≡ left_held ws (solved (call_held ws)) = u ∙ ap (left_held ws) p in
    λ i. reply (w i) (p i).result
