-- What a code says, a sort by its number, and the text of a sort by its size. Assumes nothing.
use mathlib.Core.Path.{◌≡◌, refl, sym, ◌∙◌, ap}
use mathlib.Core.Bool.{Bool, true, false, ◌&&◌}
use mathlib.Core.List.{List, []}
use Prim.Native.Nat.{ℕ, zero, suc, ◌<◌, ◌≤◌}
use native.Mathlib.Omega.{arith}
use native.Mathlib.Decide.{dec_le}
use lib.Dec.{leb, ltb}
use Rattle.std.proofs.lemmas.List.{get_or-set_other}
use lib.ListN.{length, get_or, replicate, length-replicate, get_or-eq_default}
use borrow.Author.Tests.{le-ltb, lt-leb}
use Rattle.resolved_sort.specs.declared.Counts.{Counts}
use Rattle.resolved_sort.specs.Tree.{Tree, flat, unit}
use Rattle.resolved_sort.specs.Interning.{look}
use Rattle.resolved_sort.specs.Storage.{trees, row_at}
use Rattle.resolved_sort.specs.Entries.{tree_at}
use Rattle.resolved_sort.proofs.Reached.{no_confusion}
use Rattle.resolved_sort.proofs.Trees.{length_trees}
use Rattle.sort_text.specs.Text.{writable, text}
use Rattle.sort_writer.specs.Inner.Sizes.{most_size, size_if, sized, sizes_to, row_size}
use Rattle.sort_writer.proofs.Sizes.{capped_short, capped_long, text_some}
use Rattle.sort_writer.proofs.Fills.{sizes_right}
use Rattle.list_verdict.specs.Words.{verdict_messages, message}
use Rattle.list_verdict.specs.Text.{name, sort_name, short}
use Rattle.list_verdict.specs.Inner.Room.{SizesOf}

-- codes and names of sorts
pub no_message : (code : ℕ) → 13 ≤ code → (code ≡ 14 → ⊥) → (code ≡ 15 → ⊥) → (code ≡ 16 → ⊥) → (code ≡ 17 → ⊥) → (code ≡ 18 → ⊥) → [] ≡ message code
unfolding message
no_message code h a b c d e = go (dec_le 19 code)
  where
    go : Dec (19 ≤ code) → [] ≡ message code
    go (yes l) = sym (get_or-eq_default verdict_messages [] l)
    go (no l) = let z : code ≡ 13 = omega arith in rw z

pub plain_name : (s : ℕ) → 6 ≤ s → name 115 s ≡ sort_name s
unfolding sort_name
plain_name s h = rw (le-ltb s 6 h)

-- A size is above 0 and at most 200 exactly where a text of at most 200 bytes is there.
size_none : (b : Bool) (l : ℕ) → (b ≡ true → 0 < l) → size_if b l ≡ 0 → (b && leb l 200) ≡ false
unfolding size_if
size_none true l h e = go (dec_le l 200)
  where
    go : Dec (l ≤ 200) → leb l 200 ≡ false
    go (yes d) = absurd (omega (arith, h refl, capped_short l (omega arith), e))
    go (no d) = lt-leb l 200 (omega arith)
size_none false l h e = refl

size_some : (b : Bool) (l : ℕ) → 0 < size_if b l → leb (size_if b l) 200 ≡ (b && leb l 200)
unfolding size_if
size_some true l h = go (dec_le l most_size)
  where
    go : Dec (l ≤ most_size) → leb (size_if true l) 200 ≡ leb l 200
    go (yes d) = ap (λ (n : ℕ). leb n 200) (capped_short l d)
    go (no d) = lt-leb (size_if true l) 200 (omega (arith, capped_long l (omega arith))) ∙ sym (lt-leb l 200 (omega arith))
size_some false l h = absurd (omega (arith, h))

-- Past the sorts no size is found.
no_size : (ws zs : List ℕ) (n s : ℕ) → n ≤ s → get_or (sizes_to ws zs n) s 0 ≡ get_or zs s 0
unfolding sizes_to
no_size ws zs zero s h = refl
no_size ws zs (suc n) s h =
    get_or-set_other (sizes_to ws zs n) n s (row_size ws (sizes_to ws zs n) (row_at ws n)) 0 (omega (arith, h))
    ∙ no_size ws zs n s (omega (arith, h))

no_zero : (n s : ℕ) → get_or {A = ℕ} (replicate n 0) s 0 ≡ 0
no_zero zero s = refl
no_zero (suc n) zero = refl
no_zero (suc n) (suc s) = no_zero n s

-- The text of a sort, by its size.
module _ (ws : List ℕ) (k : Counts) (zs : List ℕ) (s : ℕ) (q : SizesOf ws k zs) where
  size_is : (size : ℕ) → size ≡ get_or zs s 0 → size ≡ size_if (writable (tree_at ws k.sorts s)) (length (text (tree_at ws k.sorts s)))
  unfolding sized size_if writable look
  size_is size e = go (dec_le k.sorts s)
    where
      go : Dec (k.sorts ≤ s) → size ≡ size_if (writable (tree_at ws k.sorts s)) (length (text (tree_at ws k.sorts s)))
      go (yes p) =
          e ∙ (ap (λ (l : List ℕ). get_or l s 0) q.sizes ∙ (no_size ws (replicate 1024 0) k.sorts s p ∙ (no_zero 1024 s
          ∙ sym (ap (λ (t : Tree). size_if (writable t) (length (text t))) (get_or-eq_default (trees ws k.sorts) (flat unit) (omega (arith, length_trees ws k.sorts)))))))
      go (no p) =
          e
          ∙ (ap (λ (l : List ℕ). get_or l s 0) q.sizes
          ∙ sizes_right ws (replicate 1024 0) k.sorts k.entries (record {
            fine = q.checked.fine;
            differ =
                q.checked.differ;
          }) (omega (arith, q.checked.sorts, length-replicate {A = ℕ} 1024 0))
          k.sorts (omega arith) s (omega arith))

  module _ (size : ℕ) (e : size ≡ get_or zs s 0) where
    pub short_by_size : 0 < size → leb size 200 ≡ short (tree_at ws k.sorts s)
    unfolding short
    short_by_size h =
        ap (λ (n : ℕ). leb n 200) (size_is size e)
        ∙ size_some (writable (tree_at ws k.sorts s)) (length (text (tree_at ws k.sorts s))) (omega (arith, size_is size e, h))

    pub not_short : size ≤ 0 → ltb 0 size ≡ short (tree_at ws k.sorts s)
    unfolding short
    not_short h =
        le-ltb 0 size h
        ∙ sym (size_none (writable (tree_at ws k.sorts s)) _ (text_some (tree_at ws k.sorts s)) (omega (arith, size_is size e, h)))

  module _ (e : short (tree_at ws k.sorts s) ≡ true) where
    pub below : s < k.sorts
    unfolding short writable look
    below = go (dec_le k.sorts s)
      where
        go : Dec (k.sorts ≤ s) → s < k.sorts
        go (yes p) =
            let f : ◌≡◌ {A = Bool} true false = sym e ∙ ap short (get_or-eq_default (trees ws k.sorts) (flat unit) (omega (arith, length_trees ws k.sorts))) in
            no_confusion cc
        go (no p) = omega arith
