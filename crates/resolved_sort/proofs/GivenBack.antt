-- What 15 gives back is the storage as it was below the entry lengths, and zero past them: two storages that agree there
-- are given back alike. Assumes nothing.
use mathlib.Core.Path.{◌≡◌, sym, ◌∙◌, ap, ap₂}
use mathlib.Core.List.{List, [], ◌++◌}
use Prim.Native.Nat.{ℕ, ◌+◌, ◌-◌, ◌*◌, ◌<◌, ◌≤◌}
use native.Mathlib.Omega.{arith}
use lib.ListN.{length, get_or, take, drop, replicate, length-append, length-drop, length-replicate, drop_of_length-le}
use lib.Seq.{length-take-le, take-append-add, get_or-take, get_or-drop, ext_get_or}
use Rattle.resolved_sort.specs.Interning.{Sorts}
use Rattle.resolved_sort.specs.Storage.{max_sorts, max_entries, full_length, entries_at, given_back}
use Rattle.words.specs.Words.{zeros}
use Rattle.resolved_sort.specs.Entries.{after}
use Rattle.resolved_sort.specs.Rows.{Checked}
use Rattle.resolved_sort.specs.Growing.{Agrees, Grown}
use Rattle.resolved_sort.proofs.Unchanged.{unchanged, length_after}

-- Storage of two parts, of which the words from a up to b and from b + e on are cleared: what counts is what stands before a and in the e words from b on.
module _ (a b e : ℕ) (ordered : a ≤ b) where
  abbrev gap : List ℕ
  gap = replicate (b - a) 0

  abbrev inner : List ℕ → List ℕ
  inner ws = take a ws ++ (gap ++ drop b ws)

  module _ (ws : List ℕ) (long : b + e ≤ length ws) where
    length_rows : length (take a ws) ≡ a
    length_rows = length-take-le a ws (omega arith)

    length_gap : length gap ≡ b - a
    length_gap = length-replicate {A = ℕ} (b - a) 0

    front : take (b + e) (inner ws) ≡ take a ws ++ (gap ++ take e (drop b ws))
    front =
        let k : b + e ≡ length (take a ws) + (length gap + e) = omega (arith, length_rows, length_gap) in
        ap (λ k. take k (inner ws)) k
        ∙ (take-append-add (take a ws) (gap ++ drop b ws) (length gap + e) ∙ ap (λ l. take a ws ++ l) (take-append-add gap (drop b ws) e))

    length_inner : length (inner ws) ≡ length ws
    length_inner =
        length-append (take a ws) (gap ++ drop b ws)
        ∙ omega (arith, length-append gap (drop b ws), length_rows, length_gap, length-drop b ws)

    back : drop (length ws) (inner ws) ≡ []
    back = drop_of_length-le (inner ws) {i = length ws} (omega (arith, length_inner))

    zeroed_is : zeros (b + e) (length ws) (zeros a b ws) ≡ (take a ws ++ (gap ++ take e (drop b ws))) ++ (replicate (length ws - (b + e)) 0 ++ [])
    unfolding zeros
    zeroed_is = ap₂ (λ f r. f ++ (replicate (length ws - (b + e)) 0 ++ r)) front back

  module _ (ws us : List ℕ) (long : b + e ≤ length ws) (same : length us ≡ length ws) where
    rows_same : ((i : ℕ) → i < a → get_or us i 0 ≡ get_or ws i 0) → take a us ≡ take a ws
    rows_same rows =
        ext_get_or 0 (take a us) (take a ws) (omega (arith, length_rows ws long, length_rows us (omega (arith, same))))
        (λ i h. let l : i < a = omega (arith, length_rows us (omega (arith, same))) in
        get_or-take a us i 0 l ∙ (rows i l ∙ sym (get_or-take a ws i 0 l)))

    length_entries : (vs : List ℕ) → b + e ≤ length vs → length (take e (drop b vs)) ≡ e
    length_entries vs l = length-take-le e (drop b vs) (omega (arith, length-drop b vs))

    entries_same : ((i : ℕ) → i < e → get_or us (b + i) 0 ≡ get_or ws (b + i) 0) → take e (drop b us) ≡ take e (drop b ws)
    entries_same entries =
        ext_get_or 0 (take e (drop b us)) (take e (drop b ws)) (omega (arith, length_entries ws long, length_entries us (omega (arith, same))))
        (λ i h. let l : i < e = omega (arith, length_entries us (omega (arith, same))) in
        get_or-take e (drop b us) i 0 l ∙ (get_or-drop b us i 0 ∙ (entries i l ∙ sym (get_or-take e (drop b ws) i 0 l ∙ get_or-drop b ws i 0))))

    pub zeroed_agrees : ((i : ℕ) → i < a → get_or us i 0 ≡ get_or ws i 0) → ((i : ℕ) → i < e → get_or us (b + i) 0 ≡ get_or ws (b + i) 0)
        → zeros (b + e) (length us) (zeros a b us) ≡ zeros (b + e) (length ws) (zeros a b ws)
    zeroed_agrees rows entries =
        zeroed_is us (omega (arith, same)) ∙ (rw (rows_same rows, entries_same entries, same) (sym (zeroed_is ws long)))

pub given_back_agrees : (n e : ℕ) → n ≤ max_sorts → e ≤ max_entries → (ws us : List ℕ) → full_length ≤ length ws → length us ≡ length ws → Agrees ws us n e
    → given_back n e us ≡ given_back n e ws
unfolding given_back
given_back_agrees n e hn he ws us long same a =
    zeroed_agrees (4 * n) entries_at e (omega arith) ws us (omega arith) same a.words a.entries

-- what a call has made is given back whole
pub made_is_given_back : (ws : List ℕ) (n e : ℕ) → Checked ws n e → (S : Sorts) → Grown ws n e S → given_back n e (after ws n e S) ≡ given_back n e ws
made_is_given_back ws n e k S g =
    given_back_agrees n e k.sorts k.entries ws (after ws n e S) k.long (length_after ws n e k S g) (unchanged ws n e k S g)
