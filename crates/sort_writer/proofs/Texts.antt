-- The text of a sort put by what its row says, arguments one after another: each call is in order and falls, since parts
-- have lower numbers; and what was put is the text. Assumes nothing.
use mathlib.Core.Path.{◌≡◌, refl, sym, ◌∙◌, ap, ap₂, subst}
use mathlib.Core.Logic.{◌⊎◌, inl, inr}
use mathlib.Core.List.{List, [], ◌∷◌, ◌++◌}
use Prim.Native.Nat.{ℕ, zero, suc, ◌+◌, ◌-◌, ◌<◌, ◌≤◌}
use native.Mathlib.Omega.{arith}
use native.Mathlib.Numerals.{add-one}
use Rattle.resolved_sort.specs.declared.SortId.{SortId}
use Rattle.resolved_sort.specs.declared.Sort.{Sort}
use Rattle.resolved_sort.specs.declared.ComplexSort.{ComplexSort}
use Rattle.resolved_sort.specs.declared.Run.{Run}
use Rattle.resolved_sort.specs.declared.ResolvedSort.{ResolvedSort}
use Rattle.resolved_sort.specs.declared.ResolvedSort.TheVariants.{Unit as UnitRow, Primitive, Container, Function, Def, TypeVar}
use Rattle.resolved_sort.specs.Tree.{Tree, Trees, arg}
use Rattle.resolved_sort.specs.Storage.{entry_at, entries_of, row_at, look_all, trees}
use Rattle.resolved_sort.specs.Inner.Storage.{args_at}
use Rattle.resolved_sort.specs.Entries.{tree_at}
use Rattle.resolved_sort.specs.Rows.{Checked}
use Rattle.resolved_sort.proofs.Interned.{listed}
use Rattle.resolved_sort.proofs.Pairs.{sort_of, Below}
use Rattle.resolved_sort.proofs.Said.{entry_below, first_entry}
use Rattle.sort_text.specs.Parse.{sort_word, op_word}
use Rattle.sort_text.specs.Text.{text, texts, more, between_text, arrow_text}
use Rattle.text_out.specs.declared.Out.{Out}
use Rattle.text_out.specs.Outs.{then_put}
use Rattle.text_out.proofs.Outs.{then_put_nothing, put_then}
use Rattle.sort_writer.proofs.Rows.{row_says, row_parts}

-- the arguments of a run by the first and the rest
args_by_first : (ws : List ℕ) (n s c : ℕ) → (c ≡ 0 → ⊥) → args_at ws n s c ≡ arg (tree_at ws n (entry_at ws s)) (args_at ws n (s + 1) (c - 1))
unfolding look_all
args_by_first ws n s c h = rw (first_entry ws s c h)

texts_of : (t : Tree) (ts : Trees) → texts (arg t ts) ≡ text t ++ more ts
unfolding text
texts_of t ts = refl

more_of : (t : Tree) (ts : Trees) → more (arg t ts) ≡ between_text ++ (text t ++ more ts)
unfolding text
more_of t ts = refl

-- What is left of a run's text before its i-th argument, and what stands between: nothing before the first.
abbrev left_text : ℕ → Trees → List ℕ
left_text zero ts = texts ts
left_text (suc i) ts = more ts

abbrev between : ℕ → List ℕ
between zero = []
between (suc i) = between_text

none_left : (ws : List ℕ) (n s c i : ℕ) → c ≡ 0 → left_text i (args_at ws n s c) ≡ []
unfolding text look_all entries_of
none_left ws n s c zero e = rw e
none_left ws n s c (suc i) e = rw e

left_of : (i : ℕ) (t : Tree) (ts : Trees) → left_text i (arg t ts) ≡ between i ++ (text t ++ more ts)
left_of zero t ts = texts_of t ts
left_of (suc i) t ts = more_of t ts

module _ (ws : List ℕ) (n s c : ℕ) (o : Out) where
  -- Before the i-th argument: what is left makes up the whole.
  pub record Putting (i : ℕ) (m : Out) : Type 0 where
    pub whole : then_put m (left_text i (args_at ws n (s + i) (c - i))) ≡ then_put o (texts (args_at ws n s c))

  pub all_put : (i : ℕ) (m : Out) → c ≤ i → Putting i m → m ≡ then_put o (texts (args_at ws n s c))
  all_put i m h p = sym (ap (then_put m) (none_left ws n (s + i) (c - i) i (omega arith)) ∙ then_put_nothing m) ∙ p.whole

  pub one_more : (i : ℕ) (m : Out) → i < c → Putting i m → (m₁ : Out) → m₁ ≡ then_put m (between i) → (x : ℕ) → x ≡ entry_at ws (s + i)
      → (m₂ : Out) → m₂ ≡ then_put m₁ (text (tree_at ws n x)) → Putting (i + 1) m₂
  one_more i m h p m₁ f x q m₂ g =
      let z : s + (i + 1) ≡ s + i + 1 = omega arith in
      let y : c - (i + 1) ≡ c - i - 1 = omega arith in
      record {
        whole =
            ap (λ (j : ℕ). then_put m₂ (left_text j (args_at ws n (s + (i + 1)) (c - (i + 1))))) (add-one i)
            ∙ (ap₂ (λ (j l : ℕ). then_put m₂ (more (args_at ws n j l))) z y
            ∙ (put_then m m₁ (between i) (text (tree_at ws n x) ++ more (args_at ws n (s + i + 1) (c - i - 1))) f
            (put_then m₁ m₂ (text (tree_at ws n x)) (more (args_at ws n (s + i + 1) (c - i - 1))) g refl)
            ∙ (ap (then_put m)
            (ap (λ (j : ℕ). between i ++ (text (tree_at ws n j) ++ more (args_at ws n (s + i + 1) (c - i - 1)))) q
            ∙ sym (ap (left_text i) (args_by_first ws n (s + i) (c - i) (λ w. omega arith)) ∙ left_of i _ _))
            ∙ p.whole)));
      }

pub before_first : (i : ℕ) (m : Out) → i ≤ 0 → m ≡ then_put m (between i)
before_first zero m h = sym (then_put_nothing m)
before_first (suc i) m h = absurd (omega arith)

pub before_later : (i : ℕ) (m m₁ : Out) → 0 < i → m₁ ≡ then_put m between_text → m₁ ≡ then_put m (between i)
before_later zero m m₁ h f = absurd (omega arith)
before_later (suc i) m m₁ h f = f

module _ {ws : List ℕ} {n e a : ℕ} (k : Checked ws n e) (below : a < n) {R : ResolvedSort} (q : R ≡ row_at ws a) where
  says : (S : ResolvedSort) → R ≡ S → text (tree_at ws n a) ≡ text (sort_of ws (trees ws n) S)
  says S t = ap text (row_says ws n e (listed k) a below ∙ ap (sort_of ws (trees ws n)) (sym q ∙ t))

  parts : (S : ResolvedSort) → R ≡ S → Below ws e a S
  parts S t = subst (Below ws e a) (sym q ∙ t) (row_parts ws n e (listed k) a below)

  nothing_put : (S : ResolvedSort) → R ≡ S → text (sort_of ws (trees ws n) S) ≡ [] → (o : Out) → o ≡ then_put o (text (tree_at ws n a))
  nothing_put S t f o = sym (ap (then_put o) (says S t ∙ f) ∙ then_put_nothing o)

  -- what has no text
  pub no_text_put : (R ≡ UnitRow) ⊎ (((i : ℕ) × (R ≡ Def i)) ⊎ ((i : ℕ) × (R ≡ TypeVar i))) → (o : Out) → o ≡ then_put o (text (tree_at ws n a))
  unfolding sort_of text
  no_text_put (inl t) = nothing_put UnitRow t refl
  no_text_put (inr (inl t)) = nothing_put (Def t.0) t.1 refl
  no_text_put (inr (inr t)) = nothing_put (TypeVar t.0) t.1 refl

  -- a basic sort
  pub word_put : {s : Sort} → R ≡ Primitive s → (o : Out) {m : Out} → m ≡ then_put o (sort_word s) → m ≡ then_put o (text (tree_at ws n a))
  unfolding sort_of text
  word_put {s} t o f = f ∙ ap (then_put o) (sym (says (Primitive s) t))

  -- a container
  module _ {p : ComplexSort} {s : SortId} (t : R ≡ Container p s) where
    pub part_falls : {m : ℕ} → a ≡ m → (s.0 < m) × (s.0 < n)
    unfolding Below
    part_falls f = let b : s.0 < a = parts (Container p s) t in (omega arith, omega arith)

    pub container_put : (o : Out) {o₁ o₂ o₃ m : Out} → o₁ ≡ then_put o (op_word p) → o₂ ≡ then_put o₁ (40 ∷ []) → o₃ ≡ then_put o₂ (text (tree_at ws n s.0))
        → m ≡ then_put o₃ (41 ∷ []) → m ≡ then_put o (text (tree_at ws n a))
    unfolding sort_of text
    container_put o {o₁} {o₂} {o₃} f g h i =
        put_then o o₁ (op_word p) ((40 ∷ []) ++ (text (tree_at ws n s.0) ++ (41 ∷ []))) f
        (put_then o₁ o₂ (40 ∷ []) (text (tree_at ws n s.0) ++ (41 ∷ [])) g
        (put_then o₂ o₃ (text (tree_at ws n s.0)) (41 ∷ []) h i))
        ∙ ap (then_put o) (sym (says (Container p s) t))

  -- a function
  module _ {d : Run} {g : SortId} (t : R ≡ Function d g) where
    pub range_falls : {m : ℕ} → a ≡ m → (g.0 < m) × (g.0 < n)
    unfolding Below
    range_falls f = let b = parts (Function d g) t in (omega (arith, b.0), omega (arith, b.0))

    pub argument_falls : {m : ℕ} → a ≡ m → {i x : ℕ} → i < d.count → x ≡ entry_at ws (d.start + i) → (x < m) × (x < n)
    unfolding Below
    argument_falls f {i} l r =
        let b = entry_below ws a d.start d.count (parts (Function d g) t).3 i l in (omega arith, omega arith)

    pub function_put : (o : Out) {o₁ o₂ m : Out} → o₁ ≡ then_put o (texts (args_at ws n d.start d.count)) → o₂ ≡ then_put o₁ arrow_text
        → m ≡ then_put o₂ (text (tree_at ws n g.0)) → m ≡ then_put o (text (tree_at ws n a))
    unfolding sort_of text
    function_put o {o₁} {o₂} f h i =
        put_then o o₁ (texts (args_at ws n d.start d.count)) (arrow_text ++ text (tree_at ws n g.0)) f
        (put_then o₁ o₂ arrow_text (text (tree_at ws n g.0)) h i)
        ∙ ap (then_put o) (sym (says (Function d g) t))
