-- The statement about the entry (`EntrySays`) holds of one outcome, the defined one, and of no other: two of which it holds have one answer and leave the
-- same words. Their codes are one (`one_verdict`), so they are of one kind; sorts and counts are those of the search's end, nodes, bindings, scratch
-- and index are said, and so are outputs that are as given. Of a typing the rows are determined word by word: sorts are the incumbent's, and so are
-- choices, by rising expression number; names are by choices, the measure is the least, and what stands behind them is as it was lent. Assumes nothing.
use mathlib.Core.Path.{◌≡◌, refl, sym, ap, subst, ◌∙◌}
use mathlib.Core.List.{List}
use mathlib.Core.Logic.{◌⊎◌, ◌↔◌, inl, inr}
use Prim.Native.Nat.{ℕ, zero, suc, ◌+◌, ◌-◌, ◌*◌, ◌<◌}
use native.Mathlib.Decide.{dec_lt}
use native.Mathlib.Omega.{arith}
use lib.ListN.{length, get_or, drop}
use Rattle.std.specs.Prelude.{Ok, Err}
use Rattle.std.proofs.lemmas.List.{ext_get_or, get_or-drop}
use Rattle.resolved_sort.specs.declared.Counts.{Counts}
use Rattle.resolved_sort.proofs.Reached.{no_confusion}
use Rattle.inference.specs.declared.Outputs.{Outputs}
use Rattle.inference.specs.declared.Verdict.TheVariants.{NoTyping, Ambiguous, Typing}
use Rattle.inference.specs.Search.{Choice}
use Rattle.inference.specs.SolveChecks.{Call}
use Rattle.inference.specs.Rising.{rising}
use Rattle.inference.specs.Names.{name_of, name_kind, name_sort}
use Rattle.inference.specs.SolveEntry.{Solved, SolveLeft, problem_of, base_names_of, refused, written_over, solve_entry, code_solved}
use Rattle.inference.specs.SolveEntry.{sorts_out, measure_out, choice_at, choices_out}
use Rattle.inference.proofs.Members.{row_at_lem}
use Rattle.inference.proofs.Statements.{as_many_as_asked, measure_is_read}
use Rattle.solve_outputs.specs.Packed.{PackedSolve, pack_solve_left}
use Rattle.solve_entries.specs.Says.{Cleared, OutputsAsGiven, SaysTyping, SaysBy, EntrySays, left_of, PackedSays}
use Rattle.solve_entries.proofs.EntrySays.{outcome_says, packed_says}
use Rattle.solve_entries.proofs.EntryTyping.{tells_by, one_refusal, refused_or_searched, one_code, one_measure}

-- each word is the first, second or third of a row of three, or the first or second of a row of two
thirds : (i : ℕ) → (x : ℕ) × ((i ≡ 3 * x) ⊎ ((i ≡ 3 * x + 1) ⊎ (i ≡ 3 * x + 2)))
thirds zero = (0, inl refl)
thirds (suc i) = go (thirds i)
  where
    go : (x : ℕ) × ((i ≡ 3 * x) ⊎ ((i ≡ 3 * x + 1) ⊎ (i ≡ 3 * x + 2))) → (x : ℕ) × ((suc i ≡ 3 * x) ⊎ ((suc i ≡ 3 * x + 1) ⊎ (suc i ≡ 3 * x + 2)))
    go (x, inl e) = (x, inr (inl (omega (arith, e))))
    go (x, inr (inl e)) = (x, inr (inr (omega (arith, e))))
    go (x, inr (inr e)) = (x + 1, inl (omega (arith, e)))

halves : (i : ℕ) → (x : ℕ) × ((i ≡ 2 * x) ⊎ (i ≡ 2 * x + 1))
halves zero = (0, inl refl)
halves (suc i) = go (halves i)
  where
    go : (x : ℕ) × ((i ≡ 2 * x) ⊎ (i ≡ 2 * x + 1)) → (x : ℕ) × ((suc i ≡ 2 * x) ⊎ (suc i ≡ 2 * x + 1))
    go (x, inl e) = (x, inr (omega (arith, e)))
    go (x, inr e) = (x + 1, inl (omega (arith, e)))

-- lists that are as long, agree up to n, and are the same from there on
words_are : (n : ℕ) (xs ys : List ℕ) → length xs ≡ length ys → ((i : ℕ) → i < n → get_or xs i 0 ≡ get_or ys i 0) → drop n xs ≡ drop n ys → xs ≡ ys
words_are n xs ys e f d = ext_get_or 0 xs ys e (λ i h. at i)
  where
    at : (i : ℕ) → get_or xs i 0 ≡ get_or ys i 0
    at i = elim (dec_lt i n) [
      | yes l ↦ f i l
      | no l ↦
          let z : n + (i - n) ≡ i = omega (arith, l) in
          sym (get_or-drop n xs (i - n) 0 ∙ ap (λ (k : ℕ). get_or xs k 0) z)
          ∙ (ap (λ (zs : List ℕ). get_or zs (i - n) 0) d ∙ (get_or-drop n ys (i - n) 0 ∙ ap (λ (k : ℕ). get_or ys k 0) z))
    ]

abbrev no_choice : Choice
no_choice = record { expr = 0; position = 0 }

left_is : (L M : SolveLeft) → L.answer ≡ M.answer → L.sorts ≡ M.sorts → L.nodes ≡ M.nodes → L.binds ≡ M.binds → L.scratch ≡ M.scratch → L.index ≡ M.index
    → L.typing ≡ M.typing → L.measure ≡ M.measure → L.choices ≡ M.choices → L ≡ M
left_is L M a ws ns bs sc ix ts ms hs =
    λ j. record { answer = a j; sorts = ws j; nodes = ns j; binds = bs j; scratch = sc j; index = ix j; typing = ts j; measure = ms j; choices = hs j }

module _ (I : Call) (L M : SolveLeft) where
  -- where outputs are as given
  not_written : L.answer ≡ M.answer → L.sorts ≡ M.sorts → Cleared I L → Cleared I M → OutputsAsGiven I L → OutputsAsGiven I M → L ≡ M
  not_written a ws c d x y =
      left_is L M a ws (c.nodes ∙ sym d.nodes) (c.binds ∙ sym d.binds) (c.scratch ∙ sym d.scratch) (c.index ∙ sym d.index)
      (x.typing ∙ sym y.typing) (x.measure ∙ sym y.measure) (x.choices ∙ sym y.choices)

  module _ (o p : Outputs) (s : SaysTyping I L o) (t : SaysTyping I M p) where
    one_candidate : s.incumbent.candidate ≡ t.incumbent.candidate
    one_candidate = let x = s.incumbent.is in let y = t.incumbent.is in cc

    one_outputs : o ≡ p
    one_outputs =
        let a = as_many_as_asked I L o (choices_out L o) s.named in
        let b = as_many_as_asked I M p (choices_out M p) t.named in
        let c : o.counts ≡ p.counts = s.searched.counted ∙ sym t.searched.counted in
        let d : o.components ≡ p.components = a.0 ∙ sym b.0 in
        let e : o.choices ≡ p.choices = a.1 ∙ sym b.1 in
        λ j. record { counts = c j; components = d j; choices = e j }

    one_sorts : sorts_out I L ≡ sorts_out I M
    one_sorts = s.incumbent.sorts ∙ (ap (λ c. c.sorts) one_candidate ∙ sym t.incumbent.sorts)

    one_choices : choices_out L o ≡ choices_out M p
    one_choices = s.incumbent.choices ∙ (ap (λ c. rising (problem_of I) c.choices) one_candidate ∙ sym t.incumbent.choices)

    -- the word of a row that has a sort, a kind of name and a sort of name
    sort_word : (x : ℕ) → x < I.rows.exprs → get_or L.typing (3 * x) 0 ≡ get_or M.typing (3 * x) 0
    sort_word x l =
        sym (row_at_lem (λ (i : ℕ). get_or L.typing (3 * i) 0) 0 I.rows.exprs x l)
        ∙ (ap (λ (ss : List ℕ). get_or ss x 0) one_sorts ∙ row_at_lem (λ (i : ℕ). get_or M.typing (3 * i) 0) 0 I.rows.exprs x l)

    kind_word : (x : ℕ) → x < I.rows.exprs → get_or L.typing (3 * x + 1) 0 ≡ get_or M.typing (3 * x + 1) 0
    kind_word x l =
        (s.explained.names x l).0
        ∙ (ap (λ ks. name_kind (name_of (problem_of I) (base_names_of I) ks x)) one_choices ∙ sym (t.explained.names x l).0)

    name_word : (x : ℕ) → x < I.rows.exprs → get_or L.typing (3 * x + 2) 0 ≡ get_or M.typing (3 * x + 2) 0
    name_word x l =
        (s.explained.names x l).1
        ∙ (ap (λ ks. name_sort (name_of (problem_of I) (base_names_of I) ks x)) one_choices ∙ sym (t.explained.names x l).1)

    typing_word : (i : ℕ) → i < 3 * I.rows.exprs → get_or L.typing i 0 ≡ get_or M.typing i 0
    typing_word i l = go (thirds i)
      where
        moved : (k : ℕ) → i ≡ k → get_or L.typing k 0 ≡ get_or M.typing k 0 → get_or L.typing i 0 ≡ get_or M.typing i 0
        moved k e q = ap (λ (n : ℕ). get_or L.typing n 0) e ∙ (q ∙ sym (ap (λ (n : ℕ). get_or M.typing n 0) e))

        go : (x : ℕ) × ((i ≡ 3 * x) ⊎ ((i ≡ 3 * x + 1) ⊎ (i ≡ 3 * x + 2))) → get_or L.typing i 0 ≡ get_or M.typing i 0
        go (x, inl e) = moved (3 * x) e (sort_word x (omega (arith, l, e)))
        go (x, inr (inl e)) = moved (3 * x + 1) e (kind_word x (omega (arith, l, e)))
        go (x, inr (inr e)) = moved (3 * x + 2) e (name_word x (omega (arith, l, e)))

    one_typing : L.typing ≡ M.typing
    one_typing =
        words_are (3 * I.rows.exprs) L.typing M.typing (s.rows.typing_long ∙ sym t.rows.typing_long) typing_word (s.rows.typing ∙ sym t.rows.typing)

    measure_written : (N : SolveLeft) (u : Outputs) → SaysTyping I N u → N.measure ≡ written_over (measure_out N u) I.measure
    measure_written N u n =
        n.named.measure_handed_out ∙ ap (λ ms. written_over ms I.measure) (sym (measure_is_read I N u (choices_out N u) n.named))

    one_measure_words : L.measure ≡ M.measure
    one_measure_words =
        measure_written L o s
        ∙ (ap (λ ms. written_over ms I.measure) (one_measure I L M o p s t) ∙ sym (measure_written M p t))

    -- the choice at a position
    one_choice : (x : ℕ) → x < o.choices → choice_at L.choices x ≡ choice_at M.choices x
    one_choice x l =
        let n : o.choices ≡ p.choices = ap (λ (u : Outputs). u.choices) one_outputs in
        sym (row_at_lem (choice_at L.choices) no_choice o.choices x l)
        ∙ (ap (λ ks. get_or ks x no_choice) one_choices ∙ row_at_lem (choice_at M.choices) no_choice p.choices x (omega (arith, l, n)))

    choice_word : (i : ℕ) → i < 2 * o.choices → get_or L.choices i 0 ≡ get_or M.choices i 0
    choice_word i l = go (halves i)
      where
        moved : (k : ℕ) → i ≡ k → get_or L.choices k 0 ≡ get_or M.choices k 0 → get_or L.choices i 0 ≡ get_or M.choices i 0
        moved k e q = ap (λ (n : ℕ). get_or L.choices n 0) e ∙ (q ∙ sym (ap (λ (n : ℕ). get_or M.choices n 0) e))

        go : (x : ℕ) × ((i ≡ 2 * x) ⊎ (i ≡ 2 * x + 1)) → get_or L.choices i 0 ≡ get_or M.choices i 0
        go (x, inl e) = moved (2 * x) e (ap (λ (k : Choice). k.expr) (one_choice x (omega (arith, l, e))))
        go (x, inr e) = moved (2 * x + 1) e (ap (λ (k : Choice). k.position) (one_choice x (omega (arith, l, e))))

    one_choice_words : L.choices ≡ M.choices
    one_choice_words =
        let n : o.choices ≡ p.choices = ap (λ (u : Outputs). u.choices) one_outputs in
        words_are (2 * o.choices) L.choices M.choices (s.rows.choices_long ∙ sym t.rows.choices_long) choice_word
        (s.rows.choices ∙ sym (ap (λ (k : ℕ). drop (2 * k) M.choices) n ∙ (t.rows.choices ∙ sym (ap (λ (k : ℕ). drop (2 * k) I.choices) n))))

    one_typing_left : L.answer ≡ Ok (Typing o) → M.answer ≡ Ok (Typing p) → L ≡ M
    one_typing_left e f =
        let c = s.searched.memory in
        let d = t.searched.memory in
        left_is L M (e ∙ (ap (λ (u : Outputs). Ok (Typing u)) one_outputs ∙ sym f)) (s.searched.made ∙ sym t.searched.made)
        (c.nodes ∙ sym d.nodes) (c.binds ∙ sym d.binds) (c.scratch ∙ sym d.scratch) (c.index ∙ sym d.index) one_typing one_measure_words one_choice_words

module _ (I : Call) where
  other_code : (r t : Solved) (L M : SolveLeft) → SaysBy I L r → SaysBy I M t → (code_solved r ≡ code_solved t → ⊥) → {A : Type 0} → A
  other_code r t L M x y n = absurd (n (one_code I r t (tells_by I L r x) (tells_by I M t y)))

  -- by the two answers: those of another kind have another code, or one is a refusal and the other of a search that had room
  one_by : (L M : SolveLeft) (r t : Solved) → L.answer ≡ r → M.answer ≡ t → SaysBy I L r → SaysBy I M t → L ≡ M
  unfolding code_solved
  one_by L M (Err c) (Err d) a b (inl x) (inl y) =
      let q : c ≡ d = one_refusal I c d (inl x.0.first) (inl y.0.first) in x.0.given ∙ (ap (refused I) q ∙ sym y.0.given)
  one_by L M (Err c) (Err d) a b (inl x) (inr y) = let u = x.0.first in let v = y.passed in no_confusion (cc)
  one_by L M (Err c) (Err d) a b (inr x) (inl y) = let u = x.passed in let v = y.0.first in no_confusion (cc)
  one_by L M (Err c) (Err d) a b (inr x) (inr y) =
      let q : c ≡ d = one_refusal I c d (inr (x.passed, x.ended_so)) (inr (y.passed, y.ended_so)) in
      not_written I L M (a ∙ (ap Err q ∙ sym b)) (x.sorts ∙ sym y.sorts) x.memory y.memory x.outputs y.outputs
  one_by L M (Err c) (Ok (NoTyping l)) a b x y = absurd (refused_or_searched I c (tells_by I L (Err c) x) (tells_by I M (Ok (NoTyping l)) y).0)
  one_by L M (Err c) (Ok (Ambiguous l)) a b x y = absurd (refused_or_searched I c (tells_by I L (Err c) x) (tells_by I M (Ok (Ambiguous l)) y).0)
  one_by L M (Err c) (Ok (Typing p)) a b x y = absurd (refused_or_searched I c (tells_by I L (Err c) x) (tells_by I M (Ok (Typing p)) y).0)
  one_by L M (Ok (NoTyping k)) (Err d) a b x y = absurd (refused_or_searched I d (tells_by I M (Err d) y) (tells_by I L (Ok (NoTyping k)) x).0)
  one_by L M (Ok (NoTyping k)) (Ok (NoTyping l)) a b x y =
      let q : k ≡ l = x.searched.counted ∙ sym y.searched.counted in
      not_written I L M (a ∙ (ap (λ (n : Counts). Ok (NoTyping n)) q ∙ sym b)) (x.searched.made ∙ sym y.searched.made)
      x.searched.memory y.searched.memory x.outputs y.outputs
  one_by L M (Ok (NoTyping k)) (Ok (Ambiguous l)) a b x y = other_code (Ok (NoTyping k)) (Ok (Ambiguous l)) L M x y (λ e. omega (arith, e))
  one_by L M (Ok (NoTyping k)) (Ok (Typing p)) a b x y = other_code (Ok (NoTyping k)) (Ok (Typing p)) L M x y (λ e. omega (arith, e))
  one_by L M (Ok (Ambiguous k)) (Err d) a b x y = absurd (refused_or_searched I d (tells_by I M (Err d) y) (tells_by I L (Ok (Ambiguous k)) x).0)
  one_by L M (Ok (Ambiguous k)) (Ok (NoTyping l)) a b x y = other_code (Ok (Ambiguous k)) (Ok (NoTyping l)) L M x y (λ e. omega (arith, e))
  one_by L M (Ok (Ambiguous k)) (Ok (Ambiguous l)) a b x y =
      let q : k ≡ l = x.searched.counted ∙ sym y.searched.counted in
      not_written I L M (a ∙ (ap (λ (n : Counts). Ok (Ambiguous n)) q ∙ sym b)) (x.searched.made ∙ sym y.searched.made)
      x.searched.memory y.searched.memory x.outputs y.outputs
  one_by L M (Ok (Ambiguous k)) (Ok (Typing p)) a b x y = other_code (Ok (Ambiguous k)) (Ok (Typing p)) L M x y (λ e. omega (arith, e))
  one_by L M (Ok (Typing o)) (Err d) a b x y = absurd (refused_or_searched I d (tells_by I M (Err d) y) (tells_by I L (Ok (Typing o)) x).0)
  one_by L M (Ok (Typing o)) (Ok (NoTyping l)) a b x y = other_code (Ok (Typing o)) (Ok (NoTyping l)) L M x y (λ e. omega (arith, e))
  one_by L M (Ok (Typing o)) (Ok (Ambiguous l)) a b x y = other_code (Ok (Typing o)) (Ok (Ambiguous l)) L M x y (λ e. omega (arith, e))
  one_by L M (Ok (Typing o)) (Ok (Typing p)) a b x y = one_typing_left I L M o p x y a b

  -- What the entry says leaves one outcome, answer and words; so it holds exactly of the defined one.
  pub one_outcome : (L M : SolveLeft) → EntrySays I L → EntrySays I M → L ≡ M
  one_outcome L M s t = one_by L M L.answer M.answer refl refl s t

  pub entry_says_exactly : (L : SolveLeft) → EntrySays I L ↔ (L ≡ solve_entry I)
  entry_says_exactly L = (λ s. one_outcome L (solve_entry I) s (outcome_says I), λ e. subst (EntrySays I) (sym e) (outcome_says I))

  -- and the same of a packed answer
  pub packed_says_exactly : (q : PackedSolve) → PackedSays I q ↔ (q ≡ pack_solve_left (solve_entry I))
  packed_says_exactly q = (
    λ s.
        (λ j. record {
          result = s.packed j;
          sorts = q.sorts;
          nodes = q.nodes;
          binds = q.binds;
          scratch = q.scratch;
          index = q.index;
          typing = q.typing;
          measure = q.measure;
          choices = q.choices;
        })
        ∙ ap pack_solve_left ((entry_says_exactly (left_of s.answer q)).0 s.says),
    packed_says I q,
  )
