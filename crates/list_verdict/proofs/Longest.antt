-- No piece of a verdict's text is longer than specs/Longest.antt says: by the pieces that it is made of, rows by induction, words
-- and messages by looking through their lists. Assumes nothing.
use mathlib.Core.Path.{◌≡◌, refl, subst}
use mathlib.Core.Bool.{Bool, true, false, cond, ◌&&◌, and-eq-true_iff}
use mathlib.Core.List.{List, [], ◌∷◌, ◌++◌}
use Prim.Native.Nat.{ℕ, zero, suc, ◌+◌, ◌-◌, ◌*◌, ◌/◌, ◌%◌, ◌<◌, ◌≤◌}
use native.Mathlib.Omega.{arith}
use native.Mathlib.Nat.{suc-mul}
use lib.ListN.{length, get_or, length-append}
use lib.Dec.{eqb, ltb, leb}
use borrow.Author.Tests.{leb-true, eqb-true}
use Rattle.text_out.specs.Quoted.{byte_of, bytes_of}
use Rattle.text_out.specs.Decimal.{digit, decimal}
use Rattle.resolved_sort.specs.Tree.{Tree}
use Rattle.resolved_sort.specs.Storage.{max_sorts, kind_at, part_at, start_at, count_at, entry_at, function_kind}
use Rattle.resolved_sort.specs.Checks.{rows_fine, row_fine_of}
use Rattle.resolved_sort.specs.Entries.{tree_at}
use Rattle.resolved_sort.specs.Rows.{Checked}
use Rattle.resolved_sort.proofs.Below.{below_each}
use Rattle.resolved_sort.proofs.Fine.{run_inside}
use Rattle.sort_text.specs.Text.{writable, text, arrow_text}
use Rattle.list_verdict.specs.Words.{kind_words, kind_word, verdict_messages, message, variable_text, builtin_text, op_text, measure_text, choices_text, no_choices_text, new_text}
use Rattle.list_verdict.specs.Text.{rows_text, name, sort_name, short, sort_text, target_text, expr_line, separator, component, measure_line}
use Rattle.list_verdict.specs.Text.{choice_text, choice_list, choices_line, argument_text, parts, new_line, verdict_line, new_lines, typing_text}
use Rattle.list_verdict.specs.Longest.{most_verdict_line, most_expr_line, most_measure_line, most_choices_line, most_new_line, most_typing}

-- a text of at most k bytes
pub record AtMost (k : ℕ) (xs : List ℕ) : Type 0 where
  pub is : length xs ≤ k

-- one of two texts
either : (k : ℕ) (b : Bool) (xs ys : List ℕ) → AtMost k xs → AtMost k ys → AtMost k (cond b xs ys)
either k true xs ys h l = h
either k false xs ys h l = l

-- one text after another
joined : (m n : ℕ) (xs ys : List ℕ) → AtMost m xs → AtMost n ys → AtMost (m + n) (xs ++ ys)
joined m n xs ys h l = record { is = omega (arith, length-append xs ys, h.is, l.is) }

more_room : {m : ℕ} {xs : List ℕ} (n : ℕ) → AtMost m xs → m ≤ n → AtMost n xs
more_room n h l = record { is = omega (arith, h.is, l) }

-- a text of a list of them
unfoldable all_short : ℕ → List (List ℕ) → Bool
all_short k [] = true
all_short k (l ∷ ls) = leb (length l) k && all_short k ls

one_of : (k : ℕ) (ls : List (List ℕ)) (d : List ℕ) → all_short k ls ≡ true → AtMost k d → (i : ℕ) → AtMost k (get_or ls i d)
unfolding all_short
one_of k [] d h l i = l
one_of k (x ∷ ls) d h l zero = record { is = leb-true (length x) k ((and-eq-true_iff (leb (length x) k) (all_short k ls)).0 h).0 }
one_of k (x ∷ ls) d h l (suc i) = one_of k ls d ((and-eq-true_iff (leb (length x) k) (all_short k ls)).0 h).1 l i

-- numbers
digit_length : (unit n : ℕ) → AtMost 1 (digit unit n)
unfolding digit
digit_length unit n = either 1 (ltb n unit) [] ((byte_of "0" + n / unit % 10) ∷ []) (record { is = omega arith }) (record { is = omega arith })

decimal_length : (n : ℕ) → AtMost 5 (decimal n)
unfolding decimal
decimal_length n =
    joined 1 4 (digit 10000 n) _ (digit_length 10000 n)
    (joined 1 3 (digit 1000 n) _ (digit_length 1000 n)
    (joined 1 2 (digit 100 n) _ (digit_length 100 n)
    (joined 1 1 (digit 10 n) ((byte_of "0" + n % 10) ∷ []) (digit_length 10 n) (record { is = omega arith }))))

name_length : (letter n : ℕ) → AtMost 6 (name letter n)
unfolding name
name_length letter n = record { is = omega (arith, (decimal_length n).is) }

-- words
kind_length : (k : ℕ) → AtMost 7 (kind_word k)
unfolding kind_word all_short
kind_length k = one_of 7 kind_words (bytes_of "TypeVar") refl (record { is = omega arith }) k

message_length : (c : ℕ) → AtMost 120 (message c)
unfolding message all_short
message_length c = one_of 120 verdict_messages [] refl (record { is = omega arith }) c

line_end : AtMost 1 (bytes_of "\n")
line_end = record { is = omega arith }

space : AtMost 1 (bytes_of " ")
space = record { is = omega arith }

pub verdict_length : (c : ℕ) → AtMost most_verdict_line (verdict_line c)
unfolding verdict_line
verdict_length c =
    joined 5 122 (decimal c) (bytes_of " " ++ (message c ++ bytes_of "\n")) (decimal_length c)
    (joined 1 121 (bytes_of " ") (message c ++ bytes_of "\n") space (joined 120 1 (message c) (bytes_of "\n") (message_length c) line_end))

-- rows
rows_length : (row : ℕ → List ℕ) (k m i : ℕ) → ((j : ℕ) → i ≤ j → j < i + m → AtMost k (row j)) → AtMost (m * k) (rows_text row m i)
unfolding rows_text
rows_length row k zero i h = record { is = omega arith }
rows_length row k (suc m) i h =
    subst (λ (n : ℕ). AtMost n (row i ++ rows_text row m (i + 1))) (more m k)
    (joined k (m * k) (row i) (rows_text row m (i + 1)) (h i (omega arith) (omega arith))
    (rows_length row k m (i + 1) (λ j a b. h j (omega (arith, a)) (omega (arith, b)))))
  where
    more : (m k : ℕ) → k + m * k ≡ suc m * k
    more m k = let s = suc-mul m k in omega (arith, s)

-- sorts
sort_name_length : (s : ℕ) → AtMost 7 (sort_name s)
unfolding sort_name
sort_name_length s = either 7 (ltb s 6) (kind_word s) (name (byte_of "s") s) (kind_length s) (more_room 7 (name_length (byte_of "s") s) (omega arith))

text_length_by : (t : Tree) (s : ℕ) (b : Bool) → short t ≡ b → AtMost 200 (cond b (text t) (name (byte_of "s") s))
unfolding short
text_length_by t s true e = record { is = leb-true (length (text t)) 200 ((and-eq-true_iff (writable t) (leb (length (text t)) 200)).0 e).1 }
text_length_by t s false e = more_room 200 (name_length (byte_of "s") s) (omega arith)

module _ (ws : List ℕ) (n : ℕ) where
  sort_text_length : (s : ℕ) → AtMost 200 (sort_text ws n s)
  unfolding sort_text
  sort_text_length s = text_length_by (tree_at ws n s) s (short (tree_at ws n s)) refl

  target_length : (kind s : ℕ) → AtMost 205 (target_text ws n kind s)
  unfolding target_text
  target_length kind s =
      either 205 (eqb kind 1) variable_text (cond (eqb kind 2) (op_text ++ sort_text ws n s) (cond (eqb kind 3) builtin_text [])) (record { is = omega arith })
      (either 205 (eqb kind 2) (op_text ++ sort_text ws n s) (cond (eqb kind 3) builtin_text [])
      (joined 5 200 op_text (sort_text ws n s) (record { is = omega arith }) (sort_text_length s))
      (either 205 (eqb kind 3) builtin_text [] (record { is = omega arith }) (record { is = omega arith })))

  expr_length : (ts : List ℕ) (i : ℕ) → AtMost most_expr_line (expr_line ws n ts i)
  unfolding expr_line
  expr_length ts i =
      let s = get_or ts (3 * i) 0 in
      let k = get_or ts (3 * i + 1) 0 in
      let t = get_or ts (3 * i + 2) 0 in
      joined 6 408 (name (byte_of "e") i) (bytes_of ": " ++ (sort_text ws n s ++ (target_text ws n k t ++ bytes_of "\n"))) (name_length (byte_of "e") i)
      (joined 2 406 (bytes_of ": ") (sort_text ws n s ++ (target_text ws n k t ++ bytes_of "\n")) (record { is = omega arith })
      (joined 200 206 (sort_text ws n s) (target_text ws n k t ++ bytes_of "\n") (sort_text_length s)
      (joined 205 1 (target_text ws n k t) (bytes_of "\n") (target_length k t) line_end)))

-- measure and choices
separator_length : (i : ℕ) → AtMost 2 (separator i)
unfolding separator
separator_length i = either 2 (eqb i 0) [] (bytes_of ", ") (record { is = omega arith }) (record { is = omega arith })

component_length : (ms : List ℕ) (i : ℕ) → AtMost 7 (component ms i)
unfolding component
component_length ms i = joined 2 5 (separator i) (decimal (get_or ms i 0)) (separator_length i) (decimal_length (get_or ms i 0))

measure_length : (ms : List ℕ) (m : ℕ) → AtMost (most_measure_line m) (measure_line ms m)
unfolding measure_line
measure_length ms m =
    joined 9 (m * 7 + 2) measure_text (rows_text (component ms) m 0 ++ bytes_of "]\n") (record { is = omega arith })
    (joined (m * 7) 2 (rows_text (component ms) m 0) (bytes_of "]\n") (rows_length (component ms) 7 m 0 (λ j a b. component_length ms j)) (record { is = omega arith }))

choice_length : (cs : List ℕ) (i : ℕ) → AtMost 14 (choice_text cs i)
unfolding choice_text
choice_length cs i =
    let x = get_or cs (2 * i) 0 in
    let p = get_or cs (2 * i + 1) 0 in
    joined 2 12 (separator i) (name (byte_of "e") x ++ (bytes_of " " ++ decimal p)) (separator_length i)
    (joined 6 6 (name (byte_of "e") x) (bytes_of " " ++ decimal p) (name_length (byte_of "e") x)
    (joined 1 5 (bytes_of " ") (decimal p) space (decimal_length p)))

choice_list_length : (cs : List ℕ) (k : ℕ) → AtMost (4 + k * 14) (choice_list cs k)
unfolding choice_list
choice_list_length cs k =
    either (4 + k * 14) (eqb k 0) no_choices_text (rows_text (choice_text cs) k 0) (record { is = omega arith })
    (more_room (4 + k * 14) (rows_length (choice_text cs) 14 k 0 (λ j a b. choice_length cs j)) (omega arith))

choices_length : (cs : List ℕ) (k : ℕ) → AtMost (most_choices_line k) (choices_line cs k)
unfolding choices_line
choices_length cs k =
    joined 8 (4 + k * 14 + 1) choices_text (choice_list cs k ++ bytes_of "\n") (record { is = omega arith })
    (joined (4 + k * 14) 1 (choice_list cs k) (bytes_of "\n") (choice_list_length cs k) line_end)

pub typing_length : (ws : List ℕ) (n : ℕ) (ts ms cs : List ℕ) (x m k : ℕ) → AtMost (most_typing x m k) (typing_text ws n ts ms cs x m k)
unfolding typing_text
typing_length ws n ts ms cs x m k =
    joined (x * most_expr_line) (most_measure_line m + most_choices_line k) (rows_text (expr_line ws n ts) x 0) (measure_line ms m ++ choices_line cs k)
    (rows_length (expr_line ws n ts) most_expr_line x 0 (λ j a b. expr_length ws n ts j))
    (joined (most_measure_line m) (most_choices_line k) (measure_line ms m) (choices_line cs k) (measure_length ms m) (choices_length cs k))

-- the sorts made: a function has at most 16 arguments
module _ (ws : List ℕ) where
  argument_length : (j : ℕ) → AtMost 8 (argument_text ws j)
  unfolding argument_text
  argument_length j = joined 1 7 (bytes_of " ") (sort_name (entry_at ws j)) space (sort_name_length (entry_at ws j))

  abbrev function_text : ℕ → List ℕ
  function_text i = rows_text (argument_text ws) (count_at ws i) (start_at ws i) ++ (arrow_text ++ sort_name (part_at ws i))

  function_length : (i : ℕ) → count_at ws i ≤ 16 → AtMost 139 (function_text i)
  function_length i h =
      joined 128 11 (rows_text (argument_text ws) (count_at ws i) (start_at ws i)) (arrow_text ++ sort_name (part_at ws i))
      (more_room 128 (rows_length (argument_text ws) 8 (count_at ws i) (start_at ws i) (λ j a b. argument_length j)) (omega (arith, h)))
      (joined 4 7 arrow_text (sort_name (part_at ws i)) (record { is = omega arith }) (sort_name_length (part_at ws i)))

  function_or : (i : ℕ) (b : Bool) → eqb (kind_at ws i) function_kind ≡ b → (kind_at ws i ≡ function_kind → count_at ws i ≤ 16)
      → AtMost 139 (cond b (function_text i) (bytes_of " " ++ decimal (part_at ws i)))
  function_or i true e h = function_length i (h (eqb-true (kind_at ws i) function_kind e))
  function_or i false e h = more_room 139 (joined 1 5 (bytes_of " ") (decimal (part_at ws i)) space (decimal_length (part_at ws i))) (omega arith)

  parts_length : (i : ℕ) → (kind_at ws i ≡ function_kind → count_at ws i ≤ 16) → AtMost 139 (parts ws i)
  unfolding parts
  parts_length i h =
      let function = cond (eqb (kind_at ws i) function_kind) (function_text i) (bytes_of " " ++ decimal (part_at ws i)) in
      either 139 (ltb (kind_at ws i) 6) [] (cond (ltb (kind_at ws i) function_kind) (bytes_of " " ++ sort_name (part_at ws i)) function) (record { is = omega arith })
      (either 139 (ltb (kind_at ws i) function_kind) (bytes_of " " ++ sort_name (part_at ws i)) function
      (more_room 139 (joined 1 7 (bytes_of " ") (sort_name (part_at ws i)) space (sort_name_length (part_at ws i))) (omega arith))
      (function_or i (eqb (kind_at ws i) function_kind) refl h))

  new_length : (i : ℕ) → (kind_at ws i ≡ function_kind → count_at ws i ≤ 16) → AtMost most_new_line (new_line ws i)
  unfolding new_line
  new_length i h =
      let kind = kind_word (kind_at ws i) in
      joined 4 154 new_text (name (byte_of "s") i ++ (bytes_of " " ++ (kind ++ (parts ws i ++ bytes_of "\n")))) (record { is = omega arith })
      (joined 6 148 (name (byte_of "s") i) (bytes_of " " ++ (kind ++ (parts ws i ++ bytes_of "\n"))) (name_length (byte_of "s") i)
      (joined 1 147 (bytes_of " ") (kind ++ (parts ws i ++ bytes_of "\n")) space
      (joined 7 140 kind (parts ws i ++ bytes_of "\n") (kind_length (kind_at ws i))
      (joined 139 1 (parts ws i) (bytes_of "\n") (parts_length i h) line_end))))

  pub new_lines_length : (g n e : ℕ) → Checked ws n e → AtMost (max_sorts * most_new_line) (new_lines ws g n)
  unfolding new_lines rows_fine
  new_lines_length g n e c =
      more_room (max_sorts * most_new_line) (rows_length (new_line ws) most_new_line (n - g) g (λ j a b. new_length j (λ f. (run_inside ws e j
      (below_each n (row_fine_of ws e) c.fine j (omega (arith, a, b))) f).short))) (omega (arith, c.sorts))
