-- Bounds for buffers: with four letters for every word, the text of a sort, and of a join or meet of it with another sort, stays
-- below twice the line that it was read from. By induction on the sort and on its derivation. Assumes nothing.
use mathlib.Core.Path.{◌≡◌, refl, ap, subst}
use mathlib.Core.Bool.{Bool, true, false, cond, not}
use mathlib.Core.List.{List}
use mathlib.Core.Option.{Option, some, none}
use Prim.Native.Nat.{ℕ, ◌+◌, ◌*◌, ◌≤◌}
use native.Mathlib.Omega.{arith}
use lib.ListN.{length, length-append}
use lib.Dec.{eqb}
use Rattle.resolved_sort.specs.declared.ComplexSort.{ComplexSort}
use Rattle.resolved_sort.specs.Tree.{Flat, unit, primitive, def, typevar, Tree, flat, container, function, Trees}
use Rattle.resolved_sort.specs.Tree.{no_args, arg, family, level, family_op, level_op}
use Rattle.resolved_sort.specs.Order.{le_level, bound_flat, bound_op, map₁, map₂, bound, bounds}
use Rattle.sort_text.specs.Tokens.{is_letter}
use Rattle.sort_text.specs.Parse.{parsed, op_word, snoc, line}
use Rattle.sort_text.specs.Text.{flat_text, text, texts, more}
use Rattle.sort_text.proofs.Progress.{word_takes, open_bracket_takes, close_bracket_takes, hash_takes, arrow_takes}
use Rattle.sort_text.specs.Grammar.{Operand, basic_sort, container_of, SortOf, one_operand, function_of, Operands, first, another}
use Rattle.sort_text.proofs.Grammar.{line_derived}
use Rattle.sort_text.proofs.Words.{sort_word_length, op_word_length, basic_long, over_long}

-- the length of the text, were every word of four letters
unfoldable mutual
  pub wide : Tree → ℕ
  wide (flat a) = 4
  wide (container o t) = wide t + 6
  wide (function ts r) = wides ts + 4 + wide r

  pub wides : Trees → ℕ
  wides no_args = 0
  wides (arg t ts) = wide t + wider ts

  pub wider : Trees → ℕ
  wider no_args = 0
  wider (arg t ts) = wide t + wider ts + 3

flat_text_lem : (a : Flat) → length (flat_text a) ≤ 4
flat_text_lem unit = omega arith
flat_text_lem (primitive s) = (sort_word_length s).1
flat_text_lem (def n) = omega arith
flat_text_lem (typevar n) = omega arith

mutual
  unfolding wide wides wider text texts more

  pub text_length : (t : Tree) → length (text t) ≤ wide t
  text_length (flat a) = flat_text_lem a
  text_length (container o t) = simp length-append (omega (arith, (op_word_length o).1, text_length t))
  text_length (function ts r) = simp length-append (omega (arith, texts_length ts, text_length r))

  texts_length : (ts : Trees) → length (texts ts) ≤ wides ts
  texts_length no_args = omega arith
  texts_length (arg t ts) = simp length-append (omega (arith, text_length t, more_length ts))

  more_length : (ts : Trees) → length (more ts) ≤ wider ts
  more_length no_args = omega arith
  more_length (arg t ts) = simp length-append (omega (arith, text_length t, more_length ts))

wider_snoc : (ts : Trees) (t : Tree) → wider (snoc ts t) ≡ wider ts + wide t + 3
unfolding wider snoc
wider_snoc no_args t = omega arith
wider_snoc (arg s ts) t = omega (arith, wider_snoc ts t)

wides_snoc : (ts : Trees) (t : Tree) → wides (snoc ts t) ≤ wides ts + wide t + 3
unfolding wides wider snoc
wides_snoc no_args t = omega arith
wides_snoc (arg s ts) t = omega (arith, wider_snoc ts t)

mutual
  unfolding wide wides wider

  operand_wide : {bs cs : List ℕ} {t : Tree} → Operand bs t cs → wide t + 2 + 2 * length cs ≤ 2 * length bs
  operand_wide (basic_sort {bs} {w} {cs} {s} e m) = let a = word_takes is_letter bs w cs e in omega (arith, a, basic_long w s m)
  operand_wide (container_of {bs} {w} {cs} {ds} {es} {fs} {o} e m b h c) =
      let a = word_takes is_letter bs w cs e in
      omega (arith, a, over_long w o m, open_bracket_takes is_letter cs ds b, sort_wide h, close_bracket_takes is_letter es fs c)

  sort_wide : {bs cs : List ℕ} {t : Tree} → SortOf bs t cs → wide t + 2 + 2 * length cs ≤ 2 * length bs
  sort_wide (one_operand h) = operand_wide h
  sort_wide (function_of {cs = cs} {ds = ds} h l e k) = omega (arith, operands_wide h, arrow_takes is_letter cs ds e, sort_wide k)

  operands_wide : {bs cs : List ℕ} {ts : Trees} → Operands bs ts cs → wides ts + 2 + 2 * length cs ≤ 2 * length bs
  operands_wide (first h) = omega (arith, operand_wide h)
  operands_wide (another {cs = cs} {ds = ds} {ts = ts} {t = t} h e k i) = rw i
      (omega (arith, operands_wide h, hash_takes is_letter cs ds e, operand_wide k, wides_snoc ts t))

pub line_wide : (bs cs : List ℕ) (t : Tree) → line bs ≡ parsed t cs → wide t + 2 ≤ 2 * length bs
line_wide bs cs t e = omega (arith, sort_wide (line_derived bs cs t e).1)

-- The text of a sort that is read is at most twice the line.
pub line_text_length : (bs cs : List ℕ) (t : Tree) → line bs ≡ parsed t cs → length (text t) + 2 ≤ 2 * length bs
line_text_length bs cs t e = omega (arith, line_wide bs cs t e, text_length t)

-- what holds of an answer, if there is one
abbrev pub IfSome : {A : Type 0} → (A → Type 0) → Option A → Type 0
IfSome P none = Unit {0}
IfSome P (some a) = P a

pub map₁_if_some : {A B : Type 0} (P : A → Type 0) (Q : B → Type 0) (f : A → B) (x : Option A) → IfSome P x → ((a : A) → P a → Q (f a)) → IfSome Q (map₁ f x)
map₁_if_some P Q f none h k = tt
map₁_if_some P Q f (some a) h k = k a h

pub map₂_if_some : {A B C : Type 0} (P : A → Type 0) (Q : B → Type 0) (R : C → Type 0) (f : A → B → C) (x : Option A) (y : Option B)
    → IfSome P x → IfSome Q y → ((a : A) (b : B) → P a → Q b → R (f a b)) → IfSome R (map₂ f x y)
map₂_if_some P Q R f none y h i k = tt
map₂_if_some P Q R f (some a) none h i k = tt
map₂_if_some P Q R f (some a) (some b) h i k = k a b h i

pub any : {A : Type 0} (x : Option A) → IfSome (λ a. Unit {0}) x
any none = tt
any (some a) = tt

pub if_some_is : {A : Type 0} (P : A → Type 0) (x : Option A) (a : A) → IfSome P x → x ≡ some a → P a
if_some_is P x a h e = subst (IfSome P) e h

-- join and meet have the shape of their sorts
abbrev AsWide : Trees → Trees → Type 0
AsWide ss us = (wides us ≡ wides ss) × (wider us ≡ wider ss)

mutual
  unfolding wide wides wider bound bounds

  wide_if_bound : (up : Bool) (s t : Tree) → IfSome (λ u. wide u ≡ wide s) (bound up s t)
  wide_if_bound up (flat a) (flat b) = map₁_if_some (λ c. Unit {0}) (λ u. wide u ≡ 4) flat (bound_flat up a b) (any (bound_flat up a b)) (λ c h. refl)
  wide_if_bound up (flat a) (container p t) = tt
  wide_if_bound up (flat a) (function ts u) = tt
  wide_if_bound up (container o s) (flat b) = tt
  wide_if_bound up (container o s) (container p t) =
      map₂_if_some (λ q. Unit {0}) (λ v. wide v ≡ wide s) (λ u. wide u ≡ wide s + 6) container (bound_op up o p)
      (bound up s t) (any (bound_op up o p)) (wide_if_bound up s t)
      (λ q v h k. ap (λ n. n + 6) k)
  wide_if_bound up (container o s) (function ts u) = tt
  wide_if_bound up (function ss r) (flat b) = tt
  wide_if_bound up (function ss r) (container p t) = tt
  wide_if_bound up (function ss r) (function ts u) =
      map₂_if_some (AsWide ss) (λ v. wide v ≡ wide r) (λ w. wide w ≡ wides ss + 4 + wide r) function
      (bounds (not up) ss ts) (bound up r u) (wides_if_bound (not up) ss ts) (wide_if_bound up r u)
      (λ vs v h k. omega (arith, h.0, k))

  wides_if_bound : (up : Bool) (ss ts : Trees) → IfSome (AsWide ss) (bounds up ss ts)
  wides_if_bound up no_args no_args = (refl, refl)
  wides_if_bound up no_args (arg t ts) = tt
  wides_if_bound up (arg s ss) no_args = tt
  wides_if_bound up (arg s ss) (arg t ts) =
      map₂_if_some (λ v. wide v ≡ wide s) (AsWide ss) (AsWide (arg s ss)) arg (bound up s t) (bounds up ss ts) (wide_if_bound up s t) (wides_if_bound up ss ts)
      (λ v vs h k. (omega (arith, h, k.1), omega (arith, h, k.1)))

pub bound_wide : (up : Bool) (s t u : Tree) → bound up s t ≡ some u → wide u ≡ wide s
bound_wide up s t u e = if_some_is (λ v. wide v ≡ wide s) (bound up s t) u (wide_if_bound up s t) e

-- The text of a join or meet is at most twice the line of either sort.
pub line_bound_length : (bs cs : List ℕ) (s t u : Tree) (up : Bool) → line bs ≡ parsed s cs → bound up s t ≡ some u → length (text u) + 2 ≤ 2 * length bs
line_bound_length bs cs s t u up e h = omega (arith, line_wide bs cs s e, bound_wide up s t u h, text_length u)

-- Of any two sorts: at each place the text has a word of one of the two.
flat_either : (a b : Flat) (f l : Bool) → IfSome (λ c. length (flat_text c) ≤ length (flat_text a) + length (flat_text b)) (cond f (some (cond l b a)) none)
flat_either a b true true = omega arith
flat_either a b true false = omega arith
flat_either a b false l = tt

op_either : (o p : ComplexSort) (f l : Bool) → IfSome (λ q. length (op_word q) ≤ length (op_word o) + length (op_word p)) (cond f (some (cond l p o)) none)
op_either o p true true = omega arith
op_either o p true false = omega arith
op_either o p false l = tt

flat_bound_text : (up : Bool) (a b : Flat) → IfSome (λ c. length (flat_text c) ≤ length (flat_text a) + length (flat_text b)) (bound_flat up a b)
unfolding bound_flat
flat_bound_text up a b = flat_either a b (eqb (family a) (family b)) (le_level up (level a) (level b))

op_bound_text : (up : Bool) (o p : ComplexSort) → IfSome (λ q. length (op_word q) ≤ length (op_word o) + length (op_word p)) (bound_op up o p)
unfolding bound_op
op_bound_text up o p = op_either o p (eqb (family_op o) (family_op p)) (le_level up (level_op o) (level_op p))

-- no longer than both texts
abbrev Both : Tree → Tree → Tree → Type 0
Both s t u = length (text u) ≤ length (text s) + length (text t)

abbrev BothAll : Trees → Trees → Trees → Type 0
BothAll ss ts us = (length (texts us) ≤ length (texts ss) + length (texts ts)) × (length (more us) ≤ length (more ss) + length (more ts))

container_both : (o p q : ComplexSort) (s t v : Tree) → length (op_word q) ≤ length (op_word o) + length (op_word p)
    → Both s t v → Both (container o s) (container p t) (container q v)
unfolding text
container_both o p q s t v h k = simp length-append (omega arith)

function_both : (ss ts vs : Trees) (r u v : Tree) → BothAll ss ts vs → Both r u v → Both (function ss r) (function ts u) (function vs v)
unfolding text
function_both ss ts vs r u v h k = simp length-append (omega arith)

argument_both : (s t v : Tree) (ss ts vs : Trees) → Both s t v → BothAll ss ts vs → BothAll (arg s ss) (arg t ts) (arg v vs)
unfolding texts more
argument_both s t v ss ts vs h k = (simp length-append (omega (arith, h, k)), simp length-append (omega (arith, h, k)))

mutual
  unfolding bound bounds text texts more

  both_if_bound : (up : Bool) (s t : Tree) → IfSome (Both s t) (bound up s t)
  both_if_bound up (flat a) (flat b) =
      map₁_if_some (λ c. length (flat_text c) ≤ length (flat_text a) + length (flat_text b)) (Both (flat a) (flat b))
      flat (bound_flat up a b) (flat_bound_text up a b) (λ c h. h)
  both_if_bound up (flat a) (container p t) = tt
  both_if_bound up (flat a) (function ts u) = tt
  both_if_bound up (container o s) (flat b) = tt
  both_if_bound up (container o s) (container p t) =
      map₂_if_some (λ q. length (op_word q) ≤ length (op_word o) + length (op_word p)) (Both s t) (Both (container o s)
      (container p t)) container (bound_op up o p) (bound up s t)
      (op_bound_text up o p) (both_if_bound up s t) (λ q v h k. container_both o p q s t v h k)
  both_if_bound up (container o s) (function ts u) = tt
  both_if_bound up (function ss r) (flat b) = tt
  both_if_bound up (function ss r) (container p t) = tt
  both_if_bound up (function ss r) (function ts u) =
      map₂_if_some (BothAll ss ts) (Both r u) (Both (function ss r) (function ts u)) function (bounds (not up) ss ts)
      (bound up r u) (boths_if_bound (not up) ss ts) (both_if_bound up r u)
      (λ vs v h k. function_both ss ts vs r u v h k)

  boths_if_bound : (up : Bool) (ss ts : Trees) → IfSome (BothAll ss ts) (bounds up ss ts)
  boths_if_bound up no_args no_args = omega arith
  boths_if_bound up no_args (arg t ts) = tt
  boths_if_bound up (arg s ss) no_args = tt
  boths_if_bound up (arg s ss) (arg t ts) =
      map₂_if_some (Both s t) (BothAll ss ts) (BothAll (arg s ss) (arg t ts)) arg (bound up s t) (bounds up ss ts)
      (both_if_bound up s t) (boths_if_bound up ss ts)
      (λ v vs h k. argument_both s t v ss ts vs h k)

pub bound_text_length : (up : Bool) (s t u : Tree) → bound up s t ≡ some u → length (text u) ≤ length (text s) + length (text t)
bound_text_length up s t u e = if_some_is (Both s t) (bound up s t) u (both_if_bound up s t) e

-- For lines of at most 200 bytes.
pub text_below_400 : (bs cs : List ℕ) (t : Tree) → length bs ≤ 200 → line bs ≡ parsed t cs → length (text t) ≤ 398
text_below_400 bs cs t l e = omega (arith, line_text_length bs cs t e)

pub bound_text_below_400 : (bs cs : List ℕ) (s t u : Tree) (up : Bool) → length bs ≤ 200 → line bs ≡ parsed s cs → bound up s t ≡ some u → length (text u) ≤ 398
bound_text_below_400 bs cs s t u up l e h = omega (arith, line_bound_length bs cs s t u up e h)
