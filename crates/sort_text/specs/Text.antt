-- Writing a sort: "the writer joins argument texts by ` # `, then ` -> ` and the range". Unit, Def, TypeVar and
-- functions without arguments have no text (13).
use Rattle.std.specs.Prelude.{Bool, true, false, ◌&&◌, List, [], ◌++◌, ℕ}
use Rattle.text_out.specs.Quoted.{bytes_of}
use Rattle.resolved_sort.specs.Tree.{Flat, unit, primitive, def, typevar, Tree, flat, container, function, Trees}
use Rattle.resolved_sort.specs.Tree.{no_args, arg}
use Rattle.sort_text.specs.Parse.{sort_word, op_word}

-- whether a function has an argument
abbrev pub nonempty : Trees → Bool
nonempty no_args = false
nonempty (arg t ts) = true

abbrev pub flat_writable : Flat → Bool
flat_writable unit = false
flat_writable (primitive s) = true
flat_writable (def n) = false
flat_writable (typevar n) = false

unfoldable mutual
  pub writable : Tree → Bool
  writable (flat a) = flat_writable a
  writable (container o t) = writable t
  writable (function ts r) = nonempty ts && writables ts && writable r

  pub writables : Trees → Bool
  writables no_args = true
  writables (arg t ts) = writable t && writables ts

abbrev pub between_text : List ℕ
between_text = bytes_of " # "

abbrev pub arrow_text : List ℕ
arrow_text = bytes_of " -> "

abbrev pub flat_text : Flat → List ℕ
flat_text unit = []
flat_text (primitive s) = sort_word s
flat_text (def n) = []
flat_text (typevar n) = []

-- The text of an argument, from that of the sort. (A later request puts brackets around functions here.)
abbrev pub argument : Tree → List ℕ → List ℕ
argument t bs = bs

unfoldable mutual
  pub text : Tree → List ℕ
  text (flat a) = flat_text a
  text (container o t) = op_word o ++ (bytes_of "(" ++ (text t ++ bytes_of ")"))
  text (function ts r) = texts ts ++ (arrow_text ++ text r)

  -- the arguments of a function, joined
  pub texts : Trees → List ℕ
  texts no_args = []
  texts (arg t ts) = argument t (text t) ++ more ts

  pub more : Trees → List ℕ
  more no_args = []
  more (arg t ts) = between_text ++ (argument t (text t) ++ more ts)
