-- A place's word tells which sort or node it names: sorts stand below 1,024 and nodes from there on, each at its own number. And a line that
-- makes a row of sorts, nodes, variables or expressions names the next one. By the cases of a word and of a line. Assumes nothing.
use mathlib.Core.Path.{◌≡◌, refl}
use mathlib.Core.Bool.{Bool, true, false, cond}
use mathlib.Core.List.{List}
use Prim.Native.Nat.{ℕ, ◌+◌, ◌<◌}
use native.Mathlib.Omega.{arith}
use borrow.Author.Tests.{ltb-true}
use Rattle.std.specs.Prelude.{Result, Ok, Err}
use Rattle.list_memory.specs.declared.Form.{Form}
use Rattle.list_memory.specs.declared.Table.{Table}
use Rattle.list_tokens.specs.declared.Token.{Token}
use Rattle.list_forms.specs.declared.Item.{Item}
use Rattle.list_forms.specs.declared.Plan.{Plan}
use Rattle.list_forms.specs.Items.{is_of, token_at, word_of}
use Rattle.list_forms.specs.Lines.{is_next, sort_plan, node_plan, expr_plan, var_plan}

pub sort_as_a_place_is_its_number : (n : ℕ) → is_of Item.Place (Token.Sort n) ≡ true → (word_of (Token.Sort n) ≡ n) × (n < 1024)
unfolding is_of word_of
sort_as_a_place_is_its_number n h = (refl, ltb-true n 1024 h)

pub node_as_a_place_is_1024_above_its_number : (n : ℕ) → is_of Item.Place (Token.Node n) ≡ true → (word_of (Token.Node n) ≡ n + 1024) × (n + 1024 < 65536)
unfolding is_of word_of
node_as_a_place_is_1024_above_its_number n h = (rw h refl, omega (arith, ltb-true n 64512 h))

-- "a line that makes a row names it, and the name must be the next one"
named : (b : Bool) (r : Result Plan Form) (f : Form) (p : Plan) → cond b r (Err f) ≡ Ok p → b ≡ true
named true r f p e = refl
named false r f p e = absurd cc

module _ (ws : List ℕ) (t : List Token) (p : Plan) where
  pub sort_line_names_the_next : sort_plan ws t ≡ Ok p → is_next ws (token_at t 1) Table.Sorts ≡ true
  unfolding sort_plan
  sort_line_names_the_next e = named _ _ _ p e

  pub node_line_names_the_next : node_plan ws t ≡ Ok p → is_next ws (token_at t 1) Table.Nodes ≡ true
  unfolding node_plan
  node_line_names_the_next e = named _ _ _ p e

  pub expr_line_names_the_next : expr_plan ws t ≡ Ok p → is_next ws (token_at t 1) Table.Exprs ≡ true
  unfolding expr_plan
  expr_line_names_the_next e = named _ _ _ p e

  pub var_line_names_the_next : var_plan ws t ≡ Ok p → (is_next ws (token_at t 1) Table.Vars ≡ true) × (is_next ws (token_at t 2) Table.Nodes ≡ true)
  unfolding var_plan
  var_line_names_the_next e = go _ _ _ _ e
    where
      go : (a b c : Bool) (r : Result Plan Form) → cond a (cond b (cond c r (Err Form.Next)) (Err Form.Next)) (Err Form.Var) ≡ Ok p → (b ≡ true) × (c ≡ true)
      go true true true r e = (refl, refl)
      go true true false r e = absurd cc
      go true false c r e = absurd cc
      go false b c r e = absurd cc
