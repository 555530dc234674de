-- Reading a line as a sort: "`#` binds tighter than `->`, arrows group to the right"; "round brackets stand only after
-- a container word"; at most 16 arguments. Where the line is no sort, what is left of it from the first token that
-- cannot follow.
use Rattle.std.specs.Prelude.{Bool, true, false, cond, ◌&&◌, List, [], ◌∷◌, ◌++◌, ℕ, zero, suc, ◌-◌, length, eqb, ◌≡◌}
use Rattle.text_out.specs.Quoted.{bytes_of}
use Rattle.resolved_sort.specs.declared.Sort.{Sort}
use Rattle.resolved_sort.specs.declared.ComplexSort.{ComplexSort}
use Rattle.resolved_sort.specs.Tree.{primitive, Tree, flat, container, function, Trees, no_args, arg}
use Rattle.sort_text.specs.Tokens.{is_letter, NextToken, end, word, open_bracket, close_bracket, hash, arrow}
use Rattle.sort_text.specs.Tokens.{bad, skip, next}
use Rattle.resolved_sort.specs.Storage.{max_arguments}

-- a sort and what is left of the line after it, or what is left from the first token that cannot follow
pub data Parsed : Type 0 where
  parsed : Tree → List ℕ → Parsed
  stuck : List ℕ → Parsed

abbrev pub ◌then-read◌ : Parsed → (Tree → List ℕ → Parsed) → Parsed
(parsed t bs) then-read k = k t bs
(stuck bs) then-read k = stuck bs

infixl 20 ◌then-read◌
unfoldable pub same_bytes : List ℕ → List ℕ → Bool
same_bytes [] [] = true
same_bytes [] (c ∷ cs) = false
same_bytes (b ∷ bs) [] = false
same_bytes (b ∷ bs) (c ∷ cs) = eqb b c && same_bytes bs cs

-- the words of mCRL2 spelling
unfoldable pub sort_word : Sort → List ℕ
sort_word Sort.Bool = bytes_of "Bool"
sort_word Sort.Pos = bytes_of "Pos"
sort_word Sort.Nat = bytes_of "Nat"
sort_word Sort.Int = bytes_of "Int"
sort_word Sort.Real = bytes_of "Real"

unfoldable pub op_word : ComplexSort → List ℕ
op_word ComplexSort.List = bytes_of "List"
op_word ComplexSort.Set = bytes_of "Set"
op_word ComplexSort.FSet = bytes_of "FSet"
op_word ComplexSort.Bag = bytes_of "Bag"
op_word ComplexSort.FBag = bytes_of "FBag"

pub data WordMeaning : Type 0 where
  basic : Sort → WordMeaning
  operator : ComplexSort → WordMeaning
  unknown : WordMeaning

unfoldable pub meaning : List ℕ → WordMeaning
meaning w =
    cond (same_bytes w (sort_word Sort.Bool)) (basic Sort.Bool)
    (cond (same_bytes w (sort_word Sort.Pos)) (basic Sort.Pos)
    (cond (same_bytes w (sort_word Sort.Nat)) (basic Sort.Nat)
    (cond (same_bytes w (sort_word Sort.Int)) (basic Sort.Int)
    (cond (same_bytes w (sort_word Sort.Real)) (basic Sort.Real)
    (cond (same_bytes w (op_word ComplexSort.List)) (operator ComplexSort.List)
    (cond (same_bytes w (op_word ComplexSort.Set)) (operator ComplexSort.Set)
    (cond (same_bytes w (op_word ComplexSort.FSet)) (operator ComplexSort.FSet)
    (cond (same_bytes w (op_word ComplexSort.Bag)) (operator ComplexSort.Bag)
    (cond (same_bytes w (op_word ComplexSort.FBag)) (operator ComplexSort.FBag) unknown)))))))))

-- `)` after the sort in brackets
unfoldable pub closing : Tree → List ℕ → NextToken → Parsed
closing t at (close_bracket bs) = parsed t bs
closing t at end = stuck at
closing t at (word w bs) = stuck at
closing t at (open_bracket bs) = stuck at
closing t at (hash bs) = stuck at
closing t at (arrow bs) = stuck at
closing t at bad = stuck at

-- after `(`: a sort, and `)`
unfoldable pub in_brackets : (List ℕ → Parsed) → List ℕ → Parsed
in_brackets sort bs = sort bs then-read (λ t cs. closing t (skip cs) (next is_letter cs))

-- `(` after a container word, the sort in it, and `)`
unfoldable pub bracketed : (List ℕ → Parsed) → ComplexSort → List ℕ → NextToken → Parsed
bracketed sort o at (open_bracket bs) = in_brackets sort bs then-read (λ t cs. parsed (container o t) cs)
bracketed sort o at end = stuck at
bracketed sort o at (word w bs) = stuck at
bracketed sort o at (close_bracket bs) = stuck at
bracketed sort o at (hash bs) = stuck at
bracketed sort o at (arrow bs) = stuck at
bracketed sort o at bad = stuck at

unfoldable pub operand_of : (List ℕ → Parsed) → List ℕ → WordMeaning → List ℕ → Parsed
operand_of sort at (basic s) bs = parsed (flat (primitive s)) bs
operand_of sort at (operator o) bs = bracketed sort o (skip bs) (next is_letter bs)
operand_of sort at unknown bs = stuck at

-- an operand: a basic sort, or a container over a sort in brackets
unfoldable pub operand_at : (List ℕ → Parsed) → List ℕ → NextToken → Parsed
operand_at sort at (word w bs) = operand_of sort at (meaning w) bs
operand_at sort at end = stuck at
operand_at sort at (open_bracket bs) = stuck at
operand_at sort at (close_bracket bs) = stuck at
operand_at sort at (hash bs) = stuck at
operand_at sort at (arrow bs) = stuck at
operand_at sort at bad = stuck at

unfoldable pub operand : (List ℕ → Parsed) → List ℕ → Parsed
operand sort bs = operand_at sort (skip bs) (next is_letter bs)

unfoldable pub snoc : Trees → Tree → Trees
snoc no_args t = arg t no_args
snoc (arg s ss) t = arg s (snoc ss t)

-- one operand alone is a sort; several are the arguments of a function and want an arrow
unfoldable pub alone : Trees → List ℕ → List ℕ → Parsed
alone no_args at bs = stuck at
alone (arg t no_args) at bs = parsed t bs
alone (arg t (arg u us)) at bs = stuck at

-- after the operands ts: `#` and what comes then, `->` and the range, or the end of the sort
unfoldable pub rest_at : (List ℕ → Parsed) → Trees → List ℕ → List ℕ → (List ℕ → Parsed) → NextToken → Parsed
rest_at sort ts at bs more (hash cs) = more cs
rest_at sort ts at bs more (arrow cs) = sort cs then-read (λ r ds. parsed (function ts r) ds)
rest_at sort ts at bs more end = alone ts at bs
rest_at sort ts at bs more (word w cs) = alone ts at bs
rest_at sort ts at bs more (open_bracket cs) = alone ts at bs
rest_at sort ts at bs more (close_bracket cs) = alone ts at bs
rest_at sort ts at bs more bad = alone ts at bs

-- of operands k more may come; a seventeenth argument's `#` cannot follow
unfoldable pub rest : (List ℕ → Parsed) → ℕ → Trees → List ℕ → Parsed
rest sort zero ts bs = rest_at sort ts (skip bs) bs (λ cs. stuck (skip bs)) (next is_letter bs)
rest sort (suc k) ts bs =
    rest_at sort ts (skip bs) bs (λ cs. operand sort cs then-read (λ t ds. rest sort k (snoc ts t) ds))
    (next is_letter bs)

-- a sort, read to a depth of brackets and arrows
unfoldable pub sort_to : ℕ → List ℕ → Parsed
sort_to zero bs = stuck bs
sort_to (suc d) bs = operand (sort_to d) bs then-read (λ t cs. rest (sort_to d) (max_arguments - 1) (arg t no_args) cs)

-- Each bracket and arrow takes a byte of the line, so its length is depth enough.
unfoldable pub sort : List ℕ → Parsed
sort bs = sort_to (suc (length bs)) bs

-- after the sort of a line nothing but spaces
unfoldable pub ending : Tree → List ℕ → NextToken → Parsed
ending t at end = parsed t []
ending t at (word w bs) = stuck at
ending t at (open_bracket bs) = stuck at
ending t at (close_bracket bs) = stuck at
ending t at (hash bs) = stuck at
ending t at (arrow bs) = stuck at
ending t at bad = stuck at

unfoldable pub line : List ℕ → Parsed
line bs = sort bs then-read (λ t cs. ending t (skip cs) (next is_letter cs))

-- the first list is an end of the second
pub record Suffix (cs bs : List ℕ) : Type 0 where
  pub front : List ℕ
  pub whole : bs ≡ front ++ cs

-- what an answer leaves of the line
abbrev pub left : Parsed → List ℕ
left (parsed t bs) = bs
left (stuck bs) = bs

-- a reader that leaves an end of what it is given
abbrev pub Leaves : (List ℕ → Parsed) → Type 0
Leaves f = (bs : List ℕ) → Suffix (left (f bs)) bs
