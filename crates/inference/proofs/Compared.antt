-- Lists with the answers of the excerpt of merc, computed by the definition that the solver's contract cites: code, sorts and names of the
-- expressions, measure, choices, and the sorts that are kept. Written by oracle/computed.sh. By computation. Assumes nothing.
use mathlib.Core.Path.{◌≡◌, refl}
use mathlib.Core.List.{List, [], ◌∷◌, map}
use Prim.Native.Nat.{ℕ, ◌+◌, ◌*◌, ◌-◌}
use lib.ListN.{length, replicate, take, drop}
use Rattle.std.specs.Prelude.{Ok, Err}
use Rattle.resolved_sort.specs.Checks.{code_of}
use Rattle.resolved_sort.specs.declared.Counts.{Counts}
use Rattle.inference.specs.declared.Verdict.TheVariants.{NoTyping, Ambiguous, Typing}
use Rattle.inference.specs.Search.{Choice}
use Rattle.inference.specs.SolveEntry.{Solved, SolveLeft, code_solved, measure_out, choices_out}
use Rattle.inference.specs.Situations.{GivenList, solved_list, four_words, row_sub, row_lit, row_disjunction, row_comprehension, row_join}

given : List ℕ → List ℕ → List ℕ → List ℕ → List ℕ → List ℕ → List ℕ → List ℕ → List ℕ → List ℕ → ℕ → GivenList
given sorts entries nodes arguments binds exprs names constraints overloads sources default =
    record {
      sorts = sorts;
      entries = entries;
      nodes = nodes;
      arguments = arguments;
      binds = binds;
      exprs = exprs;
      names = names;
      constraints = constraints;
      overloads = overloads;
      sources = sources;
      default = default;
    }

-- the code; for a typing the rows of expressions, the measure and the choices; the rows and the entries of new sorts, in order of making
pub record Outcome : Type 0 where
  pub code : ℕ
  pub typing : List ℕ
  pub measure : List ℕ
  pub choices : List Choice
  pub rows : List ℕ
  pub entries : List ℕ

outcome : ℕ → List ℕ → List ℕ → List Choice → List ℕ → List ℕ → Outcome
outcome code typing measure choices rows entries =
    record { code = code; typing = typing; measure = measure; choices = choices; rows = rows; entries = entries }

-- the words from a up to b
between : ℕ → ℕ → List ℕ → List ℕ
between a b ws = take (b - a) (drop a ws)

-- k counts the sorts that are kept
keeping : GivenList → SolveLeft → Counts → List ℕ → List ℕ → List Choice → Outcome
keeping G L k typing measure choices =
    outcome (code_solved L.answer) typing measure choices (between (24 + length G.sorts) (4 * k.sorts) L.sorts)
    (between (4096 + length G.entries) (4096 + k.entries) L.sorts)

abbrev outcome_by : GivenList → SolveLeft → Solved → Outcome
outcome_by G L (Err r) = outcome (code_of r) [] [] [] [] []
outcome_by G L (Ok (NoTyping k)) = keeping G L k [] [] []
outcome_by G L (Ok (Ambiguous k)) = keeping G L k [] [] []
outcome_by G L (Ok (Typing o)) = keeping G L o.counts (take (3 * length G.exprs) L.typing) (measure_out L o) (choices_out L o)

pub outcome_of : GivenList → Outcome
outcome_of G = outcome_by G (solved_list G) (solved_list G).answer

-- an expression of a typing: its sort, kind of name and sort of name
expr : ℕ → ℕ → ℕ → List ℕ → List ℕ
expr sort kind name ws = sort ∷ kind ∷ name ∷ ws

choice : ℕ → ℕ → List Choice → List Choice
choice x i cs = record { expr = x; position = i } ∷ cs

-- a list and the excerpt's answer
abbrev Case : Type 0
Case = GivenList × Outcome

pub cases : List Case
cases =
    -- finite set to set
    (
      given (four_words 7 3 0 0 []) [] (four_words 14 0 0 0 (four_words 8 1024 0 0 [])) [] (65535 ∷ []) (1024 ∷ []) [] (row_sub 1025 6 []) [] [] 1,
      outcome 0 (expr 3 0 0 []) (1 ∷ []) [] [] [],
    )
    -- comprehension with body Nat
    ∷ (
      given (four_words 9 2 0 0 []) [] (four_words 14 0 0 0 []) [] (65535 ∷ []) (1024 ∷ []) [] (row_comprehension 3 1024 2 []) [] [] 1,
      outcome 0 (expr 6 0 0 []) [] [] (four_words 7 2 0 0 []) [],
    )
    -- join of finite sets
    ∷ (
      given (four_words 8 2 0 0 (four_words 8 3 0 0 [])) [] (four_words 14 0 0 0 []) [] (65535 ∷ []) (1024 ∷ []) [] (row_join 1024 0 2 []) [] (6 ∷ 7 ∷ []) 1,
      outcome 17 [] [] [] (four_words 7 3 0 0 (four_words 7 2 0 0 [])) [],
    )
    -- Sub first
    ∷ (
      given [] [] (four_words 14 0 0 0 (four_words 14 1 0 0 [])) [] (65535 ∷ 65535 ∷ []) (1024 ∷ 1025 ∷ []) [] (row_sub 1024 1025 (row_disjunction 0 1024 0 2 (row_disjunction 1 1025 2 2 []))) (2 ∷ 2 ∷ 2 ∷ 2 ∷ 1 ∷ 1 ∷ 2 ∷ 3 ∷ 3 ∷ 2 ∷ 4 ∷ 4 ∷ []) [] 1,
      outcome 17 [] [] [] [] [],
    )
    -- disjunctions first
    ∷ (
      given [] [] (four_words 14 0 0 0 (four_words 14 1 0 0 [])) [] (65535 ∷ 65535 ∷ []) (1024 ∷ 1025 ∷ []) [] (row_disjunction 0 1024 0 2 (row_disjunction 1 1025 2 2 (row_sub 1024 1025 []))) (2 ∷ 2 ∷ 2 ∷ 2 ∷ 1 ∷ 1 ∷ 2 ∷ 3 ∷ 3 ∷ 2 ∷ 4 ∷ 4 ∷ []) [] 1,
      outcome 0 (expr 2 2 2 (expr 3 2 3 [])) (1 ∷ []) (choice 0 0 (choice 1 0 [])) [] [],
    )
    -- made in a dropped branch
    ∷ (
      given (four_words 8 1 0 0 []) [] (four_words 14 0 0 0 (four_words 14 1 0 0 [])) [] (65535 ∷ 65535 ∷ []) (1024 ∷ 1025 ∷ []) [] (row_disjunction 0 1024 0 2 (row_sub 6 1025 (row_sub 1024 3 []))) (2 ∷ 3 ∷ 3 ∷ 2 ∷ 2 ∷ 2 ∷ []) [] 1,
      outcome 0 (expr 3 2 3 (expr 6 0 0 [])) (0 ∷ 0 ∷ []) (choice 0 0 []) (four_words 7 1 0 0 []) [],
    )
    -- nothing dropped between a Join's sources
    ∷ (
      given (four_words 8 3 0 0 (four_words 11 3 0 1 (four_words 11 6 1 1 []))) (3 ∷ 2 ∷ []) (four_words 14 0 0 0 (four_words 14 1 0 0 (four_words 11 1025 0 1 []))) (1024 ∷ []) (65535 ∷ 65535 ∷ []) (1026 ∷ []) [] (row_disjunction 0 1026 0 2 (row_join 3 0 2 [])) (1 ∷ 0 ∷ 7 ∷ 1 ∷ 0 ∷ 8 ∷ []) (1024 ∷ 1025 ∷ []) 1,
      outcome 0 (expr 7 1 0 []) (0 ∷ 0 ∷ []) (choice 0 0 []) (four_words 7 3 0 0 []) [],
    )
    -- comprehension makes both
    ∷ (
      given [] [] (four_words 14 0 0 0 []) [] (65535 ∷ []) (1024 ∷ []) [] (row_comprehension 3 1024 2 []) [] [] 1,
      outcome 0 (expr 7 0 0 []) [] [] (four_words 7 2 0 0 (four_words 9 2 0 0 [])) [],
    )
    -- comprehension that no reading fits
    ∷ (
      given [] [] (four_words 14 0 0 0 []) [] (65535 ∷ []) [] [] (row_comprehension 5 1024 2 []) [] [] 1,
      outcome 17 [] [] [] (four_words 7 2 0 0 (four_words 9 2 0 0 [])) [],
    )
    -- readings in order
    ∷ (
      given [] [] (four_words 14 0 0 0 (four_words 14 1 0 0 (four_words 6 1024 0 0 []))) [] (65535 ∷ 65535 ∷ []) (1026 ∷ []) [] (row_comprehension 1024 1025 2 (row_sub 1024 3 [])) [] [] 1,
      outcome 0 (expr 8 0 0 []) (0 ∷ []) [] (four_words 7 2 0 0 (four_words 9 2 0 0 (four_words 6 3 0 0 []))) [],
    )
    -- Join with an open second source
    ∷ (
      given [] [] (four_words 14 0 0 0 (four_words 6 3 0 0 (four_words 14 1 0 0 []))) [] (65535 ∷ 65535 ∷ []) (1024 ∷ []) [] (row_join 1026 0 2 []) [] (1025 ∷ 1024 ∷ []) 1,
      outcome 0 (expr 6 0 0 []) (0 ∷ 0 ∷ []) [] (four_words 6 3 0 0 []) [],
    )
    -- function source that stops inside
    ∷ (
      given [] [] (four_words 14 0 0 0 (four_words 6 3 0 0 (four_words 11 1 0 2 (four_words 14 1 0 0 [])))) (1025 ∷ 1024 ∷ []) (65535 ∷ 65535 ∷ []) [] [] (row_join 1027 0 1 []) [] (1026 ∷ []) 1,
      outcome 0 [] (0 ∷ []) [] (four_words 6 3 0 0 []) [],
    )
    -- widening of a nested function
    ∷ (
      given (four_words 11 2 0 1 (four_words 11 6 1 1 [])) (1 ∷ 1 ∷ []) [] [] [] [] [] (row_sub 7 3 []) [] [] 1,
      outcome 17 [] [] [] [] [],
    )
    -- node room used again, room for one node entry
    ∷ (
      given (four_words 11 4 0 1 []) (1 ∷ []) (four_words 14 0 0 0 []) (replicate 4095 0) (65535 ∷ []) (1024 ∷ []) [] (row_disjunction 0 1024 0 2 (row_sub 6 1024 [])) (2 ∷ 1 ∷ 1 ∷ 2 ∷ 3 ∷ 3 ∷ []) [] 1,
      outcome 17 [] [] [] [] [],
    )
    -- node room used again after a find
    ∷ (
      given (four_words 11 4 0 1 (four_words 11 5 1 1 [])) (1 ∷ 1 ∷ []) (four_words 14 0 0 0 []) (replicate 4095 0) (65535 ∷ []) (1024 ∷ []) [] (row_disjunction 0 1024 0 2 (row_sub 6 1024 [])) (2 ∷ 7 ∷ 7 ∷ 2 ∷ 3 ∷ 3 ∷ []) [] 1,
      outcome 0 (expr 7 2 7 []) (1 ∷ []) (choice 0 0 []) [] [],
    )
    -- no room for an argument, a sort first
    ∷ (
      given (four_words 11 3 0 1 []) (1 ∷ (replicate 4095 0)) (four_words 14 0 0 0 (four_words 11 3 0 1 [])) (2 ∷ (replicate 4095 0)) (65535 ∷ []) [] [] (row_join 1024 0 1 (row_sub 6 1 [])) [] (1025 ∷ []) 1,
      outcome 15 [] [] [] [] [],
    )
    -- no room for an argument, a node first
    ∷ (
      given (four_words 11 3 0 1 []) (1 ∷ (replicate 4095 0)) (four_words 14 0 0 0 (four_words 11 3 0 1 [])) (2 ∷ (replicate 4095 0)) (65535 ∷ []) [] [] (row_sub 6 1 (row_join 1024 0 1 [])) [] (1025 ∷ []) 1,
      outcome 16 [] [] [] [] [],
    )
    -- a list on the left
    ∷ (
      given (four_words 8 1 0 0 (four_words 7 3 0 0 [])) [] [] [] [] [] [] (row_sub 6 7 []) [] [] 1,
      outcome 17 [] [] [] (four_words 7 1 0 0 []) [],
    )
    -- Join of three
    ∷ (
      given (four_words 8 3 0 0 (four_words 7 2 0 0 (four_words 8 4 0 0 []))) [] (four_words 14 0 0 0 []) [] (65535 ∷ []) [] [] (row_join 1024 0 3 []) [] (6 ∷ 7 ∷ 8 ∷ []) 1,
      outcome 17 [] [] [] (four_words 7 3 0 0 (four_words 7 4 0 0 [])) [],
    )
    -- a tie
    ∷ (
      given [] [] (four_words 14 0 0 0 (four_words 6 1024 0 0 [])) [] (65535 ∷ []) (1025 ∷ []) [] (row_disjunction 0 1024 0 2 []) (2 ∷ 3 ∷ 3 ∷ 2 ∷ 2 ∷ 2 ∷ []) [] 1,
      outcome 18 [] [] [] (four_words 6 3 0 0 []) [],
    )
    -- equality first
    ∷ (
      given (four_words 8 3 0 0 []) [] [] [] [] [] [] (row_sub 6 6 []) [] [] 1,
      outcome 0 [] (0 ∷ []) [] [] [],
    )
    -- no list on the left
    ∷ (
      given (four_words 11 5 0 1 []) (1 ∷ []) (four_words 14 0 0 0 (four_words 11 1024 0 1 [])) (1 ∷ []) (65535 ∷ []) (1024 ∷ []) [] (row_sub 1025 6 (row_disjunction 0 1024 0 1 [])) (2 ∷ 4 ∷ 4 ∷ []) [] 1,
      outcome 0 (expr 4 2 4 []) (1 ∷ []) (choice 0 0 []) [] [],
    )
    -- entry list full
    ∷ (
      given [] (replicate 4096 0) (four_words 11 3 0 1 []) (1 ∷ []) [] (1024 ∷ []) [] [] [] [] 1,
      outcome 15 [] [] [] [] [],
    )
    -- entry list full, no arguments
    ∷ (
      given [] (replicate 4096 0) (four_words 11 3 0 0 []) [] [] (1024 ∷ []) [] [] [] [] 1,
      outcome 0 (expr 6 0 0 []) [] [] (four_words 11 3 4096 0 []) [],
    )
    -- narrower list
    ∷ (
      given [] [] (four_words 14 0 0 0 []) [] (65535 ∷ []) (1024 ∷ []) [] (row_sub 1024 5 (row_disjunction 0 1024 0 2 [])) (2 ∷ 2 ∷ 2 ∷ 2 ∷ 3 ∷ 3 ∷ []) [] 1,
      outcome 0 (expr 3 2 3 []) (2 ∷ []) (choice 0 1 []) [] [],
    )
    -- from the front
    ∷ (
      given [] [] (four_words 14 0 0 0 []) [] (65535 ∷ []) (1024 ∷ []) [] (row_disjunction 0 1024 0 2 (row_sub 1024 3 (row_sub 2 1024 []))) (2 ∷ 2 ∷ 2 ∷ 2 ∷ 3 ∷ 3 ∷ []) [] 1,
      outcome 0 (expr 3 2 3 []) (0 ∷ 1 ∷ []) (choice 0 1 []) [] [],
    )
    -- literal on Bool
    ∷ (
      given [] [] [] [] [] [] [] (row_lit 1 0 []) [] [] 1,
      outcome 17 [] [] [] [] [],
    )
    -- literal on a container
    ∷ (
      given [] [] (four_words 14 0 0 0 (four_words 6 1024 0 0 [])) [] (65535 ∷ []) [] [] (row_lit 1025 1 []) [] [] 1,
      outcome 17 [] [] [] [] [],
    )
    -- empty list on the left
    ∷ (
      given [] [] [] [] [] [] [] (row_sub 1 3 []) [] [] 1,
      outcome 17 [] [] [] [] [],
    )
    -- empty list on the left, a container on the right
    ∷ (
      given (four_words 7 3 0 0 []) [] [] [] [] [] [] (row_sub 1 6 []) [] [] 1,
      outcome 17 [] [] [] [] [],
    )
    -- target among the sources
    ∷ (
      given [] [] (four_words 14 0 0 0 []) [] (65535 ∷ []) (1024 ∷ []) [] (row_join 1024 0 2 []) [] (1024 ∷ 3 ∷ []) 1,
      outcome 0 (expr 3 0 0 []) (0 ∷ 0 ∷ []) [] [] [],
    )
    -- Join past the join
    ∷ (
      given [] [] [] [] [] [] [] (row_join 4 0 2 []) [] (2 ∷ 3 ∷ []) 1,
      outcome 0 [] (2 ∷ 1 ∷ []) [] [] [],
    )
    -- Join past the join for a later constraint
    ∷ (
      given [] [] (four_words 14 0 0 0 []) [] (65535 ∷ []) (1024 ∷ []) [] (row_join 1024 0 2 (row_disjunction 0 1024 0 1 [])) (2 ∷ 4 ∷ 4 ∷ []) (2 ∷ 3 ∷ []) 1,
      outcome 0 (expr 4 2 4 []) (2 ∷ 1 ∷ []) (choice 0 0 []) [] [],
    )
    -- Join without a join
    ∷ (
      given (four_words 8 2 0 0 []) [] (four_words 14 0 0 0 []) [] (65535 ∷ []) [] [] (row_join 1024 0 2 []) [] (6 ∷ 1 ∷ []) 1,
      outcome 17 [] [] [] (four_words 7 2 0 0 []) [],
    )
    -- nothing
    ∷ (
      given [] [] [] [] [] [] [] [] [] [] 1,
      outcome 0 [] [] [] [] [],
    )
    -- one overload twice
    ∷ (
      given [] [] (four_words 14 0 0 0 []) [] (65535 ∷ []) (1024 ∷ []) [] (row_disjunction 0 1024 0 2 []) (2 ∷ 3 ∷ 3 ∷ 2 ∷ 3 ∷ 3 ∷ []) [] 1,
      outcome 18 [] [] [] [] [],
    )
    -- a tie that is beaten
    ∷ (
      given [] [] (four_words 14 0 0 0 []) [] (65535 ∷ []) (1024 ∷ []) [] (row_disjunction 0 1024 0 3 (row_sub 1024 3 [])) (2 ∷ 2 ∷ 2 ∷ 2 ∷ 2 ∷ 2 ∷ 2 ∷ 3 ∷ 3 ∷ []) [] 1,
      outcome 0 (expr 3 2 3 []) (0 ∷ []) (choice 0 2 []) [] [],
    )
    -- disjunctions out of expression order
    ∷ (
      given [] [] [] [] [] (2 ∷ 1 ∷ 3 ∷ 1 ∷ []) [] (row_disjunction 2 3 0 1 (row_disjunction 3 1 1 3 (row_disjunction 0 2 4 2 []))) (2 ∷ 3 ∷ 3 ∷ 2 ∷ 2 ∷ 2 ∷ 2 ∷ 3 ∷ 3 ∷ 2 ∷ 1 ∷ 1 ∷ 2 ∷ 1 ∷ 1 ∷ 2 ∷ 2 ∷ 2 ∷ []) [] 1,
      outcome 0 (expr 2 2 2 (expr 1 0 0 (expr 3 2 3 (expr 1 2 1 [])))) [] (choice 0 1 (choice 2 0 (choice 3 2 []))) [] [],
    )
    -- no overloads
    ∷ (
      given [] [] [] [] [] (3 ∷ []) [] (row_disjunction 0 3 0 0 []) [] [] 1,
      outcome 17 [] [] [] [] [],
    )
    -- base name overwritten
    ∷ (
      given [] [] (four_words 14 0 0 0 []) [] (65535 ∷ []) (1024 ∷ 1 ∷ []) (0 ∷ 1 ∷ 0 ∷ 1 ∷ 3 ∷ 0 ∷ []) (row_disjunction 0 3 0 2 []) (2 ∷ 2 ∷ 2 ∷ 2 ∷ 3 ∷ 3 ∷ []) [] 1,
      outcome 0 (expr 1 2 3 (expr 1 3 0 [])) [] (choice 0 1 []) [] [],
    )
    -- default inside
    ∷ (
      given [] [] (four_words 14 0 0 0 (four_words 6 1024 0 0 (four_words 11 1024 0 1 []))) (1025 ∷ []) (65535 ∷ []) (1026 ∷ []) [] [] [] [] 3,
      outcome 0 (expr 7 0 0 []) [] [] (four_words 6 3 0 0 (four_words 11 3 0 1 [])) (6 ∷ []),
    )
    -- given bindings
    ∷ (
      given [] [] (four_words 14 0 0 0 (four_words 14 1 0 0 (four_words 6 1025 0 0 []))) [] (1026 ∷ 2 ∷ []) (1024 ∷ []) [] [] [] [] 1,
      outcome 0 (expr 6 0 0 []) [] [] (four_words 6 2 0 0 []) [],
    )
    -- empty run at the end
    ∷ (
      given (four_words 11 1 1 0 []) (1 ∷ []) [] [] [] [] [] [] [] [] 1,
      outcome 0 [] [] [] [] [],
    )
    -- overlapping runs
    ∷ (
      given (four_words 11 3 0 2 (four_words 11 3 0 1 [])) (1 ∷ 3 ∷ []) [] [] [] (7 ∷ []) [] [] [] [] 1,
      outcome 0 (expr 7 0 0 []) [] [] [] [],
    )
    -- stray overload
    ∷ (
      given [] [] [] [] [] [] [] [] (9 ∷ 9 ∷ 9 ∷ []) (9 ∷ []) 1,
      outcome 0 [] [] [] [] [],
    )
    -- solve seed 1 size 2 number 3505
    ∷ (
      given [] [] (four_words 14 0 0 0 (four_words 14 1 0 0 (four_words 14 2 0 0 (four_words 10 1024 0 0 (four_words 14 3 0 0 (four_words 14 4 0 0 [])))))) [] (5 ∷ 2 ∷ 65535 ∷ 65535 ∷ 65535 ∷ []) [] [] (row_join 1027 0 2 (row_sub 1027 1027 (row_comprehension 1029 1028 1 []))) [] (1027 ∷ 1027 ∷ []) 3,
      outcome 18 [] [] [] (four_words 10 5 0 0 (four_words 7 1 0 0 (four_words 9 1 0 0 []))) [],
    )
    -- solve seed 1 size 2 number 8934
    ∷ (
      given (four_words 10 3 0 0 []) [] (four_words 14 0 0 0 (four_words 14 1 0 0 (four_words 14 2 0 0 (four_words 11 1025 0 3 (four_words 11 1027 3 1 (four_words 8 1024 0 0 [])))))) (1 ∷ 3 ∷ 1025 ∷ 1024 ∷ []) (2 ∷ 65535 ∷ 65535 ∷ []) (3 ∷ 1024 ∷ []) (0 ∷ 3 ∷ 0 ∷ []) (row_lit 1026 0 (row_join 1029 0 1 (row_join 1026 1 1 []))) [] (1029 ∷ 3 ∷ []) 1,
      outcome 0 (expr 3 3 0 (expr 2 0 0 [])) (1 ∷ 0 ∷ 0 ∷ []) [] (four_words 8 2 0 0 []) [],
    )
    -- join seed 1 size 2 number 836
    ∷ (
      given (four_words 12 65535 0 0 (four_words 12 1 0 0 [])) [] (four_words 8 6 0 0 (four_words 14 1 0 0 [])) [] (65535 ∷ 65535 ∷ []) (1024 ∷ 1025 ∷ 5 ∷ 1025 ∷ []) (1 ∷ 2 ∷ 7 ∷ []) (row_disjunction 1 1025 0 2 (row_sub 2 1025 (row_join 1024 0 2 (row_sub 1025 2 [])))) (2 ∷ 3 ∷ 3 ∷ 2 ∷ 2 ∷ 2 ∷ []) (1024 ∷ 1024 ∷ []) 1,
      outcome 0 (expr 8 0 0 (expr 2 2 2 (expr 5 0 0 (expr 2 0 0 [])))) (0 ∷ 0 ∷ 0 ∷ 0 ∷ []) (choice 1 1 []) (four_words 8 6 0 0 []) [],
    )
    -- join seed 1 size 2 number 10868
    ∷ (
      given [] [] (four_words 14 0 0 0 (four_words 14 1 0 0 (four_words 14 2 0 0 (four_words 14 3 0 0 (four_words 11 1024 0 1 (four_words 7 5 0 0 (four_words 10 1025 0 0 (four_words 14 4 0 0 [])))))))) (1025 ∷ []) (65535 ∷ 65535 ∷ 65535 ∷ 65535 ∷ 65535 ∷ []) (5 ∷ 1027 ∷ []) [] (row_comprehension 1027 1031 4 (row_join 1029 0 1 (row_sub 1030 1030 (row_join 1026 1 3 [])))) [] (1029 ∷ 1027 ∷ 3 ∷ 4 ∷ []) 1,
      outcome 0 (expr 5 0 0 (expr 3 0 0 [])) (0 ∷ 0 ∷ 1 ∷ 1 ∷ 0 ∷ []) [] (four_words 7 4 0 0 (four_words 7 5 0 0 (four_words 9 4 0 0 []))) [],
    )
    -- choice seed 1 size 2 number 2767
    ∷ (
      given [] [] (four_words 14 0 0 0 (four_words 14 1 0 0 (four_words 10 0 0 0 (four_words 14 2 0 0 (four_words 14 3 0 0 []))))) [] (65535 ∷ 65535 ∷ 65535 ∷ 1024 ∷ []) (1024 ∷ 1028 ∷ []) (0 ∷ 3 ∷ 0 ∷ []) (row_disjunction 0 1024 0 1 (row_comprehension 2 1027 3 (row_disjunction 1 1028 1 2 (row_sub 1028 5 (row_sub 1027 1027 []))))) (2 ∷ 1 ∷ 1024 ∷ 2 ∷ 3 ∷ 3 ∷ 2 ∷ 2 ∷ 2 ∷ []) [] 5,
      outcome 0 (expr 3 2 1 (expr 3 2 3 [])) (2 ∷ 0 ∷ []) (choice 0 0 (choice 1 0 [])) (four_words 7 3 0 0 (four_words 9 3 0 0 [])) [],
    )
    -- entries seed 1 size 2 number 3872
    ∷ (
      given (four_words 11 5 0 0 (four_words 11 2 0 2 (four_words 6 2 0 0 (four_words 10 1 0 0 [])))) (2 ∷ 2 ∷ []) (four_words 14 0 0 0 (four_words 14 1 0 0 (four_words 11 1024 0 1 []))) (1025 ∷ (replicate 4094 0)) (65535 ∷ 65535 ∷ []) (0 ∷ 1024 ∷ 1024 ∷ []) [] (row_sub 7 2 []) [] [] 1,
      outcome 16 [] [] [] [] [],
    )
    ∷ []

pub compared : map (λ (c : Case). outcome_of c.0) cases ≡ map (λ (c : Case). c.1) cases
unfolding solved_list four_words row_sub row_lit row_disjunction row_comprehension row_join given outcome between keeping outcome_of expr choice code_of cases
compared = refl
