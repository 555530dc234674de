-- The 11 starred situations of document 01, as one list with its 13 runs: what is given, and code, sorts of the
-- expressions and measure.
use Rattle.std.specs.Prelude.{List, [], ◌∷◌, ◌++◌, map, ℕ, ◌+◌, ◌*◌, ◌-◌, ◌/◌, length, replicate, take, get_or, Ok}
use Rattle.std.specs.Prelude.{Err}
use Rattle.resolved_sort.specs.declared.Sort.{Sort}
use Rattle.resolved_sort.specs.Tree.{Tree, flat, primitive, function, no_args, arg}
use Rattle.resolved_sort.specs.Tree as Tree
use Rattle.resolved_sort.specs.Order as Order
use Rattle.resolved_sort.specs.Interning as Interning
use Rattle.resolved_sort.specs.Storage.{max_sorts, max_entries, row_words, entries_at}
use Rattle.resolved_sort.specs.Storage as Storage
use Rattle.resolved_sort.specs.Index.{slots}
use Rattle.resolved_sort.specs.Index as Index
use Rattle.resolved_sort.specs.Entries.{tree_at}
use Rattle.resolved_sort.specs.Entries as Entries
use Rattle.resolved_sort.specs.Bounds as Bounds
use Rattle.resolved_sort.specs.Checks as Checks
use Rattle.unification.specs.Term as Term
use Rattle.unification.specs.Nodes.{max_node_entries, node_entries_at, free_word}
use Rattle.unification.specs.Nodes as Nodes
use Rattle.unification.specs.NodeChecks as NodeChecks
use Rattle.unification.specs.Acyclic as Acyclic
use Rattle.unification.specs.Unify as Unify
use Rattle.unification.specs.Solutions as Solutions
use Rattle.unification.specs.Resolve as Resolve
use Rattle.unification.specs.Related as Related
use Rattle.unification.specs.Making as Making
use Rattle.inference.specs.declared.Verdict.TheVariants.{NoTyping, Ambiguous, Typing}
use Rattle.inference.specs.Constraints.{max_constraints, max_components, constraint_words, overload_words, name_words}
use Rattle.inference.specs.Constraints as Constraints
use Rattle.inference.specs.Measure as Measure
use Rattle.inference.specs.Search as Search
use Rattle.inference.specs.Names as Names
use Rattle.inference.specs.SolveChecks.{Call, scratch_words, typing_words, choice_words}
use Rattle.inference.specs.SolveChecks as SolveChecks
use Rattle.inference.specs.Rising as Rising
use Rattle.inference.specs.SolveEntry.{Solved, SolveLeft, solve_entry, code_solved}
use Rattle.inference.specs.SolveEntry as SolveEntry

-- a list: sorts after the fixed six with their entries, nodes with their arguments, variables, expressions, base
-- names, constraints, overloads, sources, default
pub record GivenList : Type 0 where
  pub sorts : List ℕ
  pub entries : List ℕ
  pub nodes : List ℕ
  pub arguments : List ℕ
  pub binds : List ℕ
  pub exprs : List ℕ
  pub names : List ℕ
  pub constraints : List ℕ
  pub overloads : List ℕ
  pub sources : List ℕ
  pub default : ℕ

unfoldable pub four_words : ℕ → ℕ → ℕ → ℕ → List ℕ → List ℕ
four_words kind part start count ws = kind ∷ part ∷ start ∷ count ∷ ws

abbrev pub six : List ℕ → List ℕ
six ws = four_words 0 0 0 0 (four_words 1 0 0 0 (four_words 2 0 0 0 (four_words 3 0 0 0 (four_words 4 0 0 0
    (four_words 5 0 0 0 ws)))))

-- rows, zeros up to where entries begin, entries, and zeros up to their ceiling
abbrev pub storage : ℕ → ℕ → List ℕ → List ℕ → List ℕ
storage begin most rows entries =
    rows ++ (replicate (begin - length rows) 0 ++ (entries ++ replicate (most - length entries) 0))

abbrev pub situation_call : GivenList → Call
situation_call G =
    record {
      sorts = storage entries_at max_entries (six G.sorts) G.entries;
      nodes = storage node_entries_at max_node_entries G.nodes G.arguments;
      binds = G.binds;
      lengths =
          record {
            sorts = 6 + length G.sorts / row_words;
            entries = length G.entries;
            nodes = length G.nodes / row_words;
            arguments = length G.arguments;
            variables = length G.binds;
          };
      exprs = G.exprs;
      names = G.names;
      constraints = G.constraints;
      overloads = G.overloads;
      sources = G.sources;
      rows =
          record {
            exprs = length G.exprs;
            names = length G.names / name_words;
            constraints = length G.constraints / constraint_words;
            overloads = length G.overloads / overload_words;
            sources = length G.sources;
          };
      default = G.default;
      scratch = replicate scratch_words 0;
      index = replicate slots 0;
      typing = replicate (typing_words * length G.exprs) 0;
      measure = replicate max_components 0;
      choices = replicate (choice_words * max_constraints) 0;
    }

-- The outcome of a list. To unfold it is to unfold all that it is computed through.
unfoldable pub solved_list : GivenList → SolveLeft
unfolding Checks.all_below Checks.within_lent Checks.fixed_six Checks.parts_below Checks.row_fine_of Checks.rows_fine
    Checks.no_two_equal Checks.at_ceiling Checks.first_failing Tree.arity Tree.family Tree.level Tree.family_op
    Tree.level_op Tree.same Tree.sames Entries.stored Interning.look Interning.number Interning.member
    Interning.distinct Interning.need Interning.intern Interning.make Interning.makes Order.bound_flat Order.bound_op
    Order.distance Order.distances Order.materializable Bounds.bound_at Bounds.intern_at Storage.resolved
    Storage.entries_of Storage.look_all Storage.tree_of Storage.trees Storage.kind_flat Storage.kind_op Storage.part_flat
    Storage.numbers Storage.row_of Storage.put_row Storage.append_row Storage.written Term.kind_head Term.number_head
    Term.same_head Acyclic.all_settled Acyclic.nodes_settled Acyclic.vars_settled Acyclic.rounds Acyclic.all_true
    Acyclic.acyclic Resolve.firsts Resolve.tree_over Resolve.resolve_term Resolve.resolve_terms Resolve.term_resolved
    Related.related_numbers Related.related_container NodeChecks.nodes_within_lent NodeChecks.bindings_within_lent
    NodeChecks.node_parts_fine NodeChecks.node_kind_fine NodeChecks.node_fine NodeChecks.nodes_fine
    NodeChecks.bindings_fine NodeChecks.node_checks Making.append_node Making.push_node Making.intern_container
    Making.push_functions Making.related_to Making.strict_related Unify.follow Unify.occurs Unify.unify_to Unify.unify
    Nodes.node_entries_of Nodes.inferred Nodes.sort_shape Nodes.node_shape Nodes.is_place Nodes.shape_at Nodes.binds_of
    Solutions.value_to Names.run_for Names.chosen_name Names.base_name Names.name_of Constraints.target
    Constraints.lit_kind Constraints.constraint Constraints.rows_from Search.resolve_in Search.join_in Search.resolve_all
    Search.join_all Search.agreed Search.join_of Search.lit_component Search.unifying Search.first_found Search.widening
    Search.literal Search.every_reading Search.every_overload Search.sequence Search.joining Search.step Search.leaf
    Search.solve SolveEntry.typing_rows Rising.choices_for Rising.rising_from SolveEntry.choice_rows
    SolveEntry.solve_entry SolveEntry.room_refusal SolveEntry.code_solved
    Measure.compare Measure.worse SolveChecks.all_within_lent SolveChecks.rows_within_lent SolveChecks.outputs_long
    Index.index_long
    SolveChecks.target_fine SolveChecks.exprs_fine SolveChecks.names_fine SolveChecks.overload_fine
    SolveChecks.constraints_fine SolveChecks.disjunctions SolveChecks.among SolveChecks.no_two SolveChecks.joins_fine
    SolveChecks.components SolveChecks.long_enough SolveChecks.solve_checks four_words six storage situation_call
solved_list G = solve_entry (situation_call G)

-- what a run came to: the code, and for a typing the sorts of the expressions and the measure
pub record Ran : Type 0 where
  pub code : ℕ
  pub sorts : List Tree
  pub measure : List ℕ

abbrev pub typed_of : SolveLeft → Solved → List ℕ → List Tree × List ℕ
typed_of L (Err r) xs = ([], [])
typed_of L (Ok (NoTyping k)) xs = ([], [])
typed_of L (Ok (Ambiguous k)) xs = ([], [])
typed_of L (Ok (Typing o)) xs = (
  map (λ i. tree_at L.sorts o.counts.sorts (get_or L.typing (3 * i) 0)) xs,
  take
      o.components L.measure,
)

abbrev pub up_to : ℕ → List ℕ
up_to n = Constraints.rows_from (λ i. i) 0 n

abbrev pub ran_of : SolveLeft → List ℕ → Ran
ran_of L xs = record {
  code = code_solved L.answer;
  sorts = (typed_of L L.answer xs).0;
  measure = (typed_of L
      L.answer xs).1;
}

abbrev pub ran_list : GivenList → Ran
ran_list G = ran_of (solved_list G) (up_to (length G.exprs))

abbrev pub free : ℕ
free = free_word

-- the node of variable v; places of nodes come after those of sorts
abbrev pub v0 : ℕ
v0 = max_sorts

abbrev pub v1 : ℕ
v1 = max_sorts + 1

abbrev pub bool : ℕ
bool = 1

abbrev pub pos : ℕ
pos = 2

abbrev pub nat : ℕ
nat = 3

abbrev pub real : ℕ
real = 5

unfoldable pub row_sub : ℕ → ℕ → List ℕ → List ℕ
row_sub l r cs = 0 ∷ l ∷ r ∷ 0 ∷ 0 ∷ cs

unfoldable pub row_lit : ℕ → ℕ → List ℕ → List ℕ
row_lit p kind cs = 1 ∷ p ∷ kind ∷ 0 ∷ 0 ∷ cs

unfoldable pub row_disjunction : ℕ → ℕ → ℕ → ℕ → List ℕ → List ℕ
row_disjunction x p start count cs = 2 ∷ x ∷ p ∷ start ∷ count ∷ cs

unfoldable pub row_comprehension : ℕ → ℕ → ℕ → List ℕ → List ℕ
row_comprehension body node element cs = 3 ∷ body ∷ node ∷ element ∷ 0 ∷ cs

unfoldable pub row_join : ℕ → ℕ → ℕ → List ℕ → List ℕ
row_join t start count cs = 4 ∷ t ∷ start ∷ count ∷ 0 ∷ cs

-- one free expression with the variable 0, and constraints
abbrev pub one_variable : List ℕ → GivenList
one_variable cs =
    record {
      sorts = [];
      entries = [];
      nodes = four_words 14 0 0 0 [];
      arguments = [];
      binds = free ∷ [];
      exprs = v0 ∷ [];
      names = [];
      constraints = cs;
      overloads = 1 ∷ 0 ∷ nat ∷ 1 ∷ 0 ∷ pos ∷ [];
      sources = pos ∷ nat ∷ [];
      default = bool;
    }

-- expressions v0 and List(v0)
abbrev pub with_its_list : List ℕ → GivenList
with_its_list cs =
    record {
      sorts = [];
      entries = [];
      nodes = four_words 14 0 0 0 (four_words 6 v0 0 0 []);
      arguments = [];
      binds = free ∷ [];
      exprs = v0 ∷ v1 ∷ [];
      names = [];
      constraints = cs;
      overloads = [];
      sources = [];
      default = bool;
    }

-- a free body and a free comprehension
abbrev pub comprehended : List ℕ → GivenList
comprehended cs =
    record {
      sorts = [];
      entries = [];
      nodes = four_words 14 0 0 0 (four_words 14 1 0 0 []);
      arguments = [];
      binds = free ∷ free ∷ [];
      exprs = v0 ∷ v1 ∷ [];
      names = [];
      constraints = cs;
      overloads = [];
      sources = [];
      default = bool;
    }

-- sorts 6 and 7 are Bool -> Pos and Bool -> Nat
abbrev pub functions : List ℕ → GivenList
functions cs =
    record {
      sorts = four_words 11 pos 0 1 (four_words 11 nat 1 1 []);
      entries = bool ∷ bool ∷ [];
      nodes = four_words 14 0 0 0 [];
      arguments = [];
      binds = free ∷ [];
      exprs = v0 ∷ [];
      names = [];
      constraints = cs;
      overloads = [];
      sources = 6 ∷ 7 ∷ [];
      default = bool;
    }

abbrev pub typed_as : List Tree → List ℕ → Ran
typed_as ts ms = record { code = 0; sorts = ts; measure = ms }

abbrev pub came_to : ℕ → Ran
came_to c = record { code = c; sorts = []; measure = [] }

abbrev pub number_sort : Sort → Tree
number_sort s = flat (primitive s)

-- a run and what document 01 says of it
abbrev pub Situation : Type 0
Situation = GivenList × Ran

abbrev pub situations : List (List Situation)
situations =
    -- "No constraints, one free expression, default Bool: typing Bool, []."
    ((one_variable [], typed_as (number_sort Sort.Bool ∷ []) []) ∷ [])
    -- "Literal '0': Nat [1]; on Pos: 17."
    ∷ ((one_variable (row_lit v0 1 []), typed_as (number_sort Sort.Nat ∷ []) (1 ∷ [])) ∷ (
      one_variable (row_lit pos 1 []),
      came_to 17,
    ) ∷ [])
    -- "Literal '7': Pos [0]."
    ∷ ((one_variable (row_lit v0 0 []), typed_as (number_sort Sort.Pos ∷ []) (0 ∷ [])) ∷ [])
    -- "Sub Pos to Real: [3]."
    ∷ ((one_variable (row_sub pos real []), typed_as (number_sort Sort.Bool ∷ []) (3 ∷ [])) ∷ [])
    -- "Sub Nat to Pos: 17."
    ∷ ((one_variable (row_sub nat pos []), came_to 17) ∷ [])
    -- "Sub v to List(v): 17."
    ∷ ((with_its_list (row_sub v0 v1 []), came_to 17) ∷ [])
    -- "Comprehension, free body: 18."
    ∷ ((comprehended (row_comprehension v0 v1 pos []), came_to 18) ∷ [])
    -- "Disjunction of Nat and Pos: 18."
    ∷ ((one_variable (row_disjunction 0 v0 0 2 []), came_to 18) ∷ [])
    -- "Followed by Sub of it to Nat: Nat [0]."
    ∷ ((one_variable (row_disjunction 0 v0 0 2 (row_sub v0 nat [])), typed_as (number_sort Sort.Nat ∷ []) (0 ∷ [])) ∷ [])
    -- "Join of Pos, Nat: Nat [1, 0]."
    ∷ ((one_variable (row_join v0 0 2 []), typed_as (number_sort Sort.Nat ∷ []) (1 ∷ 0 ∷ [])) ∷ [])
    -- "Join of Bool -> Pos, Bool -> Nat: Bool -> Nat [0, 0]; as two Subs [1, 0]."
    ∷ ((
      functions (row_join v0 0 2 []),
      typed_as (function (arg (number_sort Sort.Bool) no_args) (number_sort Sort.Nat)
          ∷ []) (0 ∷ 0 ∷ []),
    )
    ∷ (
      functions (row_sub 6 v0 (row_sub 7 v0 [])),
      typed_as (function (arg (number_sort Sort.Bool) no_args)
          (number_sort Sort.Nat) ∷ []) (1 ∷ 0 ∷ []),
    )
    ∷ [])
    ∷ []
