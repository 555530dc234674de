-- What a line of the recorded answers about unify says, and what comes of it.
use Rattle.std.specs.Prelude.{Bool, false, cond, List, ℕ, zero, suc, ◌+◌, ◌*◌, ltb, leb, eqb, length, get_or, take, set, replicate}
use Prim.Native.Char.{code}
use Rattle.std.proofs.lemmas.List.Edits.{sets}
use Rattle.unification.specs.declared.Lengths.{Lengths}
use Rattle.words.specs.Inner.Bits.{most_word}
use Rattle.resolved_sort.specs.Storage.{max_sorts, max_entries, row_words, entries_at, full_length}
use Rattle.unification.specs.Nodes.{max_nodes, max_node_entries, max_vars, full_nodes}
use Rattle.unification.specs.UnifyEntry.{unify_entry}
use Rattle.unify_entries.specs.Packed.{PackedBinds, pack_binds_left}
use Rattle.words.specs.Words.{part}
use Rattle.replay.specs.declared.Verdict.{Verdict}
use Rattle.replay.specs.declared.Verdict.TheVariants.{Quiet, Agrees, Differs, BindsOther, NotOfForm}
use Rattle.replay.specs.Inner.Lines.{max_words, WordsKept, store_from}
use Rattle.recorded_unify.specs.declared.Part.{Part}
use Rattle.recorded_unify.specs.declared.Part.TheVariants.{Sorts, Entries, Nodes, Arguments, Bindings}
use Rattle.recorded_unify.specs.declared.Letter.{Letter}
use Rattle.recorded_unify.specs.declared.Letter.TheVariants.{List as NewList, Row, Words, Binds, Asks, Other}
use Rattle.recorded_unify.specs.declared.Progress.{Progress}
use Rattle.recorded_unify.specs.declared.RecordedUnify.{RecordedUnify}

-- Where the parts of a list stand in its words, after the sorts: nodes and their argument entries, the bindings, and
-- the bindings that the next question leaves.
abbrev pub nodes_at : ℕ
nodes_at = 8192

abbrev pub arguments_at : ℕ
arguments_at = 16384

abbrev pub bindings_at : ℕ
bindings_at = 20480

abbrev pub bindings_left_at : ℕ
bindings_left_at = 20992

unfoldable pub letter_of : ℕ → Letter
letter_of b =
    cond (eqb b (code "L")) NewList
    (cond (eqb b (code "r")) (Row Sorts)
    (cond (eqb b (code "a")) (Words Entries)
    (cond (eqb b (code "n")) (Row Nodes)
    (cond (eqb b (code "b")) (Words Arguments)
    (cond (eqb b (code "v")) (Words Bindings)
    (cond (eqb b (code "w")) Binds
    (cond (eqb b (code "u")) Asks Other)))))))

unfoldable pub part_start : Part → ℕ
part_start Sorts = 0
part_start Entries = entries_at
part_start Nodes = nodes_at
part_start Arguments = arguments_at
part_start Bindings = bindings_at

unfoldable pub part_length : Lengths → Part → ℕ
part_length l Sorts = l.sorts
part_length l Entries = l.entries
part_length l Nodes = l.nodes
part_length l Arguments = l.arguments
part_length l Bindings = l.variables

abbrev pub lengths : ℕ → ℕ → ℕ → ℕ → ℕ → Lengths
lengths n e m d v = record { sorts = n; entries = e; nodes = m; arguments = d; variables = v }

unfoldable pub with_length : Lengths → Part → ℕ → Lengths
with_length l Sorts k = lengths k l.entries l.nodes l.arguments l.variables
with_length l Entries k = lengths l.sorts k l.nodes l.arguments l.variables
with_length l Nodes k = lengths l.sorts l.entries k l.arguments l.variables
with_length l Arguments k = lengths l.sorts l.entries l.nodes k l.variables
with_length l Bindings k = lengths l.sorts l.entries l.nodes l.arguments k

abbrev pub no_lengths : Lengths
no_lengths = lengths 0 0 0 0 0

abbrev pub progress_of : Lengths → Lengths → Progress
progress_of total read = record { total = total; read = read }

abbrev pub unify_words : ℕ
unify_words = 21504

abbrev pub unify_started : RecordedUnify
unify_started = record { words = replicate unify_words 0; progress = progress_of no_lengths no_lengths }

-- all of the list was read
unfoldable pub complete : Progress → Bool
complete p =
    cond (eqb p.read.sorts p.total.sorts)
    (cond (eqb p.read.entries p.total.entries)
    (cond (eqb p.read.nodes p.total.nodes)
    (cond (eqb p.read.arguments p.total.arguments) (eqb p.read.variables p.total.variables) false)
    false)
    false)
    false

abbrev pub not_of_form : RecordedUnify → RecordedUnify × Verdict
not_of_form l = (l, NotOfForm)

-- a new list, after one that is complete, within the ceilings
unfoldable pub begin_line : RecordedUnify → List ℕ → RecordedUnify × Verdict
begin_line l ns =
    cond (eqb (length ns) 5)
    (cond (complete l.progress)
    (cond (ltb max_sorts (get_or ns 0 0)) (not_of_form l)
    (cond (ltb max_entries (get_or ns 1 0)) (not_of_form l)
    (cond (ltb max_nodes (get_or ns 2 0)) (not_of_form l)
    (cond (ltb max_node_entries (get_or ns 3 0)) (not_of_form l)
    (cond (ltb max_vars (get_or ns 4 0)) (not_of_form l) (
      record l {
        progress = progress_of
            (lengths (get_or ns 0 0) (get_or ns 1 0) (get_or ns 2 0) (get_or ns 3 0) (get_or ns 4 0)) no_lengths;
      },
      Quiet,
    ))))))
    (not_of_form l))
    (not_of_form l)

abbrev pub kept_step : RecordedUnify → Progress → WordsKept → RecordedUnify × Verdict
kept_step l next k =
    cond k.all (record l { words = k.words; progress = next }, Quiet) (not_of_form (record l { words = k.words }))

-- words of a part stored from a word on, so that it then has a length
unfoldable pub keep_of : RecordedUnify → ℕ → List ℕ → Part → ℕ → RecordedUnify × Verdict
keep_of l base ns q k =
    cond (ltb max_words (length ns)) (not_of_form l)
    (kept_step l (progress_of l.progress.total (with_length l.progress.read q k)) (store_from l.words base ns))

-- the next sort or node, where one is missing
unfoldable pub row_line : RecordedUnify → Part → List ℕ → RecordedUnify × Verdict
row_line l q ns =
    cond (eqb (length ns) 4)
    (cond (leb (part_length l.progress.total q) (part_length l.progress.read q)) (not_of_form l)
    (keep_of l (part_start q + row_words * part_length l.progress.read q) ns q (part_length l.progress.read q + 1)))
    (not_of_form l)

-- the next entries or bindings, where that many are missing
unfoldable pub run_line : RecordedUnify → Part → List ℕ → RecordedUnify × Verdict
run_line l q ns =
    cond (ltb max_words (length ns)) (not_of_form l)
    (cond (ltb (part_length l.progress.total q) (part_length l.progress.read q + length ns)) (not_of_form l)
    (keep_of l (part_start q + part_length l.progress.read q) ns q (part_length l.progress.read q + length ns)))

abbrev pub bindings_in : List ℕ → List ℕ
bindings_in ws = part bindings_at max_vars ws

-- the next question leaves the bindings as they are, where no line says otherwise
unfoldable pub renewed : RecordedUnify → RecordedUnify
renewed l = record l { words = sets l.words bindings_left_at (bindings_in l.words) }

-- a binding that the next question makes
unfoldable pub binds_line : RecordedUnify → List ℕ → RecordedUnify × Verdict
binds_line l ns =
    cond (eqb (length ns) 2)
    (cond (complete l.progress)
    (cond (leb l.progress.total.variables (get_or ns 0 0)) (not_of_form l)
    (cond (ltb most_word (get_or ns 1 0)) (not_of_form l)
    (record l { words = set l.words (bindings_left_at + get_or ns 0 0) (get_or ns 1 0) }, Quiet)))
    (not_of_form l))
    (not_of_form l)

-- what the entry answers on the words of a list, and what it leaves of the bindings
unfoldable pub unified : List ℕ → Lengths → List ℕ → ℕ → ℕ → PackedBinds
unified ws l bs a b =
    pack_binds_left (unify_entry (take full_length ws) l.sorts l.entries (part nodes_at full_nodes ws) l.nodes
    l.arguments bs l.variables a b)

-- m bindings from the i-th on compared with those recorded: the first that is another
unfoldable pub judged_from : ℕ → List ℕ → List ℕ → ℕ → Verdict
judged_from zero ws bs i = Agrees
judged_from (suc m) ws bs i =
    cond (eqb (get_or bs i 0) (get_or ws (bindings_left_at + i) 0)) (judged_from m ws bs (i + 1)) (BindsOther i)

unfoldable pub judged_of : List ℕ → List ℕ → ℕ → ℕ → Verdict
judged_of ws bs got recorded = cond (eqb got recorded) (judged_from max_vars ws bs 0) (Differs got)

abbrev pub judged_reply : List ℕ → PackedBinds → ℕ → Verdict
judged_reply ws a recorded = judged_of ws a.words a.result recorded

-- a question about two places of a complete list, and the recorded answer
unfoldable pub ask_line : RecordedUnify → List ℕ → RecordedUnify × Verdict
ask_line l ns =
    cond (eqb (length ns) 3)
    (cond (complete l.progress)
    (cond (ltb most_word (get_or ns 0 0)) (not_of_form l)
    (cond (ltb most_word (get_or ns 1 0)) (not_of_form l) (
      renewed l,
      judged_reply l.words
          (unified l.words l.progress.total (bindings_in l.words) (get_or ns 0 0) (get_or ns 1 0)) (get_or ns 2 0),
    )))
    (not_of_form l))
    (not_of_form l)

abbrev pub renewed_step : RecordedUnify × Verdict → RecordedUnify × Verdict
renewed_step s = (renewed s.0, s.1)

-- by the letter of a line
unfoldable pub by_letter : Letter → RecordedUnify → List ℕ → RecordedUnify × Verdict
by_letter NewList l ns = begin_line l ns
by_letter (Row q) l ns = row_line l q ns
by_letter (Words q) l ns = renewed_step (run_line l q ns)
by_letter Binds l ns = binds_line l ns
by_letter Asks l ns = ask_line l ns
by_letter Other l ns = not_of_form l
