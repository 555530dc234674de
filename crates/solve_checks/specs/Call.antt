-- The call that the parameters of the solver's entry make: the lists lent, with how many rows each
-- has, and the default sort.
use Rattle.std.specs.Prelude.{List, ℕ}
use Rattle.unification.specs.declared.Lengths.{Lengths}
use Rattle.inference.specs.declared.Rows.{Rows}
use Rattle.inference.specs.SolveChecks.{Call}
use Rattle.solve_checks.specs.declared.Given.{Given}

abbrev pub lengths_of : Given → Lengths
lengths_of g =
    record {
      sorts = g.sorts;
      entries = g.entries;
      nodes = g.nodes;
      arguments = g.arguments;
      variables = g.variables;
    }

abbrev pub rows_of : Given → Rows
rows_of g =
    record {
      exprs = g.exprs;
      names = g.names;
      constraints = g.constraints;
      overloads = g.overloads;
      sources = g.sources;
    }

abbrev pub call_of :
    Given
    → (sorts nodes binds exprs names constraints overloads sources scratch index typing measure choices : List ℕ)
    → Call
call_of g ws ns bs xs ks cs os ss sc ix ts ms hs =
    record {
      sorts = ws;
      nodes = ns;
      binds = bs;
      lengths = lengths_of g;
      exprs = xs;
      names = ks;
      constraints = cs;
      overloads = os;
      sources = ss;
      rows = rows_of g;
      default = g.default.0;
      scratch = sc;
      index = ix;
      typing = ts;
      measure = ms;
      choices = hs;
    }
