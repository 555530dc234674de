-- What the solver answers and leaves after the search, from what stands in memory then: the answer with its outputs,
-- the sorts with these, and all lent memory.
use Rattle.std.specs.Prelude.{List, ℕ}
use Rattle.inference.specs.SolveEntry.{Solved, SolveLeft}

-- and with all lent memory: "Scratch is zero after 15 to 18 and 0", "node rows past the entry length zero"
abbrev pub solve_left : Solved → (sorts nodes binds scratch index typing measure choices : List ℕ) → SolveLeft
solve_left r ws ns bs sc ix ts ms hs =
    record {
      answer = r;
      sorts = ws;
      nodes = ns;
      binds = bs;
      scratch = sc;
      index = ix;
      typing = ts;
      measure = ms;
      choices = hs;
    }
