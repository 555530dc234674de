-- The counts of a call, one after another, and its default sort.
use Rattle.std.specs.Prelude.{ℕ}
use Rattle.solve_checks.specs.declared.Given.{Given}

abbrev pub given_of : (sorts entries nodes arguments variables exprs names constraints overloads sources
    default : ℕ) → Given
given_of n e m d v x k c o s t =
    record {
      sorts = n;
      entries = e;
      nodes = m;
      arguments = d;
      variables = v;
      exprs = x;
      names = k;
      constraints = c;
      overloads = o;
      sources = s;
      default = record { 0 = t };
    }
