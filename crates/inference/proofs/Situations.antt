-- The 11 starred situations of document 01, as one list with its 13 runs, computed by the definition that the solver's contract cites: code, sorts of
-- the expressions and measure. By computation. Assumes nothing.
use mathlib.Core.Path.{◌≡◌, refl}
use mathlib.Core.List.{map}
use Rattle.inference.specs.Situations.{solved_list, up_to, ran_of, ran_list, row_sub, row_lit, row_disjunction}
use Rattle.inference.specs.Situations.{row_comprehension, row_join, one_variable, with_its_list, comprehended, functions}
use Rattle.inference.specs.Situations.{typed_as, came_to, number_sort, Situation, situations}

pub starred : map (map (λ (r : Situation). ran_list r.0)) situations ≡ map (map (λ (r : Situation). r.1)) situations
unfolding solved_list up_to ran_of ran_list row_sub row_lit row_disjunction row_comprehension row_join one_variable with_its_list
    comprehended functions typed_as came_to number_sort situations
starred = refl
