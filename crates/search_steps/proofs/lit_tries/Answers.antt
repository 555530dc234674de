-- By the kind, over the places of the number sorts. Assumes nothing.
use Rattle.resolved_sort.specs.Storage.{kind_flat}
use Rattle.search_steps.proofs.Literals as literal
use Rattle.search_steps.proofs.lit_tries.Goals as goal

pub returns-in-Positive : goal.returns-in-Positive
unfolding kind_flat
returns-in-Positive c =
    literal.positive_places_tried _ _ _ _ _ _ c.into.ensures c.into-in-Positive.ensures c.into-in-Positive-2.ensures c.into-in-Positive-3.ensures c.in-Positive.is

pub returns-in-Natural : goal.returns-in-Natural
unfolding kind_flat
returns-in-Natural c =
    literal.natural_places_tried _ _ _ _ _ (record { 0 = 0 }) c.into-in-Natural.ensures c.into-in-Natural-2.ensures c.into-in-Natural-3.ensures c.in-Natural.is
