-- Which list has no room, as the refusal that it is: 15 for the sorts and 16 for the nodes.
use Rattle.resolved_sort.specs.declared.Refusal.{Refusal}
use Rattle.resolved_sort.specs.declared.Refusal.TheVariants.{SortsFull, NodesFull}
use Rattle.unification.specs.declared.Full.{Full}
use Rattle.unification.specs.declared.Full.TheVariants.{Sorts, Nodes}

abbrev pub refusal_of : Full → Refusal
refusal_of Sorts = SortsFull
refusal_of Nodes = NodesFull
