-- What stands for a variable that is free: a sort of the list, or nothing.
use Rattle.std.specs.Prelude.{Option}
use Rattle.resolved_sort.specs.declared.SortId.{SortId}

abbrev pub Default : Type 0
Default = Option SortId
