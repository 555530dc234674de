-- Tries whose places are listed.
use Rattle.std.specs.Prelude.{List}
use Rattle.unification.specs.Making.{Lent}
use Rattle.unification.specs.Growing.{PlacedIn}
use Rattle.inference.specs.Search.{Try}
use Rattle.inference.specs.Typing.{All}

-- a try of places
abbrev pub TryPlaced : Lent → Try → Type 0
TryPlaced W t = PlacedIn W t.left × PlacedIn W t.right

abbrev pub TriesPlaced : Lent → List Try → Type 0
TriesPlaced W ts = All (TryPlaced W) ts
