-- Bindings that passed their checks name places, and pass them again in lists that have grown. By the growth of lists. Assumes nothing.
use mathlib.Core.Path.{sym, subst}
use Rattle.unification.specs.Nodes.{Binds}
use Rattle.unification.specs.Checked.{lists_of, BindsChecked}
use Rattle.unification.specs.Making.{Lent}
use Rattle.unification.proofs.Places.{bound_is_place}
use Rattle.unification.specs.Growing.{Names, CheckedLent, PlacedIn, Grows, CheckedBinds}
use Rattle.unification.proofs.Grows.{binds_grown}

pub binds_name_places : (W : Lent) (B : Binds) → CheckedBinds W B → Names (PlacedIn W) B
binds_name_places W B b u q e = bound_is_place W.lengths.sorts W.lengths.nodes B u q b.places e

pub checked_binds_grown : (W W' : Lent) (B : Binds) → CheckedLent W → CheckedBinds W B → Grows W W' → CheckedBinds W' B
checked_binds_grown W W' B c b g =
    subst (λ v. BindsChecked (lists_of W'.sorts W'.lengths.sorts W'.nodes W'.lengths.nodes) v B)
    (sym g.variables) (binds_grown W c W' g B (binds_name_places W B b) b)
