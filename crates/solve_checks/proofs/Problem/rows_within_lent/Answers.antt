-- Each list in turn is as the definition says. Assumes nothing.
use Rattle.std.proofs.Common.{◌≡◌, ◌∙◌}
use Rattle.solve_checks.proofs.Fine as fine
use Rattle.solve_checks.proofs.Lent.{first_two, first_three, first_four, list_by_list}
use Rattle.solve_checks.proofs.Problem.rows_within_lent.Goals as goal
use Rattle.solve_checks.proofs.Problem.rows_within_lent.Goals.{then-fits, else-fits, then-self, else-self, then-fits-2, else-fits-2}

pub returns-then-fits-3 : goal.returns-then-fits-3
returns-then-fits-3 c =
    let p = c.args.self.now in
    let two : c.if-fits.value ≡ first_two p =
    elim c.if-fits.branch [
      | then-fits w ↦ fine.then _ _ c.fits.result c.fits.ensures w.if-fits.true _ w.value-is
      | else-fits w ↦ w.value-is ∙ fine.stops _ _ c.fits.result c.fits.ensures w.if-fits.false
    ] in
    let three : c.if-self.value ≡ first_three p =
    elim c.if-self.branch [
      | then-self w ↦ fine.then _ _ c.if-fits.value two w.if-self.true _ (w.value-is ∙ w.fits-then-self.ensures)
      | else-self w ↦ w.value-is ∙ fine.stops _ _ c.if-fits.value two w.if-self.false
    ] in
    let four : c.if-fits-2.value ≡ first_four p =
    elim c.if-fits-2.branch [
      | then-fits-2 w ↦ fine.then _ _ c.if-self.value three w.if-fits-2.true _ (w.value-is ∙ w.fits-then-fits-2.ensures)
      | else-fits-2 w ↦ w.value-is ∙ fine.stops _ _ c.if-self.value three w.if-fits-2.false
    ] in
    fine.then _ _ c.if-fits-2.value four c.if-fits-3.true _ c.fits-then-fits-3.ensures ∙ list_by_list p

pub returns-else-fits-3 : goal.returns-else-fits-3
returns-else-fits-3 c =
    let p = c.args.self.now in
    let two : c.if-fits.value ≡ first_two p =
    elim c.if-fits.branch [
      | then-fits w ↦ fine.then _ _ c.fits.result c.fits.ensures w.if-fits.true _ w.value-is
      | else-fits w ↦ w.value-is ∙ fine.stops _ _ c.fits.result c.fits.ensures w.if-fits.false
    ] in
    let three : c.if-self.value ≡ first_three p =
    elim c.if-self.branch [
      | then-self w ↦ fine.then _ _ c.if-fits.value two w.if-self.true _ (w.value-is ∙ w.fits-then-self.ensures)
      | else-self w ↦ w.value-is ∙ fine.stops _ _ c.if-fits.value two w.if-self.false
    ] in
    let four : c.if-fits-2.value ≡ first_four p =
    elim c.if-fits-2.branch [
      | then-fits-2 w ↦ fine.then _ _ c.if-self.value three w.if-fits-2.true _ (w.value-is ∙ w.fits-then-fits-2.ensures)
      | else-fits-2 w ↦ w.value-is ∙ fine.stops _ _ c.if-self.value three w.if-fits-2.false
    ] in
    fine.stops _ _ c.if-fits-2.value four c.if-fits-3.false ∙ list_by_list p
