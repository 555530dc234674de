-- Item after item. Assumes nothing.
use Rattle.std.proofs.Common.{rules, tests}
use Rattle.std.proofs.lemmas.Iterator.{YieldsList-from_slice, YieldsList-from_zip}
use Rattle.std.proofs.lemmas.Iterator.Search.{all_from_yields_List}
use Rattle.list_forms.specs.Items.{is_of}
use Rattle.list_forms.proofs.Fitting as law
use Rattle.list_forms.proofs.fits.Goals as goal

pub returns-then-t-form : goal.returns-then-t-form
returns-then-t-form c =
    law.fits_at_a_length c.args.t.now c.args.form.now c.if-t-form.true c.all.result
    (all_from_yields_List (λ p. is_of p.0 p.1) c.all.new.self _ _ c.all.ensures.ran
    (YieldsList-from_zip (YieldsList-from_slice c.args.form.now cc) (YieldsList-from_slice c.args.t.now cc))
    (λ x b q k. search (rules, tests)))
