-- Assumes nothing.
use Rattle.std.proofs.Common.{◌∙◌, refl, rules, tests}
use Rattle.std.proofs.lemmas.Iterator.{YieldsList-from_range}
use Rattle.std.proofs.lemmas.Iterator.Search.{all_from_yields_List}
use Rattle.model.specs.Fitting.{fits_entry}
use Rattle.model.specs.Store.{store_history}
use Rattle.entries.specs.View.{entry_in}
use Rattle.entries.proofs.Turns.{all_fit}
use Rattle.entries.proofs.fits.Goals as goal

pub returns : goal.returns
returns c =
    let a = c.args in
    all_from_yields_List (λ i. fits_entry (store_history a.store.now) i (entry_in a.copy.now i)) _ _ c.all.result c.all.ensures.ran (YieldsList-from_range 0 32 32 refl refl) (λ x b q k. search (rules, tests))
    ∙ all_fit a.store.now a.copy.now c.requires.accepted
