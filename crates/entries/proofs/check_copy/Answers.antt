-- Assumes nothing.
use Rattle.std.proofs.Common.{◌∙◌, sym}
use Rattle.std.proofs.lemmas.Result.{err_from_is_err_and}
use Rattle.entries.proofs.Checking.{both-ready, both_unfit, both-viewed, copy-refused}
use Rattle.entries.proofs.check_copy.Goals as goal

pub returns-in_err-seat : goal.returns-in_err-seat
returns-in_err-seat c =
    let p = err_from_is_err_and c.from_residual.result c.from_residual.ensures.1 in
    rw (p.1, p.2) (copy-refused c.args.store.now c.args.copy.now c.requires (sym c.accept.ensures ∙ c.in_err-seat.was))

pub fits-requires : goal.fits-requires
fits-requires c = both-viewed c.args.store.now c.args.copy.now c.requires (sym c.accept.ensures ∙ c.in_ok-seat.was)

pub returns-then-not-fits : goal.returns-then-not-fits
returns-then-not-fits c =
    both_unfit c.args.store.now c.args.copy.now c.requires (sym c.accept.ensures ∙ c.in_ok-seat.was) (sym c.fits.ensures ∙ c.if-not-fits.true)

pub returns : goal.returns
returns c =
    both-ready c.args.store.now c.args.copy.now c.requires (sym c.accept.ensures ∙ c.in_ok-seat.was) (sym c.fits.ensures ∙ c.if-not-fits.false)
