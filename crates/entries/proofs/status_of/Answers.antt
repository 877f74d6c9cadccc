-- Assumes nothing.
use Rattle.std.proofs.Common.{◌∙◌, ap, false, not, sym, true}
use borrow.Author.Tests.{eq-eqb, ne_eqb}
use Rattle.model.specs.Store.{store_history}
use Rattle.entries.proofs.Looking.{newest-found}
use Rattle.entries.proofs.States.{normal_base, status-empty}
use Rattle.entries.proofs.status_of.Goals as goal

pub block_at-p-requires : goal.block_at-p-requires
block_at-p-requires c =
    (c.requires.0.viewed.opened, c.requires.1, normal_base c.args.store.now c.args.copy.now c.args.v c.requires.0 c.entry_at.ensures c.in-Normal.is, c.requires.2)

pub returns-in-Empty : goal.returns-in-Empty
returns-in-Empty c =
    let v = c.requires.0.viewed.opened in
    status-empty (store_history c.args.store.now) true c.entry_at.ensures c.in-Empty.is (sym (ap not (ne_eqb c.args.f.block 0 c.if-f-ne0.true)) ∙ newest-found c.args.store.now c.args.v v c.args.i c.requires.1)

pub returns-in-Empty-2 : goal.returns-in-Empty-2
returns-in-Empty-2 c =
    let v = c.requires.0.viewed.opened in
    status-empty (store_history c.args.store.now) false c.entry_at.ensures c.in-Empty.is (sym (ap not (eq-eqb c.args.f.block 0 c.if-f-ne0.false)) ∙ newest-found c.args.store.now c.args.v v c.args.i c.requires.1)
