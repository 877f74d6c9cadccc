-- `rehearsal::ask` meets its contract.
-- Assumes nothing.
use mathlib.Core.Path.{◌∙◌, sym}
use Rattle.rehearsal.proofs.Asking.{ask_grants, ask_joins}
use Rattle.rehearsal.proofs.ask.Goals as goal

pub returns-then-asked-seat : goal.returns-then-asked-seat
returns-then-asked-seat c b =
    let a = c.args in
    let x = c.asked-asked in
    let r = c.one_ask in
    c.granted.ensures b
    ∙ ask_grants b a.d a.period a.seat a.step x.result r.result x.ensures r.ensures c.if-step-period-ne0.false (sym c.if-in_line.false ∙ c.in_line.ensures) c.if-asked-seat.true

pub returns-else-asked-seat : goal.returns-else-asked-seat
returns-else-asked-seat c b =
    let a = c.args in
    let x = c.asked-asked in
    let r = c.one_ask in
    ask_joins b a.d a.period a.seat a.step x.result r.result x.ensures r.ensures c.if-step-period-ne0.false (sym c.if-in_line.false ∙ c.in_line.ensures) c.if-asked-seat.false
