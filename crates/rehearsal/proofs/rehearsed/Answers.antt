-- `rehearsal::rehearsed` meets its contract: a day on fresh buffers, and so the day.
-- Assumes nothing.
use native.Mathlib.Omega.{arith}
use Rattle.engine.proofs.Fresh.{copy-made, store-made}
use Rattle.rehearsal.proofs.Making.{rows_are}
use Rattle.rehearsal.proofs.Stepping.{planned}
use Rattle.rehearsal.proofs.rehearsed.Goals as goal

pub run_day-d-requires : goal.run_day-d-requires
run_day-d-requires c = let a = c.args in let p = c.requires in (planned a.settings p.0 p.1, p.2)

pub returns : goal.returns
returns c =
    let a = c.args in
    let p = c.requires in
    let x = c.run_day-d in
    let store = c.create_store in
    let one = c.create_copy in
    let two = c.create_copy-2 in
    let three = c.create_copy-3 in
    let four = c.create_copy-4 in
    rows_are a.settings a.steps store.new.store one.new.copy two.new.copy three.new.copy four.new.copy
    x.new.store x.new.one x.new.two x.new.three x.new.four x.result p.0 p.1 p.2
    (store-made 121 c.zeros-store.result store.new.store store.result c.zeros-store.ensures.room (omega arith) (omega arith) store.ensures)
    (copy-made c.zeros-one.result one.new.copy one.result 1 c.zeros-one.ensures.room (omega arith) (omega arith) one.ensures)
    (copy-made c.zeros-two.result two.new.copy two.result 2 c.zeros-two.ensures.room (omega arith) (omega arith) two.ensures)
    (copy-made c.zeros-three.result three.new.copy three.result 3 c.zeros-three.ensures.room (omega arith) (omega arith) three.ensures)
    (copy-made c.zeros-four.result four.new.copy four.result 4 c.zeros-four.ensures.room (omega arith) (omega arith) four.ensures)
    x.ensures
