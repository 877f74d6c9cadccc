-- `rehearsal::say_row` meets its contract.
-- Assumes nothing.
use mathlib.Core.List.{List, [], ◌++◌, ◌∷◌}
use mathlib.Core.Path.{subst}
use Prim.Native.Nat.{ℕ}
use Rattle.text.specs.Text.{decimal_of}
use Rattle.rehearsal.specs.Printed.{Printed}
use Rattle.rehearsal.proofs.Printing.{printed_both, row_is}
use Rattle.rehearsal.proofs.say_row.Goals as goal

pub returns-clause-printed : goal.returns-clause-printed
returns-clause-printed c =
    let a = c.args in
    let r = a.row in
    let x = c.say_number-p in
    let y = c.say_number-q in
    let z = c.say_number in
    let t = decimal_of r.commits ++ (32 ∷ []) in
    let u = decimal_of r.asks ++ (32 ∷ []) in
    let v = decimal_of r.longest ++ (10 ∷ []) in
    let two = printed_both x.result y.result z.result u v x.new.out y.new.out z.new.out y.ensures.printed z.ensures.printed in
    let all = printed_both a.at x.result z.result t (u ++ v) a.out.now x.new.out z.new.out x.ensures.printed two in
    subst (λ (w : List ℕ). Printed a.at w a.out.now z.result z.new.out) (row_is r.commits r.asks r.longest) all
