-- `inner::shown_in` meets its contract: the seat's own bytes, or the last tree's.
-- Assumes nothing.
use Rattle.block.specs.Buffer.{block_at}
use Rattle.inner.proofs.Showing.{newest-inside, own-none, own-some, show_beyond, show_lacking, show_own, show_there}
use Rattle.model.specs.Calls.{in_copy}
use Rattle.model.specs.Entry.{own_bytes}
use Rattle.std.proofs.Common.{sym, ap, arith, ◌∙◌, ◌*◌, ◌+◌}
use Rattle.workcopy.specs.Copy.{bytes_in}
use Rattle.inner.proofs.shown_in.Goals as goal

pub returns-then-sheet-gt31 : goal.returns-then-sheet-gt31
returns-then-sheet-gt31 c =
    let a = c.args in
    record { is = show_beyond a.store.now a.copy.now a.v c.requires a.sheet c.if-sheet-gt31.true; inside = tt }

pub returns-then-own_bytes : goal.returns-then-own_bytes
returns-then-own_bytes c =
    let a = c.args in
    let P = c.requires in
    let low = c.if-sheet-gt31.false in
    let e = c.entry_at-e.result in
    let R = c.entry_at-e.ensures in
    let x = bytes_in e (block_at a.copy.now (a.sheet + 1)) in
    let q = ap own_bytes (sym R.means) ∙ own-some e.state x (sym c.own_bytes.ensures ∙ c.if-own_bytes.true) in
    let size = P.viewed.accepted.size in
    let short = R.short in
    record {
      is = ap (in_copy (512 * (1 + a.sheet) + 16)) (sym R.whole) ∙ show_own a.store.now a.copy.now a.v P a.sheet low x q;
      inside = omega arith;
    }

pub returns-then-found-eq0 : goal.returns-then-found-eq0
returns-then-found-eq0 c =
    let a = c.args in
    let P = c.requires in
    let low = c.if-sheet-gt31.false in
    let e = c.entry_at-e.result in
    let R = c.entry_at-e.ensures in
    let x = bytes_in e (block_at a.copy.now (a.sheet + 1)) in
    let q = ap own_bytes (sym R.means) ∙ own-none e.state x (sym c.own_bytes.ensures ∙ c.if-own_bytes.false) in
    record { is = show_lacking a.store.now a.copy.now a.v P a.sheet low q c.look_up-found.result c.look_up-found.ensures c.if-found-eq0.true; inside = tt }

pub span_at-requires : goal.span_at-requires
span_at-requires c =
    let a = c.args in
    let P = c.requires in
    newest-inside a.store.now a.copy.now a.v P a.sheet c.look_up-found.ensures

pub returns : goal.returns
returns c =
    let a = c.args in
    let P = c.requires in
    let low = c.if-sheet-gt31.false in
    let e = c.entry_at-e.result in
    let R = c.entry_at-e.ensures in
    let x = bytes_in e (block_at a.copy.now (a.sheet + 1)) in
    let q = ap own_bytes (sym R.means) ∙ own-none e.state x (sym c.own_bytes.ensures ∙ c.if-own_bytes.false) in
    let S = c.span_at.ensures in
    record { is = show_there a.store.now a.copy.now a.v P a.sheet low q c.look_up-found.result c.look_up-found.ensures c.if-found-eq0.false c.span_at.result S.is; inside = S.inside }
