-- `inner::release_in` meets its contract: each refusal by its line, or the one block is written.
-- Assumes nothing.
use Rattle.inner.proofs.Clearing.{open_taken}
use Rattle.inner.proofs.Releasing.{has_tail, made, no_block, open_laid, out_of_range, released-before, revision-small, room, seat-small}
use Rattle.std.proofs.Common.{rules}
use Rattle.inner.proofs.release_in.Goals as goal

pub has-requires : goal.has-requires
has-requires c = open_taken c.args.store.now c.args.h c.requires

pub returns-then-has : goal.returns-then-has
returns-then-has c = has_tail c.args.store.now c.args.h c.requires c.args.revision c.args.seat c.args.stamp c.has.ensures c.if-has.true c.unmoved.ensures

pub returns-then-unreleasable : goal.returns-then-unreleasable
returns-then-unreleasable c =
    out_of_range c.args.store.now c.args.h c.requires c.args.revision c.args.seat c.args.stamp c.has.ensures c.if-has.false c.unreleasable.ensures c.if-unreleasable.true c.unmoved-then-unreleasable.ensures

pub is_released-requires : goal.is_released-requires
is_released-requires c = open_laid c.args.store.now c.args.h c.requires

pub returns-then-is_released : goal.returns-then-is_released
returns-then-is_released c =
    released-before c.args.store.now c.args.h c.requires c.args.revision c.args.seat c.args.stamp c.has.ensures c.if-has.false c.unreleasable.ensures c.if-unreleasable.false c.is_released.ensures c.if-is_released.true c.unmoved-then-is_released.ensures

pub returns-then-store-h : goal.returns-then-store-h
returns-then-store-h c =
    no_block c.args.store.now c.args.h c.requires c.args.revision c.args.seat c.args.stamp c.has.ensures c.if-has.false c.unreleasable.ensures c.if-unreleasable.false c.is_released.ensures c.if-is_released.false c.if-store-h.true c.unmoved-then-store-h.ensures

pub overflow_cast-seat : goal.overflow_cast-seat
overflow_cast-seat c = let small = seat-small c.args.store.now c.args.h c.requires c.args.revision c.args.seat c.args.stamp c.has.ensures c.if-has.false c.unreleasable.ensures c.if-unreleasable.false c.is_released.ensures c.if-is_released.false c.if-store-h.false in search rules

pub put_release-requires : goal.put_release-requires
put_release-requires c = (
  room c.args.store.now c.args.h c.requires c.args.revision c.args.seat c.args.stamp c.has.ensures c.if-has.false c.unreleasable.ensures c.if-unreleasable.false c.is_released.ensures c.if-is_released.false c.if-store-h.false,
  revision-small c.args.store.now c.args.h c.requires c.args.revision c.args.seat c.args.stamp c.has.ensures c.if-has.false c.unreleasable.ensures c.if-unreleasable.false c.is_released.ensures c.if-is_released.false c.if-store-h.false,
)

pub returns : goal.returns
returns c =
    made c.args.store.now c.args.h c.requires c.args.revision c.args.seat c.args.stamp c.has.ensures c.if-has.false c.unreleasable.ensures c.if-unreleasable.false c.is_released.ensures c.if-is_released.false c.if-store-h.false (search rules) c.put_release.ensures
