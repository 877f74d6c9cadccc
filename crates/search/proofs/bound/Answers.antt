-- The way back stops at a block that is no mark and states r or less, or at the label: the bound stands behind it.
-- Assumes nothing.
use Rattle.std.proofs.Common.{◌+◌, ◌-◌, ◌<◌, ◌∙◌, ◌≡◌, arith, rules, subst, sym, ℕ}
use Rattle.model.specs.Store.{blocks_of}
use Rattle.search.proofs.Halving.{behind_later, behind-mark, bound-first, bound_here, halved_room}
use Rattle.search.specs.Find.{Bound, era_at}
use Rattle.shape.specs.declared.BlockKind.TheVariants.{Mark}
use Rattle.search.proofs.bound.Goals as goal
use Rattle.search.proofs.bound.Goals.{else-ne-via-then-ne+else-two_at-r, else-ne-via-else-ne}

pub loop-p-init : goal.loop-p-init
loop-p-init c =
    let a = c.args in
    let w = halved_room a.store.now a.n a.used c.requires.0 a.r in
    record { low = c.halved-p.ensures.0; high = c.halved-p.ensures.1; few = w.1; room = w.2; later = c.halved-p.ensures.2 }

pub returns-then-two_at-r-clause-bound : goal.returns-then-two_at-r-clause-bound
returns-then-two_at-r-clause-bound c =
    let a = c.args in
    let l = c.loop-p in
    let d : l.p ≡ l.p - 1 + 1 = omega arith in
    let k : c.kind.result ≡ Mark → ⊥ = search rules in
    subst (Bound (blocks_of a.used a.store.now) a.used a.r) d
    (bound_here a.store.now a.n a.used c.requires.0 a.r l.p (omega arith) l.invariant.high l.invariant.later c.two_at.result (λ e. k (c.kind.ensures ∙ e)) c.two_at.ensures.0 (omega arith))

pub loop-p-preserved : goal.loop-p-preserved
loop-p-preserved c =
    let a = c.args in
    let l = c.loop-p in
    let i = l.invariant in
    record {
      low = omega arith;
      high = omega arith;
      few = i.few;
      room = i.room;
      later = elim c.else-ne.branch [
        | else-ne-via-then-ne+else-two_at-r w ↦
            behind_later a.store.now a.n a.used c.requires.0 a.r (l.p - 1) w.two_at.result (omega arith) (omega arith) w.two_at.ensures.0 (omega arith)
        | else-ne-via-else-ne w ↦
            behind-mark a.store.now a.n a.used c.requires.0 a.r l.p (omega arith) i.high i.later
            (let k : c.kind.result ≡ Mark = search rules in sym c.kind.ensures ∙ k)
      ];
    }

pub returns-clause-bound : goal.returns-clause-bound
returns-clause-bound c =
    let a = c.args in
    let l = c.loop-p in
    let e : l.p ≡ 1 = omega arith in
    bound-first a.store.now a.n a.used c.requires.0 a.r (subst (λ (x : ℕ). a.r < era_at (blocks_of a.used a.store.now) x) e l.invariant.later)
