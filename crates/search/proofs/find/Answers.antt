-- A block that is no commit up to r is passed over, and so is a commit that does not name the sheet; the first hit is the answer.
-- Assumes nothing.
use Rattle.std.proofs.Common.{None, Some, ◌*◌, ◌+◌, ap, ◌-◌, ◌∙◌, ◌≡◌, arith, drop, refl, rules, sym}
use Rattle.model.specs.Blocks.{parse, parse_line, parse_lines}
use Rattle.model.specs.Store.{blocks_of}
use Rattle.search.proofs.BackLaws.{back_into, back_none, back-skip, few-changes}
use Rattle.search.proofs.Named.{hit_first, hit_none, named_here, named_next}
use Rattle.search.proofs.Revisions.{passed}
use Rattle.search.specs.Change.{first_named}
use Rattle.search.specs.Find.{back}
use Rattle.shape.proofs.LineLaws.{block_of, left-none}
use Rattle.shape.specs.Shape.{kind_of}
use Rattle.shape.specs.declared.BlockKind.TheVariants.{Commit}
use Rattle.store.proofs.Blocks.{lent, part_size}
use Rattle.search.proofs.find.Goals as goal

pub search-init : goal.search-init
search-init c = let P = passed c.args.store.now c.args.n c.args.used c.requires.0 in record { few = P.few; room = P.whole; none = refl; is = refl }

pub search-preserved-then-ne : goal.search-preserved-then-ne
search-preserved-then-ne c =
    let a = c.args in
    let l = c.search in
    let i = l.invariant in
    let k : c.kind.result ≡ Commit → ⊥ = search rules in
    record { few = i.few; room = i.room; none = i.none; is = i.is ∙ back-skip a.r a.used a.store.now a.i l.p (omega arith) (omega arith) (λ q. absurd (k (c.kind.ensures ∙ q))) }

pub search-preserved-then-r-revision : goal.search-preserved-then-r-revision
search-preserved-then-r-revision c =
    let a = c.args in
    let l = c.search in
    let i = l.invariant in
    record { few = i.few; room = i.room; none = i.none; is = i.is ∙ back-skip a.r a.used a.store.now a.i l.p (omega arith) (omega arith) (λ q. omega (arith, c.two_at-revision.ensures.0)) }

pub bounds-b-o : goal.bounds-b-o
bounds-b-o c =
    let a = c.args in
    let l = c.search in
    let P = passed a.store.now a.n a.used c.requires.0 in
    let b = lent a.store.now (l.p - 1) in
    let k : kind_of (parse b) ≡ Commit = search rules in
    let few = few-changes a.used (l.p - 1) a.store.now P.laws (omega arith) k in
    let size = part_size a.store.now a.used (l.p - 1) P.whole (omega arith) in
    omega (arith, few, size, c.two_at-m.ensures.0)

pub changes-preserved : goal.changes-preserved
changes-preserved c =
    let l = c.changes in
    let b = lent c.args.store.now (c.search.p - 1) in
    record { none = l.invariant.none; is = sym (named_next c.args.i b c.two_at-m.result l.j c.changes-test.true c.if-b-o.false) ∙ l.invariant.is }

pub search-preserved : goal.search-preserved
search-preserved c =
    let a = c.args in
    let l = c.search in
    let i = l.invariant in
    let b = lent a.store.now (l.p - 1) in
    let k : kind_of (parse b) ≡ Commit = search rules in
    let r = c.two_at-revision.result in
    let m = c.two_at-m.result in
    let none : first_named a.i (parse_lines m (drop 16 b)) ≡ None = sym c.changes.invariant.is ∙ ap (first_named a.i) (left-none b 16 m c.changes.j (omega arith)) in
    record {
      few = i.few;
      room = i.room;
      none = c.changes.invariant.none;
      is = i.is
          ∙ back_into a.r a.used a.store.now a.i l.p (omega arith) (omega arith) r m k c.two_at-revision.ensures.0 c.two_at-m.ensures.0 (omega arith)
          ∙ hit_none a.i r (back a.r (blocks_of a.used a.store.now) a.i (l.p - 1)) (parse_lines m (drop 16 b)) none;
    }

pub returns-then-b-o : goal.returns-then-b-o
returns-then-b-o c =
    let a = c.args in
    let l = c.search in
    let b = lent a.store.now (l.p - 1) in
    let o = 16 + 8 * c.changes.j in
    let k : kind_of (parse b) ≡ Commit = search rules in
    let q : (parse_line (drop o b)).block ≡ c.two_at-block.result = block_of b o ∙ sym c.two_at-block.ensures.0 in
    let r = c.two_at-revision.result in
    let m = c.two_at-m.result in
    let first : first_named a.i (parse_lines m (drop 16 b)) ≡ Some (parse_line (drop o b)) =
    sym c.changes.invariant.is ∙ named_here a.i b m c.changes.j c.changes-test.true c.if-b-o.true in
    sym (l.invariant.is
    ∙ back_into a.r a.used a.store.now a.i l.p (omega arith) (omega arith) r m k c.two_at-revision.ensures.0 c.two_at-m.ensures.0 (omega arith)
    ∙ hit_first a.i r (back a.r (blocks_of a.used a.store.now) a.i (l.p - 1)) (parse_lines m (drop 16 b)) (parse_line (drop o b)) first
    ∙ rw q refl)

pub returns-after-search : goal.returns-after-search
returns-after-search c =
    let a = c.args in
    let l = c.search in
    l.invariant.none ∙ sym (l.invariant.is ∙ back_none a.r (blocks_of a.used a.store.now) a.i l.p (omega arith))
