-- The blocks from p on name the sheet in no commit up to r, and so do the changes before the j-th. The used blocks stand in the store.
-- Assumes nothing.
use Rattle.std.proofs.Common.{◌*◌, ◌≤◌, ◌≡◌, drop, length}
use Rattle.model.specs.Blocks.{parse_lines}
use Rattle.model.specs.Store.{blocks_of}
use Rattle.search.specs.Change.{first_named}
use Rattle.search.specs.Find.{back}
use Rattle.search.specs.declared.Found.{Found}
use Rattle.shape.specs.Lines.{left}
use Rattle.search.proofs.find.Given as goal

abbrev pub invariant-search : goal.invariant-search
invariant-search l = record {
  few : l.used ≤ 4_096;
  room : l.used * 512 ≤ length l.store;
  none : ◌≡◌ {A = Found} l.found (record { block = 0; revision = 0 });
  is : back l.r (blocks_of l.used l.store) l.i l.end ≡ back l.r (blocks_of l.used l.store) l.i l.p;
}

abbrev pub invariant-changes : goal.invariant-changes
invariant-changes l = record {
  none : ◌≡◌ {A = Found} l.found (record { block = 0; revision = 0 });
  is : first_named l.i (left l.b 16 l.m l.j) ≡ first_named l.i (parse_lines l.m (drop 16 l.b));
}
