-- Which part of a buffer read and show hand back.
-- Assumes nothing.
use Rattle.std.specs.Prelude.{◌+◌, ℕ, List, ◌≡◌, drop, take}
use Rattle.std.specs.Borrow.{Bor}
use Rattle.model.specs.Calls.{Place, in_copy, in_store, no_place}

-- r is a part of the lent slice s, given its start and its length: its block of memory is that of s, its offset is past that of s by the start, and its bytes are
-- those of s there
pub record PartAt (s r : Bor (List ℕ)) (part : ℕ × ℕ) : Type 0 where
  pub block : r.ref_ptr.0 ≡ s.ref_ptr.0
  pub offset : r.ref_ptr.1 ≡ s.ref_ptr.1 + part.0
  pub bytes : r.now ≡ take part.1 (drop part.0 s.now)

-- r is the part that a place names, of the store s or of the working copy c; refused, the empty part at the store's start
abbrev pub ShownAt : Bor (List ℕ) → Bor (List ℕ) → Bor (List ℕ) → Place → Type 0
ShownAt s c r (no_place n) = PartAt s r (0, 0)
ShownAt s c r (in_store p m n) = PartAt s r (p, m)
ShownAt s c r (in_copy p m) = PartAt c r (p, m)
