-- The bytes of a working copy's blocks: what is written of a block is read back as that block, and the test of its limits decides them.
-- Assumes nothing.
use Prim.Native.Nat.{◌<◌, ◌≤◌, ℕ}
use mathlib.Core.List.{List, ◌++◌}
use mathlib.Core.Path.{◌≡◌, ap, refl}
use native.Mathlib.Omega.{arith}
use lib.Dec.{lit≤, ltb}
use lib.ListN.{length}
use lib.Seq.{take-append_seam}
use Rattle.block.proofs.Says.{Says, says, says_all, says-and, says-le, says-lt}
use Rattle.model.specs.Entry.{added, copied, deleted, empty, normal}
use Rattle.model.specs.WorkCopy.{CopyBlock, FitsCopyBlock, SheetBytes, bytes_ok, copy_fields, entry_block, fits_copy_block, parse_copy_block, seat_block}
use Rattle.laws.proofs.Codec.{Coded, two_back}

says-bytes : (b : List ℕ) → Says (bytes_ok b) (SheetBytes b)
says-bytes b = says-and (says-le (length b) 480) (says_all (λ (x : ℕ). ltb x 256) (λ (x : ℕ). x < 256) (λ x. says-lt x 256) b)

says_piece : (p : CopyBlock) → Says (fits_copy_block p) (FitsCopyBlock p)
says_piece (seat_block seat) = search says
says_piece (entry_block empty) = record { true_so = λ t. tt; so_true = λ t. tt }
says_piece (entry_block (normal r b)) = search (says, says-bytes)
says_piece (entry_block (added b)) = says-bytes b
says_piece (entry_block (deleted r)) = search says
says_piece (entry_block (copied s v b)) = search (says, says-bytes)

short : (p : CopyBlock) → FitsCopyBlock p → length (copy_fields p) ≤ 508
short (seat_block seat) f = lit≤ tt
short (entry_block empty) f = lit≤ tt
short (entry_block (normal r b)) f = omega (arith, f.1.0)
short (entry_block (added b)) f = omega (arith, f.0)
short (entry_block (deleted r)) f = lit≤ tt
short (entry_block (copied s v b)) f = omega (arith, f.2.0)

back : (p : CopyBlock) (z : List ℕ) → FitsCopyBlock p → parse_copy_block (copy_fields p ++ z) ≡ p
unfolding parse_copy_block
back (seat_block seat) z f = refl
back (entry_block empty) z f = refl
back (entry_block (normal r b)) z f = rw (two_back r, two_back (length b)) (ap (λ x. entry_block (normal r x)) (take-append_seam b z))
back (entry_block (added b)) z f = rw (two_back (length b)) (ap (λ x. entry_block (added x)) (take-append_seam b z))
back (entry_block (deleted r)) z f = rw (two_back r)
back (entry_block (copied s v b)) z f = rw (two_back v, two_back (length b)) (ap (λ x. entry_block (copied s v x)) (take-append_seam b z))

pub copy_coded : Coded copy_fields parse_copy_block fits_copy_block FitsCopyBlock
copy_coded = record { says = says_piece; short = short; back = back }
