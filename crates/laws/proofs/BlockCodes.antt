-- The bytes of a store's blocks: what is written of a block is read back as that block, and the test of its limits decides them.
-- Assumes nothing.
use Prim.Native.Nat.{◌*◌, ◌<◌, ◌≤◌, suc, zero, ℕ}
use mathlib.Core.List.{List, [], ◌++◌, ◌∷◌}
use mathlib.Core.Path.{◌≡◌, ap, refl}
use native.Mathlib.Omega.{arith}
use lib.Dec.{lit≤, ltb}
use lib.ListN.{length}
use lib.Seq.{take-append_seam}
use Rattle.block.proofs.Says.{Says, says, says_all, says-and, says_and3, says_and4, says-le, says-lt}
use Rattle.model.specs.Blocks.{Action, Block, FitsBlock, FitsLine, Line, action_of, adds, blank, changes, code_of, commit, content, copies, deletes, fields_of, fits_block, fits_line, label, lines_of, mark, parse, parse_lines}
use Rattle.model.specs.Log.{released}
use Rattle.laws.proofs.Codec.{Coded, four-back, two_back}

action-back : (a : Action) → action_of (code_of a) ≡ a
action-back adds = refl
action-back changes = refl
action-back deletes = refl
action-back copies = refl

pub code_back : (y : ℕ) → 1 ≤ y → y ≤ 4 → code_of (action_of y) ≡ y
code_back zero h g = absurd (omega arith)
code_back (suc zero) h g = refl
code_back (suc (suc zero)) h g = refl
code_back (suc (suc (suc zero))) h g = refl
code_back (suc (suc (suc (suc zero)))) h g = refl
code_back (suc (suc (suc (suc (suc y))))) h g = absurd (omega arith)

lines-back : (ls : List Line) (z : List ℕ) → parse_lines (length ls) (lines_of ls ++ z) ≡ ls
lines-back [] z = refl
lines-back (l ∷ ls) z =
    λ i. record {
      sheet = l.sheet;
      action = action-back l.action i;
      block = two_back l.block i;
      source = l.source;
      revision = two_back l.revision i;
    } ∷ lines-back ls z i

pub length-lines : (ls : List Line) → length (lines_of ls) ≡ 8 * length ls
length-lines [] = refl
length-lines (l ∷ ls) = omega (arith, length-lines ls)

says-fits : (r : Block) → Says (fits_block r) (FitsBlock r)
says-fits label = record { true_so = λ t. tt; so_true = λ t. tt }
says-fits (content r b) = says_and3 (says-lt r 65_536) (says-le (length b) 480) (says_all (λ (x : ℕ). ltb x 256) (λ (x : ℕ). x < 256) (λ x. says-lt x 256) b)
says-fits (commit r seat stamp ls) =
    says_and4 (says-lt r 65_536) (says-lt seat 256) (says-lt stamp 4_294_967_296)
    (says-and (says-le (length ls) 32) (says_all fits_line FitsLine (λ l. search says) ls))
says-fits (mark (released r seat stamp)) = says_and3 (says-lt r 65_536) (says-lt seat 256) (says-lt stamp 4_294_967_296)
says-fits blank = record { true_so = λ t. tt; so_true = λ t. tt }

short : (r : Block) → FitsBlock r → length (fields_of r) ≤ 508
short label f = lit≤ tt
short (content r b) f = omega (arith, f.1)
short (commit r seat stamp ls) f = omega (arith, f.3.0, length-lines ls)
short (mark (released r seat stamp)) f = lit≤ tt
short blank f = lit≤ tt

back : (r : Block) (z : List ℕ) → FitsBlock r → parse (fields_of r ++ z) ≡ r
unfolding parse
back label z f = refl
back (content r b) z f = rw (two_back r, two_back (length b)) (ap (content r) (take-append_seam b z))
back (commit r seat stamp ls) z f = rw (two_back r, two_back (length ls), four-back stamp) (ap (commit r seat stamp) (lines-back ls z))
back (mark (released r seat stamp)) z f = rw (two_back r, four-back stamp)
back blank z f = refl

pub block_coded : Coded fields_of parse fits_block FitsBlock
block_coded = record { says = says-fits; short = short; back = back }
