-- Blocks in a buffer: block j is the 512 bytes from byte 512 * j on.
-- Assumes nothing.
use Rattle.std.specs.Prelude.{ℕ, ◌+◌, ◌*◌, ◌/◌, cond, List, ◌++◌, length, take, drop, ltb}
use Rattle.block.specs.Check.{seal_of}

abbrev pub block_at : List ℕ → ℕ → List ℕ
block_at l j = take 512 (drop (512 * j) l)

-- the buffer with other bytes in the place of block j
abbrev pub with_block : List ℕ → ℕ → List ℕ → List ℕ
with_block l j b = take (512 * j) l ++ (b ++ drop (512 * j + 512) l)

-- the buffer with the check of block j written, where it has a block j
unfoldable pub seal_at : List ℕ → ℕ → List ℕ
seal_at l j = cond (ltb j (length l / 512)) (with_block l j (seal_of (block_at l j))) l
