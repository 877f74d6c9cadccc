-- Which bytes are a store with a tail, the statement: a store without one, and from block U on the tail's bytes in the place of zero blocks.
-- Assumes nothing.
use Rattle.std.specs.Prelude.{◌*◌, ◌+◌, ◌≤◌, suc, ℕ, false, List, [], ◌++◌, ◌∷◌, map, ◌≡◌, length}
use Rattle.block.specs.Check.{sealed}
use Rattle.block.specs.Lists.{All}
use Rattle.block.specs.Write.{written}
use Rattle.model.specs.Blocks.{FitsBlock, content, fields_of}
use Rattle.model.specs.Codec.{joined}
use Rattle.model.specs.History.{Bytes, History, last}
use Rattle.model.specs.Store.{Holds, blocks_of, front}

-- a store of N blocks without a tail is the layout of the commits, with any marks among them, and U blocks stand before the all-zero ones
pub record Stored (N : ℕ) (store : Bytes) (h : History) (used : ℕ) : Type 0 where
  pub holds : Holds N store h
  pub uses : length (front (blocks_of N store)) ≡ used

-- "a block with a wrong check": any 512 bytes else
pub record Junk (b : Bytes) : Type 0 where
  pub size : length b ≡ 512
  pub wrong : sealed b ≡ false

abbrev pub flat : List Bytes → Bytes
flat [] = []
flat (b ∷ bs) = b ++ flat bs

-- the bytes of a tail: content blocks of revision r, and junk
abbrev pub tail_bytes : ℕ → List Bytes → List Bytes → Bytes
tail_bytes r cs js = joined fields_of (map (content r) cs) ++ flat js

-- "up to 32 well-formed content blocks that carry the next revision, and after them at most one block with a wrong check"
pub record Tail (r : ℕ) (cs js : List Bytes) : Type 0 where
  pub few : length cs ≤ 32
  pub fits : All (λ (c : Bytes). FitsBlock (content r c)) cs
  pub one : length js ≤ 1
  pub junk : All Junk js

-- N blocks of bytes are the layout of the commits, with any marks, with a tail of t blocks after the U used ones (t is 0 where there is none), and zero blocks to the end
pub record Tailed (N : ℕ) (store : Bytes) (h : History) (used t : ℕ) : Type 0 where
  pub bare : Bytes
  pub stored : Stored N bare h used
  pub contents : List Bytes
  pub junk : List Bytes
  pub tail : Tail (suc (last h)) contents junk
  pub size : length contents + length junk ≡ t
  pub room : used + t ≤ N
  pub bytes : store ≡ written (512 * used) (tail_bytes (suc (last h)) contents junk) bare
