-- A text written from a place on, and where it ends.
-- Assumes nothing.
use Rattle.std.specs.Prelude.{◌+◌, ℕ, List, ◌≡◌, length}
use Rattle.block.specs.Write.{written}

pub record Printed (at : ℕ) (text out : List ℕ) (end : ℕ) (out' : List ℕ) : Type 0 where
  pub ends : end ≡ at + length text
  pub is : out' ≡ written at text out
