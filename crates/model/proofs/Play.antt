-- A row is a call by a seat and what it answers; a case is a fresh store's blocks, rows, and the blocks used at the end.
-- Assumes nothing.
use Prim.Native.Nat.{ℕ}
use mathlib.Core.List.{List, map}
use Rattle.model.specs.Machine.{Answer, Call, fresh}
use Rattle.model.specs.Run.{Turn, answers, run}

infix 70 ◌does◌
infix 68 ◌says◌
abbrev pub ◌does◌ : ℕ → Call → Turn
seat does c = record { by = seat; call = c }

pub record Row : Type 0 where
  pub turn : Turn
  pub says : Answer

abbrev pub ◌says◌ : Turn → Answer → Row
t says a = record { turn = t; says = a }

pub record Case : Type 0 where
  pub blocks : ℕ
  pub rows : List Row
  pub used : ℕ

abbrev pub case : ℕ → List Row → ℕ → Case
case n l u = record { blocks = n; rows = l; used = u }

-- what a case finds, and what it is to find
abbrev pub finds : Case → List Answer × ℕ
finds c = let ts = map (λ r. r.turn) c.rows in (answers (fresh c.blocks) ts, (run (fresh c.blocks) ts).used)

abbrev pub states : Case → List Answer × ℕ
states c = (map (λ r. r.says) c.rows, c.used)

-- all choosing mask
abbrev pub everything : ℕ
everything = 0xffff_ffff
