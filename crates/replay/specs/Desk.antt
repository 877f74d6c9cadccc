-- What a script runs on: a store, four working copies side by side, and the records of the answers; and what the calls of a script leave there.
-- Assumes nothing.
use Rattle.std.specs.Prelude.{◌*◌, ◌+◌, ◌-◌, suc, ℕ, List, [], ◌++◌, ◌∷◌, drop, take}
use Rattle.block.specs.Buffer.{with_block}
use Rattle.model.specs.Calls.{Buffers, Out, call}
use Rattle.model.specs.History.{Bytes}
use Rattle.model.specs.Run.{Turn}
use Rattle.replay.specs.Records.{record_of}

-- the copy of seat k + 1
abbrev pub copy_at : Bytes → ℕ → Bytes
copy_at l k = take 16_896 (drop (16_896 * k) l)

-- the copies with another one in its place
abbrev pub with_copy : Bytes → ℕ → Bytes → Bytes
with_copy l k c = take (16_896 * k) l ++ (c ++ drop (16_896 * k + 16_896) l)

abbrev pub buffers_in : Bytes → Bytes → Buffers
buffers_in store copies = record { store = store; copies = copy_at copies 0 ∷ copy_at copies 1 ∷ copy_at copies 2 ∷ copy_at copies 3 ∷ [] }

pub record Desk : Type 0 where
  pub store : Bytes
  pub copies : Bytes
  pub answers : Bytes

abbrev pub desk : Bytes → Bytes → Bytes → Desk
desk store copies answers = record { store = store; copies = copies; answers = answers }

-- one call, on the store and its seat's copy; its answer is the i-th record
abbrev pub noted : ℕ → Desk → ℕ → Out → Desk
noted i b k o = desk o.store (with_copy b.copies k o.copy) (with_block b.answers i (record_of o.says))

abbrev pub turned : ℕ → Turn → Desk → Desk
turned i t b = noted i b (t.by - 1) (call b.store (copy_at b.copies (t.by - 1)) t.call)

-- the calls one after the other, the first one's answer in record i
unfoldable pub ran_from : ℕ → List Turn → Desk → Desk
ran_from i [] b = b
ran_from i (t ∷ ts) b = ran_from (suc i) ts (turned i t b)
