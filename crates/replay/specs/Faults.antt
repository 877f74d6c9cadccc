-- What the check of the five buffers answers.
-- Assumes nothing.
use Rattle.std.specs.Prelude.{ℕ, ◌≡◌, Err, Ok, Result}
use Rattle.std.proofs.Math.Option.{Option, none, some}
use Rattle.model.specs.History.{Bytes}
use Rattle.model.specs.Types.{number_of}
use Rattle.replay.specs.Replay.{replay_refusal}
use Rattle.store.specs.Opened.{open_of}
use Rattle.model.specs.declared.Refusal.{Refusal}
use Rattle.store.specs.declared.Header.{Header}

abbrev pub fault_of : Result Unit Refusal → Option ℕ
fault_of (Ok tt) = none
fault_of (Err k) = some (number_of k)

-- the number of the first condition that holds, or the numbers of the store
abbrev pub Checks : Bytes → Bytes → Bytes → Bytes → Result Header Refusal → Type 0
Checks script store copies answers (Err k) = replay_refusal script store copies answers ≡ some (number_of k)
Checks script store copies answers (Ok h) = (replay_refusal script store copies answers ≡ none) × (open_of store ≡ Ok h)
