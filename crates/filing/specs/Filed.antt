-- What the inner commit answers and leaves, whole or stopped after n block writes, and the numbers of the store then.
-- Assumes nothing.
use Rattle.std.specs.Prelude.{ℕ, ◌≡◌, Err}
use Rattle.model.specs.Calls.{Out, side_in, stopped_by}
use Rattle.model.specs.History.{Bytes, last}
use Rattle.model.specs.Machine.{CommitsCut}
use Rattle.model.specs.Refusals.{conditions, first_of}
use Rattle.model.specs.Store.{store_history, used_of}
use Rattle.model.specs.declared.Refusal.{Refusal}
use Rattle.entries.specs.View.{out_as}
use Rattle.entries.specs.declared.View.{View}
use Rattle.filing.specs.declared.Filed.{Filed}

abbrev pub unfiled_as : View → Refusal → Filed
unfiled_as v k = record { answer = Err k; used = v.used; last = v.last }

-- the commit that stops after n block writes, where no line from 1 to 6 holds, nor 14: the machine's other conditions are the only ones left
unfoldable pub inner_cut : Bytes → Bytes → ℕ → ℕ → ℕ → Out
inner_cut store copy stamp mask n = stopped_by (first_of (conditions (side_in store copy) (CommitsCut stamp mask n))) store copy stamp mask n

-- this came of it, and these are the numbers of the store that it leaves
pub record FiledAs (o : Out) (r : Filed) (store' copy' : Bytes) : Type 0 where
  pub is : out_as r.answer store' copy' ≡ o
  pub used : r.used ≡ used_of store'
  pub last : r.last ≡ last (store_history store')
