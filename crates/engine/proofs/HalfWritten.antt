-- W5 of document 02 for the code: "Every call but commit works meanwhile, as if the tail were zero blocks. A new call on the store alone clears the tail, writing zero blocks from its highest
-- block down; without a tail it changes nothing. New numbers: 14, commit on a store that has a tail, checked right after 3."
-- Of the calls nothing is known but their functions' own contracts: `Made` is that of Demand3, `Looked` that of Demand1.
-- Assumes nothing.
use Rattle.std.specs.Prelude.{Result}
use Prim.Native.Nat.{◌+◌, ◌-◌, ℕ}
use mathlib.Core.Bool.{Bool}
use mathlib.Core.Option.{none}
use mathlib.Core.Path.{◌∙◌, ◌≡◌, ap, ap₂, sym}
use denote.Ref.{Bor, MutBor}
use Rattle.model.specs.Calls.{Created, Out, out, panel_place, read_place, show_place, store_conditions}
use Rattle.model.specs.HalfWritten.{Bare, Meanwhile}
use Rattle.model.specs.History.{Bytes}
use Rattle.model.specs.Machine.{Answer, Call, Clears, Commits, Release, done, refused}
use Rattle.model.specs.Refusals.{first_of}
use Rattle.model.specs.Store.{bare_of, blank_from, tail_of, used_of}
use Rattle.model.specs.Types.{answer_of, place_of}
use Rattle.model.specs.declared.Answer.{Answer as TheAnswer}
use Rattle.model.specs.declared.Place.{Place}
use Rattle.laws.proofs.HalfWritten.{half_written}
use contract.Lifetimes.{Lfts}
use Rattle.engine.proofs.Demand1.{CodeDemand1, Looked, code_demand_one, logs, looked_is, panels, reads, shows, statuses}
use Rattle.engine.proofs.Demand3.{CodeDemand3, Made, code_demand_three, made_is}
use Rattle.tails.proofs.clear.Met as tail-met
use Rattle.tails.proofs.clear.Reads as tail-reads
use Rattle.tails.proofs.clear.Statement as tail-statement
use Rattle.engine.proofs.read_place.Reads as read-reads
use Rattle.engine.proofs.panel_place.Reads as panel-reads
use Rattle.engine.proofs.show_place.Reads as show-reads
use Rattle.model.specs.declared.Refusal.{Refusal}

-- THE STATEMENT

-- of an accepted store
pub record OnTail (store : Bytes) : Type 0 where
  -- the store as if its tail were zero blocks is accepted too, and has no tail
  pub bare : Bare store (bare_of store)
  -- add, edit, delete, copy, move, update and revert: the same call on the bare store has the same answer and leaves the same working copy; the store stays, tail and all
  pub changes : {copy store' copy' bare' copy'' : Bytes} {c : Call} {r q : Result TheAnswer Refusal} → Meanwhile c → Made store copy c r store' copy' → Made (bare_of store) copy c q bare' copy''
      → (answer_of r ≡ answer_of q) × (store' ≡ store) × (copy' ≡ copy'')
  -- status, show, log, read and panel reading
  pub looks : {copy : Bytes} {c : Call} {a b : Answer} → Looked store copy c a → Looked (bare_of store) copy c b → a ≡ b
  -- the places that read, panel reading and show answer
  pub read_places : (R i : ℕ) (κs λs : Lfts 1) (x x' y y' : Bor Bytes) (r q : Result Place Refusal) → x.now ≡ store → y.now ≡ bare_of store
      → read-reads.Learnt κs (x, (R, (i, tt))) r (x', (R, (i, tt))) → read-reads.Learnt λs (y, (R, (i, tt))) q (y', (R, (i, tt))) → place_of r ≡ place_of q
  pub panel_places : (R i : ℕ) (κs λs : Lfts 1) (x x' y y' : Bor Bytes) (r q : Result Place Refusal) → x.now ≡ store → y.now ≡ bare_of store
      → panel-reads.Learnt κs (x, (R, (i, tt))) r (x', (R, (i, tt))) → panel-reads.Learnt λs (y, (R, (i, tt))) q (y', (R, (i, tt))) → place_of r ≡ place_of q
  pub show_places : (i : ℕ) (κs λs : Lfts 1) (x u x' u' y w y' w' : Bor Bytes) (r q : Result Place Refusal) → x.now ≡ store → y.now ≡ bare_of store → u.now ≡ w.now
      → show-reads.Learnt κs (x, (u, (i, tt))) r (x', (u', (i, tt))) → show-reads.Learnt λs (y, (w, (i, tt))) q (y', (w', (i, tt))) → place_of r ≡ place_of q
  -- commit is refused with 14, whatever the working copy is
  pub commits : {copy store' copy' : Bytes} {stamp mask : ℕ} {r : Result TheAnswer Refusal} → (tail_of store ≡ 0 → ⊥) → Made store copy (Commits stamp mask) r store' copy'
      → out (answer_of r) store' copy' ≡ out (refused 14) store copy
  -- and so is a release (W9), whatever its numbers are
  pub releases : {copy store' copy' : Bytes} {R seat stamp : ℕ} {r : Result TheAnswer Refusal} → (tail_of store ≡ 0 → ⊥) → Made store copy (Release R seat stamp) r store' copy'
      → out (answer_of r) store' copy' ≡ out (refused 14) store copy
  -- clearing is done, and gives exactly the bare store; without a tail that is the store as it was
  pub clears : {copy store' copy' : Bytes} {r : Result TheAnswer Refusal} → Made store copy Clears r store' copy' → (answer_of r ≡ done) × (store' ≡ bare_of store)
  pub unchanged : tail_of store ≡ 0 → bare_of store ≡ store
  -- "from its highest block down": the function that clears the tail, stopped after n blocks, has cleared the highest n of them and nothing else
  pub downwards : (κs : Lfts 1) (x x' : MutBor Bytes) (used count n used' count' n' : ℕ) (r : Bool) → x.now ≡ store → used ≡ used_of store → count ≡ tail_of store
      → tail-reads.Learnt κs (x, (used, (count, (n, tt)))) r (x', (used', (count', (n', tt)))) → x'.now ≡ blank_from (used_of store + (tail_of store - n)) store

pub record CodeHalfWritten : Type 2 where
  -- the functions meet their contracts, of which `Made` and `Looked` speak
  pub calls_meet : CodeDemand3
  pub looks_meet : CodeDemand1
  pub clear_meets : (M : Type 1) → tail-statement.statement M
  pub accepted : (store : Bytes) → first_of (store_conditions store) ≡ none → OnTail store

-- THE PROOF

looks_meanwhile : {store copy : Bytes} {c : Call} {a : Answer} → Looked store copy c a → Meanwhile c
looks_meanwhile (statuses κs x y x' y' r e) = tt
looks_meanwhile (shows κs x y x' y' r l) = tt
looks_meanwhile (logs κs x x' r e) = tt
looks_meanwhile (reads κs x x' r l) = tt
looks_meanwhile (panels κs x x' r l) = tt

on_tail : (store : Bytes) → first_of (store_conditions store) ≡ none → OnTail store
on_tail store e = record {
  bare = (half_written store store e).bare;
  changes = λ {copy} {store'} {copy'} {bare'} {copy''} {c} {r} {q} m k n.
      let w = made_is k ∙ (half_written store copy e).works c m in
      let b = made_is n in (
        ap (λ (o : Out). o.says) w ∙ sym (ap (λ (o : Out). o.says) b),
        ap (λ (o : Out). o.store) w,
        ap (λ (o : Out). o.copy) w ∙ sym (ap (λ (o : Out). o.copy) b),
      );
  looks = λ {copy} {c} k n.
      ap (λ (o : Out). o.says) (looked_is k ∙ (half_written store copy e).works c (looks_meanwhile k)) ∙ sym (ap (λ (o : Out). o.says) (looked_is n));
  read_places = λ R i κs λs x x' y y' r q p b k n.
      k.is ∙ ap (λ (s : Bytes). read_place s R i) p ∙ (half_written store store e).reads R i ∙ sym (n.is ∙ ap (λ (s : Bytes). read_place s R i) b);
  panel_places = λ R i κs λs x x' y y' r q p b k n.
      k.is ∙ ap (λ (s : Bytes). panel_place s R i) p ∙ (half_written store store e).panels R i ∙ sym (n.is ∙ ap (λ (s : Bytes). panel_place s R i) b);
  show_places = λ i κs λs x u x' u' y w y' w' r q p b z k n.
      k.is ∙ ap (λ (s : Bytes). show_place s u.now i) p ∙ (half_written store u.now e).shows i ∙ ap (λ (c : Bytes). show_place (bare_of store) c i) z
      ∙ sym (n.is ∙ ap (λ (s : Bytes). show_place s w.now i) b);
  commits = λ {copy} {store'} {copy'} {stamp} {mask} t k. made_is k ∙ (half_written store copy e).commits stamp mask t;
  releases = λ {copy} {store'} {copy'} {R} {seat} {stamp} t k.
      made_is k ∙ ap (λ (o : Created). out o.says o.buffer copy) ((half_written store copy e).releases R seat stamp t);
  clears = λ {copy} k.
      let c = (half_written store copy e).clears in
      let w = made_is k in
      (ap (λ (o : Out). o.says) w ∙ ap (λ (o : Created). o.says) c, ap (λ (o : Out). o.store) w ∙ ap (λ (o : Created). o.buffer) c);
  unchanged = (half_written store store e).unchanged;
  downwards = λ κs x x' used count n used' count' n' r s u t l.
      l.1 ∙ ap (blank_from (used + (count - n))) s ∙ ap₂ (λ (p q : ℕ). blank_from (p + (q - n)) store) u t;
}

pub code_half_written : CodeHalfWritten
code_half_written = record { calls_meet = code_demand_three; looks_meet = code_demand_one; clear_meets = λ M. tail-met.met; accepted = on_tail }
