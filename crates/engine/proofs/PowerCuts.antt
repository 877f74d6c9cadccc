-- W6 for a list of events, for the code: calls by four seats, power cuts at any write of `commit_cut` and `clear_cut` and in the one of `release`, clearings in between. What whoever calls a function learns is taken from
-- its own contract (`Learnt`, in `Made`), and that the code meets the contracts (`met`) stands in the same record.
-- Assumes nothing.
use Rattle.std.specs.Prelude.{Result}
use Prim.Native.Nat.{◌-◌, ◌<◌, ◌^◌, ◌≤◌, ℕ}
use mathlib.Core.List.{List, [], ◌++◌, ◌∷◌}
use mathlib.Core.Path.{◌∙◌, ◌≡◌, ap, refl, subst, sym}
use lib.ListN.{set}
use Rattle.model.specs.Calls.{Buffers, Created, Out, both_conditions, fresh_buffers, fresh_copy, out, store_only_conditions}
use Rattle.model.specs.Demand3.{Brings, NothingPending, copy_in}
use Rattle.model.specs.History.{Bytes, last}
use Rattle.model.specs.Log.{Log, Placed, commits, marks}
use Rattle.model.specs.Machine.{Clears, Commits, Release, Update, done}
use Rattle.model.specs.Order.{store_bytes}
use Rattle.model.specs.PowerCuts.{AllPossible, Endures, Event, Possible, after_all, after_event, brought_all, calls, clear_fails, commit_fails, copy_is, release_fails}
use Rattle.model.specs.Refusals.{Clear}
use Rattle.model.specs.Run.{Turn, Valid, step}
use Rattle.model.specs.Shows.{AllAccepted, state_in}
use Rattle.model.specs.Store.{store_history, store_log}
use Rattle.model.specs.Types.{answer_of}
use Rattle.model.specs.declared.Answer.{Answer}
use Rattle.laws.proofs.PowerCuts.{power_cuts}
use Rattle.engine.proofs.Cut.{CodeFoundClearing, CodeFoundCommitting, CodeFoundReleasing, found_in_lem, found_releasing}
use Rattle.engine.proofs.Demand3.{CodeDemand3, Made, PanelRead, Read, code_demand_three, made_is, panel_is, read_is}
use Rattle.model.specs.declared.Refusal.{Refusal}

-- THE STATEMENT

-- an event, as the code brings it about, from one store and four copies to the next
pub data Happens : Buffers → Event → Buffers → Type 0 where
  called : {b : Buffers} {t : Turn} {r : Result Answer Refusal} {store' copy' : Bytes} → Valid t → Made b.store (copy_in b t.by) t.call r store' copy'
      → Happens b (calls t) (record { store = store'; copies = set b.copies (t.by - 1) copy' })
  commit_cut : {b : Buffers} {k stamp mask : ℕ} {f : Bytes} → 1 ≤ k → k ≤ 4 → stamp < 2 ^ 32 → Clear (both_conditions b.store (copy_in b k) (Commits stamp mask))
      → CodeFoundCommitting b.store (copy_in b k) stamp mask f → Happens b (commit_fails k stamp mask f) (record { store = f; copies = b.copies })
  clear_cut : {b : Buffers} {f : Bytes} → CodeFoundClearing b.store f → Happens b (clear_fails f) (record { store = f; copies = b.copies })
  release_cut : {b : Buffers} {R seat stamp : ℕ} {f : Bytes} → stamp < 2 ^ 32 → Clear (store_only_conditions b.store (Release R seat stamp))
      → CodeFoundReleasing b.store R seat stamp f → Happens b (release_fails R seat stamp f) (record { store = f; copies = b.copies })
  copied : {b : Buffers} {k : ℕ} {copy : Bytes} → Possible b (copy_is k copy) → Happens b (copy_is k copy) (after_event b (copy_is k copy))

-- one after the other. Every beginning of a course is a course, so what is said of a course is said after every event
pub data Course : Buffers → List Event → Buffers → Type 0 where
  over : {b : Buffers} → Course b [] b
  next : {b b' b'' : Buffers} {e : Event} {es : List Event} → Happens b e b' → Course b' es b'' → Course b (e ∷ es) b''

-- of N blocks and a course, where b is what it leaves and g the commits and releases that it brought
pub record CodeEndures (N : ℕ) (b : Buffers) (g : Log) : Type 0 where
  -- the store is accepted, with the copy of every seat, and its history is these commits and releases in their order, none lost and none changed
  pub accepted : AllAccepted b
  pub log : store_log b.store ≡ g
  pub history : store_history b.store ≡ commits g
  -- the next call answers as the machine does on what the buffers hold
  pub answer : (t : Turn) → Valid t → {r : Result Answer Refusal} {store' copy' : Bytes} → Made b.store (copy_in b t.by) t.call r store' copy' → answer_of r ≡ (step (state_in b) t.by t.call).0
  -- reading any sheet at R finds exactly the bytes that the first R of these commits leave on an empty tree, or refusal 8
  pub found : (R i : ℕ) → R ≤ last (commits g) → i ≤ 31 → Read b.store (commits g) R i
  -- a panel finds at R the same at the greatest released revision up to R, or refusal 8
  pub panel : (R i : ℕ) → R ≤ last (commits g) → i ≤ 31 → PanelRead b.store (commits g) (marks g) R i
  -- an update to R by a seat with nothing pending brings each chosen sheet to the same
  pub brought : (k mask R : ℕ) → 1 ≤ k → k ≤ 4 → (mask ≡ 0 → ⊥) → R ≤ last (commits g) → NothingPending b (commits g) k
      → {r : Result Answer Refusal} {store' copy' : Bytes} → Made b.store (copy_in b k) (Update mask R) r store' copy' → Brings (out (answer_of r) store' copy') (commits g) mask R
  -- what is found at R stays so, whatever happens next
  pub lasting : {us : List Event} {b' : Buffers} → Course b us b' → (R i : ℕ) → R ≤ last (commits g) → i ≤ 31 → Read b'.store (commits g) R i
  pub lasting-panel : {us : List Event} {b' : Buffers} → Course b us b' → (R i : ℕ) → R ≤ last (commits g) → i ≤ 31
      → PanelRead b'.store (commits g) (marks (g ++ brought_all b us)) R i
  -- a seat whose copy was lost can go on with a fresh one
  pub renewed : (k : ℕ) → 1 ≤ k → k ≤ 4 → Possible b (copy_is k (fresh_copy k))
  -- `clear` leaves the bytes that N and these commits and releases alone fix (W1)
  pub clears : {copy store' copy' : Bytes} {r : Result Answer Refusal} → Made b.store copy Clears r store' copy' → (answer_of r ≡ done) × (store' ≡ store_bytes N g)

pub record CodePowerCuts : Type 2 where
  -- the functions meet their contracts, of which `Made` and `Read` speak
  pub calls_meet : CodeDemand3
  pub endures : (N : ℕ) (es : List Event) → 2 ≤ N → N ≤ 4_096 → {b : Buffers} → Course (fresh_buffers N) es b → CodeEndures N b (brought_all (fresh_buffers N) es)

-- THE PROOF

-- an event of the code is one of the calls on buffers
happens_is : {b b' : Buffers} {e : Event} → Happens b e b' → Possible b e × (b' ≡ after_event b e)
happens_is (called {b = b} {t = t} v m) = (v, ap (λ (o : Out). record { store = o.store; copies = set b.copies (t.by - 1) o.copy }) (made_is m))
happens_is (commit_cut lo hi small free C) = ((lo, hi, small, free, found_in_lem C), refl)
happens_is (clear_cut C) = (found_in_lem C.1, refl)
happens_is (release_cut small free C) = ((small, free, found_releasing C), refl)
happens_is (copied p) = (p, refl)

course_is : {b b' : Buffers} {es : List Event} → Course b es b' → AllPossible b es × (b' ≡ after_all b es)
course_is over = (tt, refl)
course_is (next {b = b} {e = e} {es = es} H C) =
    let p = happens_is H in
    let q = course_is C in
    ((p.0, subst (λ (x : Buffers). AllPossible x es) p.1 q.0), q.1 ∙ ap (λ (x : Buffers). after_all x es) p.1)

code_endures : (N : ℕ) (es : List Event) (b : Buffers) (g : Log) → Endures N es b g → CodeEndures N b g
code_endures N es b g E = record {
  accepted = E.accepted;
  log = E.log;
  history = E.history;
  answer = λ t v m. ap (λ (o : Out). o.says) (made_is m) ∙ E.answer t v;
  found = λ R i le small. read_is b.store (commits g) R i (E.found R i le small);
  panel = λ R i le small. panel_is b.store (commits g) (marks g) R i (E.panel R i le small);
  brought = λ k mask R l u nz le np m. subst (λ (o : Out). Brings o (commits g) mask R) (sym (made_is m)) (E.brought k mask R l u nz le np);
  lasting = λ {us} {b'} C R i le small.
      let q = course_is C in
      subst (λ (x : Buffers). Read x.store (commits g) R i) (sym q.1) (read_is (after_all b us).store (commits g) R i (E.lasting us q.0 R i le small));
  lasting-panel = λ {us} {b'} C R i le small.
      let q = course_is C in
      let ms : List Placed = marks (g ++ brought_all b us) in
      subst (λ (x : Buffers). PanelRead x.store (commits g) ms R i) (sym q.1) (panel_is (after_all b us).store (commits g) ms R i (E.lasting-panel us q.0 R i le small));
  renewed = E.renewed;
  clears = λ m. (ap (λ (o : Out). o.says) (made_is m) ∙ ap (λ (o : Created). o.says) E.clears, ap (λ (o : Out). o.store) (made_is m) ∙ ap (λ (o : Created). o.buffer) E.clears);
}

pub code_power_cuts : CodePowerCuts
code_power_cuts = record {
  calls_meet = code_demand_three;
  endures = λ N es lo hi C.
      let q = course_is C in
      let g : Log = brought_all (fresh_buffers N) es in
      subst (λ (x : Buffers). CodeEndures N x g) (sym q.1) (code_endures N es (after_all (fresh_buffers N) es) g (power_cuts N es lo hi q.0));
}
