-- `perform`, one call at a time: what its inner function answers and leaves is the machine's call, and the buffers fit again.
-- Assumes nothing.
use Rattle.std.specs.Prelude.{Err, Ok, Result}
use Prim.Native.Nat.{◌-◌, ◌<◌, ◌^◌, ℕ}
use mathlib.Core.Bool.{Bool, cond, false, not, true}
use mathlib.Core.List.{[]}
use mathlib.Core.Path.{◌∙◌, ◌≡◌, ap, refl, subst, sym}
use native.Mathlib.Omega.{arith}
use borrow.Author.Tests.{eqb-true, not-false}
use lib.Dec.{eqb, leb}
use lib.ListN.{drop, take}
use Rattle.model.specs.Calls.{Created, Out, Place as Spot, beside, call, change_call, clear_call, clear_cut_call, commit_call, commit_cut_call, heard, log_call, out, panel_place, read_place, release_call, show_place, side_in, status_call}
use Rattle.model.specs.History.{Bytes, last}
use Rattle.model.specs.Machine.{Answer as Said·, Call, Clears, ClearsCut, Log, Panel, Read, Release, Show, Side, Status, bytes, done, stopped, with_tail}
use Rattle.model.specs.Refusals.{Clear, tail_conditions}
use Rattle.model.specs.Run.{Typed, side_step}
use Rattle.model.specs.Shows.{Seen}
use Rattle.model.specs.Store.{block_count, store_history, tail_of, used_of}
use Rattle.model.specs.Types.{answer_of, created_as, place_of}
use Rattle.model.specs.declared.Answer.{Answer}
use Rattle.model.specs.declared.Place.{Place}
use Rattle.model.specs.declared.Place.TheVariants.{InCopy, InStore}
use Rattle.model.specs.declared.Refusal.TheVariants.{Tail}
use Rattle.laws.proofs.Accepted.{accepted-call}
use Rattle.laws.proofs.CutCommits.{whole-commit}
use Rattle.entries.proofs.Checking.{fitting_accepted, inner_call}
use Rattle.entries.proofs.Keeping.{call_fitting, seen_numbers}
use Rattle.entries.specs.View.{Fitting, inner_out, out_as}
use Rattle.entries.specs.declared.View.{View}
use Rattle.filing.proofs.Keeping.{inner_cut_lem}
use Rattle.filing.specs.Filed.{FiledAs, inner_cut}
use Rattle.filing.specs.declared.Filed.{Filed}
use Rattle.inner.proofs.Changing.{cut_tailed, local_fits}
use Rattle.inner.specs.Performs.{CommitsAs, Performs, ReleasesAs, Within, call_of, stay_as, told}
use Rattle.inner.specs.Place.{Inside, Located}
use Rattle.inner.specs.declared.Call.{Call as TheCall}
use Rattle.inner.specs.declared.Performed.{Performed}
use Rattle.inner.specs.declared.Reply.{Reply}
use Rattle.inner.specs.declared.Reply.TheVariants.{At, Said}
use Rattle.local.proofs.Calls.{Local}
use Rattle.local.specs.Local.{local_out}
use Rattle.store.proofs.Opening.{accepted_open}
use Rattle.store.specs.Opened.{open_of}
use Rattle.model.specs.declared.Refusal.{Refusal}

-- of no copy there is only the empty part
none-heard : (store copy : Bytes) (x : Result Place Refusal) → Inside store [] x → heard store copy (place_of x) ≡ heard store [] (place_of x)
none-heard store copy (Err k) h = refl
none-heard store copy (Ok (InStore p n)) h = refl
none-heard store copy (Ok (InCopy p)) h =
    let z : p.len ≡ 0 = omega (arith, h) in
    ap (λ (n : ℕ). bytes (take n (drop p.start copy)) 0) z ∙ sym (ap (λ (n : ℕ). bytes (take n (drop p.start [])) 0) z)

pub none_inside : (store copy : Bytes) (x : Result Place Refusal) → Inside store [] x → Inside store copy x
none_inside store copy (Err k) h = h
none_inside store copy (Ok (InStore p n)) h = h
none_inside store copy (Ok (InCopy p)) h = omega (arith, h)

module _ (store copy : Bytes) (v : View) (F : Fitting store copy v) where
  -- the numbers of the header that the view has
  pub fitting_open : open_of store ≡ Ok (record { last = v.last; used = v.used })
  fitting_open =
      let O = F.viewed.opened in
      accepted_open store O.accepted.clear ∙ ap Ok (λ i. record { last = sym O.last i; used = sym O.accepted.in_use i })

  -- the call that the code's word for it means
  pub meant : (x : Bytes) {k k' : TheCall} {p : Performed} {store' copy' : Bytes} → k ≡ k' → Performs store copy v (call_of k' x) p store' copy' → Performs store copy v (call_of k x) p store' copy'
  meant x {p = p} {store' = store'} {copy' = copy'} e P = subst (λ (k : TheCall). Performs store copy v (call_of k x) p store' copy') (sym e) P

  -- the store stays
  pub stays : (c : Call) → Typed c → (r : Reply) {copy' : Bytes} {p : Performed} → out (told store copy' r) store copy' ≡ call store copy c → Within store copy' r → p ≡ stay_as v r
      → Performs store copy v c p store copy'
  stays c ty r {copy'} e w q =
      subst (λ (x : Performed). Performs store copy v c x store copy') (sym q)
      (record { is = e; within = w; fits = call_fitting store copy v F c ty e F.viewed.opened.accepted.in_use F.viewed.opened.last })

  pub local_is : (c : Call) → Local c → (a : Result Answer Refusal) {copy' : Bytes} → record { says = answer_of a; copy = copy' } ≡ local_out copy c → out (answer_of a) store copy' ≡ change_call store copy c
  local_is c l a {copy'} q = local_fits store copy v F c a copy' l q

  pub inner_is : (c : Call) → Clear (tail_conditions (side_in store copy) c) → (a : Result Answer Refusal) {copy' : Bytes} → out_as a store copy' ≡ inner_out store copy c → out (answer_of a) store copy' ≡ change_call store copy c
  inner_is c t a q = q ∙ inner_call store copy v F c t

  pub untailed : {b : Bool} → b ≡ not (eqb (tail_of store) 0) → b ≡ false → tail_of store ≡ 0
  untailed e f = eqb-true (tail_of store) 0 (not-false (eqb (tail_of store) 0) (sym e ∙ f))

  -- the commit that stops after n writes: refused for a tail, or filed
  pub tailed : (stamp mask n : ℕ) {b : Bool} → b ≡ not (eqb (tail_of store) 0) → b ≡ true
      → CommitsAs (commit_cut_call store copy stamp mask n) (record { answer = Err Tail; used = v.used; last = v.last }) store copy
  tailed stamp mask n e t =
      let O = F.viewed.opened in
      record { is = cut_tailed store copy stamp mask n O.accepted.clear (sym e ∙ t); used = O.accepted.in_use; last = O.last }

  pub filed : (stamp mask n : ℕ) {b : Bool} → b ≡ not (eqb (tail_of store) 0) → b ≡ false → {f : Filed} {store' copy' : Bytes}
      → FiledAs (inner_cut store copy stamp mask n) f store' copy' → CommitsAs (commit_cut_call store copy stamp mask n) f store' copy'
  filed stamp mask n e f A = record { is = A.is ∙ inner_cut_lem store copy v F stamp mask n (sym e ∙ f); used = A.used; last = A.last }

  -- 33 writes are enough for the usual commit
  pub whole : (stamp mask : ℕ) → stamp < 2 ^ 32 → {f : Filed} {store' copy' : Bytes} → CommitsAs (commit_cut_call store copy stamp mask 33) f store' copy'
      → CommitsAs (commit_call store copy stamp mask) f store' copy'
  whole stamp mask small {f} {store'} {copy'} A = subst (λ (o : Out). CommitsAs o f store' copy') (whole-commit store copy stamp mask small) A

  pub files : (c : Call) → Typed c → (f : Filed) {store' copy' : Bytes} → CommitsAs (call store copy c) f store' copy'
      → Performs store copy v c (record { reply = Said f.answer; used = f.used; last = f.last }) store' copy'
  files c ty f A = record { is = A.is; within = tt; fits = call_fitting store copy v F c ty A.is A.used A.last }

  -- the clearing leaves the numbers
  module _ (c : Call) (ty : Typed c) (a : Result Answer Refusal) {store' : Bytes} (w : out (answer_of a) store' copy ≡ call store copy c) where
    left : Seen (block_count store) store' copy (side_step (side_in store copy) c).1
    left = subst (λ (x : Out). Seen (block_count store) x.store x.copy (side_step (side_in store copy) c).1) (sym w) (accepted-call store copy (fitting_accepted store copy v F) c ty).1

    cleared : (used_of store' ≡ used_of store) × (store_history store' ≡ store_history store) → {p : Performed} → p ≡ stay_as v (Said a) → Performs store copy v c p store' copy
    cleared n q =
        let O = F.viewed.opened in
        subst (λ (x : Performed). Performs store copy v c x store' copy) (sym q)
        (record { is = w; within = tt; fits = call_fitting store copy v F c ty w (O.accepted.in_use ∙ sym n.0) (O.last ∙ sym (ap last n.1)) })

  pub clears : (a : Result Answer Refusal) {store' : Bytes} {p : Performed} → created_as a store' ≡ clear_call store → p ≡ stay_as v (Said a) → Performs store copy v Clears p store' copy
  clears a {store'} e q =
      let w : out (answer_of a) store' copy ≡ call store copy Clears = ap (λ (o : Created). out o.says o.buffer copy) e in
      let n = seen_numbers (block_count store) store' copy (with_tail (side_in store copy) 0) (left Clears tt a w) in
      cleared Clears tt a w (n.1, n.2) q

  pub clears_cut : (n : ℕ) (a : Result Answer Refusal) {store' : Bytes} {p : Performed} → created_as a store' ≡ clear_cut_call store n → p ≡ stay_as v (Said a) → Performs store copy v (ClearsCut n) p store' copy
  clears_cut n a {store'} e q =
      let w : out (answer_of a) store' copy ≡ call store copy (ClearsCut n) = ap (λ (o : Created). out o.says o.buffer copy) e in
      cleared (ClearsCut n) tt a w (go (leb (tail_of store) n) (left (ClearsCut n) tt a w)) q
    where
      go : (t : Bool) → Seen (block_count store) store' copy (cond {A = Said· × Side} t (done, with_tail (side_in store copy) 0) (stopped, with_tail (side_in store copy) (tail_of store - n))).1
          → (used_of store' ≡ used_of store) × (store_history store' ≡ store_history store)
      go true E = let k = seen_numbers (block_count store) store' copy (with_tail (side_in store copy) 0) E in (k.1, k.2)
      go false E = let k = seen_numbers (block_count store) store' copy (with_tail (side_in store copy) (tail_of store - n)) E in (k.1, k.2)

  pub reads : (R i : ℕ) (x : Result Place Refusal) {p : Performed} → Located store [] (read_place store R i) x → p ≡ stay_as v (At x) → Performs store copy v (Read R i) p store copy
  reads R i x L q =
      stays (Read R i) tt (At x) (ap (λ (a : Said·). out a store copy) (none-heard store copy x L.inside ∙ ap (heard store []) L.is)) (none_inside store copy x L.inside) q

  pub panels : (R i : ℕ) (x : Result Place Refusal) {p : Performed} → Located store [] (panel_place store R i) x → p ≡ stay_as v (At x) → Performs store copy v (Panel R i) p store copy
  panels R i x L q =
      stays (Panel R i) tt (At x) (ap (λ (a : Said·). out a store copy) (none-heard store copy x L.inside ∙ ap (heard store []) L.is)) (none_inside store copy x L.inside) q

  pub releases : (R seat stamp : ℕ) → stamp < 2 ^ 32 → (f : Filed) {store' : Bytes} → ReleasesAs (release_call store R seat stamp) f store'
      → Performs store copy v (Release R seat stamp) (record { reply = Said f.answer; used = f.used; last = f.last }) store' copy
  releases R seat stamp ty f {store'} A =
      let w : out (answer_of f.answer) store' copy ≡ call store copy (Release R seat stamp) = ap (λ (o : Created). beside o copy) A.is in
      record { is = w; within = tt; fits = call_fitting store copy v F (Release R seat stamp) ty w A.used A.last }

  pub shows : (i : ℕ) (x : Result Place Refusal) {p : Performed} → Located store copy (show_place store copy i) x → p ≡ stay_as v (At x) → Performs store copy v (Show i) p store copy
  shows i x L q = stays (Show i) tt (At x) (ap (λ (y : Spot). out (heard store copy y) store copy) L.is) L.inside q

  pub states : (i : ℕ) (a : Result Answer Refusal) {p : Performed} → answer_of a ≡ status_call store copy i → p ≡ stay_as v (Said a) → Performs store copy v (Status i) p store copy
  states i a e q = stays (Status i) tt (Said a) (ap (λ (y : Said·). out y store copy) e) tt q

  pub logs : (R i : ℕ) (a : Result Answer Refusal) {p : Performed} → answer_of a ≡ log_call store R i → p ≡ stay_as v (Said a) → Performs store copy v (Log R i) p store copy
  logs R i a e q = stays (Log R i) tt (Said a) (ap (λ (y : Said·). out y store copy) e) tt q
