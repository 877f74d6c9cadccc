-- W6, the cut rule, for the code: "At whichever block the power fails", in a commit, a release or in clearing, the store found is accepted, with the history before or the one with the whole
-- commit or the release, and clearing leads back to a store without a tail. The writes are those of `commit_cut` and `clear_cut`, and the one of `release`: what whoever calls these functions learns is taken from their own contracts
-- (`Learnt`, in `Made`), of which no text is repeated here, and that the code meets them (`met`) stands in the same record.
-- Assumes nothing.
use Rattle.std.specs.Prelude.{Ok, Result}
use Prim.Native.Nat.{◌<◌, ◌^◌, ◌≤◌, suc, zero, ℕ}
use mathlib.Core.List.{[]}
use mathlib.Core.Option.{none}
use mathlib.Core.Path.{◌∙◌, ◌≡◌, ap, subst, sym}
use native.Mathlib.Omega.{arith}
use denote.Ref.{Bor}
use contract.Lifetimes.{Lfts}
use lib.ListN.{take}
use Rattle.block.specs.Buffer.{block_at, with_block}
use Rattle.model.specs.Calls.{Created, Out, both_conditions, call, commit_writes, out, store_conditions, store_only_conditions, written_from}
use Rattle.model.specs.Cut.{Clearings, FoundCommit, FoundIn, FoundRelease, FoundReleasing, Restored, Torn, Written, clear_place, commit_place, write_count}
use Rattle.model.specs.Demand2.{LaidStore}
use Rattle.model.specs.History.{Bytes, last}
use Rattle.model.specs.Log.{commits}
use Rattle.model.specs.Machine.{Call, Clears, ClearsCut, Commits, CommitsCut, Release, done, refused, stopped}
use Rattle.model.specs.Ordered.{ReadAs}
use Rattle.model.specs.Refusals.{Clear, first_of}
use Rattle.model.specs.Store.{bare_of, block_count, store_history, tail_of, used_of}
use Rattle.model.specs.Types.{answer_of}
use Rattle.model.specs.declared.Answer.{Answer}
use Rattle.laws.proofs.CutRule.{cut_anywhere}
use Rattle.laws.proofs.Demand2.{demand_two}
use Rattle.laws.proofs.Ordered.{ordered}
use Rattle.engine.proofs.Demand2.{CodeDemand2, code_demand_two}
use Rattle.engine.proofs.Demand3.{CodeDemand3, Made, Read, code_demand_three, made_is, read_is}
use Rattle.store.proofs.open.Reads as open-reads
use Rattle.store.specs.declared.Header.{Header}
use Rattle.model.specs.declared.Refusal.{Refusal}

-- THE STATEMENT

-- what the code leaves of this store and copy, stopped after n writes and after one more: c is one of the two cut calls
pub record Step (store copy : Bytes) (c : ℕ → Call) (n : ℕ) (before after : Bytes) : Type 0 where
  pub answer : Result Answer Refusal
  pub beside : Bytes
  pub made : Made store copy (c n) answer before beside
  pub next-answer : Result Answer Refusal
  pub next-beside : Bytes
  pub next-made : Made store copy (c (suc n)) next-answer after next-beside

-- the power failed in one of the writes: the store f was found
pub record Cut (store copy : Bytes) (c : ℕ → Call) (writes : ℕ) (place : ℕ → ℕ) (f : Bytes) : Type 0 where
  pub n : ℕ
  pub inside : n < writes
  pub before : Bytes
  pub after : Bytes
  pub step : Step store copy c n before after
  pub torn : Torn before after (place n) f

-- "Commit writes its content blocks in rising order, then its commit block", clearing "from its highest block down": each write is of one whole block, and of no used one
pub record WritesOne (store : Bytes) (place : ℕ) (before after : Bytes) : Type 0 where
  pub only : after ≡ with_block before place (block_at after place)
  pub past : used_of store ≤ place
  pub inside : place < block_count store

-- in the code's commit, and in its clearing, which doesn't know of a copy
abbrev pub CodeFoundCommitting : Bytes → Bytes → ℕ → ℕ → Bytes → Type 0
CodeFoundCommitting store copy stamp mask = Cut store copy (CommitsCut stamp mask) (write_count store copy stamp mask) (commit_place store copy stamp mask)

abbrev pub CodeFoundClearing : Bytes → Bytes → Type 0
CodeFoundClearing store f = (copy : Bytes) × Cut store copy ClearsCut (tail_of store) (clear_place store) f

-- in the code's release: it has one write
pub record CodeFoundReleasing (store : Bytes) (R seat stamp : ℕ) (f : Bytes) : Type 0 where
  pub copy : Bytes
  pub after : Bytes
  pub beside : Bytes
  pub answer : Result Answer Refusal
  pub made : Made store copy (Release R seat stamp) answer after beside
  pub torn : Torn store after (used_of store) f

-- "any number of cut clearings", one after the other: from f to g
abbrev pub CodeClearings : ℕ → Bytes → Bytes → Type 0
CodeClearings zero f g = g ≡ f
CodeClearings (suc k) f g = (mid : Bytes) × CodeFoundClearing f mid × CodeClearings k mid g

-- the store f as the code takes it: `open` accepts it, and `read_place` finds every sheet at every revision of its history
pub record CodeAccepts (f : Bytes) : Type 0 where
  pub opens : (κs : Lfts 1) (x x' : Bor Bytes) (r : Result Header Refusal) → x.now ≡ f → open-reads.Learnt κs (x, tt) r (x', tt) → (t : Header) × (r ≡ Ok t)
  pub reads : (R i : ℕ) → R ≤ last (store_history f) → i ≤ 31 → Read f (store_history f) R i

-- g was found after cut clearings of f: the code accepts it, and `clear` leaves the store of f without its tail
pub record CodeRestored (f g : Bytes) : Type 0 where
  pub restored : Restored f g
  pub accepts : CodeAccepts g
  pub clears : {copy store' copy' : Bytes} {r : Result Answer Refusal} → Made g copy Clears r store' copy' → (answer_of r ≡ done) × (store' ≡ bare_of f)

pub record CodeCutClearing (store : Bytes) : Type 0 where
  pub starts : {copy store' copy' : Bytes} {r : Result Answer Refusal} → Made store copy (ClearsCut 0) r store' copy' → store' ≡ store
  pub writes : (n : ℕ) → n < tail_of store → {copy before after : Bytes} → Step store copy ClearsCut n before after → WritesOne store (clear_place store n) before after
  pub stops : (n : ℕ) → n < tail_of store → {copy store' copy' : Bytes} {r : Result Answer Refusal} → Made store copy (ClearsCut n) r store' copy' → answer_of r ≡ stopped
  pub usual : (n : ℕ) → tail_of store ≤ n → {copy s s' t t' : Bytes} {r r' : Result Answer Refusal} → Made store copy (ClearsCut n) r s t → Made store copy Clears r' s' t'
      → out (answer_of r) s t ≡ out (answer_of r') s' t'
  pub found : (k : ℕ) (g : Bytes) → CodeClearings k store g → CodeRestored store g

pub record CodeCutCommit (store copy : Bytes) (stamp mask : ℕ) : Type 0 where
  pub starts : {store' copy' : Bytes} {r : Result Answer Refusal} → Made store copy (CommitsCut stamp mask 0) r store' copy' → store' ≡ store
  pub writes : (n : ℕ) → n < write_count store copy stamp mask → {before after : Bytes} → Step store copy (CommitsCut stamp mask) n before after
      → WritesOne store (commit_place store copy stamp mask n) before after
  -- "its content blocks in rising order, then its commit block": the first n of them
  pub blocks : Written store copy stamp mask
  pub leaves : (n : ℕ) → n ≤ write_count store copy stamp mask → {store' copy' : Bytes} {r : Result Answer Refusal} → Made store copy (CommitsCut stamp mask n) r store' copy'
      → store' ≡ written_from store (take n (commit_writes store copy stamp mask))
  -- "it stops after n block writes, the working copy untouched, and answers that it stopped; with n enough for all its writes it is the usual call"
  pub stops : (n : ℕ) → n < write_count store copy stamp mask → {store' copy' : Bytes} {r : Result Answer Refusal} → Made store copy (CommitsCut stamp mask n) r store' copy'
      → (answer_of r ≡ stopped) × (copy' ≡ copy)
  pub usual : (n : ℕ) → write_count store copy stamp mask ≤ n → {s s' t t' : Bytes} {r r' : Result Answer Refusal} → Made store copy (CommitsCut stamp mask n) r s t
      → Made store copy (Commits stamp mask) r' s' t' → out (answer_of r) s t ≡ out (answer_of r') s' t'
  pub found : (f : Bytes) → CodeFoundCommitting store copy stamp mask f → FoundCommit store copy stamp mask f
  pub accepts : (f : Bytes) → CodeFoundCommitting store copy stamp mask f → CodeAccepts f
  -- "Clearing, even after any number of cut clearings, then gives a store without a tail and the same history."
  pub restored : (f : Bytes) → CodeFoundCommitting store copy stamp mask f → (k : ℕ) (g : Bytes) → CodeClearings k f g → CodeRestored f g

-- "W6's cut rule includes the block, a release standing or not."
pub record CodeCutRelease (store : Bytes) (R seat stamp : ℕ) : Type 0 where
  pub writes : {copy store' copy' : Bytes} {r : Result Answer Refusal} → Made store copy (Release R seat stamp) r store' copy' → WritesOne store (used_of store) store store'
  pub found : (f : Bytes) → CodeFoundReleasing store R seat stamp f → FoundRelease store R seat stamp f
  pub accepts : (f : Bytes) → CodeFoundReleasing store R seat stamp f → CodeAccepts f
  pub restored : (f : Bytes) → CodeFoundReleasing store R seat stamp f → (k : ℕ) (g : Bytes) → CodeClearings k f g → CodeRestored f g

pub record CodeCut : Type 2 where
  -- the functions meet their contracts, of which `Made` and `Read` speak; so does `open`
  pub calls_meet : CodeDemand3
  pub open_meets : CodeDemand2
  -- a commit that no line refuses
  pub commits : (store copy : Bytes) (stamp mask : ℕ) → stamp < 2 ^ 32 → Clear (both_conditions store copy (Commits stamp mask)) → CodeCutCommit store copy stamp mask
  -- an accepted store
  pub clears : (store : Bytes) → Clear (store_conditions store) → CodeCutClearing store
  -- a release that no line refuses
  pub releases : (store : Bytes) (R seat stamp : ℕ) → stamp < 2 ^ 32 → Clear (store_only_conditions store (Release R seat stamp)) → CodeCutRelease store R seat stamp
  -- a refusal comes whatever n is, and nothing is changed
  pub refuses : {store copy s s' t t' : Bytes} {stamp mask n q : ℕ} {r r' : Result Answer Refusal} → Made store copy (Commits stamp mask) r s t → answer_of r ≡ refused q
      → Made store copy (CommitsCut stamp mask n) r' s' t' → out (answer_of r') s' t' ≡ out (refused q) store copy
  pub keeps : {store copy s s' t t' : Bytes} {n q : ℕ} {r r' : Result Answer Refusal} → Made store copy Clears r s t → answer_of r ≡ refused q
      → Made store copy (ClearsCut n) r' s' t' → out (answer_of r') s' t' ≡ out (refused q) store copy

-- THE PROOF

-- the store that the code leaves is the call's
left_is : {store copy store' copy' : Bytes} {c : Call} {r : Result Answer Refusal} → Made store copy c r store' copy' → store' ≡ (call store copy c).store
left_is m = ap (λ (o : Out). o.store) (made_is m)

pub found_in_lem : {store copy : Bytes} {c : ℕ → Call} {writes : ℕ} {place : ℕ → ℕ} {f : Bytes} → Cut store copy c writes place f → FoundIn (λ n. (call store copy (c n)).store) writes place f
found_in_lem {store} {copy} {c} {writes} {place} {f} C = (
  C.n,
  C.inside,
  subst (λ (x : Bytes). Torn x (call store copy (c (suc C.n))).store (place C.n) f) (left_is C.step.made)
      (subst (λ (x : Bytes). Torn C.before x (place C.n) f) (left_is C.step.next-made) C.torn),
)

pub found_releasing : {store : Bytes} {R seat stamp : ℕ} {f : Bytes} → CodeFoundReleasing store R seat stamp f → FoundReleasing store R seat stamp f
found_releasing {store} {R} {seat} {stamp} {f} C =
    (0, omega arith, subst (λ (x : Bytes). Torn store x (used_of store) f) (left_is C.made) C.torn)

clearings : (k : ℕ) (f g : Bytes) → CodeClearings k f g → Clearings k f g
clearings zero f g e = e
clearings (suc k) f g e = (e.0, found_in_lem e.1.1, clearings k e.0 g e.2)

-- one write, as the code leaves it
one_is : {store copy before after : Bytes} {c : ℕ → Call} {n : ℕ} (p : ℕ) → Step store copy c n before after
    → (call store copy (c (suc n))).store ≡ with_block (call store copy (c n)).store p (block_at (call store copy (c (suc n))).store p) → after ≡ with_block before p (block_at after p)
one_is p S e =
    left_is S.next-made ∙ e ∙ sym (λ i. with_block (left_is S.made i) p (block_at (left_is S.next-made i) p))

-- what the definitions accept the code accepts
accepts_is : (f : Bytes) → first_of (store_conditions f) ≡ none → CodeAccepts f
accepts_is f t =
    let D = demand_two f [] in
    let L = D.store-accepted.0 t in
    let e : commits L.0 ≡ store_history f = sym (D.store_read L.0 L.1).1 in
    record {
      opens = λ κs x x' r q l. (code_demand_two.opens κs x x' r l).accepted.1 (L.0, subst (λ (s : Bytes). LaidStore s L.0) (sym q) L.1);
      reads = λ R i le small. read_is f (store_history f) R i ((subst (ReadAs f) e (ordered.another f L.0 L.1)).found R i le small);
    }

restored_is : {f g : Bytes} → Restored f g → CodeRestored f g
restored_is {f} {g} R = record {
  restored = R;
  accepts = accepts_is g R.accepted;
  clears = λ m. (ap (λ (o : Out). o.says) (made_is m) ∙ ap (λ (o : Created). o.says) R.clears, left_is m ∙ ap (λ (o : Created). o.buffer) R.clears);
}

pub code_cut : CodeCut
code_cut = record {
  calls_meet = code_demand_three;
  open_meets = code_demand_two;
  commits = λ store copy stamp mask ty free.
      let R = (cut_anywhere store copy).commits stamp mask ty free in
      record {
        starts = λ m. left_is m ∙ R.order.starts;
        writes = λ n g S. record { only = one_is (commit_place store copy stamp mask n) S (R.order.each n g); past = R.order.past n g; inside = R.order.inside n g };
        blocks = R.writes;
        leaves = λ n g m. left_is m ∙ R.writes.after n g;
        stops = λ n g m. let e = made_is m ∙ R.stops n g in (ap (λ (o : Out). o.says) e, ap (λ (o : Out). o.copy) e);
        usual = λ n g m m'. made_is m ∙ R.usual n g ∙ sym (made_is m');
        found = λ f C. R.found f (found_in_lem C);
        accepts = λ f C. accepts_is f (R.found f (found_in_lem C)).accepted;
        restored = λ f C k g e. restored_is ((R.found f (found_in_lem C)).restored k g (clearings k f g e));
      };
  clears = λ store free.
      let R = (cut_anywhere store store).clears free in
      record {
        starts = λ m. left_is m ∙ R.order.starts;
        writes = λ n g S. record { only = one_is (clear_place store n) S (R.order.each n g); past = R.order.past n g; inside = R.order.inside n g };
        stops = λ n g m. ap (λ (o : Out). o.says) (made_is m) ∙ R.stops n g;
        usual = λ n g {copy} m m'. made_is m ∙ ap (λ (o : Created). out o.says o.buffer copy) (R.usual n g) ∙ sym (made_is m');
        found = λ k g e. restored_is (R.found k g (clearings k store g e));
      };
  releases = λ store R seat stamp ty free.
      let C = (cut_anywhere store []).releases R seat stamp ty free in
      record {
        writes = λ m. record {
          only = left_is m ∙ C.order.each 0 (omega arith) ∙ sym (λ i. with_block store (used_of store) (block_at (left_is m i) (used_of store)));
          past = C.order.past 0 (omega arith);
          inside = C.order.inside 0 (omega arith);
        };
        found = λ f F. C.found f (found_releasing F);
        accepts = λ f F. accepts_is f (C.found f (found_releasing F)).accepted;
        restored = λ f F k g e. restored_is ((C.found f (found_releasing F)).restored k g (clearings k f g e));
      };
  refuses = λ {store} {copy} {s} {s'} {t} {t'} {stamp} {mask} {n} {q} m e m'. made_is m' ∙ (cut_anywhere store copy).refuses stamp mask n q (sym (ap (λ (o : Out). o.says) (made_is m)) ∙ e);
  keeps = λ {store} {copy} {s} {s'} {t} {t'} {n} {q} m e m'.
      made_is m' ∙ ap (λ (o : Created). out o.says o.buffer copy) ((cut_anywhere store copy).keeps n q (sym (ap (λ (o : Out). o.says) (made_is m)) ∙ e));
}
