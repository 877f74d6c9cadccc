-- W2 of document 02 for the code: "Two engineers who type the same flow-contact delay now count as agreeing. An update to R takes a chosen modified, added or copied entry whose bytes
-- equal tree R's as normal with base R. Refusal 12 loses these cases." Its last sentence, "What any revision shows still follows from the calls, under the new update step.", is demand 3.
-- Of the calls nothing is known but their functions' own contracts: `Made` is that of Demand3, `Looked` that of Demand1.
-- Assumes nothing.
use Rattle.std.specs.Prelude.{Result}
use Prim.Native.Nat.{◌<◌, ◌≤◌, ℕ}
use mathlib.Core.Bool.{true}
use mathlib.Core.Path.{◌∙◌, ◌≡◌, ap, subst, sym}
use lib.ListN.{get_or}
use Rattle.model.specs.Calls.{Out, commit_call, out}
use Rattle.model.specs.Entry.{empty, normal}
use Rattle.model.specs.History.{Bytes, last, namer}
use Rattle.model.specs.Machine.{Answer, Commits, Status, Update, chosen, done, refused, status}
use Rattle.model.specs.SameEdit.{AllAgree, Updates, agrees}
use Rattle.model.specs.Shows.{Accepted}
use Rattle.model.specs.Store.{store_history, tail_of}
use Rattle.model.specs.Types.{answer_of}
use Rattle.model.specs.WorkCopy.{entries_of}
use Rattle.model.specs.declared.Answer.{Answer as TheAnswer}
use Rattle.laws.proofs.SameEdit.{same_edit}
use Rattle.engine.proofs.Demand1.{CodeDemand1, Looked, code_demand_one, looked_is}
use Rattle.engine.proofs.Demand3.{CodeDemand3, Made, code_demand_three, made_is}
use Rattle.model.specs.declared.Refusal.{Refusal}

-- THE STATEMENT

pub record CodeSameEdit : Type 2 where
  -- the functions meet their contracts, of which `Made` and `Looked` speak
  pub calls_meet : CodeDemand3
  pub looks_meet : CodeDemand1
  -- what `update` answers and leaves, on a store that is accepted and a working copy that fits it
  pub updates : {store copy store' copy' : Bytes} {mask R : ℕ} {r : Result TheAnswer Refusal} → Accepted store copy → Made store copy (Update mask R) r store' copy'
      → Updates (store_history store) (entries_of copy) mask R (out (answer_of r) store' copy')
  -- until then `commit` and `status` answer as before; on a store that has a tail, commit's 14 comes first
  pub stale : {store copy store' copy' : Bytes} {stamp mask : ℕ} {r : Result TheAnswer Refusal} → Accepted store copy → tail_of store ≡ 0 → Made store copy (Commits stamp mask) r store' copy'
      → (i : ℕ) → i < 32 → chosen mask i ≡ true → agrees (store_history store) (last (store_history store)) i (get_or (entries_of copy) i empty) ≡ true → answer_of r ≡ refused 11
  pub needs_merge : {store copy : Bytes} {i : ℕ} {a : Answer} → Accepted store copy → Looked store copy (Status i) a
      → (b : ℕ) (x : Bytes) → i < 32 → get_or (entries_of copy) i empty ≡ normal b x → agrees (store_history store) (last (store_history store)) i (normal b x) ≡ true
      → a ≡ status 4 (namer (store_history store) (last (store_history store)) i)
  -- "now count as agreeing": the update is done, and a commit of the same sheets on what it left finds nothing pending
  pub settles : {store copy store' copy' store'' copy'' : Bytes} {stamp mask R : ℕ} {r q : Result TheAnswer Refusal} → Accepted store copy → Made store copy (Update mask R) r store' copy'
      → Made store' copy' (Commits stamp mask) q store'' copy'' → (mask ≡ 0 → ⊥) → R ≤ last (store_history store) → AllAgree (store_history store) mask R (entries_of copy)
      → (answer_of r ≡ done) × (tail_of store ≡ 0 → answer_of q ≡ refused 10)

-- THE PROOF

pub code_same_edit : CodeSameEdit
code_same_edit = record {
  calls_meet = code_demand_three;
  looks_meet = code_demand_one;
  updates = λ {store} {copy} {store'} {copy'} {mask} {R} A m.
      subst (Updates (store_history store) (entries_of copy) mask R) (sym (made_is m)) ((same_edit store copy A).updates mask R);
  stale = λ {store} {copy} {store'} {copy'} {stamp} {mask} A t m i g c z. ap (λ (o : Out). o.says) (made_is m) ∙ (same_edit store copy A).stale t stamp mask i g c z;
  needs_merge = λ {store} {copy} {i} A l b x g e z. ap (λ (o : Out). o.says) (looked_is l) ∙ (same_edit store copy A).needs_merge i b x g e z;
  settles = λ {store} {copy} {store'} {copy'} {store''} {copy''} {stamp} {mask} {R} A m n nz le f.
      let S = (same_edit store copy A).settles stamp mask R nz le f in
      let e = made_is m in (
        ap (λ (o : Out). o.says) e ∙ S.0,
        λ t. ap (λ (o : Out). o.says) (made_is n) ∙ ap (λ (o : Out). (commit_call o.store o.copy stamp mask).says) e ∙ S.1 t,
      );
}
