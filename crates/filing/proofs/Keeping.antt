-- The store's numbers after the inner commit: refused or stopped they stay, and where it is done the blocks in use and the last revision have grown.
-- Assumes nothing.
use Rattle.std.specs.Prelude.{Err, Ok, Result}
use Prim.Native.Nat.{◌+◌, ◌<◌, ◌^◌, suc, ℕ}
use mathlib.Core.Bool.{Bool, cond, false, not, true}
use mathlib.Core.List.{[], ◌∷◌}
use mathlib.Core.Option.{Option, none, some}
use mathlib.Core.Path.{◌∙◌, ◌≡◌, ap, subst, sym}
use native.Mathlib.Omega.{arith}
use borrow.Author.Tests.{eq-eqb}
use lib.Dec.{eqb, leb}
use lib.ListN.{length-append, take}
use Rattle.model.specs.Calls.{Out, call, change_by, commit_cut_call, commit_writes, out, side_in, stopped_by, written_from}
use Rattle.model.specs.History.{Bytes, last}
use Rattle.model.specs.Machine.{Answer, Commits, CommitsCut, Side, blocks_for, commit_changes, committing, new_commit, refused, revision, stopped, with_tail}
use Rattle.model.specs.Refusals.{conditions, first_of}
use Rattle.model.specs.Run.{own_conditions, side_by, side_step}
use Rattle.model.specs.Shows.{Seen}
use Rattle.model.specs.Store.{block_count, store_history, tail_of, used_of}
use Rattle.model.specs.Types.{answer_of, number_of}
use Rattle.model.specs.declared.Answer.{Answer as TheAnswer}
use Rattle.model.specs.declared.Answer.TheVariants.{Revision as TheRevision, Stopped as TheStopped}
use Rattle.model.specs.declared.Refusal.{Refusal}
use Rattle.laws.proofs.Accepted.{accepted-call}
use Rattle.commits.proofs.Answers.{told-done}
use Rattle.commits.specs.Outcome.{Answered, enough}
use Rattle.commits.specs.declared.Outcome.{Outcome}
use Rattle.commits.specs.declared.Outcome.TheVariants.{Done}
use Rattle.entries.proofs.Checking.{fitting_accepted, inner_refusal}
use Rattle.entries.proofs.Keeping.{seen_numbers}
use Rattle.entries.specs.View.{Fitting, out_as}
use Rattle.entries.specs.declared.View.{View}
use Rattle.filing.specs.Filed.{FiledAs, inner_cut, unfiled_as}
use Rattle.filing.specs.declared.Filed.{Filed}

module _ (store copy : Bytes) (v : View) (F : Fitting store copy v) (stamp mask n : ℕ) where
  abbrev d : Side
  d = side_in store copy

  abbrev ends : Bool → Out
  ends t = cond t (change_by none store copy (Commits stamp mask)) (out stopped (written_from store (take n (commit_writes store copy stamp mask))) copy)

  no_tail : tail_of store ≡ 0 → not (eqb (tail_of store) 0) ≡ false
  no_tail t = ap not (eq-eqb (tail_of store) 0 t)

  -- where no line from 1 to 6 holds, nor 14, it is the call
  pub inner_cut_lem : not (eqb (tail_of store) 0) ≡ false → inner_cut store copy stamp mask n ≡ commit_cut_call store copy stamp mask n
  unfolding inner_cut commit_cut_call
  inner_cut_lem t = ap (λ (o : Option ℕ). stopped_by o store copy stamp mask n) (inner_refusal store copy v F (CommitsCut stamp mask n) (t, tt))

  -- THE STATEMENTS: a refused commit leaves the store, and so its numbers
  same_store : (k : Refusal) {store' copy' : Bytes} (o : Option ℕ) → out_as (Err k) store' copy' ≡ stopped_by o store copy stamp mask n → store' ≡ store
  same_store k (some r) e = ap (λ (x : Out). x.store) e
  same_store k {store'} {copy'} none e = absurd (go (enough store copy stamp mask n) e)
    where
      go : (t : Bool) → out_as (Err k) store' copy' ≡ ends t → ⊥
      go true e = let s : refused (number_of k) ≡ (ends true).says = ap (λ (x : Out). x.says) e in let z : ◌≡◌ {A = ℕ} 0 1 = cc in omega arith
      go false e = let s : refused (number_of k) ≡ stopped = ap (λ (x : Out). x.says) e in let z : ◌≡◌ {A = ℕ} 0 1 = cc in omega arith

  pub filed-refused : (k : Refusal) {r : Filed} {store' copy' : Bytes} → r ≡ unfiled_as v k → out_as (Err k) store' copy' ≡ inner_cut store copy stamp mask n
      → FiledAs (inner_cut store copy stamp mask n) r store' copy'
  unfolding inner_cut
  filed-refused k {r} {store'} {copy'} q e =
      let s : store ≡ store' = sym (same_store k (first_of (conditions d (CommitsCut stamp mask n))) e) in
      let O = F.viewed.opened in
      subst (λ (x : Filed). FiledAs (inner_cut store copy stamp mask n) x store' copy') (sym q)
      (record { is = e; used = O.accepted.in_use ∙ ap used_of s; last = O.last ∙ ap (λ (x : Bytes). last (store_history x)) s })

  -- what the machine leaves where no line refuses
  abbrev leaves : Bool → Answer × Side
  leaves t = cond t (revision (suc (last d.history)), committing d stamp mask) (stopped, with_tail d n)

  module _ (t : tail_of store ≡ 0) (g : stamp < 2 ^ 32) (a : Result TheAnswer Refusal) {store' copy' : Bytes} (e : out_as a store' copy' ≡ inner_cut store copy stamp mask n) where
    here : out_as a store' copy' ≡ call store copy (CommitsCut stamp mask n)
    here = e ∙ inner_cut_lem (no_tail t)

    told : answer_of a ≡ (side_step d (CommitsCut stamp mask n)).0
    told = ap (λ (x : Out). x.says) here ∙ (accepted-call store copy (fitting_accepted store copy v F) (CommitsCut stamp mask n) g).0

    held : Seen (block_count store) store' copy' (side_step d (CommitsCut stamp mask n)).1
    held =
        subst (λ (x : Out). Seen (block_count store) x.store x.copy (side_step d (CommitsCut stamp mask n)).1) (sym here)
        (accepted-call store copy (fitting_accepted store copy v F) (CommitsCut stamp mask n) g).1

  -- one that is done, and answers R, has grown the history by one commit and the blocks in use by those of the commit
  grown : (o : Option ℕ) {R : ℕ} {store' copy' : Bytes} → revision R ≡ (side_by o d (CommitsCut stamp mask n)).0 → Seen (block_count store) store' copy' (side_by o d (CommitsCut stamp mask n)).1
      → (used_of store' ≡ v.used + blocks_for d.history (commit_changes d.history mask d.entries)) × (last (store_history store') ≡ v.last + 1)
  grown (some r) e E = let z : ◌≡◌ {A = ℕ} 0 1 = cc in absurd (omega arith)
  grown none {R} {store'} {copy'} e E = go (leb (blocks_for d.history (commit_changes d.history mask d.entries)) n) e E
    where
      go : (t : Bool) → revision R ≡ (leaves t).0 → Seen (block_count store) store' copy' (leaves t).1
          → (used_of store' ≡ v.used + blocks_for d.history (commit_changes d.history mask d.entries)) × (last (store_history store') ≡ v.last + 1)
      go false e E = let z : ◌≡◌ {A = ℕ} 0 1 = cc in absurd (omega arith)
      go true e E =
          let O = F.viewed.opened in
          let k = seen_numbers (block_count store) store' copy' (committing d stamp mask) E in (
            k.1 ∙ ap (λ (u : ℕ). u + blocks_for d.history (commit_changes d.history mask d.entries)) (sym O.accepted.in_use),
            ap last k.2 ∙ length-append d.history (new_commit d stamp mask ∷ []) ∙ omega (arith, O.last),
          )

  pub filed-done : tail_of store ≡ 0 → stamp < 2 ^ 32 → {R u : ℕ} {o : Result Outcome Refusal} {store' copy' : Bytes} → Answered store copy store' stamp mask n o → o ≡ Ok (Done u)
      → out_as (Ok (TheRevision R)) store' copy' ≡ inner_cut store copy stamp mask n
      → FiledAs (inner_cut store copy stamp mask n) (record { answer = (Ok (TheRevision R)); used = u; last = v.last + 1 }) store' copy'
  filed-done t g {R} {u} {o} {store'} {copy'} A q e =
      let m = told-done store copy store' stamp mask n u (subst (Answered store copy store' stamp mask n) q A) in
      let k = grown (first_of (own_conditions d (CommitsCut stamp mask n))) (told t g (Ok (TheRevision R)) e) (held t g (Ok (TheRevision R)) e) in
      record {
        is = e;
        used = m.3 ∙ ap (λ (n : ℕ). n + blocks_for d.history (commit_changes d.history mask d.entries)) (sym F.viewed.opened.accepted.in_use) ∙ sym k.0;
        last = sym k.1;
      }

  -- one that stopped has left them
  same_numbers : (o : Option ℕ) {store' copy' : Bytes} → stopped ≡ (side_by o d (CommitsCut stamp mask n)).0 → Seen (block_count store) store' copy' (side_by o d (CommitsCut stamp mask n)).1
      → (used_of store' ≡ used_of store) × (store_history store' ≡ store_history store)
  same_numbers (some r) e E = let z : ◌≡◌ {A = ℕ} 0 1 = cc in absurd (omega arith)
  same_numbers none {store'} {copy'} e E = go (leb (blocks_for d.history (commit_changes d.history mask d.entries)) n) e E
    where
      go : (t : Bool) → stopped ≡ (leaves t).0 → Seen (block_count store) store' copy' (leaves t).1 → (used_of store' ≡ used_of store) × (store_history store' ≡ store_history store)
      go true e E = let z : ◌≡◌ {A = ℕ} 0 1 = cc in absurd (omega arith)
      go false e E = let k = seen_numbers (block_count store) store' copy' (with_tail d n) E in (k.1, k.2)

  pub filed-stopped : tail_of store ≡ 0 → stamp < 2 ^ 32 → {store' copy' : Bytes} → out_as (Ok TheStopped) store' copy' ≡ inner_cut store copy stamp mask n
      → FiledAs (inner_cut store copy stamp mask n) (record { answer = (Ok TheStopped); used = v.used; last = v.last }) store' copy'
  filed-stopped t g e =
      let O = F.viewed.opened in
      let k = same_numbers (first_of (own_conditions d (CommitsCut stamp mask n))) (told t g (Ok TheStopped) e) (held t g (Ok TheStopped) e) in
      record { is = e; used = O.accepted.in_use ∙ sym k.0; last = O.last ∙ ap last (sym k.1) }
