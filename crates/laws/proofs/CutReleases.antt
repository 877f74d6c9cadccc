-- A release cut at its one write: the rule of Cut, proved.
-- Assumes nothing.
use Prim.Native.Nat.{◌*◌, ◌+◌, ◌<◌, ◌^◌, ◌≤◌, suc, zero, ℕ}
use mathlib.Core.Bool.{false, true}
use mathlib.Core.List.{List, [], ◌++◌, ◌∷◌, append-nil}
use mathlib.Core.Logic.{inl, inr}
use mathlib.Core.Option.{Option}
use mathlib.Core.Path.{◌∙◌, ◌≡◌, ap, refl, subst, sym}
use native.Mathlib.Omega.{arith}
use lib.Dec.{lit≤}
use lib.ListN.{length}
use Rattle.block.specs.Buffer.{block_at, with_block}
use Rattle.block.specs.Check.{is_zero, sealed}
use Rattle.block.specs.Write.{written}
use Rattle.model.specs.Blocks.{Block, FitsBlock, fields_of, mark}
use Rattle.model.specs.Calls.{fresh_copy, mark_by, mark_call, release_call, side_in, store_conditions, store_only_conditions, store_refusal, store_side}
use Rattle.model.specs.Codec.{encode, joined}
use Rattle.model.specs.Cut.{CutRelease, FoundIn, FoundRelease, Torn, Writes, release_after, release_place, released_log}
use Rattle.model.specs.History.{Bytes, History}
use Rattle.model.specs.Log.{Log, Mark, a_mark, released}
use Rattle.model.specs.Machine.{Call, Release, Side}
use Rattle.model.specs.Pass.{log_all}
use Rattle.model.specs.Refusals.{Clear}
use Rattle.model.specs.Run.{own_conditions}
use Rattle.model.specs.Shows.{Accepted, Seen}
use Rattle.model.specs.Store.{bare_of, block_count, blocks_of, store_history, store_log, used_of}
use Rattle.model.specs.Tail.{Junk, Stored, Tailed}
use Rattle.model.specs.Writing.{with_mark}
use Rattle.laws.proofs.Accepted.{accepted-kept, accepted_seen, others-accepted, seats}
use Rattle.laws.proofs.Codec.{length-encode}
use Rattle.laws.proofs.Conditions.{clear_split, none-holds, sized_so}
use Rattle.laws.proofs.CutCommits.{block_of, longer}
use Rattle.laws.proofs.Cuts.{label-used, restored, same-seats}
use Rattle.laws.proofs.Cutting.{block_written}
use Rattle.laws.proofs.Demand1.{fresh-accepted}
use Rattle.laws.proofs.Marking.{Releasable, log-mark, mark-written, stored-mark}
use Rattle.laws.proofs.Steps.{releasable}
use Rattle.laws.proofs.Store.{bare-held, clear-held, history-held, log-held, log-stored, stored_tailed, tailed_none}
use Rattle.laws.proofs.Tailing.{filled-tail}
use Rattle.laws.proofs.Tails.{seals, zero-block}
use Rattle.laws.proofs.Untailing.{filled_zero}

module _ (store : Bytes) (R seat stamp : ℕ) (ty : stamp < 2 ^ 32) (C : Clear (store_only_conditions store (Release R seat stamp))) where
  abbrev c : Call
  c = Release R seat stamp

  -- the call takes no copy: any will do
  abbrev copy : Bytes
  copy = fresh_copy 1

  abbrev d : Side
  d = side_in store copy

  abbrev N : ℕ
  N = block_count store

  abbrev h : History
  h = store_history store

  abbrev u : ℕ
  u = used_of store

  abbrev m : Mark
  m = released R seat stamp

  abbrev bs : List Block
  bs = blocks_of N store

  lines : Clear (store_conditions store) × Clear (own_conditions (store_side store) c)
  lines = clear_split (store_conditions store) (own_conditions (store_side store) c) C

  A : Accepted store copy
  A = fresh-accepted store [] 1 (omega arith) (omega arith) lines.0

  E : Seen N store copy d
  E = accepted_seen store copy A

  sized : (length store ≡ N * 512) × (2 ≤ N) × (N ≤ 4_096)
  sized = sized_so store lines.0.0

  L : Releasable N store h u R seat stamp
  L = releasable N store copy d E (accepted-kept store copy A) (seats store copy A).0 (seats store copy A).1 R seat stamp ty (none-holds (own_conditions d c) lines.1)

  X : Tailed N store h u 0
  X = stored_tailed N store h u L.stored

  bare_now : bare_of store ≡ store
  bare_now = bare-held N store h u 0 X ∙ tailed_none N store h u X

  -- what the call leaves
  abbrev new : Bytes
  new = (release_call store R seat stamp).buffer

  abbrev bytes : Bytes
  bytes = encode fields_of (mark m)

  pub release_laid : new ≡ joined fields_of (with_mark bs m)
  unfolding mark_call store_refusal
  release_laid =
      ap (λ (o : Option ℕ). (mark_by o store c).buffer) (none-holds (store_only_conditions store c) C)
      ∙ ap (λ (l : Bytes). joined fields_of (with_mark (blocks_of N l) m)) bare_now

  -- one block, in the place of block U
  pub release_written : new ≡ with_block store u bytes
  release_written = release_laid ∙ mark-written N store h u R seat stamp L

  new_block : block_at new u ≡ bytes
  new_block = ap (λ (l : Bytes). block_at l u) release_written ∙ block_of store u bytes (length-encode fields_of (mark m)) (omega (arith, sized.0, L.room))

  order : Writes store (release_after store R seat stamp) 1 (release_place store R seat stamp)
  order = record { starts = refl; each = each; past = λ n g. omega arith; inside = λ n g. omega (arith, L.room); label = label-used N store h u L.stored }
    where
      each : (n : ℕ) → n < 1
          → release_after store R seat stamp (suc n) ≡ with_block (release_after store R seat stamp n) u (block_at (release_after store R seat stamp (suc n)) u)
      each zero g = release_written ∙ ap (with_block store u) (sym new_block)
      each (suc n) g = absurd (omega arith)

  -- a store found without the new block
  old_found : (f : Bytes) (t : ℕ) (Y : Tailed N f h u t) → Y.bare ≡ store → (block_at f u ≡ bytes → ⊥) → FoundRelease store R seat stamp f
  old_found f t Y b o =
      let e = history-held N f h u t Y in
      let g : store_log f ≡ store_log store = log-held N f h u t Y ∙ ap (λ (l : Bytes). log_all (blocks_of N l)) b ∙ sym (log-stored N store h u L.stored) in
      let cl = clear-held N f h u t Y sized.1 sized.2 in
      record {
        accepted = none-holds (store_conditions f) cl;
        log = inl g;
        exactly = ((λ q. absurd (longer (store_log store) (a_mark m) (sym g ∙ q))), (λ q. absurd (o (q ∙ new_block))));
        history = e;
        seats = λ other D. same-seats store f (none-holds (store_conditions f) cl) e other D;
        restored = λ n q s. restored n f q cl s;
        back = λ q. bare-held N f h u t Y ∙ b;
        whole = λ q. absurd (longer (store_log store) (a_mark m) (sym g ∙ q));
      }

  -- the block still old: it is all zero
  unwritten : FoundRelease store R seat stamp store
  unwritten = old_found store 0 X (tailed_none N store h u X) (λ q.
      let z : is_zero (block_at store u) ≡ true = filled_zero N store u (omega (arith, filled-tail N store h u 0 X)) (omega (arith, L.room)) in
      let y : true ≡ false = sym z ∙ ap is_zero q ∙ zero-block (mark m) in
      let x : ◌≡◌ {A = ℕ} 0 1 = cc in
      omega arith)

  -- junk: a tail of one block
  junk-found : (j : Bytes) → Junk j → FoundRelease store R seat stamp (with_block store u j)
  junk-found j J =
      let f : Bytes = with_block store u j in
      let Y : Tailed N f h u 1 = record {
        bare = store;
        stored = L.stored;
        contents = [];
        junk = j ∷ [];
        tail = record { few = lit≤ tt; fits = tt; one = lit≤ tt; junk = (J, tt) };
        size = refl;
        room = L.room;
        bytes = block_written store u j J.size (omega (arith, sized.0, L.room)) ∙ ap (λ (x : List ℕ). written (512 * u) x store) (sym (append-nil j));
      } in
      old_found f 1 Y refl (λ q.
      let there : block_at f u ≡ j = block_of store u j J.size (omega (arith, sized.0, L.room)) in
      let fit : FitsBlock (mark m) = (omega (arith, L.high, L.short), omega (arith, L.seat-high), L.small) in
      let y : true ≡ false = sym (seals (mark m) fit) ∙ ap sealed (sym q) ∙ ap sealed there ∙ J.wrong in
      let x : ◌≡◌ {A = ℕ} 0 1 = cc in
      omega arith)

  -- the block new: the release stands
  whole-found : FoundRelease store R seat stamp new
  whole-found =
      let S : Stored N new h (u + 1) = subst (λ (l : Bytes). Stored N l h (u + 1)) (sym release_laid) (stored-mark N store h u R seat stamp L) in
      let Y = stored_tailed N new h (u + 1) S in
      let e = history-held N new h (u + 1) 0 Y in
      let g : store_log new ≡ released_log store R seat stamp =
      log-stored N new h (u + 1) S ∙ ap (λ (l : Bytes). log_all (blocks_of N l)) release_laid ∙ log-mark N store h u R seat stamp L
      ∙ ap (λ (x : Log). x ++ (a_mark m ∷ [])) (sym (log-stored N store h u L.stored)) in
      let cl = clear-held N new h (u + 1) 0 Y sized.1 sized.2 in
      record {
        accepted = none-holds (store_conditions new) cl;
        log = inr g;
        exactly = ((λ q. refl), (λ q. g));
        history = e;
        seats = λ other D. others-accepted store copy other A D c ty;
        restored = λ n q s. restored n new q cl s;
        back = λ q. absurd (longer (store_log store) (a_mark m) (sym q ∙ g));
        whole = λ q. refl;
      }

  found : (f : Bytes) → FoundIn (release_after store R seat stamp) 1 (release_place store R seat stamp) f → FoundRelease store R seat stamp f
  found f F = go F.0 F.1 F.2
    where
      go : (n : ℕ) → n < 1 → Torn (release_after store R seat stamp n) (release_after store R seat stamp (suc n)) u f → FoundRelease store R seat stamp f
      go zero g t =
          elim t [
            | inl e ↦ subst (FoundRelease store R seat stamp) (sym e) unwritten
            | inr s ↦ elim s [
              | inl e ↦ subst (FoundRelease store R seat stamp) (sym e) whole-found
              | inr j ↦ subst (FoundRelease store R seat stamp) (sym j.2) (junk-found j.0 j.1)
            ]
          ]
      go (suc n) g t = absurd (omega arith)

  pub cut_release : CutRelease store R seat stamp
  cut_release = record { order = order; found = found }
