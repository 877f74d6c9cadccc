-- One seat's side of a day. A seat has its own sheet and nothing else, so that adding or editing it and committing it are never refused.
-- Assumes nothing.
use Prim.Native.Nat.{◌%◌, ◌+◌, ◌/◌, ◌<◌, ◌^◌, ◌≤◌, suc, zero, ℕ}
use mathlib.Core.Bool.{Bool, ◌&&◌, ◌||◌, cond, false, not, true}
use mathlib.Core.List.{List, [], ◌++◌, ◌∷◌}
use mathlib.Core.Option.{Option, none, some}
use mathlib.Core.Path.{◌∙◌, ◌≡◌, ap, ap₂, refl, subst, sym}
use native.Mathlib.Omega.{arith}
use borrow.Author.Tests.{le-ltb, ne_eqb}
use lib.Dec.{eqb, ltb}
use lib.ListN.{get_or, length, length-append, replicate, set}
use lib.Seq.{get_or-set_other, take-length}
use Rattle.block.specs.Field.{two}
use Rattle.block.specs.Lists.{same}
use Rattle.model.specs.Entry.{Entry, added, change_for, empty, modified, normal, pending}
use Rattle.model.specs.History.{Bytes, Change, Commit, History, add, change, change_of, is_bytes, last, made, namer, namer_from, names, newest, nothing, present, sheet}
use Rattle.model.specs.Invariant.{Sound}
use Rattle.model.specs.Machine.{Add, Answer, Call, Commits, Edit, Side, blocks_for, chosen, commit_changes, committed, committing, doing, done, settled}
use Rattle.model.specs.Refusals.{first_of, out_of_date}
use Rattle.model.specs.Rows.{some-row}
use Rattle.model.specs.Run.{own_conditions}
use Rattle.laws.proofs.Conditions.{none-holds}
use Rattle.laws.proofs.Rows.{replicate-any}
use Rattle.laws.proofs.Trees.{Wide, namer-append, namer-up_to, sheet-grown, sheet-made}

-- the entries of seat k: e for its own sheet; and the changes of a commit that names this sheet alone
abbrev pub own : ℕ → Entry → List Entry
own k e = set (replicate 32 empty) k e

abbrev pub naming : ℕ → Change → List Change
naming k a = set (replicate 32 nothing) k a

abbrev pub side : ℕ → ℕ → History → Entry → Side
side k u h e = record { seat = k; blocks = 121; used = u; tail = 0; history = h; marks = []; entries = own k e }

abbrev pub commit_of : ℕ → ℕ → Change → Commit
commit_of k t a = record { seat = k; stamp = t; changes = naming k a }

-- the call that writes step t on the sheet of seat k, after n commits
abbrev pub writes : ℕ → ℕ → ℕ → Call
writes t k n = cond (eqb n 0) (Add k (two t [])) (Edit k (two t []))

-- what holds of each of the four seats
pub seat-any : (P : ℕ → Type 0) → P 1 → P 2 → P 3 → P 4 → (k : ℕ) → 1 ≤ k → k ≤ 4 → P k
seat-any P a b c d zero lo hi = absurd (omega arith)
seat-any P a b c d (suc zero) lo hi = a
seat-any P a b c d (suc (suc zero)) lo hi = b
seat-any P a b c d (suc (suc (suc zero))) lo hi = c
seat-any P a b c d (suc (suc (suc (suc zero)))) lo hi = d
seat-any P a b c d (suc (suc (suc (suc (suc k))))) lo hi = absurd (omega arith)

-- ---- the 32 rows of a commit, where one of them is in use

module _ (h : History) (e : Entry) where
  changes_are : (k : ℕ) → 1 ≤ k → k ≤ 4 → commit_changes h (2 ^ k) (own k e) ≡ naming k (change_for h k e)
  changes_are = seat-any (λ (k : ℕ). commit_changes h (2 ^ k) (own k e) ≡ naming k (change_for h k e)) refl refl refl refl

  settled_are : (k : ℕ) → 1 ≤ k → k ≤ 4 → committed h (2 ^ k) (own k e) ≡ own k (settled (suc (last h)) (change_for h k e) e)
  settled_are = seat-any (λ (k : ℕ). committed h (2 ^ k) (own k e) ≡ own k (settled (suc (last h)) (change_for h k e) e)) refl refl refl refl

  pending_is : (k : ℕ) → 1 ≤ k → k ≤ 4 → some-row (λ i x. chosen (2 ^ k) i && pending h i x) 0 (own k e) ≡ (pending h k e || false)
  pending_is = seat-any (λ (k : ℕ). some-row (λ i x. chosen (2 ^ k) i && pending h i x) 0 (own k e) ≡ (pending h k e || false)) refl refl refl refl

  stale_is : (k : ℕ) → 1 ≤ k → k ≤ 4 → some-row (λ i x. chosen (2 ^ k) i && out_of_date h i x) 0 (own k e) ≡ (out_of_date h k e || false)
  stale_is = seat-any (λ (k : ℕ). some-row (λ i x. chosen (2 ^ k) i && out_of_date h i x) 0 (own k e) ≡ (out_of_date h k e || false)) refl refl refl refl

-- ---- an entry that can be committed at step t

pub record Ready (t : ℕ) (h : History) (k : ℕ) (e : Entry) : Type 0 where
  pub does : Change
  pub is : change_for h k e ≡ does
  pub named : names does ≡ true
  pub blocks : blocks_for h (naming k does) ≡ 2
  pub timely : out_of_date h k e ≡ false
  pub becomes : settled (suc (last h)) does e ≡ normal (suc (last h)) (two t [])
  pub makes : (o : Option Bytes) → made does o ≡ some (two t [])

module _ (k t u : ℕ) (h : History) (e : Entry) (lo : 1 ≤ k) (hi : k ≤ 4) (R : Ready t h k e) where
  written : commit_changes h (2 ^ k) (own k e) ≡ naming k R.does
  written = changes_are h e k lo hi ∙ ap (naming k) R.is

  two_blocks : blocks_for h (commit_changes h (2 ^ k) (own k e)) ≡ 2
  two_blocks = ap (blocks_for h) written ∙ R.blocks

  pub commit-clear : u + 2 ≤ 121 → first_of (own_conditions (side k u h e) (Commits t (2 ^ k))) ≡ none
  commit-clear room = none-holds (own_conditions (side k u h e) (Commits t (2 ^ k))) (
    refl,
    (
      seat-any (λ (k : ℕ). eqb (2 ^ k) 0 ≡ false) refl refl refl refl k lo hi,
      (
        ap not (pending_is h e k lo hi ∙ ap (λ (a : Change). names a || false) R.is ∙ ap (λ (b : Bool). b || false) R.named),
        (
          stale_is h e k lo hi ∙ ap (λ (b : Bool). b || false) R.timely,
          (ap (λ (n : ℕ). ltb 121 (u + n)) two_blocks ∙ le-ltb 121 (u + 2) room, tt),
        ),
      ),
    ),
  )

  -- the commit takes two blocks and names the own sheet, which is normal afterwards
  pub commit-does : ◌≡◌ {A = Side} (committing (side k u h e) t (2 ^ k)) (side k (u + 2) (h ++ (commit_of k t R.does ∷ [])) (normal (suc (last h)) (two t [])))
  commit-does =
      let s : committed h (2 ^ k) (own k e) ≡ own k (normal (suc (last h)) (two t [])) =
      settled_are h e k lo hi ∙ ap (λ (a : Change). own k (settled (suc (last h)) a e)) R.is ∙ ap (own k) R.becomes in
      λ i. record {
        seat = k;
        blocks = 121;
        used = u + two_blocks i;
        tail = 0;
        history = h ++ (record { seat = k; stamp = t; changes = written i } ∷ []);
        marks = [];
        entries = s i;
      }

-- ---- what a seat has after n commits, the last of them at step t or before

abbrev pub Own : ℕ → History → ℕ → ℕ → Entry → Type 0
Own t h k zero e = (e ≡ empty) × (newest h k ≡ none)
Own t h k (suc n) e = (b : ℕ) × (r : ℕ) × (e ≡ normal b (two r [])) × (r ≤ t) × (b ≤ last h) × (sheet h b k ≡ some (two r [])) × (namer h (last h) k ≤ b)

pub own_later : (t : ℕ) (h : History) (k n : ℕ) (e : Entry) → Own t h k n e → Own (suc t) h k n e
own_later t h k zero e O = O
own_later t h k (suc n) e O = (O.0, O.1, O.2, (let l = O.3 in omega (arith, l)), O.4, O.5, O.6)

-- the bytes of two steps differ
differ : (t r : ℕ) → t ≤ 60 → r < t → same (two t []) (two r []) ≡ false
differ t r hi lt =
    let n : eqb (t % 256) (r % 256) ≡ false = ne_eqb (t % 256) (r % 256) (λ e. omega (arith, e)) in
    ap (λ (b : Bool). b && (eqb (t / 256) (r / 256) && true)) n

-- writing is not refused, and leaves what can be committed
module _ (t u k : ℕ) (h : History) (lo : 1 ≤ k) (hi : k ≤ 4) (soon : t < 60) where
  abbrev pub Writes : Call → Entry → Type 0
  Writes c e = (e' : Entry) × (first_of (own_conditions (side k u h e) c) ≡ none) × (◌≡◌ {A = Answer × Side} (doing (side k u h e) c) (done, side k u h e')) × Ready (suc t) h k e'

  first_time : newest h k ≡ none → Writes (Add k (two (suc t) [])) empty
  first_time q = (
    added (two (suc t) []),
    seat-any (λ (k : ℕ). first_of (own_conditions (side k u h empty) (Add k (two (suc t) []))) ≡ none) refl refl refl refl k lo hi,
    seat-any (λ (k : ℕ). ◌≡◌ {A = Answer × Side} (doing (side k u h empty) (Add k (two (suc t) []))) (done, side k u h (added (two (suc t) [])))) refl refl refl refl k lo hi,
    record {
      does = add (two (suc t) []);
      is = refl;
      named = refl;
      blocks = seat-any (λ (k : ℕ). blocks_for h (naming k (add (two (suc t) []))) ≡ 2) refl refl refl refl k lo hi;
      timely = ap present q;
      becomes = refl;
      makes = λ o. refl;
    },
  )

  later : (b r : ℕ) → r ≤ t → sheet h b k ≡ some (two r []) → namer h (last h) k ≤ b → Writes (Edit k (two (suc t) [])) (normal b (two r []))
  later b r before holds newer =
      let m : modified h k b (two (suc t) []) ≡ true = ap (λ (o : Option Bytes). not (is_bytes (two (suc t) []) o)) holds ∙ ap not (differ (suc t) r (omega arith) (omega arith)) in (
        normal b (two (suc t) []),
        seat-any (λ (k : ℕ). first_of (own_conditions (side k u h (normal b (two r []))) (Edit k (two (suc t) []))) ≡ none) refl refl refl refl k lo hi,
        seat-any (λ (k : ℕ). ◌≡◌ {A = Answer × Side} (doing (side k u h (normal b (two r []))) (Edit k (two (suc t) []))) (done, side k u h (normal b (two (suc t) [])))) refl refl refl refl k lo hi,
        record {
          does = change (two (suc t) []);
          is = ap (λ (x : Bool). cond x (change (two (suc t) [])) nothing) m;
          named = refl;
          blocks = seat-any (λ (k : ℕ). blocks_for h (naming k (change (two (suc t) []))) ≡ 2) refl refl refl refl k lo hi;
          timely = ap₂ ◌&&◌ m (le-ltb b (namer h (last h) k) newer);
          becomes = refl;
          makes = λ o. refl;
        },
      )

  pub written_so : (n : ℕ) (e : Entry) → Own t h k n e → Writes (writes (suc t) k n) e
  written_so zero e O = subst (Writes (Add k (two (suc t) []))) (sym O.0) (first_time O.1)
  written_so (suc n) e O =
      let z : eqb (suc n) 0 ≡ false = ne_eqb (suc n) 0 (λ q. omega (arith, q)) in
      subst (λ (b : Bool). Writes (cond b (Add k (two (suc t) [])) (Edit k (two (suc t) []))) e) (sym z)
      (subst (Writes (Edit k (two (suc t) []))) (sym O.2) (later O.0 O.1 O.3 O.5 O.6))

-- ---- the history with one commit more

module _ (t : ℕ) (h : History) (c : Commit) (S : Sound h) (W : Wide c) where
  longer : last (h ++ (c ∷ [])) ≡ suc (last h)
  longer = omega (arith, length-append h (c ∷ []))

  -- a sheet that it doesn't name
  pub own-grown : (k n : ℕ) (e : Entry) → change_of c k ≡ nothing → Own t h k n e → Own t (h ++ (c ∷ [])) k n e
  own-grown k zero e q O = (O.0, sheet-made h c k S W ∙ ap (λ (a : Change). made a (newest h k)) q ∙ O.1)
  own-grown k (suc n) e q O =
      let m : namer (h ++ (c ∷ [])) (last (h ++ (c ∷ []))) k ≡ namer h (last h) k =
      ap (λ (g : History). namer_from 0 0 g k) (take-length (h ++ (c ∷ []))) ∙ namer-append 0 0 h (c ∷ []) k
      ∙ ap (λ (a : Change). cond (names a) (suc (0 + last h)) (namer_from 0 0 h k)) q ∙ ap (λ (g : History). namer_from 0 0 g k) (sym (take-length h)) in (
        O.0,
        O.1,
        O.2,
        O.3,
        (let l = O.4 in omega (arith, l, longer)),
        sheet-grown h (c ∷ []) O.0 k O.4 ∙ O.5,
        (let l = O.6 in omega (arith, l, m)),
      )

  -- the sheet that it writes
  pub own-made : (k n : ℕ) → made (change_of c k) (newest h k) ≡ some (two t []) → Own t (h ++ (c ∷ [])) k (suc n) (normal (suc (last h)) (two t []))
  own-made k n q = (
    suc (last h),
    t,
    refl,
    omega arith,
    omega (arith, longer),
    ap (λ (R : ℕ). sheet (h ++ (c ∷ [])) R k) (sym longer) ∙ sheet-made h c k S W ∙ q,
    (let l = namer-up_to (h ++ (c ∷ [])) (last (h ++ (c ∷ []))) k (omega arith) in omega (arith, l, longer)),
  )

pub other-sheet : (k t j : ℕ) (a : Change) → (j ≡ k → ⊥) → change_of (commit_of k t a) j ≡ nothing
other-sheet k t j a ne = get_or-set_other (replicate 32 nothing) k j a nothing ne ∙ replicate-any (λ (x : Change). x ≡ nothing) 32 j nothing nothing refl refl

pub own-sheet : (k t : ℕ) (a : Change) → 1 ≤ k → k ≤ 4 → change_of (commit_of k t a) k ≡ a
own-sheet k t a = seat-any (λ (k : ℕ). get_or (naming k a) k nothing ≡ a) refl refl refl refl k

pub wide_naming : (k t : ℕ) (a : Change) → 1 ≤ k → k ≤ 4 → Wide (commit_of k t a)
wide_naming k t a = seat-any (λ (k : ℕ). length (naming k a) ≡ 32) refl refl refl refl k
