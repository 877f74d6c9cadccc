-- Clearing cut at any write: the rule of Cut, proved.
-- Assumes nothing.
use Prim.Native.Nat.{◌*◌, ◌+◌, ◌-◌, ◌<◌, ◌≤◌, suc, zero, ℕ}
use mathlib.Core.Bool.{Bool, cond, not}
use mathlib.Core.List.{◌++◌, ◌∷◌, List, []}
use mathlib.Core.Logic.{inl, inr}
use mathlib.Core.Option.{Option, none, some}
use mathlib.Core.Path.{◌∙◌, ◌≡◌, ap, ap₂, refl, subst, sym}
use native.Mathlib.Omega.{arith}
use borrow.Author.Tests.{le-leb, lt-leb}
use lib.ListN.{drop, length, length-replicate, replicate, replicate-append-replicate, take}
use lib.Seq.{drop-append-add, length-take-le, take-append-le, take_at, take-take}
use Rattle.block.proofs.Says.{lt_or_ge}
use Rattle.block.specs.Buffer.{block_at, with_block}
use Rattle.model.specs.Calls.{Created, clear_call, clear_cut_call, cleared_by, copy_size_condition, create_by, store_conditions, store_refusal}
use Rattle.model.specs.Cut.{Clearings, CutClearing, FoundClearing, Restored, Writes, clear_after, clear_place}
use Rattle.model.specs.Fitting.{fits_store}
use Rattle.model.specs.History.{Bytes, History}
use Rattle.model.specs.Machine.{Answer, Clears, done, refused, stopped}
use Rattle.model.specs.Refusals.{Clear, ◌when◌, first_of}
use Rattle.model.specs.Shows.{Accepted}
use Rattle.model.specs.Store.{bare_of, blank_from, block_count, blocks_of, store_history, store_log, tail_of, used_of}
use Rattle.model.specs.Tail.{Stored, Tailed}
use Rattle.model.specs.WorkCopy.{copy_ok, entries_of}
use Rattle.laws.proofs.Acceptance.{lays_accepted}
use Rattle.laws.proofs.Conditions.{clear, clear_first, clear_split, none-holds, sized_so}
use Rattle.laws.proofs.Cutting.{blank-all, cleared_kin, junk_kin}
use Rattle.laws.proofs.Store.{bare-held, clear-held, history-held, log-held, stored_tailed, tailed_none, taken_tailed}
use Rattle.laws.proofs.Tailing.{length-store}
use Rattle.laws.proofs.Writing.{holds-blocks, some-front}
use Rattle.model.specs.Pass.{log_all}

-- ---- zeros from one block more on

blank_step : (p : ℕ) (l : List ℕ) → 512 * suc p ≤ length l → blank_from p l ≡ with_block (blank_from (suc p) l) p (block_at (blank_from p l) p)
unfolding blank_from
blank_step p l g =
    let n = length l in
    let Z : List ℕ = replicate (n - 512 * suc p) 0 in
    let a : length (take (512 * p) l) ≡ 512 * p = length-take-le (512 * p) l (omega arith) in
    let b : length (take (512 * suc p) l) ≡ 512 * suc p = length-take-le (512 * suc p) l g in
    let k : n - 512 * p ≡ 512 + (n - 512 * suc p) = omega arith in
    let zs : replicate {A = ℕ} (n - 512 * p) 0 ≡ replicate 512 0 ++ Z = ap (λ (x : ℕ). replicate {A = ℕ} x 0) k ∙ sym (replicate-append-replicate 512 (n - 512 * suc p) 0) in
    let e : 512 * p ≡ length (take (512 * p) l) + 0 = omega arith in
    let here : take 512 (drop (512 * p) (take (512 * p) l ++ replicate (n - 512 * p) 0)) ≡ replicate 512 0 =
    ap (λ (x : ℕ). take 512 (drop x (take (512 * p) l ++ replicate (n - 512 * p) 0))) e
    ∙ ap (take 512) (drop-append-add (take (512 * p) l) (replicate (n - 512 * p) 0) 0) ∙ ap (take 512) zs ∙ take_at (replicate 512 0) Z 512 (length-replicate {A = ℕ} 512 0) in
    let front : take (512 * p) (take (512 * suc p) l ++ Z) ≡ take (512 * p) l = take-append-le (512 * p) (take (512 * suc p) l) Z (omega arith) ∙ take-take (512 * p) (512 * suc p) l (omega arith) in
    let f : 512 * p + 512 ≡ length (take (512 * suc p) l) + 0 = omega arith in
    let back : drop (512 * p + 512) (take (512 * suc p) l ++ Z) ≡ Z = ap (λ (x : ℕ). drop x (take (512 * suc p) l ++ Z)) f ∙ drop-append-add (take (512 * suc p) l) Z 0 in
    ap (λ (x : List ℕ). take (512 * p) l ++ x) zs
    ∙ sym (ap₂ (λ (x y : List ℕ). x ++ (take 512 (drop (512 * p) (take (512 * p) l ++ replicate (n - 512 * p) 0)) ++ y)) front back
    ∙ ap (λ (x : List ℕ). take (512 * p) l ++ (x ++ Z)) here)

-- ---- what follows from a history that stays

-- a copy that is accepted with one store is accepted with another that has the same history
pub same-seats : (f g : Bytes) → first_of (store_conditions g) ≡ none → store_history g ≡ store_history f → (copy : Bytes) → Accepted f copy → Accepted g copy
same-seats f g t e copy A = record {
  store_taken = t;
  copy_taken = ap (λ (h : History). first_of (copy_size_condition copy ∷ 5 when not (copy_ok copy) ∷ 6 when not (fits_store h (entries_of copy)) ∷ [])) e ∙ A.copy_taken;
}

-- the label is a used block
pub label-used : (N : ℕ) (store : Bytes) (h : History) (used : ℕ) → Stored N store h used → 1 ≤ used
label-used N store h used S =
    let B = holds-blocks N store h S.holds in
    omega (arith, some-front (blocks_of N store) (lays_accepted (blocks_of N store) h B.lays).0, S.uses)

-- ---- stores of one kin: with other tails, or with none

pub record Kin (N : ℕ) (h : History) (used : ℕ) (bare g : Bytes) : Type 0 where
  pub tail : ℕ
  pub tailed : Tailed N g h used tail
  pub same : tailed.bare ≡ bare

module _ (N : ℕ) (h : History) (used : ℕ) (bare g : Bytes) (K : Kin N h used bare g) where
  kin_history : store_history g ≡ h
  kin_history = history-held N g h used K.tail K.tailed

  kin_log : store_log g ≡ log_all (blocks_of N bare)
  kin_log = log-held N g h used K.tail K.tailed ∙ ap (λ (l : Bytes). log_all (blocks_of N l)) K.same

  kin_bare : bare_of g ≡ bare
  kin_bare = bare-held N g h used K.tail K.tailed ∙ K.same

  kin_clear : 2 ≤ N → N ≤ 4_096 → Clear (store_conditions g)
  kin_clear lo hi = clear-held N g h used K.tail K.tailed lo hi

-- ---- clearing, of an accepted store

module _ (store : Bytes) (C : Clear (store_conditions store)) where
  abbrev N : ℕ
  N = block_count store

  abbrev t : ℕ
  t = tail_of store

  abbrev u : ℕ
  u = used_of store

  X : Tailed N store (store_history store) u t
  X = taken_tailed store (none-holds (store_conditions store) C)

  cut_is : (n : ℕ) → clear_cut_call store n ≡ cleared_by none store n
  unfolding clear_cut_call store_refusal
  cut_is n = ap (λ (o : Option ℕ). cleared_by o store n) (clear_first (store_conditions store) [] C)

  -- what n writes leave
  after_is : (n : ℕ) → n ≤ t → clear_after store n ≡ blank_from (u + (t - n)) store
  after_is n g =
      ap (λ (x : Created). x.buffer) (cut_is n)
      ∙ elim (lt_or_ge n t) [
        | inl o ↦
            let e : u + t - n ≡ u + (t - n) = omega arith in
            ap (λ (b : Bool). (cond {A = Created} b (record { says = done; buffer = bare_of store }) (record { says = stopped; buffer = blank_from (u + t - n) store })).buffer) (lt-leb t n o)
            ∙ ap (λ (k : ℕ). blank_from k store) e
        | inr o ↦
            let e : u + (t - n) ≡ u + 0 = omega arith in
            ap (λ (b : Bool). (cond {A = Created} b (record { says = done; buffer = bare_of store }) (record { says = stopped; buffer = blank_from (u + t - n) store })).buffer) (le-leb t n o)
            ∙ bare-blank ∙ ap (λ (k : ℕ). blank_from k store) (sym e)
      ]
    where
      bare-blank : bare_of store ≡ blank_from (u + 0) store
      bare-blank =
          let Y = cleared_kin N store (store_history store) u t X 0 (omega arith) in
          bare-held N store (store_history store) u t X ∙ sym Y.1 ∙ tailed_none N (blank_from (u + 0) store) (store_history store) u Y.0

  order : Writes store (clear_after store) t (clear_place store)
  order = record {
    starts = after_is 0 (omega arith) ∙ (let e : u + (t - 0) ≡ u + t = omega arith in ap (λ (k : ℕ). blank_from k store) e) ∙ blank-all N store (store_history store) u t X;
    each = λ n g.
        let p : ℕ = u + t - suc n in
        let a : clear_after store (suc n) ≡ blank_from p store = after_is (suc n) (omega arith) ∙ (let e : u + (t - suc n) ≡ p = omega arith in ap (λ (k : ℕ). blank_from k store) e) in
        let b : clear_after store n ≡ blank_from (suc p) store = after_is n (omega arith) ∙ (let e : u + (t - n) ≡ suc p = omega arith in ap (λ (k : ℕ). blank_from k store) e) in
        a ∙ blank_step p store (omega (arith, length-store N store (store_history store) u t X, X.room)) ∙ sym (ap₂ (λ (x y : Bytes). with_block x p (block_at y p)) b a);
    past = λ n g. omega arith;
    inside = λ n g. omega (arith, X.room);
    label = label-used N X.bare (store_history store) u X.stored;
  }

  stops : (n : ℕ) → n < t → (clear_cut_call store n).says ≡ stopped
  stops n g =
      ap (λ (x : Created). x.says) (cut_is n)
      ∙ ap (λ (b : Bool). (cond {A = Created} b (record { says = done; buffer = bare_of store }) (record { says = stopped; buffer = blank_from (u + t - n) store })).says) (lt-leb t n g)

  pub clear_is : clear_call store ≡ record { says = done; buffer = bare_of store }
  unfolding clear_call store_refusal
  clear_is = ap (λ (o : Option ℕ). create_by o store (bare_of store)) (clear_first (store_conditions store) [] C)

  usual : (n : ℕ) → t ≤ n → clear_cut_call store n ≡ clear_call store
  usual n g =
      cut_is n
      ∙ ap (λ (b : Bool). cond {A = Created} b (record { says = done; buffer = bare_of store }) (record { says = stopped; buffer = blank_from (u + t - n) store })) (le-leb t n g)
      ∙ sym clear_is

  -- found after a torn clearing: a store of one kin
  torn_kin : (g : Bytes) → FoundClearing store g → Kin N (store_history store) u (bare_of store) g
  torn_kin g F =
      let n = F.0 in
      let l : n < t = F.1 in
      elim F.2 [
        | inl e ↦ cleared (t - n) (omega arith) (e ∙ after_is n (omega arith))
        | inr s ↦ elim s [
          | inl e ↦ cleared (t - suc n) (omega arith) (e ∙ after_is (suc n) (omega arith))
          | inr j ↦
              let m : ℕ = t - suc n in
              let p : u + t - suc n ≡ u + m = omega arith in
              let q : u + (t - n) ≡ u + suc m = omega arith in
              let Y = junk_kin N store (store_history store) u t X m (omega arith) j.0 j.1 in
              let e : g ≡ with_block (blank_from (u + suc m) store) (u + m) j.0 = j.2 ∙ ap₂ (λ (x : Bytes) (k : ℕ). with_block x k j.0) (after_is n (omega arith) ∙ ap (λ (k : ℕ). blank_from k store) q) p in
              subst (Kin N (store_history store) u (bare_of store)) (sym e)
              (record { tail = suc m; tailed = Y.0; same = Y.1 ∙ sym (bare-held N store (store_history store) u t X) })
        ]
      ]
    where
      cleared : (m : ℕ) → m ≤ t → {g : Bytes} → g ≡ blank_from (u + m) store → Kin N (store_history store) u (bare_of store) g
      cleared m o {g} e =
          let Y = cleared_kin N store (store_history store) u t X m o in
          subst (Kin N (store_history store) u (bare_of store)) (sym e) (record { tail = m; tailed = Y.0; same = Y.1 ∙ sym (bare-held N store (store_history store) u t X) })

  few-tail : t ≤ 33
  few-tail = omega (arith, X.size, X.tail.few, X.tail.one)

  self : Restored store store
  self = record {
    accepted = none-holds (store_conditions store) C;
    history = refl;
    log = refl;
    clears = clear_is;
    bare = subst (λ (l : Bytes). Tailed N l (store_history store) u 0) (sym (bare-held N store (store_history store) u t X)) (stored_tailed N X.bare (store_history store) u X.stored);
    seats = λ copy A. A;
  }

-- any number of them
pub restored : (k : ℕ) (f g : Bytes) → Clear (store_conditions f) → Clearings k f g → Restored f g
restored zero f g C e = subst (Restored f) (sym e) (self f C)
restored (suc k) f g C s =
    let mid = s.0 in
    let N = block_count f in
    let h = store_history f in
    let u = used_of f in
    let K = torn_kin f C mid s.1 in
    let o = sized_so f C.0 in
    let R = restored k mid g (kin_clear N h u (bare_of f) mid K o.1 o.2) s.2 in
    let b : bare_of mid ≡ bare_of f = kin_bare N h u (bare_of f) mid K in
    let hm : store_history mid ≡ h = kin_history N h u (bare_of f) mid K in
    record {
      accepted = R.accepted;
      history = R.history ∙ hm;
      log = R.log ∙ kin_log N h u (bare_of f) mid K;
      clears = R.clears ∙ (λ i. record { says = done; buffer = b i });
      bare = (self f C).bare;
      seats = λ copy A. same-seats f g R.accepted (R.history ∙ hm) copy A;
    }

-- where clearing is refused, it is whatever n is
pub keeps : (store : Bytes) (n r : ℕ) → (clear_call store).says ≡ refused r → clear_cut_call store n ≡ record { says = refused r; buffer = store }
unfolding clear_call clear_cut_call store_refusal
keeps store n r e = go (store_refusal store Clears) e
  where
    go : (o : Option ℕ) → (create_by o store (bare_of store)).says ≡ refused r → cleared_by o store n ≡ record { says = refused r; buffer = store }
    go (some m) e = ap (λ (a : Answer). record { says = a; buffer = store }) e
    go none e = let z : ◌≡◌ {A = ℕ} 0 1 = cc in absurd (omega arith)

-- 33 writes are enough to clear a tail
pub whole-clear : (store : Bytes) → clear_cut_call store 33 ≡ clear_call store
unfolding clear_call clear_cut_call store_refusal
whole-clear store = go (store_refusal store Clears) refl
  where
    go : (o : Option ℕ) → store_refusal store Clears ≡ o → clear_cut_call store 33 ≡ clear_call store
    go (some r) e = ap (λ (o : Option ℕ). cleared_by o store 33) e ∙ sym (ap (λ (o : Option ℕ). create_by o store (bare_of store)) e)
    go none e = let C = (clear_split (store_conditions store) [] (clear (store_conditions store ++ []) e)).0 in usual store C 33 (few-tail store C)

pub cut_clearing : (store : Bytes) → Clear (store_conditions store) → CutClearing store
cut_clearing store C = record { order = order store C; stops = stops store C; usual = usual store C; found = λ k g s. restored k store g C s }
