-- Blocks that are lent and written, over plain variables: an entry's block from its head and its bytes, and bytes copied from one block to another.
-- Assumes nothing.
use Prim.Native.Nat.{◌*◌, ◌+◌, ◌-◌, ◌≤◌, suc, zero, ℕ}
use mathlib.Core.List.{List, [], ◌++◌, ◌∷◌, append_assoc}
use mathlib.Core.Path.{◌∙◌, ◌≡◌, ap, ap₂, refl, subst, sym}
use native.Mathlib.Nat.{suc-add, zero-add}
use native.Mathlib.Omega.{arith}
use borrow.Rule.Slice.PartMut.{put_mid}
use lib.ListN.{drop, length, length-drop, replicate, set, take}
use lib.Seq.{drop_at, drop-drop, drop-paste, length-take-le, paste, take-append-add, take-append-le, take_at, take-nil, take-take}
use Rattle.block.proofs.Writing.{length-written, written_mid}
use Rattle.block.specs.Buffer.{block_at, with_block}
use Rattle.block.specs.Check.{seal_of}
use Rattle.block.specs.Write.{written}
use Rattle.model.specs.Codec.{encode}
use Rattle.model.specs.Types.{entry_as, entry_of}
use Rattle.model.specs.WorkCopy.{FitsCopyBlock, copy_bytes, copy_fields, entries_of, entry_block, seat_of}
use Rattle.model.specs.declared.Entry.{Entry}
use Rattle.model.specs.declared.State.{State}
use Rattle.model.specs.declared.State.TheVariants.{Added, Copied, Deleted, Empty, Normal}
use Rattle.laws.proofs.Parts.{finish_is}
use Rattle.workcopy.proofs.Entries.{put_is}
use Rattle.workcopy.specs.Copy.{Carries, CopyOk, Fit, PutOk, Small, bytes_in, head_of}

-- ---- a part that is lent, from its two ends

pub lent_length : (l : List ℕ) (at k : ℕ) → k ≡ 512 → at + 512 ≤ length l → length (take k (drop at l)) ≡ 512
lent_length l at k e h = rw e (length-take-le 512 (drop at l) (simp length-drop (omega arith)))

pub lent : {A : Type 0} (f : List ℕ → A) (l : List ℕ) (at k : ℕ) → k ≡ 512 → f (take k (drop at l)) ≡ f (take 512 (drop at l))
lent f l at k e = ap (λ (n : ℕ). f (take n (drop at l))) e

mid_is : (l : List ℕ) (j k : ℕ) {y z : List ℕ} → k ≡ 512 → y ≡ z → put_mid (512 * j) k l y ≡ with_block l j z
mid_is l j k {y} {z} e p = rw (e, p, drop-drop 512 (512 * j) l)

-- ---- an entry within the limits

head_length : (s : State) (n : ℕ) → length (head_of s n) ≡ 16
head_length Empty n = refl
head_length (Normal b) n = refl
head_length Added n = refl
head_length (Deleted b) n = refl
head_length (Copied s) n = refl

no_bytes : (b : List ℕ) → length b ≡ 0 → b ≡ []
no_bytes [] e = refl
no_bytes (x ∷ b) e = absurd (omega arith)

-- the named bytes of an entry's block
fields_head : (s : State) (b : List ℕ) → Carries s (length b) → copy_fields (entry_block (entry_as s b)) ≡ head_of s (length b) ++ b
fields_head Empty b h = sym (ap (λ (x : List ℕ). head_of Empty (length x) ++ x) (no_bytes b h))
fields_head (Normal r) b h = refl
fields_head Added b h = refl
fields_head (Deleted r) b h = sym (ap (λ (x : List ℕ). head_of (Deleted r) (length x) ++ x) (no_bytes b h))
fields_head (Copied s) b h = refl

small_of_lem : (s : State) (b : List ℕ) → Carries s (length b) → FitsCopyBlock (entry_block (entry_as s b)) → Small s (length b)
small_of_lem Empty b h f = omega arith
small_of_lem (Normal r) b h f = (f.1.0, f.0.1)
small_of_lem Added b h f = f.0
small_of_lem (Deleted r) b h f = (omega arith, f.1)
small_of_lem (Copied s) b h f = (f.2.0, omega (arith, f.0), f.1.1)

small_len : (s : State) (n : ℕ) → Small s n → n ≤ 480
small_len Empty n h = h
small_len (Normal r) n h = h.0
small_len Added n h = h
small_len (Deleted r) n h = h.0
small_len (Copied s) n h = h.0

module _ (e : Entry) (b : List ℕ) (f : Fit e b) where
  carried : Carries e.state (length b)
  carried = subst (Carries e.state) (sym f.whole) f.carries

  pub fit_small : Small e.state e.len
  fit_small = subst (Small e.state) f.whole (small_of_lem e.state b carried f.fits)

  pub fit-short : e.len ≤ 480
  fit-short = small_len e.state e.len fit_small

  fit_fields : copy_fields (entry_block (entry_of e b)) ≡ head_of e.state e.len ++ b
  fit_fields = fields_head e.state b carried ∙ ap (λ (n : ℕ). head_of e.state n ++ b) f.whole

-- the head over the first 16 bytes, zeros after the entry's bytes, and the check
pub set_is : (e : Entry) (s h : List ℕ) {t u v : List ℕ} → length s ≡ 512 → Fit e (bytes_in e s) → h ≡ head_of e.state e.len → t ≡ written 0 h s
    → u ≡ written (16 + e.len) (replicate (508 - (16 + e.len)) 0) t → v ≡ seal_of u → v ≡ encode copy_fields (entry_block (entry_of e (bytes_in e s)))
set_is e s h {t} {u} {v} es f eh et eu ev =
    let n = e.len in
    let short = fit-short e (bytes_in e s) f in
    let lh : length h ≡ 16 = ap length eh ∙ head_length e.state n in
    let z : 0 + length h ≡ 16 = omega arith in
    let p : t ≡ h ++ drop 16 s = et ∙ written_mid 0 h s (omega arith) ∙ ap (λ (k : ℕ). h ++ drop k s) z in
    let q : take (16 + n) t ≡ h ++ bytes_in e s = ap (take (16 + n)) p ∙ (rw lh at (take-append-add h (drop 16 s) n)) in
    let w : copy_fields (entry_block (entry_of e (bytes_in e s))) ≡ take (16 + n) t =
    fit_fields e (bytes_in e s) f ∙ ap (λ (x : List ℕ). x ++ bytes_in e s) (sym eh) ∙ sym q in
    finish_is copy_fields (entry_block (entry_of e (bytes_in e s))) t (16 + n) (ap length et ∙ length-written 0 h s ∙ es) (omega arith) w eu ev

-- the bytes from 16 on, before that
module _ (e : Entry) (s b : List ℕ) {t : List ℕ} (es : length s ≡ 512) (f : Fit e b) (et : t ≡ written 16 b s) where
  there : bytes_in e t ≡ b
  there =
      let short = fit-short e b f in
      let w = f.whole in
      let r = drop (16 + length b) s in
      let p : t ≡ take 16 s ++ (b ++ r) = et ∙ written_mid 16 b s (omega arith) in
      ap (λ (x : List ℕ). take e.len (drop 16 x)) p
      ∙ ap (take e.len) (drop_at (take 16 s) (b ++ r) 16 (length-take-le 16 s (omega arith)))
      ∙ take_at b r e.len w

  pub put-fits : (length t ≡ 512) × Fit e (bytes_in e t)
  put-fits = (ap length et ∙ length-written 16 b s ∙ es, subst (Fit e) (sym there) f)

  pub put-block_is : {u : List ℕ} → u ≡ encode copy_fields (entry_block (entry_of e (bytes_in e t))) → u ≡ encode copy_fields (entry_block (entry_of e b))
  put-block_is eu = eu ∙ ap (λ (x : List ℕ). encode copy_fields (entry_block (entry_of e x))) there

-- and put back into the copy
pub put_back : (l : List ℕ) (i k : ℕ) (e : Entry) (b : List ℕ) {y : List ℕ} → PutOk l i e b → k ≡ 512 → y ≡ encode copy_fields (entry_block (entry_of e b))
    → put_mid (512 * (i + 1)) k l y ≡ copy_bytes (seat_of l) (set (entries_of l) i (entry_of e b))
put_back l i k e b p ek ey = mid_is l (i + 1) k ek ey ∙ put_is l p.copy i p.inside (entry_of e b)

-- ---- bytes copied within one buffer

drop-take : (k m : ℕ) (l : List ℕ) → drop k (take (k + m) l) ≡ take m (drop k l)
drop-take zero m l = rw (zero-add m)
drop-take (suc k) m [] = rw (suc-add k m) (sym (take-nil m))
drop-take (suc k) m (x ∷ l) = rw (suc-add k m) (drop-take k m l)

-- the bytes of a block from 16 on, as a part of the whole buffer
pub body_at : (l : List ℕ) (at n : ℕ) → n ≤ 480 → take n (drop 16 (take 512 (drop at l))) ≡ take n (drop (at + 16) l)
body_at l at n h = ap (take n) (drop-take 16 496 (drop at l)) ∙ take-take n 496 (drop 16 (drop at l)) (omega arith) ∙ ap (take n) (drop-drop 16 at l)

module _ (l s : List ℕ) (at n : ℕ) {t : List ℕ} (h : n ≤ 480) (room : at + 512 ≤ length l) (ls : n ≤ length s) (et : t ≡ paste l (at + 16) s n) where
  lb : length (take (at + 16) l) ≡ at + 16
  lb = length-take-le (at + 16) l (omega arith)

  apart : t ≡ take (at + 16) l ++ (take n s ++ drop (at + 16 + n) l)
  apart = et ∙ append_assoc (take (at + 16) l) (take n s) (drop (at + 16 + n) l)

  before : take at t ≡ take at l
  before =
      ap (take at) apart
      ∙ take-append-le at (take (at + 16) l) (take n s ++ drop (at + 16 + n) l) (omega (arith, lb))
      ∙ take-take at (at + 16) l (omega arith)

  after : drop (at + 512) t ≡ drop (at + 512) l
  after =
      let e : at + 16 + n + (496 - n) ≡ at + 512 = omega arith in
      let p : drop (at + 16 + n) t ≡ drop (at + 16 + n) l = ap (drop (at + 16 + n)) et ∙ drop-paste l (at + 16) s n (omega arith) ls in
      rw e at (sym (drop-drop (496 - n) (at + 16 + n) t) ∙ ap (drop (496 - n)) p ∙ drop-drop (496 - n) (at + 16 + n) l)

  -- the block's bytes are those that were put
  pasted_body : take n (drop 16 (take 512 (drop at t))) ≡ take n s
  pasted_body =
      body_at t at n h ∙ ap (λ (x : List ℕ). take n (drop (at + 16) x)) apart
      ∙ ap (take n) (drop_at (take (at + 16) l) (take n s ++ drop (at + 16 + n) l) (at + 16) lb)
      ∙ take_at (take n s) (drop (at + 16 + n) l) n (length-take-le n s ls)

-- an entry with the bytes of another sheet
module _ (l : List ℕ) (from to : ℕ) (e : Entry) (p : CopyOk l from to e) where
  short : e.len ≤ 480
  short = fit-short e (bytes_in e (block_at l (from + 1))) p.put.fit

  module _ {t : List ℕ} (et : t ≡ paste l (512 * (to + 1) + 16) (drop (512 * (from + 1) + 16) l) e.len) (k : ℕ) (ek : k ≡ 512) where
    room : 512 * (to + 1) + 512 ≤ length l
    room = omega (arith, p.put.inside, p.put.copy.size)

    enough : e.len ≤ length (drop (512 * (from + 1) + 16) l)
    enough = simp length-drop (omega (arith, short, p.inside, p.put.copy.size))

    same_bytes : bytes_in e (take k (drop (512 * (to + 1)) t)) ≡ bytes_in e (block_at l (from + 1))
    same_bytes =
        lent (bytes_in e) t (512 * (to + 1)) k ek
        ∙ pasted_body l (drop (512 * (from + 1) + 16) l) (512 * (to + 1)) e.len short room enough et
        ∙ sym (body_at l (512 * (from + 1)) e.len short)

    pub copy-fits : length t ≡ length l → (length (take k (drop (512 * (to + 1)) t)) ≡ 512) × Fit e (bytes_in e (take k (drop (512 * (to + 1)) t)))
    copy-fits n = (lent_length t (512 * (to + 1)) k ek (omega (arith, room)), subst (Fit e) (sym same_bytes) p.put.fit)

    pub copy_is : {y : List ℕ} → y ≡ encode copy_fields (entry_block (entry_of e (bytes_in e (take k (drop (512 * (to + 1)) t)))))
        → put_mid (512 * (to + 1)) k t y ≡ copy_bytes (seat_of l) (set (entries_of l) to (entry_of e (bytes_in e (block_at l (from + 1)))))
    copy_is {y} ey =
        let s = drop (512 * (from + 1) + 16) l in
        let E = encode copy_fields (entry_block (entry_of e (bytes_in e (block_at l (from + 1))))) in
        mid_is t (to + 1) k ek (ey ∙ ap (λ (x : List ℕ). encode copy_fields (entry_block (entry_of e x))) same_bytes)
        ∙ ap₂ (λ (x z : List ℕ). x ++ (E ++ z)) (before l s (512 * (to + 1)) e.len short room enough et) (after l s (512 * (to + 1)) e.len short room enough et)
        ∙ put_is l p.put.copy to p.put.inside (entry_of e (bytes_in e (block_at l (from + 1))))
