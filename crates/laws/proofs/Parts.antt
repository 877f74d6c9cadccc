-- For code that reads and writes one block at a time: block j of the bytes of a list, another block in its place, and a block from its named bytes.
-- Assumes nothing.
use Prim.Native.Nat.{◌*◌, ◌+◌, ◌-◌, ◌<◌, ◌≤◌, suc, zero, ℕ}
use mathlib.Core.List.{List, [], ◌++◌, ◌∷◌, append_assoc}
use mathlib.Core.Path.{◌∙◌, ◌≡◌, ap, ap₂, refl, sym}
use native.Mathlib.Omega.{arith}
use lib.ListN.{drop, get_or, length, length-append, length-replicate, replicate, set, take}
use lib.Seq.{drop-append-add, drop_at, length-take-le, take-append-add, take_at}
use Rattle.block.proofs.Sealing.{seal_is}
use Rattle.block.proofs.Writing.{length-written, written_mid}
use Rattle.block.specs.Buffer.{block_at, with_block}
use Rattle.block.specs.Check.{checks_of, seal_of}
use Rattle.block.specs.Write.{written}
use Rattle.model.specs.Codec.{encode, joined, pad_to, padded}
use Rattle.laws.proofs.Codec.{length-encode}

-- block p, as it is lent by `&store[p * 512..p * 512 + 512]`
pub lent_block : (l : List ℕ) (p : ℕ) → take (p * 512 + 512 - p * 512) (drop (p * 512) l) ≡ block_at l p
lent_block l p =
    let k : p * 512 + 512 - p * 512 ≡ 512 = omega arith in
    let d : p * 512 ≡ 512 * p = omega arith in
    ap₂ (λ (x y : ℕ). take x (drop y l)) k d

pad_none : (n : ℕ) → pad_to n [] ≡ replicate n 0
pad_none zero = refl
pad_none (suc n) = ap (λ (l : List ℕ). 0 ∷ l) (pad_none n)

pad_is : (n : ℕ) (l : List ℕ) → length l ≤ n → pad_to n l ≡ l ++ replicate (n - length l) 0
pad_is zero [] h = refl
pad_is zero (x ∷ l) h = absurd (omega arith)
pad_is (suc n) [] h = let e : suc n - 0 ≡ suc n = omega arith in rw e (pad_none (suc n))
pad_is (suc n) (x ∷ l) h =
    let e : suc n - suc (length l) ≡ n - length l = omega arith in
    rw e (ap (λ (t : List ℕ). x ∷ t) (pad_is n l (omega arith)))

module _ {A : Type 0} (fields : A → List ℕ) where
  pub joined-append : (us rs : List A) → joined fields (us ++ rs) ≡ joined fields us ++ joined fields rs
  joined-append [] rs = refl
  joined-append (r ∷ us) rs = ap (λ (x : List ℕ). encode fields r ++ x) (joined-append us rs) ∙ sym (append_assoc (encode fields r) (joined fields us) (joined fields rs))

  pub joined_at : (rs : List A) (j : ℕ) (d : A) → j < length rs → block_at (joined fields rs) j ≡ encode fields (get_or rs j d)
  joined_at [] j d h = absurd (omega arith)
  joined_at (r ∷ rs) zero d h = take_at (encode fields r) (joined fields rs) 512 (length-encode fields r)
  joined_at (r ∷ rs) (suc j) d h =
      let e : 512 * suc j ≡ length (encode fields r) + 512 * j = omega (arith, length-encode fields r) in
      rw e (ap (take 512) (drop-append-add (encode fields r) (joined fields rs) (512 * j)) ∙ joined_at rs j d (omega arith))

  pub joined-set : (rs : List A) (j : ℕ) (r : A) → j < length rs → with_block (joined fields rs) j (encode fields r) ≡ joined fields (set rs j r)
  joined-set [] j r h = absurd (omega arith)
  joined-set (q ∷ rs) zero r h = ap (λ (x : List ℕ). encode fields r ++ x) (drop_at (encode fields q) (joined fields rs) 512 (length-encode fields q))
  joined-set (q ∷ rs) (suc j) r h =
      let E = encode fields q in
      let J = joined fields rs in
      let n : length E ≡ 512 = length-encode fields q in
      let a : 512 * suc j ≡ length E + 512 * j = omega arith in
      let b : 512 * suc j + 512 ≡ length E + (512 * j + 512) = omega arith in
      ap₂ (λ (x y : List ℕ). x ++ (encode fields r ++ y))
      (ap (λ (m : ℕ). take m (E ++ J)) a ∙ take-append-add E J (512 * j))
      (ap (λ (m : ℕ). drop m (E ++ J)) b ∙ drop-append-add E J (512 * j + 512))
      ∙ append_assoc E (take (512 * j) J) (encode fields r ++ drop (512 * j + 512) J)
      ∙ ap (λ (x : List ℕ). E ++ x) (joined-set rs j r (omega arith))

  -- the named bytes stand in the first n: zeros after them, and the check
  pub finish_is : (r : A) (s : List ℕ) (n : ℕ) {t u : List ℕ} → length s ≡ 512 → n ≤ 508 → fields r ≡ take n s
      → t ≡ written n (replicate (508 - n) 0) s → u ≡ seal_of t → u ≡ encode fields r
  unfolding encode padded
  finish_is r s n {t} {u} e h f et eu =
      let zs : List ℕ = replicate (508 - n) 0 in
      let lz : length zs ≡ 508 - n = length-replicate (508 - n) 0 in
      let ln : length (take n s) ≡ n = length-take-le n s (omega arith) in
      let m : n + length zs ≡ 508 = omega arith in
      let lt : length t ≡ 512 = ap length et ∙ length-written n zs s ∙ e in
      let w : t ≡ (take n s ++ zs) ++ drop 508 s =
      et ∙ written_mid n zs s (omega arith) ∙ ap (λ (k : ℕ). take n s ++ (zs ++ drop k s)) m ∙ sym (append_assoc (take n s) zs (drop 508 s)) in
      let lf : length (fields r) ≡ n = ap length f ∙ ln in
      let p : pad_to 508 (fields r) ≡ take n s ++ zs =
      pad_is 508 (fields r) (omega arith) ∙ ap₂ (λ (x : List ℕ) (k : ℕ). x ++ replicate (508 - k) 0) f lf in
      let q : take 508 t ≡ pad_to 508 (fields r) =
      ap (take 508) w ∙ take_at (take n s ++ zs) (drop 508 s) 508 (length-append (take n s) zs ∙ omega arith) ∙ sym p in
      eu ∙ seal_is t lt ∙ ap (λ (x : List ℕ). x ++ checks_of x) q
