-- A whole block from the runs of bytes that are written into it; and a block that is lent and comes back.
-- Assumes nothing.
use Prim.Native.Nat.{◌*◌, ◌+◌, ◌-◌, ◌≤◌, suc, zero, ℕ}
use mathlib.Core.List.{List, [], ◌++◌, ◌∷◌, append_assoc}
use mathlib.Core.Path.{◌∙◌, ◌≡◌, ap, refl, sym}
use native.Mathlib.Omega.{arith}
use borrow.Rule.Slice.PartMut.{put_mid}
use lib.ListN.{drop, length, length-append, length-drop, replicate, take}
use lib.Seq.{drop-drop, take_at}
use Rattle.block.proofs.Sealing.{seal_is}
use Rattle.block.proofs.Writing.{written_both, written_mid}
use Rattle.block.specs.Check.{checks_of, seal_of}
use Rattle.block.specs.Write.{written}
use Rattle.model.specs.Blocks.{Block, Line, commit, content, fields_of, lines_of, mark}
use Rattle.model.specs.Codec.{encode, pad_to, padded}
use Rattle.model.specs.Log.{released}
use Rattle.laws.proofs.BlockCodes.{length-lines}
use Rattle.laws.proofs.Codec.{length-encode, length-padded}
use Rattle.writer.specs.Blocks.{head_of}

pad_zeros : (l : List ℕ) (n k : ℕ) → length l + k ≡ n → pad_to n l ≡ l ++ replicate k 0
pad_zeros [] zero k e = let z : k ≡ 0 = omega arith in rw z
pad_zeros [] (suc n) zero e = absurd (omega arith)
pad_zeros [] (suc n) (suc k) e = ap (λ (x : List ℕ). 0 ∷ x) (pad_zeros [] n k (omega arith))
pad_zeros (x ∷ l) zero k e = absurd (omega arith)
pad_zeros (x ∷ l) (suc n) k e = ap (λ (y : List ℕ). x ∷ y) (pad_zeros l n k (omega arith))

-- the fields in two runs, zeros to byte 507, the check
block-filled : (fields head body d d₁ d₂ d₃ d₄ : List ℕ) (n : ℕ) → length d ≡ 512 → fields ≡ head ++ body → length head ≡ 16 → n ≡ 16 + length body → n ≤ 508
    → d₁ ≡ written 0 head d → d₂ ≡ written 16 body d₁ → d₃ ≡ written n (replicate (508 - n) 0) d₂ → d₄ ≡ seal_of d₃
    → d₄ ≡ padded fields ++ checks_of (padded fields)
unfolding padded
block-filled fields head body d d₁ d₂ d₃ d₄ n ld e lh en hn e₁ e₂ e₃ e₄ =
    e₄ ∙ seal_is d₃ (omega (arith, ap length all, length-append p (drop 508 d), lp, length-drop 508 d))
    ∙ ap (λ (x : List ℕ). x ++ checks_of x) (ap (take 508) all ∙ take_at p (drop 508 d) 508 lp)
  where
    p : List ℕ
    p = pad_to 508 fields

    lp : length p ≡ 508
    lp = length-padded fields

    zs : List ℕ
    zs = replicate (508 - n) 0

    split : p ≡ head ++ (body ++ zs)
    split = ap (pad_to 508) e ∙ pad_zeros (head ++ body) 508 (508 - n) (simp length-append (omega arith)) ∙ append_assoc head body zs

    all : d₃ ≡ p ++ drop 508 d
    all =
        e₃ ∙ ap (written n zs) (e₂ ∙ ap (written 16 body) e₁)
        ∙ ap (λ (k : ℕ). written k zs (written 16 body (written 0 head d))) en
        ∙ sym (written_both 16 body zs (written 0 head d))
        ∙ (let z : 16 ≡ 0 + length head = omega (arith, lh) in ap (λ (k : ℕ). written k (body ++ zs) (written 0 head d)) z)
        ∙ sym (written_both 0 head (body ++ zs) d)
        ∙ ap (λ (x : List ℕ). written 0 x d) (sym split)
        ∙ written_mid 0 p d (omega (arith, lp))
        ∙ (let z : 0 + length p ≡ 508 = omega (arith, lp) in ap (λ (k : ℕ). p ++ drop k d) z)

pub content-filled : (r : ℕ) (b d d₁ d₂ d₃ d₄ : List ℕ) → length d ≡ 512 → length b ≤ 480
    → d₁ ≡ written 0 (head_of 2 (length b) r 0 0) d → d₂ ≡ written 16 b d₁ → d₃ ≡ written (16 + length b) (replicate (508 - (16 + length b)) 0) d₂
    → d₄ ≡ seal_of d₃ → d₄ ≡ encode fields_of (content r b)
unfolding encode head_of
content-filled r b d d₁ d₂ d₃ d₄ ld hb e₁ e₂ e₃ e₄ =
    block-filled (fields_of (content r b)) (head_of 2 (length b) r 0 0) b d d₁ d₂ d₃ d₄ (16 + length b) ld refl refl refl (omega arith) e₁ e₂ e₃ e₄

pub commit-filled : (r seat stamp m : ℕ) (ls : List Line) (d d₁ d₂ d₃ d₄ : List ℕ) → length d ≡ 512 → length ls ≡ m → m ≤ 32
    → d₁ ≡ written 0 (head_of 3 m r seat stamp) d → d₂ ≡ written 16 (lines_of ls) d₁ → d₃ ≡ written (16 + 8 * m) (replicate (508 - (16 + 8 * m)) 0) d₂
    → d₄ ≡ seal_of d₃ → d₄ ≡ encode fields_of (commit r seat stamp ls)
unfolding encode head_of
commit-filled r seat stamp m ls d d₁ d₂ d₃ d₄ ld lm hm e₁ e₂ e₃ e₄ =
    block-filled (fields_of (commit r seat stamp ls)) (head_of 3 m r seat stamp) (lines_of ls) d d₁ d₂ d₃ d₄ (16 + 8 * m) ld
    (ap (λ (k : ℕ). head_of 3 k r seat stamp ++ lines_of ls) lm) refl (omega (arith, length-lines ls)) (omega arith) e₁ e₂ e₃ e₄

-- the four zeros that its head has more are those of the padding
pub release_filled : (r seat stamp : ℕ) (d d₁ d₂ d₃ : List ℕ) → length d ≡ 512
    → d₁ ≡ written 0 (head_of 6 0 r seat stamp) d → d₂ ≡ written 16 (replicate (508 - 16) 0) d₁ → d₃ ≡ seal_of d₂
    → d₃ ≡ encode fields_of (mark (released r seat stamp))
unfolding encode head_of padded written
release_filled r seat stamp d d₁ d₂ d₃ ld e₁ e₂ e₃ =
    let head = head_of 6 0 r seat stamp in
    let same : padded head ≡ padded (fields_of (mark (released r seat stamp))) = refl in
    block-filled head head [] d d₁ d₁ d₂ d₃ 16 ld refl refl refl (omega arith) e₁ refl e₂ e₃ ∙ ap (λ (x : List ℕ). x ++ checks_of x) same

-- a part that was lent and comes back is a run of stores
pub part_written : (a k : ℕ) (s y : List ℕ) → k ≡ length y → a + length y ≤ length s → put_mid a k s y ≡ written a y s
part_written a k s y e h =
    ap (λ (x : List ℕ). take a s ++ (y ++ x)) (drop-drop k a s ∙ ap (λ (i : ℕ). drop (a + i) s) e) ∙ sym (written_mid a y s h)

pub block_lent : (s d : List ℕ) (block : ℕ) (b : Block) → d ≡ encode fields_of b → 512 * block + 512 ≤ length s
    → put_mid (512 * block) (512 * block + 512 - 512 * block) s d ≡ written (512 * block) (encode fields_of b) s
block_lent s d block b e h =
    let l = length-encode fields_of b in
    let k = 512 * block + 512 - 512 * block in
    ap (put_mid (512 * block) k s) e ∙ part_written (512 * block) k s (encode fields_of b) (omega arith) (omega arith)
