-- Four copies side by side: one of them taken out, and put back.
-- Assumes nothing.
use Prim.Native.Nat.{◌*◌, ◌+◌, ◌-◌, ◌<◌, ◌≤◌, suc, zero, ℕ}
use mathlib.Core.List.{List, [], ◌++◌, ◌∷◌, append_assoc}
use mathlib.Core.Path.{◌∙◌, ◌≡◌, ap, refl, sym}
use native.Mathlib.Omega.{arith}
use lib.ListN.{drop, get_or, length, length-append, length-drop, set, take, take-append-drop}
use lib.Seq.{drop-append-add, drop-append-le, drop-drop, length-take-le, take-append-le, take_at}
use Rattle.block.specs.Buffer.{with_block}
use Rattle.model.specs.History.{Bytes}
use Rattle.replay.specs.Desk.{buffers_in, copy_at, with_copy}

-- the part at a of n bytes, with c in its place: that part, one before it and one after it
module _ (l c : List ℕ) (a n : ℕ) (room : a + n ≤ length l) (size : length c ≡ n) where
  abbrev put : List ℕ
  put = take a l ++ (c ++ drop (a + n) l)

  front : length (take a l) ≡ a
  front = length-take-le a l (omega arith)

  -- what stands before its end
  pub upto : take (a + n) put ≡ take a l ++ c
  upto =
      ap (take (a + n)) (sym (append_assoc (take a l) c (drop (a + n) l)))
      ∙ take_at (take a l ++ c) (drop (a + n) l) (a + n) (omega (arith, front, length-append (take a l) c))

  here : take n (drop a put) ≡ c
  here =
      let e : a ≡ length (take a l) + 0 = omega (arith, front) in
      ap (λ (k : ℕ). take n (drop k put)) e ∙ ap (take n) (drop-append-add (take a l) (c ++ drop (a + n) l) 0) ∙ take_at c (drop (a + n) l) n size

  before : (b : ℕ) → b + n ≤ a → take n (drop b put) ≡ take n (drop b l)
  before b h =
      ap (take n) (drop-append-le b (take a l) (c ++ drop (a + n) l) (omega (arith, front)))
      ∙ take-append-le n (drop b (take a l)) (c ++ drop (a + n) l) (omega (arith, front, length-drop b (take a l)))
      ∙ sym (take-append-le n (drop b (take a l)) (drop a l) (omega (arith, front, length-drop b (take a l))))
      ∙ ap (take n) (sym (drop-append-le b (take a l) (drop a l) (omega (arith, front))))
      ∙ ap (λ (x : List ℕ). take n (drop b x)) (take-append-drop a l)

  pub after : (b : ℕ) → a + n ≤ b → drop b put ≡ drop b l
  after b h =
      let e : b ≡ length (take a l) + (b - a) = omega (arith, front) in
      let f : b - a ≡ length c + (b - a - n) = omega arith in
      let g : a + n + (b - a - n) ≡ b = omega arith in
      ap (λ (k : ℕ). drop k put) e ∙ drop-append-add (take a l) (c ++ drop (a + n) l) (b - a)
      ∙ ap (λ (k : ℕ). drop k (c ++ drop (a + n) l)) f ∙ drop-append-add c (drop (a + n) l) (b - a - n)
      ∙ drop-drop (b - a - n) (a + n) l ∙ ap (λ (k : ℕ). drop k l) g

-- a record put among the answers
pub length_with : (l : List ℕ) (i : ℕ) (c : List ℕ) → length c ≡ 512 → 512 * i + 512 ≤ length l → length (with_block l i c) ≡ length l
length_with l i c size room =
    let t : length (take (512 * i) l) ≡ 512 * i = length-take-le (512 * i) l (omega arith) in
    omega (arith, length-append (take (512 * i) l) (c ++ drop (512 * i + 512) l), length-append c (drop (512 * i + 512) l), length-drop (512 * i + 512) l)

module _ (cs c : Bytes) (k : ℕ) (four : length cs ≡ 67_584) (low : k < 4) (size : length c ≡ 16_896) where
  room : 16_896 * k + 16_896 ≤ length cs
  room = omega arith

  pub same_copy : copy_at (with_copy cs k c) k ≡ c
  same_copy = here cs c (16_896 * k) 16_896 room size

  earlier : (j : ℕ) → j < k → copy_at (with_copy cs k c) j ≡ copy_at cs j
  earlier j h = before cs c (16_896 * k) 16_896 room size (16_896 * j) (omega arith)

  later : (j : ℕ) → k < j → copy_at (with_copy cs k c) j ≡ copy_at cs j
  later j h = ap (take 16_896) (after cs c (16_896 * k) 16_896 room size (16_896 * j) (omega arith))

  pub length-copies : length (with_copy cs k c) ≡ 67_584
  length-copies =
      let t : length (take (16_896 * k) cs) ≡ 16_896 * k = length-take-le (16_896 * k) cs (omega arith) in
      omega (arith, length-append (take (16_896 * k) cs) (c ++ drop (16_896 * k + 16_896) cs), length-append c (drop (16_896 * k + 16_896) cs), length-drop (16_896 * k + 16_896) cs)

pub put-copies : (store cs c : Bytes) (k : ℕ) → length cs ≡ 67_584 → k < 4 → length c ≡ 16_896
    → buffers_in store (with_copy cs k c) ≡ record { store = store; copies = set (buffers_in store cs).copies k c }
put-copies store cs c zero n h s =
    let p0 = same_copy cs c 0 n h s in
    let p1 = later cs c 0 n h s 1 (omega arith) in
    let p2 = later cs c 0 n h s 2 (omega arith) in
    let p3 = later cs c 0 n h s 3 (omega arith) in
    λ i. record { store = store; copies = p0 i ∷ p1 i ∷ p2 i ∷ p3 i ∷ [] }
put-copies store cs c (suc zero) n h s =
    let p0 = earlier cs c 1 n h s 0 (omega arith) in
    let p1 = same_copy cs c 1 n h s in
    let p2 = later cs c 1 n h s 2 (omega arith) in
    let p3 = later cs c 1 n h s 3 (omega arith) in
    λ i. record { store = store; copies = p0 i ∷ p1 i ∷ p2 i ∷ p3 i ∷ [] }
put-copies store cs c (suc (suc zero)) n h s =
    let p0 = earlier cs c 2 n h s 0 (omega arith) in
    let p1 = earlier cs c 2 n h s 1 (omega arith) in
    let p2 = same_copy cs c 2 n h s in
    let p3 = later cs c 2 n h s 3 (omega arith) in
    λ i. record { store = store; copies = p0 i ∷ p1 i ∷ p2 i ∷ p3 i ∷ [] }
put-copies store cs c (suc (suc (suc zero))) n h s =
    let p0 = earlier cs c 3 n h s 0 (omega arith) in
    let p1 = earlier cs c 3 n h s 1 (omega arith) in
    let p2 = earlier cs c 3 n h s 2 (omega arith) in
    let p3 = same_copy cs c 3 n h s in
    λ i. record { store = store; copies = p0 i ∷ p1 i ∷ p2 i ∷ p3 i ∷ [] }
put-copies store cs c (suc (suc (suc (suc k)))) n h s = absurd (omega arith)

-- the copy of place k
pub copy_is : (store cs : Bytes) (k : ℕ) → k < 4 → get_or (buffers_in store cs).copies k [] ≡ copy_at cs k
copy_is store cs zero h = refl
copy_is store cs (suc zero) h = refl
copy_is store cs (suc (suc zero)) h = refl
copy_is store cs (suc (suc (suc zero))) h = refl
copy_is store cs (suc (suc (suc (suc k)))) h = absurd (omega arith)

-- as the code puts it back, with m from its two ends
pub put_is : (cs c : Bytes) (k m : ℕ) → m ≡ 16_896 → take (16_896 * k) cs ++ (c ++ drop m (drop (16_896 * k) cs)) ≡ with_copy cs k c
put_is cs c k m e = ap (λ (x : List ℕ). take (16_896 * k) cs ++ (c ++ x)) (ap (λ (n : ℕ). drop n (drop (16_896 * k) cs)) e ∙ drop-drop 16_896 (16_896 * k) cs)
