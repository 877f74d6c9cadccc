-- The shape of a block, as the code looks at it: it compares fields and zeros, and does not build the bytes that a block should have.
-- Assumes nothing.
use Prim.Native.Nat.{◌%◌, ◌*◌, ◌+◌, ◌-◌, ◌/◌, ◌<◌, ◌≤◌, suc, zero, ℕ}
use mathlib.Core.Bool.{Bool, ◌&&◌, false, true}
use mathlib.Core.List.{List, [], ◌∷◌, head-eq_of_cons-eq, tail-eq_of_cons-eq}
use mathlib.Core.Path.{◌∙◌, ◌≡◌, ap, refl, subst, sym}
use native.Mathlib.Omega.{arith}
use borrow.Author.Tests.{ne_eqb}
use lib.Dec.{T, eqb, leb}
use lib.ListN.{drop, get_or, length, length-drop, length-take, take}
use lib.Seq.{drop-cons, get_or-drop, length-take-le}
use Rattle.block.proofs.Parts.{first_sixteen}
use Rattle.block.proofs.Says.{Says, says_alike, says-and, says_and3, says_and4, says_eq, says-le, says_same, true_and}
use Rattle.block.specs.Check.{is_zero}
use Rattle.block.specs.Field.{two_at}
use Rattle.block.specs.Lists.{All}
use Rattle.model.specs.Codec.{pad_to, padded, shaped}
use Rattle.model.specs.Entry.{copied}
use Rattle.model.specs.WorkCopy.{CopyBlock, FitsCopyBlock, body_at, copy_fields, entry_block, entry_bytes, entry_fields, parse_copy_block, parse_entry, seat_block}
use Rattle.laws.proofs.All.{all_drop, all_take}
use Rattle.laws.proofs.EntryCodes.{copy_coded}
use Rattle.workcopy.specs.Shape.{fields_ok, shaped_block}

-- what the scan of an entry's block looks at
record EntryScan (l : List ℕ) : Type 0 where
  size : two_at l 2 ≤ 480
  seven : get_or l 7 0 ≡ 0
  gap : (i : ℕ) → 10 ≤ i → i < 16 → get_or l i 0 ≡ 0
  rest : (i : ℕ) → 16 + two_at l 2 ≤ i → i < 508 → get_or l i 0 ≡ 0
  fields : T (fields_ok (get_or l 1 0) (two_at l 2) (two_at l 4) (get_or l 6 0) (two_at l 8))

record SeatScan (l : List ℕ) : Type 0 where
  low : 1 ≤ get_or l 1 0
  high : get_or l 1 0 ≤ 4
  rest : (i : ℕ) → 2 ≤ i → i < 508 → get_or l i 0 ≡ 0

-- every element of a list is a byte
pub all-bytes : (b : List ℕ) → ((i : ℕ) → get_or b i 0 < 256) → All (λ (x : ℕ). x < 256) b
all-bytes [] f = tt
all-bytes (x ∷ b) f = (f 0, all-bytes b (λ i. f (suc i)))

-- zeros at the places from n to k
abbrev Zero : ℕ → ℕ → List ℕ → Type 0
Zero n k t = (i : ℕ) → n ≤ i → i < k → get_or t i 0 ≡ 0

tail_so : (k n : ℕ) (t : List ℕ) → k ≤ length t → pad_to k (take n t) ≡ take k t → Zero n k t
tail_so zero n t h e i a b = absurd (omega arith)
tail_so (suc k) n [] h e i a b = refl
tail_so (suc k) zero (x ∷ t) h e zero a b = sym (head-eq_of_cons-eq e)
tail_so (suc k) zero (x ∷ t) h e (suc i) a b = tail_so k zero t (omega arith) (tail-eq_of_cons-eq e) i (omega arith) (omega arith)
tail_so (suc k) (suc n) (x ∷ t) h e zero a b = absurd (omega arith)
tail_so (suc k) (suc n) (x ∷ t) h e (suc i) a b = tail_so k n t (omega arith) (tail-eq_of_cons-eq e) i (omega arith) (omega arith)

so_tail : (k n : ℕ) (t : List ℕ) → k ≤ length t → Zero n k t → pad_to k (take n t) ≡ take k t
so_tail zero n t h z = refl
so_tail (suc k) n [] h z = absurd (omega arith)
so_tail (suc k) zero (x ∷ t) h z = cc (z 0 (omega arith) (omega arith), so_tail k zero t (omega arith) (λ i a b. z (suc i) (omega arith) (omega arith)))
so_tail (suc k) (suc n) (x ∷ t) h z = cc (so_tail k n t (omega arith) (λ i a b. z (suc i) (omega arith) (omega arith)))

-- which of the five states a code is
data Code : ℕ → Type 0 where
  c0 : Code 0
  c1 : Code 1
  c2 : Code 2
  c3 : Code 3
  c4 : Code 4
  other : {c : ℕ} → 5 ≤ c → Code c

code : (c : ℕ) → Code c
code zero = c0
code (suc zero) = c1
code (suc (suc zero)) = c2
code (suc (suc (suc zero))) = c3
code (suc (suc (suc (suc zero)))) = c4
code (suc (suc (suc (suc (suc m))))) = other {c = suc (suc (suc (suc (suc m))))} (omega arith)

far_entry : (c : ℕ) (l : List ℕ) → 5 ≤ c → parse_entry c l ≡ copied (get_or l 6 0) (two_at l 8) (body_at l)
far_entry c l h =
    rw (ne_eqb c 0 (λ e. omega arith), ne_eqb c 1 (λ e. omega arith), ne_eqb c 2 (λ e. omega arith), ne_eqb c 3 (λ e. omega arith))

far_fields : (c n b s r : ℕ) → 5 ≤ c → fields_ok c n b s r ≡ false
far_fields c n b s r h =
    rw (ne_eqb c 0 (λ e. omega arith), ne_eqb c 1 (λ e. omega arith), ne_eqb c 2 (λ e. omega arith), ne_eqb c 3 (λ e. omega arith), ne_eqb c 4 (λ e. omega arith))

-- the bytes l agree with the fields of an entry
record Alike (l : List ℕ) (c base source revision : ℕ) (b : List ℕ) : Type 0 where
  same_code : c ≡ get_or l 1 0
  same_length : length b ≡ two_at l 2
  same_base : base ≡ two_at l 4
  same_source : source ≡ get_or l 6 0
  same_seven : get_or l 7 0 ≡ 0
  same-revision : revision ≡ two_at l 8
  same_gap : Zero 10 16 l
  same_body : pad_to 492 b ≡ take 492 (drop 16 l)

six : (l : List ℕ) → get_or l 10 0 ≡ 0 → get_or l 11 0 ≡ 0 → get_or l 12 0 ≡ 0 → get_or l 13 0 ≡ 0 → get_or l 14 0 ≡ 0 → get_or l 15 0 ≡ 0 → Zero 10 16 l
six l e₀ e₁ e₂ e₃ e₄ e₅ i a b =
    let j : (k : ℕ) × (10 + k ≡ i) × (k < 6) = (i - 10, omega arith, omega arith) in
    subst (λ (x : ℕ). get_or l x 0 ≡ 0) j.1 (go j.0 j.2)
  where
    go : (k : ℕ) → k < 6 → get_or l (10 + k) 0 ≡ 0
    go zero h = e₀
    go (suc zero) h = e₁
    go (suc (suc zero)) h = e₂
    go (suc (suc (suc zero))) h = e₃
    go (suc (suc (suc (suc zero)))) h = e₄
    go (suc (suc (suc (suc (suc zero))))) h = e₅
    go (suc (suc (suc (suc (suc (suc m)))))) h = absurd (omega arith)

-- what a block would be, by its first byte
pub parse_entry_lem : (p : List ℕ) → get_or p 0 0 ≡ 5 → parse_copy_block p ≡ entry_block (parse_entry (get_or p 1 0) p)
unfolding parse_copy_block
parse_entry_lem p e = rw e

pub parse-seat : (p : List ℕ) → get_or p 0 0 ≡ 4 → parse_copy_block p ≡ seat_block (get_or p 1 0)
unfolding parse_copy_block
parse-seat p e = rw e

module _ (l : List ℕ) (size : length l ≡ 512) (bytes : (i : ℕ) → get_or l i 0 < 256) where
  split : take 508 l ≡ get_or l 0 0 ∷ get_or l 1 0 ∷ get_or l 2 0 ∷ get_or l 3 0 ∷ get_or l 4 0 ∷ get_or l 5 0 ∷ get_or l 6 0 ∷ get_or l 7 0
      ∷ get_or l 8 0 ∷ get_or l 9 0 ∷ get_or l 10 0 ∷ get_or l 11 0 ∷ get_or l 12 0 ∷ get_or l 13 0 ∷ get_or l 14 0 ∷ get_or l 15 0 ∷ take 492 (drop 16 l)
  split = ap (take 508) (first_sixteen l (omega arith))

  same_so : (c base source revision : ℕ) (b : List ℕ) → padded (entry_bytes c base source revision b) ≡ take 508 l → Alike l c base source revision b
  unfolding padded
  same_so c base source revision b h =
      let e : 5 ∷ c ∷ length b % 256 ∷ length b / 256 ∷ base % 256 ∷ base / 256 ∷ source ∷ 0 ∷ revision % 256 ∷ revision / 256
      ∷ 0 ∷ 0 ∷ 0 ∷ 0 ∷ 0 ∷ 0 ∷ pad_to 492 b
      ≡ get_or l 0 0 ∷ get_or l 1 0 ∷ get_or l 2 0 ∷ get_or l 3 0 ∷ get_or l 4 0 ∷ get_or l 5 0 ∷ get_or l 6 0 ∷ get_or l 7 0
      ∷ get_or l 8 0 ∷ get_or l 9 0 ∷ get_or l 10 0 ∷ get_or l 11 0 ∷ get_or l 12 0 ∷ get_or l 13 0 ∷ get_or l 14 0 ∷ get_or l 15 0 ∷ take 492 (drop 16 l) = h ∙ split in
      let g : (i : ℕ) → get_or (5 ∷ c ∷ length b % 256 ∷ length b / 256 ∷ base % 256 ∷ base / 256 ∷ source ∷ 0 ∷ revision % 256 ∷ revision / 256
      ∷ 0 ∷ 0 ∷ 0 ∷ 0 ∷ 0 ∷ 0 ∷ pad_to 492 b) i 0
      ≡ get_or (get_or l 0 0 ∷ get_or l 1 0 ∷ get_or l 2 0 ∷ get_or l 3 0 ∷ get_or l 4 0 ∷ get_or l 5 0 ∷ get_or l 6 0 ∷ get_or l 7 0
      ∷ get_or l 8 0 ∷ get_or l 9 0 ∷ get_or l 10 0 ∷ get_or l 11 0 ∷ get_or l 12 0 ∷ get_or l 13 0 ∷ get_or l 14 0 ∷ get_or l 15 0 ∷ take 492 (drop 16 l)) i 0 = λ i. ap (λ (x : List ℕ). get_or x i 0) e in
      let e₂ : length b % 256 ≡ get_or l 2 0 = g 2 in
      let e₃ : length b / 256 ≡ get_or l 3 0 = g 3 in
      let e₄ : base % 256 ≡ get_or l 4 0 = g 4 in
      let e₅ : base / 256 ≡ get_or l 5 0 = g 5 in
      let e₈ : revision % 256 ≡ get_or l 8 0 = g 8 in
      let e₉ : revision / 256 ≡ get_or l 9 0 = g 9 in
      record {
        same_code = g 1;
        same_length = omega arith;
        same_base = omega arith;
        same_source = g 6;
        same_seven = sym (g 7);
        same-revision = omega arith;
        same_gap = six l (sym (g 10)) (sym (g 11)) (sym (g 12)) (sym (g 13)) (sym (g 14)) (sym (g 15));
        same_body = ap (drop 16) e;
      }

  so_same : (c base source revision : ℕ) (b : List ℕ) → get_or l 0 0 ≡ 5 → Alike l c base source revision b → padded (entry_bytes c base source revision b) ≡ take 508 l
  unfolding padded
  so_same c base source revision b kind s =
      let g = s.same_gap in
      let e₂ : length b % 256 ≡ get_or l 2 0 = omega (arith, bytes 2, bytes 3, s.same_length) in
      let e₃ : length b / 256 ≡ get_or l 3 0 = omega (arith, bytes 2, bytes 3, s.same_length) in
      let e₄ : base % 256 ≡ get_or l 4 0 = omega (arith, bytes 4, bytes 5, s.same_base) in
      let e₅ : base / 256 ≡ get_or l 5 0 = omega (arith, bytes 4, bytes 5, s.same_base) in
      let e₈ : revision % 256 ≡ get_or l 8 0 = omega (arith, bytes 8, bytes 9, s.same-revision) in
      let e₉ : revision / 256 ≡ get_or l 9 0 = omega (arith, bytes 8, bytes 9, s.same-revision) in
      let e : 5 ∷ c ∷ length b % 256 ∷ length b / 256 ∷ base % 256 ∷ base / 256 ∷ source ∷ 0 ∷ revision % 256 ∷ revision / 256
      ∷ 0 ∷ 0 ∷ 0 ∷ 0 ∷ 0 ∷ 0 ∷ pad_to 492 b
      ≡ get_or l 0 0 ∷ get_or l 1 0 ∷ get_or l 2 0 ∷ get_or l 3 0 ∷ get_or l 4 0 ∷ get_or l 5 0 ∷ get_or l 6 0 ∷ get_or l 7 0
      ∷ get_or l 8 0 ∷ get_or l 9 0 ∷ get_or l 10 0 ∷ get_or l 11 0 ∷ get_or l 12 0 ∷ get_or l 13 0 ∷ get_or l 14 0 ∷ get_or l 15 0 ∷ take 492 (drop 16 l) =
      cc (kind, s.same_code, s.same_source, s.same_seven, s.same_body, g 10 (omega arith) (omega arith), g 11 (omega arith) (omega arith), g 12 (omega arith) (omega arith), g 13 (omega arith) (omega arith), g 14 (omega arith) (omega arith), g 15 (omega arith) (omega arith)) in
      e ∙ sym split

  long : 496 ≡ length (drop 16 l)
  long = simp length-drop (omega arith)

  body_length : two_at l 2 ≤ 480 → length (body_at l) ≡ two_at l 2
  body_length h = length-take-le (two_at l 2) (drop 16 l) (omega (arith, long))

  body_bytes : two_at l 2 ≤ 480 → (length (body_at l) ≤ 480) × All (λ (x : ℕ). x < 256) (body_at l)
  body_bytes h = (
    omega (arith, body_length h),
    all_take (λ (x : ℕ). x < 256) (two_at l 2) (drop 16 l) (all_drop (λ (x : ℕ). x < 256) 16 l (all-bytes l bytes)),
  )

  short_body : length (body_at l) ≤ 480 → two_at l 2 ≤ 480
  short_body h =
      let e = length-take (two_at l 2) (drop 16 l) in
      omega (arith, long)

  -- what the scan finds, from bytes that agree with an entry's fields
  scan_of : (c base s r : ℕ) (b : List ℕ) → Alike l c base s r b → two_at l 2 ≤ 480 → b ≡ body_at l → T (fields_ok c (length b) base s r) → EntryScan l
  scan_of c base s r b a h eb t =
      let z = tail_so 492 (two_at l 2) (drop 16 l) (omega (arith, long)) (ap (pad_to 492) (sym eb) ∙ a.same_body) in
      let e : fields_ok c (length b) base s r ≡ fields_ok (get_or l 1 0) (two_at l 2) (two_at l 4) (get_or l 6 0) (two_at l 8) =
      same_fields a.same_code a.same_length a.same_base a.same_source a.same-revision in
      record {
        size = h;
        seven = a.same_seven;
        gap = a.same_gap;
        rest = λ i p q. let j : (k : ℕ) × (16 + k ≡ i) = (i - 16, omega arith) in
            subst (λ (x : ℕ). get_or l x 0 ≡ 0) j.1 (sym (get_or-drop 16 l j.0 0) ∙ z j.0 (omega (arith, j.1)) (omega (arith, j.1)));
        fields = subst T e t;
      }
    where
      same_fields : {c c' n n' base base' s s' r r' : ℕ} → c ≡ c' → n ≡ n' → base ≡ base' → s ≡ s' → r ≡ r' → fields_ok c n base s r ≡ fields_ok c' n' base' s' r'
      same_fields p q u v w = λ i. fields_ok (p i) (q i) (u i) (v i) (w i)

  alike_of : (c base s r : ℕ) (b : List ℕ) → EntryScan l → c ≡ get_or l 1 0 → base ≡ two_at l 4 → s ≡ get_or l 6 0 → r ≡ two_at l 8 → b ≡ body_at l → Alike l c base s r b
  alike_of c base s r b w ec eb es er eβ =
      record {
        same_code = ec;
        same_length = ap length eβ ∙ body_length w.size;
        same_base = eb;
        same_source = es;
        same_seven = w.seven;
        same-revision = er;
        same_gap = w.gap;
        same_body = ap (pad_to 492) eβ ∙ so_tail 492 (two_at l 2) (drop 16 l) (omega (arith, long)) (λ i p q. get_or-drop 16 l i 0 ∙ w.rest (16 + i) (omega arith) (omega arith));
      }

  no_body : 0 ≡ two_at l 2 → [] ≡ body_at l
  no_body e = ap (λ (n : ℕ). take n (drop 16 l)) e

  to_scan : (c : ℕ) → Code c → c ≡ get_or l 1 0 → FitsCopyBlock (entry_block (parse_entry c l)) → padded (entry_fields (parse_entry c l)) ≡ take 508 l → EntryScan l
  to_scan c c0 e f h = let a = same_so 0 0 0 0 [] h in scan_of 0 0 0 0 [] a (omega (arith, a.same_length)) (no_body a.same_length) tt
  to_scan c c1 e f h =
      let a = same_so 1 (two_at l 4) 0 0 (body_at l) h in
      scan_of 1 (two_at l 4) 0 0 (body_at l) a (short_body f.1.0) refl (true_and (leb 1 (two_at l 4)) true ((says-le 1 (two_at l 4)).so_true f.0.0) tt)
  to_scan c c2 e f h = scan_of 2 0 0 0 (body_at l) (same_so 2 0 0 0 (body_at l) h) (short_body f.0) refl tt
  to_scan c c3 e f h =
      let a = same_so 3 (two_at l 4) 0 0 [] h in
      scan_of 3 (two_at l 4) 0 0 [] a (omega (arith, a.same_length)) (no_body a.same_length) (true_and (leb 1 (two_at l 4)) true ((says-le 1 (two_at l 4)).so_true f.0) tt)
  to_scan c c4 e f h =
      let s = get_or l 6 0 in let v = two_at l 8 in
      scan_of 4 0 s v (body_at l) (same_so 4 0 s v (body_at l) h) (short_body f.2.0) refl
      (true_and (leb s 31) (leb 1 v) ((says-le s 31).so_true f.0) ((says-le 1 v).so_true f.1.0))
  to_scan c (other g) e f h =
      let a = same_so 4 0 (get_or l 6 0) (two_at l 8) (body_at l) (rw (far_entry c l g) at h) in
      absurd (omega (arith, a.same_code))

  from_scan : (c : ℕ) → Code c → c ≡ get_or l 1 0 → get_or l 0 0 ≡ 5 → EntryScan l → FitsCopyBlock (entry_block (parse_entry c l)) × (padded (entry_fields (parse_entry c l)) ≡ take 508 l)
  from_scan c k e kind w = go c k e (subst (λ (x : ℕ). T (fields_ok x (two_at l 2) (two_at l 4) (get_or l 6 0) (two_at l 8))) (sym e) w.fields)
    where
      top : (i : ℕ) → get_or l i 0 + 256 * get_or l (suc i) 0 < 65_536
      top i = omega (arith, bytes i, bytes (suc i))

      go : (c : ℕ) → Code c → c ≡ get_or l 1 0 → T (fields_ok c (two_at l 2) (two_at l 4) (get_or l 6 0) (two_at l 8)) → FitsCopyBlock (entry_block (parse_entry c l)) × (padded (entry_fields (parse_entry c l)) ≡ take 508 l)
      go c c0 e t =
          let n = two_at l 2 in let base = two_at l 4 in let s = get_or l 6 0 in let r = two_at l 8 in
          let p = (says-and (says_eq n 0) (says-and (says_eq base 0) (says-and (says_eq s 0) (says_eq r 0)))).true_so t in
          (tt, so_same 0 0 0 0 [] kind (alike_of 0 0 0 0 [] w e (sym p.1.0) (sym p.1.1.0) (sym p.1.1.1) (no_body (sym p.0))))
      go c c1 e t =
          let n = two_at l 2 in let base = two_at l 4 in let s = get_or l 6 0 in let r = two_at l 8 in
          let p = (says-and (says-le 1 base) (says-and (says_eq s 0) (says_eq r 0))).true_so t in
          (((p.0, top 4), body_bytes w.size), so_same 1 base 0 0 (body_at l) kind (alike_of 1 base 0 0 (body_at l) w e refl (sym p.1.0) (sym p.1.1) refl))
      go c c2 e t =
          let n = two_at l 2 in let base = two_at l 4 in let s = get_or l 6 0 in let r = two_at l 8 in
          let p = (says-and (says_eq base 0) (says-and (says_eq s 0) (says_eq r 0))).true_so t in
          (body_bytes w.size, so_same 2 0 0 0 (body_at l) kind (alike_of 2 0 0 0 (body_at l) w e (sym p.0) (sym p.1.0) (sym p.1.1) refl))
      go c c3 e t =
          let n = two_at l 2 in let base = two_at l 4 in let s = get_or l 6 0 in let r = two_at l 8 in
          let p = (says-and (says_eq n 0) (says-and (says-le 1 base) (says-and (says_eq s 0) (says_eq r 0)))).true_so t in
          ((p.1.0, top 4), so_same 3 base 0 0 [] kind (alike_of 3 base 0 0 [] w e refl (sym p.1.1.0) (sym p.1.1.1) (no_body (sym p.0))))
      go c c4 e t =
          let n = two_at l 2 in let base = two_at l 4 in let s = get_or l 6 0 in let r = two_at l 8 in
          let p = (says-and (says_eq base 0) (says-and (says-le s 31) (says-le 1 r))).true_so t in
          ((p.1.0, (p.1.1, top 8), body_bytes w.size), so_same 4 0 s r (body_at l) kind (alike_of 4 0 s r (body_at l) w e (sym p.0) refl refl refl))
      go c (other g) e t = absurd (subst T (far_fields c (two_at l 2) (two_at l 4) (get_or l 6 0) (two_at l 8) g) t)

  -- the shape, from the block that the bytes would be
  says-shaped : (p : CopyBlock) → parse_copy_block l ≡ p → Says (shaped_block l) (FitsCopyBlock p × (padded (copy_fields p) ≡ take 508 l))
  unfolding shaped
  says-shaped p e = subst (λ (q : CopyBlock). Says (shaped_block l) (FitsCopyBlock q × (padded (copy_fields q) ≡ take 508 l))) e
      (says-and (copy_coded.says (parse_copy_block l)) (says_same (padded (copy_fields (parse_copy_block l))) (take 508 l)))

  -- THE STATEMENT: the scan's tests are the shape of an entry's block
  says-entry : get_or l 0 0 ≡ 5 → Says (shaped_block l) (EntryScan l)
  says-entry kind =
      let w = says-shaped (entry_block (parse_entry (get_or l 1 0) l)) (parse_entry_lem l kind) in
      let k = code (get_or l 1 0) in
      record {
        true_so = λ t. let p = w.true_so t in to_scan (get_or l 1 0) k refl p.0 p.1;
        so_true = λ s. w.so_true (from_scan (get_or l 1 0) k refl kind s);
      }

  first_two : take 508 l ≡ get_or l 0 0 ∷ get_or l 1 0 ∷ take 506 (drop 2 l)
  first_two = ap (take 508) (drop-cons l 0 0 (omega arith) ∙ ap (λ (x : List ℕ). get_or l 0 0 ∷ x) (drop-cons l 1 0 (omega arith)))

  -- and of the seat's
  says-seat : get_or l 0 0 ≡ 4 → Says (shaped_block l) (SeatScan l)
  unfolding padded
  says-seat kind =
      let w = says-shaped (seat_block (get_or l 1 0)) (parse-seat l kind) in
      let d : 506 ≤ length (drop 2 l) = simp length-drop (omega arith) in
      record {
        true_so = λ t.
            let p = w.true_so t in
            let z = tail_so 506 0 (drop 2 l) d (ap (drop 2) (p.1 ∙ first_two)) in
            record {
              low = p.0.0;
              high = p.0.1;
              rest = λ i a b. let j : (k : ℕ) × (2 + k ≡ i) = (i - 2, omega arith) in
                  subst (λ (x : ℕ). get_or l x 0 ≡ 0) j.1 (sym (get_or-drop 2 l j.0 0) ∙ z j.0 (omega arith) (omega (arith, j.1)));
            };
        so_true = λ s.
            let z = so_tail 506 0 (drop 2 l) d (λ i a b. get_or-drop 2 l i 0 ∙ s.rest (2 + i) (omega arith) (omega arith)) in
            w.so_true ((s.low, s.high), ap (λ (x : List ℕ). 4 ∷ get_or l 1 0 ∷ x) z ∙ ap (λ (x : ℕ). x ∷ get_or l 1 0 ∷ take 506 (drop 2 l)) (sym kind) ∙ sym first_two);
      }

-- ---- the answers of the code's tests

-- a part is zero exactly where each of its places is
says-zero : (k : ℕ) (t : List ℕ) → Says (is_zero (take k t)) ((i : ℕ) → i < k → get_or t i 0 ≡ 0)
says-zero zero t = record { true_so = λ u i h. absurd (omega arith); so_true = λ f. tt }
says-zero (suc k) [] = record { true_so = λ u i h. refl; so_true = λ f. tt }
says-zero (suc k) (x ∷ t) =
    let s = says-and (says_eq x 0) (says-zero k t) in
    record {
      true_so = λ u. let p = s.true_so u in λ i h. each p.0 p.1 i h;
      so_true = λ f. s.so_true (f 0 (omega arith), λ i h. f (suc i) (omega arith));
    }
  where
    each : x ≡ 0 → ((i : ℕ) → i < k → get_or t i 0 ≡ 0) → (i : ℕ) → i < suc k → get_or (x ∷ t) i 0 ≡ 0
    each e f zero h = e
    each e f (suc i) h = f i (omega arith)

says_part : (l : List ℕ) (a k : ℕ) → Says (is_zero (take k (drop a l))) (Zero a (a + k) l)
says_part l a k =
    let s = says-zero k (drop a l) in
    record {
      true_so = λ t i h g. let j : (n : ℕ) × (a + n ≡ i) = (i - a, omega arith) in
          subst (λ (x : ℕ). get_or l x 0 ≡ 0) j.1 (sym (get_or-drop a l j.0 0) ∙ s.true_so t j.0 (omega (arith, j.1)));
      so_true = λ z. s.so_true (λ i h. get_or-drop a l i 0 ∙ z (a + i) (omega arith) (omega arith));
    }

itself : (b : Bool) → Says b (T b)
itself b = record { true_so = λ t. t; so_true = λ t. t }

-- the tests of an entry's block, in the code's order
abbrev pub entry_tests : List ℕ → Bool
entry_tests l =
    let n = two_at l 2 in
    leb n 480 && (eqb (get_or l 7 0) 0 && (is_zero (take 6 (drop 10 l)) && (is_zero (take (508 - (16 + n)) (drop (16 + n) l))
    && fields_ok (get_or l 1 0) n (two_at l 4) (get_or l 6 0) (two_at l 8))))

-- and of the seat's
abbrev pub seat_tests : List ℕ → Bool
seat_tests l = leb 1 (get_or l 1 0) && (leb (get_or l 1 0) 4 && is_zero (take 506 (drop 2 l)))

module _ (l : List ℕ) (size : length l ≡ 512) (bytes : (i : ℕ) → get_or l i 0 < 256) where
  pub entry_shape_is : get_or l 0 0 ≡ 5 → shaped_block l ≡ entry_tests l
  entry_shape_is kind =
      let n = two_at l 2 in
      says_alike (says-entry l size bytes kind)
      (says-and (says-le n 480) (says_and4 (says_eq (get_or l 7 0) 0) (says_part l 10 6) (says_part l (16 + n) (508 - (16 + n)))
      (itself (fields_ok (get_or l 1 0) n (two_at l 4) (get_or l 6 0) (two_at l 8)))))
      (λ s. (s.size, (s.seven, λ i h g. s.gap i h (omega arith), λ i h g. s.rest i (omega arith) (omega (arith, s.size)), s.fields)))
      (λ p. record { size = p.0; seven = p.1.0; gap = λ i h g. p.1.1 i h (omega arith); rest = λ i h g. p.1.2 i (omega arith) (omega (arith, p.0)); fields = p.1.3 })

  pub seat_shape_is : get_or l 0 0 ≡ 4 → shaped_block l ≡ seat_tests l
  seat_shape_is kind =
      says_alike (says-seat l size bytes kind) (says_and3 (says-le 1 (get_or l 1 0)) (says-le (get_or l 1 0) 4) (says_part l 2 506))
      (λ s. (s.low, s.high, λ i h g. s.rest i h (omega arith)))
      (λ p. record { low = p.0; high = p.1; rest = λ i h g. p.2 i h (omega arith) })
