-- 512 bytes are decoded as a thing exactly where they are its bytes and it fits: one law for every kind of block, and for a buffer of such blocks.
-- Assumes nothing.
use Prim.Native.Nat.{◌%◌, ◌*◌, ◌+◌, ◌/◌, ◌<◌, ◌≤◌, suc, zero, ℕ}
use mathlib.Core.Bool.{Bool, ◌&&◌, cond, false, true}
use mathlib.Core.List.{List, [], ◌++◌, ◌∷◌, append_assoc, map}
use mathlib.Core.Logic.{◌↔◌}
use mathlib.Core.Option.{none, some}
use mathlib.Core.Path.{◌∙◌, ◌≡◌, ap, ap₂, refl, subst, sym}
use native.Mathlib.Omega.{arith}
use lib.Dec.{T}
use lib.ListN.{drop, get_or, length, length-append, length-drop, take, take-append-drop}
use lib.Seq.{drop_at, take_at}
use Rattle.block.proofs.Says.{Says, and_true, says_same, true_and}
use Rattle.block.proofs.Sealing.{length_checks}
use Rattle.block.specs.Check.{checks_of, sealed}
use Rattle.block.specs.Lists.{All, all, same}
use Rattle.model.specs.Codec.{decode, encode, joined, pad_to, padded, parts, shaped}

pub two_back : (n : ℕ) → n % 256 + 256 * (n / 256) ≡ n
two_back n = omega arith

pub four-back : (n : ℕ) → n % 256 + 256 * (n / 256 % 256 + 256 * (n / 256 / 256 % 256 + 256 * (n / 256 / 256 / 256))) ≡ n
four-back n = omega arith

length_pad : (n : ℕ) (l : List ℕ) → length (pad_to n l) ≡ n
length_pad zero l = refl
length_pad (suc n) [] = ap suc (length_pad n [])
length_pad (suc n) (x ∷ l) = ap suc (length_pad n l)

pad_split : (n : ℕ) (l : List ℕ) → length l ≤ n → (z : List ℕ) × (pad_to n l ≡ l ++ z)
pad_split zero [] h = ([], refl)
pad_split zero (x ∷ l) h = absurd (omega arith)
pad_split (suc n) [] h = (0 ∷ pad_to n [], refl)
pad_split (suc n) (x ∷ l) h = let r = pad_split n l (omega arith) in (r.0, ap {B = List ℕ} (λ y. x ∷ y) r.1)

-- a byte of the padded list, for code that goes byte by byte
pub pad_at : (n : ℕ) (l : List ℕ) (i : ℕ) → i < n → get_or (pad_to n l) i 0 ≡ get_or l i 0
pad_at zero l i h = absurd (omega arith)
pad_at (suc n) [] zero h = refl
pad_at (suc n) [] (suc i) h = pad_at n [] i (omega arith)
pad_at (suc n) (x ∷ l) zero h = refl
pad_at (suc n) (x ∷ l) (suc i) h = pad_at n l i (omega arith)

pub padded_split : (l : List ℕ) → length l ≤ 508 → (z : List ℕ) × (padded l ≡ l ++ z)
unfolding padded
padded_split l h = pad_split 508 l h

pub length-padded : (l : List ℕ) → length (padded l) ≡ 508
unfolding padded
length-padded l = length_pad 508 l

-- a thing is known by its fields: `parse` reads them whatever follows, if the thing fits
pub record Coded {A : Type 0} (fields : A → List ℕ) (parse : List ℕ → A) (fits : A → Bool) (Fits : A → Type 0) : Type 0 where
  pub says : (r : A) → Says (fits r) (Fits r)
  pub short : (r : A) → Fits r → length (fields r) ≤ 508
  pub back : (r : A) (z : List ℕ) → Fits r → parse (fields r ++ z) ≡ r

module _ {A : Type 0} (fields : A → List ℕ) where
  pub length-encode : (r : A) → length (encode fields r) ≡ 512
  unfolding encode
  length-encode r = simp (length-append, length-padded, length_checks)

  module _ (parse : List ℕ → A) (fits : A → Bool) where
    module _ (Fits : A → Type 0) (C : Coded fields parse fits Fits) where
      parse-encode : (r : A) → Fits r → parse (encode fields r) ≡ r
      unfolding encode
      parse-encode r f =
          let p = padded_split (fields r) (C.short r f) in
          ap parse (ap (λ x. x ++ checks_of (padded (fields r))) p.1 ∙ append_assoc (fields r) p.0 (checks_of (padded (fields r))))
          ∙ C.back r (p.0 ++ checks_of (padded (fields r))) f

      -- bytes that pass are the bytes of what is read from them
      pub passes_so : (l : List ℕ) → T (sealed l) → T (shaped fields parse fits l) → Fits (parse l) × (encode fields (parse l) ≡ l)
      unfolding encode sealed shaped
      passes_so l t u =
          let p = and_true (fits (parse l)) (same (padded (fields (parse l))) (take 508 l)) u in
          let e = (says_same (padded (fields (parse l))) (take 508 l)).true_so p.1 in
          let c = (says_same (checks_of (take 508 l)) (drop 508 l)).true_so t in
          ((C.says (parse l)).true_so p.0, ap₂ ◌++◌ e (ap checks_of e ∙ c) ∙ take-append-drop 508 l)

      seal : (r : A) → T (sealed (encode fields r))
      unfolding encode sealed
      seal r =
          (says_same (checks_of (take 508 (encode fields r))) (drop 508 (encode fields r))).so_true
          (rw (
            take_at (padded (fields r)) (checks_of (padded (fields r))) 508 (length-padded (fields r)),
            drop_at (padded (fields r)) (checks_of (padded (fields r))) 508 (length-padded (fields r)),
          ))

      shape : (r : A) → Fits r → T (shaped fields parse fits (encode fields r))
      unfolding encode shaped
      shape r f =
          let p = parse-encode r f in
          true_and (fits (parse (encode fields r))) (same (padded (fields (parse (encode fields r)))) (take 508 (encode fields r)))
          ((C.says (parse (encode fields r))).so_true (rw p f))
          ((says_same (padded (fields (parse (encode fields r)))) (take 508 (encode fields r))).so_true
          (ap (λ x. padded (fields x)) p ∙ sym (take_at (padded (fields r)) (checks_of (padded (fields r))) 508 (length-padded (fields r)))))

      -- the bytes of a thing that fits pass, and are read as the thing
      pub so_passes : (l : List ℕ) (r : A) → Fits r → encode fields r ≡ l → T (sealed l) × T (shaped fields parse fits l) × (parse l ≡ r)
      so_passes l r f e = subst (λ (x : List ℕ). T (sealed x) × T (shaped fields parse fits x) × (parse x ≡ r)) e (seal r, shape r f, parse-encode r f)

      -- THE STATEMENT: 512 bytes are decoded as r exactly where r fits and they are r's bytes
      pub decode-encode : (l : List ℕ) (r : A) → (decode fields parse fits l ≡ some r) ↔ (Fits r × (encode fields r ≡ l))
      unfolding decode
      decode-encode l r = (
        λ d. let p = picked (sealed l && shaped fields parse fits l) d in let q = and_true (sealed l) (shaped fields parse fits l) p.0 in
            subst (λ (x : A). Fits x × (encode fields x ≡ l)) p.1 (passes_so l q.0 q.1),
        λ m. let a = so_passes l r m.0 m.1 in picks (sealed l && shaped fields parse fits l) (true_and (sealed l) (shaped fields parse fits l) a.0 a.1) a.2,
      )
        where
          picked : (t : Bool) → cond t (some (parse l)) none ≡ some r → T t × (parse l ≡ r)
          picked true e = (tt, cc)
          picked false e = let z : ◌≡◌ {A = ℕ} 0 1 = cc in absurd (omega arith)

          picks : (t : Bool) → T t → parse l ≡ r → cond t (some (parse l)) none ≡ some r
          picks true u e = cc
          picks false u e = absurd u

      -- the same for a buffer of n parts: all pass exactly where the buffer is the bytes of n things that fit
      pub parts_so : (n : ℕ) (l : List ℕ) → length l ≡ n * 512 → T (all sealed (parts n l)) → T (all (shaped fields parse fits) (parts n l))
          → All Fits (map parse (parts n l)) × (joined fields (map parse (parts n l)) ≡ l)
      parts_so zero [] e t u = (tt, refl)
      parts_so zero (x ∷ l) e t u = absurd (omega arith)
      parts_so (suc n) l e t u =
          let p = and_true (sealed (take 512 l)) (all sealed (parts n (drop 512 l))) t in
          let o = and_true (shaped fields parse fits (take 512 l)) (all (shaped fields parse fits) (parts n (drop 512 l))) u in
          let q = passes_so (take 512 l) p.0 o.0 in
          let r = parts_so n (drop 512 l) (simp length-drop (omega arith)) p.1 o.1 in
          ((q.0, r.0), rw (q.1, r.1) (take-append-drop 512 l))

      pub so_parts : (rs : List A) → All Fits rs
          → T (all sealed (parts (length rs) (joined fields rs))) × T (all (shaped fields parse fits) (parts (length rs) (joined fields rs))) × (map parse (parts (length rs) (joined fields rs)) ≡ rs)
      so_parts [] a = (tt, tt, refl)
      so_parts (b ∷ bs) a =
          let p = so_passes (encode fields b) b a.0 refl in
          let r = so_parts bs a.1 in
          let ps = parts (length bs) (joined fields bs) in
          rw (take_at (encode fields b) (joined fields bs) 512 (length-encode b), drop_at (encode fields b) (joined fields bs) 512 (length-encode b))
          (true_and (sealed (encode fields b)) (all sealed ps) p.0 r.0, true_and (shaped fields parse fits (encode fields b)) (all (shaped fields parse fits) ps) p.1 r.1, cc (p.2, r.2))

      pub length-parts : (n : ℕ) (l : List ℕ) → length (map parse (parts n l)) ≡ n
      length-parts zero l = refl
      length-parts (suc n) l = ap suc (length-parts n (drop 512 l))
