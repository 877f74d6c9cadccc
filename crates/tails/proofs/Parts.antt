-- A walk over a list of bytes by parts of 512.
-- Assumes nothing.
use Prim.Native.Nat.{◌-◌, ◌/◌, ◌<◌, suc, ℕ}
use mathlib.Core.List.{List, ◌++◌, ◌∷◌}
use mathlib.Core.Path.{◌∙◌, ◌≡◌, ap, ap₂, subst, sym}
use native.Mathlib.Omega.{arith}
use lib.ListN.{drop, length, length-append, length-drop, take}
use lib.Seq.{drop-append_seam, take-append_seam, take-length}
use Rattle.std.proofs.lemmas.Iterator.{YieldsList}
use Rattle.std.proofs.lemmas.Iterator.Splits.{YieldsList-from_shown_while}
use Rattle.std.specs.Slice.Iter.{chunks_exact_rest, chunks_exact_size, chunks_exact_steps}
use Rattle.std.specs.declared.slice.ChunksExact.{ChunksExact}
use Rattle.model.specs.Codec.{parts}

-- all parts of what is there
abbrev pub all_parts : List ℕ → List (List ℕ)
all_parts l = parts (length l / 512) l

first_part : (l x t : List ℕ) → l ≡ x ++ t → length x ≡ 512 → all_parts l ≡ x ∷ all_parts t
first_part l x t d e =
    let n : length l / 512 ≡ suc (length t / 512) = omega (arith, ap length d, length-append x t) in
    let front : take 512 l ≡ x = ap₂ take (sym e) d ∙ take-append_seam x t in
    let rest : drop 512 l ≡ t = ap₂ drop (sym e) d ∙ drop-append_seam x t in
    ap (λ k. parts k l) n ∙ ap₂ (λ (y z : List ℕ). y ∷ parts (length t / 512) z) front rest

parts-none : (l : List ℕ) → length l < 512 → length (all_parts l) ≡ 0
parts-none l h = let n : length l / 512 ≡ 0 = omega arith in rw n

pub parts_come : (l : List ℕ) (s : ChunksExact ℕ) → chunks_exact_size s ≡ 512 → chunks_exact_rest s ≡ l → YieldsList (chunks_exact_steps {A = ℕ}) (λ y. y.now) s (all_parts l)
parts_come l s size rest =
    subst (λ xs. YieldsList (chunks_exact_steps {A = ℕ}) (λ y. y.now) s xs) (ap all_parts rest)
    (YieldsList-from_shown_while (chunks_exact_steps {A = ℕ}) (λ y. y.now) (λ t. all_parts (chunks_exact_rest t)) (λ t. chunks_exact_size t ≡ 512)
    (λ u t p q. parts-none (chunks_exact_rest u) (omega (arith, q.1.0, p)))
    (λ u x t p q. (q.0 ∙ p, first_part (chunks_exact_rest u) x.now (chunks_exact_rest t) q.1.0 (q.1.1 ∙ p))) s size)

-- a list from k on, as it is lent by `&l[k..]`
pub to_end : (k : ℕ) (l : List ℕ) → take (length l - k) (drop k l) ≡ drop k l
to_end k l = ap (λ (n : ℕ). take n (drop k l)) (sym (length-drop k l)) ∙ take-length (drop k l)
