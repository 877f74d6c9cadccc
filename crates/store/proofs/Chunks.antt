-- The chunks of a slice: a store's blocks, and a commit block's changes.
use Rattle.std.proofs.Common.{◌≡◌, ◌∙◌, ◌+◌, ◌*◌, ◌≤◌, ℕ, suc, zero, Bool, ◌&&◌, List, [], ◌∷◌, ap, ap₂, arith, drop, length, refl, sym, take}
use Rattle.std.proofs.lemmas.Iterator.{YieldsList}
use Rattle.std.proofs.lemmas.List.{drop_at, drop-take, get_or-take, length-append, length-drop, length-take, take-append-drop, take-append-le, take_at}
use Rattle.std.specs.Iterator.{AlwaysYields}
use Rattle.std.specs.List.{list_all}
use Rattle.std.specs.Slice.Iter.{chunks_exact_rest, chunks_exact_size, chunks_exact_steps}
use Rattle.block.specs.Lists.{all}
use Rattle.model.specs.Blocks.{Line, parse_line, parse_lines}
use Rattle.model.specs.Codec.{parts}

-- the first n pieces of d numbers
abbrev pub pieces : ℕ → ℕ → List ℕ → List (List ℕ)
pieces d zero l = []
pieces d (suc n) l = take d l ∷ pieces d n (drop d l)

give : (d n : ℕ) (l : List ℕ) (s : _) → 1 ≤ d → chunks_exact_size {T = ℕ} s ≡ d → chunks_exact_rest s ≡ take (n * d) l → n * d ≤ length l
    → AlwaysYields (chunks_exact_steps {A = ℕ}) (λ x. x.now) s (pieces d n l)
give d zero l s p z r h = λ x j g. absurd (omega (arith, ap length g.1.0, length-append x.now (chunks_exact_rest j), g.1.1, ap length r, length-take (0 * d) l))
give d (suc n) l s p z r h =
    let m : suc n * d ≡ d + n * d = omega arith in
    let t = take (suc n * d) l in
    let e : length t ≡ d + n * d = omega (arith, length-take (suc n * d) l) in
    let first : take d t ≡ take d l = sym (take-append-le d t (drop (suc n * d) l) (omega arith)) ∙ ap (take d) (take-append-drop (suc n * d) l) in
    let others : drop d t ≡ take (n * d) (drop d l) = ap (λ (k : ℕ). drop d (take k l)) m ∙ drop-take d (n * d) l in (
      λ j g. omega (arith, g.1.0, ap length r),
      λ x j g.
          let a : length x.now ≡ d = g.1.1 ∙ z in (
            sym (take_at x.now (chunks_exact_rest j) d a) ∙ ap (take d) (sym g.1.0 ∙ r) ∙ first,
            give d n (drop d l) j p (g.0 ∙ z) (sym (drop_at x.now (chunks_exact_rest j) d a) ∙ ap (drop d) (sym g.1.0 ∙ r) ∙ others) (omega (arith, length-drop d l)),
          ),
    )

pub yields-pieces : (d n : ℕ) (l : List ℕ) {s : _} → 1 ≤ d → chunks_exact_size {T = ℕ} s ≡ d → chunks_exact_rest s ≡ take (d * n) l → d * n ≤ length l
    → YieldsList (chunks_exact_steps {A = ℕ}) (λ x. x.now) s (pieces d n l)
yields-pieces d n l {s} p z r h =
    let e : d * n ≡ n * d = omega arith in record { runs = give d n l s p z (r ∙ ap (λ (k : ℕ). take k l) e) (omega arith) }

-- a test of each block
pub all-parts : (f : List ℕ → Bool) (n : ℕ) (l : List ℕ) → list_all f (pieces 512 n l) ≡ all f (parts n l)
all-parts f zero l = refl
all-parts f (suc n) l = ap (λ (b : Bool). f (take 512 l) && b) (all-parts f n (drop 512 l))

-- a test of each change
line-taken : (l : List ℕ) → parse_line (take 8 l) ≡ parse_line l
line-taken l =
    simp (get_or-take 8 l 0 0 (omega arith), get_or-take 8 l 1 0 (omega arith), get_or-take 8 l 2 0 (omega arith), get_or-take 8 l 3 0 (omega arith), get_or-take 8 l 4 0 (omega arith), get_or-take 8 l 6 0 (omega arith), get_or-take 8 l 7 0 (omega arith)) refl

pub all-lines : (f : Line → Bool) (m : ℕ) (l : List ℕ) → list_all (λ x. f (parse_line x)) (pieces 8 m l) ≡ all f (parse_lines m l)
all-lines f zero l = refl
all-lines f (suc m) l = ap₂ (λ (a b : Bool). a && b) (ap f (line-taken l)) (all-lines f m (drop 8 l))
