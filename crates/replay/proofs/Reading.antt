-- The records of a script, all of them good: as the chunks of its bytes.
-- Assumes nothing.
use Prim.Native.Nat.{◌%◌, ◌*◌, ◌+◌, ◌/◌, suc, zero, ℕ}
use mathlib.Core.Bool.{Bool, ◌&&◌, false}
use mathlib.Core.List.{List}
use mathlib.Core.Path.{◌∙◌, ◌≡◌, ap, refl, sym}
use native.Mathlib.Omega.{arith}
use borrow.Author.Tests.{eq-eqb, ne_eqb}
use lib.ListN.{drop, length, length-append, length-drop, take}
use lib.Seq.{drop-drop, drop_at, take_at}
use Rattle.std.proofs.lemmas.Iterator.{YieldsList}
use Rattle.std.specs.Iterator.{AlwaysYields}
use Rattle.std.specs.List.{list_all}
use Rattle.std.specs.declared.slice.ChunksExact.{ChunksExact}
use Rattle.std.specs.Slice.Iter.{chunks_exact_rest, chunks_exact_size, chunks_exact_steps}
use Rattle.block.specs.Buffer.{block_at}
use Rattle.block.specs.Lists.{all_from}
use Rattle.model.specs.Codec.{parts}
use Rattle.model.specs.History.{Bytes}
use Rattle.replay.specs.Script.{record_ok, script_ok}

-- the records of a script, from record i on
module _ (s : Bytes) where
  abbrev pub good_from : ℕ → ℕ → Bool
  good_from i n = all_from (λ i. record_ok (block_at s i)) i n

  pub broken : (length s % 512 ≡ 0 → ⊥) → false ≡ script_ok s
  unfolding script_ok
  broken h = sym (rw (ne_eqb (length s % 512) 0 h))

  module _ (h : length s % 512 ≡ 0) where
    pub whole : good_from 0 (length s / 512) ≡ script_ok s
    unfolding script_ok
    whole = sym (rw (eq-eqb (length s % 512) 0 h))

  -- the records one after the other
  pub all_good : (i n : ℕ) → list_all record_ok (parts n (drop (512 * i) s)) ≡ good_from i n
  all_good i zero = refl
  all_good i (suc n) =
      let d : 512 * i + 512 ≡ 512 * suc i = omega arith in
      ap (λ (l : List ℕ). record_ok (block_at s i) && list_all record_ok (parts n l)) (drop-drop 512 (512 * i) s ∙ ap (λ (k : ℕ). drop k s) d)
      ∙ ap (λ (b : Bool). record_ok (block_at s i) && b) (all_good (suc i) n)

-- the chunks of a list of n parts are its parts
pub chunks : (n : ℕ) (l : List ℕ) (s : ChunksExact ℕ) → chunks_exact_size s ≡ 512 → chunks_exact_rest s ≡ l → length l ≡ n * 512
    → YieldsList (chunks_exact_steps {A = ℕ}) (λ x. x.now) s (parts n l)
chunks n l s z r e = record { runs = give n l s z r e }
  where
    give : (n : ℕ) (l : List ℕ) (s : ChunksExact ℕ) → chunks_exact_size s ≡ 512 → chunks_exact_rest s ≡ l → length l ≡ n * 512
        → AlwaysYields (chunks_exact_steps {A = ℕ}) (λ x. x.now) s (parts n l)
    give zero l s z r e = λ x j h. absurd (omega (arith, ap length h.1.0, length-append x.now (chunks_exact_rest j), h.1.1, ap length r))
    give (suc n) l s z r e = (
      λ j h. omega (arith, h.1.0, ap length r),
      λ x j h.
          let a : length x.now ≡ 512 = h.1.1 ∙ z in (
            sym (take_at x.now (chunks_exact_rest j) 512 a) ∙ ap (take 512) (sym h.1.0 ∙ r),
            give n (drop 512 l) j (h.0 ∙ z) (sym (drop_at x.now (chunks_exact_rest j) 512 a) ∙ ap (drop 512) (sym h.1.0 ∙ r)) (omega (arith, length-drop 512 l)),
          ),
    )
