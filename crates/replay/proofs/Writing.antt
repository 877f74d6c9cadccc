-- The record of an answer, written into zeros.
-- Assumes nothing.
use Rattle.std.specs.Prelude.{Ok, Result}
use Prim.Native.Nat.{◌-◌, ℕ}
use mathlib.Core.List.{List}
use mathlib.Core.Path.{◌∙◌, ◌≡◌, ap, sym}
use native.Mathlib.Omega.{arith}
use lib.ListN.{length, replicate}
use Rattle.block.specs.Field.{with_four}
use Rattle.block.specs.Write.{written}
use Rattle.engine.proofs.Fresh.{all-zero}
use Rattle.model.specs.History.{Bytes}
use Rattle.model.specs.Machine.{bytes, done, refused, revision, status, stopped}
use Rattle.model.specs.Types.{action_number, answer_of, number_of, source_revision, source_sheet}
use Rattle.model.specs.declared.Answer.{Answer}
use Rattle.model.specs.declared.Answer.TheVariants.{Logged}
use Rattle.model.specs.declared.LogEntry.{LogEntry}
use Rattle.model.specs.declared.Refusal.{Refusal}
use Rattle.replay.specs.Records.{record_of, zeros}

pub cleared : (l : List ℕ) → length l ≡ 512 → {t : List ℕ} → t ≡ written 0 (replicate 512 0) l → t ≡ zeros
unfolding zeros
cleared l h e =
    let n : 512 ≡ length l - 0 = omega arith in
    e ∙ ap (λ (n : ℕ). written 0 (replicate n 0) l) n ∙ all-zero l ∙ ap (λ (n : ℕ). replicate n 0) h

module _ {l : Bytes} (z : l ≡ zeros) where
  pub refused_record : (k : Refusal) {n : ℕ} {t : Bytes} → n ≡ number_of k → t ≡ with_four l 0 n → t ≡ record_of (refused (number_of k))
  unfolding record_of
  refused_record k p e = e ∙ (λ i. with_four (z i) 0 (p i))

  pub done_record : l ≡ record_of done
  unfolding record_of
  done_record = z

  pub stopped_record : {t : Bytes} → t ≡ with_four l 8 1 → t ≡ record_of stopped
  unfolding record_of
  stopped_record e = e ∙ ap (λ (x : Bytes). with_four x 8 1) z

  pub revision_record : (R : ℕ) {t : Bytes} → t ≡ with_four l 4 R → t ≡ record_of (revision R)
  unfolding record_of
  revision_record R e = e ∙ ap (λ (x : Bytes). with_four x 4 R) z

  pub status_record : (s n : ℕ) {t u : Bytes} → t ≡ with_four l 4 s → u ≡ with_four t 8 n → u ≡ record_of (status s n)
  unfolding record_of
  status_record s n p e = e ∙ ap (λ (y : Bytes). with_four y 8 n) (p ∙ ap (λ (y : Bytes). with_four y 4 s) z)

  pub bytes_record : (x : Bytes) (n : ℕ) {t u w : Bytes} → t ≡ with_four l 8 n → u ≡ with_four t 28 (length x) → w ≡ written 32 x u → w ≡ record_of (bytes x n)
  unfolding record_of
  bytes_record x n p q e = e ∙ ap (written 32 x) (q ∙ ap (λ (y : Bytes). with_four y 28 (length x)) (p ∙ ap (λ (y : Bytes). with_four y 8 n) z))

  pub log_record : (g : LogEntry) {a s r : ℕ} {t1 t2 t3 t4 t5 t6 : Bytes} → a ≡ action_number g.action → s ≡ source_sheet g.action → r ≡ source_revision g.action
      → t1 ≡ with_four l 4 g.seat → t2 ≡ with_four t1 8 g.stamp → t3 ≡ with_four t2 12 g.changes → t4 ≡ with_four t3 16 a → t5 ≡ with_four t4 20 s → t6 ≡ with_four t5 24 r
      → t6 ≡ record_of (answer_of (Ok (Logged g)))
  unfolding record_of
  log_record g ea es er e1 e2 e3 e4 e5 e6 =
      let q1 = e1 ∙ ap (λ (x : Bytes). with_four x 4 g.seat) z in
      let q2 = e2 ∙ ap (λ (x : Bytes). with_four x 8 g.stamp) q1 in
      let q3 = e3 ∙ ap (λ (x : Bytes). with_four x 12 g.changes) q2 in
      let q4 = e4 ∙ (λ i. with_four (q3 i) 16 (ea i)) in
      let q5 = e5 ∙ (λ i. with_four (q4 i) 20 (es i)) in
      e6 ∙ (λ i. with_four (q5 i) 24 (er i))

-- of an answer that is known
pub answered : {a b : Result Answer Refusal} → a ≡ b → {t : Bytes} → t ≡ record_of (answer_of b) → t ≡ record_of (answer_of a)
answered p e = e ∙ ap (λ (x : Result Answer Refusal). record_of (answer_of x)) (sym p)
