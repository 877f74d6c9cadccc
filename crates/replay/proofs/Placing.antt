-- The record of a reply: of an answer, or of the bytes at a place.
-- Assumes nothing.
use Rattle.std.specs.Prelude.{Err, Result}
use Prim.Native.Nat.{ℕ}
use mathlib.Core.Path.{◌∙◌, ◌≡◌, ap, subst, sym}
use Rattle.block.specs.Field.{with_four}
use Rattle.inner.specs.Performs.{told}
use Rattle.inner.specs.declared.Reply.{Reply}
use Rattle.inner.specs.declared.Reply.TheVariants.{At}
use Rattle.model.specs.History.{Bytes}
use Rattle.model.specs.Types.{number_of}
use Rattle.model.specs.declared.Place.{Place}
use Rattle.model.specs.declared.Refusal.{Refusal}
use Rattle.replay.proofs.Writing.{refused_record}
use Rattle.replay.specs.Records.{record_of, zeros}
use Rattle.replay.specs.Steps.{Reachable}

-- of a reply that is known
pub still_within : {store copy : Bytes} {r s : Reply} → r ≡ s → Reachable store copy r → Reachable store copy s
still_within {store} {copy} e h = subst (Reachable store copy) e h

pub reply_record : (store copy : Bytes) {r s : Reply} → r ≡ s → {t : Bytes} → t ≡ record_of (told store copy s) → t ≡ record_of (told store copy r)
reply_record store copy e q = q ∙ ap (λ (x : Reply). record_of (told store copy x)) (sym e)

module _ (store copy : Bytes) {p : Result Place Refusal} where
  at_place : {q : Result Place Refusal} → p ≡ q → {t : Bytes} → t ≡ record_of (told store copy (At q)) → t ≡ record_of (told store copy (At p))
  at_place e q = reply_record store copy (ap At e) q

  pub none_record : {k : Refusal} → p ≡ Err k → {l t : Bytes} {n : ℕ} → l ≡ zeros → n ≡ number_of k → t ≡ with_four l 0 n → t ≡ record_of (told store copy (At p))
  none_record {k} e z n q = at_place e (refused_record z k n q)
