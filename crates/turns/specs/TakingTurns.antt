-- W7 in its own words, on the four numbers as they stand: what each call leaves and answers. Its proof is in turns/proofs/TakingTurns.
-- Assumes nothing.
use Rattle.std.specs.Prelude.{◌<◌, ◌≤◌, ℕ, false, true, List, [], ◌∷◌, ◌≡◌, get_or, set}
use Rattle.turns.specs.Turns.{Ask, Give, TakeBack, held_by, in_form, is_in, turn_call, turn_out}

-- place i is the first of the four that has a 0: the end of the line
pub record EndOf (r : List ℕ) (i : ℕ) : Type 0 where
  pub within : i < 4
  pub free : get_or r i 0 ≡ 0
  pub first : (j : ℕ) → j < i → get_or r j 0 ≡ 0 → ⊥

-- of the record h, a, b, c, which is in form, and the calling seat s
pub record Sentences (h a b c s : ℕ) : Type 0 where
  -- "A seat asks; if nobody holds the turn it gets it"
  pub gets : h ≡ 0 → turn_call (h ∷ a ∷ b ∷ c ∷ []) (Ask s) ≡ turn_out (held_by s) (s ∷ 0 ∷ 0 ∷ 0 ∷ [])
  -- "otherwise it joins the end"
  pub joins : (h ≡ 0 → ⊥) → is_in s (h ∷ a ∷ b ∷ c ∷ []) ≡ false
      → (i : ℕ) × EndOf (h ∷ a ∷ b ∷ c ∷ []) i × (turn_call (h ∷ a ∷ b ∷ c ∷ []) (Ask s) ≡ turn_out (held_by h) (set (h ∷ a ∷ b ∷ c ∷ []) i s))
  -- "The holder gives back .. and the longest waiting seat, if any, gets the turn"
  pub gives : h ≡ s → turn_call (h ∷ a ∷ b ∷ c ∷ []) (Give s) ≡ turn_out (held_by a) (a ∷ b ∷ c ∷ 0 ∷ [])
  -- "or the planner takes back from the holder"
  pub takes : (h ≡ 0 → ⊥) → turn_call (h ∷ a ∷ b ∷ c ∷ []) TakeBack ≡ turn_out (held_by a) (a ∷ b ∷ c ∷ 0 ∷ [])
  -- "Giving back by another seat .. change nothing", and the answer is the holder
  pub another : (h ≡ s → ⊥) → turn_call (h ∷ a ∷ b ∷ c ∷ []) (Give s) ≡ turn_out (held_by h) (h ∷ a ∷ b ∷ c ∷ [])
  -- "taking back when nobody holds"
  pub nobody : h ≡ 0 → turn_call (h ∷ a ∷ b ∷ c ∷ []) TakeBack ≡ turn_out (held_by 0) (h ∷ a ∷ b ∷ c ∷ [])
  -- "and asking while waiting or holding"
  pub again : is_in s (h ∷ a ∷ b ∷ c ∷ []) ≡ true → turn_call (h ∷ a ∷ b ∷ c ∷ []) (Ask s) ≡ turn_out (held_by h) (h ∷ a ∷ b ∷ c ∷ [])

-- THE STATEMENT
abbrev pub TakingTurns : Type 0
TakingTurns = (h a b c s : ℕ) → in_form (h ∷ a ∷ b ∷ c ∷ []) ≡ true → 1 ≤ s → s ≤ 4 → Sentences h a b c s
