-- Inputs and what is printed of them, computed: the sample of document 02, a day by hand, and what is no day.
-- Assumes nothing.
use Prim.Native.Nat.{ℕ}
use mathlib.Core.List.{List, [], ◌++◌, ◌∷◌}
use mathlib.Core.Path.{◌≡◌, refl}
use Rattle.block.specs.Lists.{All}
use Rattle.model.specs.History.{Bytes}
use Rattle.rehearsal.specs.Output.{no_plan, rehearsal_output}
use Rattle.rehearsal.specs.Rehearsal.{days_from, step_of}
use Rattle.text.specs.Text.{decimal_in, decimal_of, digit_of, lines, number_of, value_of, words}

-- `3 1 1 1 1 1 1 1 1` prints `1 2 0`, `1 2 1`, `0 1 2`, `0 1 0`
sample : rehearsal_output (51 ∷ 32 ∷ 49 ∷ 32 ∷ 49 ∷ 32 ∷ 49 ∷ 32 ∷ 49 ∷ 32 ∷ 49 ∷ 32 ∷ 49 ∷ 32 ∷ 49 ∷ 32 ∷ 49 ∷ 10 ∷ [])
    ≡ 49 ∷ 32 ∷ 50 ∷ 32 ∷ 48 ∷ 10 ∷ 49 ∷ 32 ∷ 50 ∷ 32 ∷ 49 ∷ 10 ∷ 48 ∷ 32 ∷ 49 ∷ 32 ∷ 50 ∷ 10 ∷ 48 ∷ 32 ∷ 49 ∷ 32 ∷ 48 ∷ 10 ∷ []
unfolding rehearsal_output days_from step_of lines words number_of value_of digit_of decimal_in
sample = refl

-- some numbers in a line, without its end
abbrev line : List ℕ → Bytes
line [] = []
line (n ∷ []) = decimal_of n
line (n ∷ m ∷ ns) = decimal_of n ++ (32 ∷ line (m ∷ ns))

-- Seven steps. Seat 1 asks at steps 2, 4, 6 and holds for two, seat 2 at 3, 6 for one, seat 3 at 3, 6 for two, seat 4 at 7 for one.
-- 2: seat 1 has the turn. 3: seats 2 and 3 join. 4: seat 1 commits, seat 2 has the turn after one step, seat 1 joins. 5: seat 2 commits, seat 3 has the turn after two.
-- 6: seat 2 joins. 7: seat 3 commits, seat 1 has the turn after three, seat 4 joins.
by_hand : rehearsal_output (line (7 ∷ 2 ∷ 2 ∷ 3 ∷ 1 ∷ 3 ∷ 2 ∷ 7 ∷ 1 ∷ []))
    ≡ line (1 ∷ 2 ∷ 3 ∷ []) ++ (10 ∷ (line (1 ∷ 2 ∷ 1 ∷ []) ++ (10 ∷ (line (1 ∷ 1 ∷ 2 ∷ []) ++ (10 ∷ (line (0 ∷ 1 ∷ 0 ∷ []) ++ (10 ∷ [])))))))
unfolding rehearsal_output days_from step_of lines words number_of value_of digit_of decimal_in
by_hand = refl

-- ---- `?`

abbrev good : Bytes
good = line (3 ∷ 1 ∷ 1 ∷ 1 ∷ 1 ∷ 1 ∷ 1 ∷ 1 ∷ 1 ∷ [])

abbrev NoDay : Bytes → Type 0
NoDay input = rehearsal_output input ≡ no_plan

no_days : All NoDay (
    [] ∷ (10 ∷ [])
    -- a second line, a second line end, a carriage return
    ∷ (good ++ (10 ∷ good)) ∷ (good ++ (10 ∷ 10 ∷ [])) ∷ (good ++ (13 ∷ 10 ∷ []))
    -- a number too few, one too many
    ∷ line (3 ∷ 1 ∷ 1 ∷ 1 ∷ 1 ∷ 1 ∷ 1 ∷ 1 ∷ []) ∷ line (3 ∷ 1 ∷ 1 ∷ 1 ∷ 1 ∷ 1 ∷ 1 ∷ 1 ∷ 1 ∷ 1 ∷ [])
    -- 0 and 61, as steps, period and holding time
    ∷ line (0 ∷ 1 ∷ 1 ∷ 1 ∷ 1 ∷ 1 ∷ 1 ∷ 1 ∷ 1 ∷ []) ∷ line (61 ∷ 1 ∷ 1 ∷ 1 ∷ 1 ∷ 1 ∷ 1 ∷ 1 ∷ 1 ∷ [])
    ∷ line (3 ∷ 0 ∷ 1 ∷ 1 ∷ 1 ∷ 1 ∷ 1 ∷ 1 ∷ 1 ∷ []) ∷ line (3 ∷ 1 ∷ 1 ∷ 1 ∷ 1 ∷ 1 ∷ 1 ∷ 61 ∷ 1 ∷ [])
    ∷ line (3 ∷ 1 ∷ 0 ∷ 1 ∷ 1 ∷ 1 ∷ 1 ∷ 1 ∷ 1 ∷ []) ∷ line (3 ∷ 1 ∷ 1 ∷ 1 ∷ 1 ∷ 1 ∷ 1 ∷ 1 ∷ 61 ∷ [])
    -- a leading zero, a space before, behind, and two between
    ∷ (48 ∷ good) ∷ (32 ∷ good) ∷ (good ++ (32 ∷ [])) ∷ (51 ∷ 32 ∷ 32 ∷ line (1 ∷ 1 ∷ 1 ∷ 1 ∷ 1 ∷ 1 ∷ 1 ∷ 1 ∷ [])) ∷ []
    )
unfolding rehearsal_output lines words number_of value_of digit_of decimal_in
no_days = (refl, (refl, (refl, (refl, (refl, (refl, (refl, (refl, (refl, (refl, (refl, (refl, (refl, (refl, (refl, (refl, (refl, tt)))))))))))))))))
