-- A line on buffers, and the lines one after the other, in the terms of the code.
-- Assumes nothing.
use Prim.Native.Nat.{◌+◌, ◌-◌, ◌<◌, ◌≤◌, ℕ}
use mathlib.Core.List.{List, [], ◌++◌, ◌∷◌}
use mathlib.Core.Option.{Option, some}
use mathlib.Core.Path.{◌∙◌, ◌≡◌, ap, subst, sym}
use native.Mathlib.Omega.{arith}
use lib.ListN.{drop, drop_of_length-le, length, length-append, length-drop, take}
use lib.Seq.{drop-drop}
use Rattle.block.proofs.Writing.{written_both, written_none}
use Rattle.block.specs.Write.{written}
use Rattle.command.specs.Command.{line_turn, turn}
use Rattle.model.specs.Calls.{Buffers, Out, after_turn, call, out, turn_on}
use Rattle.model.specs.History.{Bytes}
use Rattle.model.specs.Machine.{Answer, Call}
use Rattle.model.specs.Run.{Turn}
use Rattle.text.proofs.Splitting.{lines_step, tail, tail_is}
use Rattle.text.specs.Text.{lines, span_of}
use Rattle.program.specs.Buffers.{answered_on, pool, transcript_on}
use Rattle.program.specs.Output.{text_of}

-- ---- a call by seat 1 or 2 leaves the other's copy

abbrev Turned : Buffers → Turn → Answer → Buffers → Type 0
Turned b t a b' = (a ≡ (turn_on b t).says) × (b' ≡ after_turn b t)

pub by_one : (k : ℕ) (s one two s' one' : Bytes) (a : Answer) (c : Call) → k ≡ 1 → out a s' one' ≡ call s one c → Turned (pool s one two) (turn k c) a (pool s' one' two)
by_one k s one two s' one' a c e q =
    subst (λ (n : ℕ). Turned (pool s one two) (turn n c) a (pool s' one' two)) (sym e) (ap (λ (o : Out). o.says) q, ap (λ (o : Out). pool o.store o.copy two) q)

pub by_two : (k : ℕ) (s one two s' two' : Bytes) (a : Answer) (c : Call) → k ≡ 2 → out a s' two' ≡ call s two c → Turned (pool s one two) (turn k c) a (pool s' one two')
by_two k s one two s' two' a c e q =
    subst (λ (n : ℕ). Turned (pool s one two) (turn n c) a (pool s' one two')) (sym e) (ap (λ (o : Out). o.says) q, ap (λ (o : Out). pool o.store one o.copy) q)

-- ---- what a line prints, and the buffers that it leaves

module _ (b : Buffers) (t : Turn) (o : Option Turn) (e : some t ≡ o) where
  pub line_text : (a : Answer) → a ≡ (turn_on b t).says → text_of a ≡ (answered_on b o).0
  line_text a q = ap text_of q ∙ ap (λ (x : Option Turn). (answered_on b x).0) e

  pub line-buffers : (b' : Buffers) → b' ≡ after_turn b t → b' ≡ (answered_on b o).1
  line-buffers b' q = q ∙ ap (λ (x : Option Turn). (answered_on b x).1) e

-- ---- the first line, and the lines after it

-- the line at a place of the input, and the lines after it
pub lines_at : (input : List ℕ) (at n : ℕ) → at < length input → n ≡ span_of 10 (tail at input)
    → lines (drop at input) ≡ take n (tail at input) ∷ lines (drop (at + (n + 1)) input)
lines_at input at n h e =
    let t = tail_is at input in
    let some_left : 0 < length (tail at input) = rw t (simp length-drop (omega arith)) in
    let d : drop (n + 1) (tail at input) ≡ drop (at + (n + 1)) input = ap (λ (x : List ℕ). drop (n + 1) x) t ∙ drop-drop (n + 1) at input in
    ap lines (sym t) ∙ lines_step (tail at input) some_left ∙ cc (e, d)

pub no_lines : (input : List ℕ) (at : ℕ) → length input ≤ at → lines (drop at input) ≡ []
unfolding lines
no_lines input at h = rw (drop_of_length-le input h)

pub length-tail : (k : ℕ) (s : List ℕ) → length (tail k s) ≡ length s - k
length-tail k s = rw (tail_is k s) (length-drop k s)

-- ---- one turn of the loop: what is left to print gives the whole

pub printed : (b b' : Buffers) (line : List ℕ) (ls : List Bytes) (all o o' o₀ : List ℕ) (to r : ℕ)
    → r ≡ length (answered_on b (line_turn line)).0 → o' ≡ written to (answered_on b (line_turn line)).0 o → b' ≡ (answered_on b (line_turn line)).1
    → (to + length (transcript_on b (line ∷ ls)) ≡ length all) × (written to (transcript_on b (line ∷ ls)) o ≡ written 0 all o₀)
    → (to + r + length (transcript_on b' ls) ≡ length all) × (written (to + r) (transcript_on b' ls) o' ≡ written 0 all o₀)
unfolding transcript_on
printed b b' line ls all o o' o₀ to r p q e i =
    let t : List ℕ = (answered_on b (line_turn line)).0 in
    let u : List ℕ = transcript_on (answered_on b (line_turn line)).1 ls in
    let same : transcript_on b' ls ≡ u = ap (λ (x : Buffers). transcript_on x ls) e in
    let n : length (t ++ u) ≡ length t + length u = length-append t u in (
      omega (arith, p, n, i.0, ap length same),
      ap (λ (x : List ℕ). written (to + r) x o') same ∙ ap (written (to + r) u) q ∙ ap (λ (k : ℕ). written (to + k) u (written to t o)) p ∙ sym (written_both to t u o) ∙ i.1,
    )

pub over : (b : Buffers) (ls : List Bytes) (all o o₀ : List ℕ) (to : ℕ) → ls ≡ []
    → (to + length (transcript_on b ls) ≡ length all) × (written to (transcript_on b ls) o ≡ written 0 all o₀) → (to ≡ length all) × (o ≡ written 0 all o₀)
unfolding transcript_on
over b ls all o o₀ to e i =
    let none_left : transcript_on b ls ≡ [] = ap (transcript_on b) e in (
      omega (arith, i.0, ap length none_left),
      sym (ap (λ (x : List ℕ). written to x o) none_left ∙ written_none to o) ∙ i.1,
    )
