-- `rehearsal::nine` meets its contract: a word that is no number from 1 to 60, a tenth word, or the next number.
-- Assumes nothing.
use Rattle.std.proofs.Common.{◌≡◌, ◌+◌, ◌≤◌, ◌∙◌, ℕ, List, ap, arith, drop, length, set, subst, sym, take, true}
use lib.ListN.{length-drop, length-set}
use lib.Seq.{length-take-le}
use Rattle.std.proofs.Math.Option.{none, some}
use Rattle.block.specs.Lists.{all}
use Rattle.rehearsal.specs.Nine.{nine_as, plan_after, small_of}
use Rattle.rehearsal.specs.Output.{numbered}
use Rattle.rehearsal.specs.Rehearsal.{in_range}
use Rattle.text.proofs.Splitting.{tail_is}
use Rattle.text.specs.Text.{span_of}
use Rattle.rehearsal.proofs.Words.{bad_word, first_more, in_range_lem, left_here, next_word, one_too_many, range_more, turn_word}
use Rattle.rehearsal.proofs.nine.Goals as goal

pub returns-in_err-x : goal.returns-in_err-x
returns-in_err-x c =
    let line = c.args.line.now in
    let l = c.loop-at in
    let e = c.span-e in
    let le = c.loop-at-test.true in
    let is = tail_is l.at line in
    let w = turn_word line l.at e.result le (subst (λ (r : List ℕ). e.result ≡ span_of 32 r) is e.ensures.0) (subst (λ (r : List ℕ). e.result ≤ length r) is e.ensures.1) in
    let here = left_here line (take l.k l.n) l.at le ∙ ap (λ (ws : List (List ℕ)). plan_after (take l.k l.n) (numbered ws)) w.1 in
    let no = subst (λ (r : List ℕ). none ≡ small_of (take e.result r)) is c.in_err-x.ensures in
    ap nine_as c.from_residual.ensures ∙ sym (sym l.invariant.4 ∙ here ∙ bad_word (take l.k l.n) w.0 (take e.result (drop l.at line)) (sym no))

pub returns-then-k-ge9 : goal.returns-then-k-ge9
returns-then-k-ge9 c =
    let line = c.args.line.now in
    let l = c.loop-at in
    let e = c.span-e in
    let le = c.loop-at-test.true in
    let is = tail_is l.at line in
    let w = turn_word line l.at e.result le (subst (λ (r : List ℕ). e.result ≡ span_of 32 r) is e.ensures.0) (subst (λ (r : List ℕ). e.result ≤ length r) is e.ensures.1) in
    let here = left_here line (take l.k l.n) l.at le ∙ ap (λ (ws : List (List ℕ)). plan_after (take l.k l.n) (numbered ws)) w.1 in
    sym (sym l.invariant.4 ∙ here ∙ one_too_many (take l.k l.n) w.0 (take e.result (drop l.at line)) (omega (arith, length-take-le l.k l.n (let n = l.invariant.1 in let k = l.invariant.0 in omega (arith, n, k)), c.if-k-ge9.true)))

pub loop-at-preserved : goal.loop-at-preserved
loop-at-preserved c =
    let line = c.args.line.now in
    let l = c.loop-at in
    let e = c.span-e in
    let le = c.loop-at-test.true in
    let is = tail_is l.at line in
    let w = turn_word line l.at e.result le (subst (λ (r : List ℕ). e.result ≡ span_of 32 r) is e.ensures.0) (subst (λ (r : List ℕ). e.result ≤ length r) is e.ensures.1) in
    let here = left_here line (take l.k l.n) l.at le ∙ ap (λ (ws : List (List ℕ)). plan_after (take l.k l.n) (numbered ws)) w.1 in
    let x = c.in_ok-x.x in
    let xs = subst (λ (r : List ℕ). some x ≡ small_of (take e.result r)) is c.in_ok-x.ensures in
    let k = c.if-k-ge9.false in
    let nine = l.invariant.1 in
    let more = first_more l.n l.k x (omega (arith, k, nine)) in
    let range = range_more (take l.k l.n) x l.invariant.3 (in_range_lem (take e.result (drop l.at line)) x xs) in
    let r = subst (λ (m : List ℕ). all in_range m ≡ true) (sym more) range in (
      omega (arith, k),
      length-set l.n l.k x ∙ nine,
      (let b = subst (λ (r : List ℕ). e.result ≤ length r) is e.ensures.1 in omega (arith, b, le, length-drop l.at line)),
      r,
      w.2 (take (l.k + 1) (set l.n l.k x)) r ∙ ap (λ (m : List ℕ). plan_after m (numbered w.0)) more ∙ sym (next_word (take l.k l.n) w.0 (take e.result (drop l.at line)) x xs) ∙ sym here ∙ l.invariant.4,
    )
