-- The buffers of a day, at the end of step t, and the calls of a holder whose time is over: neither writing nor the commit is refused.
-- Assumes nothing.
use Prim.Native.Nat.{◌*◌, ◌+◌, ◌-◌, ◌<◌, ◌^◌, ◌≤◌, suc, ℕ}
use mathlib.Core.Bool.{Bool, ◌&&◌, true}
use mathlib.Core.List.{List, [], ◌++◌, ◌∷◌}
use mathlib.Core.Logic.{◌⊎◌, inl, inr}
use mathlib.Core.Option.{Option, none}
use mathlib.Core.Path.{◌∙◌, ◌≡◌, ap, ap₂, refl, subst, sym}
use native.Mathlib.Omega.{arith}
use borrow.Author.Tests.{eq-eqb}
use lib.Dec.{eqb}
use lib.ListN.{get_or, length, replicate, set}
use lib.Seq.{get_or-set_other, get_or-set_same}
use Rattle.block.proofs.Says.{eq_or}
use Rattle.block.specs.Field.{two}
use Rattle.block.specs.Lists.{All}
use Rattle.turns.proofs.Queues.{Right}
use Rattle.turns.proofs.Form.{form_is, queue_is}
use Rattle.model.specs.Calls.{Buffers, after_turn, fresh_buffers, turn_on}
use Rattle.model.specs.Codec.{pad_to}
use Rattle.model.specs.Demand3.{copy_in}
use Rattle.model.specs.Entry.{Entry, empty, normal}
use Rattle.model.specs.History.{Change, History, last, made, newest}
use Rattle.turns.specs.InTurn.{in_turn_call, own_in_turn}
use Rattle.model.specs.Invariant.{Kept}
use Rattle.model.specs.Machine.{Answer, Call, Commits, Side, State, doing, done, put, revision, side_of}
use Rattle.model.specs.Refusals.{first_of}
use Rattle.rehearsal.specs.RehearsalCalls.{no_tally, one_commit, row_in, writing}
use Rattle.rehearsal.specs.declared.Tally.{Tally}
use Rattle.model.specs.Run.{Turn, Typed, Valid, own_conditions, step, step_by}
use Rattle.model.specs.Shows.{Shows}
use Rattle.turns.specs.Turns.{Queue, holder, in_form, queue_of}
use Rattle.laws.proofs.Fresh.{fresh-shows}
use Rattle.turns.proofs.Mixed.{commit-agrees, commit-kept, left_as}
use Rattle.turns.proofs.InTurn.{own_by_holder}
use Rattle.laws.proofs.Invariant.{kept_fresh, kept_step}
use Rattle.laws.proofs.Rows.{cond-any}
use Rattle.laws.proofs.Steps.{one-step}
use Rattle.laws.proofs.Trees.{sheet-zero}
use Rattle.rehearsal.proofs.OwnSheet.{Own, Ready, commit-clear, commit-does, commit_of, other-sheet, own, own-grown, own_later, own-made, own-sheet, seat-any, side, wide_naming, written_so}

abbrev pub state_of : ℕ → History → List (List Entry) → State
state_of u h l = record { blocks = 121; used = u; tail = 0; history = h; marks = []; seats = l }

-- the buffers show a state in which every seat has its own sheet, as its commits left it, and a step takes two blocks at most
pub record Written (t : ℕ) (b : Buffers) (rows : List Tally) : Type 0 where
  pub used : ℕ
  pub history : History
  pub seats : List (List Entry)
  pub shows : Shows 121 b (state_of used history seats)
  pub kept : Kept (state_of used history seats)
  pub few : used ≤ 2 * t + 1
  pub each : (k : ℕ) → 1 ≤ k → k ≤ 4 → (e : Entry) × (get_or seats (k - 1) [] ≡ own k e) × Own t history k (row_in rows k).commits e

pub fresh-written : Written 0 (fresh_buffers 121) (replicate 4 no_tally)
fresh-written = record {
  used = 1;
  history = [];
  seats = replicate 4 (replicate 32 empty);
  shows = fresh-shows 121 (omega arith) (omega arith);
  kept = kept_fresh 121 (omega arith);
  few = omega arith;
  each = seat-any (λ (k : ℕ). (e : Entry) × (get_or (replicate 4 (replicate 32 empty)) (k - 1) [] ≡ own k e) × Own 0 [] k (row_in (replicate 4 no_tally) k).commits e)
      (empty, refl, (refl, sheet-zero [] 1)) (empty, refl, (refl, sheet-zero [] 2)) (empty, refl, (refl, sheet-zero [] 3)) (empty, refl, (refl, sheet-zero [] 4));
}

-- rows with the same commits
pub written-rows : (t : ℕ) (b : Buffers) (l m : List Tally) → ((k : ℕ) → (row_in m k).commits ≡ (row_in l k).commits) → Written t b l → Written t b m
written-rows t b l m e W = record {
  used = W.used;
  history = W.history;
  seats = W.seats;
  shows = W.shows;
  kept = W.kept;
  few = W.few;
  each = λ k lo hi. let E = W.each k lo hi in (E.0, E.1, subst (λ (n : ℕ). Own t W.history k n E.0) (sym (e k)) E.2);
}

-- a step later
pub written_later : (t : ℕ) (b : Buffers) (l : List Tally) → Written t b l → Written (suc t) b l
written_later t b l W = record {
  used = W.used;
  history = W.history;
  seats = W.seats;
  shows = W.shows;
  kept = W.kept;
  few = (let n = W.few in omega (arith, n));
  each = λ k lo hi. let E = W.each k lo hi in (E.0, E.1, own_later t W.history k (row_in l k).commits E.0 E.2);
}

-- ---- a step of the machine that no line refuses

abbrev answered : State → ℕ → Call → Side → Answer × State
answered s k c d = ((doing d c).0, put s k (doing d c).1)

step_so : (s : State) (k : ℕ) (c : Call) (d : Side) → side_of s k ≡ d → first_of (own_conditions d c) ≡ none → step s k c ≡ answered s k c d
step_so s k c d e n =
    ap (λ (o : Option ℕ). step_by o s k c) (ap (λ (x : Side). first_of (own_conditions x c)) e ∙ n) ∙ ap (answered s k c) e

-- ---- the holder k, before the queue q, writes its sheet and commits it at step t + 1

module _ (t : ℕ) (b : Buffers) (rows : List Tally) (W : Written t b rows) (four : length rows ≡ 4) (k : ℕ) (q : Queue) (lo : 1 ≤ k) (hi : k ≤ 4) (R : Right (k ∷ q)) (soon : t < 60) where
  abbrev s : State
  s = state_of W.used W.history W.seats

  abbrev mine : Entry → Side
  mine e = side k W.used W.history e

  abbrev now : ℕ
  now = suc t

  -- the first call
  abbrev first : Turn
  first = writing now k (row_in rows k)

  pub valid : Valid first
  valid =
      let y : All (λ (y : ℕ). y < 256) (two now []) = (omega arith, (omega arith, tt)) in
      record { low = lo; high = hi; typed = cond-any Typed (eqb (row_in rows k).commits 0) (λ e. y) (λ e. y) }

  writes : (e : Entry) × (first_of (own_conditions (mine (W.each k lo hi).0) first.call) ≡ none)
      × (◌≡◌ {A = Answer × Side} (doing (mine (W.each k lo hi).0) first.call) (done, mine e)) × Ready now W.history k e
  writes = let E = W.each k lo hi in written_so t W.used k W.history lo hi soon (row_in rows k).commits E.0 E.2

  abbrev s₁ : State
  s₁ = state_of W.used W.history (set W.seats (k - 1) (own k writes.0))

  wrote : step s k first.call ≡ (done, s₁)
  wrote =
      step_so s k first.call (mine (W.each k lo hi).0)
      (ap (λ (l : List Entry). record { seat = k; blocks = 121; used = W.used; tail = 0; history = W.history; marks = []; entries = l }) (W.each k lo hi).1) writes.1
      ∙ ap (λ (x : Answer × Side). (x.0, put s k x.1)) writes.2

  abbrev b₁ : Buffers
  b₁ = after_turn b first

  pub says-done : (turn_on b first).says ≡ done
  says-done = (one-step 121 b s first W.shows W.kept valid).0 ∙ ap (λ (x : Answer × State). x.0) wrote

  shows₁ : Shows 121 b₁ s₁
  shows₁ = subst (λ (x : Answer × State). Shows 121 b₁ x.1) wrote (one-step 121 b s first W.shows W.kept valid).1

  kept₁ : Kept s₁
  kept₁ = subst (λ (x : Answer × State). Kept x.1) wrote (kept_step s first valid W.kept)

  -- the commit
  abbrev does : Change
  does = writes.3.does

  abbrev h₂ : History
  h₂ = W.history ++ (commit_of k now does ∷ [])

  abbrev new : Entry
  new = normal (suc (last W.history)) (two now [])

  abbrev s₂ : State
  s₂ = state_of (W.used + 2) h₂ (set (set W.seats (k - 1) (own k writes.0)) (k - 1) (own k new))

  abbrev turn : List ℕ
  turn = pad_to 4 (k ∷ q)

  holds-turn : (in_form turn && eqb (holder (queue_of turn)) k) ≡ true
  holds-turn = ap₂ (λ (f : Bool) (l : Queue). f && eqb (holder l) k) (form_is (k ∷ q) R) (queue_is (k ∷ q) R) ∙ eq-eqb k k refl

  four₁ : length (set W.seats (k - 1) (own k writes.0)) ≡ 4
  four₁ = kept₁.four

  side₁ : side_of s₁ k ≡ mine writes.0
  side₁ =
      ap (λ (l : List Entry). record { seat = k; blocks = 121; used = W.used; tail = 0; history = W.history; marks = []; entries = l })
      (get_or-set_same W.seats (k - 1) (own k writes.0) [] (let f = W.kept.four in omega (arith, f)))

  committed : step_by (first_of (own_in_turn turn (side_of s₁ k) now (2 ^ k))) s₁ k (Commits now (2 ^ k)) ≡ (revision (suc (last W.history)), s₂)
  committed =
      ap (λ (o : Option ℕ). step_by o s₁ k (Commits now (2 ^ k)))
      (own_by_holder turn (side_of s₁ k) now (2 ^ k) holds-turn ∙ ap (λ (d : Side). first_of (own_conditions d (Commits now (2 ^ k)))) side₁
      ∙ commit-clear k now W.used W.history writes.0 lo hi writes.3 (let f = W.few in omega (arith, f)))
      ∙ ap (answered s₁ k (Commits now (2 ^ k))) side₁
      ∙ ap (λ (d : Side). (revision (suc (last W.history)), put s₁ k d)) (commit-does k now W.used W.history writes.0 lo hi writes.3)

  abbrev pub b₂ : Buffers
  b₂ = left_as b₁ k (in_turn_call b₁.store (copy_in b₁ k) turn now (2 ^ k))

  pub says-revision : (in_turn_call b₁.store (copy_in b₁ k) turn now (2 ^ k)).says ≡ revision (suc (last W.history))
  says-revision = (commit-agrees 121 b₁ s₁ shows₁ kept₁ turn k now (2 ^ k) lo hi (omega arith)).0 ∙ ap (λ (x : Answer × State). x.0) committed

  shows₂ : Shows 121 b₂ s₂
  shows₂ = subst (λ (x : Answer × State). Shows 121 b₂ x.1) committed (commit-agrees 121 b₁ s₁ shows₁ kept₁ turn k now (2 ^ k) lo hi (omega arith)).1

  kept₂ : Kept s₂
  kept₂ = subst (λ (x : Answer × State). Kept x.1) committed (commit-kept 121 b₁ s₁ shows₁ kept₁ turn k now (2 ^ k) lo hi (omega arith))

  abbrev rows₂ : List Tally
  rows₂ = set rows (k - 1) (one_commit (row_in rows k))

  abbrev After : ℕ → Type 0
  After j = (e : Entry) × (get_or s₂.seats (j - 1) [] ≡ own j e) × Own now h₂ j (row_in rows₂ j).commits e

  after-own : After k
  after-own = (
    new,
    get_or-set_same s₁.seats (k - 1) (own k new) [] (let f = four₁ in omega (arith, f)),
    subst (λ (r : Tally). Own now h₂ k r.commits new) (sym (get_or-set_same rows (k - 1) (one_commit (row_in rows k)) no_tally (omega (arith, four))))
        (own-made now W.history (commit_of k now does) W.kept.sound (wide_naming k now does lo hi) k (row_in rows k).commits
        (ap (λ (a : Change). made a (newest W.history k)) (own-sheet k now does lo hi) ∙ writes.3.makes (newest W.history k))),
  )

  after-other : (j : ℕ) → 1 ≤ j → j ≤ 4 → (j ≡ k → ⊥) → After j
  after-other j jl jh ne =
      let E = W.each j jl jh in
      let apart : j - 1 ≡ k - 1 → ⊥ = λ e. ne (omega (arith, e)) in (
        E.0,
        get_or-set_other s₁.seats (k - 1) (j - 1) (own k new) [] apart ∙ get_or-set_other W.seats (k - 1) (j - 1) (own k writes.0) [] apart ∙ E.1,
        subst (λ (r : Tally). Own now h₂ j r.commits E.0) (sym (get_or-set_other rows (k - 1) (j - 1) (one_commit (row_in rows k)) no_tally apart))
            (own-grown now W.history (commit_of k now does) W.kept.sound (wide_naming k now does lo hi) j (row_in rows j).commits E.0 (other-sheet k now j does ne)
            (own_later t W.history j (row_in rows j).commits E.0 E.2)),
      )

  after : (j : ℕ) → 1 ≤ j → j ≤ 4 → After j
  after j jl jh = go (eq_or j k)
    where
      go : (j ≡ k) ⊎ (j ≡ k → ⊥) → After j
      go (inl e) = subst After (sym e) after-own
      go (inr ne) = after-other j jl jh ne

  pub written_on : Written now b₂ rows₂
  written_on = record {
    used = W.used + 2;
    history = h₂;
    seats = s₂.seats;
    shows = shows₂;
    kept = kept₂;
    few = (let f = W.few in omega (arith, f));
    each = after;
  }
