-- Demand 3 with the turn record for the code: any list of ordinary calls, calls on the record and commits through it, from a fresh store, four fresh copies and a free record. What whoever
-- calls a function learns is taken from that function's own contract (`Learnt`), as in Demand3, and that the code meets the contracts (`met`) stands in the same record.
-- Assumes nothing.
use Rattle.std.specs.Prelude.{Result}
use Prim.Native.Nat.{◌-◌, ◌≤◌, ℕ}
use mathlib.Core.List.{List, [], ◌++◌, ◌∷◌, map}
use mathlib.Core.Path.{◌∙◌, ◌≡◌, ap, ap₂, refl, subst, sym}
use contract.Lifetimes.{Lfts}
use denote.Ref.{MutBor}
use lib.ListN.{length, set}
use lib.Seq.{take-length}
use Rattle.model.specs.Calls.{Buffers, Out, fresh_buffers, out}
use Rattle.model.specs.Demand3.{Brings, Finds, NothingPending, PanelFinds, WholeList, copy_in}
use Rattle.model.specs.History.{Bytes, History}
use Rattle.model.specs.Log.{Placed}
use Rattle.model.specs.Machine.{Answer, Update, fresh}
use Rattle.model.specs.Run.{Turn, accepted, accepted_marks}
use Rattle.model.specs.Shows.{Shows}
use Rattle.model.specs.Types.{answer_of}
use Rattle.model.specs.declared.Answer.{Answer as TheAnswer}
use Rattle.turns.specs.InTurn.{in_turn_call}
use Rattle.turns.specs.Mixed.{Bench, Move, Said, ValidMoves, bench, commits, held, move_on, moved, moved_on, plain, said, said_by, said_on, table, through, turns, turns_in}
use Rattle.turns.specs.Turned.{held_of, record_of}
use Rattle.turns.specs.Turns.{TurnCall, free, numbers_of, turn_after}
use Rattle.turns.specs.declared.Held.{Held}
use Rattle.turns.specs.declared.TurnRecord.{TurnRecord}
use Rattle.turns.specs.declared.Turned.{Turned}
use Rattle.engine.proofs.commit_in_turn.Met as in-turn-met
use Rattle.engine.proofs.commit_in_turn.Reads as in-turn-reads
use Rattle.engine.proofs.commit_in_turn.Statement as in-turn-statement
use Rattle.engine.proofs.Demand3.{CodeDemand3, Made, PanelRead, Read, code_demand_three, made_is, panel_is, read_is}
use Rattle.turns.proofs.Mixed.{demand_three_in_turn}
use Rattle.turns.proofs.Traces.{CodeTurns, TurnMade, code_turns, left-made, turn-made_is}
use Rattle.model.specs.declared.Refusal.{Refusal}

-- THE STATEMENT

-- a commit through the record
pub data Through : Bytes → Bytes → TurnRecord → ℕ → ℕ → Result TheAnswer Refusal → Bytes → Bytes → Type 0 where
  commits_in_turn : {t : TurnRecord} {stamp mask : ℕ} {r : Result TheAnswer Refusal} (κs : Lfts 2) (x y x' y' : MutBor Bytes)
      → in-turn-reads.Learnt κs (x, (y, (t, (stamp, (mask, tt))))) r (x', (y', (t, (stamp, (mask, tt))))) → Through x.now y.now t stamp mask r x'.now y'.now

-- what an answer of either kind says
pub data Spoken : Type 0 where
  told : Answer → Spoken
  holds : Held → Spoken

abbrev pub spoken_of : Said → Spoken
spoken_of (said a) = told a
spoken_of (held a) = holds (held_of a)

-- a list of calls of every kind, what they answer, and the buffers and the record afterwards
pub data MixedTrace : Buffers → TurnRecord → List Move → List Spoken → Buffers → TurnRecord → Type 0 where
  over : {b : Buffers} {t : TurnRecord} → MixedTrace b t [] [] b t
  calls : {b b' : Buffers} {t t' : TurnRecord} {k : Turn} {ms : List Move} {r : Result TheAnswer Refusal} {ss : List Spoken} {store' copy' : Bytes}
      → Made b.store (copy_in b k.by) k.call r store' copy'
      → MixedTrace (record { store = store'; copies = set b.copies (k.by - 1) copy' }) t ms ss b' t' → MixedTrace b t (plain k ∷ ms) (told (answer_of r) ∷ ss) b' t'
  turning : {b b' : Buffers} {t t' : TurnRecord} {c : TurnCall} {ms : List Move} {r : Turned} {ss : List Spoken}
      → TurnMade t c r → MixedTrace b r.turn ms ss b' t' → MixedTrace b t (turns c ∷ ms) (holds r.answer ∷ ss) b' t'
  commits-through : {b b' : Buffers} {t t' : TurnRecord} {k stamp mask : ℕ} {ms : List Move} {r : Result TheAnswer Refusal} {ss : List Spoken} {store' copy' : Bytes}
      → Through b.store (copy_in b k) t stamp mask r store' copy'
      → MixedTrace (record { store = store'; copies = set b.copies (k - 1) copy' }) t ms ss b' t' → MixedTrace b t (commits k stamp mask ∷ ms) (told (answer_of r) ∷ ss) b' t'

-- of N blocks and the list ms, where ss are the answers, b and t what the calls leave, h the commits that were accepted among those that got through and ps the releases
pub record CodeMixedList (N : ℕ) (ms : List Move) (ss : List Spoken) (b : Buffers) (t : TurnRecord) (h : History) (ps : List Placed) : Type 0 where
  -- every answer, the history in the store, the entries in the copies and the record after it are those of the machine with a record beside it
  pub answer : ss ≡ map spoken_of (said_by (table (fresh N) free) ms)
  pub shows : Shows N b (moved (table (fresh N) free) ms).machine
  pub beside : numbers_of t ≡ (moved (table (fresh N) free) ms).turn
  -- the record follows from the calls on it alone
  pub turn : numbers_of t ≡ turn_after free (turns_in ms)
  -- "The history follows from the commits that got through."
  pub accepts : (moved (table (fresh N) free) ms).machine.history ≡ h
  pub marks : (moved (table (fresh N) free) ms).machine.marks ≡ ps
  -- of these commits demand 3 says what it says: "reading any sheet at R finds exactly the bytes that the first R accepted commits leave on an empty tree (or refusal 8)"
  pub found : (R i : ℕ) → R ≤ length h → i ≤ 31 → Read b.store h R i
  -- a panel finds the same at the greatest released revision up to R, or refusal 8
  pub panel : (R i : ℕ) → R ≤ length h → i ≤ 31 → PanelRead b.store h ps R i
  -- "an update to R by a seat with nothing pending brings each chosen sheet to the same"
  pub brought : (k mask R : ℕ) → 1 ≤ k → k ≤ 4 → (mask ≡ 0 → ⊥) → R ≤ length h → NothingPending b h k
      → {r : Result TheAnswer Refusal} {store' copy' : Bytes} → Made b.store (copy_in b k) (Update mask R) r store' copy' → Brings (out (answer_of r) store' copy') h mask R
  -- "and what is found at R stays so after every longer list", of calls of every kind
  pub lasting : {us : List Move} {qs : List Spoken} {b' : Buffers} {t' : TurnRecord} → ValidMoves us → MixedTrace b t us qs b' t'
      → (R i : ℕ) → R ≤ length h → i ≤ 31 → Read b'.store h R i
  pub lasting-panel : {us : List Move} {qs : List Spoken} {b' : Buffers} {t' : TurnRecord} → ValidMoves us → MixedTrace b t us qs b' t'
      → (R i : ℕ) → R ≤ length h → i ≤ 31 → PanelRead b'.store h (accepted_marks (fresh N) (through free (ms ++ us))) R i

pub record CodeDemand3InTurn : Type 2 where
  pub ordinary : CodeDemand3
  pub turns : CodeTurns
  pub in_turn_meets : (M : Type 1) → in-turn-statement.statement M
  pub whole : (N : ℕ) (ms : List Move) → 2 ≤ N → N ≤ 4_096 → ValidMoves ms → (ss : List Spoken) (b : Buffers) (t : TurnRecord)
      → MixedTrace (fresh_buffers N) (record_of free) ms ss b t → CodeMixedList N ms ss b t (accepted (fresh N) (through free ms)) (accepted_marks (fresh N) (through free ms))

-- THE PROOF

-- what a caller learns is the commit on buffers
pub through_is : {store copy store' copy' : Bytes} {t : TurnRecord} {stamp mask : ℕ} {r : Result TheAnswer Refusal} → Through store copy t stamp mask r store' copy'
    → out (answer_of r) store' copy' ≡ in_turn_call store copy (numbers_of t) stamp mask
through_is (commits_in_turn κs x y x' y' e) = e

traced : {b b' : Buffers} {t t' : TurnRecord} {ms : List Move} {ss : List Spoken} → MixedTrace b t ms ss b' t'
    → (ss ≡ map spoken_of (said_on (bench b (numbers_of t)) ms)) × (bench b' (numbers_of t') ≡ moved_on (bench b (numbers_of t)) ms)
traced over = (refl, refl)
traced (calls {b = b} {t = t} {k = k} {ms = ms} m more) =
    let e = made_is m in
    let q = traced more in
    let w = ap (λ (o : Out). bench (record { store = o.store; copies = set b.copies (k.by - 1) o.copy }) (numbers_of t)) e in
    (ap₂ (λ (a : Answer) (l : List Spoken). told a ∷ l) (ap (λ (o : Out). o.says) e) (q.0 ∙ ap (λ (x : Bench). map spoken_of (said_on x ms)) w), q.1 ∙ ap (λ (x : Bench). moved_on x ms) w)
traced (turning {b = b} {t = t} {c = c} {ms = ms} m more) =
    let e = turn-made_is m in
    let q = traced more in
    let w = ap (bench b) (left-made m) in
    (ap₂ (λ (r : Turned) (l : List Spoken). holds r.answer ∷ l) e (q.0 ∙ ap (λ (x : Bench). map spoken_of (said_on x ms)) w), q.1 ∙ ap (λ (x : Bench). moved_on x ms) w)
traced (commits-through {b = b} {t = t} {k = k} {ms = ms} m more) =
    let e = through_is m in
    let q = traced more in
    let w = ap (λ (o : Out). bench (record { store = o.store; copies = set b.copies (k - 1) o.copy }) (numbers_of t)) e in
    (ap₂ (λ (a : Answer) (l : List Spoken). told a ∷ l) (ap (λ (o : Out). o.says) e) (q.0 ∙ ap (λ (x : Bench). map spoken_of (said_on x ms)) w), q.1 ∙ ap (λ (x : Bench). moved_on x ms) w)

moved-append : (w : Bench) (ms us : List Move) → moved_on w (ms ++ us) ≡ moved_on (moved_on w ms) us
moved-append w [] us = refl
moved-append w (m ∷ ms) us = moved-append (move_on w m).1 ms us

pub code_demand_three_in_turn : CodeDemand3InTurn
code_demand_three_in_turn = record {
  ordinary = code_demand_three;
  turns = code_turns;
  in_turn_meets = λ M. in-turn-met.met;
  whole = λ N ms lo hi v ss b t T.
      let q = traced T in
      let h : History = accepted (fresh N) (through free ms) in
      let start : Bench = bench (fresh_buffers N) free in
      let W = demand_three_in_turn N ms lo hi v in
      let same : b ≡ (moved_on start ms).buffers = ap (λ (x : Bench). x.buffers) q.1 in
      let ps : List Placed = accepted_marks (fresh N) (through free ms) in
      let D : WholeList N (through free ms) b h ps = subst (λ (x : Buffers). WholeList N (through free ms) x h ps) (sym same) W.whole in
      record {
        answer = q.0 ∙ ap (map spoken_of) W.answer;
        shows =
            subst (λ (x : Buffers). Shows N x (moved (table (fresh N) free) ms).machine) (sym same)
            (subst (λ (l : List Move). Shows N (moved_on start l).buffers (moved (table (fresh N) free) l).machine) (take-length ms) (W.shows (length ms)));
        beside = ap (λ (x : Bench). x.turn) q.1 ∙ W.beside;
        turn = ap (λ (x : Bench). x.turn) q.1 ∙ W.turn;
        accepts = W.history;
        marks = W.marks;
        panel = λ R i le small. panel_is b.store h ps R i (D.panel R i le small);
        found = λ R i le small. read_is b.store h R i (D.found R i le small);
        brought = λ k mask R l g nz le np m. subst (λ (o : Out). Brings o h mask R) (sym (made_is m)) (D.brought k mask R l g nz le np);
        lasting = λ {us} {qs} {b'} {t'} w U R i le small.
            let p = (traced U).1 ∙ ap (λ (x : Bench). moved_on x us) q.1 ∙ sym (moved-append start ms us) in
            read_is b'.store h R i (subst (λ (x : Bench). Finds x.buffers h R i) (sym p) (W.lasting us w R i le small));
        lasting-panel = λ {us} {qs} {b'} {t'} w U R i le small.
            let p = (traced U).1 ∙ ap (λ (x : Bench). moved_on x us) q.1 ∙ sym (moved-append start ms us) in
            let qs : List Placed = accepted_marks (fresh N) (through free (ms ++ us)) in
            panel_is b'.store h qs R i (subst (λ (x : Bench). PanelFinds x.buffers h qs R i) (sym p) (W.lasting-panel us w R i le small));
      };
}
