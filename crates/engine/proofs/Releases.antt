-- W9 of document 02 for the code: "The panel must show what was released, engineers must see all." What whoever calls a function learns is taken from that function's own contract
-- (`Learnt`, in `Made`), of which no text is repeated here, and that the code meets the contracts (`met`) stands in the same record. What lists of calls leave and find is in Demand3
-- (`panel`, `lasting-panel`), the bytes in Ordered, power cuts in Cut and PowerCuts.
-- Assumes nothing.
use Rattle.std.specs.Prelude.{Result}
use Prim.Native.Nat.{◌+◌, ◌<◌, ◌^◌, ◌≤◌, ℕ}
use mathlib.Core.Bool.{◌||◌, not, true}
use mathlib.Core.List.{List, [], ◌++◌, ◌∷◌}
use mathlib.Core.Logic.{◌↔◌, inl, inr}
use mathlib.Core.Option.{none}
use mathlib.Core.Path.{◌∙◌, ◌≡◌, ap, refl, subst, sym}
use native.Mathlib.Omega.{arith}
use denote.Ref.{Bor}
use contract.Lifetimes.{Lfts}
use lib.Dec.{eqb, ltb}
use lib.ListN.{drop, take}
use Rattle.model.specs.Calls.{Out, call, no_place, panel_place, part_of, read_place, store_conditions}
use Rattle.model.specs.History.{Bytes, last}
use Rattle.model.specs.Log.{Greatest, a_mark, among, greatest, released, releases}
use Rattle.model.specs.Machine.{Release, done, refused}
use Rattle.model.specs.Refusals.{Condition, First, ◌when◌, first_of, no_seat}
use Rattle.model.specs.Store.{block_count, store_history, store_log, store_marks, tail_of, used_of}
use Rattle.model.specs.Types.{answer_of, place_of}
use Rattle.model.specs.declared.Answer.{Answer}
use Rattle.model.specs.declared.Place.{Place}
use Rattle.laws.proofs.Conditions.{clear}
use Rattle.laws.proofs.CutRule.{cut_anywhere}
use Rattle.laws.proofs.Demand1.{demand_one, release_lines_lem}
use Rattle.laws.proofs.Logs.{greatest_is}
use Rattle.laws.proofs.Store.{used-held}
use Rattle.engine.proofs.Demand1.{CodeDemand1, code_demand_one}
use Rattle.engine.proofs.Demand3.{CodeDemand3, Made, code_demand_three, made_is}
use Rattle.engine.proofs.panel_place.Reads as panel-reads
use Rattle.engine.proofs.panel_read.Met as panel-read-met
use Rattle.engine.proofs.panel_read.Reads as panel-read-reads
use Rattle.engine.proofs.panel_read.Statement as panel-read-statement
use Rattle.engine.proofs.read.Met as read-met
use Rattle.engine.proofs.read.Reads as read-reads
use Rattle.engine.proofs.read.Statement as read-statement
use Rattle.engine.proofs.read_place.Reads as read-place-reads
use Rattle.model.specs.declared.Refusal.{Refusal}

-- THE STATEMENT

-- the lines of a release in their order: 1 to 3; "14 a store with a tail"; "7 covers 0 and a seat outside 1 to 4", and a revision above the last; "16, a release of a revision already
-- released, checked after 7"; "Refusal 13 covers its one block"
abbrev pub release_lines : Bytes → ℕ → ℕ → List Condition
release_lines store R seat =
    store_conditions store
    ++ (14 when not (eqb (tail_of store) 0) ∷ 7 when (no_seat seat || (eqb R 0 || ltb (last (store_history store)) R))
    ∷ 16 when among R (releases (store_marks store)) ∷ 13 when ltb (block_count store) (used_of store + 1) ∷ [])

-- a release was made: it stands last among commits and releases, "isn't a revision itself", and "its one block, by which U grows"
pub record Stands (store copy : Bytes) (R seat stamp : ℕ) (store' copy' : Bytes) : Type 0 where
  pub log : store_log store' ≡ store_log store ++ (a_mark (released R seat stamp) ∷ [])
  pub history : store_history store' ≡ store_history store
  pub used : used_of store' ≡ used_of store + 1
  pub beside : copy' ≡ copy

pub record CodeReleases : Type 2 where
  -- the functions meet their contracts, of which `Made` speaks; so do those that hand back the parts
  pub calls_meet : CodeDemand3
  pub looks_meet : CodeDemand1
  pub panel_read_meets : (M : Type 1) → panel-read-statement.statement M
  pub read_meets : (M : Type 1) → read-statement.statement M
  -- a release answers a number exactly if its line is the first that holds, and then nothing is changed
  pub numbered : {store copy store' copy' : Bytes} {R seat stamp : ℕ} {r : Result Answer Refusal} → Made store copy (Release R seat stamp) r store' copy'
      → (n : ℕ) → (answer_of r ≡ refused n) ↔ First (release_lines store R seat) n
  pub unchanged : {store copy store' copy' : Bytes} {R seat stamp : ℕ} {r : Result Answer Refusal} → Made store copy (Release R seat stamp) r store' copy'
      → (n : ℕ) → answer_of r ≡ refused n → (store' ≡ store) × (copy' ≡ copy)
  -- else it is made
  pub made : {store copy store' copy' : Bytes} {R seat stamp : ℕ} {r : Result Answer Refusal} → Made store copy (Release R seat stamp) r store' copy' → stamp < 2 ^ 32
      → answer_of r ≡ done → Stands store copy R seat stamp store' copy'
  -- "A panel reading R gets what read, or its companion, gives at the greatest released revision up to R": x is that revision, 0 where there is none
  pub places : (store : Bytes) (R i x : ℕ) → R ≤ last (store_history store) → Greatest R (releases (store_marks store)) x
      → (κs λs : Lfts 1) (s s' t t' : Bor Bytes) (r q : Result Place Refusal) → s.now ≡ store → t.now ≡ store
      → panel-reads.Learnt κs (s, (R, (i, tt))) r (s', (R, (i, tt))) → read-place-reads.Learnt λs (t, (x, (i, tt))) q (t', (x, (i, tt))) → place_of r ≡ place_of q
  pub parts : (store : Bytes) (R i x : ℕ) → R ≤ last (store_history store) → Greatest R (releases (store_marks store)) x
      → (κs λs : Lfts 1) (s s' t t' r q : Bor Bytes) → s.now ≡ store → t.now ≡ store
      → panel-read-reads.Learnt κs (s, (R, (i, tt))) r (s', (R, (i, tt))) → read-reads.Learnt λs (t, (x, (i, tt))) q (t', (x, (i, tt))) → r.now ≡ q.now
  -- "and refusal 8 if there is none"
  pub none-released : (store : Bytes) (R i : ℕ) → first_of (store_conditions store) ≡ none → R ≤ last (store_history store) → i ≤ 31
      → ((x : ℕ) → among x (releases (store_marks store)) ≡ true → x ≤ R → ⊥)
      → (κs : Lfts 1) (s s' : Bor Bytes) (r : Result Place Refusal) → s.now ≡ store → panel-reads.Learnt κs (s, (R, (i, tt))) r (s', (R, (i, tt))) → place_of r ≡ no_place 8

-- THE PROOF

-- there is one greatest
greatest-one : (R : ℕ) (xs : List ℕ) (x y : ℕ) → Greatest R xs x → Greatest R xs y → x ≤ y
greatest-one R xs x y G H = elim G.one_of [ inl e ↦ omega (arith, e) | inr e ↦ H.most x e G.up_to ]

is_greatest : (R : ℕ) (xs : List ℕ) (x : ℕ) → Greatest R xs x → x ≡ greatest R xs
is_greatest R xs x G = omega (arith, greatest-one R xs x (greatest R xs) G (greatest_is R xs), greatest-one R xs (greatest R xs) x (greatest_is R xs) G)

panel_at : (store : Bytes) (R i x : ℕ) → R ≤ last (store_history store) → Greatest R (releases (store_marks store)) x → panel_place store R i ≡ read_place store x i
panel_at store R i x le G = (demand_one store []).panel_place_holds R i le ∙ ap (λ (k : ℕ). read_place store k i) (sym (is_greatest R (releases (store_marks store)) x G))

stands : (store copy : Bytes) (R seat stamp : ℕ) {o : Out} → stamp < 2 ^ 32 → o ≡ call store copy (Release R seat stamp) → o.says ≡ done
    → Stands store copy R seat stamp o.store o.copy
stands store copy R seat stamp small e q =
    let lines = release_lines_lem store copy R seat stamp (sym (ap (λ (o : Out). o.says) e) ∙ q) in
    let C = ((cut_anywhere store copy).releases R seat stamp small lines).found _ (0, omega arith, inr (inl refl)) in
    let M = (demand_one store copy).releases R seat stamp small lines in
    subst (λ (o : Out). Stands store copy R seat stamp o.store o.copy) (sym e)
    (record {
      log = C.exactly.1 refl;
      history = C.history;
      used = used-held (block_count store) _ (store_history store) (used_of store + 1) (tail_of store) M.holds;
      beside = refl;
    })

pub code_releases : CodeReleases
code_releases = record {
  calls_meet = code_demand_three;
  looks_meet = code_demand_one;
  panel_read_meets = λ M. panel-read-met.met;
  read_meets = λ M. read-met.met;
  numbered = λ {store} {copy} {store'} {copy'} {R} {seat} {stamp} {r} m n. (code_demand_one.changes m).numbered n;
  unchanged = λ m n e. let s = (code_demand_one.changes m).stays n e in (ap (λ (o : Out). o.store) s, ap (λ (o : Out). o.copy) s);
  made = λ {store} {copy} {store'} {copy'} {R} {seat} {stamp} m small q. stands store copy R seat stamp small (made_is m) q;
  places = λ store R i x le G κs λs s s' t t' r q es et k l.
      k.is ∙ ap (λ (y : Bytes). panel_place y R i) es ∙ panel_at store R i x le G ∙ ap (λ (y : Bytes). read_place y x i) (sym et) ∙ sym l.is;
  parts = λ store R i x le G κs λs s s' t t' r q es et k l.
      k.bytes ∙ ap (λ (y : Bytes). take (part_of (panel_place y R i)).1 (drop (part_of (panel_place y R i)).0 y)) es
      ∙ ap (λ p. take (part_of p).1 (drop (part_of p).0 store)) (panel_at store R i x le G)
      ∙ ap (λ (y : Bytes). take (part_of (read_place y x i)).1 (drop (part_of (read_place y x i)).0 y)) (sym et) ∙ sym l.bytes;
  none-released = λ store R i t le small n κs s s' r es k.
      k.is ∙ ap (λ (y : Bytes). panel_place y R i) es ∙ (demand_one store []).panel-none R i (clear (store_conditions store) t) le small n;
}
