-- A release that the machine makes, written after the used blocks, leaves the layout of the same commits with one release more.
-- Assumes nothing.
use Prim.Native.Nat.{◌*◌, ◌+◌, ◌-◌, ◌<◌, ◌^◌, ◌≤◌, ℕ}
use mathlib.Core.Bool.{false}
use mathlib.Core.List.{List, [], ◌++◌, ◌∷◌}
use mathlib.Core.Path.{◌∙◌, ◌≡◌, ap, refl, subst, sym}
use native.Mathlib.Omega.{arith}
use lib.ListN.{drop, length, length-append, length-drop, take, take-append-drop}
use lib.Seq.{length-take-le}
use Rattle.block.proofs.Writing.{written_at}
use Rattle.block.specs.Buffer.{with_block}
use Rattle.block.specs.Lists.{All}
use Rattle.block.specs.Write.{written}
use Rattle.model.specs.Blocks.{Block, FitsBlock, blank, fields_of, mark}
use Rattle.model.specs.Codec.{encode, joined}
use Rattle.model.specs.History.{Bytes, History, last}
use Rattle.model.specs.Layout.{LaysFrom, LaysLog}
use Rattle.model.specs.Log.{Log, Mark, Marked, a_mark, among, commits, marks, released, releases}
use Rattle.model.specs.Pass.{log_all}
use Rattle.model.specs.Store.{Holds, HoldsLog, blanks, blocks_of, front}
use Rattle.model.specs.Tail.{Stored}
use Rattle.model.specs.Writing.{with_mark}
use Rattle.laws.proofs.Acceptance.{lays_accepted, logs-accepted}
use Rattle.laws.proofs.All.{all_append, all_drop, all_left, all_right}
use Rattle.laws.proofs.Append.{append}
use Rattle.laws.proofs.Codec.{length-encode}
use Rattle.laws.proofs.Cutting.{block_written}
use Rattle.laws.proofs.Logs.{commits-mark, marked_more, marks-mark}
use Rattle.laws.proofs.Parts.{joined-append}
use Rattle.laws.proofs.WorkCopy.{length-joined}
use Rattle.laws.proofs.Writing.{Blocks, blank-rest, blocks-back, front-append, front-blanks, front-none, holds-blocks, holds-log, no_blank, some-used, trees_in}

-- a release of revision R that no line refuses: "It names a revision from 1 to the last before it, none twice"
pub record Releasable (N : ℕ) (store : Bytes) (h : History) (used R seat stamp : ℕ) : Type 0 where
  pub stored : Stored N store h used
  pub short : last h < 65_536
  pub low : 1 ≤ R
  pub high : R ≤ last h
  pub seat-low : 1 ≤ seat
  pub seat-high : seat ≤ 4
  pub small : stamp < 2 ^ 32
  pub new : among R (releases (marks (log_all (blocks_of N store)))) ≡ false
  pub room : used + 1 ≤ N

module _ (N : ℕ) (store : Bytes) (h : History) (used R seat stamp : ℕ) (L : Releasable N store h used R seat stamp) where
  abbrev m : Mark
  m = released R seat stamp

  abbrev bs : List Block
  bs = blocks_of N store

  abbrev rest : List Block
  rest = drop 1 (blanks bs)

  B : Blocks N store h bs
  B = holds-blocks N store h L.stored.holds

  blank-all : All (λ (b : Block). b ≡ blank) (blanks bs)
  blank-all = blank-rest bs (lays_accepted bs h B.lays).0

  pub blank-left : All (λ (b : Block). b ≡ blank) rest
  blank-left = all_drop (λ (b : Block). b ≡ blank) 1 (blanks bs) blank-all

  lengths : length (front bs) + length (blanks bs) ≡ N
  lengths = sym (length-append (front bs) (blanks bs)) ∙ ap length (front-blanks bs) ∙ B.count

  lays : (g : Log) → LaysLog bs g → LaysLog (with_mark bs m) (g ++ (a_mark m ∷ []))
  unfolding LaysFrom
  lays g G =
      append (front bs) (blanks bs) (mark m ∷ rest) g (a_mark m ∷ []) (no_blank bs) blank-all (some-used bs h B.lays) (subst (λ (x : List Block). LaysLog x g) (sym (front-blanks bs)) G)
      (rest, refl, ((L.low, omega (arith, L.high, (trees_in bs h B.lays).count)), (L.seat-low, L.seat-high)), blank-left)

  fits : All FitsBlock (with_mark bs m)
  fits =
      let split : All FitsBlock (front bs ++ blanks bs) = subst (All FitsBlock) (sym (front-blanks bs)) B.fit in
      all_append FitsBlock (front bs) (mark m ∷ rest) (all_left FitsBlock (front bs) (blanks bs) split)
      ((omega (arith, L.high, L.short), omega (arith, L.seat-high), L.small), all_drop FitsBlock 1 (blanks bs) (all_right FitsBlock (front bs) (blanks bs) split))

  size : length (with_mark bs m) ≡ N
  size =
      let a : length (front bs ++ (mark m ∷ rest)) ≡ length (front bs) + length (mark m ∷ rest) = length-append (front bs) (mark m ∷ rest) in
      let b : length rest ≡ length (blanks bs) - 1 = length-drop 1 (blanks bs) in
      omega (arith, a, b, lengths, L.stored.uses, L.room)

  -- what is read back
  pub blocks-mark : blocks_of N (joined fields_of (with_mark bs m)) ≡ with_mark bs m
  blocks-mark = blocks-back N (with_mark bs m) size fits

  pub front-mark : front (blocks_of N (joined fields_of (with_mark bs m))) ≡ front bs ++ (mark m ∷ [])
  front-mark =
      ap front blocks-mark ∙ front-append (front bs) (mark m ∷ rest) (no_blank bs) ∙ ap (λ (x : List Block). front bs ++ (mark m ∷ x)) (front-none rest blank-left)

  -- THE STATEMENT
  pub stored-mark : Stored N (joined fields_of (with_mark bs m)) h (used + 1)
  unfolding Holds HoldsLog
  stored-mark =
      let g : Log = L.stored.holds.0 in
      let G = holds-log N store g L.stored.holds.2 in
      let is : log_all bs ≡ g = (logs-accepted bs g G.lays).1 in
      record {
        holds = (
          g ++ (a_mark m ∷ []),
          commits-mark g m ∙ L.stored.holds.1,
          (
            with_mark bs m,
            size,
            fits,
            refl,
            lays g G.lays,
            subst Marked (sym (marks-mark g m)) (marked_more (marks g) (last (commits g)) R seat stamp G.marked (subst (λ (x : Log). among R (releases (marks x)) ≡ false) is L.new)),
          ),
        );
        uses =
            ap length front-mark ∙ length-append (front bs) (mark m ∷ []) ∙ ap (λ (n : ℕ). n + 1) L.stored.uses;
      }

  -- it stands last among commits and marks
  pub log-mark : log_all (blocks_of N (joined fields_of (with_mark bs m))) ≡ log_all bs ++ (a_mark m ∷ [])
  unfolding Holds
  log-mark =
      let g : Log = L.stored.holds.0 in
      let G = holds-log N store g L.stored.holds.2 in
      ap log_all blocks-mark ∙ (logs-accepted (with_mark bs m) (g ++ (a_mark m ∷ [])) (lays g G.lays)).1
      ∙ ap (λ (x : Log). x ++ (a_mark m ∷ [])) (sym (logs-accepted bs g G.lays).1)

  -- on bytes it is one block, in the place of block U
  pub mark-written : joined fields_of (with_mark bs m) ≡ with_block store used (encode fields_of (mark m))
  mark-written =
      let fr = front bs in
      let bl = blanks bs in
      let n : length (take 1 bl) ≡ 1 = length-take-le 1 bl (omega (arith, lengths, L.stored.uses, L.room)) in
      let whole : length store ≡ 512 * N = ap length (sym B.bytes) ∙ omega (arith, length-joined fields_of bs, B.count) in
      let was : store ≡ joined fields_of fr ++ (joined fields_of (take 1 bl) ++ joined fields_of (drop 1 bl)) =
      sym B.bytes ∙ ap (joined fields_of) (sym (front-blanks bs) ∙ ap (λ (x : List Block). fr ++ x) (sym (take-append-drop 1 bl))) ∙ joined-append fields_of fr (take 1 bl ++ drop 1 bl)
      ∙ ap (λ (x : List ℕ). joined fields_of fr ++ x) (joined-append fields_of (take 1 bl) (drop 1 bl)) in
      joined-append fields_of fr (mark m ∷ drop 1 bl)
      ∙ sym (block_written store used (encode fields_of (mark m)) (length-encode fields_of (mark m)) (omega (arith, whole, L.room)) ∙ ap (written (512 * used) (encode fields_of (mark m))) was
      ∙ written_at (512 * used) (joined fields_of fr) (joined fields_of (take 1 bl)) (encode fields_of (mark m)) (joined fields_of (drop 1 bl)) (omega (arith, length-joined fields_of fr, L.stored.uses))
      (omega (arith, length-joined fields_of (take 1 bl), n, length-encode fields_of (mark m))))
