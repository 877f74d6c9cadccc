-- W1's order, computed on the blocks of a short history: as commit writes it, and a commit on blocks that were written in another order.
-- Assumes nothing.
use Prim.Native.Nat.{ℕ}
use mathlib.Core.Bool.{true}
use mathlib.Core.List.{List, [], ◌++◌, ◌∷◌}
use mathlib.Core.Path.{◌≡◌, ap, refl}
use native.Mathlib.Omega.{arith}
use lib.Dec.{lit≤}
use lib.ListN.{get_or, replicate, set}
use Rattle.model.specs.Blocks.{Block, Line, adds, blank, bytes_at, changes, commit, content, copies, deletes, label, mark}
use Rattle.model.specs.History.{Change, Commit, add, change, copy, delete, nothing, tree}
use Rattle.model.specs.Layout.{means, next}
use Rattle.model.specs.Log.{a_commit, a_mark, released}
use Rattle.model.specs.Order.{InOrder, RisingFrom, log_blocks}
use Rattle.model.specs.Pass.{laid, no_changes, ok, ok_from, read_all, read_from, rule, stated, tables_after, tables_of}
use Rattle.model.specs.Writing.{line_of, with_commit}

abbrev unchanged : List Change
unchanged = replicate 32 nothing

-- revision 1 adds sheets 5, 7 and 9
abbrev first : Commit
first = record { seat = 2; stamp = 7; changes = set (set (set unchanged 5 (add (65 ∷ []))) 7 (add (66 ∷ []))) 9 (add (67 ∷ [])) }

-- revision 2 changes 5, copies 7 as it is to 6, deletes 7, copies 9 with other bytes to 8, and adds 10, which is empty
abbrev second : Commit
second = record {
  seat = 1;
  stamp = 8;
  changes = set (set (set (set (set unchanged 5 (change (68 ∷ []))) 6 (copy 7 1 (66 ∷ []))) 7 delete) 8 (copy 9 1 (69 ∷ []))) 10 (add []);
}

-- its blocks, of which block 5 is the first, where sheet 7 of revision 1 uses block p
abbrev lines : ℕ → List Line
lines p = line_of 5 changes 5 0 0 ∷ line_of 6 copies p 7 1 ∷ line_of 7 deletes 0 0 0 ∷ line_of 8 copies 6 9 1 ∷ line_of 10 adds 7 0 0 ∷ []

abbrev pub behind : ℕ → List Block
behind p = content 2 (68 ∷ []) ∷ content 2 (69 ∷ []) ∷ content 2 [] ∷ commit 2 1 8 (lines p) ∷ []

-- as commit writes both
abbrev ordered : List Block
ordered =
    content 1 (65 ∷ []) ∷ content 1 (66 ∷ []) ∷ content 1 (67 ∷ [])
    ∷ commit 1 2 7 (line_of 5 adds 1 0 0 ∷ line_of 7 adds 2 0 0 ∷ line_of 9 adds 3 0 0 ∷ []) ∷ behind 2

-- the first commit in another order, of its changes and of its contents
abbrev pub other : List Block
other =
    label ∷ content 1 (67 ∷ []) ∷ content 1 (65 ∷ []) ∷ content 1 (66 ∷ [])
    ∷ commit 1 2 7 (line_of 7 adds 3 0 0 ∷ line_of 9 adds 1 0 0 ∷ line_of 5 adds 2 0 0 ∷ []) ∷ []

rises : (p : ℕ) → RisingFrom 0 (lines p)
rises p = (lit≤ tt, (lit≤ tt, (lit≤ tt, (lit≤ tt, (lit≤ tt, tt)))))

pub record Orders : Type 0 where
  -- both commits as the history gives them, a release among them at its place, and the second commit as it is written on `other`, whose blocks stay
  pub written : log_blocks [] (replicate 32 0 ∷ []) 1 (a_commit first ∷ a_commit second ∷ a_mark (released 1 3 9) ∷ []) ≡ ordered ++ (mark (released 1 3 9) ∷ [])
  pub committed : with_commit (other ++ replicate 6 blank) second ≡ other ++ (behind 3 ++ replicate 2 blank)
  -- `other` is accepted, and read as the history of the first commit
  pub accepted : ok (other ++ replicate 6 blank) ≡ true
  pub read : read_all (other ++ replicate 6 blank) ≡ first ∷ []
  -- the rule holds of what commit writes, on blocks in its order and on `other`
  pub kept : InOrder 5 3 (lines 2)
  pub kept-other : InOrder 5 3 (lines 3)
  -- and is broken by falling sheet numbers, by contents in another order than their changes, and by a copy that shares block 2 and takes a place
  pub falling : InOrder 1 2 (line_of 7 adds 1 0 0 ∷ line_of 5 adds 2 0 0 ∷ []) → ⊥
  pub exchanged : InOrder 1 2 (line_of 5 adds 2 0 0 ∷ line_of 7 adds 1 0 0 ∷ []) → ⊥
  pub placed : InOrder 5 2 (line_of 5 changes 5 0 0 ∷ line_of 6 copies 2 7 1 ∷ line_of 8 adds 7 0 0 ∷ []) → ⊥

pub orders : Orders
unfolding tree bytes_at next means ok ok_from rule laid read_all read_from stated no_changes tables_of tables_after
orders = record {
  written = refl;
  committed = refl;
  accepted = refl;
  read = refl;
  kept = record { rising = rises 2; contents = refl };
  kept-other = record { rising = rises 3; contents = refl };
  falling = λ r. omega (arith, r.rising.1.0);
  exchanged = λ r. let e : ◌≡◌ {A = ℕ} 2 1 = ap (λ (l : List ℕ). get_or l 0 0) r.contents in omega arith;
  placed = λ r. let e : ◌≡◌ {A = ℕ} 7 6 = ap (λ (l : List ℕ). get_or l 1 0) r.contents in omega arith;
}
