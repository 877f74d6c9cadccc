-- Long scripts by four seats. The first two: every call, every status, every refusal from 7 to 13, and for every two lines that can hold of one call a call of which both hold. The
-- third: the cases of W2. The fourth: those of W3. The fifth: those of W6. Together with the handover cases they tell the machine of the documents from its likely mistakes (crates/model/must-fail).
-- Assumes nothing.
use Prim.Native.Nat.{◌+◌, ◌^◌, ℕ}
use mathlib.Core.List.{[], ◌∷◌, map}
use mathlib.Core.Path.{◌≡◌, refl}
use lib.ListN.{replicate, take}
use Rattle.model.proofs.Play.{Case, ◌does◌, ◌says◌, case, everything, finds, states}
use Rattle.model.specs.History.{tree}
use Rattle.model.specs.Machine.{Add, ClearsCut, Commits, CommitsCut, Copy, Delete, Edit, Log, Move, Read, Revert, Show, Status, Update, bytes, done, fresh, logged, refused, revision, status, stopped}
use Rattle.model.specs.Run.{run}

-- 64 calls: statuses, a stale commit and update, a copy from an older revision, a move of part of a copy, and at the end a store without room
abbrev first : Case
first =
    case 12
    (1 does Add 0 (1 ∷ 2 ∷ 3 ∷ []) says done
    ∷ 1 does Add 31 [] says done
    ∷ 1 does Status 0 says status 5 0
    ∷ 1 does Commits 100 everything says revision 1
    ∷ 2 does Status 0 says status 8 1
    ∷ 2 does Update everything 1 says done
    ∷ 2 does Status 0 says status 1 1
    ∷ 3 does Update 1 1 says done
    ∷ 3 does Edit 0 (9 ∷ []) says done
    ∷ 3 does Status 0 says status 2 1
    ∷ 2 does Copy 0 7 says done
    ∷ 2 does Status 7 says status 7 0
    ∷ 2 does Edit 7 (5 ∷ 5 ∷ []) says done
    ∷ 2 does Commits 90 (2 ^ 7) says revision 2
    ∷ 3 does Commits 91 1 says revision 3
    ∷ 2 does Status 0 says status 3 3
    ∷ 2 does Edit 0 (8 ∷ []) says done
    ∷ 2 does Status 0 says status 4 3
    ∷ 2 does Commits 92 1 says refused 11
    ∷ 2 does Update 1 3 says refused 12
    ∷ 2 does Revert 1 says done
    ∷ 2 does Update 1 3 says done
    ∷ 2 does Show 0 says bytes (9 ∷ []) 0
    ∷ 4 does Update everything 2 says done
    ∷ 4 does Move 7 8 says done
    ∷ 4 does Move 0 9 says done
    ∷ 4 does Status 7 says status 6 2
    ∷ 4 does Status 6 says status 0 0
    ∷ 4 does Commits 93 (2 ^ 7 + 2 ^ 8) says revision 4
    ∷ 4 does Commits 94 everything says refused 11
    ∷ 4 does Commits 94 (2 ^ 9) says revision 5
    ∷ 1 does Read 5 9 says bytes (1 ∷ 2 ∷ 3 ∷ []) 5
    ∷ 1 does Read 1 0 says bytes (1 ∷ 2 ∷ 3 ∷ []) 1
    ∷ 1 does Read 3 0 says bytes (9 ∷ []) 3
    ∷ 1 does Read 4 7 says refused 8
    ∷ 1 does Log 4 8 says logged 4 93 2 4 7 2
    ∷ 1 does Log 2 7 says logged 2 90 1 4 0 1
    ∷ 1 does Log 0 0 says refused 7
    ∷ 1 does Log 1 7 says logged 1 100 2 0 0 0
    ∷ 4 does Delete 31 says done
    ∷ 4 does Show 31 says bytes [] 1
    ∷ 4 does Copy 31 30 says refused 8
    ∷ 4 does Copy 9 8 says refused 9
    ∷ 4 does Commits 7 (2 ^ 30) says refused 10
    ∷ 4 does Revert 1 says done
    ∷ 4 does Status 0 says status 3 3
    ∷ 3 does Add 4 (4 ∷ []) says done
    ∷ 3 does Edit 0 (10 ∷ []) says done
    ∷ 3 does Add 5 (5 ∷ []) says done
    ∷ 3 does Commits 0 everything says refused 13
    ∷ 3 does Commits 0 (2 ^ 4) says revision 6
    ∷ 3 does Status 0 says status 2 3
    ∷ 3 does Show 5 says bytes (5 ∷ []) 0
    ∷ 3 does Commits 0 (2 ^ 4) says refused 10
    ∷ 4 does Edit 0 (11 ∷ []) says done
    ∷ 4 does Commits 0 1 says refused 11
    ∷ 4 does Commits 0 0 says refused 7
    ∷ 4 does Edit 32 [] says refused 7
    ∷ 4 does Delete 32 says refused 7
    ∷ 4 does Copy 32 0 says refused 7
    ∷ 4 does Copy 0 32 says refused 7
    ∷ 4 does Move 30 0 says refused 8
    ∷ 4 does Show 32 says refused 7
    ∷ 4 does Status 32 says refused 7
    ∷ []) 12

-- 78 calls: copies of copies, deletes taken back, an update that keeps an edit, one to revision 0, and limits
abbrev second : Case
second =
    case 14
    (1 does Add 0 (1 ∷ []) says done
    ∷ 1 does Add 1 (2 ∷ []) says done
    ∷ 1 does Commits 0 everything says revision 1
    ∷ 1 does Copy 9 0 says refused 8
    ∷ 1 does Delete 1 says done
    ∷ 1 does Status 1 says status 6 1
    ∷ 1 does Show 1 says bytes (2 ∷ []) 1
    ∷ 1 does Commits 1 everything says revision 2
    ∷ 1 does Status 1 says status 0 2
    ∷ 1 does Show 1 says refused 8
    ∷ 1 does Copy 0 2 says done
    ∷ 1 does Copy 2 3 says done
    ∷ 1 does Commits 2 (2 ^ 3) says revision 3
    ∷ 1 does Log 3 3 says logged 1 2 1 4 0 1
    ∷ 1 does Delete 2 says done
    ∷ 1 does Status 2 says status 0 0
    ∷ 1 does Add 4 (7 ∷ []) says done
    ∷ 1 does Status 4 says status 5 0
    ∷ 1 does Delete 4 says done
    ∷ 1 does Status 4 says status 0 0
    ∷ 2 does Update everything 1 says done
    ∷ 2 does Status 1 says status 3 2
    ∷ 2 does Edit 0 (8 ∷ []) says done
    ∷ 2 does Update everything 3 says done
    ∷ 2 does Status 0 says status 2 1
    ∷ 2 does Status 1 says status 0 2
    ∷ 2 does Copy 0 5 says done
    ∷ 2 does Status 5 says status 7 0
    ∷ 2 does Commits 3 (2 ^ 5) says revision 4
    ∷ 2 does Log 4 5 says logged 2 3 1 4 0 3
    ∷ 3 does Add 0 (9 ∷ []) says done
    ∷ 3 does Update 1 4 says refused 12
    ∷ 3 does Update 1 99 says refused 7
    ∷ 3 does Commits 4 1 says refused 11
    ∷ 3 does Update (2 ^ 3) 4 says done
    ∷ 3 does Copy 3 5 says done
    ∷ 3 does Commits 4 (2 ^ 5) says refused 11
    ∷ 4 does Update 1 4 says done
    ∷ 4 does Status 3 says status 8 3
    ∷ 4 does Edit 0 (5 ∷ []) says done
    ∷ 4 does Revert 2 says done
    ∷ 4 does Show 0 says bytes (5 ∷ []) 0
    ∷ 4 does Delete 0 says done
    ∷ 4 does Revert 1 says done
    ∷ 4 does Status 0 says status 1 1
    ∷ 4 does Show 0 says bytes (1 ∷ []) 0
    ∷ 4 does Edit 0 (6 ∷ []) says done
    ∷ 4 does Commits 5 1 says revision 5
    ∷ 2 does Status 0 says status 4 5
    ∷ 2 does Revert 1 says done
    ∷ 2 does Status 0 says status 3 5
    ∷ 1 does Add 6 (1 ∷ []) says done
    ∷ 1 does Commits 6 everything says revision 6
    ∷ 1 does Commits 6 everything says refused 10
    ∷ 1 does Edit 6 (replicate 481 0) says refused 7
    ∷ 1 does Add 32 [] says refused 7
    ∷ 1 does Read 1 32 says refused 7
    ∷ 1 does Read 7 0 says refused 7
    ∷ 1 does Update everything 99 says refused 7
    ∷ 1 does Update 0 1 says refused 7
    ∷ 2 does Update everything 0 says done
    ∷ 2 does Status 5 says status 8 4
    ∷ 2 does Update everything 6 says done
    ∷ 2 does Move 6 7 says done
    ∷ 2 does Edit 7 (2 ∷ []) says done
    ∷ 2 does Move 0 8 says done
    ∷ 2 does Add 9 (3 ∷ []) says done
    ∷ 2 does Add 9 (4 ∷ []) says refused 9
    ∷ 2 does Add 9 (replicate 481 0) says refused 7
    ∷ 2 does Commits 8 everything says refused 13
    ∷ 2 does Revert 0 says refused 7
    ∷ 2 does Move 32 9 says refused 7
    ∷ 2 does Move 9 32 says refused 7
    ∷ 2 does Move 9 8 says refused 9
    ∷ 2 does Commits 8 (2 ^ 0 + 2 ^ 6 + 2 ^ 8) says revision 7
    ∷ 2 does Read 7 8 says bytes (6 ∷ []) 7
    ∷ 2 does Read 6 8 says refused 8
    ∷ 2 does Read 7 0 says refused 8
    ∷ []) 13

-- 61 calls, W2: the same edit, an edit that agrees with tree R and not with the last tree, and the other way round; added and copied entries that agree, an empty sheet, a sheet that
-- tree R lacks; a sheet that both seats deleted, bytes of the same length, and an entry that agrees beside a conflict
abbrev third : Case
third =
    case 16
    (1 does Add 0 (30 ∷ []) says done
    ∷ 1 does Add 1 [] says done
    ∷ 1 does Add 2 (7 ∷ []) says done
    ∷ 1 does Commits 0 everything says revision 1
    ∷ 2 does Update everything 1 says done
    ∷ 3 does Update everything 1 says done
    ∷ 4 does Update everything 1 says done
    ∷ 1 does Edit 0 (45 ∷ []) says done
    ∷ 2 does Edit 0 (45 ∷ []) says done
    ∷ 1 does Commits 1 everything says revision 2
    ∷ 2 does Status 0 says status 4 2
    ∷ 2 does Commits 2 everything says refused 11
    ∷ 2 does Update everything 2 says done
    ∷ 2 does Status 0 says status 1 2
    ∷ 2 does Commits 2 everything says refused 10
    ∷ 1 does Edit 0 (60 ∷ []) says done
    ∷ 1 does Commits 3 everything says revision 3
    ∷ 3 does Edit 0 (45 ∷ []) says done
    ∷ 3 does Update 1 3 says refused 12
    ∷ 3 does Update 1 2 says done
    ∷ 3 does Status 0 says status 3 3
    ∷ 4 does Edit 0 (60 ∷ []) says done
    ∷ 4 does Update 1 2 says refused 12
    ∷ 4 does Update 1 3 says done
    ∷ 4 does Status 0 says status 1 3
    ∷ 1 does Add 5 (9 ∷ 9 ∷ []) says done
    ∷ 1 does Copy 2 6 says done
    ∷ 1 does Commits 4 everything says revision 4
    ∷ 2 does Add 5 (9 ∷ 9 ∷ []) says done
    ∷ 2 does Commits 5 (2 ^ 5) says refused 11
    ∷ 2 does Add 6 (7 ∷ []) says done
    ∷ 2 does Update (2 ^ 5 + 2 ^ 6) 3 says done
    ∷ 2 does Status 5 says status 5 4
    ∷ 2 does Update everything 4 says done
    ∷ 2 does Status 5 says status 1 4
    ∷ 2 does Status 6 says status 1 4
    ∷ 2 does Commits 5 everything says refused 10
    ∷ 3 does Update (2 ^ 2) 4 says done
    ∷ 3 does Copy 2 6 says done
    ∷ 3 does Status 6 says status 7 4
    ∷ 3 does Commits 6 (2 ^ 6) says refused 11
    ∷ 3 does Update (2 ^ 6) 4 says done
    ∷ 3 does Status 6 says status 1 4
    ∷ 3 does Edit 6 (8 ∷ []) says done
    ∷ 3 does Commits 6 (2 ^ 6) says revision 5
    ∷ 3 does Log 5 6 says logged 3 6 1 2 0 0
    ∷ 1 does Delete 2 says done
    ∷ 1 does Add 8 [] says done
    ∷ 1 does Commits 7 everything says revision 6
    ∷ 4 does Delete 2 says done
    ∷ 4 does Update (2 ^ 2) 6 says refused 12
    ∷ 4 does Status 2 says status 6 6
    ∷ 4 does Add 8 [] says done
    ∷ 4 does Update (2 ^ 8) 5 says done
    ∷ 4 does Status 8 says status 5 6
    ∷ 4 does Add 5 (9 ∷ 8 ∷ []) says done
    ∷ 4 does Update (2 ^ 5 + 2 ^ 8) 6 says refused 12
    ∷ 4 does Status 8 says status 5 6
    ∷ 4 does Update (2 ^ 8) 6 says done
    ∷ 4 does Status 8 says status 1 6
    ∷ 4 does Status 5 says status 5 4
    ∷ []) 15

-- 51 calls, W3: a number below R, one below the newest; the number of a delete, and of the add after it; the source of a copy, which is not named; every status, with the last tree's number
-- and not the base's; bytes from the store, of an empty and of a deleted entry, and a seat's own; a refused commit, and an update back
abbrev fourth : Case
fourth =
    case 12
    (1 does Status 0 says status 0 0
    ∷ 1 does Add 0 (1 ∷ []) says done
    ∷ 1 does Add 1 (2 ∷ []) says done
    ∷ 1 does Commits 0 everything says revision 1
    ∷ 1 does Edit 0 (3 ∷ []) says done
    ∷ 1 does Status 0 says status 2 1
    ∷ 1 does Commits 1 everything says revision 2
    ∷ 1 does Read 1 0 says bytes (1 ∷ []) 1
    ∷ 1 does Read 2 0 says bytes (3 ∷ []) 2
    ∷ 1 does Read 2 1 says bytes (2 ∷ []) 1
    ∷ 1 does Delete 1 says done
    ∷ 1 does Status 1 says status 6 1
    ∷ 1 does Commits 2 everything says revision 3
    ∷ 1 does Status 1 says status 0 3
    ∷ 1 does Read 2 1 says bytes (2 ∷ []) 1
    ∷ 1 does Read 3 1 says refused 8
    ∷ 2 does Status 0 says status 8 2
    ∷ 2 does Status 1 says status 0 3
    ∷ 2 does Show 0 says bytes (3 ∷ []) 2
    ∷ 2 does Update everything 1 says done
    ∷ 2 does Status 0 says status 3 2
    ∷ 2 does Status 1 says status 3 3
    ∷ 2 does Show 0 says bytes (1 ∷ []) 0
    ∷ 2 does Edit 0 (9 ∷ []) says done
    ∷ 2 does Status 0 says status 4 2
    ∷ 2 does Delete 0 says done
    ∷ 2 does Status 0 says status 6 2
    ∷ 2 does Show 0 says bytes (3 ∷ []) 2
    ∷ 1 does Copy 0 5 says done
    ∷ 1 does Status 5 says status 7 0
    ∷ 1 does Commits 3 everything says revision 4
    ∷ 1 does Status 0 says status 1 2
    ∷ 1 does Status 5 says status 1 4
    ∷ 1 does Add 1 (7 ∷ []) says done
    ∷ 1 does Status 1 says status 5 3
    ∷ 1 does Show 1 says bytes (7 ∷ []) 0
    ∷ 1 does Commits 4 everything says revision 5
    ∷ 1 does Status 1 says status 1 5
    ∷ 1 does Read 5 1 says bytes (7 ∷ []) 5
    ∷ 1 does Move 5 6 says done
    ∷ 1 does Status 5 says status 6 4
    ∷ 1 does Commits 5 everything says revision 6
    ∷ 1 does Status 5 says status 0 6
    ∷ 1 does Status 6 says status 1 6
    ∷ 1 does Read 6 0 says bytes (3 ∷ []) 2
    ∷ 2 does Commits 6 everything says refused 11
    ∷ 2 does Status 0 says status 6 2
    ∷ 1 does Update everything 4 says done
    ∷ 1 does Status 1 says status 8 5
    ∷ 1 does Status 5 says status 3 6
    ∷ 1 does Show 5 says bytes (3 ∷ []) 0
    ∷ []) 11

-- W6. Two sheets are added; their commit has three writes. Cut after two it leaves a tail of two blocks and the entries as they were, so a commit gives 14, whatever n is; clearing is cut
-- after one write, after none, and is done by one more. Then the commit is refused with n = 0, cut after none and after one of its writes, cleared, and done with n enough. At the end
-- clearing without a tail, for which n = 0 is enough
abbrev fifth : Case
fifth =
    case 5
    (2 does Add 5 (65 ∷ []) says done
    ∷ 2 does Add 7 (66 ∷ []) says done
    ∷ 2 does CommitsCut 9 everything 2 says stopped
    ∷ 2 does Commits 9 everything says refused 14
    ∷ 2 does CommitsCut 9 everything 3 says refused 14
    ∷ 1 does CommitsCut 9 0 0 says refused 14
    ∷ 2 does Status 5 says status 5 0
    ∷ 1 does Read 0 5 says refused 8
    ∷ 1 does ClearsCut 1 says stopped
    ∷ 1 does ClearsCut 0 says stopped
    ∷ 3 does ClearsCut 1 says done
    ∷ 2 does CommitsCut 9 0 0 says refused 7
    ∷ 1 does CommitsCut 9 everything 0 says refused 10
    ∷ 2 does CommitsCut 9 everything 0 says stopped
    ∷ 2 does CommitsCut 9 everything 1 says stopped
    ∷ 4 does ClearsCut 9 says done
    ∷ 2 does Status 7 says status 5 0
    ∷ 2 does CommitsCut 9 everything 3 says revision 1
    ∷ 2 does Status 7 says status 1 1
    ∷ 2 does Add 8 [] says done
    ∷ 2 does CommitsCut 10 everything 0 says refused 13
    ∷ 2 does ClearsCut 0 says done
    ∷ [])
    4

-- one check over the rows
pub scripts : map finds (first ∷ second ∷ third ∷ fourth ∷ fifth ∷ []) ≡ map states (first ∷ second ∷ third ∷ fourth ∷ fifth ∷ [])
unfolding tree
scripts = refl

-- the tail's blocks after the first n calls of the fifth
abbrev tail_after : ℕ → ℕ
tail_after n = (run (fresh 5) (map (λ r. r.turn) (take n fifth.rows))).tail

pub tails_after : map tail_after (2 ∷ 3 ∷ 9 ∷ 10 ∷ 11 ∷ 14 ∷ 15 ∷ 16 ∷ 18 ∷ []) ≡ 0 ∷ 2 ∷ 1 ∷ 1 ∷ 0 ∷ 0 ∷ 1 ∷ 0 ∷ 0 ∷ []
unfolding tree
tails_after = refl
