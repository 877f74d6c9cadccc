-- Releases, computed: layouts kept and broken, and lists of calls with releases and panel readings.
-- Assumes nothing.
use Prim.Native.Nat.{ℕ}
use mathlib.Core.Bool.{Bool, ◌&&◌, false, true}
use mathlib.Core.List.{List, [], ◌++◌, ◌∷◌, map}
use mathlib.Core.Path.{◌≡◌, refl}
use Rattle.model.proofs.Play.{Case, ◌does◌, ◌says◌, case, everything, finds, states}
use Rattle.model.specs.Blocks.{Action, Block, Line, adds, blank, bytes_at, changes, commit, content, deletes, label, mark}
use Rattle.model.specs.History.{tree}
use Rattle.model.specs.Layout.{next}
use Rattle.model.specs.Log.{marks, marks_ok, released}
use Rattle.model.specs.Machine.{Add, Clears, Commits, CommitsCut, Delete, Edit, Panel, Read, Release, bytes, done, refused, revision, stopped}
use Rattle.model.specs.Pass.{laid, log_all, log_from, no_changes, ok, ok_from, rule, stated}

-- ---- layouts

abbrev line : ℕ → Action → ℕ → Line
line i a p = record { sheet = i; action = a; block = p; source = 0; revision = 0 }

abbrev release : ℕ → ℕ → ℕ → Block
release r seat stamp = mark (released r seat stamp)

abbrev one : List Block
one = label ∷ content 1 (65 ∷ []) ∷ commit 1 2 7 (line 5 adds 1 ∷ []) ∷ []

-- revision 2 after a release of revision 1
abbrev two : List Block
two = one ++ (release 1 3 9 ∷ content 2 (66 ∷ []) ∷ commit 2 2 8 (line 5 changes 4 ∷ []) ∷ [])

-- revisions 2 and 3 are released in falling order, one release right after the other
abbrev three : List Block
three = two ++ (commit 3 2 8 (line 5 deletes 0 ∷ []) ∷ release 3 1 0 ∷ release 2 4 4_294_967_295 ∷ [])

abbrev kept : List (List Block)
kept = two ∷ (two ++ (release 2 1 0 ∷ blank ∷ [])) ∷ three ∷ []

abbrev broken : List (List Block)
broken =
    (label ∷ release 1 3 9 ∷ [])  -- of a revision that is not there yet
    ∷ (one ++ (release 2 3 9 ∷ content 2 (66 ∷ []) ∷ commit 2 2 8 (line 5 changes 4 ∷ []) ∷ []))
    ∷ (one ++ (release 0 3 9 ∷ []))  -- of revision 0
    ∷ (one ++ (release 1 0 9 ∷ []))  -- by seats 0 and 5
    ∷ (one ++ (release 1 5 9 ∷ []))
    ∷ (one ++ (content 2 [] ∷ release 1 3 9 ∷ commit 2 2 8 (line 5 changes 3 ∷ []) ∷ []))  -- between content and commit block
    ∷ (one ++ (content 2 [] ∷ release 1 3 9 ∷ []))
    ∷ (one ++ (blank ∷ release 1 3 9 ∷ []))  -- after a zero block
    ∷ (release 1 3 9 ∷ one)
    ∷ (two ++ (release 1 3 9 ∷ []))  -- twice
    ∷ (three ++ (release 2 1 0 ∷ []))
    ∷ []

abbrev lawful : List Block → Bool
lawful bs = ok bs && marks_ok (marks (log_all bs))

pub layouts : (map lawful kept ≡ map (λ (bs : List Block). true) kept) × (map lawful broken ≡ map (λ (bs : List Block). false) broken)
unfolding ok ok_from rule laid next bytes_at log_all log_from stated no_changes
layouts = (refl, refl)

-- ---- calls

-- each of release's 7, then 16; a tail gives 14 and leaves panels alone; the greatest released revision up to R, not the one released last, and 8 if its tree lacks the sheet;
-- engineers see all; at the end the store is full
abbrev panels : Case
panels =
    case 9 (
    2 does Add 5 (65 ∷ []) says done
    ∷ 1 does Release 1 3 9 says refused 7
    ∷ 2 does Commits 7 everything says revision 1
    ∷ 1 does Panel 1 5 says refused 8
    ∷ 1 does Release 2 3 9 says refused 7
    ∷ 1 does Release 0 3 9 says refused 7
    ∷ 1 does Release 1 0 9 says refused 7
    ∷ 1 does Release 1 5 9 says refused 7
    ∷ 1 does Release 1 3 9 says done
    ∷ 1 does Release 1 5 9 says refused 7
    ∷ 1 does Release 1 4 9 says refused 16
    ∷ 1 does Panel 1 5 says bytes (65 ∷ []) 1
    ∷ 2 does Edit 5 (66 ∷ []) says done
    ∷ 2 does CommitsCut 8 everything 1 says stopped
    ∷ 1 does Release 0 0 9 says refused 14
    ∷ 1 does Panel 1 5 says bytes (65 ∷ []) 1
    ∷ 1 does Panel 2 5 says refused 7
    ∷ 1 does Clears says done
    ∷ 2 does Commits 8 everything says revision 2
    ∷ 1 does Panel 2 5 says bytes (65 ∷ []) 1
    ∷ 2 does Delete 5 says done
    ∷ 2 does Commits 9 everything says revision 3
    ∷ 1 does Release 3 1 0 says done
    ∷ 1 does Panel 2 5 says bytes (65 ∷ []) 1
    ∷ 1 does Panel 3 5 says refused 8
    ∷ 1 does Release 2 1 0 says done
    ∷ 1 does Panel 2 5 says bytes (66 ∷ []) 2
    ∷ 1 does Panel 3 5 says refused 8
    ∷ 1 does Panel 1 5 says bytes (65 ∷ []) 1
    ∷ 1 does Panel 0 5 says refused 8
    ∷ 1 does Panel 3 32 says refused 7
    ∷ 1 does Panel 4 5 says refused 7
    ∷ 1 does Read 2 5 says bytes (66 ∷ []) 2
    ∷ 1 does Release 2 1 0 says refused 16
    ∷ 2 does Add 6 [] says done
    ∷ 2 does Commits 9 everything says refused 13
    ∷ []
    ) 9

-- a release that has no block left, after 7 and 16
abbrev no_block : Case
no_block =
    case 5 (
    2 does Add 5 [] says done
    ∷ 2 does Commits 7 everything says revision 1
    ∷ 2 does Delete 5 says done
    ∷ 2 does Commits 8 everything says revision 2
    ∷ 1 does Release 1 1 0 says done
    ∷ 1 does Release 2 1 0 says refused 13
    ∷ 1 does Release 2 5 0 says refused 7
    ∷ 1 does Release 1 1 0 says refused 16
    ∷ []
    ) 5

abbrev cases : List Case
cases = panels ∷ no_block ∷ []

pub calls : map finds cases ≡ map states cases
unfolding tree
calls = refl
