-- The twelve handover cases of document 01.
-- Assumes nothing.
use Prim.Native.Nat.{◌^◌, ℕ}
use mathlib.Core.List.{List, [], ◌∷◌, map}
use mathlib.Core.Path.{◌≡◌, refl}
use lib.ListN.{replicate}
use Rattle.block.specs.Check.{sums}
use Rattle.model.proofs.Play.{Case, ◌does◌, ◌says◌, case, everything, finds, states}
use Rattle.model.specs.Blocks.{Block, adds, commit, content, fields_of, label}
use Rattle.model.specs.Codec.{padded}
use Rattle.model.specs.History.{tree}
use Rattle.model.specs.Machine.{Add, Commits, Copy, Delete, Edit, Move, Read, Update, bytes, done, refused, revision}

abbrev table : List Case
table =
    case 2  -- 4
    (1 does Read 0 0 says refused 8
    ∷ []) 1
    ∷ case 8  -- 5
    (1 does Add 3 [] says done
    ∷ 1 does Commits 0 everything says revision 1
    ∷ 1 does Read 1 3 says bytes [] 1
    ∷ []) 3
    ∷ case 8  -- 6
    (1 does Add 3 (replicate 480 7) says done
    ∷ 1 does Add 4 (replicate 481 7) says refused 7
    ∷ []) 1
    ∷ case 2  -- 7
    (1 does Add 5 (65 ∷ []) says done
    ∷ 1 does Commits 7 everything says refused 13
    ∷ []) 1
    ∷ case 3  -- 7
    (1 does Add 5 (65 ∷ []) says done
    ∷ 1 does Commits 7 everything says revision 1
    ∷ []) 3
    ∷ case 8  -- 8
    (1 does Add 5 (65 ∷ []) says done
    ∷ 1 does Commits 7 everything says revision 1
    ∷ 1 does Delete 5 says done
    ∷ 1 does Commits 8 everything says revision 2
    ∷ []) 4
    ∷ case 32  -- 9
    (1 does Add 5 (65 ∷ []) says done
    ∷ 1 does Commits 7 everything says revision 1
    ∷ 2 does Update everything 1 says done
    ∷ 1 does Edit 5 (66 ∷ []) says done
    ∷ 2 does Edit 5 (67 ∷ []) says done
    ∷ 1 does Commits 8 everything says revision 2
    ∷ 2 does Commits 9 everything says refused 11
    ∷ 2 does Update everything 2 says refused 12
    ∷ []) 5
    ∷ case 32  -- 10
    (1 does Add 5 (65 ∷ []) says done
    ∷ 1 does Commits 7 everything says revision 1
    ∷ 1 does Move 5 6 says done
    ∷ 1 does Commits 8 everything says revision 2
    ∷ 1 does Read 1 5 says bytes (65 ∷ []) 1
    ∷ 1 does Read 2 5 says refused 8
    ∷ 1 does Read 2 6 says bytes (65 ∷ []) 2
    ∷ []) 4
    ∷ case 32  -- 11
    (1 does Copy 5 5 says refused 8
    ∷ 1 does Add 5 (65 ∷ []) says done
    ∷ 1 does Commits 7 everything says revision 1
    ∷ 1 does Copy 5 5 says refused 9
    ∷ []) 3
    ∷ case 32  -- 12
    (1 does Commits 7 0 says refused 7
    ∷ 1 does Add 5 (65 ∷ []) says done
    ∷ 1 does Commits 7 (2 ^ 6) says refused 10
    ∷ []) 1
    ∷ []

-- cases 1 to 3: a block, and its a and b
pub record Sums : Type 0 where
  pub block : Block
  pub a : ℕ
  pub b : ℕ

abbrev sealing : List Sums
sealing =
    record { block = label; a = 2; b = 1_015 }
    ∷ record { block = content 1 (65 ∷ []); a = 69; b = 34_006 }
    ∷ record { block = commit 1 2 7 (record { sheet = 5; action = adds; block = 1; source = 0; revision = 0 } ∷ []); a = 21; b = 10_479 }
    ∷ []

-- one check over the rows
pub handover : (map (λ (r : Sums). sums 0 0 (padded (fields_of r.block))) sealing ≡ map (λ (r : Sums). (r.a, r.b)) sealing) × (map finds table ≡ map states table)
unfolding tree padded
handover = (refl, refl)
