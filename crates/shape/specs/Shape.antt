-- What the code asks of one block, where the layout has no word of its own for it.
-- Assumes nothing.
use Rattle.std.specs.Prelude.{suc, zero, ℕ, Bool, ◌&&◌, true, List, eqb, leb, drop, get_or}
use Rattle.model.specs.Blocks.{Block, blank, commit, content, label, mark}
use Rattle.shape.specs.declared.BlockKind.{BlockKind}
use Rattle.shape.specs.declared.BlockKind.TheVariants.{Blank, Commit, Content, Label, Mark}

-- what a block is
abbrev pub kind_of : Block → BlockKind
kind_of label = Label
kind_of (content r b) = Content
kind_of (commit r s t ls) = Commit
kind_of (mark m) = Mark
kind_of blank = Blank

-- m changes, each with an action 1 to 4 and a zero in its byte 5
abbrev pub lines_ok : ℕ → List ℕ → Bool
lines_ok zero t = true
lines_ok (suc m) t = leb 1 (get_or t 1 0) && (leb (get_or t 1 0) 4 && (eqb (get_or t 5 0) 0 && lines_ok m (drop 8 t)))
