-- What acceptance looks at in one block of a working copy.
-- Assumes nothing.
use Rattle.std.specs.Prelude.{ℕ, Bool, ◌&&◌, cond, false, List, eqb, leb, get_or}
use Rattle.block.specs.Check.{sealed}
use Rattle.model.specs.Codec.{shaped}
use Rattle.model.specs.WorkCopy.{copy_fields, fits_copy_block, parse_copy_block}

-- the bytes before the check are those of the block that they would be
abbrev pub shaped_block : List ℕ → Bool
shaped_block p = shaped copy_fields parse_copy_block fits_copy_block p

-- a right check, the first byte k (4 for the seat's block, 5 for an entry's), and the shape
unfoldable pub ok_block : ℕ → List ℕ → Bool
ok_block k p = sealed p && (eqb (get_or p 0 0) k && shaped_block p)

-- the fields that each state has: "an empty or deleted entry has length 0, and fields that a state lacks are zero"
abbrev pub fields_ok : ℕ → ℕ → ℕ → ℕ → ℕ → Bool
fields_ok state n base source revision =
    cond (eqb state 0) (eqb n 0 && (eqb base 0 && (eqb source 0 && eqb revision 0)))
    (cond (eqb state 1) (leb 1 base && (eqb source 0 && eqb revision 0))
    (cond (eqb state 2) (eqb base 0 && (eqb source 0 && eqb revision 0))
    (cond (eqb state 3) (eqb n 0 && (leb 1 base && (eqb source 0 && eqb revision 0)))
    (cond (eqb state 4) (eqb base 0 && (leb source 31 && leb 1 revision)) false))))
