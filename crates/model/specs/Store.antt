-- The bytes of a store: when they are the layout of a history (`Holds`), where a tail stands, the tests for refusals 2 and 3, and what stands in a store.
-- Assumes nothing.
use Rattle.std.specs.Prelude.{◌*◌, ◌-◌, ◌/◌, suc, zero, ℕ, Bool, ◌&&◌, ◌||◌, cond, false, List, [], ◌++◌, ◌∷◌, map, ◌≡◌, eqb, leb, drop, get_or, length, replicate, take}
use Rattle.block.specs.Buffer.{block_at}
use Rattle.block.specs.Check.{is_zero, sealed}
use Rattle.block.specs.Lists.{All, all}
use Rattle.model.specs.Blocks.{Block, FitsBlock, blank, commit, content, fields_of, fits_block, label, mark, parse}
use Rattle.model.specs.Codec.{joined, parts, shaped}
use Rattle.model.specs.History.{Bytes, History, last}
use Rattle.model.specs.Layout.{LaysLog}
use Rattle.model.specs.Log.{Log, Marked, Placed, commits, marks, marks_ok}
use Rattle.model.specs.Pass.{is_blank, log_all, ok, read_all, tables_of}

-- n blocks of bytes are the layout of g: they are the bytes of some blocks, in some order of changes and contents, that lay it out, and its marks go together
unfoldable pub HoldsLog : ℕ → List ℕ → Log → Type 0
HoldsLog n l g = (bs : List Block) × (length bs ≡ n) × All FitsBlock bs × (joined fields_of bs ≡ l) × LaysLog bs g × Marked (marks g)

-- n blocks of bytes are the layout of the commits h, with any marks among them
unfoldable pub Holds : ℕ → List ℕ → History → Type 0
Holds n l h = (g : Log) × (commits g ≡ h) × HoldsLog n l g

unfoldable pub blocks_of : ℕ → List ℕ → List Block
blocks_of n l = map parse (parts n l)

-- every check of the first n blocks is right
unfoldable pub checked : ℕ → List ℕ → Bool
checked n l = all sealed (parts n l)

-- of n blocks whose checks are right: they are the layout of a history
unfoldable pub lawful : ℕ → List ℕ → Bool
lawful n l = all (shaped fields_of parse fits_block) (parts n l) && (ok (blocks_of n l) && marks_ok (marks (log_all (blocks_of n l))))

unfoldable pub history_of : ℕ → List ℕ → History
history_of n l = read_all (blocks_of n l)

-- the used blocks: those before the first all-zero block. U is how many
abbrev pub front : List Block → List Block
front [] = []
front (b ∷ bs) = let more = b ∷ front bs in cond (is_blank b) [] more

abbrev pub blanks : List Block → List Block
blanks bs = drop (length (front bs)) bs

-- ---- the tail: "A store may now end in a tail of one block or more before its zero blocks: up to 32 well-formed content blocks that carry the next revision, and after them
-- at most one block with a wrong check." Where it would stand in any bytes

-- of the first n blocks, those up to the last that isn't all zero
unfoldable pub filled_in : ℕ → List ℕ → ℕ
filled_in zero l = zero
filled_in (suc p) l = cond (is_zero (block_at l p)) (filled_in p l) (suc p)

-- the blocks before the zero ones, without the one that is skipped if its check is wrong
abbrev pub whole_by : ℕ → List ℕ → ℕ
whole_by f l = cond (leb f 1 || sealed (block_at l (f - 1))) f (f - 1)

unfoldable pub whole_in : ℕ → List ℕ → ℕ
whole_in n l = whole_by (filled_in n l) l

-- blocks without the content blocks at their end, which no commit block follows
abbrev pub on_stem : Block → List Block → List Block
on_stem label [] = label ∷ []
on_stem (content r b) [] = []
on_stem (commit r s t ls) [] = commit r s t ls ∷ []
on_stem (mark m) [] = mark m ∷ []
on_stem blank [] = blank ∷ []
on_stem b (c ∷ cs) = b ∷ c ∷ cs

abbrev pub stem : List Block → List Block
stem [] = []
stem (b ∷ bs) = on_stem b (stem bs)

-- how many blocks stand before the tail
unfoldable pub stem_in : ℕ → List ℕ → ℕ
stem_in n l = length (stem (blocks_of (whole_in n l) l))

-- the bytes with zeros from block p on
unfoldable pub blank_from : ℕ → List ℕ → List ℕ
blank_from p l = take (512 * p) l ++ replicate (length l - 512 * p) 0

-- "as if the tail were zero blocks"
unfoldable pub bare_in : ℕ → List ℕ → List ℕ
bare_in n l = blank_from (stem_in n l) l

-- "Refusal 2 skips the last block that isn't all zero, unless it is the label": of f blocks up to that one, so many are checked. The blocks after it are all zero, and the
-- check of a zero block is right
abbrev pub counted_by : ℕ → ℕ
counted_by f = cond (leb f 1) f (f - 1)

-- refusal 2 is that this fails: "Some store block's check is wrong"
unfoldable pub checked_but : ℕ → List ℕ → Bool
checked_but n l = checked (counted_by (filled_in n l)) l

-- the block is a content block that carries revision r
abbrev pub carries : ℕ → Block → Bool
carries r label = false
carries r (content q b) = eqb q r
carries r (commit q s t ls) = false
carries r (mark m) = false
carries r blank = false

-- m whole blocks, u of them before the tail: no zero block stands among these, the tail's content blocks are well formed, carry the next revision and are 32 at most; `bare`
-- are the bytes as if the tail were zero blocks
abbrev pub tail_by : ℕ → List ℕ → ℕ → ℕ → List ℕ → Bool
tail_by n l m u bare =
    eqb (length (front (blocks_of n bare))) u
    && (all (shaped fields_of parse fits_block) (parts m l)
    && (all (carries (suc (last (history_of n bare)))) (drop u (blocks_of m l)) && leb (m - u) 32))

-- refusal 3 is that this fails, where refusal 2 is not: "The store's blocks aren't the layout of a history", "and 3 allows the tail"
abbrev pub lawful_by : ℕ → List ℕ → ℕ → ℕ → List ℕ → Bool
lawful_by n l m u bare = lawful n bare && tail_by n l m u bare

unfoldable pub lawful_but : ℕ → List ℕ → Bool
lawful_but n l = lawful_by n l (whole_in n l) (stem_in n l) (bare_in n l)

-- ---- a store

-- N, the store's block count
abbrev pub block_count : Bytes → ℕ
block_count store = length store / 512

-- the store without its tail, "as if the tail were zero blocks": what its history and every block that is read come from
abbrev pub bare_of : Bytes → Bytes
bare_of store = bare_in (block_count store) store

abbrev pub store_blocks : Bytes → List Block
store_blocks store = blocks_of (block_count store) (bare_of store)

abbrev pub store_history : Bytes → History
store_history store = history_of (block_count store) (bare_of store)

-- the commits and the marks in their common order, and the marks with their places
abbrev pub store_log : Bytes → Log
store_log store = log_all (store_blocks store)

abbrev pub store_marks : Bytes → List Placed
store_marks store = marks (store_log store)

abbrev pub used_of : Bytes → ℕ
used_of store = length (front (store_blocks store))

-- how many blocks the tail has
abbrev pub tail_of : Bytes → ℕ
tail_of store = filled_in (block_count store) store - used_of store

-- the number of the content block that sheet i of tree R uses
abbrev pub block_used : Bytes → ℕ → ℕ → ℕ
block_used store R i = get_or (get_or (tables_of (store_blocks store)) R []) i 0
