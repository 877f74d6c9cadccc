-- The rule of one change, over the numbers that the code has in hand.
-- Assumes nothing.
use Rattle.std.specs.Prelude.{◌+◌, ℕ, Bool, ◌&&◌, ◌||◌, cond, not, List, eqb, leb, ltb}
use Rattle.block.specs.Lists.{same}
use Rattle.store.specs.declared.Change.{Change}
use Rattle.store.specs.declared.Spot.{Spot}

-- block p is one of the k from `at` on
abbrev pub own_of : ℕ → ℕ → ℕ → Bool
own_of at k p = leb at p && ltb p (at + k)

-- source fields are zero
abbrev pub bare : Change → Bool
bare c = eqb c.source 0 && eqb c.revision 0

-- add, change and delete
unfoldable pub plain_rule : Spot → Change → Bool
plain_rule w c =
    cond (eqb c.action 1) (eqb c.old 0 && (own_of w.at w.k c.block && bare c))
    (cond (eqb c.action 2) (not (eqb c.old 0) && (own_of w.at w.k c.block && bare c))
    (not (eqb c.old 0) && (eqb c.block 0 && bare c)))

-- copy, where `look p` are the bytes of block p and `used` is the block that the source uses, or 0
unfoldable pub copy_rule : (ℕ → List ℕ) → Spot → Change → ℕ → Bool
copy_rule look w c used =
    eqb c.old 0 && ((leb 1 c.revision && ltb c.revision (w.last + 1))
    && (not (eqb used 0) && ((own_of w.at w.k c.block && not (same (look c.block) (look used))) || eqb c.block used)))
