-- The rule of one change over numbers is the rule of the layout.
-- Assumes nothing.
use Prim.Native.Nat.{◌*◌, ◌+◌, ◌<◌, ◌≤◌, suc, zero, ℕ}
use mathlib.Core.Bool.{◌&&◌, false, not, or-false, or-true, true}
use mathlib.Core.List.{List, [], ◌++◌, ◌∷◌}
use mathlib.Core.Logic.{inl, inr, ◌⊎◌}
use mathlib.Core.Path.{◌∙◌, ◌≡◌, ap, refl, subst, sym}
use native.Mathlib.Numerals.{add-one}
use native.Mathlib.Omega.{arith}
use borrow.Author.Tests.{eq-eqb, le-leb, le-ltb, lt-leb, lt-ltb, ne_eqb}
use lib.ListN.{get_or-append, get_or-eq_default, drop, get_or, length, length-append, length-take}
use lib.Seq.{get_or-append-add}
use Rattle.block.proofs.Says.{eq_or}
use Rattle.block.specs.Field.{two_at}
use Rattle.block.specs.Lists.{same}
use Rattle.model.specs.Blocks.{Line, action_of, parse_line}
use Rattle.model.specs.Layout.{Table, latest}
use Rattle.model.specs.Pass.{rule}
use Rattle.laws.proofs.Tables.{latest_snoc}
use Rattle.shape.proofs.RowLaws.{row_at}
use Rattle.shape.specs.Rows.{row_of, rows_of}
use Rattle.store.specs.Rule.{copy_rule, own_of, plain_rule}
use Rattle.store.specs.declared.Change.{Change}
use Rattle.store.specs.declared.Spot.{Spot}

-- ---- rows: the flat table against the list of tables

pub length-rows : (r : ℕ) (tab : List ℕ) → length (rows_of r tab) ≡ r
unfolding rows_of
length-rows zero tab = refl
length-rows (suc r) tab = length-append (rows_of r tab) (row_of r tab ∷ []) ∙ omega (arith, length-rows r tab)

row_in : (r v : ℕ) (tab : List ℕ) → v < r → get_or (rows_of r tab) v [] ≡ row_of v tab
unfolding rows_of
row_in zero v tab h = absurd (omega arith)
row_in (suc r) v tab h =
    let n = length-rows r tab in
    elim (eq_or v r) [
      | inl e ↦ (
          let d : length (rows_of r tab) + 0 ≡ v = omega arith in
          subst (λ (x : ℕ). get_or (rows_of r tab ++ (row_of r tab ∷ [])) x [] ≡ row_of v tab) d
          (get_or-append-add (rows_of r tab) (row_of r tab ∷ []) 0 [] ∙ ap (λ (x : ℕ). row_of x tab) (sym e)))
      | inr o ↦ get_or-append (rows_of r tab) (row_of r tab ∷ []) [] v (omega arith) ∙ row_in r v tab (omega arith)
    ]

-- the block that sheet i of tree v uses
used_at : (r v i : ℕ) (tab : List ℕ) → v < r → i < 32 → get_or (get_or (rows_of r tab) v []) i 0 ≡ get_or tab (32 * v + i) 0
used_at r v i tab h g = ap (λ (x : Table). get_or x i 0) (row_in r v tab h) ∙ row_at v i tab g

pub used_past : (r v i : ℕ) (tab : List ℕ) → v < r → 32 ≤ i → get_or (get_or (rows_of r tab) v []) i 0 ≡ 0
used_past r v i tab h g =
    ap (λ (x : Table). get_or x i 0) (row_in r v tab h)
    ∙ get_or-eq_default (row_of v tab) 0 {n = i} (omega (arith, length-take 32 (drop (32 * v) tab)))

-- the block that sheet i of the newest tree uses
pub old_at : (last i : ℕ) (tab : List ℕ) → i < 32 → get_or (latest (rows_of (last + 1) tab)) i 0 ≡ get_or tab (32 * last + i) 0
unfolding rows_of
old_at last i tab g =
    rw (add-one last) (ap (λ (x : Table). get_or x i 0) (latest_snoc (rows_of last tab) (row_of last tab)) ∙ row_at last i tab g)

-- ---- the copy

module _ (look : ℕ → List ℕ) (w : Spot) (c : Change) where
  pub copy-present : (used : ℕ) → (c.old ≡ 0 → ⊥) → copy_rule look w c used ≡ false
  unfolding copy_rule
  copy-present used n = rw (ne_eqb c.old 0 n)

  pub copy-early : (used : ℕ) → c.old ≡ 0 → c.revision < 1 → copy_rule look w c used ≡ false
  unfolding copy_rule
  copy-early used e h = rw (eq-eqb c.old 0 e, lt-leb 1 c.revision h)

  module _ (e : c.old ≡ 0) (some : 1 ≤ c.revision) where
    pub copy_late : (used : ℕ) → w.last < c.revision → copy_rule look w c used ≡ false
    unfolding copy_rule
    copy_late used h = let g : w.last + 1 ≤ c.revision = omega arith in rw (eq-eqb c.old 0 e, le-leb 1 c.revision some, le-ltb c.revision (w.last + 1) g)

    module _ (past : c.revision ≤ w.last) where
      past_lt : c.revision < w.last + 1
      past_lt = omega arith

      pub copy-lacking : (used : ℕ) → used ≡ 0 → copy_rule look w c used ≡ false
      unfolding copy_rule
      copy-lacking used z = rw (eq-eqb c.old 0 e, le-leb 1 c.revision some, lt-ltb c.revision (w.last + 1) past_lt, eq-eqb used 0 z)

      module _ (used : ℕ) (there : used ≡ 0 → ⊥) where
        pub copy_shared : c.block ≡ used → copy_rule look w c used ≡ true
        unfolding copy_rule
        copy_shared q =
            rw (eq-eqb c.old 0 e, le-leb 1 c.revision some, lt-ltb c.revision (w.last + 1) past_lt, ne_eqb used 0 there, eq-eqb c.block used q)
            (or-true (own_of w.at w.k c.block && not (same (look c.block) (look used))))

        pub copy-own : (c.block ≡ used → ⊥) → copy_rule look w c used ≡ (own_of w.at w.k c.block && not (same (look c.block) (look used)))
        unfolding copy_rule
        copy-own q =
            rw (eq-eqb c.old 0 e, le-leb 1 c.revision some, lt-ltb c.revision (w.last + 1) past_lt, ne_eqb used 0 there, ne_eqb c.block used q)
            (or-false (own_of w.at w.k c.block && not (same (look c.block) (look used))))

-- the source's block, read off the flat table
pub from_row : (look : ℕ → List ℕ) (w : Spot) (c : Change) (tab : List ℕ) (used : ℕ) → used ≡ get_or tab (32 * c.revision + c.source) 0 → c.revision ≤ w.last → c.source < 32
    → copy_rule look w c (get_or (get_or (rows_of (w.last + 1) tab) c.revision []) c.source 0) ≡ copy_rule look w c used
from_row look w c tab used e h g = ap (copy_rule look w c) (used_at (w.last + 1) c.revision c.source tab (omega arith) g ∙ sym e)

-- no copy of a sheet that is there, or from a revision or a sheet that is not
pub copy-none : (look : ℕ → List ℕ) (w : Spot) (c : Change) (tab : List ℕ)
    → (c.old ≡ 0 → ⊥) ⊎ (((c.old ≡ 0) × (c.revision < 1)) ⊎ (((c.old ≡ 0) × (1 ≤ c.revision) × (w.last < c.revision)) ⊎ ((c.old ≡ 0) × (1 ≤ c.revision) × (c.revision ≤ w.last) × (32 ≤ c.source))))
    → copy_rule look w c (get_or (get_or (rows_of (w.last + 1) tab) c.revision []) c.source 0) ≡ false
copy-none look w c tab (inl n) = copy-present look w c _ n
copy-none look w c tab (inr (inl h)) = copy-early look w c _ h.0 h.1
copy-none look w c tab (inr (inr (inl h))) = copy_late look w c h.0 h.1 _ h.2
copy-none look w c tab (inr (inr (inr h))) = copy-lacking look w c h.0 h.1 h.2 _ (used_past (w.last + 1) c.revision c.source tab (omega (arith, h.2)) h.3)

-- ---- the change

abbrev pub line_of : ℕ → ℕ → ℕ → ℕ → ℕ → Line
line_of sheet action block source revision = record { sheet = sheet; action = action_of action; block = block; source = source; revision = revision }

abbrev pub changed : ℕ → ℕ → ℕ → ℕ → ℕ → Change
changed action old block source revision = record { action = action; old = old; block = block; source = source; revision = revision }

module _ (look : ℕ → List ℕ) (w : Spot) (tables : List Table) (sheet block source revision : ℕ) where
  rule-plain : (action : ℕ) → sheet < 32 → 0 < action → action < 4
      → rule look w.at w.k tables (line_of sheet action block source revision) ≡ plain_rule w (changed action (get_or (latest tables) sheet 0) block source revision)
  unfolding rule plain_rule
  rule-plain zero h g l = absurd (omega arith)
  rule-plain (suc zero) h g l = rw (lt-ltb sheet 32 h)
  rule-plain (suc (suc zero)) h g l = rw (lt-ltb sheet 32 h)
  rule-plain (suc (suc (suc zero))) h g l = rw (lt-ltb sheet 32 h)
  rule-plain (suc (suc (suc (suc n)))) h g l = absurd (omega arith)

  rule-copy : (action : ℕ) → length tables ≡ w.last + 1 → sheet < 32 → (action ≡ 1 → ⊥) → (action ≡ 2 → ⊥) → (action ≡ 3 → ⊥)
      → rule look w.at w.k tables (line_of sheet action block source revision)
      ≡ copy_rule look w (changed action (get_or (latest tables) sheet 0) block source revision) (get_or (get_or tables revision []) source 0)
  unfolding rule copy_rule
  rule-copy action e h n₁ n₂ n₃ = rw (ne_eqb action 1 n₁, ne_eqb action 2 n₂, ne_eqb action 3 n₃, lt-ltb sheet 32 h, e)

-- what the code has read of a change, and what it answers
module _ (look : ℕ → List ℕ) (w : Spot) (tab b : List ℕ) (old block source revision : ℕ)
    (eo : old ≡ get_or tab (32 * w.last + get_or b 0 0) 0) (eb : block ≡ two_at b 2) (es : source ≡ get_or b 4 0) (er : revision ≡ two_at b 6)
    (h : get_or b 0 0 < 32) where
  line : parse_line b ≡ line_of (get_or b 0 0) (get_or b 1 0) block source revision
  line = rw (eb, es, er)

  olds : get_or (latest (rows_of (w.last + 1) tab)) (get_or b 0 0) 0 ≡ old
  olds = old_at w.last (get_or b 0 0) tab h ∙ sym eo

  pub plain-answer : 0 < get_or b 1 0 → get_or b 1 0 < 4
      → plain_rule w (changed (get_or b 1 0) old block source revision) ≡ rule look w.at w.k (rows_of (w.last + 1) tab) (parse_line b)
  plain-answer g l =
      sym (ap (rule look w.at w.k (rows_of (w.last + 1) tab)) line ∙ rule-plain look w (rows_of (w.last + 1) tab) (get_or b 0 0) block source revision (get_or b 1 0) h g l
      ∙ ap (λ (x : ℕ). plain_rule w (changed (get_or b 1 0) x block source revision)) olds)

  pub copy-answer : (get_or b 1 0 ≡ 1 → ⊥) → (get_or b 1 0 ≡ 2 → ⊥) → (get_or b 1 0 ≡ 3 → ⊥)
      → copy_rule look w (changed (get_or b 1 0) old block source revision) (get_or (get_or (rows_of (w.last + 1) tab) revision []) source 0)
      ≡ rule look w.at w.k (rows_of (w.last + 1) tab) (parse_line b)
  copy-answer n₁ n₂ n₃ =
      sym (ap (rule look w.at w.k (rows_of (w.last + 1) tab)) line
      ∙ rule-copy look w (rows_of (w.last + 1) tab) (get_or b 0 0) block source revision (get_or b 1 0) (length-rows (w.last + 1) tab) h n₁ n₂ n₃
      ∙ ap (λ (x : ℕ). copy_rule look w (changed (get_or b 1 0) x block source revision) (get_or (get_or (rows_of (w.last + 1) tab) revision []) source 0)) olds)
