-- The loop over the mask: the lines so far, and what the sheets that are left add to them.
-- Assumes nothing.
use Rattle.std.proofs.Common.{◌+◌, ◌-◌, ◌<◌, ◌≤◌, ◌^◌, ◌≡◌, ◌≢◌, ◌∙◌, suc, zero, ℕ, Bool, true, false, cond, List, [], ◌++◌, ◌∷◌, All, Some, None, ap, ap₂, refl, sym, add-one, add-zero, zero-add, append-nil, append_assoc, arith, bit_and, length, set, take, length-set}
use Rattle.std.proofs.lemmas.List.{map-append, take_more_set}
use Rattle.std.proofs.lemmas.List.Elements.{All-nil, All-push}
use lib.Count.{count_trailing_zeros}
use Rattle.model.specs.Blocks.{Action, Line, adds, changes, copies, deletes}
use Rattle.model.specs.Machine.{chosen}
use Rattle.model.specs.Writing.{Plan, fresh, line_of, lines_for, shared, skip}
use Rattle.laws.proofs.Writer.{freshes}
use Rattle.commits.specs.Plan.{Planned, action_as, row_as, rows_from}
use Rattle.commits.specs.declared.Row.{Row}
use Rattle.masks.proofs.Bits.{and_cleared, lowest}
use Rattle.masks.specs.Chosen.{Lowest}
use Rattle.masks.proofs.Sheets.{count-first, count-le, sheets-first, sheets-none}
use Rattle.masks.specs.Mask.{count_to, sheets, sheets_from}
use Rattle.writer.specs.Blocks.{action_in, line_in, lines_in}
use Rattle.writer.specs.declared.Line.{Line as TheLine}

-- ---- the chosen sheets, one after the other
unfoldable pub lines_over : (ℕ → Plan) → ℕ → List ℕ → List Line
lines_over f p [] = []
lines_over f p (k ∷ ks) = lines_for k p (f k ∷ []) ++ lines_over f (p + freshes (f k ∷ [])) ks

for_cons : (q : Plan) (ps : List Plan) (i p : ℕ) → lines_for i p (q ∷ ps) ≡ lines_for i p (q ∷ []) ++ lines_for (suc i) (p + freshes (q ∷ [])) ps
for_cons skip ps i p = ap (λ (k : ℕ). lines_for (suc i) k ps) (sym (add-zero p))
for_cons (fresh a s v) ps i p = ap (λ (k : ℕ). line_of i a p s v ∷ lines_for (suc i) k ps) (sym (add-one p))
for_cons (shared a q s v) ps i p = ap (λ (k : ℕ). line_of i a q s v ∷ lines_for (suc i) k ps) (sym (add-zero p))

over_rows : (f : ℕ → Plan) (mask d i p : ℕ) → lines_over f p (sheets_from d i mask) ≡ lines_for i p (rows_from f mask i d)
unfolding lines_over sheets_from rows_from
over_rows f mask zero i p = refl
over_rows f mask (suc d) i p = go (chosen mask i) (λ k. over_rows f mask d (suc i) k)
  where
    go : (b : Bool) → ((k : ℕ) → lines_over f k (sheets_from d (suc i) mask) ≡ lines_for (suc i) k (rows_from f mask (suc i) d))
        → lines_over f p (cond b (i ∷ sheets_from d (suc i) mask) (sheets_from d (suc i) mask)) ≡ lines_for i p (cond b (f i) skip ∷ rows_from f mask (suc i) d)
    go false ih = ih p
    go true ih =
        ap (λ (x : List Line). lines_for i p (f i ∷ []) ++ x) (ih (p + freshes (f i ∷ [])))
        ∙ sym (for_cons (f i) (rows_from f mask (suc i) d) i p)

-- the content blocks of the chosen sheets
unfoldable pub fresh_over : (ℕ → Plan) → List ℕ → ℕ
fresh_over f [] = 0
fresh_over f (k ∷ ks) = freshes (f k ∷ []) + fresh_over f ks

fresh-cons : (q : Plan) (ps : List Plan) → freshes (q ∷ ps) ≡ freshes (q ∷ []) + freshes ps
fresh-cons skip ps = sym (zero-add (freshes ps))
fresh-cons (fresh a s v) ps = omega arith
fresh-cons (shared a q s v) ps = sym (zero-add (freshes ps))

over_freshes : (f : ℕ → Plan) (mask d i : ℕ) → fresh_over f (sheets_from d i mask) ≡ freshes (rows_from f mask i d)
unfolding fresh_over sheets_from rows_from
over_freshes f mask zero i = refl
over_freshes f mask (suc d) i = go (chosen mask i) (over_freshes f mask d (suc i))
  where
    go : (b : Bool) → fresh_over f (sheets_from d (suc i) mask) ≡ freshes (rows_from f mask (suc i) d)
        → fresh_over f (cond b (i ∷ sheets_from d (suc i) mask) (sheets_from d (suc i) mask)) ≡ freshes (cond b (f i) skip ∷ rows_from f mask (suc i) d)
    go false ih = ih
    go true ih = ap (λ (k : ℕ). freshes (f i ∷ []) + k) ih ∙ sym (fresh-cons (f i) (rows_from f mask (suc i) d))

one-fresh : (q : Plan) → freshes (q ∷ []) ≤ 1
one-fresh skip = omega arith
one-fresh (fresh a s v) = omega arith
one-fresh (shared a q s v) = omega arith

-- ---- a row of the code is that of its plan
action-back : (a : Action) → action_in (action_as a) ≡ a
action-back adds = refl
action-back changes = refl
action-back deletes = refl
action-back copies = refl

row-line : (q : Plan) (i p : ℕ) (row : Row) → Some row ≡ row_as q i p
    → (lines_for i p (q ∷ []) ≡ line_in row.line ∷ []) × (row.next ≡ p + freshes (q ∷ [])) × (row.line.sheet ≡ i)
row-line skip i p row e = cc
row-line (fresh a s v) i p row e =
    let r : row ≡ record { line = record { sheet = i; action = action_as a; block = p; source = s; revision = v }; next = p + 1 } = cc in
    rw r (ap (λ x. line_of i x p s v ∷ []) (sym (action-back a)), refl, refl)
row-line (shared a q s v) i p row e =
    let r : row ≡ record { line = record { sheet = i; action = action_as a; block = q; source = s; revision = v }; next = p } = cc in
    rw r (ap (λ x. line_of i x q s v ∷ []) (sym (action-back a)), sym (add-zero p), refl)

no-row : (q : Plan) (i p : ℕ) → None ≡ row_as q i p → q ≡ skip
no-row skip i p e = refl
no-row (fresh a s v) i p e = cc
no-row (shared a q s v) i p e = cc

-- ---- the invariant
pub record Making (f : ℕ → Plan) (mask used : ℕ) (c : List TheLine) (m n next : ℕ) : Type 0 where
  pub sized : length c ≡ 32
  pub left : lines_in (take n c) ++ lines_over f next (sheets m) ≡ lines_over f used (sheets mask)
  pub blocks-left : next + fresh_over f (sheets m) ≡ used + fresh_over f (sheets mask)
  pub count : n + count_to 32 m ≤ 32
  pub low : next ≤ used + n
  pub named : All (λ l. l.sheet < 32) (take n c)

pub making_begins : (f : ℕ → Plan) (mask used : ℕ) (c : List TheLine) → length c ≡ 32 → Making f mask used c mask 0 used
making_begins f mask used c z =
    record { sized = z; left = refl; blocks-left = refl; count = omega (arith, count-le 32 mask); low = omega arith; named = All-nil (λ l. l.sheet < 32) }

-- t is the lowest sheet that is left
module _ {f : ℕ → Plan} {mask used : ℕ} {c : List TheLine} {m n next : ℕ} (some : m ≢ 0) (small : m < 2 ^ 32) (K : Making f mask used c m n next) where
  abbrev t : ℕ
  t = count_trailing_zeros 32 m

  first : Lowest m t
  first = (lowest 32 m (omega arith) small).1

  pub low : t < 32
  low = (lowest 32 m (omega arith) small).0

  cleared : bit_and m (m - 1) ≡ m - 2 ^ t
  cleared = and_cleared first

  -- one sheet less is left
  pub fewer : count_to 32 m ≡ count_to 32 (bit_and m (m - 1)) + 1
  fewer = rw cleared (count-first first 32 low)

  next-line : lines_over f next (sheets m) ≡ lines_for t next (f t ∷ []) ++ lines_over f (next + freshes (f t ∷ [])) (sheets (m - 2 ^ t))
  unfolding lines_over
  next-line = ap (lines_over f next) (sheets-first first 32 0 (omega arith) (omega (arith, low)))

  next-fresh : fresh_over f (sheets m) ≡ freshes (f t ∷ []) + fresh_over f (sheets (m - 2 ^ t))
  unfolding fresh_over
  next-fresh = ap (fresh_over f) (sheets-first first 32 0 (omega arith) (omega (arith, low)))

  pub making_skip : None ≡ row_as (f t) t next → Making f mask used c (bit_and m (m - 1)) n next
  making_skip e =
      let s : f t ≡ skip = no-row (f t) t next e in
      let same : lines_for t next (f t ∷ []) ++ lines_over f (next + freshes (f t ∷ [])) (sheets (m - 2 ^ t)) ≡ lines_over f next (sheets (m - 2 ^ t)) =
      rw (s, add-zero next) in
      let none : freshes (f t ∷ []) ≡ 0 = rw s in
      rw cleared (record {
        sized = K.sized;
        left = ap (λ x. lines_in (take n c) ++ x) (sym (next-line ∙ same)) ∙ K.left;
        blocks-left = omega (arith, K.blocks-left, next-fresh, none);
        count = omega (arith, K.count, count-first first 32 low);
        low = K.low;
        named = K.named;
      })

  pub place : n < 32
  place = omega (arith, K.count, count-first first 32 low)

  pub making_put : (row : Row) → Some row ≡ row_as (f t) t next → Making f mask used (set c n row.line) (bit_and m (m - 1)) (n + 1) row.next
  making_put row e =
      let r = row-line (f t) t next row e in
      let at : n < length c = omega (arith, K.sized, place) in
      let more : take (n + 1) (set c n row.line) ≡ take n c ++ row.line ∷ [] = take_more_set c n row.line at in
      let rest : ℕ → List Line = λ k. lines_over f k (sheets (m - 2 ^ t)) in
      rw cleared (record {
        sized = length-set c n row.line ∙ K.sized;
        left =
            ap (λ x. x ++ rest row.next) (ap lines_in more ∙ map-append line_in (take n c) (row.line ∷ []))
            ∙ append_assoc (lines_in (take n c)) (line_in row.line ∷ []) (rest row.next)
            ∙ ap (λ x. lines_in (take n c) ++ x) (sym (next-line ∙ ap₂ (λ x k. x ++ rest k) r.0 (sym r.1)))
            ∙ K.left;
        blocks-left = omega (arith, K.blocks-left, next-fresh, r.1);
        count = omega (arith, K.count, count-first first 32 low);
        low = omega (arith, K.low, r.1, one-fresh (f t));
        named = rw more (All-push (λ l. l.sheet < 32) (take n c) row.line K.named (rw r.2 low));
      })

pub making_ends : (f : ℕ → Plan) (mask used : ℕ) (c : List TheLine) (m n next : ℕ) → m ≡ 0 → Making f mask used c m n next → Planned (rows_from f mask 0 32) used c n next
unfolding lines_over fresh_over
making_ends f mask used c m n next e K =
    record {
      lines =
          sym (ap (λ (x : List ℕ). lines_in (take n c) ++ lines_over f next x) (ap sheets e ∙ sheets-none 32 0) ∙ append-nil (lines_in (take n c)))
          ∙ K.left ∙ over_rows f mask 32 0 used;
      after = omega (arith, K.blocks-left, ap (λ (x : ℕ). fresh_over f (sheets x)) e, ap (fresh_over f) (sheets-none 32 0), over_freshes f mask 32 0);
      few = omega (arith, K.count);
      named = K.named;
    }
