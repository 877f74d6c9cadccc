-- The machine's commit has a layout: after the used blocks its content blocks and its commit block, in the order of the sheets.
-- Assumes nothing.
use Prim.Native.Nat.{◌+◌, ◌<◌, ◌≤◌, suc, zero, ℕ}
use mathlib.Core.Bool.{◌&&◌, not}
use mathlib.Core.List.{List, [], ◌++◌, ◌∷◌, map}
use mathlib.Core.Path.{◌∙◌, ◌≡◌, ap, refl, subst, sym}
use native.Mathlib.Omega.{arith}
use lib.Dec.{T, eqb, eqb→eq, lit≤}
use lib.ListN.{get_or, length, length-map, replicate}
use lib.Seq.{get_or-append-add}
use Rattle.block.proofs.Says.{and_true}
use Rattle.block.specs.Lists.{All, all, same}
use Rattle.model.specs.Blocks.{Block, blank, bytes_at, commit, content, held, label, mark}
use Rattle.model.specs.History.{Change, Commit, History, add, change, copy, delete, nothing}
use Rattle.model.specs.Layout.{Laid, Lays, LaysFrom, LaysLog, Table, user}
use Rattle.model.specs.Log.{Log, a_commit, commits}
use Rattle.model.specs.Pass.{grown, is_blank, laid, ok, ok_from, stands, tables_after, tables_of}
use Rattle.model.specs.Writing.{Plan, contents_for, fresh, lines_for, new_blocks, new_contents, new_lines, plan_copy, plan_of, plans, shared, skip}
use Rattle.laws.proofs.Acceptance.{lays_accepted, log_lays}
use Rattle.laws.proofs.All.{All-map}
use Rattle.laws.proofs.Append.{Below, append, grown_below, unmoved, user-low, wider, zero_below}
use Rattle.laws.proofs.Bridge.{Allowed, Trees, allowed_lawful, trees_of}
use Rattle.laws.proofs.Writer.{LawfulFrom, freshes, lawful-laid}

-- every block number that the tables hold is that of a block that was passed
ends_below : (look : ℕ → List ℕ) (at k : ℕ) (tables : List Table) (front bl : List Block) → 1 ≤ at → All (Below at) tables
    → T (ok_from look at k tables (front ++ bl)) → T (all (λ b. not (is_blank b)) front) → All (Below (at + k + length front)) (tables_after tables front)
unfolding ok_from tables_after
ends_below look at k tables [] bl low below t n =
    All-map (Below at) (Below (at + k + 0)) tables (λ u b. All-map (λ (p : ℕ). p < at) (λ (p : ℕ). p < at + k + 0) u (λ p h. omega arith) b) below
ends_below look at k tables (label ∷ front) bl low below t n = absurd t
ends_below look at k tables (content r b ∷ front) bl low below t n =
    let e : at + k + suc (length front) ≡ at + suc k + length front = omega arith in
    rw e (ends_below look at (suc k) tables front bl low below (and_true (eqb r (length tables)) (ok_from look at (suc k) tables (front ++ bl)) t).1 n)
ends_below look at k tables (commit r seat stamp ls ∷ front) bl low below t n =
    let p = and_true (eqb r (length tables)) (laid look at k tables seat ls && ok_from look (suc (at + k)) 0 (grown tables ls) (front ++ bl)) t in
    let q = and_true (laid look at k tables seat ls) (ok_from look (suc (at + k)) 0 (grown tables ls) (front ++ bl)) p.1 in
    let e : at + k + suc (length front) ≡ suc (at + k) + 0 + length front = omega arith in
    rw e (ends_below look (suc (at + k)) 0 (grown tables ls) front bl (omega arith)
    (grown_below look look (at + k) (λ p h. refl) at k tables low (omega arith) below seat ls q.0) q.1 n)
ends_below look at k tables (mark m ∷ front) bl low below t n =
    let p = and_true (eqb k 0) (stands tables m && ok_from look (suc at) 0 tables (front ++ bl)) t in
    let k0 : k ≡ 0 = eqb→eq k 0 p.0 in
    let e : at + k + suc (length front) ≡ suc at + 0 + length front = omega arith in
    rw e (ends_below look (suc at) 0 tables front bl (omega arith) (wider at tables below) (and_true (stands tables m) (ok_from look (suc at) 0 tables (front ++ bl)) p.1).1 n)
ends_below look at k tables (blank ∷ front) bl low below t n = absurd n

pub length-contents : (cs : List Change) (ps : List Plan) → length ps ≡ length cs → length (contents_for cs ps) ≡ freshes ps
length-contents [] [] e = refl
length-contents [] (q ∷ ps) e = absurd (omega arith)
length-contents (c ∷ cs) [] e = absurd (omega arith)
length-contents (c ∷ cs) (skip ∷ ps) e = length-contents cs ps (omega arith)
length-contents (c ∷ cs) (fresh a s v ∷ ps) e = ap suc (length-contents cs ps (omega arith))
length-contents (c ∷ cs) (shared a q s v ∷ ps) e = length-contents cs ps (omega arith)

-- the j-th new block holds the j-th content
new_bytes : (front : List Block) (r : ℕ) (contents : List (List ℕ)) (rest : List Block) (j : ℕ) → j < length contents
    → bytes_at (front ++ (map (content r) contents ++ rest)) (length front + j) ≡ get_or contents j []
unfolding bytes_at
new_bytes front r contents rest j h = ap held (get_or-append-add front (map (content r) contents ++ rest) j blank) ∙ go contents j h
  where
    go : (cs : List (List ℕ)) (j : ℕ) → j < length cs → held (get_or (map (content r) cs ++ rest) j blank) ≡ get_or cs j []
    go [] j h = absurd (omega arith)
    go (c ∷ cs) zero h = refl
    go (c ∷ cs) (suc j) h = go cs j (omega arith)

module _ (old now : ℕ → List ℕ) (at k : ℕ) (tables : List Table) (agree : (v s : ℕ) → old (user old at k tables v s) ≡ now (user old at k tables v s)) where
  plan_same : (c : Change) → plan_of old at k tables c ≡ plan_of now at k tables c
  plan_same nothing = refl
  plan_same (add b) = refl
  plan_same (change b) = refl
  plan_same delete = refl
  plan_same (copy s v b) = ap (λ (x : List ℕ). plan_copy old at k tables (same b x) s v) (agree v s)

  plans-same : (cs : List Change) → map (plan_of old at k tables) cs ≡ map (plan_of now at k tables) cs
  plans-same [] = refl
  plans-same (c ∷ cs) = cc (plan_same c, plans-same cs)

pub tables_below : (front bl : List Block) (h : History) → T (all (λ b. not (is_blank b)) front) → 1 ≤ length front → Lays (front ++ bl) h
    → All (Below (length front)) (tables_of front)
unfolding ok tables_of
tables_below [] bl h n some m = absurd (omega arith)
tables_below (label ∷ front) bl h n some m =
    let e : suc (length front) ≡ 1 + 0 + length front = omega arith in
    rw e (ends_below (bytes_at (label ∷ (front ++ bl))) 1 0 (replicate 32 0 ∷ []) front bl (lit≤ tt) (zero_below 32, tt) (lays_accepted (label ∷ (front ++ bl)) h m).0 n)
tables_below (content r b ∷ front) bl h n some m = absurd (lays_accepted (content r b ∷ (front ++ bl)) h m).0
tables_below (commit r seat stamp ls ∷ front) bl h n some m = absurd (lays_accepted (commit r seat stamp ls ∷ (front ++ bl)) h m).0
tables_below (mark q ∷ front) bl h n some m = absurd (lays_accepted (mark q ∷ (front ++ bl)) h m).0
tables_below (blank ∷ front) bl h n some m = absurd n

-- THE STATEMENT
pub commit_lays : (front bl bl' : List Block) (g : Log) (c : Commit) → T (all (λ b. not (is_blank b)) front)
    → All (λ (b : Block). b ≡ blank) bl → All (λ (b : Block). b ≡ blank) bl' → 1 ≤ length front → LaysLog (front ++ bl) g
    → 1 ≤ c.seat → c.seat ≤ 4 → length c.changes ≡ 32 → LawfulFrom (bytes_at (front ++ bl)) (length front) 0 (tables_of front) 0 c.changes
    → 1 ≤ length (new_lines front bl c)
    → LaysLog (front ++ new_blocks front bl c bl') (g ++ (a_commit c ∷ []))
unfolding LaysFrom
commit_lays front bl bl' g c nb z z' some m s₁ s₄ size law one =
    append front bl (new_blocks front bl c bl') g (a_commit c ∷ []) nb z some m (new_contents front bl c, new_lines front bl c, bl', refl, laid_new, z')
  where
    at : ℕ
    at = length front

    k : ℕ
    k = length (new_contents front bl c)

    tables : List Table
    tables = tables_of front

    old : ℕ → List ℕ
    old = bytes_at (front ++ bl)

    now : ℕ → List ℕ
    now = bytes_at (front ++ new_blocks front bl c bl')

    used : (v s : ℕ) → user old at k tables v s < at
    used = user-low old at k tables some (tables_below front bl (commits g) nb some (log_lays (front ++ bl) g m))

    e : plans front bl c ≡ map (plan_of now at k tables) c.changes
    e = plans-same old now at k tables (λ v s. unmoved front bl (new_blocks front bl c bl') (user old at k tables v s) (used v s)) c.changes

    count : k ≡ freshes (map (plan_of now at k tables) c.changes)
    count = length-contents c.changes (plans front bl c) (length-map c.changes (plan_of old at 0 tables)) ∙ ap freshes e

    bytes : (j : ℕ) → j < k → now (at + j) ≡ get_or (contents_for c.changes (map (plan_of now at k tables) c.changes)) j []
    bytes j h =
        new_bytes front (length tables) (new_contents front bl c) (commit (length tables) c.seat c.stamp (new_lines front bl c) ∷ bl') j h
        ∙ ap (λ (ps : List Plan). get_or (contents_for c.changes ps) j []) e

    laid_new : Laid now at k tables (new_lines front bl c) c
    laid_new =
        subst (λ (ps : List Plan). Laid now at k tables (lines_for 0 at ps) c) (sym e)
        (lawful-laid now at k tables some used c s₁ s₄ size law (subst (λ (ps : List Plan). 1 ≤ length (lines_for 0 at ps)) e one) count bytes)

abbrev pub AllowedFrom : History → ℕ → List Change → Type 0
AllowedFrom h i [] = Unit {0}
AllowedFrom h i (c ∷ cs) = Allowed h i c × AllowedFrom h (suc i) cs

allowed_from : (front bl : List Block) (h : History) (at k : ℕ) → Trees front bl h → (cs : List Change) (i : ℕ)
    → AllowedFrom h i cs → LawfulFrom (bytes_at (front ++ bl)) at k (tables_of front) i cs
allowed_from front bl h at k t [] i a = tt
allowed_from front bl h at k t (c ∷ cs) i a = (allowed_lawful front bl h at k t i c a.0, allowed_from front bl h at k t cs (suc i) a.1)

-- THE STATEMENT, with the rules as the document has them, of trees
pub allowed_lays : (front bl bl' : List Block) (g : Log) (c : Commit) → T (all (λ b. not (is_blank b)) front)
    → All (λ (b : Block). b ≡ blank) bl → All (λ (b : Block). b ≡ blank) bl' → 1 ≤ length front → LaysLog (front ++ bl) g
    → 1 ≤ c.seat → c.seat ≤ 4 → length c.changes ≡ 32 → AllowedFrom (commits g) 0 c.changes → 1 ≤ length (new_lines front bl c)
    → LaysLog (front ++ new_blocks front bl c bl') (g ++ (a_commit c ∷ []))
allowed_lays front bl bl' g c nb z z' some m s₁ s₄ size a one =
    commit_lays front bl bl' g c nb z z' some m s₁ s₄ size
    (allowed_from front bl (commits g) (length front) 0 (trees_of front bl (commits g) nb z some (log_lays (front ++ bl) g m)) c.changes 0 a) one
