-- The part of a lent slice that a place names.
-- Assumes nothing.
use Rattle.std.specs.Prelude.{Err, Ok}
use Prim.Native.Nat.{◌+◌, ◌≤◌, ℕ}
use mathlib.Core.List.{List}
use mathlib.Core.Path.{◌∙◌, ◌≡◌, ap, ap₂, refl, subst}
use native.Mathlib.Nat.{add-sub_cancel_left}
use native.Mathlib.Omega.{arith}
use borrow.Rule.Slice.PartAt.{sl_partˢ}
use borrow.Rule.Slice.Shared.{by_byte}
use denote.Ref.{Bor}
use lib.ListN.{drop, take}
use Rattle.model.specs.Calls.{Place, in_copy, part_of}
use Rattle.model.specs.Types.{place_of}
use Rattle.model.specs.declared.Place.TheVariants.{InCopy, InStore}
use Rattle.model.specs.declared.Refusal.{Refusal}
use Rattle.model.specs.declared.Span.{Span}
use Rattle.engine.specs.Part.{PartAt, ShownAt}

-- `&s[a..a + len]`
part_is : (s : Bor (List ℕ)) (a len : ℕ) → PartAt s (sl_partˢ s (by_byte a s.ref_ptr.1) a (a + len)) (a, len)
part_is s a len = record { block = refl; offset = omega arith; bytes = ap (λ (k : ℕ). take k (drop a s.now)) (add-sub_cancel_left a len) }

module _ (s : Bor (List ℕ)) {q : Place} where
  pub part_refused : (k : Refusal) → place_of (Err k) ≡ q → PartAt s (sl_partˢ s (by_byte 0 s.ref_ptr.1) 0 0) (part_of q)
  part_refused k e = subst (λ (x : Place). PartAt s (sl_partˢ s (by_byte 0 s.ref_ptr.1) 0 0) (part_of x)) e (part_is s 0 0)

  pub part_there : (p : Span) {n : ℕ} → place_of (Ok (InStore p n)) ≡ q → PartAt s (sl_partˢ s (by_byte p.start s.ref_ptr.1) p.start (p.start + p.len)) (part_of q)
  part_there p e = subst (λ (x : Place). PartAt s (sl_partˢ s (by_byte p.start s.ref_ptr.1) p.start (p.start + p.len)) (part_of x)) e (part_is s p.start p.len)

  -- of no copy there is only the empty part
  pub part_none : (p : Span) → p.start + p.len ≤ 0 → place_of (Ok (InCopy p)) ≡ q → PartAt s (sl_partˢ s (by_byte 0 s.ref_ptr.1) 0 0) (part_of q)
  part_none p h e =
      let start : 0 ≡ p.start = omega arith in
      let len : 0 ≡ p.len = omega arith in
      subst (λ (x : Place). PartAt s (sl_partˢ s (by_byte 0 s.ref_ptr.1) 0 0) (part_of x)) (ap₂ in_copy start len ∙ e) (part_is s 0 0)

-- the part that show hands back, of the store or of the working copy
module _ (s c : Bor (List ℕ)) {q : Place} where
  pub shown-refused : (k : Refusal) → place_of (Err k) ≡ q → ShownAt s c (sl_partˢ s (by_byte 0 s.ref_ptr.1) 0 0) q
  shown-refused k e = subst (λ (x : Place). ShownAt s c (sl_partˢ s (by_byte 0 s.ref_ptr.1) 0 0) x) e (part_is s 0 0)

  pub shown-there : (p : Span) {n : ℕ} → place_of (Ok (InStore p n)) ≡ q → ShownAt s c (sl_partˢ s (by_byte p.start s.ref_ptr.1) p.start (p.start + p.len)) q
  shown-there p e = subst (λ (x : Place). ShownAt s c (sl_partˢ s (by_byte p.start s.ref_ptr.1) p.start (p.start + p.len)) x) e (part_is s p.start p.len)

  pub shown-own : (p : Span) → place_of (Ok (InCopy p)) ≡ q → ShownAt s c (sl_partˢ c (by_byte p.start c.ref_ptr.1) p.start (p.start + p.len)) q
  shown-own p e = subst (λ (x : Place). ShownAt s c (sl_partˢ c (by_byte p.start c.ref_ptr.1) p.start (p.start + p.len)) x) e (part_is c p.start p.len)
