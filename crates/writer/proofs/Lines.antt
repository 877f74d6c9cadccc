-- The lines as the code has them: their bytes, one after the other.
-- Assumes nothing.
use Rattle.std.proofs.Common.{◌*◌, ◌+◌, ◌<◌, ◌≡◌, ◌∙◌, ℕ, List, [], ◌++◌, ◌∷◌, ap, ap₂, refl, sym, arith, get_or, length, take, length-take}
use Rattle.std.proofs.Math.ListN.{length-map}
use Rattle.std.proofs.lemmas.List.{map_more}
use Rattle.block.proofs.Writing.{written_both}
use Rattle.block.specs.Field.{two}
use Rattle.block.specs.Write.{written}
use Rattle.model.specs.Blocks.{Line, code_of, lines_of}
use Rattle.laws.proofs.BlockCodes.{length-lines}
use Rattle.writer.specs.Blocks.{line_bytes, line_in, lines_in}
use Rattle.writer.specs.declared.Line.{Line as TheLine}

lines-append : (ls : List Line) (l : TheLine) → lines_of (ls ++ (line_in l ∷ [])) ≡ lines_of ls ++ line_bytes l
unfolding line_bytes
lines-append [] l = refl
lines-append (k ∷ ls) l = ap (λ x. k.sheet ∷ code_of k.action ∷ two k.block (k.source ∷ 0 ∷ two k.revision x)) (lines-append ls l)

-- one line more
pub line_more : (ls : List TheLine) (i : ℕ) (l₀ : TheLine) (d₀ d d' : List ℕ) → i < length ls
    → d ≡ written 16 (lines_of (lines_in (take i ls))) d₀ → d' ≡ written (16 + 8 * i) (line_bytes (get_or ls i l₀)) d
    → d' ≡ written 16 (lines_of (lines_in (take (i + 1) ls))) d₀
line_more ls i l₀ d₀ d d' h e e' =
    let before = lines_in (take i ls) in
    let l = get_or ls i l₀ in
    let at : 16 + 8 * i ≡ 16 + length (lines_of before) = omega (arith, length-lines before, length-map (take i ls) line_in, length-take i ls) in
    e' ∙ ap₂ (λ k x. written k (line_bytes l) x) at e ∙ sym (written_both 16 (lines_of before) (line_bytes l) d₀)
    ∙ ap (λ x. written 16 x d₀) (sym (ap lines_of (map_more line_in ls i l₀ h) ∙ lines-append before l))
