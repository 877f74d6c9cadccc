-- The numbers that are known of two buffers, as one view.
-- Assumes nothing.
use Rattle.std.specs.Prelude.{ℕ}
use Rattle.entries.specs.declared.View.{View}

abbrev pub viewed : ℕ → ℕ → ℕ → ℕ → View
viewed n used last seat = record { n = n; used = used; last = last; seat = seat }
