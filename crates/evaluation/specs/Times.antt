-- The times of events.
use Rattle.std.specs.Prelude.{ℕ, ◌<◌, ◌≤◌, List, slice_index}

-- times that never fall
abbrev pub Rising : ℕ → List ℕ → Type 0
Rising n times = (j k : ℕ) → j ≤ k → k < n → slice_index times j ≤ slice_index times k
