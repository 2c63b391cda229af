-- What the private functions promise each other. No public promise cites this file.
use Rattle.std.specs.Prelude.{ℕ, ◌+◌, ◌*◌, ◌-◌, ◌≤◌, ◌<◌, ◌≡◌, Bool, true, ◌&&◌, leb, length, take, drop}
use mathlib.Core.List.{List, ◌++◌, flatten}
use Rattle.wire.specs.Writing.{filled}
use Rattle.salvage_spec.specs.Walk.{stands, steps_of, frames_of, runs_of, kept_of, skipped_of}
use Rattle.salvage_spec.specs.Salvage.{numbers}
use Rattle.salvage.specs.declared.Stretch.{Stretch}
use Rattle.salvage.specs.declared.Salvaged.{Salvaged}

-- from one place to another there are only frames that pass: their number, and their bytes
pub record Frames (b : List ℕ) (from to count : ℕ) : Type 0 where
  pub forward : from + count ≤ to
  pub within : to ≤ length b
  pub each : List (List ℕ)
  pub counted : count ≡ length each
  pub bytes : flatten each ≡ take (to - from) (drop from b)
  pub kept : frames_of (steps_of (drop from b)) ≡ each ++ frames_of (steps_of (drop to b))
  pub none : runs_of from from (steps_of (drop from b)) ≡ runs_of to to (steps_of (drop to b))

-- frames in a row from a place on, at least one if a frame stands there
pub record StretchFrom (b : List ℕ) (from : ℕ) (r : Stretch) : Type 0 where
  pub frames : Frames b from r.next r.frames
  pub some : stands (drop from b) ≡ true → from < r.next

-- everything is counted, and each output that has room holds its part
pub record WalkedOver (b out runs : List ℕ) (r : Salvaged) (out' runs' : List ℕ) : Type 0 where
  pub kept : r.kept ≡ length (kept_of b)
  pub long : r.length ≡ length (flatten (kept_of b))
  pub count : r.runs ≡ length (skipped_of b)
  pub output : length (flatten (kept_of b)) ≤ length out → out' ≡ filled (flatten (kept_of b)) out
  pub listed : 2 * length (skipped_of b) ≤ length runs → runs' ≡ filled (numbers (skipped_of b)) runs

-- both outputs have room
abbrev pub room_for : List ℕ → List ℕ → List ℕ → Bool
room_for b out runs = leb (length (flatten (kept_of b))) (length out) && leb (2 * length (skipped_of b)) (length runs)
