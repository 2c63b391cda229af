-- What is proved of the frame's rules.
use Rattle.std.specs.Prelude.{ℕ, ◌≡◌, List}
use Rattle.wire.specs.Numbers.{Octets}
use Rattle.wire.specs.Tables.{render, Holds}
use Rattle.wire.specs.Answers.{given}
use Rattle.frame.specs.declared.Frame.{Frame}
use Rattle.frame.specs.Session.{head_table, frame, frame_at}

-- "What is read .. is what the interface document .. defines": the table of the frame that is read stands at its
-- place
abbrev pub HeadStands : Type 0
HeadStands = (stream : List ℕ) (place : ℕ) (f : Frame) → Octets stream → frame_at stream place ≡ given (frame f)
    → Holds stream place (render (head_table f.kind f.second f.size))
