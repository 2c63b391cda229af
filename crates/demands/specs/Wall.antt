-- From the stream to the display: the gates that the renderer paints are the buffer's own bytes, at the range given by the frame, the
-- header and the block's pointer. They lie inside that frame and are the moment's codes, one word each.
use Rattle.std.specs.Prelude.{ℕ, ◌+◌, ◌-◌, ◌≤◌, ◌≡◌, List, map, length, Ok, Some}
use Rattle.std.specs.Borrow.{Bor}
use Rattle.wire.specs.Numbers.{num, Octets}
use Rattle.wire.specs.Tables.{field, render}
use Rattle.wire.specs.Answers.{given}
use Rattle.frame.specs.Session.{head_size, data_kind}
use Rattle.frame.specs.declared.Frame.{Frame}
use Rattle.frame.proofs.frame_at.Reads as frame_at
use Rattle.header_rule.specs.Rules.{radial_type}
use Rattle.header.specs.Header.{header_size}
use Rattle.header.specs.declared.Header.{Header}
use Rattle.header.proofs.read_header.Reads as read_header
use Rattle.radial_spec.specs.Description.{moment_head, Moment, word_bytes, gate_bytes}
use Rattle.radial_spec.specs.Lookups.{moment_of, Part}
use Rattle.radial_gates.specs.Told.{LiesAt}
use Rattle.radial_gates.proofs.gates.Reads as gates_of

-- what a loader does with a lent buffer: it calls `frame_at` at a place, takes the frame's body, calls `read_header` on it, takes what
-- follows the header, and calls `gates` there with a moment's name. Each call's result meets its contract; κs and s are each call's own.
pub record Walked (κs₁ κs₂ κs₃ s₁ s₂ s₃ : _) (buffer message body gates : Bor (List ℕ)) (place : ℕ) (name : List ℕ) (f : Frame)
    (h : Header) (m : Moment) : Type 0
  where
    pub framed : frame_at.Learnt κs₁ (buffer, (place, tt)) (Ok (Some f)) s₁
    pub carries : f.kind ≡ data_kind
    pub taken : LiesAt buffer message (record { place = f.start; size = f.size.0 })
    pub headed : read_header.Learnt κs₂ (message, tt) (Ok h) s₂
    pub typed : h.kind ≡ radial_type
    pub after : LiesAt message body (record { place = header_size; size = f.size.0 - header_size })
    pub bytes : Octets body.now
    pub found : moment_of body.now (num 4 name 0) ≡ given m
    pub lent : gates_of.Learnt κs₃ (body, (name, tt)) gates s₃

-- where the gates lie in the buffer: the frame's place plus session head, message header, block's pointer and moment's head
abbrev pub on_the_wall : ℕ → Moment → Part
on_the_wall place m = record { place = place + head_size + header_size + m.place + moment_head; size = gate_bytes m }

-- the gates are exactly those bytes of the buffer's memory, end within the frame, which ends within the buffer, and are the moment's codes
abbrev pub Wall : Type 0
Wall =
    (κs₁ κs₂ κs₃ s₁ s₂ s₃ : _) (buffer message body gates : Bor (List ℕ)) (place : ℕ) (name : List ℕ) (f : Frame) (h : Header) (m : Moment)
    → Walked κs₁ κs₂ κs₃ s₁ s₂ s₃ buffer message body gates place name f h m
    → LiesAt buffer gates (on_the_wall place m)
    × ((on_the_wall place m).place + (on_the_wall place m).size ≤ f.next)
    × (f.next ≤ length buffer.now)
    × (gates.now ≡ render (map (field (word_bytes m)) m.codes))
