-- The gates of a moment, and the value of a gate, as C receives them. "On a refusal every other field is 0."
use Rattle.std.specs.Prelude.{ℕ, ◌+◌}
use Rattle.wire.specs.Answers.{Answer, refused, given}
use Rattle.radial_spec.specs.Description.{moment_head, Moment, gate_bytes}
use Rattle.radial_spec.specs.Refusal.{Head, stored_head}
use Rattle.gate_value.specs.Value.{float, Worth, below_threshold, range_folded, worth}
use Rattle.c_gates.specs.declared.UlmGates.{UlmGates}
use Rattle.c_gates.specs.declared.UlmGate.{UlmGate}

-- gates with the moment's head: how to read them, and where they lie in the body
abbrev pub gates_by : Head → ℕ → ℕ → UlmGates
gates_by h start size = record {
  refusal = 0;
  gates = h.gates;
  word = h.word;
  scale = h.scale;
  offset = h.offset;
  first = h.first;
  interval = h.interval;
  start = start;
  size = size;
}

abbrev pub gates_face : Answer Moment → UlmGates
gates_face (refused n) = record { refusal = n; gates = 0; word = 0; scale = 0; offset = 0; first = 0; interval = 0; start = 0; size = 0 }
gates_face (given m) = gates_by (stored_head m) (m.place + moment_head) (gate_bytes m)

-- kind 0 a value, 1 below threshold, 2 range folded; the value is +0 where there is none
abbrev pub worth_face : Answer Worth → UlmGate
worth_face (refused n) = record { refusal = n; kind = 0; value = float 0 }
worth_face (given (worth v)) = record { refusal = 0; kind = 0; value = v }
worth_face (given below_threshold) = record { refusal = 0; kind = 1; value = float 0 }
worth_face (given range_folded) = record { refusal = 0; kind = 2; value = float 0 }
