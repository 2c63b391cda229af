-- What the private functions promise each other. No public promise cites this file.
use Rattle.std.specs.Prelude.{◌+◌, ◌-◌}
use Rattle.radial_spec.specs.Description.{moment_head, moment_bytes}
use Rattle.radial_head.specs.declared.MomentHead.{MomentHead}
use Rattle.radial_head.specs.Told.{head_back}
use Rattle.c_gates.specs.declared.UlmGates.{UlmGates}
use Rattle.c_gates.specs.Face.{gates_by}

-- a moment's gates by its head
abbrev pub head_gates : MomentHead → UlmGates
head_gates h = gates_by (head_back h) (h.place + moment_head) (moment_bytes h.gates h.word - moment_head)
