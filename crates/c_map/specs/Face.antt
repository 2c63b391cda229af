-- Message 15, and the code at a place of it, as C receives them. "On a refusal every other field is 0."
use Rattle.std.specs.Prelude.{ℕ}
use Rattle.wire.specs.Answers.{Answer, refused, given}
use Rattle.map_spec.specs.Reading.{Summary}
use Rattle.c_map.specs.declared.UlmMap.{UlmMap}
use Rattle.c_map.specs.declared.UlmMapCode.{UlmMapCode}

abbrev pub map_face : Answer Summary → UlmMap
map_face (refused n) = record { refusal = n; date = 0; minutes = 0; elevations = 0 }
map_face (given s) = record { refusal = 0; date = s.date; minutes = s.minutes; elevations = s.elevations }

abbrev pub map_code_face : Answer ℕ → UlmMapCode
map_code_face (refused n) = record { refusal = n; code = 0 }
map_code_face (given code) = record { refusal = 0; code = code }
