-- A salvage as C receives it. "On a refusal every other field is 0."
use Rattle.wire.specs.Answers.{Answer, refused, given}
use Rattle.salvage_spec.specs.Salvage.{Report}
use Rattle.c_salvage.specs.declared.UlmSalvage.{UlmSalvage}

abbrev pub salvage_face : Answer Report → UlmSalvage
salvage_face (refused n) = record { refusal = n; kept = 0; length = 0; runs = 0 }
salvage_face (given s) = record { refusal = 0; kept = s.kept; length = s.long; runs = s.runs }
