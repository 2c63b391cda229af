-- Message 8 as C receives it. "On a refusal every other field is 0."
use Rattle.std.specs.Prelude.{ℕ, List, replicate}
use Rattle.wire.specs.Answers.{Answer, refused, given}
use Rattle.censor.specs.Told.{places, shown}
use Rattle.c_censor.specs.declared.UlmCensor.{UlmCensor}

-- "all 150 halfwords": those of the reader's own struct
abbrev pub censor_face : Answer (List ℕ) → UlmCensor
censor_face (refused n) = record { refusal = n; count = 0; regions = replicate places 0 }
censor_face (given list) = record { refusal = 0; count = (shown list).count; regions = (shown list).regions }
