-- Message 9 as C receives it. "On a refusal every other field is 0."
use Rattle.std.specs.Prelude.{ℕ}
use Rattle.wire.specs.Answers.{Answer, refused, given}
use Rattle.c_request.specs.declared.UlmRequest.{UlmRequest}

abbrev pub request_face : Answer ℕ → UlmRequest
request_face (refused n) = record { refusal = n; code = 0 }
request_face (given code) = record { refusal = 0; code = code }
