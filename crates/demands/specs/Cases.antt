-- "Numbers on either side. Those with a star go into the proved table.": cases 1 to 13, one list, each a question to a rule and its answer;
-- and what size 65,535 answers in a message that is too short for it (K11).
use Rattle.std.specs.Prelude.{ℕ, zero, suc, ◌≡◌, List, [], ◌∷◌, ◌++◌, map, eqb, length, drop, replicate}
use Rattle.std.proofs.Math.Option.{Option, none, some}
use Rattle.wire.specs.Numbers.{be}
use Rattle.wire.specs.Checks.{pick}
use Rattle.wire.specs.Answers.{Answer, refused, given, Outcome, refusal}
use Rattle.wire.specs.Sizes.{bytes}
use Rattle.wire.specs.declared.Bytes.{Bytes}
use Rattle.frame.specs.Session.{Stream, end, frame, body_in, after, frame_at}
use Rattle.header.specs.declared.Header.{Header}
use Rattle.header.specs.Header.{header_in, header_of}
use Rattle.set_spec.specs.Walk.{SetSays, set_of}
use Rattle.set_spec.specs.Theorems.{accepted}
use Rattle.set_spec.specs.Cases.{frame_with, header_with}
use Rattle.writer_head.specs.declared.Given.{Given}
use Rattle.writer.specs.Writing.{frames_of, write_of}
use Rattle.radial_spec.specs.Refusal.{radial_of}
use Rattle.radial_spec.specs.Cases.{number_of, header as radialHeader, moment, REF, places, three, blocks}
use Rattle.gate_value.specs.Value.{float, Worth, below_threshold, worth, value_of}
use Rattle.gate_value.specs.Cases.{two, sixty_six}
use Rattle.map_spec.specs.Reading.{code_of}
use Rattle.map_spec.specs.Cases.{body13}

-- a question, with its right answer as the last argument
pub data Case : Type 0 where
  stream : (buffer : List ℕ) (place : ℕ) → Answer Stream → Case
  header : (message : List ℕ) → Answer Header → Case
  -- a set, or a request to write; the outcome says what the output then holds
  set : (frames out : List ℕ) → Outcome (List ℕ) SetSays → Case
  write : (body out : List ℕ) → Outcome (List ℕ) Bytes → Case
  -- a body written for the request: the writer's answer alone, and the sizes in the headers of its frames
  long : (body out : List ℕ) → Answer Bytes → Case
  sizes : (body : List ℕ) → List ℕ → Case
  -- the number that refuses a radial, if any does
  radial : (body : List ℕ) → Option ℕ → Case
  value : (code scale offset : ℕ) → Answer Worth → Case
  code : (body : List ℕ) (elevation azimuth kilometre : ℕ) → Answer ℕ → Case

-- what a rule answers
pub data Found : Type 0 where
  streamed : Answer Stream → Found
  headed : Answer Header → Found
  joined : Outcome (List ℕ) SetSays → Found
  wrote : Outcome (List ℕ) Bytes → Found
  measured : Answer Bytes → Found
  sized : List ℕ → Found
  numbered : Option ℕ → Found
  worthy : Answer Worth → Found
  coded : Answer ℕ → Found

-- "Request 129, channel 0, sequence 5, date 16,000, 1,000 ms": what the writer is given, and the frame
abbrev pub request : Given
request = record { channel = 0; kind = 9; sequence = 5; date = 16000; milliseconds = 1000 }

abbrev pub request_frame : List ℕ
request_frame = frame_with 9 1 1 0x0081

-- the message in such a frame, with a size and a segment number
abbrev pub message_with : ℕ → ℕ → List ℕ
message_with size number = drop 12 (frame_with size 1 number 0x0081)

-- a message of 18 bytes with size 65,535, and its true length in the two segment fields
abbrev pub marked_with : ℕ → List ℕ
marked_with kind =
    be 2 65535 ++ (be 1 0x00 ++ (be 1 kind ++ (be 2 0x0005 ++ (be 2 0x3E80 ++ (be 4 0x000003E8 ++ (be 4 18 ++ be 2 0x0081))))))

-- the size in halfwords in each header of a buffer of frames, in their order
abbrev pub sizes_in : ℕ → List ℕ → List ℕ
sizes_in zero rest = []
sizes_in (suc turns) rest = pick (eqb (length rest) 0) [] ((header_in (body_in rest)).size.0 ∷ sizes_in turns (after rest))

abbrev pub found : Case → Found
found (stream buffer place r) = streamed (frame_at buffer place)
found (header message r) = headed (header_of message)
found (set frames out r) = joined (set_of frames out)
found (write body out r) = wrote (write_of request body out)
found (long body out r) = measured (write_of request body out).answer
found (sizes body r) = sized (sizes_in (length (frames_of request body)) (frames_of request body))
found (radial body r) = numbered (number_of (radial_of body))
found (value n scale offset r) = worthy (value_of n scale offset)
found (code body elevation azimuth kilometre r) = coded (code_of body elevation azimuth kilometre)

abbrev pub right : Case → Found
right (stream buffer place r) = streamed r
right (header message r) = headed r
right (set frames out r) = joined r
right (write body out r) = wrote r
right (long body out r) = measured r
right (sizes body r) = sized r
right (radial body r) = numbered r
right (value n scale offset r) = worthy r
right (code body elevation azimuth kilometre r) = coded r

-- the output of a set's cases: five bytes that hold 7
abbrev pub sevens : List ℕ
sevens = replicate 5 7

abbrev pub frame_cases : List Case
frame_cases =
    -- "1. Empty buffer: "end" as a stream, 12 as a set. 2. 11 bytes: 1."
    stream [] 0 (given end)
    ∷ set [] sevens (refusal sevens 12)
    ∷ stream (replicate 11 0) 0 (refused 1)
    ∷ set (replicate 11 0) sevens (refusal sevens 1)
    -- 3: the frame off a stream, its message, as a set, and written into an output of one byte more than it needs
    ∷ stream request_frame 0 (given (frame (record { kind = 2; second = 0; start = 12; size = bytes 18; next = 30 })))
    ∷ header (message_with 9 1) (given (header_with 1 1))
    ∷ set request_frame sevens (accepted (header_with 1 1) (0x00 ∷ 0x81 ∷ []) sevens)
    ∷ write (0x00 ∷ 0x81 ∷ []) (replicate 31 7) (record { answer = given (bytes 30); output = request_frame ++ (7 ∷ []) })
    -- "4. Case 3 with size 8: 5." 5, with segment number 0: since K1 "an acceptance", as case 3
    ∷ header (message_with 8 1) (refused 5)
    ∷ set (frame_with 8 1 1 0x0081) sevens (refusal sevens 5)
    ∷ header (message_with 9 0) (given (header_with 1 1))
    ∷ set (frame_with 9 1 0 0x0081) sevens (accepted (header_with 1 1) (0x00 ∷ 0x81 ∷ []) sevens)
    ∷ []

abbrev pub set_cases : List Case
set_cases =
    -- "6. Body 2,400: one segment, size 1,208. 2,402: two, sizes 1,208 and 9."
    long (replicate 2400 0) (replicate 2428 7) (given (bytes 2428))
    ∷ sizes (replicate 2400 0) (1208 ∷ [])
    ∷ long (replicate 2402 0) (replicate 2458 7) (given (bytes 2458))
    ∷ sizes (replicate 2402 0) (1208 ∷ 9 ∷ [])
    -- "7. Set in order 2, 1: accepted, data of 1 first." "8. Numbers 2, 2 of two: 11. Only 2: 12."
    ∷ set (frame_with 9 2 2 0x3334 ++ frame_with 9 2 1 0x3132) sevens (accepted (header_with 2 1) (0x31 ∷ 0x32 ∷ 0x33 ∷ 0x34 ∷ []) sevens)
    ∷ set (frame_with 9 2 2 0x3334 ++ frame_with 9 2 2 0x3334) sevens (refusal sevens 11)
    ∷ set (frame_with 9 2 2 0x3334) sevens (refusal sevens 12)
    ∷ []

abbrev pub body_cases : List Case
body_cases =
    -- "9. Blocks at 68, 112, 124, 144 with lengths 44, 12, 20 and no gates: radial length 172 accepted, 171 is 18."
    radial (radialHeader 172 places ++ blocks) none
    ∷ radial (radialHeader 171 places ++ blocks) (some 18)
    -- "10. The moment at 143: 18. At 145, length 173: accepted." "11. REF twice: 19."
    ∷ radial (radialHeader 172 (68 ∷ 112 ∷ 124 ∷ 143 ∷ []) ++ blocks) (some 18)
    ∷ radial (radialHeader 173 (68 ∷ 112 ∷ 124 ∷ 145 ∷ []) ++ (three ++ (0 ∷ moment REF 0 8))) none
    ∷ radial (radialHeader 200 (68 ∷ 112 ∷ 124 ∷ 144 ∷ 172 ∷ []) ++ (blocks ++ moment REF 0 8)) (some 19)
    -- "12. Scale 2, offset 66: code 66 is +0, code 255 is 94.5, code 0 is below threshold."
    ∷ value 66 two sixty_six (given (worth (float 0x00000000)))
    ∷ value 255 two sixty_six (given (worth (float 0x42BD0000)))
    ∷ value 0 two sixty_six (given below_threshold)
    -- "13. Ends 100, 511 with codes 0, 2: kilometre 100 is 0, 101 is 2."
    ∷ code body13 1 0 100 (given 0)
    ∷ code body13 1 0 101 (given 2)
    ∷ []

-- "even, 131,070 to 1,048,576, equal to the frame's body, otherwise 5"; "a type not permitted still gets 6, any other type .. gets 7"
abbrev pub marked_cases : List Case
marked_cases = header (marked_with 31) (refused 5) ∷ header (marked_with 14) (refused 6) ∷ header (marked_with 9) (refused 7) ∷ []

abbrev pub starred : List Case
starred = frame_cases ++ (set_cases ++ (body_cases ++ marked_cases))

-- in every case the rule gives the right answer
abbrev pub Starred : Type 0
Starred = map found starred ≡ map right starred
