-- "Writing": a body is cut into segments, and each becomes a data frame with its header.
use Rattle.std.specs.Prelude.{ℕ, zero, suc, ◌+◌, ◌-◌, List, [], ◌∷◌, ◌++◌, ltb, eqb, length, take, drop}
use Rattle.wire.specs.Checks.{pick, Check, check}
use Rattle.wire.specs.Answers.{Outcome}
use Rattle.wire.specs.Writing.{written}
use Rattle.wire.specs.Sizes.{bytes, odd}
use Rattle.wire.specs.declared.Bytes.{Bytes}
use Rattle.frame.specs.Session.{session_limit}
use Rattle.header_rule.specs.Rules.{not_permitted, radial_type, time_checks}
use Rattle.header.specs.Header.{header_size}
use Rattle.writer_head.specs.declared.Given.{Given}
use Rattle.writer_head.specs.Head.{heads}

-- "a body is cut into data of 2,400 bytes each, the last one shorter or full. An empty body makes one segment."
abbrev pub segment_data : Bytes
segment_data = bytes 2400

-- at most `cuts` cuts are made. Each cut takes bytes away, so a body has no more cuts than bytes
unfoldable pub cut : ℕ → List ℕ → List (List ℕ)
cut zero body = body ∷ []
cut (suc cuts) body =
    pick (ltb segment_data.0 (length body)) (take segment_data.0 body ∷ cut cuts (drop segment_data.0 body)) (body ∷ [])

-- "Type 31 makes one frame always."
abbrev pub segments_of : ℕ → List ℕ → List (List ℕ)
segments_of kind body = pick (eqb kind radial_type) (body ∷ []) (cut (length body) body)

-- the frame of a segment, whose data is `part`
unfoldable pub frame_of : Given → ℕ → ℕ → List ℕ → List ℕ
frame_of given n k part = heads given n k (bytes (header_size + length part)) ++ part

-- "frames are written in order from number 1 to N": those from number k on
unfoldable pub frames_from : Given → ℕ → ℕ → List (List ℕ) → List ℕ
frames_from given n k [] = []
frames_from given n k (part ∷ more) = frame_of given n k part ++ frames_from given n (k + 1) more

-- "N is the number of segments"
unfoldable pub frames_of : Given → List ℕ → List ℕ
frames_of given body = frames_from given (length (segments_of given.kind body)) 1 (segments_of given.kind body)

-- "body to write above 307,200 bytes,"
abbrev pub longest_body : Bytes
longest_body = bytes 307200

-- "or above 131,052 for type 31": what a session body holds besides the message header
abbrev pub longest_radial : Bytes
longest_radial = bytes (session_limit.0 - header_size)

abbrev pub longest : ℕ → Bytes
longest kind = pick (eqb kind radial_type) longest_radial longest_body

-- "Frame writer: 6, 8, 25, 26, 13.": those before 13
abbrev pub write_checks : Given → List ℕ → List Check
write_checks given body =
    check 6 (not_permitted given.kind)
    ∷ time_checks given.date given.milliseconds
    ++ (check 25 (odd (length body))
    ∷ check 26 (ltb (longest given.kind).0 (length body))
    ∷ [])

-- the writer's answer, and the contents of the output after it
unfoldable pub write_of : Given → List ℕ → List ℕ → Outcome (List ℕ) Bytes
write_of given body out = written (write_checks given body) (frames_of given body) out
