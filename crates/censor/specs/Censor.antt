-- "Message 8: region count n (0 to 25), then six halfwords each: start range and stop range 0-511, start azimuth and stop azimuth 0-360,
-- elevation segment 1-5, code 0-2."
use Rattle.std.specs.Prelude.{ℕ, List, [], ◌∷◌, get_or, drop}
use Rattle.wire.specs.Checks.{check}
use Rattle.wire.specs.Answers.{Answer, Outcome}
use Rattle.form_spec.specs.Forms.{Range, within, outside, Row, row, times, Form, read_by, body_by, written_by}
use Rattle.wire.specs.declared.Bytes.{Bytes}

-- "region count n (0 to 25)"
abbrev pub most_regions : ℕ
most_regions = 25

abbrev pub counts : Range
counts = within 0 most_regions

-- "start range and stop range 0-511"
abbrev pub kilometres : Range
kilometres = within 0 511

-- "start azimuth and stop azimuth 0-360"
abbrev pub azimuths : Range
azimuths = within 0 360

-- "elevation segment 1-5"
abbrev pub segments : Range
segments = within 1 5

-- "code 0-2"
abbrev pub codes : Range
codes = within 0 2

-- "six halfwords each": start range, stop range, start azimuth, stop azimuth, elevation segment, code. "Start above stop is not refused."
abbrev pub region_fields : ℕ
region_fields = 6

abbrev pub region : List Row
region = row 2 kilometres ∷ row 2 kilometres ∷ row 2 azimuths ∷ row 2 azimuths ∷ row 2 segments ∷ row 2 codes ∷ []

-- "Body 8: absent count 23, count 24, length 23, fields 24."
abbrev pub censor_form : Form
censor_form = record { front = row 2 counts ∷ []; counter = 0; rest = λ n. times n region; early = λ n. check 24 (outside counts n) ∷ [] }

-- message 8 as a list of halfwords, "the count first": its count, and its regions' fields
abbrev pub count : List ℕ → ℕ
count list = get_or list 0 0

abbrev pub fields : List ℕ → List ℕ
fields list = drop 1 list

-- what the reader answers of a body, and the body that a list is written as
unfoldable pub censor_of : List ℕ → Answer (List ℕ)
censor_of body = read_by censor_form body

abbrev pub body_of : List ℕ → List ℕ
body_of list = body_by censor_form list

-- "The writer takes the same numbers as a list, the count first." "Body writers: the reader's checks, then 13."
unfoldable pub censor_written : List ℕ → List ℕ → Outcome (List ℕ) Bytes
censor_written list out = written_by censor_form list out
