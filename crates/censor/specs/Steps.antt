-- What the private functions promise each other. No public promise cites this file.
use Rattle.std.specs.Prelude.{ℕ, ◌*◌, Bool, List}
use Rattle.wire.specs.Checks.{some_broken}
use Rattle.form_spec.specs.Forms.{times, field_checks}
use Rattle.censor.specs.Censor.{region_fields, region}

-- the bytes of a region
abbrev pub region_bytes : ℕ
region_bytes = 2 * region_fields

-- some field of a region, or of n regions, is out of range
abbrev pub region_broken : List ℕ → Bool
region_broken l = some_broken (field_checks region l)

abbrev pub regions_broken : ℕ → List ℕ → Bool
regions_broken n l = some_broken (field_checks (times n region) l)
