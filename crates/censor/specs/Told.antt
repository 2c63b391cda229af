-- What the reader's answer means: the number of refusal, or the values.
use Rattle.std.specs.Prelude.{ℕ, ◌*◌, ◌-◌, List, ◌∷◌, ◌++◌, length, take, replicate, Result}
use Rattle.wire.specs.Answers.{Answer, given, onward}
use Rattle.wire.specs.Refusals.{tell}
use Rattle.wire.specs.declared.refusal.Refusal.{Refusal}
use Rattle.censor.specs.declared.Censor.{Censor}
use Rattle.censor.specs.Censor.{most_regions, region_fields, count, fields}

abbrev pub tell_censor : Result Censor Refusal → Answer Censor
tell_censor = tell (λ censor. censor)

-- room for the fields of the most regions
abbrev pub places : ℕ
places = region_fields * most_regions

-- "The reader hands back n and the regions by value, as stored; places past the last region hold 0."
abbrev pub shown : List ℕ → Censor
shown list = record { count = count list; regions = fields list ++ replicate (places - length (fields list)) 0 }

abbrev pub censor_shown : Answer (List ℕ) → Answer Censor
censor_shown a = onward a (λ list. given (shown list))

-- what a struct means: the count, and the fields of so many regions
abbrev pub list_of : Censor → List ℕ
list_of censor = censor.count ∷ take (region_fields * censor.count) censor.regions
