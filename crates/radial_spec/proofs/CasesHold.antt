-- The limits, by computation of the rule. Assumes nothing.
use mathlib.Core.Path.{refl}
use mathlib.Core.List.{◌++◌}
use Rattle.wire.specs.Numbers.{num}
use Rattle.wire.specs.Properties.{Each}
use Rattle.wire.proofs.EachLaws.{each_append}
use Rattle.radial_spec.specs.Refusal.{radial_of}
use Rattle.radial_spec.specs.Cases.{Answered, header_cases, count_cases, place_cases, size_cases, Limits}

headers : Each Answered header_cases
unfolding radial_of num
headers = (refl, (refl, (refl, (refl, (refl, (refl, tt))))))

counts : Each Answered count_cases
unfolding radial_of num
counts = (refl, (refl, (refl, tt)))

places : Each Answered place_cases
unfolding radial_of num
places = (refl, (refl, (refl, (refl, (refl, (refl, (refl, tt)))))))

sizes : Each Answered size_cases
unfolding radial_of num
sizes = (refl, (refl, (refl, (refl, (refl, (refl, (refl, (refl, (refl, tt)))))))))

pub limits : Limits
limits =
    each_append Answered header_cases (count_cases ++ (place_cases ++ size_cases)) headers
    (each_append Answered count_cases (place_cases ++ size_cases) counts (each_append Answered place_cases size_cases places sizes))
