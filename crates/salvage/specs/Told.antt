-- What the answer means: the number of refusal, or how much was kept, written and listed.
use Rattle.std.specs.Prelude.{Result}
use Rattle.wire.specs.Answers.{Answer}
use Rattle.wire.specs.Refusals.{tell}
use Rattle.wire.specs.declared.refusal.Refusal.{Refusal}
use Rattle.salvage_spec.specs.Salvage.{Report}
use Rattle.salvage.specs.declared.Salvaged.{Salvaged}

abbrev pub reported : Salvaged → Report
reported s = record { kept = s.kept; long = s.length; runs = s.runs }

abbrev pub tell_salvage : Result Salvaged Refusal → Answer Report
tell_salvage = tell reported
