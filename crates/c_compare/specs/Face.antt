-- The comparison of two messages 15, as C receives it. "On a refusal every other field is 0."
use Rattle.wire.specs.Answers.{Answer, refused, given}
use Rattle.compare_spec.specs.Comparing.{Comparison}
use Rattle.c_compare.specs.declared.UlmComparison.{UlmComparison}

abbrev pub comparison_face : Answer Comparison → UlmComparison
comparison_face (refused n) = record { refusal = n; old_elevations = 0; new_elevations = 0; differences = 0 }
comparison_face (given c) = record {
  refusal = 0;
  old_elevations = c.old_elevations;
  new_elevations = c.new_elevations;
  differences = c.differences;
}
