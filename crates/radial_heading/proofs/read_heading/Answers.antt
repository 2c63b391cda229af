use Prim.Native.Nat.{ℕ, ◌≤◌}
use mathlib.Core.Path.{◌≡◌, sym, ap}
use mathlib.Core.List.{List}
use lib.ListN.{length}
use Rattle.wire.specs.Answers.{number_of}
use Rattle.wire.proofs.ExitLaws.{exits}
use Rattle.radial_spec.specs.Description.{header_size}
use Rattle.radial_spec.specs.Refusal.{radial_of}
use Rattle.radial_spec.proofs.Held.{held, number_given, number_refused}
use Rattle.radial_heading.specs.Told.{heading_shown}
use Rattle.radial_heading.proofs.HeadingLaws.{heading_is}
use Rattle.radial_heading.proofs.read_heading.Goals as goal

-- an accepted body has a whole header
long : (b : List ℕ) → 0 ≡ number_of (radial_of b) → header_size ≤ length b
long b e = (held b _ (number_given b e)).start.long

pub returns-in_err-check_radial : goal.returns-in_err-check_radial
returns-in_err-check_radial c =
    rw (exits _ _ c.from_residual.ensures) (sym (ap heading_shown (number_refused _ _ c.in_err-check_radial.ensures)))

pub header_of-header-requires : goal.header_of-header-requires
header_of-header-requires c = long _ c.in_ok-check_radial.ensures

pub count_of-requires : goal.count_of-requires
count_of-requires c = long _ c.in_ok-check_radial.ensures

pub returns : goal.returns
returns c =
    heading_is _ (number_given _ c.in_ok-check_radial.ensures) _ _ c.count_of.ensures c.header_of-header.ensures
