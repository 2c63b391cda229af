-- The walk of a query past the zones of a checked azimuth. Assumes nothing.
use Prim.Native.Nat.{ℕ, suc, ◌+◌, ◌-◌, ◌/◌, ◌%◌, ◌≤◌, ◌<◌}
use native.Mathlib.Omega.{arith}
use mathlib.Core.Path.{◌≡◌, sym, ap, ◌∙◌}
use mathlib.Core.List.{List, ◌++◌}
use native.Mathlib.Nat.{add-zero}
use lib.ListN.{length, drop, length-drop}
use lib.Seq.{drop-drop, drop-append_seam}
use Rattle.wire.specs.Numbers.{num, fetched, Octets}
use Rattle.wire.specs.Checks.{AllHold}
use Rattle.wire.proofs.NumberLaws.{num-append, num-drop, fetched-whole}
use Rattle.map_spec.specs.Map.{last_kilometre, halfword_numbers, field_size, zone_size, code_from}
use Rattle.map_spec.specs.Reading.{value, azimuth_part}
use Rattle.map_spec.specs.Places.{zone_at}
use Rattle.map_spec.proofs.ZoneWalk.{Facing, facing_first, facing-there, facing-code, facing-next, code_half, end_half}

-- the first zone of the bytes that are left is the first that may cover the kilometre
pub record Looking (b : List ℕ) (kilometre : ℕ) (rest : List ℕ) : Type 0 where
  pub from : ℕ
  pub low : from ≤ kilometre
  pub at : ℕ
  pub is : rest ≡ drop at b
  pub left : ℕ
  pub here : Facing b at from left

module _ (b : List ℕ) (checked : AllHold (azimuth_part.checks b)) (kilometre : ℕ) (asked : kilometre ≤ last_kilometre) where
  pub looking_start : (rest : List ℕ) → rest ≡ drop field_size b → Looking b kilometre rest
  looking_start rest e =
      record { from = 0; low = omega arith; at = field_size; is = e; left = value b; here = facing_first b checked }

  module _ (rest : List ℕ) (l : Looking b kilometre rest) where
    near : l.from ≤ last_kilometre
    near = omega (arith, l.low)

    there : l.at + zone_size ≤ length b
    there = facing-there b checked l.at l.from l.left l.here near

    -- one is always left
    pub looking-done : length rest < zone_size → 0 ≡ code_from 0 (azimuth_part.read b) kilometre
    looking-done none = absurd (omega (arith, there, none, ap length l.is, length-drop l.at b))

    module _ (octets : Octets b) (four others : List ℕ) (split : rest ≡ four ++ others) (long : length four ≡ zone_size) (zone : ℕ)
        (is : zone ≡ fetched zone_size four 0) (end : ℕ) (ends : end ≡ zone % halfword_numbers)
      where
        number : zone ≡ num zone_size b l.at
        number =
            is ∙ fetched-whole zone_size four 0 (omega (arith, long)) ∙ sym (num-append zone_size four others 0 (omega (arith, long)))
            ∙ ap (λ (k : List ℕ). num zone_size k 0) (sym split ∙ l.is)
            ∙ num-drop zone_size b l.at 0
            ∙ ap (λ (k : ℕ). num zone_size b k) (add-zero l.at)

        end_is : end ≡ (zone_at b l.at).end
        end_is = ends ∙ end_half b octets l.at zone number

        pub looking-here : (code : ℕ) → code ≡ zone / halfword_numbers → kilometre ≤ end → code ≡ code_from 0 (azimuth_part.read b) kilometre
        looking-here code coded h =
            coded ∙ code_half b octets l.at zone number
            ∙ sym (facing-code b checked l.at l.from l.left l.here near kilometre l.low (omega (arith, end_is)))

        pub looking-on : end < kilometre → Looking b kilometre others
        looking-on h =
            record {
              from = suc (zone_at b l.at).end;
              low = omega (arith, end_is);
              at = l.at + zone_size;
              is =
                  sym (drop-append_seam four others)
                  ∙ (λ i. drop (long i) (sym split i))
                  ∙ ap (λ (k : List ℕ). drop zone_size k) l.is
                  ∙ drop-drop zone_size l.at b;
              left = l.left - 1;
              here = facing-next b checked l.at l.from l.left l.here near;
            }
