-- Every check of every entry has a number of the table of refusals. Assumes nothing.
use Prim.Native.Nat.{ℕ, zero, suc, ◌+◌, ◌-◌}
use mathlib.Core.Path.{◌≡◌, refl}
use mathlib.Core.Bool.{Bool, true, not}
use mathlib.Core.List.{List, [], ◌∷◌, ◌++◌}
use lib.Dec.{eqb, ltb}
use lib.ListN.{length, take, drop}
use Rattle.form_spec.specs.Parts.{Part, run_checks}
use Rattle.wire.specs.Checks.{Check, check}
use Rattle.frame.specs.Session.{body_in}
use Rattle.header_rule.proofs.RuleLaws.{by_form}
use Rattle.header.specs.Header.{header_size, stored_in, header_in, later_checks, header_checks}
use Rattle.set_spec.specs.Segment.{Segment, segment_in, own_checks}
use Rattle.set_spec.specs.Walk.{met_checks, turn_checks}
use Rattle.radial_spec.specs.Description.{constants}
use Rattle.radial_spec.specs.Refusal.{pointer, part, name_in, moment_says, moments_checks, size_in, count_in, end_at, radial_checks}
use Rattle.form_spec.specs.Forms.{Row, long, field_checks, Form, rows_of, count_of, form_checks, count_in as countBy, numbers_in, body_checks, list_checks}
use Rattle.map_spec.specs.Map.{azimuths}
use Rattle.map_spec.specs.Reading.{value, after as afterField, zones_checks, azimuth_part, elevation_part, head_checks, leftover_checks, map_checks}
use Rattle.map_spec.specs.Reading.{segments_in}
use Rattle.demands.proofs.ByChecksLaws.{inside, inside_join}

moments_inside : (z : ℕ) (b : List ℕ) (from q : ℕ) (seen : List ℕ) (n : ℕ) → inside (moments_checks z b from q seen n) ≡ true
moments_inside z b from q seen zero = refl
moments_inside z b from q seen (suc n) =
    moments_inside z b (pointer b q + moment_says (part b q)) (q + 4) (seen ++ (name_in (part b q) ∷ [])) n

pub radial_inside : (b : List ℕ) → inside (radial_checks b) ≡ true
radial_inside b = moments_inside (size_in b) b (end_at b 40) 44 [] (count_in b - constants)

fields_inside : (rs : List Row) (l : List ℕ) → inside (field_checks rs l) ≡ true
fields_inside [] l = refl
fields_inside (r ∷ rs) l = fields_inside rs (drop 1 l)

module _ (f : Form) (i : (n : ℕ) → inside (f.early n) ≡ true) where
  form_inside : (absent misfit : Bool) (l : List ℕ) → inside (form_checks f absent misfit l) ≡ true
  form_inside absent misfit l =
      let rows = field_checks (rows_of f (count_of f l)) l in
      inside_join (f.early (count_of f l)) (check 23 misfit ∷ rows) (i (count_of f l)) (fields_inside (rows_of f (count_of f l)) l)

  pub body_inside : (body : List ℕ) → inside (body_checks f body) ≡ true
  body_inside body =
      form_inside (ltb (length body) (long (take (suc f.counter) f.front)))
      (not (eqb (length body) (long (rows_of f (countBy f body)))))
      (numbers_in f body)

  pub list_inside : (list : List ℕ) → inside (list_checks f list) ≡ true
  list_inside list =
      form_inside (ltb (length list) (suc f.counter)) (not (eqb (length list) (length (rows_of f (count_of f list))))) list

zones_inside : (n from : ℕ) (b : List ℕ) → inside (zones_checks n from b) ≡ true
unfolding zones_checks
zones_inside zero from b = refl
zones_inside (suc n) from b = zones_inside n (suc (value (afterField b))) (afterField (afterField b))

run_inside : {A : Type 0} (p : Part A) → ((b : List ℕ) → inside (p.checks b) ≡ true) → (n : ℕ) (b : List ℕ)
    → inside (run_checks p n b) ≡ true
unfolding run_checks
run_inside p f zero b = refl
run_inside p f (suc n) b = inside_join (p.checks b) (run_checks p n (drop (p.size b) b)) (f b) (run_inside p f n (drop (p.size b) b))

azimuth_inside : (b : List ℕ) → inside (azimuth_part.checks b) ≡ true
azimuth_inside b = zones_inside (value b) 0 (afterField b)

elevation_inside : (b : List ℕ) → inside (elevation_part.checks b) ≡ true
elevation_inside b = run_inside azimuth_part azimuth_inside azimuths b

pub map_inside : (b : List ℕ) → inside (map_checks b) ≡ true
map_inside b =
    inside_join (head_checks b) (run_checks elevation_part (segments_in b) (drop 6 b) ++ leftover_checks b) refl
    (inside_join (run_checks elevation_part (segments_in b) (drop 6 b)) (leftover_checks b) (run_inside elevation_part elevation_inside
    (segments_in b) (drop 6 b)) refl)

-- ---- a header's, in either form; a frame's own; a turn's in a set
pub header_inside : (b : List ℕ) → inside (header_checks b) ≡ true
header_inside b =
    let s = stored_in b in
    by_form (λ (ks : List Check). inside (check 4 (ltb (length b) header_size) ∷ ks ++ later_checks (header_in b)) ≡ true) s.size s.kind
    s.segments s.number (length b) refl refl refl

pub own_inside : (rest : List ℕ) → inside (own_checks rest) ≡ true
own_inside rest = header_inside (body_in rest)

pub turn_inside : (gs : List Segment) (rest : List ℕ) → inside (turn_checks gs rest) ≡ true
turn_inside gs rest = inside_join (own_checks rest) (met_checks gs (segment_in rest).header) (own_inside rest) refl
