use Prim.Native.Nat.{ℕ, ◌+◌, ◌-◌, ◌*◌, ◌/◌, ◌%◌, ◌≤◌}
use native.Mathlib.Omega.{arith}
use mathlib.Core.Path.{◌≡◌, refl, sym, ap, ◌∙◌, subst}
use mathlib.Core.List.{List}
use lib.ListN.{length, take, drop}
use Rattle.form_spec.specs.Parts.{run_size}
use Rattle.wire.specs.Sheets.{sheet}
use Rattle.map_spec.specs.Map.{azimuths}
use Rattle.map_spec.specs.Reading.{azimuth_part}
use Rattle.map_spec.proofs.CheckFacts.{map_facts}
use Rattle.compare_spec.specs.Comparing.{difference_size}
use Rattle.compare.specs.Steps.{Same, Checked}
use Rattle.compare.proofs.EntryLaws.{enough_old}
use Rattle.compare.proofs.AzimuthWalk.{Reached, reached-start, reached-next, reached-past, reached-few, reached-done}
use Rattle.compare.proofs.AzimuthWalk.{stands-old, stands-new, checked_part, checked_size, run-part}
use Rattle.compare.proofs.AzimuthWalk.{parts_same, parts_listed}
use Rattle.compare.proofs.compare_azimuths.Goals as goal

-- Behind the azimuths that are passed over the walk stands as far on in both bodies, since they are the same there.
passed : {old new out₀ out : List ℕ} {elevations index i j count : ℕ} (same n bytes : ℕ) → Checked elevations old new
    → Reached old new out₀ index out i j count → index + n ≤ azimuths * elevations
    → Same same (take (length old - i) (drop i old)) (take (length new - j) (drop j new)) → bytes ≤ same
    → bytes ≡ run_size azimuth_part n (take (length old - i) (drop i old)) → Reached old new out₀ (index + n) out (i + bytes) (j + bytes) count
passed {old} {new} {out₀} {out} {elevations} {index} {i} {j} {count} same n bytes checked r most alike inside bytes_are =
    let e : bytes ≡ run_size azimuth_part n (drop i old) = bytes_are ∙ run-part old i n in
    subst (λ (x : ℕ). Reached old new out₀ (index + n) out (i + x) (j + x) count) (sym e)
    (reached-past old new checked n same r most (parts_same same old new i j alike) (omega (arith, e)))

pub loop-index-init : goal.loop-index-init
loop-index-init c =
    let a = c.args in
    let facts = map_facts a.old.now c.requires.in_old in (
      omega (arith, enough_old c.requires, facts.most),
      refl,
      omega arith,
      facts.here,
      (map_facts a.new.now c.requires.in_new).here,
      refl,
      reached-start a.old.now a.new.now c.requires,
    )

pub compare_zones-count-requires : goal.compare_zones-count-requires
compare_zones-count-requires c =
    let l = c.loop-index in
    let run = c.pass-run in
    let stands =
    passed c.same_bytes-same.result run.result.azimuths run.result.bytes c.requires l.invariant.6 (omega arith)
    c.same_bytes-same.ensures.2 run.ensures.1 run.ensures.2 in
    let in_old = stands-old c.args.old.now c.args.new.now c.requires stands (omega arith) in
    let in_new = stands-new c.args.old.now c.args.new.now c.requires stands (omega arith) in
    let few = reached-few c.args.old.now c.args.new.now c.requires stands (omega arith) in
    (checked_part c.args.old.now _ in_old.passes, checked_part c.args.new.now _ in_new.passes, few)

pub overflow_add-i-then-index-total : goal.overflow_add-i-then-index-total
overflow_add-i-then-index-total c =
    let l = c.loop-index in
    let run = c.pass-run in
    let stands =
    passed c.same_bytes-same.result run.result.azimuths run.result.bytes c.requires l.invariant.6 (omega arith)
    c.same_bytes-same.ensures.2 run.ensures.1 run.ensures.2 in
    let in_old = stands-old c.args.old.now c.args.new.now c.requires stands (omega arith) in
    let size = c.size_of-i.ensures ∙ checked_size c.args.old.now _ in_old.passes in
    record { fits = omega (arith, size, in_old.within, c.well_formed.0.0) }

pub overflow_add-j-then-index-total : goal.overflow_add-j-then-index-total
overflow_add-j-then-index-total c =
    let l = c.loop-index in
    let run = c.pass-run in
    let stands =
    passed c.same_bytes-same.result run.result.azimuths run.result.bytes c.requires l.invariant.6 (omega arith)
    c.same_bytes-same.ensures.2 run.ensures.1 run.ensures.2 in
    let in_new = stands-new c.args.old.now c.args.new.now c.requires stands (omega arith) in
    let size = c.size_of-j.ensures ∙ checked_size c.args.new.now _ in_new.passes in
    record { fits = omega (arith, size, in_new.within, c.well_formed.1.0) }

pub loop-index-preserved-then-index-total : goal.loop-index-preserved-then-index-total
loop-index-preserved-then-index-total c =
    let l = c.loop-index in
    let run = c.pass-run in
    let stands =
    passed c.same_bytes-same.result run.result.azimuths run.result.bytes c.requires l.invariant.6 (omega arith)
    c.same_bytes-same.ensures.2 run.ensures.1 run.ensures.2 in
    let in_old = stands-old c.args.old.now c.args.new.now c.requires stands (omega arith) in
    let in_new = stands-new c.args.old.now c.args.new.now c.requires stands (omega arith) in
    let old = c.args.old.now in
    let new = c.args.new.now in
    let index = l.index + run.result.azimuths in
    let i = l.i + run.result.bytes in
    let j = l.j + run.result.bytes in
    let size_old : c.size_of-i.result ≡ azimuth_part.size (drop i old) = c.size_of-i.ensures ∙ checked_size old _ in_old.passes in
    let size_new : c.size_of-j.result ≡ azimuth_part.size (drop j new) = c.size_of-j.ensures ∙ checked_size new _ in_new.passes in
    let z = c.compare_zones-count in (
      l.invariant.0,
      l.invariant.1,
      omega arith,
      omega (arith, size_old, in_old.within),
      omega (arith, size_new, in_new.within),
      z.auto.out ∙ l.invariant.5,
      reached-next old new c.requires stands (omega arith)
          (z.ensures ∙ parts_listed (1 + index / azimuths) (index % azimuths) old new i j (sheet (difference_size * l.count) l.out))
          (ap (λ (x : ℕ). i + x) size_old) (ap (λ (x : ℕ). j + x) size_new),
    )

pub loop-index-preserved : goal.loop-index-preserved
loop-index-preserved c =
    let l = c.loop-index in
    let run = c.pass-run in
    let stands =
    passed c.same_bytes-same.result run.result.azimuths run.result.bytes c.requires l.invariant.6 (omega arith)
    c.same_bytes-same.ensures.2 run.ensures.1 run.ensures.2 in
    (l.invariant.0, l.invariant.1, omega arith, omega arith, omega arith, l.invariant.5, stands)

pub returns : goal.returns
returns c = reached-done c.args.old.now c.args.new.now c.requires c.loop-index.invariant.6 (omega arith)
