-- How far the walk has come: what was kept and skipped so far, and what is yet to come from a place on. Assumes nothing.
use Prim.Native.Nat.{ℕ, ◌+◌, ◌*◌, ◌-◌, ◌≤◌, ◌<◌}
use mathlib.Core.Path.{◌≡◌, refl, sym, ap, ◌∙◌}
use mathlib.Core.Bool.{Bool, true, false}
use mathlib.Core.List.{List, [], ◌∷◌, ◌++◌, append_assoc, append-nil, map, map-append, flatten}
use native.Mathlib.Omega.{arith}
use lib.ListN.{length, take, drop, length-append, length-drop}
use lib.Seq.{length-take-le}
use lib.Dec.{eqb}
use Rattle.wire.proofs.ListLaws.{flatten-append, flatten_more}
use Rattle.wire.specs.Checks.{pick}
use Rattle.wire.specs.Sheets.{Sheet, sheet, lay, onto}
use Rattle.wire.proofs.SheetLaws.{onto-append, onto-long}
use Rattle.salvage_spec.specs.Walk.{Step, Run, run, steps_of, frames_of, runs_of, kept_of, skipped_of}
use Rattle.salvage_spec.specs.Salvage.{two_of, numbers}
use Rattle.salvage_spec.proofs.RunLaws.{run_none}
use Rattle.salvage_spec.proofs.InTurn.{numbers-length}
use Rattle.salvage.specs.declared.Salvaged.{Salvaged}
use Rattle.salvage.specs.declared.Stretch.{Stretch}
use Rattle.salvage_find.specs.Steps.{FoundFrom}
use Rattle.salvage.specs.Steps.{StretchFrom, WalkedOver}
use Rattle.salvage.proofs.LayLaws.{all_counted, all_laid}
use Rattle.salvage.proofs.PlaceLaws.{runs_closed, goes_forward}
use Rattle.salvage_find.proofs.PlaceLaws.{frames_there, runs_there, steps_over}

-- one run at most
run_most : (first next : ℕ) → length (run first next) ≤ 1
run_most first next = go (eqb first next)
  where
    go : (t : Bool) → length {A = Run} (pick t [] (record { place = first; long = next - first } ∷ [])) ≤ 1
    go true = omega arith
    go false = omega arith

-- ---- the walk, come to a place with so many frames, bytes and runs
pub record Going (b out₀ runs₀ : List ℕ) (at : ℕ) (t : Salvaged) (out runs : List ℕ) : Type 0 where
  pub within : at ≤ length b
  pub had : List (List ℕ)
  pub lost : List Run
  -- what was laid: the bytes of the frames had, by stretches
  pub parts : List (List ℕ)
  pub parts_are : flatten parts ≡ flatten had
  pub all_frames : kept_of b ≡ had ++ frames_of (steps_of (drop at b))
  pub all_runs : skipped_of b ≡ lost ++ runs_of at at (steps_of (drop at b))
  pub frames_is : t.kept ≡ length had
  pub frames_fit : t.kept ≤ at
  pub long_fits : t.length ≤ at
  pub count_fits : t.runs ≤ at
  pub output : sheet t.length out ≡ onto parts (sheet 0 out₀)
  pub listed : sheet (2 * t.runs) runs ≡ onto (map two_of lost) (sheet 0 runs₀)
  pub out_long : length out ≡ length out₀
  pub runs_long : length runs ≡ length runs₀

pub going_start : (b out runs : List ℕ) (t : Salvaged) → (t.kept ≡ 0) × ((t.length ≡ 0) × (t.runs ≡ 0)) → Going b out runs 0 t out runs
going_start b out runs t z = record {
  within = omega arith;
  had = [];
  lost = [];
  parts = [];
  parts_are = refl;
  all_frames = refl;
  all_runs = refl;
  frames_is = z.0;
  frames_fit = omega (arith, z.0);
  long_fits = omega (arith, z.1.0);
  count_fits = omega (arith, z.1.1);
  output = ap (λ (n : ℕ). sheet n out) z.1.0;
  listed = ap (λ (n : ℕ). sheet (2 * n) runs) z.1.1;
  out_long = refl;
  runs_long = refl;
}

module _ {b out₀ runs₀ : List ℕ} {at : ℕ} {t : Salvaged} {out runs : List ℕ} (g : Going b out₀ runs₀ at t out runs) where
  -- a run, and the frames after it: the run is listed, and their bytes are put
  module _ (more : at < length b) {place : ℕ} (f : FoundFrom b at place) {frames' : Stretch} (s : StretchFrom b place frames')
      (count' : ℕ) (runs' : List ℕ) (r : sheet (2 * count') runs' ≡ onto (map two_of (run at place)) (sheet (2 * t.runs) runs))
      (runs_long : length runs' ≡ length runs) (long' : ℕ) (out' : List ℕ)
      (l : sheet long' out' ≡ lay (take (frames'.next - place) (drop place b)) (sheet t.length out)) (out_long : length out' ≡ length out) where
    abbrev next : ℕ
    next = frames'.next

    abbrev each : List (List ℕ)
    each = s.frames.each

    abbrev bytes : List ℕ
    bytes = take (next - place) (drop place b)

    bytes-long : length bytes ≡ next - place
    bytes-long =
        let w = s.frames.within in
        let d = length-drop place b in
        length-take-le (next - place) (drop place b) (omega arith)

    longer : long' ≡ t.length + length bytes
    unfolding lay
    longer = ap (λ (s : Sheet). s.long) l

    -- a run more, or none
    counted : count' ≡ t.runs + length (run at place)
    unfolding numbers
    counted =
        let e : 2 * count' ≡ 2 * t.runs + length (numbers (run at place)) =
        ap (λ (s : Sheet). s.long) r ∙ onto-long (map two_of (run at place)) (sheet (2 * t.runs) runs) in
        omega (arith, e, numbers-length (run at place))

    parts_are : flatten (g.parts ++ (bytes ∷ [])) ≡ flatten (g.had ++ each)
    parts_are = flatten_more g.parts bytes ∙ (λ i. g.parts_are i ++ sym s.frames.bytes i) ∙ sym (flatten-append g.had each)

    out-is : sheet long' out' ≡ onto (g.parts ++ (bytes ∷ [])) (sheet 0 out₀)
    out-is = l ∙ ap (lay bytes) g.output ∙ sym (onto-append g.parts (bytes ∷ []) (sheet 0 out₀))

    list-is : sheet (2 * count') runs' ≡ onto (map two_of (g.lost ++ run at place)) (sheet 0 runs₀)
    list-is =
        r
        ∙ ap (onto (map two_of (run at place))) g.listed
        ∙ sym (onto-append (map two_of g.lost) (map two_of (run at place)) (sheet 0 runs₀))
        ∙ ap (λ (ps : List (List ℕ)). onto ps (sheet 0 runs₀)) (sym (map-append two_of g.lost (run at place)))

    frames-next : frames_of (steps_of (drop at b)) ≡ each ++ frames_of (steps_of (drop next b))
    frames-next = frames_there f.before ∙ s.frames.kept

    -- what the run before the frames adds
    runs-next : runs_of at at (steps_of (drop at b)) ≡ run at place ++ runs_of next next (steps_of (drop next b))
    runs-next = runs_there f.before ∙ runs_closed b at place f.stood f.before.within
        ∙ ap (λ (x : List Run). run at place ++ x) s.frames.none

    pub going_on : Going b out₀ runs₀ next (record { kept = t.kept + frames'.frames; length = long'; runs = count' }) out' runs'
    going_on =
        let w = f.before.forward in
        let c = counted in
        let o : length (run at place) ≤ 1 = run_most at place in
        let p = bytes-long in
        let z = s.frames.forward in
        let n = goes_forward more f s in record {
          within = s.frames.within;
          had = g.had ++ each;
          lost = g.lost ++ run at place;
          parts = g.parts ++ (bytes ∷ []);
          parts_are = parts_are;
          all_frames = g.all_frames ∙ ap (λ (x : List (List ℕ)). g.had ++ x) frames-next
              ∙ sym (append_assoc g.had each (frames_of (steps_of (drop next b))));
          all_runs = g.all_runs ∙ ap (λ (x : List Run). g.lost ++ x) runs-next
              ∙ sym (append_assoc g.lost (run at place) (runs_of next next (steps_of (drop next b))));
          frames_is = (λ i. g.frames_is i + s.frames.counted i) ∙ sym (length-append g.had each);
          frames_fit = omega (arith, g.frames_fit);
          long_fits = omega (arith, g.long_fits, longer);
          count_fits = omega (arith, g.count_fits);
          output = out-is;
          listed = list-is;
          out_long = out_long ∙ g.out_long;
          runs_long = runs_long ∙ g.runs_long;
        }

  -- to the end
  pub going_ends : length b ≤ at → WalkedOver b out₀ runs₀ t out runs
  unfolding frames_of runs_of numbers
  going_ends h = record {
    kept = g.frames_is ∙ sym (ap length frames-all);
    long = all_counted g.parts (flatten (kept_of b)) out₀ t.length out bytes-all g.output;
    count = omega (arith, twice, numbers-length (skipped_of b));
    output = all_laid g.parts (flatten (kept_of b)) out₀ t.length out bytes-all g.output;
    listed = λ room. all_laid (map two_of g.lost) (numbers (skipped_of b)) runs₀ (2 * t.runs) runs numbers-all g.listed
        (omega (arith, room, numbers-length (skipped_of b)));
  }
    where
      over : steps_of (drop at b) ≡ []
      over = let w = g.within in steps_over b at (omega arith)

      frames-all : kept_of b ≡ g.had
      frames-all = g.all_frames ∙ ap (λ (steps : List Step). g.had ++ frames_of steps) over ∙ append-nil g.had

      runs-all : skipped_of b ≡ g.lost
      runs-all = g.all_runs ∙ ap (λ (steps : List Step). g.lost ++ runs_of at at steps) over
          ∙ ap (λ (x : List Run). g.lost ++ x) (run_none at) ∙ append-nil g.lost

      bytes-all : flatten g.parts ≡ flatten (kept_of b)
      bytes-all = g.parts_are ∙ sym (ap flatten frames-all)

      numbers-all : flatten (map two_of g.lost) ≡ numbers (skipped_of b)
      numbers-all = sym (ap numbers runs-all)

      twice : 2 * t.runs ≡ length (numbers (skipped_of b))
      twice = all_counted (map two_of g.lost) (numbers (skipped_of b)) runs₀ (2 * t.runs) runs numbers-all g.listed
