-- What a C caller has of an accepted radial is the description. Assumes nothing.
use Prim.Native.Nat.{ℕ, suc, ◌-◌}
use native.Mathlib.Omega.{arith}
use mathlib.Core.Path.{◌≡◌, refl, sym, ap, ◌∙◌}
use mathlib.Core.List.{List, [], ◌∷◌, ◌++◌, map, append_assoc}
use lib.ListN.{length, get_or, take, length-append}
use lib.Seq.{get_or-append_seam}
use Rattle.wire.specs.Answers.{Answer, given, onward}
use Rattle.radial_spec.specs.Description.{constants, Moment, Description, block_count, RVOL, RELV, RRAD}
use Rattle.radial_spec.specs.Refusal.{radial_of}
use Rattle.radial_spec.specs.Lookups.{Asked, no_such, lies, blocks, constant_lying, moment_lying, block_of}
use Rattle.radial_spec.proofs.Accepted.{with_blocks}
use Rattle.std.specs.Prelude.{Ok}
use Rattle.radial.specs.Told.{radial_told, head_of, shown}
use Rattle.radial.specs.Theorems.{moment_from, block_from, handed}
use Rattle.radial.proofs.HandedLaws.{heads-taken, handed_is}
use Rattle.c_radial.specs.declared.UlmBlock.{UlmBlock}
use Rattle.c_radial.specs.Face.{radial_face, block_face}
use Rattle.demands.specs.FaceOfRadial.{moment_from_c, moments_from_c, from_c, HandedToC}

-- the blocks as C asks for them, after those in `before`
abbrev asked : List Asked → List Moment → ℕ → UlmBlock
asked before ms k = block_face (given (get_or (before ++ map lies (map moment_lying ms)) k no_such))

run : (b : List ℕ) (before : List Asked) (ms : List Moment)
    → moments_from_c b (asked before ms) (length before) (length ms) ≡ map (moment_from b) (map head_of ms)
run b before [] = refl
run b before (m ∷ ms) =
    let x = lies (moment_lying m) in
    let here : get_or (before ++ (x ∷ map lies (map moment_lying ms))) (length before) no_such ≡ x =
    get_or-append_seam before x (map lies (map moment_lying ms)) no_such
    in
    let more : (before ++ (x ∷ [])) ++ map lies (map moment_lying ms) ≡ before ++ (x ∷ map lies (map moment_lying ms)) =
    append_assoc before (x ∷ []) (map lies (map moment_lying ms))
    in
    let long : length (before ++ (x ∷ [])) ≡ suc (length before) = simp length-append (omega arith) in
    let later : moments_from_c b (asked before (m ∷ ms)) (suc (length before)) (length ms) ≡ map (moment_from b) (map head_of ms) =
    ap (λ (l : List Asked). moments_from_c b (λ k. block_face (given (get_or l k no_such))) (suc (length before)) (length ms)) (sym more)
    ∙ ap (λ (n : ℕ). moments_from_c b (asked (before ++ (x ∷ [])) ms) n (length ms)) (sym long)
    ∙ run b (before ++ (x ∷ [])) ms
    in
    ap (λ (a : Asked). momentOne b a ∷ moments_from_c b (asked before (m ∷ ms)) (suc (length before)) (length ms)) here
    ∙ ap (λ (l : List Moment). momentOne b x ∷ l) later
  where
    momentOne : List ℕ → Asked → Moment
    momentOne c a = moment_from_c c (block_face (given a))

-- by the faces
faces_handed : (b : List ℕ) (d : Description) → radial_of b ≡ given d → from_c (radial_face (radial_of b)) (λ k. block_face (block_of b k)) b ≡ d
unfolding block_of
faces_handed b d e =
    let k = constants in
    let before = no_such ∷ lies (constant_lying RVOL d.volume_block) ∷ lies (constant_lying RELV d.elevation_block) ∷ lies
    (constant_lying RRAD d.radial_block) ∷ [] in
    let count : block_count d - k ≡ length d.moments = omega arith in
    let moments : moments_from_c b (asked before d.moments) 4 (block_count d - k)
    ≡ map (moment_from b) (take (block_count d - k) (radial_told d).moments) =
    ap (λ (n : ℕ). moments_from_c b (asked before d.moments) 4 n) count ∙ run b before d.moments
    ∙ sym (ap (map (moment_from b)) (heads-taken d))
    in
    let whole : handed (Ok (radial_told d)) b ≡ given d = handed_is b (Ok (radial_told d)) (ap shown (sym e)) ∙ e in
    ap (λ (a : Answer Description). from_c (radial_face a)
    (λ n. block_face (onward a (λ x. given (get_or (no_such ∷ map lies (blocks x)) n no_such)))) b) e
    ∙ ap (with_blocks d (block_from b (radial_told d).volume) (block_from b (radial_told d).elevation)
    (block_from b (radial_told d).radial)) moments
    ∙ cc whole

-- structs that are the faces, one by one
pub handed_to_c : HandedToC
handed_to_c κs κs' body r s s' block d e u v =
    (λ i. from_c (u i) (λ k. v k i) body.now) ∙ faces_handed body.now d e
