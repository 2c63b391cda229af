use Prim.Native.Nat.{ℕ, ◌≤◌, ◌<◌}
use native.Mathlib.Omega.{arith}
use mathlib.Core.Path.{◌≡◌, sym, ap, ◌∙◌, subst}
use mathlib.Core.Bool.{Bool, true, false, not}
use mathlib.Core.Logic.{◌⊎◌, inl, inr}
use mathlib.Core.List.{List}
use Rattle.std.specs.Prelude.{Option}
use Rattle.std.specs.Option.{is_some}
use Rattle.std.proofs.lemmas.Result.{err_from_is_err_and}
use Rattle.wire.specs.Checks.{AllHold}
use Rattle.wire.specs.Answers.{refused, given}
use Rattle.wire.proofs.ListLaws.{part_is}
use Rattle.map_spec.specs.Map.{last_kilometre, Zone, code_from}
use Rattle.map_spec.specs.Reading.{azimuth_part, code_of}
use Rattle.map.specs.declared.Checked.{Checked}
use Rattle.map.specs.Steps.{body_checked, asked_index}
use Rattle.map.proofs.BodyLaws.{query_stop, asked_some, asked_nothing, asked-none, asked-nowhere, asked-given, asked-stands}
use Rattle.map.proofs.code_at.Goals as goal

-- what was asked for is not there, by the tests in their order
refused_there : (i : ℕ) (b : List ℕ) (checked : Checked) → given checked ≡ body_checked i b → (index : Option ℕ) (elevation azimuth kilometre : ℕ)
    → index ≡ asked_index elevation azimuth → (n : Bool) → is_some index ≡ not n
    → (n ≡ true) ⊎ (((n ≡ false) × (checked.elevations < elevation))
    ⊎ ((n ≡ false) × (elevation ≤ checked.elevations) × (last_kilometre < kilometre))) → refused 21 ≡ code_of b elevation azimuth kilometre
refused_there i b checked e index elevation azimuth kilometre asked n k (inl t) =
    asked-nowhere i b checked e elevation azimuth kilometre (asked_nothing index elevation azimuth asked (k ∙ ap not t))
refused_there i b checked e index elevation azimuth kilometre asked n k (inr (inl h)) =
    asked-none i b checked e elevation azimuth kilometre (inr (inl ((asked_some index elevation azimuth asked (k ∙ ap not h.0)).0, h.1)))
refused_there i b checked e index elevation azimuth kilometre asked n k (inr (inr h)) =
    let q = asked_some index elevation azimuth asked (k ∙ ap not h.0) in
    asked-none i b checked e elevation azimuth kilometre (inr (inr (inr (q.0, h.1, q.1, h.2))))

pub returns-in_err-checked : goal.returns-in_err-checked
returns-in_err-checked c =
    let p = err_from_is_err_and c.from_residual.result c.from_residual.ensures.1 in
    rw (p.1, p.2) (query_stop _ _ _ _ _ _ c.in_err-checked.ensures)

pub returns-then-is_none : goal.returns-then-is_none
returns-then-is_none c =
    refused_there _ _ _ c.in_ok-checked.ensures _ _ _ _ c.index_of-index.ensures c.is_none.result c.is_none.ensures c.then-is_none.either

pub slice_bounds-zone_code-count : goal.slice_bounds-zone_code-count
slice_bounds-zone_code-count c =
    let q = asked_some _ _ _ c.index_of-index.ensures (c.is_none.ensures ∙ ap not c.if-is_none.false) in
    let s = asked-stands _ _ _ c.in_ok-checked.ensures _ _ (c.unwrap_or.ensures ∙ q.2) q.0 c.if-checked-elevation.false q.1 in
    omega (arith, s.within)

pub slice_bounds-zone_code-start : goal.slice_bounds-zone_code-start
slice_bounds-zone_code-start c =
    let q = asked_some _ _ _ c.index_of-index.ensures (c.is_none.ensures ∙ ap not c.if-is_none.false) in
    let s = asked-stands _ _ _ c.in_ok-checked.ensures _ _ (c.unwrap_or.ensures ∙ q.2) q.0 c.if-checked-elevation.false q.1 in
    omega (arith, s.within)

pub zone_code-code-requires : goal.zone_code-code-requires
zone_code-code-requires c =
    let q = asked_some _ _ _ c.index_of-index.ensures (c.is_none.ensures ∙ ap not c.if-is_none.false) in
    let s = asked-stands _ _ _ c.in_ok-checked.ensures _ _ (c.unwrap_or.ensures ∙ q.2) q.0 c.if-checked-elevation.false q.1 in
    let p = part_is c.args.body.now c.in_ok-checked.checked.place in
    (subst (λ (x : List ℕ). AllHold (azimuth_part.checks x)) (sym p) s.passes, c.if-kilometre-gt-LAST_KILOMETRE.false)

pub returns : goal.returns
returns c =
    let q = asked_some _ _ _ c.index_of-index.ensures (c.is_none.ensures ∙ ap not c.if-is_none.false) in
    let s = asked-stands _ _ _ c.in_ok-checked.ensures _ _ (c.unwrap_or.ensures ∙ q.2) q.0 c.if-checked-elevation.false q.1 in
    let a = c.args in
    ap given
    (c.zone_code-code.ensures
    ∙ ap (λ (x : List ℕ). code_from 0 (azimuth_part.read x) a.kilometre) (part_is a.body.now c.in_ok-checked.checked.place)
    ∙ ap (λ (zs : List Zone). code_from 0 zs a.kilometre) s.zones)
    ∙ asked-given _ _ _ c.in_ok-checked.ensures _ _ _ q.0 c.if-checked-elevation.false q.1 c.if-kilometre-gt-LAST_KILOMETRE.false
