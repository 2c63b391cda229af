-- The header is cut from the body, and what is read there is what the description says. Assumes nothing.
use Prim.Native.Nat.{ℕ, ◌+◌, ◌-◌}
use native.Mathlib.Omega.{arith}
use mathlib.Core.Path.{◌≡◌, sym, ap, ◌∙◌}
use mathlib.Core.List.{List}
use lib.ListN.{length, take}
use Rattle.wire.specs.Answers.{given}
use Rattle.wire.proofs.NumberLaws.{num-take}
use Rattle.wire.proofs.OnwardLaws.{shows_given}
use Rattle.radial_spec.specs.Description.{constants, header_size, moment_pointer}
use Rattle.radial_spec.specs.Refusal.{count_in, moments_at, description, radial_of}
use Rattle.radial_spec.proofs.Accepted.{moments_length}
use Rattle.radial_spec.proofs.Held.{held, accepted_is}
use Rattle.radial_heading.specs.declared.Header.{Header}
use Rattle.radial_heading.specs.declared.Heading.{Heading}
use Rattle.radial_heading.specs.Told.{header_of, heading_of, heading_shown}

-- the header, by the body's first 68 bytes
pub header_there : (b : List ℕ) → header_of (description (take header_size b)) ≡ header_of (description b)
header_there b =
    λ i.
    record {
      station = num-take 4 header_size b 0 (omega arith) i;
      time = num-take 4 header_size b 4 (omega arith) i;
      date = num-take 2 header_size b 8 (omega arith) i;
      azimuth_number = num-take 2 header_size b 10 (omega arith) i;
      azimuth = num-take 4 header_size b 12 (omega arith) i;
      size = num-take 2 header_size b 18 (omega arith) i;
      spacing = num-take 1 header_size b 20 (omega arith) i;
      status = num-take 1 header_size b 21 (omega arith) i;
      elevation_number = num-take 1 header_size b 22 (omega arith) i;
      sector = num-take 1 header_size b 23 (omega arith) i;
      elevation = num-take 4 header_size b 24 (omega arith) i;
      spot = num-take 1 header_size b 28 (omega arith) i;
      indexing = num-take 1 header_size b 29 (omega arith) i;
    }

module _ (b : List ℕ) (accepted : radial_of b ≡ given (description b)) where
  -- the block count is that of what is described
  pub counted : count_in b ≡ constants + length (moments_at b moment_pointer (count_in b - constants))
  counted = omega (arith, (held b (description b) accepted).start.some, moments_length b moment_pointer (count_in b - constants))

  pub heading_is : (n : ℕ) (h : Header) → n ≡ count_in b → h ≡ header_of (description b)
      → given (record { count = n; header = h }) ≡ heading_shown (radial_of b)
  heading_is n h e f = (λ i. given (record { count = (e ∙ counted) i; header = f i })) ∙ ap heading_shown (sym accepted)

-- a heading is told of an accepted body alone, and has its count
pub heading_given : (b : List ℕ) (h : Heading) → given h ≡ heading_shown (radial_of b) → radial_of b ≡ given (description b)
heading_given b h e =
    let s = shows_given (radial_of b) heading_of h e in
    s.was ∙ ap given (accepted_is b s.value s.was)

pub count_is : (b : List ℕ) (h : Heading) → given h ≡ heading_shown (radial_of b) → h.count ≡ count_in b
count_is b h e =
    let accepted = heading_given b h e in
    let is : h ≡ heading_of (description b) = cc (e ∙ ap heading_shown accepted) in
    ap (λ (x : Heading). x.count) is ∙ sym (counted b accepted)
