-- Demand 3. "A radial body is accepted exactly if some description meets [the] layout for a body of that length, stated apart from
-- any reader, and agrees with the body at every byte that it names. Then there is only one, and it is what we hand over. With the length
-- kept, altering any byte that the description does not name alters no answer about that radial."
use Rattle.std.specs.Prelude.{ℕ, ◌≡◌, ◌↔◌, length, get_or, Ok, Some}
use Rattle.radial.specs.declared.RadialBlock.TheVariants.{Constant}
use denote.Ref.{Bor}
use mathlib.Core.List.{List, map, Memᴰ}
use Rattle.wire.specs.Numbers.{num, Octets}
use Rattle.wire.specs.Tables.{field, render}
use Rattle.wire.specs.Answers.{given}
use Rattle.radial_spec.specs.Description.{Moment, Description, word_bytes, Named, Agrees, Layout}
use Rattle.radial_spec.specs.Refusal.{radial_of}
use Rattle.radial_spec.specs.Lookups.{moment_of, gates_of, bytes_in}
use Rattle.radial_spec.specs.Theorems.{Exactly, Unique, NamedExactly, UnnamedPlaces, FoundByName, NoneNamed}
use Rattle.radial_check.proofs.check_radial.Reads as check_radial
use Rattle.radial_heading.proofs.read_heading.Reads as read_heading
use Rattle.radial.specs.declared.Lying.{Lying}
use Rattle.radial.specs.Told.{head_of}
use Rattle.radial.specs.Theorems.{handed}
use Rattle.radial.proofs.read_radial.Reads as read_radial
use Rattle.radial.proofs.moment.Reads as moment_of_reads
use Rattle.radial.proofs.block.Reads as block_at
use Rattle.radial.proofs.code.Reads as code_of_lem
use Rattle.radial_gates.specs.declared.LentGates.{LentGates}
use Rattle.radial_gates.specs.Told.{part_of, Lent}
use Rattle.radial_gates.proofs.gates.Reads as gates_of_reads
use Rattle.gate_value.proofs.gate_value.Reads as gate_value
use Rattle.ulm.proofs.ulm_radial.Reads as ulm_radial
use Rattle.ulm.proofs.ulm_block.Reads as ulm_block
use Rattle.ulm.proofs.ulm_gates.Reads as ulm_gates
use Rattle.ulm.proofs.ulm_gate.Reads as ulm_gate
use Rattle.demands.specs.FaceOfRadial.{HandedToC}

-- ---- every answer about a radial: whatever meets a function's contract for the one body and for the other is the same
pub record SameFromEach (body body' : Bor (List ℕ)) : Type 0 where
  -- `check_radial`, `read_heading`, `read_radial`
  pub check : (κs κs' r r' s s' : _) → check_radial.Learnt κs (body, tt) r s → check_radial.Learnt κs' (body', tt) r' s' → r ≡ r'
  pub heading : (κs κs' r r' s s' : _) → read_heading.Learnt κs (body, tt) r s → read_heading.Learnt κs' (body', tt) r' s' → r ≡ r'
  pub reader : (κs κs' r r' s s' : _) → read_radial.Learnt κs (body, tt) r s → read_radial.Learnt κs' (body', tt) r' s' → r ≡ r'
  -- `moment`, `block`, and the bytes of a constant block, "kept whole"
  pub moment : (κs κs' name r r' s s' : _) → moment_of_reads.Learnt κs (body, (name, tt)) r s
      → moment_of_reads.Learnt κs' (body', (name, tt)) r' s' → r ≡ r'
  pub block : (κs κs' k r r' s s' : _) → block_at.Learnt κs (body, (k, tt)) r s → block_at.Learnt κs' (body', (k, tt)) r' s' → r ≡ r'
  pub whole : (κs k s : _) (l : Lying) → block_at.Learnt κs (body, (k, tt)) (Ok (Some (Constant l))) s
      → bytes_in body'.now (record { place = l.place; size = l.size }) ≡ bytes_in body.now (record { place = l.place; size = l.size })
  -- `gates`, `lent`: the part lies at the same place of its body, is as long, and holds the same bytes
  pub gates : (κs κs' name : _) (r r' : Bor (List ℕ)) (s s' : _) → gates_of_reads.Learnt κs (body, (name, tt)) r s → gates_of_reads.Learnt κs' (body', (name, tt)) r' s'
      → (part_of (gates_of body.now (num 4 name 0)) ≡ part_of (gates_of body'.now (num 4 name 0))) × (r.now ≡ r'.now)
  pub lent : (name : ℕ) (r r' : LentGates) → Lent body name r → Lent body' name r'
      → (r.number ≡ r'.number) × (r.gates ≡ r'.gates) × (part_of (gates_of body.now name) ≡ part_of (gates_of body'.now name))
      × (r.part.now ≡ r'.part.now)
  -- `code`, `gate_value`
  pub code : (κs κs' name gate r r' s s' : _) → code_of_lem.Learnt κs (body, (name, (gate, tt))) r s
      → code_of_lem.Learnt κs' (body', (name, (gate, tt))) r' s' → r ≡ r'
  pub gate : (κs κs' name gate r r' s s' : _)
      → gate_value.Learnt κs (body, (name, (gate, tt))) r s → gate_value.Learnt κs' (body', (name, (gate, tt))) r' s' → r ≡ r'
  -- `ulm_radial`, `ulm_block`, `ulm_gates`, `ulm_gate`
  pub radial_for_c : (κs κs' r r' s s' : _) → ulm_radial.Learnt κs (body, tt) r s → ulm_radial.Learnt κs' (body', tt) r' s' → r ≡ r'
  pub block_for_c : (κs κs' k r r' s s' : _) → ulm_block.Learnt κs (body, (k, tt)) r s → ulm_block.Learnt κs' (body', (k, tt)) r' s' → r ≡ r'
  pub gates_for_c : (κs κs' name r r' s s' : _) → ulm_gates.Learnt κs (body, (name, tt)) r s
      → ulm_gates.Learnt κs' (body', (name, tt)) r' s' → r ≡ r'
  pub gate_for_c : (κs κs' name gate r r' s s' : _)
      → ulm_gate.Learnt κs (body, (name, (gate, tt))) r s → ulm_gate.Learnt κs' (body', (name, (gate, tt))) r' s' → r ≡ r'

-- two bodies as long as each other, of which the one is accepted, and the same at every byte that its description names
pub record ButUnnamed (b b' : List ℕ) (d : Description) : Type 0 where
  pub octets : Octets b
  pub long : length b' ≡ length b
  pub accepted : radial_of b ≡ given d
  pub named : (i : ℕ) → Named d i → get_or b' i 0 ≡ get_or b i 0

pub record Demand3 : Type 0 where
  pub exactly : Exactly
  pub unique : Unique
  -- "it is what we hand over": by `read_radial` with the lent body, and by `ulm_radial` and `ulm_block`
  pub handed : (κs : _) (body : Bor (List ℕ)) (r s : _) (d : Description) → Octets body.now → read_radial.Learnt κs (body, tt) r s
      → (handed r body.now ≡ given d) ↔ (Layout (length body.now) d × Agrees body.now d)
  pub handed_to_c : HandedToC
  -- each moment of the description is found under its own name, and nothing else is; its gates are handed over as the rendering of its
  -- codes
  pub found : FoundByName
  pub none : NoneNamed
  pub looked_up : (κs : _) (body : Bor (List ℕ)) (name r s : _) (d : Description) (m : Moment) → radial_of body.now ≡ given d → Memᴰ m d.moments
      → m.name ≡ num 4 name 0
      → moment_of_reads.Learnt κs (body, (name, tt)) r s → r ≡ Ok (head_of m)
  pub words : (κs : _) (body : Bor (List ℕ)) (name : _) (r : Bor (List ℕ)) (s : _) (m : Moment) → Octets body.now → moment_of body.now (num 4 name 0) ≡ given m
      → gates_of_reads.Learnt κs (body, (name, tt)) r s
      → r.now ≡ render (map (field (word_bytes m)) m.codes)
  -- what the description names, and what it does not
  pub named : NamedExactly
  pub places : UnnamedPlaces
  pub unnamed : (body body' : Bor (List ℕ)) (d : Description) → ButUnnamed body.now body'.now d → SameFromEach body body'
