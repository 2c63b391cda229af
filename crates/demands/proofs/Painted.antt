-- From a stream's place to the wall. Assumes nothing.
use Prim.Native.Nat.{ℕ, zero, suc, ◌+◌, ◌-◌, ◌≤◌}
use mathlib.Core.Path.{◌≡◌, refl, sym, ap, ◌∙◌}
use mathlib.Core.Bool.{Bool, true, false}
use mathlib.Core.List.{List, [], ◌∷◌}
use native.Mathlib.Omega.{arith}
use lib.Dec.{eqb}
use lib.ListN.{length, take, drop, length-drop}
use lib.Seq.{take-take, drop-drop}
use borrow.Author.Tests.{ltb-false}
use denote.Ref.{Bor}
use Rattle.wire.specs.Numbers.{num}
use Rattle.wire.specs.Checks.{pick}
use Rattle.wire.specs.Answers.{Answer, given, rule, onward}
use Rattle.wire.proofs.CheckLaws.{never, all_hold}
use Rattle.wire.proofs.AnswerLaws.{rule_given}
use Rattle.frame.specs.Session.{end, frame, frame_checks, frame_in, frame_at}
use Rattle.frame.specs.declared.Frame.{Frame}
use Rattle.header.specs.Header.{header_size, header_in, header_checks, header_of}
use Rattle.header.specs.declared.Header.{Header}
use Rattle.radial_spec.specs.Description.{moment_head, Moment, gate_bytes}
use Rattle.radial_spec.specs.Lookups.{moment_of, Part, gates_in, gates_of, bytes_in}
use Rattle.radial_spec.proofs.Naming.{found_lies, gate-words}
use Rattle.radial_gates.specs.Told.{part_of, LiesAt}
use Rattle.demands.specs.Wall.{on_the_wall, Wall}

-- a part of a part
cut : (p n k : ℕ) (l : List ℕ) → p + n ≤ k → take n (drop p (take k l)) ≡ take n (drop p l)
cut zero n k l h = take-take n k l (omega arith)
cut (suc p) n zero l h = absurd (omega arith)
cut (suc p) n (suc k) [] h = refl
cut (suc p) n (suc k) (x ∷ l) h = cut p n k l (omega arith)

pub part_of-part : (l : List ℕ) (q k p n : ℕ) → p + n ≤ k → take n (drop p (take k (drop q l))) ≡ take n (drop (q + p) l)
part_of-part l q k p n h = cut p n k (drop q l) h ∙ ap (λ (x : List ℕ). take n x) (drop-drop p q l)

-- parts within parts, by their memory, place and bytes
pub within : (a b c : Bor (List ℕ)) (p q : Part) → LiesAt a b p → LiesAt b c q → q.place + q.size ≤ p.size
    → LiesAt a c (record { place = p.place + q.place; size = q.size })
within a b c p q u v h = record {
  memory = v.memory ∙ u.memory;
  place = v.place ∙ move b.ref_ptr.1 a.ref_ptr.1 p.place q.place u.place;
  size = v.size;
  bytes = v.bytes ∙ ap (λ (x : List ℕ). bytes_in x q) u.bytes ∙ part_of-part a.now p.place p.size q.place q.size h;
}
  where
    move : (y z i j : ℕ) → y ≡ z + i → y + j ≡ z + (i + j)
    move y z i j e = omega arith

-- what an accepted frame says about the bytes left
record Framed (s : List ℕ) (place : ℕ) (f : Frame) : Type 0 where
  starts : f.start ≡ place + 12
  ends : f.next ≡ place + (12 + f.size.0)
  inside : place + (12 + f.size.0) ≤ length s

framed_so : (s : List ℕ) (place : ℕ) (f : Frame) → given (frame f) ≡ frame_at s place → Framed s place f
unfolding frame_at
framed_so s place f e = go (eqb place (length s)) e
  where
    go : (t : Bool)
        → given (frame f) ≡ pick t (given end) (rule (frame_checks (drop place s)) (frame (frame_in (drop place s) place))) → Framed s place f
    go true q = never (cc q)
    go false q =
        let p = rule_given (frame_checks (drop place s)) (frame (frame_in (drop place s) place)) (frame f) (sym q) in
        let h = all_hold (frame_checks (drop place s)) p.0 in
        let x : frame_in (drop place s) place ≡ f = cc p.1 in
        let long = ltb-false (length (drop place s)) (12 + (frame_in (drop place s) place).size.0) h.1.1.1.0 in
        let head = ltb-false (length (drop place s)) 12 h.0 in
        rw (← x) (record { starts = refl; ends = refl; inside = omega (arith, long, head, length-drop place s) })

headed_so : (b : List ℕ) (h : Header) → given h ≡ header_of b → 16 ≤ length b
unfolding header_of
headed_so b h e =
    let p = rule_given (header_checks b) (header_in b) h (sym e) in
    ltb-false (length b) 16 (all_hold (header_checks b) p.0).0

gates_so : (b : List ℕ) (name : ℕ) (m : Moment) → moment_of b name ≡ given m → part_of (gates_of b name) ≡ gates_in m
unfolding gates_of
gates_so b name m e = ap (λ (a : Answer Moment). part_of (onward a (λ x. given (gates_in x)))) e

same_place : (x : Bor (List ℕ)) (r : Bor (List ℕ)) (p q : Part) → p.place ≡ q.place → p.size ≡ q.size → LiesAt x r p → LiesAt x r q
same_place x r p q a b h = let e : p ≡ q = λ i. record { place = a i; size = b i } in rw (← e) h

pub wall : Wall
wall κs₁ κs₂ κs₃ s₁ s₂ s₃ buffer message body gates place name f h m w =
    let n = num 4 name 0 in
    let F = framed_so buffer.now place f w.framed in
    let sixteen : header_size ≤ f.size.0 = rw (← w.taken.size) (headed_so message.now h w.headed) in
    let lies = found_lies body.now n m w.bytes w.found in
    let part = gates_so body.now n m w.found in
    let fits : m.place + moment_head + gate_bytes m ≤ f.size.0 - header_size = omega (arith, lies.2, w.after.size) in
    let lent : LiesAt body gates (gates_in m) = rw (← part) w.lent in
    let inMessage = within message body gates (record { place = header_size; size = f.size.0 - header_size }) (gates_in m)
    w.after lent (omega arith) in
    let inBuffer =
    within buffer message gates (record { place = f.start; size = f.size.0 })
    (record { place = header_size + (m.place + moment_head); size = gate_bytes m }) w.taken inMessage
    (omega arith) in (
      same_place buffer gates (record { place = f.start + (header_size + (m.place + moment_head)); size = gate_bytes m })
          (on_the_wall place m) (omega (arith, F.starts)) refl inBuffer,
      omega (arith, F.ends),
      omega (arith, F.ends, F.inside),
      lent.bytes ∙ (gate-words body.now n m w.bytes w.found).1,
    )
