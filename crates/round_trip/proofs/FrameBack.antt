-- One written frame, read: it passes every check, and gives its header, its data and what follows. Assumes nothing.
use Prim.Native.Nat.{ℕ, ◌+◌, ◌/◌, ◌%◌, ◌≤◌, ◌<◌}
use native.Mathlib.Omega.{arith}
use mathlib.Core.Path.{◌≡◌, refl, sym, ap, subst, ◌∙◌}
use mathlib.Core.Bool.{Bool, true, false, not}
use mathlib.Core.List.{List, ◌++◌}
use lib.Dec.{ltb, eqb}
use lib.ListN.{length, take, drop, length-append}
use lib.Seq.{take_at, drop_at}
use borrow.Author.Tests.{lt-ltb, le-ltb, ltb-true, ltb-false, eq-eqb, eqb-true}
use Rattle.wire.specs.Checks.{pick, both, AllHold}
use Rattle.wire.specs.Numbers.{num}
use Rattle.wire.specs.Tables.{render, Fit}
use Rattle.wire.specs.Sizes.{bytes, halved}
use Rattle.wire.specs.declared.Bytes.{Bytes}
use Rattle.frame.specs.Session.{head_table, head_size, last_kind, data_kind, session_limit, kind_in, size_in, body_in, after, head_cut, kind_unknown, body_too_long, body_cut}
use Rattle.wire.proofs.CheckLaws.{never, all_hold_join}
use Rattle.wire.proofs.TableLaws.{reads_back}
use Rattle.header_rule.specs.Rules.{most_size, too_large, not_permitted, radial_type, most_segments, count_checks, number_checks, kind_checks, segment_checks}
use Rattle.header_rule.specs.Rules.{time_checks, radial_cut, segment_size, segment_too_large, date_too_low, time_too_high}
use Rattle.header.specs.Header.{short_table, long_table, header_table, header_size, stored_in, header_in, data_in, form_checks_of, later_checks, header_checks}
use Rattle.header.specs.declared.Header.{Header}
use Rattle.header_form.proofs.WrittenLaws.{Fitting, header-long, header_is, form_back}
use Rattle.set_spec.specs.Segment.{segment_in, own_checks}
use Rattle.writer_head.specs.Head.{header_for, heads_size, heads}
use Rattle.writer.specs.Writing.{frame_of, longest_radial}
use Rattle.writer_head.specs.declared.Given.{Given}
use Rattle.writer.proofs.FrameLaws.{frame-length}
use Rattle.round_trip.specs.Theorems.{Fits}

-- what an accepted write knows of the values given and of N
pub record Sound (g : Given) (n : ℕ) : Type 0 where
  pub fits : Fits g
  pub permitted : not_permitted g.kind ≡ false
  pub date : date_too_low g.date ≡ false
  pub time : time_too_high g.milliseconds ≡ false
  pub most : n ≤ most_segments
  pub radial : radial_cut g.kind n ≡ false

-- and of the data of one segment
pub record PartFits (kind : ℕ) (part : List ℕ) : Type 0 where
  pub even : length part % 2 ≡ 0
  pub most : length part ≤ longest_radial.0
  pub small : segment_too_large (halved (bytes (header_size + length part))) kind ≡ false

module _ (g : Given) (n k : ℕ) (part rest : List ℕ) (s : Sound g n) (p : PartFits g.kind part) (low : 1 ≤ k) (high : k ≤ n) where
  -- the frame with what follows it; its message, of that size, with its header
  abbrev frames : List ℕ
  frames = frame_of g n k part ++ rest

  abbrev size : Bytes
  size = bytes (header_size + length part)

  abbrev header : Header
  header = header_for g n k size

  abbrev message : List ℕ
  message = render (header_table header) ++ part

  begins : frames ≡ render (head_table data_kind 0 size) ++ (message ++ rest)
  unfolding frame_of heads
  begins = refl

  head_fit : Fit (head_table data_kind 0 size)
  head_fit = (omega arith, (omega arith, (omega (arith, p.most), tt)))

  kind_is : kind_in frames ≡ data_kind
  kind_is = ap (λ (x : List ℕ). num 4 x 0) begins ∙ (reads_back (head_table data_kind 0 size) (message ++ rest) head_fit).0

  size_is : (size_in frames).0 ≡ size.0
  size_is = ap (λ (x : List ℕ). num 4 x 8) begins ∙ (reads_back (head_table data_kind 0 size) (message ++ rest) head_fit).1.1.0

  message_long : length message ≡ size.0
  message_long = length-append (render (header_table header)) part ∙ ap (λ (l : ℕ). l + length part) (header-long header)

  body_is : body_in frames ≡ message
  body_is =
      ap (λ (x : List ℕ). take (size_in frames).0 (drop head_size x)) begins
      ∙ ap (λ (z : ℕ). take z (message ++ rest)) size_is
      ∙ take_at message rest size.0 message_long

  -- what the short form cannot hold is a radial, and the one segment there is
  radial_alone : too_large (halved size) ≡ true → (g.kind ≡ radial_type) × (n ≡ 1)
  radial_alone e =
      let above : most_size.0 < size.0 / 2 = ltb-true most_size.0 (size.0 / 2) e in
      let large : ltb segment_size.0 (size.0 / 2) ≡ true = lt-ltb segment_size.0 (size.0 / 2) (omega (arith, above)) in
      go (eqb g.kind radial_type) refl (eqb n 1) refl (rw large at p.small) s.radial
    where
      go : (t : Bool) → eqb g.kind radial_type ≡ t → (u : Bool) → eqb n 1 ≡ u → both (not t) true ≡ false → both t (not u) ≡ false
          → (g.kind ≡ radial_type) × (n ≡ 1)
      go true q true r small cut = (eqb-true g.kind radial_type q, eqb-true n 1 r)
      go true q false r small cut = never (cc cut)
      go false q u r small cut = never (cc small)

  fitting : Fitting header
  fitting = record { fit = go (too_large (halved size)) refl; low = low; high = high; long = radial_alone }
    where
      go : (t : Bool) → too_large (halved size) ≡ t → Fit (pick t (long_table header) (short_table header))
      go true e =
          let f = s.fits in
          (omega arith, (f.channel, (f.kind, (f.sequence, (f.date, (f.milliseconds, (omega (arith, p.most), tt)))))))
      go false e =
          let f = s.fits in
          let most = s.most in
          let small : size.0 / 2 ≤ most_size.0 = ltb-false most_size.0 (size.0 / 2) e in
          (omega (arith, small), (f.channel, (f.kind, (f.sequence, (f.date, (f.milliseconds, (omega arith, (omega arith, tt))))))))

  message_back : header_in message ≡ header
  message_back = header_is header part fitting

  -- the segment that was written is the one that is read
  pub segment_back : segment_in frames ≡ record { header = header; content = part }
  segment_back =
      let content = ap data_in body_is ∙ drop_at (render (header_table header)) part header_size (header-long header) in
      λ i. record { header = (ap header_in body_is ∙ message_back) i; content = content i }

  whole : length frames ≡ heads_size + length part + length rest
  whole = length-append (frame_of g n k part) rest ∙ ap (λ (l : ℕ). l + length rest) (frame-length g n k part)

  pub after_back : after frames ≡ rest
  after_back =
      ap (λ (z : ℕ). drop (head_size + z) frames) size_is
      ∙ drop_at (frame_of g n k part) rest (head_size + size.0) (omega (arith, frame-length g n k part))

  even_size : size.0 % 2 ≡ 0
  even_size = omega (arith, p.even)

  later : AllHold (later_checks header)
  later =
      let counts : AllHold (count_checks n) = (le-ltb n 1 (omega arith), (le-ltb most_segments n s.most, tt)) in
      let numbers : AllHold (number_checks n k) = (le-ltb k 1 low, (le-ltb n k high, tt)) in
      let kinds : AllHold (kind_checks (halved size) g.kind n) = (s.radial, (p.small, tt)) in
      let times : AllHold (time_checks g.date g.milliseconds) = (s.date, (s.time, tt)) in
      let segments : AllHold (segment_checks (halved size) g.kind n k) =
      all_hold_join (count_checks n) (number_checks n k ++ kind_checks (halved size) g.kind n) counts
      (all_hold_join (number_checks n k) (kind_checks (halved size) g.kind n) numbers kinds)
      in
      (s.permitted, all_hold_join (segment_checks (halved size) g.kind n k) (time_checks g.date g.milliseconds) segments times)

  message_holds : AllHold (header_checks message)
  message_holds =
      let forms = form_back header part fitting size.0 (omega arith) (omega (arith, p.most)) even_size refl in (
        le-ltb (length message) header_size (omega (arith, message_long)),
        all_hold_join (form_checks_of (stored_in message) (length message)) (later_checks (header_in message))
            (subst (λ (l : ℕ). AllHold (form_checks_of (stored_in message) l)) (sym message_long) forms)
            (subst (λ (h : Header). AllHold (later_checks h)) (sym message_back) later),
      )

  header_holds : AllHold (header_checks (body_in frames))
  header_holds = subst (λ (b : List ℕ). AllHold (header_checks b)) (sym body_is) message_holds

  -- every check of its own holds
  pub frame_holds : AllHold (own_checks frames)
  frame_holds =
      let l = whole in
      let z = size_is in
      let head : head_cut frames ≡ false = le-ltb (length frames) head_size (omega arith) in
      let kind : kind_unknown frames ≡ false = le-ltb last_kind (kind_in frames) (omega (arith, kind_is)) in
      let short : body_too_long frames ≡ false = le-ltb session_limit.0 (size_in frames).0 (omega (arith, p.most)) in
      let there : body_cut frames ≡ false = le-ltb (length frames) (head_size + (size_in frames).0) (omega arith) in
      (head, (kind, (short, (there, (simp (eq-eqb (kind_in frames) data_kind kind_is), header_holds)))))
