-- One block: its checks hold exactly if its bytes and its description lie as the layout says. Assumes nothing.
use Prim.Native.Nat.{ℕ, ◌+◌, ◌-◌, ◌/◌, ◌≤◌}
use native.Mathlib.Omega.{arith}
use mathlib.Core.Path.{◌≡◌, refl, sym, ap}
use mathlib.Core.Bool.{false, not}
use mathlib.Core.List.{List, [], ◌∷◌}
use lib.Dec.{ltb, eqb}
use lib.ListN.{length, drop}
use borrow.Author.Tests.{ltb-false, eqb-true, not-false, le-ltb, eq-eqb}
use Rattle.wire.specs.Numbers.{nums}
use Rattle.wire.specs.Checks.{Check, among, AllHold}
use Rattle.wire.specs.Tables.{Spells}
use Rattle.wire.proofs.NumberLaws.{nums-length}
use Rattle.wire.proofs.TableLaws.{nums_spell, spell_nums}
use Rattle.radial_spec.specs.Description.{permitted, most_gates, word_sizes, constant_head, moment_head, Block, Moment, gates}
use Rattle.radial_spec.specs.Description.{word_bytes, block_size}
use Rattle.radial_spec.specs.Description.{moment_size, block_fields, moment_fields, Member, Absent, BlockLies, MomentLies, block_end}
use Rattle.radial_spec.specs.Description.{moment_end, moment_bytes}
use Rattle.radial_spec.specs.Refusal.{name_in, block_at, moment_at, block_says, moment_says, block_checks, moment_checks, head_in}
use Rattle.radial_spec.specs.Refusal.{stored_head, Head}
use Rattle.radial_spec.proofs.Runs.{part_spells, part_spelt, among_member, member_among}
use Rattle.radial_spec.proofs.Runs.{among_absent, absent_among}

-- each check of the list holds, and then R
abbrev pub HeldThen : List Check → Type 0 → Type 0
HeldThen [] R = R
HeldThen (k ∷ ks) R = (k.broken ≡ false) × HeldThen ks R

-- ---- a constant block
-- what its checks say
pub record BlockReads (z from p : ℕ) (l : List ℕ) (name least : ℕ) : Type 0 where
  pub after : from ≤ p
  pub room : p + constant_head ≤ z
  pub named : name_in l ≡ name
  pub enough : least ≤ block_says l
  pub within : p + block_says l ≤ z

pub block_reads : {R : Type 0} (q z from p : ℕ) (l : List ℕ) (name least : ℕ) → HeldThen (block_checks q z from p l name least []) R
    → BlockReads z from p l name least × R
block_reads q z from p l name least h =
    let reads : BlockReads z from p l name least =
    record {
      after = ltb-false p from h.0;
      room = ltb-false z (p + constant_head) h.1.0;
      named = eqb-true (name_in l) name (not-false _ h.1.1.0);
      enough = ltb-false (block_says l) least h.1.1.1.0;
      within = ltb-false z (p + block_says l) h.1.1.1.1.0;
    }
    in
    (reads, h.1.1.1.1.1)

pub block_holds : (q z from p : ℕ) (l : List ℕ) (name least : ℕ) (rest : List Check) → BlockReads z from p l name least → AllHold rest
    → AllHold (block_checks q z from p l name least rest)
block_holds q z from p l name least rest r h =
    let early : ltb p from ≡ false = le-ltb p from r.after in
    let left : ltb z (p + constant_head) ≡ false = le-ltb z (p + constant_head) r.room in
    let wrong : not (eqb (name_in l) name) ≡ false = ap not (eq-eqb (name_in l) name r.named) in
    let short : ltb (block_says l) least ≡ false = le-ltb (block_says l) least r.enough in
    let past : ltb z (p + block_says l) ≡ false = le-ltb z (p + block_says l) r.within in
    (early, (left, (wrong, (short, (past, h)))))

-- what is read of it has the length that it says
pub block_size_lem : (p : ℕ) (l : List ℕ) → constant_head ≤ block_says l → block_size (block_at p l) ≡ block_says l
block_size_lem p l h = omega (arith, nums-length 1 l constant_head (block_says l - constant_head))

-- read: it lies as it should, and the body spells it
pub block_lies : (z from p : ℕ) (l : List ℕ) (name least : ℕ) → constant_head ≤ least → BlockReads z from p l name least
    → BlockLies from least z (block_at p l)
block_lies z from p l name least six r =
    let e : block_size (block_at p l) ≡ block_says l = block_size_lem p l (omega (arith, r.enough)) in
    record { after = r.after; enough = rw e r.enough; within = rw e r.within }

pub block_spelt : (b : List ℕ) (z from p name least : ℕ) → constant_head ≤ least → BlockReads z from p (drop p b) name least
    → Spells b p (block_fields name (block_at p (drop p b)))
block_spelt b z from p name least six r =
    part_spelt (block_fields name (block_at p (drop p b))) b p (
      r.named,
      (
        sym (block_size_lem p (drop p b) (omega (arith, r.enough))),
        nums_spell 1 (drop p b) constant_head (block_says
            (drop p b) - constant_head),
      ),
    )

-- described: what is read there is the block, and its checks hold
module _ (b : List ℕ) (name : ℕ) (k : Block) (s : Spells b k.place (block_fields name k)) where
  block_says_lem : block_says (drop k.place b) ≡ block_size k
  block_says_lem = (part_spells (block_fields name k) b k.place s).1.0

  pub block_end_lem : k.place + block_says (drop k.place b) ≡ block_end k
  block_end_lem = ap (λ (n : ℕ). k.place + n) block_says_lem

  pub block_is : block_at k.place (drop k.place b) ≡ k
  block_is =
      let e : block_says (drop k.place b) - constant_head ≡ length k.rest = omega (arith, block_says_lem) in
      let r : nums 1 (drop k.place b) constant_head (block_says (drop k.place b) - constant_head) ≡ k.rest =
      rw e (spell_nums 1 (drop k.place b) constant_head k.rest (part_spells (block_fields name k) b k.place s).1.1)
      in
      λ i. record { place = k.place; rest = r i }

  pub block_read : (z from least : ℕ) → BlockLies from least z k → BlockReads z from k.place (drop k.place b) name least
  block_read z from least h =
      record {
        after = h.after;
        room = omega (arith, h.within);
        named = (part_spells (block_fields name k) b k.place s).0;
        enough = rw block_says_lem h.enough;
        within = rw block_says_lem h.within;
      }

-- ---- a moment
pub record MomentReads (z from p : ℕ) (l seen : List ℕ) : Type 0 where
  pub after : from ≤ p
  pub room : p + moment_head ≤ z
  pub known : Member (name_in l) permitted
  pub once : Absent (name_in l) seen
  pub few : (head_in l).gates ≤ most_gates
  pub words : Member (head_in l).word word_sizes
  pub within : p + moment_says l ≤ z

pub moment_reads : {R : Type 0} (q z from p : ℕ) (l seen : List ℕ) → HeldThen (moment_checks q z from p l seen []) R
    → MomentReads z from p l seen × R
moment_reads q z from p l seen h =
    let reads : MomentReads z from p l seen =
    record {
      after = ltb-false p from h.0;
      room = ltb-false z (p + moment_head) h.1.0;
      known = among_member (name_in l) permitted (not-false _ h.1.1.0);
      once = among_absent (name_in l) seen h.1.1.1.0;
      few = ltb-false most_gates (head_in l).gates h.1.1.1.1.0;
      words = among_member (head_in l).word word_sizes (not-false _ h.1.1.1.1.1.0);
      within = ltb-false z (p + moment_says l) h.1.1.1.1.1.1.0;
    }
    in
    (reads, h.1.1.1.1.1.1.1)

pub moment_holds : (q z from p : ℕ) (l seen : List ℕ) (rest : List Check) → MomentReads z from p l seen → AllHold rest
    → AllHold (moment_checks q z from p l seen rest)
moment_holds q z from p l seen rest r h =
    let early : ltb p from ≡ false = le-ltb p from r.after in
    let left : ltb z (p + moment_head) ≡ false = le-ltb z (p + moment_head) r.room in
    let unknown : not (among (name_in l) permitted) ≡ false = ap not (member_among (name_in l) permitted r.known) in
    let repeated : among (name_in l) seen ≡ false = absent_among (name_in l) seen r.once in
    let many : ltb most_gates (head_in l).gates ≡ false = le-ltb most_gates (head_in l).gates r.few in
    let sized : not (among (head_in l).word word_sizes) ≡ false = ap not (member_among (head_in l).word word_sizes r.words) in
    let past : ltb z (p + moment_says l) ≡ false = le-ltb z (p + moment_says l) r.within in
    (early, (left, (unknown, (repeated, (many, (sized, (past, h)))))))

-- what is read of it has as many gates as it says
moment-gates : (p : ℕ) (l : List ℕ) → gates (moment_at p l) ≡ (head_in l).gates
moment-gates p l = nums-length ((head_in l).word / 8) l moment_head (head_in l).gates

pub head_is : (p : ℕ) (l : List ℕ) → stored_head (moment_at p l) ≡ head_in l
head_is p l = λ i. record {
  name = (head_in l).name;
  reserved = (head_in l).reserved;
  gates = moment-gates p l i;
  first = (head_in l).first;
  interval = (head_in l).interval;
  overlay = (head_in l).overlay;
  noise = (head_in l).noise;
  flags = (head_in l).flags;
  word = (head_in l).word;
  scale = (head_in l).scale;
  offset = (head_in l).offset;
}

pub moment_size_lem : (p : ℕ) (l : List ℕ) → moment_size (moment_at p l) ≡ moment_says l
moment_size_lem p l = ap (λ (h : Head). moment_bytes h.gates h.word) (head_is p l)

-- read: it lies as it should, and the body spells it
pub moment_lies : (z from p : ℕ) (l seen : List ℕ) → MomentReads z from p l seen → MomentLies from z seen (moment_at p l)
moment_lies z from p l seen r =
    record {
      after = r.after;
      known = r.known;
      once = r.once;
      few = rw (moment-gates p l) (omega (arith, r.few));
      words = r.words;
      within = rw (moment_size_lem p l) r.within;
    }

pub moment_spelt : (b : List ℕ) (p : ℕ) → Spells b p (moment_fields (moment_at p (drop p b)))
moment_spelt b p =
    let l = drop p b in
    let g : (head_in l).gates ≡ gates (moment_at p l) = sym (moment-gates p l) in
    let run = nums_spell ((head_in l).word / 8) l moment_head (head_in l).gates in
    part_spelt (moment_fields (moment_at p l)) b p
    (refl, (refl, (g, (refl, (refl, (refl, (refl, (refl, (refl, (refl, (refl, run)))))))))))

-- described: what is read there is the moment, and its checks hold
module _ (b : List ℕ) (m : Moment) (s : Spells b m.place (moment_fields m)) where
  moment_part : Spells (drop m.place b) 0 (moment_fields m)
  moment_part = part_spells (moment_fields m) b m.place s

  pub moment_name : name_in (drop m.place b) ≡ m.name
  moment_name = moment_part.0

  moment_word : (head_in (drop m.place b)).word ≡ m.word
  moment_word = moment_part.1.1.1.1.1.1.1.1.0

  moment_says_lem : moment_says (drop m.place b) ≡ moment_size m
  moment_says_lem = cc (moment_part.1.1.0, moment_word)

  pub moment_end_lem : m.place + moment_says (drop m.place b) ≡ moment_end m
  moment_end_lem = ap (λ (n : ℕ). m.place + n) moment_says_lem

  pub moment_is : moment_at m.place (drop m.place b) ≡ m
  moment_is =
      let l = drop m.place b in
      let f = moment_part in
      let c : nums ((head_in l).word / 8) l moment_head (head_in l).gates ≡ m.codes =
      rw (moment_word, f.1.1.0) (spell_nums (word_bytes m) l moment_head m.codes f.1.1.1.1.1.1.1.1.1.1.1)
      in
      λ i. record {
        place = m.place;
        name = moment_name i;
        reserved = f.1.0 i;
        first = f.1.1.1.0 i;
        interval = f.1.1.1.1.0 i;
        overlay = f.1.1.1.1.1.0 i;
        noise = f.1.1.1.1.1.1.0 i;
        flags = f.1.1.1.1.1.1.1.0 i;
        word = moment_word i;
        scale = f.1.1.1.1.1.1.1.1.1.0 i;
        offset = f.1.1.1.1.1.1.1.1.1.1.0 i;
        codes = c i;
      }

  pub moment-read : (z from : ℕ) (seen : List ℕ) → MomentLies from z seen m → MomentReads z from m.place (drop m.place b) seen
  moment-read z from seen h =
      record {
        after = h.after;
        room = omega (arith, h.within);
        known = rw moment_name h.known;
        once = rw moment_name h.once;
        few = rw moment_part.1.1.0 (omega (arith, h.few));
        words = rw moment_word h.words;
        within = rw moment_says_lem h.within;
      }
