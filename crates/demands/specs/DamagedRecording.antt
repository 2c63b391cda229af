-- K10. "Salvage of a damaged recording.": the result of every call of the compiled `salvage` and of `ulm_salvage`. What is kept of a buffer
-- and what is skipped is defined by its account, over its bytes and the checks of frame and header: the pieces joined are the buffer,
-- each frame kept passes, none begins at a skipped byte, and the runs are longest.
use Rattle.std.specs.Prelude.{ℕ, suc, ◌+◌, ◌*◌, ◌/◌, ◌≤◌, ◌<◌, ◌≡◌, length, take, Result, Ok, Err}
use Rattle.wire.specs.declared.refusal.Refusal.{Refusal}
use Rattle.wire.specs.declared.refusal.Refusal.TheVariants.{OutputSmall}
use Rattle.salvage.specs.declared.Salvaged.{Salvaged}
use mathlib.Core.List.{List, flatten}
use contract.Lifetimes.{Lfts}
use denote.Ref.{Bor, MutBor, at_last}
use Rattle.wire.specs.Properties.{One}
use Rattle.wire.specs.Answers.{refused}
use Rattle.wire.specs.Writing.{filled}
use Rattle.salvage_spec.specs.Walk.{Run}
use Rattle.salvage_spec.specs.Salvage.{numbers}
use Rattle.salvage_spec.specs.Account.{Piece, Account, kept_in, runs_in}
use Rattle.salvage_spec.specs.Theorems.{AllPass, long_all, least_frame, Apart}
use Rattle.salvage.proofs.salvage.Reads as salvage
use Rattle.c_salvage.specs.declared.UlmSalvage.{UlmSalvage}
use Rattle.c_salvage.specs.Face.{salvage_face}
use Rattle.ulm.proofs.ulm_salvage.Reads as ulm_salvage
use Rattle.demands.specs.Notions.{Comes}

-- a call of either: its lifetimes, the buffer and the outputs of bytes and of runs that it is lent, and the buffer as it leaves it
pub record Call : Type 0 where
  pub κs : Lfts 3
  pub buf : Bor (List ℕ)
  pub out : MutBor (List ℕ)
  pub runs : MutBor (List ℕ)
  pub buf' : Bor (List ℕ)

-- what the contract says of a call that returned r and left these two in the outputs: of `salvage`, and of `ulm_salvage`
abbrev pub Salvages : Call → Result Salvaged Refusal → List ℕ × List ℕ → Type 0
Salvages c r left = salvage.Learnt c.κs (c.buf, (c.out, (c.runs, tt))) r
    (c.buf', (at_last c.out left.0, (at_last c.runs left.1, tt)))

abbrev pub SalvagesForC : Call → UlmSalvage → List ℕ × List ℕ → Type 0
SalvagesForC c r left =
    ulm_salvage.Learnt c.κs (c.buf, (c.out, (c.runs, tt))) r
    (c.buf', (at_last c.out left.0, (at_last c.runs left.1, tt)))

-- the result of both calls
abbrev pub Ends : Call → Result Salvaged Refusal → UlmSalvage → List ℕ × List ℕ → Type 0
Ends c = Comes (Salvages c) (SalvagesForC c)

-- "13 and nothing written"; all numbers that are reported are 0
abbrev pub Refuses : Call → Type 0
Refuses c = Ends c (Err OutputSmall) (salvage_face (refused 13)) (c.out.now, c.runs.now)

-- "the number of frames kept", the bytes written, the number of runs
abbrev pub Reports : Call → ℕ → ℕ → ℕ → List ℕ → List ℕ → Type 0
Reports c kept long count left listed =
    Ends c (Ok (record { kept = kept; length = long; runs = count })) (record { refusal = 0; kept = kept; length = long; runs = count }) (left, listed)

-- the frames kept in order and each run as place and length, each from its output's start on, and after them what stood there
abbrev pub Tells : Call → List (List ℕ) → List Run → Type 0
Tells c frames skipped =
    Reports c (length frames) (length (flatten frames)) (length skipped) (filled (flatten frames) c.out.now)
    (filled (numbers skipped) c.runs.now)

pub record DamagedRecording : Type 0 where
  -- every buffer has exactly one account, so the next three cases cover every call
  pub one : (b : List ℕ) → One (Account b)
  -- "Should either output be too small, 13 and nothing written"
  pub little_output : (c : Call) (pieces : List Piece) → Account c.buf.now pieces
      → length c.out.now < length (flatten (kept_in pieces)) → Refuses c
  pub few_runs : (c : Call) (pieces : List Piece) → Account c.buf.now pieces
      → length c.runs.now < 2 * length (runs_in 0 pieces) → Refuses c
  -- "The output is exactly the kept frames in order"; "each longest run of skipped bytes as place and length, and the number of frames
  -- kept"
  pub enough : (c : Call) (pieces : List Piece) → Account c.buf.now pieces → length (flatten (kept_in pieces)) ≤ length c.out.now
      → 2 * length (runs_in 0 pieces) ≤ length c.runs.now → Tells c (kept_in pieces) (runs_in 0 pieces)
  -- an output as long as the buffer, and 2 * ((length + 28) / 29) numbers for runs, always suffice
  pub suffices : (c : Call) (pieces : List Piece) → Account c.buf.now pieces → length c.buf.now ≤ length c.out.now
      → 2 * ((length c.buf.now + least_frame) / suc least_frame) ≤ length c.runs.now → Tells c (kept_in pieces) (runs_in 0 pieces)
  -- "An undamaged recording of data frames alone with such headers comes out unchanged with no runs"
  pub undamaged : (c : Call) (frames : List (List ℕ)) → c.buf.now ≡ flatten frames → AllPass frames
      → length (flatten frames) ≤ length c.out.now
      → Reports c (length frames) (length (flatten frames)) 0 (filled (flatten frames) c.out.now) c.runs.now
  -- the bytes that a salvage wrote, given to the call d, come out unchanged with no runs
  pub again : (c d : Call) (told : Salvaged) (out' runs' : List ℕ) → Salvages c (Ok told) (out', runs')
      → d.buf.now ≡ take told.length out' → told.length ≤ length d.out.now
      → Reports d told.kept told.length 0 (filled (take told.length out') d.out.now) d.runs.now
  pub again_for_c : (c d : Call) (r : UlmSalvage) (out' runs' : List ℕ) → SalvagesForC c r (out', runs') → r.refusal ≡ 0
      → d.buf.now ≡ take r.length out' → r.length ≤ length d.out.now
      → Reports d r.kept r.length 0 (filled (take r.length out') d.out.now) d.runs.now
  -- every byte is kept or skipped; runs rise within the buffer, with a frame between any two
  pub all : (b : List ℕ) (pieces : List Piece) → Account b pieces → length (flatten (kept_in pieces)) + long_all (runs_in 0 pieces) ≡ length b
  pub apart : (b : List ℕ) (pieces : List Piece) → Account b pieces → Apart 0 (length b) (runs_in 0 pieces)
