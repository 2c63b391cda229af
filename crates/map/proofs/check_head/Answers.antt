use Prim.Native.Nat.{ℕ, ◌*◌, ◌≤◌}
use mathlib.Core.Path.{◌≡◌, sym, ◌∙◌}
use mathlib.Core.List.{List}
use lib.ListN.{length}
use borrow.Author.Tests.{lt-ltb, le-ltb}
use Rattle.wire.specs.Numbers.{fetched}
use Rattle.map_spec.specs.Map.{field_size, most_minutes}
use Rattle.map.specs.Steps.{head_count}
use Rattle.map.proofs.BodyLaws.{segmentsFetched, minutesFetched, head-fetched}
use Rattle.map.proofs.check_head.Goals as goal

module _ (b : List ℕ) {date : ℕ} (first : field_size ≤ length b) (date_is : date ≡ fetched field_size b 0) (some : 1 ≤ date) where
  -- the date passes
  past_date : head_count b ≡ minutesFetched b
  past_date = head-fetched b ∙ simp (le-ltb _ _ first, ← date_is, le-ltb _ _ some)

  -- the minutes pass too
  past_minutes : {minutes : ℕ} → 2 * field_size ≤ length b → minutes ≡ fetched field_size b 2 → minutes ≤ most_minutes
      → head_count b ≡ segmentsFetched b
  past_minutes second minutes_is few = past_date ∙ simp (le-ltb _ _ second, ← minutes_is, le-ltb _ _ few)

pub returns-then-body-lt-FIELD_SIZE : goal.returns-then-body-lt-FIELD_SIZE
returns-then-body-lt-FIELD_SIZE c = sym (head-fetched c.args.body.now ∙ simp (lt-ltb _ _ c.if-body-lt-FIELD_SIZE.true))

pub returns-then-fetch-lt1 : goal.returns-then-fetch-lt1
returns-then-fetch-lt1 c =
    sym (head-fetched c.args.body.now
    ∙ simp (le-ltb _ _ c.if-body-lt-FIELD_SIZE.false, ← c.fetch.ensures, lt-ltb _ _ c.if-fetch-lt1.true))

pub returns-then-body : goal.returns-then-body
returns-then-body c =
    let past = past_date _ c.if-body-lt-FIELD_SIZE.false c.fetch.ensures c.if-fetch-lt1.false in
    sym (past ∙ simp (lt-ltb _ _ c.if-body.true))

pub returns-then-fetch-gt-MOST_MINUTES : goal.returns-then-fetch-gt-MOST_MINUTES
returns-then-fetch-gt-MOST_MINUTES c =
    let past = past_date _ c.if-body-lt-FIELD_SIZE.false c.fetch.ensures c.if-fetch-lt1.false in
    sym (past ∙ simp (le-ltb _ _ c.if-body.false, ← c.fetch-2.ensures, lt-ltb _ _ c.if-fetch-gt-MOST_MINUTES.true))

pub returns-then-body-lt-HEAD_SIZE : goal.returns-then-body-lt-HEAD_SIZE
returns-then-body-lt-HEAD_SIZE c =
    let past = past_minutes _ c.if-body-lt-FIELD_SIZE.false c.fetch.ensures c.if-fetch-lt1.false
    c.if-body.false c.fetch-2.ensures c.if-fetch-gt-MOST_MINUTES.false in
    sym (past ∙ simp (lt-ltb _ _ c.if-body-lt-HEAD_SIZE.true))

pub returns-then-count-lt1 : goal.returns-then-count-lt1
returns-then-count-lt1 c =
    let past = past_minutes _ c.if-body-lt-FIELD_SIZE.false c.fetch.ensures c.if-fetch-lt1.false
    c.if-body.false c.fetch-2.ensures c.if-fetch-gt-MOST_MINUTES.false in
    sym (past ∙ simp (le-ltb _ _ c.if-body-lt-HEAD_SIZE.false, ← c.fetch-count.ensures, lt-ltb _ _ c.if-count-lt1.true))

pub returns-then-count-gt-MOST_ELEVATIONS : goal.returns-then-count-gt-MOST_ELEVATIONS
returns-then-count-gt-MOST_ELEVATIONS c =
    let past = past_minutes _ c.if-body-lt-FIELD_SIZE.false c.fetch.ensures c.if-fetch-lt1.false
    c.if-body.false c.fetch-2.ensures c.if-fetch-gt-MOST_MINUTES.false in
    sym (past
    ∙ simp (
      le-ltb _ _ c.if-body-lt-HEAD_SIZE.false,
      ← c.fetch-count.ensures,
      le-ltb _ _ c.if-count-lt1.false,
      lt-ltb _ _ c.if-count-gt-MOST_ELEVATIONS.true,
    ))

pub returns : goal.returns
returns c =
    let past = past_minutes _ c.if-body-lt-FIELD_SIZE.false c.fetch.ensures c.if-fetch-lt1.false
    c.if-body.false c.fetch-2.ensures c.if-fetch-gt-MOST_MINUTES.false in
    sym (past
    ∙ simp (
      le-ltb _ _ c.if-body-lt-HEAD_SIZE.false,
      ← c.fetch-count.ensures,
      le-ltb _ _ c.if-count-lt1.false,
      le-ltb _ _ c.if-count-gt-MOST_ELEVATIONS.false,
    ))
