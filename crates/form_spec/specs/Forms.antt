-- Bodies that are a table of fields with ranges. Each field is a number of some bytes, and may hold a range of numbers, one of a list, or
-- any number. A part of the table is repeated as often as one of the fields says.
use Rattle.std.specs.Prelude.{ℕ, zero, suc, ◌+◌, Bool, false, not, List, [], ◌∷◌, ◌++◌, eqb, ltb, length, get_or, take, drop}
use Rattle.wire.specs.Numbers.{num}
use Rattle.wire.specs.Tables.{Field, field, render}
use Rattle.wire.specs.Checks.{either, among, Check, check}
use Rattle.wire.specs.Answers.{Answer, rule, Outcome}
use Rattle.wire.specs.Writing.{written}
use Rattle.wire.specs.declared.Bytes.{Bytes}

-- ---- fields
-- what a field may hold
pub data Range : Type 0 where
  within : ℕ → ℕ → Range
  one_of : List ℕ → Range
  anything : Range

unfoldable pub outside : Range → ℕ → Bool
outside (within least most) x = either (ltb x least) (ltb most x)
outside (one_of values) x = not (among x values)
outside anything x = false

-- a row of the table: how many bytes the field has, and what it may hold
pub record Row : Type 0 where
  pub wide : ℕ
  pub range : Range

abbrev pub row : ℕ → Range → Row
row w r = record { wide = w; range = r }

-- rows, n times
abbrev pub times : ℕ → List Row → List Row
times zero rows = []
times (suc n) rows = rows ++ times n rows

-- how many bytes rows take
abbrev pub long : List Row → ℕ
long [] = 0
long (r ∷ rs) = r.wide + long rs

-- the numbers in the rows, from byte p on
abbrev pub numbers_at : List Row → List ℕ → ℕ → List ℕ
numbers_at [] b p = []
numbers_at (r ∷ rs) b p = num r.wide b p ∷ numbers_at rs b (p + r.wide)

-- a list of numbers as a table with these rows
abbrev pub table_by : List Row → List ℕ → List Field
table_by [] list = []
table_by (r ∷ rs) list = field r.wide (get_or list 0 0) ∷ table_by rs (drop 1 list)

-- 24 for the first number that is out of its range, in the order of the rows
abbrev pub field_checks : List Row → List ℕ → List Check
field_checks [] list = []
field_checks (r ∷ rs) list = check 24 (outside r.range (get_or list 0 0)) ∷ field_checks rs (drop 1 list)

-- ---- bodies
pub record Form : Type 0 where
  -- the rows that are always there
  pub front : List Row
  -- the index of the count among their fields, from 0
  pub counter : ℕ
  -- the rows that follow, repeated by the count
  pub rest : ℕ → List Row
  -- the checks of the count that come before that of the length
  pub early : ℕ → List Check

-- the rows of a body with the count n
abbrev pub rows_of : Form → ℕ → List Row
rows_of f n = f.front ++ f.rest n

-- the count, in the list of a body's numbers
abbrev pub count_of : Form → List ℕ → ℕ
count_of f list = get_or list f.counter 0

-- 23 for an absent count, the checks of the count, 23 for a wrong length, 24 for a field
abbrev pub form_checks : Form → Bool → Bool → List ℕ → List Check
form_checks f absent misfit list =
    check 23 absent ∷ f.early (count_of f list) ++ (check 23 misfit ∷ field_checks (rows_of f (count_of f list)) list)

-- ---- read: the count and all numbers of a body, its checks, and what it answers
abbrev pub count_in : Form → List ℕ → ℕ
count_in f body = count_of f (numbers_at f.front body 0)

abbrev pub numbers_in : Form → List ℕ → List ℕ
numbers_in f body = numbers_at (rows_of f (count_in f body)) body 0

abbrev pub body_checks : Form → List ℕ → List Check
body_checks f body =
    form_checks f (ltb (length body) (long (take (suc f.counter) f.front)))
    (not (eqb (length body) (long (rows_of f (count_in f body)))))
    (numbers_in f body)

abbrev pub read_by : Form → List ℕ → Answer (List ℕ)
read_by f body = rule (body_checks f body) (numbers_in f body)

-- ---- written: the checks of a list of numbers, the body that it makes, and what comes of it
abbrev pub list_checks : Form → List ℕ → List Check
list_checks f list =
    form_checks f (ltb (length list) (suc f.counter)) (not (eqb (length list) (length (rows_of f (count_of f list))))) list

abbrev pub body_by : Form → List ℕ → List ℕ
body_by f list = render (table_by (rows_of f (count_of f list)) list)

abbrev pub written_by : Form → List ℕ → List ℕ → Outcome (List ℕ) Bytes
written_by f list out = written (list_checks f list) (body_by f list) out
