-- The theorems that specs/Theorems.antt states. Assumes nothing.
use Rattle.salvage_spec.specs.Theorems.{AccountedOnce, ByAccount, Undamaged, Again, RefusedInOrder, InAll, RunsApart, MostRuns, MostKept, ByWindow, NextExactly}
use Rattle.salvage_spec.proofs.NextLaws.{next-at}
use Rattle.salvage_spec.proofs.RunLaws.{apart_all, runs_few, long_all_lem, kept_most}
use Rattle.salvage_spec.proofs.AccountLaws.{salvage_told}
use Rattle.salvage_spec.proofs.OneAccount.{one_account}
use Rattle.salvage_spec.proofs.Undamaged.{unchanged, unchanged_again}
use Rattle.salvage_spec.proofs.InTurn.{in_order}
use Rattle.salvage_spec.proofs.Window.{through}

-- ---- the account
pub accounted_once : AccountedOnce
accounted_once = one_account

pub by_account : ByAccount
by_account = salvage_told

pub undamaged : Undamaged
undamaged = unchanged

pub again : Again
again = unchanged_again

-- ---- two outputs
pub refused-in_order : RefusedInOrder
refused-in_order = in_order

-- ---- frames and runs
pub in_all : InAll
in_all = long_all_lem

pub runs_apart : RunsApart
runs_apart = apart_all

pub most_runs_lem : MostRuns
most_runs_lem = runs_few

pub most_kept : MostKept
most_kept = kept_most

-- ---- windows
pub by_window : ByWindow
by_window = through

pub next_exactly : NextExactly
next_exactly = next-at
