-- The refusals of the ledger.
use Rattle.refusal.specs.declared.Refusal.{Refusal}
use Rattle.refusal.specs.declared.Layer.TheVariants.{Ledger}
use Rattle.refusal.specs.Refusals.{refused}
use Rattle.board.specs.Faults.{board_refusal}
use Rattle.account.specs.Faults.{fault_number}
use Rattle.ledger.specs.declared.fault.LedgerFault.{LedgerFault}
use Rattle.ledger.specs.declared.fault.LedgerFault.TheVariants.{Board, Account}

-- a board's refusal comes up whole; an account's names the account
abbrev pub ledger_refusal : LedgerFault → Refusal
ledger_refusal (Board f) = board_refusal f
ledger_refusal (Account n f) = refused (fault_number f) Ledger n
