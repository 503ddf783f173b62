-- The numbers of the refusals of accounts and rows.
use Rattle.std.specs.Prelude.{ℕ}
use Rattle.account.specs.declared.fault.AccountFault.{AccountFault}
use Rattle.account.specs.declared.fault.AccountFault.TheVariants.{NotVacant, OutsideRules, Vacant, IndexOutside, TooManyKwh, NotReady, PeriodOutside, PaymentOutside, BalanceOutside, NotClosable, BrokenRow}

abbrev pub fault_number : AccountFault → ℕ
fault_number NotVacant = 4
fault_number OutsideRules = 5
fault_number Vacant = 7
fault_number IndexOutside = 8
fault_number TooManyKwh = 9
fault_number NotReady = 10
fault_number PeriodOutside = 11
fault_number PaymentOutside = 14
fault_number BalanceOutside = 15
fault_number NotClosable = 16
fault_number BrokenRow = 17
