-- The refusals of bytes that are not a house sheet.
use Rattle.refusal.specs.declared.Refusal.{Refusal}
use Rattle.refusal.specs.declared.Layer.TheVariants.{Sheet}
use Rattle.refusal.specs.Refusals.{refused}
use Rattle.house.specs.declared.line.SheetFault.{SheetFault}
use Rattle.house.specs.declared.line.SheetFault.TheVariants.{CutShort, UnknownField, MissingEnd, BytesBehind, ValueTooHigh, NoLine, NinthLine}

-- number, layer and place
abbrev pub sheet_refusal : SheetFault → Refusal
sheet_refusal (CutShort at) = refused 18 Sheet at
sheet_refusal (UnknownField at) = refused 18 Sheet at
sheet_refusal (MissingEnd at) = refused 18 Sheet at
sheet_refusal (BytesBehind at) = refused 18 Sheet at
sheet_refusal (ValueTooHigh at) = refused 19 Sheet at
sheet_refusal (NoLine at) = refused 20 Sheet at
sheet_refusal (NinthLine at) = refused 20 Sheet at
