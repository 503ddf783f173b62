-- What a line asks for where the pricing lines alone are known.
use Rattle.std.specs.Prelude.{List, ℕ}
use Rattle.std.specs.Borrow.{Bor}
use Rattle.scriptlines.specs.declared.line.Line.{Line}
use Rattle.scriptlines.specs.declared.line.Line.TheVariants as line
use Rattle.pricelines.specs.declared.line.PricingLine.{PricingLine}
use Rattle.pricelines.specs.declared.line.PricingLine.TheVariants.{Silent, Unreadable, Rating, House, Price, Choose}

-- a pricing line with the bytes that it holds
abbrev pub told : PricingLine (Bor (List ℕ)) → PricingLine (List ℕ)
told Silent = Silent
told Unreadable = Unreadable
told (Rating network ampere) = Rating network ampere
told (House text) = House text.now
told (Price sheet code facts) = Price sheet code facts
told (Choose sheet facts) = Choose sheet facts

-- a pricing line is itself, a silent line is silent, and every line of another form is unreadable
abbrev pub pricing_of : Line (List ℕ) → PricingLine (List ℕ)
pricing_of line.Silent = Silent
pricing_of line.Unreadable = Unreadable
pricing_of (line.Rating network ampere) = Rating network ampere
pricing_of (line.House text) = House text
pricing_of (line.Price sheet code facts) = Price sheet code facts
pricing_of (line.Choose sheet facts) = Choose sheet facts
pricing_of (line.Board form) = Unreadable
pricing_of (line.Call call) = Unreadable
pricing_of (line.Row number) = Unreadable
pricing_of (line.Store number text) = Unreadable
pricing_of (line.Clear number) = Unreadable

-- the line of a script that a pricing line is
abbrev pub line_as : PricingLine (List ℕ) → Line (List ℕ)
line_as Silent = line.Silent
line_as Unreadable = line.Unreadable
line_as (Rating network ampere) = line.Rating network ampere
line_as (House text) = line.House text
line_as (Price sheet code facts) = line.Price sheet code facts
line_as (Choose sheet facts) = line.Choose sheet facts
