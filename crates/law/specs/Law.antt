-- The law over every run of calls.
use Rattle.std.specs.Prelude.{◌≡◌, ℕ, ◌+◌, ◌<◌, ◌≤◌, true, List, [], ◌∷◌, length, Some, None, Ok, Option, slice_index}
use Rattle.std.specs.Option.{option_map}
use Rattle.common.specs.Counts.{sum_to}
use Rattle.facts.specs.Usage.{Usage}
use Rattle.sheet.specs.Tariff.{Tariff, price, cents_of}
use Rattle.board.specs.Meaning.{row_at}
use Rattle.account.specs.declared.hours.Hours.{Hours}
use Rattle.account.specs.Waiting.{waiting_in_all}
use Rattle.row.specs.Rows.{row_of, account_of}
use Rattle.cabinet.specs.declared.bill.Bill.{Bill}
use Rattle.cabinet.specs.Books.{Books}
use Rattle.law.specs.Transcript.{Call, posting, opening, reading, settling, paying, closing, showing, Reply, posted, done, billed, shown, vacant, refusal, Transcript, Reached}
use Rattle.law.specs.History.{Deed, reads, settles, pays, Opened, History, since, months_in, period_of, next_month, charged_in, read_in, billed_in, account_in, account_since}

-- the kWh of six circuits together
abbrev pub together : List ℕ → ℕ
together kwh = sum_to (λ c. slice_index kwh c) 6

-- a code that a sheet permits for a usage
abbrev pub Permits : Tariff → Usage → ℕ → Type 0
Permits sheet u code = (code < sheet.count) × (sheet.permitted code u ≡ true)

-- p is the least price before rounding of the codes that a sheet permits for a usage
pub record Least (sheet : Tariff) (u : Usage) (p : ℕ) : Type 0 where
  pub code : ℕ
  pub permitted : Permits sheet u code
  pub costs : price sheet u code ≡ p
  pub least : (k : ℕ) → Permits sheet u k → p ≤ price sheet u k

-- the bill of a settlement is right: its period has 1 to 12 months, all posted before; its plan is permitted by that sheet for the period's facts, its parts are that sheet's answer, every other permitted plan costs as much or more before rounding and every one of a lower code more; its cents are that price rounded once; its kWh are the facts'
pub record RightBill (sheet : Tariff) (u : Usage) (b : Bill) : Type 0 where
  pub some : 1 ≤ u.months
  pub most : u.months ≤ 12
  pub permitted : Permits sheet u b.code
  pub parts : b.parts ≡ sheet.parts b.code u
  pub least : (k : ℕ) → Permits sheet u k → price sheet u b.code ≤ price sheet u k
  pub lowest : (k : ℕ) → k < b.code → Permits sheet u k → price sheet u b.code < price sheet u k
  pub months : b.months ≡ u.months
  pub cents : b.cents ≡ cents_of (price sheet u b.code) u.months
  pub day : b.day ≡ together u.day
  pub night : b.night ≡ together u.night

-- every bill since the opening is right
abbrev pub RightBills : Opened → List Deed → Type 0
RightBills o [] = Unit {0}
RightBills o (reads new ∷ ds) = RightBills o ds
RightBills o (settles e sheet months b ∷ ds) =
    RightBill sheet (period_of o ds e months) b × (next_month o ds ≤ e) × (e < length months) × RightBills o ds
RightBills o (pays cents ∷ ds) = RightBills o ds

-- c is the sum of the settled periods' least prices, each rounded once to the cent
pub data LeastSum (o : Opened) : List Deed → ℕ → Type 0 where
  opened : LeastSum o [] 0
  read : {new : List ℕ} {ds : List Deed} {c : ℕ} → LeastSum o ds c → LeastSum o (reads new ∷ ds) c
  paid : {cents : ℕ} {ds : List Deed} {c : ℕ} → LeastSum o ds c → LeastSum o (pays cents ∷ ds) c
  settled : {e : ℕ} {sheet : Tariff} {months : List (ℕ × ℕ)} {b : Bill} {ds : List Deed} {c p : ℕ} → LeastSum o ds c → Least sheet (period_of o ds e months) p
      → LeastSum o (settles e sheet months b ∷ ds) (c + cents_of p (period_of o ds e months).months)

-- c is the sum of the settled periods' prices on some plans that their sheets permit, one a period, each rounded by the same rule
pub data PlanSum (o : Opened) : List Deed → ℕ → Type 0 where
  at-opening : PlanSum o [] 0
  over-reading : {new : List ℕ} {ds : List Deed} {c : ℕ} → PlanSum o ds c → PlanSum o (reads new ∷ ds) c
  over-payment : {cents : ℕ} {ds : List Deed} {c : ℕ} → PlanSum o ds c → PlanSum o (pays cents ∷ ds) c
  over-period : {e : ℕ} {sheet : Tariff} {months : List (ℕ × ℕ)} {b : Bill} {ds : List Deed} {c : ℕ} (code : ℕ) → PlanSum o ds c → Permits sheet (period_of o ds e months) code
      → PlanSum o (settles e sheet months b ∷ ds) (c + cents_of (price sheet (period_of o ds e months) code) (period_of o ds e months).months)

-- what holds of an open account
pub record Fair (o : Opened) (ds : List Deed) : Type 0 where
  -- what was charged is the sum of the least prices; the balance is that less the payments, by `account_in`
  pub charged : LeastSum o ds (charged_in ds)
  pub bills : RightBills o ds
  -- by day and by night, the kWh read are the kWh on the bills and the kWh waiting in the row
  pub kwh : (hours : Hours) → read_in hours o ds ≡ billed_in hours ds + waiting_in_all hours (account_in o ds)
  -- nobody was charged above any plans that they could have had
  pub never-above : (c : ℕ) → PlanSum o ds c → charged_in ds ≤ c
  -- the row that the account is written as is read again as this account
  pub row : account_of (row_of (account_in o ds)) ≡ Ok (account_in o ds)

-- a showing told what the history makes, and vacant exactly where there is none; it is refused for a number outside alone
abbrev pub TrueShowing : Option History → Reply → Type 0
TrueShowing h (shown t) = option_map account_since h ≡ Some t
TrueShowing h vacant = h ≡ None
TrueShowing h (refusal r) = r.number ≡ 3
TrueShowing h (posted month ne) = ⊥
TrueShowing h done = ⊥
TrueShowing h (billed b) = ⊥

-- the same of any call: only showings are looked at
abbrev pub Showed : Call → Reply → Transcript → Type 0
Showed (showing n) r t = TrueShowing (since n t) r
Showed (posting s mx nc) r t = Unit {0}
Showed (opening n form) r t = Unit {0}
Showed (reading n indices) r t = Unit {0}
Showed (settling n e sheet) r t = Unit {0}
Showed (paying n cents) r t = Unit {0}
Showed (closing n) r t = Unit {0}

abbrev pub TrueShowings : Transcript → Type 0
TrueShowings [] = Unit {0}
TrueShowings (x ∷ t) = Showed x.0 x.1 t × TrueShowings t

-- The law: after any transcript t of a new cabinet that ends in the books b,
pub record Law (t : Transcript) (b : Books) : Type 0 where
  -- the months are those posted;
  pub months : b.months ≡ months_in t
  -- each number has a row exactly if it is open, and that row is, byte for byte, the writing of the account that its history makes;
  pub rows : (n : ℕ) → row_at b.board n ≡ option_map (λ h. row_of (account_since h)) (since n t)
  -- each open account was treated fairly;
  pub fair : (n : ℕ) (h : History) → since n t ≡ Some h → Fair h.opened h.deeds
  -- and every showing told the account as it stood.
  pub showings : TrueShowings t

abbrev pub Law-stands : Type 0
Law-stands = (t : Transcript) (b : Books) → Reached t b → Law t b
