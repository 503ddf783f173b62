-- What reading a sheet's bytes answers.
use Rattle.std.specs.Prelude.{◌≡◌, ℕ, zero, suc, ◌+◌, ◌*◌, ◌<◌, ◌≤◌, Bool, true, cond, ◌&&◌, List, [], ◌∷◌, ◌++◌, length, drop, Ok, Err, Result, ◌==◌, ◌≢◌, nat_le, slice_index, Some, None, Option}
use Rattle.pricing.specs.declared.rate.UnitRate.{UnitRate}
use Rattle.house.specs.declared.line.Line.{Line}
use Rattle.house.specs.declared.line.SheetFault.{SheetFault}
use Rattle.house.specs.declared.line.SheetFault.TheVariants.{CutShort, UnknownField, MissingEnd, BytesBehind, ValueTooHigh, NoLine, NinthLine}
use Rattle.house.specs.Fields.{size_of, cut_short, content_of}
use Rattle.house.specs.Lines.{line_fits, SheetLines}
use Rattle.house.specs.Writing.{written}

-- the number in two bytes, and in four, from the place i on
abbrev pub at16 : List ℕ → ℕ → ℕ
at16 bs i = slice_index bs i * 256 + slice_index bs (i + 1)

abbrev pub at32 : List ℕ → ℕ → ℕ
at32 bs i = slice_index bs i * 16777216 + slice_index bs (i + 1) * 65536 + slice_index bs (i + 2) * 256 + slice_index bs (i + 3)

abbrev pub rate_in : List ℕ → ℕ → UnitRate
rate_in bs i = record { ne = at16 bs i; nc = at16 bs (i + 2) }

-- the line in a content of eighteen bytes
abbrev pub line_in : List ℕ → Line
line_in bs = record {
  charge = at32 bs 0;
  charge_a_tenth = at16 bs 4;
  free_tenths = at16 bs 6;
  least_power = at16 bs 8;
  day = rate_in bs 10;
  night = rate_in bs 14;
}

-- the plan of a line, whose field begins at the byte `at`, if its values are within their limits
abbrev pub plan_of : ℕ → Line → Result (Option Line) SheetFault
plan_of at l = cond (line_fits l) (Ok (Some l)) (Err (ValueTooHigh at))

-- the field at the front is one of this tag and length
abbrev pub is_field : ℕ → ℕ → List ℕ → Bool
is_field tag size bs = slice_index bs 0 == tag && size_of bs == size

-- what the field at the front of bs says, n lines before it, which begins at the byte `at`
abbrev pub entry_of : ℕ → ℕ → List ℕ → Result (Option Line) SheetFault
entry_of n at bs =
    cond (length bs == 0) (Err (MissingEnd at))
    (cond (slice_index bs 0 == 1 && nat_le 8 n) (Err (NinthLine at))
    (cond (cut_short bs) (Err (CutShort at))
    (cond (is_field 1 18 bs) (plan_of at (line_in (content_of bs)))
    (cond (is_field 127 0 bs)
    (cond (length bs == 3) (cond (n == 0) (Err (NoLine at)) (Ok None)) (Err (BytesBehind (at + 3))))
    (Err (UnknownField at))))))

-- a plan leaves room for itself: it is one of eight, within its limits, and its field lies within the bytes
abbrev pub EntryRoom : ℕ → List ℕ → Result (Option Line) SheetFault → Type 0
EntryRoom n bs (Ok (Some l)) = (n < 8) × (21 ≤ length bs) × (line_fits l ≡ true)
EntryRoom n bs (Ok None) = Unit {0}
EntryRoom n bs (Err f) = Unit {0}

-- reading on behind the lines ls, each of 21 bytes, through at most so many fields: the ninth is refused or the end
unfoldable pub read_on : ℕ → List Line → List ℕ → Result (List Line) SheetFault
read_on zero ls bs = Err (NinthLine (21 * length ls))
read_on (suc fields) ls bs =
    elim (entry_of (length ls) (21 * length ls) bs)
    [ Ok e ↦ elim e [ Some l ↦ read_on fields (ls ++ l ∷ []) (drop 21 bs) | None ↦ Ok ls ] | Err f ↦ Err f ]

-- the lines that the bytes are, or why they are none
unfoldable pub read_of : List ℕ → Result (List Line) SheetFault
read_of bs = read_on 9 [] bs

-- what a reading says, and the lines that stand after it
abbrev pub reading_answer : Result (List Line) SheetFault → Result Unit SheetFault
reading_answer (Ok ls) = Ok tt
reading_answer (Err f) = Err f

abbrev pub reading_after : Result (List Line) SheetFault → List Line → List Line
reading_after (Ok ls) before = ls
reading_after (Err f) before = before

-- the bytes are the writing of these lines of a sheet; or of no sheet's lines
abbrev pub IsWriting : List ℕ → Result (List Line) SheetFault → Type 0
IsWriting bs (Ok ls) = SheetLines ls × (bs ≡ written ls)
IsWriting bs (Err f) = (ls : List Line) → SheetLines ls → bs ≢ written ls

-- done exactly where the bytes are the writing of a sheet's lines: those then stand; else the lines stay as they were
abbrev pub Faithful : List ℕ → List Line → List Line → Result Unit SheetFault → Type 0
Faithful bs before after (Ok u) = SheetLines after × (bs ≡ written after)
Faithful bs before after (Err f) = (after ≡ before) × ((ls : List Line) → SheetLines ls → bs ≢ written ls)
