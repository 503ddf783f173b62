use Rattle.std.proofs.Common.{◌≡◌, ◌*◌, ◌≤◌}
use Rattle.months.specs.Posted.{posted_of, ne_sum_of, nc_sum_of}
use Rattle.months.proofs.kept.Months.sums.Given as goal

abbrev pub invariant-loop-month : goal.invariant-loop-month
invariant-loop-month l =
    (l.ne ≡ ne_sum_of (posted_of l.self) l.first l.month-index) × (l.nc ≡ nc_sum_of (posted_of l.self) l.first l.month-index)
    × (l.ne ≤ 99999 * l.month-index) × (l.nc ≤ 99999 * l.month-index)
