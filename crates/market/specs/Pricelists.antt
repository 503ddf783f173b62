-- The price list that an estate makes for itself each year.
use Rattle.std.specs.Prelude.{ℕ, ◌+◌, List, [], ◌∷◌}
use Rattle.chance.specs.Drawn.{drawn_below}
use Rattle.house.specs.declared.line.Line.{Line}

-- a plan for everybody
abbrev pub home_line : ℕ → Line
home_line lot = record {
  charge = 8000 + drawn_below lot 0 8001;
  charge_a_tenth = 300 + drawn_below lot 1 101;
  free_tenths = 100;
  least_power = 0;
  day = record { ne = 7600 + drawn_below lot 2 1001; nc = 1600 + drawn_below lot 3 201 };
  night = record { ne = 3300 + drawn_below lot 4 601; nc = 1300 + drawn_below lot 5 201 };
}

-- a plan for 20 kVA and more
abbrev pub large_line : ℕ → Line
large_line lot = record {
  charge = 60000 + drawn_below lot 6 30001;
  charge_a_tenth = 500 + drawn_below lot 7 501;
  free_tenths = 100;
  least_power = 200;
  day = record { ne = 5200 + drawn_below lot 8 801; nc = 1698 };
  night = record { ne = 2500 + drawn_below lot 9 601; nc = 1396 };
}

unfoldable pub price_lines : ℕ → List Line
price_lines lot = home_line lot ∷ large_line lot ∷ []
