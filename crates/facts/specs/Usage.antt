-- Profiles and facts as plain figures, which definitions of prices go by.
use Rattle.std.specs.Prelude.{◌≡◌, ℕ, true, List}
use Rattle.facts.specs.declared.kind.Class.{Class}
use Rattle.facts.specs.declared.kind.Kind.{Kind}
use Rattle.facts.specs.declared.kind.Marks.{Marks}
use Rattle.facts.specs.declared.profile.Profile.{Profile}
use Rattle.facts.specs.declared.facts.Facts.{Facts}
use Rattle.facts.specs.Limits.{Powers, may_have, KwhLimits, Period}

-- a dwelling: the plain figures of a profile
pub record Dwelling : Type 0 where
  pub class : Class
  pub marks : Marks
  pub power : ℕ
  pub exempt : ℕ
  pub kinds : List Kind

-- a usage: the plain figures of a period's facts
pub record Usage : Type 0 where
  pub dwelling : Dwelling
  pub day : List ℕ
  pub night : List ℕ
  pub months : ℕ
  pub ne : ℕ
  pub nc : ℕ

-- the limits that facts keep
abbrev pub Within : Usage → Type 0
Within u =
    Powers u.dwelling.power u.dwelling.exempt × (may_have u.dwelling.class u.dwelling.marks ≡ true)
    × KwhLimits 6 u.dwelling.kinds u.day × KwhLimits 6 u.dwelling.kinds u.night × Period u.months u.ne u.nc

abbrev pub dwelling_of : Profile → Dwelling
dwelling_of p = record { class = p.class; marks = p.marks; power = p.power; exempt = p.exempt; kinds = p.kinds }

abbrev pub usage_of : Facts → Usage
usage_of f = record {
  dwelling = dwelling_of f.profile;
  day = f.day;
  night = f.night;
  months = f.months;
  ne = f.ne.0;
  nc = f.nc.0;
}
