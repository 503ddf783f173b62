-- How many months are posted, and one month more.
use Rattle.std.proofs.Common.{◌≡◌, ℕ, ◌<◌, List, [], ◌∷◌, ◌++◌, map, length, get_or, vec_items, vec_len, sym, ap, ◌∙◌, arith}
use Rattle.std.proofs.lemmas.List.{length-map, map-append, get_or-map}
use Rattle.figures.specs.declared.month.Month.{Month}
use Rattle.figures.specs.Figures.{month_figures}
use Rattle.months.specs.declared.kept.Months.{Months}
use Rattle.months.specs.Posted.{posted_of}

pub count-posted : (m : Months) → length (posted_of m) ≡ vec_len m.posted
count-posted m = length-map (vec_items m.posted) month_figures ∙ sym m.posted.ok.0

pub posted-more : (months : List Month) (month : Month) → map month_figures (months ++ month ∷ []) ≡ map month_figures months ++ month_figures month ∷ []
posted-more months month = map-append month_figures months (month ∷ [])

-- the figures of a month that is posted
pub posted-at : (m : Months) (k : ℕ) (month : Month) → k < vec_len m.posted → month ≡ get_or (vec_items m.posted) k month → get_or (posted_of m) k (0, 0) ≡ month_figures month
posted-at m k month h e =
    let long : k < length (vec_items m.posted) = omega (arith, m.posted.ok.0) in
    get_or-map month_figures (vec_items m.posted) k month (0, 0) long ∙ ap month_figures (sym e)
