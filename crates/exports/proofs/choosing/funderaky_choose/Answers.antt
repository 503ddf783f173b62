use Rattle.std.proofs.Common.{ap, ◌∙◌}
use Rattle.facts.specs.Forms.{facts_made}
use Rattle.exports.specs.Crossing.{facts_form}
use Rattle.exports.specs.Sheets.{name_at, tariff_handed}
use Rattle.exports.specs.Statuses.{plan_status, plan_place}
use Rattle.exports.proofs.Chosen.{told}
use Rattle.exports.proofs.choosing.funderaky_choose.Goals as goal

pub returns : goal.returns
returns c =
    let s = c.hand_back.ensures.status ∙ ap plan_status c.cheapest.ensures in
    let p = c.hand_back.ensures.place ∙ ap (λ found. plan_place found c.args.plan.now) c.cheapest.ensures in
    record {
      status = s;
      place = p;
      cheapest = told (tariff_handed (name_at c.args.sheet) c.args.house.now) (facts_made (facts_form c.args.facts.now)) c.args.plan.now _ _ s p;
    }
