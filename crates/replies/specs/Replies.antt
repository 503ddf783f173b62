-- What a call was answered, as the answer to a line.
use Rattle.account.specs.Forms.{form_of}
use Rattle.answers.specs.declared.answer.Answer.{Answer}
use Rattle.answers.specs.declared.answer.Answer.TheVariants as answer
use Rattle.answers.specs.declared.answer.BillFigures.{BillFigures}
use Rattle.cabinet.specs.declared.bill.Bill.{Bill}
use Rattle.law.specs.Transcript.{Reply, posted, done, billed, shown, vacant, refusal}

-- a bill by its numbers
abbrev pub bill_figures : Bill → BillFigures
bill_figures b = record {
  code = b.code;
  months = b.months;
  day = b.day;
  night = b.night;
  fixed = b.parts.0;
  energy = b.parts.1;
  cents = b.cents;
}

-- a shown account is answered by its numbers
abbrev pub reply_answer : Reply → Answer
reply_answer (posted month ne) = answer.Posted month ne
reply_answer done = answer.Done
reply_answer (billed b) = answer.Bill (bill_figures b)
reply_answer (shown t) = answer.Account (form_of t)
reply_answer vacant = answer.Vacant
reply_answer (refusal r) = answer.Refused r
