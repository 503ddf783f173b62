use Rattle.std.proofs.Common.{append_assoc, w64, SFits, rules}
use Rattle.std.proofs.lemmas.Int.{to_z-of_z}
use Rattle.row.specs.Rows.{row_of}
use Rattle.row.proofs.encoding.encode.Goals as goal

pub returns : goal.returns
unfolding row_of
returns c =
    let f : SFits w64 c.args.account.now.balance = search rules in
    let t = to_z-of_z w64 c.args.account.now.balance f in
    simp (c.finish.ensures, c.put_all-2.ensures.text, c.put_balance.ensures.text, c.put_words-2.ensures.text, c.put_words.ensures.text, c.put_all.ensures.text, c.put_kinds.ensures.text, c.put_head.ensures.text, c.new-row.ensures.text, c.to_be_bytes.ensures, append_assoc, t)
