use Rattle.std.proofs.Common.{◌≡◌, ℕ, List, [], ◌∷◌, ◌++◌, append_assoc, rules}
use Rattle.row.specs.Written.{written}
use Rattle.row.proofs.writer.Writer.put_head.Goals as goal

-- three bytes and two lists of them, one behind the other
five : (w : List ℕ) {w1 w2 w3 w4 w5 p x p' x' : List ℕ} {a b c a' b' c' : ℕ} → a ≡ a' → b ≡ b' → c ≡ c' → p ≡ p' → x ≡ x' → w1 ≡ w ++ a ∷ [] → w2 ≡ w1 ++ b ∷ [] → w3 ≡ w2 ++ c ∷ [] → w4 ≡ w3 ++ p → w5 ≡ w4 ++ x → w5 ≡ w ++ (a' ∷ b' ∷ c' ∷ (p' ++ x'))
five w ea eb ec ep ex e1 e2 e3 e4 e5 = simp (e5, e4, e3, e2, e1, ea, eb, ec, ep, ex, append_assoc)

pub returns : goal.returns
returns c = record {
  text = five (written c.args.self.now) c.into.ensures c.into-2.ensures c.into-3.ensures c.to_be_bytes.ensures c.to_be_bytes-2.ensures c.put.ensures.text c.put-2.ensures.text c.put-3.ensures.text c.put_all.ensures.text c.put_all-2.ensures.text;
  at = search rules;
}
