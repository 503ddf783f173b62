use Rattle.std.proofs.Common.{◌≡◌, ◌+◌, ◌<◌, [], ◌++◌, length, get_or, take, drop, sym, ap, ◌∙◌, arith}
use Rattle.std.specs.List.{flat_map}
use Rattle.std.proofs.lemmas.List.{take_more, take_all, take-append-drop, flat_map_more, drop-drop, length-take-le, length-append}
use Rattle.house.specs.Lines.{no_line}
use Rattle.house.specs.Writing.{line_bytes, end_bytes}
use Rattle.house.specs.Houses.{lines_of}
use Rattle.house.proofs.house.House.write.Goals as goal

pub loop-line-preserved : goal.loop-line-preserved
loop-line-preserved c =
    let ls = lines_of c.args.self.now in
    let i = c.loop-line.line-index in
    let at = c.loop-line.at in
    let was = c.loop-line.place in
    let now = c.put.new.place in
    let e = c.lines-line-items.ensures in
    let n : length c.line_bytes.result ≡ 21 = ap length c.line_bytes.ensures in
    let h : i < length ls = omega (arith, ap length e) in
    let l = c.line_bytes.ensures ∙ ap (λ xs. line_bytes (get_or xs i no_line)) e in (
      c.put.array_long,
      omega arith,
      ap (λ k. take (at + k) now) (sym n) ∙ c.put.ensures.front ∙ ap (λ t. t ++ c.line_bytes.result) c.loop-line.invariant.2
          ∙ ap (λ t. flat_map line_bytes (take i ls) ++ t) l ∙ flat_map_more line_bytes [] (take i ls) (get_or ls i no_line) ∙ ap (flat_map line_bytes) (sym (take_more ls i no_line h)),
      ap (λ k. drop (at + k) now) (sym n) ∙ c.put.ensures.rest ∙ ap (λ k. drop (at + k) was) n ∙ sym (drop-drop 21 at was)
          ∙ ap (drop 21) c.loop-line.invariant.3 ∙ drop-drop 21 at c.args.place.now,
    )

pub returns : goal.returns
returns c =
    let ls = lines_of c.args.self.now in
    let i = c.loop-line.line-index in
    let at = c.loop-line.at in
    let was = c.loop-line.place in
    let now = c.put-2.new.place in
    let e = c.lines-line-items.ensures in
    let h = c.args.self.now in
    let m = ap length e ∙ length-take-le h.count h.lines (omega arith) in
    let front : take at was ≡ flat_map line_bytes ls = c.loop-line.invariant.2 ∙ ap (flat_map line_bytes) (take_all i ls (omega (arith, ap length e))) in
    let n : length (flat_map line_bytes ls) ≡ at = ap length (sym front) ∙ length-take-le at was (omega arith) in
    let rest = c.put-2.ensures.rest ∙ sym (drop-drop 3 at was) ∙ ap (drop 3) c.loop-line.invariant.3 ∙ drop-drop 3 at c.args.place.now in
    record {
      count = sym (length-append (flat_map line_bytes ls) end_bytes ∙ ap (λ k. k + 3) n);
      bytes = sym (take-append-drop (at + 3) now) ∙ ap (λ t. t ++ drop (at + 3) now) (c.put-2.ensures.front ∙ ap (λ t. t ++ end_bytes) front)
          ∙ ap (λ t. (flat_map line_bytes ls ++ end_bytes) ++ t) rest;
    }
