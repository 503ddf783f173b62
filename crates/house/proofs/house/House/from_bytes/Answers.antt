use Rattle.std.proofs.Common.{◌≡◌, ◌+◌, ◌-◌, ◌*◌, [], ◌∷◌, ◌++◌, length, take, drop, Ok, Err, sym, ap, ◌∙◌, subst, arith, Some, None}
use Rattle.std.proofs.lemmas.List.{take_rest, length-drop, drop-drop}
use Rattle.std.proofs.lemmas.Result.{err_from_is_err_and}
use Rattle.house.specs.Reading.{EntryRoom, read_on, read_of, IsWriting}
use Rattle.house.specs.Houses.{lines_of, lines_made}
use Rattle.house.proofs.Accepted.{read-written}
use Rattle.house.proofs.Turns.{turned}
use Rattle.house.proofs.house.House.from_bytes.Goals as goal

pub loop-line-init : goal.loop-line-init
unfolding read_of
loop-line-init c =
    let h = c.new-house.result in
    let b = c.args.bytes.now in (
      omega arith,
      sym (ap (λ n. read_on (9 - n) (lines_of h) (drop (21 * n) b)) c.new-house.ensures.count ∙ ap (λ ls. read_on 9 ls b) c.new-house.ensures.lines),
    )

pub returns-in_err-line : goal.returns-in_err-line
returns-in_err-line c =
    let p = err_from_is_err_and c.from_residual.result c.from_residual.ensures.1 in
    let f = c.in_err-line.field-0.0 in
    let e : read_of c.args.bytes.now ≡ Err f = c.loop-line.invariant.1 ∙ turned c.args.bytes.now c.loop-line.house (Err f) c.in_err-line.ensures.value in
    let v : lines_made c.from_residual.result ≡ read_of c.args.bytes.now = ap lines_made p.1 ∙ ap Err p.2 ∙ sym e in
    record { value = v; writing = subst (IsWriting c.args.bytes.now) (sym v) (read-written c.args.bytes.now (λ i. (c.type_inv.bytes i).fits)) }

pub loop-line-preserved : goal.loop-line-preserved
loop-line-preserved c =
    let b = c.args.bytes.now in
    let h = c.loop-line.house in
    let l = c.in-Some.line in
    let left = take (length b - 21 * h.count) (drop (21 * h.count) b) in
    let v = c.in_ok-line.ensures.value in
    let room : EntryRoom h.count left (Ok (Some l)) = subst (λ e. EntryRoom h.count left (Ok e)) c.in-Some.is c.in_ok-line.ensures.room in
    let t = turned b h (Ok (Some l)) (ap Ok (sym c.in-Some.is) ∙ v) in
    let more = c.push.ensures.count in
    let d : length left ≡ length b - 21 * h.count = ap length (take_rest b (21 * h.count)) ∙ length-drop (21 * h.count) b in
    let i : 8 - h.count ≡ 9 - c.push.new.self.count = omega arith in
    let j : 21 * h.count + 21 ≡ 21 * c.push.new.self.count = omega arith in (
      omega arith,
      c.loop-line.invariant.1 ∙ t ∙ ap (λ k. read_on k (lines_of h ++ l ∷ []) (drop 21 (drop (21 * h.count) b))) i
          ∙ ap (λ ls. read_on (9 - c.push.new.self.count) ls (drop 21 (drop (21 * h.count) b))) (sym c.push.ensures.lines)
          ∙ ap (λ bs. read_on (9 - c.push.new.self.count) (lines_of c.push.new.self) bs) (drop-drop 21 (21 * h.count) b ∙ ap (λ k. drop k b) j),
    )

pub returns : goal.returns
returns c =
    let e : Ok (lines_of c.loop-line.house) ≡ read_of c.args.bytes.now =
    sym (c.loop-line.invariant.1 ∙ turned c.args.bytes.now c.loop-line.house (Ok None) (ap Ok (sym c.in_default.is) ∙ c.in_ok-line.ensures.value)) in
    record { value = e; writing = subst (IsWriting c.args.bytes.now) (sym e) (read-written c.args.bytes.now (λ i. (c.type_inv.bytes i).fits)) }
