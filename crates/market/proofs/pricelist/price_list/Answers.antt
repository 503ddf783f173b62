use Rattle.std.proofs.Common.{◌≡◌, ℕ, List, ◌++◌, vec_items, ap, ◌∙◌}
use Rattle.house.specs.Writing.{line_bytes, end_bytes}
use Rattle.market.specs.Pricelists.{home_line, large_line, price_lines}
use Rattle.market.proofs.pricelist.price_list.Goals as goal

pub returns : goal.returns
unfolding price_lines
returns c =
    let lot = c.args.lot.seed in
    let home : c.line_bytes.result ≡ line_bytes (home_line lot) = c.line_bytes.ensures ∙ ap line_bytes c.home_line.ensures in
    let large : c.line_bytes-2.result ≡ line_bytes (large_line lot) = c.line_bytes-2.ensures ∙ ap line_bytes c.large_line.ensures in
    let first : vec_items c.extend_from_slice.new.self ≡ line_bytes (home_line lot) =
    c.in_ok-extend_from_slice.ensures.items ∙ ap (λ (xs : List ℕ). xs ++ c.line_bytes.result) c.new-bytes.ensures.items ∙ home in
    let both : vec_items c.extend_from_slice-2.new.self ≡ line_bytes (home_line lot) ++ line_bytes (large_line lot) =
    c.in_ok-extend_from_slice-2.ensures.items ∙ ap (λ (xs : List ℕ). xs ++ c.line_bytes-2.result) first ∙ ap (λ (xs : List ℕ). line_bytes (home_line lot) ++ xs) large in
    c.in_ok-extend_from_slice-3.ensures.items ∙ ap (λ (xs : List ℕ). xs ++ end_bytes) both
