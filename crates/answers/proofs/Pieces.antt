-- A list that is written element by element.
use Rattle.std.proofs.Common.{ℕ, ◌+◌, ◌<◌, ◌≤◌, List, [], ◌++◌, length, get_or, take, sym, ap, ◌∙◌}
use Rattle.std.specs.declared.fmt.Formatter.{Formatter}
use Rattle.std.specs.Fmt.{IsPlainFormatter, HasWritten}
use Rattle.std.specs.List.{flat_map}
use Rattle.std.proofs.lemmas.List.{flat_map_more, take_more, take_all}
use Rattle.std.proofs.Output.{writes_in_calls_nil, has_written_append, has_written_of_eq}

module _ {W : Type 0} (took : W → List ℕ → W → Type 0) where
  pub put-none : (f : Formatter W) → IsPlainFormatter f → HasWritten took f [] f
  put-none f plain = record { wrote = writes_in_calls_nil took f.writer; plain = plain }

  module _ (text : ℕ → List ℕ) (xs : List ℕ) (i : ℕ) (start end : Formatter W) where
    -- one element more
    pub put_next : (after : Formatter W) → i < length xs → HasWritten took start (flat_map text (take i xs)) end → HasWritten took end (text (get_or xs i 0)) after
        → HasWritten took start (flat_map text (take (i + 1) xs)) after
    put_next after h p q =
        has_written_of_eq took start (flat_map text (take i xs) ++ text (get_or xs i 0)) (flat_map text (take (i + 1) xs)) after
        (flat_map_more text [] (take i xs) (get_or xs i 0) ∙ ap (flat_map text) (sym (take_more xs i 0 h)))
        (has_written_append took start (flat_map text (take i xs)) end (text (get_or xs i 0)) after p q)

    -- all of them
    pub put_all : length xs ≤ i → HasWritten took start (flat_map text (take i xs)) end → HasWritten took start (flat_map text xs) end
    put_all h p = has_written_of_eq took start (flat_map text (take i xs)) (flat_map text xs) end (ap (flat_map text) (take_all i xs h)) p
