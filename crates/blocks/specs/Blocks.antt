-- Memory as blocks of one width, one behind the other.
use Rattle.std.specs.Prelude.{ℕ, ◌+◌, ◌*◌, ◌<◌, List, ◌++◌, take, drop, slice_index}

-- the w bytes from `start` on
abbrev pub bytes_at : ℕ → ℕ → List ℕ → List ℕ
bytes_at start w bytes = take w (drop start bytes)

-- the memory with e in place of the w bytes from `start` on
abbrev pub with_bytes : ℕ → ℕ → List ℕ → List ℕ → List ℕ
with_bytes start w e bytes = take start bytes ++ (e ++ drop (start + w) bytes)

-- the i-th block of width w
abbrev pub block : ℕ → ℕ → List ℕ → List ℕ
block w i bytes = bytes_at (w * i) w bytes

-- the memory with e in place of its i-th block
abbrev pub with_block : ℕ → ℕ → List ℕ → List ℕ → List ℕ
with_block w i e bytes = with_bytes (w * i) w e bytes

-- every value is a byte
abbrev pub Bytes : List ℕ → Type 0
Bytes xs = (k : ℕ) → slice_index xs k < 256
