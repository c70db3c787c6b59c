-- Packed arrays of numbers of one, two, four or eight bits: one definition for all four.
-- Assumes nothing.
use Rattle.std.specs.Prelude.{ℕ, zero, suc, ◌+◌, ◌-◌, ◌*◌, ◌/◌, ◌%◌, List, [], ◌∷◌, length, eqb}
use Rattle.format.specs.Base.{Out, ok, refuse, map_out, need}

pub data Bits : Type 0 where
  one two four eight : Bits

-- a number of so many bits is below `limit`; `more` such numbers follow the first of a byte
abbrev pub limit : Bits → ℕ
limit one = 2
limit two = 4
limit four = 16
limit eight = 256

abbrev pub more : Bits → ℕ
more one = 7
more two = 3
more four = 1
more eight = 0

-- 01, Categories and kinds: "Packed: two bits per sample, lowest sample in the lowest bits"; The header: "packed types (low nibble first)".
-- b is a limit, m what `more` is. byte_of: what a byte with so much room gets; packed-after: the bytes after one with so much room.
unfoldable pub byte_of : ℕ → ℕ → List ℕ → ℕ
byte_of b room [] = 0
byte_of b zero (v ∷ vs) = 0
byte_of b (suc room) (v ∷ vs) = byte_of b room vs * b + v

unfoldable pub packed_after : ℕ → ℕ → ℕ → List ℕ → List ℕ
packed_after b m room [] = []
packed_after b m zero (v ∷ vs) = (byte_of b m vs * b + v) ∷ packed_after b m m vs
packed_after b m (suc room) (v ∷ vs) = packed_after b m room vs

abbrev pub packed : Bits → List ℕ → List ℕ
packed bits vs = packed_after (limit bits) (more bits) 0 vs

-- how many bytes hold n numbers
abbrev pub packed_size : Bits → ℕ → ℕ
packed_size bits n = (n + more bits) / suc (more bits)

-- 01, Replies: "first that the part fits (12), then its rule"; The header: "Each packed array ends at a byte boundary, and its unused bits are zero" (18).
-- `room` numbers may still stand in `rest`, what is left of the byte before bs.
unfoldable pub read_packed_after : ℕ → ℕ → ℕ → ℕ → ℕ → ℕ → List ℕ → Out (List ℕ)
read_packed_after end b m room rest zero bs = need (eqb rest 0) 18 (end - suc (length bs)) (ok [] bs)
read_packed_after end b m zero rest (suc n) [] = refuse 12 end
read_packed_after end b m zero rest (suc n) (x ∷ bs) = map_out (◌∷◌ (x % b)) (read_packed_after end b m m (x / b) n bs)
read_packed_after end b m (suc room) rest (suc n) bs = map_out (◌∷◌ (rest % b)) (read_packed_after end b m room (rest / b) n bs)

abbrev pub read_packed : ℕ → Bits → ℕ → List ℕ → Out (List ℕ)
read_packed end bits n bs = read_packed_after end (limit bits) (more bits) 0 0 n bs
