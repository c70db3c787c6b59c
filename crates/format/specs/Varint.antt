-- Varints.
-- Assumes nothing.
use Rattle.std.specs.Prelude.{ℕ, zero, suc, ◌+◌, ◌-◌, ◌*◌, ◌/◌, ◌%◌, List, [], ◌∷◌, ltb, leb}
use Rattle.format.specs.Base.{pick, Out, ok, refuse, map_out, need, place_of}

-- 01, Difference lists: "A varint is base 128, low part first, at most five bytes, value below 4,294,967,296, in its shortest form."
-- varint-within more n: the bytes of n, where at most `more` follow the first; varint-limit more: n is below it.
unfoldable pub varint_limit : ℕ → ℕ
varint_limit zero = 16
varint_limit (suc more) = 128 * varint_limit more

unfoldable pub varint_within : ℕ → ℕ → List ℕ
varint_within zero n = n ∷ []
varint_within (suc more) n = pick (ltb n 128) (n ∷ []) ((128 + n % 128) ∷ varint_within more (n / 128))

abbrev pub varint_bytes : ℕ → List ℕ
varint_bytes n = varint_within 4 n

-- 01: "Five bytes that all have the top bit set are malformed (15), even at the record's end; fewer such bytes, cut by the record's end, are 12."
-- The varint starts at `first`. Its last byte is at least `least`: 0 where it is the first byte too, else 1 ("in its shortest form").
unfoldable pub read_varint_within : ℕ → ℕ → ℕ → ℕ → List ℕ → Out ℕ
read_varint_within end first zero least [] = refuse 12 end
read_varint_within end first (suc more) least [] = refuse 12 end
read_varint_within end first zero least (b ∷ bs) = need (ltb b 16) 15 first (need (leb least b) 15 first (ok b bs))
read_varint_within end first (suc more) least (b ∷ bs) =
    pick (ltb b 128)
    (need (leb least b) 15 first (ok b bs))
    (map_out (λ (n : ℕ). 128 * n + (b - 128)) (read_varint_within end first more 1 bs))

abbrev pub read_varint : ℕ → List ℕ → Out ℕ
read_varint end bs = read_varint_within end (place_of end bs) 4 0 bs
