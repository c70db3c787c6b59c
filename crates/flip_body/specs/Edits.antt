-- The flip of a record's body in its own bytes, for any bytes: edits at places that do not depend on what is flipped, and none where they do not fit.
-- Assumes nothing.
use Rattle.std.specs.Prelude.{ℕ, zero, suc, ◌+◌, ◌-◌, ◌*◌, ◌/◌, Bool, true, false, List, ◌++◌, length, get_or, take, drop, set, leb, Option, Some, None}
use Rattle.format.specs.declared.Pair.{Pair}
use Rattle.format.specs.Base.{pick, Out, ok, refused}
use Rattle.format.specs.Varint.{read_varint}
use Rattle.format.specs.Difflist.{groups, number_width}
use Rattle.format.specs.PairCode.{found}
use Rattle.format.specs.Body.{kind_of, type_leans}
use Rattle.format.specs.File.{next_anchor}
use Rattle.flip_bytes.specs.Changed.{values_exchanged, bits_complemented}

-- L values from p on, exchanged if they fit
unfoldable pub values_flipped : ℕ → ℕ → List ℕ → List ℕ
values_flipped p L s = pick (leb (p + (L + 3) / 4) (length s)) (values_exchanged p L s) s

-- 01, Difference lists: "the first sample number of each group (1 byte if N is at most 256, else 2); G − 1 size bytes": the bytes from the count to the values
abbrev pub before_values : ℕ → ℕ → ℕ
before_values N L = number_width N * groups L + (groups L - 1)

abbrev pub count_read : ℕ → List ℕ → Out ℕ → List ℕ
count_read N s (ok L left) = pick (leb L N) (values_flipped (length s - length left + before_values N L) L s) s
count_read N s (refused why) = s

-- a list: only its values change
unfoldable pub list_flipped : ℕ → List ℕ → List ℕ
list_flipped N s = count_read N s (read_varint (length s) s)

abbrev pub list_flipped_at : ℕ → ℕ → List ℕ → List ℕ
list_flipped_at at N s = take at s ++ list_flipped N (drop at s)

abbrev pub bits_turned : Bool → ℕ → List ℕ → List ℕ
bits_turned true N s = bits_complemented 1 N s
bits_turned false N s = s

-- 01, Categories and kinds: "Kind 1: a pair code, a bit per sample (set: the higher category of the pair), then a list". The code becomes its image, and the
-- bits are complemented where that turns the pair's order.
abbrev pub list_place : ℕ → ℕ
list_place N = 1 + (N + 7) / 8

abbrev pub pair_flipped_as : Option Pair → ℕ → List ℕ → List ℕ
pair_flipped_as (Some p) N s = list_flipped_at (list_place N) N (bits_turned p.turns N (set s 0 p.image))
pair_flipped_as None N s = s

unfoldable pub pair_flipped : ℕ → List ℕ → List ℕ
pair_flipped N s = pick (leb (list_place N) (length s)) (pair_flipped_as (found (get_or s 0 0)) N s) s

-- a body of the kind: its categories, its pair, its list
abbrev pub kind_flipped : ℕ → ℕ → List ℕ → List ℕ
kind_flipped N zero s = values_flipped 0 N s
kind_flipped N (suc zero) s = pair_flipped N s
kind_flipped N (suc (suc kind)) s = list_flipped N s

-- 01, Flipping: "A leaning record's treatment depends both on its own membership and on its anchor's." The body's bytes see one of the two: the anchor's if
-- the record leans, else its own.
unfoldable pub body_flipped : ℕ → ℕ → Bool → Bool → List ℕ → List ℕ
body_flipped N type lent member s = pick (next_anchor (type_leans type) lent member) (kind_flipped N (kind_of type) s) s

-- the body that stands from start to end in a file; all else stays
abbrev pub flipped_in : ℕ → ℕ → ℕ → ℕ → Bool → Bool → List ℕ → List ℕ
flipped_in start end N type lent member file =
    take start file ++ (body_flipped N type lent member (take (end - start) (drop start file)) ++ drop end file)
