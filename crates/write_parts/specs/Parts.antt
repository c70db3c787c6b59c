-- The parts of a list that are written entry by entry: heads, size bytes, steps.
-- Assumes nothing.
use Rattle.std.specs.Prelude.{◌≡◌, ℕ, zero, suc, ◌+◌, ◌-◌, ◌*◌, ◌≤◌, List, [], ◌∷◌, ◌++◌, length, eqb}
use Rattle.format.specs.Base.{pick}
use Rattle.format.specs.Varint.{varint_bytes}
use Rattle.format.specs.Numbers.{number_bytes}
use Rattle.format.specs.Difflist.{Entry}
use Rattle.write_bytes.specs.Written.{Wrote}
use Rattle.write_parts.specs.declared.Part.{Part}
use Rattle.write_parts.specs.declared.Part.TheVariants.{Heads, Sizes, Steps}
use Rattle.write_parts.specs.declared.Group.{Group}
use Rattle.write_parts.specs.declared.Moved.{Moved}

-- what a part has for the first entry of a group, and for another
-- 01, Difference lists: "the first sample number of each group"; "G − 1 size bytes, each 63 less than the byte size of its group's varints"
abbrev pub first_bytes : Part → ℕ → ℕ → ℕ → ℕ → List ℕ
first_bytes Heads width size begun sample = number_bytes width sample
first_bytes Sizes width size begun sample = pick (eqb begun 0) [] ((size - 63) ∷ [])
first_bytes Steps width size begun sample = []

-- 01: "L − G varints, each the step from the sample before it in its group"
abbrev pub step_bytes : Part → ℕ → List ℕ
step_bytes Heads step = []
step_bytes Sizes step = []
step_bytes Steps step = varint_bytes step

-- the part of the entries from here on: a head has `width` bytes, `room` entries are still to come in the group, `size` is the bytes of its varints so
-- far, `before` the sample before
unfoldable pub part_from : Part → ℕ → ℕ → ℕ → ℕ → ℕ → List Entry → List ℕ
part_from part width room size before begun [] = []
part_from part width zero size before begun (e ∷ es) =
    first_bytes part width size begun e.sample ++ part_from part width 63 0 e.sample 1 es
part_from part width (suc room) size before begun (e ∷ es) =
    step_bytes part (e.sample - before) ++ part_from part width room (size + length (varint_bytes (e.sample - before))) e.sample 1 es

abbrev pub part_bytes : Part → ℕ → List Entry → List ℕ
part_bytes part width es = part_from part width 0 0 0 0 es

-- the same for one entry, and where a pass is after it
unfoldable pub entry_bytes : Part → ℕ → Group → ℕ → List ℕ
entry_bytes part width group sample =
    pick (eqb group.room 0) (first_bytes part width group.size group.begun sample) (step_bytes part (sample - group.before))

unfoldable pub after_entry : Group → ℕ → Group
after_entry group sample =
    pick (eqb group.room 0)
    (record { room = 63; size = 0; before = sample; begun = 1 })
    (record { room = group.room - 1; size = group.size + length (varint_bytes (sample - group.before)); before = sample; begun = 1 })

-- what holds of a pass before a sample: the group's varints are of one to five bytes each
pub record GroupFits (group : Group) (sample : ℕ) : Type 0 where
  pub upto : group.room ≤ 63
  pub idle : group.begun ≡ 0 → group.room ≡ 0
  pub least : (group.begun ≡ 0 → ⊥) → 63 ≤ group.size + group.room
  pub most : group.size + 5 * group.room ≤ 315
  pub later : group.before ≤ sample

-- sample i, whose value is the base's or not
abbrev pub sample_bytes : Part → ℕ → ℕ → ℕ → Group → ℕ → List ℕ
sample_bytes part width base value group i = pick (eqb value base) [] (entry_bytes part width group i)

abbrev pub after_sample : ℕ → ℕ → Group → ℕ → Group
after_sample base value group i = pick (eqb value base) group (after_entry group i)

-- a sample passed: what was written for it, and where the pass is after it
pub record Passed (before : List ℕ) (at : ℕ) (bytes : List ℕ) (next : Group) (r : Moved) (after : List ℕ) : Type 0 where
  pub wrote : Wrote before at bytes r.at after
  pub moved : r.group ≡ next
