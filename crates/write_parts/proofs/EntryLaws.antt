-- What a pass writes for an entry, by the part that it writes.
-- Assumes nothing.
use mathlib.Core.Path.{◌≡◌, refl}
use Prim.Native.Nat.{ℕ, ◌+◌, ◌-◌, ◌≤◌, ◌<◌}
use native.Mathlib.Omega.{arith}
use mathlib.Core.List.{List}
use lib.ListN.{length, set}
use mir.Syntax.{w64}
use mir.Val.{Fits}
use borrow.Author.Tests.{eq-eqb, ne_eqb}
use Rattle.format.specs.Varint.{varint_bytes}
use Rattle.format.specs.Numbers.{number_bytes}
use Rattle.format.proofs.VarintLaws.{varint_length}
use Rattle.format.proofs.NumbersLaws.{number_length}
use Rattle.write_bytes.specs.Written.{Wrote}
use Rattle.write_bytes.proofs.WrittenLaws.{wrote_nothing}
use Rattle.write_parts.specs.Parts.{first_bytes, step_bytes, entry_bytes, after_entry, GroupFits}
use Rattle.write_parts.specs.declared.Part.{Part}
use Rattle.write_parts.specs.declared.Part.TheVariants.{Heads, Sizes, Steps}
use Rattle.write_parts.specs.declared.Group.{Group}

-- ---- the first entry of a group

module _ (part : Part) (width size begun sample : ℕ) (at : ℕ) where
  pub room_heads : (len : ℕ) → part ≡ Heads → at + length (first_bytes part width size begun sample) ≤ len → at + width ≤ len
  room_heads len q h = rw (number_length width sample) at (rw q at h)

  pub room_size : (len : ℕ) → part ≡ Sizes → (begun ≡ 0 → ⊥) → at + length (first_bytes part width size begun sample) ≤ len → at < len
  room_size len q z h = let g : at + 1 ≤ len = simp (ne_eqb begun 0 z) at (rw q at h) in omega arith

  module _ (to : List ℕ) where
    pub first_heads : (r : ℕ) (after : List ℕ) → part ≡ Heads → Wrote to at (number_bytes width sample) r after
        → Wrote to at (first_bytes part width size begun sample) r after
    first_heads r after q w = rw q w

    pub first_none : part ≡ Sizes → begun ≡ 0 → Wrote to at (first_bytes part width size begun sample) at to
    first_none q z = rw q (simp (eq-eqb begun 0 z) (wrote_nothing to at))

    pub first_size : part ≡ Sizes → (begun ≡ 0 → ⊥) → Wrote to at (first_bytes part width size begun sample) (at + 1) (set to at (size - 63))
    first_size q z = rw q (simp (ne_eqb begun 0 z) (record { place = refl; same = refl }))

    pub first_steps : part ≡ Steps → Wrote to at (first_bytes part width size begun sample) at to
    first_steps q = rw q (wrote_nothing to at)

-- 01, Difference lists: a full group's size byte is no less than 0
pub size_least : (group : Group) (sample : ℕ) → GroupFits group sample → group.room ≡ 0 → (group.begun ≡ 0 → ⊥) → 63 ≤ group.size
size_least group sample f z b = omega (arith, f.least b)

pub ruleset first_laws = (room_heads, room_size, first_heads, first_none, first_size, first_steps, size_least)

-- ---- the first of a group, or another

module _ (part : Part) (width : ℕ) (group : Group) (sample : ℕ) where
  entry_first : group.room ≡ 0 → first_bytes part width group.size group.begun sample ≡ entry_bytes part width group sample
  unfolding entry_bytes
  entry_first z = simp (eq-eqb group.room 0 z)

  entry_step : (group.room ≡ 0 → ⊥) → step_bytes part (sample - group.before) ≡ entry_bytes part width group sample
  unfolding entry_bytes
  entry_step z = simp (ne_eqb group.room 0 z)

  module _ (at : ℕ) where
    pub room_first : (len : ℕ) → group.room ≡ 0 → at + length (entry_bytes part width group sample) ≤ len
        → at + length (first_bytes part width group.size group.begun sample) ≤ len
    room_first len z h = rw (entry_first z) h

    pub room_later : (len : ℕ) → (group.room ≡ 0 → ⊥) → at + length (entry_bytes part width group sample) ≤ len
        → at + length (step_bytes part (sample - group.before)) ≤ len
    room_later len z h = rw (entry_step z) h

    module _ (to : List ℕ) (r : ℕ) (after : List ℕ) where
      pub wrote_first : group.room ≡ 0 → Wrote to at (first_bytes part width group.size group.begun sample) r after
          → Wrote to at (entry_bytes part width group sample) r after
      wrote_first z w = rw (entry_first z) at w

      pub wrote_later : (group.room ≡ 0 → ⊥) → Wrote to at (step_bytes part (sample - group.before)) r after
          → Wrote to at (entry_bytes part width group sample) r after
      wrote_later z w = rw (entry_step z) at w

pub ruleset entry_laws = (room_first, room_later, wrote_first, wrote_later)

-- ---- where a pass is after it

module _ (group : Group) (sample : ℕ) where
  pub after_first : group.room ≡ 0 → record { room = 63; size = 0; before = sample; begun = 1 } ≡ after_entry group sample
  unfolding after_entry
  after_first z = simp (eq-eqb group.room 0 z)

  module _ (more : ℕ) (e : more ≡ length (varint_bytes (sample - group.before))) where
    pub after_step : (group.room ≡ 0 → ⊥)
        → record { room = group.room - 1; size = group.size + more; before = sample; begun = 1 } ≡ after_entry group sample
    unfolding after_entry
    after_step z = simp (ne_eqb group.room 0 z, e)

    pub size_fits : GroupFits group sample → Fits w64 (group.size + more)
    size_fits f = record { fits = omega (arith, f.most, varint_length (sample - group.before)) }

pub ruleset advance_laws = (after_first, after_step, size_fits)
