-- The two parts of a phase track at a place: the first bit with the presence bits, and the phase bits.
-- Assumes nothing.
use Rattle.std.specs.Prelude.{Ok}
use mathlib.Core.Path.{◌≡◌, refl, sym, ap, ◌∙◌}
use Prim.Native.Nat.{ℕ, suc, ◌+◌, ◌-◌, ◌%◌, ◌<◌, ◌≤◌}
use native.Mathlib.Omega.{arith}
use native.Mathlib.Nat.{div-one}
use mathlib.Core.Bool.{Bool, true, false}
use mathlib.Core.List.{List, [], ◌∷◌}
use lib.ListN.{length, get_or, take, drop}
use borrow.Author.Tests.{eqb-true}
use Rattle.format.specs.Base.{pick, Below, ok, map_out}
use Rattle.format.specs.Packed.{one, packed, packed_size, read_packed}
use Rattle.format.specs.Phase.{first_of, first_count, presence, ones, track_told, read_phase_track}
use Rattle.head_index.specs.NumbersAt.{digit_at, digits_at}
use Rattle.base_cursor.specs.declared.Cursor.{Cursor}
use Rattle.read_packed.specs.Unpacked.{array_at}
use Rattle.read_packed.proofs.CheckLaws.{Accepted, was_accepted, Held, accepted_held}
use Rattle.read_phase.specs.Phases.{byte_ones, stored_at}
use Rattle.read_phase.proofs.OnesLaws.{packed_ones, ones_few, ones_all}

-- ---- the first part

-- the first bit of some bytes
pub first_digit : (bs : List ℕ) → digit_at one bs 0 ≡ first_of bs % 2
unfolding digit_at
first_digit [] = refl
first_digit (b ∷ bs) = rw (div-one b)

module _ (l : List ℕ) (at h : ℕ) where
  -- its bits
  abbrev pub first_there : List ℕ
  first_there = digits_at one (drop at l) 0 (first_count h (drop at l))

  -- how many phase bits follow it
  abbrev pub phase_bits_there : ℕ
  phase_bits_there = ones (presence h first_there)

  -- it is there, and ends at `end`
  pub record FirstPart (end : ℕ) : Type 0 where
    pub ends : end ≡ at + packed_size one (first_count h (drop at l))
    pub inside : end ≤ length l
    pub reads : read_packed (length l) one (first_count h (drop at l)) (drop at l) ≡ ok first_there (drop end l)
    pub part : take (end - at) (drop at l) ≡ packed one first_there
    pub small : Below 2 first_there
    pub count : length first_there ≡ first_count h (drop at l)

  pub first_part : (known : (i : ℕ) → get_or l i 0 < 256) → at ≤ length l → (next : Cursor) → Ok next ≡ array_at one (first_count h (drop at l)) l at
      → FirstPart next.at
  first_part known room next e =
      let n : ℕ = first_count h (drop at l) in
      let a : Accepted one l at n next = was_accepted one l at n next known room e in
      let p : Held one l at n next.at = accepted_held one l at n next known a in
      let s : next.at ≡ at + packed_size one n = ap (λ (z : Cursor). z.at) a.ends in
      record { ends = s; inside = rw s a.inside; reads = a.reads; part = p.part; small = p.small; count = p.count }

  module _ (end : ℕ) (f : FirstPart end) where
    set_bits : byte_ones (take (end - at) (drop at l)) ≡ ones first_there
    set_bits = rw f.part (packed_ones first_there f.small)

    -- P by the set bits of the first part's bytes. 02, Ask 1: "The reader finds P by counting ones in the presence bits."
    abbrev pub phased_by_bytes : ℕ
    phased_by_bytes = pick (stored_at l at) (byte_ones (take (end - at) (drop at l)) - 1) h

    -- where presence bits are stored, the first bit is one of those that are set
    pub first_set : stored_at l at ≡ true → byte_ones (take (end - at) (drop at l)) ≡ 1 + ones (digits_at one (drop at l) 1 h)
    unfolding digits_at ones
    first_set t =
        let d : digit_at one (drop at l) 0 ≡ 1 = first_digit (drop at l) ∙ eqb-true (first_of (drop at l) % 2) 1 t in
        simp (t, d) at set_bits

    pub phased_found : phased_by_bytes ≡ phase_bits_there
    unfolding digits_at
    phased_found = either (stored_at l at) refl
      where
        either : (b : Bool) → stored_at l at ≡ b → phased_by_bytes ≡ phase_bits_there
        either true t = rw (t, first_digit (drop at l)) (simp t (omega (arith, first_set t)))
        either false t = rw (t, first_digit (drop at l)) (simp t (sym (ones_all h)))

    pub phased_few : phased_by_bytes ≤ h
    phased_few = either (stored_at l at) refl
      where
        either : (b : Bool) → stored_at l at ≡ b → phased_by_bytes ≤ h
        either true t =
            let k : first_count h (drop at l) ≡ suc h = rw t in
            rw t (omega (arith, set_bits, ones_few first_there f.small, f.count))
        either false t = rw t (omega arith)

    -- the second part decides what is left
    pub track_reads : read_phase_track (length l) h (drop at l) ≡ map_out (track_told h first_there) (read_packed (length l) one phase_bits_there (drop end l))
    unfolding read_phase_track
    track_reads = rw f.reads
