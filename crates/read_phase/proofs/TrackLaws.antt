-- The ways through the check of a phase track.
-- Assumes nothing.
use Rattle.std.specs.Prelude.{Result, Ok, Err}
use mathlib.Core.Path.{◌≡◌, refl, sym, ◌∙◌}
use Prim.Native.Nat.{ℕ, suc, ◌+◌, ◌-◌, ◌%◌, ◌<◌, ◌≤◌}
use native.Mathlib.Omega.{arith}
use mathlib.Core.Bool.{Bool, true, false}
use mathlib.Core.List.{List}
use lib.ListN.{length, get_or, take, drop, drop_of_length-le, length-take}
use lib.Seq.{drop-cons}
use lib.Dec.{eqb}
use mir.Syntax.{w8}
use mir.Val.{Fits}
use Rattle.format.specs.declared.Refusal.{Refusal}
use Rattle.format.specs.Base.{pick, Out, ok, refused, map_out}
use Rattle.format.specs.Limits.{most_samples}
use Rattle.format.specs.Packed.{one, read_packed}
use Rattle.format.specs.Phase.{PhaseTrack, first_count, track_told, read_phase_track}
use Rattle.base_cursor.specs.declared.Cursor.{Cursor}
use Rattle.read_packed.specs.Arrays.{most_numbers}
use Rattle.read_packed.specs.Unpacked.{packed_step, array_at}
use Rattle.read_packed.proofs.CheckLaws.{was_refused}
use Rattle.read_phase.specs.Phases.{byte_ones, stored_at, phases_step, phases_at}
use Rattle.read_phase.proofs.PartLaws.{FirstPart, first_part, first_there, first_set, phased_found, phased_few, phased_by_bytes, track_reads}

-- ---- the first bit

pub stored_there : (l : List ℕ) (at : ℕ) → at < length l → eqb (get_or l at 0 % 2) 1 ≡ stored_at l at
stored_there l at h = rw (drop-cons l at 0 h)

pub stored_past : (l : List ℕ) (at : ℕ) → length l ≤ at → false ≡ stored_at l at
stored_past l at h = rw (drop_of_length-le l h)

pub ruleset stored_laws = (stored_there, stored_past)

-- ---- how many bits

module _ (stored : Bool) (h : ℕ) where
  pub first_stored : stored ≡ true → h + 1 ≡ suc (pick stored h 0)
  first_stored t = rw t (omega arith)

  pub first_alone : stored ≡ false → 1 ≡ suc (pick stored h 0)
  first_alone t = rw t

  module _ (part : List ℕ) (r : ℕ) (e : r ≡ byte_ones part) (t : stored ≡ true) where
    pub some_set : (stored ≡ true → 0 < byte_ones part) → 1 ≤ r
    some_set f = omega (arith, f t)

    pub presence_counted : r - 1 ≡ pick stored (byte_ones part - 1) h
    presence_counted = rw (t, e)

  pub all_counted : (part : List ℕ) → stored ≡ false → h ≡ pick stored (byte_ones part - 1) h
  all_counted part t = rw t

pub ruleset how_many_laws = (first_stored, first_alone, some_set, presence_counted, all_counted)

-- ---- the check: `n` is how many bits the first part has, `got` what its check gave

module _ (l : List ℕ) (at h : ℕ) (stored : Bool) (s : stored ≡ stored_at l at) (n : ℕ) (e : n ≡ suc (pick stored h 0)) where
  first_is : n ≡ first_count h (drop at l)
  first_is = e ∙ rw s

  pub first_few : h ≤ most_samples → n ≤ most_numbers
  first_few k = rw e (either stored)
    where
      either : (b : Bool) → suc (pick b h 0) ≤ most_numbers
      either true = omega arith
      either false = omega arith

  module _ (got : Result Cursor Refusal) (g : got ≡ array_at one n l at) where
    pub track_refused : (why : Refusal) → got ≡ Err why → Err why ≡ phases_at h l at
    unfolding phases_at read_phase_track
    track_refused why q =
        let r : read_packed (length l) one (first_count h (drop at l)) (drop at l) ≡ refused why
        = rw first_is at (was_refused one l at n why (sym q ∙ g)) in
        rw r

    module _ (known : (i : ℕ) → Fits w8 (get_or l i 0)) (room : at ≤ length l) (next : Cursor) (q : got ≡ Ok next) where
      first : FirstPart l at h next.at
      first = first_part l at h (λ i. (known i).fits) room next (rw first_is at (sym q ∙ g))

      pub starts_before : at ≤ next.at
      starts_before = omega (arith, first.ends)

      pub ends_inside : next.at ≤ length l
      ends_inside = first.inside

      pub part_short : h ≤ most_samples → length (take (next.at - at) (drop at l)) ≤ most_samples
      part_short k = omega (arith, length-take (next.at - at) (drop at l), first.ends, first_few k, first_is)

      pub part_set : stored ≡ true → 0 < byte_ones (take (next.at - at) (drop at l))
      part_set t = omega (arith, first_set l at h next.at first (sym s ∙ t))

      module _ (count : ℕ) (c : count ≡ pick stored (byte_ones (take (next.at - at) (drop at l)) - 1) h) where
        count_is : count ≡ phased_by_bytes l at h next.at first
        count_is = c ∙ rw s

        pub count_few : h ≤ most_samples → count ≤ most_numbers
        count_few k = omega (arith, count_is, phased_few l at h next.at first)

        pub track_ends : (r : Result Cursor Refusal) → r ≡ array_at one count l next.at → r ≡ phases_at h l at
        unfolding phases_at array_at
        track_ends r o =
            o ∙ rw (count_is ∙ phased_found l at h next.at first, track_reads l at h next.at first)
            (same_step (track_told h (first_there l at h)) (read_packed (length l) one _ (drop next.at l)))
          where
            same_step : (f : List ℕ → PhaseTrack) (m : Out (List ℕ)) → packed_step (length l) m ≡ phases_step (length l) (map_out f m)
            same_step f (ok bits left) = refl
            same_step f (refused why) = refl

pub ruleset track_laws = (first_few, track_refused, starts_before, ends_inside, part_short, part_set, count_few, track_ends)
