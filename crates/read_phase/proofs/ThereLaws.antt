-- An accepted phase track: where its parts stand, and that the format's own reading of it is what the parts tell.
-- Assumes nothing.
use Rattle.std.specs.Prelude.{Result, Ok}
use Rattle.format.specs.declared.Refusal.{Refusal}
use mathlib.Core.Path.{◌≡◌, refl, sym, ap, ◌∙◌}
use Prim.Native.Nat.{ℕ, zero, suc, ◌+◌, ◌-◌, ◌<◌, ◌≤◌}
use native.Mathlib.Omega.{arith}
use mathlib.Core.Bool.{Bool, true, false}
use mathlib.Core.List.{List}
use lib.ListN.{length, get_or, take, drop, replicate, length-take}
use lib.Seq.{drop_at, drop-drop}
use mir.Syntax.{w8}
use mir.Val.{Fits}
use Rattle.format.specs.Base.{pick, Out, ok, refused, map_out}
use Rattle.format.specs.Limits.{most_samples}
use Rattle.format.specs.Packed.{one, packed_size, read_packed}
use Rattle.format.specs.Phase.{PhaseTrack, heterozygous_count, first_count, presence, ones, track_told, read_phase_track, spread}
use Rattle.format.proofs.PhaseLaws.{heterozygous_count_most}
use Rattle.head_index.specs.NumbersAt.{digits_at}
use Rattle.base_cursor.specs.Steps.{before}
use Rattle.base_cursor.specs.declared.Cursor.{Cursor}
use Rattle.read_packed.specs.Arrays.{most_numbers, number_in}
use Rattle.read_packed.specs.Unpacked.{array_at}
use Rattle.read_packed.proofs.CheckLaws.{Accepted, was_accepted}
use Rattle.read_phase.specs.Phases.{byte_ones, stored_at, phases_at, PhasesThere, phases_put}
use Rattle.read_phase.specs.Parts.{presence_at, drawn, told_from, present_in, bit_in, PartsThere, calls_put, spread_from, parts_put}
use Rattle.read_phase.specs.declared.PhaseParts.{PhaseParts}
use Rattle.read_phase.proofs.PartLaws.{FirstPart, first_part, first_there, first_digit, first_set, phase_bits_there, phased_found, track_reads}
use Rattle.read_phase.proofs.TellLaws.{told_length}
use Rattle.read_phase.proofs.PutLaws.{bit_small, present_small}
use Rattle.read_phase.proofs.SpreadLaws.{spread_front}

-- ---- bits by index

module _ (l : List ℕ) (at : ℕ) where
  bits_drawn : (k m : ℕ) → digits_at one (drop at l) k m ≡ drawn (number_in one l at) k m
  unfolding digits_at drawn number_in
  bits_drawn k zero = refl
  bits_drawn k (suc m) = rw (bits_drawn (k + 1) m) refl

  rest_drawn : (k m : ℕ) → digits_at one (drop at l) (k + 1) m ≡ drawn (presence_at true l at) k m
  unfolding digits_at drawn number_in
  rest_drawn k zero = refl
  rest_drawn k (suc m) = rw (rest_drawn (k + 1) m) refl

  all_drawn : (k m : ℕ) → replicate m 1 ≡ drawn (presence_at false l at) k m
  unfolding drawn
  all_drawn k zero = refl
  all_drawn k (suc m) = rw (all_drawn (k + 1) m) refl

-- ---- an accepted track

module _ (l : List ℕ) (known : (i : ℕ) → get_or l i 0 < 256) where
  accepted_bits : (at n : ℕ) → at ≤ length l → (vs left : List ℕ) → read_packed (length l) one n (drop at l) ≡ ok vs left
      → Accepted one l at n (before (length l) left)
  unfolding array_at
  accepted_bits at n room vs left e = was_accepted one l at n (before (length l) left) known room (rw e)

  module _ (at h : ℕ) (room : at ≤ length l) (track : PhaseTrack) (left : List ℕ) (e : read_phase_track (length l) h (drop at l) ≡ ok track left) where
    -- where the phase bits begin
    abbrev pub bits_begin : ℕ
    bits_begin = at + packed_size one (first_count h (drop at l))

    pub first_accepted : FirstPart l at h bits_begin
    unfolding read_phase_track array_at
    first_accepted = through (read_packed (length l) one (first_count h (drop at l)) (drop at l)) refl
      where
        through : (m : Out (List ℕ)) → read_packed (length l) one (first_count h (drop at l)) (drop at l) ≡ m → FirstPart l at h bits_begin
        through (refused why) q = absurd (let r = rw q at e in let z : ◌≡◌ {A = ℕ} 0 1 = cc in omega arith)
        through (ok vs rest) q =
            let f : FirstPart l at h (before (length l) rest).at = first_part l at h known room (before (length l) rest) (rw q) in
            rw f.ends at f

    abbrev pub bits_there : List ℕ
    bits_there = digits_at one (drop bits_begin l) 0 (phase_bits_there l at h)

    pub record Second : Type 0 where
      pub inside : bits_begin + packed_size one (phase_bits_there l at h) ≤ length l
      pub is : track ≡ track_told h (first_there l at h) bits_there

    pub second_accepted : Second
    second_accepted = through (read_packed (length l) one (phase_bits_there l at h) (drop bits_begin l)) refl
      where
        reads : map_out (track_told h (first_there l at h)) (read_packed (length l) one (phase_bits_there l at h) (drop bits_begin l)) ≡ ok track left
        reads = sym (track_reads l at h bits_begin first_accepted) ∙ e

        through : (m : Out (List ℕ)) → read_packed (length l) one (phase_bits_there l at h) (drop bits_begin l) ≡ m → Second
        through (refused why) q = absurd (let r = rw q at reads in let z : ◌≡◌ {A = ℕ} 0 1 = cc in omega arith)
        through (ok bits rest) q =
            let a = accepted_bits bits_begin (phase_bits_there l at h) first_accepted.inside bits rest q in
            let r = rw a.reads at reads in
            record { inside = a.inside; is = cc }

    -- ---- the same by index

    presence_drawn : presence h (first_there l at h) ≡ drawn (presence_at (stored_at l at) l at) 0 h
    unfolding digits_at
    presence_drawn = either (stored_at l at) refl
      where
        either : (b : Bool) → stored_at l at ≡ b → presence h (first_there l at h) ≡ drawn (presence_at (stored_at l at) l at) 0 h
        either true t = rw (t, first_digit (drop at l)) (simp t (rest_drawn l at 0 h))
        either false t = rw (t, first_digit (drop at l)) (simp t (all_drawn l at 0 h))

    abbrev pub found_parts : PhaseParts
    found_parts = record {
      at = at;
      stored = stored_at l at;
      bits = bits_begin;
      count = pick (stored_at l at) (byte_ones (take (bits_begin - at) (drop at l)) - 1) h;
    }

    pub found_there : PartsThere h l found_parts
    found_there =
        let count = phased_found l at h bits_begin first_accepted in
        record {
          first_inside = λ t. rw t at first_accepted.inside;
          bits_inside = rw count second_accepted.inside;
          count_is = count ∙ ap ones presence_drawn;
        }

    pub found_told : track.phases ≡ told_from (present_in l found_parts) (bit_in l found_parts) 0 0 h
    unfolding told_from
    found_told =
        ap (λ (t : PhaseTrack). t.phases) second_accepted.is ∙ rw (bits_drawn l bits_begin 0 (phase_bits_there l at h), presence_drawn)

-- a track that the check accepted is there, for the call that puts it: `got` is what the check gave
pub phases_there : (n : ℕ) (l : List ℕ) (at : ℕ) (row : List ℕ) (h : ℕ) (got : Result Cursor Refusal) (end : Cursor) → h ≡ heterozygous_count (take n row)
    → got ≡ phases_at h l at → got ≡ Ok end → PhasesThere n l at row
unfolding phases_at
phases_there n l at row h got end o e q = through (read_phase_track (length l) (heterozygous_count (take n row)) (drop at l)) refl
  where
    through : (m : Out PhaseTrack) → read_phase_track (length l) (heterozygous_count (take n row)) (drop at l) ≡ m → PhasesThere n l at row
    through (ok track left) r = record { track = track; left = left; reads = r }
    through (refused why) r = absurd (let f = rw (o, r) at (sym q ∙ e) in let z : ◌≡◌ {A = ℕ} 0 1 = cc in omega arith)

-- ---- the two passes of `put_bits`

module _ (n : ℕ) (row : List ℕ) (h : ℕ) (o : h ≡ heterozygous_count (take n row)) where
  calls_most : h ≤ n
  calls_most = omega (arith, heterozygous_count_most (take n row), length-take n row)

  pub calls_few : n ≤ most_samples → h ≤ most_samples
  calls_few few = omega (arith, calls_most)

  pub calls_fit : (output : List ℕ) → n ≤ length output → h ≤ length output
  calls_fit output space = omega (arith, calls_most)

  -- what the first has put at the output's front the second spreads over the row
  pub both_put : (l : List ℕ) (parts : PhaseParts) (entry front new : List ℕ) → front ≡ calls_put h l parts entry → new ≡ spread_from 0 n row front
      → new ≡ parts_put n l parts row entry
  unfolding spread_from
  both_put l parts entry front new e q =
      let told : List ℕ = told_from (present_in l parts) (bit_in l parts) 0 0 h in
      let size : length told ≡ h = told_length (present_in l parts) (bit_in l parts) (present_small l parts) (bit_small l parts.bits) 0 0 h in
      let end : h + (n - h) ≡ n = omega (arith, calls_most) in
      let taken : spread (take n row) front ≡ spread (take n row) told
      = rw e (spread_front (take n row) told (drop h entry) (omega arith)) in
      let rest : drop n front ≡ drop n entry
      = rw (← end, ← drop-drop (n - h) h front, ← drop-drop (n - h) h entry) (ap (drop (n - h)) (rw e (drop_at told (drop h entry) h size))) in
      q ∙ rw (taken, rest, ← o) refl

pub ruleset both_laws = (calls_few, calls_fit, both_put)

-- ---- the ways through `put_phases`: h, stored, m, size and count are what the calls gave

module _ (n : ℕ) (row : List ℕ) (h : ℕ) (o : h ≡ heterozygous_count (take n row)) (few : n ≤ most_samples) where
  pub first_bits_few : (stored : Bool) (m : ℕ) → m ≡ suc (pick stored h 0) → m ≤ most_numbers
  first_bits_few true m e = omega (arith, calls_few n row h o few)
  first_bits_few false m e = omega arith

module _ (n : ℕ) (l : List ℕ) (at : ℕ) (row : List ℕ) (there : PhasesThere n l at row) (known : (i : ℕ) → Fits w8 (get_or l i 0)) (room : at ≤ length l)
    (h : ℕ) (o : h ≡ heterozygous_count (take n row)) (stored : Bool) (s : stored ≡ stored_at l at) (m : ℕ) (e : m ≡ suc (pick stored h 0))
    (size : ℕ) (z : size ≡ packed_size one m) where
  abbrev H : ℕ
  H = heterozygous_count (take n row)

  sizes : size ≡ packed_size one (first_count H (drop at l))
  sizes = z ∙ rw (e, s, o)

  first : FirstPart l at H (at + size)
  first = rw sizes (first_accepted l (λ i. (known i).fits) at H room there.track there.left there.reads)

  pub bits_end : at + size ≤ length l
  bits_end = first.inside

  pub bytes_short : n ≤ most_samples → length (take (at + size - at) (drop at l)) ≤ most_samples
  bytes_short few =
      omega (arith, length-take (at + size - at) (drop at l), z, first_bits_few n row h o few stored m e)

  pub bytes_set : stored ≡ true → 0 < byte_ones (take (at + size - at) (drop at l))
  bytes_set t = omega (arith, first_set l at H (at + size) first (sym s ∙ t))

  module _ (count : ℕ) (c : count ≡ pick stored (byte_ones (take (at + size - at) (drop at l)) - 1) h) where
    abbrev parts : PhaseParts
    parts = record { at = at; stored = stored; bits = at + size; count = count }

    pub parts_there : PartsThere h l parts
    parts_there = rw (c, sizes, s, o) (found_there l (λ i. (known i).fits) at H room there.track there.left there.reads)

    pub phases_told_are : (entry new : List ℕ) → new ≡ parts_put n l parts row entry → new ≡ phases_put n l at row entry
    unfolding phases_put
    phases_told_are entry new q =
        q ∙ rw (sizes, s, there.reads, found_told l (λ i. (known i).fits) at H room there.track there.left there.reads)

pub ruleset there_laws = (calls_few, first_bits_few, bits_end, bytes_short, bytes_set, parts_there, phases_told_are)
