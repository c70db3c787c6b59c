-- The loop that puts the phases of a track's calls at an output's front: what holds before a turn, how a turn goes, and what the output is at the end.
-- Assumes nothing.
use mathlib.Core.Path.{◌≡◌, refl, sym, ap, ◌∙◌}
use Prim.Native.Nat.{ℕ, zero, suc, ◌+◌, ◌-◌, ◌/◌, ◌<◌, ◌≤◌}
use native.Mathlib.Omega.{arith}
use native.Mathlib.Nat.{mod-lt}
use native.Mathlib.Numerals.{add-one}
use mathlib.Core.Bool.{Bool, true, false}
use mathlib.Core.List.{List, [], ◌∷◌, ◌++◌, append_assoc}
use lib.ListN.{length, set, take, drop, replicate, length-set, length-replicate, take-append-drop}
use lib.Seq.{take-suc-set, drop-set-lt, drop-append-le, drop-drop}
use lib.Dec.{lit<}
use mir.Syntax.{w64}
use mir.Val.{Fits}
use Rattle.format.specs.Limits.{most_samples}
use Rattle.format.specs.Packed.{one}
use Rattle.format.specs.Phase.{ones}
use Rattle.head_index.specs.NumbersAt.{digit_at}
use Rattle.read_packed.specs.Arrays.{number_in}
use Rattle.read_packed.specs.declared.Width.TheVariants.{One}
use Rattle.read_packed.proofs.WidthLaws.{number_inside}
use Rattle.read_phase.specs.Parts.{presence_at, phase_of, drawn, told_from, present_in, bit_in, PartsThere, calls_put}
use Rattle.read_phase.specs.declared.PhaseParts.{PhaseParts}
use Rattle.read_phase.proofs.TellLaws.{bits_next, bits_few, told_next, none_told}

-- ---- a bit is 0 or 1

pub bit_small : (l : List ℕ) (at k : ℕ) → number_in one l at k < 2
unfolding number_in digit_at
bit_small l at k = mod-lt _ (lit< tt)

presence_small : (stored : Bool) (l : List ℕ) (at k : ℕ) → presence_at stored l at k < 2
presence_small true l at k = bit_small l at (k + 1)
presence_small false l at k = omega arith

pub present_small : (l : List ℕ) (parts : PhaseParts) (k : ℕ) → present_in l parts k < 2
present_small l parts = presence_small parts.stored l parts.at

-- ---- the loop

-- call k is next, of h, and phase bit p is the next
pub record Putting (l : List ℕ) (parts : PhaseParts) (h : ℕ) (old output : List ℕ) (k p : ℕ) : Type 0 where
  pub there : PartsThere h l parts
  pub space : h ≤ length old
  pub few : h ≤ most_samples
  pub reached : k ≤ h
  pub long : length output ≡ length old
  pub to_come : p + ones (drawn (present_in l parts) k (h - k)) ≡ parts.count
  pub untouched : drop k output ≡ drop k old
  pub told : take k output ++ told_from (present_in l parts) (bit_in l parts) k p (h - k) ≡ told_from (present_in l parts) (bit_in l parts) 0 0 h

pub none_put : (l : List ℕ) (parts : PhaseParts) (h : ℕ) (old entry : List ℕ) → PartsThere h l parts → h ≤ most_samples → h ≤ length entry
    → length old ≡ length entry → Putting l parts h old old 0 0
none_put l parts h old entry there few space same =
    let all : h - 0 ≡ h = omega arith in
    record {
      there = there;
      space = omega arith;
      few = few;
      reached = omega arith;
      long = refl;
      to_come = rw all (omega (arith, there.count_is));
      untouched = refl;
      told = rw all;
    }

module _ {l : List ℕ} {parts : PhaseParts} {h : ℕ} {old output : List ℕ} {k p : ℕ} (w : Putting l parts h old output k p) where
  module _ (more : p < parts.count) where
    -- a phase bit is left, so a call is
    inside : k < h
    inside = omega (arith, w.to_come, bits_few (present_in l parts) k (h - k) (present_small l parts))

    pub output_inside : k < length output
    output_inside = omega (arith, inside, w.space, w.long)

    pub call_few : k ≤ most_samples
    call_few = omega (arith, inside, w.few)

    pub presence_inside : parts.stored ≡ true → parts.at + (k + 1) / 8 < length l
    presence_inside t = number_inside One parts.at (k + 1) (suc h) (length l) (w.there.first_inside t) (omega (arith, inside))

    pub bit_inside : parts.bits + p / 8 < length l
    bit_inside = number_inside One parts.bits p parts.count (length l) w.there.bits_inside more

    pub next_room : Fits w64 (k + 1)
    next_room = record { fits = omega (arith, inside, w.few) }

    pub nearer : h - (k + 1) < h - k
    nearer = omega (arith, inside)

    one_less : h - k ≡ suc (h - (k + 1))
    one_less = omega (arith, inside)

    module _ {x : ℕ} (e : x ≡ present_in l parts k) where
      phased_next : p + x + ones (drawn (present_in l parts) (k + 1) (h - (k + 1))) ≡ parts.count
      phased_next = rw e (omega (arith, rw one_less at w.to_come, bits_next (present_in l parts) k (h - (k + 1))))

      pub phased_room : Fits w64 (p + x)
      phased_room =
          let all = bits_few (present_in l parts) 0 h (present_small l parts) in
          record { fits = omega (arith, phased_next, all, w.there.count_is, w.few) }

      module _ {y : ℕ} (f : y ≡ bit_in l parts p) {v : ℕ} (g : v ≡ phase_of x y) where
        pub put_turn : Putting l parts h old (set output k v) (k + 1) (p + x)
        put_turn = record {
          there = w.there;
          space = w.space;
          few = w.few;
          reached = omega (arith, inside);
          long = length-set output k v ∙ w.long;
          to_come = phased_next;
          untouched = rw add-one (drop-set-lt (suc k) output k _ (omega arith) ∙ still);
          told = rw (one_more, append_assoc, g, f, e) (rw (one_less, told_call) at w.told);
        }
          where
            one_more : take (k + 1) (set output k v) ≡ take k output ++ (v ∷ [])
            one_more = rw add-one (take-suc-set output k v output_inside)

            still : drop (suc k) output ≡ drop (suc k) old
            still = rw (← add-one, ← drop-drop 1 k output, ← drop-drop 1 k old) (ap (drop 1) w.untouched)

            told_call : told_from (present_in l parts) (bit_in l parts) k p (suc (h - (k + 1)))
                ≡ phase_of (present_in l parts k) (bit_in l parts p)
                ∷ told_from (present_in l parts) (bit_in l parts) (k + 1) (p + present_in l parts k) (h - (k + 1))
            told_call =
                told_next (present_in l parts) (bit_in l parts) k p (h - (k + 1)) (present_small l parts k) (bit_small l parts.bits p)

  -- the phase bits are used up
  module _ (last : parts.count ≤ p) (entry : List ℕ) (cleared : old ≡ replicate h 0 ++ drop h entry) where
    rest_cleared : drop k output ≡ replicate (h - k) 0 ++ drop h entry
    rest_cleared =
        w.untouched ∙ ap (drop k) cleared ∙ drop-append-le k (replicate h 0) (drop h entry) (omega (arith, length-replicate {A = ℕ} h 0, w.reached))
        ∙ ap (λ (z : List ℕ). z ++ drop h entry) (fewer k h)
      where
        fewer : (k h : ℕ) → drop {A = ℕ} k (replicate h 0) ≡ replicate (h - k) 0
        fewer zero h = let z : h - 0 ≡ h = omega arith in rw z
        fewer (suc k) zero = let z : 0 - suc k ≡ 0 = omega arith in rw z
        fewer (suc k) (suc h) = let z : suc h - suc k ≡ h - k = omega arith in rw z (fewer k h)

    pub all_put : output ≡ calls_put h l parts entry
    all_put =
        let none : ones (drawn (present_in l parts) k (h - k)) ≡ 0 = omega (arith, w.to_come) in
        let zeros = none_told (present_in l parts) (bit_in l parts) (present_small l parts) (bit_small l parts.bits) k p (h - k) none in
        let whole = rw zeros at w.told in
        sym (take-append-drop k output) ∙ rw (rest_cleared, ← append_assoc, whole)

pub same_size : (l : List ℕ) (parts : PhaseParts) (h : ℕ) (old output entry : List ℕ) (k p : ℕ) → Putting l parts h old output k p
    → length old ≡ length entry → length output ≡ length entry
same_size l parts h old output entry k p w e = w.long ∙ e

pub ruleset put_laws = (
  none_put,
  output_inside,
  call_few,
  presence_inside,
  bit_inside,
  next_room,
  nearer,
  phased_room,
  put_turn,
  all_put,
  same_size,
)

-- ---- a presence bit

pub presence_there : (s : List ℕ) (at k : ℕ) (stored : Bool) → (stored ≡ true → at + (k + 1) / 8 < length s) → stored ≡ true → at + (k + 1) / 8 < length s
presence_there s at k stored f t = f t

pub presence_read : (s : List ℕ) (at k r : ℕ) (stored : Bool) → r ≡ number_in one s at (k + 1) → stored ≡ true → r ≡ presence_at stored s at k
presence_read s at k r stored e t = rw t e

pub presence_all : (s : List ℕ) (at k : ℕ) (stored : Bool) → stored ≡ false → 1 ≡ presence_at stored s at k
presence_all s at k stored t = rw t

pub ruleset presence_laws = (presence_there, presence_read, presence_all)
