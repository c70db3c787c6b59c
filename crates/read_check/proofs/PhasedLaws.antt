-- A record with a phase track: each way out of `check_phased`, and that it is the format's record.
-- Assumes nothing.
use Rattle.std.specs.Prelude.{Result, Ok, Err, ⊤}
use mathlib.Core.Path.{◌≡◌, refl, sym, ap, ◌∙◌}
use Prim.Native.Nat.{ℕ, zero, suc, ◌-◌, ◌≤◌}
use native.Mathlib.Omega.{arith}
use mathlib.Core.Bool.{Bool, true}
use mathlib.Core.List.{List}
use lib.ListN.{get_or, length, take, drop}
use lib.Seq.{length-take-le}
use mir.Syntax.{w8}
use mir.Val.{Fits as Bounded}
use Rattle.format.specs.declared.Refusal.{Refusal}
use Rattle.format.specs.Base.{Out, ok, refused, bind}
use Rattle.format.specs.Limits.{most_samples}
use Rattle.format.specs.declared.Kind.{Kind}
use Rattle.format.specs.declared.Kind.TheVariants.{AgainstCategory}
use Rattle.format.specs.Track.{kind, Track, read_track, track_categories}
use Rattle.format.specs.Body.{kind_of, type_phased, track_heterozygous, read_after, read_body}
use Rattle.format.proofs.Exits.{ok_parts}
use Rattle.format.proofs.Rules.{Holds, below_drop}
use Rattle.format.proofs.TrackLaws.{IsTrack, track_as_written}
use Rattle.format.proofs.PhaseLaws.{heterozygous_count_most}
use Rattle.base_cursor.specs.declared.Cursor.{Cursor}
use Rattle.base_cursor.specs.Steps.{before}
use Rattle.base_cursor.proofs.ByteLaws.{bytes_of}
use Rattle.read_record.specs.Recorded.{replied, end_checked}
use Rattle.read_record.proofs.EndLaws.{after_ends}
use Rattle.read_record.proofs.TracksLaws.{categories_length}
use Rattle.read_calls.specs.Tracks.{track_told, track_counted}
use Rattle.read_check.specs.Checked.{counted_replied, phased_checked, body_checked}

-- ---- the ways out of `check_phased`: `got` is what `count_track` gave

-- no kind is against category 1
pub no_call_kind : (number : ℕ) (k : Kind) → k ≡ kind number → k ≡ AgainstCategory 1 → ⊥
no_call_kind number k e q = go number (sym e ∙ q)
  where
    go : (number : ℕ) → kind number ≡ AgainstCategory 1 → ⊥
    go zero q = let z : ◌≡◌ {A = ℕ} 0 1 = cc in omega arith
    go (suc zero) q = let z : ◌≡◌ {A = ℕ} 0 1 = cc in omega arith
    go (suc (suc zero)) q = let z : ◌≡◌ {A = ℕ} 0 1 = cc in omega arith
    go (suc (suc (suc zero))) q = let z : ◌≡◌ {A = ℕ} 0 1 = cc in omega arith
    go (suc (suc (suc (suc zero)))) q = let z : ◌≡◌ {A = ℕ} 0 1 = cc in omega arith
    go (suc (suc (suc (suc (suc zero))))) q = let z : ◌≡◌ {A = ℕ} 0 1 = cc in omega arith
    go (suc (suc (suc (suc (suc (suc zero)))))) q = let z : ◌≡◌ {A = ℕ} 2 1 = cc in omega arith
    go (suc (suc (suc (suc (suc (suc (suc zero))))))) q = let z : ◌≡◌ {A = ℕ} 3 1 = cc in omega arith
    go (suc (suc (suc (suc (suc (suc (suc (suc number)))))))) q = let z : ◌≡◌ {A = ℕ} 0 1 = cc in omega arith

module _ (l : List ℕ) (start n type : ℕ) (row : List ℕ) (number : ℕ) (is : number ≡ kind_of type) (k : Kind) (numbered : k ≡ kind number)
    (got : Result (Cursor × ℕ) Refusal) (counts : got ≡ track_counted k n l start row) where
  told : got ≡ track_counted (kind (kind_of type)) n l start row
  told = rw (numbered, is) at counts

  pub phased_unread : (why : Refusal) → got ≡ Err why → Err why ≡ phased_checked (kind (kind_of type)) n l start row
  unfolding phased_checked
  phased_unread why q = rw (← told, q)

  module _ (next : Cursor) (H : ℕ) (q : got ≡ Ok (next, H)) where
    pub phased_read : (r : Result ⊤ Refusal) → r ≡ end_checked true H l next.at → r ≡ phased_checked (kind (kind_of type)) n l start row
    unfolding phased_checked
    phased_read r d = rw (← told, q) d

    -- what is known of a track that was counted
    record WasCounted : Type 0 where
      pub inside : next.at ≤ length l
      pub few : n ≤ length row → H ≤ n

    was_counted : ((i : ℕ) → Bounded w8 (get_or l i 0)) → WasCounted
    unfolding track_counted
    was_counted known =
        through (read_track (length l) n (take n row) (kind_of type) (drop start l)) (sym q ∙ told)
        (track_as_written (length l) n (take n row) (kind_of type) (drop start l) (below_drop 256 start l (bytes_of l (λ i. (known i).fits))))
      where
        through : (m : Out Track) → Ok (next, H) ≡ track_told (length l) n (take n row) m
            → Holds (IsTrack n (take n row) (kind_of type) (drop start l)) m → WasCounted
        through (refused why) e w = absurd (let z : ◌≡◌ {A = ℕ} 0 1 = cc in omega arith)
        through (ok track left) e w =
            let c : next ≡ before (length l) left = (ok_parts e).0 in
            let k : H ≡ track_heterozygous n (take n row) track = (ok_parts e).1 in
            record {
              inside = rw c (omega arith);
              few = λ h.
                  omega (
                    arith,
                    k,
                    heterozygous_count_most (track_categories n (take n row) track),
                    categories_length n (take n row) track (length-take-le n row h) w.fits,
                  );
            }

    pub counted_inside : ((i : ℕ) → Bounded w8 (get_or l i 0)) → next.at ≤ length l
    counted_inside known = (was_counted known).inside

    pub counted_few : ((i : ℕ) → Bounded w8 (get_or l i 0)) → n ≤ most_samples → n ≤ length row → H ≤ most_samples
    counted_few known k h = omega (arith, (was_counted known).few h)

pub ruleset phased_laws = (no_call_kind, phased_unread, phased_read, counted_inside, counted_few)

-- ---- it is the record as the format reads it: `p` says whether the type is phased, `number` is its kind

module _ (l : List ℕ) (start n type : ℕ) (row : List ℕ) (known : (i : ℕ) → Bounded w8 (get_or l i 0)) (inside : start ≤ length l)
    (p : Bool) (e : p ≡ type_phased type) (t : p ≡ true) where
  then_phases : (m : Out Track) → Holds (IsTrack n (take n row) (kind_of type) (drop start l)) m
      → counted_replied l (track_told (length l) n (take n row) m)
      ≡ replied (bind m (λ track left. read_after (length l) n (take n row) type track left))
  then_phases (refused why) w = refl
  then_phases (ok track left) w =
      ap (λ (b : Bool). end_checked b (track_heterozygous n (take n row) track) l (length l - length left)) (sym t ∙ e)
      ∙ sym (after_ends l start n (take n row) type (kind_of type) track left inside w)

  pub phased_record : (r : Result ⊤ Refusal) → r ≡ phased_checked (kind (kind_of type)) n l start row → r ≡ body_checked n type l start row
  unfolding phased_checked track_counted body_checked read_body
  phased_record r d =
      d ∙ then_phases (read_track (length l) n (take n row) (kind_of type) (drop start l))
      (track_as_written (length l) n (take n row) (kind_of type) (drop start l) (below_drop 256 start l (bytes_of l (λ i. (known i).fits))))
