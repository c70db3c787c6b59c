-- What the check of a record says: "Lastly 13".
-- Assumes nothing.
use Rattle.std.specs.Prelude.{Result, ⊤}
use Rattle.base_cursor.specs.declared.Cursor.{Cursor}
use Rattle.format.specs.declared.Refusal.{Refusal}
use mathlib.Core.Path.{◌≡◌, refl, sym, ap, ◌∙◌}
use Prim.Native.Nat.{ℕ, ◌-◌, ◌≤◌}
use native.Mathlib.Omega.{arith}
use mathlib.Core.Bool.{Bool, true, false}
use mathlib.Core.List.{List}
use lib.ListN.{get_or, length, take, drop}
use mir.Syntax.{w8}
use mir.Val.{Fits as Bounded}
use Rattle.format.specs.Base.{Out, ok, refused, bind}
use Rattle.format.specs.declared.Kind.{Kind}
use Rattle.format.specs.Track.{kind, leans_kind, Track, read_track}
use Rattle.format.specs.Body.{kind_of, type_phased, track_heterozygous, read_after, read_body}
use Rattle.format.proofs.Rules.{Holds, below_drop}
use Rattle.format.proofs.TrackLaws.{IsTrack, track_as_written}
use Rattle.base_cursor.proofs.ByteLaws.{bytes_of}
use Rattle.read_list.specs.Checked.{stepped}
use Rattle.read_record.specs.Recorded.{replied, whole_record}
use Rattle.read_record.proofs.EndLaws.{plain_ends, after_ends}
use Rattle.read_check.specs.Checked.{track_checked, body_checked}
use Rattle.read_check.proofs.PhasedLaws.{phased_record}

-- a row that is there for any kind is there for one that leans
pub kind_row : (n : ℕ) (k : Kind) (row : List ℕ) → n ≤ length row → leans_kind k ≡ true → n ≤ length row
kind_row n k row h t = h

module _ (l : List ℕ) (start n type : ℕ) (row : List ℕ) (known : (i : ℕ) → Bounded w8 (get_or l i 0)) (inside : start ≤ length l)
    (p : Bool) (e : p ≡ type_phased type) (t : p ≡ false) where
  -- nothing follows the main track
  main_only : (m : Out Track) → Holds (IsTrack n (take n row) (kind_of type) (drop start l)) m
      → whole_record (length l) (stepped (length l) m) ≡ replied (bind m (λ track left. read_after (length l) n (take n row) type track left))
  unfolding whole_record
  main_only (refused why) w = refl
  main_only (ok track left) w =
      plain_ends l (length l - length left) known (omega arith) (track_heterozygous n (take n row) track) type p e t _ refl
      ∙ sym (after_ends l start n (take n row) type (kind_of type) track left inside w)

  -- k is the kind of the record's type
  pub record_checked : (number : ℕ) → number ≡ kind_of type → (k : Kind) → k ≡ kind number → (r : Result Cursor Refusal) → r ≡ track_checked k n l start row
      → (reply : Result ⊤ Refusal) → reply ≡ whole_record (length l) r → reply ≡ body_checked n type l start row
  unfolding track_checked body_checked read_body
  record_checked number is k numbered r told reply ends =
      ends ∙ ap (whole_record (length l)) (rw (numbered, is) at told)
      ∙ main_only (read_track (length l) n (take n row) (kind_of type) (drop start l))
      (track_as_written (length l) n (take n row) (kind_of type) (drop start l) (below_drop 256 start l (bytes_of l (λ i. (known i).fits))))

pub ruleset body_laws = (kind_row, phased_record, record_checked)
