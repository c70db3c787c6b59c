-- No kind, and the whole record: "Lastly 13".
-- Assumes nothing.
use Rattle.std.specs.Prelude.{Result, Ok, Err, ⊤}
use mathlib.Core.Path.{◌≡◌, refl}
use Prim.Native.Nat.{ℕ, ◌≤◌, ◌<◌}
use mathlib.Core.List.{List}
use borrow.Author.Tests.{lt-ltb, le-ltb}
use Rattle.format.specs.declared.Refusal.{Refusal}
use Rattle.format.specs.Base.{Out, ok, refused, refusal}
use Rattle.format.specs.declared.Kind.TheVariants.{NoKind}
use Rattle.format.specs.Track.{read_kind}
use Rattle.format.specs.Body.{Body}
use Rattle.base_cursor.specs.declared.Cursor.{Cursor}
use Rattle.read_list.specs.Entries.{list_left}
use Rattle.read_record.specs.Rows.{wiped, kind_categories, tracked}
use Rattle.read_record.specs.Recorded.{replied, whole_record, RecordLeft, record_left, record_replied}

-- ---- the parts of what is left

abbrev pub reply_of : RecordLeft → Result ⊤ Refusal
reply_of (record_left reply row) = reply

abbrev pub row_of : RecordLeft → List ℕ
row_of (record_left reply row) = row

pub reply_as : (n : ℕ) (row : List ℕ) (m : Out Body) → reply_of (record_replied n row m) ≡ replied m
reply_as n row (ok body left) = refl
reply_as n row (refused why) = refl

-- ---- no kind

-- the row stays, which is cleared
pub no_track : (l : List ℕ) (start n : ℕ) (row : List ℕ) (why : Refusal) → why ≡ refusal 8 0 → wiped n (list_left (Err why) row) ≡ tracked NoKind n l start row
unfolding kind_categories read_kind
no_track l start n row why e = rw e refl

-- ---- the ways out of `whole_record`

module _ (end : ℕ) (got : Result Cursor Refusal) where
  pub whole_refused : (why : Refusal) → got ≡ Err why → Err why ≡ whole_record end got
  unfolding whole_record
  whole_refused why e = rw e

  module _ (c : Cursor) (e : got ≡ Ok c) where
    pub whole_left : c.at < end → (why : Refusal) → why ≡ refusal 13 c.at → Err why ≡ whole_record end got
    unfolding whole_record
    whole_left h why w = rw (e, w, lt-ltb c.at end h)

    pub whole_ended : end ≤ c.at → (Ok tt) ≡ whole_record end got
    unfolding whole_record
    whole_ended h = rw (e, le-ltb c.at end h)

pub ruleset whole_laws = (whole_refused, whole_left, whole_ended)
