-- What the functions of the code answer before a refusal has cleared the row.
-- Assumes nothing.
use Rattle.std.specs.Prelude.{ℕ, Bool, List, [], ◌++◌, map, length, take, drop, Option, Some, None, Result, Ok, Err}
use Rattle.format.specs.declared.Pair.{Pair}
use Rattle.format.specs.declared.Refusal.{Refusal}
use Rattle.format.specs.Base.{Out, ok, refused, refusal, bind, map_out}
use Rattle.format.specs.PairCode.{found}
use Rattle.format.specs.Category.{exchange_all}
use Rattle.format.specs.Packed.{one, read_packed}
use Rattle.format.specs.Difflist.{number_width, read_list}
use Rattle.format.specs.declared.Kind.{Kind}
use Rattle.format.specs.Track.{rule, apply, read_kind, track_categories}
use Rattle.format.specs.Reply.{emptied}
use Rattle.base_cursor.specs.declared.Cursor.{Cursor}
use Rattle.base_cursor.specs.Steps.{before, byte_at}
use Rattle.read_packed.specs.Unpacked.{of_pair}
use Rattle.read_list.specs.Entries.{ListLeft, list_left}
use Rattle.read_list.specs.Listed.{may_hold}
use Rattle.read_list.specs.declared.ListRule.TheVariants.{OffPair}

-- the row's first n bytes zero after a refusal
abbrev pub wiped : ℕ → ListLeft → ListLeft
wiped n (list_left (Ok c) row) = list_left (Ok c) row
wiped n (list_left (Err why) row) = list_left (Err why) (emptied n row)

-- categories in the row's first n bytes; after a refusal they are zero
abbrev pub stored : ℕ → ℕ → List ℕ → Out (List ℕ) → ListLeft
stored end n row (ok categories left) = list_left (Ok (before end left)) (categories ++ drop n row)
stored end n row (refused why) = list_left (Err why) (emptied n row)

-- the categories of a track of a kind at `start`, over the row that holds its anchor's
unfoldable pub kind_categories : ℕ → List ℕ → Kind → List ℕ → ℕ → Out (List ℕ)
kind_categories n row k l start = map_out (track_categories n (take n row)) (read_kind (length l) n (take n row) k (drop start l))

abbrev pub tracked : Kind → ℕ → List ℕ → ℕ → List ℕ → ListLeft
tracked k n l start row = stored (length l) n row (kind_categories n row k l start)

-- what a list off two categories may hold: it is against no row
abbrev pub off_both : ℕ → ℕ → ℕ → ℕ → Bool
off_both lower higher = may_hold (OffPair lower higher) []

-- "Kind 1: a pair code": its pair, with the cursor past it. 14, "pair code unknown", at "that byte"
abbrev pub pair_found : ℕ → Cursor → Option Pair → Result (Pair × Cursor) Refusal
pair_found at next (Some p) = Ok (p, next)
pair_found at next None = Err (refusal 14 at)

abbrev pub pair_step : ℕ → Result (ℕ × Cursor) Refusal → Result (Pair × Cursor) Refusal
pair_step at (Ok (code, next)) = pair_found at next (found code)
pair_step at (Err why) = Err why

unfoldable pub pair_at : List ℕ → ℕ → Result (Pair × Cursor) Refusal
pair_at l at = pair_step at (byte_at l at)

-- the bits and the list of a track of kind 1, after its pair code
unfoldable pub pair_categories : ℕ → ℕ → ℕ → List ℕ → ℕ → Out (List ℕ)
pair_categories lower higher n l at =
    bind (read_packed (length l) one n (drop at l)) (λ bits left.
    map_out (λ es. apply es (map (of_pair lower higher) bits)) (read_list (rule n (off_both lower higher)) (number_width n) (length l) left))

-- a row that a list of kind 2 or 3 was put into
abbrev pub turned : Bool → ℕ → List ℕ → List ℕ
turned inverted n row = exchange_all inverted (take n row) ++ drop n row
