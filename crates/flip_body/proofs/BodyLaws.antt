-- THE LAW of a body's flip: on the bytes of a body that fits it gives the bytes of its main track flipped, with what stands after that track as it was. And
-- of any bytes it keeps the length.
-- Assumes nothing.
use Rattle.std.specs.Prelude.{Option, Some, None}
use Rattle.format.specs.declared.Pair.{Pair}
use mathlib.Core.Path.{◌≡◌, refl, sym, ap, ◌∙◌}
use Prim.Native.Nat.{ℕ, zero, suc, ◌+◌, ◌-◌, ◌/◌, ◌≤◌}
use mathlib.Core.Bool.{Bool, true, false}
use mathlib.Core.List.{List, ◌∷◌, ◌++◌, map, append_assoc}
use lib.ListN.{length, get_or, take, drop, set, length-append, take-append-drop, length-set}
use lib.Dec.{leb}
use Rattle.format.specs.Base.{pick, Out, ok, refused}
use Rattle.format.specs.Category.{exchange, just_one}
use Rattle.format.specs.Packed.{one, packed}
use Rattle.format.specs.Difflist.{number_width, list_bytes}
use Rattle.format.specs.Varint.{read_varint}
use Rattle.format.specs.PairCode.{pair, image, found}
use Rattle.format.specs.Limits.{most_samples}
use Rattle.format.specs.Track.{Track, plain, one_bit, leaning, sparse, track_kind, track_leans, off_anchor, off_category, Fits}
use Rattle.format.specs.Track.{bit_number, track_bytes, revalue, flip_track}
use Rattle.format.specs.Body.{kind_of, type_leans, Body, body_type, body_leans, BodyFits}
use Rattle.format.specs.File.{next_anchor}
use Rattle.format.proofs.BodyLaws.{body_kind, body_leans_typed}
use Rattle.format.proofs.Rules.{by_test}
use Rattle.format.proofs.FlipTrackLaws.{flip_track_none}
use Rattle.flip_bytes.specs.Changed.{changed, complement}
use Rattle.flip_bytes.proofs.ChangedLaws.{changed_length}
use Rattle.flip_body.specs.Edits.{values_flipped, before_values, count_read, list_flipped, bits_turned, list_place}
use Rattle.flip_body.specs.Edits.{pair_flipped_as, pair_flipped, kind_flipped, body_flipped}
use Rattle.flip_body.proofs.EditLaws.{plain_law, list_law, pair_law}

-- a track whose bytes are flipped, whatever stands after it
kind_law : (N : ℕ) (anchor : List ℕ) (t : Track) (after : List ℕ) → N ≤ most_samples → Fits N anchor t
    → kind_flipped N (track_kind t) (track_bytes N t ++ after) ≡ track_bytes N (flip_track true true t) ++ after
unfolding track_bytes
kind_law N anchor (plain categories) after l f = plain_law N categories after f.0 f.1
kind_law N anchor (one_bit c bits es) after l f =
    let turned : List Bool = map (just_one (pair c).turns) bits in
    ap (λ (x : List ℕ). pair_flipped N ((pair c).code ∷ x)) (append_assoc (packed one (map bit_number bits)) (list_bytes (number_width N) es) after)
    ∙ pair_law N c bits es after l f.0 f.1
    ∙ ap (◌∷◌ (pair (image c)).code) (sym (append_assoc (packed one (map bit_number turned)) (list_bytes (number_width N) (revalue true es)) after))
kind_law N anchor (leaning true es) after l f = list_law N (off_anchor anchor) es after l f
kind_law N anchor (leaning false es) after l f = list_law N (off_anchor anchor) es after l f
kind_law N anchor (sparse category es) after l f = list_law N (off_category category) es after l f.1

-- the bytes see one membership only
one_membership : (N : ℕ) (lent member : Bool) (t : Track) → let one : Bool = next_anchor (track_leans t) lent member in
    track_bytes N (flip_track lent member t) ≡ track_bytes N (flip_track one one t)
unfolding track_bytes
one_membership N lent member (plain categories) = refl
one_membership N lent member (one_bit c bits es) = refl
one_membership N lent member (leaning inverted es) = refl
one_membership N lent member (sparse category es) = refl

-- the main track of a body is flipped, and what stands after it stays: its phase track, whose flip is a pass of its own
pub body_law : (N : ℕ) (anchor : List ℕ) (lent member : Bool) (body : Body) (after : List ℕ) → N ≤ most_samples → BodyFits N anchor body
    → body_flipped N (body_type body) lent member (track_bytes N body.main ++ after) ≡ track_bytes N (flip_track lent member body.main) ++ after
unfolding body_flipped
body_law N anchor lent member body after l f =
    rw (body_leans_typed N anchor body f, body_kind N anchor body f) (go (next_anchor (body_leans body) lent member))
    ∙ ap (λ (x : List ℕ). x ++ after) (sym (one_membership N lent member body.main))
  where
    go : (m : Bool) → pick m (kind_flipped N (track_kind body.main) (track_bytes N body.main ++ after)) (track_bytes N body.main ++ after)
        ≡ track_bytes N (flip_track m m body.main) ++ after
    go true = kind_law N anchor body.main after l f.0
    go false = ap (λ (t : Track). track_bytes N t ++ after) (sym (flip_track_none body.main))

-- ---- of any bytes the length stays

abbrev Keeps : List ℕ → List ℕ → Type 0
Keeps s x = length x ≡ length s

edit_length : (p : ℕ) (f : List ℕ → List ℕ) (s : List ℕ) → ((r : List ℕ) → length (f r) ≡ length r) → Keeps s (take p s ++ f (drop p s))
edit_length p f s h =
    length-append (take p s) (f (drop p s))
    ∙ ap (λ (k : ℕ). length (take p s) + k) (h (drop p s))
    ∙ sym (length-append (take p s) (drop p s))
    ∙ ap length (take-append-drop p s)

values_length : (p L : ℕ) (s : List ℕ) → Keeps s (values_flipped p L s)
unfolding values_flipped
values_length p L s =
    by_test (Keeps s) (leb (p + (L + 3) / 4) (length s)) (λ t. edit_length p (changed 4 3 exchange L) s (changed_length 4 3 exchange L)) (λ t. refl)

list_length : (N : ℕ) (s : List ℕ) → Keeps s (list_flipped N s)
unfolding list_flipped
list_length N s = go (read_varint (length s) s)
  where
    go : (m : Out ℕ) → Keeps s (count_read N s m)
    go (ok L left) = by_test (Keeps s) (leb L N) (λ t. values_length (length s - length left + before_values N L) L s) (λ t. refl)
    go (refused why) = refl

bits_length : (turns : Bool) (N : ℕ) (s : List ℕ) → Keeps s (bits_turned turns N s)
bits_length true N s = edit_length 1 (changed 2 7 complement N) s (changed_length 2 7 complement N)
bits_length false N s = refl

pair_length : (N : ℕ) (s : List ℕ) → Keeps s (pair_flipped N s)
unfolding pair_flipped
pair_length N s = by_test (Keeps s) (leb (list_place N) (length s)) (λ t. go (found (get_or s 0 0))) (λ t. refl)
  where
    go : (f : Option Pair) → Keeps s (pair_flipped_as f N s)
    go (Some p) =
        edit_length (list_place N) (list_flipped N) (bits_turned p.turns N (set s 0 p.image)) (list_length N)
        ∙ bits_length p.turns N (set s 0 p.image)
        ∙ length-set s 0 p.image
    go None = refl

kind_length : (N kind : ℕ) (s : List ℕ) → Keeps s (kind_flipped N kind s)
kind_length N zero s = values_length 0 N s
kind_length N (suc zero) s = pair_length N s
kind_length N (suc (suc kind)) s = list_length N s

pub body_length : (N type : ℕ) (lent member : Bool) (s : List ℕ) → length (body_flipped N type lent member s) ≡ length s
unfolding body_flipped
body_length N type lent member s = by_test (Keeps s) (next_anchor (type_leans type) lent member) (λ t. kind_length N (kind_of type) s) (λ t. refl)
