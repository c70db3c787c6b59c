-- DEMAND 2, of the calls and on bytes: a record that `read` accepts, written again in its own kind and pair code, is the record, but for the bits that kind 1
-- holds for samples it also lists; a phased one with the phases that their reading gave, if it stores presence bits only where a call is unphased.
-- Assumes nothing.
use mathlib.Core.Path.{◌≡◌, refl, sym, ap, ap₂, ◌∙◌, subst}
use Prim.Native.Nat.{ℕ, zero, ◌≤◌, ◌<◌}
use native.Mathlib.Omega.{arith}
use mathlib.Core.Bool.{Bool, true, false}
use mathlib.Core.List.{List, [], ◌++◌, append-nil}
use lib.ListN.{length, get_or, take, drop}
use lib.Seq.{take_at}
use Rattle.format.specs.declared.FileVariant.{FileVariant}
use Rattle.format.specs.Base.{pick, Bytes, ok}
use Rattle.format.specs.Track.{leans, Track, track_kind, track_bytes}
use Rattle.format.specs.Phase.{PhaseTrack, phase_track_bytes, Phases, no_phases, phased, has_phases, phases_bytes}
use Rattle.format.specs.Body.{kind_of, type_phased, Body, body_bytes, BodyFits, read_body, body_categories, body_phases}
use Rattle.format.specs.Variant.{next_variant, anchor}
use Rattle.format.specs.Layout.{Layout, layout_bytes, record_start, LayoutObeys}
use Rattle.format.specs.File.{File, layout_of_file, file_bytes, read_file, type_of, variant_leans, over_as}
use Rattle.format.specs.Writer.{write_record, write_phased, track_code, cleared}
use Rattle.format.specs.Reply.{Read, read_as, read_call, phases_call, write_call, write_phased_call}
use Rattle.format.proofs.Rules.{never_both}
use Rattle.format.proofs.AnchorLaws.{anchor_is}
use Rattle.format.proofs.RowLaws.{IsRow}
use Rattle.format.proofs.HeaderLaws.{layout_unique}
use Rattle.format.proofs.FileLaws.{bodies_are_bytes, one_type_each, file_exactly}
use Rattle.format.proofs.CallRefusals.{stored_bytes}
use Rattle.format.proofs.WriteBackLaws.{lent_for}
use Rattle.format.proofs.WriteReadLaws.{read_write}
use Rattle.format.proofs.WritePhasedLaws.{StoredAsWritten, read_write_phased}
use Rattle.head_index.proofs.StoredLaws.{stored_layout}
use Rattle.head_index.proofs.StartLaws.{stored_record}
use Rattle.promises.proofs.CallLaws.{counted}
use Rattle.promises.proofs.CallPromises.{read_call_reads}
use Rattle.promises.proofs.ReadExactly.{RecordReads, VariantReads, Readable, body_is_read, over_read_back, variant_row, variant_phases_row}
use Rattle.promises.proofs.ReadExactly.{read_exactly, read_gives}
use Rattle.promises.proofs.PhasedWriteExactly.{phased_record}
use Rattle.promises.proofs.SameBytes.{own_code, WrittenAgain, cleared_length, code_in_bytes, again_of}

-- ---- what is promised

-- 01, The header: "Records stand one after another": the bytes of variant v's record, from its start to its end
abbrev pub record_bytes : ℕ → List ℕ → Layout → FileVariant → List ℕ
record_bytes K file l v = drop (record_start K l v) (take (record_start K l (next_variant v)) file)

-- "read and written again in its own kind and pair code": the categories that a read of the variant left, against those that a read of its anchor left if it
-- leans, into an output with room for the record's own length. Of a record that has no phase track:
abbrev pub IsWrittenAgain : ℕ → List ℕ → Layout → FileVariant → Read → Read → Type 0
IsWrittenAgain K file l v left anchor_left =
    type_phased (type_of l v) ≡ false → (output : List ℕ) → length (record_bytes K file l v) ≤ length output
    → WrittenAgain l.samples (kind_of (type_of l v)) (record_bytes K file l v) output
    (write_call (take l.samples left.output) (kind_of (type_of l v)) (own_code (kind_of (type_of l v)) (record_bytes K file l v))
    (pick (variant_leans l v) (take l.samples anchor_left.output) []) output)

-- 02, Ask 1: "other tracks with presence bits leave the same-bytes clause". The phase track of a record of N samples, of a kind, over an anchor's categories,
-- stores presence bits only if a call is unphased.
abbrev pub PresenceNeeded : ℕ → List ℕ → ℕ → List ℕ → Type 0
PresenceNeeded N lent number bs =
    (track : Track) (t : PhaseTrack) → track_kind track ≡ number → BodyFits N lent (phased_record track t) → bs ≡ body_bytes N (phased_record track t)
    → StoredAsWritten t

-- and of a phased record, with the phases that a reading of the variant's left
abbrev pub IsPhasedAgain : ℕ → List ℕ → Layout → FileVariant → Read → Read → Read → Type 0
IsPhasedAgain K file l v left phases-left anchor_left =
    type_phased (type_of l v) ≡ true
    → PresenceNeeded l.samples (pick (variant_leans l v) (take l.samples anchor_left.output) []) (kind_of (type_of l v)) (record_bytes K file l v)
    → (output : List ℕ) → length (record_bytes K file l v) ≤ length output
    → WrittenAgain l.samples (kind_of (type_of l v)) (record_bytes K file l v) output
    (write_phased_call (take l.samples left.output) (take l.samples phases-left.output) (kind_of (type_of l v))
    (own_code (kind_of (type_of l v)) (record_bytes K file l v)) (pick (variant_leans l v) (take l.samples anchor_left.output) []) output)

-- ---- a record that was read

picked_once : (t : Bool) (row : List ℕ) → pick t (pick t row []) [] ≡ pick t row []
picked_once true row = refl
picked_once false row = refl

-- with no phase track nothing is after the main track
no_bytes : (p : Phases) → has_phases p ≡ false → phases_bytes p ≡ []
no_bytes no_phases h = refl
no_bytes (phased t) h = never_both refl h

-- a body with a phase track
its_phases : (p : Phases) → has_phases p ≡ true → (t : PhaseTrack) × (p ≡ phased t)
its_phases no_phases h = never_both h refl
its_phases (phased t) h = (t, refl)

module _ (K : ℕ) (file : List ℕ) (l : Layout) (p : zero < K) (y : Bytes file) (h : LayoutObeys K l) (w : file ≡ layout_bytes K l) where
  abbrev N : ℕ
  N = l.samples

  abbrev first : (ℕ → List ℕ → Body → List ℕ) → FileVariant → List ℕ → List ℕ → List ℕ
  first what v output work = take N (read_as what K file v output work).output

  -- an accepted read leaves in the first N bytes what the variant reads as
  row_read : (what : ℕ → List ℕ → Body → List ℕ) (v : FileVariant) (output work : List ℕ)
      → ((m : Layout) (row : List ℕ) → LayoutObeys K m → v.0 < length m.bodies → VariantReads what K m v row → length row ≡ m.samples)
      → (read_as what K file v output work).verdict.refusal.number ≡ 0
      → Readable what K file v l (first what v output work)
  row_read what v output work wide q =
      let e = (read_exactly what K file v output work p y).0 q in
      let row : List ℕ = e.0 in
      let m : Layout = e.1.0 in
      let r : Readable what K file v m row = e.1.1 in
      let out : List ℕ = (read_as what K file v output work).output in
      let is : take m.samples out ≡ row
      = ap (take m.samples) (read_gives what K file v output work p y row e.1)
      ∙ take_at row (drop m.samples output) m.samples (wide m row r.obeys r.below r.reads) in
      subst (λ (k : Layout). Readable what K file v k (take k.samples out)) (layout_unique K m l p r.obeys h (sym r.written ∙ w))
      (subst (Readable what K file v m) (sym is) r)

  abbrev categories_of : FileVariant → List ℕ → List ℕ → List ℕ
  categories_of v output work = first body_categories v output work

  categories_read : (v : FileVariant) (output work : List ℕ) → (read_call K file v output work).verdict.refusal.number ≡ 0
      → Readable body_categories K file v l (categories_of v output work)
  unfolding read_call
  categories_read v output work q = row_read body_categories v output work (λ m row o b r. (variant_row K m v row p o b r).0) q

  phases_read : (v : FileVariant) (output work : List ℕ) → (phases_call K file v output work).verdict.refusal.number ≡ 0
      → Readable body_phases K file v l (first body_phases v output work)
  unfolding phases_call
  phases_read v output work q = row_read body_phases v output work (λ m row o b r. (variant_phases_row K m v row p o b r).0) q

  record_of : (v : FileVariant) (row : List ℕ) → Readable body_categories K file v l row → variant_leans l v ≡ false → RecordReads body_categories l [] v row
  record_of v row r s = rw s at r.reads

  -- a record reads as one row
  one_row : (lent : List ℕ) (v : FileVariant) (row other : List ℕ) → RecordReads body_categories l lent v row → RecordReads body_categories l lent v other
      → row ≡ other
  one_row lent v row other r s =
      let a : over_as body_categories K l lent v ≡ ok row [] = over_read_back K file p y l h w body_categories lent v row r in
      let b : over_as body_categories K l lent v ≡ ok other [] = over_read_back K file p y l h w body_categories lent v other s in
      cc

  module _ (v : FileVariant) (output work lent_output lent_work : List ℕ)
      (q : (read_call K file v output work).verdict.refusal.number ≡ 0)
      (k : variant_leans l v ≡ true → (read_call K file (anchor K l.types v) lent_output lent_work).verdict.refusal.number ≡ 0) where
    abbrev anchor_row : List ℕ
    anchor_row = categories_of (anchor K l.types v) lent_output lent_work

    abbrev lent : List ℕ
    lent = pick (variant_leans l v) anchor_row []

    here : Readable body_categories K file v l (categories_of v output work)
    here = categories_read v output work q

    -- over its anchor's categories, if it leans
    over : (what : ℕ → List ℕ → Body → List ℕ) (row : List ℕ) (t : Bool) → variant_leans l v ≡ t
        → pick t ((x : List ℕ) × RecordReads body_categories l [] (anchor K l.types v) x × RecordReads what l x v row) (RecordReads what l [] v row)
        → (t ≡ true → IsRow N (pick t anchor_row [])) × RecordReads what l (pick t anchor_row []) v row
    over what row false s r = (λ z. never_both z refl, r)
    over what row true s r =
        let u : FileVariant = anchor K l.types v in
        let there : Readable body_categories K file u l anchor_row = categories_read u lent_output lent_work (k s) in
        let stands : variant_leans l u ≡ false = (anchor_is K l.types p h.types v (omega (arith, here.below, one_type_each K l h)) s).stands in (
          λ z. variant_row K l u anchor_row p h there.below there.reads,
          subst (λ (x : List ℕ). RecordReads what l x v row) (one_row [] u r.0 anchor_row r.1 (record_of u anchor_row there stands)) r.2,
        )

    lent_row : variant_leans l v ≡ true → IsRow N lent
    lent_row = (over body_categories (categories_of v output work) (variant_leans l v) refl here.reads).0

    reads : RecordReads body_categories l lent v (categories_of v output work)
    reads = (over body_categories (categories_of v output work) (variant_leans l v) refl here.reads).1

    -- ---- the record, its bytes and its main track

    abbrev track : Track
    track = reads.body.main

    abbrev number : ℕ
    number = kind_of (type_of l v)

    abbrev bs : List ℕ
    bs = record_bytes K file l v

    abbrev after : List ℕ
    after = phases_bytes reads.body.phases

    stored_are : Bytes (get_or l.bodies v.0 [])
    stored_are = stored_bytes v.0 l.bodies (bodies_are_bytes K file l y w)

    bytes_are : bs ≡ track_bytes N track ++ after
    bytes_are =
        ap (λ (x : List ℕ). record_bytes K x l v) w ∙ stored_record K _ _ l (stored_layout K l p h) v here.below ∙ reads.written

    code_is : own_code number bs ≡ track_code track
    code_is = ap₂ own_code (sym reads.typed) bytes_are ∙ sym (code_in_bytes N track after)

    same_lent : lent_for track lent ≡ lent
    same_lent = ap (λ (n : ℕ). pick (leans n) lent []) reads.typed ∙ picked_once (variant_leans l v) anchor_row

    room_there : (room : List ℕ) → length bs ≤ length room → length (track_bytes N (cleared track) ++ after) ≤ length room
    room_there room fits = omega (arith, fits, ap length bytes_are, cleared_length N lent track after reads.fits.0)

    -- DEMAND 2: "gives the same bytes, except the bits that kind 1 holds for samples it also lists"
    pub written_again : IsWrittenAgain K file l v (read_call K file v output work) (read_call K file (anchor K l.types v) lent_output lent_work)
    unfolding read_call write_call
    written_again plain room fits =
        let end : ℕ = record_start K l (next_variant v) in
        let stored : List ℕ = get_or l.bodies v.0 [] in
        let none : after ≡ [] = no_bytes reads.body.phases (reads.phased ∙ plain) in
        let bare : track_bytes N (cleared track) ++ after ≡ track_bytes N (cleared track)
        = ap (◌++◌ (track_bytes N (cleared track))) none ∙ append-nil (track_bytes N (cleared track)) in
        let size : length (track_bytes N (cleared track)) ≤ length room = omega (arith, room_there room fits, ap length bare) in
        let is : read_body end N lent (type_of l v) stored ≡ ok reads.body [] = body_is_read K file p y l h w body_categories lent v _ reads in
        let e = read_write end N lent (type_of l v) stored reads.body (length room) h.fixed.samples stored_are lent_row is size in
        let wrote : write_record (categories_of v output work) number (own_code number bs) lent (length room) ≡ ok (track_bytes N (cleared track) ++ after) []
        = rw (reads.stands_for, code_is, bare) (rw same_lent at e) in
        rw bytes_are (again_of N lent track after number (write_record _ _ _ _ _) room reads.fits.0 reads.typed (rw bytes_are at wrote))

    module _ (phases_output phases_work : List ℕ) (q₂ : (phases_call K file v phases_output phases_work).verdict.refusal.number ≡ 0) where
      abbrev phases_given : List ℕ
      phases_given = first body_phases v phases_output phases_work

      there : RecordReads body_phases l lent v phases_given
      there = (over body_phases phases_given (variant_leans l v) refl (phases_read v phases_output phases_work q₂).reads).1

      -- both read one body
      same_body : there.body ≡ reads.body
      same_body =
          let a = body_is_read K file p y l h w body_categories lent v _ reads in
          let b = body_is_read K file p y l h w body_phases lent v phases_given there in
          cc

      -- the same of a phased record
      pub phased_again : IsPhasedAgain K file l v (read_call K file v output work) (phases_call K file v phases_output phases_work)
          (read_call K file (anchor K l.types v) lent_output lent_work)
      unfolding read_call phases_call write_phased_call
      phased_again has needed room fits =
          let end : ℕ = record_start K l (next_variant v) in
          let stored : List ℕ = get_or l.bodies v.0 [] in
          let found = its_phases reads.body.phases (reads.phased ∙ has) in
          let t : PhaseTrack = found.0 in
          let body_is : reads.body ≡ phased_record track t = ap (λ (x : Phases). body_of track x) found.1 in
          let after_is : after ≡ phase_track_bytes t = ap phases_bytes found.1 in
          let own : StoredAsWritten t
          = needed track t reads.typed (subst (BodyFits N lent) body_is reads.fits) (bytes_are ∙ ap (◌++◌ (track_bytes N track)) after_is) in
          let is : read_body end N lent (type_of l v) stored ≡ ok (phased_record track t) []
          = body_is_read K file p y l h w body_categories lent v _ reads ∙ ap (λ (x : Body). ok x []) body_is in
          let size : length (track_bytes N (cleared track) ++ phase_track_bytes t) ≤ length room = rw after_is at (room_there room fits) in
          let e = read_write_phased end N lent (type_of l v) stored track t (length room) h.fixed.samples stored_are lent_row is own size in
          let phases_are : phases_given ≡ body_phases N lent (phased_record track t)
          = there.stands_for ∙ ap (body_phases N lent) (same_body ∙ body_is) in
          let wrote : write_phased (categories_of v output work) phases_given number (own_code number bs) lent (length room)
          ≡ ok (track_bytes N (cleared track) ++ after) []
          = rw (reads.stands_for, phases_are, code_is, after_is) (rw same_lent at e) in
          rw bytes_are (again_of N lent track after number (write_phased _ _ _ _ _ _) room reads.fits.0 reads.typed (rw bytes_are at wrote))
        where
          body_of : Track → Phases → Body
          body_of track x = record { main = track; phases = x }

-- ---- of a file that the whole-file check accepts

module _ (K : ℕ) (file : List ℕ) (f : File) (p : zero < K) (y : Bytes file) (e : read_file K file ≡ ok f [])
    (v : FileVariant) (there : v.0 < length f.bodies) (output work lent_output lent_work : List ℕ)
    (o : f.samples ≤ length output) (w : f.samples ≤ length work) (o₂ : f.samples ≤ length lent_output) (w₂ : f.samples ≤ length lent_work) where
  -- so of every variant of an accepted file, where each read is lent N bytes
  pub file_written_again : IsWrittenAgain K file (layout_of_file f) v (read_call K file v output work)
      (read_call K file (anchor K (layout_of_file f).types v) lent_output lent_work)
  unfolding file_bytes
  file_written_again =
      let l : Layout = layout_of_file f in
      let g = (file_exactly K file f p y).0 e in
      let reads : (u : FileVariant) → u.0 < length f.bodies → (x z : List ℕ) → f.samples ≤ length x → f.samples ≤ length z
      → (read_call K file u x z).verdict.refusal.number ≡ 0
      = λ u b x z a c. rw g.1 (read_call_reads K f u p g.0 b x z a c).0 in
      let count : length l.types ≡ length f.bodies = one_type_each K l g.0.layout ∙ counted f in
      written_again K file l p y g.0.layout g.1 v output work lent_output lent_work (reads v there output work o w) (λ t.
      reads (anchor K l.types v) (omega (arith, count, (anchor_is K l.types p g.0.layout.types v (omega (arith, count)) t).before))
      lent_output lent_work o₂ w₂)
