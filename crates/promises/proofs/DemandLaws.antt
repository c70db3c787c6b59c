-- What the three demands say of a call, where the laws speak of its parts.
-- Assumes nothing.
use Rattle.std.specs.Prelude.{Result, Ok, Err, is_ok, ⊤}
use mathlib.Core.Path.{◌≡◌, refl, sym, ap, ◌∙◌, subst}
use Prim.Native.Nat.{ℕ, min}
use mathlib.Core.Bool.{Bool, true, false, not, ◌||◌}
use mathlib.Core.List.{List, [], ◌∷◌, ◌++◌}
use lib.ListN.{length, get_or, take, drop}
use lib.Dec.{eqb, lit<}
use lib.Seq.{take-append_seam}
use native.Mathlib.Omega.{arith}
use Rattle.format.specs.declared.Refusal.{Refusal}
use Rattle.format.specs.Base.{pick, Bytes, Out, ok, refused, refusal, map_out}
use Rattle.format.specs.Classes.{writer_numbers, among}
use Rattle.format.specs.Limits.{variants_to_a_block}
use Rattle.format.specs.Body.{read_body, body_categories, type_leans}
use Rattle.format.specs.Layout.{Layout}
use Rattle.format.specs.File.{File, layout_of_file, file_bytes, Obeys, flip_file, pgen_file, flip_bytes}
use Rattle.format.specs.Writer.{write_record}
use Rattle.format.specs.Reply.{refusal_of, Verdict, verdict, given, keeps_work, write_call, member, flip_call}
use Rattle.format.proofs.Rules.{Holds, by_test, never_both}
use Rattle.format.proofs.Refuses.{Refuses, Among, every, not_none}
use Rattle.format.proofs.CallRefusals.{WriteNumber, write_refusals}
use Rattle.format.proofs.WriteReadLaws.{ReadsBack, write_read}
use Rattle.format.proofs.FileLaws.{file_exactly, file_unique}
use Rattle.format.proofs.ContainerLaws
use Rattle.format.proofs.FlipLaws.{SameLayout, flip_layout, flip_obeys, pgen_laws}
use Rattle.head_places.specs.declared.Place.{Place}
use Rattle.read_record.specs.Recorded.{RecordLeft, record_left}
use Rattle.call_rows.specs.declared.Rows.{Rows}
use Rattle.call_rows.specs.Calls.{anchor_reply, next_record, Left, row_left, past, answered, alone, leaning, read_at, stepped, next_row_in}
use Rattle.call_rows.specs.Calls.{next_row_call}
use Rattle.call_rows.specs.Phased.{LeftPhased, phased_stepped, next_phased_row_in, next_phased_row_call}
use Rattle.call_rows.proofs.RowRefusals.{next_row_numbers, StepNames, next_row_refusals, next_row_names, refused_next_row, refused_next_row_stays}
use Rattle.call_rows.proofs.PhasedRows.{refused_phases, next_phased_row_refusals, next_phased_row_names, refused_next_phased_row}
use Rattle.call_rows.proofs.PhasedRows.{refused_next_phased_row_stays}
use Rattle.promises.proofs.FlipPromises.{done}
use Rattle.promises.proofs.KeptPlaces.{Outside, call_keeps}

abbrev K : ℕ
K = variants_to_a_block

-- ---- a reply's number

-- Of a view, which leaves a number alone: 0, or one of the class
abbrev pub OneOf : List ℕ → Refusal → Type 0
OneOf class why = among (0 ∷ class) why.number ≡ true

pub one_of : {A : Type 0} (class : List ℕ) (out : Out A) → Refuses (Among class) out → OneOf class (refusal_of out)
one_of class (ok a left) r = refl
one_of class (refused why) r = go (eqb why.number 0)
  where
    go : (b : Bool) → (b || among class why.number) ≡ true
    go true = refl
    go false = r

-- 01, Replies: "An accepted call has refusal 0 and place 0." A refused one has a number of the class, and 0 is none.
pub record Numbered (class : List ℕ) (reply : Verdict) : Type 0 where
  pub if_accepted : reply.accepted ≡ true → reply.refusal ≡ refusal 0 0
  pub if_refused : reply.accepted ≡ false → among class reply.refusal.number ≡ true
  pub if_zero : reply.refusal.number ≡ 0 → reply.accepted ≡ true

made_numbered : (class : List ℕ) → every (λ (n : ℕ). not (eqb n 0)) class ≡ true → (reply : Verdict)
    → (reply.accepted ≡ true → reply.refusal ≡ refusal 0 0) → (reply.accepted ≡ false → Among class reply.refusal.number) → Numbered class reply
made_numbered class t reply a r = record { if_accepted = a; if_refused = r; if_zero = λ z. go reply.accepted refl z }
  where
    go : (b : Bool) → reply.accepted ≡ b → reply.refusal.number ≡ 0 → b ≡ true
    go true e z = refl
    go false e z = absurd (not_none class t (subst (Among class) z (r e)))

pub verdict_numbered : {A : Type 0} (class : List ℕ) → every (λ (n : ℕ). not (eqb n 0)) class ≡ true → (out : Out A) → Refuses (Among class) out
    → Numbered class (verdict out)
verdict_numbered {A = A} class t (ok a left) r = made_numbered class t (verdict {A = A} (ok a left)) (λ e. refl) (λ e. never_both refl e)
verdict_numbered {A = A} class t (refused why) r = made_numbered class t (verdict {A = A} (refused why)) (λ e. never_both e refl) (λ e. r)

-- so what has another number than 0 was refused
told_refused : {class : List ℕ} {reply : Verdict} → Numbered class reply → (reply.refusal.number ≡ 0 → ⊥) → reply.accepted ≡ false
told_refused {reply = reply} n h = go reply.accepted refl
  where
    go : (b : Bool) → reply.accepted ≡ b → b ≡ false
    go true e = absurd (h (ap (λ (why : Refusal). why.number) (n.if_accepted e)))
    go false e = refl

-- ---- a step of rows

-- what a refused step names is so of any reply: an accepted one has number 0
either_names : (rows : Rows) (reply : Verdict) → (reply.accepted ≡ true → reply.refusal ≡ refusal 0 0)
    → (reply.accepted ≡ false → StepNames rows reply.refusal) → StepNames rows reply.refusal
either_names rows reply plain names = go reply.accepted refl
  where
    none : StepNames rows (refusal 0 0)
    none = record { names_zero = λ t. absurd (omega arith); names_none = λ t. never_both t refl; names_type = λ t. absurd (omega arith) }

    go : (b : Bool) → reply.accepted ≡ b → StepNames rows reply.refusal
    go true e = subst (StepNames rows) (sym (plain e)) none
    go false e = names e

module _ (rows : Rows) (file output work : List ℕ) where
  -- an accepted one has refusal 0 and place 0
  abbrev Plain : Left → Type 0
  Plain left = left.verdict.accepted ≡ true → left.verdict.refusal ≡ refusal 0 0

  alone_plain : (end : ℕ) (x : RecordLeft) → Plain (alone rows end output x)
  alone_plain end (record_left (Ok tt) row) = λ e. refl
  alone_plain end (record_left (Err why) row) = λ e. never_both e refl

  leaning_plain : (end : ℕ) (x : RecordLeft) → Plain (leaning rows end output work x)
  leaning_plain end (record_left (Ok tt) row) = λ e. refl
  leaning_plain end (record_left (Err why) row) = λ e. never_both e refl

  anchored_plain : (reply : Result ⊤ Refusal) (later : Rows) (left : Left) → Plain left
      → Plain (pick (is_ok reply) left (row_left (answered later reply) output work))
  anchored_plain (Ok tt) later left k = k
  anchored_plain (Err why) later left k = λ e. never_both e refl

  stepped_plain : (m : Out Place) → Plain (stepped rows file output work m)
  stepped_plain (refused why) = λ e. never_both e refl
  stepped_plain (ok p left) =
      by_test Plain (type_leans p.record_type)
      (λ t. anchored_plain (anchor_reply rows.anchor) (past rows p.end rows.anchor) _ (leaning_plain p.end (read_at rows file p _)))
      (λ t. alone_plain p.end (read_at rows file p work))

  step_plain : Plain (next_row_call rows file output work)
  unfolding next_row_call next_row_in
  step_plain = stepped_plain (next_record rows file file (length output) (length work))

  module _ (y : Bytes file) where
    pub step_numbered : Numbered next_row_numbers (next_row_call rows file output work).verdict
    step_numbered =
        made_numbered next_row_numbers refl (next_row_call rows file output work).verdict step_plain (next_row_refusals rows file output work y)

    pub step_names : StepNames rows (next_row_call rows file output work).verdict.refusal
    step_names = either_names rows (next_row_call rows file output work).verdict step_plain (next_row_names rows file output work y)

    module _ (h : (next_row_call rows file output work).verdict.refusal.number ≡ 0 → ⊥) where
      pub step_untouched : (next_row_call rows file output work).output ≡ output
      step_untouched = refused_next_row rows file output work y (told_refused step_numbered h)

      pub step_stays : keeps_work (next_row_call rows file output work).verdict.refusal.number ≡ true
          → ((next_row_call rows file output work).rows ≡ rows) × ((next_row_call rows file output work).work ≡ work)
      step_stays = refused_next_row_stays rows file output work y (told_refused step_numbered h)

  -- and one that gives phases too
  module _ (phases : List ℕ) where
    abbrev both : LeftPhased
    both = next_phased_row_call rows file output phases work

    both_stepped_plain : (m : Out Place) → Plain (phased_stepped rows file output phases work m).row
    both_stepped_plain (refused why) = λ e. never_both e refl
    both_stepped_plain (ok p left) =
        by_test (λ (x : LeftPhased). Plain x.row) (type_leans p.record_type)
        (λ t. anchored_plain (anchor_reply rows.anchor) (past rows p.end rows.anchor) _ (leaning_plain p.end (read_at rows file p _)))
        (λ t. alone_plain p.end (read_at rows file p work))

    both_plain : Plain both.row
    unfolding next_phased_row_call next_phased_row_in
    both_plain = both_stepped_plain (next_record rows file file (min (length output) (length phases)) (length work))

    module _ (y : Bytes file) where
      pub both_numbered : Numbered next_row_numbers both.row.verdict
      both_numbered =
          made_numbered next_row_numbers refl both.row.verdict both_plain (λ e. next_phased_row_refusals rows file output phases work e y)

      pub both_names : StepNames rows both.row.verdict.refusal
      both_names = either_names rows both.row.verdict both_plain (λ e. next_phased_row_names rows file output phases work e y)

      module _ (h : both.row.verdict.refusal.number ≡ 0 → ⊥) where
        denied : both.row.verdict.accepted ≡ false
        denied = told_refused both_numbered h

        pub both_untouched : (both.row.output ≡ output) × (both.phases ≡ phases)
        both_untouched = (refused_next_phased_row rows file output phases work denied y, refused_phases rows file output phases work denied)

        pub both_stays : keeps_work both.row.verdict.refusal.number ≡ true → (both.row.rows ≡ rows) × (both.row.work ≡ work)
        both_stays = refused_next_phased_row_stays rows file output phases work denied y

-- ---- the writer, and flips

-- what the writer wrote is read back, wherever in a file it stands
pub written_back : (categories : List ℕ) (number code : ℕ) (anchor output : List ℕ)
    → (write_call categories number code anchor output).verdict.refusal.number ≡ 0 → (end : ℕ)
    → map_out (body_categories (length categories) anchor) (read_body end (length categories) anchor number
    (take (write_call categories number code anchor output).count (write_call categories number code anchor output).output)) ≡ ok categories []
unfolding write_call
written_back categories number code anchor output e end =
    go (write_record categories number code anchor (length output)) (write_read categories number code anchor (length output))
    (write_refusals categories number code anchor (length output)) e
  where
    go : (out : Out (List ℕ)) → Holds (ReadsBack number anchor categories) out → Refuses WriteNumber out → (refusal_of out).number ≡ 0
        → map_out (body_categories (length categories) anchor) (read_body end (length categories) anchor number
        (take (given length 0 out) (given (λ (bs : List ℕ). bs ++ drop (length bs) output) output out))) ≡ ok categories []
    go (ok bs left) h r q =
        ap (λ (x : List ℕ). map_out (body_categories (length categories) anchor) (read_body end (length categories) anchor number x))
        (take-append_seam bs (drop (length bs) output))
        ∙ h.0 end
    go (refused why) h r q = absurd (not_none writer_numbers refl (rw q at r))

-- what a flip keeps, of any file that obeys: the file of the bytes is one
pub kept_places : (file set work : List ℕ) (f : File) → Bytes file → Obeys K f → file ≡ file_bytes K f
    → (flip_call K file set work).verdict.refusal.number ≡ 0 → (place : ℕ) → Outside K (layout_of_file f) place
    → get_or (flip_call K file set work).file place 0 ≡ get_or file place 0
kept_places file set work f y h w q place o =
    let d = done file set work y q in
    let same : layout_of_file d.whole ≡ layout_of_file f
    = ap (given layout_of_file (layout_of_file f)) (sym d.accepted ∙ (file_exactly K file f (lit< tt) y).1 (h, w)) in
    call_keeps file set work y q place (subst (λ (l : Layout). Outside K l place) (sym same) o)

-- what a flip leaves is the bytes of one file that obeys, and its layout is the same
pub same_layout : (file set work : List ℕ) (f g : File) → Bytes file → Obeys K f → file ≡ file_bytes K f
    → (flip_call K file set work).verdict.refusal.number ≡ 0 → Obeys K g → (flip_call K file set work).file ≡ file_bytes K g
    → SameLayout K (layout_of_file f) (layout_of_file g)
unfolding flip_bytes
same_layout file set work f g y h w q o e =
    let left : (flip_call K file set work).file ≡ file_bytes K (flip_file (member set) f)
    = (done file set work y q).flipped ∙ ContainerLaws.stored_flip (pgen_file K) (pgen_laws K (lit< tt)) (member set) file f h w in
    let same : flip_file (member set) f ≡ g
    = file_unique K (flip_file (member set) f) g (lit< tt) (flip_obeys K (member set) f h) o (sym left ∙ e) in
    subst (λ (x : File). SameLayout K (layout_of_file f) (layout_of_file x)) same (flip_layout K (member set) f)
