-- What a flip replies and leaves, by what the opening, the set and the records were found to be.
-- Assumes nothing.
use Rattle.std.specs.Prelude.{Result, Ok, Err, ⊤}
use mathlib.Core.Path.{◌≡◌, sym, ap, ap₂, ◌∙◌, subst}
use Prim.Native.Nat.{ℕ, ◌+◌, ◌/◌, ◌%◌, ◌^◌, ◌≤◌}
use mathlib.Core.Bool.{Bool, true, false, ◌&&◌}
use mathlib.Core.List.{List, [], ◌++◌}
use lib.ListN.{length, get_or, drop, replicate, length-replicate}
use lib.Seq.{drop_at}
use lib.Dec.{eqb, leb, lit<}
use mir.Syntax.{w64}
use mir.Val.{Fits}
use native.Mathlib.Omega.{arith}
use borrow.Author.Tests.{le-leb, eq-eqb, ne_eqb}
use Rattle.format.specs.declared.Fields.{Fields}
use Rattle.format.specs.declared.Refusal.{Refusal}
use Rattle.format.specs.Base.{Out, ok, refused, refusal, bind, need_of, named}
use Rattle.format.specs.Limits.{variants_to_a_block}
use Rattle.format.specs.Body.{Body}
use Rattle.format.specs.Layout.{fields_of, Layout, fixed_of}
use Rattle.format.specs.Header.{read_layout}
use Rattle.format.specs.File.{File, file_of, layout_of_file, file_bytes, read_all, read_file, flip_bytes}
use Rattle.format.specs.Reply.{is_accepted, holds_set, holds_row, checked, emptied, member, past_last, flip_left, flip_out, flip_call}
use Rattle.format.specs.Variant.{no_variant}
use Rattle.format.proofs.Rules.{Holds}
use Rattle.format.proofs.Unique.{apart}
use Rattle.format.proofs.FileLaws.{IsFile, file_as_written}
use Rattle.head_index.specs.Stored.{Stored}
use Rattle.head_index.proofs.StoredLaws.{stored_one, stored_layout}
use Rattle.head_records.proofs.AcceptedLaws.{variants_most}
use Rattle.head_places.proofs.AcceptedLaws.{one_layout}
use Rattle.call_open.specs.Open.{Opening, Open, Shut, open_out}
use Rattle.call_open.proofs.Callers.{ready, shut, open_samples, open_variants}
use Rattle.read_file.specs.Rows.{HasRow, RecordsChecked}
use Rattle.read_file.proofs.Replies.{WasRead, Clears, checked_row, checked_accepted, checked_refused}
use Rattle.flip_phase.specs.Accepted as whole

abbrev K : ℕ
K = variants_to_a_block

-- a row emptied again
emptied_twice : (n : ℕ) (row : List ℕ) → emptied n (emptied n row) ≡ emptied n row
emptied_twice n row = ap (◌++◌ (replicate n 0)) (drop_at (replicate n 0) (drop n row) n (length-replicate n 0))

-- ---- before a record is looked at

-- what the opening refuses the call refuses: a work area that is too short is 10 whatever the set is
module _ (file set work : List ℕ) (why : Refusal) where
  -- the set's bits, and then the records
  abbrev set_checked : Layout → Out Layout
  set_checked l = need_of (no_variant (length l.bodies)) (eqb (past_last (length l.bodies) set) 0) 21 0 (checked K l)

  shut_out : (m : Out Layout) → bind m (λ l left. need_of (no_variant (length l.bodies)) (leb l.samples (length work)) 10 0 (ok l [])) ≡ refused why
      → bind m (λ l left. need_of (no_variant (length l.bodies)) (holds_set set l && holds_row work l) 10 0 (set_checked l)) ≡ refused why
  shut_out (refused x) q = q
  shut_out (ok l left) q = by_room (holds_set set l) (leb l.samples (length work)) q
    where
      by_room : (h b : Bool) → need_of (no_variant (length l.bodies)) b 10 0 (ok l []) ≡ refused why
          → need_of (no_variant (length l.bodies)) (h && b) 10 0 (set_checked l) ≡ refused why
      by_room h true q = apart (ap is_accepted q)
      by_room true false q = q
      by_room false false q = q

  -- 1 to 10
  pub flip_shut : (r : Result Fields Refusal) → Opening file (length work) r → r ≡ Err why → flip_left (Err why) file work ≡ flip_call K file set work
  unfolding flip_call
  flip_shut r e q =
      let s : Shut (open_out K file (length work)) why = shut file (length work) r why e q in
      let k : flip_out K file set work ≡ refused why = shut_out (read_layout K file) s.is in
      simp (k, s.keeps)

module _ (file set work : List ℕ) (f : Fields) (r : Result Fields Refusal) (e : Opening file (length work) r) (q : r ≡ Ok f) where
  o : Open file (length work) f
  o = ready file (length work) r f e q

  samples : f.samples ≡ o.layout.samples
  samples = open_samples file (length work) f o

  variants : f.variants ≡ length o.layout.bodies
  variants = open_variants file (length work) f o

  room : leb o.layout.samples (length work) ≡ true
  room = le-leb o.layout.samples (length work) (omega (arith, o.room, samples))

  -- 10
  pub wrong_set : (z : Refusal) → z ≡ named (no_variant f.variants) (refusal 10 0) → (length set ≡ (f.variants + 7) / 8 → ⊥)
      → flip_left (Err z) file work ≡ flip_call K file set work
  unfolding flip_call
  wrong_set z a s = rw (a, variants) (simp (o.accepted, ne_eqb (length set) ((length o.layout.bodies + 7) / 8) (λ h. s (rw variants h))))

  module _ (sized : length set ≡ (f.variants + 7) / 8) (past : ℕ) (p : past ≡ past_last f.variants set) where
    holds : eqb (length set) ((length o.layout.bodies + 7) / 8) ≡ true
    holds = eq-eqb (length set) ((length o.layout.bodies + 7) / 8) (rw (← variants) sized)

    -- 21
    pub bits_past : (z : Refusal) → z ≡ named (no_variant f.variants) (refusal 21 0) → (past ≡ 0 → ⊥)
        → flip_left (Err z) file work ≡ flip_call K file set work
    unfolding flip_call
    bits_past z a s =
        rw (a, variants) (simp (o.accepted, holds, room, ne_eqb (past_last (length o.layout.bodies) set) 0 (λ h. s (rw (p, variants) h))))

    module _ (none : past ≡ 0) (got : Result ⊤ Refusal) (work₁ : List ℕ) (d : RecordsChecked file file f work got work₁) where
      clear : eqb (past_last (length o.layout.bodies) set) 0 ≡ true
      clear = eq-eqb (past_last (length o.layout.bodies) set) 0 (rw (← variants, ← p) none)

      same : d.has.layout ≡ o.layout
      same = one_layout o.stored d.has

      left_work : work₁ ≡ emptied o.layout.samples work
      left_work = rw (← samples) (checked_row d)

      -- 12 to 18 and 23 to 25
      pub flip_records_refused : (why : Refusal) → got ≡ Err why → flip_left (Err why) file work₁ ≡ flip_call K file set work
      unfolding flip_call
      flip_records_refused why s =
          let x : Clears (read_all K o.layout) why = subst (λ (l : Layout). Clears (read_all K l) why) same (checked_refused d o.bytes why s) in
          rw left_work (simp (o.accepted, holds, room, clear, x.is, x.clears))

      -- accepted
      pub flipped_call : got ≡ Ok tt → (file₁ work₂ : List ℕ) → file₁ ≡ flip_bytes K (member set) file → work₂ ≡ emptied f.samples work₁
          → flip_left (Ok tt) file₁ work₂ ≡ flip_call K file set work
      unfolding flip_call
      flipped_call s file₁ work₂ b k =
          let still : work₂ ≡ emptied o.layout.samples work = k ∙ ap₂ emptied samples left_work ∙ emptied_twice o.layout.samples work in
          let x : WasRead (List Body) (read_all K o.layout) = subst (λ (l : Layout). WasRead (List Body) (read_all K l)) same (checked_accepted d s) in
          rw (b, still) (simp (o.accepted, holds, room, clear, x.is))

-- ---- what else a need asks

pub past_is : (set : List ℕ) (m b : ℕ) → b ≡ get_or set (m / 8) 0 → b / 2 ^ (m % 8) ≡ past_last m set
past_is set m b e = ap (λ (x : ℕ). x / 2 ^ (m % 8)) e

file_read : (bs : List ℕ) (l : Layout) (bodies : List Body) (left : List ℕ) → read_layout K bs ≡ ok l [] → read_all K l ≡ ok bodies left
    → read_file K bs ≡ ok (file_of l bodies) left
unfolding read_file
file_read bs l bodies left a b = simp (a, b)

module _ (file : List ℕ) (lent : ℕ) (f : Fields) (r : Result Fields Refusal) (e : Opening file lent r) (q : r ≡ Ok f) where
  found : Open file lent f
  found = ready file lent r f e q

  pub few : Fits w64 (f.variants + 7)
  few = omega (arith, variants_most found.stored, open_variants file lent f found)

  pub has_row : (work : List ℕ) → lent ≡ length work → HasRow file file f work
  has_row work h =
      record { has = record { layout = found.layout; stored = found.stored; fields_are = found.fields_are }; room = rw (← h) found.room }

  -- every record is accepted, so the file is
  pub whole_accepted : (work : List ℕ) (got : Result ⊤ Refusal) (work₁ : List ℕ) → RecordsChecked file file f work got work₁ → got ≡ Ok tt
      → whole.Accepted K file f
  unfolding file_bytes
  whole_accepted work got work₁ d s =
      let x : WasRead (List Body) (read_all K found.layout)
      = subst (λ (l : Layout). WasRead (List Body) (read_all K l)) (one_layout found.stored d.has) (checked_accepted d s) in
      let w : File = file_of found.layout x.value in
      let read : read_file K file ≡ ok w x.left = file_read file found.layout x.value x.left found.accepted x.is in
      let h : IsFile K file w x.left = subst (Holds (IsFile K file)) read (file_as_written K file (lit< tt) found.bytes) in
      record { whole = w; accepted = read ∙ ap (ok w) h.ended; fields_are = found.fields_are ∙ ap (λ (l : Layout). fields_of (fixed_of l)) (same_layout h) }
    where
      -- the layout of the file that was read is the one of its header
      same_layout : {w : File} {left : List ℕ} → IsFile K file w left → found.layout ≡ layout_of_file w
      same_layout {w} h =
          stored_one K file file found.layout (layout_of_file w) (lit< tt) found.stored
          (subst (λ (bs : List ℕ). Stored K bs bs (layout_of_file w)) (sym h.written) (stored_layout K (layout_of_file w) (lit< tt) h.obeys.layout))

  -- and the work area still has room for a row
  pub still_room : (work : List ℕ) → lent ≡ length work → (work₁ : List ℕ) → length work₁ ≡ length work → f.samples ≤ length work₁
  still_room work h work₁ e = omega (arith, found.room)

  -- both at once
  pub flip_ready : (work : List ℕ) → lent ≡ length work → (got : Result ⊤ Refusal) (work₁ : List ℕ) → RecordsChecked file file f work got work₁ → got ≡ Ok tt
      → length work₁ ≡ length work → whole.Accepted K file f × (f.samples ≤ length work₁)
  flip_ready work h got work₁ d s e = (whole_accepted work got work₁ d s, still_room work h work₁ e)

pub ruleset flip_laws = (flip_shut, few, wrong_set, bits_past, has_row, flip_records_refused, whole_accepted, still_room, flipped_call)
