-- Started on a file and stepped, the v-th call gives exactly what `read` of variant v gives, refusals too.
-- Assumes nothing.
use Rattle.std.specs.Prelude.{Ok, Err}
use mathlib.Core.Path.{◌≡◌, refl, sym, ap, ◌∙◌, subst}
use Prim.Native.Nat.{ℕ, zero, suc, ◌≤◌, ◌<◌}
use native.Mathlib.Nat.{add-zero}
use mathlib.Core.List.{List, [], ◌++◌}
use lib.ListN.{length, drop}
use lib.Dec.{lit<}
use native.Mathlib.Omega.{arith}
use borrow.Author.Tests.{le-leb, lt-leb, lt-ltb, le-ltb}
use Rattle.format.specs.declared.Refusal.{Refusal}
use Rattle.format.specs.Base.{Bytes, Out, ok, refused, refusal, named, refuse_of}
use Rattle.format.specs.Limits.{variants_to_a_block}
use Rattle.format.specs.Variant.{file_variant, no_variant}
use Rattle.format.specs.Layout.{fields_of, sum, first_record, Layout, LayoutObeys, fixed_of, record_start}
use Rattle.format.specs.Header.{read_layout}
use Rattle.format.specs.File.{read_variant}
use Rattle.format.specs.Reply.{verdict, given, read_out, read_call}
use Rattle.format.proofs.Rules.{split, never_both}
use Rattle.format.proofs.AnchorLaws.{stands_at}
use Rattle.format.proofs.FileLaws.{one_type_each}
use Rattle.head_index.specs.Stored.{Stored}
use Rattle.head_index.proofs.StoredLaws.{stored_whole}
use Rattle.call_rows.specs.declared.Rows.{Rows}
use Rattle.call_rows.specs.Calls.{first_row, start_rows_call, state_checked, Left, row_left, answered, next_row_call}
use Rattle.call_rows.proofs.Started.{FromStart, from_start}
use Rattle.call_rows.proofs.StateLaws.{short_output, not_below}
use Rattle.call_rows.proofs.RecordLaws.{not_next, not_found}
use Rattle.promises.proofs.StepIsRead.{state, Before, Stepped, steps}

abbrev K : ℕ
K = variants_to_a_block

-- ---- the calls, one after another

-- what one call hands to the next
pub record At : Type 0 where
  pub rows : Rows
  pub work : List ℕ

abbrev pub after : Left → At
after left = record { rows = left.rows; work = left.work }

-- a call, from a state and a work area
abbrev pub called : List ℕ → At → List ℕ → Left
called file at output = next_row_call at.rows file output at.work

-- after v calls, each with an output of its own
unfoldable pub walked : List ℕ → (ℕ → List ℕ) → At → ℕ → At
walked file outputs at zero = at
walked file outputs at (suc v) = after (called file (walked file outputs at v) (outputs v))

-- from a start
abbrev pub from : Rows → List ℕ → At
from rows work = record { rows = rows; work = work }

-- ---- what is to be shown

-- number, place, variant and output are those of a read of variant v; the work area, which a read clears, is left out
abbrev pub AsRead : List ℕ → List ℕ → ℕ → List ℕ → Left → Type 0
AsRead file work v output left =
    (left.verdict ≡ (read_call K file (file_variant v) output work).verdict) × (left.output ≡ (read_call K file (file_variant v) output work).output)

module _ (file work₀ : List ℕ) (y : Bytes file) (l : Layout) (a : read_layout K file ≡ ok l []) (w₀ : l.samples ≤ length work₀) where
  abbrev N : ℕ
  N = l.samples

  abbrev M : ℕ
  M = length l.bodies

  stored : Stored K file file l
  stored = stored_whole K file l (lit< tt) y a

  obeys : LayoutObeys K l
  obeys = stored.obeys

  abbrev first : Rows
  first = first_row (fields_of (fixed_of l))

  pub begins : Before l work₀ 0 first work₀
  unfolding record_start sum
  begins = record {
    reply = Ok tt;
    state_is =
        ap (λ (start : ℕ). record { fields = fields_of (fixed_of l); variant = file_variant 0; start = start; anchor = Ok tt })
        (sym (add-zero (first_record K (fixed_of l))));
    reached = omega arith;
    holds = refl;
    rest_is = refl;
    told = λ m t.
        never_both t (stands_at K l.types (lit< tt) obeys.types (file_variant 0) (omega (arith, one_type_each K l obeys)) refl);
  }

  -- 10 and 11 name no variant
  abbrev none_named : ℕ → Refusal
  none_named number = named (no_variant M) (refusal number 0)

  -- ---- calls that are refused leave the state

  module _ (v : ℕ) (rows : Rows) (work output : List ℕ) (k : Before l work₀ v rows work) where
    abbrev st : Rows
    st = state l v k.reply

    -- by the state alone
    stays_at : (why : Refusal) → refused why ≡ state_checked st (length output) (length work)
        → row_left (answered rows (Err why)) output work ≡ next_row_call rows file output work
    unfolding next_row_call
    stays_at why e = rw k.state_is (not_found st file file output work why (not_next st file file (length output) (length work) why e))

    too_short : length output < N → row_left (answered rows (Err (none_named 10))) output work ≡ next_row_call rows file output work
    too_short h = stays_at (none_named 10) (short_output st (length output) (length work) obeys.fixed.variants obeys.fixed.samples h)

    none_left : N ≤ length output → M ≤ v → row_left (answered rows (Err (none_named 11))) output work ≡ next_row_call rows file output work
    none_left o h =
        stays_at (none_named 11)
        (not_below st (length output) (length work) obeys.fixed.variants obeys.fixed.samples o (omega (arith, k.holds)) h)

    pub moves_on : v < M → N ≤ length output → Stepped l work₀ v output (read_variant K l (file_variant v)) (next_row_call rows file output work)
    unfolding next_row_call
    moves_on h o = steps file file y l stored work₀ w₀ v rows work output k h o

  -- ---- what a read gives

  module _ (v : ℕ) (output : List ℕ) where
    as_read : (m : Out (List ℕ)) → read_out K file (file_variant v) output work₀ ≡ m → (left : Left) → left.verdict ≡ verdict m
        → left.output ≡ given (λ (row : List ℕ). row ++ drop N output) output m → AsRead file work₀ v output left
    unfolding read_call
    as_read m e left r q = (
      r ∙ ap (λ (z : Out (List ℕ)). verdict z) (sym e),
      q ∙ ap (λ (z : Out (List ℕ)). given (λ (row : List ℕ). row ++ drop N output) output z) (sym e)
          ∙ ap (λ (n : ℕ). given (λ (row : List ℕ). row ++ drop n output) output (read_out K file (file_variant v) output work₀))
          (ap (λ (z : Out Layout). given (λ (l : Layout). l.samples) 0 z) (sym a)),
    )

    read_short : length output < N → read_out K file (file_variant v) output work₀ ≡ refuse_of (no_variant M) 10 0
    read_short h = simp (a, lt-leb N (length output) h)

    read_none : N ≤ length output → M ≤ v → read_out K file (file_variant v) output work₀ ≡ refuse_of (no_variant M) 11 0
    read_none o h = simp (a, le-leb N (length output) o, le-leb N (length work₀) w₀, le-ltb v M h)

    read_one : N ≤ length output → v < M → read_out K file (file_variant v) output work₀ ≡ read_variant K l (file_variant v)
    read_one o h = simp (a, le-leb N (length output) o, le-leb N (length work₀) w₀, lt-ltb v M h)

  -- ---- after v calls

  -- the state stands before variant v, or none is left
  pub data Reached (v : ℕ) (at : At) : Type 0 where
    within : Before l work₀ v at.rows at.work → Reached v at
    beyond : M ≤ v → Before l work₀ M at.rows at.work → Reached v at

  stays : (v : ℕ) (at : At) (output : List ℕ) → N ≤ length output → M ≤ v → Before l work₀ M at.rows at.work
      → Reached (suc v) (after (called file at output))
  stays v at output o h k =
      subst (λ (left : Left). Reached (suc v) (after left)) (none_left M at.rows at.work output k o (omega arith)) (beyond (omega arith) k)

  on : (v : ℕ) (at : At) (output : List ℕ) → N ≤ length output → Reached v at → Reached (suc v) (after (called file at output))
  on v at output o (within k) =
      split M v (λ h.
      let e : v ≡ M = omega (arith, k.reached) in
      stays v at output o h (subst (λ (u : ℕ). Before l work₀ u at.rows at.work) e k)) (λ h.
      within (moves_on v at.rows at.work output k h o).next)
  on v at output o (beyond h k) = stays v at output o h k

  pub reach : (outputs : ℕ → List ℕ) (v : ℕ) → ((u : ℕ) → u < v → N ≤ length (outputs u)) → Reached v (walked file outputs (from first work₀) v)
  unfolding walked
  reach outputs zero each = within begins
  reach outputs (suc v) each =
      on v (walked file outputs (from first work₀) v) (outputs v) (each v (omega arith)) (reach outputs v (λ u h. each u (omega arith)))

  -- where the read is refused, and the call refuses alike and leaves the state
  refused_alike : (v : ℕ) (at : At) (output : List ℕ) (why : Refusal) → row_left (answered at.rows (Err why)) output at.work ≡ called file at output
      → read_out K file (file_variant v) output work₀ ≡ refused why → AsRead file work₀ v output (called file at output)
  refused_alike v at output why e q =
      subst (AsRead file work₀ v output) e (as_read v output (refused why) q (row_left (answered at.rows (Err why)) output at.work) refl refl)

  gives : (v : ℕ) (at : At) (output : List ℕ) → Reached v at → AsRead file work₀ v output (called file at output)
  gives v at output (within k) =
      split N (length output) (λ o.
      split M v (λ h.
      refused_alike v at output (none_named 11) (none_left v at.rows at.work output k o h) (read_none v output o h)) (λ h.
      let s = moves_on v at.rows at.work output k h o in
      as_read v output (read_variant K l (file_variant v)) (read_one v output o h) (called file at output) s.verdict_is s.output_is)) (λ h.
      refused_alike v at output (none_named 10) (too_short v at.rows at.work output k h) (read_short v output h))
  gives v at output (beyond m k) =
      split N (length output) (λ o.
      refused_alike v at output (none_named 11) (none_left M at.rows at.work output k o (omega arith)) (read_none v output o m)) (λ h.
      refused_alike v at output (none_named 10) (too_short M at.rows at.work output k h) (read_short v output h))

-- The v-th call, counted from 0, gives what `read` of variant v gives: for every v, also past the last, and for every output, also a short one. Of the
-- outputs lent before, each held N bytes: a call that is refused with 10 does not move on.
pub rows_are_reads : (file work : List ℕ) (rows : Rows) → Bytes file → start_rows_call file work ≡ ok rows []
    → (outputs : ℕ → List ℕ) (v : ℕ) → ((u : ℕ) → u < v → rows.fields.samples ≤ length (outputs u)) → (output : List ℕ)
    → AsRead file work v output (called file (walked file outputs (from rows work) v) output)
rows_are_reads file work rows y e outputs v each output =
    let s : FromStart file work rows = from_start file work rows y e in
    let l : Layout = s.layout in
    let held : (u : ℕ) → u < v → l.samples ≤ length (outputs u)
    = λ u h. subst (λ (r : Rows). r.fields.samples ≤ length (outputs u)) s.rows_are (each u h) in
    subst (λ (r : Rows). AsRead file work v output (called file (walked file outputs (from r work) v) output)) (sym s.rows_are)
    (gives file work y l s.is_accepted s.room v (walked file outputs (from (first_row (fields_of (fixed_of l))) work) v) output
    (reach file work y l s.is_accepted s.room outputs v held))

-- And through all of them the state keeps the file's fields.
pub fields_kept : (file work : List ℕ) (rows : Rows) → Bytes file → start_rows_call file work ≡ ok rows []
    → (outputs : ℕ → List ℕ) (v : ℕ) → ((u : ℕ) → u < v → rows.fields.samples ≤ length (outputs u))
    → (walked file outputs (from rows work) v).rows.fields ≡ rows.fields
fields_kept file work rows y e outputs v each =
    let s : FromStart file work rows = from_start file work rows y e in
    let l : Layout = s.layout in
    subst (λ (r : Rows). (walked file outputs (from r work) v).rows.fields ≡ r.fields) (sym s.rows_are)
    (go (reach file work y l s.is_accepted s.room outputs v
    (λ u h. subst (λ (r : Rows). r.fields.samples ≤ length (outputs u)) s.rows_are (each u h))))
  where
    go : {l : Layout} {a : read_layout K file ≡ ok l []} {w₀ : l.samples ≤ length work} {v : ℕ} {at : At} → Reached file work y l a w₀ v at
        → at.rows.fields ≡ fields_of (fixed_of l)
    go (within k) = ap (λ (r : Rows). r.fields) k.state_is
    go (beyond m k) = ap (λ (r : Rows). r.fields) k.state_is
