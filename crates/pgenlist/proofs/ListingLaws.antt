-- What holds while a file is listed: the whole-file check has accepted it, so no row is refused.
-- Assumes nothing.
use Rattle.std.specs.Prelude.{Result, Ok, Err, ⊤}
use mathlib.Core.Path.{◌≡◌, refl, sym, ap, ◌∙◌, subst}
use Prim.Native.Nat.{ℕ, suc, ◌-◌, ◌≤◌, ◌<◌}
use mathlib.Core.Bool.{true}
use mathlib.Core.List.{List, ◌++◌}
use lib.ListN.{length, get_or, drop, length-append}
use Rattle.std.proofs.lemmas.List.{length-drop}
use Rattle.format.specs.declared.Refusal.{Refusal}
use lib.Dec.{lit<}
use mir.Syntax.{w8}
use mir.Val.{Fits}
use native.Mathlib.Omega.{arith}
use Rattle.format.specs.declared.Fields.{Fields}
use Rattle.format.specs.Base.{Bytes}
use Rattle.format.specs.Limits.{most_samples, most_variants, variants_to_a_block}
use Rattle.format.specs.Reply.{Verdict, verdict, answer, Checked, check_left, check_call}
use Rattle.format.proofs.Unique.{apart}
use Rattle.head_index.specs.Stored.{Stored}
use Rattle.head_index.proofs.StoredLaws.{stored_whole}
use Rattle.head_blocks.proofs.Sizes.{known_bytes}
use Rattle.head_records.proofs.AcceptedLaws as accepted
use Rattle.call_rows.specs.declared.Rows.{Rows}
use Rattle.call_rows.specs.declared.RowStep.{RowStep}
use Rattle.call_rows.specs.Calls.{first_row, Left, row_left, next_row_call}
use Rattle.promises.proofs.StepIsRead.{Before}
use Rattle.promises.proofs.CheckedRows.{Whole, whole, work_held, first_before, row_accepted, next_before}
use Rattle.pgenlist.specs.Listing.{FileChecked, RowTaken}

-- ---- `take_row`

-- a call that was accepted left this
pub taken : (rows : Rows) (file row work row₁ work₁ : List ℕ) (step : RowStep) → (next_row_call rows file row work).verdict.accepted ≡ true
    → row_left step row₁ work₁ ≡ next_row_call rows file row work → RowTaken rows file row work step.rows row₁ work₁
taken rows file row work row₁ work₁ step t e = go step.reply (ap (λ (z : Left). z.verdict.accepted) e ∙ t) ∙ e
  where
    go : (r : Result ⊤ Refusal) → (verdict (answer r)).accepted ≡ true
        → ◌≡◌ {A = Left} (record { verdict = verdict (answer {A = Unit {0}} (Ok tt)); rows = step.rows; output = row₁; work = work₁ })
        (record { verdict = verdict (answer r); rows = step.rows; output = row₁; work = work₁ })
    go (Ok tt) p = refl
    go (Err why) p = apart (sym p)

-- ---- `put_rows`

-- before each variant
pub record Listing (file : List ℕ) (f : Fields) (work₀ row₀ work row : List ℕ) (rows : Rows) : Type 0 where
  pub checked : Whole file f
  pub held : f.samples ≤ length work₀
  pub before : Before checked.layout work₀ rows.variant.0 rows work
  pub few : f.variants ≤ most_variants
  pub room : f.samples ≤ length row
  pub works : length work ≡ length work₀
  pub rows_long : length row ≡ length row₀

module _ (file : List ℕ) (f : Fields) (work row : List ℕ) (c : FileChecked file f work row) (known : (i : ℕ) → Fits w8 (get_or file i 0)) where
  bytes : Bytes file
  bytes = known_bytes file known

  none : (check_call variants_to_a_block file c.before).reply.verdict.refusal.number ≡ 0
  none = ap (λ (z : Checked). z.reply.verdict.refusal.number) (sym c.is_accepted)

  fields : (check_call variants_to_a_block file c.before).reply.fields ≡ f
  fields = ap (λ (z : Checked). z.reply.fields) (sym c.is_accepted)

  its_whole : Whole file f
  its_whole = subst (Whole file) fields (whole file c.before bytes none)

  stored : Stored variants_to_a_block file file its_whole.layout
  stored = stored_whole variants_to_a_block file its_whole.layout (lit< tt) bytes its_whole.is_accepted

  pub few_variants : f.variants ≤ most_variants
  few_variants = accepted.few_variants stored its_whole.fields_are

  enough : f.samples ≤ length work
  enough = omega (arith, work_held file c.before bytes none, ap (λ (z : Fields). z.samples) fields, c.as_long)

  pub listing_begins : (rows : Rows) → rows ≡ first_row f → Listing file f work row work row rows
  listing_begins rows e =
      rw e
      (record {
        checked = its_whole;
        held = enough;
        before = first_before file f its_whole work enough;
        few = few_variants;
        room = omega (arith, accepted.few_samples stored its_whole.fields_are, c.room);
        works = refl;
        rows_long = refl;
      })

module _ {file : List ℕ} {f : Fields} {work₀ row₀ work row : List ℕ} {rows : Rows} (i : Listing file f work₀ row₀ work row rows)
    (b : rows.variant.0 < f.variants) where
  pub not_refused : (next_row_call rows file row work).verdict.accepted ≡ true
  not_refused =
      ap (λ (z : Verdict). z.accepted) (row_accepted file f i.checked work₀ i.held rows.variant.0 rows work row i.before b i.room)

  module _ (later : Rows) (row₁ work₁ : List ℕ) (e : RowTaken rows file row work later row₁ work₁) where
    moved : Before i.checked.layout work₀ (suc rows.variant.0) later work₁
    moved =
        subst (λ (z : Left). Before i.checked.layout work₀ (suc rows.variant.0) z.rows z.work) (sym e)
        (next_before file f i.checked work₀ i.held rows.variant.0 rows work row i.before b i.room)

    one_on : later.variant.0 ≡ suc rows.variant.0
    one_on = ap (λ (z : Rows). z.variant.0) moved.state_is

    -- the row's categories were then replaced by as many digits
    as_long : (shown : List ℕ) → length shown ≡ f.samples → length row₁ ≡ length row → length (shown ++ drop f.samples row₁) ≡ length row
    as_long shown s r = omega (arith, length-append shown (drop f.samples row₁), length-drop f.samples row₁, s, r, i.room)

    pub listing_goes_on : (shown : List ℕ) → length shown ≡ f.samples → length row₁ ≡ length row → length work₁ ≡ length work
        → Listing file f work₀ row₀ work₁ (shown ++ drop f.samples row₁) later
    listing_goes_on shown s r w = record {
      checked = i.checked;
      held = i.held;
      before = subst (λ (v : ℕ). Before i.checked.layout work₀ v later work₁) (sym one_on) moved;
      few = i.few;
      room = omega (arith, as_long shown s r, i.room);
      works = w ∙ i.works;
      rows_long = as_long shown s r ∙ i.rows_long;
    }

    pub nearer : f.variants - later.variant.0 < f.variants - rows.variant.0
    nearer = omega (arith, one_on)

pub ruleset rows_laws = (few_variants, listing_begins, not_refused, listing_goes_on, nearer)

-- ---- `list`

pub listed : (file work work₁ row : List ℕ) (r : Result Fields Refusal) (f : Fields) → check_left r work₁ ≡ check_call variants_to_a_block file work → r ≡ Ok f
    → length work₁ ≡ length work → length row ≡ most_samples → FileChecked file f work₁ row
listed file work work₁ row r f e q w h = record { before = work; is_accepted = rw q at e; as_long = w; room = h }
