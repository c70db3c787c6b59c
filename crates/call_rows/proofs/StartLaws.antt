-- The ways out of the start call, and the state that it gives.
-- Assumes nothing.
use Rattle.std.specs.Prelude.{Result, Ok, Err}
use mathlib.Core.Path.{◌≡◌, refl, sym, ap, ◌∙◌}
use Prim.Native.Nat.{ℕ, ◌≤◌}
use mathlib.Core.List.{List, []}
use lib.ListN.{length}
use Rattle.format.specs.declared.Fields.{Fields}
use Rattle.format.specs.declared.Refusal.{Refusal}
use Rattle.format.specs.Base.{Out, ok, refused, bind}
use Rattle.format.specs.Limits.{most_variants, variants_to_a_block}
use Rattle.format.specs.Variant.{file_variant}
use Rattle.format.specs.Layout.{fields_of, first_record, Layout, fixed_of}
use Rattle.format.specs.Reply.{holds_row}
use Rattle.head_blocks.specs.Parts.{fixed}
use Rattle.call_open.specs.Open.{Open, Opening, open_out}
use Rattle.call_open.proofs.Callers.{ready, shut, open_is, through}
use Rattle.head_records.proofs.AcceptedLaws as accepted
use Rattle.call_rows.specs.declared.Rows.{Rows}
use Rattle.call_rows.specs.Calls.{first_row, start_rows_call}

-- the state before the first variant
pub first_state : (f : Fields) (start : ℕ) → start ≡ first_record variants_to_a_block (fixed f)
    → record { fields = f; variant = file_variant 0; start = start; anchor = Ok tt } ≡ first_row f
first_state f start e = rw e refl

module _ (file work : List ℕ) (r : Result Fields Refusal) (o : Opening file (length work) r) where
  -- a start goes through its opening
  opens : (m : Out Layout) → open_out variants_to_a_block file (length work) ≡ m
      → bind m (λ l left. ok (first_row (fields_of (fixed_of l))) []) ≡ start_rows_call file work
  unfolding start_rows_call
  opens m e =
      ap (λ (z : Out Layout). bind z (λ l left. ok (first_row (fields_of (fixed_of l))) [])) (sym e)
      ∙ sym (through file (length work) (holds_row work) (λ l. refl) (λ (l : Layout). ok (first_row (fields_of (fixed_of l))) []))

  pub start_shut : (why : Refusal) → r ≡ Err why → refused why ≡ start_rows_call file work
  start_shut why q = opens (refused why) (shut file (length work) r why o q).is

  module _ (f : Fields) (q : r ≡ Ok f) where
    opened : Open file (length work) f
    opened = ready file (length work) r f o q

    pub few_variants : f.variants ≤ most_variants
    few_variants = accepted.few_variants opened.stored opened.fields_are

    pub started_there : (rows : Rows) → rows ≡ first_row f → ok rows [] ≡ start_rows_call file work
    started_there rows e =
        ap (λ (x : Rows). ok x []) (e ∙ ap first_row opened.fields_are) ∙ opens (ok opened.layout []) (open_is file (length work) f opened)

pub ruleset start_laws = (start_shut, few_variants, started_there)
