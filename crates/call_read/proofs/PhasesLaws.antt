-- What a read of phases replies and leaves, by what the opening and the record were found to be.
-- Assumes nothing.
use Rattle.std.specs.Prelude.{Result, Ok, Err, ⊤}
use mathlib.Core.Path.{◌≡◌, sym, ap, ◌∙◌, subst}
use Prim.Native.Nat.{ℕ, min}
use mathlib.Core.List.{List, ◌++◌}
use lib.ListN.{length, drop, replicate}
use native.Mathlib.Omega.{arith}
use Rattle.format.specs.declared.FileVariant.{FileVariant}
use Rattle.format.specs.declared.Fields.{Fields}
use Rattle.format.specs.declared.Refusal.{Refusal}
use Rattle.format.specs.Base.{map_out}
use Rattle.format.specs.Limits.{variants_to_a_block}
use Rattle.format.specs.Body.{body_phases, Reading, body_reading}
use Rattle.format.specs.Layout.{Layout}
use Rattle.format.specs.File.{variant_as}
use Rattle.format.specs.Reply.{read_left, phases_call}
use Rattle.format.proofs.ReadsLaws.{variant_map}
use Rattle.call_open.specs.Open.{OpenAt, OpeningAt}
use Rattle.head_places.proofs.AcceptedLaws.{one_layout}
use Rattle.read_file.specs.Rows.{VariantPhased}
use Rattle.read_file.proofs.Replies.{Clears}
use Rattle.read_file.proofs.PhasedReplies.{ReadingRead, phases_accepted, phases_refused, phases_kept}
use Rattle.call_read.proofs.ReadLaws.{read_from, shut_as, opened, read_by, room_laws}

abbrev K : ℕ
K = variants_to_a_block

module _ (file : List ℕ) (v : FileVariant) (output work : List ℕ) (lent : ℕ) (both : lent ≡ min (length output) (length work))
    (r : Result Fields Refusal) (e : OpeningAt file v lent r) where
  -- 1 to 11
  pub phases_shut : (why : Refusal) → r ≡ Err why → read_left (Err why) output work ≡ phases_call K file v output work
  unfolding phases_call
  phases_shut why q = shut_as file v output work lent both r e body_phases why q

  module _ (f : Fields) (q : r ≡ Ok f) where
    abbrev o : OpenAt file v lent f
    o = opened file v output work lent both r e f q

    abbrev l : Layout
    l = o.has.layout

    -- the phases are those of what is read of the body, categories and phases together
    calls : read_from f.samples output work (map_out (λ (z : Reading). z.phases) (variant_as body_reading K l v)) ≡ phases_call K file v output work
    unfolding phases_call
    calls =
        let whole : variant_as body_phases K l v ≡ map_out (λ (z : Reading). z.phases) (variant_as body_reading K l v)
        = variant_map body_reading (λ (z : Reading). z.phases) K l v in
        ap (read_from f.samples output work) (sym whole) ∙ read_by file v output work lent both r e f q body_phases

    module _ (got : Result ⊤ Refusal) (work₁ output₁ : List ℕ) (d : VariantPhased file file f v work output got work₁ output₁) where
      -- what was read is read of the layout that was opened
      same_layout : d.has.has.layout ≡ l
      same_layout = one_layout o.has.stored d.has.has

      -- 12 to 18 and 23 to 25
      pub phases_not_read : (why : Refusal) → got ≡ Err why → read_left (Err why) output₁ work₁ ≡ phases_call K file v output work
      phases_not_read why s =
          let x : Clears (variant_as body_reading K l v) why
          = subst (λ (l : Layout). Clears (variant_as body_reading K l v) why) same_layout (phases_refused d why s o.has.bytes) in
          let kept = phases_kept d why s in
          rw (kept.0, kept.1) (rw (x.is, x.clears) at calls)

      pub phases_were_read : (work₂ : List ℕ) → got ≡ Ok tt → length work₁ ≡ length work
          → work₂ ≡ replicate f.samples 0 ++ drop f.samples work₁ → read_left (Ok tt) output₁ work₂ ≡ phases_call K file v output work
      phases_were_read work₂ s same b =
          let x : ReadingRead f.samples work work₁ output output₁ (variant_as body_reading K l v)
          = subst (λ (l : Layout). ReadingRead f.samples work work₁ output output₁ (variant_as body_reading K l v)) same_layout
          (phases_accepted d s same (omega (arith, o.has.room))) in
          rw (x.phases, b, x.rest) (rw x.is at calls)

pub ruleset phases_laws = (phases_shut, room_laws, phases_not_read, phases_were_read)
