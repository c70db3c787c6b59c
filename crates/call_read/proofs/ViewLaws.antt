-- What a view replies, by what the opening found.
-- Assumes nothing.
use Rattle.std.specs.Prelude.{Result, Ok, Err}
use mathlib.Core.Path.{◌≡◌, refl, sym, ap, ap₂, ◌∙◌}
use Prim.Native.Nat.{ℕ, ◌+◌, ◌-◌}
use native.Mathlib.Nat.{zero-add}
use mathlib.Core.List.{List, []}
use lib.ListN.{take, drop, get_or, length}
use lib.Dec.{leb, lit<}
use borrow.Author.Tests.{le-leb}
use Rattle.format.specs.declared.FileVariant.{FileVariant}
use Rattle.format.specs.declared.Fields.{Fields}
use Rattle.format.specs.declared.Refusal.{Refusal}
use Rattle.format.specs.Base.{Bytes, Out, ok, refused, bind, need_of}
use Rattle.format.specs.Limits.{most_samples, variants_to_a_block}
use Rattle.format.specs.Layout.{Layout, record_start}
use Rattle.format.specs.Header.{read_layout}
use Rattle.format.specs.Reply.{View, refusal_of, given, with_layout, need_variant, view_left, part_of_file, view_call}
use Rattle.format.specs.Variant.{no_variant}
use Rattle.format.proofs.Rules.{Holds}
use Rattle.format.proofs.OffsetsLaws.{from_1_to_most}
use Rattle.format.proofs.HeaderLaws.{IsLayout, layout_as_written}
use Rattle.head_places.specs.declared.Place.{Place}
use Rattle.head_places.specs.Located.{HasVariant, Located}
use Rattle.head_places.proofs.AcceptedLaws.{one_layout}
use Rattle.head_places.proofs.PartLaws.{part_rises, part_inside, part_is}
use Rattle.head_blocks.proofs.Sizes.{known_bytes}
use Rattle.call_open.specs.Open.{open_at_out, OpenAt, OpeningAt}
use Rattle.call_open.proofs.Callers.{ready_at, shut_at, through_at, open_at_is}

abbrev body_of : FileVariant → Layout → List ℕ
body_of v l = get_or l.bodies v.0 []

abbrev start_in : FileVariant → Layout → ℕ
start_in v l = record_start variants_to_a_block l v

abbrev view_from : FileVariant → Out Layout → View
view_from v m = record { refusal = refusal_of m; part = given (body_of v) [] m; start = given (start_in v) 0 m }

module _ (file : List ℕ) (y : Bytes file) (v : FileVariant) where
  -- a view is lent no row: in the most that a row can be each has room
  any_row : {A : Type 0} (next : Layout → Out A)
      → bind (read_layout variants_to_a_block file) (λ l left. next l)
      ≡ with_layout variants_to_a_block file (λ (l : Layout). leb l.samples most_samples) next
  any_row {A} next = go (read_layout variants_to_a_block file) (layout_as_written variants_to_a_block file (lit< tt) y)
    where
      go : (m : Out Layout) → Holds (IsLayout variants_to_a_block file) m
          → bind m (λ l left. next l) ≡ bind m (λ l left. need_of (no_variant (length l.bodies)) (leb l.samples most_samples) 10 0 (next l))
      go (refused why) w = refl
      go (ok l left) w = simp (le-leb l.samples most_samples (from_1_to_most most_samples l.samples w.obeys.fixed.samples))

  module _ (r : Result Fields Refusal) (e : OpeningAt file v most_samples r) where
    -- the reply, by what was opened
    views : (m : Out Layout) → open_at_out variants_to_a_block file v most_samples ≡ m
        → view_from v (bind m (λ l left. ok l [])) ≡ view_call variants_to_a_block file v
    unfolding view_call
    views m s =
        ap (view_from v)
        (sym (any_row (λ (l : Layout). need_variant v l (ok l []))
        ∙ through_at file most_samples (λ (l : Layout). leb l.samples most_samples) (λ l. refl) v (λ (l : Layout). ok l [])
        ∙ ap (λ (m : Out Layout). bind m (λ l left. ok l [])) s))

    -- 1 to 9 and 11
    pub view_shut : (lies : ℕ × ℕ) (why : Refusal) → r ≡ Err why
        → view_left why.number why.place why.variant.0 [] lies ≡ part_of_file lies (view_call variants_to_a_block file v)
    view_shut lies why q =
        ap (λ (n : ℕ). view_left why.number why.place why.variant.0 [] (lies.0, n)) (sym (zero-add lies.1))
        ∙ ap (part_of_file lies) (views _ (shut_at file v most_samples r why e q).is)

    module _ (f : Fields) (q : r ≡ Ok f) where
      o : OpenAt file v most_samples f
      o = ready_at file v most_samples r f e q

      pub has_variant : HasVariant file file f v
      has_variant = record { has = record { layout = o.has.layout; stored = o.has.stored; fields_are = o.has.fields_are }; below = o.below }

      -- its part
      pub its_part : (lies : ℕ × ℕ) (p : Place) → Located file file f v p
          → view_left 0 0 0 (take (p.end - p.start) (drop p.start file)) (lies.0, p.start + lies.1)
          ≡ part_of_file lies (view_call variants_to_a_block file v)
      its_part lies p g =
          let same : g.has.layout ≡ o.has.layout = one_layout o.has.stored g.has in
          ap₂ (λ (part : List ℕ) (start : ℕ). view_left 0 0 0 part (lies.0, start + lies.1)) (part_is g ∙ ap (body_of v) same)
          (ap (λ (z : Place). z.start) g.is ∙ ap (start_in v) same)
          ∙ ap (part_of_file lies) (views _ (open_at_is file v most_samples f o))

pub ruleset view_laws = (known_bytes, view_shut, has_variant, part_rises, part_inside, its_part)
