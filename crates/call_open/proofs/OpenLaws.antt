-- What an opening replies, by what the header check found.
-- Assumes nothing.
use Rattle.std.specs.Prelude.{Result, Ok, Err}
use mathlib.Core.Path.{◌≡◌, refl, sym, ap, ◌∙◌, subst}
use Prim.Native.Nat.{ℕ, ◌≤◌, ◌<◌}
use mathlib.Core.List.{List}
use lib.ListN.{length}
use lib.Dec.{lit<}
use native.Mathlib.Omega.{arith}
use borrow.Author.Tests.{lt-leb, le-ltb}
use Rattle.format.specs.declared.FileVariant.{FileVariant}
use Rattle.format.specs.declared.Fields.{Fields}
use Rattle.format.specs.declared.Refusal.{Refusal}
use Rattle.format.specs.Base.{Bytes, Out, ok, refused, refusal, named}
use Rattle.format.specs.Limits.{variants_to_a_block}
use Rattle.format.specs.Layout.{Layout}
use Rattle.format.specs.Header.{read_layout}
use Rattle.format.specs.Reply.{Summary, summary, header_left, header_call}
use Rattle.format.specs.Variant.{no_variant}
use Rattle.format.proofs.Rules.{Holds}
use Rattle.format.proofs.Unique.{apart}
use Rattle.format.proofs.Refuses.{Refuses, HeaderNumber}
use Rattle.format.proofs.HeaderLaws.{IsLayout, layout_as_written}
use Rattle.format.proofs.HeaderRefusals.{header_refusals}
use Rattle.format.proofs.CallRefusals.{header_keeps_work}
use Rattle.head_index.proofs.StoredLaws.{stored_whole}
use Rattle.head_blocks.proofs.Sizes.{known_bytes}
use Rattle.call_open.specs.Open.{open_out, Open, Shut, Opening, OpeningAt}
use Rattle.call_open.proofs.Callers.{open_samples, open_variants, open_is, names_none}

-- ---- `open`

module _ (file : List ℕ) (lent : ℕ) (r : Result Fields Refusal) (e : header_left r ≡ header_call variants_to_a_block file) where
  refused_layout : (why : Refusal) → r ≡ Err why → read_layout variants_to_a_block file ≡ refused why
  unfolding header_call
  refused_layout why q = go (read_layout variants_to_a_block file) refl (rw q at e)
    where
      go : (m : Out Layout) → read_layout variants_to_a_block file ≡ m → header_left (Err why) ≡ summary m
          → read_layout variants_to_a_block file ≡ refused why
      go (ok l left) a e = apart (sym (ap (λ (z : Summary). z.verdict.accepted) e))
      go (refused other) a e = a ∙ sym (ap (λ (z : Summary). refused z.verdict.refusal) e)

  -- 1 to 9
  pub header_refused : (why : Refusal) → r ≡ Err why → Opening file lent (Err why)
  unfolding Opening
  header_refused why q =
      let k = refused_layout why q in
      let class : HeaderNumber why.number = subst (Refuses HeaderNumber) k (header_refusals variants_to_a_block file) in
      record { is = simp k; keeps = header_keeps_work why.number class }

  module _ (y : Bytes file) (f : Fields) (q : r ≡ Ok f) where
    -- what holds once there is room
    has : Open file f.samples f
    unfolding header_call
    has = go (read_layout variants_to_a_block file) refl (layout_as_written variants_to_a_block file (lit< tt) y) (rw q at e)
      where
        go : (m : Out Layout) → read_layout variants_to_a_block file ≡ m → Holds (IsLayout variants_to_a_block file) m
            → header_left (Ok f) ≡ summary m → Open file f.samples f
        go (ok l left) a w e = record {
          bytes = y;
          layout = l;
          accepted = a ∙ ap (ok l) w.ended;
          stored = stored_whole variants_to_a_block file l (lit< tt) y (a ∙ ap (ok l) w.ended);
          fields_are = ap (λ (z : Summary). z.fields) e;
          room = omega arith;
        }
        go (refused why) a w e = apart (ap (λ (z : Summary). z.verdict.accepted) e)

    -- 10
    pub short : (why : Refusal) → why ≡ named (no_variant f.variants) (refusal 10 0) → lent < f.samples → Opening file lent (Err why)
    unfolding Opening
    short why z s =
        let n = open_samples file f.samples f has in
        rw z
        (record {
          is = simp (has.accepted, lt-leb has.layout.samples lent (omega (arith, n))) (names_none file f.samples f has 10);
          keeps = refl;
        })

    pub opens : f.samples ≤ lent → Opening file lent (Ok f)
    unfolding Opening
    opens s = record {
      bytes = y;
      layout = has.layout;
      accepted = has.accepted;
      stored = has.stored;
      fields_are = has.fields_are;
      room = s;
    }

-- ---- `open_at`

module _ (file : List ℕ) (v : FileVariant) (lent : ℕ) (r : Result Fields Refusal) (e : Opening file lent r) where
  pub open_refused : (why : Refusal) → r ≡ Err why → OpeningAt file v lent (Err why)
  unfolding Opening OpeningAt
  open_refused why q = let s : Shut (open_out variants_to_a_block file lent) why = rw q at e in record { is = simp s.is; keeps = s.keeps }

  module _ (f : Fields) (q : r ≡ Ok f) where
    o : Open file lent f
    unfolding Opening
    o = rw q at e

    -- 11
    pub not_below : (why : Refusal) → why ≡ named (no_variant f.variants) (refusal 11 0) → f.variants ≤ v.0 → OpeningAt file v lent (Err why)
    unfolding OpeningAt
    not_below why z s =
        let there = le-ltb v.0 (length o.layout.bodies) (omega (arith, open_variants file lent f o)) in
        rw z (record { is = simp (open_is file lent f o, there) (names_none file lent f o 11); keeps = refl })

    pub opens_at : v.0 < f.variants → OpeningAt file v lent (Ok f)
    unfolding OpeningAt
    opens_at s = record { has = o; below = s }

-- ---- what each proof cites
pub ruleset open_laws = (known_bytes, header_refused, short, opens)

pub ruleset open_at_laws = (open_refused, not_below, opens_at)
