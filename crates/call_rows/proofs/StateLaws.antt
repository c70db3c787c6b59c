-- The ways out of the check of a state, what is known where it is accepted, and whether it tells of an anchor.
-- Assumes nothing.
use Rattle.std.specs.Prelude.{Result, Ok, Err, ⊤}
use mathlib.Core.Path.{◌≡◌, refl, sym, ap, ◌∙◌, subst}
use Prim.Native.Nat.{ℕ, zero, suc, ◌+◌, ◌-◌, ◌≤◌, ◌<◌}
use mathlib.Core.Bool.{Bool, true, false, not, ◌&&◌, ◌||◌}
use mathlib.Core.List.{List, []}
use lib.Dec.{leb, ltb}
use native.Mathlib.Omega.{arith}
use borrow.Author.Tests.{leb-true, ltb-true, le-leb, lt-leb, le-ltb, lt-ltb, eq-eqb, ne_eqb, not-true, not-false}
use Rattle.format.specs.declared.BlockVariant.{BlockVariant}
use Rattle.format.specs.declared.Refusal.{Refusal}
use Rattle.format.specs.Base.{Out, ok, refuse, refused, refuse_of}
use Rattle.format.specs.Classes.{record_numbers, among}
use Rattle.format.specs.Limits.{most_samples, most_variants, variants_to_a_block}
use Rattle.format.specs.Body.{type_leans}
use Rattle.format.specs.Variant.{in_block, no_variant}
use Rattle.format.specs.Layout.{from_1_to, type_allowed}
use Rattle.format.specs.Reply.{answer}
use Rattle.format.proofs.Rules.{Holds, by_need, both, by_need_of, never_both}
use Rattle.format.proofs.Refuses.{RecordNumber, class_holds, every, not_none}
use Rattle.format.proofs.OffsetsLaws.{from_1_to_most}
use Rattle.head_blocks.proofs.Answers.{granted, denied}
use Rattle.call_rows.specs.declared.Rows.{Rows}
use Rattle.call_rows.specs.Calls.{state_checked, anchor_reply, anchor_told, type_follows, Standing}

-- a refusal that was made, as what is answered
pub refused_as : {A : Type 0} (why said : Refusal) (m : Out A) → why ≡ said → refused said ≡ m → refused why ≡ m
refused_as why said m e q = ap refused e ∙ q

-- ---- `state_checked`

module _ (rows : Rows) (output work : ℕ) where
  abbrev M : ℕ
  M = rows.fields.variants

  abbrev N : ℕ
  N = rows.fields.samples

  pub bad_variants : from_1_to most_variants M ≡ false → refuse 4 3 ≡ state_checked rows output work
  unfolding state_checked
  bad_variants h = simp h

  module _ (m : from_1_to most_variants M ≡ true) where
    pub bad_samples : from_1_to most_samples N ≡ false → refuse 4 7 ≡ state_checked rows output work
    unfolding state_checked
    bad_samples h = simp (m, h)

    module _ (n : from_1_to most_samples N ≡ true) where
      pub short_output : output < N → refuse_of (no_variant M) 10 0 ≡ state_checked rows output work
      unfolding state_checked
      short_output h = simp (m, n, lt-leb)

      module _ (o : N ≤ output) where
        pub short_work : work < N → refuse_of (no_variant M) 10 0 ≡ state_checked rows output work
        unfolding state_checked
        short_work h = simp (m, n, le-leb, lt-leb)

        module _ (w : N ≤ work) where
          pub not_below : M ≤ rows.variant.0 → refuse_of (no_variant M) 11 0 ≡ state_checked rows output work
          unfolding state_checked
          not_below h = simp (m, n, le-leb, le-ltb)

          pub state_fine : rows.variant.0 < M → ◌≡◌ {A = Out (Unit {0})} (ok tt []) (state_checked rows output work)
          unfolding state_checked
          state_fine h = simp (m, n, le-leb, lt-ltb)

pub ruleset state_laws = (refused_as, granted, denied, bad_variants, bad_samples, short_output, short_work, not_below, state_fine)

-- ---- where it is accepted

pub record Passed (rows : Rows) (output work : ℕ) : Type 0 where
  pub standing : Standing rows
  pub output_holds : rows.fields.samples ≤ output
  pub work_holds : rows.fields.samples ≤ work

module _ (rows : Rows) (output work : ℕ) where
  pub all_passed : Holds (λ (u : Unit {0}) (left : List ℕ). Passed rows output work) (state_checked rows output work)
  unfolding state_checked
  all_passed =
      by_need _ (from_1_to most_variants rows.fields.variants) 4 3 _ (λ m.
      by_need _ (from_1_to most_samples rows.fields.samples) 4 7 _ (λ n.
      by_need_of _ _ (leb rows.fields.samples output && leb rows.fields.samples work) 10 0 _ (λ s.
      by_need_of _ _ (ltb rows.variant.0 rows.fields.variants) 11 0 _ (λ b.
      let both_hold = both (leb rows.fields.samples output) (leb rows.fields.samples work) s in
      record {
        standing = record {
          few_variants = from_1_to_most most_variants rows.fields.variants m;
          few_samples = from_1_to_most most_samples rows.fields.samples n;
          below = ltb-true rows.variant.0 rows.fields.variants b;
        };
        output_holds = leb-true rows.fields.samples output both_hold.0;
        work_holds = leb-true rows.fields.samples work both_hold.1;
      }))))

  pub passed : (r : Result ⊤ Refusal) → answer r ≡ state_checked rows output work → r ≡ Ok tt → Passed rows output work
  passed r told q = subst (Holds (λ (u : Unit {0}) (left : List ℕ). Passed rows output work)) (sym (rw q at told)) all_passed

-- ---- `anchor_reply`

module _ (anchor : Result ⊤ Refusal) where
  pub reply_accepted : anchor ≡ Ok tt → anchor ≡ anchor_reply anchor
  unfolding anchor_reply
  reply_accepted is = rw is refl

  module _ (why : Refusal) (is : anchor ≡ Err why) where
    pub reply_none : why.number ≡ 0 → Ok tt ≡ anchor_reply anchor
    unfolding anchor_reply
    reply_none z = rw (is, eq-eqb why.number 0 z) refl

    pub reply_refused : (why.number ≡ 0 → ⊥) → Err why ≡ anchor_reply anchor
    unfolding anchor_reply
    reply_refused z = rw (is, ne_eqb why.number 0 z) refl

pub ruleset reply_laws = (reply_accepted, reply_none, reply_refused)

pub reply_of_ok : anchor_reply (Ok tt) ≡ Ok tt
unfolding anchor_reply
reply_of_ok = refl

-- a record's refusal is told as it is
pub reply_of_record : (why : Refusal) → RecordNumber why.number → anchor_reply (Err why) ≡ Err why
reply_of_record why c = sym (reply_refused (Err why) why refl (λ z. not_none record_numbers refl (rw z at c)))

-- ---- `anchor_told`

-- a record's numbers are those from 12 to 18 and from 23 to 25
from_12 : (k : ℕ) → k < 7 → among record_numbers (12 + k) ≡ true
from_12 zero h = refl
from_12 (suc zero) h = refl
from_12 (suc (suc zero)) h = refl
from_12 (suc (suc (suc zero))) h = refl
from_12 (suc (suc (suc (suc zero)))) h = refl
from_12 (suc (suc (suc (suc (suc zero))))) h = refl
from_12 (suc (suc (suc (suc (suc (suc zero)))))) h = refl
from_12 (suc (suc (suc (suc (suc (suc (suc k))))))) h = absurd (omega arith)

from_23 : (k : ℕ) → k < 3 → among record_numbers (23 + k) ≡ true
from_23 zero h = refl
from_23 (suc zero) h = refl
from_23 (suc (suc zero)) h = refl
from_23 (suc (suc (suc k))) h = absurd (omega arith)

-- what holds of all of them holds of no other number
no_record : (test : ℕ → Bool) → every test record_numbers ≡ true → (number : ℕ) → test number ≡ false → among record_numbers number ≡ false
no_record test t number f = go (among record_numbers number) refl
  where
    go : (b : Bool) → among record_numbers number ≡ b → b ≡ false
    go true e = never_both (class_holds test record_numbers number t e) f
    go false e = refl

-- what is said of an anchor, by the reply that stands for it
module _ (anchor reply : Result ⊤ Refusal) (looked : reply ≡ anchor_reply anchor) where
  pub looked_accepted : reply ≡ Ok tt → true ≡ anchor_told anchor
  unfolding anchor_told
  looked_accepted q = rw (← looked, q) refl

  module _ (why : Refusal) (is : reply ≡ Err why) where
    abbrev number : ℕ
    number = why.number

    looked_as : {b : Bool} → among record_numbers number ≡ b → b ≡ anchor_told anchor
    unfolding anchor_told
    looked_as e = rw (← looked, is, e) refl

    pub looked_12_to_18 : 12 ≤ number → number < 19 → true ≡ anchor_told anchor
    looked_12_to_18 l h =
        let e : 12 + (number - 12) ≡ number = omega arith in
        looked_as (ap (among record_numbers) (sym e) ∙ from_12 (number - 12) (omega arith))

    pub looked_23_to_25 : 23 ≤ number → number < 26 → true ≡ anchor_told anchor
    looked_23_to_25 l h =
        let e : 23 + (number - 23) ≡ number = omega arith in
        looked_as (ap (among record_numbers) (sym e) ∙ from_23 (number - 23) (omega arith))

    pub looked_below : number < 12 → false ≡ anchor_told anchor
    looked_below h = looked_as (no_record (leb 12) refl number (lt-leb 12 number h))

    pub looked_between : 19 ≤ number → number < 23 → false ≡ anchor_told anchor
    looked_between m h =
        looked_as (no_record (λ (n : ℕ). leb n 18 || leb 23 n) refl number (rw (lt-leb number 18 (omega arith), lt-leb 23 number h) refl))

    pub looked_above : 26 ≤ number → false ≡ anchor_told anchor
    looked_above m = looked_as (no_record (λ (n : ℕ). leb n 25) refl number (lt-leb number 25 (omega arith)))

pub ruleset told_laws = (looked_accepted, looked_12_to_18, looked_23_to_25, looked_below, looked_between, looked_above)

-- the same by what the state itself keeps: it tells of an anchor if that is `Ok`, or a refusal with number 0, or with one that a record can have
pub told_accepted : (anchor : Result ⊤ Refusal) → anchor ≡ Ok tt → true ≡ anchor_told anchor
told_accepted anchor e = looked_accepted anchor anchor (reply_accepted anchor e) e

module _ (anchor : Result ⊤ Refusal) (why : Refusal) (is : anchor ≡ Err why) where
  same : (why.number ≡ 0 → ⊥) → anchor ≡ anchor_reply anchor
  same z = is ∙ reply_refused anchor why is z

  pub told_none : why.number ≡ 0 → true ≡ anchor_told anchor
  told_none z = looked_accepted anchor (Ok tt) (reply_none anchor why is z) refl

  pub told_12_to_18 : 12 ≤ why.number → why.number < 19 → true ≡ anchor_told anchor
  told_12_to_18 l h = looked_12_to_18 anchor anchor (same (λ z. omega arith)) why is l h

  pub told_23_to_25 : 23 ≤ why.number → why.number < 26 → true ≡ anchor_told anchor
  told_23_to_25 l h = looked_23_to_25 anchor anchor (same (λ z. omega arith)) why is l h

  pub told_below : (why.number ≡ 0 → ⊥) → why.number < 12 → false ≡ anchor_told anchor
  told_below z h = looked_below anchor anchor (same z) why is h

  pub told_between : 19 ≤ why.number → why.number < 23 → false ≡ anchor_told anchor
  told_between m h = looked_between anchor anchor (same (λ z. omega arith)) why is m h

  pub told_above : 26 ≤ why.number → false ≡ anchor_told anchor
  told_above m = looked_above anchor anchor (same (λ z. omega arith)) why is m

-- ---- `type_follows`

module _ (rows : Rows) (type : ℕ) (t : Bool) (e : t ≡ type_leans type) where
  abbrev fine : Bool
  fine = type_allowed (in_block variants_to_a_block rows.variant) type

  -- nothing is asked but the type
  by_type : (b : Bool) → not (type_leans type) || anchor_told rows.anchor ≡ true → b ≡ b && (not (type_leans type) || anchor_told rows.anchor)
  by_type true e = sym e
  by_type false e = refl

  module _ (r : Bool) (i : BlockVariant) (g : r ≡ type_allowed i type) (s : i ≡ in_block variants_to_a_block rows.variant) where
    pub stands_alone : not t ≡ true → r ≡ type_follows rows type
    unfolding type_follows
    stands_alone p = g ∙ ap (λ (z : BlockVariant). type_allowed z type) s ∙ by_type fine (rw (sym e ∙ not-true t p) refl)

    pub with_anchor : not t ≡ false → (a : Bool) → a ≡ anchor_told rows.anchor → not a ≡ false → r ≡ type_follows rows type
    unfolding type_follows
    with_anchor p a d q =
        g ∙ ap (λ (z : BlockVariant). type_allowed z type) s ∙ by_type fine (rw (sym e ∙ not-false t p, sym d ∙ not-false a q) refl)

  pub no_anchor : not t ≡ false → (a : Bool) → a ≡ anchor_told rows.anchor → not a ≡ true → false ≡ type_follows rows type
  unfolding type_follows
  no_anchor p a d q = go fine (sym e ∙ not-false t p) (sym d ∙ not-true a q)
    where
      go : (b : Bool) → type_leans type ≡ true → anchor_told rows.anchor ≡ false → false ≡ b && (not (type_leans type) || anchor_told rows.anchor)
      go true l m = rw (l, m) refl
      go false l m = refl

pub ruleset follows_laws = (stands_alone, with_anchor, no_anchor)
