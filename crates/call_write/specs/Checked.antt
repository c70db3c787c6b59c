-- What is checked before the record is measured, in document 01's order.
-- Assumes nothing.
use Rattle.std.specs.Prelude.{ℕ, suc, List, [], ◌∷◌, length, eqb, ltb, Option, Some, None, Result, Ok, Err}
use Rattle.format.specs.declared.Kind.{Kind}
use Rattle.format.specs.declared.Refusal.{Refusal}
use Rattle.format.specs.Base.{pick, Out, ok, refused, refuse, bind, need}
use Rattle.format.specs.Limits.{most_samples}
use Rattle.format.specs.Track.{kind, leans_kind}
use Rattle.format.specs.Layout.{from_1_to}
use Rattle.format.specs.Writer.{need_categories, need_phases}
use Rattle.call_write.specs.Asked.{asked_kind}
use Rattle.call_write.specs.declared.Asked.{Asked}

-- 01: 20, "category above 3": the index of the first, else how many categories there are
unfoldable pub first_above : List ℕ → ℕ
first_above [] = 0
first_above (category ∷ categories) = pick (ltb category 4) (suc (first_above categories)) 0

-- 19
abbrev pub allowed : Option Asked → Out Asked
allowed (Some a) = ok a []
allowed None = refuse 19 0

-- 01: "20 (categories, then anchor; the index counts within its own buffer)"
abbrev pub check_categories : {A : Type 0} → A → List ℕ → List ℕ → Out A
check_categories a categories anchor = need_categories 0 categories (need_categories 0 anchor (ok a []))

-- 01: "4 with place 0 (category count outside 1 to 65,536), 19, 10 (anchor not as long as the categories in kinds 2 and 3, or not empty in another)"
unfoldable pub kind_checks : List ℕ → Kind → ℕ → List ℕ → Out Asked
kind_checks categories k code anchor =
    need (from_1_to most_samples (length categories)) 4 0
    (bind (allowed (asked_kind k code)) (λ a left.
    need (eqb (length anchor) (pick (leans_kind k) (length categories) 0)) 10 0 (ok a [])))

-- then 20
unfoldable pub record_checks : List ℕ → Kind → ℕ → List ℕ → Out Asked
record_checks categories k code anchor = bind (kind_checks categories k code anchor) (λ a left. check_categories a categories anchor)

-- 02, Ask 1: "in the writer 10 is also phases not N long, after the anchor, and 22, after 20"
abbrev pub check_phases : {A : Type 0} → A → List ℕ → List ℕ → Out A
check_phases a categories phases = need_phases 0 categories phases (ok a [])

unfoldable pub phased_checks : List ℕ → List ℕ → Kind → ℕ → List ℕ → Out Asked
phased_checks categories phases k code anchor =
    bind (kind_checks categories k code anchor) (λ a left.
    need (eqb (length phases) (length categories)) 10 0
    (bind (check_categories a categories anchor) (λ b left. check_phases b categories phases)))

-- the same of the kind that a number names: what the two calls check
abbrev pub kind_out : List ℕ → ℕ → ℕ → List ℕ → Out Asked
kind_out categories number code anchor = kind_checks categories (kind number) code anchor

abbrev pub check_out : List ℕ → ℕ → ℕ → List ℕ → Out Asked
check_out categories number code anchor = record_checks categories (kind number) code anchor

abbrev pub phased_out : List ℕ → List ℕ → ℕ → ℕ → List ℕ → Out Asked
phased_out categories phases number code anchor = phased_checks categories phases (kind number) code anchor

-- the answer in code
abbrev pub as_checked : {A : Type 0} → Out A → Result A Refusal
as_checked (ok a left) = Ok a
as_checked (refused why) = Err why
