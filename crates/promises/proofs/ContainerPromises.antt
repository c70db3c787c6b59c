-- DEMAND 3 of any call that flips a set in what it is lent, whatever the container: what follows once a flip was made.
-- Assumes nothing.
use mathlib.Core.Path.{◌≡◌, ap, ◌∙◌}
use mathlib.Core.Bool.{Bool}
use mathlib.Core.List.{[]}
use Prim.Native.Nat.{◌<◌}
use Rattle.format.specs.declared.FileVariant.{FileVariant}
use Rattle.format.specs.Base.{ok, map_out}
use Rattle.format.specs.Category.{just_one}
use Rattle.format.specs.Container.{Container, flip_stored}
use Rattle.format.proofs.ContainerLaws.{IsContainer, flip_accepted, flip_reads, flip_xor, flip_twice}

-- What was lent was accepted, and the call left its flip. A call's contract has to give this of each call that it accepts.
pub record WasFlipped (C : Container) (member : FileVariant → Bool) (before after : C.Stored) : Type 0 where
  pub whole : C.Value
  pub accepted : C.read before ≡ ok whole []
  pub flipped : after ≡ flip_stored C member before

module _ (C : Container) (laws : IsContainer C) {member : FileVariant → Bool} {before after : C.Stored}
    (y : C.AreBytes before) (d : WasFlipped C member before after) where
  -- "still accepted"
  pub still_accepted : C.read after ≡ ok (C.flip member d.whole) []
  still_accepted = ap C.read d.flipped ∙ flip_accepted C laws member before d.whole y d.accepted

  -- "members read with categories 0 and 2 exchanged, all others as before"
  pub members_exchanged : (v : FileVariant) → v.0 < C.variants d.whole
      → C.read_row after v ≡ map_out (C.exchange (member v)) (C.read_row before v)
  members_exchanged v l = ap (λ (s : C.Stored). C.read_row s v) d.flipped ∙ flip_reads C laws member before d.whole y d.accepted v l

  module _ {second : FileVariant → Bool} {last : C.Stored} (e : WasFlipped C second after last) where
    again : last ≡ flip_stored C second (flip_stored C member before)
    again = e.flipped ∙ ap (flip_stored C second) d.flipped

    -- "Flipping one set, then a second, gives byte for byte the flip of the variants in just one of the two"
    pub just_one_flipped : last ≡ flip_stored C (λ (v : FileVariant). just_one (second v) (member v)) before
    just_one_flipped = again ∙ flip_xor C laws second member before y

    -- "so twice restores the file"
    pub restored : second ≡ member → last ≡ before
    restored same = again ∙ ap (λ (m : FileVariant → Bool). flip_stored C m (flip_stored C member before)) same ∙ flip_twice C laws member before y
