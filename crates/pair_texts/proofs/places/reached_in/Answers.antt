use Rattle.std.proofs.Common.{subst, sym}
use Rattle.bal_report.proofs.Words.{bytes-of}
use Rattle.pair_texts.specs.inner.Spots.{StandsIn}
use Rattle.pair_texts.proofs.places.reached_in.Goals as goal

pub base-from-requires : goal.base-from-requires
base-from-requires c =
    λ same. subst (λ bytes. StandsIn bytes c.args.spot) (sym (bytes-of c.as_str-text.result.now c.args.file.now.text c.as_str-text.utf8 c.as_str-text.ensures.value)) (c.requires same)

pub returns-then-not-begins-clause-stands : goal.returns-then-not-begins-clause-stands
returns-then-not-begins-clause-stands c =
    subst (λ bytes. StandsIn bytes c.base-from.result) (bytes-of c.as_str-text.result.now c.args.file.now.text c.as_str-text.utf8 c.as_str-text.ensures.value) c.base-from.ensures.stands

pub returns-clause-stands : goal.returns-clause-stands
returns-clause-stands c =
    subst (λ bytes. StandsIn bytes c.counted.result) (bytes-of c.as_str-text.result.now c.args.file.now.text c.as_str-text.utf8 c.as_str-text.ensures.value) c.counted.ensures.stands
