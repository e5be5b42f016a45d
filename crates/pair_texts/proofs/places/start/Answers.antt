use Rattle.std.proofs.Common.{refl}
use Rattle.pair_texts.proofs.Standing.{at-all-starts, at-start}
use Rattle.pair_texts.proofs.places.start.Goals as goal

pub returns-clause-stands : goal.returns-clause-stands
returns-clause-stands c = λ bytes. at-start bytes _ refl refl refl

pub returns-clause-everywhere : goal.returns-clause-everywhere
returns-clause-everywhere c = λ files. at-all-starts files _ (λ bytes. at-start bytes _ refl refl refl)
