use Rattle.std.proofs.Common.{OnOk, subst, sym}
use Rattle.bal_report.specs.EventText.{position_at}
use Rattle.bal_report.proofs.Words.{bytes-of}
use Rattle.pair_texts.specs.inner.Spots.{StandsIn}
use Rattle.text_forms.specs.Forms.{Adds, written}
use Rattle.pair_texts.proofs.places.add_place_in.Goals as goal

pub add_position-requires : goal.add_position-requires
add_position-requires c =
    λ same. subst (λ bytes. StandsIn bytes c.args.spot) (sym (bytes-of c.as_str.result.now c.args.file.now.text c.as_str.utf8 c.as_str.ensures.value)) (c.requires same)

pub returns : goal.returns
returns c =
    subst (λ bytes. OnOk c.add_position.result (Adds (written c.args.out.now) (position_at bytes c.args.at.at) (written c.add_position.new.out)))
    (bytes-of c.as_str.result.now c.args.file.now.text c.as_str.utf8 c.as_str.ensures.value) c.add_position.ensures
