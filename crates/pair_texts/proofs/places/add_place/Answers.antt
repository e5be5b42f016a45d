use Rattle.std.proofs.Common.{OnOk, ap, subst, sym, ◌∙◌}
use Rattle.std.specs.Option.{option_copied}
use Rattle.pair_texts.specs.PairText.{place_in}
use Rattle.pair_texts.proofs.Standing.{stands-in}
use Rattle.text_forms.specs.Forms.{Adds, written}
use Rattle.pair_texts.proofs.places.add_place.Goals as goal

pub add_place_in-requires : goal.add_place_in-requires
add_place_in-requires c =
    λ same. stands-in c.args.modules.now c.args.spot c.args.at.file c.in-Some.file.now same (sym c.file_in.ensures ∙ ap option_copied c.in-Some.is) c.requires

pub returns-in-Some : goal.returns-in-Some
returns-in-Some c =
    subst (λ file. OnOk c.add_place_in.result (Adds (written c.args.out.now) (place_in file c.args.at.at) (written c.add_place_in.new.out))) (sym (sym c.file_in.ensures ∙ ap option_copied c.in-Some.is))
    c.add_place_in.ensures
