use Rattle.std.proofs.Common.{◌∙◌, ap, sym}
use Rattle.std.specs.List.{position}
use Rattle.type_model.specs.Places.{is_same_text}
use Rattle.check_words.proofs.Retyping.{narrow-no-position}
use Rattle.check_work.proofs.narrowing.narrow_by_name.Goals as goal

pub returns-in-None : goal.returns-in-None
returns-in-None c =
    narrow-no-position c.args.name.now c.args.t _
    (sym (c.in-None.ensures.place ∙ ap (position (λ v. is_same_text v.name c.args.name.now)) c.as_slice.ensures.value))
