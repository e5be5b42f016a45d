use Rattle.std.proofs.Common.{◌≡◌, ◌∙◌, chars, slice_get, refl, sym, ap, subst}
use Rattle.std.specs.Str.{IsAscii}
use Rattle.shared_string.proofs.Ascii.{bytes-chars}
use Rattle.shared_string.proofs.Behind.{slice_get-drop}
use Rattle.shared_string.proofs.counted.Counted.char_at.Goals as goal

pub returns-then-is_ascii : goal.returns-then-is_ascii
returns-then-is_ascii c =
    let bytes = c.as_str-text.result.now in
    let seen : chars bytes ≡ c.args.self.now = ap chars c.as_str-text.ensures.value ∙ c.self.view_is in
    c.byte_at.ensures
    ∙ ap (λ bs. slice_get bs c.args.index) (bytes-chars bytes c.as_str-text.utf8 (subst IsAscii (sym seen) (c.if-is_ascii.ensures.0 refl)) ∙ seen)

pub returns-else-is_ascii : goal.returns-else-is_ascii
returns-else-is_ascii c =
    let seen : chars c.as_str-text.result.now ≡ c.args.self.now = ap chars c.as_str-text.ensures.value ∙ c.self.view_is in
    c.first.ensures
    ∙ (ap (λ cs. slice_get cs 0) c.behind.ensures.points
    ∙ (slice_get-drop (chars c.as_str-text.result.now) c.args.index ∙ ap (λ cs. slice_get cs c.args.index) seen))
