use Rattle.std.proofs.Common.{◌≤◌, ◌+◌, length, Some, arith, sym, ap, subst, ◌∙◌}
use Rattle.std.specs.Str.{chars}
use Rattle.package_files.proofs.Folders.{empty-of, folder-part, not-none}
use Rattle.package_files.proofs.names.folder_name.Goals as goal

pub returns-then-count-eq0 : goal.returns-then-count-eq0
unfolding chars
returns-then-count-eq0 c = λ folder m e. ap Some (c.in_ok-new.ensures ∙ sym (empty-of folder (e ∙ c.if-count-eq0.true)))

pub returns-in-None : goal.returns-in-None
returns-in-None c = λ folder m e.
    let part = folder-part c.args.name.now folder m (λ z. c.if-count-eq0.false (sym e ∙ z)) in
    let text = c.as_text.result.now in
    let within : 8 + c.args.count ≤ length text = subst (λ n. 8 + n ≤ length text) e (subst (λ t. 8 + length folder ≤ length t) (sym c.as_text.ensures) part.0) in
    let rising : 8 ≤ 8 + c.args.count = omega arith in
    absurd (not-none c.substring.result c.in-None.is (c.substring.ensures.there.1 (rising, within)))
