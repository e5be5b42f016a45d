use Rattle.std.proofs.Common.{OnOk, subst, sym, ◌∙◌}
use Rattle.pair_texts.proofs.Named.{adds-home, is-named}
use Rattle.text_forms.specs.Forms.{Adds, written}
use Rattle.pair_texts.proofs.names.add_module.Goals as goal

pub returns-then-is_empty : goal.returns-then-is_empty
returns-then-is_empty c = adds-home c.as_str.result.now c.args.name.now (written c.args.out.now) c.as_str.ensures.value (sym c.is_empty.ensures ∙ c.if-is_empty.true)

pub returns : goal.returns
returns c =
    subst (λ t. OnOk c.add_named.result (Adds (written c.args.out.now) t (written c.add_named.new.out)))
    (is-named c.as_str.result.now c.args.name.now c.as_str.utf8 c.as_str.ensures.value (sym c.is_empty.ensures ∙ c.if-is_empty.false)) c.add_named.ensures
