use Rattle.std.proofs.Common.{◌≡◌, ◌++◌, chars, codes, flat_map, string_bytes, sym, subst, ◌∙◌}
use Rattle.std.proofs.lemmas.Iterator.{YieldsList-from_chars}
use Rattle.std.proofs.lemmas.Iterator.Consumers.{YieldsList-end}
use Rattle.std.proofs.lemmas.List.{map-id}
use Rattle.text_forms.specs.Forms.{Adds, escaped, written}
use Rattle.text_forms.proofs.Adding.{adds-both, adds-one_more}
use Rattle.text_forms.proofs.add_quoted.Goals as goal

pub loop-c-preserved : goal.loop-c-preserved
loop-c-preserved c =
    adds-one_more escaped c.loop-c.yielded c.in-Some.c _ _ _ c.loop-c.invariant c.in_ok-add_escaped.ensures

pub returns : goal.returns
returns c =
    let text = c.args.text.now in
    let t = YieldsList-end (YieldsList-from_chars text c.utf8.text cc) c.loop-c.yielded _ c.loop-c.yielded_by _ _ c.in-None.is c.next.ensures.steps in
    let all : c.loop-c.yielded ≡ chars text = sym (map-id c.loop-c.yielded) ∙ t.0 in
    let old = written c.args.out.now in
    let opened = written c.add_word.new.out in
    let inside = written c.loop-c.out in
    let new = written c.add_word-2.new.out in
    let middle = flat_map escaped (chars text) in
    adds-both old opened new (codes "\"") (middle ++ codes "\"") c.in_ok-add_word.ensures
    (adds-both opened inside new middle (codes "\"") (subst (λ cs. Adds opened (flat_map escaped cs) inside) all c.loop-c.invariant) c.in_ok-add_word-2.ensures)
