use Rattle.std.specs.Cmp.Lexicographic.{bytes_decides}
use Rattle.std.proofs.lemmas.Bool.Decides.{same_from_decides}
use Rattle.type_model.specs.Places.{is_same_text}
use Rattle.name_resolution.specs.MainForm.{main_name}
use Rattle.name_resolution.proofs.main_form.is_main.Goals as goal

pub returns : goal.returns
returns c = same_from_decides c.is_word.result (is_same_text c.args.name.now main_name) c.is_word.ensures (bytes_decides c.args.name.now main_name)
