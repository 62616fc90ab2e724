use Rattle.script_lines.proofs.Agreement.{forms_agree}
use Rattle.script_lines.proofs.laws.a_line_has_one_form.Goals as goal

pub returns : goal.returns
returns c = forms_agree c.a_text_is_one_question.ensures
