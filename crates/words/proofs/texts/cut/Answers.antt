use Rattle.std.proofs.Common.{◌∙◌, sym}
use Rattle.words.proofs.texts.cut.Goals as goal
use Rattle.words.proofs.Cuts.{pieces-some, pieces-none}

pub returns-in-Some : goal.returns-in-Some
returns-in-Some c = pieces-some c.args.separator c.args.text.now c.in-Some.place (sym c.first_place.ensures ∙ c.in-Some.is)

pub returns-in-None : goal.returns-in-None
returns-in-None c = pieces-none c.args.separator c.args.text.now (sym c.first_place.ensures ∙ c.in-None.is)
